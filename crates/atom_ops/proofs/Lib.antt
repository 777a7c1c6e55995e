pub mod Division
pub mod OneQuotient
pub mod Results
pub mod Cells
pub mod SeenRows
pub mod Shared
pub mod Places
mod Examples
