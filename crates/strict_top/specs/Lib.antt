pub mod Words
pub mod Modules
pub mod Reports
pub mod Runs
pub mod EveryReport
pub mod Steps
pub mod Statuses
pub mod Deciding
