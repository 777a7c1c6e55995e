pub mod Beside
mod Programs
mod Ends
mod ExamplesOfStatements
mod ExamplesOfFunctions
mod ExamplesOfClasses
mod ExamplesOfExceptions
mod ExamplesOfModes
mod ExamplesOfFuel
mod ExamplesOfBodies
mod ExamplesOfKinds
mod ExamplesOfLooks
mod ExamplesOfCosts
mod ExamplesOfStanding
pub mod Steps
pub mod StepsOfOperators
pub mod StepsOfTexts
pub mod StepsOfNames
pub mod StepsOfLoops
pub mod StepsOfMethods
pub mod StepsOfBuiltins
pub mod StepsOfCalls
pub mod StepsOfExpressions
pub mod StepsOfTargets
pub mod StepsOfStatements
pub mod Keeps
pub mod RunLaws
pub mod FuelFalls
pub mod Budgets
pub mod Pieces
pub mod HostSlots
