pub mod Told
pub mod LeadsTo
pub mod FromStep
pub mod OneStep
pub mod BetweenSteps
pub mod Only
