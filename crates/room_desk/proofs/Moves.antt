-- What a move judges, and that it is a step.
pub mod FreePlaces
pub mod OnePath
pub mod MovingPlan
pub mod MovingWays
pub mod MovingFacts
pub mod MovingSteps
pub mod Relocated
