mod Wholes
mod Readings
mod NextSteps
mod Passes
