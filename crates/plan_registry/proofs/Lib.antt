mod Fronts
mod Plans
mod Steps
mod Attached
