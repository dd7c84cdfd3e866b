mod Passes
mod Firsts
mod Given
mod Ends
mod Asking
