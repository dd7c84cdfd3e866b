mod Cutting
mod Headers
mod Laying
mod Rows
mod Served
mod Statuses
pub mod Staying
mod Valued
