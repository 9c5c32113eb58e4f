pub mod Laying
pub mod Records
pub mod Fetches
pub mod Back
