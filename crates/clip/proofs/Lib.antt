pub mod Steps
pub mod Nights
