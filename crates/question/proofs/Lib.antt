pub mod Asking
pub mod Calls
