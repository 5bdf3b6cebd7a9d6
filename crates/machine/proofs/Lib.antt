pub mod Serving
pub mod Replaying
