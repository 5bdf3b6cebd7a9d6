pub mod System
pub mod Numbers
pub mod Texts
pub mod Calls
pub mod Runs
pub mod Replays
