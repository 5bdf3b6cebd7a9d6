pub mod Kinds
pub mod Bytes
pub mod Lines
pub mod Rules
pub mod Meaning
pub mod Law
pub mod Choice
pub mod Search
