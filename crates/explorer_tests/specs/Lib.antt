pub mod Counters
pub mod CountersLaw
pub mod Wides
pub mod Held
