pub mod LayerLaw
pub mod Scans
pub mod Stacks
pub mod StackLaws
