pub mod Layers
pub mod Bounds
pub mod BoundLaw
