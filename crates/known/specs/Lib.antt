pub mod Known
pub mod Parts
pub mod ErrorTexts
