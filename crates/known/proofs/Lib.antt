mod Filling
mod Flawless
