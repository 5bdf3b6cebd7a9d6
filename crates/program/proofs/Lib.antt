mod Deeper
mod Firsts
mod Flawless
mod Words
