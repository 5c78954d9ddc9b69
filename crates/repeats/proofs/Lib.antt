-- a copy grows as the book goes on
pub mod Copying
