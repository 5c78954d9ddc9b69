-- what a call writes into its caller's buffer
pub mod Buffers
-- a verdict as numbers
pub mod Outcomes
