-- how a book is written as bytes
pub mod Writing
-- how sealed bytes are read
pub mod Reading
-- the records of a frame
pub mod Frames
-- what a sealed book means
pub mod SealedBooks
-- the number and the place of each fault
pub mod Faults
-- what check and seal answer
pub mod Checks
-- what the steps of the check answer
pub mod Steps
