-- the number and the place of each fault
pub mod Faults
-- what the calls of an editable book answer
pub mod Answers
-- the tests of an offered record by flags alone
pub mod Offers
-- nodes with their marks
pub mod Marks
-- writing lists of records
pub mod Writing
-- what the records of a journal mean
pub mod Replay
-- lists of calls of a book
pub mod Calls
