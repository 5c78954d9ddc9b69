-- a record is granted exactly when it fits
pub mod Exact
-- a book after a change, by its two lists
pub mod Changes
-- lists of records
pub mod Appending
-- the records of a journal
pub mod Replays
-- what a journal keeps over its calls
pub mod Keeping
