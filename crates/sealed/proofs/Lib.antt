-- bytes and numbers
pub mod Numbers
-- one record, written and read
pub mod Records
-- the records from an offset on
pub mod Rows
-- the records of a frame
pub mod Framing
-- bytes that pass are a sealed book
pub mod Passing
-- a sealed book passes and reads back
pub mod Sealing
-- the steps of the check
pub mod Checking
-- what is opened
pub mod Opening
-- writing one record after the other
pub mod Writings
