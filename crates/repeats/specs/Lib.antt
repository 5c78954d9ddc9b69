-- a book that is partly copied
pub mod Copies
-- the outcomes of repeated judging
pub mod Outcomes
