-- lists of one value
pub mod Replicated
-- masks by their operands
pub mod Operands
-- lists that are filled with masks
pub mod ShowFill
-- entries that fail
pub mod ShowEntries
-- from a view to what show answers
pub mod ShowView
-- each answer of show wherever it fits
pub mod ShowExact
-- tableaux in bytes
pub mod Encoding
-- the entries that steps name
pub mod Naming
-- the number and the place of a refusal of refute
pub mod Telling
-- the promise of refute
pub mod Answering
-- steps as the writing of a tree
pub mod Trees
-- a branch grows little in a step
pub mod Growing
-- what becomes of steps is determined
pub mod Fates
-- the first steps of bytes
pub mod Decoding
-- the end of the work
pub mod Halting
-- the work before and after a step
pub mod Standing
-- the faults of decisions
pub mod Sorting
-- decisions are the rules of the calculus
pub mod Agreeing
-- what the working lists show
pub mod Showing
-- the tests of a decision
pub mod Parting
-- lists in use and blanks
pub mod Listing
-- the marks that steps set
pub mod Marks
