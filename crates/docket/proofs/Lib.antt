-- what a change of the book leaves as it was
pub mod Changes
-- what each change keeps
pub mod Kept
-- the law of all runs
pub mod Law
-- calls as events of a run
pub mod Calls
