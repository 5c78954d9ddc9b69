-- the number and the place of each fault of show
pub mod ShowFaults
-- what the working list of show holds
pub mod NodeSets
-- what show answers
pub mod ShowAnswers
-- the number and the place of each fault of refute
pub mod Faults
-- lists of records that have a blank
pub mod Lists
-- the working lists: blanks and lengths
pub mod Blanks
-- steps in bytes
pub mod Steps
-- ops, and what they name
pub mod Ops
-- sets of entries
pub mod Members
-- what a step does, computed
pub mod StepEffects
-- a tableau while it is checked
pub mod Progress
-- the steps that are taken, and what each does
pub mod Traces
-- what the working lists hold
pub mod WorkingLists
-- why a tableau is refused
pub mod Reasons
-- steps in the working lists
pub mod Taking
-- what refuting answers
pub mod Refutations
-- what is proved of the promises
pub mod Laws
