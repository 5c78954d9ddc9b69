-- the table of standings
pub mod Standings
-- calls with their arguments and answers
pub mod Events
-- the number and the place of each fault
pub mod Faults
-- what calls change
pub mod Changes
-- what calls answer
pub mod Answers
-- how calls change a docket, runs, and what a docket is in contracts
pub mod Runs
-- what a history determines
pub mod Histories
-- the law of all runs
pub mod Laws
-- which calls a history has
pub mod Plays
