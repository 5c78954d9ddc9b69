-- the line of a verdict
pub mod Lines
-- what line answers
pub mod Answers
-- theorems about the lines
pub mod Laws
-- the number and the place of each fault of a hand-in
pub mod MarkFaults
-- the verdict on a hand-in
pub mod Marks
-- the sample rows
pub mod Rows
