-- decimals, digit by digit
pub mod Decimals
-- how decimals are read
pub mod Readings
-- the length of a line
pub mod Lengths
-- one piece of text after another
pub mod Pieces
-- the places of refusals
pub mod Places
-- from what the parts answer to the verdict
pub mod Marking
-- what the bytes of the sample model say
pub mod SampleBytes
-- the orders of the sample rows
pub mod SampleOrders
-- the model that they mean
pub mod SampleModel
-- what show answers to it
pub mod SampleShown
-- what refute answers to the sample tableaux
pub mod SampleRefuted
-- the sample book sealed, and a node that is offered to it
pub mod SampleBook
