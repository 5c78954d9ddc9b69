-- interpretations, and their bytes
pub mod Interpretations
-- which fields of an interpretation are good
pub mod Fields
-- interpretations by tables
pub mod Tables
-- what a view holds
pub mod Views
-- the model that an interpretation and an order mean
pub mod Meanings
-- the elements in a concept, as masks
pub mod Extensions
-- masks computed from masks, for every list
pub mod NodeMasks
-- the number and the place of each fault
pub mod Faults
-- what reading an interpretation answers
pub mod Answers
-- models in bytes
pub mod Encodings
-- the sample model
pub mod Samples
