-- results of which the error is made into another one
pub mod Mapping
-- the concepts of a list of nodes
pub mod Reading
-- what keeps a book lawful
pub mod Lawfulness
-- lawfulness is decided
pub mod Deciding
-- a record is granted exactly when it fits
pub mod Refusing
-- membership in a concept is decided
pub mod Membership
-- minimal elements
pub mod Minimal
-- the entries that steps name
pub mod Naming
-- the entries that a closed tableau names are live
pub mod NamedLive
-- longer lists fit too
pub mod Fitting
-- branches that are true of a model
pub mod Meeting
-- the calculus is sound
pub mod Soundness
-- the sample books
pub mod Examples
-- models that are alike satisfy the same books
pub mod Likeness
