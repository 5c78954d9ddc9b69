-- the limits
pub mod Bounds
-- numbers in bytes
pub mod Bytes
-- the numbers of each record
pub mod Written
-- concepts, and the concept of each node
pub mod Concepts
-- what a book holds
pub mod Books
-- which books are lawful
pub mod Lawful
-- why an offered record is refused
pub mod Refusals
-- a refused length
pub mod Lengths
-- preferential models
pub mod Models
-- the models of a book
pub mod Satisfaction
-- models that no book distinguishes
pub mod Likeness
-- what is proved of books and models
pub mod Laws
-- places of a list
pub mod Places
-- branches of a tableau
pub mod Branches
-- the rules
pub mod Rules
-- closed tableaux, and their writing
pub mod Tableaux
-- how large a tableau may be
pub mod Limits
-- what a closed tableau shows
pub mod Soundness
-- the sample books
pub mod Samples
-- what is proved of the sample books
pub mod Examples
