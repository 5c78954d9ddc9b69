-- masks that are gathered from a property
pub mod Gathering
-- the sets of concepts
pub mod ConceptSets
-- tables of bytes
pub mod ByteTables
-- masks of a model's elements
pub mod ModelMasks
-- the bytes of a model mean it
pub mod Encoding
-- the pairs of a model are its "better"
pub mod PairEncoding
-- bad fields, and how they are found
pub mod BadFields
