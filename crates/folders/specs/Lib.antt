-- the files of a hand-in in a folder
pub mod Files
-- the verdict on a hand-in in a folder
pub mod HandIns
