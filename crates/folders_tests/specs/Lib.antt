-- the files of a folder in memory
pub mod Memory
