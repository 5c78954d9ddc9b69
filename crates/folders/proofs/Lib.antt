-- what was read of a folder, and the files that it has
pub mod Reading
