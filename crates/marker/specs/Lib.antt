-- what a folder that is not marked leaves with the writer
pub mod Failures
