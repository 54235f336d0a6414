pub mod Clap
pub mod Commands
pub mod Counts
pub mod Said
pub mod Words
