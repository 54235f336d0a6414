pub mod Dependencies
pub mod Locality
pub mod Ranks
pub mod Relations
