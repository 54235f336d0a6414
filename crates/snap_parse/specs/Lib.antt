pub mod Tree
pub mod Grammar
pub mod Kinds
pub mod Machine
pub mod Reading
pub mod Parsing
pub mod Laws
