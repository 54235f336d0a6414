pub mod Lexemes
pub mod Scanning
pub mod Laws
