pub mod Among
pub mod Cases
pub mod ClapForm
pub mod ClapTold
pub mod Counts
pub mod Rows
pub mod Shapes
pub mod Checked
pub mod Names
pub mod Turns
mod Faults
mod ToldRows
mod Settled
pub mod Walk
