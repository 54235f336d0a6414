pub mod MakesFew
pub mod Ranges
pub mod Row
pub mod Formed
pub mod Placed
pub mod Counted
pub mod Summed
