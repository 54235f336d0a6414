pub mod Stated
pub mod Row
pub mod Packets
pub mod Serial
pub mod Parts
pub mod Runs
pub mod Summary
