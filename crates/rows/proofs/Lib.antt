pub mod Cuts
pub mod Found
