pub mod Orders
pub mod Wraps
pub mod Cuts
pub mod Finite
pub mod Edges
pub mod Division
pub mod Ranges
pub mod Nans
