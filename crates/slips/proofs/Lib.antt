pub mod Fresh
pub mod Holding
pub mod Numbered
pub mod Passing
pub mod Walking
pub mod Writing
pub mod Found
pub mod Grown
