pub mod Faults
pub mod PassOne
pub mod Members
pub mod PassTwo
pub mod Settled
pub mod Ready
pub mod Sites
pub mod Passes
