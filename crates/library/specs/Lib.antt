pub mod Signatures
pub mod Members
pub mod Contents
pub mod Environments
pub mod Counting
pub mod Questions
pub mod Natures
