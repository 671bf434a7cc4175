pub mod Signed
pub mod Orders
pub mod Climbs
pub mod Kept
pub mod Types
pub mod Answered
pub mod Untouched
pub mod Growing
