pub mod Climbing
pub mod Growing
pub mod Typing
