pub mod Logs
pub mod ClassTypes
pub mod Steps
pub mod Arguments
pub mod Deep
pub mod Evaluating
pub mod SettlesExpressions
