pub mod Views
pub mod Settings
pub mod Expressions
pub mod Settled
pub mod Checked
pub mod OneReady
pub mod Checking
