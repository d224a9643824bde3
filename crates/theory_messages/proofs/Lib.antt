-- The examples meet the premises: what they lead to is computed.
pub mod Shown
pub mod Meeting_shown
