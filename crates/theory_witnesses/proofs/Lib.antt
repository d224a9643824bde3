-- The examples meet the premises that they are witnesses of: what they lead to is computed.
pub mod Meets
pub mod Lined
pub mod Apart
pub mod Departure_shown
