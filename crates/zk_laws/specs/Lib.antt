-- The model of servers, what passes between them and a client, and what holds of a client that they serve.
pub mod Server
pub mod Messages
pub mod ServerSteps
pub mod Laws
pub mod Served
pub mod Parsed
pub mod Headline
