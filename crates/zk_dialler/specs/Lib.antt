-- When and where the next attempt to connect is made: pauses, their longest by the failures so far, random numbers, orders of servers, and
-- which sessions move when there are other servers.
pub mod Backoffs
pub mod Chances
pub mod Dialling
pub mod Moves
pub mod Orders
pub mod Pauses
