-- A contender: how its place is named, what it asks, what it hears, and what follows.
pub mod Namings
pub mod Leases
pub mod Places
pub mod Acls
pub mod Dues
pub mod Hearing
pub mod Settling
pub mod Standings
pub mod Contenders
pub mod Tickets
pub mod Collections
pub mod Nodes
pub mod Listings
pub mod Waiting
pub mod inner
