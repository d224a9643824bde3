-- How an agent comes along, move by move: what becomes of calls and of trees, what it tells a program, what waits for an answer, and since
-- when.
pub mod Agents
pub mod Calls
pub mod Credentials
pub mod Overlong
pub mod Renewal
pub mod Replies
pub mod Telling
pub mod Trees
pub mod Waits
pub mod inner
