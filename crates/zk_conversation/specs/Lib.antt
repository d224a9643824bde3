-- What is asked and answered on a connection: calls with their requests, what is pending in the order of asking, and how a
-- payload is read by it.
pub mod Calls
pub mod Questions
pub mod Results
pub mod Pending
pub mod Arriving
pub mod Views
pub mod Counted
pub mod Lent
pub mod Arrives
pub mod FaultText
pub mod Laws
pub mod inner
