-- Lemmas on the definitions of `zk_turns` themselves: after each happening the view is what a look back gives; counts,
-- lists and reports follow by induction on what happened.
mod Rows
pub mod Words
pub mod Cases
pub mod Lists
pub mod Registered
pub mod Cached
pub mod Happened
pub mod Arriving
pub mod Stepped
pub mod Pieces
pub mod Marks
pub mod Over
pub mod Tickets
pub mod Stream
pub mod Sending
pub mod Counting
pub mod Reporting
pub mod Placed
pub mod Meant
pub mod Refusing
pub mod Ending
pub mod Spelt
pub mod Fields
pub mod Fitting
pub mod Ranged
pub mod Requested
pub mod Fed
pub mod Marked
pub mod Frames_sent
