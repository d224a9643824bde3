-- Proofs of the rules: by a look back over a client's past, or by where a schedule of servers leads after a step.
pub mod Seen
pub mod Closed
pub mod States
pub mod Ticked
pub mod Numbered
pub mod Looking_back
pub mod Client
pub mod Spelled
pub mod Taking
pub mod Answering
pub mod Telling
pub mod Leading
pub mod Holding
pub mod Missed
pub mod Quiet
