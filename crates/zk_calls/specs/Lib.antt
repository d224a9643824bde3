-- What becomes of the calls that wait in a line, by their order.
pub mod Lines
pub mod Orders
