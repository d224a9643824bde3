-- What the commands that ask for a node or a tree print, and what they hear of a driver.
pub mod Asking
pub mod Printing
pub mod Trees
pub mod inner
