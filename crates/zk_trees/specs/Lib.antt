-- Which nodes of trees are wanted, and which are let go; and what becomes of trees that are followed.
pub mod Orders
pub mod Trees
pub mod Tending
pub mod inner
