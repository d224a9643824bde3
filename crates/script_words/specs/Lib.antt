-- The words and lines of scripts and of what the commands print, as functions of the values that they mean, and how a
-- whole script goes.
pub mod Words
pub mod Lines
pub mod Pieces
pub mod Numbers
pub mod Texts
pub mod ScriptFaults
pub mod Reads
pub mod Values
pub mod Said
pub mod Stops
pub mod Scripts
pub mod inner
