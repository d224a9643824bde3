-- What a script makes of a client over a real connection: what goes through it byte by byte, and what is printed of that.
pub mod Addresses
pub mod LiveLines
pub mod Begins
pub mod Heard
pub mod Lives
pub mod Frames
pub mod Trails
pub mod Exchanged
pub mod Flowing
pub mod Printed
pub mod inner
