-- Which history logs tell.
pub mod Changes
pub mod Following
pub mod UntoldText
pub mod Made
pub mod Ended
pub mod Refused
pub mod Known
pub mod KnownIsTrue
pub mod inner
