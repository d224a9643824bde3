-- What a handle of the C interface owns and holds, what it tells, and its whole life, call by call.
pub mod Contending
pub mod Followed
pub mod Held
pub mod Kept
pub mod Lives
pub mod Pasts
pub mod Stood
pub mod inner
