-- What a registry of watches holds: its lists in the order of registration, what each call makes of them, and the parts in
-- which they are sent.
pub mod FaultText
pub mod Lent
pub mod Lists
pub mod Numbered
pub mod Parts
pub mod inner
