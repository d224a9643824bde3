-- What a cache keeps of each text, what each call makes of that, and what a look-up sees.
pub mod Cache
pub mod Code
pub mod Contents
pub mod Kept
pub mod Look
pub mod Spelled
pub mod inner
