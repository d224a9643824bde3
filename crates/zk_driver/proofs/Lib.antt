-- Lemmas on a driver: its moves, deeds and calls one after the other; and that bytes come and go whole.
pub mod Going
pub mod Carrying
pub mod Asking
pub mod Breaking
pub mod Flowed
pub mod Running
pub mod Fronts
