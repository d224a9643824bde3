-- The laws of `zk_laws` at some paths: the same invariant, kept only there; what servers tell of other paths changes
-- nothing ahead of these.
pub mod Elsewhere
pub mod Kept_at
pub mod Local_at
pub mod Moving_at
pub mod Headlines_at
pub mod Asking_later
pub mod Following
pub mod Everywhere
