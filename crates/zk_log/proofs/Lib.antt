-- The lemmas that the proofs share: an entry is read as it is spelled; entries are read one after another, after a header; what is read so
-- is spelled so, and what is spelled so is read; a part of a multi is an operation.
pub mod EntryLaws
pub mod Entries
pub mod HeaderLaws
pub mod LogLaws
pub mod LogAgain
pub mod PartLaws
pub mod FieldFaults
pub mod CrcLaws
pub mod DigestLaws
pub mod TreeLaws
pub mod FollowLaws
