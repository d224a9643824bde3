-- The lemma on requests that the proofs share: what is spelled is read back, the header first and then the record of its operation.
pub mod Asking
