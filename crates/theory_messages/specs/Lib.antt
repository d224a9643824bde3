-- Worked examples: a run that meets the premises of the laws, and a small schedule in bytes.
pub mod Example
pub mod Meeting_example
