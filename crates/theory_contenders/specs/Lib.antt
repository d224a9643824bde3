-- Names that sequential creates make, programs that contend by them, what follows, and two programs that meet the premises.
pub mod Sequences
pub mod Programs
pub mod Line_example
