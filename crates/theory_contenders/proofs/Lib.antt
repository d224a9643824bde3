-- Why numbers rise, and why a program has the token while its look-up says so; and that two programs meet the premises.
pub mod Digits
pub mod Coming
pub mod Counting
pub mod Having
pub mod Line_history
pub mod Line_shown
pub mod Line_concluded
