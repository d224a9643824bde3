-- What contracts of private functions say: nobody has to believe it.
pub mod CommandLine
pub mod Fields
pub mod Files
pub mod Forms
pub mod Show
pub mod Written
