-- What contracts of private functions say: nobody has to believe it.
pub mod ReplyLaws
pub mod ResponseLaws
