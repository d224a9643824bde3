-- What several commands print of one thing: which text may be shown as it is, and the members of an object of JSON.
pub mod Texts
pub mod Objects
