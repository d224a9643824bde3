-- A test, which has one history over which what a watch prints is proved to be that; its other functions have no contract.
pub mod inner
