-- What holds of a client whose servers keep to the model at some paths only.
pub mod LocalSteps
pub mod LocalServed
pub mod LocalHeadline
