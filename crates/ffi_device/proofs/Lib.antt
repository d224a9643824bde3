-- Lemmas on a device: texts that follow one another are told apart and read back, a refusal leaves it as it was, a reply and each action
-- are told whole, it begins as its client does, and a step is its agent's.
pub mod Beginning
pub mod Chains
pub mod OwnCalls
pub mod Nobody
pub mod Deadlines
pub mod Parents
pub mod ReadTexts
pub mod Refusing
pub mod Replies
pub mod Spelled
pub mod Told
