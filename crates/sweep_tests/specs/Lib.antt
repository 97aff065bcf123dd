-- Opening says what new passes and seats are, and DispatcherParty how a test holds the dispatcher.
-- Tests alone use them.
pub mod DispatcherParty
pub mod Opening
