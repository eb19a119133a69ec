-- What the contracts of functions that are no entries cite: a text from a cursor on, and how each kind of its lines ends.
pub mod ReadOn
pub mod Stages
