-- What the contracts of functions that are no entries cite: a text from a cursor on.
pub mod Cursor
pub mod Stops
