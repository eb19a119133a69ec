-- The laws of a text from a cursor on: of its first field and its first line, of a line read part by part, and of the bytes that a
-- cursor has gone over.
pub mod Begun
pub mod Composed
pub mod Firsts
pub mod Levels
pub mod Scanned
