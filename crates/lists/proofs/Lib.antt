-- The laws of lists: of a list as a whole, of calls and answers as numbers, of numbers read some at a time, and of a run as far as it has come.
pub mod Chunks
pub mod Lists
pub mod Numbers
pub mod Quads
pub mod Runs
