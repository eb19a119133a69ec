-- The laws of reading a text line by line: how lines are judged from a cursor on, what each loop over them keeps, and the tables
-- that they fill.
pub mod Accessed
pub mod Answered
pub mod Ended
pub mod Entered
pub mod Gathered
pub mod Levels
pub mod ReadOn
pub mod Stages
pub mod Tables
