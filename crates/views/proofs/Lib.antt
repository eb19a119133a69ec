-- The three conditions of secrecy, call by call, and the theorem's use in case 8.
pub mod Tests
pub mod Alike
pub mod Numbers
pub mod Calls
pub mod Steps
pub mod Unwinding
pub mod Case8
