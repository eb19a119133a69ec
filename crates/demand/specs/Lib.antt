-- The calls that show a route, and what a desk hears.
pub mod Routes
pub mod Heard
