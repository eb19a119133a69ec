-- The laws of the list that shows a route, and demand 3.
pub mod Routes
pub mod Goes
pub mod Stages
pub mod Shown
pub mod Unheard
pub mod Exactly
