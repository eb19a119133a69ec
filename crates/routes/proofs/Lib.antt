-- The laws of the route report: of its refusals and answers, of the list at the front of a room, of demand 3, and of a list as far as it is written.
pub mod Reports
pub mod Fronts
pub mod Demands
pub mod Reached
pub mod Written
pub mod Puts
