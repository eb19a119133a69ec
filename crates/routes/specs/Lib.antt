-- What a reader must believe of the route report; and Writers, for inner functions.
pub mod Reports
pub mod Demand3
pub mod Writers
