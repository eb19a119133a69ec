-- What a reader must believe of the output of the program `sheets`; and Writers, for inner functions.
pub mod Outputs
pub mod Writers
