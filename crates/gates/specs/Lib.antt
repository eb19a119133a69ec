-- What a reader must believe of the gate report.
pub mod Gates
