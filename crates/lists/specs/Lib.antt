-- What a reader must believe of lists of calls; and Writers, for inner functions.
pub mod Lists
pub mod Writers
