-- The store as a machine of secrecy, what each desk sees of it, and case 8.
pub mod Machine
pub mod Views
pub mod Case8
