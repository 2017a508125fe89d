pub mod FixedVecs
