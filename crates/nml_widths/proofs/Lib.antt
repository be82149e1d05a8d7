pub mod Holds
pub mod Fits
pub mod ModeFits
pub mod Settled
pub mod ActFits
pub mod WidthLaws
