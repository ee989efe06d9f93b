pub mod Fits
pub mod HouseFits
pub mod Kept
pub mod Lines
