pub mod Appends
pub mod Telling
pub mod Viewed
