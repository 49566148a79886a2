mod Tidy
mod Knowing
mod Subjects
mod Focusing
mod Concluding
pub mod Outputs
mod Acts
mod Readings
mod HeaderBack
mod HeaderMoved
pub mod Again
mod RawLines
mod OtherFaults
mod LineEnds
pub mod TextAgain
