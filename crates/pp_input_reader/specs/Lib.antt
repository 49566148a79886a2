pub mod Words
pub mod FaultTexts
pub mod Limits
pub mod Sources
pub mod Takers
