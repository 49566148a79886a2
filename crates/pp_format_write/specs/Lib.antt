pub mod Lines
pub mod Operations
pub mod Bodies
pub mod Steps
pub mod Headers
pub mod Statable
pub mod RunTexts
