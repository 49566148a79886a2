pub mod Prefixes
pub mod RealTime
pub mod Lines
pub mod Timely
pub mod Breakable
pub mod Reported
