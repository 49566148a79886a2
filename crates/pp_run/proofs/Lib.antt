pub mod Printing
pub mod Sending
pub mod Numbers
pub mod Performing
pub mod Promises
pub mod Focused
pub mod Promising
pub mod Endings
