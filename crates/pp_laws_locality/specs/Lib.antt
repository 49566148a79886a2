pub mod Restricted
pub mod Bookkeeping
pub mod Rejected
pub mod Locality
