pub mod Drill
pub mod Law
pub mod Text
pub mod Transactions
pub mod Reports
pub mod Prints
