pub mod TextsLocal
pub mod TextsRejected
