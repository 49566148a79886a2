pub mod Reports
pub mod Decisions
pub mod Costs
pub mod Taking
pub mod Conclusions
pub mod Laws
pub mod DeciderLaws
