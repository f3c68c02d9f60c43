-- What Settle's code decides: definitions that no entry point cites.
pub mod SettlePlan
