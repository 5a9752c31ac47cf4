pub mod Ledger
pub mod Premises
