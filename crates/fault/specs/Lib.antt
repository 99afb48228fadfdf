pub mod Reports
pub mod Firsts
pub mod Renumbered
