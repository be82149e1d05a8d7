mod Members
mod Greatest
mod Counted
pub mod RootRule
mod Pass
mod Written
mod Places
mod Targets
mod Own
mod Bests
