mod Above
mod Adding
mod Named
mod Splits
