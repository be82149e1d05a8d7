-- The terminal symbols of the grammar of descriptions: those of every language that is read here. `opn` is the same symbol as `op`.
pub use Rattle.readings.specs.Symbol.{Symbol, Fixed, Named, Number, Quoted, fixed}
