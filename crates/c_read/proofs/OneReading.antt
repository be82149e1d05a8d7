-- That bytes have one program or one fault, as the grammar says it.
pub use Rattle.c_grammar.proofs.OneReading.{one_bytes, tree_or_none, tree_or_outside, none_or_outside, one_place, one_outside}
pub use Rattle.c_grammar.proofs.SomeReading.{some_bytes}
