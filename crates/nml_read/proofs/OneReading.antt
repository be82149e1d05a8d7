-- That bytes have one description or one fault, as the grammar says it.
pub use Rattle.nml_grammar.proofs.OneReading.{one_description, tree_or_none, one_place}
pub use Rattle.nml_grammar.proofs.SomeReading.{some_tree, some_float}
