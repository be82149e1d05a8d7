-- What `read` answers: the description that bytes spell, and its faults.
pub use Rattle.nml_grammar.specs.Trees.{IsTree, HasNoTree, IsFloat, IsReadFault}
