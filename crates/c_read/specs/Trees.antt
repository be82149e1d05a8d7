-- What `read` answers: the program that bytes spell, and its faults.
pub use Rattle.c_grammar.specs.Trees.{IsTree, HasNoTree, IsOutsideAt, IsReadFault}
