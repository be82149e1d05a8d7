use Rattle.std.proofs.Common.{refl}
use Rattle.c_tree.proofs.StatementLaws.{block_is}
use Rattle.c_shapes.proofs.functions.declared_of.Goals as goal

pub returns : goal.returns
returns c = rw (c.in_ok-variables.ensures, c.is_main-main.ensures, c.count_of-arity.ensures, c.gives_by-gives.ensures, c.ends_with_return-returns.ensures, c.as_slice.ensures, block_is) refl
