-- A statement and what stands behind `else` are read lawfully.
use Rattle.std.specs.Prelude.{codes}
use Rattle.c_tree.specs.Level.{ends_open}
use Rattle.c_tree.specs.Spell.{statement_spelling}
use Rattle.c_grammar.specs.Statements.{IsGoodStatement, IsStatementEnd}
use Rattle.c_grammar.proofs.Tailed.{tailed_law}
use Rattle.c_grammar.proofs.law.read_else.Goals as goal

pub returns : goal.returns
returns c = λ room reads l.
    tailed_law (codes "else") ends_open statement_spelling (IsGoodStatement room) reads statement_spelling (IsGoodStatement room) IsStatementEnd reads l l
