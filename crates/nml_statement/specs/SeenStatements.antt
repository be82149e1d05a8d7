-- What a statement begins with, without where its symbol lies in memory, and parts of statements. Private: contracts of the reader's functions cite it.
use Rattle.std.specs.Prelude.{ℕ, ◌-◌, Option, codes}
use Rattle.nml_tree.specs.Formula.{Formula}
use Rattle.nml_tree.specs.Block.{Block}
use Rattle.readings.specs.Reading.{with_room}
use Rattle.readings.specs.Readings.{Reading, ◌>>>◌, sign, optional}
use Rattle.nml_grammar.specs.ReadingStatements.{Start, Naming, Halting, Branching}
use Rattle.nml_statement.specs.Seen.{block_of, expression_of}
use Rattle.nml_statement.specs.declared.start.Start.{Start as Lent}
use Rattle.nml_statement.specs.declared.start.Start.TheVariants as lent

-- what begins it, and its place
abbrev pub start_seen : Lent → Start
start_seen (lent.Naming at text) = Naming (record { at = at; text = text.now })
start_seen (lent.Halting at) = Halting at
start_seen (lent.Branching at) = Branching at

-- `= e ;`: the places of its two marks, and the expression
abbrev pub equals : ℕ → Reading (ℕ × (Formula × ℕ))
equals room n ss = with_room room ss ((sign (codes "=") >>> (expression_of (room - 1) >>> sign (codes ";"))) n ss)

-- `endif ;`
abbrev pub ending : Reading (ℕ × ℕ)
ending = sign (codes "endif") >>> sign (codes ";")

-- `stmts endif ;`, or with `else stmts` before `endif`, of statements that are at most so deep
abbrev pub branches : ℕ → Reading (Block × (Option (ℕ × Block) × (ℕ × ℕ)))
branches room = block_of room >>> (optional (codes "else") (block_of room) >>> ending)
