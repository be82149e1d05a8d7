-- Reading simple statements from the front of a list of symbols: assignments, steps by one and calls.
use Rattle.std.specs.Prelude.{ℕ, zero, suc, ◌-◌, ◌≤◌, List, [], ◌∷◌, Some, None, codes}
use Rattle.c_tree.specs.declared.names.Name.{Name}
use Rattle.c_tree.specs.declared.statement.AssignMark.{AssignMark}
use Rattle.c_tree.specs.declared.statement.AssignMark.TheVariants as store
use Rattle.c_tree.specs.declared.statement.StepMark.{StepMark}
use Rattle.c_tree.specs.declared.statement.StepMark.TheVariants as change
use Rattle.readings.specs.Symbol.{Symbol}
use Rattle.readings.specs.Reading.{read_on}
use Rattle.readings.specs.Readings.{Reading, ◌>>>◌, made, given, sign, worded}
use Rattle.c_tree.specs.Formula.{Formula}
use Rattle.c_tree.specs.Statement.{Index, Act, Assign, Step, Invoke}
use Rattle.c_tree.specs.Level.{IsLeveledAct}
use Rattle.c_tree.specs.Depth.{act_depth}
use Rattle.c_grammar.specs.Reading.{IsEnd}
use Rattle.c_grammar.specs.Words.{name}
use Rattle.c_grammar.specs.Declarations.{expression}
use Rattle.c_grammar.specs.Calls.{called_within}
use Rattle.c_grammar.specs.Statements.{IsWritten}

-- ---- what is done to a target

-- a value is stored, or it changes by one
pub data Deed : Type 0 where
  Stores : AssignMark → Formula → Deed
  Changes : StepMark → Deed

-- the statement of a target and what is done to it
abbrev pub done_to : Name → Index → Deed → Act
done_to x i (Stores s e) = Assign x i s e
done_to x i (Changes c) = Step x i c

-- the marks of both kinds
pub data DeedMark : Type 0 where
  Storing : (ℕ → AssignMark) → DeedMark
  Changing : (ℕ → StepMark) → DeedMark

-- each by its text
abbrev pub deed_marks : List (List ℕ × DeedMark)
deed_marks =
    (codes "=", Storing store.Set) ∷ (codes "+=", Storing store.Add) ∷ (codes "-=", Storing store.Sub)
    ∷ (codes "++", Changing change.Up) ∷ (codes "--", Changing change.Down) ∷ []

-- what stands behind each; an expression is of at most this depth
abbrev pub behind_deed : ℕ → DeedMark → ℕ → Reading Deed
behind_deed room (Storing s) at = made (λ e. Stores (s at) e) (expression room)
behind_deed room (Changing c) at = given (Changes (c at))

-- `= e`, `++` and the like
abbrev pub deed : ℕ → Reading Deed
deed room = worded deed_marks (behind_deed room)

-- ---- simple statements

-- what stands behind a name
pub data ActMark : Type 0 where
  Calling : ActMark
  Indexing : ActMark
  Doing : DeedMark → ActMark

-- The marks for which there is room with so many nodes below the statement: a call alone has none, a target is one, and an index is one below its
-- target.
abbrev pub act_marks : ℕ → List (List ℕ × ActMark)
act_marks zero = (codes "(", Calling) ∷ []
act_marks (suc zero) =
    (codes "(", Calling) ∷ (codes "=", Doing (Storing store.Set)) ∷ (codes "+=", Doing (Storing store.Add)) ∷ (codes "-=", Doing (Storing store.Sub))
    ∷ (codes "++", Doing (Changing change.Up)) ∷ (codes "--", Doing (Changing change.Down)) ∷ []
act_marks (suc (suc room)) =
    (codes "(", Calling) ∷ (codes "[", Indexing) ∷ (codes "=", Doing (Storing store.Set)) ∷ (codes "+=", Doing (Storing store.Add))
    ∷ (codes "-=", Doing (Storing store.Sub)) ∷ (codes "++", Doing (Changing change.Up)) ∷ (codes "--", Doing (Changing change.Down)) ∷ []

-- what stands behind each
abbrev pub behind_mark : ℕ → Name → ActMark → ℕ → Reading Act
behind_mark room x Calling p = made (λ y. Invoke y) (called_within room x p)
behind_mark room x Indexing p = made (λ (i, (q, d)). done_to x (Some (p, i, q)) d) (expression (room - 1) >>> (sign (codes "]") >>> deed room))
behind_mark room x (Doing m) at = made (λ d. done_to x None d) (behind_deed room m at)

-- what stands behind the name of a simple statement, which has at most so many nodes below it
abbrev pub act_behind : ℕ → Name → Reading Act
act_behind room x = worded (act_marks room) (behind_mark room x)

-- a simple statement with at most so many nodes below it
abbrev pub act_read : ℕ → Reading Act
act_read room n ss = read_on (name n ss) (λ x s. act_behind room x n s)

-- ---- which may be read, and where they end

-- a simple statement with at most so many nodes below it
pub record IsGoodAct (room : ℕ) (a : Act) : Type 0 where
  pub written : IsWritten a
  pub leveled : IsLeveledAct a
  pub shallow : act_depth a ≤ suc room

-- what would make its expression longer isn't next
abbrev pub IsActEnd : Act → List Symbol → Type 0
IsActEnd (Assign x i s e) r = IsEnd 0 e r
IsActEnd (Step x i c) r = Unit {0}
IsActEnd (Invoke y) r = Unit {0}
