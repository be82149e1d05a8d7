-- Things up to a mark that a tree keeps as they are read, and the block of a function.
use Rattle.std.proofs.Common.{ℕ, List, [], ◌∷◌, map, Some, codes, ◌≡◌, refl, sym, ap, subst}
use Rattle.c_tree.specs.declared.statement.Part.{Part}
use Rattle.c_tree.specs.Statement.{Body, body}
use Rattle.c_tree.proofs.StatementLaws.{block_is}
use Rattle.readings.specs.Symbol.{Symbol}
use Rattle.readings.specs.Reading.{Found, behind}
use Rattle.readings.specs.Readings.{Reading, ◌>>>◌, sign}
use Rattle.readings.specs.Seen.{Comes}
use Rattle.readings.proofs.Saying.{both}
use Rattle.c_grammar.specs.Until.{until}
use Rattle.c_grammar.specs.ReadingStatements.{block_body}
use Rattle.c_grammar.specs.Programs.{block_room}
use Rattle.c_read.specs.Seen.{braces_of}
use Rattle.c_statement.proofs.Gathering.{Gathers, gathers_end}

unchanged : {A : Type 0} (xs : List A) → map (λ x. x) xs ≡ xs
unchanged [] = refl
unchanged (x ∷ xs) = ap (λ ys. x ∷ ys) (unchanged xs)

-- the mark is in front
pub gathered : {A : Type 0} (text : List ℕ) (reads : Reading A) (ss : List Symbol) (found : List A) (here : List Symbol) (at : ℕ) (rest : List Symbol)
    → Gathers text reads (λ x. x) ss found here → Some (at, rest) ≡ behind text here → Comes (until text reads) ss (Found (found, at) rest)
gathered text reads ss found here at rest g e =
    subst (λ xs. Comes (until text reads) ss (Found (xs, at) rest)) (unchanged found) (gathers_end text reads (λ x. x) ss found here at rest g e)

-- a block of its parts
braces_are : (p : ℕ) (ps : List Part) (q : ℕ) → braces_of (record { opening = p; parts = ps; closing = q }) ≡ (p, (body ps, q))
braces_are p ps q = ap (λ t. (t.0, (t.1, t.2))) (block_is (record { opening = p; parts = ps; closing = q }))

pub block_read : (ss : List Symbol) (p : ℕ) (s : List Symbol) (ps : List Part) (q : ℕ) (r : List Symbol) → Comes (sign (codes "{")) ss (Found p s)
    → Comes (block_body block_room) s (Found (body ps, q) r)
    → Comes (sign (codes "{") >>> block_body block_room) ss (Found (braces_of (record { opening = p; parts = ps; closing = q })) r)
block_read ss p s ps q r h k =
    subst (λ t. Comes {A = ℕ × (Body × ℕ)} (sign (codes "{") >>> block_body block_room) ss (Found t r)) (sym (braces_are p ps q))
    (both (sign (codes "{")) (block_body block_room) ss p s (body ps, q) r h k)
