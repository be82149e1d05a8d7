-- Statements are read from their spelling, whatever stands behind them that begins none.
use Rattle.std.proofs.Common.{◌≡◌, ℕ, suc, ◌+◌, ◌-◌, ◌<◌, ◌≤◌, List, [], ◌∷◌, ◌++◌, Some, None, refl, ap, sym, ◌∙◌, arith}
use Rattle.std.specs.Prelude.{codes}
use Rattle.nml_tree.specs.declared.names.Name.{Name}
use Rattle.readings.specs.Symbol.{Symbol}
use Rattle.nml_tree.specs.Formula.{Formula}
use Rattle.nml_tree.specs.Block.{Block, Index, Done, Assign, Part, Halt, If, IfElse}
use Rattle.nml_tree.specs.Spell.{formula_spelling, block_spelling}
use Rattle.nml_tree.specs.Level.{IsLeveled, IsLeveledBlock}
use Rattle.nml_tree.specs.Depth.{depth, block_depth}
use Rattle.readings.specs.Reading.{Read, Found, read_on, behind, mark}
use Rattle.nml_grammar.specs.Reading.{climb, HasNoOperator}
use Rattle.nml_grammar.specs.ReadingStatements.{Start, Naming, Halting, Branching, start, BeginsNone, assignment, branch_end, statement, block_from, statements}
use Rattle.readings.proofs.Keeps.{kept_found}
use Rattle.nml_grammar.proofs.Flat.{one_node}
use Rattle.nml_grammar.proofs.Complete.{lift_climb, complete}
use Rattle.readings.proofs.After.{on, room_is}
use Rattle.nml_grammar.proofs.KeepsStatements.{statements_more}
use Rattle.nml_grammar.proofs.FlatStatements.{flat-Assign, flat-Assign_at, flat-Halt, flat-If, flat-IfElse}
use Rattle.nml_grammar.proofs.Complete as expression

-- they are read as they stand
abbrev pub WholeBlock : Block → Type 0
WholeBlock b = (room : ℕ) (s : List Symbol) → IsLeveledBlock b → block_depth b ≤ room → BeginsNone s → (m : ℕ) × (statements m room (block_spelling b ++ s) ≡ Found b s)

-- more calls
lift : (m n room : ℕ) (ss : List Symbol) (b : Block) (s : List Symbol) → m ≤ n → statements m room ss ≡ Found b s → statements n room ss ≡ Found b s
lift m n room ss b s le e = kept_found (statements m room ss) (statements n room ss) b s (statements_more m n room ss le) e

-- some calls are enough, and so are more
abbrev Enough : {A : Type 0} → (ℕ → Read A) → A → List Symbol → Type 0
Enough f x s = (m : ℕ) × ((n : ℕ) → m ≤ n → f n ≡ Found x s)

-- an expression is read with one node less, before a mark
read_part : (x : Formula) (room : ℕ) (s : List Symbol) → IsLeveled x → depth x < room → HasNoOperator 0 s → behind (codes "[") s ≡ None → Enough (λ n. climb n 0 (room - 1) (formula_spelling x ++ s)) x s
read_part x room s leveled lt stops no_index =
    let a = expression.part x (complete x) room s leveled lt stops no_index in
    (a.0, λ n le. lift_climb a.0 n 0 (room - 1) (formula_spelling x ++ s) x s le a.1)

-- statements are
read_block : (b : Block) → WholeBlock b → (room : ℕ) (s : List Symbol) → IsLeveledBlock b → block_depth b ≤ room → BeginsNone s → Enough (λ n. statements n room (block_spelling b ++ s)) b s
read_block b whole room s leveled deep none =
    let a = whole room s leveled deep none in
    (a.0, λ n le. lift a.0 n room (block_spelling b ++ s) b s le a.1)

-- a statement in front, and the block behind it
put_before : (n room : ℕ) (here ss : List Symbol) (x : Start) (put : Block → Block) (rest : Block) (s : List Symbol) → start here ≡ Some (x, ss) → statement (climb n) (statements n) room here x ss ≡ Found put (block_spelling rest ++ s)
    → statements n room (block_spelling rest ++ s) ≡ Found rest s → statements (suc n) room here ≡ Found (put rest) s
put_before n room here ss x put rest s is e f =
    ap (block_from (climb n) (statements n) room here) is
    ∙ on (statement (climb n) (statements n) room here x ss) put (block_spelling rest ++ s) (λ put s. read_on (statements n room s) (λ b r. Found (put b) r)) (Found (put rest) s) e
    (on (statements n room (block_spelling rest ++ s)) rest s (λ b r. Found (put b) r) (Found (put rest) s) f refl)

-- ---- each kind of statement

-- none
whole-Done : WholeBlock Done
whole-Done room s leveled deep none = (1, ap (block_from (climb 0) (statements 0) room s) none)

-- `= e ;` behind a place
assigned : (room : ℕ) (n : Name) (i : Index) (at : ℕ) (e : Formula) (semicolon : ℕ) (s : List Symbol) → IsLeveled e → depth e < room
    → Enough (λ m. assignment (climb m) room n i (Symbol.Fixed at (codes "=") ∷ (formula_spelling e ++ (Symbol.Fixed semicolon (codes ";") ∷ s)))) (Assign n i at e semicolon) s
assigned room n i at e semicolon s leveled lt =
    let close : List Symbol = Symbol.Fixed semicolon (codes ";") ∷ s in
    let inside : List Symbol = formula_spelling e ++ close in
    let a = read_part e room close leveled lt refl refl in
    let next : Formula → List Symbol → Read (Block → Block) = λ e s2. read_on (mark (codes ";") s2) (λ semicolon s3. Found (Assign n i at e semicolon) s3) in (
      a.0,
      λ m le. room_is room (Symbol.Fixed at (codes "=") ∷ inside) (read_on (climb m 0 (room - 1) inside) next) (omega (arith, one_node e))
          ∙ on (climb m 0 (room - 1) inside) e close next (Found (Assign n i at e semicolon) s) (a.1 m le) refl,
    )

whole-Assign : (n : Name) (at : ℕ) (e : Formula) (semicolon : ℕ) (rest : Block) → WholeBlock rest → WholeBlock (Assign n None at e semicolon rest)
whole-Assign n at e semicolon rest whole room s leveled deep none =
    let behind_it : List Symbol = block_spelling rest ++ s in
    let from_mark : List Symbol = Symbol.Fixed at (codes "=") ∷ (formula_spelling e ++ (Symbol.Fixed semicolon (codes ";") ∷ behind_it)) in
    let a = assigned room n None at e semicolon behind_it leveled.1 (omega arith) in
    let r = read_block rest whole room s leveled.2 (omega arith) none in
    let M : ℕ = a.0 + r.0 in (
      suc M,
      ap (statements (suc M) room) (flat-Assign n at e semicolon rest s)
          ∙ put_before M room (Symbol.Named n.at n.text ∷ from_mark) from_mark (Naming n) (Assign n None at e semicolon) rest s refl (a.1 M (omega arith)) (r.1 M (omega arith)),
    )

whole-Assign_at : (n : Name) (p : ℕ) (i : Formula) (q at : ℕ) (e : Formula) (semicolon : ℕ) (rest : Block) → WholeBlock rest → WholeBlock (Assign n (Some (p, i, q)) at e semicolon rest)
whole-Assign_at n p i q at e semicolon rest whole room s leveled deep none =
    let behind_it : List Symbol = block_spelling rest ++ s in
    let from_mark : List Symbol = Symbol.Fixed at (codes "=") ∷ (formula_spelling e ++ (Symbol.Fixed semicolon (codes ";") ∷ behind_it)) in
    let close : List Symbol = Symbol.Fixed q (codes "]") ∷ from_mark in
    let inside : List Symbol = formula_spelling i ++ close in
    let a = assigned room n (Some (p, i, q)) at e semicolon behind_it leveled.1 (omega arith) in
    let b = read_part i (room - 1) close leveled.0 (omega arith) refl refl in
    let r = read_block rest whole room s leveled.2 (omega arith) none in
    let M : ℕ = a.0 + b.0 + r.0 in
    let next : Formula → List Symbol → Read (Block → Block) = λ i s1. read_on (mark (codes "]") s1) (λ q s2. assignment (climb M) room n (Some (p, i, q)) s2) in
    let first = room_is (room - 1) (Symbol.Fixed p (codes "[") ∷ inside) (read_on (climb M 0 (room - 1 - 1) inside) next) (omega (arith, one_node i))
    ∙ on (climb M 0 (room - 1 - 1) inside) i close next (Found (Assign n (Some (p, i, q)) at e semicolon) behind_it) (b.1 M (omega arith)) (a.1 M (omega arith)) in (
      suc M,
      ap (statements (suc M) room) (flat-Assign_at n p i q at e semicolon rest s)
          ∙ put_before M room (Symbol.Named n.at n.text ∷ Symbol.Fixed p (codes "[") ∷ inside) (Symbol.Fixed p (codes "[") ∷ inside) (Naming n) (Assign n (Some (p, i, q)) at e semicolon) rest s refl first (r.1 M (omega arith)),
    )

whole-Part : (n : Name) (dot at semicolon : ℕ) (rest : Block) → WholeBlock rest → WholeBlock (Part n dot at semicolon rest)
whole-Part n dot at semicolon rest whole room s leveled deep none =
    let r = read_block rest whole room s leveled (omega arith) none in
    let from_dot : List Symbol = Symbol.Fixed dot (codes ".") ∷ Symbol.Fixed at (codes "action") ∷ Symbol.Fixed semicolon (codes ";") ∷ (block_spelling rest ++ s) in
    (suc r.0, put_before r.0 room (Symbol.Named n.at n.text ∷ from_dot) from_dot (Naming n) (Part n dot at semicolon) rest s refl refl (r.1 r.0 (omega arith)))

whole-Halt : (at p : ℕ) (e : Formula) (q semicolon : ℕ) (rest : Block) → WholeBlock rest → WholeBlock (Halt at p e q semicolon rest)
whole-Halt at p e q semicolon rest whole room s leveled deep none =
    let close : List Symbol = Symbol.Fixed q (codes ")") ∷ Symbol.Fixed semicolon (codes ";") ∷ (block_spelling rest ++ s) in
    let inside : List Symbol = formula_spelling e ++ close in
    let from_mark : List Symbol = Symbol.Fixed p (codes "(") ∷ inside in
    let a = read_part e room close leveled.0 (omega arith) refl refl in
    let r = read_block rest whole room s leveled.1 (omega arith) none in
    let M : ℕ = a.0 + r.0 in
    let next : Formula → List Symbol → Read (Block → Block) = λ e s2. read_on (mark (codes ")") s2) (λ q s3. read_on (mark (codes ";") s3) (λ semicolon s4. Found (Halt at p e q semicolon) s4)) in
    let first = room_is room (Symbol.Fixed at (codes "halt") ∷ from_mark) (read_on (climb M 0 (room - 1) inside) next) (omega (arith, one_node e))
    ∙ on (climb M 0 (room - 1) inside) e close next (Found (Halt at p e q semicolon) (block_spelling rest ++ s)) (a.1 M (omega arith)) refl in (
      suc M,
      ap (statements (suc M) room) (flat-Halt at p e q semicolon rest s)
          ∙ put_before M room (Symbol.Fixed at (codes "halt") ∷ from_mark) from_mark (Halting at) (Halt at p e q semicolon) rest s refl first (r.1 M (omega arith)),
    )

whole-If : (at : ℕ) (c : Formula) (t : ℕ) (xs : Block) (end semicolon : ℕ) (rest : Block) → WholeBlock xs → WholeBlock rest → WholeBlock (If at c t xs end semicolon rest)
whole-If at c t xs end semicolon rest whole_x whole room s leveled deep none =
    let close : List Symbol = Symbol.Fixed end (codes "endif") ∷ Symbol.Fixed semicolon (codes ";") ∷ (block_spelling rest ++ s) in
    let inside_x : List Symbol = block_spelling xs ++ close in
    let from_then : List Symbol = Symbol.Fixed t (codes "then") ∷ inside_x in
    let inside_c : List Symbol = formula_spelling c ++ from_then in
    let here : List Symbol = Symbol.Fixed at (codes "if") ∷ inside_c in
    let a = read_part c room from_then leveled.0 (omega arith) refl refl in
    let b = read_block xs whole_x (room - 1) close leveled.1 (omega arith) refl in
    let r = read_block rest whole room s leveled.2 (omega arith) none in
    let M : ℕ = a.0 + b.0 + r.0 in
    let found : Read (Block → Block) = Found (If at c t xs end semicolon) (block_spelling rest ++ s) in
    let second : Formula → ℕ → Block → List Symbol → Read (Block → Block) = λ c t xs s3. branch_end (statements M) room at c t xs s3 (behind (codes "else") s3) in
    let next : Formula → List Symbol → Read (Block → Block) = λ c s1. read_on (mark (codes "then") s1) (λ t s2. read_on (statements M (room - 1) s2) (second c t)) in
    let last = on (statements M (room - 1) inside_x) xs close (second c t) found (b.1 M (omega arith)) refl in
    let first = room_is room here (read_on (climb M 0 (room - 1) inside_c) next) (omega (arith, one_node c))
    ∙ on (climb M 0 (room - 1) inside_c) c from_then next found (a.1 M (omega arith)) last in (
      suc M,
      ap (statements (suc M) room) (flat-If at c t xs end semicolon rest s)
          ∙ put_before M room here inside_c (Branching at) (If at c t xs end semicolon) rest s refl first (r.1 M (omega arith)),
    )

whole-IfElse : (at : ℕ) (c : Formula) (t : ℕ) (xs : Block) (f : ℕ) (ys : Block) (end semicolon : ℕ) (rest : Block) → WholeBlock xs → WholeBlock ys → WholeBlock rest → WholeBlock (IfElse at c t xs f ys end semicolon rest)
whole-IfElse at c t xs f ys end semicolon rest whole_x whole_y whole room s leveled deep none =
    let close : List Symbol = Symbol.Fixed end (codes "endif") ∷ Symbol.Fixed semicolon (codes ";") ∷ (block_spelling rest ++ s) in
    let inside_y : List Symbol = block_spelling ys ++ close in
    let from_else : List Symbol = Symbol.Fixed f (codes "else") ∷ inside_y in
    let inside_x : List Symbol = block_spelling xs ++ from_else in
    let from_then : List Symbol = Symbol.Fixed t (codes "then") ∷ inside_x in
    let inside_c : List Symbol = formula_spelling c ++ from_then in
    let here : List Symbol = Symbol.Fixed at (codes "if") ∷ inside_c in
    let a = read_part c room from_then leveled.0 (omega arith) refl refl in
    let b = read_block xs whole_x (room - 1) from_else leveled.1 (omega arith) refl in
    let d = read_block ys whole_y (room - 1) close leveled.2 (omega arith) refl in
    let r = read_block rest whole room s leveled.3 (omega arith) none in
    let M : ℕ = a.0 + b.0 + d.0 + r.0 in
    let found : Read (Block → Block) = Found (IfElse at c t xs f ys end semicolon) (block_spelling rest ++ s) in
    let third : Formula → ℕ → Block → ℕ → Block → List Symbol → Read (Block → Block) = λ c t xs f ys s1. read_on (mark (codes "endif") s1) (λ end s2. read_on (mark (codes ";") s2) (λ semicolon s3. Found (IfElse at c t xs f ys end semicolon) s3)) in
    let second : Formula → ℕ → Block → List Symbol → Read (Block → Block) = λ c t xs s3. branch_end (statements M) room at c t xs s3 (behind (codes "else") s3) in
    let next : Formula → List Symbol → Read (Block → Block) = λ c s1. read_on (mark (codes "then") s1) (λ t s2. read_on (statements M (room - 1) s2) (second c t)) in
    let last = on (statements M (room - 1) inside_y) ys close (third c t xs f) found (d.1 M (omega arith)) refl in
    let middle = on (statements M (room - 1) inside_x) xs from_else (second c t) found (b.1 M (omega arith)) last in
    let first = room_is room here (read_on (climb M 0 (room - 1) inside_c) next) (omega (arith, one_node c))
    ∙ on (climb M 0 (room - 1) inside_c) c from_then next found (a.1 M (omega arith)) middle in (
      suc M,
      ap (statements (suc M) room) (flat-IfElse at c t xs f ys end semicolon rest s)
          ∙ put_before M room here inside_c (Branching at) (IfElse at c t xs f ys end semicolon) rest s refl first (r.1 M (omega arith)),
    )

-- ---- all statements

-- statements are read from their spelling, before what begins none
pub complete_block : (b : Block) → WholeBlock b
complete_block Done = whole-Done
complete_block (Assign n None at e semicolon rest) = whole-Assign n at e semicolon rest (complete_block rest)
complete_block (Assign n (Some (p, i, q)) at e semicolon rest) = whole-Assign_at n p i q at e semicolon rest (complete_block rest)
complete_block (Part n dot at semicolon rest) = whole-Part n dot at semicolon rest (complete_block rest)
complete_block (Halt at p e q semicolon rest) = whole-Halt at p e q semicolon rest (complete_block rest)
complete_block (If at c t xs end semicolon rest) = whole-If at c t xs end semicolon rest (complete_block xs) (complete_block rest)
complete_block (IfElse at c t xs f ys end semicolon rest) = whole-IfElse at c t xs f ys end semicolon rest (complete_block xs) (complete_block ys) (complete_block rest)

-- ---- one list of statements

-- what is in Found is one thing
found_parts : (x y : Block) (r s : List Symbol) → Found x r ≡ Found y s → (x ≡ y) × (r ≡ s)
found_parts x y r s e = (cc, cc)

-- what is read is one block and one rest
pub same_block_found : (m n room : ℕ) (ss : List Symbol) (x y : Block) (r s : List Symbol) → statements m room ss ≡ Found x r → statements n room ss ≡ Found y s → (x ≡ y) × (r ≡ s)
same_block_found m n room ss x y r s p q = found_parts x y r s (sym (lift m (m + n) room ss x r (omega arith) p) ∙ lift n (m + n) room ss y s (omega arith) q)

-- statements spelled alike before rests that begin none are the same, and so are the rests
pub one_block_front : (x y : Block) (r s : List Symbol) → IsLeveledBlock x → IsLeveledBlock y → BeginsNone r → BeginsNone s → block_spelling x ++ r ≡ block_spelling y ++ s → (x ≡ y) × (r ≡ s)
one_block_front x y r s h i f g e =
    let room : ℕ = block_depth x + block_depth y in
    let a = complete_block x room r h (omega arith) f in
    let b = complete_block y room s i (omega arith) g in
    same_block_found a.0 b.0 room (block_spelling x ++ r) x y r s a.1 (ap (statements b.0 room) e ∙ b.1)

pub unique_block : (x y : Block) → IsLeveledBlock x → IsLeveledBlock y → block_spelling x ≡ block_spelling y → x ≡ y
unique_block x y h i e = (one_block_front x y [] [] h i refl refl (ap (λ ss. ss ++ []) e)).0
