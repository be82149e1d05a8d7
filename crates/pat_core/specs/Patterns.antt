-- The patterns of a machine.
use Rattle.std.specs.Prelude.{ℕ, zero, suc, ◌+◌, ◌==◌, min, nat_le, pos, Bool, true, false, not, ◌&&◌, ◌||◌, List, [], ◌∷◌, ◌++◌, map, flat_map, filter, length, take, reverse, slice_get, unwrap_or, Option, Some, None, option_map, option_and_then, if◌then◌else◌}
use Rattle.std.specs.List.{list_any, list_all}
use Rattle.nk_base.specs.declared.number.Ty.TheVariants as ty
use Rattle.nk_base.specs.Number.{width_of, wrapped}
use Rattle.nml_tree.specs.declared.operator.Un.TheVariants as un
use Rattle.nml_tree.specs.declared.operator.Bin.{Bin}
use Rattle.nml_tree.specs.declared.operator.Bin.TheVariants as bin
use Rattle.nml_tree.specs.Act.{Term}
use Rattle.nml_tree.specs.Act as act
use Rattle.ir_core.specs.declared.relation.Rel.{Rel}
use Rattle.ir_core.specs.declared.relation.Rel.TheVariants as rel
use Rattle.pat_core.specs.declared.pattern.Num.{Num}
use Rattle.pat_core.specs.declared.pattern.Num.TheVariants as num
use Rattle.pat_core.specs.Machine.{Machine, cell_type, is_reg, type_at, is_card, is_wide, pc_width, same_number}
use Rattle.pat_core.specs.Spot.{Spot, spot, register, same_spot}
use Rattle.pat_core.specs.Tile.{Tile, Form, Write, Store, Out, Branch, JumpCell, Jump, trees, operands, operators, inputs, numbered_form, forms}
use Rattle.pat_core.specs.Tile as tile
use Rattle.pat_core.specs.Shape.{Shape, Line, Main, Does, lines, main, parts, terms, count, is_input, is_field, is_cell_of}
use Rattle.pat_core.specs.Shape as shape
use Rattle.pat_core.specs.Low.{amount, is_address}
use Rattle.pat_core.specs.Find.{Tree, two, low, exact, addressed}

-- ---- forms

-- a comparison
abbrev pub relation : Bin → Option Rel
relation bin.Eq = Some rel.Eq
relation bin.Ne = Some rel.Ne
relation bin.Lt = Some rel.Lt
relation bin.Le = Some rel.Le
relation bin.Gt = Some rel.Gt
relation bin.Ge = Some rel.Ge
relation _ = None

-- a field to jump by: of card(k) with k at least PC's width, and nowhere else in the action
abbrev pub is_target : Machine → Shape → ℕ → Bool
is_target m s j =
    is_card (type_at s.fields j) && nat_le (pc_width m) (width_of (type_at s.fields j)) && (count (is_field j) (terms s.action) == 1)

-- `PC+1`, written so
abbrev pub is_next : Machine → Term → Bool
is_next m (act.Binary bin.Add (act.Cell n i) (act.Number z)) = (n == m.pc) && same_number z (pos 1)
is_next m _ = false

-- a branch by this condition to the field
abbrev pub branch : Machine → Shape → Term → ℕ → Option (Form Spot)
branch m s (act.Binary op a b) j = option_and_then (λ r. two (λ t u. Branch r t u j) (exact m s.fields a) (exact m s.fields b)) (relation op)
branch m s _ j = None

-- a jump to what a tree is worth
abbrev pub jump_cell : Machine → Shape → Term → Option (Form Spot)
jump_cell m s e = option_map (λ t. JumpCell t) (low m s.fields e)

-- what writes PC: a jump, a branch by an `if` expression, or else a jump by cell
abbrev pub pc_form : Machine → Shape → Term → Option (Form Spot)
pc_form m s (act.Field j) = if is_target m s j then Some (Jump j) else jump_cell m s (act.Field j)
pc_form m s (act.Choose c (act.Field j) e) = if is_target m s j && is_next m e then branch m s c j else None
pc_form m s e = jump_cell m s e

-- what writes the data memory: at a direct address, or at one that a tree gives
abbrev pub memory_form : Tree → Tree → Option (Form Spot)
memory_form (Some (tile.Operand s)) t = option_map (Write s) t
memory_form (Some (tile.Load a)) t = option_map (Store a) t
memory_form _ t = None

-- a register that takes a Low: a wide one, or an address register
abbrev pub takes_low : Machine → ℕ → Bool
takes_low m n = is_reg m n && (is_wide m.width (cell_type m n) || is_address m n)

-- what writes a register
abbrev pub register_form : Machine → ℕ → Term → Tree → Option (Form Spot)
register_form m n i t = if takes_low m n then option_and_then (λ s. option_map (Write s) t) (register m n i) else None

-- the code of a halt is card(8)
abbrev pub code : Num → Num
code (num.Const z) = num.Const (wrapped (ty.Card 8) z)
code (num.Field j) = num.Field j

-- the form of a statement that stands outside every `if`
abbrev pub form : Machine → Shape → Does → Option (Form Spot)
form m s (shape.Cell n i e) =
    if n == m.pc then pc_form m s e
    else if n == m.dm then memory_form (addressed m s.fields i) (low m s.fields e)
    else register_form m n i (low m s.fields e)
form m s (shape.Put e) = option_map (λ t. Out t) (low m s.fields e)
form m s (shape.Halt e) = option_map (λ c. tile.Halt (code c)) (amount e)
form m s _ = None

-- ---- the one main write

-- a main write at a place of the action, with its form, and how often the action may read PC
pub record Found : Type 0 where
  pub place : ℕ
  pub form : Form Spot
  pub main : Main
  pub reads_pc : ℕ

-- the statements before place k, the last of them first
abbrev pub before : Shape → ℕ → List Line
before s k = reverse (take k (lines s))

-- it writes the value of an `if` expression
abbrev pub is_choice : Does → Bool
is_choice (shape.Cell n i (act.Choose c x y)) = true
is_choice _ = false

-- it is a branch
abbrev pub is_branch : Form Spot → Bool
is_branch (Branch r t u j) = true
is_branch _ = false

-- a branch by an `if` expression reads PC once
abbrev pub reads_of : Form Spot → Does → ℕ
reads_of f d = if is_branch f && is_choice d then 1 else 0

-- a statement outside every `if`
abbrev pub found_outside : Machine → Shape → ℕ → Main → Option Found
found_outside m s k w = option_map (λ f. record { place = k; form = f; main = w; reads_pc = reads_of f w.does }) (form m s w.does)

-- the `if` at this place has an `else` side with statements in it
abbrev pub has_else : Shape → ℕ → Bool
has_else s c = list_any (λ l. list_any (λ (k, side). (k == c) && not side) l.under) (lines s)

-- with slots that give to it too
abbrev pub with_slots : List ℕ → Main → Main
with_slots slots w = record w { slots = slots ++ w.slots }

-- the write of PC by a field, and the `if` that it stands in, with its condition
abbrev pub found_inside : Machine → Shape → ℕ → Line → Does → (at : ℕ) → Main → Does → Option Found
found_inside m s k l (shape.Cell n i (act.Field j)) at w (shape.If c) =
    if (n == m.pc) && is_target m s j && not (has_else s at)
    then option_map (λ f. record { place = k; form = f; main = with_slots l.slots w; reads_pc = 0 }) (branch m s c j) else None
found_inside m s k l _ at w _ = None

-- at a place of the action: a statement outside every `if`, or in the `then` side of one alone, which is that of a branch
abbrev pub found_at : Machine → Shape → ℕ → Line → List (ℕ × Bool) → Option Found
found_at m s k l [] = found_outside m s k (main m (before s k) l)
found_at m s k l ((at, true) ∷ []) =
    option_and_then (λ c. let w = main m (before s at) c in found_inside m s k l l.does at w w.does) (slice_get (lines s) at)
found_at m s k l _ = None

-- ---- all the rest of it

-- at most eight operators over all trees
abbrev pub most_operators : ℕ
most_operators = 8

-- the sum over a list
abbrev pub sum_over : {A : Type 0} → (A → ℕ) → List A → ℕ
sum_over f [] = 0
sum_over f (x ∷ xs) = f x + sum_over f xs

-- each slot that gives nothing to the main write is neutral
abbrev pub are_neutral : List Bool → ℕ → List ℕ → Bool
are_neutral [] k gives = true
are_neutral (neutral ∷ slots) k gives = (neutral || list_any (λ g. g == k) gives) && are_neutral slots (k + 1) gives

-- another statement writes neither the data memory, nor PC, nor a port, and doesn't halt
abbrev pub may_stand : Machine → Does → Bool
may_stand m (shape.Cell n i e) = not (n == m.dm) && not (n == m.pc)
may_stand m (shape.Put e) = false
may_stand m (shape.Halt e) = false
may_stand m _ = true

-- a list without its place k
abbrev pub other_lines : ℕ → List Line → List Line
other_lines k [] = []
other_lines zero (l ∷ ls) = ls
other_lines (suc k) (l ∷ ls) = l ∷ other_lines k ls

-- the other statements
abbrev pub others : Shape → ℕ → List Line
others s k = other_lines k (lines s)

-- the spot that a form writes
abbrev pub written : {A : Type 0} → Form A → Option Spot
written (Write s t) = Some s
written _ = None

-- the number of the first that is the same spot, counted from k on
abbrev pub first_same : Spot → ℕ → List Spot → Option ℕ
first_same s k [] = None
first_same s k (t ∷ ts) = if same_spot s t then Some k else first_same s (k + 1) ts

-- the spots of the operands of a form
abbrev pub spots_of : Form Spot → List Spot
spots_of f = flat_map operands (trees f)

-- the first operand whose spot is the written one
abbrev pub tied : Form Spot → Option ℕ
tied f = option_and_then (λ s. first_same s 0 (spots_of f)) (written f)

-- an operand that is tied is a register
abbrev pub ties_register : Machine → Form Spot → Bool
ties_register m f = unwrap_or (option_map (λ s. not (s.storage == m.dm) || (length (filter (same_spot s) (spots_of f)) == 0)) (written f)) true

-- all that is asked of the one main write and of the other statements
abbrev pub is_main_write : Machine → Shape → Found → Bool
is_main_write m s w =
    w.main.outside && are_neutral s.neutral 0 w.main.slots
    && nat_le (sum_over operators (trees w.form)) most_operators
    && (count is_input (terms s.action) == sum_over inputs (trees w.form)) && nat_le (count is_input (terms s.action)) 1
    && list_all (λ l. may_stand m l.does) (others s w.place)
    && (count (is_cell_of m.pc) (terms s.action) == w.reads_pc)
    && ties_register m w.form

-- ---- patterns

-- a pattern: the number of its shape, its form over the operands' numbers, the operands, the one that is tied, the other places that are
-- written, and the least number of bits of an address
pub record Pattern : Type 0 where
  pub shape : ℕ
  pub form : Form ℕ
  pub operands : List Spot
  pub tied : Option ℕ
  pub clobbers : List Spot
  pub bits : ℕ

-- the spot that a statement writes
abbrev pub clobber : Does → List Spot
clobber (shape.Cell n i e) = spot n i ∷ []
clobber _ = []

-- the bits of a direct address or an index of the data memory
abbrev pub index_bits : Machine → Shape → Term → List ℕ
index_bits m s (act.Field j) = width_of (type_at s.fields j) ∷ []
index_bits m s (act.Unary (un.Card k) a) = k ∷ []
index_bits m s (act.Cell n i) = width_of (cell_type m n) ∷ []
index_bits m s _ = []

-- the bits of the address in a cell of the data memory
abbrev pub address_bits : Machine → Shape → Term → List ℕ
address_bits m s (act.Cell n i) = if n == m.dm then index_bits m s i else []
address_bits m s _ = []

-- the written place and the value
abbrev pub main_terms : Does → List Term
main_terms (shape.Cell n i e) = act.Cell n i ∷ e ∷ []
main_terms (shape.Trn n e) = e ∷ []
main_terms (shape.Put e) = e ∷ []
main_terms (shape.Halt e) = e ∷ []
main_terms (shape.If c) = c ∷ []

-- the least of them, and at most 64
abbrev pub least : List ℕ → ℕ
least [] = 64
least (k ∷ ks) = min k (least ks)

-- 64 where there is none
abbrev pub bits : Machine → Shape → Does → ℕ
bits m s d = least (flat_map (address_bits m s) (flat_map parts (main_terms d)))

-- the pattern of a form of a main write
abbrev pub pattern : Machine → ℕ → Shape → Found → Form ℕ → Pattern
pattern m number s w f = record {
  shape = number;
  form = f;
  operands = spots_of w.form;
  tied = tied w.form;
  clobbers = flat_map (λ l. clobber l.does) (others s w.place);
  bits = bits m s w.main.does;
}

-- a pattern for each of the forms
abbrev pub patterns_of : Machine → ℕ → Shape → Option Found → List Pattern
patterns_of m number s None = []
patterns_of m number s (Some w) = if is_main_write m s w then map (pattern m number s w) (forms (numbered_form w.form)) else []

-- each statement from place k on is tried as the main write
abbrev pub patterns_from : Machine → ℕ → Shape → ℕ → List Line → List Pattern
patterns_from m number s k [] = []
patterns_from m number s k (l ∷ ls) = patterns_of m number s (found_at m s k l l.under) ++ patterns_from m number s (k + 1) ls

-- the patterns of a shape: by the main write's place, then by form
abbrev pub shape_patterns : Machine → ℕ → Shape → List Pattern
shape_patterns m number s = patterns_from m number s 0 (lines s)

-- the patterns of the shapes from this number on
abbrev pub patterns : Machine → ℕ → List Shape → List Pattern
patterns m number [] = []
patterns m number (s ∷ shapes) = shape_patterns m number s ++ patterns m (number + 1) shapes
