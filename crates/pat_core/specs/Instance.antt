-- Instances of a pattern: one number for each field.
use Rattle.std.specs.Prelude.{ℕ, ◌+◌, ◌==◌, ◌^◌, ℤ, pos, ◌-ℤ◌, unsigned_abs, Bool, true, false, ◌&&◌, ◌||◌, List, [], ◌∷◌, filter, length, Option, Some, None, if◌then◌else◌}
use Rattle.std.specs.List.{list_any, list_all}
use Rattle.nk_base.specs.declared.number.Ty.{Ty}
use Rattle.nk_base.specs.declared.number.Ty.TheVariants as ty
use Rattle.nk_base.specs.Number.{low_bits, wrapped}
use Rattle.nml_tree.specs.Act.{Term, Act}
use Rattle.nml_tree.specs.Act as act
use Rattle.nml_tree.specs.Value.{View, value}
use Rattle.nml_tree.specs.Legal.{is_constant, paths, is_legal_path}
use Rattle.pat_core.specs.declared.pattern.Num.{Num}
use Rattle.pat_core.specs.declared.pattern.Num.TheVariants as num
use Rattle.isg_places.specs.declared.place.Place.{Place}
use Rattle.pat_core.specs.Machine.{type_at, same_number}
use Rattle.pat_core.specs.Spot.{Spot, At, Cell, Field, Other}
use Rattle.pat_core.specs.Shape.{Shape}

-- what is asked of the fields: that one is this number; that one is left open, for a direct address that is chosen at the use; or what can't be
pub data Ask : Type 0 where
  Is : (field : ℕ) → ℤ → Ask
  Open : (field : ℕ) → Ask
  Never : Ask

-- nothing is asked where this is so, else what can't be
abbrev pub where_not : Bool → List Ask
where_not b = if b then [] else Never ∷ []

-- a spot names a cell of its storage; a cell that is chosen at the use is one of the data memory
abbrev pub asks_at : (is_memory : Bool) → At → Option ℕ → List Ask
asks_at m (Cell c) (Some k) = where_not (c == k)
asks_at m (Field j) (Some k) = Is j (pos k) ∷ []
asks_at true (Field j) None = Open j ∷ []
asks_at m _ _ = Never ∷ []

-- what is asked of the fields for a spot to name a place, the data memory having this number
abbrev pub names : (dm : ℕ) → Spot → Place → List Ask
names dm s p = if s.storage == p.storage then asks_at (s.storage == dm) s.at p.index else Never ∷ []

-- a number of the type
abbrev pub is_in : Ty → ℤ → Bool
is_in ty.Bool z = same_number z (pos 0) || same_number z (pos 1)
is_in t z = same_number (wrapped t z) z

-- z modulo 2^n where it is in the range of the type, else less 2^n
abbrev pub congruent : ℕ → Ty → ℤ → ℤ
congruent n t z = if is_in t (low_bits n z) then low_bits n z else low_bits n z -ℤ pos (2 ^ n)

-- a number of the tree stands for z
abbrev pub counts_as : ℕ → Shape → Num → ℤ → List Ask
counts_as n s (num.Const c) z = where_not (same_number (low_bits n c) (low_bits n z))
counts_as n s (num.Field j) z = Is j (congruent n (type_at s.fields j) z) ∷ []

-- a shift's amount
abbrev pub shifts_by : Num → ℕ → List Ask
shifts_by (num.Const c) k = where_not (same_number c (pos k))
shifts_by (num.Field j) k = Is j (pos k) ∷ []

-- a halt's code
abbrev pub halts_with : Shape → Num → ℕ → List Ask
halts_with s (num.Const c) k = where_not (same_number c (pos k))
halts_with s (num.Field j) k = Is j (congruent 8 (type_at s.fields j) (pos k)) ∷ []

-- ---- an instance

-- the number of each field, and the fields that are left open
pub record Instance : Type 0 where
  pub fields : List ℤ
  pub open_fields : List ℕ

-- the fields that are asked to be open
abbrev pub opened : List Ask → List ℕ
opened [] = []
opened (Open j ∷ asks) = j ∷ opened asks
opened (_ ∷ asks) = opened asks

-- the number that is asked of a field; 0 of one that nothing asks for
abbrev pub asked : List Ask → ℕ → ℤ
asked [] j = pos 0
asked (Is k z ∷ asks) j = if j == k then z else asked asks j
asked (_ ∷ asks) j = asked asks j

-- the numbers of the fields from field j on
abbrev pub fields_from : List Ask → ℕ → List Ty → List ℤ
fields_from asks j [] = []
fields_from asks j (t ∷ types) = asked asks j ∷ fields_from asks (j + 1) types

-- this is asked of field j
abbrev pub asks_of : ℕ → Ask → Bool
asks_of j (Is k z) = j == k
asks_of j (Open k) = j == k
asks_of j Never = false

-- a number is in range and the only one that is asked of its field; an open field is asked for once
abbrev pub is_met : Shape → List Ask → Ask → Bool
is_met s asks (Is j z) = is_in (type_at s.fields j) z && same_number (asked asks j) z
is_met s asks (Open j) = length (filter (asks_of j) asks) == 1
is_met s asks Never = false

-- an open field is no constant: it stands as what isn't one
abbrev pub with_open : List ℕ → Term → Term
with_open js (act.Field j) = if list_any (λ k. j == k) js then act.Trn 0 else act.Field j
with_open js (act.Cell n i) = act.Cell n (with_open js i)
with_open js (act.Unary op x) = act.Unary op (with_open js x)
with_open js (act.Binary op x y) = act.Binary op (with_open js x) (with_open js y)
with_open js (act.Choose c x y) = act.Choose (with_open js c) (with_open js x) (with_open js y)
with_open js x = x

-- the same, of an action
abbrev pub act_with_open : List ℕ → Act → Act
act_with_open js act.Done = act.Done
act_with_open js (act.SetCell n i e rest) = act.SetCell n (with_open js i) (with_open js e) (act_with_open js rest)
act_with_open js (act.SetTrn n e rest) = act.SetTrn n (with_open js e) (act_with_open js rest)
act_with_open js (act.Put e rest) = act.Put (with_open js e) (act_with_open js rest)
act_with_open js (act.Halt e rest) = act.Halt (with_open js e) (act_with_open js rest)
act_with_open js (act.When c x y rest) = act.When (with_open js c) (act_with_open js x) (act_with_open js y) (act_with_open js rest)

-- the fields, and nothing else that could be read
abbrev pub view : List ℤ → View
view fields = record { fields = fields; cells = []; trns = []; next = None }

-- no path through the action does twice what may happen once
abbrev pub is_legal : Shape → Instance → Bool
is_legal s i = list_all (is_legal_path (view i.fields)) (paths (act_with_open i.open_fields s.action))

-- the fields as they are asked for
abbrev pub filled_in : Shape → List Ask → Instance
filled_in s asks = record { fields = fields_from asks 0 s.fields; open_fields = opened asks }

-- the legal instance that is as asked, where there is one
abbrev pub instance : Shape → List Ask → Option Instance
instance s asks = if list_all (is_met s asks) asks && is_legal s (filled_in s asks) then Some (filled_in s asks) else None

-- ---- what an instance clobbers

-- the cell that an index names, where it is constant once the fields are put in
abbrev pub constant_cell : Instance → Term → Option ℕ
constant_cell i e = if is_constant (with_open i.open_fields e) then Some (unsigned_abs (value (view i.fields) e)) else None

-- the cell that a spot names, where it is constant
abbrev pub cell_at : Instance → At → Option ℕ
cell_at i (Cell c) = Some c
cell_at i (Field j) = constant_cell i (act.Field j)
cell_at i (Other e) = constant_cell i e

-- the place is written: an index that isn't constant clobbers the whole file
abbrev pub is_hit : Option ℕ → Option ℕ → Bool
is_hit (Some c) (Some d) = c == d
is_hit _ _ = true

-- a write of the spot may be one of the place
abbrev pub hits : Instance → Place → Spot → Bool
hits i p s = (s.storage == p.storage) && is_hit (cell_at i s.at) p.index
