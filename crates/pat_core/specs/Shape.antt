-- A shape as patterns see it, and its action statement by statement.
use Rattle.std.specs.Prelude.{ℕ, ◌+◌, ◌==◌, pos, Bool, true, false, ◌&&◌, List, [], ◌∷◌, ◌++◌, flat_map, filter, length, slice_get, unwrap_or, if◌then◌else◌}
use Rattle.std.specs.List.{list_all}
use Rattle.nk_base.specs.declared.number.Ty.{Ty}
use Rattle.nk_base.specs.declared.number.Ty.TheVariants as ty
use Rattle.nml_tree.specs.declared.operator.Un.TheVariants as un
use Rattle.nml_tree.specs.Act.{Term, Act}
use Rattle.nml_tree.specs.Act as act
use Rattle.pat_core.specs.Machine.{Machine, type_at}

-- the types of its fields; of each slot, whether it is neutral; its action written out; of each statement, in the order of the text, the slots
-- that it comes from or names
pub record Shape : Type 0 where
  pub fields : List Ty
  pub neutral : List Bool
  pub action : Act
  pub gives : List (List ℕ)

-- ---- what stands in an action

-- an expression and all that it is made of
abbrev pub parts : Term → List Term
parts (act.Cell n i) = act.Cell n i ∷ parts i
parts (act.Unary op x) = act.Unary op x ∷ parts x
parts (act.Binary op x y) = act.Binary op x y ∷ parts x ++ parts y
parts (act.Choose c x y) = act.Choose c x y ∷ parts c ++ parts x ++ parts y
parts x = x ∷ []

-- the expressions of an action, indexes of places too
abbrev pub terms : Act → List Term
terms act.Done = []
terms (act.SetCell n i e rest) = i ∷ e ∷ terms rest
terms (act.SetTrn n e rest) = e ∷ terms rest
terms (act.Put e rest) = e ∷ terms rest
terms (act.Halt e rest) = e ∷ terms rest
terms (act.When c x y rest) = c ∷ terms x ++ terms y ++ terms rest

-- how many parts of the expressions are such
abbrev pub count : (Term → Bool) → List Term → ℕ
count is es = length (filter is (flat_map parts es))

-- the input
abbrev pub is_input : Term → Bool
is_input act.Inp = true
is_input _ = false

-- field j
abbrev pub is_field : ℕ → Term → Bool
is_field j (act.Field k) = j == k
is_field j _ = false

-- a cell of storage n
abbrev pub is_cell_of : ℕ → Term → Bool
is_cell_of n (act.Cell k i) = n == k
is_cell_of n _ = false

-- ---- statements

-- what a statement does
pub data Does : Type 0 where
  Cell : (storage : ℕ) → (index value : Term) → Does
  Trn : (number : ℕ) → (value : Term) → Does
  Put : Term → Does
  Halt : Term → Does
  If : Term → Does

-- the `if`s that it stands in, the innermost first: the place of each, and whether it stands in the `then` side
abbrev pub Under : Type 0
Under = List (ℕ × Bool)

-- a statement: the slots that it comes from or names, the `if`s around it, what it does
pub record Line : Type 0 where
  pub slots : List ℕ
  pub under : Under
  pub does : Does

-- how many statements an action has
abbrev pub statements : Act → ℕ
statements act.Done = 0
statements (act.SetCell n i e rest) = 1 + statements rest
statements (act.SetTrn n e rest) = 1 + statements rest
statements (act.Put e rest) = 1 + statements rest
statements (act.Halt e rest) = 1 + statements rest
statements (act.When c x y rest) = 1 + statements x + statements y + statements rest

-- an action's statements in the order of the text, the first at place k, an `if` before what stands in it
abbrev pub lines_from : (ℕ → List ℕ) → Under → ℕ → Act → List Line
lines_from gives under k act.Done = []
lines_from gives under k (act.SetCell n i e rest) =
    (record { slots = gives k; under = under; does = Cell n i e }) ∷ lines_from gives under (k + 1) rest
lines_from gives under k (act.SetTrn n e rest) =
    (record { slots = gives k; under = under; does = Trn n e }) ∷ lines_from gives under (k + 1) rest
lines_from gives under k (act.Put e rest) = (record { slots = gives k; under = under; does = Put e }) ∷ lines_from gives under (k + 1) rest
lines_from gives under k (act.Halt e rest) = (record { slots = gives k; under = under; does = Halt e }) ∷ lines_from gives under (k + 1) rest
lines_from gives under k (act.When c x y rest) =
    (record { slots = gives k; under = under; does = If c }) ∷ lines_from gives ((k, true) ∷ under) (k + 1) x
    ++ lines_from gives ((k, false) ∷ under) (k + 1 + statements x) y ++ lines_from gives under (k + 1 + statements x + statements y) rest

-- the statements of a shape in the order of the text
abbrev pub lines : Shape → List Line
lines s = lines_from (λ k. unwrap_or (slice_get s.gives k) []) [] 0 s.action

-- it stands in no `if`
abbrev pub is_outside : Line → Bool
is_outside l = length l.under == 0

-- ---- transitories

-- an expression with something in the place of each transitory
abbrev pub filled : (ℕ → Term) → Term → Term
filled by (act.Trn n) = by n
filled by (act.Cell n i) = act.Cell n (filled by i)
filled by (act.Unary op x) = act.Unary op (filled by x)
filled by (act.Binary op x y) = act.Binary op (filled by x) (filled by y)
filled by (act.Choose c x y) = act.Choose (filled by c) (filled by x) (filled by y)
filled by x = x

-- the transitories that it reads
abbrev pub trns : Term → List ℕ
trns (act.Trn n) = n ∷ []
trns (act.Cell n i) = trns i
trns (act.Unary op x) = trns x
trns (act.Binary op x y) = trns x ++ trns y
trns (act.Choose c x y) = trns c ++ trns x ++ trns y
trns x = []

-- wrapped in a type; a bool isn't
abbrev pub fitted : Ty → Term → Term
fitted ty.Bool e = e
fitted (ty.Card n) e = act.Unary (un.Card n) e
fitted (ty.Int n) e = act.Unary (un.Int n) e

-- what a read of a transitory gives, the slots that it comes from, and whether all of it was written outside every `if`
pub record Given : Type 0 where
  pub value : Term
  pub slots : List ℕ
  pub outside : Bool

-- an expression through what its transitories give
abbrev pub taken : (ℕ → Given) → Term → Given
taken given e = record {
  value = filled (λ n. (given n).value) e;
  slots = flat_map (λ n. (given n).slots) (trns e);
  outside = list_all (λ n. (given n).outside) (trns e);
}

-- a statement has been run: a write gives its value, wrapped, to its transitory
abbrev pub give : Machine → Line → Does → (ℕ → Given) → ℕ → Given
give m l (Trn k e) given n =
    if k == n then record {
      value = fitted (type_at m.trns k) (taken given e).value;
      slots = l.slots ++ (taken given e).slots;
      outside = is_outside l && (taken given e).outside;
    } else given n
give m l _ given n = given n

-- what a read of a transitory gives behind these statements, the last of them first: the last write before it, or 0
abbrev pub given_after : Machine → List Line → ℕ → Given
given_after m [] n = record { value = act.Number (pos 0); slots = []; outside = true }
given_after m (l ∷ before) n = give m l l.does (given_after m before) n

-- ---- a main write

-- a statement with what it takes through transitories in their place; the slots that give to it; whether what it takes stands outside every `if`
pub record Main : Type 0 where
  pub does : Does
  pub slots : List ℕ
  pub outside : Bool

-- a statement over what reads of transitories give
abbrev pub main_of : Line → (ℕ → Given) → Does → Main
main_of l given (Cell n i e) = record {
  does = Cell n (taken given i).value (taken given e).value;
  slots = l.slots ++ (taken given i).slots ++ (taken given e).slots;
  outside = (taken given i).outside && (taken given e).outside;
}
main_of l given (Trn n e) = record { does = Trn n e; slots = []; outside = false }
main_of l given (Put e) = record { does = Put (taken given e).value; slots = l.slots ++ (taken given e).slots; outside = (taken given e).outside }
main_of l given (Halt e) = record { does = Halt (taken given e).value; slots = l.slots ++ (taken given e).slots; outside = (taken given e).outside }
main_of l given (If c) = record { does = If (taken given c).value; slots = l.slots ++ (taken given c).slots; outside = (taken given c).outside }

-- a statement behind these others, the last of them first
abbrev pub main : Machine → List Line → Line → Main
main m before l = main_of l (given_after m before) l.does
