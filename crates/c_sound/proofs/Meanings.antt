-- What names mean: a variable stands where its cells begin, and a function has its number.
use Rattle.std.proofs.Common.{◌≡◌, refl, ap, ◌∙◌, subst, ℕ, ◌+◌, ◌<◌, ◌≤◌, arith, Bool, true, false, List, [], ◌∷◌, ◌++◌, Option, Some, None}
use Rattle.std.specs.Prelude.{slice_get, nat_eq, if◌then◌else◌}
use Rattle.std.specs.List.{AllByRecursion}
use Rattle.std.proofs.lemmas.Bool.{eqb-true, eq-eqb, cond_both}
use Rattle.nk_base.specs.Text.{text_eq}
use Rattle.c_tree.specs.declared.meaning.Place.{Place}
use Rattle.c_tree.specs.declared.meaning.Place.TheVariants as places
use Rattle.c_tree.specs.declared.meaning.Meaning.{Meaning}
use Rattle.c_tree.specs.declared.meaning.Meaning.TheVariants.{OneCell, Cells, Callee, Main, In, Out}
use Rattle.c_tree.specs.Statement.{Variable}
use Rattle.c_tree.specs.Names.{Names, Meanings, meaning_in, with_meaning, or_else, meaning_through, seen, callee, variable_at, inner, behind_variable, name_of, shape}
use Rattle.c_tree.specs.Program.{Shape, size, sizes, Function}
use Rattle.c_lowered.specs.Sound.{shape_at, IsShape, World}
use Rattle.c_lowered.specs.Sound as sound
use Rattle.c_sound.proofs.Lists.{chosen, each_left, each_right}

-- the variable that stands at a place
abbrev pub found : (globals locals : List Shape) → Place → Option Shape
found gs ls (places.Global k) = shape_at 0 gs k
found gs ls (places.Local k) = shape_at 0 ls k

-- a function with this number, arity and kind
pub record HasFunction (fs : List Function) (g arity : ℕ) (gives : Bool) : Type 0 where
  pub function : Function
  pub is : slice_get fs g ≡ Some function
  pub parameters : function.arity ≡ arity
  pub kind : function.gives ≡ gives

-- what a name means is there
abbrev pub Means : (globals locals : List Shape) → List Function → Meaning → Type 0
Means gs ls fs (OneCell p) = found gs ls p ≡ Some None
Means gs ls fs (Cells p n) = found gs ls p ≡ Some (Some n)
Means gs ls fs (Callee g arity gives) = HasFunction fs g arity gives
Means gs ls fs Main = Unit {0}
Means gs ls fs In = Unit {0}
Means gs ls fs Out = Unit {0}

-- a name that means nothing is no matter
abbrev pub IsKnown : (globals locals : List Shape) → List Function → Option Meaning → Type 0
IsKnown gs ls fs None = Unit {0}
IsKnown gs ls fs (Some m) = Means gs ls fs m

-- each name of a list
abbrev pub AreKnown : (globals locals : List Shape) → List Function → Meanings → Type 0
AreKnown gs ls fs ms = AllByRecursion (λ e. Means gs ls fs e.1) ms

-- what all names mean is there
abbrev pub Knows : (globals locals : List Shape) → List Function → Names → Type 0
Knows gs ls fs s = AreKnown gs ls fs s.block × AllByRecursion (AreKnown gs ls fs) s.outer × AreKnown gs ls fs s.functions

-- the variable at a place of a world
pub found_is : (w : World) (p : Place) (o : Option Shape) → found w.globals w.locals p ≡ o → sound.variable_at w p ≡ o
found_is w (places.Global k) o h = h
found_is w (places.Local k) o h = h

-- a local variable's name
pub local_means : (gs ls : List Shape) (fs : List Function) (v : Shape) (k : ℕ) → shape_at 0 ls k ≡ Some v → Means gs ls fs (variable_at v (places.Local k))
local_means gs ls fs None k h = h
local_means gs ls fs (Some n) k h = h

-- a global variable's name
pub global_means : (gs ls : List Shape) (fs : List Function) (v : Shape) (k : ℕ) → shape_at 0 gs k ≡ Some v → Means gs ls fs (variable_at v (places.Global k))
global_means gs ls fs None k h = h
global_means gs ls fs (Some n) k h = h

-- without locals a name means a global or a function, whatever the locals
pub widened : (gs ls : List Shape) (fs : List Function) (m : Meaning) → Means gs [] fs m → Means gs ls fs m
widened gs ls fs (OneCell (places.Global k)) h = h
widened gs ls fs (OneCell (places.Local k)) h = absurd cc
widened gs ls fs (Cells (places.Global k) n) h = h
widened gs ls fs (Cells (places.Local k) n) h = absurd cc
widened gs ls fs (Callee g arity gives) h = h
widened gs ls fs Main h = tt
widened gs ls fs In h = tt
widened gs ls fs Out h = tt

all_widened : (gs ls : List Shape) (fs : List Function) (ms : Meanings) → AreKnown gs [] fs ms → AreKnown gs ls fs ms
all_widened gs ls fs [] h = tt
all_widened gs ls fs (e ∷ ms) h = (widened gs ls fs e.1 h.0, all_widened gs ls fs ms h.1)

blocks_widened : (gs ls : List Shape) (fs : List Function) (blocks : List Meanings) → AllByRecursion (AreKnown gs [] fs) blocks → AllByRecursion (AreKnown gs ls fs) blocks
blocks_widened gs ls fs [] h = tt
blocks_widened gs ls fs (ms ∷ blocks) h = (all_widened gs ls fs ms h.0, blocks_widened gs ls fs blocks h.1)

-- the same of all names
pub names_widened : (gs ls : List Shape) (fs : List Function) (s : Names) → Knows gs [] fs s → Knows gs ls fs s
names_widened gs ls fs s h = (all_widened gs ls fs s.block h.0, blocks_widened gs ls fs s.outer h.1, all_widened gs ls fs s.functions h.2)

-- what a list says
pub meaning_known : (gs ls : List Shape) (fs : List Function) (ms : Meanings) (name : List ℕ) → AreKnown gs ls fs ms → IsKnown gs ls fs (meaning_in ms name)
meaning_known gs ls fs [] name h = tt
meaning_known gs ls fs (e ∷ ms) name h =
    cond_both (text_eq name e.0) (Some e.1) (meaning_in ms name) (IsKnown gs ls fs) (λ b. h.0) (λ b. meaning_known gs ls fs ms name h.1)

either_known : (gs ls : List Shape) (fs : List Function) (m o : Option Meaning) → IsKnown gs ls fs m → IsKnown gs ls fs o → IsKnown gs ls fs (or_else m o)
either_known gs ls fs None o h k = k
either_known gs ls fs (Some m) o h k = h

through_known : (gs ls : List Shape) (fs : List Function) (blocks : List Meanings) (name : List ℕ) → AllByRecursion (AreKnown gs ls fs) blocks → IsKnown gs ls fs (meaning_through blocks name)
through_known gs ls fs [] name h = tt
through_known gs ls fs (ms ∷ blocks) name h =
    either_known gs ls fs (meaning_in ms name) (meaning_through blocks name) (meaning_known gs ls fs ms name h.0) (through_known gs ls fs blocks name h.1)

-- what a name means that is seen
pub seen_known : (gs ls : List Shape) (fs : List Function) (s : Names) (name : List ℕ) → Knows gs ls fs s → IsKnown gs ls fs (seen s name)
seen_known gs ls fs s name h = through_known gs ls fs (s.block ∷ s.outer) name (h.0, h.1)

-- what a name means that is called
pub callee_known : (gs ls : List Shape) (fs : List Function) (s : Names) (name : List ℕ) → Knows gs ls fs s → IsKnown gs ls fs (callee s name)
callee_known gs ls fs s name h =
    either_known gs ls fs (seen s name) (meaning_in s.functions name) (seen_known gs ls fs s name h) (meaning_known gs ls fs s.functions name h.2)

-- one name more
pub with_known : (gs ls : List Shape) (fs : List Function) (ms : Meanings) (name : List ℕ) (m : Meaning) → AreKnown gs ls fs ms → Means gs ls fs m → AreKnown gs ls fs (with_meaning ms name m)
with_known gs ls fs [] name m h k = (k, tt)
with_known gs ls fs (e ∷ ms) name m h k =
    chosen (AreKnown gs ls fs) (text_eq name e.0) ((e.0, m) ∷ ms) (e ∷ with_meaning ms name m) (k, h.1) (h.0, with_known gs ls fs ms name m h.1 k)

-- ---- cells

-- a variable has a cell
pub some_cell : (v : Shape) → IsShape v → 1 ≤ size v
some_cell None h = omega arith
some_cell (Some n) h = h.0

-- the variables that are counted from a cell on are found in the whole list
abbrev pub Ahead : List Shape → ℕ → List Shape → Type 0
Ahead whole next rest = (k : ℕ) (v : Shape) → shape_at next rest k ≡ Some v → shape_at 0 whole k ≡ Some v

test_beyond : (cell k : ℕ) (u v : Shape) (b : Bool) (o : Option Shape) → nat_eq cell k ≡ b → (o ≡ Some v → cell + size u ≤ k) → (if b then Some u else o) ≡ Some v → cell ≤ k
test_beyond cell k u v true o is far h = let e = eqb-true cell k is in omega (arith, e)
test_beyond cell k u v false o is far h = let e = far h in omega (arith, e)

-- a variable stands no earlier than the list begins
beyond : (cell : ℕ) (vs : List Shape) (k : ℕ) (v : Shape) → shape_at cell vs k ≡ Some v → cell ≤ k
beyond cell [] k v h = absurd cc
beyond cell (u ∷ vs) k v h = test_beyond cell k u v (nat_eq cell k) (shape_at (cell + size u) vs k) refl (beyond (cell + size u) vs k v) h

-- the first variable stands where the list begins
pub first_here : (cell : ℕ) (v : Shape) (rest : List Shape) → shape_at cell (v ∷ rest) cell ≡ Some v
first_here cell v rest = ap (λ b. if b then Some v else shape_at (cell + size v) rest cell) (eq-eqb cell cell refl)

not_same : (a b : ℕ) (t : Bool) → nat_eq a b ≡ t → a < b → nat_eq a b ≡ false
not_same a b true is low = let e = eqb-true a b is in absurd (omega (arith, e, low))
not_same a b false is low = is

-- behind the first variable
pub ahead_next : (whole : List Shape) (next : ℕ) (v : Shape) (rest : List Shape) → IsShape v → Ahead whole next (v ∷ rest) → Ahead whole (next + size v) rest
ahead_next whole next v rest fits h =
    λ k u is. let far = beyond (next + size v) rest k u is in
    let some = some_cell v fits in
    let other = not_same next k (nat_eq next k) refl (omega (arith, far, some)) in
    h k u (ap (λ b. if b then Some v else shape_at (next + size v) rest k) other ∙ is)

-- behind some variables
pub ahead_over : (whole : List Shape) (next : ℕ) (vs rest : List Shape) → AllByRecursion IsShape vs → Ahead whole next (vs ++ rest) → Ahead whole (next + sizes vs) rest
ahead_over whole next [] rest fits h = let e : next ≡ next + 0 = omega arith in subst (λ n. Ahead whole n rest) e h
ahead_over whole next (v ∷ vs) rest fits h =
    let e : next + size v + sizes vs ≡ next + (size v + sizes vs) = omega arith in
    subst (λ n. Ahead whole n rest) e (ahead_over whole (next + size v) vs rest fits.1 (ahead_next whole next v (vs ++ rest) fits.0 h))

-- ---- within a function

-- where these variables of a function are still to be declared
pub record Seen (w : World) (s : Names) (rest : List Shape) : Type 0 where
  pub ahead : Ahead w.locals s.next rest
  pub known : Knows w.globals w.locals w.functions s
  pub small : AllByRecursion IsShape rest

-- a block begins
pub seen_inner : (w : World) (s : Names) (rest : List Shape) → Seen w s rest → Seen w (inner s) rest
seen_inner w s rest h = record { ahead = h.ahead; known = (tt, (h.known.0, h.known.1), h.known.2); small = h.small }

-- a variable is declared
pub seen_shape : (w : World) (s : Names) (name : List ℕ) (v : Shape) (rest : List Shape) → Seen w s (v ∷ rest)
    → Seen w (record s { block = with_meaning s.block name (variable_at v (places.Local s.next)); next = s.next + size v }) rest
seen_shape w s name v rest h =
    let m = local_means w.globals w.locals w.functions v s.next (h.ahead s.next v (first_here s.next v rest)) in
    record {
      ahead = ahead_next w.locals s.next v rest h.small.0 h.ahead;
      known = (with_known w.globals w.locals w.functions s.block name (variable_at v (places.Local s.next)) h.known.0 m, h.known.1, h.known.2);
      small = h.small.1;
    }

-- a local variable is declared
pub seen_variable : (w : World) (s : Names) (v : Variable) (rest : List Shape) → Seen w s (shape v ∷ rest) → Seen w (behind_variable s v) rest
seen_variable w s v rest h = seen_shape w s (name_of v).text (shape v) rest h

-- some variables are passed over
pub seen_over : (w : World) (s : Names) (vs rest : List Shape) → Seen w s (vs ++ rest) → Seen w (record s { next = s.next + sizes vs }) rest
seen_over w s vs rest h = record {
  ahead = ahead_over w.locals s.next vs rest (each_left IsShape vs rest h.small) h.ahead;
  known = h.known;
  small = each_right IsShape vs rest h.small;
}
