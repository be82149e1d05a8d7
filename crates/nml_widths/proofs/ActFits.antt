-- Each expression of an action fits its width and cap, and 128 bits, and an index is below its storage's size.
use Rattle.std.proofs.Common.{◌≡◌, ℕ, ◌<◌, ◌≤◌, ℤ, pos, negsuc, ◌≤ℤ◌, sym, ◌∙◌, subst, arith, List, [], ◌++◌, Option, Some, None, true, false}
use Rattle.std.specs.Prelude.{unsigned_abs, nat_lt, flat_map}
use Rattle.std.proofs.lemmas.Int.{ints}
use Rattle.std.proofs.lemmas.Bool.{ltb-true, ltb-false}
use Rattle.std.proofs.lemmas.Grind.{flat_map-append}
use Rattle.nk_base.specs.declared.number.Ty.{Ty}
use Rattle.nml_tree.specs.declared.names.Name.{Name}
use Rattle.nml_tree.specs.Formula as formula
use Rattle.nml_tree.specs.Formula.{Formula}
use Rattle.nml_tree.specs.Block as block
use Rattle.nml_tree.specs.Block.{Block, Index}
use Rattle.nml_tree.specs.Table.{Text, Declared, declared}
use Rattle.nml_tree.specs.Inside.{inside, inside_index, inside_block, as_read, start}
use Rattle.nml_tree.specs.Places.{when}
use Rattle.nml_tree.specs.Worth.{Cap, UpTo, Uncapped, Untold, Scope, of_name, worth}
use Rattle.nml_tree.specs.WidthFault.{is_below, node_widths, index_places, assigned}
use Rattle.nml_tree.specs.TypeFault.{is_read_rightly, may_have_index}
use Rattle.nml_tree.specs.Written as written
use Rattle.nml_tree.specs.Written.{term}
use Rattle.nml_tree.specs.Value.{View, value}
use Rattle.nml_widths.proofs.Holds.{holds_fits}
use Rattle.nml_widths.proofs.Fits.{Within, Fits, AreRight, Named, no_left, no_right, unless_none, when_none, both_left, right_left, right_right, value_fits}
use Rattle.nml_widths.specs.Fitting.{EachValue}
use Rattle.nml_tree.specs.TypeFault.{value_places, is_named_rightly}
use Rattle.nml_tree.specs.Inside.{handed_on, inside_value}
use Rattle.nml_tree.specs.Act.{Term}
use Rattle.nml_widths.proofs.Fits.{both_right}
pub use Rattle.nml_widths.specs.Fitting.{Everywhere, EachIndex, Each, IndexBelow, Sound, PlaceBelow, PlacesBelow}

-- N7 fails at these
abbrev pub AreNarrow : Scope → List Formula → Type 0
AreNarrow s xs = flat_map (node_widths s) xs ≡ []

pub narrow_left : (s : Scope) (xs ys : List Formula) → AreNarrow s (xs ++ ys) → AreNarrow s xs
narrow_left s xs ys h = no_left (flat_map (node_widths s) xs) (flat_map (node_widths s) ys) (sym (flat_map-append (node_widths s) xs ys) ∙ h)

pub narrow_right : (s : Scope) (xs ys : List Formula) → AreNarrow s (xs ++ ys) → AreNarrow s ys
narrow_right s xs ys h = no_right (flat_map (node_widths s) xs) (flat_map (node_widths s) ys) (sym (flat_map-append (node_widths s) xs ys) ∙ h)

-- a read name with an index: what it is worth has at most 127 bits
pub record IndexedNarrow (s : Scope) : Type 0 where
  pub each : (name : Text) → may_have_index true (declared s.table name) ≡ true → (of_name s name).width ≤ 127

le_false : (n : ℕ) → nat_lt 127 n ≡ false → n ≤ 127
le_false n h = omega (arith, ltb-false 127 n h)

below_size : (c : Cap) (z : ℤ) (size : ℕ) → is_below c size ≡ true → Within c z → (pos 0 ≤ℤ z) × (unsigned_abs z < size)
below_size (UpTo c) (pos n) size h w = (w.0, omega (arith, ints, w.1, ltb-true c size h))
below_size (UpTo c) (negsuc n) size h w = absurd (omega (arith, ints, w.0))
below_size Uncapped z size h w = absurd cc
below_size Untold z size h w = absurd w

index_is_below : (s : Scope) (o : Option Declared) (i : Formula) (z : ℤ) → index_places s o i ≡ [] → Within (worth s i).cap z → (k size : ℕ) (ty : Ty) → o ≡ Some (Declared.Storage k size ty) → (pos 0 ≤ℤ z) × (unsigned_abs z < size)
index_is_below s o i z h w k size ty is =
    let e : index_places s (Some (Declared.Storage k size ty)) i ≡ [] = subst (λ d. index_places s d i ≡ []) is h in
    below_size (worth s i).cap z size (unless_none _ (start i) e) w

plainly : (s : Scope) (parts : written.Scope) (v : View) (x : Formula) → Fits (worth s x) (value v (term s.table parts x)) → (worth s x).width ≤ 127 → IndexBelow s parts v x → Sound s parts v x
plainly s parts v x f low below = record { fits = f; narrow = holds_fits low f.holds; below = below }

width_of_node : (s : Scope) (x : Formula) → when (nat_lt 127 (worth s x).width) (start x) ≡ [] → (worth s x).width ≤ 127
width_of_node s x h = le_false (worth s x).width (when_none _ (start x) h)

pub everywhere_sound : (s : Scope) (parts : written.Scope) (v : View) → Named s parts v → IndexedNarrow s → (x : Formula) → AreRight s (inside x) → AreNarrow s (inside x) → Everywhere (Sound s parts v) x
everywhere_sound s parts v n m (formula.Numeral k) h g =
    plainly s parts v (formula.Numeral k) (value_fits s parts v n (formula.Numeral k) h) (width_of_node s (formula.Numeral k) (no_left _ _ g)) tt
everywhere_sound s parts v n m (formula.Truth at b) h g =
    plainly s parts v (formula.Truth at b) (value_fits s parts v n (formula.Truth at b) h) (width_of_node s (formula.Truth at b) (no_left _ _ g)) tt
everywhere_sound s parts v n m (formula.Named k) h g =
    plainly s parts v (formula.Named k) (value_fits s parts v n (formula.Named k) h) (width_of_node s (formula.Named k) (no_left _ _ g)) tt
everywhere_sound s parts v n m (formula.Indexed k p i q) h g =
    let inner = everywhere_sound s parts v n m i (no_right _ _ h) (no_right _ _ g) in
    let f = value_fits s parts v n i (no_right _ _ h) in
    let e : is_read_rightly s true k ≡ true = unless_none (is_read_rightly s true k) k.at (no_left _ _ (no_left _ _ h)) in (
      plainly s parts v (formula.Indexed k p i q) (value_fits s parts v n (formula.Indexed k p i q) h) (m.each k.text (both_left _ _ (both_left _ _ e)))
          (index_is_below s (declared s.table k.text) i (value v (term s.table parts i)) (no_left _ _ g) f.within),
      inner,
    )
everywhere_sound s parts v n m (formula.Paren p x q) h g =
    (plainly s parts v (formula.Paren p x q) (value_fits s parts v n (formula.Paren p x q) h) (width_of_node s (formula.Paren p x q) (no_left _ _ g)) tt, everywhere_sound s parts v n m x h (no_right _ _ g))
everywhere_sound s parts v n m (formula.Fitted f at p k c x q) h g = (
  plainly s parts v (formula.Fitted f at p k c x q) (value_fits s parts v n (formula.Fitted f at p k c x q) h) (width_of_node s (formula.Fitted f at p k c x q) (no_left _ _ g)) tt,
  everywhere_sound s parts v n m x (no_right _ _ h) (no_right _ _ g),
)
everywhere_sound s parts v n m (formula.Bits at p x c high d low q) h g = (
  plainly s parts v (formula.Bits at p x c high d low q) (value_fits s parts v n (formula.Bits at p x c high d low q) h) (width_of_node s (formula.Bits at p x c high d low q) (no_left _ _ g)) tt,
  everywhere_sound s parts v n m x (no_right _ _ h) (no_right _ _ g),
)
everywhere_sound s parts v n m (formula.Choose at c t x f y end) h g =
    let behind = no_right _ _ h in
    let narrow = no_right _ _ g in
    let first = right_left s (inside c ++ inside x) (inside y) behind in
    let first_narrow = narrow_left s (inside c ++ inside x) (inside y) narrow in (
      plainly s parts v (formula.Choose at c t x f y end) (value_fits s parts v n (formula.Choose at c t x f y end) h) (width_of_node s (formula.Choose at c t x f y end) (no_left _ _ g)) tt,
      everywhere_sound s parts v n m c (right_left s (inside c) (inside x) first) (narrow_left s (inside c) (inside x) first_narrow),
      everywhere_sound s parts v n m x (right_right s (inside c) (inside x) first) (narrow_right s (inside c) (inside x) first_narrow),
      everywhere_sound s parts v n m y (right_right s (inside c ++ inside x) (inside y) behind) (narrow_right s (inside c ++ inside x) (inside y) narrow),
    )
everywhere_sound s parts v n m (formula.Unary op at x) h g = (
  plainly s parts v (formula.Unary op at x) (value_fits s parts v n (formula.Unary op at x) h) (width_of_node s (formula.Unary op at x) (no_left _ _ g)) tt,
  everywhere_sound s parts v n m x (no_right _ _ h) (no_right _ _ g),
)
everywhere_sound s parts v n m (formula.Binary op x at y) h g =
    let behind = no_right _ _ h in
    let narrow = no_right _ _ g in (
      plainly s parts v (formula.Binary op x at y) (value_fits s parts v n (formula.Binary op x at y) h) (width_of_node s (formula.Binary op x at y) (no_left _ _ g)) tt,
      everywhere_sound s parts v n m x (right_left s (inside x) (inside y) behind) (narrow_left s (inside x) (inside y) narrow),
      everywhere_sound s parts v n m y (right_right s (inside x) (inside y) behind) (narrow_right s (inside x) (inside y) narrow),
    )

index_sound : (s : Scope) (parts : written.Scope) (v : View) → Named s parts v → IndexedNarrow s → (i : Index) → AreRight s (inside_index i) → AreNarrow s (inside_index i) → EachIndex (Everywhere (Sound s parts v)) i
index_sound s parts v n m None h g = tt
index_sound s parts v n m (Some (p, i, q)) h g = everywhere_sound s parts v n m i h g

pub block_sound : (s : Scope) (parts : written.Scope) (v : View) → Named s parts v → IndexedNarrow s → (b : Block) → AreRight s (inside_block b) → AreNarrow s (inside_block b) → Each (Everywhere (Sound s parts v)) b
block_sound s parts v n m block.Done h g = tt
block_sound s parts v n m (block.Assign k i at e semicolon rest) h g =
    let first = right_left s (inside_index i ++ inside e) (inside_block rest) h in
    let narrow = narrow_left s (inside_index i ++ inside e) (inside_block rest) g in (
      index_sound s parts v n m i (right_left s (inside_index i) (inside e) first) (narrow_left s (inside_index i) (inside e) narrow),
      everywhere_sound s parts v n m e (right_right s (inside_index i) (inside e) first) (narrow_right s (inside_index i) (inside e) narrow),
      block_sound s parts v n m rest (right_right s (inside_index i ++ inside e) (inside_block rest) h) (narrow_right s (inside_index i ++ inside e) (inside_block rest) g),
    )
block_sound s parts v n m (block.Part k dot at semicolon rest) h g = block_sound s parts v n m rest h g
block_sound s parts v n m (block.Halt at p e q semicolon rest) h g = (
  everywhere_sound s parts v n m e (right_left s (inside e) (inside_block rest) h) (narrow_left s (inside e) (inside_block rest) g),
  block_sound s parts v n m rest (right_right s (inside e) (inside_block rest) h) (narrow_right s (inside e) (inside_block rest) g),
)
block_sound s parts v n m (block.If at c t xs end semicolon rest) h g =
    let first = right_left s (inside c ++ inside_block xs) (inside_block rest) h in
    let narrow = narrow_left s (inside c ++ inside_block xs) (inside_block rest) g in (
      everywhere_sound s parts v n m c (right_left s (inside c) (inside_block xs) first) (narrow_left s (inside c) (inside_block xs) narrow),
      block_sound s parts v n m xs (right_right s (inside c) (inside_block xs) first) (narrow_right s (inside c) (inside_block xs) narrow),
      block_sound s parts v n m rest (right_right s (inside c ++ inside_block xs) (inside_block rest) h) (narrow_right s (inside c ++ inside_block xs) (inside_block rest) g),
    )
block_sound s parts v n m (block.IfElse at c t xs f ys end semicolon rest) h g =
    let first = right_left s (inside c ++ inside_block xs ++ inside_block ys) (inside_block rest) h in
    let narrow = narrow_left s (inside c ++ inside_block xs ++ inside_block ys) (inside_block rest) g in
    let second = right_left s (inside c ++ inside_block xs) (inside_block ys) first in
    let second_narrow = narrow_left s (inside c ++ inside_block xs) (inside_block ys) narrow in (
      everywhere_sound s parts v n m c (right_left s (inside c) (inside_block xs) second) (narrow_left s (inside c) (inside_block xs) second_narrow),
      block_sound s parts v n m xs (right_right s (inside c) (inside_block xs) second) (narrow_right s (inside c) (inside_block xs) second_narrow),
      block_sound s parts v n m ys (right_right s (inside c ++ inside_block xs) (inside_block ys) first) (narrow_right s (inside c ++ inside_block xs) (inside_block ys) narrow),
      block_sound s parts v n m rest (right_right s (inside c ++ inside_block xs ++ inside_block ys) (inside_block rest) h) (narrow_right s (inside c ++ inside_block xs ++ inside_block ys) (inside_block rest) g),
    )

place_below : (s : Scope) (parts : written.Scope) (v : View) → Named s parts v → (k : Name) (i : Index) → AreRight s (inside_index i) → node_widths s (as_read k i) ≡ [] → PlaceBelow s parts v k i
place_below s parts v n k None h g = tt
place_below s parts v n k (Some (p, i, q)) h g = index_is_below s (declared s.table k.text) i (value v (term s.table parts i)) g (value_fits s parts v n i h).within

pub places_below : (s : Scope) (parts : written.Scope) (v : View) → Named s parts v → (b : Block) → AreRight s (inside_block b) → AreNarrow s (assigned b) → PlacesBelow s parts v b
places_below s parts v n block.Done h g = tt
places_below s parts v n (block.Assign k i at e semicolon rest) h g =
    let first = right_left s (inside_index i ++ inside e) (inside_block rest) h in (
      place_below s parts v n k i (right_left s (inside_index i) (inside e) first) (no_left _ _ g),
      places_below s parts v n rest (right_right s (inside_index i ++ inside e) (inside_block rest) h) (no_right (node_widths s (as_read k i)) _ g),
    )
places_below s parts v n (block.Part k dot at semicolon rest) h g = places_below s parts v n rest h g
places_below s parts v n (block.Halt at p e q semicolon rest) h g = places_below s parts v n rest (right_right s (inside e) (inside_block rest) h) g
places_below s parts v n (block.If at c t xs end semicolon rest) h g =
    let first = right_left s (inside c ++ inside_block xs) (inside_block rest) h in (
      places_below s parts v n xs (right_right s (inside c) (inside_block xs) first) (narrow_left s (assigned xs) (assigned rest) g),
      places_below s parts v n rest (right_right s (inside c ++ inside_block xs) (inside_block rest) h) (narrow_right s (assigned xs) (assigned rest) g),
    )
places_below s parts v n (block.IfElse at c t xs f ys end semicolon rest) h g =
    let first = right_left s (inside c ++ inside_block xs ++ inside_block ys) (inside_block rest) h in
    let second = right_left s (inside c ++ inside_block xs) (inside_block ys) first in
    let narrow = narrow_left s (assigned xs ++ assigned ys) (assigned rest) g in (
      places_below s parts v n xs (right_right s (inside c) (inside_block xs) second) (narrow_left s (assigned xs) (assigned ys) narrow),
      places_below s parts v n ys (right_right s (inside c ++ inside_block xs) (inside_block ys) first) (narrow_right s (assigned xs) (assigned ys) narrow),
      places_below s parts v n rest (right_right s (inside c ++ inside_block xs ++ inside_block ys) (inside_block rest) h) (narrow_right s (assigned xs ++ assigned ys) (assigned rest) g),
    )

-- a mode's value, and the expressions in it
pub value_sound : (s : Scope) (parts : written.Scope) (v : View) → Named s parts v → IndexedNarrow s → (o : Option Formula) → flat_map (value_places s) (handed_on o) ≡ [] → AreRight s (inside_value o)
    → AreNarrow s (handed_on o) → AreNarrow s (inside_value o) → EachValue (Everywhere (Sound s parts v)) o
value_sound s parts v n m None a b g h = tt
value_sound s parts v n m (Some (formula.Named k)) a b g h =
    let e : is_named_rightly s false k ≡ true = unless_none _ k.at (no_left _ _ a) in
    plainly s parts v (formula.Named k) (n.each k.text (Term.Number (pos 0)) (both_right _ _ e)) (width_of_node s (formula.Named k) (no_left _ _ g)) tt
value_sound s parts v n m (Some e) a b g h = everywhere_sound s parts v n m e b h
