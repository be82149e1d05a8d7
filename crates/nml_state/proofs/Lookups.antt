-- A look-up of a name before an item gives what it gives in the whole table, and declared types have 1 to 64 bits.
use Rattle.std.proofs.Common.{◌≡◌, ℕ, zero, suc, ◌+◌, ◌≤◌, ◌<◌, ℤ, pos, negsuc, refl, ap, sym, ◌∙◌, subst, arith, List, [], ◌∷◌, ◌++◌, map, take, drop, length, get_or, Option, Some, None, Bool, true, false, cond, append-nil, append_assoc, ◌⊎◌, inl, inr, Contains}
use Rattle.std.specs.Prelude.{flat_map, if◌then◌else◌, ◌&&◌, ◌||◌, nat_le, option_map, unwrap_or, option_and_then, slice_get, int_le}
use Rattle.std.specs.List.{list_any}
use Rattle.std.specs.Map.{lookup}
use Rattle.std.proofs.lemmas.Int.{ints}
use Rattle.std.proofs.lemmas.Bool.{le-leb}
use Rattle.std.proofs.lemmas.Grind.{flat_map-append}
use Rattle.nk_base.specs.Text.{text_eq}
use Rattle.nk_base.specs.declared.number.Ty.{Ty}
use Rattle.nk_base.specs.declared.number.Ty.TheVariants as tys
use Rattle.nml_tree.specs.declared.names.Name.{Name}
use Rattle.nml_tree.specs.declared.tree.Size.{Size}
use Rattle.nml_tree.specs.declared.tree.Size.TheVariants as size
use Rattle.nml_tree.specs.declared.tree.PortWord.{PortWord}
use Rattle.nml_tree.specs.declared.tree.PortWord.TheVariants as port
use Rattle.nml_tree.specs.declared.tree.Item.{Item}
use Rattle.nml_tree.specs.declared.tree.Item.TheVariants as item
use Rattle.nml_tree.specs.declared.tree.Desc.{Desc}
use Rattle.nml_tree.specs.declared.tree.TypeExpr.{TypeExpr}
use Rattle.nml_tree.specs.declared.tree.TypeExpr.TheVariants as type_expr
use Rattle.nml_tree.specs.Table.{Text, Table, Declared, declared, table, entry, entries, constant, type_named, natural, size_number, size_of, type_of, type_or_none, port_of}
use Rattle.nml_tree.specs.Uses.{declares, parameters, uses, in_size, in_type}
use Rattle.nml_tree.specs.Places.{unless}
use Rattle.nml_tree.specs.NameFault.{is_among, is_known, may_stand_behind, unknown_places, declared_places, parameter_places, shared_places, item_name_places, name_places_from, name_places}
use Rattle.nml_tree.specs.TypeFault.{size_place, size_places, type_places, is_within, has_width, sum_of, names_type, pc_places, port_places, item_places, type_fault_places}
use Rattle.nml_tree.specs.Worth.{is_type}
use Rattle.nml_state.specs.RightTypes.{ItemRight, EachRight}
use Rattle.nml_tree.specs.Refused.{IsFreeBelow, By_name, By_type}

-- look-ups in a table that grows
kept_step : (b : Bool) (y x : Declared) (p q : Option Declared) → (p ≡ Some x → q ≡ Some x) → cond b (Some y) p ≡ Some x → cond b (Some y) q ≡ Some x
kept_step true y x p q f h = h
kept_step false y x p q f h = f h

kept_front : (t : Table) (e : Text × Declared) (name : Text) (x : Declared) → declared t name ≡ Some x → declared (t ++ e ∷ []) name ≡ Some x
kept_front [] e name x h = absurd cc
kept_front (a ∷ t) e name x h = kept_step (text_eq name a.0) a.1 x (declared t name) (declared (t ++ e ∷ []) name) (kept_front t e name x) h

pub kept : (items : List Item) (t : Table) (name : Text) (x : Declared) → declared t name ≡ Some x → declared (entries t items) name ≡ Some x
kept [] t name x h = h
kept (i ∷ items) t name x h = kept items (t ++ entry t i ∷ []) name x (kept_front t (entry t i) name x h)

none_step : (b : Bool) (y : Declared) (p q : Option Declared) → (p ≡ None → q ≡ None) → cond b (Some y) p ≡ None → cond b (Some y) q ≡ None
none_step true y p q f h = absurd cc
none_step false y p q f h = f h

none_last : (t : Table) (e : Text × Declared) (name : Text) → declared t name ≡ None → text_eq name e.0 ≡ false → declared (t ++ e ∷ []) name ≡ None
none_last [] e name h k = rw k refl
none_last (a ∷ t) e name h k = none_step (text_eq name a.0) a.1 (declared t name) (declared (t ++ e ∷ []) name) (λ g. none_last t e name g k) h

some_step : (b : Bool) (y x : Declared) (p q : Option Declared) → (p ≡ None → q ≡ Some x) → cond b (Some y) p ≡ None → cond b (Some y) q ≡ Some x
some_step true y x p q f h = absurd cc
some_step false y x p q f h = f h

some_last : (t : Table) (e : Text × Declared) (name : Text) → declared t name ≡ None → text_eq name e.0 ≡ true → declared (t ++ e ∷ []) name ≡ Some e.1
some_last [] e name h k = rw k refl
some_last (a ∷ t) e name h k = some_step (text_eq name a.0) a.1 e.1 (declared t name) (declared (t ++ e ∷ []) name) (λ g. some_last t e name g k) h

pub entries_append : (xs ys : List Item) (t : Table) → entries t (xs ++ ys) ≡ entries (entries t xs) ys
entries_append [] ys t = refl
entries_append (x ∷ xs) ys t = entries_append xs ys (t ++ entry t x ∷ [])

pub entry_name : (t : Table) (i : Item) → (entry t i).0 ≡ (declares i).text
entry_name t (item.Let at n equals minus z) = refl
entry_name t (item.Type at n equals x) = refl
entry_name t (item.Storage s) = refl
entry_name t (item.Port p) = refl
entry_name t (item.OrRule r) = refl
entry_name t (item.OpRule r) = refl
entry_name t (item.ModeRule r) = refl

-- the search for a name, item by item
pub next_none : (items : List Item) (i : ℕ) (d : Item) (name : Text) → i < length items → declared (entries [] (take i items)) name ≡ None → text_eq name (declares (get_or items i d)).text ≡ false → declared (entries [] (take (i + 1) items)) name ≡ None
next_none items i d name low none other =
    let t = entries [] (take i items) in
    let e : i + 1 ≡ suc i = omega arith in
    rw (e, take_more items i d low, entries_append (take i items) (get_or items i d ∷ []) [])
    (none_last t (entry t (get_or items i d)) name none (rw (entry_name t (get_or items i d)) other))
  where
    take_more : (xs : List Item) (i : ℕ) (d : Item) → i < length xs → take (suc i) xs ≡ take i xs ++ get_or xs i d ∷ []
    take_more [] i d low = absurd (omega (arith, low))
    take_more (x ∷ xs) zero d low = refl
    take_more (x ∷ xs) (suc i) d low = ap (λ ys. x ∷ ys) (take_more xs i d (omega (arith, low)))

pub found_here : (items : List Item) (i : ℕ) (d : Item) (name : Text) → i < length items → declared (entries [] (take i items)) name ≡ None → text_eq name (declares (get_or items i d)).text ≡ true → declared (entries [] items) name ≡ Some (entry (entries [] (take i items)) (get_or items i d)).1
found_here items i d name low none same =
    let t = entries [] (take i items) in
    let x = get_or items i d in
    let here : declared (t ++ entry t x ∷ []) name ≡ Some (entry t x).1 = some_last t (entry t x) name none (rw (entry_name t x) same) in
    let more : declared (entries t (x ∷ drop (suc i) items)) name ≡ Some (entry t x).1 = kept (drop (suc i) items) (t ++ entry t x ∷ []) name _ here in
    ap (λ u. declared u name) (ap (entries []) (split items i d low) ∙ entries_append (take i items) (x ∷ drop (suc i) items) []) ∙ more
  where
    split : (xs : List Item) (i : ℕ) (d : Item) → i < length xs → xs ≡ take i xs ++ get_or xs i d ∷ drop (suc i) xs
    split [] i d low = absurd (omega (arith, low))
    split (x ∷ xs) zero d low = refl
    split (x ∷ xs) (suc i) d low = ap (λ ys. x ∷ ys) (split xs i d (omega (arith, low)))

pub none_found : (items : List Item) (i : ℕ) (name : Text) → length items ≤ i → declared (entries [] (take i items)) name ≡ None → declared (entries [] items) name ≡ None
none_found items i name low none = ap (λ xs. declared (entries [] xs) name) (sym (take_all items i low)) ∙ none
  where
    take_all : (xs : List Item) (i : ℕ) → length xs ≤ i → take i xs ≡ xs
    take_all [] zero low = refl
    take_all [] (suc i) low = refl
    take_all (x ∷ xs) zero low = absurd (omega (arith, low))
    take_all (x ∷ xs) (suc i) low = ap (λ ys. x ∷ ys) (take_all xs i (omega (arith, low)))

-- what N4 says of the names of an item
no_left : (xs ys : List ℕ) → xs ++ ys ≡ [] → xs ≡ []
no_left [] ys h = refl
no_left (x ∷ xs) ys h = absurd cc

no_right : (xs ys : List ℕ) → xs ++ ys ≡ [] → ys ≡ []
no_right [] ys h = h
no_right (x ∷ xs) ys h = absurd cc

unless_none : (b : Bool) (at : ℕ) → unless b at ≡ [] → b ≡ true
unless_none true at h = refl
unless_none false at h = absurd cc

none_from : (xs : List ℕ) → ((at : ℕ) → Contains xs at → ⊥) → xs ≡ []
none_from [] h = refl
none_from (x ∷ xs) h = absurd (h x (0, omega arith, refl))

or_none : (a b : Bool) → (a || b) ≡ false → (a ≡ false) × (b ≡ false)
or_none true b h = absurd cc
or_none false b h = (refl, h)

or_one : (a b : Bool) → (a || b) ≡ true → (a ≡ true) ⊎ (b ≡ true)
or_one true b h = inl refl
or_one false b h = inr h

not_declared : (earlier : List Item) (t : Table) (name : Text) → is_among name (map declares earlier) ≡ false → declared t name ≡ None → declared (entries t earlier) name ≡ None
not_declared [] t name h none = none
not_declared (i ∷ earlier) t name h none =
    let a = or_none (text_eq name (declares i).text) (is_among name (map declares earlier)) h in
    not_declared earlier (t ++ entry t i ∷ []) name a.1 (none_last t (entry t i) name none (rw (entry_name t i) a.0))

is_there : (earlier : List Item) (t : Table) (name : Text) (o : Option Declared) → declared t name ≡ o → is_among name (map declares earlier) ≡ true → (x : Declared) × (declared (entries t earlier) name ≡ Some x)
is_there [] t name o is h = absurd cc
is_there (i ∷ earlier) t name (Some x) is h = (x, kept (i ∷ earlier) t name x is)
is_there (i ∷ earlier) t name None is h =
    elim (or_one (text_eq name (declares i).text) (is_among name (map declares earlier)) h) [
      | inl here ↦ ((entry t i).1, kept earlier (t ++ entry t i ∷ []) name _ (some_last t (entry t i) name is (rw (entry_name t i) here)))
      | inr later ↦ is_there earlier (t ++ entry t i ∷ []) name _ refl later
    ]

no_constant : (o : Option Declared) → may_stand_behind o ≡ true → (option_and_then constant o ≡ None) × (option_and_then type_named o ≡ None)
no_constant None h = absurd cc
no_constant (Some (Declared.Constant z)) h = absurd cc
no_constant (Some (Declared.TypeName ty)) h = absurd cc
no_constant (Some (Declared.Storage n k ty)) h = (refl, refl)
no_constant (Some (Declared.Trn n ty)) h = (refl, refl)
no_constant (Some (Declared.Inp ty)) h = (refl, refl)
no_constant (Some (Declared.Out ty)) h = (refl, refl)
no_constant (Some (Declared.Or mode names)) h = (refl, refl)
no_constant (Some (Declared.And rule)) h = (refl, refl)

-- the two look-ups give the same `let` and the same type
abbrev Same : Table → Table → Text → Type 0
Same t whole name = (option_and_then constant (declared t name) ≡ option_and_then constant (declared whole name)) × (option_and_then type_named (declared t name) ≡ option_and_then type_named (declared whole name))

same_known : (earlier rest : List Item) (name : Text) (b : Bool) → is_among name (map declares earlier) ≡ b → (b || may_stand_behind (declared (entries [] (earlier ++ rest)) name)) ≡ true → Same (entries [] earlier) (entries [] (earlier ++ rest)) name
same_known earlier rest name true is h =
    let f = is_there earlier [] name _ refl is in
    let g : declared (entries [] (earlier ++ rest)) name ≡ Some f.0 = ap (λ u. declared u name) (entries_append earlier rest []) ∙ kept rest (entries [] earlier) name f.0 f.1 in
    (rw (f.1, g) refl, rw (f.1, g) refl)
same_known earlier rest name false is h =
    let none = not_declared earlier [] name is refl in
    let n = no_constant _ h in
    (rw none (sym n.0), rw none (sym n.1))

-- an item without parameters, before which these stand
abbrev Unknowns : Table → List Item → Item → List Name → List ℕ
Unknowns whole earlier i names = flat_map (λ n. unless (is_known whole earlier i n) n.at) names

same_name : (earlier rest : List Item) (i : Item) (n : Name) → parameters i ≡ [] → Unknowns (entries [] (earlier ++ rest)) earlier i (n ∷ []) ≡ [] → Same (entries [] earlier) (entries [] (earlier ++ rest)) n.text
same_name earlier rest i n alone h =
    let known = unless_none _ n.at (no_left _ [] h) in
    let e : (is_among n.text (map declares earlier) || may_stand_behind (declared (entries [] (earlier ++ rest)) n.text)) ≡ true = rw alone at known in
    same_known earlier rest n.text _ refl e

same_size : (earlier rest : List Item) (i : Item) (n : Size) → parameters i ≡ [] → Unknowns (entries [] (earlier ++ rest)) earlier i (in_size n) ≡ [] → size_number (entries [] earlier) n ≡ size_number (entries [] (earlier ++ rest)) n
same_size earlier rest i (size.Number z) alone h = refl
same_size earlier rest i (size.Name n) alone h = (same_name earlier rest i n alone h).0

unknown_left : (whole : Table) (earlier : List Item) (i : Item) (xs ys : List Name) → Unknowns whole earlier i (xs ++ ys) ≡ [] → (Unknowns whole earlier i xs ≡ []) × (Unknowns whole earlier i ys ≡ [])
unknown_left whole earlier i xs ys h =
    let e = sym (flat_map-append (λ n. unless (is_known whole earlier i n) n.at) xs ys) ∙ h in
    (no_left _ (Unknowns whole earlier i ys) e, no_right (Unknowns whole earlier i xs) _ e)

-- types
natural_within : (o : Option ℤ) (least most : ℕ) → is_within least most o ≡ true → (n : ℕ) × (o ≡ Some (pos n)) × (least ≤ n) × (n ≤ most)
natural_within None least most h = absurd cc
natural_within (Some (pos n)) least most h =
    (n, refl, omega (arith, ints, both_left (int_le (pos least) (pos n)) (int_le (pos n) (pos most)) h), omega (arith, ints, both_right (int_le (pos least) (pos n)) (int_le (pos n) (pos most)) h))
  where
    both_left : (a b : Bool) → (a && b) ≡ true → a ≡ true
    both_left true b h = refl
    both_left false b h = absurd cc

    both_right : (a b : Bool) → (a && b) ≡ true → b ≡ true
    both_right true b h = h
    both_right false b h = absurd cc
natural_within (Some (negsuc n)) least most h =
    absurd (omega (arith, ints, both_left (int_le (pos least) (negsuc n)) (int_le (negsuc n) (pos most)) h))
  where
    both_left : (a b : Bool) → (a && b) ≡ true → a ≡ true
    both_left true b h = refl
    both_left false b h = absurd cc

is_width : (n : ℕ) → 1 ≤ n → n ≤ 64 → (nat_le 1 n && nat_le n 64) ≡ true
is_width n low high = let a : nat_le 1 n ≡ true = le-leb 1 n low in let b : nat_le n 64 ≡ true = le-leb n 64 high in rw (a, b) refl

wide : (o : Option ℤ) (n at : ℕ) → o ≡ Some (pos n) → unless (has_width o) at ≡ [] → (nat_le 1 n && nat_le n 64) ≡ true
wide o n at is h =
    let w : is_within 1 64 (Some (pos n)) ≡ true = subst (λ p. has_width p ≡ true) is (unless_none _ at h) in
    let e = natural_within (Some (pos n)) 1 64 w in
    let same : e.0 ≡ n = (let f = e.1 in cc) in
    is_width n (omega (arith, e.2, same)) (omega (arith, e.3, same))

-- a type that is told, of 1 to 64 bits
abbrev IsRightType : Option Ty → Type 0
IsRightType o = (ty : Ty) × (o ≡ Some ty) × (is_type ty ≡ true)

sized_type : (o : Option ℤ) (at place : ℕ) → unless (has_width o) at ≡ [] → unless (is_within 1 65536 o) place ≡ [] → (n : ℕ) × (o ≡ Some (pos n)) × ((nat_le 1 n && nat_le n 64) ≡ true)
sized_type o at place w s = let e = natural_within o 1 65536 (unless_none _ place s) in (e.0, e.1, wide o e.0 at e.1 w)

card_is : (o : Option ℤ) (n : ℕ) → o ≡ Some (pos n) → option_map tys.Card (option_and_then natural o) ≡ Some (tys.Card n)
card_is o n is = rw is refl

int_is : (o : Option ℤ) (n : ℕ) → o ≡ Some (pos n) → option_map tys.Int (option_and_then natural o) ≡ Some (tys.Int n)
int_is o n is = rw is refl

fix_is : (o p : Option ℤ) (n m : ℕ) → o ≡ Some (pos n) → p ≡ Some (pos m) → option_and_then (λ a. option_map (λ b. tys.Int (a + b)) (option_and_then natural p)) (option_and_then natural o) ≡ Some (tys.Int (n + m))
fix_is o p n m is same = rw (is, same) refl

sum_is : (o p : Option ℤ) (n m : ℕ) → o ≡ Some (pos n) → p ≡ Some (pos m) → sum_of o p ≡ Some (pos (n + m))
sum_is o p n m is same = rw (is, same) refl

fix_type : (o p : Option ℤ) (at first second : ℕ) → unless (has_width (sum_of o p)) at ≡ [] → unless (is_within 1 65536 o) first ≡ [] → unless (is_within 0 65536 p) second ≡ []
    → IsRightType (option_and_then (λ a. option_map (λ b. tys.Int (a + b)) (option_and_then natural p)) (option_and_then natural o))
fix_type o p at first second w f s =
    let a = natural_within o 1 65536 (unless_none _ first f) in
    let b = natural_within p 0 65536 (unless_none _ second s) in
    (tys.Int (a.0 + b.0), fix_is o p a.0 b.0 a.1 b.1, wide (sum_of o p) (a.0 + b.0) at (sum_is o p a.0 b.0 a.1 b.1) w)

fix_same : (o p q r : Option ℤ) → o ≡ q → p ≡ r → IsRightType (option_and_then (λ a. option_map (λ b. tys.Int (a + b)) (option_and_then natural r)) (option_and_then natural q)) → IsRightType (option_and_then (λ a. option_map (λ b. tys.Int (a + b)) (option_and_then natural p)) (option_and_then natural o))
fix_same o p q r s e h = rw (s, e) h

-- the declared types of a table are right
abbrev pub TypesRight : Table → Type 0
TypesRight t = (name : Text) (ty : Ty) → declared t name ≡ Some (Declared.TypeName ty) → is_type ty ≡ true

named_here : (t : Table) → TypesRight t → (name : Text) (at : ℕ) (o p : Option Declared) → declared t name ≡ o → option_and_then type_named o ≡ option_and_then type_named p → unless (names_type p) at ≡ [] → IsRightType (option_and_then type_named o)
named_here t right name at o None is e h = absurd cc
named_here t right name at o (Some (Declared.Constant z)) is e h = absurd cc
named_here t right name at o (Some (Declared.Storage n k ty)) is e h = absurd cc
named_here t right name at o (Some (Declared.Trn n ty)) is e h = absurd cc
named_here t right name at o (Some (Declared.Inp ty)) is e h = absurd cc
named_here t right name at o (Some (Declared.Out ty)) is e h = absurd cc
named_here t right name at o (Some (Declared.Or mode names)) is e h = absurd cc
named_here t right name at o (Some (Declared.And rule)) is e h = absurd cc
named_here t right name at None (Some (Declared.TypeName ty)) is e h = absurd cc
named_here t right name at (Some (Declared.Constant z)) (Some (Declared.TypeName ty)) is e h = absurd cc
named_here t right name at (Some (Declared.Storage n k y)) (Some (Declared.TypeName ty)) is e h = absurd cc
named_here t right name at (Some (Declared.Trn n y)) (Some (Declared.TypeName ty)) is e h = absurd cc
named_here t right name at (Some (Declared.Inp y)) (Some (Declared.TypeName ty)) is e h = absurd cc
named_here t right name at (Some (Declared.Out y)) (Some (Declared.TypeName ty)) is e h = absurd cc
named_here t right name at (Some (Declared.Or mode names)) (Some (Declared.TypeName ty)) is e h = absurd cc
named_here t right name at (Some (Declared.And rule)) (Some (Declared.TypeName ty)) is e h = absurd cc
named_here t right name at (Some (Declared.TypeName y)) (Some (Declared.TypeName ty)) is e h = (y, refl, right name y is)

type_here : (earlier rest : List Item) (i : Item) (e : TypeExpr) → TypesRight (entries [] earlier) → parameters i ≡ [] → Unknowns (entries [] (earlier ++ rest)) earlier i (in_type e) ≡ [] → type_places (entries [] (earlier ++ rest)) e ≡ [] → IsRightType (type_of (entries [] earlier) e)
type_here earlier rest i (type_expr.Bool at) right alone known h = (tys.Bool, refl, refl)
type_here earlier rest i (type_expr.Card at p n q) right alone known h =
    let s = same_size earlier rest i n alone known in
    let t = sized_type (size_number (entries [] (earlier ++ rest)) n) at (size_place n) (no_left _ _ h) (no_right (unless (has_width (size_number (entries [] (earlier ++ rest)) n)) at) _ h) in
    (tys.Card t.0, card_is _ t.0 (s ∙ t.1), t.2)
type_here earlier rest i (type_expr.Int at p n q) right alone known h =
    let s = same_size earlier rest i n alone known in
    let t = sized_type (size_number (entries [] (earlier ++ rest)) n) at (size_place n) (no_left _ _ h) (no_right (unless (has_width (size_number (entries [] (earlier ++ rest)) n)) at) _ h) in
    (tys.Int t.0, int_is _ t.0 (s ∙ t.1), t.2)
type_here earlier rest i (type_expr.Fix at p n c m q) right alone known h =
    let whole = entries [] (earlier ++ rest) in
    let both = unknown_left whole earlier i (in_size n) (in_size m) known in
    let s = same_size earlier rest i n alone both.0 in
    let r = same_size earlier rest i m alone both.1 in
    let front : unless (has_width (sum_of (size_number whole n) (size_number whole m))) at ++ unless (is_within 1 65536 (size_number whole n)) (size_place n) ≡ [] = no_left _ _ h in
    let last : unless (is_within 0 65536 (size_number whole m)) (size_place m) ≡ [] = no_right (unless (has_width (sum_of (size_number whole n) (size_number whole m))) at ++ unless (is_within 1 65536 (size_number whole n)) (size_place n)) _ h in
    fix_same _ _ _ _ s r (fix_type (size_number whole n) (size_number whole m) at (size_place n) (size_place m) (no_left _ _ front) (no_right (unless (has_width (sum_of (size_number whole n) (size_number whole m))) at) _ front) last)
type_here earlier rest i (type_expr.Float at p n c m q) right alone known h = absurd cc
type_here earlier rest i (type_expr.Name n) right alone known h =
    let s = same_name earlier rest i n alone known in
    named_here (entries [] earlier) right n.text n.at _ (declared (entries [] (earlier ++ rest)) n.text) refl s.1 h

or_none_type : (t : Table) (e : TypeExpr) → IsRightType (type_of t e) → is_type (type_or_none t e) ≡ true
or_none_type t e h = rw h.1 h.2

item_right : (earlier rest : List Item) (i : Item) → TypesRight (entries [] earlier) → unknown_places (entries [] (earlier ++ rest)) earlier i ≡ [] → item_places (entries [] (earlier ++ rest)) i ≡ [] → ItemRight (entries [] earlier) i
item_right earlier rest (item.Let at n equals minus z) right known h = tt
item_right earlier rest (item.Type at n equals e) right known h = or_none_type _ e (type_here earlier rest (item.Type at n equals e) e right refl known h)
item_right earlier rest (item.Storage s) right known h =
    let whole = entries [] (earlier ++ rest) in
    let types : type_places whole s.ty ≡ [] = no_right (size_places whole 1 s.size) _ (no_left _ _ h) in
    or_none_type _ s.ty (type_here earlier rest (item.Storage s) s.ty right refl (unknown_left whole earlier (item.Storage s) (in_size s.size) (in_type s.ty) known).1 types)
item_right earlier rest (item.Port p) right known h = or_none_type _ p.ty (type_here earlier rest (item.Port p) p.ty right refl known (no_left _ _ h))
item_right earlier rest (item.OrRule r) right known h = tt
item_right earlier rest (item.OpRule r) right known h = tt
item_right earlier rest (item.ModeRule r) right known h = tt

last_step : (b : Bool) (y x : Declared) (o p : Option Declared) (Q : Type 0) → (p ≡ Some x → (o ≡ Some x) ⊎ Q) → cond b (Some y) p ≡ Some x → (cond b (Some y) o ≡ Some x) ⊎ Q
last_step true y x o p Q f h = inl h
last_step false y x o p Q f h = f h

last_here : (b : Bool) (y x : Declared) → cond b (Some y) None ≡ Some x → y ≡ x
last_here true y x h = cc
last_here false y x h = absurd cc

pub lookup_last : (t : Table) (e : Text × Declared) (name : Text) (x : Declared) → declared (t ++ e ∷ []) name ≡ Some x → (declared t name ≡ Some x) ⊎ (e.1 ≡ x)
lookup_last [] e name x h = inr (last_here (text_eq name e.0) e.1 x h)
lookup_last (a ∷ t) e name x h = last_step (text_eq name a.0) a.1 x (declared t name) (declared (t ++ e ∷ []) name) _ (lookup_last t e name x) h

no_port_type : (t : Table) (w : PortWord) (ty x : Ty) → port_of t w ty ≡ Declared.TypeName x → ⊥
no_port_type t (port.Trn at) ty x h = cc
no_port_type t (port.Inp at) ty x h = cc
no_port_type t (port.Out at) ty x h = cc

entry_right : (t : Table) (i : Item) (ty : Ty) → ItemRight t i → (entry t i).1 ≡ Declared.TypeName ty → is_type ty ≡ true
entry_right t (item.Let at n equals minus z) ty h e = absurd cc
entry_right t (item.Type at n equals x) ty h e = let same : type_or_none t x ≡ ty = cc in subst (λ y. is_type y ≡ true) same h
entry_right t (item.Storage s) ty h e = absurd cc
entry_right t (item.Port p) ty h e = absurd (no_port_type t p.word _ ty e)
entry_right t (item.OrRule r) ty h e = absurd cc
entry_right t (item.OpRule r) ty h e = absurd cc
entry_right t (item.ModeRule r) ty h e = absurd cc

types_next : (t : Table) (i : Item) → TypesRight t → ItemRight t i → TypesRight (t ++ entry t i ∷ [])
types_next t i right h name ty is = elim (lookup_last t (entry t i) name _ is) [ inl old ↦ right name ty old | inr new ↦ entry_right t i ty h new ]

each_from : (items earlier : List Item) (all : List Item) → all ≡ earlier ++ items → TypesRight (entries [] earlier) → name_places_from (entries [] all) all earlier items ≡ [] → flat_map (item_places (entries [] all)) items ≡ [] → EachRight (entries [] earlier) items
each_from [] earlier all is right names types = tt
each_from (i ∷ items) earlier all is right names types =
    let here : item_name_places (entries [] all) all earlier i ≡ [] = no_left _ _ names in
    let known : unknown_places (entries [] all) earlier i ≡ [] = no_left _ _ (no_left _ _ (no_left _ _ here)) in
    let places : item_places (entries [] all) i ≡ [] = no_left _ _ types in
    let one : ItemRight (entries [] earlier) i = item_right earlier (i ∷ items) i right (subst (λ xs. unknown_places (entries [] xs) earlier i ≡ []) is known) (subst (λ xs. item_places (entries [] xs) i ≡ []) is places) in
    let next : entries [] (earlier ++ i ∷ []) ≡ entries [] earlier ++ entry (entries [] earlier) i ∷ [] = entries_append earlier (i ∷ []) [] in
    let more = each_from items (earlier ++ i ∷ []) all (is ∙ sym (append_assoc earlier (i ∷ []) items)) (subst TypesRight (sym next) (types_next (entries [] earlier) i right one)) (no_right (item_name_places (entries [] all) all earlier i) _ names) (no_right (item_places (entries [] all) i) _ types) in
    (one, subst (λ t. EachRight t items) next more)

-- where N4 and N6 fail
pub each_right : (d : Desc) → IsFreeBelow 8 d → EachRight [] d.items
each_right d free =
    let names : name_places d ≡ [] = none_from (name_places d) (λ at c. free 4 (omega arith) (By_name at c)) in
    let types : type_fault_places d ≡ [] = none_from (type_fault_places d) (λ at c. free 6 (omega arith) (By_type at c)) in
    each_from d.items [] d.items refl (λ name ty is. absurd cc) names types

pub each_at : (items : List Item) (t : Table) (i : ℕ) (d : Item) → EachRight t items → i < length items → ItemRight (entries t (take i items)) (get_or items i d)
each_at [] t i d h low = absurd (omega (arith, low))
each_at (x ∷ items) t zero d h low = h.0
each_at (x ∷ items) t (suc i) d h low = each_at items (t ++ entry t x ∷ []) i d h.1 (omega (arith, low))

pub entries_next : (items : List Item) (i : ℕ) (d : Item) → i < length items → entries [] (take (i + 1) items) ≡ entries [] (take i items) ++ entry (entries [] (take i items)) (get_or items i d) ∷ []
entries_next items i d low = let e : i + 1 ≡ suc i = omega arith in ap (λ k. entries [] (take k items)) e ∙ next items [] i d low
  where
    next : (items : List Item) (t : Table) (i : ℕ) (d : Item) → i < length items → entries t (take (suc i) items) ≡ entries t (take i items) ++ entry (entries t (take i items)) (get_or items i d) ∷ []
    next [] t i d low = absurd (omega (arith, low))
    next (x ∷ items) t zero d low = refl
    next (x ∷ items) t (suc i) d low = next items (t ++ entry t x ∷ []) i d (omega (arith, low))

pub entries_all : (items : List Item) (i : ℕ) → length items ≤ i → entries [] (take i items) ≡ entries [] items
entries_all items i low = ap (entries []) (take_all items i low)
  where
    take_all : (xs : List Item) (i : ℕ) → length xs ≤ i → take i xs ≡ xs
    take_all [] zero low = refl
    take_all [] (suc i) low = refl
    take_all (x ∷ xs) zero low = absurd (omega (arith, low))
    take_all (x ∷ xs) (suc i) low = ap (λ ys. x ∷ ys) (take_all xs i (omega (arith, low)))
