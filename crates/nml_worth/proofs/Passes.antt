-- What rules are worth, found in an order in which each stands behind those that it names.
use Rattle.std.proofs.Common.{◌≡◌, ℕ, zero, suc, ◌+◌, ◌<◌, ◌≤◌, true, List, [], ◌∷◌, map, length, slice_get, Option, Some, None, refl, ap, sym, subst, ◌∙◌, arith, option_map, ◌⊎◌, inl, inr, set, get_or}
use Rattle.std.specs.Prelude.{slice_index_or, unwrap_or, option_and_then}
use Rattle.std.proofs.lemmas.Option.{slice_get_within, slice_get_read}
use Rattle.nk_base.specs.declared.number.Ty.{Ty}
use Rattle.nml_tree.specs.declared.tree.TypeExpr.{TypeExpr}
use Rattle.nml_tree.specs.declared.tree.TypeExpr.TheVariants as type_expr
use Rattle.nml_tree.specs.declared.tree.Item.{Item}
use Rattle.nml_tree.specs.declared.tree.Item.TheVariants as item
use Rattle.nml_tree.specs.declared.tree.Desc.{Desc}
use Rattle.nml_tree.specs.Reach.{CycleFault}
use Rattle.nml_tree.specs.Refused.{IsFreeBelow, By_cycle}
use Rattle.nml_tree.specs.NameFault as faults
use Rattle.nml_tree.specs.Table as tables
use Rattle.nml_tree.specs.Table.{Text, Declared, declared, table, parameter_of, pars_of, rule_of, is_mode_word}
use Rattle.nml_tree.specs.Worth.{is_rule, rule_worth, of_rule}
use Rattle.nml_tree.proofs.RuleWorth.{rule_worth_is}
use Rattle.nml_names.specs.Below.{below, graph, first_number, rule_number, part}
use Rattle.graphs.specs.Graphs.{IsOrder, Edge, Among, row}
use Rattle.nml_names.specs.Naming.{declaration}
use Rattle.nml_names.proofs.RuleNames.{first_item, rule_part, only_rule, declared_rule, Stands, numbered, alternatives_have, parts_have, IsPartOf, is_part_of, some_same}
use Rattle.nml_worth.specs.declared.worth.Worth.{Worth}
use Rattle.nml_worth.specs.Around.{Place, number_or_none, IsKnown, PartsKnown, AreWorths, of_item, BelowKnown}
use Rattle.nml_worth.specs.Shown.{shown}

-- what rules are worth is kept by the number of the item
abbrev pub ItemRight : Desc → List Worth → ℕ → Type 0
ItemRight d worths n = (name : Text) → is_rule (declared (table d) name) ≡ true → number_or_none d name ≡ n → slice_get worths n ≡ Some (shown (rule_worth (table d) name))

-- of the items that stand before a place of the order it is
pub record Passed (d : Desc) (order : List ℕ) (p : ℕ) (worths : List Worth) : Type 0 where
  pub right : (q : ℕ) → q < p → ItemRight d worths (slice_index_or order q 0)
  pub long : length worths ≡ length d.items

-- a rule stands at its number
some_rule : (o : Option Declared) → is_rule o ≡ true → (x : Declared) × (option_and_then only_rule o ≡ Some x) × (o ≡ Some x)
some_rule None h = absurd cc
some_rule (Some (Declared.Constant z)) h = absurd cc
some_rule (Some (Declared.TypeName t)) h = absurd cc
some_rule (Some (Declared.Storage n k t)) h = absurd cc
some_rule (Some (Declared.Trn n t)) h = absurd cc
some_rule (Some (Declared.Inp t)) h = absurd cc
some_rule (Some (Declared.Out t)) h = absurd cc
some_rule (Some (Declared.Or mode ns)) h = (Declared.Or mode ns, refl, refl)
some_rule (Some (Declared.And r)) h = (Declared.And r, refl, refl)

-- the item of a rule
pub record RuleHere (d : Desc) (name : Text) (n : ℕ) : Type 0 where
  pub stands : Stands d.items 0 name n
  pub what : Declared
  pub part : rule_part stands.what ≡ Some what
  pub is : declared (table d) name ≡ Some what
  pub number : number_or_none d name ≡ n

here_at : (d : Desc) (name : Text) (x : Declared) (o : Option Item) → declared (table d) name ≡ Some x → first_item d.items name ≡ o → option_and_then rule_part o ≡ Some x → (n : ℕ) × RuleHere d name n
here_at d name x None is first h = absurd cc
here_at d name x (Some i) is first h =
    let s = numbered d.items 0 name i first in
    let same : s.1.what ≡ i = some_same _ _ (sym s.1.first ∙ first) in
    let l = s.1.number in
    let place : s.1.known.first ≡ s.0 = omega (arith, l) in (
      s.0,
      record {
        stands = s.1;
        what = x;
        part = ap rule_part same ∙ h;
        is = is;
        number = ap (λ o. unwrap_or (option_map (λ k. k.first) o) 0) s.1.is ∙ place;
      },
    )

pub rule_here : (d : Desc) (name : Text) → is_rule (declared (table d) name) ≡ true → (n : ℕ) × RuleHere d name n
rule_here d name h =
    let x = some_rule (declared (table d) name) h in
    here_at d name x.0 (first_item d.items name) x.2 refl (sym (declared_rule d name) ∙ x.1)

-- what an item that is a rule declares is worth what the item is
item_is : (d : Desc) (i : Item) (x : Declared) → rule_part i ≡ Some x → of_rule (table d) (rule_worth (table d)) (Some x) ≡ of_item d i
item_is d (item.Let at n equals minus z) x h = absurd cc
item_is d (item.Type at n equals e) x h = absurd cc
item_is d (item.Storage s) x h = absurd cc
item_is d (item.Port p) x h = absurd cc
item_is d (item.OrRule r) x h = ap (λ o. of_rule (table d) (rule_worth (table d)) o) (sym h)
item_is d (item.OpRule r) x h = ap (λ o. of_rule (table d) (rule_worth (table d)) o) (sym h)
item_is d (item.ModeRule r) x h = ap (λ o. of_rule (table d) (rule_worth (table d)) o) (sym h)

pub no_cycle : (d : Desc) → IsFreeBelow 6 d → (r : Text) → CycleFault (table d) r → ⊥
no_cycle d free r c = free 5 (omega arith) (By_cycle r c)

worth_here : (d : Desc) → IsFreeBelow 6 d → (name : Text) (n : ℕ) (s : RuleHere d name n) → rule_worth (table d) name ≡ of_item d s.stands.what
worth_here d free name n s =
    rule_worth_is (table d) (no_cycle d free) name ∙ ap (of_rule (table d) (rule_worth (table d))) s.is ∙ item_is d s.stands.what s.what s.part

-- lists with one element set
set_at : {A : Type 0} (xs : List A) (n : ℕ) (x : A) → n < length xs → slice_get (set xs n x) n ≡ Some x
set_at [] n x low = absurd (omega (arith, low))
set_at (y ∷ xs) zero x low = refl
set_at (y ∷ xs) (suc n) x low = set_at xs n x (omega (arith, low))

set_off : {A : Type 0} (xs : List A) (n m : ℕ) (x : A) → (n ≡ m → ⊥) → slice_get (set xs n x) m ≡ slice_get xs m
set_off [] n m x other = refl
set_off (y ∷ xs) zero zero x other = absurd (other refl)
set_off (y ∷ xs) zero (suc m) x other = refl
set_off (y ∷ xs) (suc n) zero x other = refl
set_off (y ∷ xs) (suc n) (suc m) x other = set_off xs n m x (λ e. other (ap suc e))

either_number : (n m : ℕ) → (n ≡ m) ⊎ (n ≡ m → ⊥)
either_number zero zero = inl refl
either_number zero (suc m) = inr (λ e. omega (arith, e))
either_number (suc n) zero = inr (λ e. omega (arith, e))
either_number (suc n) (suc m) = elim (either_number n m) [ inl e ↦ inl (ap suc e) | inr f ↦ inr (λ e. f (let g : n ≡ m = omega (arith, e) in g)) ]

-- one more item is right
item_right : (d : Desc) → IsFreeBelow 6 d → (worths : List Worth) (n : ℕ) (i : Item) (w : Worth) → length worths ≡ length d.items → n < length d.items → slice_get d.items n ≡ Some i → w ≡ shown (of_item d i)
    → ItemRight d (set worths n w) n
item_right d free worths n i w long low at is name rule number =
    let s = rule_here d name rule in
    let same : s.0 ≡ n = sym s.1.number ∙ number in
    let what : s.1.stands.what ≡ i = some_same _ _ (sym s.1.stands.at ∙ ap (slice_get d.items) same ∙ at) in
    let e : w ≡ shown (rule_worth (table d) name) = is ∙ ap (λ j. shown (of_item d j)) (sym what) ∙ ap shown (sym (worth_here d free name s.0 s.1)) in
    set_at worths n w (omega (arith, long, low)) ∙ ap Some e

length_kept : {A : Type 0} (xs : List A) (n : ℕ) (x : A) → length (set xs n x) ≡ length xs
length_kept [] n x = refl
length_kept (y ∷ xs) zero x = refl
length_kept (y ∷ xs) (suc n) x = ap suc (length_kept xs n x)

pub passed_more : (d : Desc) → IsFreeBelow 6 d → (order : List ℕ) (p n : ℕ) (worths : List Worth) (i : Item) (w : Worth) → Passed d order p worths → n ≡ slice_index_or order p 0 → n < length d.items → slice_get d.items n ≡ Some i → w ≡ shown (of_item d i)
    → Passed d order (p + 1) (set worths n w)
passed_more d free order p n worths i w l here low at is = record {
  right = λ q far. elim (either_number n (slice_index_or order q 0)) [
    | inl e ↦ subst (ItemRight d (set worths n w)) e (item_right d free worths n i w l.long low at is)
    | inr other ↦ λ name rule number. elim (either_number q p) [
      | inl same ↦ absurd (other (here ∙ ap (λ k. slice_index_or order k 0) (sym same)))
      | inr apart ↦ set_off worths n (slice_index_or order q 0) w other ∙ l.right q (below_more q p far apart) name rule number
    ]
  ];
  long = length_kept worths n w ∙ l.long;
}
  where
    below_more : (q m : ℕ) → q < m + 1 → (q ≡ m → ⊥) → q < m
    below_more zero zero far apart = absurd (apart refl)
    below_more zero (suc m) far apart = omega arith
    below_more (suc q) zero far apart = absurd (omega (arith, far))
    below_more (suc q) (suc m) far apart = let r = below_more q m (omega (arith, far)) (λ e. apart (ap suc e)) in omega (arith, r)

-- a number that is none of an item says nothing
pub passed_over : (d : Desc) (order : List ℕ) (p n : ℕ) (worths : List Worth) → Passed d order p worths → n ≡ slice_index_or order p 0 → (n < length d.items → ⊥) → Passed d order (p + 1) worths
passed_over d order p n worths l here high = record {
  right = λ q far name rule number. elim (either_number q p) [
    | inl same ↦ (
        let s = rule_here d name rule in
        let e : s.0 ≡ n = sym s.1.number ∙ number ∙ ap (λ k. slice_index_or order k 0) same ∙ sym here in
        absurd (high (subst (λ k. k < length d.items) e (slice_get_within d.items s.0 s.1.stands.what s.1.stands.at))))
    | inr apart ↦ l.right q (below_more q p far apart) name rule number
  ];
  long = l.long;
}
  where
    below_more : (q m : ℕ) → q < m + 1 → (q ≡ m → ⊥) → q < m
    below_more zero zero far apart = absurd (apart refl)
    below_more zero (suc m) far apart = omega arith
    below_more (suc q) zero far apart = absurd (omega (arith, far))
    below_more (suc q) (suc m) far apart = let r = below_more q m (omega (arith, far)) (λ e. apart (ap suc e)) in omega (arith, r)

pub passed_none : (d : Desc) (order : List ℕ) (worths : List Worth) → length worths ≡ length d.items → Passed d order 0 worths
passed_none d order worths long = record { right = λ q far. absurd (omega (arith, far)); long = long }

-- what an item names stands before it
row_at : (h : Item → List ℕ) (items : List Item) (n : ℕ) (i : Item) → slice_get items n ≡ Some i → row (map h items) n ≡ h i
row_at h [] n i at = absurd cc
row_at h (x ∷ items) zero i at = ap h (some_same _ _ at)
row_at h (x ∷ items) (suc n) i at = row_at h items n i at

before : (d : Desc) (order : List ℕ) (p n m : ℕ) (worths : List Worth) (i : Item) (name : Text) → IsOrder (graph d.items) order → Passed d order p worths → p < length order → n ≡ slice_index_or order p 0
    → slice_get d.items n ≡ Some i → Among (below (declaration 0 d.items) i) m → is_rule (declared (table d) name) ≡ true → number_or_none d name ≡ m → IsKnown d worths name
before d order p n m worths i name o l low here at edge rule number =
    let e : Edge (graph d.items) (slice_index_or order p 0) m = subst (λ k. Edge (graph d.items) k m) here (subst (λ r. Among r m) (sym (row_at (below (declaration 0 d.items)) d.items n i at)) edge) in
    let s = o.behind p m low e in
    let g = l.right s.0 s.1 name rule (number ∙ sym s.2) in
    subst (λ k. slice_get worths k ≡ Some (shown (rule_worth (table d) name))) (s.2 ∙ sym number) g

alternative_among : (d : Desc) (name : Text) (n : ℕ) (s : RuleHere d name n) → Among (first_number (declaration 0 d.items name)) n
alternative_among d name n s = let l = s.stands.number in rw s.stands.is (inl (omega (arith, l)))

part_is_rule : (i : Item) (x : Declared) → rule_part i ≡ Some x → faults.is_rule i ≡ true
part_is_rule (item.Let at n equals minus z) x h = absurd cc
part_is_rule (item.Type at n equals e) x h = absurd cc
part_is_rule (item.Storage s) x h = absurd cc
part_is_rule (item.Port p) x h = absurd cc
part_is_rule (item.OrRule r) x h = refl
part_is_rule (item.OpRule r) x h = refl
part_is_rule (item.ModeRule r) x h = refl

part_among : (d : Desc) (name : Text) (n : ℕ) (s : RuleHere d name n) → Among (rule_number (declaration 0 d.items name)) n
part_among d name n s =
    let l = s.stands.number in
    let r : s.stands.known.rule ≡ true = s.stands.rule ∙ part_is_rule s.stands.what s.what s.part in
    rw (s.stands.is, r) (inl (omega (arith, l)))

-- a part is a rule
no_part : (o : Option Ty) (b : Text) → option_map tables.Parameter.Field o ≡ Some (tables.Parameter.Part b) → ⊥
no_part None b h = cc
no_part (Some t) b h = cc

part_named : (name b : Text) (o : Option Declared) → tables.parameter_named name o ≡ Some (tables.Parameter.Part b) → (is_rule o ≡ true) × (name ≡ b)
part_named name b None h = absurd cc
part_named name b (Some (Declared.Constant z)) h = absurd cc
part_named name b (Some (Declared.TypeName t)) h = absurd cc
part_named name b (Some (Declared.Storage n k t)) h = absurd cc
part_named name b (Some (Declared.Trn n t)) h = absurd cc
part_named name b (Some (Declared.Inp t)) h = absurd cc
part_named name b (Some (Declared.Out t)) h = absurd cc
part_named name b (Some (Declared.Or mode ns)) h = (refl, cc)
part_named name b (Some (Declared.And r)) h = (refl, cc)

pub part_rule : (d : Desc) (e : TypeExpr) (b : Text) → parameter_of (table d) e ≡ Some (tables.Parameter.Part b) → is_rule (declared (table d) b) ≡ true
part_rule d (type_expr.Bool at) b h = absurd (no_part (tables.type_of (table d) (type_expr.Bool at)) b h)
part_rule d (type_expr.Card at p n q) b h = absurd (no_part (tables.type_of (table d) (type_expr.Card at p n q)) b h)
part_rule d (type_expr.Int at p n q) b h = absurd (no_part (tables.type_of (table d) (type_expr.Int at p n q)) b h)
part_rule d (type_expr.Fix at p n c m q) b h = absurd (no_part (tables.type_of (table d) (type_expr.Fix at p n c m q)) b h)
part_rule d (type_expr.Float at p n c m q) b h = absurd (no_part (tables.type_of (table d) (type_expr.Float at p n c m q)) b h)
part_rule d (type_expr.Name x) b h =
    let r = part_named x.text b (declared (table d) x.text) h in
    subst (λ y. is_rule (declared (table d) y) ≡ true) r.1 r.0

-- all that is below the item is known
pub below_known : (d : Desc) (order : List ℕ) (p n : ℕ) (worths : List Worth) (i : Item) → IsOrder (graph d.items) order → Passed d order p worths → p < length order → n ≡ slice_index_or order p 0
    → slice_get d.items n ≡ Some i → BelowKnown d worths i
below_known d order p n worths (item.Let at m equals minus z) o l low here stands = tt
below_known d order p n worths (item.Type at m equals e) o l low here stands = tt
below_known d order p n worths (item.Storage s) o l low here stands = tt
below_known d order p n worths (item.Port q) o l low here stands = tt
below_known d order p n worths (item.OpRule r) o l low here stands = tt
below_known d order p n worths (item.OrRule r) o l low here stands = λ name c rule.
    let s = rule_here d name rule in
    before d order p n s.0 worths (item.OrRule r) name o l low here stands
    (alternatives_have (declaration 0 d.items) [] (r.first.text ∷ map (λ (bar, n). n.text) r.rest) name s.0 c (alternative_among d name s.0 s.1)) rule s.1.number
below_known d order p n worths (item.ModeRule r) o l low here stands = λ q c name is.
    let rule = part_rule d q.ty name is in
    let s = rule_here d name rule in
    let named = is_part_of (table d) q.ty name is in
    before d order p n s.0 worths (item.ModeRule r) name o l low here stands
    (parts_have (declaration 0 d.items) [] (pars_of r.pars) q s.0 c (part_at d q.ty name s.0 named s.1)) rule s.1.number
  where
    part_at : (d : Desc) (e : TypeExpr) (b : Text) (m : ℕ) → IsPartOf e b → RuleHere d b m → Among (part (declaration 0 d.items) e) m
    part_at d e b m (x, is, same) s = rw (is, same) (part_among d b m s)

length_rows : (h : Item → List ℕ) (items : List Item) → length (map h items) ≡ length items
length_rows h [] = refl
length_rows h (x ∷ items) = ap suc (length_rows h items)

-- all of them
pub all_passed : (d : Desc) (order : List ℕ) (p : ℕ) (worths : List Worth) → IsOrder (graph d.items) order → Passed d order p worths → length order ≤ p → AreWorths d worths
all_passed d order p worths o l far name rule =
    let s = rule_here d name rule in
    let w = slice_get_within d.items s.0 s.1.stands.what s.1.stands.at in
    let many = length_rows (below (declaration 0 d.items)) d.items in
    let a = o.every s.0 (omega (arith, w, many)) in
    let g = l.right a.0 (omega (arith, a.1, far)) name rule (s.1.number ∙ sym a.2) in
    subst (λ k. slice_get worths k ≡ Some (shown (rule_worth (table d) name))) (a.2 ∙ sym s.1.number) g

-- so the parts of each rule are known
pub parts_known : (s : Place) (worths : List Worth) → AreWorths s.0 worths → PartsKnown s worths
parts_known s worths are p c rule is = are rule (part_rule s.0 p.ty rule is)

pub stands_at : (xs ys : List Item) (n : ℕ) (i : Item) → xs ≡ ys → n < length xs → i ≡ get_or xs n i → slice_get ys n ≡ Some i
stands_at xs ys n i same low is = subst (λ zs. slice_get zs n ≡ Some i) same (slice_get_read xs (length xs) n i refl low is)
