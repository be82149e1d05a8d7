-- The pass over the order, and the items that are at fault.
use Rattle.std.proofs.Common.{ℕ, zero, suc, ◌≡◌, ◌+◌, ◌≤◌, ◌<◌, ◌==◌, ◌&&◌, Bool, true, false, List, [], ◌∷◌, length, set, get_or, Option, Some, None, option_map, option_and_then, slice_get, slice_index_or, refl, ap, sym, ◌∙◌, arith, ◌⊎◌, inl, inr, subst}
use Rattle.std.proofs.lemmas.Bool.{eqb-true}
use Rattle.std.proofs.lemmas.Bool.Decides.{nat_tests}
use Rattle.std.specs.Prelude.{codes}
use Rattle.nk_base.specs.Text.{text_eq}
use Rattle.nml_tree.specs.declared.tree.Item.{Item}
use Rattle.nml_tree.specs.declared.tree.Item.TheVariants as item
use Rattle.nml_tree.specs.declared.tree.Desc.{Desc}
use Rattle.nml_tree.specs.Table.{Text, Table, Rule, Declared, declared, table, alternative_in}
use Rattle.nml_tree.specs.Derivation.{Derivation, Pick, Compose, IsDerivation}
use Rattle.nml_tree.specs.Refused.{IsFreeBelow, IsFirstRule}
use Rattle.nml_tree.specs.Uses.{declares}
use Rattle.nml_tree.specs.Valid.{EdgeFault, Touching, Silent}
use Rattle.nml_tree.proofs.SameText.{same_text, equal_text}
use Rattle.nml_names.specs.declared.names.Declaration.{Declaration}
use Rattle.nml_names.specs.Naming.{declaration}
use Rattle.nml_names.specs.Below.{below, graph}
use Rattle.graphs.specs.Graphs.{IsOrder}
use Rattle.nml_names.proofs.RuleNames.{Stands, first_item, only_rule, rule_part, declared_rule, known_stands, some_same, numbered, named, first_least}
use Rattle.nml_names.proofs.Cycles.{declared_here, some_item, below_length, length_rows}
use Rattle.nml_known.specs.Known.{item_number}
use Rattle.nml_edges.specs.declared.glyph.Glyph.{Glyph}
use Rattle.nml_edges.specs.declared.glyph.Last.TheVariants as last
use Rattle.nml_edges.specs.declared.summary.Summary.{Summary}
use Rattle.nml_edges.specs.Glyph.{glyphs, end, touching}
use Rattle.nml_edges.specs.Summary.{IsSummary}
use Rattle.nml_edges.specs.Passed.{fact, item_sum, Texts, AreRight, HasAll}
use Rattle.nml_edges.specs.Found.{is_and, is_bad, is_number, is_fault}
use Rattle.nml_edges.proofs.Texts.{and_parts, has_touch_is, silent_end, end_silent}
use Rattle.nml_edges.proofs.Ways.{either_true, left_true, right_true}
use Rattle.nml_edges.proofs.Rules.{item_is}

-- the item at a name's number
number_stands : (d : Desc) (name : Text) (n : ℕ) → item_number d name ≡ Some n → Stands d.items 0 name n
number_stands d name n h = by (declaration 0 d.items name) refl h
  where
    by : (o : Option Declaration) → declaration 0 d.items name ≡ o → option_map (λ (k : Declaration). k.first) o ≡ Some n → Stands d.items 0 name n
    by None e k = absurd cc
    by (Some x) e k = subst (Stands d.items 0 name) (some_same x.first n k) (known_stands d.items name x e)

stands_number : (d : Desc) (name : Text) (n : ℕ) → Stands d.items 0 name n → item_number d name ≡ Some n
stands_number d name n s = let l = s.number in let e : s.known.first ≡ n = omega (arith, l) in ap (λ o. option_map (λ (k : Declaration). k.first) o) s.is ∙ ap Some e

number_item : (d : Desc) (name : Text) (n : ℕ) (i : Item) → item_number d name ≡ Some n → slice_get d.items n ≡ Some i → first_item d.items name ≡ Some i
number_item d name n i h at = let s = number_stands d name n h in s.first ∙ ap Some (some_same s.what i (sym s.at ∙ at))

number_low : (d : Desc) (name : Text) (n : ℕ) → item_number d name ≡ Some n → n < length d.items
number_low d name n h = let s = number_stands d name n h in below_length d d.items n s.what s.at

-- numbers are the same or not
same_or : (k n : ℕ) → (k ≡ n) ⊎ (k ≡ n → ⊥)
same_or zero zero = inl refl
same_or zero (suc n) = inr (λ e. absurd (omega (arith, e)))
same_or (suc k) zero = inr (λ e. absurd (omega (arith, e)))
same_or (suc k) (suc n) = elim (same_or k n) [ inl e ↦ inl (ap suc e) | inr f ↦ inr (λ e. f (omega (arith, e))) ]

less_or : (q p : ℕ) → q < p + 1 → (q < p) ⊎ (q ≡ p)
less_or zero zero l = inr refl
less_or zero (suc p) l = inl (omega arith)
less_or (suc q) zero l = absurd (omega (arith, l))
less_or (suc q) (suc p) l = elim (less_or q p (omega (arith, l))) [ inl k ↦ inl (omega (arith, k)) | inr k ↦ inr (ap suc k) ]

-- one fact more
set_here : (xs : List Summary) (n : ℕ) (m : Summary) → n < length xs → fact (set xs n m) (Some n) ≡ m
set_here [] n m low = absurd (omega (arith, low))
set_here (x ∷ xs) zero m low = refl
set_here (x ∷ xs) (suc n) m low = set_here xs n m (omega (arith, low))

set_other : (xs : List Summary) (n k : ℕ) (m : Summary) → (k ≡ n → ⊥) → fact (set xs n m) (Some k) ≡ fact xs (Some k)
set_other [] n k m h = refl
set_other (x ∷ xs) zero zero m h = absurd (h refl)
set_other (x ∷ xs) zero (suc k) m h = refl
set_other (x ∷ xs) (suc n) zero m h = refl
set_other (x ∷ xs) (suc n) (suc k) m h = set_other xs n k m (λ e. h (ap suc e))

pub record Passed (d : Desc) (order : List ℕ) (facts : List Summary) (p : ℕ) : Type 0 where
  pub long : length facts ≡ length d.items
  pub right : AreRight d order facts p

pub pass_set : (d : Desc) (order : List ℕ) → IsFreeBelow 10 d → IsOrder (graph d.items) order → (facts : List Summary) (p n : ℕ) (i : Item) (m : Summary) → p < length order → slice_index_or order p 0 ≡ n
    → n < length d.items → slice_get d.items n ≡ Some i → m ≡ item_sum d facts i → length (set facts n m) ≡ length facts → Passed d order facts p → Passed d order (set facts n m) (p + 1)
pass_set d order free is facts p n i m low here within at sum same s = record {
  long = same ∙ s.long;
  right = λ q l name h. by q l name h (same_or (slice_index_or order q 0) n) (less_or q p l);
}
  where
    new_one : (k : ℕ) → k ≡ n → (name : Text) → item_number d name ≡ Some k → IsSummary (Texts (table d) name) (fact (set facts n m) (Some k))
    new_one k e name h =
        let g : item_number d name ≡ Some (slice_index_or order p 0) = h ∙ ap Some (e ∙ sym here) in
        let f : first_item d.items name ≡ Some i = number_item d name n i (h ∙ ap Some e) at in
        subst (IsSummary (Texts (table d) name)) (sym sum ∙ sym (set_here facts n m (let x = s.long in omega (arith, x, within))) ∙ ap (λ z. fact (set facts n m) (Some z)) (sym e))
        (item_is d order free is facts p low s.right name i g f)

    by : (q : ℕ) → q < p + 1 → (name : Text) → item_number d name ≡ Some (slice_index_or order q 0) → (slice_index_or order q 0 ≡ n) ⊎ (slice_index_or order q 0 ≡ n → ⊥) → (q < p) ⊎ (q ≡ p)
        → IsSummary (Texts (table d) name) (fact (set facts n m) (Some (slice_index_or order q 0)))
    by q l name h (inl e) k = new_one (slice_index_or order q 0) e name h
    by q l name h (inr f) (inl k) = subst (IsSummary (Texts (table d) name)) (sym (set_other facts n (slice_index_or order q 0) m f)) (s.right q k name h)
    by q l name h (inr f) (inr k) = absurd (f (ap (λ z. slice_index_or order z 0) k ∙ here))

-- an item that there isn't
pub pass_over : (d : Desc) (order : List ℕ) (facts : List Summary) (p n : ℕ) → slice_index_or order p 0 ≡ n → length d.items ≤ n → Passed d order facts p → Passed d order facts (p + 1)
pass_over d order facts p n here over s = record {
  long = s.long;
  right = λ q l name h. old q l name h (less_or q p l);
}
  where
    old : (q : ℕ) → q < p + 1 → (name : Text) → item_number d name ≡ Some (slice_index_or order q 0) → (q < p) ⊎ (q ≡ p) → IsSummary (Texts (table d) name) (fact facts (Some (slice_index_or order q 0)))
    old q l name h (inl k) = s.right q k name h
    old q l name h (inr k) =
        let e : slice_index_or order q 0 ≡ n = ap (λ z. slice_index_or order z 0) k ∙ here in
        let x = number_low d name (slice_index_or order q 0) h in
        absurd (omega (arith, e, x, over))

pub pass_start : (d : Desc) (order : List ℕ) (facts : List Summary) → length facts ≡ length d.items → Passed d order facts 0
pass_start d order facts h = record { long = h; right = λ q l name k. absurd (omega (arith, l)) }

pub pass_end : (d : Desc) (order : List ℕ) (facts : List Summary) (p : ℕ) → IsOrder (graph d.items) order → length order ≤ p → Passed d order facts p → HasAll d facts
pass_end d order facts p is low s = (
  s.long,
  λ n within name h.
      let b = is.every n (rw (length_rows d (below (declaration 0 d.items)) d.items) within) in
      subst (λ z. IsSummary (Texts (table d) name) (fact facts (Some z))) b.2 (s.right b.0 (let x = b.1 in omega (arith, x, low)) name (h ∙ ap Some (sym b.2))),
)

-- faults
and_both : (a b : Bool) → a ≡ true → b ≡ true → (a && b) ≡ true
and_both true b p q = q
and_both false b p q = absurd cc

number_true : (o : Option ℕ) (n : ℕ) → is_number o n ≡ true → o ≡ Some n
number_true None n h = absurd cc
number_true (Some m) n h = ap Some (eqb-true m n h)

same_true : (n : ℕ) → (n == n) ≡ true
same_true n = grind (arith, nat_tests)

true_number : (o : Option ℕ) (n : ℕ) → o ≡ Some n → is_number o n ≡ true
true_number o n h = rw h (same_true n)

-- an and-rule is declared as one, and the other way round
and_declared : (d : Desc) (name : Text) (i : Item) → first_item d.items name ≡ Some i → is_and i ≡ true → (rule : Rule) × (declared (table d) name ≡ Some (Declared.And rule))
and_declared d name (item.Let at n equals minus z) f h = absurd cc
and_declared d name (item.Type at n equals e) f h = absurd cc
and_declared d name (item.Storage s) f h = absurd cc
and_declared d name (item.Port p) f h = absurd cc
and_declared d name (item.OrRule r) f h = absurd cc
and_declared d name (item.OpRule r) f h = (_, declared_here d name (item.OpRule r) _ f refl)
and_declared d name (item.ModeRule r) f h = (_, declared_here d name (item.ModeRule r) _ f refl)

and_item : (i : Item) (rule : Rule) → rule_part i ≡ Some (Declared.And rule) → is_and i ≡ true
and_item (item.Let at n equals minus z) rule h = absurd cc
and_item (item.Type at n equals e) rule h = absurd cc
and_item (item.Storage s) rule h = absurd cc
and_item (item.Port p) rule h = absurd cc
and_item (item.OrRule r) rule h = absurd cc
and_item (item.OpRule r) rule h = refl
and_item (item.ModeRule r) rule h = refl

touching_fault : (t : Table) (name : Text) (rule : Rule) → declared t name ≡ Some (Declared.And rule) → (gs : List Glyph) → Texts t name gs → touching last.Nothing gs ≡ true → EdgeFault t name
touching_fault t name rule h gs (Pick k x, (chosen, alt, der), is) touch =
    let e : option_and_then (alternative_in k) (Some (Declared.And rule)) ≡ Some chosen = subst (λ o. option_and_then (alternative_in k) o ≡ Some chosen) h alt in absurd cc
touching_fault t name rule h gs (Compose r args, der, is) touch = Touching r args der (has_touch_is (Compose r args) ∙ ap (touching last.Nothing) is ∙ touch)

pub bad_fault : (d : Desc) (facts : List Summary) (n : ℕ) (i : Item) → HasAll d facts → slice_get d.items n ≡ Some i → is_fault d facts n i ≡ true → EdgeFault (table d) (declares i).text
bad_fault d facts n i all at h =
    let name = (declares i).text in
    let p = and_parts (is_number (item_number d (declares i).text) n) (is_bad i (fact facts (Some n))) h in
    let num = number_true (item_number d (declares i).text) n p.0 in
    let s = all.1 n (below_length d d.items n i at) (declares i).text num in
    elim (either_true (is_and i && (fact facts (Some n)).nothing.touch) (text_eq (declares i).text (codes "instruction") && (fact facts (Some n)).nothing.nothing) p.1) [
      | inl k ↦ (
          let q = and_parts (is_and i) (fact facts (Some n)).nothing.touch k in
          let r = and_declared d (declares i).text i (number_item d (declares i).text n i num at) q.0 in
          let f = s.found last.Nothing None q.1 in
          touching_fault (table d) (declares i).text r.0 r.1 f.0 f.1 f.2
          )
      | inr k ↦ (
          let q = and_parts (text_eq (declares i).text (codes "instruction")) (fact facts (Some n)).nothing.nothing k in
          let f = s.found last.Nothing (Some last.Nothing) q.1 in
          Silent f.1.0 (same_text (declares i).text (codes "instruction") q.0) f.1.1 (end_silent f.1.0 (ap (end last.Nothing) f.1.2 ∙ f.2))
          )
    ]

-- what has a derivation is a rule
some_rule : (t : Table) (name : Text) (x : Derivation) → IsDerivation t name x → (y : Declared) × (option_and_then only_rule (declared t name) ≡ Some y)
some_rule t name (Pick k x) (chosen, alt, der) = by (declared t name) alt
  where
    by : (o : Option Declared) → option_and_then (alternative_in k) o ≡ Some chosen → (y : Declared) × (option_and_then only_rule o ≡ Some y)
    by None a = absurd cc
    by (Some (Declared.Constant z)) a = absurd cc
    by (Some (Declared.TypeName ty)) a = absurd cc
    by (Some (Declared.Storage n s ty)) a = absurd cc
    by (Some (Declared.Trn n ty)) a = absurd cc
    by (Some (Declared.Inp ty)) a = absurd cc
    by (Some (Declared.Out ty)) a = absurd cc
    by (Some (Declared.Or mode ns)) a = (_, refl)
    by (Some (Declared.And r)) a = absurd cc
some_rule t name (Compose r args) (dec, fill) = (Declared.And r, ap (option_and_then only_rule) dec)

-- where a rule at fault stands
pub record Stood (d : Desc) (facts : List Summary) (name : Text) : Type 0 where
  pub number : ℕ
  pub stands : Stands d.items 0 name number
  pub bad : is_fault d facts number stands.what ≡ true

at_fault : (d : Desc) (facts : List Summary) (name : Text) (y : Declared) → HasAll d facts → option_and_then only_rule (declared (table d) name) ≡ Some y
    → ((i : Item) (n : ℕ) → first_item d.items name ≡ Some i → name ≡ (declares i).text → IsSummary (Texts (table d) name) (fact facts (Some n)) → is_bad i (fact facts (Some n)) ≡ true) → Stood d facts name
at_fault d facts name y all h bad =
    let i = some_item d name y (sym (declared_rule d name) ∙ h) in
    let s = numbered d.items 0 name i.0 i.1 in
    let num = stands_number d name s.0 s.1 in
    let same = named d.items name s.1.what s.1.first in
    record {
      number = s.0;
      stands = s.1;
      bad = and_both (is_number (item_number d (declares s.1.what).text) s.0) (is_bad s.1.what (fact facts (Some s.0)))
          (true_number (item_number d (declares s.1.what).text) s.0 (ap (item_number d) (sym same) ∙ num))
          (bad s.1.what s.0 s.1.first same (all.1 s.0 (below_length d d.items s.0 s.1.what s.1.at) name num));
    }

pub fault_bad : (d : Desc) (facts : List Summary) (name : Text) → HasAll d facts → EdgeFault (table d) name → Stood d facts name
fault_bad d facts name all (Touching rule args der touch) =
    at_fault d facts name (Declared.And rule) all (ap (option_and_then only_rule) der.0)
    (λ i n f same s.
    let r : rule_part i ≡ Some (Declared.And rule) = ap (option_and_then rule_part) (sym f) ∙ sym (declared_rule d name) ∙ ap (option_and_then only_rule) der.0 in
    left_true (is_and i && (fact facts (Some n)).nothing.touch) (text_eq (declares i).text (codes "instruction") && (fact facts (Some n)).nothing.nothing)
    (and_both (is_and i) (fact facts (Some n)).nothing.touch (and_item i rule r)
    (s.told last.Nothing None (glyphs (Compose rule args)) (Compose rule args, der, refl) (sym (has_touch_is (Compose rule args)) ∙ touch))))
fault_bad d facts name all (Silent x is der silent) =
    let y = some_rule (table d) name x der in
    at_fault d facts name y.0 all y.1
    (λ i n f same s.
    right_true (is_and i && (fact facts (Some n)).nothing.touch) (text_eq (declares i).text (codes "instruction") && (fact facts (Some n)).nothing.nothing)
    (and_both (text_eq (declares i).text (codes "instruction")) (fact facts (Some n)).nothing.nothing (equal_text (declares i).text (codes "instruction") (sym same ∙ is))
    (s.told last.Nothing (Some last.Nothing) (glyphs x) (x, der, refl) (silent_end x silent))))

-- no item before this number is at fault
abbrev pub NoneBefore : Desc → List Summary → ℕ → Type 0
NoneBefore d facts n = (k : ℕ) (i : Item) → k < n → slice_get d.items k ≡ Some i → is_fault d facts k i ≡ false

pub none_more : (d : Desc) (facts : List Summary) (n : ℕ) (i : Item) → slice_get d.items n ≡ Some i → is_fault d facts n i ≡ false → NoneBefore d facts n → NoneBefore d facts (n + 1)
none_more d facts n i at good before k j low here = by (less_or k n low)
  where
    by : (k < n) ⊎ (k ≡ n) → is_fault d facts k j ≡ false
    by (inl l) = before k j l here
    by (inr s) =
        let same : i ≡ j = some_same i j (sym at ∙ ap (slice_get d.items) (sym s) ∙ here) in
        ap (λ z. is_fault d facts z j) s ∙ ap (is_fault d facts n) (sym same) ∙ good

not_both : (b : Bool) → b ≡ true → b ≡ false → ⊥
not_both true p q = cc
not_both false p q = cc

not_less : (n k : ℕ) → (k < n → ⊥) → n ≤ k
not_less zero k h = omega arith
not_less (suc n) zero h = absurd (h (omega arith))
not_less (suc n) (suc k) h = let r = not_less n k (λ l. h (omega (arith, l))) in omega (arith, r)

pub first_fault : (d : Desc) (facts : List Summary) (n : ℕ) (i : Item) (name : Text) → HasAll d facts → slice_get d.items n ≡ Some i → is_fault d facts n i ≡ true → name ≡ (declares i).text → NoneBefore d facts n → IsFirstRule d (EdgeFault (table d)) name
first_fault d facts n i name all at bad is before = record {
  holds = rw is (bad_fault d facts n i all at bad);
  place = n;
  stands = (i, at, sym is);
  first = λ k other there h.
      let s = fault_bad d facts other all h in
      let low = first_least d.items 0 k other s.stands.known there.0 s.stands.is there.1 there.2 in
      let q = s.stands.number in
      let x = not_less n s.number (λ l. not_both (is_fault d facts s.number s.stands.what) s.bad (before s.number s.stands.what l s.stands.at)) in
      omega (arith, low, q, x);
}

pub no_fault : (d : Desc) (facts : List Summary) (n : ℕ) → HasAll d facts → length d.items ≤ n → NoneBefore d facts n → (rule : Text) → EdgeFault (table d) rule → ⊥
no_fault d facts n all low before rule h =
    let s = fault_bad d facts rule all h in
    let x = below_length d d.items s.number s.stands.what s.stands.at in
    not_both (is_fault d facts s.number s.stands.what) s.bad (before s.number s.stands.what (omega (arith, x, low)) s.stands.at)

-- the same of what the code has
at_slot : (items : List Item) (n : ℕ) (i : Item) → n < length items → i ≡ get_or items n i → slice_get items n ≡ Some i
at_slot [] n i low is = absurd (omega (arith, low))
at_slot (x ∷ items) zero i low is = ap Some (sym is)
at_slot (x ∷ items) (suc n) i low is = at_slot items n i (omega (arith, low)) is

at_item : (d : Desc) (items : List Item) (n : ℕ) (i : Item) → items ≡ d.items → n < length items → i ≡ get_or items n i → slice_get d.items n ≡ Some i
at_item d items n i of low is = subst (λ xs. slice_get xs n ≡ Some i) of (at_slot items n i low is)

long_set : (xs : List Summary) (n : ℕ) (m : Summary) → length (set xs n m) ≡ length xs
long_set [] n m = refl
long_set (x ∷ xs) zero m = refl
long_set (x ∷ xs) (suc n) m = ap suc (long_set xs n m)

pub pass_further : (d : Desc) (order : List ℕ) → IsFreeBelow 10 d → IsOrder (graph d.items) order → (facts now old : List Summary) (items : List Item) (p n : ℕ) (i : Item) (m : Summary) → p < length order → slice_index_or order p 0 ≡ n → items ≡ d.items
    → n < length items → i ≡ get_or items n i → m ≡ item_sum d old i → old ≡ facts → now ≡ set facts n m → Passed d order facts p → Passed d order now (p + 1)
pass_further d order free is facts now old items p n i m low here of within at sum same new s =
    subst (λ z. Passed d order z (p + 1)) (sym new)
    (pass_set d order free is facts p n i m low here (subst (λ xs. n < length xs) of within) (at_item d items n i of within at) (sum ∙ ap (λ z. item_sum d z i) same) (long_set facts n m) s)

pub pass_none : (d : Desc) (order : List ℕ) (facts now : List Summary) (items : List Item) (p n : ℕ) → slice_index_or order p 0 ≡ n → items ≡ d.items → length items ≤ n → now ≡ facts → Passed d order facts p → Passed d order now (p + 1)
pass_none d order facts now items p n here of over new s = subst (λ z. Passed d order z (p + 1)) (sym new) (pass_over d order facts p n here (subst (λ xs. length xs ≤ n) of over) s)

pub fault_found : (d : Desc) (facts old : List Summary) (items : List Item) (n : ℕ) (i : Item) (b : Bool) (name : Text) → HasAll d facts → items ≡ d.items → n < length items → i ≡ get_or items n i → b ≡ is_fault d old n i → old ≡ facts → b ≡ true
    → name ≡ (declares i).text → NoneBefore d facts n → IsFirstRule d (EdgeFault (table d)) name
fault_found d facts old items n i b name all of low at is same bad called before =
    first_fault d facts n i name all (at_item d items n i of low at) (ap (λ z. is_fault d z n i) (sym same) ∙ sym is ∙ bad) called before

pub none_found : (d : Desc) (facts old : List Summary) (items : List Item) (n : ℕ) (i : Item) (b : Bool) → items ≡ d.items → n < length items → i ≡ get_or items n i → b ≡ is_fault d old n i → old ≡ facts → b ≡ false
    → NoneBefore d facts n → NoneBefore d facts (n + 1)
none_found d facts old items n i b of low at is same good before =
    none_more d facts n i (at_item d items n i of low at) (ap (λ z. is_fault d z n i) (sym same) ∙ sym is ∙ good) before

pub none_at_all : (d : Desc) (facts : List Summary) (items : List Item) (n : ℕ) → HasAll d facts → items ≡ d.items → length items ≤ n → NoneBefore d facts n → (rule : Text) → EdgeFault (table d) rule → ⊥
none_at_all d facts items n all of low before rule h = no_fault d facts n all (subst (λ xs. length xs ≤ n) of low) before rule h
