-- A rule is wrong by its widths exactly where its images are.
use Rattle.std.proofs.Common.{ℕ, zero, suc, ◌≡◌, ◌≢◌, ◌≤◌, ◌<◌, ◌+◌, nat_lt, refl, sym, ◌∙◌, ap, subst, arith, Bool, true, false, not, ◌||◌, ◌&&◌, List, [], ◌∷◌, length, get_or, slice_get, Option, Some, None, option_map, codes, ◌⊎◌, inl, inr, true≢false}
use Rattle.std.proofs.lemmas.Bool.Decides.{Decides-eqb}
use Rattle.std.specs.Prelude.{◌==◌}
use Rattle.std.proofs.lemmas.Bool.{cases_lt, lt-ltb, ltb-true}
use Rattle.nml_tree.specs.declared.tree.Item.{Item}
use Rattle.nml_tree.specs.declared.tree.Item.TheVariants as item
use Rattle.nml_tree.specs.declared.tree.Desc.{Desc}
use Rattle.nml_tree.specs.NameFault as kind
use Rattle.nml_tree.specs.Table.{Text, Table, Declared, declared, table}
use Rattle.nml_tree.specs.Derivation.{Derivation, Pick, Compose, IsDerivation}
use Rattle.nml_tree.specs.Image.{image}
use Rattle.nml_tree.specs.Uses.{declares}
use Rattle.nml_tree.specs.Valid.{WordFault}
use Rattle.nml_tree.specs.Refused.{IsFirstRule}
use Rattle.nml_tree.proofs.OneDerivation.{or_of}
use Rattle.nml_tree.proofs.SameText.{same_text, equal_text}
use Rattle.nml_names.specs.declared.names.Declaration.{Declaration}
use Rattle.nml_names.specs.Naming.{declaration}
use Rattle.nml_names.proofs.RuleNames.{Stands, first_item, known_stands, named, first_least, some_same}
use Rattle.nml_names.proofs.Cycles.{declared_here, below_length}
use Rattle.nml_known.specs.Known.{item_number}
use Rattle.nml_upward.specs.Upward.{IsRule, HasNumber}
use Rattle.nml_upward.proofs.Upward.{rule_number, at_number}
use Rattle.nml_words.specs.declared.span.Span.{Span}
use Rattle.nml_words.specs.Span.{IsSpan}
use Rattle.nml_words.specs.Words.{span_at, is_root, differs, is_outside, is_wrong, is_number, is_fault, AreSpans, NoneBefore}

both : (a b : Bool) → (a && b) ≡ true → (a ≡ true) × (b ≡ true)
both true b h = (refl, h)
both false b h = absurd cc

either : (a b : Bool) → (a || b) ≡ true → (a ≡ true) ⊎ (b ≡ true)
either true b h = inl refl
either false b h = inr h

-- widths that differ
not_same : (m n : ℕ) → not (m == n) ≡ true → m ≢ n
not_same m n h e = let f : (m == n) ≡ true = (Decides-eqb m n).1 e in true≢false (sym h ∙ ap not f)

are_other : (m n : ℕ) → (m ≡ n → ⊥) → not (m == n) ≡ true
are_other m n h = by (m == n) refl
  where
    by : (b : Bool) → (m == n) ≡ b → not b ≡ true
    by true e = absurd (h ((Decides-eqb m n).0 e))
    by false e = refl

differ_forth : (t : Table) (a : Text) (s : Span) (k : IsSpan t a s) → differs s ≡ true → length (image k.lowest.0) ≢ length (image k.highest.0)
differ_forth t a s k h e = not_same s.least s.most h (sym k.lowest.2 ∙ e ∙ k.highest.2)

differ_back : (t : Table) (a : Text) (s : Span) → IsSpan t a s → (x y : Derivation) → IsDerivation t a x → IsDerivation t a y → length (image x) ≢ length (image y) → differs s ≡ true
differ_back t a s k x y hx hy ne = are_other s.least s.most (λ e. let p = k.between x hx in let q = k.between y hy in ne (omega (arith, e, p.0, p.1, q.0, q.1)))

-- `instruction`
root_fault : (t : Table) (a : Text) (s : Span) → IsSpan t a s → a ≡ codes "instruction" → (differs s || is_outside s) ≡ true → WordFault t a
root_fault t a s k root h = elim (either (differs s) (is_outside s) h) [
  | inl d ↦ WordFault.RootDiffers k.lowest.0 k.highest.0 root k.lowest.1 k.highest.1 (differ_forth t a s k d)
  | inr o ↦ elim (either (nat_lt s.least 8) (nat_lt 64 s.most) o) [
    | inl low ↦ (let l = ltb-true s.least 8 low in let e = k.lowest.2 in WordFault.Narrow k.lowest.0 root k.lowest.1 (omega (arith, l, e)))
    | inr high ↦ (let l = ltb-true 64 s.most high in let e = k.highest.2 in WordFault.Wide k.highest.0 root k.highest.1 (omega (arith, l, e)))
  ]
]

narrow_back : (t : Table) (a : Text) (s : Span) → IsSpan t a s → (x : Derivation) → IsDerivation t a x → length (image x) < 8 → is_outside s ≡ true
narrow_back t a s k x h low = let b = k.between x h in rw (lt-ltb s.least 8 (omega (arith, b.0, low))) refl

or_right : (a b : Bool) → b ≡ true → (a || b) ≡ true
or_right true b h = refl
or_right false b h = h

wide_back : (t : Table) (a : Text) (s : Span) → IsSpan t a s → (x : Derivation) → IsDerivation t a x → 64 < length (image x) → is_outside s ≡ true
wide_back t a s k x h high = let b = k.between x h in or_right (nat_lt s.least 8) (nat_lt 64 s.most) (lt-ltb 64 s.most (omega (arith, b.1, high)))

root_is : (a name : Text) → a ≡ name → is_root name ≡ true → a ≡ codes "instruction"
root_is a name is h = is ∙ same_text name (codes "instruction") h

is_the_root : (a name : Text) → a ≡ name → a ≡ codes "instruction" → is_root name ≡ true
is_the_root a name is root = equal_text name (codes "instruction") (sym is ∙ root)

-- from widths to images
wrong_fault : (d : Desc) (a : Text) (i : Item) (s : Span) → first_item d.items a ≡ Some i → a ≡ (declares i).text → IsSpan (table d) a s → is_wrong i s ≡ true → WordFault (table d) a
wrong_fault d a (item.Let at n equals minus z) s first name k h = absurd cc
wrong_fault d a (item.Type at n equals e) s first name k h = absurd cc
wrong_fault d a (item.Storage x) s first name k h = absurd cc
wrong_fault d a (item.Port x) s first name k h = absurd cc
wrong_fault d a (item.OrRule x) s first name k h = elim (either (differs s) (is_root x.name.text && is_outside s) h) [
  | inl e ↦ WordFault.Differs _ _ k.lowest.0 k.highest.0 (declared_here d a (item.OrRule x) _ first refl) k.lowest.1 k.highest.1 (differ_forth (table d) a s k e)
  | inr r ↦ (let b = both (is_root x.name.text) (is_outside s) r in root_fault (table d) a s k (root_is a x.name.text name b.0) (or_right (differs s) (is_outside s) b.1))
]
wrong_fault d a (item.OpRule x) s first name k h = let b = both (is_root x.name.text) (differs s || is_outside s) h in root_fault (table d) a s k (root_is a x.name.text name b.0) b.1
wrong_fault d a (item.ModeRule x) s first name k h = let b = both (is_root x.name.text) (differs s || is_outside s) h in root_fault (table d) a s k (root_is a x.name.text name b.0) b.1

-- and back
or_left : (a b : Bool) → a ≡ true → (a || b) ≡ true
or_left true b h = refl
or_left false b h = absurd cc

and_both : (a b : Bool) → a ≡ true → b ≡ true → (a && b) ≡ true
and_both true b h k = k
and_both false b h k = absurd cc

or_wrong : (t : Table) (a name : Text) (s : Span) → a ≡ name → IsSpan t a s → WordFault t a → (differs s || (is_root name && is_outside s)) ≡ true
or_wrong t a name s is k (WordFault.Differs mode names x y here hx hy ne) = or_left (differs s) _ (differ_back t a s k x y hx hy ne)
or_wrong t a name s is k (WordFault.RootDiffers x y root hx hy ne) = or_left (differs s) _ (differ_back t a s k x y hx hy ne)
or_wrong t a name s is k (WordFault.Narrow x root hx low) = or_right (differs s) _ (and_both (is_root name) (is_outside s) (is_the_root a name is root) (narrow_back t a s k x hx low))
or_wrong t a name s is k (WordFault.Wide x root hx high) = or_right (differs s) _ (and_both (is_root name) (is_outside s) (is_the_root a name is root) (wide_back t a s k x hx high))

and_wrong : (t : Table) (a name : Text) (s : Span) → a ≡ name → ((mode : Bool) (names : List Text) → declared t a ≡ Some (Declared.Or mode names) → ⊥) → IsSpan t a s → WordFault t a → (is_root name && (differs s || is_outside s)) ≡ true
and_wrong t a name s is other k (WordFault.Differs mode names x y here hx hy ne) = absurd (other mode names here)
and_wrong t a name s is other k (WordFault.RootDiffers x y root hx hy ne) = and_both (is_root name) _ (is_the_root a name is root) (or_left (differs s) (is_outside s) (differ_back t a s k x y hx hy ne))
and_wrong t a name s is other k (WordFault.Narrow x root hx low) = and_both (is_root name) _ (is_the_root a name is root) (or_right (differs s) (is_outside s) (narrow_back t a s k x hx low))
and_wrong t a name s is other k (WordFault.Wide x root hx high) = and_both (is_root name) _ (is_the_root a name is root) (or_right (differs s) (is_outside s) (wide_back t a s k x hx high))

fault_wrong : (d : Desc) (a : Text) (i : Item) (s : Span) → first_item d.items a ≡ Some i → a ≡ (declares i).text → kind.is_rule i ≡ true → IsSpan (table d) a s → WordFault (table d) a → is_wrong i s ≡ true
fault_wrong d a (item.Let at n equals minus z) s first name r k h = absurd cc
fault_wrong d a (item.Type at n equals e) s first name r k h = absurd cc
fault_wrong d a (item.Storage x) s first name r k h = absurd cc
fault_wrong d a (item.Port x) s first name r k h = absurd cc
fault_wrong d a (item.OrRule x) s first name r k h = or_wrong (table d) a x.name.text s name k h
fault_wrong d a (item.OpRule x) s first name r k h = and_wrong (table d) a x.name.text s name (λ mode names e. let here = declared_here d a (item.OpRule x) _ first refl in cc) k h
fault_wrong d a (item.ModeRule x) s first name r k h = and_wrong (table d) a x.name.text s name (λ mode names e. let here = declared_here d a (item.ModeRule x) _ first refl in cc) k h

-- what has a derivation is a rule
derived_rule : (t : Table) (a : Text) (x : Derivation) → IsDerivation t a x → IsRule t a
derived_rule t a (Pick n x) h = let o = or_of (declared t a) t a n h.0 refl h.1 in rw o.2 refl
derived_rule t a (Compose rule args) h = rw h.0 refl

fault_rule : (t : Table) (a : Text) → WordFault t a → IsRule t a
fault_rule t a (WordFault.Differs mode names x y here hx hy ne) = derived_rule t a x hx
fault_rule t a (WordFault.RootDiffers x y root hx hy ne) = derived_rule t a x hx
fault_rule t a (WordFault.Narrow x root hx low) = derived_rule t a x hx
fault_rule t a (WordFault.Wide x root hx high) = derived_rule t a x hx

-- the item of a number
at_slot : (items : List Item) (k : ℕ) (i : Item) → k < length items → i ≡ get_or items k i → slice_get items k ≡ Some i
at_slot [] k i low is = absurd (omega (arith, low))
at_slot (x ∷ items) zero i low is = ap Some (sym is)
at_slot (x ∷ items) (suc k) i low is = at_slot items k i (omega (arith, low)) is

number_is : (o : Option ℕ) (k : ℕ) → is_number k o ≡ true → o ≡ Some k
number_is None k h = absurd cc
number_is (Some n) k h = ap Some ((Decides-eqb n k).0 h)

is_the_number : (o : Option ℕ) (k : ℕ) → o ≡ Some k → is_number k o ≡ true
is_the_number o k h = rw h ((Decides-eqb k k).1 refl)

-- a name's first item
stands_there : (d : Desc) (a : Text) (k : ℕ) → HasNumber d a k → Stands d.items 0 a k
stands_there d a k h = by (declaration 0 d.items a) refl h
  where
    by : (o : Option Declaration) → declaration 0 d.items a ≡ o → option_map (λ (x : Declaration). x.first) o ≡ Some k → Stands d.items 0 a k
    by None e h = absurd cc
    by (Some x) e h = let same : x.first ≡ k = cc in subst (Stands d.items 0 a) same (known_stands d.items a x e)

wrong_rule : (d : Desc) (a : Text) (i : Item) (s : Span) → first_item d.items a ≡ Some i → is_wrong i s ≡ true → IsRule (table d) a
wrong_rule d a (item.Let at n equals minus z) s first h = absurd cc
wrong_rule d a (item.Type at n equals e) s first h = absurd cc
wrong_rule d a (item.Storage x) s first h = absurd cc
wrong_rule d a (item.Port x) s first h = absurd cc
wrong_rule d a (item.OrRule x) s first h = let here = declared_here d a (item.OrRule x) _ first refl in rw here refl
wrong_rule d a (item.OpRule x) s first h = let here = declared_here d a (item.OpRule x) _ first refl in rw here refl
wrong_rule d a (item.ModeRule x) s first h = let here = declared_here d a (item.ModeRule x) _ first refl in rw here refl

pub none_begin : (d : Desc) → NoneBefore d 0
none_begin d = record { none = λ n name less. absurd (omega (arith, less)) }

-- one item more that isn't wrong
pub none_more : (d : Desc) (items : List Item) (spans : List Span) (k : ℕ) (i : Item) (b : Bool) → items ≡ d.items → AreSpans d spans → k < length items → i ≡ get_or items k i → b ≡ is_fault d spans k i → b ≡ false → NoneBefore d k → NoneBefore d (k + 1)
none_more d items spans k i b of known low is here none before =
    let at : slice_get d.items k ≡ Some i = subst (λ xs. slice_get xs k ≡ Some i) of (at_slot items k i low is) in
    record {
      none = λ n a less h fault. elim (cases_lt n k) [
        | inl under ↦ before.none n a under h fault
        | inr over ↦
            (let same : n ≡ k = omega (arith, less, over) in
            let h' : HasNumber d a k = subst (HasNumber d a) same h in
            let rule = fault_rule (table d) a fault in
            let r = at_number d a k h' rule in
            let what : r.stands.what ≡ i = some_same _ _ (sym r.stands.at ∙ at) in
            let first : first_item d.items a ≡ Some i = r.stands.first ∙ ap Some what in
            let name : a ≡ (declares i).text = named d.items a i first in
            let wrong = fault_wrong d a i (span_at spans k) first name (ap kind.is_rule (sym what) ∙ r.rule) (known k a h' rule) fault in
            let number = is_the_number (item_number d (declares i).text) k (subst (λ x. HasNumber d x k) name h') in
            true≢false (sym (here ∙ and_both _ _ number wrong) ∙ none))
      ];
    }

-- the first that is wrong
pub first_wrong : (d : Desc) (items : List Item) (spans : List Span) (k : ℕ) (i : Item) (b : Bool) (a : Text) → items ≡ d.items → AreSpans d spans → k < length items → i ≡ get_or items k i → b ≡ is_fault d spans k i → b ≡ true → a ≡ (declares i).text → NoneBefore d k
    → IsFirstRule d (WordFault (table d)) a
first_wrong d items spans k i b a of known low is here some name before =
    let at : slice_get d.items k ≡ Some i = subst (λ xs. slice_get xs k ≡ Some i) of (at_slot items k i low is) in
    let both_true = both (is_number k (item_number d (declares i).text)) (is_wrong i (span_at spans k)) (sym here ∙ some) in
    let h : HasNumber d a k = ap (item_number d) name ∙ number_is _ k both_true.0 in
    let s = stands_there d a k h in
    let what : s.what ≡ i = some_same _ _ (sym s.at ∙ at) in
    let first : first_item d.items a ≡ Some i = s.first ∙ ap Some what in
    let rule = wrong_rule d a i (span_at spans k) first both_true.1 in
    record {
      holds = wrong_fault d a i (span_at spans k) first name (known k a h rule) both_true.1;
      place = k;
      stands = (i, at, sym name);
      first = λ n other there fault.
          let r = rule_number d other (fault_rule (table d) other fault) in
          let q = r.1.stands.number in
          let l = first_least d.items 0 n other r.1.stands.known there.0 r.1.stands.is there.1 there.2 in
          elim (cases_lt r.0 k) [ inl under ↦ absurd (before.none r.0 other under r.2 fault) | inr over ↦ omega (arith, q, l, over) ];
    }

-- behind the last
pub none_at_all : (d : Desc) (items : List Item) (k : ℕ) → items ≡ d.items → length items ≤ k → NoneBefore d k → (a : Text) → WordFault (table d) a → ⊥
none_at_all d items k of far before a fault =
    let r = rule_number d a (fault_rule (table d) a fault) in
    let l = below_length d d.items r.0 r.1.stands.what r.1.stands.at in
    let far' : length d.items ≤ k = rw (← of) far in
    before.none r.0 a (omega (arith, l, far')) r.2 fault
