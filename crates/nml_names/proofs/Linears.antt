-- Parameters that aren't named as often as they must be.
use Rattle.std.proofs.Common.{◌≡◌, ℕ, zero, suc, ◌+◌, ◌<◌, ◌≤◌, ◌==◌, nat_le, min, Bool, true, false, not, ◌&&◌, List, [], ◌∷◌, ◌++◌, map, length, slice_get, get_or, Option, Some, None, refl, ap, sym, subst, ◌∙◌, arith, if◌then◌else◌, inl, inr, Contains, true≢false, option_and_then, cond}
use Rattle.std.specs.List.{list_any, count_by}
use Rattle.std.specs.Map.{lookup}
use Rattle.std.proofs.lemmas.Bool.{cases_lt, false_from_ne_true}
use Rattle.std.proofs.lemmas.Bool.Decides.{Decides-eqb, leb_tells}
use Rattle.std.proofs.lemmas.List.Sums.{sum_by-append}
use Rattle.std.proofs.lemmas.List.Folds.{list_any-append}
use Rattle.indexmap.specs.IndexSet.{insert_key}
use Rattle.nk_base.specs.Text.{text_eq}
use Rattle.nml_tree.specs.declared.names.Name.{Name}
use Rattle.nml_tree.specs.declared.attributes.Attrs.{Attrs}
use Rattle.nml_tree.specs.declared.tree.Par.{Par}
use Rattle.nml_tree.specs.declared.tree.Pars.{Pars}
use Rattle.nml_tree.specs.declared.tree.Item.{Item}
use Rattle.nml_tree.specs.declared.tree.Item.TheVariants as item
use Rattle.nml_tree.specs.declared.tree.Desc.{Desc}
use Rattle.nml_tree.specs.Formula.{Formula, formula}
use Rattle.nml_tree.specs.Block.{Block, Done, Assign, Part, Halt, If, IfElse, action_block}
use Rattle.nml_tree.specs.Table.{Text, Rule, And, declared, table, rule_of}
use Rattle.nml_tree.specs.Uses.{in_text, declares}
use Rattle.nml_tree.specs.Mentions.{actions, is_linear, LinearFault}
use Rattle.nml_tree.specs.Refused.{IsFirstRule, HasLinearFault, IsFirstParameter}
use Rattle.nml_tree.proofs.SameText.{same_text}
use Rattle.nml_names.specs.declared.names.Declaration.{Declaration}
use Rattle.nml_names.specs.Naming.{declaration, AreDeclared}
use Rattle.nml_names.specs.Found.{is_first}
use Rattle.nml_names.specs.Tallies.{fault_at, Seen, nothing, add, tally, part_names, is_once, is_twice, attrs_linear, first_other, names_of, other_parameter}
use Rattle.nml_names.proofs.Items.{keyed}
use Rattle.nml_names.proofs.Cycles.{and_here, declared_here, some_item}
use Rattle.nml_names.proofs.RuleNames.{rule_part, only_rule, declared_rule, Stands, numbered, known_stands, named, first_least, some_same}

-- how often a name was seen, up to twice
abbrev level : Text → Seen → ℕ
level q s = if is_twice s q then 2 else if list_any (text_eq q) s.once then 1 else 0

abbrev one : Bool → ℕ
one b = if b then 1 else 0

level_add : (q x : Text) (s : Seen) → level q (add s x) ≡ min 2 (one (text_eq q x) + level q s)
level_add q x s = by (list_any (text_eq x) s.once) (text_eq q x) (list_any (text_eq q) s.once) (list_any (text_eq q) s.twice) refl refl refl refl
  where
    after : Bool → Seen
    after b = if b then record s { twice = insert_key text_eq s.twice x } else record s { once = insert_key text_eq s.once x }

    by : (a b c e : Bool) → list_any (text_eq x) s.once ≡ a → text_eq q x ≡ b → list_any (text_eq q) s.once ≡ c → list_any (text_eq q) s.twice ≡ e
        → level q (after (list_any (text_eq x) s.once)) ≡ min 2 (one (text_eq q x) + level q s)
    by true true true true ha hb hc he = rw (ha, keyed s.twice x q, hb, hc, he) refl
    by true true true false ha hb hc he = rw (ha, keyed s.twice x q, hb, hc, he) refl
    by true true false e ha hb hc he = let same = same_text q x hb in absurd (true≢false (sym ha ∙ ap (λ z. list_any (text_eq z) s.once) (sym same) ∙ hc))
    by true false true true ha hb hc he = rw (ha, keyed s.twice x q, hb, hc, he) refl
    by true false true false ha hb hc he = rw (ha, keyed s.twice x q, hb, hc, he) refl
    by true false false true ha hb hc he = rw (ha, keyed s.twice x q, hb, hc, he) refl
    by true false false false ha hb hc he = rw (ha, keyed s.twice x q, hb, hc, he) refl
    by false true true e ha hb hc he = let same = same_text q x hb in absurd (true≢false (sym hc ∙ ap (λ z. list_any (text_eq z) s.once) same ∙ ha))
    by false true false true ha hb hc he = rw (ha, list_any-append (text_eq q) s.once (x ∷ []), hb, hc, he) refl
    by false true false false ha hb hc he = rw (ha, list_any-append (text_eq q) s.once (x ∷ []), hb, hc, he) refl
    by false false true true ha hb hc he = rw (ha, list_any-append (text_eq q) s.once (x ∷ []), hb, hc, he) refl
    by false false true false ha hb hc he = rw (ha, list_any-append (text_eq q) s.once (x ∷ []), hb, hc, he) refl
    by false false false true ha hb hc he = rw (ha, list_any-append (text_eq q) s.once (x ∷ []), hb, hc, he) refl
    by false false false false ha hb hc he = rw (ha, list_any-append (text_eq q) s.once (x ∷ []), hb, hc, he) refl

abbrev times : Text → List Name → ℕ
times q ns = count_by (λ n. text_eq q n.text) ns

times_cons : (q : Text) (n : Name) (ns : List Name) → times q (n ∷ ns) ≡ one (text_eq q n.text) + times q ns
times_cons q n ns = let a = sum_by-append (λ m. cond (text_eq q m.text) 1 0) (n ∷ []) ns in omega (arith, a)

level_tally : (q : Text) (ns : List Name) (s : Seen) → level q (tally s ns) ≡ min 2 (times q ns + level q s)
level_tally q [] s = at_most (is_twice s q) (list_any (text_eq q) s.once)
  where
    at_most : (a b : Bool) → (if a then 2 else if b then 1 else 0) ≡ min 2 (0 + (if a then 2 else if b then 1 else 0))
    at_most true b = refl
    at_most false true = refl
    at_most false false = refl
level_tally q (n ∷ ns) s =
    let rest = level_tally q ns (add s n.text) in
    let step = level_add q n.text s in
    let more = times_cons q n ns in
    omega (arith, rest, step, more)

times_append : (q : Text) (xs ys : List Name) → times q (xs ++ ys) ≡ times q xs + times q ys
times_append q xs ys = sum_by-append (λ m. cond (text_eq q m.text) 1 0) xs ys

actions_are : (q : Text) (b : Block) → actions q b ≡ times q (part_names b)
actions_are q Done = refl
actions_are q (Assign n i at e semicolon rest) = actions_are q rest
actions_are q (Part n dot at semicolon rest) = let r = actions_are q rest in let c = times_cons q n (part_names rest) in omega (arith, r, c)
actions_are q (Halt at p e x semicolon rest) = actions_are q rest
actions_are q (If at c t xs end semicolon rest) = let a = actions_are q xs in let b = actions_are q rest in let s = times_append q (part_names xs) (part_names rest) in omega (arith, a, b, s)
actions_are q (IfElse at c t xs f ys end semicolon rest) =
    let a = actions_are q xs in
    let b = actions_are q ys in
    let r = actions_are q rest in
    let s = times_append q (part_names xs ++ part_names ys) (part_names rest) in
    let u = times_append q (part_names xs) (part_names ys) in
    omega (arith, a, b, r, s, u)

once_level : (s : Seen) (q : Text) → is_once s q ≡ (level q s == 1)
once_level s q = by (list_any (text_eq q) s.once) (is_twice s q)
  where
    by : (a b : Bool) → (a && not b) ≡ ((if b then 2 else if a then 1 else 0) == 1)
    by true true = refl
    by true false = refl
    by false true = refl
    by false false = refl

twice_level : (s : Seen) (q : Text) → not (is_twice s q) ≡ nat_le (level q s) 1
twice_level s q = by (list_any (text_eq q) s.once) (is_twice s q)
  where
    by : (a b : Bool) → not b ≡ nat_le (if b then 2 else if a then 1 else 0) 1
    by true true = refl
    by true false = refl
    by false true = refl
    by false false = refl

eq_no : (a b : ℕ) → (a ≡ b → ⊥) → (a == b) ≡ false
eq_no a b other = false_from_ne_true (a == b) (λ e. other ((Decides-eqb a b).0 e))

le_no : (a b : ℕ) → b < a → nat_le a b ≡ false
le_no a b h = elim (leb_tells a b) [ inl t ↦ (let l = t.1 in absurd (omega (arith, l, h))) | inr t ↦ t.0 ]

is_one : (c : ℕ) → (min 2 (c + 0) == 1) ≡ (c == 1)
is_one zero = refl
is_one (suc zero) = refl
is_one (suc (suc c)) = eq_no (min 2 (suc (suc c) + 0)) 1 (λ e. omega (arith, e)) ∙ sym (eq_no (suc (suc c)) 1 (λ e. omega (arith, e)))

is_few : (c : ℕ) → nat_le (min 2 (c + 0)) 1 ≡ nat_le c 1
is_few zero = refl
is_few (suc zero) = refl
is_few (suc (suc c)) = le_no (min 2 (suc (suc c) + 0)) 1 (omega arith) ∙ sym (le_no (suc (suc c)) 1 (omega arith))

pub linear_is : (ps : Option Pars) (v : Option Formula) (a : Attrs) (q : Text) → attrs_linear a q ≡ is_linear (rule_of ps v a) q
linear_is ps v a q =
    let once : (ns : List Name) → is_once (tally nothing ns) q ≡ (times q ns == 1) = λ ns. once_level (tally nothing ns) q ∙ ap (λ k. k == 1) (level_tally q ns nothing) ∙ is_one (times q ns) in
    let few : (b : Block) → not (is_twice (tally nothing (part_names b)) q) ≡ nat_le (actions q b) 1 =
    λ b. twice_level (tally nothing (part_names b)) q ∙ ap (λ k. nat_le k 1) (level_tally q (part_names b) nothing) ∙ is_few (times q (part_names b)) ∙ ap (λ k. nat_le k 1) (sym (actions_are q b)) in
    λ j. once (in_text a.syntax_text) j && once (in_text a.image_text) j && few (action_block a.action) j

-- no item before this number is the first of its name and has a parameter at fault
pub record NoneBefore (d : Desc) (k : ℕ) : Type 0 where
  pub none : (n : ℕ) → n < k → (a : Text) → Stands d.items 0 a n → HasLinearFault (table d) a → ⊥

-- the texts of parameters' names
abbrev texts : List Par → List Text
texts ps = map (λ q. q.name.text) ps

other_none : (test : Text → Bool) (ps : List Par) (p : Text) → first_other test (map (λ q. q.name) ps) ≡ None → Contains (texts ps) p → test p ≡ true
other_none test [] p h c = let l = c.1 in absurd (omega (arith, l))
other_none test (q ∷ ps) p h (zero, low, is) = by (test q.name.text) refl h
  where
    by : (b : Bool) → test q.name.text ≡ b → (if b then first_other test (map (λ z. z.name) ps) else Some q.name.text) ≡ None → test p ≡ true
    by true e k = ap test (sym is) ∙ e
    by false e k = absurd cc
other_none test (q ∷ ps) p h (suc k, low, is) = by (test q.name.text) h (λ r. other_none test ps p r (k, omega (arith, low), is))
  where
    by : (b : Bool) → (if b then first_other test (map (λ z. z.name) ps) else Some q.name.text) ≡ None → (first_other test (map (λ z. z.name) ps) ≡ None → test p ≡ true) → test p ≡ true
    by true k rest = rest k
    by false k rest = absurd cc

-- the first that fails: its place, and that none before it fails
pub record FirstOther (test : Text → Bool) (ps : List Par) (p : Text) : Type 0 where
  pub place : ℕ
  pub at : slice_get (texts ps) place ≡ Some p
  pub within : Contains (texts ps) p
  pub other : test p ≡ false
  pub first : (j : ℕ) (q : Text) → slice_get (texts ps) j ≡ Some q → test q ≡ false → place ≤ j

other_some : (test : Text → Bool) (ps : List Par) (p : Text) → first_other test (map (λ q. q.name) ps) ≡ Some p → FirstOther test ps p
other_some test [] p h = absurd cc
other_some test (q ∷ ps) p h = by (test q.name.text) refl h (other_some test ps p)
  where
    by : (b : Bool) → test q.name.text ≡ b → (if b then first_other test (map (λ z. z.name) ps) else Some q.name.text) ≡ Some p → (first_other test (map (λ z. z.name) ps) ≡ Some p → FirstOther test ps p) → FirstOther test (q ∷ ps) p
    by true e k rest = let r = rest k in let w = r.within in let low = w.1 in record {
      place = suc r.place;
      at = r.at;
      within = (suc w.0, omega (arith, low), w.2);
      other = r.other;
      first = λ j x at bad. behind j x at bad r;
    }
      where
        behind : (j : ℕ) (x : Text) → slice_get (texts (q ∷ ps)) j ≡ Some x → test x ≡ false → (r : FirstOther test ps p) → suc r.place ≤ j
        behind zero x at bad r = absurd (true≢false (sym e ∙ ap test (some_same _ _ at) ∙ bad))
        behind (suc j) x at bad r = let l = r.first j x at bad in omega (arith, l)
    by false e k rest = let same : q.name.text ≡ p = some_same _ _ k in record {
      place = 0;
      at = k;
      within = (0, omega arith, same);
      other = ap test (sym same) ∙ e;
      first = λ j x at bad. omega arith;
    }

-- a rule of the item, with the test of its parameters
pub record Ruled (i : Item) (o : Option Text) : Type 0 where
  pub rule : Rule
  pub is : rule_part i ≡ Some (And rule)
  pub gives : o ≡ first_other (is_linear rule) (map (λ q. q.name) rule.pars)

tests : (ps : Option Pars) (v : Option Formula) (a : Attrs) → first_other (attrs_linear a) (names_of ps) ≡ first_other (is_linear (rule_of ps v a)) (map (λ q. q.name) (rule_of ps v a).pars)
tests ps v a = ap (λ h. first_other h (names_of ps)) (λ j q. linear_is ps v a q j)

ruled : (i : Item) (rule : Rule) → rule_part i ≡ Some (And rule) → other_parameter i ≡ first_other (is_linear rule) (map (λ q. q.name) rule.pars)
ruled (item.Let at n equals minus z) rule h = absurd cc
ruled (item.Type at n equals e) rule h = absurd cc
ruled (item.Storage s) rule h = absurd cc
ruled (item.Port p) rule h = absurd cc
ruled (item.OrRule r) rule h = absurd cc
ruled (item.OpRule r) rule h = let e : rule_of r.pars None r.attrs ≡ rule = cc in subst (λ z. first_other (attrs_linear r.attrs) (names_of r.pars) ≡ first_other (is_linear z) (map (λ q. q.name) z.pars)) e (tests r.pars None r.attrs)
ruled (item.ModeRule r) rule h = let e : rule_of r.pars (Some (formula r.value)) r.attrs ≡ rule = cc in subst (λ z. first_other (attrs_linear r.attrs) (names_of r.pars) ≡ first_other (is_linear z) (map (λ q. q.name) z.pars)) e (tests r.pars (Some (formula r.value)) r.attrs)

has_rule : (i : Item) (p : Text) → other_parameter i ≡ Some p → (rule : Rule) × (rule_part i ≡ Some (And rule))
has_rule (item.Let at n equals minus z) p h = absurd cc
has_rule (item.Type at n equals e) p h = absurd cc
has_rule (item.Storage s) p h = absurd cc
has_rule (item.Port q) p h = absurd cc
has_rule (item.OrRule r) p h = absurd cc
has_rule (item.OpRule r) p h = (_, refl)
has_rule (item.ModeRule r) p h = (_, refl)

at_slot : (items : List Item) (n : ℕ) (i : Item) → n < length items → i ≡ get_or items n i → slice_get items n ≡ Some i
at_slot [] n i low is = absurd (omega (arith, low))
at_slot (x ∷ items) zero i low is = ap Some (sym is)
at_slot (x ∷ items) (suc n) i low is = at_slot items n i (omega (arith, low)) is

no_fault : (d : Desc) (a : Text) (n : ℕ) (i : Item) → Stands d.items 0 a n → slice_get d.items n ≡ Some i → other_parameter i ≡ None → HasLinearFault (table d) a → ⊥
no_fault d a n i s at none (p, f) =
    let same : s.what ≡ i = some_same _ _ (sym s.at ∙ at) in
    let part : rule_part i ≡ Some (And f.rule) = ap rule_part (sym same) ∙ and_here d a s.what f.rule s.first f.is in
    true≢false (sym (other_none (is_linear f.rule) f.rule.pars p (sym (ruled i f.rule part) ∙ none) f.parameter) ∙ f.other)

-- one item more without a fault
pub none_more : (d : Desc) (items : List Item) (entries : List (Text × Declaration)) (k : ℕ) (i : Item) (o : Option Text) → items ≡ d.items → AreDeclared entries items → k < length items → i ≡ get_or items k i
    → o ≡ fault_at entries k i → o ≡ None → NoneBefore d k → NoneBefore d (k + 1)
none_more d items entries k i o of known low is here none before =
    let at : slice_get d.items k ≡ Some i = subst (λ xs. slice_get xs k ≡ Some i) of (at_slot items k i low is) in
    record {
      none = λ n less a s h. elim (cases_lt n k) [
        | inl under ↦ before.none n under a s h
        | inr more ↦ (let same : n ≡ k = omega (arith, more, less) in
            let s' : Stands d.items 0 a k = subst (Stands d.items 0 a) same s in
            let what : s'.what ≡ i = some_same _ _ (sym s'.at ∙ at) in
            let name : a ≡ (declares i).text = named d.items a s'.what s'.first ∙ ap (λ z. (declares z).text) what in
            let found : lookup (text_eq (declares i).text) entries ≡ Some s'.known = known (declares i).text ∙ ap (λ xs. declaration 0 xs (declares i).text) of ∙ ap (declaration 0 d.items) (sym name) ∙ s'.is in
            let l = s'.number in
            let first : is_first k (Some s'.known) ≡ true = (Decides-eqb s'.known.first k).1 (omega (arith, l)) in
            let other : other_parameter i ≡ None = ap (λ b. if b then other_parameter i else None) (sym (ap (is_first k) found ∙ first)) ∙ sym here ∙ none in
            no_fault d a k i s' at other h)
      ];
    }

-- the item's fault is the first
pub fault_found : (d : Desc) (items : List Item) (entries : List (Text × Declaration)) (k : ℕ) (i : Item) (o : Option Text) (name p : Text) → items ≡ d.items → AreDeclared entries items → k < length items → i ≡ get_or items k i
    → o ≡ fault_at entries k i → o ≡ Some p → name ≡ (declares i).text → NoneBefore d k → IsFirstRule d (HasLinearFault (table d)) name × IsFirstParameter (table d) name p
fault_found d items entries k i o name p of known low is here some called before =
    let at : slice_get d.items k ≡ Some i = subst (λ xs. slice_get xs k ≡ Some i) of (at_slot items k i low is) in
    let c = chosen (is_first k (lookup (text_eq (declares i).text) entries)) refl (sym here ∙ some) in
    let kn = first_known (lookup (text_eq (declares i).text) entries) refl c.0 in
    let there : declaration 0 d.items name ≡ Some kn.0 = ap (declaration 0 d.items) called ∙ ap (λ xs. declaration 0 xs (declares i).text) (sym of) ∙ sym (known (declares i).text) ∙ kn.1 in
    let s : Stands d.items 0 name k = subst (Stands d.items 0 name) kn.2 (known_stands d.items name kn.0 there) in
    let what : s.what ≡ i = some_same _ _ (sym s.at ∙ at) in
    let r = has_rule i p c.1 in
    let here' : declared (table d) name ≡ Some (And r.0) = declared_here d name s.what (And r.0) s.first (ap rule_part what ∙ r.1) in
    let f : FirstOther (is_linear r.0) r.0.pars p = other_some (is_linear r.0) r.0.pars p (sym (ruled i r.0 r.1) ∙ c.1) in
    let fault : LinearFault (table d) name p = record { rule = r.0; is = here'; parameter = f.within; other = f.other } in (
      record {
        holds = (p, fault);
        place = k;
        stands = (i, at, sym called);
        first = λ n other o' h.
            let w = some_item d other (And h.1.rule) (sym (declared_rule d other) ∙ ap (option_and_then only_rule) h.1.is) in
            let u = numbered d.items 0 other w.0 w.1 in
            let q = u.1.number in
            let l = first_least d.items 0 n other u.1.known o'.0 u.1.is o'.1 o'.2 in
            elim (cases_lt u.0 k) [ inl under ↦ absurd (before.none u.0 under other u.1 h) | inr more ↦ omega (arith, q, l, more) ];
      },
      record {
        fault = fault;
        place = f.place;
        stands = f.at;
        first = λ j q at' lf.
            let e : Some (And lf.rule) ≡ Some (And r.0) = sym lf.is ∙ here' in
            let same : lf.rule ≡ r.0 = cc in
            f.first j q at' (ap (λ z. is_linear z q) (sym same) ∙ lf.other);
      },
    )
  where
    chosen : (b : Bool) → is_first k (lookup (text_eq (declares i).text) entries) ≡ b → (if b then other_parameter i else None) ≡ Some p → (is_first k (lookup (text_eq (declares i).text) entries) ≡ true) × (other_parameter i ≡ Some p)
    chosen true e h = (e, h)
    chosen false e h = absurd cc

    first_known : (x : Option Declaration) → lookup (text_eq (declares i).text) entries ≡ x → is_first k (lookup (text_eq (declares i).text) entries) ≡ true → (kn : Declaration) × (lookup (text_eq (declares i).text) entries ≡ Some kn) × (kn.first ≡ k)
    first_known None e h = absurd (true≢false (sym h ∙ ap (is_first k) e))
    first_known (Some kn) e h = (kn, e, (Decides-eqb kn.first k).0 (sym (ap (is_first k) e) ∙ h))

pub none_begin : (d : Desc) → NoneBefore d 0
none_begin d = record { none = λ n less. absurd (omega (arith, less)) }

stands_below : (items : List Item) (n : ℕ) (i : Item) → slice_get items n ≡ Some i → n < length items
stands_below [] n i h = absurd cc
stands_below (x ∷ items) zero i h = omega arith
stands_below (x ∷ items) (suc n) i h = let l = stands_below items n i h in omega (arith, l)

-- after the last
pub none_at_all : (d : Desc) (items : List Item) (k : ℕ) → items ≡ d.items → length items ≤ k → NoneBefore d k → (rule p : Text) → LinearFault (table d) rule p → ⊥
none_at_all d items k of far before rule p f =
    let w = some_item d rule (And f.rule) (sym (declared_rule d rule) ∙ ap (option_and_then only_rule) f.is) in
    let u = numbered d.items 0 rule w.0 w.1 in
    let l = stands_below d.items u.0 u.1.what u.1.at in
    let far' : length d.items ≤ k = rw (← of) far in
    before.none u.0 (omega (arith, l, far')) rule u.1 (p, f)
