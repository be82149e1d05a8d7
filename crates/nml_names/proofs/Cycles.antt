-- Rules that reach one another, by their names and by their numbers.
use Rattle.std.proofs.Common.{◌≡◌, ℕ, zero, suc, ◌<◌, ◌≤◌, Bool, true, false, List, [], ◌∷◌, map, length, slice_get, Option, Some, None, refl, ap, sym, subst, ◌∙◌, arith, if◌then◌else◌, inl, inr, Contains, option_and_then, Result, Ok, Err, IfOk, MatchOption}
use Rattle.nml_tree.specs.declared.tree.TypeExpr.{TypeExpr}
use Rattle.nml_tree.specs.declared.tree.TypeExpr.TheVariants as type_expr
use Rattle.nml_tree.specs.declared.tree.Par.{Par}
use Rattle.nml_tree.specs.declared.tree.Item.{Item}
use Rattle.nml_tree.specs.declared.tree.Item.TheVariants as item
use Rattle.nml_tree.specs.declared.tree.Desc.{Desc}
use Rattle.nml_tree.specs.Formula.{formula}
use Rattle.nml_tree.specs.Table.{Text, Table, Rule, Declared, Or, And, declared, table, rule_of, pars_of, Parameter, parameter_of, parameter_named}
use Rattle.nml_tree.specs.Uses.{declares}
use Rattle.nml_tree.specs.NameFault.{is_rule}
use Rattle.nml_tree.specs.Reach as reach
use Rattle.nml_tree.specs.Reach.{IsBelow, CycleFault}
use Rattle.nml_tree.specs.Refused.{IsFirstRule}
use Rattle.nml_names.specs.declared.names.Declaration.{Declaration}
use Rattle.nml_names.specs.Naming.{declaration, AreDeclared}
use Rattle.nml_names.specs.Below.{Names, first_number, rule_number, part, below, graph, looked}
use Rattle.graphs.specs.Graphs.{Graph, row, Among, Edge, Reaches, at_once, over, InRange}
use Rattle.graphs.proofs.Search.{starts_below}
use Rattle.nml_names.proofs.RuleNames.{first_item, rule_part, only_rule, declared_rule, only_back, Stands, numbered, known_stands, named, first_least, some_same, alternatives_have, alternatives_from, parts_have, parts_from, IsPartOf, is_part_of}

row_map : (h : Item → List ℕ) (items : List Item) (n : ℕ) (i : Item) → slice_get items n ≡ Some i → row (map h items) n ≡ h i
row_map h [] n i at = absurd cc
row_map h (x ∷ items) zero i at = ap h (some_same _ _ at)
row_map h (x ∷ items) (suc n) i at = row_map h items n i at

some_at : (h : Item → List ℕ) (items : List Item) (n m : ℕ) → Among (row (map h items) n) m → (i : Item) × (slice_get items n ≡ Some i)
some_at h [] n m e = absurd e
some_at h (x ∷ items) zero m e = (x, refl)
some_at h (x ∷ items) (suc n) m e = some_at h items n m e

module _ (d : Desc) where
  abbrev f : Names
  f = declaration 0 d.items

  abbrev t : Table
  t = table d

  abbrev g : Graph
  g = graph d.items

  -- what the name of an item declares
  or_here : (a : Text) (i : Item) (mode : Bool) (ns : List Text) → first_item d.items a ≡ Some i → declared t a ≡ Some (Or mode ns) → rule_part i ≡ Some (Or mode ns)
  or_here a i mode ns at is = ap (option_and_then rule_part) (sym at) ∙ sym (declared_rule d a) ∙ ap (option_and_then only_rule) is

  pub and_here : (a : Text) (i : Item) (r : Rule) → first_item d.items a ≡ Some i → declared t a ≡ Some (And r) → rule_part i ≡ Some (And r)
  and_here a i r at is = ap (option_and_then rule_part) (sym at) ∙ sym (declared_rule d a) ∙ ap (option_and_then only_rule) is

  pub declared_here : (a : Text) (i : Item) (x : Declared) → first_item d.items a ≡ Some i → rule_part i ≡ Some x → declared t a ≡ Some x
  declared_here a i x at is = only_back (declared t a) x (declared_rule d a ∙ ap (option_and_then rule_part) at ∙ is)

  -- a rule that names something has an item
  pub some_item : (a : Text) (x : Declared) → option_and_then rule_part (first_item d.items a) ≡ Some x → (i : Item) × (first_item d.items a ≡ Some i) × (rule_part i ≡ Some x)
  some_item a x h = by (first_item d.items a) refl h
    where
      by : (o : Option Item) → first_item d.items a ≡ o → option_and_then rule_part o ≡ Some x → (i : Item) × (first_item d.items a ≡ Some i) × (rule_part i ≡ Some x)
      by None e h = absurd cc
      by (Some i) e h = (i, e, h)

  pub part_is_rule : (i : Item) (x : Declared) → rule_part i ≡ Some x → is_rule i ≡ true
  part_is_rule (item.Let at n equals minus z) x h = absurd cc
  part_is_rule (item.Type at n equals e) x h = absurd cc
  part_is_rule (item.Storage s) x h = absurd cc
  part_is_rule (item.Port p) x h = absurd cc
  part_is_rule (item.OrRule r) x h = refl
  part_is_rule (item.OpRule r) x h = refl
  part_is_rule (item.ModeRule r) x h = refl

  rule_has_part : (i : Item) → is_rule i ≡ true → (x : Declared) × (rule_part i ≡ Some x) × ((name : Text) → parameter_named name (Some x) ≡ Some (Parameter.Part name))
  rule_has_part (item.Let at n equals minus z) h = absurd cc
  rule_has_part (item.Type at n equals e) h = absurd cc
  rule_has_part (item.Storage s) h = absurd cc
  rule_has_part (item.Port p) h = absurd cc
  rule_has_part (item.OrRule r) h = (_, refl, λ name. refl)
  rule_has_part (item.OpRule r) h = (_, refl, λ name. refl)
  rule_has_part (item.ModeRule r) h = (_, refl, λ name. refl)

  pub starts : (a b : Text) → IsBelow t a b → (i : Item) × (first_item d.items a ≡ Some i) × (is_rule i ≡ true)
  starts a b (reach.Alternative mode ns is c) = let s = some_item a (Or mode ns) (sym (declared_rule d a) ∙ ap (option_and_then only_rule) is) in (s.0, s.1, part_is_rule s.0 _ s.2)
  starts a b (reach.Part r p is c e) = let s = some_item a (And r) (sym (declared_rule d a) ∙ ap (option_and_then only_rule) is) in (s.0, s.1, part_is_rule s.0 _ s.2)

  starts_far : (a b : Text) → reach.Reaches t a b → (i : Item) × (first_item d.items a ≡ Some i) × (is_rule i ≡ true)
  starts_far a b (reach.Straight e) = starts a _ e
  starts_far a b (reach.Onward e r) = starts a _ e

  -- of a name that stands at a number, as a rule
  pub record RuleAt (a : Text) (n : ℕ) : Type 0 where
    pub stands : Stands d.items 0 a n
    pub rule : is_rule stands.what ≡ true

  pub rule_at : (a : Text) → ((i : Item) × (first_item d.items a ≡ Some i) × (is_rule i ≡ true)) → (n : ℕ) × RuleAt a n
  rule_at a s =
      let r = numbered d.items 0 a s.0 s.1 in
      let same : r.1.what ≡ s.0 = some_same _ _ (sym r.1.first ∙ s.1) in
      (r.0, record { stands = r.1; rule = ap is_rule same ∙ s.2 })

  -- one step, from names to numbers
  number_here : (b : Text) (m : ℕ) → RuleAt b m → Among (first_number (f b)) m
  number_here b m s = let l = s.stands.number in rw s.stands.is (inl (omega (arith, l)))

  rule_number_here : (b : Text) (m : ℕ) → RuleAt b m → Among (rule_number (f b)) m
  rule_number_here b m s =
      let l = s.stands.number in
      let r : s.stands.known.rule ≡ true = s.stands.rule ∙ s.rule in
      rw (s.stands.is, r) (inl (omega (arith, l)))

  or_below : (i : Item) (b : Text) (m : ℕ) (mode : Bool) (ns : List Text) → rule_part i ≡ Some (Or mode ns) → Contains ns b → RuleAt b m → Among (below f i) m
  or_below (item.Let at n equals minus z) b m mode ns is c s = absurd cc
  or_below (item.Type at n equals e) b m mode ns is c s = absurd cc
  or_below (item.Storage x) b m mode ns is c s = absurd cc
  or_below (item.Port p) b m mode ns is c s = absurd cc
  or_below (item.OrRule r) b m mode ns is c s =
      let e : (r.first.text ∷ map (λ (bar, n). n.text) r.rest) ≡ ns = cc in
      alternatives_have f [] (r.first.text ∷ map (λ (bar, n). n.text) r.rest) b m (subst (λ xs. Contains xs b) (sym e) c) (number_here b m s)
  or_below (item.OpRule r) b m mode ns is c s = absurd cc
  or_below (item.ModeRule r) b m mode ns is c s = absurd cc

  part_below : (p : Par) (b : Text) (m : ℕ) → IsPartOf p.ty b → RuleAt b m → Among (part f p.ty) m
  part_below p b m (x, is, same) s = rw (is, same) (rule_number_here b m s)

  and_below : (i : Item) (b : Text) (m : ℕ) (rule : Rule) (p : Par) → rule_part i ≡ Some (And rule) → Contains rule.pars p → IsPartOf p.ty b → RuleAt b m → Among (below f i) m
  and_below (item.Let at n equals minus z) b m rule p is c o s = absurd cc
  and_below (item.Type at n equals e) b m rule p is c o s = absurd cc
  and_below (item.Storage x) b m rule p is c o s = absurd cc
  and_below (item.Port q) b m rule p is c o s = absurd cc
  and_below (item.OrRule r) b m rule p is c o s = absurd cc
  and_below (item.OpRule r) b m rule p is c o s =
      let e : rule_of r.pars None r.attrs ≡ rule = cc in
      parts_have f [] (pars_of r.pars) p m (subst (λ (z : Rule). Contains z.pars p) (sym e) c) (part_below p b m o s)
  and_below (item.ModeRule r) b m rule p is c o s =
      let e : rule_of r.pars (Some (formula r.value)) r.attrs ≡ rule = cc in
      parts_have f [] (pars_of r.pars) p m (subst (λ (z : Rule). Contains z.pars p) (sym e) c) (part_below p b m o s)

  pub step_forth : (a b : Text) (n m : ℕ) → IsBelow t a b → RuleAt a n → RuleAt b m → Edge g n m
  step_forth a b n m (reach.Alternative mode ns is c) s u =
      rw (row_map (below f) d.items n s.stands.what s.stands.at) (or_below s.stands.what b m mode ns (or_here a s.stands.what mode ns s.stands.first is) c u)
  step_forth a b n m (reach.Part r p is c e) s u =
      rw (row_map (below f) d.items n s.stands.what s.stands.at) (and_below s.stands.what b m r p (and_here a s.stands.what r s.stands.first is) c (is_part_of t p.ty b e) u)

  forth : (a c : Text) (n m : ℕ) → reach.Reaches t a c → RuleAt a n → RuleAt c m → Reaches g n m
  forth a c n m (reach.Straight e) s u = at_once (step_forth a c n m e s u)
  forth a c n m (reach.Onward {b = b} e r) s u = let k = rule_at b (starts_far b c r) in over (step_forth a b n k.0 e s k.1) (forth b c k.0 m r k.1 u)

  -- and back
  pub record Named (i : Item) (m : ℕ) : Type 0 where
    pub name : Text
    pub stands : Stands d.items 0 name m
    pub below : (a : Text) → first_item d.items a ≡ Some i → IsBelow t a name

  number_back : (y : Text) (m : ℕ) → Among (first_number (f y)) m → Stands d.items 0 y m
  number_back y m h = by (f y) refl h
    where
      by : (o : Option Declaration) → f y ≡ o → Among (first_number o) m → Stands d.items 0 y m
      by None e h = absurd h
      by (Some k) e (inl h) = subst (Stands d.items 0 y) h (known_stands d.items y k e)
      by (Some k) e (inr h) = absurd h

  rule_number_back : (y : Text) (m : ℕ) → Among (rule_number (f y)) m → RuleAt y m
  rule_number_back y m h = by (f y) refl h
    where
      pick : (k : Declaration) → f y ≡ Some k → (b : Bool) → k.rule ≡ b → Among (if b then k.first ∷ [] else []) m → RuleAt y m
      pick k e true r (inl h) =
          let s = known_stands d.items y k e in
          let same : s.known ≡ k = some_same _ _ (sym s.is ∙ e) in
          let u : RuleAt y k.first = record { stands = s; rule = sym s.rule ∙ ap (λ (z : Declaration). z.rule) same ∙ r } in
          subst (RuleAt y) h u
      pick k e true r (inr h) = absurd h
      pick k e false r h = absurd h

      by : (o : Option Declaration) → f y ≡ o → Among (rule_number o) m → RuleAt y m
      by None e h = absurd h
      by (Some k) e h = pick k e k.rule refl h

  part_back : (ty : TypeExpr) (m : ℕ) → Among (part f ty) m → (y : Text) × RuleAt y m × (parameter_of t ty ≡ Some (Parameter.Part y))
  part_back (type_expr.Bool at) m h = absurd h
  part_back (type_expr.Card at p n q) m h = absurd h
  part_back (type_expr.Int at p n q) m h = absurd h
  part_back (type_expr.Fix at p n c k q) m h = absurd h
  part_back (type_expr.Float at p n c k q) m h = absurd h
  part_back (type_expr.Name x) m h =
      let s = rule_number_back x.text m h in
      let r = rule_has_part s.stands.what s.rule in
      (x.text, s, ap (parameter_named x.text) (declared_here x.text s.stands.what r.0 s.stands.first r.1) ∙ r.2 x.text)

  below_back : (i : Item) (m : ℕ) → Among (below f i) m → Named i m
  below_back (item.Let at n equals minus z) m h = absurd h
  below_back (item.Type at n equals e) m h = absurd h
  below_back (item.Storage s) m h = absurd h
  below_back (item.Port p) m h = absurd h
  below_back (item.OrRule r) m h = elim (alternatives_from f [] (r.first.text ∷ map (λ (bar, n). n.text) r.rest) m h) [
    | inl k ↦ absurd k
    | inr k ↦ record { name = k.0; stands = number_back k.0 m k.2; below = λ a at. reach.Alternative _ _ (declared_here a (item.OrRule r) _ at refl) k.1 }
  ]
  below_back (item.OpRule r) m h = elim (parts_from f [] (pars_of r.pars) m h) [
    | inl k ↦ absurd k
    | inr k ↦ (let y = part_back k.0.ty m k.2 in record { name = y.0; stands = y.1.stands; below = λ a at. reach.Part (rule_of r.pars None r.attrs) k.0 (declared_here a (item.OpRule r) _ at refl) k.1 y.2 })
  ]
  below_back (item.ModeRule r) m h = elim (parts_from f [] (pars_of r.pars) m h) [
    | inl k ↦ absurd k
    | inr k ↦ (let y = part_back k.0.ty m k.2 in record { name = y.0; stands = y.1.stands; below = λ a at. reach.Part (rule_of r.pars (Some (formula r.value)) r.attrs) k.0 (declared_here a (item.ModeRule r) _ at refl) k.1 y.2 })
  ]

  edge_back : (n m : ℕ) → Edge g n m → (i : Item) × (slice_get d.items n ≡ Some i) × Named i m
  edge_back n m e = let i = some_at (below f) d.items n m e in (i.0, i.1, below_back i.0 m (subst (λ r. Among r m) (row_map (below f) d.items n i.0 i.1) e))

  lands : (n m : ℕ) → Reaches g n m → (b : Text) × Stands d.items 0 b m
  lands n m (at_once e) = let k = edge_back n m e in (k.2.name, k.2.stands)
  lands n m (over {b = b} e r) = lands b m r

  back : (a : Text) (n m : ℕ) → Stands d.items 0 a n → Reaches g n m → (b : Text) × Stands d.items 0 b m × reach.Reaches t a b
  back a n m s (at_once e) =
      let k = edge_back n m e in
      let same : k.0 ≡ s.what = some_same _ _ (sym k.1 ∙ s.at) in
      (k.2.name, k.2.stands, reach.Straight (k.2.below a (s.first ∙ ap Some (sym same))))
  back a n m s (over {b = b} e r) =
      let k = edge_back n b e in
      let same : k.0 ≡ s.what = some_same _ _ (sym k.1 ∙ s.at) in
      let u = back k.2.name b m k.2.stands r in
      (u.0, u.1, reach.Onward (k.2.below a (s.first ∙ ap Some (sym same))) u.2)

  -- a name that stands there is the item's
  stands_name : (a : Text) (n : ℕ) (i : Item) → Stands d.items 0 a n → slice_get d.items n ≡ Some i → a ≡ (declares i).text
  stands_name a n i s at = let same : s.what ≡ i = some_same _ _ (sym s.at ∙ at) in named d.items a s.what s.first ∙ ap (λ z. (declares z).text) same

  cycle_back : (n : ℕ) (i : Item) → Reaches g n n → slice_get d.items n ≡ Some i → CycleFault t (declares i).text
  cycle_back n i r at =
      let b = lands n n r in
      let u = back b.0 n n b.1 r in
      rw (← stands_name b.0 n i b.1 at) (subst (λ y. reach.Reaches t b.0 y) (stands_name u.0 n i u.1 at ∙ sym (stands_name b.0 n i b.1 at)) u.2)

  some_cycle : (n : ℕ) → Reaches g n n → (a : Text) × CycleFault t a
  some_cycle n r = let b = lands n n r in ((declares b.1.what).text, cycle_back n b.1.what r b.1.at)

  -- an answer about numbers, told of names
  pub told_of_names : {V E : Type 0} (P : V → Type 0) (r : Result (Option V) E) → IfOk r (λ found. MatchOption found ((n : ℕ) × Reaches g n n) P) → IfOk r (λ found. MatchOption found ((a : Text) × CycleFault t a) P)
  told_of_names P (Ok None) h = some_cycle h.0 h.1
  told_of_names P (Ok (Some v)) h = h
  told_of_names P (Err e) h = tt

  cycle_forth : (a : Text) → CycleFault t a → (n : ℕ) × RuleAt a n × Reaches g n n
  cycle_forth a h = let k = rule_at a (starts_far a a h) in (k.0, k.1, forth a a k.0 k.0 h k.1 k.1)

  pub no_cycle_found : ((n : ℕ) → Reaches g n n → ⊥) → (a : Text) → CycleFault t a → ⊥
  no_cycle_found none a h = let k = cycle_forth a h in none k.0 k.2

  pub first_found : (n : ℕ) (i : Item) (name : Text) → Reaches g n n → ((m : ℕ) → Reaches g m m → n ≤ m) → slice_get d.items n ≡ Some i → name ≡ (declares i).text → IsFirstRule d (CycleFault t) name
  first_found n i name r least at is = record {
    holds = rw is (cycle_back n i r at);
    place = n;
    stands = (i, at, sym is);
    first = λ k other there h.
        let c = cycle_forth other h in
        let l = least c.0 c.2 in
        let q = c.1.stands.number in
        let low = first_least d.items 0 k other c.1.stands.known there.0 c.1.stands.is there.1 there.2 in
        omega (arith, l, q, low);
  }

  -- the numbers are those of items
  pub below_length : (items : List Item) (n : ℕ) (i : Item) → slice_get items n ≡ Some i → n < length items
  below_length [] n i h = absurd cc
  below_length (x ∷ items) zero i h = omega arith
  below_length (x ∷ items) (suc n) i h = let l = below_length items n i h in omega (arith, l)

  pub length_rows : (h : Item → List ℕ) (items : List Item) → length (map h items) ≡ length items
  length_rows h [] = refl
  length_rows h (x ∷ items) = ap suc (length_rows h items)

  pub in_range : InRange g
  in_range = record { below = λ a b e. let k = edge_back a b e in rw (length_rows (below f) d.items) (below_length d.items b k.2.stands.what k.2.stands.at) }

  pub same_graph : (names : Names) → ((q : Text) → names q ≡ f q) → map (below names) d.items ≡ g
  same_graph names same = ap (λ (h : Names). map (below h) d.items) (λ j q. same q j)

  pub item_below : (n : ℕ) → Reaches g n n → n < length d.items
  item_below n r = let l = starts_below g n n r in rw (← length_rows (below f) d.items) l

-- the rows that the code makes
pub rows_are : (d : Desc) (items : List Item) (entries : List (Text × Declaration)) (rows : List (List ℕ)) → items ≡ d.items → AreDeclared entries items → rows ≡ map (below (looked entries)) items → rows ≡ graph d.items
rows_are d items entries rows of known is =
    is ∙ ap (map (below (looked entries))) of ∙ same_graph d (looked entries) (λ q. known q ∙ ap (λ xs. declaration 0 xs q) of)
