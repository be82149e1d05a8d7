-- The rules that names declare, and the numbers of what a rule names.
use Rattle.std.proofs.Common.{◌≡◌, ℕ, zero, suc, ◌+◌, ◌≤◌, Bool, true, false, List, [], ◌∷◌, ◌++◌, map, slice_get, Option, Some, None, refl, ap, sym, subst, ◌∙◌, arith, if◌then◌else◌, cond, ◌⊎◌, inl, inr, Contains, option_and_then, option_map}
use Rattle.std.specs.Map.{lookup}
use Rattle.std.specs.Option.{option_or}
use Rattle.nk_base.specs.Text.{text_eq}
use Rattle.nk_base.specs.declared.number.Ty.{Ty}
use Rattle.nml_tree.specs.declared.names.Name.{Name}
use Rattle.nml_tree.specs.declared.tree.TypeExpr.{TypeExpr}
use Rattle.nml_tree.specs.declared.tree.TypeExpr.TheVariants as type_expr
use Rattle.nml_tree.specs.declared.tree.Par.{Par}
use Rattle.nml_tree.specs.declared.tree.PortWord.{PortWord}
use Rattle.nml_tree.specs.declared.tree.PortWord.TheVariants as port
use Rattle.nml_tree.specs.declared.tree.Item.{Item}
use Rattle.nml_tree.specs.declared.tree.Item.TheVariants as item
use Rattle.nml_tree.specs.declared.tree.Desc.{Desc}
use Rattle.nml_tree.specs.Formula.{formula}
use Rattle.nml_tree.specs.Table.{Text, Table, Declared, Constant, TypeName, Storage, Trn, Inp, Out, Or, And, declared, table, entry, entries, port_of, type_or_none, type_of, is_mode_word, rule_of, Parameter, parameter_of, parameter_named}
use Rattle.nml_tree.specs.Uses.{declares}
use Rattle.nml_tree.specs.NameFault.{is_rule}
use Rattle.nml_tree.proofs.SameText.{same_text, equal_text}
use Rattle.nml_names.specs.declared.names.Declaration.{Declaration}
use Rattle.nml_names.specs.Naming.{constant_of, declaration, least_place, is_late}
use Rattle.nml_names.specs.Below.{Names, first_number, part, with_alternatives, with_parts}
use Rattle.graphs.specs.Graphs.{Among}
use Rattle.graphs.proofs.Search.{among_front}

-- the first item that declares the name
abbrev pub first_item : List Item → Text → Option Item
first_item [] name = None
first_item (i ∷ items) name = if text_eq name (declares i).text then Some i else first_item items name

-- what an item declares, where that is a rule
abbrev pub rule_part : Item → Option Declared
rule_part (item.OrRule r) = Some (Or (is_mode_word r.word) (r.first.text ∷ map (λ (bar, n). n.text) r.rest))
rule_part (item.OpRule r) = Some (And (rule_of r.pars None r.attrs))
rule_part (item.ModeRule r) = Some (And (rule_of r.pars (Some (formula r.value)) r.attrs))
rule_part _ = None

abbrev pub only_rule : Declared → Option Declared
only_rule (Or mode ns) = Some (Or mode ns)
only_rule (And r) = Some (And r)
only_rule _ = None

pub entry_name : (t : Table) (i : Item) → (entry t i).0 ≡ (declares i).text
entry_name t (item.Let at n equals minus z) = refl
entry_name t (item.Type at n equals e) = refl
entry_name t (item.Storage s) = refl
entry_name t (item.Port p) = refl
entry_name t (item.OrRule r) = refl
entry_name t (item.OpRule r) = refl
entry_name t (item.ModeRule r) = refl

entry_rule : (t : Table) (i : Item) → only_rule (entry t i).1 ≡ rule_part i
entry_rule t (item.Let at n equals minus z) = refl
entry_rule t (item.Type at n equals e) = refl
entry_rule t (item.Storage s) = refl
entry_rule t (item.Port p) = word p.word
  where
    word : (w : PortWord) → only_rule (port_of t w (type_or_none t p.ty)) ≡ None
    word (port.Trn a) = refl
    word (port.Inp a) = refl
    word (port.Out a) = refl
entry_rule t (item.OrRule r) = refl
entry_rule t (item.OpRule r) = refl
entry_rule t (item.ModeRule r) = refl

pub found_behind : (name : Text) (t : Table) (e : Text × Declared) → lookup (text_eq name) (t ++ e ∷ []) ≡ option_or (lookup (text_eq name) t) (if text_eq name e.0 then Some e.1 else None)
found_behind name [] e = refl
found_behind name (x ∷ t) e = by (text_eq name x.0) (found_behind name t e)
  where
    by : (b : Bool) → lookup (text_eq name) (t ++ e ∷ []) ≡ option_or (lookup (text_eq name) t) (if text_eq name e.0 then Some e.1 else None) → cond b (Some x.1) (lookup (text_eq name) (t ++ e ∷ [])) ≡ option_or (cond b (Some x.1) (lookup (text_eq name) t)) (if text_eq name e.0 then Some e.1 else None)
    by true h = refl
    by false h = h

abbrev pub earlier_rule : Option Declared → Option Item → Option Declared
earlier_rule (Some x) i = only_rule x
earlier_rule None i = option_and_then rule_part i

rules_from : (t : Table) (items : List Item) (name : Text) → option_and_then only_rule (lookup (text_eq name) (entries t items)) ≡ earlier_rule (lookup (text_eq name) t) (first_item items name)
rules_from t [] name = by (lookup (text_eq name) t)
  where
    by : (x : Option Declared) → option_and_then only_rule x ≡ earlier_rule x None
    by None = refl
    by (Some x) = refl
rules_from t (i ∷ items) name =
    rules_from (t ++ entry t i ∷ []) items name
    ∙ ap (λ x. earlier_rule x (first_item items name)) (found_behind name t (entry t i) ∙ ap (λ n. option_or (lookup (text_eq name) t) (if text_eq name n then Some (entry t i).1 else None)) (entry_name t i))
    ∙ by (lookup (text_eq name) t) (text_eq name (declares i).text)
  where
    by : (x : Option Declared) (b : Bool) → earlier_rule (option_or x (if b then Some (entry t i).1 else None)) (first_item items name) ≡ earlier_rule x (if b then Some i else first_item items name)
    by (Some x) b = refl
    by None true = entry_rule t i
    by None false = refl

pub declared_rule : (d : Desc) (name : Text) → option_and_then only_rule (declared (table d) name) ≡ option_and_then rule_part (first_item d.items name)
declared_rule d name = rules_from [] d.items name

pub only_back : (x : Option Declared) (y : Declared) → option_and_then only_rule x ≡ Some y → x ≡ Some y
only_back None y h = absurd cc
only_back (Some (Constant z)) y h = absurd cc
only_back (Some (TypeName t)) y h = absurd cc
only_back (Some (Storage n k t)) y h = absurd cc
only_back (Some (Trn n t)) y h = absurd cc
only_back (Some (Inp t)) y h = absurd cc
only_back (Some (Out t)) y h = absurd cc
only_back (Some (Or mode ns)) y h = h
only_back (Some (And r)) y h = h

-- the first item that declares the name, its number, and what the names know of it
pub record Stands (items : List Item) (j : ℕ) (a : Text) (n : ℕ) : Type 0 where
  pub what : Item
  pub first : first_item items a ≡ Some what
  pub at : slice_get items n ≡ Some what
  pub known : Declaration
  pub is : declaration j items a ≡ Some known
  pub number : known.first ≡ j + n
  pub rule : known.rule ≡ is_rule what

pub numbered : (items : List Item) (j : ℕ) (a : Text) (i : Item) → first_item items a ≡ Some i → (n : ℕ) × Stands items j a n
numbered [] j a i h = absurd cc
numbered (x ∷ items) j a i h = by (text_eq a (declares x).text) refl h (numbered items (j + 1) a i)
  where
    by : (b : Bool) → text_eq a (declares x).text ≡ b → (if b then Some x else first_item items a) ≡ Some i → (first_item items a ≡ Some i → (n : ℕ) × Stands items (j + 1) a n) → (n : ℕ) × Stands (x ∷ items) j a n
    by true e h rest = (
      0,
      record {
        what = x;
        first = rw e refl;
        at = refl;
        known = record { first = j; place = least_place (declares x).at (declaration (j + 1) items a); late = is_late x; rule = is_rule x; constant = constant_of x };
        is = rw e refl;
        number = omega arith;
        rule = refl;
      },
    )
    by false e h rest = let r = rest h in let l = r.1.number in (
      suc r.0,
      record {
        what = r.1.what;
        first = rw e r.1.first;
        at = r.1.at;
        known = r.1.known;
        is = rw e r.1.is;
        number = omega (arith, l);
        rule = r.1.rule;
      },
    )

-- a name that is known has an item
has_item : (items : List Item) (j : ℕ) (a : Text) (d : Declaration) → declaration j items a ≡ Some d → (i : Item) × (first_item items a ≡ Some i)
has_item [] j a d h = absurd cc
has_item (x ∷ items) j a d h = by (text_eq a (declares x).text) refl h (has_item items (j + 1) a d)
  where
    by : (b : Bool) → text_eq a (declares x).text ≡ b → (if b then Some (record { first = j; place = least_place (declares x).at (declaration (j + 1) items a); late = is_late x; rule = is_rule x; constant = constant_of x }) else declaration (j + 1) items a) ≡ Some d
        → (declaration (j + 1) items a ≡ Some d → (i : Item) × (first_item items a ≡ Some i)) → (i : Item) × (first_item (x ∷ items) a ≡ Some i)
    by true e h rest = (x, rw e refl)
    by false e h rest = let r = rest h in (r.0, rw e r.1)

pub some_same : {A : Type 0} (x y : A) → Some x ≡ Some y → x ≡ y
some_same x y h = cc

pub known_stands : (items : List Item) (a : Text) (d : Declaration) → declaration 0 items a ≡ Some d → Stands items 0 a d.first
known_stands items a d h =
    let i = has_item items 0 a d h in
    let s = numbered items 0 a i.0 i.1 in
    let same : s.1.known ≡ d = some_same _ _ (sym s.1.is ∙ h) in
    let place : s.0 ≡ d.first = (let l = s.1.number in let e : s.1.known.first ≡ d.first = ap (λ (x : Declaration). x.first) same in omega (arith, l, e)) in
    subst (Stands items 0 a) place s.1

pub named : (items : List Item) (a : Text) (i : Item) → first_item items a ≡ Some i → a ≡ (declares i).text
named [] a i h = absurd cc
named (x ∷ items) a i h = by (text_eq a (declares x).text) refl h (named items a i)
  where
    by : (b : Bool) → text_eq a (declares x).text ≡ b → (if b then Some x else first_item items a) ≡ Some i → (first_item items a ≡ Some i → a ≡ (declares i).text) → a ≡ (declares i).text
    by true e h rest = let s : x ≡ i = some_same _ _ h in same_text a (declares x).text e ∙ ap (λ z. (declares z).text) s
    by false e h rest = rest h

-- the first is before any other
pub first_least : (items : List Item) (j k : ℕ) (a : Text) (d : Declaration) (i : Item) → declaration j items a ≡ Some d → slice_get items k ≡ Some i → (declares i).text ≡ a → d.first ≤ j + k
first_least [] j k a d i h at is = absurd cc
first_least (x ∷ items) j zero a d i h at is =
    let s : x ≡ i = some_same _ _ at in
    let t : text_eq a (declares x).text ≡ true = equal_text a (declares x).text (sym (ap (λ z. (declares z).text) s ∙ is)) in
    let e = some_same _ _ (ap (λ b. if b then Some (record { first = j; place = least_place (declares x).at (declaration (j + 1) items a); late = is_late x; rule = is_rule x; constant = constant_of x }) else declaration (j + 1) items a) (sym t) ∙ h) in
    let f : j ≡ d.first = ap (λ (z : Declaration). z.first) e in
    omega (arith, f)
first_least (x ∷ items) j (suc k) a d i h at is = by (text_eq a (declares x).text) h (λ r. first_least items (j + 1) k a d i r at is)
  where
    by : (b : Bool) → (if b then Some (record { first = j; place = least_place (declares x).at (declaration (j + 1) items a); late = is_late x; rule = is_rule x; constant = constant_of x }) else declaration (j + 1) items a) ≡ Some d
        → (declaration (j + 1) items a ≡ Some d → d.first ≤ (j + 1) + k) → d.first ≤ j + suc k
    by true h rest = let f : j ≡ d.first = ap (λ (z : Declaration). z.first) (some_same _ _ h) in omega (arith, f)
    by false h rest = let l = rest h in omega (arith, l)

-- members of lists
pub in_front : {A : Type 0} (x : A) (xs : List A) → Contains (x ∷ xs) x
in_front x xs = (0, omega arith, refl)

in_behind : {A : Type 0} (x : A) (xs : List A) (y : A) → Contains xs y → Contains (x ∷ xs) y
in_behind x xs y (k, low, is) = (suc k, omega (arith, low), is)

in_either : {A : Type 0} (x : A) (xs : List A) (y : A) → Contains (x ∷ xs) y → (x ≡ y) ⊎ Contains xs y
in_either x xs y (zero, low, is) = inl is
in_either x xs y (suc k, low, is) = inr (k, omega (arith, low), is)

among_both : (xs ys : List ℕ) (m : ℕ) → Among (xs ++ ys) m → Among xs m ⊎ Among ys m
among_both [] ys m h = inr h
among_both (x ∷ xs) ys m (inl h) = inl (inl h)
among_both (x ∷ xs) ys m (inr h) = elim (among_both xs ys m h) [ inl k ↦ inl (inr k) | inr k ↦ inr k ]

among_last : (xs ys : List ℕ) (m : ℕ) → Among ys m → Among (xs ++ ys) m
among_last [] ys m h = h
among_last (x ∷ xs) ys m h = inr (among_last xs ys m h)

-- alternatives
alternatives_kept : (f : Names) (numbers : List ℕ) (ns : List Text) (m : ℕ) → Among numbers m → Among (with_alternatives f numbers ns) m
alternatives_kept f numbers [] m h = h
alternatives_kept f numbers (n ∷ ns) m h = alternatives_kept f (numbers ++ first_number (f n)) ns m (among_front numbers (first_number (f n)) m h)

pub alternatives_have : (f : Names) (numbers : List ℕ) (ns : List Text) (y : Text) (m : ℕ) → Contains ns y → Among (first_number (f y)) m → Among (with_alternatives f numbers ns) m
alternatives_have f numbers [] y m c h = let l = c.1 in absurd (omega (arith, l))
alternatives_have f numbers (n ∷ ns) y m c h = elim (in_either n ns y c) [
  | inl e ↦ alternatives_kept f (numbers ++ first_number (f n)) ns m (among_last numbers (first_number (f n)) m (rw e h))
  | inr r ↦ alternatives_have f (numbers ++ first_number (f n)) ns y m r h
]

pub alternatives_from : (f : Names) (numbers : List ℕ) (ns : List Text) (m : ℕ) → Among (with_alternatives f numbers ns) m → Among numbers m ⊎ ((y : Text) × Contains ns y × Among (first_number (f y)) m)
alternatives_from f numbers [] m h = inl h
alternatives_from f numbers (n ∷ ns) m h = elim (alternatives_from f (numbers ++ first_number (f n)) ns m h) [
  | inl k ↦ elim (among_both numbers (first_number (f n)) m k) [ inl a ↦ inl a | inr a ↦ inr (n, in_front n ns, a) ]
  | inr r ↦ inr (r.0, in_behind n ns r.0 r.1, r.2)
]

-- parts
parts_kept : (f : Names) (numbers : List ℕ) (ps : List Par) (m : ℕ) → Among numbers m → Among (with_parts f numbers ps) m
parts_kept f numbers [] m h = h
parts_kept f numbers (p ∷ ps) m h = parts_kept f (numbers ++ part f p.ty) ps m (among_front numbers (part f p.ty) m h)

pub parts_have : (f : Names) (numbers : List ℕ) (ps : List Par) (q : Par) (m : ℕ) → Contains ps q → Among (part f q.ty) m → Among (with_parts f numbers ps) m
parts_have f numbers [] q m c h = let l = c.1 in absurd (omega (arith, l))
parts_have f numbers (p ∷ ps) q m c h = elim (in_either p ps q c) [
  | inl e ↦ parts_kept f (numbers ++ part f p.ty) ps m (among_last numbers (part f p.ty) m (rw e h))
  | inr r ↦ parts_have f (numbers ++ part f p.ty) ps q m r h
]

pub parts_from : (f : Names) (numbers : List ℕ) (ps : List Par) (m : ℕ) → Among (with_parts f numbers ps) m → Among numbers m ⊎ ((q : Par) × Contains ps q × Among (part f q.ty) m)
parts_from f numbers [] m h = inl h
parts_from f numbers (p ∷ ps) m h = elim (parts_from f (numbers ++ part f p.ty) ps m h) [
  | inl k ↦ elim (among_both numbers (part f p.ty) m k) [ inl a ↦ inl a | inr a ↦ inr (p, in_front p ps, a) ]
  | inr r ↦ inr (r.0, in_behind p ps r.0 r.1, r.2)
]

-- a parameter that is a part has a rule's name
abbrev pub IsPartOf : TypeExpr → Text → Type 0
IsPartOf ty b = (x : Name) × (ty ≡ type_expr.Name x) × (x.text ≡ b)

no_field : (o : Option Ty) (b : Text) → option_map Parameter.Field o ≡ Some (Parameter.Part b) → ⊥
no_field None b h = cc
no_field (Some t) b h = cc

part_named : (name b : Text) (o : Option Declared) → parameter_named name o ≡ Some (Parameter.Part b) → name ≡ b
part_named name b None h = absurd cc
part_named name b (Some (Constant z)) h = absurd cc
part_named name b (Some (TypeName t)) h = absurd cc
part_named name b (Some (Storage n k t)) h = absurd cc
part_named name b (Some (Trn n t)) h = absurd cc
part_named name b (Some (Inp t)) h = absurd cc
part_named name b (Some (Out t)) h = absurd cc
part_named name b (Some (Or mode ns)) h = cc
part_named name b (Some (And r)) h = cc

pub is_part_of : (t : Table) (ty : TypeExpr) (b : Text) → parameter_of t ty ≡ Some (Parameter.Part b) → IsPartOf ty b
is_part_of t (type_expr.Bool at) b h = absurd (no_field (type_of t (type_expr.Bool at)) b h)
is_part_of t (type_expr.Card at p n q) b h = absurd (no_field (type_of t (type_expr.Card at p n q)) b h)
is_part_of t (type_expr.Int at p n q) b h = absurd (no_field (type_of t (type_expr.Int at p n q)) b h)
is_part_of t (type_expr.Fix at p n c m q) b h = absurd (no_field (type_of t (type_expr.Fix at p n c m q)) b h)
is_part_of t (type_expr.Float at p n c m q) b h = absurd (no_field (type_of t (type_expr.Float at p n c m q)) b h)
is_part_of t (type_expr.Name x) b h = (x, refl, part_named x.text b (declared t x.text) h)
