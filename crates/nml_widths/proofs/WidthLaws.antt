-- In a description where N4 to N7 fail each expression of an action fits.
use Rattle.std.proofs.Common.{◌≡◌, ℕ, zero, suc, ◌+◌, ◌≤◌, ℤ, pos, refl, ap, sym, ◌∙◌, subst, arith, List, [], ◌∷◌, ◌++◌, map, Option, Some, None, Bool, true, false, Contains, ◌⊎◌, inl, inr, lit≤}
use Rattle.std.specs.Prelude.{cond, flat_map, if◌then◌else◌, ◌&&◌, nat_le, option_map, unwrap_or, option_and_then}
use Rattle.std.specs.Map.{lookup}
use Rattle.std.proofs.lemmas.Bool.{leb-true, le-leb}
use Rattle.nk_base.specs.Text.{text_eq}
use Rattle.nk_base.specs.declared.number.Ty.{Ty}
use Rattle.nk_base.specs.declared.number.Ty.TheVariants as tys
use Rattle.nml_tree.specs.declared.names.Name.{Name}
use Rattle.nml_tree.specs.declared.tree.PortWord.{PortWord}
use Rattle.nml_tree.specs.declared.tree.PortWord.TheVariants as port
use Rattle.nml_tree.specs.declared.tree.Item.{Item}
use Rattle.nml_tree.specs.declared.tree.Item.TheVariants as item
use Rattle.nml_tree.specs.declared.tree.Desc.{Desc}
use Rattle.nml_tree.specs.declared.tree.Par.{Par}
use Rattle.nml_tree.specs.declared.tree.TypeExpr.{TypeExpr}
use Rattle.nml_tree.specs.declared.tree.TypeExpr.TheVariants as type_expr
use Rattle.nml_tree.specs.Table.{Text, Table, Rule, Declared, declared, table, entry, entries, port_of, is_mode_word, parameter_of, parameter_named, size_number, natural, Parameter}
use Rattle.nml_tree.specs.Derivation.{Derivation, Arguments, Compose, IsDerivation, fields, fields_of}
use Rattle.nml_tree.specs.Inside.{inside_value, inside_block, reads, handed_on}
use Rattle.nml_tree.specs.Worth.{is_rule, Kind, Unknown, is_type, of_ty, of_type, is_other, known_first, of_entry, rule_worth, rule_scope}
use Rattle.nml_tree.specs.TypeFault.{size_place, type_places, is_within, has_width, sum_of, names_type, is_part_type, parameter_places, is_rule_of, alternative_places, rule_places, item_places, type_fault_places, may_have_index}
use Rattle.nml_tree.specs.Places.{when, unless}
use Rattle.nml_tree.specs.WidthFault.{rule_widths, item_widths, width_places, assigned}
use Rattle.nml_tree.specs.Refused.{IsFreeBelow, By_cycle, By_type, By_width}
use Rattle.nml_tree.specs.Written as written
use Rattle.nml_tree.specs.Written.{arguments}
use Rattle.nml_tree.specs.Value.{View, value, number_at}
use Rattle.nml_widths.proofs.Fits.{Fits, natural_within, unless_none, no_left, no_right, right_right}
use Rattle.nml_widths.proofs.ModeFits.{ParRight, AreOfTypes, StandAt, names_fit, mode_fits, mode_valued}
use Rattle.nml_widths.proofs.Settled.{IsSound, is_right}
use Rattle.nml_widths.proofs.ActFits.{Everywhere, Each, Sound, IndexedNarrow, AreNarrow, narrow_left, narrow_right, block_sound, PlacesBelow, places_below}
use Rattle.std.specs.Prelude.{max}
use Rattle.std.specs.Cmp.Lexicographic.{bytes_decides}
use Rattle.nml_tree.specs.Table.{pars_of}
use Rattle.nml_tree.specs.Uses.{declares, parameters}
use Rattle.nml_tree.specs.NameFault.{shared_places, item_name_places, name_places_from, name_places}
use Rattle.nml_tree.specs.Refused.{By_name}
use Rattle.nml_widths.proofs.Fits.{when_none}
use Rattle.nml_widths.specs.Fitting.{EachValue}
use Rattle.nml_widths.proofs.ActFits.{value_sound}
use Rattle.nml_widths.proofs.Fits.{right_left}
use Rattle.nml_widths.specs.Fitting.{IsRightDeclared}
use Rattle.nml_state.specs.RightTypes.{ItemRight, EachRight}
use Rattle.nml_state.proofs.Lookups.{each_right}

none_from : (xs : List ℕ) → ((at : ℕ) → Contains xs at → ⊥) → xs ≡ []
none_from [] h = refl
none_from (x ∷ xs) h = absurd (h x (0, omega arith, refl))

flat_none : (f : Item → List ℕ) (xs : List Item) (i : Item) → Contains xs i → flat_map f xs ≡ [] → f i ≡ []
flat_none f [] i c h = absurd (omega (arith, c.1))
flat_none f (x ∷ xs) i (zero, low, is) h = subst (λ y. f y ≡ []) is (no_left _ _ h)
flat_none f (x ∷ xs) i (suc k, low, is) h = flat_none f xs i (k, omega (arith, low), is) (no_right (f x) _ h)

last_here : (b : Bool) (y x : Declared) → cond b (Some y) None ≡ Some x → (y ≡ x) × (b ≡ true)
last_here true y x h = (cc, refl)
last_here false y x h = absurd cc

last_step : (b : Bool) (y x : Declared) (o p : Option Declared) (Q : Type 0) → (p ≡ Some x → (o ≡ Some x) ⊎ Q) → cond b (Some y) p ≡ Some x → (cond b (Some y) o ≡ Some x) ⊎ Q
last_step true y x o p Q f h = inl h
last_step false y x o p Q f h = f h

lookup_last : (t : Table) (e : Text × Declared) (name : Text) (x : Declared) → lookup (text_eq name) (t ++ e ∷ []) ≡ Some x → (lookup (text_eq name) t ≡ Some x) ⊎ ((e.1 ≡ x) × (text_eq name e.0 ≡ true))
lookup_last [] e name x h = inr (last_here (text_eq name e.0) e.1 x h)
lookup_last (a ∷ t) e name x h = last_step (text_eq name a.0) a.1 x (lookup (text_eq name) t) (lookup (text_eq name) (t ++ e ∷ [])) _ (lookup_last t e name x) h

-- what is declared is declared by an item of this name
abbrev Found : List Item → Text → Declared → Type 0
Found items name x = (t : Table) × (i : Item) × Contains items i × ((entry t i).1 ≡ x) × (text_eq name (entry t i).0 ≡ true)

found : (items : List Item) (t : Table) (name : Text) (x : Declared) → declared (entries t items) name ≡ Some x → (declared t name ≡ Some x) ⊎ Found items name x
found [] t name x h = inl h
found (i ∷ items) t name x h =
    elim (found items (t ++ entry t i ∷ []) name x h) [
      | inl k ↦ elim (lookup_last t (entry t i) name x k) [ inl m ↦ inl m | inr e ↦ inr (t, i, (0, omega arith, refl), e.0, e.1) ]
      | inr f ↦ inr (f.0, f.1, (suc f.2.0, omega (arith, f.2.1), f.2.2), f.3, f.4)
    ]

found_in : (d : Desc) (name : Text) (x : Declared) → declared (table d) name ≡ Some x → Found d.items name x
found_in d name x h = elim (found d.items [] name x h) [ inl k ↦ absurd cc | inr f ↦ f ]

-- what is declared has a type of 1 to 64 bits, or alternatives
abbrev NamesRight : Table → Type 0
NamesRight t = (name : Text) → (d : Declared) → declared t name ≡ Some d → IsRightDeclared d

port_named : (t : Table) (w : PortWord) (ty : Ty) → is_type ty ≡ true → IsRightDeclared (port_of t w ty)
port_named t (port.Trn at) ty h = h
port_named t (port.Inp at) ty h = h
port_named t (port.Out at) ty h = h

entry_named : (t : Table) (i : Item) → ItemRight t i → IsRightDeclared (entry t i).1
entry_named t (item.Let at n equals minus z) h = tt
entry_named t (item.Type at n equals e) h = h
entry_named t (item.Storage s) h = h
entry_named t (item.Port p) h = port_named t p.word _ h
entry_named t (item.OrRule r) h = omega arith
entry_named t (item.OpRule r) h = tt
entry_named t (item.ModeRule r) h = tt

names_next : (t : Table) (i : Item) → ItemRight t i → NamesRight t → NamesRight (t ++ entry t i ∷ [])
names_next t i h n name d is =
    elim (lookup_last t (entry t i) name d is) [ inl old ↦ n name d old | inr e ↦ subst IsRightDeclared e.0 (entry_named t i h) ]

names_of : (items : List Item) (t : Table) → EachRight t items → NamesRight t → NamesRight (entries t items)
names_of [] t h n = n
names_of (i ∷ items) t h n = names_of items (t ++ entry t i ∷ []) h.1 (names_next t i h.0 n)

names_right : (d : Desc) → IsFreeBelow 8 d → NamesRight (table d)
names_right d free = names_of d.items [] (each_right d free) (λ name d is. absurd cc)

entry_name : (t : Table) (i : Item) → (entry t i).0 ≡ (declares i).text
entry_name t (item.Let at n equals minus z) = refl
entry_name t (item.Type at n equals x) = refl
entry_name t (item.Storage s) = refl
entry_name t (item.Port p) = refl
entry_name t (item.OrRule r) = refl
entry_name t (item.OpRule r) = refl
entry_name t (item.ModeRule r) = refl

named_item : (whole : Table) (all earlier items : List Item) (i : Item) → Contains items i → name_places_from whole all earlier items ≡ [] → (before : List Item) × (item_name_places whole all before i ≡ [])
named_item whole all earlier [] i c h = absurd (omega (arith, c.1))
named_item whole all earlier (x ∷ items) i (zero, low, is) h = (earlier, subst (λ y. item_name_places whole all earlier y ≡ []) is (no_left _ _ h))
named_item whole all earlier (x ∷ items) i (suc k, low, is) h = named_item whole all (earlier ++ x ∷ []) items i (k, omega (arith, low), is) (no_right (item_name_places whole all earlier x) _ h)

shared_none : (all : List Item) (p : Name) (j : Item) → Contains all j → shared_places all p ≡ [] → text_eq p.text (declares j).text ≡ false
shared_none all p j c h = when_none _ (max p.at (declares j).at) (flat_none (λ j. when (text_eq p.text (declares j).text) (max p.at (declares j).at)) all j c h)

shared_of : (all : List Item) (pars : List Par) → flat_map (shared_places all) (map (λ p. p.name) pars) ≡ [] → (p : Par) → Contains pars p → shared_places all p.name ≡ []
shared_of all [] h p c = absurd (omega (arith, c.1))
shared_of all (x ∷ pars) h p (zero, low, is) = subst (λ (y : Par). shared_places all y.name ≡ []) is (no_left _ _ h)
shared_of all (x ∷ pars) h p (suc k, low, is) = shared_of all pars (no_right (shared_places all x.name) _ h) p (k, omega (arith, low), is)

none_found : (q : Text) (t : Table) (pars : List Par) → ((p : Par) → Contains pars p → text_eq q p.name.text ≡ false) → lookup (text_eq q) (map (λ p. (p.name.text, parameter_of t p.ty)) pars) ≡ None
none_found q t [] h = refl
none_found q t (x ∷ pars) h = rw (h x (0, omega arith, refl)) (none_found q t pars (λ p c. h p (suc c.0, omega (arith, c.1), c.2)))

other_way : (p q : Text) (b : Bool) → text_eq q p ≡ b → text_eq p q ≡ false → b ≡ false
other_way p q false is h = refl
other_way p q true is h = let e : text_eq p q ≡ true = (bytes_decides p q).1 (sym ((bytes_decides q p).0 is)) in absurd cc

no_port_rule : (t : Table) (w : PortWord) (ty : Ty) (rule : Rule) → port_of t w ty ≡ Declared.And rule → ⊥
no_port_rule t (port.Trn at) ty rule h = cc
no_port_rule t (port.Inp at) ty rule h = cc
no_port_rule t (port.Out at) ty rule h = cc

no_port_or : (t : Table) (w : PortWord) (ty : Ty) (mode : Bool) (names : List Text) → port_of t w ty ≡ Declared.Or mode names → ⊥
no_port_or t (port.Trn at) ty mode names h = cc
no_port_or t (port.Inp at) ty mode names h = cc
no_port_or t (port.Out at) ty mode names h = cc

abbrev Clear : Table → Rule → Type 0
Clear t rule = (rule_places t rule ≡ []) × (rule_widths t rule ≡ [])

and_same : (a b : Rule) → Declared.And a ≡ Declared.And b → a ≡ b
and_same a b h = cc

rule_item : (whole t : Table) (i : Item) (rule : Rule) → (entry t i).1 ≡ Declared.And rule → item_places whole i ≡ [] → item_widths whole i ≡ [] → Clear whole rule
rule_item whole t (item.Let at n equals minus z) rule e h w = absurd cc
rule_item whole t (item.Type at n equals x) rule e h w = absurd cc
rule_item whole t (item.Storage s) rule e h w = absurd cc
rule_item whole t (item.Port p) rule e h w = absurd (no_port_rule t p.word _ rule e)
rule_item whole t (item.OrRule r) rule e h w = absurd cc
rule_item whole t (item.OpRule r) rule e h w = subst (Clear whole) (and_same _ rule e) (h, w)
rule_item whole t (item.ModeRule r) rule e h w = subst (Clear whole) (and_same _ rule e) (h, w)

rule_shared : (t : Table) (i : Item) (rule : Rule) (all : List Item) → (entry t i).1 ≡ Declared.And rule → flat_map (shared_places all) (parameters i) ≡ [] → (p : Par) → Contains rule.pars p → shared_places all p.name ≡ []
rule_shared t (item.Let at n equals minus z) rule all e h = absurd cc
rule_shared t (item.Type at n equals x) rule all e h = absurd cc
rule_shared t (item.Storage s) rule all e h = absurd cc
rule_shared t (item.Port p) rule all e h = absurd (no_port_rule t p.word _ rule e)
rule_shared t (item.OrRule r) rule all e h = absurd cc
rule_shared t (item.OpRule r) rule all e h = subst (λ (u : Rule). (p : Par) → Contains u.pars p → shared_places all p.name ≡ []) (and_same _ rule e) (shared_of all (pars_of r.pars) h)
rule_shared t (item.ModeRule r) rule all e h = subst (λ (u : Rule). (p : Par) → Contains u.pars p → shared_places all p.name ≡ []) (and_same _ rule e) (shared_of all (pars_of r.pars) h)

-- no parameter is called as a declared name
apart : (d : Desc) → IsFreeBelow 8 d → (name : Text) (rule : Rule) → declared (table d) name ≡ Some (Declared.And rule) → (q : Text) (x : Declared) → declared (table d) q ≡ Some x → lookup (text_eq q) (rule_scope (table d) rule).pars ≡ None
apart d free name rule h q x k =
    let f = found_in d name (Declared.And rule) h in
    let g = found_in d q x k in
    let places : name_places d ≡ [] = none_from (name_places d) (λ at c. free 4 (omega arith) (By_name at c)) in
    let here = named_item (table d) d.items [] d.items f.1 f.2 places in
    let shared : flat_map (shared_places d.items) (parameters f.1) ≡ [] = no_right _ _ here.1 in
    let is : q ≡ (declares g.1).text = (bytes_decides q (entry g.0 g.1).0).0 g.4 ∙ entry_name g.0 g.1 in
    none_found q (table d) rule.pars (λ p c. other_way p.name.text q (text_eq q p.name.text) refl
    (subst (λ w. text_eq p.name.text w ≡ false) (sym is) (shared_none d.items p.name g.1 g.2 (rule_shared f.0 f.1 rule d.items f.3 shared p c))))

behind : (chosen x : Text) (xs : List Text) → Contains (x ∷ xs) chosen → (x ≡ chosen) ⊎ Contains xs chosen
behind chosen x xs (zero, low, is) = inl is
behind chosen x xs (suc k, low, is) = inr (k, omega (arith, low), is)

alternative_right : (t : Table) (mode : Bool) (chosen : Text) (n : Name) (names : List Text) (wrong more : List ℕ) → (more ≡ [] → Contains names chosen → is_rule_of mode (declared t chosen) ≡ true) → (b : Bool) → is_rule_of mode (declared t n.text) ≡ b
    → (if b then more else n.at ∷ wrong) ≡ [] → Contains (n.text ∷ names) chosen → is_rule_of mode (declared t chosen) ≡ true
alternative_right t mode chosen n names wrong more f false is h c = absurd cc
alternative_right t mode chosen n names wrong more f true is h c =
    elim (behind chosen n.text names c) [
      | inl e ↦ subst (λ x. is_rule_of mode (declared t x) ≡ true) e is
      | inr k ↦ f h k
    ]

alternatives_right : (t : Table) (mode : Bool) (before : Kind) (ns : List Name) → alternative_places t mode before ns ≡ [] → (chosen : Text) → Contains (map (λ n. n.text) ns) chosen → is_rule_of mode (declared t chosen) ≡ true
alternatives_right t mode before [] h chosen c = absurd (omega (arith, c.1))
alternatives_right t mode before (n ∷ ns) h chosen c =
    alternative_right t mode chosen n (map (λ n. n.text) ns) (alternative_places t mode before ns)
    (when (is_other before (rule_worth t n.text).kind) n.at ++ alternative_places t mode (known_first before (rule_worth t n.text).kind) ns)
    (λ e k. alternatives_right t mode (known_first before (rule_worth t n.text).kind) ns (no_right (when (is_other before (rule_worth t n.text).kind) n.at) _ e) chosen k)
    (is_rule_of mode (declared t n.text)) refl h c

texts_same : (rest : List (ℕ × Name)) → map (λ n. n.text) (map (λ (bar, n). n) rest) ≡ map (λ (bar, n). n.text) rest
texts_same [] = refl
texts_same ((bar, n) ∷ rest) = ap (λ xs. n.text ∷ xs) (texts_same rest)

or_item : (whole t : Table) (i : Item) (mode : Bool) (names : List Text) → (entry t i).1 ≡ Declared.Or mode names → item_places whole i ≡ [] → (chosen : Text) → Contains names chosen → is_rule_of mode (declared whole chosen) ≡ true
or_item whole t (item.Let at n equals minus z) mode names e h chosen c = absurd cc
or_item whole t (item.Type at n equals x) mode names e h chosen c = absurd cc
or_item whole t (item.Storage s) mode names e h chosen c = absurd cc
or_item whole t (item.Port p) mode names e h chosen c = absurd (no_port_or t p.word _ mode names e)
or_item whole t (item.OrRule r) mode names e h chosen c =
    let m : is_mode_word r.word ≡ mode = cc in
    let a : r.first.text ∷ map (λ (bar, n). n.text) r.rest ≡ names = cc in
    let texts : r.first.text ∷ map (λ n. n.text) (map (λ (bar, n). n) r.rest) ≡ names = ap (λ xs. r.first.text ∷ xs) (texts_same r.rest) ∙ a in
    subst (λ b. is_rule_of b (declared whole chosen) ≡ true) m
    (alternatives_right whole (is_mode_word r.word) Unknown (r.first ∷ map (λ (bar, n). n) r.rest) h chosen (subst (λ xs. Contains xs chosen) (sym texts) c))
or_item whole t (item.OpRule r) mode names e h chosen c = absurd cc
or_item whole t (item.ModeRule r) mode names e h chosen c = absurd cc

is_width : (n : ℕ) → 1 ≤ n → n ≤ 64 → (nat_le 1 n && nat_le n 64) ≡ true
is_width n low high =
    let a : nat_le 1 n ≡ true = le-leb 1 n low in
    let b : nat_le n 64 ≡ true = le-leb n 64 high in
    rw (a, b) refl

-- a size that is within its limits is a number
sized : (o : Option ℤ) (least : ℕ) (at : ℕ) → unless (is_within least 65536 o) at ≡ [] → (n : ℕ) × (o ≡ Some (pos n))
sized o least at h = let e = natural_within o least 65536 (unless_none _ at h) in (unwrap_or (option_and_then natural o) 0, e.0)

wide : (o : Option ℤ) (n at : ℕ) → o ≡ Some (pos n) → unless (has_width o) at ≡ [] → (1 ≤ n) × (n ≤ 64)
wide o n at is h =
    let w : is_within 1 64 (Some (pos n)) ≡ true = subst (λ p. has_width p ≡ true) is (unless_none _ at h) in
    let e = natural_within (Some (pos n)) 1 64 w in
    (e.1, e.2)

part_or_type : (t : Table) → NamesRight t → (name : Text) (at : ℕ) (o : Option Declared) → declared t name ≡ o → (is_rule o ≡ true) ⊎ (unless (names_type o) at ≡ []) → ParRight (parameter_named name o)
part_or_type t given name at None is (inl r) = absurd cc
part_or_type t given name at None is (inr h) = absurd cc
part_or_type t given name at (Some (Declared.Constant z)) is (inl r) = absurd cc
part_or_type t given name at (Some (Declared.Constant z)) is (inr h) = absurd cc
part_or_type t given name at (Some (Declared.TypeName ty)) is h = given name _ is
part_or_type t given name at (Some (Declared.Storage n k ty)) is (inl r) = absurd cc
part_or_type t given name at (Some (Declared.Storage n k ty)) is (inr h) = absurd cc
part_or_type t given name at (Some (Declared.Trn n ty)) is (inl r) = absurd cc
part_or_type t given name at (Some (Declared.Trn n ty)) is (inr h) = absurd cc
part_or_type t given name at (Some (Declared.Inp ty)) is (inl r) = absurd cc
part_or_type t given name at (Some (Declared.Inp ty)) is (inr h) = absurd cc
part_or_type t given name at (Some (Declared.Out ty)) is (inl r) = absurd cc
part_or_type t given name at (Some (Declared.Out ty)) is (inr h) = absurd cc
part_or_type t given name at (Some (Declared.Or mode names)) is h = tt
part_or_type t given name at (Some (Declared.And rule)) is h = tt

right_of_size : (o : Option ℤ) (n : ℕ) → o ≡ Some (pos n) → option_and_then natural o ≡ Some n
right_of_size o n is = rw is refl

fix_right : (o p : Option ℤ) (n m at : ℕ) → o ≡ Some (pos n) → p ≡ Some (pos m) → unless (has_width (sum_of o p)) at ≡ []
    → ParRight (option_map Parameter.Field (option_and_then (λ a. option_map (λ b. tys.Int (a + b)) (option_and_then natural p)) (option_and_then natural o)))
fix_right o p n m at is e l =
    let sum : sum_of o p ≡ Some (pos (n + m)) = rw (is, e) refl in
    let w = wide (sum_of o p) (n + m) at sum l in
    rw (right_of_size o n is, right_of_size p m e) (is_width (n + m) w.0 w.1)

-- a parameter's type that is right
type_right : (t : Table) → NamesRight t → (e : TypeExpr) → type_places t e ≡ [] → ParRight (parameter_of t e)
type_right t given (type_expr.Bool at) h = refl
type_right t given (type_expr.Card at p n q) h =
    let a : unless (is_within 1 65536 (size_number t n)) (size_place n) ≡ [] = no_right _ _ h in
    let b : unless (has_width (size_number t n)) at ≡ [] = no_left _ _ h in
    let s = sized (size_number t n) 1 (size_place n) a in
    let w = wide (size_number t n) s.0 at s.1 b in
    rw (right_of_size (size_number t n) s.0 s.1) (is_width s.0 w.0 w.1)
type_right t given (type_expr.Int at p n q) h =
    let a : unless (is_within 1 65536 (size_number t n)) (size_place n) ≡ [] = no_right _ _ h in
    let b : unless (has_width (size_number t n)) at ≡ [] = no_left _ _ h in
    let s = sized (size_number t n) 1 (size_place n) a in
    let w = wide (size_number t n) s.0 at s.1 b in
    rw (right_of_size (size_number t n) s.0 s.1) (is_width s.0 w.0 w.1)
type_right t given (type_expr.Fix at p n c m q) h =
    let first : unless (has_width (sum_of (size_number t n) (size_number t m))) at ++ unless (is_within 1 65536 (size_number t n)) (size_place n) ≡ [] = no_left _ _ h in
    let a : unless (is_within 1 65536 (size_number t n)) (size_place n) ≡ [] = no_right (unless (has_width (sum_of (size_number t n) (size_number t m))) at) _ first in
    let b : unless (is_within 0 65536 (size_number t m)) (size_place m) ≡ [] = no_right (unless (has_width (sum_of (size_number t n) (size_number t m))) at ++ unless (is_within 1 65536 (size_number t n)) (size_place n)) _ h in
    let l : unless (has_width (sum_of (size_number t n) (size_number t m))) at ≡ [] = no_left _ _ first in
    let s = sized (size_number t n) 1 (size_place n) a in
    let r = sized (size_number t m) 0 (size_place m) b in
    fix_right (size_number t n) (size_number t m) s.0 r.0 at s.1 r.1 l
type_right t given (type_expr.Float at p n c m q) h = absurd cc
type_right t given (type_expr.Name n) h = part_or_type t given n.text n.at (declared t n.text) refl (inr h)

part_type : (t : Table) → NamesRight t → (e : TypeExpr) → is_part_type t e ≡ true → ParRight (parameter_of t e)
part_type t given (type_expr.Bool at) h = absurd cc
part_type t given (type_expr.Card at p n q) h = absurd cc
part_type t given (type_expr.Int at p n q) h = absurd cc
part_type t given (type_expr.Fix at p n c m q) h = absurd cc
part_type t given (type_expr.Float at p n c m q) h = absurd cc
part_type t given (type_expr.Name n) h = part_or_type t given n.text n.at (declared t n.text) refl (inl h)

par_right : (t : Table) → NamesRight t → (p : Par) (b : Bool) → is_part_type t p.ty ≡ b → (more : List ℕ) → (if b then [] else type_places t p.ty ++ more) ≡ [] → ParRight (parameter_of t p.ty)
par_right t given p true is more h = part_type t given p.ty is
par_right t given p false is more h = type_right t given p.ty (no_left _ _ h)

pars_right : (t : Table) → NamesRight t → (pars : List Par) → flat_map (parameter_places t) pars ≡ [] → (p : Par) → Contains pars p → ParRight (parameter_of t p.ty)
pars_right t given [] h p c = absurd (omega (arith, c.1))
pars_right t given (q ∷ pars) h p (zero, low, is) = subst (λ r. ParRight (parameter_of t r.ty)) is (par_right t given q (is_part_type t q.ty) refl _ (no_left _ _ h))
pars_right t given (q ∷ pars) h p (suc k, low, is) = pars_right t given pars (no_right (parameter_places t q) _ h) p (k, omega (arith, low), is)

clear : (d : Desc) → IsFreeBelow 8 d → (name : Text) (rule : Rule) → declared (table d) name ≡ Some (Declared.And rule) → Clear (table d) rule
clear d free name rule h =
    let f = found_in d name (Declared.And rule) h in
    let places : type_fault_places d ≡ [] = none_from (type_fault_places d) (λ at c. free 6 (omega arith) (By_type at c)) in
    let widths : width_places d ≡ [] = none_from (width_places d) (λ at c. free 7 (omega arith) (By_width at c)) in
    rule_item (table d) f.0 f.1 rule f.3 (flat_none (item_places (table d)) d.items f.1 f.2 places) (flat_none (item_widths (table d)) d.items f.1 f.2 (no_right _ _ widths))

-- an alternative of ops is an op, one of modes a mode
pub alternatives_of : (d : Desc) → IsFreeBelow 8 d → (name : Text) (mode : Bool) (names : List Text) → declared (table d) name ≡ Some (Declared.Or mode names) → (chosen : Text) → Contains names chosen → is_rule_of mode (declared (table d) chosen) ≡ true
alternatives_of d free name mode names h chosen c =
    let f = found_in d name (Declared.Or mode names) h in
    let places : type_fault_places d ≡ [] = none_from (type_fault_places d) (λ at c. free 6 (omega arith) (By_type at c)) in
    or_item (table d) f.0 f.1 mode names f.3 (flat_none (item_places (table d)) d.items f.1 f.2 places) chosen c

pub is_sound : (d : Desc) → IsFreeBelow 8 d → IsSound (table d)
is_sound d free = record {
  names = names_right d free;
  alternatives = λ name names. alternatives_of d free name true names;
  rules = λ name rule h.
      let places = (clear d free name rule h).0 in
      record {
        fields = pars_right (table d) (names_right d free) rule.pars (no_left _ _ (no_left _ _ (no_left _ _ (no_left _ _ (no_left _ _ places)))));
        handed = no_right _ _ (no_left _ _ (no_left _ _ (no_left _ _ (no_left _ _ places))));
        reading = no_right _ _ places;
      };
  free = λ rule c. free 5 (omega arith) (By_cycle rule c);
}

width_of_type : (ty : Ty) → is_type ty ≡ true → (of_ty ty).width ≤ 127
width_of_type tys.Bool h = lit≤ tt
width_of_type (tys.Card n) h = omega (arith, leb-true n 64 (and_right (nat_le 1 n) (nat_le n 64) h))
  where
    and_right : (a b : Bool) → (a && b) ≡ true → b ≡ true
    and_right true b h = h
    and_right false b h = absurd cc
width_of_type (tys.Int n) h = omega (arith, leb-true n 64 (and_right (nat_le 1 n) (nat_le n 64) h))
  where
    and_right : (a b : Bool) → (a && b) ≡ true → b ≡ true
    and_right true b h = h
    and_right false b h = absurd cc

width_in_type : (ty : Ty) → is_type ty ≡ true → (of_type ty).width ≤ 127
width_in_type ty h = rw h (width_of_type ty h)

indexed_storage : (o : Option Declared) → may_have_index true o ≡ true → (k : ℕ) × (size : ℕ) × (ty : Ty) × (o ≡ Some (Declared.Storage k size ty))
indexed_storage None h = absurd cc
indexed_storage (Some (Declared.Constant z)) h = absurd cc
indexed_storage (Some (Declared.TypeName ty)) h = absurd cc
indexed_storage (Some (Declared.Storage k size ty)) h = (k, size, ty, refl)
indexed_storage (Some (Declared.Trn n ty)) h = absurd cc
indexed_storage (Some (Declared.Inp ty)) h = absurd cc
indexed_storage (Some (Declared.Out ty)) h = absurd cc
indexed_storage (Some (Declared.Or mode names)) h = absurd cc
indexed_storage (Some (Declared.And rule)) h = absurd cc

indexed_narrow : (d : Desc) → IsFreeBelow 8 d → (name : Text) (rule : Rule) → declared (table d) name ≡ Some (Declared.And rule) → IndexedNarrow (rule_scope (table d) rule)
indexed_narrow d free name rule is = record {
  each = λ q h.
      let s = indexed_storage (declared (table d) q) h in
      let w : (of_entry (rule_scope (table d) rule) None (Some (Declared.Storage s.0 s.1 s.2))).width ≤ 127 = width_in_type s.2 (names_right d free q _ s.3) in
      rw (apart d free name rule is q _ s.3, s.3) w;
}

-- each expression of an action, and those in it: its value fits the width and cap of its worth, and 128 bits; an index is below its storage's size
pub action_sound : (d : Desc) → IsFreeBelow 8 d → (v : View) → AreOfTypes (table d) v → (name : Text) (rule : Rule) (args : Arguments) (n : ℕ)
    → IsDerivation (table d) name (Compose rule args) → StandAt v.fields n (fields_of args) → Each (Everywhere (Sound (rule_scope (table d) rule) (arguments (table d) n args) v)) rule.action × PlacesBelow (rule_scope (table d) rule) (arguments (table d) n args) v rule.action
    × EachValue (Everywhere (Sound (rule_scope (table d) rule) (arguments (table d) n args) v)) rule.value
action_sound d free v typed name rule args n h stand =
    let sound = is_sound d free in
    let right = is_right (table d) sound in
    let c = clear d free name rule h.0 in
    let narrow : AreNarrow (rule_scope (table d) rule) (reads rule) = narrow_right (rule_scope (table d) rule) (handed_on rule.value) (reads rule) (narrow_left (rule_scope (table d) rule) (handed_on rule.value ++ reads rule) (assigned rule.action) c.1) in
    let named = names_fit (table d) v right typed name rule args n h stand in
    let reading = right_right (rule_scope (table d) rule) (inside_value rule.value) (inside_block rule.action) (sound.rules name rule h.0).reading in (
      block_sound (rule_scope (table d) rule) (arguments (table d) n args) v named (indexed_narrow d free name rule h.0) rule.action
          reading (narrow_right (rule_scope (table d) rule) (inside_value rule.value) (inside_block rule.action) narrow),
      places_below (rule_scope (table d) rule) (arguments (table d) n args) v named rule.action reading
          (narrow_right (rule_scope (table d) rule) (handed_on rule.value ++ reads rule) (assigned rule.action) c.1),
      value_sound (rule_scope (table d) rule) (arguments (table d) n args) v named (indexed_narrow d free name rule h.0) rule.value
          (sound.rules name rule h.0).handed (right_left (rule_scope (table d) rule) (inside_value rule.value) (inside_block rule.action) (sound.rules name rule h.0).reading)
          (narrow_left (rule_scope (table d) rule) (handed_on rule.value) (reads rule) (narrow_left (rule_scope (table d) rule) (handed_on rule.value ++ reads rule) (assigned rule.action) c.1))
          (narrow_left (rule_scope (table d) rule) (inside_value rule.value) (inside_block rule.action) narrow),
    )

-- a mode's value fits what the mode is worth
pub mode_sound : (d : Desc) → IsFreeBelow 8 d → (v : View) → AreOfTypes (table d) v → (name : Text) (x : Derivation) (n : ℕ)
    → IsDerivation (table d) name x → StandAt v.fields n (fields x) → is_rule_of true (declared (table d) name) ≡ true → Fits (rule_worth (table d) name) (value v (written.written (table d) n x).value)
mode_sound d free v typed name x n h stand mode =
    let right = is_right (table d) (is_sound d free) in
    mode_fits x (table d) v right typed name n h stand (mode_valued (table d) right name mode)

-- the fields of a whole derivation stand from 0 on
pub stand_whole : (zs : List ℤ) → StandAt zs 0 zs
stand_whole zs k low = let e : 0 + k ≡ k = omega arith in ap (number_at zs) e
