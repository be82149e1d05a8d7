-- A step of the lists that the code makes.
use Rattle.std.proofs.Common.{ℕ, zero, suc, List, [], ◌∷◌, ◌++◌, map, ◌≡◌, ◌<◌, ◌≤◌, ◌+◌, ◌-◌, length, get_or, drop, arith, refl, sym, ◌∙◌, ap, Option, Some, None, append_assoc, append-nil, Bool}
use Rattle.std.specs.Prelude.{Result, Ok, Err, IfOk}
use Rattle.std.proofs.lemmas.List.{drop_more, drop_all}
use Rattle.nml_tree.specs.declared.tree.Par.{Par}
use Rattle.nml_tree.specs.declared.tree.Pars.{Pars}
use Rattle.nml_tree.specs.declared.tree.OrRule.{OrRule}
use Rattle.nml_tree.specs.declared.attributes.Attrs.{Attrs}
use Rattle.nml_tree.specs.Formula.{Formula}
use Rattle.nml_tree.specs.Table.{Text, Table, Declared, declared, Parameter, parameter_of, pars_of, rule_of}
use Rattle.nml_tree.specs.ShapeList.{Picks, joined, of_alternatives, of_parameter, of_parameters, shape_list_within}
use Rattle.shape_list.specs.Body.{alternatives_of}

pub within_or : (t : Table) (n : ℕ) (name : Text) (r : OrRule) → 0 < n → (mode : Bool) × (declared t name ≡ Some (Declared.Or mode (alternatives_of r))) → of_alternatives (shape_list_within t (n - 1)) 0 (alternatives_of r) ≡ shape_list_within t n name
within_or t zero name r low h = absurd (omega (arith, low))
within_or t (suc n) name r low h = let e : suc n - 1 ≡ n = omega arith in ap (λ m. of_alternatives (shape_list_within t m) 0 (alternatives_of r)) e ∙ (rw h.1 refl)

pub within_and : (t : Table) (n : ℕ) (name : Text) (pars : Option Pars) (attrs : Attrs) → 0 < n → (value : Option Formula) × (declared t name ≡ Some (Declared.And (rule_of pars value attrs))) → of_parameters t (shape_list_within t (n - 1)) (pars_of pars) ≡ shape_list_within t n name
within_and t zero name pars attrs low h = absurd (omega (arith, low))
within_and t (suc n) name pars attrs low h = let e : suc n - 1 ≡ n = omega arith in ap (λ m. of_parameters t (shape_list_within t m) (pars_of pars)) e ∙ (rw h.1 refl)

pub if_same : {V E : Type 0} (items : V → Picks) (x y : Picks) → x ≡ y → (r : Result V E) → IfOk r (λ v. items v ≡ x) → IfOk r (λ v. items v ≡ y)
if_same items x y is (Ok v) h = h ∙ is
if_same items x y is (Err e) h = tt

map_same : (ys : Picks) → map (λ y. [] ++ y) ys ≡ ys
map_same [] = refl
map_same (y ∷ ys) = ap (λ zs. y ∷ zs) (map_same ys)

pub field_first : (rules : Text → Picks) (o : Option Parameter) (ys : Picks) → ((rule : Text) → o ≡ Some (Parameter.Part rule) → ⊥) → ys ≡ joined (of_parameter rules o) ys
field_first rules None ys not = sym (append-nil (map (λ y. [] ++ y) ys) ∙ map_same ys)
field_first rules (Some (Parameter.Part rule)) ys not = absurd (not rule refl)
field_first rules (Some (Parameter.Field u)) ys not = sym (append-nil (map (λ y. [] ++ y) ys) ∙ map_same ys)

pub next_joined : (first second all new : Picks) (i : ℕ) (x y : List ℕ) → i < length first → x ≡ get_or first i x → y ≡ x → new ≡ all ++ map (λ z. y ++ z) second → new ++ joined (drop (i + 1) first) second ≡ all ++ joined (drop i first) second
next_joined first second all new i x y low is same made =
    rw (drop_more first i x low, ← is, made, same) (append_assoc all (map (λ z. x ++ z) second) (joined (drop (i + 1) first) second))

-- the parameters from a place on
abbrev pub behind : List (ℕ × Par) → ℕ → List Par
behind rest i = map (λ (comma, p). p) (drop i rest)

pub none_behind : (t : Table) (rules : Text → Picks) (rest : List (ℕ × Par)) → ([] ∷ []) ≡ of_parameters t rules (behind rest (length rest))
none_behind t rules rest = let e : length rest ≤ length rest = omega arith in rw (drop_all (length rest) rest e) refl

pub one_before : (t : Table) (rules : Text → Picks) (rest : List (ℕ × Par)) (m : ℕ) (x : ℕ × Par) (all new : Picks) → 0 < m → m - 1 < length rest → x ≡ get_or rest (m - 1) x → all ≡ of_parameters t rules (behind rest m)
    → new ≡ joined (of_parameter rules (parameter_of t (get_or rest (m - 1) x).1.ty)) all → new ≡ of_parameters t rules (behind rest (m - 1))
one_before t rules rest zero x all new some low is h made = absurd (omega (arith, some))
one_before t rules rest (suc m) x all new some low here h made =
    let e : suc m - 1 ≡ m = omega arith in
    let low : m < length rest = omega (arith, low) in
    let is : x ≡ get_or rest m x = rw e at here in
    let f : suc m ≡ m + 1 = omega arith in
    let mine : new ≡ joined (of_parameter rules (parameter_of t x.1.ty)) all = made ∙ ap (λ y. joined (of_parameter rules (parameter_of t y.1.ty)) all) (sym here) in
    rw (e, drop_more rest m x low, ← is) (mine ∙ ap (joined (of_parameter rules (parameter_of t x.1.ty))) (rw f at h))

pub whole_list : {V E : Type 0} (items : V → Picks) (t : Table) (rules : Text → Picks) (pars : Option Pars) (ps : Pars) (rest : List (ℕ × Par)) (m : ℕ) (all : Picks) → pars ≡ Some ps → rest ≡ ps.rest → m ≤ 0
    → all ≡ of_parameters t rules (behind rest m) → (r : Result V E) → IfOk r (λ v. items v ≡ joined (of_parameter rules (parameter_of t ps.first.ty)) all) → IfOk r (λ v. items v ≡ of_parameters t rules (pars_of pars))
whole_list items t rules pars ps rest m all is same none h (Ok v) made =
    let e : m ≡ 0 = omega (arith, none) in
    let k : all ≡ of_parameters t rules (map (λ (comma, p). p) ps.rest) = h ∙ ap (λ n. of_parameters t rules (behind rest n)) e ∙ ap (λ xs. of_parameters t rules (map (λ (comma, p). p) xs)) same in
    made ∙ ap (joined (of_parameter rules (parameter_of t ps.first.ty))) k ∙ ap (λ o. of_parameters t rules (pars_of o)) (sym is)
whole_list items t rules pars ps rest m all is same none h (Err e) made = tt
