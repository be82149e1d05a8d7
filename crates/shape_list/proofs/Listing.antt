-- The list by recursion on the rules has the picks of all shapes, each once and in order.
use Rattle.std.proofs.Common.{rules, ℕ, zero, suc, pos, List, [], ◌∷◌, ◌++◌, ◌≡◌, ◌+◌, length, arith, refl, sym, ◌∙◌, ap, subst, Option, Some, None, inl, inr, codes, Contains}
use Rattle.std.specs.Prelude.{Result, Ok, Err, IfOk, ◌⊎◌}
use Rattle.nk_base.specs.Number.{InRange}
use Rattle.nk_base.specs.declared.number.Ty.{Ty}
use Rattle.nk_base.specs.declared.number.Ty.TheVariants as ty
use Rattle.nml_tree.specs.declared.tree.Par.{Par}
use Rattle.nml_tree.specs.declared.tree.Item.{Item}
use Rattle.nml_tree.specs.declared.tree.Desc.{Desc}
use Rattle.nml_tree.specs.Table.{Text, Table, Declared, declared, Parameter, parameter_of, table, entries, entry}
use Rattle.nml_tree.specs.Derivation.{Derivation, Arguments, Pick, Compose, NoMore, Part, Field, IsDerivation, Fill, picks, picks_of}
use Rattle.nml_tree.specs.Refused.{IsFreeBelow, By_cycle}
use Rattle.nml_tree.specs.ShapeList.{Picks, joined, of_parameter, of_parameters, of_rule, shape_list_within, shape_list}
use Rattle.nml_tree.specs.Shapes.{AreShapes}
use Rattle.nml_laws.proofs.ShapeListed.{shape_listed}
use Rattle.nml_upward.specs.Upward.{AreMade, IsParameter}
use Rattle.nml_upward.proofs.Upward.{are_made}
use Rattle.shape_list.proofs.Members.{Among, contained, Rises, unjoined, an_alternative, rises_joined, rises_alternatives, all_rise}

-- a list of picks is that of a derivation
record Built (t : Table) (name : Text) (x : List ℕ) : Type 0 where
  d : Derivation
  is : IsDerivation t name d
  picks_are : picks d ≡ x

record BuiltAll (t : Table) (pars : List Par) (x : List ℕ) : Type 0 where
  args : Arguments
  fill : Fill t pars args
  picks_are : picks_of args ≡ x

-- 0 is a number of each type
none_in_range : (u : Ty) → InRange u (pos 0)
none_in_range ty.Bool = (search rules, search rules)
none_in_range (ty.Card n) = (search rules, search rules)
none_in_range (ty.Int n) = (search rules, search rules)

module _ (t : Table) (made : AreMade t) (rules : Text → Picks) (sound : (r : Text) (x : List ℕ) → Among (rules r) x → Built t r x) where
  each_parameter : (p : Par) (pars : List Par) (o : Option Parameter) (x : List ℕ) → parameter_of t p.ty ≡ o → IsParameter t o → Among (joined (of_parameter rules o) (of_parameters t rules pars)) x
      → ((y : List ℕ) → Among (of_parameters t rules pars) y → BuiltAll t pars y) → BuiltAll t (p ∷ pars) x
  each_parameter p pars None x is right h rest = absurd right
  each_parameter p pars (Some (Parameter.Part rule)) x is right h rest =
      let z = unjoined (rules rule) (of_parameters t rules pars) x h in
      let a = sound rule z.x z.in_first in
      let b = rest z.y z.in_second in
      record { args = Part p.name.text a.d b.args; fill = (p, pars, rule, refl, refl, is, a.is, b.fill); picks_are = rw (a.picks_are, b.picks_are) z.is }
  each_parameter p pars (Some (Parameter.Field u)) x is right h rest =
      let z = unjoined ([] ∷ []) (of_parameters t rules pars) x h in
      let b = rest z.y z.in_second in
      record { args = Field p.name.text u (pos 0) b.args; fill = (p, pars, refl, refl, is, none_in_range u, b.fill); picks_are = b.picks_are ∙ empty z.x z.y z.in_first ∙ z.is }
    where
      empty : (e y : List ℕ) → ([] ≡ e) ⊎ ⊥ → y ≡ e ++ y
      empty e y (inl h) = ap (λ z. z ++ y) h
      empty e y (inr h) = absurd h

  each_part : (pars : List Par) (x : List ℕ) → ((p : Par) → Contains pars p → IsParameter t (parameter_of t p.ty)) → Among (of_parameters t rules pars) x → BuiltAll t pars x
  each_part [] x right (inl h) = record { args = NoMore; fill = refl; picks_are = h }
  each_part [] x right (inr h) = absurd h
  each_part (p ∷ pars) x right h =
      each_parameter p pars (parameter_of t p.ty) x refl (right p (0, omega arith, refl)) h
      (λ y k. each_part pars y (λ q c. right q (suc c.0, omega (arith, c.1), c.2)) k)

  each_rule : (name : Text) (o : Option Declared) (x : List ℕ) → declared t name ≡ o → Among (of_rule t rules o) x → Built t name x
  each_rule name None x is h = absurd h
  each_rule name (Some (Declared.Constant z)) x is h = absurd h
  each_rule name (Some (Declared.TypeName u)) x is h = absurd h
  each_rule name (Some (Declared.Storage n k u)) x is h = absurd h
  each_rule name (Some (Declared.Trn n u)) x is h = absurd h
  each_rule name (Some (Declared.Inp u)) x is h = absurd h
  each_rule name (Some (Declared.Out u)) x is h = absurd h
  each_rule name (Some (Declared.Or mode names)) x is h =
      let a = an_alternative rules names 0 x h in
      let b = sound a.name a.y a.below in
      let e : 0 + a.i ≡ a.i = omega arith in
      let f : a.i ∷ a.y ≡ x = rw e at a.is in
      record { d = Pick a.i b.d; is = (a.name, rw is a.named, b.is); picks_are = rw b.picks_are f }
  each_rule name (Some (Declared.And rule)) x is h =
      let b = each_part rule.pars x (made.parameters name rule is) h in
      record { d = Compose rule b.args; is = (is, b.fill); picks_are = b.picks_are }

each : (n : ℕ) (t : Table) → AreMade t → (name : Text) (x : List ℕ) → Among (shape_list_within t n name) x → Built t name x
each zero t made name x h = absurd h
each (suc n) t made name x h = each_rule t made (shape_list_within t n) (each n t made) name (declared t name) x refl h

rises_parameter : (rules : Text → Picks) (o : Option Parameter) → ((r : Text) → Rises (rules r)) → Rises (of_parameter rules o)
rises_parameter rules None r = (tt, tt)
rises_parameter rules (Some (Parameter.Part rule)) r = r rule
rises_parameter rules (Some (Parameter.Field u)) r = (tt, tt)

rises_parameters : (t : Table) (rules : Text → Picks) (pars : List Par) → ((r : Text) → Rises (rules r)) → Rises (of_parameters t rules pars)
rises_parameters t rules [] r = (tt, tt)
rises_parameters t rules (p ∷ pars) r =
    rises_joined (of_parameter rules (parameter_of t p.ty)) (of_parameters t rules pars) (rises_parameter rules (parameter_of t p.ty) r) (rises_parameters t rules pars r)

rises_rule : (t : Table) (rules : Text → Picks) (o : Option Declared) → ((r : Text) → Rises (rules r)) → Rises (of_rule t rules o)
rises_rule t rules None r = tt
rises_rule t rules (Some (Declared.Constant z)) r = tt
rises_rule t rules (Some (Declared.TypeName u)) r = tt
rises_rule t rules (Some (Declared.Storage n k u)) r = tt
rises_rule t rules (Some (Declared.Trn n u)) r = tt
rises_rule t rules (Some (Declared.Inp u)) r = tt
rises_rule t rules (Some (Declared.Out u)) r = tt
rises_rule t rules (Some (Declared.Or mode names)) r = rises_alternatives rules names 0 r
rises_rule t rules (Some (Declared.And rule)) r = rises_parameters t rules rule.pars r

rises : (n : ℕ) (t : Table) (name : Text) → Rises (shape_list_within t n name)
rises zero t name = tt
rises (suc n) t name = rises_rule t (shape_list_within t n) (declared t name) (rises n t)

pub are_shapes : (d : Desc) → IsFreeBelow 12 d → AreShapes (table d) (shape_list (table d) (codes "instruction"))
are_shapes d free = record {
  rises = all_rise (shape_list (table d) (codes "instruction")) (rises (length (table d)) (table d) (codes "instruction"));
  each = λ x h.
      let made = are_made d (λ k low. free k (omega (arith, low))) in
      let b = each (length (table d)) (table d) made (codes "instruction") x (contained (shape_list (table d) (codes "instruction")) x h) in
      (b.d, b.is, b.picks_are);
  every = λ x h. shape_listed (table d) (λ r f. free 5 (omega arith) (By_cycle r f)) x h;
}

length_push : (t : Table) (x : Text × Declared) → length (t ++ x ∷ []) ≡ length t + 1
length_push [] x = refl
length_push (y ∷ t) x = omega (arith, length_push t x)

entries_length : (items : List Item) (t : Table) → length (entries t items) ≡ length t + length items
entries_length [] t = omega arith
entries_length (i ∷ items) t = entries_length items (t ++ entry t i ∷ []) ∙ (let e = length_push t (entry t i) in omega (arith, e))

pub table_length : (d : Desc) → length (table d) ≡ length d.items
table_length d = entries_length d.items [] ∙ (let e : 0 + length d.items ≡ length d.items = omega arith in e)

pub if_all : {V E : Type 0} (items : V → Picks) (d : Desc) (n : ℕ) (name : Text) → IsFreeBelow 12 d → n ≡ length d.items → name ≡ codes "instruction" → (r : Result V E) → IfOk r (λ v. items v ≡ shape_list_within (table d) n name) → IfOk r (λ v. AreShapes (table d) (items v))
if_all items d n name free many is (Ok v) h =
    let e : n ≡ length (table d) = many ∙ sym (table_length d) in
    subst (AreShapes (table d)) (sym (h ∙ ap (λ m. shape_list_within (table d) m name) e ∙ ap (shape_list_within (table d) (length (table d))) is)) (are_shapes d free)
if_all items d n name free many is (Err e) h = tt
