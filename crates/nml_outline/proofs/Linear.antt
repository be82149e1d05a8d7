-- N8's part of what the images need: where it does not hold, each image names each parameter once.
use Rattle.std.proofs.Common.{suc, ◌==◌, ◌≡◌, refl, Bool, true, false, List, [], ◌∷◌, map, Some, Contains, arith}
use Rattle.std.specs.Prelude.{◌&&◌, nat_le}
use Rattle.std.proofs.lemmas.Bool.{eqb-true}
use Rattle.nml_tree.specs.declared.attributes.Template.{Template}
use Rattle.nml_tree.specs.declared.tree.Par.{Par}
use Rattle.nml_tree.specs.Table.{Text, Table, Rule, Declared, declared}
use Rattle.nml_tree.specs.Mentions.{mentions, actions, is_linear, LinearFault}
use Rattle.nml_outline.proofs.Stood.{EachOnce}

once_each : (text : Template) (ps : List Par) → ((x : Text) → Contains (map (λ q. q.name.text) ps) x → mentions x text ≡ 1) → EachOnce text ps
once_each text [] h = tt
once_each text (p ∷ ps) h = (h p.name.text (0, omega arith, refl), once_each text ps (λ x c. h x (suc c.0, omega (arith, c.1), c.2)))

both_true : (a b c : Bool) → (a && b && c) ≡ true → (a ≡ true) × (b ≡ true)
both_true true true c h = (refl, refl)
both_true true false c h = absurd cc
both_true false b c h = absurd cc

linear_from : (t : Table) (name : Text) (rule : Rule) (p : Text) (b : Bool) → is_linear rule p ≡ b → declared t name ≡ Some (Declared.And rule) → Contains (map (λ q. q.name.text) rule.pars) p → (LinearFault t name p → ⊥)
    → (mentions p rule.syntax ≡ 1) × (mentions p rule.image ≡ 1)
linear_from t name rule p true e is c free =
    let b = both_true (mentions p rule.syntax == 1) (mentions p rule.image == 1) (nat_le (actions p rule.action) 1) e in
    (eqb-true (mentions p rule.syntax) 1 b.0, eqb-true (mentions p rule.image) 1 b.1)
linear_from t name rule p false e is c free = absurd (free (record { rule = rule; is = is; parameter = c; other = e }))

pub images_once : (t : Table) (name : Text) (rule : Rule) → declared t name ≡ Some (Declared.And rule) → ((p : Text) → LinearFault t name p → ⊥) → EachOnce rule.image rule.pars
images_once t name rule is free = once_each rule.image rule.pars (λ p c. (linear_from t name rule p (is_linear rule p) refl is c (free p)).1)

pub texts_once : (t : Table) (name : Text) (rule : Rule) → declared t name ≡ Some (Declared.And rule) → ((p : Text) → LinearFault t name p → ⊥) → EachOnce rule.syntax rule.pars
texts_once t name rule is free = once_each rule.syntax rule.pars (λ p c. (linear_from t name rule p (is_linear rule p) refl is c (free p)).0)
