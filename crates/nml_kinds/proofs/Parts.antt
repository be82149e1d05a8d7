-- What each rule is worth, and what each part of a rule is worth.
use Rattle.std.proofs.Common.{Bool, true, false, List, [], ◌∷◌, ◌≡◌, refl, ap, sym, ◌∙◌, Option, Some, None, option_map}
use Rattle.nk_base.specs.declared.number.Ty.{Ty}
use Rattle.nml_tree.specs.declared.tree.TypeExpr.{TypeExpr}
use Rattle.nml_tree.specs.declared.tree.TypeExpr.TheVariants as type_expr
use Rattle.nml_tree.specs.declared.tree.Pars.{Pars}
use Rattle.nml_tree.specs.declared.tree.Desc.{Desc}
use Rattle.nml_tree.specs.Table.{Text, Table, Declared, Constant, TypeName, Storage, Trn, Inp, Out, Or, And, declared, table, type_of, Parameter, parameter_of, parameter_named}
use Rattle.nml_tree.specs.Worth.{is_rule}
use Rattle.nml_worth.specs.declared.worth.Worth.{Worth}
use Rattle.nml_worth.specs.Around.{AreWorths, PartsKnown}

named_rule : (t : Table) (name rule : Text) (x : Option Declared) → declared t name ≡ x → parameter_named name x ≡ Some (Parameter.Part rule) → is_rule (declared t rule) ≡ true
named_rule t name rule None e h = absurd cc
named_rule t name rule (Some (Constant z)) e h = absurd cc
named_rule t name rule (Some (TypeName ty)) e h = absurd cc
named_rule t name rule (Some (Storage n k ty)) e h = absurd cc
named_rule t name rule (Some (Trn n ty)) e h = absurd cc
named_rule t name rule (Some (Inp ty)) e h = absurd cc
named_rule t name rule (Some (Out ty)) e h = absurd cc
named_rule t name rule (Some (Or mode ns)) e h = let same : name ≡ rule = cc in rw (← same, e) refl
named_rule t name rule (Some (And r)) e h = let same : name ≡ rule = cc in rw (← same, e) refl

no_field : (ty : Option Ty) (rule : Text) → option_map Parameter.Field ty ≡ Some (Parameter.Part rule) → ⊥
no_field None rule h = absurd cc
no_field (Some ty) rule h = absurd cc

part_rule : (t : Table) (e : TypeExpr) (rule : Text) → parameter_of t e ≡ Some (Parameter.Part rule) → is_rule (declared t rule) ≡ true
part_rule t (type_expr.Bool at) rule h = absurd (no_field (type_of t (type_expr.Bool at)) rule h)
part_rule t (type_expr.Card at p n q) rule h = absurd (no_field (type_of t (type_expr.Card at p n q)) rule h)
part_rule t (type_expr.Int at p n q) rule h = absurd (no_field (type_of t (type_expr.Int at p n q)) rule h)
part_rule t (type_expr.Fix at p n c m q) rule h = absurd (no_field (type_of t (type_expr.Fix at p n c m q)) rule h)
part_rule t (type_expr.Float at p n c m q) rule h = absurd (no_field (type_of t (type_expr.Float at p n c m q)) rule h)
part_rule t (type_expr.Name n) rule h = named_rule t n.text rule (declared t n.text) refl h

pub parts_known : (d : Desc) (pars : Option Pars) (worths : List Worth) → AreWorths d worths → PartsKnown (d, pars) worths
parts_known d pars worths are = λ p among rule is. are rule (part_rule (table d) p.ty rule is)
