-- A name where a type is looked for.
use Rattle.std.specs.Prelude.{◌≡◌}
use Rattle.nk_base.specs.declared.number.Ty.TheVariants as ty
use Rattle.nml_tree.specs.declared.names.Name.{Name}
use Rattle.nml_tree.specs.declared.tree.TypeExpr.{TypeExpr}
use Rattle.nml_tree.specs.declared.tree.TypeExpr.TheVariants as type_expr
use Rattle.nml_tree.specs.Table.{Table, type_or_none}

-- where a name stands, it is that of no type
abbrev pub NamesNone : Table → TypeExpr → Type 0
NamesNone t e = (n : Name) → e ≡ type_expr.Name n → type_or_none t e ≡ ty.Card 0
