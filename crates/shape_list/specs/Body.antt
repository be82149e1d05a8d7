-- For private contracts: what a rule is made of.
use Rattle.std.specs.Prelude.{◌≡◌, Bool, false, List, ◌∷◌, map, Option, Some}
use Rattle.nml_tree.specs.declared.tree.OrRule.{OrRule}
use Rattle.nml_tree.specs.Formula.{Formula}
use Rattle.nml_tree.specs.Table.{Text, Declared, rule_of}
use Rattle.nml_tree.specs.Worth.{is_rule}
use Rattle.shape_list.specs.declared.rule.Body.{Body}
use Rattle.shape_list.specs.declared.rule.Body.TheVariants as body

-- the names of an or-rule's alternatives
abbrev pub alternatives_of : OrRule → List Text
alternatives_of r = r.first.text ∷ map (λ (bar, n). n.text) r.rest

-- the rule that is declared is made of this, or no rule is declared
abbrev pub IsBody : Option Declared → Body → Type 0
IsBody o (body.Or rule) = (mode : Bool) × (o ≡ Some (Declared.Or mode (alternatives_of rule.now)))
IsBody o (body.And pars attrs) = (value : Option Formula) × (o ≡ Some (Declared.And (rule_of pars.now value attrs.now)))
IsBody o body.Nothing = is_rule o ≡ false
