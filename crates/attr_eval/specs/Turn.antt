-- What a derivation of a rule begins with.
use Rattle.std.specs.Prelude.{◌≡◌, ℕ, List, ◌∷◌, ◌++◌, Some, option_map}
use Rattle.nml_tree.specs.Formula.{formula}
use Rattle.nml_tree.specs.Table.{Text, Table, Rule, Declared, declared, alternative, rule_of}
use Rattle.nml_tree.specs.Derivation.{Derivation, IsDerivation, picks}
use Rattle.attr_eval.specs.declared.turn.Made.{Made}
use Rattle.attr_eval.specs.declared.turn.Turn.{Turn}
use Rattle.attr_eval.specs.declared.turn.Turn.TheVariants as turn

-- the rule with these parts
abbrev pub made_rule : Made → Rule
made_rule m = rule_of m.pars.now (option_map (λ e. formula e.now) m.value) m.attrs.now

abbrev pub IsTurn : Table → Text → List ℕ → Turn → Type 0
IsTurn t name ps (turn.Picked chosen rest) = (k : ℕ) × (ps ≡ k ∷ rest.now) × (alternative t name k ≡ Some chosen.now)
IsTurn t name ps (turn.Made m) = declared t name ≡ Some (Declared.And (made_rule m))
IsTurn t name ps turn.Nothing = (d : Derivation) (ks : List ℕ) → IsDerivation t name d → ps ≡ picks d ++ ks → ⊥
