-- For private contracts: what the alternatives of a rule are worth together.
use Rattle.std.specs.Prelude.{true, List, [], ◌∷◌, map, filter, Option, Some, None, if◌then◌else◌, ◌≡◌}
use Rattle.nml_tree.specs.declared.tree.Desc.{Desc}
use Rattle.nml_tree.specs.Table.{Text, declared, table}
use Rattle.nml_tree.specs.Worth as worth
use Rattle.nml_tree.specs.Worth.{greatest, is_rule, rule_worth}
use Rattle.nml_worth.specs.Around.{IsKnown}
use Rattle.nml_worth.specs.declared.worth.Worth.{Worth}

-- what an alternative is worth, where it is a rule
abbrev pub alternative : Desc → Text → Option worth.Worth
alternative d name = if is_rule (declared (table d) name) then Some (rule_worth (table d) name) else None

-- the worth of an alternative, where it is a rule, is known
abbrev pub AltKnown : Desc → List Worth → Text → Type 0
AltKnown d worths name = is_rule (declared (table d) name) ≡ true → IsKnown d worths name

-- either of two, each of which there may be
abbrev pub greater : Option worth.Worth → Option worth.Worth → Option worth.Worth
greater None b = b
greater (Some a) None = Some a
greater (Some a) (Some b) = Some (worth.either a b)

-- any of these alternatives, where one is a rule
abbrev pub best : Desc → List Text → Option worth.Worth
best d [] = None
best d (n ∷ ns) = greater (alternative d n) (best d ns)

-- a mode of these alternatives
abbrev pub of_alternatives : Desc → List Text → worth.Worth
of_alternatives d names = worth.of_mode (greatest (map (rule_worth (table d)) (filter (λ name. is_rule (declared (table d) name)) names)))
