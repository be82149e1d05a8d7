-- How deep the actions of rules are.
use Rattle.std.specs.Prelude.{ℕ, max, [], ◌∷◌}
use Rattle.nml_tree.specs.Depth.{block_depth}
use Rattle.nml_tree.specs.Table.{Table, Declared}

-- the deepest of all
abbrev pub deepest_action : Table → ℕ
deepest_action [] = 0
deepest_action ((name, Declared.And rule) ∷ t) = max (block_depth rule.action) (deepest_action t)
deepest_action ((name, _) ∷ t) = deepest_action t
