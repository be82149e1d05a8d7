-- Which items are at fault.
use Rattle.std.specs.Prelude.{ℕ, ◌==◌, ◌||◌, ◌&&◌, Bool, true, false, List, Option, Some, None, codes}
use Rattle.nk_base.specs.Text.{text_eq}
use Rattle.nml_tree.specs.declared.tree.Item.{Item}
use Rattle.nml_tree.specs.declared.tree.Item.TheVariants as item
use Rattle.nml_tree.specs.declared.tree.Desc.{Desc}
use Rattle.nml_tree.specs.Uses.{declares}
use Rattle.nml_known.specs.Known.{item_number}
use Rattle.nml_edges.specs.declared.summary.Summary.{Summary}
use Rattle.nml_edges.specs.Passed.{fact}

-- an and-rule
abbrev pub is_and : Item → Bool
is_and (item.OpRule r) = true
is_and (item.ModeRule r) = true
is_and _ = false

-- something touches in an and-rule, or a text of `instruction` is nothing but blanks
abbrev pub is_bad : Item → Summary → Bool
is_bad i m = (is_and i && m.nothing.touch) || (text_eq (declares i).text (codes "instruction") && m.nothing.nothing)

-- the number is the one that was found
abbrev pub is_number : Option ℕ → ℕ → Bool
is_number None n = false
is_number (Some m) n = m == n

-- the first item of its name, which is bad
abbrev pub is_fault : Desc → List Summary → ℕ → Item → Bool
is_fault d facts n i = is_number (item_number d (declares i).text) n && is_bad i (fact facts (Some n))
