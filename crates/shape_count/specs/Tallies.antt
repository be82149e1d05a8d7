-- What is counted of all rules. For private contracts.
use Rattle.std.specs.Prelude.{ℕ, ◌≡◌, List, map, length, slice_get, slice_set, Option, Some, None, option_map, unwrap_or}
use Rattle.nml_tree.specs.declared.tree.Par.{Par}
use Rattle.nml_tree.specs.declared.tree.Item.{Item}
use Rattle.nml_tree.specs.declared.tree.Item.TheVariants as item
use Rattle.nml_tree.specs.declared.tree.Desc.{Desc}
use Rattle.nml_tree.specs.Shapes.{AreShapes, nodes, counted, IsGreatest}
use Rattle.nml_tree.specs.Table.{Text, Table, table, pars_of, parameter_of}
use Rattle.nml_tree.specs.Valid.{IsRoot}
use Rattle.nml_known.specs.Known.{item_number, parameter_told}
use Rattle.nml_known.specs.declared.known.Parameter.{Parameter}
use Rattle.nml_known.specs.declared.known.Parameter.TheVariants as parameter
use Rattle.graphs.specs.Graphs.{StandsBefore}
use Rattle.nml_upward.specs.Upward.{IsRule, HasNumber}
use Rattle.shape_count.specs.declared.tally.Tally.{Tally}
use Rattle.shape_count.specs.Tally.{tally, above, IsTally, with_alternatives, with_parameters}

-- what stands at this number
abbrev pub tally_at : List Tally → ℕ → Tally
tally_at tallies n = unwrap_or (slice_get tallies n) (tally 0 0)

-- at the number of the name
abbrev pub tally_named : Desc → List Tally → Text → Tally
tally_named d tallies name = tally_at tallies (unwrap_or (item_number d name) 0)

-- a field has one shape and is one node, a part has what its rule has
abbrev pub parameter_tally : List Tally → Option Parameter → Tally
parameter_tally tallies None = tally 0 0
parameter_tally tallies (Some (parameter.Field ty)) = tally 1 1
parameter_tally tallies (Some (parameter.Part n)) = tally_at tallies n

-- the same of a parameter as it is written
abbrev pub par_tally : Desc → List Tally → Par → Tally
par_tally d tallies p = parameter_tally tallies (option_map (parameter_told d) (parameter_of (table d) p.ty))

-- a rule's, from those of the rules that it names
abbrev pub item_tally : Desc → List Tally → Item → Tally
item_tally d tallies (item.OrRule r) = above (with_alternatives (tally_named d tallies) (tally_named d tallies r.first.text) (map (λ (bar, n). n.text) r.rest))
item_tally d tallies (item.OpRule r) = with_parameters (par_tally d tallies) (tally 1 1) (pars_of r.pars)
item_tally d tallies (item.ModeRule r) = with_parameters (par_tally d tallies) (tally 1 1) (pars_of r.pars)
item_tally d tallies _ = tally 0 0

-- these, with that of the item
abbrev pub with_item : Desc → List Tally → ℕ → Option Item → List Tally
with_item d tallies n None = tallies
with_item d tallies n (Some i) = slice_set tallies n (item_tally d tallies i)

-- these, with that of the item of this number, where there is one
abbrev pub with_tally : Desc → List Tally → ℕ → List Tally
with_tally d tallies n = with_item d tallies n (slice_get d.items n)

-- the rule that the item of this number declares has what stands there
abbrev pub IsTallyAt : Desc → List Tally → ℕ → Type 0
IsTallyAt d tallies n = (name : Text) → HasNumber d name n → IsRule (table d) name → IsTally (table d) name (tally_at tallies n)

-- so have the rules of so many places of the order
pub record AreUpTo (d : Desc) (order : List ℕ) (tallies : List Tally) (p : ℕ) : Type 0 where
  pub long : length tallies ≡ length d.items
  pub right : (n : ℕ) → StandsBefore order p n → IsTallyAt d tallies n

-- so have all rules
abbrev pub AreTallies : Desc → List Tally → Type 0
AreTallies d tallies = (n : ℕ) → IsTallyAt d tallies n

-- how many shapes there are, and how many nodes a derivation has at most
pub record AreTallied (t : Table) (count nodes_most : ℕ) : Type 0 where
  pub shapes : List (List ℕ)
  pub all : AreShapes t shapes
  pub count_is : count ≡ counted (length shapes)
  pub nodes_are : IsGreatest (IsRoot t) nodes nodes_most
