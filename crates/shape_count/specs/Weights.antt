-- What is counted of a rule's value and of its action together: so many times the one, and so many times the other. For private contracts.
use Rattle.std.specs.Prelude.{ℕ, if◌then◌else◌, ◌≡◌, ◌==◌, ◌+◌, ◌*◌, max, Bool, ◌&&◌, List, [], ◌∷◌, map, length, slice_get, Option, Some, None, option_map, unwrap_or, replicate}
use Rattle.std.specs.List.{AllByRecursion}
use Rattle.std.specs.Map.{lookup}
use Rattle.nk_base.specs.Text.{text_eq}
use Rattle.nml_tree.specs.declared.tree.Par.{Par}
use Rattle.nml_tree.specs.declared.tree.OpRule.{OpRule}
use Rattle.nml_tree.specs.declared.tree.ModeRule.{ModeRule}
use Rattle.nml_tree.specs.declared.tree.Item.{Item}
use Rattle.nml_tree.specs.declared.tree.Item.TheVariants as item
use Rattle.nml_tree.specs.declared.tree.Desc.{Desc}
use Rattle.nml_tree.specs.Formula.{formula}
use Rattle.nml_tree.specs.Block.{Block}
use Rattle.nml_tree.specs.Table.{Text, Table, Rule, table, rule_of, parameter_of}
use Rattle.nml_tree.specs.Derivation.{Derivation, IsDerivation}
use Rattle.nml_tree.specs.Exec.{storages}
use Rattle.nml_tree.specs.Written.{written}
use Rattle.nml_tree.specs.Shapes.{term_size, act_size, IsGreatest}
use Rattle.nml_known.specs.Known.{item_number, parameter_told}
use Rattle.nml_known.specs.declared.known.Parameter.{Parameter}
use Rattle.nml_known.specs.declared.known.Parameter.TheVariants as parameter
use Rattle.nml_upward.specs.Upward.{IsRule, HasNumber}
use Rattle.shape_count.specs.declared.scope.Found.{Found}
use Rattle.shape_count.specs.declared.key.Key.{Key}
use Rattle.shape_count.specs.declared.summary.Summary.{Summary}
use Rattle.shape_count.specs.declared.summary.Acts.{Acts}
use Rattle.shape_count.specs.Sizes.{plus, times, finds, own_value, value_mentioned, with_block, block_mentioned, acted}

-- each name with its place, from this one on
abbrev pub numbered : ℕ → List Text → List (Text × ℕ)
numbered k [] = []
numbered k (n ∷ ns) = (n, k) ∷ numbered (k + 1) ns

-- the names of parameters
abbrev pub par_names : List Par → List Text
par_names pars = map (λ p. p.name.text) pars

-- the map has what is given
abbrev pub AreGiven : List (Text × ℕ) → List (Text × ℕ) → Type 0
AreGiven entries given = (name : Text) → lookup (text_eq name) entries ≡ lookup (text_eq name) given

-- so many times 0
abbrev pub zeros : ℕ → List ℕ
zeros n = replicate n 0

-- what an `op` declares
abbrev pub op_rule : OpRule → Rule
op_rule r = rule_of r.pars None r.attrs

-- and a `mode`
abbrev pub mode_rule : ModeRule → Rule
mode_rule r = rule_of r.pars (Some (formula r.value)) r.attrs

-- what a name is in the rule
abbrev pub rule_finds : Desc → Rule → Text → Found
rule_finds d rule = finds d (numbered 0 (par_names rule.pars))

-- what statements count, names being these
pub record AreActs (f : Text → Found) (b : Block) (n : ℕ) (a : Acts) : Type 0 where
  pub own : a.own ≡ with_block f b 0
  pub counts : a.counts.items ≡ block_mentioned f b (zeros n)
  pub actions : a.actions.items ≡ acted f b (zeros n)

-- what the text of a rule counts, names being these
pub record IsSummaryBy (f : Text → Found) (rule : Rule) (s : Summary) : Type 0 where
  pub value : s.value ≡ own_value f rule.value
  pub value_counts : s.value_counts.items ≡ value_mentioned f rule.value (zeros (length rule.pars))
  pub acts : AreActs f rule.action (length rule.pars) s.acts

-- what the text of the rule counts
abbrev pub IsSummary : Desc → Rule → Summary → Type 0
IsSummary d rule s = IsSummaryBy (rule_finds d rule) rule s

-- what the text of an item counts that is an and-rule
abbrev pub IsItemSummary : Desc → Item → Summary → Type 0
IsItemSummary d (item.OpRule r) s = IsSummary d (op_rule r) s
IsItemSummary d (item.ModeRule r) s = IsSummary d (mode_rule r) s
IsItemSummary d _ s = Unit {0}

-- those of so many items from the front
pub record AreSummaries (d : Desc) (n : ℕ) (summaries : List Summary) : Type 0 where
  pub long : length summaries ≡ n
  pub each : (k : ℕ) (i : Item) (s : Summary) → slice_get d.items k ≡ Some i → slice_get summaries k ≡ Some s → IsItemSummary d i s

-- so many times the action of a derivation, and so many times its value
abbrev pub weighed : Table → (times_action times_value : ℕ) → Derivation → ℕ
weighed t a m x = a * act_size (storages t) (written t 0 x).action + m * term_size (storages t) (written t 0 x).value

-- it is the greatest of what the rule of the key comes to
abbrev pub IsBest : Desc → Key → ℕ → Type 0
IsBest d k b = (name : Text) → HasNumber d name k.number → IsRule (table d) name → IsGreatest (IsDerivation (table d) name) (weighed (table d) k.action k.value) b

-- what stands at the place
abbrev pub count_at : List ℕ → ℕ → ℕ
count_at counts place = unwrap_or (slice_get counts place) 0

-- how often the value of the parameter of this place counts
abbrev pub value_weight : Summary → Key → ℕ → ℕ
value_weight s k place = plus (times k.action (count_at s.acts.counts.items place)) (times k.value (count_at s.value_counts.items place))

-- and its action
abbrev pub action_weight : Summary → Key → ℕ → ℕ
action_weight s k place = times k.action (count_at s.acts.actions.items place)

-- what the rule's own text counts
abbrev pub own_weight : Summary → Key → ℕ
own_weight s k = plus (times k.action s.acts.own) (times k.value s.value)

-- the sum, where both are known
abbrev pub sum_best : Option ℕ → Option ℕ → Option ℕ
sum_best (Some a) (Some b) = Some (plus a b)
sum_best _ _ = None

-- the greater, where both are known
abbrev pub max_best : Option ℕ → Option ℕ → Option ℕ
max_best (Some a) (Some b) = Some (max a b)
max_best _ _ = None

-- whether two keys are one
abbrev pub key_eq : Key → Key → Bool
key_eq a b = (a.number == b.number) && ((a.action == b.action) && (a.value == b.value))

-- what is known of the key
abbrev pub known_best : List (Key × ℕ) → Key → Option ℕ
known_best known k = lookup (key_eq k) known

-- of the name, so often
abbrev pub name_best : Desc → List (Key × ℕ) → Key → Text → Option ℕ
name_best d known k name = known_best known (record { number = unwrap_or (item_number d name) 0; action = k.action; value = k.value })

-- of an or-rule of further alternatives
abbrev pub with_names : (Text → Option ℕ) → Option ℕ → List Text → Option ℕ
with_names ask best [] = best
with_names ask best (n ∷ ns) = with_names ask (max_best best (ask n)) ns

-- so many times what is known
abbrev pub scaled_best : ℕ → Option ℕ → Option ℕ
scaled_best n best = option_map (λ b. times n b) best

-- of the rule of this number, so often; where the value alone counts, the greatest value is asked for
abbrev pub number_best : List (Key × ℕ) → (number times_action times_value : ℕ) → Option ℕ
number_best known n a v =
    if a == 0 then scaled_best v (known_best known (record { number = n; action = 0; value = 1 }))
    else known_best known (record { number = n; action = a; value = v })

-- of the parameter of this place
abbrev pub part_best : List (Key × ℕ) → Summary → Key → ℕ → Option Parameter → Option ℕ
part_best known s k place None = Some 0
part_best known s k place (Some (parameter.Field ty)) = Some (value_weight s k place)
part_best known s k place (Some (parameter.Part n)) = number_best known n (action_weight s k place) (value_weight s k place)

-- the same as it is written
abbrev pub par_best : Desc → List (Key × ℕ) → Summary → Key → ℕ → Par → Option ℕ
par_best d known s k place p = part_best known s k place (option_map (parameter_told d) (parameter_of (table d) p.ty))

-- with further parameters, the first of this place
abbrev pub with_pars : (ℕ → Par → Option ℕ) → ℕ → Option ℕ → List Par → Option ℕ
with_pars ask place best [] = best
with_pars ask place best (p ∷ ps) = with_pars ask (place + 1) (sum_best best (ask place p)) ps

-- of an and-rule
abbrev pub and_best : Desc → List (Key × ℕ) → Summary → Key → List Par → Option ℕ
and_best d known s k pars = with_pars (par_best d known s k) 0 (Some (own_weight s k)) pars

-- what is known is right
pub record AreRight (d : Desc) (known : List (Key × ℕ)) : Type 0 where
  pub best : AllByRecursion (λ e. IsBest d e.0 e.1) known
