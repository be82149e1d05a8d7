-- How much an event counts in a walk through an effect.
use Rattle.std.specs.Prelude.{ℕ, ℤ, Bool, List, Option, Some, None}
use Rattle.attr_eval.specs.Lawful.{act_shape}
use Rattle.attr_legal.specs.Tally.{excess, hit, tally}
use Rattle.attr_legal.specs.declared.key.Key.{Key}
use Rattle.attr_legal.specs.declared.key.Key.TheVariants as key
use Rattle.isg_legal.specs.Known.{key_in}
use Rattle.isg_legal.specs.declared.key.Key as mine
use Rattle.isg_legal.specs.declared.key.Key.TheVariants as own
use Rattle.nml_tree.specs.Act.{Act}
use Rattle.nml_tree.specs.Legal.{Event}

-- what may happen once, as in the reference
abbrev pub as_key : mine.Key → Key
as_key (own.Cell n k) = key.Cell n k
as_key (own.Trn n) = key.Trn n
as_key own.Put = key.Put
as_key own.Halt = key.Halt
as_key own.Read = key.Read

-- how much an event counts, as what it is: 1 where it is the one that is sought, or, where none is, where it is met twice on a path through the whole
abbrev pub weighed : (put_in : Bool) → List ℤ → (whole : Act) → Option mine.Key → Key → ℕ
weighed b zs whole None k = excess (tally (λ e. hit k (key_in b zs e)) (act_shape whole))
weighed b zs whole (Some first) k = hit (as_key first) k

-- how much an event counts
abbrev pub counts : (put_in : Bool) → List ℤ → (whole : Act) → Option mine.Key → Event → ℕ
counts b zs whole sought e = weighed b zs whole sought (key_in b zs e)
