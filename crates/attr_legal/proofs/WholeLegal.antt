-- The whole derivation is legal exactly where no event counts in a check.
use Rattle.std.proofs.Common.{◌≡◌, ℕ, ℤ, List, sym, ◌∙◌, ap}
use Rattle.std.specs.Prelude.{◌==◌}
use Rattle.nml_tree.specs.declared.tree.Desc.{Desc}
use Rattle.nml_tree.specs.Derivation.{Derivation, fields}
use Rattle.nml_tree.specs.Legal.{fields_alone, is_legal}
use Rattle.nml_tree.specs.Refused.{IsFreeBelow}
use Rattle.nml_tree.specs.Table.{Table, table}
use Rattle.nml_tree.specs.Written.{action}
use Rattle.nml_widths.proofs.WidthLaws.{action_sound}
use Rattle.attr_eval.specs.Alone.{alone}
use Rattle.attr_eval.specs.Lawful.{act_shape}
use Rattle.attr_eval.proofs.AllPaths.{lawful_legal}
use Rattle.attr_eval.proofs.AloneLaws.{each_of}
use Rattle.attr_legal.proofs.Tallies.{by_tallies}
use Rattle.attr_legal.specs.Asked.{ActionsSound}
use Rattle.attr_legal.specs.Tally.{checks, tally}

-- in a typed description 128 bits hold the values in each action, whatever the fields
pub actions_sound : (d : Desc) → IsFreeBelow 8 d → (zs : List ℤ) → ActionsSound (table d) zs
actions_sound d free zs name rule args n is stand = (action_sound d free (alone zs) (record { each = λ q x h. each_of zs x }) name rule args n is stand).0

pub legal_is : (t : Table) (x : Derivation) (zs : List ℤ) (r : ℕ) → fields x ≡ zs → r ≡ tally (checks (alone zs) (act_shape (action t x))) (act_shape (action t x)) → (r == 0) ≡ is_legal t x
legal_is t x zs r is e =
    ap (λ n. n == 0) e ∙ ap (λ ys. tally (checks (alone ys) (act_shape (action t x))) (act_shape (action t x)) == 0) (sym is) ∙ by_tallies (fields_alone x) (act_shape (action t x)) ∙ lawful_legal t x
