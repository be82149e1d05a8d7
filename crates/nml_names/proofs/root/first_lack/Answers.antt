use Rattle.std.proofs.Common.{◌≡◌, true, false, map, codes, rules}
use Rattle.nml_tree.specs.NameFault.{is_among}
use Rattle.nml_tree.specs.Uses.{declares}
use Rattle.nml_names.proofs.Roots.{lacking, having, neither}
use Rattle.nml_names.proofs.root.first_lack.Goals as goal

pub returns-then-not-declare : goal.returns-then-not-declare
returns-then-not-declare c =
    let no_rule : is_among (codes "instruction") (map declares c.as_slice-items.result.now) ≡ false = search rules in
    lacking c.args.d.now _ (codes "instruction") c.as_slice-items.ensures no_rule

pub returns-then-not-declare-2 : goal.returns-then-not-declare-2
returns-then-not-declare-2 c =
    let rule : is_among (codes "instruction") (map declares c.as_slice-items.result.now) ≡ true = search rules in
    let no_pc : is_among (codes "PC") (map declares c.as_slice-items.result.now) ≡ false = search rules in
    (lacking c.args.d.now _ (codes "PC") c.as_slice-items.ensures no_pc, having c.args.d.now _ (codes "instruction") c.as_slice-items.ensures rule)

pub returns : goal.returns
returns c =
    let rule : is_among (codes "instruction") (map declares c.as_slice-items.result.now) ≡ true = search rules in
    let pc : is_among (codes "PC") (map declares c.as_slice-items.result.now) ≡ true = search rules in
    neither c.args.d.now (having c.args.d.now _ (codes "instruction") c.as_slice-items.ensures rule) (having c.args.d.now _ (codes "PC") c.as_slice-items.ensures pc)
