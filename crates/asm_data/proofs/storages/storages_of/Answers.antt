use Rattle.std.proofs.Common.{◌≡◌, rules, subst}
use Rattle.nml_tree.specs.Refused.{IsChecked}
use Rattle.asm_data.proofs.KeptStorages.{are_storages, sound}
use Rattle.asm_data.proofs.storages.storages_of.Goals as goal

pub returns : goal.returns
returns c =
    let items : c.as_slice.result.now ≡ c.args.d.now.items = search rules in
    record {
      are = are_storages c.args.d.now c.args.width _ c.as_slice.result.now items c.in_ok-layout.ensures c.in_ok-numbers.ensures;
      sound = sound c.args.d.now c.args.width _ (subst IsChecked c.d.view_is c.d.invariant) c.requires c.in_ok-layout.ensures;
    }
