use Rattle.std.proofs.Common.{◌≡◌, ◌<◌, ◌∙◌, ap, length, map, subst, sym, Some}
use Rattle.std.specs.Prelude.{slice_get}
use Rattle.std.proofs.lemmas.List.{length-map}
use Rattle.disasm_tool.specs.Names.{storage_names}
use Rattle.disasm_tool.proofs.StorageOrder.{name_is, names_long}
use Rattle.nml_tree.specs.Exec.{storages}
use Rattle.nml_tree.specs.Table.{table}
use Rattle.disasm_tool.proofs.storages.Storages.name.Goals as goal

pub name_at-requires : goal.name_at-requires
name_at-requires c =
    let are = c.self.invariant.0 ∙ ap (λ d. storage_names (table d)) c.self.view_is in
    let long : length c.deref.result.now ≡ length (storages (table c.args.self.now)) =
    ap length c.deref.ensures.value ∙ (sym (length-map c.self.inside.names.items (λ n. n.now)) ∙ (ap length are ∙ names_long (table c.args.self.now))) in
    subst (λ n. c.args.n < n) (sym long) c.requires

pub returns : goal.returns
returns c =
    let are = ap (map (λ n. n.now)) c.deref.ensures.value ∙ (c.self.invariant.0 ∙ ap (λ d. storage_names (table d)) c.self.view_is) in
    name_is c.args.self.now c.args.n c.name_at.result.now (subst (λ xs. slice_get xs c.args.n ≡ Some c.name_at.result.now) are c.name_at.ensures)
