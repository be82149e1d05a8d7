use Rattle.std.proofs.Common.{◌≡◌, ◌∙◌, ap, subst, Some}
use Rattle.std.specs.Prelude.{slice_get}
use Rattle.nml_tree.specs.Exec.{storages}
use Rattle.nml_tree.specs.Refused.{IsChecked}
use Rattle.nml_tree.specs.Table.{table}
use Rattle.disasm_tool.proofs.StorageOrder.{type_right}
use Rattle.disasm_tool.proofs.storages.Storages.ty.Goals as goal

pub returns-clause-right : goal.returns-clause-right
returns-clause-right c =
    let checked : IsChecked c.args.self.now = subst IsChecked (c.checked.view_is ∙ c.self.view_is) c.checked.invariant in
    let rows = c.deref.ensures.value ∙ (c.self.invariant.1 ∙ ap (λ d. storages (table d)) c.self.view_is) in
    let at = subst (λ xs. slice_get xs c.args.n ≡ Some c.row_at.result) rows c.row_at.ensures in
    type_right c.args.self.now checked c.args.n c.row_at.result.0 c.row_at.result.1 at
