use Rattle.std.proofs.lemmas.Result.{err_from_is_err_and}
use Rattle.nml_suite.proofs.Describing.{spelled_checked}
use Rattle.nml_suite.proofs.describe.accepted.Goals as goal

pub returns-in_err-tree : goal.returns-in_err-tree
returns-in_err-tree c =
    let p = err_from_is_err_and c.from_residual.result c.from_residual.ensures.1 in
    rw (p.1, p.2) c.in_err-tree.ensures

pub returns : goal.returns
returns c = spelled_checked c.args.name.now c.args.bytes.now c.in_ok-tree.tree c.checked.result c.in_ok-tree.ensures c.checked.ensures
