use Rattle.std.proofs.Common.{ap}
use Rattle.std.specs.Prelude.{not}
use Rattle.isg_legal.proofs.WholeLegal.{whole}
use Rattle.isg_legal.proofs.legality.clashes.Goals as goal

pub returns : goal.returns
returns c = λ d x ks typed w same. ap not (whole d x ks c.args.fields.now _ c.all.result typed w same c.all.ensures)
