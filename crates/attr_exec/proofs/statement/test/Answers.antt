use Rattle.std.proofs.Common.{refl}
use Rattle.attr_exec.specs.Seen.{view}
use Rattle.attr_exec.proofs.Running.{of_types, stands_now}
use Rattle.attr_exec.proofs.statement.test.Goals as goal

pub returns : goal.returns
returns c = λ args ks ys n zs rule w left ready sound.
    let typed = of_types _ zs c.args.next c.args.s.now ready c.values_fit.ensures.cells c.values_fit.ensures.trns in
    c.worth.ensures args ks ys n zs rule w (stands_now _ zs _ c.args.next n c.args.s.now ready typed left) (sound (view zs c.args.s.now c.args.next) refl typed)
