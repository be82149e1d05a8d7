use Rattle.attr_exec.proofs.Running.{of_types, stands_now}
use Rattle.attr_exec.proofs.statement.place_seen.Goals as goal

pub returns : goal.returns
returns c = λ args ks ys n zs rule w left ready d.
    let typed = of_types _ zs c.args.next c.args.s.now ready c.values_fit.ensures.cells c.values_fit.ensures.trns in
    let k = rw c.as_bytes-name.ensures at c.named.ensures in
    k args ks ys n zs _ w (stands_now _ zs _ c.args.next n c.args.s.now ready typed left) d
