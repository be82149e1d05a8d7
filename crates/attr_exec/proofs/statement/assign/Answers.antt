use Rattle.attr_exec.specs.Seen.{view}
use Rattle.attr_exec.proofs.Running.{given_seen}
use Rattle.attr_exec.proofs.statement.assign.Goals as goal

pub returns-clause-given : goal.returns-clause-given
returns-clause-given c = λ args ks ys n zs rule w left ready is es.
    let i = c.index_seen-index.ensures args ks ys n zs rule w left ready is in
    let p = c.place_seen-target.ensures args ks ys n zs rule w left ready i in
    let e = c.test-value.ensures args ks ys n zs rule w left ready es in
    given_seen c.args.out (view zs c.args.s.now c.args.next) _ _ _ _ _ _ p e c.give.ensures.given
