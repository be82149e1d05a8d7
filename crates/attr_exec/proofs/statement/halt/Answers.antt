use Rattle.std.specs.Prelude.{FitsSigned}
use Rattle.std.specs.Int.{w128}
use Rattle.std.proofs.lemmas.Int.{to_z-of_z}
use Rattle.std.proofs.Common.{rules}
use Rattle.attr_exec.specs.Seen.{view}
use Rattle.attr_exec.proofs.Running.{halt_seen}
use Rattle.attr_exec.proofs.statement.halt.Goals as goal

pub returns : goal.returns
returns c = λ args ks ys n zs rule w left ready sound.
    let e = c.test-code.ensures args ks ys n zs rule w left ready sound in
    let fit : FitsSigned w128 c.test-code.result.value = search rules in
    halt_seen (view zs c.args.s.now c.args.next) _ _ c.args.done _ _ e (rw (to_z-of_z w128 c.test-code.result.value fit) at c.halt_with.ensures) c.look_at.ensures
