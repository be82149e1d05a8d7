use Rattle.attr_exec.specs.Seen.{view}
use Rattle.attr_exec.proofs.Running.{index_none, index_some}
use Rattle.attr_exec.proofs.statement.index_seen.Goals as goal

pub returns-in-None : goal.returns-in-None
returns-in-None c = λ args ks ys n zs rule w left ready sound. index_none _ _ (view zs c.args.s.now c.args.next) _ _ c.in-None.is c.number.ensures

pub returns-in-Some : goal.returns-in-Some
returns-in-Some c = λ args ks ys n zs rule w left ready sound. index_some _ rule _ zs (view zs c.args.s.now c.args.next) _ _ _ c.in-Some.is sound (λ e. c.test.ensures args ks ys n zs rule w left ready e)
