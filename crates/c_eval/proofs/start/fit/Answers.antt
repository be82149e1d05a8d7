use Rattle.std.proofs.Common.{◌≡◌, ◌+◌, ◌-◌, ap, sym, ◌∙◌, ◌++◌, arith, pos, length, take, replicate, length-append}
use Rattle.c_eval.proofs.Cells.{fit_cut}
use Rattle.c_eval.proofs.start.fit.Goals as goal

pub returns-then-count-have : goal.returns-then-count-have
returns-then-count-have c = λ before init is long.
    let old = c.args.memory.now.items in
    let whole : length old ≡ length before + length init = ap length is ∙ length-append before init in
    let k : c.saturating_sub.result ≡ c.args.count - length init = omega (arith, c.saturating_sub.ensures, c.len.ensures, whole, long) in
    c.truncate.ensures.items
    ∙ ap (λ n. take (n + c.args.count) c.push_zeros.new.memory.items) (sym long)
    ∙ fit_cut before init old c.push_zeros.new.memory.items c.args.count c.saturating_sub.result is c.in_ok-push_zeros.ensures
    ∙ ap (λ n. before ++ take c.args.count (init ++ replicate n (pos 0))) k
