use Rattle.std.proofs.Common.{◌++◌, subst, take, append-nil, sym, arith}
use Rattle.nml_texts.specs.Around.{further, what_are}
use Rattle.nml_texts.specs.Given.{AreGiven}
use Rattle.nml_texts.proofs.Givens.{one_further, all_further}
use Rattle.nml_texts.proofs.parameters.add_rest.Goals as goal

pub loop-p-init : goal.loop-p-init
loop-p-init c = λ ps are. subst (λ qs. AreGiven c.args.map.now.entries (what_are c.args.widths.now qs)) (sym (append-nil ps)) are

pub loop-p-preserved : goal.loop-p-preserved
loop-p-preserved c = λ ps are.
    subst (λ qs. AreGiven c.add.new.map.entries (what_are c.args.widths.now qs)) (one_further c.args.rest.now c.loop-p.p-index _ ps c.loop-p-test.true c.loop-p-item.is)
    (c.in_ok-add.ensures (ps ++ further (take c.loop-p.p-index c.args.rest.now)) (c.loop-p.invariant ps are))

pub returns : goal.returns
returns c = λ ps are.
    subst (λ qs. AreGiven c.loop-p.map.entries (what_are c.args.widths.now qs)) (all_further c.args.rest.now c.loop-p.p-index ps (let f = c.loop-p-test.false in omega (arith, f))) (c.loop-p.invariant ps are)
