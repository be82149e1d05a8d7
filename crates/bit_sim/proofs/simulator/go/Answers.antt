use Rattle.std.proofs.Common.{◌∙◌, ap, subst, sym, Some}
use Rattle.bit_sim.proofs.Running.{Steps, go_bad, go_did, go_nothing, go_wants, inst_there}
use Rattle.bit_sim.proofs.simulator.go.Goals as goal

pub apply-requires : goal.apply-requires
apply-requires c = record { exists = inst_there c.args.g.now c.requires.decoded.0 c.args.found.now c.args.next c.place-pc.result c.requires.decoded.1 c.in-Some-word.i (sym c.in-Some.ensures ∙ ap Some c.in-Some-word.is) }

pub returns-in-None-clause-step : goal.returns-in-None-clause-step
returns-in-None-clause-step c = λ words are. go_nothing c.args.g.now words c.args.found.now c.args.next c.place-pc.result are c.args.s.now.cells c.place-pc.ensures (sym c.in-None.ensures)

pub returns-in-None-word-clause-step : goal.returns-in-None-word-clause-step
returns-in-None-word-clause-step c = λ words are. go_bad c.args.g.now words c.args.found.now c.args.next c.place-pc.result are c.args.s.now.cells c.place-pc.ensures (sym c.in-Some.ensures ∙ ap Some c.in-None-word.is)

pub returns-in-Wants-clause-step : goal.returns-in-Wants-clause-step
returns-in-Wants-clause-step c = λ words are.
    go_wants c.args.g.now words c.args.found.now c.args.next c.place-pc.result are c.args.s.now c.apply.new.s c.in-Some-word.i c.place-pc.ensures (sym c.in-Some.ensures ∙ ap Some c.in-Some-word.is)
    (λ x is legal. c.in-Wants.ensures.done x is legal c.requires.state c.requires.next)

pub returns-in-Done-clause-step : goal.returns-in-Done-clause-step
returns-in-Done-clause-step c = λ words are.
    subst (Steps c.args.g.now words c.args.found.now c.args.next c.place-pc.result are c.args.s.now.cells c.apply.new.s.cells) (sym c.answer.ensures)
    (go_did c.args.g.now words c.args.found.now c.args.next c.place-pc.result are c.args.s.now c.apply.new.s c.in-Some-word.i c.place-pc.ensures (sym c.in-Some.ensures ∙ ap Some c.in-Some-word.is) c.in-Done.out c.in-Done.took c.in-Done.halt
    (λ x is legal. c.in-Done.ensures.done x is legal c.requires.state c.requires.next))
