use Rattle.std.proofs.Common.{◌≡◌, ◌∙◌, map, subst, Some}
use Rattle.ir_run.specs.Entry.{entry}
use Rattle.ir_run.specs.Run.{act}
use Rattle.ir_run.specs.Stands.{state_of, answered}
use Rattle.ir_run.proofs.Tables.{shifts_at, step_at, step_past}
use Rattle.ir_run.proofs.machine.Machine.step.Goals as goal

pub act-requires-clause-shifts : goal.act-requires-clause-shifts
act-requires-clause-shifts c = shifts_at c.args.code.now.bits c.args.code.now.statements.now c.args.self.now.place c.in-Some.statement.now (c.in-Some.ensures.lookup.0, c.in-Some.ensures.lookup.1) c.requires.shifts

pub returns-in-None : goal.returns-in-None
returns-in-None c = step_past c.args.code.now.bits c.args.code.now.statements.now (state_of c.args.input.now c.args.self.now) c.in-None.ensures.lookup.0

pub returns-in-None-act : goal.returns-in-None-act
returns-in-None-act c =
    let es = map entry c.args.code.now.statements.now in
    let s = state_of c.args.input.now c.args.self.now in
    subst (λ m. answered m (state_of c.args.input.now c.act.new.self) ≡ act es c.args.code.now.bits (Some (entry c.in-Some.statement.now)) s) c.in-None-act.is (c.act.ensures es c.requires.marks)
    ∙ step_at c.args.code.now.bits c.args.code.now.statements.now s c.in-Some.statement.now (c.in-Some.ensures.lookup.0, c.in-Some.ensures.lookup.1)

pub returns-in-Some-act : goal.returns-in-Some-act
returns-in-Some-act c =
    let es = map entry c.args.code.now.statements.now in
    let s = state_of c.args.input.now c.args.self.now in
    subst (λ m. answered m (state_of c.args.input.now c.act.new.self) ≡ act es c.args.code.now.bits (Some (entry c.in-Some.statement.now)) s) c.in-Some-act.is (c.act.ensures es c.requires.marks)
    ∙ step_at c.args.code.now.bits c.args.code.now.statements.now s c.in-Some.statement.now (c.in-Some.ensures.lookup.0, c.in-Some.ensures.lookup.1)
