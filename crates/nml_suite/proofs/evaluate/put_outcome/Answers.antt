use Rattle.std.proofs.lemmas.Result.{err_from_is_err_and}
use Rattle.c_tree.specs.Meaning.{outcome}
use Rattle.c_tree.specs.Resolve.{resolved}
use Rattle.nk_outside.specs.declared.files.WriteFault.TheVariants as faults
use Rattle.nml_suite.proofs.Evaluating.{put_cut, put_cut_at_end}
use Rattle.nml_suite.proofs.evaluate.put_outcome.Goals as goal

pub returns-in-Err-Failed-clause-run : goal.returns-in-Err-Failed-clause-run
returns-in-Err-Failed-clause-run g c =
    let r = c.args.ready.now in
    put_cut (outcome (resolved r.program.0) r.program.1 r.numbers.items c.args.turns) _ _ c.in-Err-Failed.field-0 faults.Failed (rw c.deref.ensures.value at c.in-Err-Failed.ensures.run)

pub returns-in-Err-Memory-clause-run : goal.returns-in-Err-Memory-clause-run
returns-in-Err-Memory-clause-run g c =
    let r = c.args.ready.now in
    put_cut (outcome (resolved r.program.0) r.program.1 r.numbers.items c.args.turns) _ _ c.in-Err-Memory.field-0 faults.Memory (rw c.deref.ensures.value at c.in-Err-Memory.ensures.run)

pub returns-in_err-put_ending-clause-run : goal.returns-in_err-put_ending-clause-run
returns-in_err-put_ending-clause-run g c =
    let r = c.args.ready.now in
    let p = err_from_is_err_and c.from_residual.result c.from_residual.ensures.1 in
    rw p.1
    (put_cut_at_end (outcome (resolved r.program.0) r.program.1 r.numbers.items c.args.turns) c.in-Ok.stop _ _ _ faults.Failed (rw c.deref.ensures.value at c.in-Ok.ensures.run) c.in_err-put_ending.ensures.err)
