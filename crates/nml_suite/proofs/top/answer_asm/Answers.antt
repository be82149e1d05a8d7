use Rattle.std.proofs.Common.{refl}
use Rattle.nml_reply.specs.Refusals.{refused}
use Rattle.nml_suite.proofs.Answering.{told_alone, saved_told, unsaved_told}
use Rattle.nml_suite.proofs.top.answer_asm.Goals as goal

pub returns-in-Err : goal.returns-in-Err
returns-in-Err g c = told_alone _ _ _ _ _ _ _ (refused c.in-Err.refusal) _ (c.in-Err.ensures c.args.image.now) c.tell_refusal.ensures

pub returns-in-Ok-save : goal.returns-in-Ok-save
returns-in-Ok-save g c = saved_told _ _ _ _ _ _ _ _ c.args.image.now c.in-Ok.made.file _ _ refl (c.in-Ok.ensures c.args.image.now) c.in-Ok-save.ensures c.tell_assembled.ensures

pub returns : goal.returns
returns g c =
    unsaved_told _ _ _ _ _ _ _ _ c.args.image.now c.in-Ok.made.file _ c.in-Err-save.refusal _ refl (c.in-Ok.ensures c.args.image.now) c.in-Err-save.ensures c.tell_refusal-in-Err-save.ensures
