use Rattle.std.proofs.Common.{ap, length, subst, sym}
use Rattle.nml_tree.specs.Table.{table}
use Rattle.nml_types.specs.Summary.{IsSummary}
use Rattle.nml_types.proofs.Checks.{first_in, shape_types, summary_is}
use Rattle.nml_types.proofs.checking.sum_up.Goals as goal

pub instruction-requires : goal.instruction-requires
instruction-requires c =
    let h = rw c.typed.ensures at c.in-Ok.ensures in
    shape_types c.args.d.now c.in-Ok.all.items c.in-Some.first.now h.typed h.are
    (first_in c.in-Ok.all.items c.as_slice-all.result.now c.in-Some.first.now c.as_slice-all.ensures.value c.in-Some.ensures.value)

pub returns : goal.returns
returns c =
    let h = rw c.typed.ensures at c.in-Ok.ensures in
    let s = summary_is c.args.d.now c.in-Ok.all.items c.in-Some.first.now _ _ c.image-word.result h
    (first_in c.in-Ok.all.items c.as_slice-all.result.now c.in-Some.first.now c.as_slice-all.ensures.value c.in-Some.ensures.value)
    c.in_ok-instruction.ensures.0 c.in_ok-instruction.ensures.1 (rw c.typed-2.ensures at c.image-word.ensures) in
    subst (λ n. IsSummary (table c.args.d.now) n c.image-word.result.width) (sym (ap length c.as_slice-all.ensures.value)) s
