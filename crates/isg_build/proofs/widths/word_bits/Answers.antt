use Rattle.std.proofs.Common.{subst, sym}
use Rattle.nml_tree.specs.Refused.{IsTyped}
use Rattle.nml_outline.proofs.Listed.{contains_at}
use Rattle.isg_build.proofs.WordBits.{types_of_shape, wide_as}
use Rattle.isg_build.proofs.widths.word_bits.Goals as goal

pub instruction-requires : goal.instruction-requires
instruction-requires c = types_of_shape c.args.d.now (subst IsTyped c.d.view_is c.d.invariant) c.args.shapes.now c.requires c.in-Some.shape.now (contains_at c.args.shapes.now 0 c.in-Some.shape.now (sym c.in-Some.ensures.value))

pub returns-in_ok-x-in-Some : goal.returns-in_ok-x-in-Some
returns-in_ok-x-in-Some c =
    wide_as c.args.d.now (subst IsTyped c.d.view_is c.d.invariant) c.args.shapes.now c.requires c.in-Some.shape.now c.in_ok-x-in-Some.x.picks.items c.in_ok-x-in-Some.x.fields.items c.image.result
    (contains_at c.args.shapes.now 0 c.in-Some.shape.now (sym c.in-Some.ensures.value)) c.in_ok-x-in-Some.ensures.0 c.in_ok-x-in-Some.ensures.1 c.image.ensures
