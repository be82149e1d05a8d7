use Rattle.std.proofs.Common.{refl, length, nat_cmp}
use Rattle.std.proofs.lemmas.Option.{slice_get_read}
use Rattle.std.specs.BTreeMap.{get}
use Rattle.shape_table.specs.Label.{all_bits}
use Rattle.shape_table.proofs.Pairs.{common_step}
use Rattle.shape_table.proofs.label.commons.Goals as goal

pub loop-i-preserved : goal.loop-i-preserved
loop-i-preserved c =
    common_step c.args.part c.args.shapes.now c.args.labels.now all_bits c.loop-i.i _ c.index-shapes-i.result (get nat_cmp c.loop-i.commons) (get nat_cmp c.insert.new.self) c.loop-i.invariant
    (slice_get_read c.args.shapes.now (length c.args.shapes.now) c.loop-i.i c.index-shapes-i.result refl c.loop-i-test.true c.index-shapes-i.is)
    (rw (c.known.ensures, c.fixed_in.ensures) refl) c.in_ok-insert.ensures.updates.0
