use Rattle.std.proofs.Common.{◌∙◌, ap, arith, refl, length, nat_cmp, [], ◌∷◌, length-append}
use Rattle.std.proofs.lemmas.Option.{slice_get_read, slice_get_within}
use Rattle.std.specs.BTreeMap.{get}
use Rattle.std.specs.Prelude.{slice_index_or, unwrap_or}
use Rattle.shape_table.specs.Label.{all_bits, told}
use Rattle.shape_table.proofs.Labels.{are_refined, pushed_each}
use Rattle.shape_table.proofs.label.refined.Goals as goal

pub loop-i-preserved : goal.loop-i-preserved
loop-i-preserved c = record {
  long = let long = c.loop-i.invariant.long in let e = length-append c.loop-i.refined.items (c.told.result ∷ []) in ap length c.in_ok-push.ensures.items ∙ omega (arith, long, e);
  each = λ k s low at. rw c.in_ok-push.ensures.items
      (pushed_each c.args.shapes.now c.loop-i.refined.items c.loop-i.i c.told.result (λ j x. told c.args.part x (unwrap_or (get nat_cmp c.in_ok-commons.commons (slice_index_or c.args.labels.now j 0)) all_bits) (slice_index_or c.args.labels.now j 0)) c.index-shapes-i.result
      c.loop-i.invariant.long c.loop-i.invariant.each
      (slice_get_read c.args.shapes.now (length c.args.shapes.now) c.loop-i.i c.index-shapes-i.result refl c.loop-i-test.true c.index-shapes-i.is)
      (rw (c.told.ensures, c.known.ensures) refl) k s low at);
}

pub returns : goal.returns
returns c = are_refined c.args.part c.args.shapes.now c.args.labels.now c.loop-i.refined.items (λ label. unwrap_or (get nat_cmp c.in_ok-commons.commons label) all_bits) c.requires c.in_ok-commons.ensures (let long = c.loop-i.invariant.long in omega (arith, long))
    (λ k s at. c.loop-i.invariant.each k s (let low = slice_get_within c.args.shapes.now k s at in omega (arith, low)) at)
