use Rattle.std.proofs.Common.{◌≡◌, ◌∙◌, sym, ap, slice_get, map, filter}
use Rattle.std.specs.List.{zip}
use Rattle.std.specs.Vec.Iter.{into_iter_items, into_iter_len}
use Rattle.std.proofs.lemmas.Iterator.{YieldsList-from_zip}
use Rattle.std.proofs.lemmas.Iterator.Adapters.{YieldsList-from_vec}
use Rattle.std.proofs.lemmas.Iterator.Consumers.{YieldsList-end, YieldsList-at}
use Rattle.c_plan.specs.Paired.{paired, is_main, is_other}
use Rattle.c_plan.proofs.Chosen.{chosen_main, chosen_further, pairs_same}
use Rattle.c_plan.proofs.routine.routines_of.Goals as goal

pub loop-one-preserved-then-is_none : goal.loop-one-preserved-then-is_none
loop-one-preserved-then-is_none c = chosen_main c.loop-one.yielded (c.in-Some.one, c.in-Some.body) c.loop-one.main c.loop-one.others.items c.if-not-body.false c.if-is_none.ensures c.loop-one.invariant

pub loop-one-preserved : goal.loop-one-preserved
loop-one-preserved c = chosen_further c.loop-one.yielded (c.in-Some.one, c.in-Some.body) c.loop-one.main c.loop-one.others.items c.if-not-body.false c.if-is_none.ensures c.loop-one.invariant

all_pairs : (c : goal.After-drop-one-iterator-3) → c.loop-one.yielded ≡ zip c.args.declared.items c.args.bodies.items
all_pairs c =
    let first = YieldsList-from_vec c.args.declared.items (ap (λ s. into_iter_items s) c.zip-one-items.ensures.first ∙ c.into_iter.ensures.rest) (ap (λ s. into_iter_len s) c.zip-one-items.ensures.first ∙ c.into_iter.ensures.len ∙ c.args.declared.ok.0) in
    let second = YieldsList-from_vec c.args.bodies.items c.zip-one-items.ensures.second.0 (c.zip-one-items.ensures.second.1 ∙ c.args.bodies.ok.0) in
    let end = YieldsList-end (YieldsList-at c.into_iter-one-iterator.ensures.into_iter_gives (YieldsList-from_zip first second)) c.loop-one.yielded c.loop-one.one-iterator c.loop-one.yielded_by c.next.result c.next.new.self c.in-None.is c.next.ensures.steps in
    sym (pairs_same c.loop-one.yielded) ∙ end.0

pub returns-clause-main : goal.returns-clause-main
returns-clause-main c = c.loop-one.invariant.first ∙ ap (λ ps. slice_get (map paired (filter is_main ps)) 0) (all_pairs c)

pub returns-clause-others : goal.returns-clause-others
returns-clause-others c = c.loop-one.invariant.behind ∙ ap (λ ps. map paired (filter is_other ps)) (all_pairs c)
