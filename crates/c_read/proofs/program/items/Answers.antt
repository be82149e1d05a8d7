-- One global more, or the end.
use Rattle.std.proofs.Common.{sym, ap, ◌∙◌, ◌∷◌, [], map}
use Rattle.std.proofs.lemmas.List.{map-append}
use Rattle.std.proofs.lemmas.Result.{err_from_is_err_and}
use Rattle.readings.proofs.Continuing.{continues_step, continues_end, continues_fails, none_left, some_left}
use Rattle.c_tree.specs.Items as tree
use Rattle.c_grammar.specs.Programs.{item_read, block_room}
use Rattle.c_read.proofs.program.items.Goals as goal

pub loop-rest-preserved : goal.loop-rest-preserved
loop-rest-preserved c =
    continues_step (item_read block_room) _ _ _ _ _ _ (some_left c.loop-rest.rest.now c.is_empty.result c.is_empty.ensures c.loop-rest-test.true)
    (sym (ap (map tree.item) c.in_ok-push.ensures.ok ∙ map-append tree.item c.loop-rest.found (c.in_ok-item.item ∷ []))) c.loop-rest.invariant c.in_ok-item.ensures.says

pub returns-in_err-item : goal.returns-in_err-item
returns-in_err-item c =
    let p = err_from_is_err_and c.from_residual.result c.from_residual.ensures.1 in
    rw (p.1, p.2) (continues_fails (item_read block_room) _ _ _ _ (some_left c.loop-rest.rest.now c.is_empty.result c.is_empty.ensures c.loop-rest-test.true) c.loop-rest.invariant c.in_err-item.ensures.says)

pub returns : goal.returns
returns c =
    continues_end (item_read block_room) _ _ _ (none_left c.loop-rest.rest.now c.is_empty.result c.is_empty.ensures c.loop-rest-test.false) c.loop-rest.invariant
