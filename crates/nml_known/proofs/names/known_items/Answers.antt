use Rattle.std.proofs.Common.{sym, ap, subst, ◌∙◌, ◌+◌, take, length, []}
use Rattle.nml_tree.specs.Table.{entry, entries}
use Rattle.nml_known.specs.Known.{known}
use Rattle.nml_known.proofs.Fronts.{Learned, learned_more}
use Rattle.nml_known.proofs.names.known_items.Goals as goal

pub loop-number-preserved : goal.loop-number-preserved
loop-number-preserved c =
    subst (λ ks. Learned c.args.items.now ks (c.loop-number.number + 1)) (sym c.in_ok-push.ensures.items)
    (learned_more c.args.items.now c.loop-number.known.items c.loop-number.number c.index-items-number.result c.entry_of-one.result c.loop-number.invariant
    c.loop-number-test.true c.index-items-number.is
    (c.entry_of-one.ensures
    ∙ ap (λ ks. known (entry (entries [] (take (length ks) c.args.items.now)) c.index-items-number.result).1) c.as_slice.ensures.value))
