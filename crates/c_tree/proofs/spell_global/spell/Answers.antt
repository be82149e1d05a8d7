use Rattle.std.proofs.Common.{◌∙◌}
use Rattle.c_tree.specs.Items.{items}
use Rattle.c_tree.specs.SpellGlobals.{spelling}
use Rattle.c_tree.proofs.EndedLaws.{without_last}
use Rattle.c_tree.proofs.spell_global.spell.Goals as goal

pub returns : goal.returns
returns c =
    c.from_vec.ensures
    ∙ c.pop.ensures.rest
    ∙ rw (c.into_vec-bytes.result.ok.0, c.into_vec-bytes.ensures, c.in_ok-push_globals.ensures, c.new-text.ensures, c.as_slice.ensures) (without_last (spelling (items c.args.t.now)))
