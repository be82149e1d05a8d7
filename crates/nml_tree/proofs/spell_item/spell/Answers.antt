use Rattle.std.proofs.Common.{◌∙◌}
use Rattle.nml_tree.specs.SpellItems.{spelling}
use Rattle.nml_tree.proofs.EndedLaws.{without_last}
use Rattle.nml_tree.proofs.spell_item.spell.Goals as goal

pub returns : goal.returns
returns c =
    c.from_vec.ensures
    ∙ c.pop.ensures.rest
    ∙ rw (c.into_vec-bytes.result.ok.0, c.into_vec-bytes.ensures, c.in_ok-push_items.ensures, c.new-text.ensures, c.as_slice.ensures) (without_last (spelling c.args.d.now))
