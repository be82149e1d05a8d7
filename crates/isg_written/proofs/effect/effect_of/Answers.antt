use Rattle.std.proofs.Common.{◌∙◌, ap, length}
use Rattle.nml_tree.specs.declared.tree.Desc.{Desc}
use Rattle.isg_written.proofs.Whole.{effect_made}
use Rattle.isg_written.proofs.effect.effect_of.Goals as goal

pub returns-clause-written : goal.returns-clause-written
returns-clause-written c =
    effect_made _ c.requires.typed _ _ _ _ _ _ _ _ c.in_ok-root.ensures (ap length (c.items-limit.ensures ∙ ap (λ (d : Desc). d.items) c.names.ensures)) c.new-list.ensures.items c.new.ensures c.in_ok-action.ensures.adds
