use Rattle.std.proofs.Common.{sym, ◌∙◌, ap, []}
use Rattle.nml_known.specs.Known.{all_known}
use Rattle.nml_known.proofs.Fronts.{front_is, whole_front}
use Rattle.nml_known.proofs.names.Names.front.Goals as goal

pub invariant_of-result : goal.invariant_of-result
invariant_of-result c =
    rw (c.as_slice.ensures, c.as_slice-2.ensures.value)
    (c.self.invariant.0, c.self.invariant.1 ∙ ap (all_known []) (sym (whole_front _ _ c.self.invariant.1)))

pub returns : goal.returns
returns c = front_is _ _ _ _ c.as_slice-2.ensures.value c.as_slice.ensures c.self.invariant.1 ∙ ap (λ d. d.items) c.self.view_is
