use Rattle.std.proofs.Common.{◌≡◌, subst}
use Rattle.nml_tree.specs.Act.{Act, Term, assigned}
use Rattle.isg_nodes.specs.Written.{term}
use Rattle.isg_written.specs.Found.{Is}
use Rattle.isg_written.specs.Puts.{set_by}
use Rattle.isg_written.proofs.Statements.{assign_none, assign_some}
use Rattle.isg_written.proofs.place.assign.Goals as goal

pub returns-in-None-clause-adds : goal.returns-in-None-clause-adds
returns-in-None-clause-adds c =
    let set = subst (λ ns. (u : Term) → Is ns c.in_ok-target.target u → (rest : Act) → assigned u (term ns c.in_ok-value.value) rest ≡ set_by ns c.setting.result rest) c.as_slice.ensures.value c.setting.ensures.set in
    assign_none _ _ _ _ _ _ _ _ _ _ _ _ _ c.requires.list c.in_ok-index.ensures.grows c.in_ok-target.ensures.grows c.in_ok-index.ensures.found c.in_ok-target.ensures.found c.in_ok-value.ensures.grows c.in_ok-value.ensures.found set c.in-None.is

pub returns-in-Some-clause-adds : goal.returns-in-Some-clause-adds
returns-in-Some-clause-adds c =
    let set = subst (λ ns. (u : Term) → Is ns c.in_ok-target.target u → (rest : Act) → assigned u (term ns c.in_ok-value.value) rest ≡ set_by ns c.setting.result rest) c.as_slice.ensures.value c.setting.ensures.set in
    assign_some _ _ _ _ _ _ _ _ _ _ _ _ _ _ _ _ _ c.in_ok-index.ensures.grows c.in_ok-target.ensures.grows c.in_ok-index.ensures.found c.in_ok-target.ensures.found c.in_ok-value.ensures.grows c.in_ok-value.ensures.found set c.in-Some.is c.push.ensures.pushes
