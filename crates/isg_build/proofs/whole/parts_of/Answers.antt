use Rattle.std.proofs.Common.{rules, ◌≡◌, [], arith, subst, sym}
use Rattle.nml_state.specs.RightTypes.{EachRight}
use Rattle.nml_state.proofs.Lookups.{each_right}
use Rattle.nml_shape.specs.Shown.{AreAllShapes}
use Rattle.nml_target.specs.Target.{target}
use Rattle.nml_tree.specs.Exec.{out_type, pc}
use Rattle.nml_tree.specs.Refused.{IsFreeBelow}
use Rattle.nml_tree.specs.Table.{table}
use Rattle.isg_graph.specs.Graph.{AreFor, IsEffect}
use Rattle.isg_build.specs.Widths.{ArePcBits}
use Rattle.isg_build.proofs.Assembled.{parts_are}
use Rattle.isg_build.proofs.Effects.{effects_within}
use Rattle.isg_build.proofs.whole.parts_of.Goals as goal

pub quiet_of-requires-clause-within : goal.quiet_of-requires-clause-within
quiet_of-requires-clause-within c = rw (c.as_slice-2.ensures.value, c.as_slice-3.ensures.value) (effects_within c.in_ok-names.names _ _ _ c.in_ok-actions.ensures.effects)

pub reads_of_all-requires-clause-within : goal.reads_of_all-requires-clause-within
reads_of_all-requires-clause-within c = rw (c.as_slice-4.ensures.value, c.as_slice-5.ensures.value) (effects_within c.in_ok-names.names _ _ _ c.in_ok-actions.ensures.effects)

pub writes_of_all-requires-clause-within : goal.writes_of_all-requires-clause-within
writes_of_all-requires-clause-within c = rw (c.as_slice-6.ensures.value, c.as_slice-7.ensures.value) (effects_within c.in_ok-names.names _ _ _ c.in_ok-actions.ensures.effects)

pub out_type-requires : goal.out_type-requires
out_type-requires c =
    let free : IsFreeBelow 8 c.args.d.now = λ k low. c.requires.free k (omega (arith, low)) in
    let items : c.as_slice-items.result.now ≡ c.args.d.now.items = search rules in
    subst (EachRight []) (sym items) (each_right c.args.d.now free)

pub returns : goal.returns
returns c =
    let same : c.in_ok-names.names ≡ c.args.d.now = search rules in
    let nodes = c.in_ok-actions.actions.nodes.items in
    let all = c.in_ok-shapes.shapes.items in
    let listed : AreFor (IsEffect c.in_ok-names.names nodes) all c.in_ok-actions.actions.effects.items = rw c.as_slice.ensures.value at c.in_ok-actions.ensures.effects in
    let bits : ArePcBits c.args.d.now c.pc_bits.result = search rules in
    let pc_is : c.in-Ok.pc ≡ pc (table c.args.d.now) = search rules in
    let out_is : c.out_type.result ≡ out_type (table c.args.d.now) = search rules in
    let target_is : c.target.result ≡ target c.args.d.now = search rules in
    parts_are c.args.d.now _ c.requires (subst (λ q. AreAllShapes q all) same c.in_ok-shapes.ensures) c.lawful_is_legal.ensures
    (record {
      falls = c.in_ok-actions.ensures.falls;
      effects = subst (λ q. AreFor (IsEffect q nodes) all c.in_ok-actions.actions.effects.items) same listed;
      quiet = rw (c.as_slice-2.ensures.value, c.as_slice-3.ensures.value) at c.in_ok-quiet.ensures;
      reads = rw (c.as_slice-4.ensures.value, c.as_slice-5.ensures.value) at c.in_ok-reads.ensures;
      writes = rw (c.as_slice-6.ensures.value, c.as_slice-7.ensures.value) at c.in_ok-writes.ensures;
      masks = rw c.as_slice-8.ensures.value at c.in_ok-masks.ensures;
      lines = rw c.as_slice-9.ensures.value at c.in_ok-lines.ensures;
    })
    (record { word_bits = c.in_ok-word_bits.ensures; pc_bits = bits; pc_is = pc_is; out_is = out_is; target_is = target_is })
