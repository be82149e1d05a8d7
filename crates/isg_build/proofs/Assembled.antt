-- The parts of a graph are those of its description.
use Rattle.std.proofs.Common.{◌≡◌, sym, subst, arith, Some}
use Rattle.std.specs.Prelude.{slice_get}
use Rattle.nk_base.specs.declared.number.Ty.TheVariants as tys
use Rattle.nml_tree.specs.declared.tree.Desc.{Desc}
use Rattle.nml_tree.specs.Table.{Table, table}
use Rattle.nml_tree.specs.Act.{Act}
use Rattle.nml_tree.specs.Derivation.{Derivation}
use Rattle.nml_tree.specs.Exec.{out_type, pc, storages}
use Rattle.nml_tree.specs.Legal.{IsLegal}
use Rattle.nml_tree.specs.Refused.{IsChecked, IsTyped}
use Rattle.nml_tree.specs.Written as written
use Rattle.nml_shape.specs.Shown.{AreAllShapes}
use Rattle.nml_outline.proofs.Listed.{contains_at}
use Rattle.nml_target.specs.Target.{target}
use Rattle.isg_legal.specs.Coarse.{NeverClashes}
use Rattle.isg_lists.specs.Lines.{AreLines}
use Rattle.isg_lists.specs.Masks.{AreMasks}
use Rattle.isg_nodes.specs.Written.{Falls}
use Rattle.isg_graph.specs.Graph.{AreFor, IsEffect}
use Rattle.isg_graph.specs.Kept.{AreReads, AreWrites}
use Rattle.isg_build.specs.Kept.{NoneClashes}
use Rattle.isg_build.specs.Parts.{AreParts}
use Rattle.isg_build.specs.Widths.{ArePcBits, AreWordBits}
use Rattle.isg_build.specs.declared.whole.Parts.{Parts}
use Rattle.isg_build.proofs.Effects.{quiet_are}
use Rattle.isg_build.proofs.WordBits.{types_of_shape}

pub typed_of : (d : Desc) → IsChecked d → IsTyped d
typed_of d checked k low = checked.free k (omega (arith, low))

-- of each shape, its effect and what is kept beside it
pub record AreGathered (d : Desc) (p : Parts) : Type 0 where
  pub falls : Falls p.actions.nodes.items
  pub effects : AreFor (IsEffect d p.actions.nodes.items) p.shapes.items p.actions.effects.items
  pub quiet : AreFor (NoneClashes p.actions.nodes.items) p.actions.effects.items p.quiet.items
  pub reads : AreFor (AreReads p.actions.nodes.items) p.actions.effects.items p.reads.items
  pub writes : AreFor (AreWrites p.actions.nodes.items) p.actions.effects.items p.writes.items
  pub masks : AreMasks p.shapes.items p.masks
  pub lines : AreLines p.shapes.items p.lines

-- what is found once
pub record AreFound (d : Desc) (p : Parts) : Type 0 where
  pub word_bits : AreWordBits d p.word_bits
  pub pc_bits : ArePcBits d p.pc_bits
  pub pc_is : p.pc ≡ pc (table d)
  pub out_is : p.out ≡ out_type (table d)
  pub target_is : p.target ≡ target d

pub parts_are : (d : Desc) (p : Parts) → IsChecked d → AreAllShapes d p.shapes.items → ((t : Table) (x : Derivation) (a : Act) → a ≡ written.action t x → NeverClashes a → IsLegal t x) → AreGathered d p → AreFound d p → AreParts d p
parts_are d p checked all law g f = record {
  graph = record {
    checked = checked;
    falls = g.falls;
    shapes_are = all;
    typed = λ n s at. record { each = (types_of_shape d (typed_of d checked) p.shapes.items all s (contains_at p.shapes.items n s at)).each };
    effects_are = g.effects;
    word_bits_are = f.word_bits.are;
    word_least = f.word_bits.least;
    word_most = f.word_bits.most;
    pc_is = f.pc_is;
    pc_bits_are = subst (λ n. slice_get (storages (table d)) n ≡ Some (1, tys.Card p.pc_bits)) (sym f.pc_is) f.pc_bits.are;
    pc_least = f.pc_bits.least;
    pc_most = f.pc_bits.most;
    out_is = f.out_is;
    target_is = f.target_is;
  };
  kept = record { quiet_are = quiet_are d p.actions.nodes.items p.shapes.items p.actions.effects.items p.quiet.items law g.effects g.quiet; masks_are = g.masks; lines_are = g.lines };
  named = record { reads_are = g.reads; writes_are = g.writes };
}
