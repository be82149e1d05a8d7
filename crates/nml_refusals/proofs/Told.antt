-- What is told of a typed description: all its shapes, an instruction, and what is known of it.
use Rattle.std.proofs.Common.{ℕ, ◌≡◌, refl, arith, length, codes}
use Rattle.nml_tree.specs.declared.tree.Desc.{Desc}
use Rattle.nml_tree.specs.Table.{table}
use Rattle.nml_tree.specs.Image.{image}
use Rattle.nml_tree.specs.ShapeList.{shape_list}
use Rattle.nml_tree.specs.Refused.{IsFreeBelow, IsTyped, IsChecked}
use Rattle.nml_outline.proofs.Premises.{one_width}
use Rattle.shape_list.proofs.Listing.{are_shapes}
use Rattle.nml_types.specs.Summary.{IsSummary}
use Rattle.nml_refusals.proofs.Known.{known, word_bits}
use Rattle.nml_refusals.proofs.Summaries.{less, some_root}
use Rattle.nml_refusals.proofs.TreeFaults.{AreTold}

pub told : (d : Desc) → IsTyped d → AreTold d
told d typed = record { shapes = shape_list (table d) (codes "instruction"); all = are_shapes d typed; known = known d typed; bits = word_bits d typed }

pub some_summary : (d : Desc) → IsChecked d → (count : ℕ) × (width : ℕ) × IsSummary (table d) count width
some_summary d checked =
    let typed = less d 12 13 (omega arith) checked.free in
    let x = some_root d typed in (
      length (shape_list (table d) (codes "instruction")),
      length (image x.0),
      record {
        shapes = shape_list (table d) (codes "instruction");
        all = are_shapes d typed;
        count_is = refl;
        some = x;
        width_is = λ y h. one_width d (less d 10 12 (omega arith) typed) y x.0 h x.1;
      },
    )
