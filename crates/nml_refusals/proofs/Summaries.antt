-- An accepted description has one number of shapes and one of bits.
use Rattle.std.proofs.Common.{ℕ, ◌≤◌, ◌<◌, ◌≡◌, refl, sym, ap, ◌∙◌, arith, List, length, codes}
use Rattle.nml_tree.specs.declared.tree.Desc.{Desc}
use Rattle.nml_tree.specs.Table.{Table, table}
use Rattle.nml_tree.specs.Derivation.{Derivation}
use Rattle.nml_tree.specs.Image.{image}
use Rattle.nml_tree.specs.Refused.{IsFreeBelow, IsTyped, By_cycle}
use Rattle.nml_tree.specs.Valid.{IsRoot}
use Rattle.nml_upward.proofs.Upward.{are_made}
use Rattle.nml_shape.proofs.OneList.{one_list_of_shapes}
use Rattle.nml_outline.proofs.Premises.{one_width}
use Rattle.nml_types.specs.Summary.{IsSummary}
use Rattle.shape_count.proofs.RootRule.{root_is_rule}
use Rattle.nml_refusals.proofs.SomeDerivation.{has_derivation}

pub one_summary : (t : Table) (count width other wide : ℕ) → IsSummary t count width → IsSummary t other wide → (count ≡ other) × (width ≡ wide)
one_summary t count width other wide h k =
    (h.count_is ∙ ap length (one_list_of_shapes t h.shapes k.shapes h.all k.all) ∙ sym k.count_is, sym (h.width_is h.some.0 h.some.1) ∙ k.width_is h.some.0 h.some.1)

pub less : (d : Desc) (m n : ℕ) → m ≤ n → IsFreeBelow n d → IsFreeBelow m d
less d m n le free k low h = free k (omega (arith, low, le)) h

-- there is an instruction
pub some_root : (d : Desc) → IsTyped d → (x : Derivation) × IsRoot (table d) x
some_root d typed = has_derivation (table d) (are_made d (less d 8 12 (omega arith) typed)) (λ r f. typed 5 (omega arith) (By_cycle r f)) (codes "instruction") (root_is_rule d typed)
