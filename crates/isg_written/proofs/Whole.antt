-- An instruction as a whole.
use Rattle.std.proofs.Common.{ℕ, ◌+◌, ◌≤◌, ◌≡◌, arith, refl, sym, ◌∙◌, ap, subst, List, [], ◌++◌, length, append-nil}
use Rattle.std.specs.Prelude.{codes}
use Rattle.nml_tree.specs.declared.tree.Desc.{Desc}
use Rattle.nml_tree.specs.Act.{Done}
use Rattle.nml_tree.specs.Derivation.{Derivation, picks, fields}
use Rattle.nml_tree.specs.Refused.{IsTyped}
use Rattle.nml_tree.specs.Table.{Text, table}
use Rattle.nml_tree.specs.Valid.{IsRoot}
use Rattle.nml_tree.specs.Written.{action}
use Rattle.attr_eval.proofs.Whole.{walks_whole}
use Rattle.isg_nodes.specs.declared.node.Node.{Node}
use Rattle.isg_nodes.specs.Written as nodes
use Rattle.isg_nodes.proofs.Growing.{listed_none}
use Rattle.isg_written.specs.Stands.{Stands}
use Rattle.isg_written.specs.Puts.{AddsAction}
use Rattle.isg_written.proofs.Few.{few_fields}
use Rattle.isg_written.proofs.Putting.{followed_done}

stands_whole : (d : Desc) → IsTyped d → (x : Derivation) → IsRoot (table d) x → (ps : List ℕ) → picks x ≡ ps → Stands (table d) (codes "instruction") (length d.items) x 0 ps []
stands_whole d typed x is ps same =
    let w = walks_whole d typed x (picks x) (fields x) (record { derivation = is; picks = refl; fields = refl }) in
    let few = few_fields d typed x is in
    record { is = is; low = w.low; few = omega (arith, few); picks_are = sym same ∙ sym (append-nil (picks x)) }

effect_is : (d : Desc) → IsTyped d → (x : Derivation) → IsRoot (table d) x → (ps : List ℕ) → picks x ≡ ps → (root : Text) (limit : ℕ) (old new : List Node) (ns : List ℕ) → root ≡ codes "instruction" → limit ≡ length d.items → AddsAction (table d) root limit 0 ps old new [] ns
    → nodes.action new ns ≡ action (table d) x
effect_is d typed x is ps same root limit old new ns root_is limit_is h =
    let w = subst (λ q. Stands (table d) q limit x 0 ps []) (sym root_is) (subst (λ l. Stands (table d) (codes "instruction") l x 0 ps []) (sym limit_is) (stands_whole d typed x is ps same)) in
    ((h.puts x [] w).each (λ a. a) (listed_none old)).is Done ∙ followed_done (action (table d) x)

pub effect_made : (d : Desc) → IsTyped d → (ps : List ℕ) (root : Text) (limit : ℕ) (old new : List Node) (before now ns : List ℕ) → root ≡ codes "instruction" → limit ≡ length d.items → before ≡ [] → ns ≡ now → AddsAction (table d) root limit 0 ps old new before now
    → (x : Derivation) → IsRoot (table d) x → picks x ≡ ps → nodes.action new ns ≡ action (table d) x
effect_made d typed ps root limit old new before now ns root_is limit_is none list_is h x is same =
    ap (nodes.action new) list_is ∙ effect_is d typed x is ps same root limit old new now root_is limit_is (subst (λ ms. AddsAction (table d) root limit 0 ps old new ms now) none h)
