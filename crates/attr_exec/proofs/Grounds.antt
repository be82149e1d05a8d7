-- What a description in which all is right declares suits its places, but for its sizes, its statements and its `out`.
use Rattle.std.proofs.Common.{ℕ, ◌<◌, ◌≤◌, List, [], ◌≡◌, ℤ, refl, sym, subst, Some, None, Option, true, inl, inr, arith}
use Rattle.std.specs.Prelude.{unsigned_abs}
use Rattle.nk_base.specs.declared.number.Ty.{Ty}
use Rattle.nml_tree.specs.declared.tree.Desc.{Desc}
use Rattle.nml_tree.specs.declared.tree.Item.{Item}
use Rattle.nml_tree.specs.declared.tree.Item.TheVariants as item
use Rattle.nml_tree.specs.declared.tree.PortWord.{PortWord}
use Rattle.nml_tree.specs.declared.tree.PortWord.TheVariants as port
use Rattle.nml_widths.proofs.Fits.{no_left, no_right}
use Rattle.attr_exec.proofs.Ports.{placed, none_from, flat_none}
use Rattle.nml_tree.specs.Table.{Text, Table, Rule, Declared, declared, table, entry, port_of}
use Rattle.nml_tree.specs.Act.{Term}
use Rattle.nml_tree.specs.Worth.{is_type, of_type, of_declared, rule_scope}
use Rattle.nml_tree.specs.TypeFault.{block_places, rule_places, item_places, type_fault_places}
use Rattle.nml_tree.specs.Written.{source}
use Rattle.nml_tree.specs.Value.{Cells, value}
use Rattle.nml_tree.specs.Exec.{out_type}
use Rattle.nml_tree.specs.Refused.{IsFreeBelow, By_type}
use Rattle.nml_state.specs.Wrapping.{has_cell}
use Rattle.nml_widths.proofs.WidthLaws.{is_sound, action_sound}
use Rattle.attr_exec.specs.Seen.{view}
use Rattle.attr_exec.proofs.Lawful.{lawful}
use Rattle.attr_exec.proofs.Truths.{truths, all_agree}
use Rattle.attr_exec.proofs.Suited.{IsPlace, IsOfKind}
use Rattle.attr_exec.proofs.Placed.{Ground, IndexFits}

pub of_right : (u : Ty) → is_type u ≡ true → IsOfKind (of_type u).kind u
of_right u h = (h, rw h refl)

-- each storage has a cell, and the cells are of its size
abbrev pub IsSized : Table → Cells → Type 0
IsSized t cells = (q : Text) (n k : ℕ) (u : Ty) → declared t q ≡ Some (Declared.Storage n k u) → (1 ≤ k) × ((j : ℕ) → j < k → has_cell cells n j ≡ true)

-- the statements of each rule are right
abbrev pub AreBlocksRight : Table → Type 0
AreBlocksRight t = (name : Text) (rule : Rule) → declared t name ≡ Some (Declared.And rule) → block_places (rule_scope t rule) rule.action ≡ []

-- the type of the `out` is that which is declared
abbrev pub IsOutRight : Table → Type 0
IsOutRight t = (q : Text) (u : Ty) → declared t q ≡ Some (Declared.Out u) → IsOfKind (of_type u).kind (out_type t)

declared_place : (d : Desc) → IsFreeBelow 8 d → (zs : List ℤ) (next : Option ℤ) (cells : Cells) → IsSized (table d) cells → IsOutRight (table d) → (q : Text) (o : Option Declared) → declared (table d) q ≡ o → (i : Term) → IndexFits (table d) zs next cells o i
    → IsPlace (table d) zs next cells (of_declared o).kind (source o i)
declared_place d free zs next cells sized out q None is i fit = tt
declared_place d free zs next cells sized out q (Some (Declared.Constant z)) is i fit = tt
declared_place d free zs next cells sized out q (Some (Declared.TypeName ty)) is i fit = tt
declared_place d free zs next cells sized out q (Some (Declared.Storage n k u)) is i fit =
    (u, (lawful d free).storage_types q n k u is, of_right u ((is_sound d free).names q _ is), λ s now. subst (λ cs. has_cell cs n (unsigned_abs (value (view zs s next) i)) ≡ true) (sym now.cells_are) ((sized q n k u is).1 (unsigned_abs (value (view zs s next) i)) (fit s now)))
declared_place d free zs next cells sized out q (Some (Declared.Trn n u)) is i fit = (u, (lawful d free).trn_types_are q n u is, of_right u ((is_sound d free).names q _ is))
declared_place d free zs next cells sized out q (Some (Declared.Inp ty)) is i fit = tt
declared_place d free zs next cells sized out q (Some (Declared.Out u)) is i fit = out q u is
declared_place d free zs next cells sized out q (Some (Declared.Or mode names)) is i fit = tt
declared_place d free zs next cells sized out q (Some (Declared.And rule)) is i fit = tt

pub ground : (d : Desc) → IsFreeBelow 8 d → (zs : List ℤ) (next : Option ℤ) (cells : Cells) → IsSized (table d) cells → AreBlocksRight (table d) → IsOutRight (table d) → Ground (table d) zs next cells
ground d free zs next cells sized blocks out = record {
  sound = is_sound d free;
  agree = all_agree d free;
  some = λ q n k u is. (sized q n k u is).0;
  places = λ q o is i fit has. declared_place d free zs next cells sized out q o is i fit;
  blocks = blocks;
  fits = λ name rule args n h stand c now. action_sound d free (view zs c next) now.typed name rule args n h stand;
  truths = truths d free;
}

no_port_rule : (t : Table) (w : PortWord) (ty : Ty) (rule : Rule) → port_of t w ty ≡ Declared.And rule → ⊥
no_port_rule t (port.Trn at) ty rule h = cc
no_port_rule t (port.Inp at) ty rule h = cc
no_port_rule t (port.Out at) ty rule h = cc

and_same : (a b : Rule) → Declared.And a ≡ Declared.And b → a ≡ b
and_same a b h = cc

rule_item : (whole u : Table) (i : Item) (rule : Rule) → (entry u i).1 ≡ Declared.And rule → item_places whole i ≡ [] → rule_places whole rule ≡ []
rule_item whole u (item.Let at n equals minus z) rule e h = absurd cc
rule_item whole u (item.Type at n equals x) rule e h = absurd cc
rule_item whole u (item.Storage s) rule e h = absurd cc
rule_item whole u (item.Port p) rule e h = absurd (no_port_rule u p.word _ rule e)
rule_item whole u (item.OrRule r) rule e h = absurd cc
rule_item whole u (item.OpRule r) rule e h = subst (λ (a : Rule). rule_places whole a ≡ []) (and_same _ rule e) h
rule_item whole u (item.ModeRule r) rule e h = subst (λ (a : Rule). rule_places whole a ≡ []) (and_same _ rule e) h

pub blocks_right : (d : Desc) → IsFreeBelow 8 d → AreBlocksRight (table d)
blocks_right d free name rule is =
    elim (placed d.items [] name (Declared.And rule) is) [
      | inl old ↦ absurd cc
      | inr f ↦ no_right _ _ (no_left _ _ (rule_item (table d) f.0 f.1 rule f.5 (flat_none (item_places (table d)) d.items f.1 f.4 (none_from (type_fault_places d) (λ at c. free 6 (omega arith) (By_type at c))))))
    ]
