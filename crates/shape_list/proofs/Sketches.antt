-- A derivation in outline, by what its rule is made of.
use Rattle.std.proofs.Common.{◌≡◌, ℕ, ℤ, ◌-◌, Bool, false, List, ◌∷◌, ◌++◌, refl, sym, subst, ◌∙◌, Option, Some, None}
use Rattle.std.specs.Prelude.{slice_get, Result, Ok, Err, IfOk}
use Rattle.nml_tree.specs.declared.tree.OrRule.{OrRule}
use Rattle.nml_tree.specs.declared.tree.Pars.{Pars}
use Rattle.nml_tree.specs.declared.attributes.Attrs.{Attrs}
use Rattle.nml_tree.specs.Formula.{Formula}
use Rattle.nml_tree.specs.Derivation.{Derivation, Arguments, Pick, Compose, picks}
use Rattle.nml_tree.specs.Edge as edge
use Rattle.nml_tree.specs.Edge.{flat, flats}
use Rattle.nml_tree.specs.Image.{bit}
use Rattle.nml_tree.specs.Outline as outline
use Rattle.nml_tree.specs.Outline.{outline_bits, outlines, types, types_of}
use Rattle.nml_tree.specs.Table.{Text, Table, Declared, declared, alternative, rule_of, pars_of}
use Rattle.nml_tree.specs.Template.{text_of}
use Rattle.nml_tree.specs.Worth.{is_rule}
use Rattle.attr_eval.specs.Walks.{Walks, WalksAll}
use Rattle.attr_eval.proofs.Steps.{IsNoRule, no_rule, no_limit, next_picked, next_made, picked_one}
use Rattle.shape_list.specs.declared.sketch.Sketch.{Sketch}
use Rattle.shape_list.specs.Body.{alternatives_of}
use Rattle.shape_list.specs.Drawn.{Draws}

-- the derivation in outline, its fields numbered from `first` on, and the picks behind it
abbrev pub IsDrawn : Table → Text → ℕ → List ℕ → ℕ → Sketch → List ℕ → Type 0
IsDrawn t name n ps first s left =
    (d : Derivation) (zs : List ℤ) (ks : List ℕ) (ys : List ℤ) → Walks t name n d ps zs ks ys → Draws s (types d) (outline_bits first d) (flat first d) × (left ≡ ks)

pub drawn_none : (t : Table) (name : Text) (n : ℕ) (ps : List ℕ) (first : ℕ) (s : Sketch) (left : List ℕ) → n ≡ 0 → IsDrawn t name n ps first s left
drawn_none t name n ps first s left none d zs ks ys w = absurd (no_limit t name n ps zs ks ys d none w)

not_rule : (o : Option Declared) → is_rule o ≡ false → IsNoRule o
not_rule None h = tt
not_rule (Some (Declared.Constant z)) h = tt
not_rule (Some (Declared.TypeName u)) h = tt
not_rule (Some (Declared.Storage n k u)) h = tt
not_rule (Some (Declared.Trn n u)) h = tt
not_rule (Some (Declared.Inp u)) h = tt
not_rule (Some (Declared.Out u)) h = tt
not_rule (Some (Declared.Or mode names)) h = absurd cc
not_rule (Some (Declared.And rule)) h = absurd cc

pub drawn_nothing : (t : Table) (name : Text) (n : ℕ) (ps : List ℕ) (first : ℕ) (s : Sketch) (left : List ℕ) → is_rule (declared t name) ≡ false → IsDrawn t name n ps first s left
drawn_nothing t name n ps first s left not d zs ks ys w = absurd (no_rule t name (declared t name) d refl (not_rule (declared t name) not) w.is)

alternative_is : (t : Table) (name : Text) (mode : Bool) (names : List Text) (k : ℕ) → declared t name ≡ Some (Declared.Or mode names) → alternative t name k ≡ slice_get names k
alternative_is t name mode names k is = rw is refl

pub drawn_past : (t : Table) (name : Text) (n : ℕ) (ps : List ℕ) (first : ℕ) (s : Sketch) (left : List ℕ) (r : OrRule) → (mode : Bool) × (declared t name ≡ Some (Declared.Or mode (alternatives_of r)))
    → ((k : ℕ) (rest : List ℕ) → ps ≡ k ∷ rest → slice_get (alternatives_of r) k ≡ None) → IsDrawn t name n ps first s left
drawn_past t name n ps first s left r is past (Pick k d) zs ks ys w =
    let e : slice_get (alternatives_of r) k ≡ Some w.is.0 = sym (alternative_is t name is.0 (alternatives_of r) k is.1) ∙ w.is.1 in
    let f = past k (picks d ++ ks) w.picks_are in absurd cc
drawn_past t name n ps first s left r is past (Compose rule args) zs ks ys w = let e = is.1 in let f = w.is.0 in absurd cc

module _ {V E : Type 0} (sketch : V → Sketch) (left : V → List ℕ) (t : Table) (name : Text) (n : ℕ) (ps : List ℕ) (first : ℕ) where
  pub drawn_picked : (r : OrRule) (chosen : Text) (rest : List ℕ) → (mode : Bool) × (declared t name ≡ Some (Declared.Or mode (alternatives_of r)))
      → (k : ℕ) × (ps ≡ k ∷ rest) × (slice_get (alternatives_of r) k ≡ Some chosen) → (v : Result V E) → IfOk v (λ x. IsDrawn t chosen (n - 1) rest first (sketch x) (left x)) → IfOk v (λ x. IsDrawn t name n ps first (sketch x) (left x))
  drawn_picked r chosen rest is h (Ok x) below = λ d zs ks ys w.
      let s = next_picked t name n ps zs ks ys d chosen rest (h.0, h.1, picked_one t name is.0 (alternatives_of r) h.0 chosen is.1 h.2) w in
      subst (λ y. Draws (sketch x) (types y) (outline_bits first y) (flat first y) × (left x ≡ ks)) (sym s.2) (below s.1 zs ks ys s.3)
  drawn_picked r chosen rest is h (Err e) below = tt

  pub drawn_made : (pars : Option Pars) (attrs : Attrs) → (value : Option Formula) × (declared t name ≡ Some (Declared.And (rule_of pars value attrs))) → (v : Result V E)
      → IfOk v (λ x. (args : Arguments) (zs : List ℤ) (ks : List ℕ) (ys : List ℤ) → WalksAll t (pars_of pars) (n - 1) args ps zs ks ys
      → Draws (sketch x) (types_of args) (text_of (λ c. outline.Fixed (bit c)) (outlines first args) attrs.image_text) (text_of edge.Letter (flats first args) attrs.syntax_text) × (left x ≡ ks))
      → IfOk v (λ x. IsDrawn t name n ps first (sketch x) (left x))
  drawn_made pars attrs is (Ok x) below = λ d zs ks ys w.
      let a = next_made t name n ps zs ks ys (rule_of pars is.0 attrs) is.1 d w in
      subst (λ y. Draws (sketch x) (types y) (outline_bits first y) (flat first y) × (left x ≡ ks)) (sym a.1) (below a.0 zs ks ys a.2)
  drawn_made pars attrs is (Err e) below = tt
