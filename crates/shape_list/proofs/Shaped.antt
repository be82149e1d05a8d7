-- Shapes that were made of their picks, so far.
use Rattle.std.proofs.Common.{◌≡◌, ℕ, zero, suc, ◌+◌, ◌<◌, ◌≤◌, Bool, List, [], ◌∷◌, ◌++◌, map, take, drop, length, get_or, reverse, refl, ap, sym, subst, ◌∙◌, arith, cond, Contains, codes, Some}
use Rattle.std.specs.Prelude.{not, slice_get, Result, Ok, Err, IfOk}
use Rattle.std.specs.List.{prefix_len, AllByRecursion}
use Rattle.std.proofs.lemmas.List.{take_all, drop_more}
use Rattle.std.proofs.Math.Seq.{take-suc}
use Rattle.indexmap.proofs.ReorderLemmas.{map-reverse}
use Rattle.nk_base.specs.declared.number.Ty.{Ty}
use Rattle.nml_tree.specs.declared.tree.Desc.{Desc}
use Rattle.nml_tree.specs.Derivation.{Derivation, picks, fields}
use Rattle.nml_tree.specs.Attribute.{number_of}
use Rattle.nml_tree.specs.Edge.{Flat, flat}
use Rattle.nml_tree.specs.Outline as outline
use Rattle.nml_tree.specs.Outline.{OutlineBit, outline_bits, types, is_free, low, template_behind}
use Rattle.nml_tree.specs.Refused.{IsFreeBelow}
use Rattle.nml_tree.specs.Shapes.{AreShapes}
use Rattle.nml_tree.specs.Table.{table}
use Rattle.nml_tree.specs.Valid.{IsRoot}
use Rattle.nml_shape.specs.declared.shape.FieldAt.{FieldAt}
use Rattle.nml_shape.specs.declared.shape.Shape.{Shape}
use Rattle.nml_shape.specs.Shown.{AreAllShapes, IsShapeOf, token_of, picks_of, types_of}
use Rattle.attr_eval.proofs.Whole.{walks_whole, narrow_image}
use Rattle.shape_list.specs.declared.text.Glyph.{Glyph}
use Rattle.shape_list.specs.declared.sketch.Sketch.{Sketch}
use Rattle.shape_list.specs.Drawn.{bit_of, flat_of, Draws}
use Rattle.shape_list.specs.Fixed.{low_in, fields_at}
use Rattle.shape_list.proofs.Texts.{map_append}
use Rattle.shape_list.specs.Runs.{AreShort}
use Rattle.shape_list.proofs.ImageLengths.{image_length, map_length}
use Rattle.shape_list.proofs.Sketches.{IsDrawn}
use Rattle.shape_list.proofs.Strings.{syntax_short}

-- the shape is that of each derivation with its picks
abbrev pub IsShape : Desc → Shape → Type 0
IsShape d s = (x : Derivation) → IsRoot (table d) x → s.picks.items ≡ picks x → IsShapeOf x s

-- so many of the lists of picks have their shapes
pub record Listed (d : Desc) (all : List (List ℕ)) (k : ℕ) (shapes : List Shape) : Type 0 where
  pub picks_are : picks_of shapes ≡ take k all
  pub each : AllByRecursion (IsShape d) shapes

pub listed_none : (d : Desc) (all : List (List ℕ)) (shapes : List Shape) → shapes ≡ [] → Listed d all 0 shapes
listed_none d all shapes is = record { picks_are = rw is refl; each = rw is tt }

behind_each : (P : Shape → Type 0) (xs : List Shape) (y : Shape) → AllByRecursion P xs → P y → AllByRecursion P (xs ++ y ∷ [])
behind_each P [] y h p = (p, tt)
behind_each P (x ∷ xs) y h p = (h.0, behind_each P xs y h.1 p)

pub listed_more : (d : Desc) (all : List (List ℕ)) (k : ℕ) (shapes new : List Shape) (x : List ℕ) (s : Shape) → Listed d all k shapes → k < length all → x ≡ get_or all k x → new ≡ shapes ++ s ∷ [] → s.picks.items ≡ x
    → ((y : Derivation) → IsRoot (table d) y → x ≡ picks y → IsShapeOf y s) → Listed d all (k + 1) new
listed_more d all k shapes new x s l low here is same shape = record {
  picks_are =
      let e : k + 1 ≡ suc k = omega arith in
      rw (is, e, take-suc all k x low, ← here) (map_append (λ s. s.picks.items) shapes (s ∷ []) ∙ ap (λ ps. ps ++ s.picks.items ∷ []) l.picks_are ∙ ap (λ p. take k all ++ p ∷ []) same);
  each = rw is (behind_each (IsShape d) shapes s l.each (λ y root e. shape y root (sym same ∙ e)));
}

one_of : (P : Shape → Type 0) (xs : List Shape) (y : Shape) → AllByRecursion P xs → Contains xs y → P y
one_of P [] y h c = absurd (omega (arith, c.1))
one_of P (x ∷ xs) y h (zero, low, is) = subst P is h.0
one_of P (x ∷ xs) y h (suc k, low, is) = one_of P xs y h.1 (k, omega (arith, low), is)

pub listed_all : (d : Desc) (all : List (List ℕ)) (k : ℕ) (shapes : List Shape) → AreShapes (table d) all → Listed d all k shapes → length all ≤ k → AreAllShapes d shapes
listed_all d all k shapes are l past = record {
  all = subst (AreShapes (table d)) (sym (l.picks_are ∙ take_all k all past)) are;
  each = λ s x among root same. one_of (IsShape d) shapes s l.each among x root same;
}

-- a derivation of `instruction` is drawn
pub root_drawn : (d : Desc) (name : List ℕ) (n : ℕ) (ps : List ℕ) (s : Sketch) (left : List ℕ) → IsFreeBelow 12 d → name ≡ codes "instruction" → n ≡ length d.items → IsDrawn (table d) name n ps 0 s left
    → (x : Derivation) → IsRoot (table d) x → ps ≡ picks x → Draws s (types x) (outline_bits 0 x) (flat 0 x)
root_drawn d name n ps s left free is many drawn x root same =
    let w = walks_whole d free x ps (fields x) (record { derivation = root; picks = sym same; fields = refl }) in
    (drawn x (fields x) [] [] (rw (is, many) w)).0

prefix_map : (p : OutlineBit → Bool) (gs : List Glyph) → prefix_len p (map bit_of gs) ≡ prefix_len (λ g. p (bit_of g)) gs
prefix_map p [] = refl
prefix_map p (g ∷ gs) = ap (λ n. cond (p (bit_of g)) (1 + n) 0) (prefix_map p gs)

-- the place of a field's lowest bit
low_is : (n : ℕ) (image : List Glyph) (x : Derivation) → map bit_of image ≡ outline_bits 0 x → low_in n image ≡ low n x
low_is n image x is = sym (prefix_map (λ b. not (is_free n b)) (reverse image)) ∙ ap (prefix_len (λ b. not (is_free n b))) (map-reverse bit_of image ∙ ap reverse is)

types_at : (image : List Glyph) (n : ℕ) (ts : List Ty) → types_of (fields_at image n ts) ≡ ts
types_at image n [] = refl
types_at image n (t ∷ ts) = ap (λ us. t ∷ us) (types_at image (n + 1) ts)

field_low : (image : List Glyph) (n : ℕ) (ts : List Ty) (k : ℕ) (f : FieldAt) → slice_get (fields_at image n ts) k ≡ Some f → f.low ≡ low_in (n + k) image
field_low image n [] k f h = absurd cc
field_low image n (t ∷ ts) zero f h = let e : n + 0 ≡ n = omega arith in let s : record { ty = t; low = low_in n image } ≡ f = cc in rw e (sym (ap (λ (x : FieldAt). x.low) s))
field_low image n (t ∷ ts) (suc k) f h = let e : n + 1 + k ≡ n + suc k = omega arith in rw (← e) (field_low image (n + 1) ts k f h)

pub shape_is : (x : Derivation) (s : Shape) (k : Sketch) → Draws k (types x) (outline_bits 0 x) (flat 0 x) → s.picks.items ≡ picks x
    → s.mask ≡ number_of (map outline.is_fixed (map bit_of k.image.items)) → s.value ≡ number_of (map outline.fixed_bit (map bit_of k.image.items))
    → s.fields.items ≡ fields_at k.image.items 0 k.types.items → map token_of s.template.items ≡ template_behind [] (map flat_of k.syntax.items) → IsShapeOf x s
shape_is x s k draws picked mask value fields tokens = record {
  mask_is = mask ∙ ap (λ bs. number_of (map outline.is_fixed bs)) draws.image_is;
  value_is = value ∙ ap (λ bs. number_of (map outline.fixed_bit bs)) draws.image_is;
  types_are = ap types_of fields ∙ types_at k.image.items 0 k.types.items ∙ draws.types_are;
  lows_are = λ n f h.
      let e : 0 + n ≡ n = omega arith in
      field_low k.image.items 0 k.types.items n f (ap (λ fs. slice_get fs n) (sym fields) ∙ h) ∙ ap (λ m. low_in m k.image.items) e ∙ low_is n k.image.items x draws.image_is;
  template_is = tokens ∙ ap (template_behind []) draws.syntax_is;
  picks_are = picked;
}

-- and so it has 64 bits at most, and its digits are few
pub root_few : (d : Desc) (name : List ℕ) (n : ℕ) (ps : List ℕ) (s : Sketch) (left : List ℕ) → IsFreeBelow 12 d → name ≡ codes "instruction" → n ≡ length d.items → IsDrawn (table d) name n ps 0 s left
    → (x : Derivation) × IsRoot (table d) x × (picks x ≡ ps) → length s.image.items ≤ 64
root_few d name n ps s left free is many drawn h =
    let draws = root_drawn d name n ps s left free is many drawn h.0 h.1 (sym h.2) in
    let l = sym (map_length bit_of s.image.items) ∙ ap length draws.image_is ∙ image_length h.0 0 in
    let low = narrow_image d free h.0 h.1 in
    omega (arith, l, low)

pub root_short : (d : Desc) (name : List ℕ) (n : ℕ) (ps : List ℕ) (s : Sketch) (left : List ℕ) → IsFreeBelow 12 d → name ≡ codes "instruction" → n ≡ length d.items → IsDrawn (table d) name n ps 0 s left
    → (x : Derivation) × IsRoot (table d) x × (picks x ≡ ps) → AreShort [] (map flat_of s.syntax.items)
root_short d name n ps s left free is many drawn h =
    let draws = root_drawn d name n ps s left free is many drawn h.0 h.1 (sym h.2) in
    subst (AreShort []) (sym draws.syntax_is) (syntax_short d h.0 free h.1)

-- a glyph more of a syntax whose digits are few
pub glyph_short : (letters : List ℕ) (gs : List Glyph) (i : ℕ) (g : Glyph) → i < length gs → AreShort letters (map flat_of (drop i gs)) → (rest : List Flat) × AreShort letters (flat_of (get_or gs i g) ∷ rest)
glyph_short letters gs i g less h = (map flat_of (drop (i + 1) gs), subst (λ xs. AreShort letters (map flat_of xs)) (drop_more gs i g less) h)

pub if_drawn : {E : Type 0} (d : Desc) (name : List ℕ) (n : ℕ) (ps : List ℕ) (k : Sketch) (left : List ℕ) → IsFreeBelow 12 d → name ≡ codes "instruction" → n ≡ length d.items → IsDrawn (table d) name n ps 0 k left
    → (r : Result Shape E) → IfOk r (λ s. (x : Derivation) → Draws k (types x) (outline_bits 0 x) (flat 0 x) → ps ≡ picks x → IsShapeOf x s) → IfOk r (λ s. (x : Derivation) → IsRoot (table d) x → ps ≡ picks x → IsShapeOf x s)
if_drawn d name n ps k left free is many drawn (Ok s) h = λ x root same. h x (root_drawn d name n ps k left free is many drawn x root same) same
if_drawn d name n ps k left free is many drawn (Err e) h = tt
