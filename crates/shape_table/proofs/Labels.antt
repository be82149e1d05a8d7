-- Shapes that meet have one label.
use Rattle.std.proofs.Common.{ℕ, ◌≡◌, ◌<◌, ◌==◌, refl, sym, ◌∙◌, ap, arith, List, [], ◌∷◌, ◌++◌, ◌+◌, length, Bool, inl, inr, true, false, bit_and, Option, Some, None}
use Rattle.std.specs.Prelude.{slice_index_or, slice_get, option_and_then, unwrap_or, unsigned_abs, if◌then◌else◌}
use Rattle.std.proofs.lemmas.Bool.{and_parts, eqb-true, eqb-false, cases_lt}
use Rattle.std.proofs.lemmas.Option.{none-some, same_Some, slice_get_within}
use Rattle.std.proofs.lemmas.List.{get_or_append_left}
use Rattle.std.proofs.Math.Seq.{get_or-append_seam}
use Rattle.std.specs.Int.Bits.{and_zero_r}
use Rattle.nml_tree.proofs.SameText.{same_text}
use Rattle.nml_shape.specs.declared.shape.FieldAt.{FieldAt}
use Rattle.nml_shape.specs.declared.shape.Piece.{Piece}
use Rattle.nml_shape.specs.declared.shape.Piece.TheVariants as piece
use Rattle.nml_shape.specs.declared.shape.Shape.{Shape}
use Rattle.shape_table.specs.declared.common.Common.{Common}
use Rattle.shape_table.specs.declared.common.Common.TheVariants as common
use Rattle.shape_table.specs.declared.common.Part.{Part}
use Rattle.shape_table.specs.declared.token.Span.{Span}
use Rattle.shape_table.specs.declared.common.Part.TheVariants as part
use Rattle.shape_table.specs.Meet.{pieces_meet, all_meet, by_spans, span}
use Rattle.shape_table.specs.Label.{meets, AreLabels, AreCommon, mixed, mixed_all, size, size_at, class, classed, bits_if, whole, fixed_in, told, first_label}
use Rattle.shape_table.proofs.Bitwise.{one_label}
use Rattle.shape_table.proofs.Spans.{in_order, both_ways}
use Rattle.shape_table.proofs.Places.{same_length, meet_at_place}
use Rattle.shape_table.proofs.Pairs.{there}

-- a number doesn't meet a word or a mark
no_second : (x : Option Span) → by_spans x None false ≡ true → ⊥
no_second None is = cc
no_second (Some x) is = cc

no_first : (y : Option Span) → by_spans None y false ≡ true → ⊥
no_first None is = cc
no_first (Some y) is = cc

-- tokens that meet are of one class
one_class : (fs gs : List FieldAt) (p q : Piece) → pieces_meet fs gs p q ≡ true → class p ≡ class q
one_class fs gs (piece.Word a) (piece.Word b) is = ap (mixed_all 0) (same_text a b is)
one_class fs gs (piece.Word a) (piece.Number z) is = absurd cc
one_class fs gs (piece.Word a) (piece.Mark d) is = absurd cc
one_class fs gs (piece.Word a) (piece.Field n) is = absurd (no_first (span gs (piece.Field n)) is)
one_class fs gs (piece.Number y) (piece.Word b) is = absurd cc
one_class fs gs (piece.Number y) (piece.Number z) is = refl
one_class fs gs (piece.Number y) (piece.Mark d) is = absurd cc
one_class fs gs (piece.Number y) (piece.Field n) is = refl
one_class fs gs (piece.Mark c) (piece.Word b) is = absurd cc
one_class fs gs (piece.Mark c) (piece.Number z) is = absurd cc
one_class fs gs (piece.Mark c) (piece.Mark d) is = eqb-true c d is
one_class fs gs (piece.Mark c) (piece.Field n) is = absurd (no_first (span gs (piece.Field n)) is)
one_class fs gs (piece.Field m) (piece.Word b) is = absurd (no_second (span fs (piece.Field m)) is)
one_class fs gs (piece.Field m) (piece.Number z) is = refl
one_class fs gs (piece.Field m) (piece.Mark d) is = absurd (no_second (span fs (piece.Field m)) is)
one_class fs gs (piece.Field m) (piece.Field n) is = refl

same_classes : (fs gs : List FieldAt) (ps qs : List Piece) (label : ℕ) → all_meet fs gs ps qs ≡ true → classed label ps ≡ classed label qs
same_classes fs gs [] [] label is = refl
same_classes fs gs [] (q ∷ qs) label is = absurd cc
same_classes fs gs (p ∷ ps) [] label is = absurd cc
same_classes fs gs (p ∷ ps) (q ∷ qs) label is =
    let m = and_parts _ _ is in
    ap (λ n. classed (mixed label n) ps) (one_class fs gs p q m.0) ∙ same_classes fs gs ps qs (mixed label (class q)) m.1

first_same : (c : Common) (a b : Shape) → meets c a b ≡ true → first_label c a ≡ first_label c b
first_same common.Image a b is = refl
first_same common.Syntax a b is =
    ap (λ n. classed n a.template.items) (same_length a.fields.items b.fields.items a.template.items b.template.items is)
    ∙ same_classes a.fields.items b.fields.items a.template.items b.template.items (length b.template.items) is

-- written numbers that meet have one size
one_size : (fs gs : List FieldAt) (p q : Piece) (v w : ℕ) → pieces_meet fs gs p q ≡ true → size p ≡ Some v → size q ≡ Some w → v ≡ w
one_size fs gs (piece.Word a) q v w is e f = absurd (none-some v e)
one_size fs gs (piece.Number y) (piece.Word b) v w is e f = absurd (none-some w f)
one_size fs gs (piece.Number y) (piece.Number z) v w is e f =
    let m = and_parts _ _ is in
    sym (same_Some _ _ e) ∙ ap unsigned_abs (both_ways y z (in_order y z m.0) (in_order z y m.1)) ∙ same_Some _ _ f
one_size fs gs (piece.Number y) (piece.Mark d) v w is e f = absurd (none-some w f)
one_size fs gs (piece.Number y) (piece.Field n) v w is e f = absurd (none-some w f)
one_size fs gs (piece.Mark c) q v w is e f = absurd (none-some v e)
one_size fs gs (piece.Field m) q v w is e f = absurd (none-some v e)

size_there : (o : Option Piece) (v : ℕ) → option_and_then size o ≡ Some v → (p : Piece) × (o ≡ Some p) × (size p ≡ Some v)
size_there None v e = absurd (none-some v e)
size_there (Some p) v e = (p, refl, e)

place_size : (a b : Shape) (n v w : ℕ) → meets common.Syntax a b ≡ true → size_at n a ≡ Some v → size_at n b ≡ Some w → v ≡ w
place_size a b n v w is e f =
    let p = size_there (slice_get a.template.items n) v e in let q = size_there (slice_get b.template.items n) w f in
    one_size a.fields.items b.fields.items p.0 q.0 v w (meet_at_place a.fields.items b.fields.items a.template.items b.template.items n p.0 q.0 is p.1 q.1) p.2 q.2

-- where something is fixed the sizes are the same
fixed_size : (o e : Option ℕ) (fixed : ℕ) → ((v w : ℕ) → o ≡ Some v → e ≡ Some w → v ≡ w) → bit_and fixed (bits_if o) ≡ fixed → bit_and fixed (bits_if e) ≡ fixed → (fixed == 0) ≡ false → unwrap_or o 0 ≡ unwrap_or e 0
fixed_size (Some v) (Some w) fixed h p q some = h v w refl refl
fixed_size None e fixed h p q some = absurd (eqb-false _ _ some (sym p ∙ and_zero_r fixed))
fixed_size (Some v) None fixed h p q some = absurd (eqb-false _ _ some (sym q ∙ and_zero_r fixed))

place_told : (a b : Shape) (n fixed label : ℕ) (t : Bool) → (fixed == 0) ≡ t → meets common.Syntax a b ≡ true → bit_and fixed (bits_if (size_at n a)) ≡ fixed → bit_and fixed (bits_if (size_at n b)) ≡ fixed → (if t then label else mixed label (unwrap_or (size_at n a) 0)) ≡ (if t then label else mixed label (unwrap_or (size_at n b) 0))
place_told a b n fixed label true e is p q = refl
place_told a b n fixed label false e is p q = ap (mixed label) (fixed_size (size_at n a) (size_at n b) fixed (λ v w f g. place_size a b n v w is f g) p q e)

told_same : (p : Part) (a b : Shape) (fixed label : ℕ) → meets (whole p) a b ≡ true → bit_and fixed (fixed_in p a) ≡ fixed → bit_and fixed (fixed_in p b) ≡ fixed → told p a fixed label ≡ told p b fixed label
told_same part.Bits a b fixed label is f g = let m = and_parts _ _ is in let n = and_parts _ _ m.1 in one_label a.mask b.mask a.value b.value fixed f g (eqb-true _ _ n.1)
told_same (part.Place n) a b fixed label is f g = place_told a b n fixed label (fixed == 0) refl is f g

pub are_labels : (c : Common) (shapes : List Shape) (labels : List ℕ) → length labels ≡ length shapes → ((k : ℕ) (s : Shape) → slice_get shapes k ≡ Some s → slice_index_or labels k 0 ≡ first_label c s) → AreLabels c shapes labels
are_labels c shapes labels long each = record {
  long = long;
  each = λ k l m. let t = there c shapes k l m in each k t.0 t.2 ∙ first_same c t.0 t.1 t.4 ∙ sym (each l t.1 t.3);
}

pub are_refined : (p : Part) (shapes : List Shape) (labels new : List ℕ) (fixed : ℕ → ℕ) → AreLabels (whole p) shapes labels → AreCommon p shapes labels fixed (length shapes) → length new ≡ length shapes → ((k : ℕ) (s : Shape) → slice_get shapes k ≡ Some s → slice_index_or new k 0 ≡ told p s (fixed (slice_index_or labels k 0)) (slice_index_or labels k 0)) → AreLabels (whole p) shapes new
are_refined p shapes labels new fixed are c long each = record {
  long = long;
  each = λ k l m.
      let t = there (whole p) shapes k l m in let same = are.each k l m in
      each k t.0 t.2
      ∙ told_same p t.0 t.1 (fixed (slice_index_or labels k 0)) (slice_index_or labels k 0) t.4 (c.each k t.0 (slice_get_within shapes k t.0 t.2) t.2) (rw same (c.each l t.1 (slice_get_within shapes l t.1 t.3) t.3))
      ∙ ap (λ x. told p t.1 (fixed x) x) same
      ∙ sym (each l t.1 t.3);
}

-- a label more
pub pushed_each : (shapes : List Shape) (labels : List ℕ) (i x : ℕ) (f : ℕ → Shape → ℕ) (shape : Shape) → length labels ≡ i → ((k : ℕ) (s : Shape) → k < i → slice_get shapes k ≡ Some s → slice_index_or labels k 0 ≡ f k s) → slice_get shapes i ≡ Some shape → x ≡ f i shape → (k : ℕ) (s : Shape) → k < i + 1 → slice_get shapes k ≡ Some s → slice_index_or (labels ++ x ∷ []) k 0 ≡ f k s
pushed_each shapes labels i x f shape long each stands is k s low at = elim (cases_lt k i) [
  | inl less ↦ get_or_append_left labels (x ∷ []) 0 k (omega arith) ∙ each k s less at
  | inr more ↦ (let here : k ≡ length labels = omega arith in let there : k ≡ i = omega arith in
      let same : shape ≡ s = same_Some shape s (sym stands ∙ ap (slice_get shapes) (sym there) ∙ at) in
      ap (λ j. slice_index_or (labels ++ x ∷ []) j 0) here ∙ get_or-append_seam labels x [] 0 ∙ is ∙ ap (λ j. f j shape) (sym there) ∙ ap (f k) same)
]
