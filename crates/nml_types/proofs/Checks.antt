-- What the first two shapes with something in common say of a description.
use Rattle.std.proofs.Common.{ℕ, zero, suc, ◌≤◌, ◌<◌, ◌≡◌, refl, sym, ap, ◌∙◌, subst, arith, ℤ, List, [], ◌∷◌, length, Option, Some, None, Contains, codes, ◌⊎◌, inl, inr}
use Rattle.std.proofs.lemmas.List.{length-map}
use Rattle.std.specs.Prelude.{slice_get, MatchOption, MatchResult, Result, Ok, Err, ◌^◌}
use Rattle.nml_tree.specs.declared.tree.Desc.{Desc}
use Rattle.nml_tree.specs.declared.fault.DescFault.{DescFault}
use Rattle.nml_tree.specs.declared.fault.DescFault.TheVariants as fault
use Rattle.nml_tree.specs.Table.{table}
use Rattle.nml_tree.specs.Derivation.{Derivation, picks, fields}
use Rattle.nml_tree.specs.Image.{image, word_of}
use Rattle.nml_tree.specs.Same.{IsFirstImage, IsFirstSyntax, SameImage, SameSyntax, tokens, tokens_text}
use Rattle.nml_tree.specs.Syntax.{syntax_of}
use Rattle.nml_tree.specs.Valid.{IsRoot, IsWordWidth}
use Rattle.nml_tree.specs.Refused.{IsFreeBelow, IsTyped, IsChecked, IsImageOf, IsRefused}
use Rattle.nml_tree.specs.Walk.{IsWalkOf}
use Rattle.nk_base.specs.declared.number.Bits.{Bits}
use Rattle.nml_shape.specs.declared.shape.Shape.{Shape}
use Rattle.nml_shape.specs.Shown.{AreAllShapes, IsShapeOf, picks_of, numbers_in}
use Rattle.nml_shape.specs.Common.{IsSingle, AreLeastSame, filled}
use Rattle.nml_shape.specs.First.{IsPair, IsFirstPair, HasNoPair, HaveWord, HaveTokens}
use Rattle.shape_table.specs.Meet.{HasTypes}
use Rattle.shape_table.specs.Label.{Each}
use Rattle.shape_table.specs.Shapes.{HasShapes}
use Rattle.nml_outline.proofs.Listed.{contains_at, picks_at}
use Rattle.nml_outline.proofs.Premises.{has_types, one_width}
use Rattle.nml_outline.proofs.ShapeWord.{shape_type, word_is_root}
use Rattle.nml_outline.proofs.ShapesMeet.{value_below}
use Rattle.nml_outline.proofs.LeastWord.{value_inside}
use Rattle.nml_outline.proofs.FirstImage.{one_image, first_image_pair}
use Rattle.nml_outline.proofs.FirstSyntax.{single, no_syntax_pair, first_syntax_pair}
use Rattle.nml_types.specs.Pairs.{AreListed, AreFirstImages, AreFirstTokens, IsSaid}
use Rattle.nml_types.specs.Summary.{IsSummary}
use Rattle.nml_types.proofs.Late.{free_shapes, free_images}

less : (d : Desc) (m n : ℕ) → m ≤ n → IsFreeBelow n d → IsFreeBelow m d
less d m n le free k low h = free k (omega (arith, low, le)) h

pub below_length : {A : Type 0} (xs : List A) (k : ℕ) (x : A) → slice_get xs k ≡ Some x → k < length xs
below_length [] k x h = absurd cc
below_length (y ∷ ys) zero x h = omega arith
below_length (y ∷ ys) (suc k) x h = let l = below_length ys k x h in omega (arith, l)

pub are_listed : (d : Desc) (all : List Shape) → HasShapes d all → AreListed d all
are_listed d all h = record { free = free_shapes d h.typed h.none; are = h.are }

-- a shape of an instruction
some_of : (d : Desc) (all : List Shape) (s : Shape) → AreAllShapes d all → Contains all s → (x : Derivation) × IsRoot (table d) x × IsShapeOf x s
some_of d all s h c = let x = h.all.each s.picks.items (picks_at all s c) in (x.0, x.1, h.each s x.0 c x.1 (sym x.2))

pub shape_types : (d : Desc) (all : List Shape) (s : Shape) → IsTyped d → AreAllShapes d all → Contains all s → HasTypes s
shape_types d all s typed h c =
    let x = some_of d all s h c in
    record { each = λ n f at. has_types d (less d 8 12 (omega arith) typed) (codes "instruction") x.0 x.1 n f.ty (shape_type x.0 s x.2 n f at) }

pub each_types : (d : Desc) (all : List Shape) → AreListed d all → Each HasTypes all
each_types d all h k s at = shape_types d all s (less d 12 13 (omega arith) h.free) h.are (contains_at all k s at)

pub each_single : (d : Desc) (all : List Shape) → AreListed d all → Each IsSingle all
each_single d all h k s at = single d (less d 12 13 (omega arith) h.free) all h.are s (contains_at all k s at)

-- ---- the first two

pub first_images : (d : Desc) (all : List Shape) (i j : ℕ) (a b : Shape) → AreListed d all → IsFirstPair HaveWord all i j → slice_get all i ≡ Some a → slice_get all j ≡ Some b
    → AreFirstImages d a b
first_images d all i j a b h p at to = record {
  a_types = each_types d all h i a at;
  b_types = each_types d all h j b to;
  tell = λ w l.
      let f = first_image_pair d (less d 12 13 (omega arith) h.free) all h.are i j a b w p at to l in
      record { x = f.x; y = f.y; first = f.is; x_picks = f.first; y_picks = f.second; x_fields = f.first_fields; y_fields = f.second_fields };
}

pub first_tokens : (d : Desc) (all : List Shape) (i j : ℕ) (a b : Shape) → AreListed d all → IsFirstPair HaveTokens all i j → slice_get all i ≡ Some a → slice_get all j ≡ Some b
    → AreFirstTokens d a b
first_tokens d all i j a b h p at to = record {
  a_types = each_types d all h i a at;
  b_types = each_types d all h j b to;
  a_single = each_single d all h i a at;
  b_single = each_single d all h j b to;
  tell = λ zs ys l.
      let f = first_syntax_pair d (less d 12 13 (omega arith) h.free) all h.are i j a b zs ys p at to l in
      record { x = f.x; y = f.y; first = f.is; x_picks = f.first; y_picks = f.second; x_fields = f.first_fields; y_fields = f.second_fields; tokens_are = f.tokens_are };
}

-- the pair that was found
pub found_pair : (P : Shape → Shape → Type 0) (all : List Shape) (o : Option (ℕ × ℕ)) (i j : ℕ) → MatchOption o (HasNoPair P all) (λ p. IsFirstPair P all p.0 p.1) → o ≡ Some (i, j) → IsFirstPair P all i j
found_pair P all o i j h e = subst (λ x. MatchOption x (HasNoPair P all) (λ p. IsFirstPair P all p.0 p.1)) e h

pub first_below : (P : Shape → Shape → Type 0) (all : List Shape) (i j : ℕ) → IsFirstPair P all i j → i < length all
first_below P all i j h = below_length all i h.pair.a h.pair.first

pub second_below : (P : Shape → Shape → Type 0) (all : List Shape) (i j : ℕ) → IsFirstPair P all i j → j < length all
second_below P all i j h = below_length all j h.pair.b h.pair.second

-- ---- none

-- where no two shapes have a word in common no two instructions have one image
pub images_free : (d : Desc) (all : List Shape) → AreListed d all → HasNoPair HaveWord all → IsFreeBelow 14 d
images_free d all h none = free_images d h.free (λ x y same. same.differ (one_image d (less d 12 13 (omega arith) h.free) all h.are none x y same.first same.second same.same))

pub checked : (d : Desc) (all : List Shape) → AreListed d all → HasNoPair HaveWord all → HasNoPair HaveTokens all → IsChecked d
checked d all h images texts =
    let typed = less d 12 13 (omega arith) h.free in
    record { free = h.free; by_image = one_image d typed all h.are images; by_tokens = no_syntax_pair d typed all h.are texts }

-- ---- what is told

-- what is answered for a walk is the image of its instruction
abbrev Answers : Desc → List ℕ → List ℤ → Bits → Type 0
Answers d ps zs b = (x : Derivation) → IsWalkOf (table d) (codes "instruction") ps zs x → IsImageOf x b

pub said : (d : Desc) (a b : Shape) (zs ys : List ℤ) (ps qs : List ℕ) (us vs : List ℤ) (v w : Bits) (text : List ℕ) → AreFirstTokens d a b → AreLeastSame a b zs ys
    → ps ≡ a.picks.items → us ≡ zs → Answers d ps us v → qs ≡ b.picks.items → vs ≡ ys → Answers d qs vs w → text ≡ tokens_text (filled a zs) → IsSaid d (fault.SameSyntax v w text)
said d a b zs ys ps qs us vs v w text h l p u f q y g t free =
    let k = h.tell zs ys l in
    let x_walk : IsWalkOf (table d) (codes "instruction") ps us k.x = record { derivation = k.first.shapes.holds.first; picks = k.x_picks ∙ sym p; fields = k.x_fields ∙ sym u } in
    let y_walk : IsWalkOf (table d) (codes "instruction") qs vs k.y = record { derivation = k.first.shapes.holds.second; picks = k.y_picks ∙ sym q; fields = k.y_fields ∙ sym y } in
    (free, (k.x, k.y, k.first, f k.x x_walk, g k.y y_walk, t ∙ ap tokens_text (sym k.tokens_are)))

-- the number of shapes, and the bits of the first shape's least word
pub summary_is : (d : Desc) (all : List Shape) (s : Shape) (ps : List ℕ) (zs : List ℤ) (b : Bits) → HasShapes d all → Contains all s → ps ≡ s.picks.items → zs ≡ numbers_in s.value s.fields.items
    → Answers d ps zs b → IsSummary (table d) (length all) b.width
summary_is d all s ps zs b h c p z f =
    let o = some_of d all s h.are c in
    let even : IsWordWidth (table d) (length (image o.0)) = λ y k. one_width d (less d 10 12 (omega arith) h.typed) y o.0 k o.1 in
    let r = word_is_root d h.typed all h.are (length (image o.0)) even s s.value c (value_inside d h.typed all h.are s c) (subst (λ n. n < 2 ^ length (image o.0)) (sym o.2.value_is) (value_below o.0)) in
    let is = f r.0 (record { derivation = r.1; picks = r.2 ∙ sym p; fields = r.4 ∙ sym z }) in
    record {
      shapes = picks_of all;
      all = h.are.all;
      count_is = sym (length-map all (λ (t : Shape). t.picks.items));
      some = (r.0, r.1);
      width_is = λ y k. even y k ∙ (sym (even r.0 r.1) ∙ sym is.width);
    }

-- no two of the shapes have tokens in common, or there is a fault
pub checked_or : (d : Desc) (all : List Shape) (r : Result (Unit {0}) DescFault) → AreListed d all → HasNoPair HaveWord all
    → MatchResult r (λ done. HasNoPair HaveTokens all) (λ f. IsRefused d f) → MatchResult r (λ done. IsChecked d) (λ f. IsRefused d f)
checked_or d all (Ok done) h images texts = checked d all h images texts
checked_or d all (Err f) h images refused = refused

-- the first of them is one of them
pub first_in : (all shapes : List Shape) (s : Shape) → shapes ≡ all → Some s ≡ slice_get shapes 0 → Contains all s
first_in all shapes s e at = contains_at all 0 s (subst (λ (xs : List Shape). slice_get xs 0 ≡ Some s) e (sym at))
