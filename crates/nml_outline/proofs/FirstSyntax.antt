-- Instructions are known by their tokens where no two shapes have a list of tokens in common; and else the first two shapes tell the first two instructions with one.
use Rattle.std.proofs.Common.{ℕ, zero, suc, ◌<◌, ◌≡◌, sym, ◌∙◌, ap, subst, false, ℤ, List, [], ◌∷◌, map, Some, Contains, codes, arith}
use Rattle.std.specs.Prelude.{slice_get}
use Rattle.nk_base.specs.declared.number.Ty.{Ty}
use Rattle.nml_tree.specs.declared.tree.Desc.{Desc}
use Rattle.nml_tree.specs.LineToken.{LineToken}
use Rattle.nml_tree.specs.Table.{table}
use Rattle.nml_tree.specs.Derivation.{Derivation, picks, fields}
use Rattle.nml_tree.specs.Edge.{has_touch}
use Rattle.nml_tree.specs.Outline.{OutlineToken, Written, FieldAt, types, template, with_numbers, AreInRange}
use Rattle.nml_tree.specs.Value.{number_at}
use Rattle.nml_tree.specs.Refused.{IsFreeBelow}
use Rattle.nml_tree.specs.Same.{IsFirstSyntax, tokens}
use Rattle.nml_tree.specs.Valid.{IsRoot}
use Rattle.nml_shape.specs.declared.shape.Shape.{Shape}
use Rattle.nml_shape.specs.Shown.{token_of, IsShapeOf, AreAllShapes}
use Rattle.nml_shape.specs.Common.{filled, FitFields, AreSame, AreLeastSame, AreAtMost, IsSingle}
use Rattle.nml_shape.specs.First.{HaveTokens, IsFirstPair, HasNoPair}
use Rattle.nml_outline.proofs.Stands.{TypeAt, type_within, types_long}
use Rattle.nml_outline.proofs.SameShape.{own, one_shape}
use Rattle.nml_outline.proofs.ShapesMeet.{with_same}
use Rattle.nml_outline.proofs.FlatText.{one_template}
use Rattle.nml_outline.proofs.ShapeTokens.{tokens_of}
use Rattle.nml_outline.proofs.ShapeFields.{own_range, with_list}
use Rattle.nml_outline.proofs.Premises.{linear_texts, no_touch}
use Rattle.nml_outline.proofs.TemplateOnce.{place_of, known_field, token_once}
use Rattle.nml_outline.proofs.Listed.{contains_at}
use Rattle.nml_outline.proofs.ShapeWord.{typed, some_root, fields_many}
use Rattle.nml_outline.proofs.FirstPair.{Meets, none_alike, first_shapes}

place_in : (ts : List OutlineToken) (t : OutlineToken) → Contains ts t → (k : ℕ) × (slice_get ts k ≡ Some t)
place_in [] t c = absurd (omega (arith, c.1))
place_in (u ∷ ts) t (zero, low, is) = (0, ap Some is)
place_in (u ∷ ts) t (suc k, low, is) = let r = place_in ts t (k, omega (arith, low), is) in (suc r.0, r.1)

-- one list of tokens with these numbers and with those: they are the same where a field stands
number_there : (zs us : List ℤ) (ts : List OutlineToken) (k n : ℕ) → map (with_numbers zs) ts ≡ map (with_numbers us) ts → slice_get ts k ≡ Some (FieldAt n) → number_at zs n ≡ number_at us n
number_there zs us [] k n e f = absurd cc
number_there zs us (Written t ∷ ts) zero n e f = absurd cc
number_there zs us (FieldAt m ∷ ts) zero n e f = let s : m ≡ n = cc in let g : number_at zs m ≡ number_at us m = cc in subst (λ j. number_at zs j ≡ number_at us j) s g
number_there zs us (t ∷ ts) (suc k) n e f = let rest : map (with_numbers zs) ts ≡ map (with_numbers us) ts = cc in number_there zs us ts k n rest f

-- two instructions of the shapes with these numbers, and that they are the first with one list of tokens
pub record FirstSyntax (d : Desc) (a b : Shape) (zs ys : List ℤ) : Type 0 where
  pub x : Derivation
  pub y : Derivation
  pub is : IsFirstSyntax (table d) x y
  pub first : picks x ≡ a.picks.items
  pub second : picks y ≡ b.picks.items
  pub first_fields : fields x ≡ zs
  pub second_fields : fields y ≡ ys
  pub tokens_are : tokens x ≡ filled a zs

module _ (d : Desc) (free : IsFreeBelow 12 d) where
  untouched : (x : Derivation) → IsRoot (table d) x → has_touch x ≡ false
  untouched x h = no_touch d (λ k low. free k (omega (arith, low))) x (codes "instruction") h

  pub tokens_with : (x : Derivation) → IsRoot (table d) x → tokens x ≡ map (with_numbers (fields x)) (template x)
  tokens_with x h = tokens_of (table d) (codes "instruction") x h (typed d free x h) (untouched x h)

  -- within a shape an instruction is known by its tokens
  pub one_tokens : (x y : Derivation) → IsRoot (table d) x → IsRoot (table d) y → picks x ≡ picks y → tokens x ≡ tokens y → x ≡ y
  one_tokens x y h k same e =
      let f = number_at (fields x) in
      let g = number_at (fields y) in
      let long = types_long x in
      let template_same = one_template (table d) (codes "instruction") x y h k same in
      let equal : map (with_numbers (fields x)) (template x) ≡ map (with_numbers (fields y)) (template x) = sym (tokens_with x h) ∙ (e ∙ (tokens_with y k ∙ ap (map (with_numbers (fields y))) (sym template_same))) in
      let each : (n : ℕ) (ty : Ty) → TypeAt (types x) 0 n ty → f n ≡ g n = λ n ty at.
      let low = type_within (types x) 0 n ty at in
      let p = place_of (table d) (codes "instruction") x n (linear_texts d (λ i less. free i (omega (arith, less)))) h (omega (arith, low.1, long)) in
      number_there (fields x) (fields y) (template x) p.0 n equal p.1 in
      sym (own x) ∙ (with_same x f g 0 each ∙ (one_shape (table d) (codes "instruction") x y g h k same ∙ own y))

  -- the tokens of an instruction are those of its shape with its numbers
  pub tokens_filled : (x : Derivation) (s : Shape) → IsRoot (table d) x → IsShapeOf x s → FitFields s (fields x) × (tokens x ≡ filled s (fields x))
  tokens_filled x s h is = (
    subst (λ ts. AreInRange ts (fields x)) (sym is.types_are) (own_range x (table d) (codes "instruction") h),
    tokens_with x h ∙ ap (map (with_numbers (fields x))) (sym is.template_is),
  )

  module _ (shapes : List Shape) (all : AreAllShapes d shapes) where
    pub single : (s : Shape) → Contains shapes s → IsSingle s
    single s c =
        let p = some_root d free shapes all s c in
        let at : (n i : ℕ) → slice_get (map token_of s.template.items) i ≡ Some (FieldAt n) → slice_get (template p.0) i ≡ Some (FieldAt n) = λ n i e. ap (λ ts. slice_get ts i) (sym p.3.template_is) ∙ e in
        record {
          once = λ n i j e f. token_once (table d) (codes "instruction") p.0 n i j (linear_texts d (λ k low. free k (omega (arith, low)))) p.1 (at n i e) (at n j f);
          known = λ n among.
              let q = place_in (map token_of s.template.items) (FieldAt n) among in
              subst (λ k. n < k) (fields_many p.0 s p.3) (known_field p.0 n q.0 (at n q.0 q.1));
        }

    -- numbers in range are those of an instruction of the shape
    pub filled_root : (s : Shape) (zs : List ℤ) → Contains shapes s → FitFields s zs → (x : Derivation) × IsRoot (table d) x × (picks x ≡ s.picks.items) × (fields x ≡ zs) × (tokens x ≡ filled s zs)
    filled_root s zs c fit =
        let p = some_root d free shapes all s c in
        let x = with_list p.0 (table d) (codes "instruction") zs p.1 (subst (λ ts. AreInRange ts zs) p.3.types_are fit) in
        let same : picks x.0 ≡ s.picks.items = x.2 ∙ p.2 in
        (x.0, x.1, same, x.3, (tokens_filled x.0 s x.1 (all.each s x.0 c x.1 (sym same))).1 ∙ ap (filled s) x.3)

    -- and an instruction of the shape has numbers in range
    pub root_filled : (s : Shape) (x : Derivation) → Contains shapes s → IsRoot (table d) x → picks x ≡ s.picks.items → FitFields s (fields x) × (tokens x ≡ filled s (fields x))
    root_filled s x c h e = tokens_filled x s h (all.each s x c h (sym e))

    same_of : (s u : Shape) (x y : Derivation) → Contains shapes s → Contains shapes u → IsRoot (table d) x → IsRoot (table d) y → picks x ≡ s.picks.items → picks y ≡ u.picks.items → tokens x ≡ tokens y
        → AreSame s u (fields x) (fields y)
    same_of s u x y cs cu hx hy px py same =
        let p = root_filled s x cs hx px in
        let q = root_filled u y cu hy py in
        record { first = p.0; second = q.0; same = sym p.1 ∙ (same ∙ q.1) }

    meet : Meets d shapes (List LineToken) tokens HaveTokens
    meet s u x y cs cu hx hy px py same = (fields x, fields y, same_of s u x y cs cu hx hy px py same)

    pub no_syntax_pair : HasNoPair HaveTokens shapes → (x y : Derivation) → IsRoot (table d) x → IsRoot (table d) y → tokens x ≡ tokens y → x ≡ y
    no_syntax_pair none x y h k same = none_alike d shapes all (List LineToken) tokens HaveTokens meet one_tokens none x y h k same

    pub first_syntax_pair : (i j : ℕ) (a b : Shape) (zs ys : List ℤ) → IsFirstPair HaveTokens shapes i j → slice_get shapes i ≡ Some a → slice_get shapes j ≡ Some b → AreLeastSame a b zs ys → FirstSyntax d a b zs ys
    first_syntax_pair i j a b zs ys fp ea eb least =
        let ca = contains_at shapes i a ea in
        let cb = contains_at shapes j b eb in
        let x = filled_root a zs ca least.are.first in
        let y = filled_root b ys cb least.are.second in
        record {
          x = x.0;
          y = y.0;
          is = record {
            shapes = first_shapes d shapes all (List LineToken) tokens HaveTokens meet i j a b x.0 y.0 fp ea eb x.1 y.1 x.2 y.2 (x.4 ∙ (least.are.same ∙ sym y.4));
            least = λ v w alike pv pw.
                let low = least.least (fields v) (fields w) (same_of a b v w ca cb alike.first alike.second (pv ∙ x.2) (pw ∙ y.2) alike.same) in
                (subst (λ us. AreAtMost us (fields v)) (sym x.3) low.0, subst (λ us. AreAtMost us (fields w)) (sym y.3) low.1);
          };
          first = x.2;
          second = y.2;
          first_fields = x.3;
          second_fields = y.3;
          tokens_are = x.4;
        }
