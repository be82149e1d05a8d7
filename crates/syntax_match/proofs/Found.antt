-- The joined bits are the least word of the shape with the numbers that its tokens have.
use Rattle.std.proofs.Common.{ℕ, zero, suc, ◌≡◌, ◌<◌, ◌≤◌, ◌-◌, ◌*◌, ◌/◌, ◌%◌, ◌^◌, refl, sym, ◌∙◌, ap, subst, arith, ℤ, pos, List, [], ◌∷◌, length, map, bit_or, bit_and, Option, Some, None, inl, inr, Contains}
use Rattle.std.specs.Prelude.{slice_get, slice_set, option_and_then, option_map, unsigned_abs, unwrap_or, MatchOption}
use Rattle.std.proofs.lemmas.Bool.{cases_eq}
use Rattle.std.proofs.lemmas.Int.{ints}
use Rattle.std.proofs.lemmas.Nat.{pow_pos, mod_below}
use Rattle.std.proofs.lemmas.Option.{none-some, same_Some, slice_get-map, slice_get_within}
use Rattle.nk_base.specs.Number.{InRange, IsTy, width_of, wrapped}
use Rattle.nk_base.specs.declared.number.Ty.{Ty}
use Rattle.nk_base.specs.declared.number.Ty.TheVariants as tys
use Rattle.nml_tree.specs.LineToken as line_token
use Rattle.nml_tree.specs.LineToken.{LineToken}
use Rattle.nml_tree.specs.Outline as outline
use Rattle.nml_tree.specs.Outline.{OutlineToken, AreInRange, with_numbers}
use Rattle.nml_tree.specs.Value.{number_at}
use Rattle.nml_shape.specs.declared.shape.FieldAt.{FieldAt}
use Rattle.nml_shape.specs.declared.shape.Piece.{Piece}
use Rattle.nml_shape.specs.declared.shape.Piece.TheVariants as piece
use Rattle.nml_shape.specs.declared.shape.Shape.{Shape}
use Rattle.nml_shape.specs.Common.{HasWord, IsSingle}
use Rattle.nml_shape.specs.Shown.{token_of, types_of, number_in, numbers_in}
use Rattle.syntax_match.specs.Bits.{placed, bits, joined}
use Rattle.syntax_match.specs.Match.{HasNoMatch, HasNumbers, IsMatch, AreTyped, IsFull}
use Rattle.syntax_match.proofs.Under.{Under, under_itself, under_le, under_same, under_on, zero_under, under_or, left_under, right_under, and_under, and_under_mask, under_both, masked_under, part_of_under, part_under, lowest_under, small, part_back}
use Rattle.syntax_match.proofs.LowBits.{low_pos, low_written}
use Rattle.syntax_match.proofs.Given.{Same, InField, given, gives, number_set, number_other, range_length, range_set}

-- the tokens with these numbers
abbrev Filled : List ℤ → List Piece → List OutlineToken
Filled zs ps = map outline.Written (map (with_numbers zs) (map token_of ps))

-- each field stands once, and each that stands is one of so many
abbrev Once : List Piece → Type 0
Once ps = (n i j : ℕ) → slice_get (map token_of ps) i ≡ Some (outline.FieldAt n) → slice_get (map token_of ps) j ≡ Some (outline.FieldAt n) → i ≡ j

abbrev Known : ℕ → List Piece → Type 0
Known m ps = (n : ℕ) → Contains (map token_of ps) (outline.FieldAt n) → n < m

abbrev Absent : ℕ → List Piece → Type 0
Absent n ps = (i : ℕ) → slice_get (map token_of ps) i ≡ Some (outline.FieldAt n) → ⊥

once_behind : (p : Piece) (ps : List Piece) → Once (p ∷ ps) → Once ps
once_behind p ps once n i j a b = let e = once n (suc i) (suc j) a b in omega (arith, e)

known_front : (m : ℕ) (p : Piece) (ps : List Piece) → Known m (p ∷ ps) → (n : ℕ) → p ≡ piece.Field n → n < m
known_front m p ps known n is = known n (0, omega arith, ap token_of is)

known_behind : (m : ℕ) (p : Piece) (ps : List Piece) → Known m (p ∷ ps) → Known m ps
known_behind m p ps known n c = known n (suc c.0, (let low = c.1 in omega (arith, low)), c.2)

absent_behind : (n : ℕ) (p : Piece) (ps : List Piece) → Once (p ∷ ps) → p ≡ piece.Field n → Absent n ps
absent_behind n p ps once is i a = let e = once n 0 (suc i) (ap (λ q. Some (token_of q)) is) a in absurd (omega (arith, e))

-- what the first token gave, and what is joined behind it
parts : (fs : List FieldAt) (w : ℕ) (ps ts : List Piece) (o : Option ℕ) (v : ℕ) → option_and_then (λ b. joined fs (bit_or w b) ps ts) o ≡ Some v → (b : ℕ) × (o ≡ Some b) × (joined fs (bit_or w b) ps ts ≡ Some v)
parts fs w ps ts None v h = absurd (none-some v h)
parts fs w ps ts (Some b) v h = (b, refl, h)

-- tokens that numbers in range make those of the shape are joined
pub some_joined : (fs : List FieldAt) (zs : List ℤ) (ps ts : List Piece) (w : ℕ) → AreInRange (types_of fs) zs → Known (length fs) ps → Filled zs ps ≡ map token_of ts → (v : ℕ) × (joined fs w ps ts ≡ Some v)
some_joined fs zs [] [] w h known e = (w, refl)
some_joined fs zs [] (t ∷ ts) w h known e = absurd cc
some_joined fs zs (p ∷ ps) [] w h known e = absurd cc
some_joined fs zs (p ∷ ps) (t ∷ ts) w h known e =
    let first : outline.Written (with_numbers zs (token_of p)) ≡ token_of t = cc in
    let others : Filled zs ps ≡ map token_of ts = cc in
    let b = gives fs zs p t h (known_front (length fs) p ps known) first in
    let r = some_joined fs zs ps ts (bit_or w b.0) h (known_behind (length fs) p ps known) others in
    (r.0, rw b.1 r.1)

-- the number that a token puts into the field that the piece is
abbrev put : Piece → Piece → List ℤ → List ℤ
put (piece.Field n) (piece.Number z) zs = slice_set zs n z
put _ _ zs = zs

-- the numbers at the places of the fields, and these elsewhere
abbrev puts : List Piece → List Piece → List ℤ → List ℤ
puts (p ∷ ps) (t ∷ ts) zs = put p t (puts ps ts zs)
puts _ _ zs = zs

put_same : (p t : Piece) (x : LineToken) (zs : List ℤ) → token_of p ≡ outline.Written x → put p t zs ≡ zs
put_same (piece.Word w) t x zs e = refl
put_same (piece.Number z) t x zs e = refl
put_same (piece.Mark c) t x zs e = refl
put_same (piece.Field n) t x zs e = absurd cc

put_field : (p t : Piece) (n : ℕ) (z : ℤ) (zs : List ℤ) → p ≡ piece.Field n → t ≡ piece.Number z → put p t zs ≡ slice_set zs n z
put_field p t n z zs e f = rw (e, f) refl

-- a field that stands nowhere doesn't matter
untouched : (n : ℕ) (z : ℤ) (zs : List ℤ) (ps : List Piece) → Absent n ps → map (with_numbers (slice_set zs n z)) (map token_of ps) ≡ map (with_numbers zs) (map token_of ps)
untouched n z zs [] h = refl
untouched n z zs (piece.Word w ∷ ps) h = ap (λ ts. line_token.Word w ∷ ts) (untouched n z zs ps (λ i. h (suc i)))
untouched n z zs (piece.Number y ∷ ps) h = ap (λ ts. line_token.Number y ∷ ts) (untouched n z zs ps (λ i. h (suc i)))
untouched n z zs (piece.Mark c ∷ ps) h = ap (λ ts. line_token.Mark c ∷ ts) (untouched n z zs ps (λ i. h (suc i)))
untouched n z zs (piece.Field m ∷ ps) h =
    let other : number_at (slice_set zs n z) m ≡ number_at zs m = number_other zs n m z (λ e. h 0 (ap (λ k. Some (outline.FieldAt k)) e)) in
    rw (other, untouched n z zs ps (λ i. h (suc i))) refl

puts_range : (fs : List FieldAt) (zs : List ℤ) (ps ts : List Piece) (w v : ℕ) → AreInRange (types_of fs) zs → joined fs w ps ts ≡ Some v → AreInRange (types_of fs) (puts ps ts zs)
puts_range fs zs [] ts w v h e = h
puts_range fs zs (p ∷ ps) [] w v h e = h
puts_range fs zs (p ∷ ps) (t ∷ ts) w v h e =
    let b = parts fs w ps ts (bits fs p t) v e in
    let behind = puts_range fs zs ps ts (bit_or w b.0) v h b.2 in
    elim (given fs p t b.0 b.1) [
      | Same x a c none ↦ subst (AreInRange (types_of fs)) (sym (put_same p t x (puts ps ts zs) a)) behind
      | InField n z f a c at range bits_are ↦ subst (AreInRange (types_of fs)) (sym (put_field p t n z (puts ps ts zs) a c)) (range_set fs (puts ps ts zs) n z f behind at range)
    ]

puts_filled : (fs : List FieldAt) (zs : List ℤ) (ps ts : List Piece) (w v : ℕ) → AreInRange (types_of fs) zs → Once ps → joined fs w ps ts ≡ Some v → Filled (puts ps ts zs) ps ≡ map token_of ts
puts_filled fs zs [] [] w v h once e = refl
puts_filled fs zs [] (t ∷ ts) w v h once e = absurd (none-some v e)
puts_filled fs zs (p ∷ ps) [] w v h once e = absurd (none-some v e)
puts_filled fs zs (p ∷ ps) (t ∷ ts) w v h once e =
    let b = parts fs w ps ts (bits fs p t) v e in
    let behind = puts_filled fs zs ps ts (bit_or w b.0) v h (once_behind p ps once) b.2 in
    let ys : List ℤ = puts ps ts zs in
    elim (given fs p t b.0 b.1) [
      | Same x a c none ↦
          subst (λ us. Filled us (p ∷ ps) ≡ map token_of (t ∷ ts)) (sym (put_same p t x ys a)) (rw (a, c) (ap (λ us. outline.Written x ∷ us) behind))
      | InField n z f a c at range bits_are ↦
          let long : n < length ys = subst (λ m. n < m) (sym (range_length fs ys (puts_range fs zs ps ts (bit_or w b.0) v h b.2))) (slice_get_within fs n f at) in
          let here : number_at (slice_set ys n z) n ≡ z = number_set ys n z long in
          let there : Filled (slice_set ys n z) ps ≡ map token_of ts = ap (map outline.Written) (untouched n z ys ps (absent_behind n p ps once a)) ∙ behind in
          subst (λ us. Filled us (p ∷ ps) ≡ map token_of (t ∷ ts)) (sym (put_field p t n z ys a c)) (rw (a, c, here) (ap (λ us. outline.Written (line_token.Number z) ∷ us) there))
    ]

-- what was joined before is in the word
joined_over : (fs : List FieldAt) (ps ts : List Piece) (w v : ℕ) → joined fs w ps ts ≡ Some v → Under w v
joined_over fs [] [] w v e = subst (Under w) (same_Some w v e) (under_itself w)
joined_over fs [] (t ∷ ts) w v e = absurd (none-some v e)
joined_over fs (p ∷ ps) [] w v e = absurd (none-some v e)
joined_over fs (p ∷ ps) (t ∷ ts) w v e =
    let b = parts fs w ps ts (bits fs p t) v e in
    under_on w (bit_or w b.0) v (left_under w b.0) (joined_over fs ps ts (bit_or w b.0) v b.2)

placed_zero : (f : FieldAt) → placed f (pos 0) ≡ 0
placed_zero f = ap (λ z. unsigned_abs z * 2 ^ f.low % 2 ^ 128) (low_pos (width_of f.ty) 0 (pow_pos (width_of f.ty))) ∙ omega arith

-- so are the bits of each field's number
placed_in : (fs : List FieldAt) (zs : List ℤ) (ps ts : List Piece) (w v n : ℕ) (f : FieldAt) → AreInRange (types_of fs) zs → slice_get fs n ≡ Some f → number_at zs n ≡ pos 0 → joined fs w ps ts ≡ Some v → Under (placed f (number_at (puts ps ts zs) n)) v
placed_in fs zs [] [] w v n f h at bare e = subst (λ x. Under x v) (sym (placed_zero f) ∙ ap (placed f) (sym bare)) (zero_under v)
placed_in fs zs [] (t ∷ ts) w v n f h at bare e = absurd (none-some v e)
placed_in fs zs (p ∷ ps) [] w v n f h at bare e = absurd (none-some v e)
placed_in fs zs (p ∷ ps) (t ∷ ts) w v n f h at bare e =
    let b = parts fs w ps ts (bits fs p t) v e in
    let ys : List ℤ = puts ps ts zs in
    let behind : Under (placed f (number_at ys n)) v = placed_in fs zs ps ts (bit_or w b.0) v n f h at bare b.2 in
    elim (given fs p t b.0 b.1) [
      | Same x a c none ↦ subst (λ us. Under (placed f (number_at us n)) v) (sym (put_same p t x ys a)) behind
      | InField m z g a c there range bits_are ↦
          subst (λ us. Under (placed f (number_at us n)) v) (sym (put_field p t m z ys a c))
          (elim (cases_eq n m) [
            | inr other ↦ subst (λ y. Under (placed f y) v) (sym (number_other ys m n z other)) behind
            | inl same ↦
                let long : m < length ys = subst (λ k. m < k) (sym (range_length fs ys (puts_range fs zs ps ts (bit_or w b.0) v h b.2))) (slice_get_within fs m g there) in
                let here : number_at (slice_set ys m z) n ≡ z = ap (number_at (slice_set ys m z)) same ∙ number_set ys m z long in
                let one : f ≡ g = same_Some f g (sym at ∙ (ap (slice_get fs) same ∙ there)) in
                let is : b.0 ≡ placed f (number_at (slice_set ys m z) n) = bits_are ∙ (ap (λ k. placed k z) (sym one) ∙ ap (placed f) (sym here)) in
                subst (λ x. Under x v) is (under_on b.0 (bit_or w b.0) v (right_under w b.0) (joined_over fs ps ts (bit_or w b.0) v b.2))
          ])
    ]

-- the bits of the number that a word has in a field
placed_read : (f : FieldAt) (u : ℕ) → IsTy f.ty → placed f (number_in u f) ≡ u / 2 ^ f.low % 2 ^ width_of f.ty * 2 ^ f.low % 2 ^ 128
placed_read f u ty = ap (λ x. x * 2 ^ f.low % 2 ^ 128) (low_written f.ty (u / 2 ^ f.low % 2 ^ width_of f.ty) ty (mod_below (u / 2 ^ f.low) (2 ^ width_of f.ty) (pow_pos (width_of f.ty))))

read_at : (u : ℕ) (fs : List FieldAt) (n : ℕ) (f : FieldAt) → slice_get fs n ≡ Some f → number_at (numbers_in u fs) n ≡ number_in u f
read_at u fs n f at = ap (λ o. unwrap_or o (pos 0)) (slice_get-map (number_in u) fs n ∙ ap (option_map (number_in u)) at)

-- each word with the numbers has all bits that are joined
joined_under : (fs : List FieldAt) (ps ts : List Piece) (w v u : ℕ) → AreTyped fs → joined fs w ps ts ≡ Some v → Under w u → Filled (numbers_in u fs) ps ≡ map token_of ts → Under v u
joined_under fs [] [] w v u typed e h same = subst (λ x. Under x u) (same_Some w v e) h
joined_under fs [] (t ∷ ts) w v u typed e h same = absurd (none-some v e)
joined_under fs (p ∷ ps) [] w v u typed e h same = absurd (none-some v e)
joined_under fs (p ∷ ps) (t ∷ ts) w v u typed e h same =
    let b = parts fs w ps ts (bits fs p t) v e in
    let others : Filled (numbers_in u fs) ps ≡ map token_of ts = cc in
    let first : outline.Written (with_numbers (numbers_in u fs) (token_of p)) ≡ token_of t = cc in
    joined_under fs ps ts (bit_or w b.0) v u typed b.2
    (under_or w b.0 u h (elim (given fs p t b.0 b.1) [
      | Same x a c none ↦ subst (λ y. Under y u) (sym none) (zero_under u)
      | InField n z f a c at range bits_are ↦
          let written : outline.Written (with_numbers (numbers_in u fs) (token_of (piece.Field n))) ≡ token_of (piece.Number z) =
          ap (λ q. outline.Written (with_numbers (numbers_in u fs) (token_of q))) (sym a) ∙ (first ∙ ap token_of c) in
          let number : number_at (numbers_in u fs) n ≡ z = cc written in
          let is : placed f z ≡ b.0 = sym bits_are in
          let read : u / 2 ^ f.low % 2 ^ width_of f.ty * 2 ^ f.low % 2 ^ 128 ≡ b.0 =
          sym (placed_read f u (typed.each n f at)) ∙ (ap (placed f) (sym (read_at u fs n f at) ∙ number) ∙ is) in
          subst (λ y. Under y u) read (under_on _ _ u (lowest_under _ 128) (part_under u f.low (width_of f.ty)))
    ])) others

-- numbers that are 0
abbrev zeros : List FieldAt → List ℤ
zeros fs = map (λ f. pos 0) fs

zero_in : (ty : Ty) → InRange ty (pos 0)
zero_in tys.Bool = (omega (arith, ints), omega (arith, ints))
zero_in (tys.Card n) = let p = pow_pos n in (omega (arith, ints), omega (arith, ints, p))
zero_in (tys.Int n) = let p = pow_pos (n - 1) in (omega (arith, ints), omega (arith, ints, p))

zeros_range : (fs : List FieldAt) → AreInRange (types_of fs) (zeros fs)
zeros_range [] = refl
zeros_range (f ∷ fs) = (pos 0, zeros fs, refl, zero_in f.ty, zeros_range fs)

zeros_at : (fs : List FieldAt) (n : ℕ) → number_at (zeros fs) n ≡ pos 0
zeros_at [] n = refl
zeros_at (f ∷ fs) zero = refl
zeros_at (f ∷ fs) (suc n) = zeros_at fs n

same_numbers : (v w : ℕ) (fs : List FieldAt) → ((n : ℕ) (f : FieldAt) → slice_get fs n ≡ Some f → number_in v f ≡ number_in w f) → numbers_in v fs ≡ numbers_in w fs
same_numbers v w [] h = refl
same_numbers v w (f ∷ fs) h = rw (h 0 f refl, same_numbers v w fs (λ n g at. h (suc n) g at)) refl

module _ (s : Shape) (ts : List Piece) (single : IsSingle s) (full : IsFull s) where
  abbrev all : Option ℕ
  all = joined s.fields.items s.value s.template.items ts

  none_found : all ≡ None → HasNoMatch s ts
  none_found e zs h = let r = some_joined s.fields.items zs s.template.items ts s.value h.fit single.known h.same in none-some r.0 (sym e ∙ r.1)

  module _ (v : ℕ) (e : all ≡ Some v) where
    abbrev found : List ℤ
    found = puts s.template.items ts (zeros s.fields.items)

    fit : AreInRange (types_of s.fields.items) found
    fit = puts_range s.fields.items (zeros s.fields.items) s.template.items ts s.value v (zeros_range s.fields.items) e

    filled_is : Filled found s.template.items ≡ map token_of ts
    filled_is = puts_filled s.fields.items (zeros s.fields.items) s.template.items ts s.value v (zeros_range s.fields.items) single.once e

    under_each : (u : ℕ) → HasNumbers s found u → Under v u
    under_each u h =
        joined_under s.fields.items s.template.items ts s.value v u full.types e (subst (λ x. Under x u) h.fixed (and_under u s.mask))
        (subst (λ ys. Filled ys s.template.items ≡ map token_of ts) (sym h.numbers) filled_is)

    module _ (w : ℕ) (h : HasNumbers s found w) (low : w < 2 ^ 128) where
      has : HasWord s v
      has = under_same _ _ (subst (Under (bit_and v s.mask)) h.fixed (masked_under v w s.mask (under_each w h)))
          (under_both s.value v s.mask (joined_over s.fields.items s.template.items ts s.value v e) (subst (λ x. Under x s.mask) h.fixed (and_under_mask w s.mask)))

      at_place : (n : ℕ) (f : FieldAt) → slice_get s.fields.items n ≡ Some f → Under (w / 2 ^ f.low % 2 ^ width_of f.ty * 2 ^ f.low) v
      at_place n f at =
          let number : number_at found n ≡ number_in w f = ap (λ ys. number_at ys n) (sym h.numbers) ∙ read_at w s.fields.items n f at in
          let less : w / 2 ^ f.low % 2 ^ width_of f.ty * 2 ^ f.low ≤ w = under_le _ w (part_under w f.low (width_of f.ty)) in
          let is : placed f (number_at found n) ≡ w / 2 ^ f.low % 2 ^ width_of f.ty * 2 ^ f.low =
          ap (placed f) number ∙ (placed_read f w (full.types.each n f at) ∙ small _ 128 (omega (arith, less, low))) in
          subst (λ x. Under x v) is (placed_in s.fields.items (zeros s.fields.items) s.template.items ts s.value v n f (zeros_range s.fields.items) at (zeros_at s.fields.items n) e)

      each_field : (n : ℕ) (f : FieldAt) → slice_get s.fields.items n ≡ Some f → number_in v f ≡ number_in w f
      each_field n f at =
          let part : ℕ = w / 2 ^ f.low % 2 ^ width_of f.ty in
          let back : Under part (v / 2 ^ f.low % 2 ^ width_of f.ty) =
          subst (λ x. Under x (v / 2 ^ f.low % 2 ^ width_of f.ty)) (part_back part f.low (width_of f.ty) (mod_below (w / 2 ^ f.low) (2 ^ width_of f.ty) (pow_pos (width_of f.ty))))
          (part_of_under (part * 2 ^ f.low) v f.low (width_of f.ty) (at_place n f at)) in
          ap (λ x. wrapped f.ty (pos x)) (under_same _ _ (part_of_under v w f.low (width_of f.ty) (under_each w h)) back)

      is_match : IsMatch s ts v
      is_match = record {
        numbers = found;
        tokens_are = record { fit = fit; same = filled_is };
        word = record { fixed = has; numbers = same_numbers v w s.fields.items each_field ∙ h.numbers };
        least = λ u k. under_le v u (under_each u k);
      }

    is_found : IsMatch s ts v
    is_found = let x = full.words found fit in is_match x.0 x.1 x.2

  pub answer : (o : Option ℕ) → o ≡ all → MatchOption o (HasNoMatch s ts) (λ w. IsMatch s ts w)
  answer None e = none_found (sym e)
  answer (Some v) e = is_found v (sym e)
