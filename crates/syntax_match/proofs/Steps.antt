-- Two lists of tokens from a place on.
use Rattle.std.proofs.Common.{ℕ, suc, ◌≡◌, ◌≤◌, ◌+◌, refl, ◌∙◌, ap, List, [], ◌∷◌, length, drop, bit_or, Option, Some, None}
use Rattle.std.specs.Prelude.{◌≢◌, slice_get, option_and_then}
use Rattle.std.proofs.lemmas.Option.{get_or_from_slice_get, slice_get_within}
use Rattle.std.proofs.lemmas.List.{drop_more, drop_all}
use Rattle.nml_shape.specs.declared.shape.FieldAt.{FieldAt}
use Rattle.nml_shape.specs.declared.shape.Piece.{Piece}
use Rattle.syntax_match.specs.Bits.{bits, joined}

front_at : {A : Type 0} (xs : List A) (i : ℕ) (x : A) → slice_get xs i ≡ Some x → drop i xs ≡ x ∷ drop (i + 1) xs
front_at xs i x at = drop_more xs i x (slice_get_within xs i x at) ∙ ap (λ y. y ∷ drop (i + 1) xs) (get_or_from_slice_get xs i x x at)

pub one_more : (fs : List FieldAt) (w : ℕ) (ps ts : List Piece) (i : ℕ) (p t : Piece) (o : Option ℕ) → slice_get ps i ≡ Some p → slice_get ts i ≡ Some t → o ≡ bits fs p t
    → joined fs w (drop i ps) (drop i ts) ≡ option_and_then (λ b. joined fs (bit_or w b) (drop (i + 1) ps) (drop (i + 1) ts)) o
one_more fs w ps ts i p t o a b is = rw (front_at ps i p a, front_at ts i t b, is) refl

pub none_more : (fs : List FieldAt) (w : ℕ) (ps ts : List Piece) (i : ℕ) → length ps ≤ i → length ts ≤ i → joined fs w (drop i ps) (drop i ts) ≡ Some w
none_more fs w ps ts i a b = rw (drop_all i ps a, drop_all i ts b) refl

pub other_length : (fs : List FieldAt) (w : ℕ) (ps ts : List Piece) → length ps ≢ length ts → joined fs w ps ts ≡ None
other_length fs w [] [] h = absurd (h refl)
other_length fs w [] (t ∷ ts) h = refl
other_length fs w (p ∷ ps) [] h = refl
other_length fs w (p ∷ ps) (t ∷ ts) h = by (bits fs p t) (λ b. other_length fs (bit_or w b) ps ts (λ e. h (ap suc e)))
  where
    by : (o : Option ℕ) → ((b : ℕ) → joined fs (bit_or w b) ps ts ≡ None) → option_and_then (λ b. joined fs (bit_or w b) ps ts) o ≡ None
    by None e = refl
    by (Some b) e = e b
