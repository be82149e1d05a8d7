-- The tokens of two shapes from a place on.
use Rattle.std.proofs.Common.{ℕ, zero, suc, ◌≡◌, ◌≤◌, ◌+◌, min, inl, inr, refl, sym, ◌∙◌, ap, arith, List, [], ◌∷◌, length, drop, true, false, Some}
use Rattle.std.specs.Prelude.{◌≢◌, ◌&&◌, slice_get, ℤ}
use Rattle.std.proofs.lemmas.Bool.{and_parts, cases_lt, false_from_ne_true}
use Rattle.std.proofs.lemmas.Option.{none-some, same_Some, get_or_from_slice_get, slice_get_within}
use Rattle.std.proofs.lemmas.List.{drop_more, drop_all}
use Rattle.nml_shape.specs.declared.shape.FieldAt.{FieldAt}
use Rattle.nml_shape.specs.declared.shape.Piece.{Piece}
use Rattle.shape_table.specs.Meet.{pieces_meet, all_meet}
use Rattle.shape_table.specs.Least.{leasts}

-- the one that stands in front, and those behind it
pub front_at : {A : Type 0} (xs : List A) (i : ℕ) (x : A) → slice_get xs i ≡ Some x → drop i xs ≡ x ∷ drop (i + 1) xs
front_at xs i x at = drop_more xs i x (slice_get_within xs i x at) ∙ ap (λ y. y ∷ drop (i + 1) xs) (get_or_from_slice_get xs i x x at)

pub same_length : (fs gs : List FieldAt) (ps qs : List Piece) → all_meet fs gs ps qs ≡ true → length ps ≡ length qs
same_length fs gs [] [] is = refl
same_length fs gs [] (q ∷ qs) is = absurd cc
same_length fs gs (p ∷ ps) [] is = absurd cc
same_length fs gs (p ∷ ps) (q ∷ qs) is = ap suc (same_length fs gs ps qs (and_parts _ _ is).1)

pub other_length : (fs gs : List FieldAt) (ps qs : List Piece) → length ps ≢ length qs → false ≡ all_meet fs gs ps qs
other_length fs gs ps qs h = sym (false_from_ne_true _ (λ is. h (same_length fs gs ps qs is)))

pub one_more : (fs gs : List FieldAt) (ps qs : List Piece) (i : ℕ) (p q : Piece) → slice_get ps i ≡ Some p → slice_get qs i ≡ Some q → all_meet fs gs (drop i ps) (drop i qs) ≡ (pieces_meet fs gs p q && all_meet fs gs (drop (i + 1) ps) (drop (i + 1) qs))
one_more fs gs ps qs i p q a b = rw (front_at ps i p a, front_at qs i q b) refl

pub other_pieces : (fs gs : List FieldAt) (ps qs : List Piece) (i : ℕ) (p q : Piece) → slice_get ps i ≡ Some p → slice_get qs i ≡ Some q → pieces_meet fs gs p q ≡ false → all_meet fs gs (drop i ps) (drop i qs) ≡ false
other_pieces fs gs ps qs i p q a b is = one_more fs gs ps qs i p q a b ∙ rw is refl

pub same_pieces : (fs gs : List FieldAt) (ps qs : List Piece) (i : ℕ) (p q : Piece) → slice_get ps i ≡ Some p → slice_get qs i ≡ Some q → pieces_meet fs gs p q ≡ true → all_meet fs gs (drop i ps) (drop i qs) ≡ all_meet fs gs (drop (i + 1) ps) (drop (i + 1) qs)
same_pieces fs gs ps qs i p q a b is = one_more fs gs ps qs i p q a b ∙ rw is refl

pub all_looked : (fs gs : List FieldAt) (ps qs : List Piece) (i : ℕ) → length ps ≤ i → length qs ≤ i → all_meet fs gs (drop i ps) (drop i qs) ≡ true
all_looked fs gs ps qs i a b = rw (drop_all i ps a, drop_all i qs b) refl

-- where all meet those of a place do
pub meet_at_place : (fs gs : List FieldAt) (ps qs : List Piece) (i : ℕ) (p q : Piece) → all_meet fs gs ps qs ≡ true → slice_get ps i ≡ Some p → slice_get qs i ≡ Some q → pieces_meet fs gs p q ≡ true
meet_at_place fs gs [] qs i p q is a b = absurd (none-some p a)
meet_at_place fs gs (x ∷ ps) [] i p q is a b = absurd (none-some q b)
meet_at_place fs gs (x ∷ ps) (y ∷ qs) zero p q is a b = rw (sym (same_Some x p a), sym (same_Some y q b)) (and_parts _ _ is).0
meet_at_place fs gs (x ∷ ps) (y ∷ qs) (suc i) p q is a b = meet_at_place fs gs ps qs i p q (and_parts _ _ is).1 a b

-- behind the last of the shorter list no number is left to put in
pub none_left : (fs gs : List FieldAt) (ps qs : List Piece) (i : ℕ) (zs : List ℤ) → min (length ps) (length qs) ≤ i → leasts fs gs (drop i ps) (drop i qs) zs ≡ zs
none_left fs gs ps qs i zs h = elim (cases_lt i (length ps)) [
  | inr past ↦ rw (drop_all i ps past) refl
  | inl more ↦ rw (drop_all i qs (omega arith)) (first_none (drop i ps))
]
  where
    first_none : (xs : List Piece) → leasts fs gs xs [] zs ≡ zs
    first_none [] = refl
    first_none (x ∷ xs) = refl
