-- For each of some things one of others, gathered one by one.
use Rattle.std.proofs.Common.{ℕ, zero, suc, ◌+◌, ◌<◌, ◌≡◌, refl, sym, ◌∙◌, ap, subst, arith, List, [], ◌∷◌, ◌++◌, take, get_or, length, length-append, Some}
use Rattle.std.proofs.lemmas.Option.{slice_get_within}
use Rattle.std.specs.Prelude.{slice_get}
use Rattle.isg_graph.specs.Graph.{AreFor}

pub there : {A : Type 0} (xs : List A) (n : ℕ) → n < length xs → (x : A) × (slice_get xs n ≡ Some x)
there [] n low = absurd (omega (arith, low))
there (x ∷ xs) zero low = (x, refl)
there (x ∷ xs) (suc n) low = there xs n (omega (arith, low))

pub got : {A : Type 0} (xs : List A) (i : ℕ) (d : A) → i < length xs → slice_get xs i ≡ Some (get_or xs i d)
got [] i d h = absurd (omega (arith, h))
got (x ∷ xs) zero d h = refl
got (x ∷ xs) (suc i) d h = got xs i d (omega (arith, h))

taken_suc : {A : Type 0} (xs : List A) (i : ℕ) (d : A) → i < length xs → take (suc i) xs ≡ take i xs ++ get_or xs i d ∷ []
taken_suc [] i d h = absurd (omega (arith, h))
taken_suc (x ∷ xs) zero d h = refl
taken_suc (x ∷ xs) (suc i) d h = ap (λ ys. x ∷ ys) (taken_suc xs i d (omega (arith, h)))

taken : {A : Type 0} (xs : List A) (i : ℕ) (d : A) → i < length xs → take (i + 1) xs ≡ take i xs ++ get_or xs i d ∷ []
taken xs i d h = let e : i + 1 ≡ suc i = omega arith in subst (λ k. take k xs ≡ take i xs ++ get_or xs i d ∷ []) (sym e) (taken_suc xs i d h)

-- one more at the end of both
last_of : {A B : Type 0} (P : A → B → Type 0) (xs : List A) (ys : List B) (x : A) (y : B) → length ys ≡ length xs → ((n : ℕ) (a : A) (b : B) → slice_get xs n ≡ Some a → slice_get ys n ≡ Some b → P a b) → P x y
    → (n : ℕ) (a : A) (b : B) → slice_get (xs ++ x ∷ []) n ≡ Some a → slice_get (ys ++ y ∷ []) n ≡ Some b → P a b
last_of P [] [] x y long each is zero a b h k = let e : x ≡ a = cc in let f : y ≡ b = cc in subst (λ c. P c b) e (subst (P x) f is)
last_of P [] [] x y long each is (suc n) a b h k = absurd cc
last_of P [] (w ∷ ys) x y long each is n a b h k = absurd (omega (arith, long))
last_of P (v ∷ xs) [] x y long each is n a b h k = absurd (omega (arith, long))
last_of P (v ∷ xs) (w ∷ ys) x y long each is zero a b h k = each 0 a b h k
last_of P (v ∷ xs) (w ∷ ys) x y long each is (suc n) a b h k = last_of P xs ys x y (omega (arith, long)) (λ m c d. each (suc m) c d) is n a b h k

pub for_more : {A B : Type 0} (P : A → B → Type 0) (xs : List A) (ys : List B) (x : A) (y : B) → AreFor P xs ys → P x y → AreFor P (xs ++ x ∷ []) (ys ++ y ∷ [])
for_more P xs ys x y are is = record {
  many = length-append ys (y ∷ []) ∙ (ap (λ n. n + 1) are.many ∙ sym (length-append xs (x ∷ [])));
  each = last_of P xs ys x y are.many are.each is;
}

pub for_none : {A B : Type 0} (P : A → B → Type 0) → AreFor {A = A} {B = B} P [] []
for_none P = record { many = refl; each = λ n x y h k. absurd cc }

-- and of the first i + 1 of a list
pub for_next : {A B : Type 0} (P : A → B → Type 0) (all : List A) (ys : List B) (i : ℕ) (d : A) (y : B) → i < length all → AreFor P (take i all) ys → P (get_or all i d) y → AreFor P (take (i + 1) all) (ys ++ y ∷ [])
for_next P all ys i d y low are is = subst (λ xs. AreFor P xs (ys ++ y ∷ [])) (sym (taken all i d low)) (for_more P (take i all) ys (get_or all i d) y are is)

-- what holds of each may change
pub for_each : {A B : Type 0} (P Q : A → B → Type 0) (xs : List A) (ys : List B) → ((x : A) (y : B) → P x y → Q x y) → AreFor P xs ys → AreFor Q xs ys
for_each P Q xs ys f are = record { many = are.many; each = λ n x y h k. f x y (are.each n x y h k) }

-- through others in the middle
pub for_through : {A B C : Type 0} (P : A → B → Type 0) (Q : B → C → Type 0) (R : A → C → Type 0) (xs : List A) (ys : List B) (zs : List C) → ((x : A) (y : B) (z : C) → P x y → Q y z → R x z) → AreFor P xs ys → AreFor Q ys zs → AreFor R xs zs
for_through P Q R xs ys zs f are more = record {
  many = more.many ∙ are.many;
  each = λ n x z h k.
      let low = slice_get_within xs n x h in
      let y = there ys n (subst (λ m. n < m) (sym are.many) low) in
      f x y.0 z (are.each n x y.0 h y.1) (more.each n y.0 z y.1 k);
}
