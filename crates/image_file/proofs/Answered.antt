-- The one answer of any bytes, by what is looked at in turn.
use Rattle.std.proofs.Common.{◌≡◌, ℕ, zero, suc, Bool, true, false, cond, List, [], ◌∷◌, length, take, Option, Some, None, Result, Ok, Err, refl, sym, ap, subst, ◌∙◌, arith, ⊎_elim, inl, inr}
use Rattle.std.specs.Prelude.{◌⊎◌}
use Rattle.std.specs.Prelude.{◌==◌, nat_lt, slice_get, codes}
use Rattle.std.proofs.lemmas.Bool.{both_ways, cases_Bool, cases_eq, cases_order, eq-eqb, ne_eqb, lt-ltb, le-ltb, false_from_ne_true}
use lib.Pointwise.{pointwise, bytes_decides}
use Rattle.image_file.specs.File.{Picture, file}
use Rattle.image_file.specs.Valid.{Measures, IsValid, IsLimited, IsDigest, AreBytes}
use Rattle.image_file.specs.Refused.{IsWhole, IsRefused, IsAnswer, HasMagic, HasVersion, digest_in, called_for, value_places}
use Rattle.image_file.specs.Parts.{image_in}
use Rattle.image_file.specs.declared.fault.ImageFault.{ImageFault}
use Rattle.image_file.specs.declared.fault.ImageFault.TheVariants as fault
use Rattle.image_file.proofs.Numbers.{IsBytes}
use Rattle.image_file.proofs.Reading.{image_is}
use Rattle.image_file.proofs.Limits.{has_file}
use Rattle.image_file.proofs.Written.{whole, none_at, written, image_back}

abbrev same : List ℕ → List ℕ → Bool
same xs ys = pointwise (λ x y. x == y) xs ys

same_is : (xs ys : List ℕ) → xs ≡ ys → same xs ys ≡ true
same_is xs ys = (bytes_decides xs ys).1

same_not : (xs ys : List ℕ) → (xs ≡ ys → ⊥) → same xs ys ≡ false
same_not xs ys h = false_from_ne_true (same xs ys) (λ e. h ((bytes_decides xs ys).0 e))

abbrev Answer : Type 0
Answer = Result Picture ImageFault

abbrev by_values : Answer → List ℕ → Answer
by_values image [] = image
by_values image (at ∷ more) = Err (fault.Value at)

abbrev by_digest : List ℕ → List ℕ → Answer → Answer
by_digest wanted found rest = cond (same found wanted) rest (Err (fault.Digest wanted found))

abbrev by_length : ℕ → ℕ → Answer → Answer
by_length found wanted rest = cond (nat_lt found wanted) (Err (fault.Short found)) (cond (nat_lt wanted found) (Err (fault.Trailing wanted)) rest)

abbrev by_version : Option ℕ → Answer → Answer
by_version None rest = rest
by_version (Some found) rest = cond (found == 1) rest (Err (fault.Version found))

abbrev by_magic : List ℕ → Answer → Answer
by_magic front rest = cond (same front (codes "NMLI")) rest (Err fault.Magic)

-- what is left once the bytes are whole
abbrev late : Measures → (digest bytes : List ℕ) → Answer
late m digest bytes = by_digest digest (digest_in bytes) (by_values (Ok (image_in bytes)) (value_places m bytes))

abbrev pub answer : Measures → (digest bytes : List ℕ) → Answer
answer m digest bytes = by_magic (take 4 bytes) (by_version (slice_get bytes 4) (by_length (length bytes) (called_for bytes) (late m digest bytes)))

right_magic : (front : List ℕ) (rest : Answer) → front ≡ codes "NMLI" → by_magic front rest ≡ rest
right_magic front rest e = rw (same_is front (codes "NMLI") e) refl

right_version : (o : Option ℕ) (rest : Answer) → ((found : ℕ) → o ≡ Some found → found ≡ 1) → by_version o rest ≡ rest
right_version None rest h = refl
right_version (Some found) rest h = rw (eq-eqb found 1 (h found refl)) refl

right_length : (n : ℕ) (m : ℕ) (rest : Answer) → n ≡ m → by_length n m rest ≡ rest
right_length n m rest e = rw (le-ltb n m (omega (arith, e)), le-ltb m n (omega (arith, e))) refl

right_digest : (wanted found : List ℕ) (rest : Answer) → found ≡ wanted → by_digest wanted found rest ≡ rest
right_digest wanted found rest e = rw (same_is found wanted e) refl

-- once the four letters and the version are right
behind_version : (m : Measures) (digest bytes : List ℕ) → HasMagic bytes → HasVersion bytes → answer m digest bytes ≡ by_length (length bytes) (called_for bytes) (late m digest bytes)
behind_version m digest bytes g v =
    right_magic (take 4 bytes) _ g ∙ right_version (slice_get bytes 4) (by_length (length bytes) (called_for bytes) (late m digest bytes)) v

behind_length : (m : Measures) (digest bytes : List ℕ) → IsWhole bytes → answer m digest bytes ≡ late m digest bytes
behind_length m digest bytes w = behind_version m digest bytes w.magic w.version ∙ right_length (length bytes) (called_for bytes) (late m digest bytes) w.length_is

wrong_places : (image : Answer) (places : List ℕ) (at : ℕ) → slice_get places 0 ≡ Some at → by_values image places ≡ Err (fault.Value at)
wrong_places image [] at e = absurd (cc e)
wrong_places image (p ∷ places) at e =
    let same_place : p ≡ at = cc e in
    ap (λ (n : ℕ). Err (fault.Value n)) same_place

-- a fault is the answer
fault_is : (m : Measures) (digest bytes : List ℕ) (f : ImageFault) → (f ≡ fault.Memory → ⊥) → IsRefused m digest bytes f → answer m digest bytes ≡ Err f
fault_is m digest bytes fault.Magic n r = rw (same_not (take 4 bytes) (codes "NMLI") r) refl
fault_is m digest bytes (fault.Version found) n r =
    right_magic (take 4 bytes) (by_version (slice_get bytes 4) (by_length (length bytes) (called_for bytes) (late m digest bytes))) r.0
    ∙ ap (λ (o : Option ℕ). by_version o (by_length (length bytes) (called_for bytes) (late m digest bytes))) r.1
    ∙ ap (λ (b : Bool). cond b (by_length (length bytes) (called_for bytes) (late m digest bytes)) (Err (fault.Version found))) (ne_eqb found 1 r.2)
fault_is m digest bytes (fault.Short at) n r =
    behind_version m digest bytes r.0 r.1
    ∙ ap (λ (b : Bool). cond b (Err (fault.Short (length bytes))) (cond (nat_lt (called_for bytes) (length bytes)) (Err (fault.Trailing (called_for bytes))) (late m digest bytes))) (lt-ltb (length bytes) (called_for bytes) r.2)
    ∙ ap (λ (k : ℕ). Err (fault.Short k)) (sym r.3)
fault_is m digest bytes (fault.Trailing at) n r =
    behind_version m digest bytes r.0 r.1
    ∙ ap (λ (b : Bool). cond b (Err (fault.Short (length bytes))) (cond (nat_lt (called_for bytes) (length bytes)) (Err (fault.Trailing (called_for bytes))) (late m digest bytes))) (le-ltb (length bytes) (called_for bytes) (omega (arith, r.2)))
    ∙ ap (λ (b : Bool). cond b (Err (fault.Trailing (called_for bytes))) (late m digest bytes)) (lt-ltb (called_for bytes) (length bytes) r.2)
    ∙ ap (λ (k : ℕ). Err (fault.Trailing k)) (sym r.3)
fault_is m digest bytes (fault.Digest wanted found) n r =
    behind_length m digest bytes r.0
    ∙ ap (λ (b : Bool). cond b (by_values (Ok (image_in bytes)) (value_places m bytes)) (Err (fault.Digest digest (digest_in bytes)))) (same_not (digest_in bytes) digest r.1)
    ∙ ap (λ (d : List ℕ). Err (fault.Digest d (digest_in bytes))) (sym r.2) ∙ ap (λ (d : List ℕ). Err (fault.Digest wanted d)) (sym r.3)
fault_is m digest bytes (fault.Value at) n r =
    behind_length m digest bytes r.0 ∙ right_digest digest (digest_in bytes) (by_values (Ok (image_in bytes)) (value_places m bytes)) r.1
    ∙ wrong_places (Ok (image_in bytes)) (value_places m bytes) at r.2
fault_is m digest bytes fault.Memory n r = absurd (n refl)

-- a valid image is the answer of its file
image_answer : (m : Measures) (i : Picture) → IsLimited m → IsDigest i.digest → IsValid m i → answer m i.digest (file i) ≡ Ok i
image_answer m i l d v =
    let h = has_file m i l d v in
    let w = written i h in
    behind_length m i.digest (file i) (whole i h)
    ∙ right_digest i.digest (digest_in (file i)) (by_values (Ok (image_in (file i))) (value_places m (file i))) w.digest
    ∙ ap (by_values (Ok (image_in (file i)))) (none_at m i (file i) v w) ∙ ap (λ (j : Picture). Ok j) (image_back i (file i) w)

answer_is : (m : Measures) (digest bytes : List ℕ) (a : Answer) → IsLimited m → IsDigest digest → IsAnswer m digest bytes a → answer m digest bytes ≡ a
answer_is m digest bytes (Ok i) l d r =
    ap (λ (b : List ℕ). answer m digest b) r.bytes_are ∙ ap (λ (k : List ℕ). answer m k (file i)) (sym r.digest_is)
    ∙ image_answer m i l (subst IsDigest (sym r.digest_is) d) r.valid
answer_is m digest bytes (Err f) l d r = fault_is m digest bytes f r.0 r.1

pub one_answer : (m : Measures) (digest bytes : List ℕ) (a b : Answer) → IsLimited m → IsDigest digest → IsAnswer m digest bytes a → IsAnswer m digest bytes b → a ≡ b
one_answer m digest bytes a b l d r s = sym (answer_is m digest bytes a l d r) ∙ answer_is m digest bytes b l d s

abbrev Some_answer : Measures → (digest bytes : List ℕ) → Type 0
Some_answer m digest bytes = (a : Answer) × IsAnswer m digest bytes a

decide : (xs ys : List ℕ) → (xs ≡ ys) ⊎ (xs ≡ ys → ⊥)
decide xs ys = ⊎_elim (λ e. inl ((bytes_decides xs ys).0 e)) (λ e. inr (λ h. both_ways (same xs ys) e (same_is xs ys h))) (cases_Bool (same xs ys))

version_case : (o : Option ℕ) → ((found : ℕ) → o ≡ Some found → found ≡ 1) ⊎ ((found : ℕ) × (o ≡ Some found) × (found ≡ 1 → ⊥))
version_case None = inl (λ found e. absurd (cc e))
version_case (Some v) = ⊎_elim (λ h. inl (λ found e. cc (e, h))) (λ n. inr (v, refl, n)) (cases_eq v 1)

place_case : (places : List ℕ) → (places ≡ []) ⊎ ((at : ℕ) × (slice_get places 0 ≡ Some at))
place_case [] = inl refl
place_case (at ∷ more) = inr (at, refl)

some_value : (m : Measures) (digest bytes : List ℕ) → IsBytes bytes → IsWhole bytes → digest_in bytes ≡ digest → Some_answer m digest bytes
some_value m digest bytes b w d =
    ⊎_elim (λ e. (Ok (image_in bytes), image_is m digest bytes b w d e)) (λ p. (Err (fault.Value p.0), (λ h. absurd (cc h), (w, d, p.1)))) (place_case (value_places m bytes))

some_digest : (m : Measures) (digest bytes : List ℕ) → IsBytes bytes → IsWhole bytes → Some_answer m digest bytes
some_digest m digest bytes b w =
    ⊎_elim (some_value m digest bytes b w) (λ n. (Err (fault.Digest digest (digest_in bytes)), (λ h. absurd (cc h), (w, n, refl, refl)))) (decide (digest_in bytes) digest)

some_length : (m : Measures) (digest bytes : List ℕ) → IsBytes bytes → HasMagic bytes → HasVersion bytes → Some_answer m digest bytes
some_length m digest bytes b g v =
    ⊎_elim (λ e. some_digest m digest bytes b (record { magic = g; version = v; length_is = e }))
    (⊎_elim (λ l. (Err (fault.Short (length bytes)), (λ h. absurd (cc h), (g, v, l, refl)))) (λ l. (Err (fault.Trailing (called_for bytes)), (λ h. absurd (cc h), (g, v, l, refl)))))
    (cases_order (length bytes) (called_for bytes))

some_version : (m : Measures) (digest bytes : List ℕ) → IsBytes bytes → HasMagic bytes → Some_answer m digest bytes
some_version m digest bytes b g =
    ⊎_elim (some_length m digest bytes b g) (λ p. (Err (fault.Version p.0), (λ h. absurd (cc h), (g, p.1, p.2)))) (version_case (slice_get bytes 4))

bytes_from : (bytes : List ℕ) → AreBytes bytes → IsBytes bytes
bytes_from [] a i = omega arith
bytes_from (x ∷ bytes) a zero = a.0
bytes_from (x ∷ bytes) a (suc i) = bytes_from bytes a.1 i

pub some_answer : (m : Measures) (digest bytes : List ℕ) → AreBytes bytes → Some_answer m digest bytes
some_answer m digest bytes a =
    ⊎_elim (some_version m digest bytes (bytes_from bytes a)) (λ n. (Err fault.Magic, (λ h. absurd (cc h), n))) (decide (take 4 bytes) (codes "NMLI"))
