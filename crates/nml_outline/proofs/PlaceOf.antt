-- A field's lowest place in the outline is where its bits stand in the word.
use Rattle.std.proofs.Common.{ℕ, zero, suc, ◌+◌, ◌/◌, ◌%◌, ◌^◌, ◌==◌, ◌≡◌, ◌≢◌, ◌≤◌, refl, sym, ◌∙◌, ap, Bool, true, false, List, [], ◌∷◌, ◌++◌, map, length, append_assoc, arith}
use Rattle.std.specs.Prelude.{reverse, not, cond, unsigned_abs}
use Rattle.std.specs.List.{prefix_len}
use Rattle.std.proofs.lemmas.List.{length-map, map-append, reverse-append, length-reverse}
use Rattle.std.proofs.lemmas.Bool.{eqb-true, eq-eqb}
use mathlib.Core.List.{reverse_aux}
use Rattle.nk_base.specs.Number.{width_of, low_bits}
use Rattle.nk_base.specs.declared.number.Ty.{Ty}
use Rattle.nml_tree.specs.Attribute.{number_of}
use Rattle.nml_tree.specs.Derivation.{Derivation, fields}
use Rattle.nml_tree.specs.Image.{image, word_of}
use Rattle.nml_tree.specs.Value.{number_at}
use Rattle.nml_tree.specs.Outline.{OutlineBit, Free, is_free, low}
use Rattle.nml_outline.proofs.ExactBits.{ExactBit, Given, BitOf, exact, run_below, fill, forget, outline_is, run_image}
use Rattle.nml_outline.proofs.SameShape.{image_is}
use Rattle.nml_outline.proofs.WordBits.{number_midst, below_is}
use Rattle.nml_outline.proofs.Ranges.{low_below}
use Rattle.nml_outline.proofs.Stands.{Each, Without, Once}

prefix_is : {A : Type 0} (p : A → Bool) (xs : List A) (y : A) (ys : List A) → Each (λ x. p x ≡ true) xs → p y ≡ false → prefix_len p (xs ++ y ∷ ys) ≡ length xs
prefix_is p [] y ys h k = ap (λ b. cond b (1 + prefix_len p ys) 0) k
prefix_is p (x ∷ xs) y ys h k =
    ap (λ b. cond b (1 + prefix_len p (xs ++ y ∷ ys)) 0) h.0 ∙ (ap (λ m. 1 + m) (prefix_is p xs y ys h.1 k) ∙ omega arith)

each_onto : {A : Type 0} (P : A → Type 0) (xs ys : List A) → Each P xs → Each P ys → Each P (reverse_aux xs ys)
each_onto P [] ys h k = k
each_onto P (x ∷ xs) ys h k = each_onto P xs (x ∷ ys) h.1 (h.0, k)

other_from : (m n : ℕ) (b : Bool) → (m == n) ≡ b → m ≢ n → not (m == n) ≡ true
other_from m n true e h = absurd (h (eqb-true m n e))
other_from m n false e h = ap not e

same_from : (n : ℕ) → not (n == n) ≡ false
same_from n = ap not (eq-eqb n n refl)

not_free : (n : ℕ) (xs : List ExactBit) → Without n xs → Each (λ o. not (is_free n o) ≡ true) (map forget xs)
not_free n [] h = tt
not_free n (Given b ∷ xs) h = (refl, not_free n xs h.1)
not_free n (BitOf m ty k ∷ xs) h = (other_from n m (n == m) refl h.0, not_free n xs h.1)

-- a run backwards begins with one of its bits
run_back : (n : ℕ) (ty : Ty) (k : ℕ) (ys : List OutlineBit) → (zs : List OutlineBit) × (reverse_aux (map forget (run_below n ty k)) (Free n ∷ ys) ≡ Free n ∷ zs)
run_back n ty zero ys = (ys, refl)
run_back n ty (suc k) ys = run_back n ty k (Free n ∷ ys)

run_begins : (n : ℕ) (ty : Ty) (k : ℕ) → 1 ≤ k → (zs : List OutlineBit) × (reverse (map forget (run_below n ty k)) ≡ Free n ∷ zs)
run_begins n ty zero h = absurd (omega (arith, h))
run_begins n ty (suc k) h = run_back n ty k []

turned : {A : Type 0} (xs ys zs : List A) → reverse (xs ++ (ys ++ zs)) ≡ reverse zs ++ (reverse ys ++ reverse xs)
turned xs ys zs = reverse-append xs (ys ++ zs) ∙ (ap (λ w. w ++ reverse xs) (reverse-append ys zs) ∙ append_assoc (reverse zs) (reverse ys) (reverse xs))

low_of : (n : ℕ) (ty : Ty) (xs : List ExactBit) (o : Once n ty xs) → 1 ≤ width_of ty → prefix_len (λ b. not (is_free n b)) (reverse (map forget xs)) ≡ length o.behind
low_of n ty xs o h =
    let run = run_below n ty (width_of ty) in
    let front = run_begins n ty (width_of ty) h in
    let whole : map forget xs ≡ map forget o.before ++ (map forget run ++ map forget o.behind) =
    ap (map forget) o.are ∙ (map-append forget o.before (run ++ o.behind) ∙ ap (λ w. map forget o.before ++ w) (map-append forget run o.behind)) in
    let back : reverse (map forget xs) ≡ reverse (map forget o.behind) ++ (Free n ∷ (front.0 ++ reverse (map forget o.before))) =
    ap reverse whole ∙ (turned (map forget o.before) (map forget run) (map forget o.behind) ∙ ap (λ w. reverse (map forget o.behind) ++ (w ++ reverse (map forget o.before))) front.1) in
    ap (prefix_len (λ b. not (is_free n b))) back
    ∙ (prefix_is (λ b. not (is_free n b)) (reverse (map forget o.behind)) (Free n) (front.0 ++ reverse (map forget o.before))
    (each_onto (λ b. not (is_free n b) ≡ true) (map forget o.behind) [] (not_free n o.behind o.none_behind) tt) (same_from n)
    ∙ (length-reverse (map forget o.behind) ∙ length-map o.behind forget))

pub low_is : (d : Derivation) (n : ℕ) (ty : Ty) (o : Once n ty (exact 0 d)) → 1 ≤ width_of ty → low n d ≡ length o.behind
low_is d n ty o h = ap (λ w. prefix_len (λ b. not (is_free n b)) (reverse w)) (outline_is d 0) ∙ low_of n ty (exact 0 d) o h

run_long : (n : ℕ) (ty : Ty) (k : ℕ) → length (run_below n ty k) ≡ k
run_long n ty zero = refl
run_long n ty (suc k) = ap suc (run_long n ty k)

-- the field's lowest bits are in the word at its lowest place
pub read_at : (d : Derivation) (n : ℕ) (ty : Ty) → Once n ty (exact 0 d) → 1 ≤ width_of ty → word_of d / 2 ^ low n d % 2 ^ width_of ty ≡ unsigned_abs (low_bits (width_of ty) (number_at (fields d) n))
read_at d n ty o h =
    let f = number_at (fields d) in
    let run = run_below n ty (width_of ty) in
    let v = unsigned_abs (low_bits (width_of ty) (f n)) in
    let bits : image d ≡ map (fill f) o.before ++ (map (fill f) run ++ map (fill f) o.behind) =
    image_is d ∙ (ap (map (fill f)) o.are ∙ (map-append (fill f) o.before (run ++ o.behind) ∙ ap (λ w. map (fill f) o.before ++ w) (map-append (fill f) run o.behind))) in
    let place : low n d ≡ length (map (fill f) o.behind) = low_is d n ty o h ∙ sym (length-map o.behind (fill f)) in
    let wide : width_of ty ≡ length (map (fill f) run) = sym (length-map run (fill f) ∙ run_long n ty (width_of ty)) in
    ap (λ w. number_of w / 2 ^ low n d % 2 ^ width_of ty) bits
    ∙ (ap (λ k. number_of (map (fill f) o.before ++ (map (fill f) run ++ map (fill f) o.behind)) / 2 ^ k % 2 ^ width_of ty) place
    ∙ (ap (λ k. number_of (map (fill f) o.before ++ (map (fill f) run ++ map (fill f) o.behind)) / 2 ^ length (map (fill f) o.behind) % 2 ^ k) wide
    ∙ (number_midst (map (fill f) o.before) (map (fill f) run) (map (fill f) o.behind)
    ∙ (ap number_of (sym (run_image f n ty (width_of ty))) ∙ below_is (width_of ty) v (low_below (width_of ty) (f n))))))
