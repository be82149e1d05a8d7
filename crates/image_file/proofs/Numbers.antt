-- The number of bytes, the highest first: what one byte more makes of it, and that its bytes are those.
use Rattle.std.proofs.Common.{◌≡◌, ℕ, zero, suc, ◌+◌, ◌*◌, ◌/◌, ◌%◌, ◌^◌, ◌<◌, ◌≤◌, List, [], ◌∷◌, ◌++◌, length, take, drop, get_or, refl, sym, ap, subst, ◌∙◌, append_assoc, arith}
use Rattle.std.proofs.Math.Nat.{pow-succ', div-add-mod}
use Rattle.std.proofs.Math.Pow.{pow_mono}
use Rattle.std.proofs.lemmas.List.{take-append-drop, drop-drop, take_at, drop_at, length-take-le, length-drop, get_or-drop, take_more}
use Rattle.image_file.specs.File.{big_endian}
use Rattle.image_file.specs.Refused.{number_behind, number_at}
use Rattle.image_file.proofs.Bytes.{length-big_endian, high_below, bytes_bits}

abbrev pub IsBytes : List ℕ → Type 0
IsBytes bytes = (i : ℕ) → get_or bytes i 0 < 256

pub number_behind_push : (n : ℕ) (bs : List ℕ) (b : ℕ) → number_behind n (bs ++ b ∷ []) ≡ number_behind n bs * 256 + b
number_behind_push n [] b = refl
number_behind_push n (x ∷ bs) b = number_behind_push (n * 256 + x) bs b

-- the number of one byte more
pub number_more : (bs : List ℕ) (i : ℕ) → i < length bs → number_behind 0 (take (i + 1) bs) ≡ number_behind 0 (take i bs) * 256 + get_or bs i 0
number_more bs i h = ap (number_behind 0) (take_more bs i 0 h) ∙ number_behind_push 0 (take i bs) (get_or bs i 0)

-- one byte more, and the bound of it
pub below_more : (k n b : ℕ) → n < 256 ^ k → b < 256 → n * 256 + b < 256 ^ (k + 1)
below_more k n b h l =
    let one : k + 1 ≡ suc k = omega arith in
    let e : 256 ^ (k + 1) ≡ 256 * 256 ^ k = ap (λ (j : ℕ). 256 ^ j) one ∙ pow-succ' 256 k in
    omega (arith, e)

-- a number of at most seven bytes
pub seven_bytes : (i n : ℕ) → i < 8 → n < 256 ^ i → n < 2 ^ 56
seven_bytes i n h b = omega (arith, pow_mono {i = 8 * i} {j = 56} (omega arith), bytes_bits i)

pub number_below : (k n : ℕ) (bs : List ℕ) → n < 256 ^ k → IsBytes bs → number_behind n bs < 256 ^ (k + length bs)
number_below k n [] h b =
    let e : k + 0 ≡ k = omega arith in
    rw e h
number_below k n (x ∷ bs) h b =
    let e : k + suc (length bs) ≡ k + 1 + length bs = omega arith in
    subst (λ (j : ℕ). number_behind (n * 256 + x) bs < 256 ^ j) (sym e) (number_below (k + 1) (n * 256 + x) bs (below_more k n x h (b 0)) (λ i. b (suc i)))

-- the bytes of the number are those
pub bytes_of_number : (k n : ℕ) (bs : List ℕ) → IsBytes bs → big_endian (k + length bs) (number_behind n bs) ≡ big_endian k n ++ bs
bytes_of_number k n [] b =
    let e : k + 0 ≡ k = omega arith in
    rw e (sym (nil_behind (big_endian k n)))
  where
    nil_behind : (l : List ℕ) → l ++ [] ≡ l
    nil_behind [] = refl
    nil_behind (x ∷ l) = ap (λ t. x ∷ t) (nil_behind l)
bytes_of_number k n (x ∷ bs) b =
    let below = b 0 in
    let e : k + suc (length bs) ≡ suc k + length bs = omega arith in
    let high : (n * 256 + x) / 256 ≡ n = omega arith in
    let low : (n * 256 + x) % 256 ≡ x = omega arith in
    ap (λ (j : ℕ). big_endian j (number_behind (n * 256 + x) bs)) e
    ∙ bytes_of_number (suc k) (n * 256 + x) bs (λ i. b (suc i))
    ∙ ap (λ (m : ℕ). (big_endian k m ++ (n * 256 + x) % 256 ∷ []) ++ bs) high
    ∙ ap (λ (m : ℕ). (big_endian k n ++ m ∷ []) ++ bs) low
    ∙ append_assoc (big_endian k n) (x ∷ []) bs

-- the number of a number's bytes is that number
pub number_of_bytes : (k n : ℕ) → n < 256 ^ k → number_behind 0 (big_endian k n) ≡ n
number_of_bytes zero n h = omega arith
number_of_bytes (suc k) n h =
    omega (arith, number_behind_push 0 (big_endian k (n / 256)) (n % 256), number_of_bytes k (n / 256) (high_below k n h), div-add-mod n 256)

bytes_of_part : (at k : ℕ) (bytes : List ℕ) → IsBytes bytes → IsBytes (take k (drop at bytes))
bytes_of_part at k bytes b i = from_take k (drop at bytes) (λ j. subst (λ (x : ℕ). x < 256) (sym (get_or-drop at bytes j 0)) (b (at + j))) i
  where
    from_take : (k : ℕ) (bs : List ℕ) → IsBytes bs → IsBytes (take k bs)
    from_take zero bs h i = omega arith
    from_take (suc k) [] h i = omega arith
    from_take (suc k) (x ∷ bs) h zero = h 0
    from_take (suc k) (x ∷ bs) h (suc i) = from_take k bs (λ j. h (suc j)) i

pub part_length : (at k : ℕ) (bytes : List ℕ) → at + k ≤ length bytes → length (take k (drop at bytes)) ≡ k
part_length at k bytes h = length-take-le k (drop at bytes) (omega (arith, length-drop at bytes))

-- a part, and what is behind it
pub part_front : (at k : ℕ) (bytes : List ℕ) → drop at bytes ≡ take k (drop at bytes) ++ drop (at + k) bytes
part_front at k bytes = sym (take-append-drop k (drop at bytes)) ∙ ap (λ (t : List ℕ). take k (drop at bytes) ++ t) (drop-drop k at bytes)

-- a number's bytes, and what is behind them
pub number_front : (at k : ℕ) (bytes : List ℕ) → IsBytes bytes → at + k ≤ length bytes → drop at bytes ≡ big_endian k (number_at at k bytes) ++ drop (at + k) bytes
number_front at k bytes b h =
    let part = take k (drop at bytes) in
    let l : k ≡ 0 + length part = omega (arith, part_length at k bytes h) in
    let e : big_endian k (number_at at k bytes) ≡ part =
    ap (λ (j : ℕ). big_endian j (number_behind 0 part)) l ∙ bytes_of_number 0 0 part (bytes_of_part at k bytes b) in
    part_front at k bytes ∙ ap (λ (t : List ℕ). t ++ drop (at + k) bytes) (sym e)

pub number_at_below : (at k : ℕ) (bytes : List ℕ) → IsBytes bytes → at + k ≤ length bytes → number_at at k bytes < 256 ^ k
number_at_below at k bytes b h =
    let l : 0 + length (take k (drop at bytes)) ≡ k = omega (arith, part_length at k bytes h) in
    subst (λ (j : ℕ). number_at at k bytes < 256 ^ j) l (number_below 0 0 (take k (drop at bytes)) (omega arith) (bytes_of_part at k bytes b))

-- a number that was written at this place
pub number_written : (at k n : ℕ) (front rest : List ℕ) → length front ≡ at → n < 256 ^ k → number_at at k (front ++ (big_endian k n ++ rest)) ≡ n
number_written at k n front rest l h =
    ap (λ (t : List ℕ). number_behind 0 (take k t)) (drop_at front (big_endian k n ++ rest) at l)
    ∙ ap (number_behind 0) (take_at (big_endian k n) rest k (length-big_endian k n))
    ∙ number_of_bytes k n h
