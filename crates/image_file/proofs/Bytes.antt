-- Numbers as bytes: how many there are, and that they tell the number.
use Rattle.std.proofs.Common.{◌≡◌, ℕ, zero, suc, ◌+◌, ◌-◌, ◌*◌, ◌/◌, ◌%◌, ◌^◌, ◌<◌, ◌≤◌, List, [], ◌∷◌, ◌++◌, length, refl, sym, ap, ◌∙◌, append_assoc, arith}
use Rattle.std.proofs.lemmas.List.{length-append}
use Rattle.std.specs.Prelude.{flat_map}
use Rattle.std.specs.List.{AllByRecursion}
use Rattle.std.proofs.Math.Nat.{pow-suc, pow-succ', div-add-mod}
use Rattle.std.proofs.Math.Pow.{pow_mono}
use Rattle.std.proofs.lemmas.Nat.{pow-add}
use Rattle.image_file.specs.File.{big_endian, word_bytes}

-- so many bytes
pub length-big_endian : (k n : ℕ) → length (big_endian k n) ≡ k
length-big_endian zero n = refl
length-big_endian (suc k) n = omega (arith, length-append (big_endian k (n / 256)) (n % 256 ∷ []), length-big_endian k (n / 256))

-- fronts of one length are equal where the whole is
pub same_front : {A : Type 0} (xs ys us vs : List A) → length xs ≡ length ys → xs ++ us ≡ ys ++ vs → (xs ≡ ys) × (us ≡ vs)
same_front [] [] us vs l e = (refl, e)
same_front [] (y ∷ ys) us vs l e = absurd (omega arith)
same_front (x ∷ xs) [] us vs l e = absurd (omega arith)
same_front (x ∷ xs) (y ∷ ys) us vs l e =
    let t : xs ++ us ≡ ys ++ vs = cc in
    let h : x ≡ y = cc in
    let r = same_front xs ys us vs (omega arith) t in
    (cc (h, r.0), r.1)

-- the digits but the last are below the power but one
pub high_below : (k n : ℕ) → n < 256 ^ suc k → n / 256 < 256 ^ k
high_below k n h = omega (arith, pow-suc 256 k)

-- numbers that so many bytes can tell are equal where their bytes are
pub same_number : (k m n : ℕ) → m < 256 ^ k → n < 256 ^ k → big_endian k m ≡ big_endian k n → m ≡ n
same_number zero m n a b e = omega arith
same_number (suc k) m n a b e =
    let l : length (big_endian k (m / 256)) ≡ length (big_endian k (n / 256)) = length-big_endian k (m / 256) ∙ sym (length-big_endian k (n / 256)) in
    let p = same_front (big_endian k (m / 256)) (big_endian k (n / 256)) (m % 256 ∷ []) (n % 256 ∷ []) l e in
    let high = same_number k (m / 256) (n / 256) (high_below k m a) (high_below k n b) p.0 in
    let low : m % 256 ≡ n % 256 = cc p.1 in
    omega (arith, div-add-mod m 256, div-add-mod n 256)

-- the same with more bytes behind
pub same_number_front : (k m n : ℕ) (us vs : List ℕ) → m < 256 ^ k → n < 256 ^ k → big_endian k m ++ us ≡ big_endian k n ++ vs → (m ≡ n) × (us ≡ vs)
same_number_front k m n us vs a b e =
    let p = same_front (big_endian k m) (big_endian k n) us vs (length-big_endian k m ∙ sym (length-big_endian k n)) e in
    (same_number k m n a b p.0, p.1)

-- each number of the words
pub same_words : (k limit : ℕ) (ws vs us ts : List ℕ) → limit ≤ 256 ^ k → AllByRecursion (λ w. w < limit) ws → AllByRecursion (λ w. w < limit) vs → length ws ≡ length vs → flat_map (big_endian k) ws ++ us ≡ flat_map (big_endian k) vs ++ ts → (ws ≡ vs) × (us ≡ ts)
same_words k limit [] [] us ts le a b l e = (refl, e)
same_words k limit [] (v ∷ vs) us ts le a b l e = absurd (omega arith)
same_words k limit (w ∷ ws) [] us ts le a b l e = absurd (omega arith)
same_words k limit (w ∷ ws) (v ∷ vs) us ts le a b l e =
    let f = flat_map (big_endian k) in
    let e2 : big_endian k w ++ (f ws ++ us) ≡ big_endian k v ++ (f vs ++ ts) =
    sym (append_assoc (big_endian k w) (f ws) us) ∙ e ∙ append_assoc (big_endian k v) (f vs) ts in
    let p = same_number_front k w v (f ws ++ us) (f vs ++ ts) (omega (arith, a.0)) (omega (arith, b.0)) e2 in
    let r = same_words k limit ws vs us ts le a.1 b.1 (omega arith) p.1 in
    (cc (p.0, r.0), r.1)

-- 256 ^ k is 2 ^ (8 * k)
pub bytes_bits : (k : ℕ) → 2 ^ (8 * k) ≡ 256 ^ k
bytes_bits zero = refl
bytes_bits (suc k) =
    let e : 8 * suc k ≡ 8 + 8 * k = omega arith in
    ap (λ (x : ℕ). 2 ^ x) e ∙ pow-add 2 8 (8 * k) ∙ ap (λ (x : ℕ). 256 * x) (bytes_bits k) ∙ sym (pow-succ' 256 k)

-- a word fits its bytes
pub word_fits : (width : ℕ) → 2 ^ width ≤ 256 ^ word_bytes width
word_fits width = omega (arith, pow_mono {i = width} {j = 8 * word_bytes width} (omega arith), bytes_bits (word_bytes width))

-- one byte more at the end
pub big_endian_more : (k n : ℕ) → 0 < k → big_endian k n ≡ big_endian (k - 1) (n / 256) ++ n % 256 ∷ []
big_endian_more zero n h = absurd (omega arith)
big_endian_more (suc k) n h =
    let e : suc k - 1 ≡ k = omega arith in
    ap (λ (j : ℕ). big_endian j (n / 256) ++ n % 256 ∷ []) (sym e)

pub pushed : (xs ys zs : List ℕ) (k n : ℕ) → 0 < k → ys ≡ xs ++ big_endian (k - 1) (n / 256) → zs ≡ ys ++ n % 256 ∷ [] → zs ≡ xs ++ big_endian k n
pushed xs ys zs k n h a b =
    b ∙ ap (λ (t : List ℕ). t ++ n % 256 ∷ []) a ∙ append_assoc xs (big_endian (k - 1) (n / 256)) (n % 256 ∷ []) ∙ ap (λ (t : List ℕ). xs ++ t) (sym (big_endian_more k n h))
