-- What a writer was handed of some bytes, call by call, and what a reader gave.
use Rattle.std.proofs.Common.{◌≡◌, List, [], ℕ, ◌++◌, ◌≤◌, length, take, drop, Option, ap, ◌∙◌, refl, append_assoc, take-append-drop, arith, ◌+◌, ◌<◌, length-append}
use Rattle.std.proofs.lemmas.List.{take_all, length-drop, length-take}
use Rattle.std.specs.Io.KnownBytes.{Appends}
use Rattle.std.proofs.KnownBytes.{Appends-nil, Appends-trans}

-- the front of all the bytes that stood before the rest was appended
abbrev pub Sent : Option (List ℕ) → Option (List ℕ) → List ℕ → List ℕ → Type 0
Sent old new all rest = (front : List ℕ) × (front ++ rest ≡ all) × Appends old new front

pub sent_none : (a : Option (List ℕ)) (all : List ℕ) → Sent a a all all
sent_none a all = ([], refl, Appends-nil a)

-- the writer took the first n of the rest
pub sent_more : (a b c : Option (List ℕ)) (all rest : List ℕ) (n k : ℕ) → Sent a b all rest → Appends b c (take n rest) → length rest ≤ n + k
    → Sent a c all (take k (drop n rest))
sent_more a b c all rest n k s p h =
    let whole : take k (drop n rest) ≡ drop n rest = take_all k (drop n rest) (omega (arith, length-drop n rest)) in
    (s.0 ++ take n rest, ap (λ l. (s.0 ++ take n rest) ++ l) whole ∙ append_assoc s.0 (take n rest) (drop n rest) ∙ ap (λ l. s.0 ++ l) (take-append-drop n rest) ∙ s.1, Appends-trans a b c s.0 (take n rest) s.2 p)

-- the bytes so far, and those of one read more
pub longer : (xs buf : List ℕ) (n limit : ℕ) → n ≤ length buf → limit < length xs + n → limit < length (xs ++ take n buf)
longer xs buf n limit h over = omega (arith, length-append xs (take n buf), length-take n buf)
