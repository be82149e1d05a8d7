-- A list of two to five, by its items.
use Rattle.std.proofs.Common.{◌≡◌, List, [], ◌∷◌, length, get_or, sym, arith}

pub two : {A : Type 0} (xs : List A) (a b : A) → length xs ≡ 2 → a ≡ get_or xs 0 a → b ≡ get_or xs 1 b → xs ≡ a ∷ b ∷ []
two [] a b n p q = absurd (omega arith)
two (x ∷ []) a b n p q = absurd (omega arith)
two (x ∷ y ∷ []) a b n p q = λ i. sym p i ∷ sym q i ∷ []
two (x ∷ y ∷ z ∷ xs) a b n p q = absurd (omega arith)

pub three : {A : Type 0} (xs : List A) (a b c : A) → length xs ≡ 3 → a ≡ get_or xs 0 a → b ≡ get_or xs 1 b → c ≡ get_or xs 2 c → xs ≡ a ∷ b ∷ c ∷ []
three [] a b c n p q r = absurd (omega arith)
three (x ∷ xs) a b c n p q r = λ i. sym p i ∷ two xs b c (omega arith) q r i

pub four : {A : Type 0} (xs : List A) (a b c d : A) → length xs ≡ 4
    → a ≡ get_or xs 0 a → b ≡ get_or xs 1 b → c ≡ get_or xs 2 c → d ≡ get_or xs 3 d → xs ≡ a ∷ b ∷ c ∷ d ∷ []
four [] a b c d n p q r s = absurd (omega arith)
four (x ∷ xs) a b c d n p q r s = λ i. sym p i ∷ three xs b c d (omega arith) q r s i

pub five : {A : Type 0} (xs : List A) (a b c d e : A) → length xs ≡ 5
    → a ≡ get_or xs 0 a → b ≡ get_or xs 1 b → c ≡ get_or xs 2 c → d ≡ get_or xs 3 d → e ≡ get_or xs 4 e → xs ≡ a ∷ b ∷ c ∷ d ∷ e ∷ []
five [] a b c d e n p q r s t = absurd (omega arith)
five (x ∷ xs) a b c d e n p q r s t = λ i. sym p i ∷ four xs b c d e (omega arith) q r s t i

pub ruleset words_from_items = (two, three, four, five)
