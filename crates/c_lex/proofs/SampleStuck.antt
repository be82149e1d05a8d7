-- Worked examples: where bytes are stuck.
use Rattle.std.proofs.Common.{◌≡◌, ℕ, refl, inl, inr, List, [], ◌∷◌, ◌++◌, codes, IsTrue, arith}
use Rattle.nml_lex.specs.Form.{is_shut}
use Rattle.nml_lex.specs.Lexed.{Space, Word}
use Rattle.nml_lex.proofs.Cuts.{block_no_space, other_no_space}
use Rattle.c_lex.specs.Lexed.{IsStuckAt}
use Rattle.c_lex.specs.Sample.{word}

-- nothing has no end of a comment
none_shut : (text rest : List ℕ) → [] ≡ text ++ rest → IsTrue (is_shut text) → ⊥
none_shut [] rest e h = absurd (cc)
none_shut (c ∷ text) rest e h = absurd (cc)

-- `a /*` is stuck at 2: the comment has no end
open_comment : IsStuckAt (codes "a /*") 2
open_comment = record {
  parts = Word (codes "a") ∷ Space (codes " ") ∷ [];
  left = codes "/*";
  begins = (_, refl, word refl refl refl, (_, refl, refl, refl));
  stuck = record { no_end = refl; no_space = (block_no_space (codes "/*") [] refl (record { none = none_shut })).none; no_word = inl refl };
  is = refl;
}

-- the first byte of bytes
first_is : (b d : ℕ) (bs ds : List ℕ) → b ∷ bs ≡ d ∷ ds → b ≡ d
first_is b d bs ds e = cc

-- a form feed begins nothing
form_feed : IsStuckAt (codes "=" ++ 12 ∷ codes "x") 1
form_feed = record {
  parts = Word (codes "=") ∷ [];
  left = 12 ∷ codes "x";
  begins = (_, refl, word refl refl refl, refl);
  stuck = record { no_end = refl; no_space = (other_no_space (12 ∷ codes "x") 12 (codes "x") refl refl (λ more e. absurd (omega (arith, first_is 12 47 (codes "x") (47 ∷ more) e))) (λ more e. absurd (omega (arith, first_is 12 47 (codes "x") (42 ∷ more) e)))).none; no_word = inl refl };
  is = refl;
}

-- a number over 2^64-1 is stuck at its first byte
too_great : IsStuckAt (codes " 18446744073709551616;") 1
too_great = record {
  parts = Space (codes " ") ∷ [];
  left = codes "18446744073709551616;";
  begins = (_, refl, refl, refl);
  stuck = record {
    no_end = refl;
    no_space = (other_no_space (codes "18446744073709551616;") 49 (codes "8446744073709551616;") refl refl (λ more e. absurd (omega (arith, first_is 49 47 (codes "8446744073709551616;") (47 ∷ more) e))) (λ more e. absurd (omega (arith, first_is 49 47 (codes "8446744073709551616;") (42 ∷ more) e)))).none;
    no_word = inr (omega arith, refl);
  };
  is = refl;
}
