-- For private contracts: a text in front of bytes, by a test that it passes.
use Rattle.std.specs.Prelude.{◌≡◌, ℕ, Bool, List, ◌++◌, IsTrue}

-- a text that passes the test stands in front of this rest
pub record Begins (test : List ℕ → Bool) (bytes rest : List ℕ) : Type 0 where
  pub text : List ℕ
  pub is : bytes ≡ text ++ rest
  pub passes : IsTrue (test text)

-- no text that passes the test stands in front
pub record BeginsNone (test : List ℕ → Bool) (bytes : List ℕ) : Type 0 where
  pub none : (text rest : List ℕ) → bytes ≡ text ++ rest → IsTrue (test text) → ⊥
