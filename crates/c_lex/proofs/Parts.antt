-- The parts of bytes, in any language: one list of them, up to an end or to where the bytes are stuck.
use Rattle.std.proofs.Common.{◌≡◌, ◌∙◌, ap, refl, sym, subst, ℕ, inl, inr, List, [], ◌∷◌, ◌++◌, length, take, IsTrue, arith, take_at}
use Rattle.std.proofs.lemmas.Bool.{both_ways}
use Rattle.nml_lex.specs.Form.{is_end}
use Rattle.nml_lex.specs.Lexed.{Part, Space, Word, Lexeme, bytes_of, lexemes, size}
use Rattle.nml_lex.proofs.Parts.{end_halts}
use Rattle.nml_lex.proofs.Spaces.{Same, same_space}
use Rattle.nml_lex.proofs.Words.{same_fronts}
use Rattle.c_lex.specs.Lexing.{Lexicon, longest, IsPart, IsWord, IsStuck, IsHaltedAt, BeginsWith, HasTokens}
use Rattle.c_lex.proofs.Longest.{Apart, token_length, no_space_word, longest_end}

-- two parts in front of the same bytes are one
pub record SamePart (p q : Part) (r s : List ℕ) : Type 0 where
  pub part : p ≡ q
  pub rest : r ≡ s

same_word : (l : Lexicon) (a b r s : List ℕ) → a ++ r ≡ b ++ s → IsWord l a r → IsWord l b s → Same a b r s
same_word l a b r s e w v = same_fronts a b r s e (sym w.longest_is ∙ ap (longest l) e ∙ v.longest_is)

same_part : (l : Lexicon) (p q : Part) (r s : List ℕ) → Apart l → bytes_of p ++ r ≡ bytes_of q ++ s → IsPart l p r → IsPart l q s → SamePart p q r s
same_part l (Space a) (Space b) r s apart e h k = let f = same_space a b r s e h k in record { part = ap Space f.front; rest = f.rest }
same_part l (Space a) (Word b) r s apart e h k = absurd (no_space_word l a b r s apart e h k)
same_part l (Word a) (Space b) r s apart e h k = absurd (no_space_word l b a s r apart (sym e) k h)
same_part l (Word a) (Word b) r s apart e h k = let f = same_word l a b r s e h k in record { part = ap Word f.front; rest = f.rest }

-- no part begins the bytes
pub record Halts (l : Lexicon) (bytes : List ℕ) : Type 0 where
  pub none : (part : Part) (rest : List ℕ) → bytes ≡ bytes_of part ++ rest → IsPart l part rest → ⊥

-- two lists of parts in front of the same bytes, each up to where none begins, are one
pub record SameParts (ps qs : List Part) (l k : List ℕ) : Type 0 where
  pub parts : ps ≡ qs
  pub left : l ≡ k

same_parts : (l : Lexicon) (bytes : List ℕ) (ps qs : List Part) (i j : List ℕ) → Apart l → BeginsWith l bytes ps i → BeginsWith l bytes qs j → Halts l i → Halts l j → SameParts ps qs i j
same_parts l bytes [] [] i j apart h g m n = record { parts = refl; left = sym h ∙ g }
same_parts l bytes [] (q ∷ qs) i j apart h g m n = absurd (m.none q g.0 (sym h ∙ g.1) g.2)
same_parts l bytes (p ∷ ps) [] i j apart h g m n = absurd (n.none p h.0 (sym g ∙ h.1) h.2)
same_parts l bytes (p ∷ ps) (q ∷ qs) i j apart h g m n =
    let f = same_part l p q h.0 g.0 apart (sym h.1 ∙ g.1) h.2 g.2 in
    let o = same_parts l h.0 ps qs i j apart h.3 (subst (λ r. BeginsWith l r qs j) (sym f.rest) g.3) m n in
    record { parts = ap (λ x. x ∷ ps) f.part ∙ ap (λ xs. q ∷ xs) o.parts; left = o.left }

-- nothing begins an end
end_part : (l : Lexicon) (bytes : List ℕ) → Apart l → IsTrue (is_end bytes) → (part : Part) (rest : List ℕ) → bytes ≡ bytes_of part ++ rest → IsPart l part rest → ⊥
end_part l bytes apart h (Space text) rest e p = (end_halts bytes h).none (Space text) rest e p
end_part l bytes apart h (Word text) rest e p = omega (arith, longest_end l bytes h, ap (longest l) e, p.longest_is, token_length l text apart p.token)

end_is_last : (l : Lexicon) (bytes : List ℕ) → Apart l → IsTrue (is_end bytes) → Halts l bytes
end_is_last l bytes apart h = record { none = end_part l bytes apart h }

-- nothing begins stuck bytes: their longest front is no token within its limit
stuck_word : (l : Lexicon) (bytes text rest : List ℕ) → Apart l → IsStuck l bytes → bytes ≡ text ++ rest → IsWord l text rest → ⊥
stuck_word l bytes text rest apart s e w =
    let same : longest l bytes ≡ length text = ap (longest l) e ∙ w.longest_is in
    let some = token_length l text apart w.token in
    let front : take (longest l bytes) bytes ≡ text = ap (λ n. take n bytes) same ∙ ap (take (length text)) e ∙ take_at text rest (length text) refl in
    elim s.no_word as (λ _. ⊥) [
      | inl z ↦ omega arith
      | inr o ↦ both_ways (l.is_within text) (sym (ap l.is_within front) ∙ o.1) w.within
    ]

stuck_part : (l : Lexicon) (bytes : List ℕ) → Apart l → IsStuck l bytes → (part : Part) (rest : List ℕ) → bytes ≡ bytes_of part ++ rest → IsPart l part rest → ⊥
stuck_part l bytes apart s (Space text) rest e p = s.no_space text rest e p
stuck_part l bytes apart s (Word text) rest e p = stuck_word l bytes text rest apart s e p

stuck_is_last : (l : Lexicon) (bytes : List ℕ) → Apart l → IsStuck l bytes → Halts l bytes
stuck_is_last l bytes apart s = record { none = stuck_part l bytes apart s }

-- ---- the law

-- the three clauses, each by the two lists of parts
pub one : (l : Lexicon) (bytes : List ℕ) (ps qs : List Lexeme) → Apart l → HasTokens l bytes ps → HasTokens l bytes qs → ps ≡ qs
one l bytes ps qs apart h g =
    let m = same_parts l bytes h.parts g.parts h.left g.left apart h.begins g.begins (end_is_last l h.left apart h.ends) (end_is_last l g.left apart g.ends) in
    h.is ∙ ap (lexemes 0) m.parts ∙ sym g.is

pub never : (l : Lexicon) (bytes : List ℕ) (ps : List Lexeme) (at : ℕ) → Apart l → HasTokens l bytes ps → IsHaltedAt l bytes at → ⊥
never l bytes ps at apart h g =
    let m = same_parts l bytes h.parts g.parts h.left g.left apart h.begins g.begins (end_is_last l h.left apart h.ends) (stuck_is_last l g.left apart g.stuck) in
    both_ways (is_end g.left) g.stuck.no_end (sym (ap is_end m.left) ∙ h.ends)

pub place : (l : Lexicon) (bytes : List ℕ) (at other : ℕ) → Apart l → IsHaltedAt l bytes at → IsHaltedAt l bytes other → at ≡ other
place l bytes at other apart h g =
    let m = same_parts l bytes h.parts g.parts h.left g.left apart h.begins g.begins (stuck_is_last l h.left apart h.stuck) (stuck_is_last l g.left apart g.stuck) in
    h.is ∙ ap size m.parts ∙ sym g.is
