-- The parts of bytes: one list of them, up to an end or to where the bytes are stuck.
use Rattle.std.proofs.Common.{◌≡◌, ◌∙◌, ap, refl, sym, subst, ℕ, ◌<◌, ◌&&◌, ◌==◌, not, eqb, inl, inr, true, List, [], ◌∷◌, ◌++◌, length, take, IsTrue, arith, take_at, eqb-true}
use Rattle.std.proofs.lemmas.Bool.{and_parts, both_ways, not-true, or_left, or_right, eq-eqb}
use Rattle.std.specs.List.{list_all}
use Rattle.nk_base.specs.Byte.{is_gap}
use Rattle.nml_lex.specs.Form.{is_end, is_ended, is_token, is_within, longest}
use Rattle.nml_lex.specs.Lexed.{Part, Space, Word, IsPart, IsWord, IsStuck, IsStuckAt, BeginsWith, HasLexemes, Lexeme, bytes_of, lexemes, size}
use Rattle.nml_lex.proofs.Spaces.{Form, Blank, Line, Block, form_of, no_gap, same_space}
use Rattle.nml_lex.proofs.Words.{is_apart, no_token, same_word}

-- a space and a token never stand at one place
apart_bytes : (c : ℕ) (a b r s : List ℕ) → c ∷ (a ++ r) ≡ b ++ s → is_apart c ≡ true → IsTrue (is_token b) → ⊥
apart_bytes c a [] r s e h t = absurd (cc)
apart_bytes c a (d ∷ b) r s e h t = let i : d ≡ c = cc in let k : is_apart d ≡ true = ap is_apart i ∙ h in both_ways (is_token (d ∷ b)) (no_token d b k) t

apart_form : (a b r s : List ℕ) → a ++ r ≡ b ++ s → Form a → IsTrue (is_token b) → ⊥
apart_form a b r s e (Blank c i h) t = apart_bytes c [] b r s (sym (ap (λ x. x ++ r) i) ∙ e) (or_left (is_gap c) (eqb c 47) h) t
apart_form a b r s e (Line x i h) t = apart_bytes 47 (47 ∷ x) b r s (sym (ap (λ y. y ++ r) i) ∙ e) refl t
apart_form a b r s e (Block x i h) t = apart_bytes 47 (42 ∷ x) b r s (sym (ap (λ y. y ++ r) i) ∙ e) refl t

-- two parts in front of the same bytes are one
pub record SamePart (p q : Part) (r s : List ℕ) : Type 0 where
  pub part : p ≡ q
  pub rest : r ≡ s

same_part : (p q : Part) (r s : List ℕ) → bytes_of p ++ r ≡ bytes_of q ++ s → IsPart p r → IsPart q s → SamePart p q r s
same_part (Space a) (Space b) r s e h k = let f = same_space a b r s e h k in record { part = ap Space f.front; rest = f.rest }
same_part (Space a) (Word b) r s e h k = absurd (apart_form a b r s e (form_of a h) k.token)
same_part (Word a) (Space b) r s e h k = absurd (apart_form b a s r (sym e) (form_of b k) h.token)
same_part (Word a) (Word b) r s e h k = let f = same_word a b r s e h k in record { part = ap Word f.front; rest = f.rest }

-- no part begins the bytes
pub record Halts (bytes : List ℕ) : Type 0 where
  pub none : (part : Part) (rest : List ℕ) → bytes ≡ bytes_of part ++ rest → IsPart part rest → ⊥

-- two lists of parts in front of the same bytes, each up to where none begins, are one
pub record SameParts (ps qs : List Part) (l k : List ℕ) : Type 0 where
  pub parts : ps ≡ qs
  pub left : l ≡ k

pub same_parts : (bytes : List ℕ) (ps qs : List Part) (l k : List ℕ) → BeginsWith bytes ps l → BeginsWith bytes qs k → Halts l → Halts k → SameParts ps qs l k
same_parts bytes [] [] l k h g i j = record { parts = refl; left = sym h ∙ g }
same_parts bytes [] (q ∷ qs) l k h g i j = absurd (i.none q g.0 (sym h ∙ g.1) g.2)
same_parts bytes (p ∷ ps) [] l k h g i j = absurd (j.none p h.0 (sym g ∙ h.1) h.2)
same_parts bytes (p ∷ ps) (q ∷ qs) l k h g i j =
    let f = same_part p q h.0 g.0 (sym h.1 ∙ g.1) h.2 g.2 in
    let m = same_parts h.0 ps qs l k h.3 (subst (λ r. BeginsWith r qs k) (sym f.rest) g.3) i j in
    record { parts = ap (λ x. x ∷ ps) f.part ∙ ap (λ xs. q ∷ xs) m.parts; left = m.left }

-- ---- nothing begins an end

-- a line has a line feed, and the bytes behind the last `//` have none
ended_feed : (c : ℕ) (cs rest : List ℕ) → IsTrue (is_ended (c ∷ cs)) → list_all (λ b. not (b == 10)) ((c ∷ cs) ++ rest) ≡ true → ⊥
ended_feed c [] rest h k = let e = and_parts (not (eqb c 10)) (list_all (λ b. not (b == 10)) rest) k in let n = not-true (eqb c 10) e.0 in absurd (cc)
ended_feed c (d ∷ cs) rest h k =
    ended_feed d cs rest (and_parts (not (eqb c 10)) (is_ended (d ∷ cs)) h).1 (and_parts (not (eqb c 10)) (list_all (λ b. not (b == 10)) ((d ∷ cs) ++ rest)) k).1

no_line_end : (body rest : List ℕ) → IsTrue (is_ended body) → IsTrue (is_end ((47 ∷ 47 ∷ body) ++ rest)) → ⊥
no_line_end [] rest h k = absurd (cc)
no_line_end (c ∷ cs) rest h k = ended_feed c cs rest h k

-- an end that is not nothing begins with `//`
slash_slash : (c d : ℕ) (cs : List ℕ) → IsTrue (is_end (c ∷ d ∷ cs)) → (c ≡ 47) × (d ≡ 47)
slash_slash c d cs h =
    let a = and_parts (eqb c 47 && eqb d 47) (list_all (λ b. not (b == 10)) cs) h in
    let b = and_parts (eqb c 47) (eqb d 47) a.0 in (eqb-true c 47 b.0, eqb-true d 47 b.1)

end_first : (c : ℕ) (cs : List ℕ) → IsTrue (is_end (c ∷ cs)) → c ≡ 47
end_first c [] h = absurd (cc)
end_first c (d ∷ cs) h = (slash_slash c d cs h).0

-- so no space, no token and no part begins it
end_form : (l text rest : List ℕ) → IsTrue (is_end l) → l ≡ text ++ rest → Form text → ⊥
end_form l text rest h e (Blank c i g) = no_gap c g (end_first c rest (sym (ap is_end (e ∙ ap (λ x. x ++ rest) i)) ∙ h))
end_form l text rest h e (Line body i g) = no_line_end body rest g (sym (ap is_end (e ∙ ap (λ x. x ++ rest) i)) ∙ h)
end_form l text rest h e (Block body i g) = omega (arith, (slash_slash 47 42 (body ++ rest) (sym (ap is_end (e ∙ ap (λ x. x ++ rest) i)) ∙ h)).1)

end_token : (text rest : List ℕ) → IsTrue (is_end (text ++ rest)) → IsTrue (is_token text) → ⊥
end_token [] rest h t = absurd (cc)
end_token (c ∷ text) rest h t = both_ways (is_token (c ∷ text)) (no_token c text (or_right (is_gap c) (eqb c 47) (eq-eqb c 47 (end_first c (text ++ rest) h)))) t

end_part : (l : List ℕ) → IsTrue (is_end l) → (part : Part) (rest : List ℕ) → l ≡ bytes_of part ++ rest → IsPart part rest → ⊥
end_part l h (Space text) rest e p = end_form l text rest h e (form_of text p)
end_part l h (Word text) rest e p = end_token text rest (sym (ap is_end e) ∙ h) p.token

pub end_halts : (l : List ℕ) → IsTrue (is_end l) → Halts l
end_halts l h = record { none = end_part l h }

-- ---- nothing begins stuck bytes

-- a token has bytes
token_length : (text : List ℕ) → IsTrue (is_token text) → 0 < length text
token_length [] h = absurd (cc)
token_length (c ∷ text) h = omega arith

-- its longest front is no token within its limit
stuck_word : (l text rest : List ℕ) → IsStuck l → l ≡ text ++ rest → IsWord text rest → ⊥
stuck_word l text rest s e w =
    let same : longest l ≡ length text = ap longest e ∙ w.longest_is in
    let some = token_length text w.token in
    let front : take (longest l) l ≡ text = ap (λ n. take n l) same ∙ ap (take (length text)) e ∙ take_at text rest (length text) refl in
    elim s.no_word as (λ _. ⊥) [
      | inl z ↦ omega arith
      | inr o ↦ both_ways (is_within text) (sym (ap is_within front) ∙ o.1) w.within
    ]

stuck_part : (l : List ℕ) → IsStuck l → (part : Part) (rest : List ℕ) → l ≡ bytes_of part ++ rest → IsPart part rest → ⊥
stuck_part l s (Space text) rest e p = s.no_space text rest e p
stuck_part l s (Word text) rest e p = stuck_word l text rest s e p

pub stuck_halts : (l : List ℕ) → IsStuck l → Halts l
stuck_halts l s = record { none = stuck_part l s }

-- ---- the law

-- the three clauses, each by the two lists of parts
pub one : (bytes : List ℕ) (ps qs : List Lexeme) → HasLexemes bytes ps → HasLexemes bytes qs → ps ≡ qs
one bytes ps qs h g =
    let m = same_parts bytes h.parts g.parts h.left g.left h.begins g.begins (end_halts h.left h.ends) (end_halts g.left g.ends) in h.is ∙ ap (lexemes 0) m.parts ∙ sym g.is

pub never : (bytes : List ℕ) (ps : List Lexeme) (at : ℕ) → HasLexemes bytes ps → IsStuckAt bytes at → ⊥
never bytes ps at h g =
    let m = same_parts bytes h.parts g.parts h.left g.left h.begins g.begins (end_halts h.left h.ends) (stuck_halts g.left g.stuck) in
    both_ways (is_end g.left) g.stuck.no_end (sym (ap is_end m.left) ∙ h.ends)

pub place : (bytes : List ℕ) (at other : ℕ) → IsStuckAt bytes at → IsStuckAt bytes other → at ≡ other
place bytes at other h g =
    let m = same_parts bytes h.parts g.parts h.left g.left h.begins g.begins (stuck_halts h.left h.stuck) (stuck_halts g.left g.stuck) in h.is ∙ ap size m.parts ∙ sym g.is
