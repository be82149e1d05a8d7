-- That any bytes have tokens, or a place where they are stuck, in any language.
use Rattle.std.proofs.Common.{◌≡◌, ◌∙◌, ◌⊎◌, inl, inr, ap, refl, sym, ℕ, zero, suc, ◌<◌, ◌≤◌, Bool, true, false, List, [], ◌∷◌, ◌++◌, length, take, drop, IsTrue, arith, length-append, length-take-le}
use Rattle.std.proofs.lemmas.Bool.{both_ways, or_left}
use Rattle.nk_base.specs.Byte.{is_gap}
use Rattle.nml_lex.specs.Cut.{Begins, BeginsNone}
use Rattle.nml_lex.specs.Form.{is_end, is_space, is_token}
use Rattle.nml_lex.specs.Lexed.{Part, Space, Word, Lexeme, bytes_of, lexemes, size}
use Rattle.nml_lex.specs.Lexed as nml
use Rattle.nml_lex.proofs.Parts.{end_halts}
use Rattle.nml_lex.proofs.Settled as nml_settled
use Rattle.nml_lex.proofs.Spaces.{Form, Blank, Line, Block, form_of}
use Rattle.nml_lex.proofs.Words.{is_apart, no_token}
use Rattle.c_lex.specs.Lexing.{Lexicon, longest, IsPart, IsStuck, IsHaltedAt, BeginsWith, HasTokens}
use Rattle.c_lex.proofs.Longest.{longest_within, word_is, word_front}

-- ---- whether a space stands in front

-- one does, with this rest, or none does
abbrev Cuts : List ℕ → Type 0
Cuts bytes = ((rest : List ℕ) × Begins is_space bytes rest) ⊎ BeginsNone is_space bytes

-- the first byte of two fronts of the same bytes
first_same : (bytes text rest cs word behind : List ℕ) (c d : ℕ) → bytes ≡ text ++ rest → text ≡ c ∷ cs → bytes ≡ (d ∷ word) ++ behind → c ≡ d
first_same bytes text rest cs word behind c d e f g = cc

-- a description's token in front: no space is there
apart_form : (bytes text rest : List ℕ) → bytes ≡ text ++ rest → Form text → (word behind : List ℕ) → bytes ≡ word ++ behind → IsTrue (is_token word) → ⊥
apart_form bytes text rest e f [] behind g t = absurd (cc)
apart_form bytes text rest e (Blank c i h) (d ∷ word) behind g t =
    both_ways (is_token (d ∷ word)) (no_token d word (ap is_apart (sym (first_same bytes text rest [] word behind c d e i g)) ∙ or_left (is_gap c) _ h)) t
apart_form bytes text rest e (Line body i h) (d ∷ word) behind g t =
    both_ways (is_token (d ∷ word)) (no_token d word (ap is_apart (sym (first_same bytes text rest (47 ∷ body) word behind 47 d e i g)))) t
apart_form bytes text rest e (Block body i h) (d ∷ word) behind g t =
    both_ways (is_token (d ∷ word)) (no_token d word (ap is_apart (sym (first_same bytes text rest (42 ∷ body) word behind 47 d e i g)))) t

-- The bytes are cut as those of a description, whose spaces are the same: where its first part is one, it stands in front.
first_cut : (bytes : List ℕ) (parts : List Part) (left : List ℕ) → nml.BeginsWith bytes parts left → (BeginsNone is_space left) → Cuts bytes
first_cut bytes [] left b h = inr (record { none = λ text rest e s. h.none text rest (sym b ∙ e) s })
first_cut bytes (Space text ∷ parts) left b h = inl (b.0, record { text = text; is = b.1; passes = b.2 })
first_cut bytes (Word word ∷ parts) left b h = inr (record { none = λ text rest e s. apart_form bytes text rest e (form_of text s) word b.0 b.1 b.2.token })

space_cut : (bytes : List ℕ) → Cuts bytes
space_cut bytes = elim (nml_settled.some bytes) as (λ _. Cuts bytes) [
  | inl s ↦ first_cut bytes s.1.parts s.1.left s.1.begins (record { none = λ text rest e p. (end_halts s.1.left s.1.ends).none (Space text) rest e p })
  | inr s ↦ first_cut bytes s.1.parts s.1.left s.1.begins (record { none = s.1.stuck.no_space })
]

-- ---- all parts

-- parts up to an end, or to where the bytes are stuck
data Parted (l : Lexicon) (bytes : List ℕ) : Type 0 where
  Whole : (parts : List Part) (left : List ℕ) → BeginsWith l bytes parts left → IsTrue (is_end left) → Parted l bytes
  Halted : (parts : List Part) (left : List ℕ) → BeginsWith l bytes parts left → IsStuck l left → Parted l bytes

-- a part in front of others
part_more : (l : Lexicon) (bytes rest : List ℕ) (p : Part) → bytes ≡ bytes_of p ++ rest → IsPart l p rest → Parted l rest → Parted l bytes
part_more l bytes rest p e i (Whole parts left b h) = Whole (p ∷ parts) left (rest, e, i, b) h
part_more l bytes rest p e i (Halted parts left b h) = Halted (p ∷ parts) left (rest, e, i, b) h

-- what separates tokens has a byte
some_byte : (text : List ℕ) → IsTrue (is_space text) → 0 < length text
some_byte [] h = absurd (cc)
some_byte (c ∷ text) h = omega arith

-- behind each part fewer bytes are left
parted : (l : Lexicon) (n : ℕ) (bytes : List ℕ) → length bytes ≤ n → Parted l bytes
parted l zero [] le = Whole [] [] refl refl
parted l zero (c ∷ cs) le = absurd (omega (arith, le))
parted l (suc n) bytes le = at_end (parted l n) (is_end bytes) refl
  where
    at_word : ((rest : List ℕ) → length rest ≤ n → Parted l rest) → is_end bytes ≡ false → BeginsNone is_space bytes → (k : ℕ) → longest l bytes ≡ k → (b : Bool)
        → l.is_within (take (longest l bytes) bytes) ≡ b → Parted l bytes
    at_word more h o zero e b f = Halted [] bytes refl (record { no_end = h; no_space = o.none; no_word = inl e })
    at_word more h o (suc k) e false f = Halted [] bytes refl (record { no_end = h; no_space = o.none; no_word = inr (omega (arith, e), f) })
    at_word more h o (suc k) e true f =
        let front : List ℕ = take (suc k) bytes in
        let rest : List ℕ = drop (suc k) bytes in
        let whole : bytes ≡ front ++ rest = word_front bytes front rest (suc k) refl refl in
        let long : length front ≡ suc k = length-take-le (suc k) bytes (omega (arith, e, longest_within l bytes)) in
        part_more l bytes rest (Word front) whole
        (word_is l bytes front rest (suc k) (sym e) refl refl (omega (arith, long)) (ap (λ m. l.is_within (take m bytes)) (sym e) ∙ f))
        (more rest (omega (arith, le, long, ap length whole, length-append front rest)))

    at_space : ((rest : List ℕ) → length rest ≤ n → Parted l rest) → is_end bytes ≡ false → Cuts bytes → Parted l bytes
    at_space more h (inl s) =
        part_more l bytes s.0 (Space s.1.text) s.1.is s.1.passes
        (more s.0 (omega (arith, le, ap length s.1.is, length-append s.1.text s.0, some_byte s.1.text s.1.passes)))
    at_space more h (inr o) = at_word more h o (longest l bytes) refl (l.is_within (take (longest l bytes) bytes)) refl

    at_end : ((rest : List ℕ) → length rest ≤ n → Parted l rest) → (b : Bool) → is_end bytes ≡ b → Parted l bytes
    at_end more true h = Whole [] bytes refl h
    at_end more false h = at_space more h (space_cut bytes)

-- the tokens among them, or the place
answered : (l : Lexicon) (bytes : List ℕ) → Parted l bytes → ((ps : List Lexeme) × HasTokens l bytes ps) ⊎ ((at : ℕ) × IsHaltedAt l bytes at)
answered l bytes (Whole parts left b h) = inl (lexemes 0 parts, record { parts = parts; left = left; begins = b; ends = h; is = refl })
answered l bytes (Halted parts left b h) = inr (size parts, record { parts = parts; left = left; begins = b; stuck = h; is = refl })

pub some : (l : Lexicon) (bytes : List ℕ) → ((ps : List Lexeme) × HasTokens l bytes ps) ⊎ ((at : ℕ) × IsHaltedAt l bytes at)
some l bytes = answered l bytes (parted l (length bytes) bytes (omega arith))
