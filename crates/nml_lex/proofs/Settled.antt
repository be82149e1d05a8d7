-- That any bytes have tokens, or a place where they are stuck.
use Rattle.std.proofs.Common.{◌≡◌, ◌∙◌, ◌⊎◌, inl, inr, ap, refl, sym, ℕ, zero, suc, eqb, ◌&&◌, ◌<◌, ◌≤◌, Bool, true, false, List, [], ◌∷◌, ◌++◌, length, take, drop, IsTrue, arith, eqb-true, length-append, length-take-le}
use Rattle.std.proofs.lemmas.Bool.{and_parts, both_ways}
use Rattle.nk_base.specs.Byte.{is_gap}
use Rattle.nml_lex.specs.Cut.{Begins, BeginsNone}
use Rattle.nml_lex.specs.Form.{is_end, is_ended, is_shut, is_space, is_within, longest}
use Rattle.nml_lex.specs.Lexed.{Part, Space, Word, IsPart, IsStuck, IsStuckAt, BeginsWith, HasLexemes, Lexeme, bytes_of, lexemes, size}
use Rattle.nml_lex.proofs.Cuts.{Narrows, IsOpen, line_step, block_step, line_space, block_space, blank_space, line_no_space, block_no_space, other_no_space}
use Rattle.nml_lex.proofs.Begun.{longest_within, word_is, word_front}

-- ---- whether a text that passes a test stands in front

-- it does, with this rest, or none does
abbrev Cuts : (List ℕ → Bool) → List ℕ → Type 0
Cuts test bytes = ((rest : List ℕ) × Begins test bytes rest) ⊎ BeginsNone test bytes

-- where the bytes begin as the rest does
carried : (test : List ℕ → Bool) (bytes rest : List ℕ) → Narrows test bytes rest → Cuts test rest → Cuts test bytes
carried test bytes rest n (inl c) = inl (c.0, n.back c.0 c.1)
carried test bytes rest n (inr o) = inr (n.none o)

-- a line
line_cut : (bytes : List ℕ) → Cuts is_ended bytes
line_cut [] = inr (record { none = no_text })
  where
    no_text : (text rest : List ℕ) → [] ≡ text ++ rest → IsTrue (is_ended text) → ⊥
    no_text [] rest e h = absurd (cc)
    no_text (c ∷ text) rest e h = absurd (cc)
line_cut (c ∷ cs) = by (line_cut cs) (eqb c 10) refl
  where
    by : Cuts is_ended cs → (b : Bool) → eqb c 10 ≡ b → Cuts is_ended (c ∷ cs)
    by others true h = inl (cs, record { text = c ∷ []; is = refl; passes = h })
    by others false h = carried is_ended (c ∷ cs) cs (line_step c cs h) others

-- two bytes that are not `*/` begin no end of a comment
open_here : (c d : ℕ) (cs : List ℕ) → eqb c 42 && eqb d 47 ≡ false → IsOpen c (d ∷ cs)
open_here c d cs h = record { open_at = λ more e f. let i : d ≡ 47 = cc in both_ways (eqb c 42 && eqb d 47) h (ap (λ x. eqb x 42 && eqb d 47) e ∙ ap (λ x. eqb 42 42 && eqb x 47) i) }

-- a comment's text up to `*/`
block_cut : (bytes : List ℕ) → Cuts is_shut bytes
block_cut [] = inr (record { none = no_text })
  where
    no_text : (text rest : List ℕ) → [] ≡ text ++ rest → IsTrue (is_shut text) → ⊥
    no_text [] rest e h = absurd (cc)
    no_text (c ∷ text) rest e h = absurd (cc)
block_cut (c ∷ []) = inr (record { none = no_text })
  where
    no_text : (text rest : List ℕ) → c ∷ [] ≡ text ++ rest → IsTrue (is_shut text) → ⊥
    no_text [] rest e h = absurd (cc)
    no_text (d ∷ []) rest e h = absurd (cc)
    no_text (d ∷ f ∷ text) rest e h = absurd (cc)
block_cut (c ∷ d ∷ cs) = by (block_cut (d ∷ cs)) (eqb c 42 && eqb d 47) refl
  where
    by : Cuts is_shut (d ∷ cs) → (b : Bool) → eqb c 42 && eqb d 47 ≡ b → Cuts is_shut (c ∷ d ∷ cs)
    by others true h = inl (cs, record { text = c ∷ d ∷ []; is = refl; passes = h })
    by others false h = carried is_shut (c ∷ d ∷ cs) (d ∷ cs) (block_step c (d ∷ cs) (open_here c d cs h)) others

-- two bytes are these, by their tests
two_are : (c d x y : ℕ) (cs : List ℕ) → eqb c x && eqb d y ≡ true → c ∷ d ∷ cs ≡ x ∷ y ∷ cs
two_are c d x y cs h =
    let b = and_parts (eqb c x) (eqb d y) h in
    let e = eqb-true c x b.0 in
    let f = eqb-true d y b.1 in cc

-- or they are not, whatever stands behind them
two_are_not : (c d x y : ℕ) (cs more : List ℕ) → eqb c x && eqb d y ≡ false → eqb x x && eqb y y ≡ true → c ∷ d ∷ cs ≡ x ∷ y ∷ more → ⊥
two_are_not c d x y cs more h k e =
    let i : c ≡ x = cc in
    let j : d ≡ y = cc in both_ways (eqb c x && eqb d y) h (ap (λ z. eqb z x && eqb d y) i ∙ ap (λ z. eqb x x && eqb z y) j ∙ k)

-- one thing that separates tokens
space_cut : (bytes : List ℕ) → Cuts is_space bytes
space_cut [] = inr (record { none = no_text })
  where
    no_text : (text rest : List ℕ) → [] ≡ text ++ rest → IsTrue (is_space text) → ⊥
    no_text [] rest e h = absurd (cc)
    no_text (c ∷ text) rest e h = absurd (cc)
space_cut (c ∷ cs) = by (is_gap c) refl
  where
    line : (body : List ℕ) → c ∷ cs ≡ 47 ∷ 47 ∷ body → Cuts is_ended body → Cuts is_space (c ∷ cs)
    line body e (inl r) = inl (r.0, line_space (c ∷ cs) body r.0 e r.1)
    line body e (inr n) = inr (line_no_space (c ∷ cs) body e n)

    block : (body : List ℕ) → c ∷ cs ≡ 47 ∷ 42 ∷ body → Cuts is_shut body → Cuts is_space (c ∷ cs)
    block body e (inl r) = inl (r.0, block_space (c ∷ cs) body r.0 e r.1)
    block body e (inr n) = inr (block_no_space (c ∷ cs) body e n)

    comment : (ds : List ℕ) → cs ≡ ds → is_gap c ≡ false → Cuts is_space (c ∷ cs)
    comment [] i g = inr (other_no_space (c ∷ cs) c cs refl g (λ more e. absurd (cc)) (λ more e. absurd (cc)))
    comment (d ∷ ds) i g = sort (eqb c 47 && eqb d 47) refl (eqb c 47 && eqb d 42) refl
      where
        sort : (a : Bool) → eqb c 47 && eqb d 47 ≡ a → (b : Bool) → eqb c 47 && eqb d 42 ≡ b → Cuts is_space (c ∷ cs)
        sort true h b k = line ds (ap (λ u. c ∷ u) i ∙ two_are c d 47 47 ds h) (line_cut ds)
        sort false h true k = block ds (ap (λ u. c ∷ u) i ∙ two_are c d 47 42 ds k) (block_cut ds)
        sort false h false k =
            inr (other_no_space (c ∷ cs) c cs refl g (λ more e. two_are_not c d 47 47 ds more h refl (ap (λ u. c ∷ u) (sym i) ∙ e)) (λ more e. two_are_not c d 47 42 ds more k refl (ap (λ u. c ∷ u) (sym i) ∙ e)))

    by : (b : Bool) → is_gap c ≡ b → Cuts is_space (c ∷ cs)
    by true h = inl (cs, blank_space (c ∷ cs) c cs refl h)
    by false h = comment cs refl h

-- ---- all parts

-- parts up to an end, or to where the bytes are stuck
data Parted (bytes : List ℕ) : Type 0 where
  Whole : (parts : List Part) (left : List ℕ) → BeginsWith bytes parts left → IsTrue (is_end left) → Parted bytes
  Halted : (parts : List Part) (left : List ℕ) → BeginsWith bytes parts left → IsStuck left → Parted bytes

-- a part in front of others
part_more : (bytes rest : List ℕ) (p : Part) → bytes ≡ bytes_of p ++ rest → IsPart p rest → Parted rest → Parted bytes
part_more bytes rest p e i (Whole parts left b h) = Whole (p ∷ parts) left (rest, e, i, b) h
part_more bytes rest p e i (Halted parts left b h) = Halted (p ∷ parts) left (rest, e, i, b) h

-- what separates tokens has a byte
some_byte : (text : List ℕ) → IsTrue (is_space text) → 0 < length text
some_byte [] h = absurd (cc)
some_byte (c ∷ text) h = omega arith

-- behind each part fewer bytes are left
parted : (n : ℕ) (bytes : List ℕ) → length bytes ≤ n → Parted bytes
parted zero [] le = Whole [] [] refl refl
parted zero (c ∷ cs) le = absurd (omega (arith, le))
parted (suc n) bytes le = at_end (parted n) (is_end bytes) refl
  where
    at_word : ((rest : List ℕ) → length rest ≤ n → Parted rest) → is_end bytes ≡ false → BeginsNone is_space bytes → (k : ℕ) → longest bytes ≡ k → (b : Bool)
        → is_within (take (longest bytes) bytes) ≡ b → Parted bytes
    at_word more h o zero e b f = Halted [] bytes refl (record { no_end = h; no_space = o.none; no_word = inl e })
    at_word more h o (suc k) e false f = Halted [] bytes refl (record { no_end = h; no_space = o.none; no_word = inr (omega (arith, e), f) })
    at_word more h o (suc k) e true f =
        let front : List ℕ = take (suc k) bytes in
        let rest : List ℕ = drop (suc k) bytes in
        let whole : bytes ≡ front ++ rest = word_front bytes front rest (suc k) refl refl in
        let long : length front ≡ suc k = length-take-le (suc k) bytes (omega (arith, e, longest_within bytes)) in
        part_more bytes rest (Word front) whole
        (word_is bytes front rest (suc k) (sym e) refl refl (omega (arith, long)) (ap (λ m. is_within (take m bytes)) (sym e) ∙ f))
        (more rest (omega (arith, le, long, ap length whole, length-append front rest)))

    at_space : ((rest : List ℕ) → length rest ≤ n → Parted rest) → is_end bytes ≡ false → Cuts is_space bytes → Parted bytes
    at_space more h (inl s) =
        part_more bytes s.0 (Space s.1.text) s.1.is s.1.passes
        (more s.0 (omega (arith, le, ap length s.1.is, length-append s.1.text s.0, some_byte s.1.text s.1.passes)))
    at_space more h (inr o) = at_word more h o (longest bytes) refl (is_within (take (longest bytes) bytes)) refl

    at_end : ((rest : List ℕ) → length rest ≤ n → Parted rest) → (b : Bool) → is_end bytes ≡ b → Parted bytes
    at_end more true h = Whole [] bytes refl h
    at_end more false h = at_space more h (space_cut bytes)

-- the tokens among them, or the place
answered : (bytes : List ℕ) → Parted bytes → ((ps : List Lexeme) × HasLexemes bytes ps) ⊎ ((at : ℕ) × IsStuckAt bytes at)
answered bytes (Whole parts left b h) = inl (lexemes 0 parts, record { parts = parts; left = left; begins = b; ends = h; is = refl })
answered bytes (Halted parts left b h) = inr (size parts, record { parts = parts; left = left; begins = b; stuck = h; is = refl })

pub some : (bytes : List ℕ) → ((ps : List Lexeme) × HasLexemes bytes ps) ⊎ ((at : ℕ) × IsStuckAt bytes at)
some bytes = answered bytes (parted (length bytes) bytes (omega arith))
