-- What stands in front of bytes: a line with its line feed, a comment up to its `*/`, one thing that separates tokens.
use Rattle.std.proofs.Common.{◌≡◌, ◌∙◌, ap, refl, sym, subst, ℕ, eqb, not, ◌&&◌, Bool, true, false, List, [], ◌∷◌, ◌++◌, IsTrue, arith, eqb-true, Option, Some, None, MatchOption, Bor}
use Rattle.std.proofs.lemmas.Bool.{and_parts, and_from, both_ways, not_from_false, or_left, false_from_ne_true}
use Rattle.nk_base.specs.Byte.{is_gap}
use Rattle.nml_lex.specs.Cut.{Begins, BeginsNone}
use Rattle.nml_lex.specs.Form.{is_ended, is_shut, is_space}
use Rattle.nml_lex.proofs.Spaces.{Form, Blank, Line, Block, form_of, no_gap}

-- the bytes begin as the rest does
pub record Narrows (test : List ℕ → Bool) (bytes rest : List ℕ) : Type 0 where
  pub back : (after : List ℕ) → Begins test rest after → Begins test bytes after
  pub none : BeginsNone test rest → BeginsNone test bytes

-- of two steps
narrows_more : (test : List ℕ → Bool) (bytes rest less : List ℕ) → Narrows test bytes rest → Narrows test rest less → Narrows test bytes less
narrows_more test bytes rest less n m = record { back = λ after b. n.back after (m.back after b); none = λ o. n.none (m.none o) }

-- ---- lines

-- a line, one byte longer at its front, and one byte shorter
longer_line : (c : ℕ) (text : List ℕ) → eqb c 10 ≡ false → IsTrue (is_ended text) → IsTrue (is_ended (c ∷ text))
longer_line c [] h g = absurd (cc)
longer_line c (d ∷ text) h g = and_from (not (eqb c 10)) (is_ended (d ∷ text)) (not_from_false (eqb c 10) h) g

shorter_line : (c : ℕ) (cs text rest : List ℕ) → eqb c 10 ≡ false → BeginsNone is_ended cs → c ∷ cs ≡ text ++ rest → IsTrue (is_ended text) → ⊥
shorter_line c cs [] rest h n e g = absurd (cc)
shorter_line c cs (d ∷ []) rest h n e g = let i : c ≡ d = cc in let k : eqb c 10 ≡ eqb d 10 = ap (λ x. eqb x 10) i in absurd (cc)
shorter_line c cs (d ∷ f ∷ text) rest h n e g = n.none (f ∷ text) rest (cc) (and_parts (not (eqb d 10)) (is_ended (f ∷ text)) g).1

pub line_step : (c : ℕ) (cs : List ℕ) → eqb c 10 ≡ false → Narrows is_ended (c ∷ cs) cs
line_step c cs h = record {
  back = λ after b. record { text = c ∷ b.text; is = ap (λ t. c ∷ t) b.is; passes = longer_line c b.text h b.passes };
  none = λ n. record { none = λ text rest e g. shorter_line c cs text rest h n e g };
}

-- one byte that is no line feed is passed over
pub line_more : (bytes rest : List ℕ) (c : ℕ) (cs : List ℕ) → Narrows is_ended bytes rest → rest ≡ c ∷ cs → eqb c 10 ≡ false → Narrows is_ended bytes cs
line_more bytes rest c cs n e h = narrows_more is_ended bytes (c ∷ cs) cs (subst (Narrows is_ended bytes) e n) (line_step c cs h)

-- at the line feed
pub line_found : (bytes rest : List ℕ) (c : ℕ) (cs : List ℕ) → Narrows is_ended bytes rest → rest ≡ c ∷ cs → eqb c 10 ≡ true → Begins is_ended bytes cs
line_found bytes rest c cs n e h = n.back cs (record { text = c ∷ []; is = e; passes = h })

-- ---- comments up to `*/`

-- a byte and those behind it do not begin with `*/`
pub record IsOpen (c : ℕ) (cs : List ℕ) : Type 0 where
  pub open_at : (more : List ℕ) → c ≡ 42 → cs ≡ 47 ∷ more → ⊥

no_end_here : (c d : ℕ) (cs more : List ℕ) → IsOpen c cs → cs ≡ d ∷ more → eqb c 42 && eqb d 47 ≡ true → ⊥
no_end_here c d cs more o e h = let b = and_parts (eqb c 42) (eqb d 47) h in let i = eqb-true d 47 b.1 in o.open_at more (eqb-true c 42 b.0) (cc)

-- the text of a comment, one byte longer at its front, and one byte shorter
longer_block : (c : ℕ) (cs text rest : List ℕ) → IsOpen c cs → cs ≡ text ++ rest → IsTrue (is_shut text) → IsTrue (is_shut (c ∷ text))
longer_block c cs [] rest o e g = absurd (cc)
longer_block c cs (d ∷ []) rest o e g = absurd (cc)
longer_block c cs (d ∷ f ∷ text) rest o e g =
    and_from (not (eqb c 42 && eqb d 47)) (is_shut (d ∷ f ∷ text)) (not_from_false (eqb c 42 && eqb d 47) (false_from_ne_true (eqb c 42 && eqb d 47) (no_end_here c d cs (f ∷ (text ++ rest)) o e))) g

shorter_block : (c : ℕ) (cs text rest : List ℕ) → IsOpen c cs → BeginsNone is_shut cs → c ∷ cs ≡ text ++ rest → IsTrue (is_shut text) → ⊥
shorter_block c cs [] rest o n e g = absurd (cc)
shorter_block c cs (d ∷ []) rest o n e g = absurd (cc)
shorter_block c cs (d ∷ f ∷ []) rest o n e g = let i : c ≡ d = cc in no_end_here c f cs rest o (cc) (ap (λ x. eqb x 42 && eqb f 47) i ∙ g)
shorter_block c cs (d ∷ f ∷ k ∷ text) rest o n e g = n.none (f ∷ k ∷ text) rest (cc) (and_parts (not (eqb d 42 && eqb f 47)) (is_shut (f ∷ k ∷ text)) g).1

pub block_step : (c : ℕ) (cs : List ℕ) → IsOpen c cs → Narrows is_shut (c ∷ cs) cs
block_step c cs o = record {
  back = λ after b. record { text = c ∷ b.text; is = ap (λ t. c ∷ t) b.is; passes = longer_block c cs b.text after o b.is b.passes };
  none = λ n. record { none = λ text rest e g. shorter_block c cs text rest o n e g };
}

-- one byte that begins no `*/` is passed over
pub block_more : (bytes rest : List ℕ) (c : ℕ) (cs : List ℕ) → Narrows is_shut bytes rest → rest ≡ c ∷ cs → ((more : List ℕ) → rest ≡ 42 ∷ 47 ∷ more → ⊥) → Narrows is_shut bytes cs
block_more bytes rest c cs n e o =
    let open_here : IsOpen c cs = record { open_at = λ more f g. o more (cc) } in narrows_more is_shut bytes (c ∷ cs) cs (subst (Narrows is_shut bytes) e n) (block_step c cs open_here)

-- at `*/`
pub block_found : (bytes rest more : List ℕ) → Narrows is_shut bytes rest → rest ≡ 42 ∷ 47 ∷ more → Begins is_shut bytes more
block_found bytes rest more n e = n.back more (record { text = 42 ∷ 47 ∷ []; is = e; passes = refl })

-- ---- one thing that separates tokens

-- each of the three forms is a space
pub line_space : (bytes body after : List ℕ) → bytes ≡ 47 ∷ 47 ∷ body → Begins is_ended body after → Begins is_space bytes after
line_space bytes body after e b = record { text = 47 ∷ 47 ∷ b.text; is = e ∙ ap (λ t. 47 ∷ 47 ∷ t) b.is; passes = or_left (is_ended b.text) _ b.passes }

pub block_space : (bytes body after : List ℕ) → bytes ≡ 47 ∷ 42 ∷ body → Begins is_shut body after → Begins is_space bytes after
block_space bytes body after e b = record { text = 47 ∷ 42 ∷ b.text; is = e ∙ ap (λ t. 47 ∷ 42 ∷ t) b.is; passes = b.passes }

pub blank_space : (bytes : List ℕ) (c : ℕ) (rest : List ℕ) → bytes ≡ c ∷ rest → is_gap c ≡ true → Begins is_space bytes rest
blank_space bytes c rest e h = record { text = c ∷ []; is = e; passes = or_left (is_gap c) _ h }

-- the first byte of bytes that begin with a form, and the next
first_is : (c d : ℕ) (cs ds : List ℕ) → c ∷ cs ≡ d ∷ ds → c ≡ d
first_is c d cs ds e = cc

second_is : (b c d f : ℕ) (cs ds : List ℕ) → b ∷ c ∷ cs ≡ d ∷ f ∷ ds → c ≡ f
second_is b c d f cs ds e = cc

behind_two : (b c d f : ℕ) (cs ds : List ℕ) → b ∷ c ∷ cs ≡ d ∷ f ∷ ds → cs ≡ ds
behind_two b c d f cs ds e = cc

at_form : (bytes x text y rest : List ℕ) → bytes ≡ x → bytes ≡ text ++ rest → text ≡ y → x ≡ y ++ rest
at_form bytes x text y rest e f g = cc

-- where a comment has no end, no space begins
no_line_form : (bytes body text rest : List ℕ) → bytes ≡ 47 ∷ 47 ∷ body → BeginsNone is_ended body → bytes ≡ text ++ rest → Form text → ⊥
no_line_form bytes body text rest e n f (Blank c i h) = no_gap c h (sym (first_is 47 c (47 ∷ body) rest (at_form bytes (47 ∷ 47 ∷ body) text (c ∷ []) rest e f i)))
no_line_form bytes body text rest e n f (Line b i h) = n.none b rest (behind_two 47 47 47 47 body (b ++ rest) (at_form bytes (47 ∷ 47 ∷ body) text (47 ∷ 47 ∷ b) rest e f i)) h
no_line_form bytes body text rest e n f (Block b i h) = omega (arith, second_is 47 47 47 42 body (b ++ rest) (at_form bytes (47 ∷ 47 ∷ body) text (47 ∷ 42 ∷ b) rest e f i))

pub line_no_space : (bytes body : List ℕ) → bytes ≡ 47 ∷ 47 ∷ body → BeginsNone is_ended body → BeginsNone is_space bytes
line_no_space bytes body e n = record { none = λ text rest f h. no_line_form bytes body text rest e n f (form_of text h) }

no_block_form : (bytes body text rest : List ℕ) → bytes ≡ 47 ∷ 42 ∷ body → BeginsNone is_shut body → bytes ≡ text ++ rest → Form text → ⊥
no_block_form bytes body text rest e n f (Blank c i h) = no_gap c h (sym (first_is 47 c (42 ∷ body) rest (at_form bytes (47 ∷ 42 ∷ body) text (c ∷ []) rest e f i)))
no_block_form bytes body text rest e n f (Line b i h) = omega (arith, second_is 47 42 47 47 body (b ++ rest) (at_form bytes (47 ∷ 42 ∷ body) text (47 ∷ 47 ∷ b) rest e f i))
no_block_form bytes body text rest e n f (Block b i h) = n.none b rest (behind_two 47 42 47 42 body (b ++ rest) (at_form bytes (47 ∷ 42 ∷ body) text (47 ∷ 42 ∷ b) rest e f i)) h

pub block_no_space : (bytes body : List ℕ) → bytes ≡ 47 ∷ 42 ∷ body → BeginsNone is_shut body → BeginsNone is_space bytes
block_no_space bytes body e n = record { none = λ text rest f h. no_block_form bytes body text rest e n f (form_of text h) }

-- what stands behind a comment, where it has an end
pub line_behind : (bytes body : List ℕ) (r : Option (Bor (List ℕ))) → bytes ≡ 47 ∷ 47 ∷ body → MatchOption r (BeginsNone is_ended body) (λ x. Begins is_ended body x.now) → MatchOption r (BeginsNone is_space bytes) (λ x. Begins is_space bytes x.now)
line_behind bytes body None e h = line_no_space bytes body e h
line_behind bytes body (Some x) e h = line_space bytes body x.now e h

pub block_behind : (bytes body : List ℕ) (r : Option (Bor (List ℕ))) → bytes ≡ 47 ∷ 42 ∷ body → MatchOption r (BeginsNone is_shut body) (λ x. Begins is_shut body x.now) → MatchOption r (BeginsNone is_space bytes) (λ x. Begins is_space bytes x.now)
block_behind bytes body None e h = block_no_space bytes body e h
block_behind bytes body (Some x) e h = block_space bytes body x.now e h

other_form : (bytes : List ℕ) (c : ℕ) (cs text rest : List ℕ) → bytes ≡ c ∷ cs → is_gap c ≡ false → ((more : List ℕ) → bytes ≡ 47 ∷ 47 ∷ more → ⊥) → ((more : List ℕ) → bytes ≡ 47 ∷ 42 ∷ more → ⊥)
    → bytes ≡ text ++ rest → Form text → ⊥
other_form bytes c cs text rest e g n m f (Blank d i h) =
    let same : c ≡ d = first_is c d cs rest (at_form bytes (c ∷ cs) text (d ∷ []) rest e f i) in
    both_ways (is_gap d) (ap is_gap (sym same) ∙ g) h
other_form bytes c cs text rest e g n m f (Line b i h) = n (b ++ rest) (at_form bytes bytes text (47 ∷ 47 ∷ b) rest refl f i)
other_form bytes c cs text rest e g n m f (Block b i h) = m (b ++ rest) (at_form bytes bytes text (47 ∷ 42 ∷ b) rest refl f i)

-- a byte in front that is no blank and begins no comment
pub other_no_space : (bytes : List ℕ) (c : ℕ) (cs : List ℕ) → bytes ≡ c ∷ cs → is_gap c ≡ false → ((more : List ℕ) → bytes ≡ 47 ∷ 47 ∷ more → ⊥) → ((more : List ℕ) → bytes ≡ 47 ∷ 42 ∷ more → ⊥) → BeginsNone is_space bytes
other_no_space bytes c cs e g n m = record { none = λ text rest f h. other_form bytes c cs text rest e g n m f (form_of text h) }
