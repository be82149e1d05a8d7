-- What the reading of the symbols says of the bytes.
use Rattle.std.proofs.Common.{ℕ, zero, suc, ◌+◌, ◌-◌, ◌<◌, ◌≤◌, Bool, true, false, if◌then◌else◌, List, [], ◌∷◌, ◌++◌, drop, length, map, ◌≡◌, refl, sym, ◌∙◌, ap, subst, arith}
use Rattle.std.specs.Prelude.{slice_index_or}
use Rattle.std.specs.List.{AllByRecursion}
use Rattle.std.proofs.lemmas.List.{length-append}
use Rattle.c_tree.specs.declared.program.Global.{Global}
use Rattle.readings.specs.Symbol.{Symbol, first_place}
use Rattle.readings.specs.Reading.{Found, Stuck}
use Rattle.readings.specs.Seen.{Comes, Fails}
use Rattle.readings.specs.declared.stop.Stop.TheVariants as stops
use Rattle.c_tree.specs.Items.{item}
use Rattle.nml_lex.specs.Lexed.{Part, Space, Word, Lexeme, bytes_of, lexemes, lexeme_of, size}
use Rattle.nml_lex.specs.declared.scan.Token.{Token}
use Rattle.c_lex.specs.Form.{is_outside}
use Rattle.c_lex.specs.Lexing.{BeginsWith}
use Rattle.c_lex.specs.Lexed.{c, HasLexemes, IsStuckAt}
use Rattle.c_grammar.specs.Programs.{program_read}
use Rattle.c_grammar.specs.Trees.{symbol, outside_places, IsTree, HasNoTree}
use Rattle.c_grammar.proofs.Programs.{stuck_tree}
use Rattle.c_grammar.proofs.SomeReading.{none_where, read_found}
use Rattle.c_read.specs.Seen.{IsSound}

-- ---- places

-- the place where bytes are stuck is one of theirs
parts_within : (bytes : List ℕ) (parts : List Part) (left : List ℕ) → BeginsWith c bytes parts left → size parts ≤ length bytes
parts_within bytes [] left b = omega arith
parts_within bytes (q ∷ parts) left b = omega (arith, ap length b.1, length-append (bytes_of q) b.0, parts_within b.0 parts left b.3)

pub stuck_within : (bytes : List ℕ) (at : ℕ) → IsStuckAt bytes at → at ≤ length bytes
stuck_within bytes at h = omega (arith, h.is, parts_within bytes h.parts h.left h.begins)

-- ---- tokens

-- the first of some is no token that is left out, and the others have none
none_first : (b : Bool) (x : ℕ) (xs : List ℕ) → (if b then x ∷ xs else xs) ≡ [] → (b ≡ false) × (xs ≡ [])
none_first true x xs e = absurd (cc)
none_first false x xs e = (refl, e)

-- each token is one that programs have, and within its limit
sound_lexemes : (bytes : List ℕ) (parts : List Part) (left : List ℕ) (at : ℕ) → BeginsWith c bytes parts left → outside_places (lexemes at parts) ≡ []
    → AllByRecursion IsSound (lexemes at parts)
sound_lexemes bytes [] left at b o = tt
sound_lexemes bytes (Space text ∷ parts) left at b o = sound_lexemes b.0 parts left (at + length text) b.3 o
sound_lexemes bytes (Word text ∷ parts) left at b o =
    let i = none_first (is_outside text) at (outside_places (lexemes (at + length text) parts)) o in
    ((b.2.token, b.2.within, i.0), sound_lexemes b.0 parts left (at + length text) b.3 i.1)

-- at each place
at_place : (ts : List Token) → AllByRecursion IsSound (map lexeme_of ts) → (k : ℕ) (d : Token) → k < length ts → IsSound (lexeme_of (slice_index_or ts k d))
at_place [] h k d lt = elim lt [ ]
at_place (t ∷ ts) h zero d lt = h.0
at_place (t ∷ ts) h (suc k) d lt = at_place ts h.1 k d (omega (arith, lt))

pub sound_tokens : (bytes : List ℕ) (ts : List Token) → HasLexemes bytes (map lexeme_of ts) → outside_places (map lexeme_of ts) ≡ [] → (k : ℕ) (d : Token) → k < length ts
    → IsSound (lexeme_of (slice_index_or ts k d))
sound_tokens bytes ts h o =
    at_place ts (subst (AllByRecursion IsSound) (sym h.is) (sound_lexemes bytes h.parts h.left 0 h.begins (subst (λ ps. outside_places ps ≡ []) h.is o)))

-- ---- the first token that is left out

-- the token there and those behind it
pub left_from : (ts : List Token) (k : ℕ) (d : Token) → k < length ts → drop k ts ≡ slice_index_or ts k d ∷ drop (suc k) ts
left_from [] k d lt = elim lt [ ]
left_from (t ∷ ts) zero d lt = refl
left_from (t ∷ ts) (suc k) d lt = left_from ts k d (omega (arith, lt))

-- one that is left out
pub is_first : (ts : List Token) (t : Token) (rest : List Token) → ts ≡ t ∷ rest → is_outside t.text.now ≡ true
    → outside_places (map lexeme_of ts) ≡ t.at ∷ outside_places (map lexeme_of rest)
is_first ts t rest is o = rw (is, o) refl

-- one that isn't
pub not_first : (ts : List Token) (t : Token) (rest : List Token) → ts ≡ t ∷ rest → is_outside t.text.now ≡ false
    → outside_places (map lexeme_of ts) ≡ outside_places (map lexeme_of rest)
not_first ts t rest is o = rw (is, o) refl

-- ---- a program

-- what was found to the end is the program of the bytes
pub is_tree : (bytes : List ℕ) (ps : List Lexeme) (ss : List Symbol) (xs : List Global) → HasLexemes bytes ps → ss ≡ map symbol ps → Comes program_read ss (Found (map item xs) [])
    → IsTree bytes (record { globals = xs })
is_tree bytes ps ss xs h is k =
    read_found bytes ps k.calls (record { globals = xs }) [] h (subst (λ us. program_read k.calls us ≡ Found (map item xs) []) is (k.is k.calls (omega arith)))

-- ---- no program

-- the last so many of these are what stands behind the front
behind_front : (front rest : List Symbol) (left : ℕ) → length rest ≡ left → drop (length (front ++ rest) - left) (front ++ rest) ≡ rest
behind_front [] rest left is =
    let none : length rest - left ≡ 0 = omega (arith, is) in
    ap (λ n. drop n rest) none
behind_front (s ∷ front) rest left is =
    let one_more : length (s ∷ (front ++ rest)) - left ≡ suc (length (front ++ rest) - left) = omega (arith, is, length-append front rest) in
    ap (λ n. drop n (s ∷ (front ++ rest))) one_more ∙ behind_front front rest left is

-- where the reading is stuck there is none
pub has_no_tree : (bytes : List ℕ) (ps : List Lexeme) (ss : List Symbol) (left at : ℕ) → HasLexemes bytes ps → outside_places ps ≡ [] → ss ≡ map symbol ps
    → Fails (stops.Stuck left) program_read ss → at ≡ first_place (length bytes) (drop (length ss - left) ss) → HasNoTree bytes at
has_no_tree bytes ps ss left at h i is (rest, n_is, k) e =
    let t = stuck_tree ss rest (k.calls, k.is) in
    let u = stuck_tree (map symbol ps) rest (k.calls, λ n le. subst (λ us. program_read n us ≡ Stuck rest) is (k.is n le)) in
    subst (HasNoTree bytes) (sym (e ∙ ap (first_place (length bytes)) (ap (λ us. drop (length us - left) us) t.whole ∙ behind_front t.front rest left n_is)))
    (none_where bytes ps rest h i u)
