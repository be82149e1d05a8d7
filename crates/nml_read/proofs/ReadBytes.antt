-- What the reading of the symbols says of the bytes.
use Rattle.std.proofs.Common.{ℕ, zero, suc, ◌+◌, ◌-◌, ◌<◌, List, [], ◌∷◌, ◌++◌, drop, length, map, ◌≡◌, sym, ◌∙◌, ap, subst, arith}
use Rattle.std.specs.Prelude.{Result, Ok, Err, MatchResult, slice_index_or}
use Rattle.std.specs.List.{AllByRecursion}
use Rattle.std.proofs.lemmas.List.{length-append}
use Rattle.nml_tree.specs.declared.tree.Desc.{Desc}
use Rattle.nml_tree.specs.declared.tree.Item.{Item}
use Rattle.nml_tree.specs.declared.fault.DescFault.{DescFault}
use Rattle.readings.specs.Symbol.{Symbol, first_place}
use Rattle.nml_tree.specs.Floats.{float_places}
use Rattle.nml_tree.specs.SpellsTree.{SpellsTree}
use Rattle.nml_lex.specs.Lexed.{Part, Space, Word, BeginsWith, HasLexemes, Lexeme, lexemes, lexeme_of}
use Rattle.nml_lex.specs.declared.scan.Token.{Token}
use Rattle.readings.specs.Reading.{Found}
use Rattle.nml_grammar.specs.ReadingItems.{item_list}
use Rattle.nml_read.specs.Seen.{IsSound}
use Rattle.readings.specs.Seen.{Comes, Fails}
use Rattle.nml_grammar.specs.Trees.{symbol, IsTree, HasNoTree, HasFloatFault, IsReadFault}
use Rattle.nml_grammar.proofs.WholeTrees.{found_tree, stuck_tree}
use Rattle.nml_tree.specs.declared.fault.DescFault.TheVariants as faults
use Rattle.readings.specs.declared.stop.Stop.TheVariants as stops

-- ---- tokens

-- each token is one, and within its limit
sound_lexemes : (bytes : List ℕ) (parts : List Part) (left : List ℕ) (at : ℕ) → BeginsWith bytes parts left → AllByRecursion IsSound (lexemes at parts)
sound_lexemes bytes [] left at b = tt
sound_lexemes bytes (Space text ∷ parts) left at b = sound_lexemes b.0 parts left (at + length text) b.3
sound_lexemes bytes (Word text ∷ parts) left at b = ((b.2.token, b.2.within), sound_lexemes b.0 parts left (at + length text) b.3)

-- at each place
at_place : (ts : List Token) → AllByRecursion IsSound (map lexeme_of ts) → (k : ℕ) (d : Token) → k < length ts → IsSound (lexeme_of (slice_index_or ts k d))
at_place [] h k d lt = elim lt [ ]
at_place (t ∷ ts) h zero d lt = h.0
at_place (t ∷ ts) h (suc k) d lt = at_place ts h.1 k d (omega (arith, lt))

pub sound_tokens : (bytes : List ℕ) (ts : List Token) → HasLexemes bytes (map lexeme_of ts) → (k : ℕ) (d : Token) → k < length ts → IsSound (lexeme_of (slice_index_or ts k d))
sound_tokens bytes ts h = at_place ts (subst (AllByRecursion IsSound) (sym h.is) (sound_lexemes bytes h.parts h.left 0 h.begins))

-- ---- a description

-- what was found to the end is the description of the bytes
pub is_tree : (bytes : List ℕ) (ps : List Lexeme) (ss : List Symbol) (xs : List Item) → HasLexemes bytes ps → ss ≡ map symbol ps → Comes item_list ss (Found xs []) → IsTree bytes (record { items = xs })
is_tree bytes ps ss xs h is c =
    record { tokens = ps; has = h; spells = subst (λ us. SpellsTree us (record { items = xs })) is (found_tree c.calls ss xs [] (c.is c.calls (omega arith))).1 }

-- it is the answer, or its first type `float`
pub without_float : (bytes : List ℕ) (d : Desc) (r : Result Desc DescFault) → IsTree bytes d → MatchResult r (λ e. (e ≡ d) × (float_places e ≡ [])) (HasFloatFault d)
    → MatchResult r (λ e. IsTree bytes e × (float_places e ≡ [])) (IsReadFault bytes)
without_float bytes d (Ok e) t h = (subst (IsTree bytes) (sym h.0) t, h.1)
without_float bytes d (Err (faults.Float at)) t h = record { description = d; tree = t; others = h.0; first = h.1 }
without_float bytes d (Err _) t h = absurd h

-- ---- no description

-- the last so many of these are what stands behind the front
behind_front : (front rest : List Symbol) (left : ℕ) → length rest ≡ left → drop (length (front ++ rest) - left) (front ++ rest) ≡ rest
behind_front [] rest left is =
    let none : length rest - left ≡ 0 = omega (arith, is) in
    ap (λ n. drop n rest) none
behind_front (s ∷ front) rest left is =
    let one_more : length (s ∷ (front ++ rest)) - left ≡ suc (length (front ++ rest) - left) = omega (arith, is, length-append front rest) in
    ap (λ n. drop n (s ∷ (front ++ rest))) one_more ∙ behind_front front rest left is

-- where the reading is stuck there is none
pub has_no_tree : (bytes : List ℕ) (ps : List Lexeme) (ss : List Symbol) (left at : ℕ) → HasLexemes bytes ps → ss ≡ map symbol ps → Fails (stops.Stuck left) item_list ss → at ≡ first_place (length bytes) (drop (length ss - left) ss) → HasNoTree bytes at
has_no_tree bytes ps ss left at h is (rest, n_is, c) e =
    let t = stuck_tree ss rest (c.calls, c.is) in
    record {
      tokens = ps;
      has = h;
      front = t.front;
      left = rest;
      whole = sym is ∙ t.whole;
      begins = t.begins;
      stops = t.stops;
      is = e ∙ ap (first_place (length bytes)) (ap (λ us. drop (length us - left) us) t.whole ∙ behind_front t.front rest left n_is);
    }
