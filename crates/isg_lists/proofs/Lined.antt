-- Shapes by their lines.
use Rattle.std.proofs.Common.{ℕ, ℤ, suc, ◌≡◌, ◌≤◌, ◌<◌, ◌+◌, refl, sym, ◌∙◌, ap, subst, arith, Bool, true, false, ◌==◌, ◌&&◌, ◌||◌, List, [], ◌∷◌, ◌++◌, length, drop, Option, Some, None, cond, ⊎_elim}
use Rattle.std.specs.Prelude.{slice_get, if◌then◌else◌, option_map, not}
use Rattle.std.specs.List.{list_any, position, position_or_len}
use Rattle.std.specs.Global.{Vec}
use Rattle.std.proofs.lemmas.Bool.{eqb-true, eq-eqb, lt-ltb, cases_lt, both_ways}
use Rattle.std.proofs.lemmas.Option.{same_Some}
use Rattle.std.proofs.lemmas.List.Quantifiers.{position-Some}
use Rattle.indexmap.specs.IndexMap.{IndexMap}
use Rattle.nk_base.specs.Text.{text_eq}
use Rattle.nml_tree.specs.Table.{Text}
use Rattle.nml_tree.proofs.SameText.{same_text, equal_text}
use Rattle.nml_shape.specs.declared.shape.Piece.{Piece}
use Rattle.nml_shape.specs.declared.shape.Piece.TheVariants as piece
use Rattle.nml_shape.specs.declared.shape.Shape.{Shape}
use Rattle.isg_lists.specs.declared.lines.First.TheVariants as first
use Rattle.isg_lists.specs.declared.lines.Line.{Line}
use Rattle.isg_lists.specs.declared.lines.Lines.{Lines}
use Rattle.isg_lists.specs.Numbers.{numbers_from, numbers_where, list_at}
use Rattle.isg_lists.specs.Lines.{is_numeric, begins, has_line, of_line, same_line, line_with, line_of, is_line, is_on, at_line, kept_for, AreLines, IsBegun, AreBegun}
use Rattle.isg_lists.proofs.Places.{same_numbers, one_more, all_seen}

-- ---- places of words

before_length : (p : Text → Bool) (x : Text) (xs : List Text) (b : Bool) → p x ≡ b → (list_any p xs ≡ true → position_or_len p xs < length xs) → list_any p (x ∷ xs) ≡ true → position_or_len p (x ∷ xs) < length (x ∷ xs)
before_length p x xs true is h any = subst (λ b. cond (not b) (1 + position_or_len p xs) 0 < length (x ∷ xs)) (sym is) (omega arith)
before_length p x xs false is h any =
    let low = h (sym (ap (λ b. b || list_any p xs) is) ∙ any) in
    subst (λ b. cond (not b) (1 + position_or_len p xs) 0 < length (x ∷ xs)) (sym is) (omega (arith, low))

within : (p : Text → Bool) (xs : List Text) → list_any p xs ≡ true → position_or_len p xs < length xs
within p [] any = absurd cc
within p (x ∷ xs) any = before_length p x xs (p x) refl (within p xs) any

known_at : (p : Text → Bool) (xs : List Text) → list_any p xs ≡ true → position p xs ≡ Some (position_or_len p xs)
known_at p xs any = ap (λ b. cond b (Some (position_or_len p xs)) None) (lt-ltb _ _ (within p xs any))

same_word : (ws : List Text) (w v : Text) (i : ℕ) → position (text_eq w) ws ≡ Some i → position (text_eq v) ws ≡ Some i → w ≡ v
same_word ws w v i at to =
    same_text w _ (position-Some (text_eq w) ws i [] at).1 ∙ sym (same_text v _ (position-Some (text_eq v) ws i [] to).1)

place_cases : (ws : List Text) (w v : Text) (i j : ℕ) (b c : Bool) → (i == j) ≡ b → text_eq w v ≡ c → position (text_eq w) ws ≡ Some i → position (text_eq v) ws ≡ Some j → b ≡ c
place_cases ws w v i j true true e f at to = refl
place_cases ws w v i j false false e f at to = refl
place_cases ws w v i j true false e f at to =
    let same = eqb-true i j e in
    absurd (both_ways (text_eq w v) f (equal_text w v (same_word ws w v i at (subst (λ k. position (text_eq v) ws ≡ Some k) (sym same) to))))
place_cases ws w v i j false true e f at to =
    let same = same_text w v f in
    absurd (both_ways (i == j) e (eq-eqb i j (same_Some i j (sym at ∙ ap (λ u. position (text_eq u) ws) same ∙ to))))

same_place : (ws : List Text) (w v : Text) (i j : ℕ) → position (text_eq w) ws ≡ Some i → position (text_eq v) ws ≡ Some j → (i == j) ≡ text_eq w v
same_place ws w v i j at to = place_cases ws w v i j (i == j) (text_eq w v) refl refl at to

-- ---- a line of the definitions and one by places

-- a line that begins with a word
word_line : (ws : List Text) (w : Text) (count : ℕ) (line : Line) (o : Option ℕ) → position (text_eq w) ws ≡ o → line_with ws (piece.Word w) count ≡ Some line → (i : ℕ) × (position (text_eq w) ws ≡ Some i) × (record { first = first.Word i; count = count } ≡ line)
word_line ws w count line None e is = let f : None ≡ Some line = sym (ap (λ o. option_map (λ f. record { first = f; count = count }) (option_map first.Word o)) e) ∙ is in absurd cc
word_line ws w count line (Some i) e is = (i, e, same_Some _ _ (sym (ap (λ o. option_map (λ f. record { first = f; count = count }) (option_map first.Word o)) e) ∙ is))

-- the line of a template that begins with a word
abbrev by_place : ℕ → Option ℕ → Option Line
by_place n o = option_map (λ f. record { first = f; count = n }) (option_map first.Word o)

module _ (ws : List Text) (count : ℕ) where
  word_agrees : (w : Text) (i : ℕ) (q : Piece) (qs : List Piece) → IsBegun ws (q ∷ qs) → position (text_eq w) ws ≡ Some i → is_line (record { first = first.Word i; count = count }) (line_of ws (q ∷ qs)) ≡ begins (piece.Word w) count (q ∷ qs)
  word_agrees w i (piece.Word v) qs known at =
      let k = known_at (text_eq v) ws known in
      ap (λ o. is_line (record { first = first.Word i; count = count }) (by_place (length (piece.Word v ∷ qs)) o)) k
      ∙ ap (λ b. b && (count == length (piece.Word v ∷ qs))) (same_place ws w v i _ at k)
  word_agrees w i (piece.Number z) qs known at = refl
  word_agrees w i (piece.Mark c) qs known at = refl
  word_agrees w i (piece.Field n) qs known at = refl

  number_agrees : (q : Piece) (qs : List Piece) → IsBegun ws (q ∷ qs) → is_line (record { first = first.Number; count = count }) (line_of ws (q ∷ qs)) ≡ is_numeric q && (count == length (q ∷ qs))
  number_agrees (piece.Word v) qs known = ap (λ o. is_line (record { first = first.Number; count = count }) (by_place (length (piece.Word v ∷ qs)) o)) (known_at (text_eq v) ws known)
  number_agrees (piece.Number z) qs known = refl
  number_agrees (piece.Mark c) qs known = refl
  number_agrees (piece.Field n) qs known = refl

  mark_agrees : (c : ℕ) (q : Piece) (qs : List Piece) → IsBegun ws (q ∷ qs) → is_line (record { first = first.Mark c; count = count }) (line_of ws (q ∷ qs)) ≡ begins (piece.Mark c) count (q ∷ qs)
  mark_agrees c (piece.Word v) qs known = ap (λ o. is_line (record { first = first.Mark c; count = count }) (by_place (length (piece.Word v ∷ qs)) o)) (known_at (text_eq v) ws known)
  mark_agrees c (piece.Number z) qs known = refl
  mark_agrees c (piece.Mark d) qs known = refl
  mark_agrees c (piece.Field n) qs known = refl

  number_alike : (z : ℤ) (q : Piece) (qs : List Piece) → is_numeric q && (count == length (q ∷ qs)) ≡ begins (piece.Number z) count (q ∷ qs)
  number_alike z (piece.Word v) qs = refl
  number_alike z (piece.Number y) qs = refl
  number_alike z (piece.Mark c) qs = refl
  number_alike z (piece.Field n) qs = refl

  field_alike : (m : ℕ) (q : Piece) (qs : List Piece) → is_numeric q && (count == length (q ∷ qs)) ≡ begins (piece.Field m) count (q ∷ qs)
  field_alike m (piece.Word v) qs = refl
  field_alike m (piece.Number y) qs = refl
  field_alike m (piece.Mark c) qs = refl
  field_alike m (piece.Field n) qs = refl

  agrees : (p q : Piece) (qs : List Piece) (line : Line) → IsBegun ws (q ∷ qs) → line_with ws p count ≡ Some line → is_line line (line_of ws (q ∷ qs)) ≡ begins p count (q ∷ qs)
  agrees (piece.Word w) q qs line known is =
      let v = word_line ws w count line (position (text_eq w) ws) refl is in
      sym (ap (λ l. is_line l (line_of ws (q ∷ qs))) v.2) ∙ word_agrees w v.0 q qs known v.1
  agrees (piece.Number z) q qs line known is = sym (ap (λ l. is_line l (line_of ws (q ∷ qs))) (same_Some _ _ is)) ∙ number_agrees q qs known ∙ number_alike z q qs
  agrees (piece.Mark c) q qs line known is = sym (ap (λ l. is_line l (line_of ws (q ∷ qs))) (same_Some _ _ is)) ∙ mark_agrees c q qs known
  agrees (piece.Field n) q qs line known is = sym (ap (λ l. is_line l (line_of ws (q ∷ qs))) (same_Some _ _ is)) ∙ number_agrees q qs known ∙ field_alike n q qs

  on_agrees : (p : Piece) (line : Line) → line_with ws p count ≡ Some line → (ps : List Piece) → IsBegun ws ps → is_line line (line_of ws ps) ≡ begins p count ps
  on_agrees p line is [] known = refl
  on_agrees p line is (q ∷ qs) known = agrees p q qs line known is

  -- a word that is not among these begins no line
  other_word : (w v : Text) (b : Bool) → text_eq w v ≡ b → list_any (text_eq v) ws ≡ true → position (text_eq w) ws ≡ None → text_eq w v ≡ false
  other_word w v false e known none = e
  other_word w v true e known none =
      let same = same_text w v e in
      let f : None ≡ Some (position_or_len (text_eq v) ws) = sym none ∙ ap (λ u. position (text_eq u) ws) same ∙ known_at (text_eq v) ws known in absurd cc

  no_word : (w : Text) (o : Option ℕ) → position (text_eq w) ws ≡ o → line_with ws (piece.Word w) count ≡ None → position (text_eq w) ws ≡ None
  no_word w None e none = e
  no_word w (Some i) e none = let f : Some (record { first = first.Word i; count = count }) ≡ None = sym (ap (by_place count) e) ∙ none in absurd cc

  off_line : (p : Piece) → line_with ws p count ≡ None → (ps : List Piece) → IsBegun ws ps → begins p count ps ≡ false
  off_line p none [] known = refl
  off_line (piece.Word w) none (piece.Word v ∷ qs) known =
      ap (λ b. b && (count == length (piece.Word v ∷ qs))) (other_word w v (text_eq w v) refl known (no_word w (position (text_eq w) ws) refl none))
  off_line (piece.Word w) none (piece.Number z ∷ qs) known = refl
  off_line (piece.Word w) none (piece.Mark c ∷ qs) known = refl
  off_line (piece.Word w) none (piece.Field n ∷ qs) known = refl
  off_line (piece.Number z) none (q ∷ qs) known = absurd cc
  off_line (piece.Mark c) none (q ∷ qs) known = absurd cc
  off_line (piece.Field n) none (q ∷ qs) known = absurd cc

none_hold : (p : Shape → Bool) (xs : List Shape) (n : ℕ) → ((k : ℕ) (x : Shape) → slice_get xs k ≡ Some x → p x ≡ false) → numbers_from p n xs ≡ []
none_hold p [] n h = refl
none_hold p (x ∷ xs) n h =
    ap (λ b. if b then n ∷ numbers_from p (n + 1) xs else numbers_from p (n + 1) xs) (h 0 x refl) ∙ none_hold p xs (n + 1) (λ k. h (suc k))

pub lines_all : (shapes : List Shape) (l : Lines) → AreBegun l.words.keys shapes → ((line : Line) → list_at same_line l.lists line ≡ numbers_where (is_on l.words.keys line) shapes) → AreLines shapes l
lines_all shapes l begun lists p count = by (line_with l.words.keys p count) refl
  where
    by : (o : Option Line) → line_with l.words.keys p count ≡ o → kept_for l p count ≡ of_line shapes p count
    by None e = ap (at_line l.lists) e ∙ sym (none_hold (has_line p count) shapes 0 (λ k s at. off_line l.words.keys count p e s.template.items (begun k s at)))
    by (Some line) e =
        ap (at_line l.lists) e ∙ lists line
        ∙ same_numbers (is_on l.words.keys line) (has_line p count) shapes 0 (λ k s at. on_agrees l.words.keys count p line e s.template.items (begun k s at))

-- ---- as they are made

-- the shapes before number i are in the lists
pub record Lined {S : Type 0} (ws : List Text) (shapes : List Shape) (i : ℕ) (m : IndexMap Line (Vec ℕ) S) : Type 0 where
  pub lists_are : (line : Line) → numbers_where (is_on ws line) shapes ≡ list_at same_line m line ++ numbers_from (is_on ws line) i (drop i shapes)

pub lined_more : {S : Type 0} (ws : List Text) (shapes : List Shape) (i n : ℕ) (x : Shape) (ps : List Piece) (o : Option Line) (old new : IndexMap Line (Vec ℕ) S) → slice_get shapes i ≡ Some x → n ≡ i → ps ≡ x.template.items → o ≡ line_of ws ps
    → ((l : Line) → list_at same_line new l ≡ (if is_line l o then list_at same_line old l ++ n ∷ [] else list_at same_line old l)) → Lined ws shapes i old → Lined ws shapes (i + 1) new
lined_more ws shapes i n x ps o old new at same text line step l = record {
  lists_are = λ k. one_more (is_on ws k) shapes i x (list_at same_line old k) (list_at same_line new k) (numbers_where (is_on ws k) shapes) at (l.lists_are k)
      (step k ∙ (λ j. if is_line k ((line ∙ ap (line_of ws) text) j) then list_at same_line old k ++ same j ∷ [] else list_at same_line old k));
}

pub lined_all : {S : Type 0} (ws : List Text) (shapes : List Shape) (i : ℕ) (m : IndexMap Line (Vec ℕ) S) → length shapes ≤ i → Lined ws shapes i m → (line : Line) → list_at same_line m line ≡ numbers_where (is_on ws line) shapes
lined_all ws shapes i m end l line = all_seen (is_on ws line) shapes i (list_at same_line m line) (numbers_where (is_on ws line) shapes) end (l.lists_are line)

-- the words of the shapes before number i are known
abbrev pub BegunTo : List Text → List Shape → ℕ → Type 0
BegunTo ws shapes i = (n : ℕ) (s : Shape) → n < i → slice_get shapes n ≡ Some s → IsBegun ws s.template.items

keeps_begun : (old new : List Text) (ps : List Piece) → ((w : Text) → list_any (text_eq w) old ≡ true → list_any (text_eq w) new ≡ true) → IsBegun old ps → IsBegun new ps
keeps_begun old new [] kept h = tt
keeps_begun old new (piece.Word w ∷ ps) kept h = kept w h
keeps_begun old new (piece.Number z ∷ ps) kept h = tt
keeps_begun old new (piece.Mark c ∷ ps) kept h = tt
keeps_begun old new (piece.Field n ∷ ps) kept h = tt

pub begun_more : (old new : List Text) (shapes : List Shape) (i : ℕ) (x : Shape) (ps : List Piece) → slice_get shapes i ≡ Some x → ps ≡ x.template.items → IsBegun new ps → ((w : Text) → list_any (text_eq w) old ≡ true → list_any (text_eq w) new ≡ true) → BegunTo old shapes i → BegunTo new shapes (i + 1)
begun_more old new shapes i x ps at text begun kept h n s low to = ⊎_elim
    (λ (lt : n < i). keeps_begun old new s.template.items kept (h n s lt to))
    (λ (ge : i ≤ n). let e : n ≡ i = omega (arith, ge, low) in
    let same : x ≡ s = same_Some _ _ (sym at ∙ subst (λ k. slice_get shapes k ≡ Some s) e to) in
    subst (λ y. IsBegun new y.template.items) same (subst (IsBegun new) text begun))
    (cases_lt n i)
