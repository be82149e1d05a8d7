-- What a text is assembled to is right for an image.
use Rattle.std.proofs.Common.{ℕ, zero, suc, ◌+◌, ◌<◌, ◌≤◌, ◌^◌, ◌≡◌, refl, sym, ◌∙◌, ap, subst, Bool, true, false, ℤ, List, [], ◌∷◌, ◌++◌, map, filter, length, length-append, drop, Option, Some, None, Contains, arith, ◌⊎◌, inl, inr}
use Rattle.std.specs.Prelude.{◌==◌, nat_lt, not, ◌&&◌, if◌then◌else◌, unwrap_or, slice_get, unsigned_abs}
use Rattle.std.specs.List.{AllByRecursion, list_all, slice_split}
use Rattle.std.specs.Str.Parse.{digits_value}
use Rattle.std.proofs.lemmas.Bool.{and_parts, and_from, lt-ltb, ltb-true, cases_lt}
use Rattle.std.proofs.lemmas.List.Elements.{Contains-append_cases}
use Rattle.nk_base.specs.Byte.{is_name_byte}
use Rattle.nk_base.specs.Hexadecimal.{digits_of_word}
use Rattle.nk_base.specs.Number.{low_bits, width_of}
use Rattle.nk_base.specs.declared.number.Ty.{Ty}
use Rattle.nk_range.specs.Range.{is_in_range}
use Rattle.nml_tree.specs.declared.tree.Desc.{Desc}
use Rattle.nml_tree.specs.Derivation.{Derivation}
use Rattle.nml_tree.specs.Exec.{pc, storages, storage_type}
use Rattle.nml_tree.specs.Image.{image, word_of}
use Rattle.nml_tree.specs.Machine.{Initial}
use Rattle.nml_tree.specs.Refused.{IsChecked}
use Rattle.nml_tree.specs.Table.{Text, Table, Declared, declared, table}
use Rattle.nml_tree.specs.Valid.{IsRoot, IsWordWidth}
use Rattle.nml_outline.proofs.WordBits.{number_below}
use Rattle.nml_outline.proofs.Ranges.{low_below}
use Rattle.attr_exec.proofs.Lawful.{all_numbered}
use Rattle.image_file.specs.Measured.{measures, stored}
use Rattle.image_file.specs.Valid as valid
use Rattle.image_file.specs.Valid.{IsValid, is_init}
use Rattle.asm_lines.specs.Line as lines
use Rattle.asm_lines.specs.Line.{Token, Content, Nothing, Instruction, Bits, Data, Line, bits, data_of, directive, is_hexadecimal, content_of, instruction, content, parts, with_label, labeled_line, line, front, is_name, has_label, without_blanks, without_comment}
use Rattle.asm_text.specs.Answer.{IsAssembled, AreRight}
use Rattle.asm_text.specs.Assembled.{GivesWords, GiveWords, initial, given_by, given, rise, are_among, are_initial}
use Rattle.asm_text.specs.Refused.{By_count, By_data, is_cell, is_data, word_limit, data_lines}
use Rattle.asm_text.specs.Source.{Labels, source, formed, labels, words_of, count_words, empty}
use Rattle.asm_text.proofs.Inits.{behind, first_or_behind, among_within}
use Rattle.asm_text.proofs.Sorted.{filter_within}
use Rattle.asm_text.proofs.DataLines.{all_data}
use Rattle.asm_text.proofs.SomeAnswer.{none_from}

-- ---- the number of words

one_count : (t : Table) (labels : Labels) (c : Content) (ws : List ℕ) → GivesWords t labels c ws → length ws ≡ words_of c
one_count t labels Nothing ws h = ap length h
one_count t labels (Instruction ts) ws h = ap length h.4
one_count t labels (Bits w) ws h = ap length h
one_count t labels (Data name cell value) ws h = ap length h

count_given : (t : Table) (labels : Labels) (ls : List Line) (ws : List ℕ) → GiveWords t labels ls ws → length ws ≡ count_words ls
count_given t labels [] ws h = ap length h
count_given t labels (l ∷ ls) ws h =
    let long = ap length h.2 in omega (arith, long, length-append h.0 h.1, one_count t labels l.content h.0 h.3, count_given t labels ls h.1 h.4)

-- ---- words

-- the word of a `.bits` line is one of so many bits
abbrev Fits : ℕ → Content → Type 0
Fits width (Bits w) = w < 2 ^ width
Fits width _ = Unit {0}

abbrev IsFit : ℕ → Option Content → Type 0
IsFit width None = Unit {0}
IsFit width (Some c) = Fits width c

abbrev IsLineFit : ℕ → Option Line → Type 0
IsLineFit width None = Unit {0}
IsLineFit width (Some l) = Fits width l.content

bits_fit : (width : ℕ) (h : Text) → IsFit width (bits width h)
bits_fit width h = by (list_all is_hexadecimal h && (length h == digits_of_word width)) (nat_lt (digits_value 16 h) (2 ^ width)) refl
  where
    by : (a b : Bool) → nat_lt (digits_value 16 h) (2 ^ width) ≡ b → IsFit width (if a && b then Some (Bits (digits_value 16 h)) else None)
    by true true e = ltb-true _ _ e
    by true false e = tt
    by false b e = tt

if_fit : (width : ℕ) (b : Bool) (o p : Option Content) → IsFit width o → IsFit width p → IsFit width (if b then o else p)
if_fit width true o p h k = h
if_fit width false o p h k = k

data_fit : (width : ℕ) (name cell value : Text) → IsFit width (data_of name cell value)
data_fit width name cell value = if_fit width _ (Some (Data name _ _)) None tt tt

directive_fit : (width : ℕ) (ps : List Text) → IsFit width (directive width ps)
directive_fit width [] = tt
directive_fit width (a ∷ []) = tt
directive_fit width (a ∷ b ∷ []) = if_fit width _ (bits width b) None (bits_fit width b) tt
directive_fit width (a ∷ b ∷ c ∷ []) = tt
directive_fit width (a ∷ b ∷ c ∷ e ∷ []) = if_fit width _ (data_of b c e) None (data_fit width b c e) tt
directive_fit width (a ∷ b ∷ c ∷ e ∷ f ∷ more) = tt

tokens_fit : (width : ℕ) (ts : List Token) → Fits width (content_of ts)
tokens_fit width [] = tt
tokens_fit width (t ∷ ts) = tt

instruction_fit : (width : ℕ) (ps : List Text) → IsFit width (instruction ps)
instruction_fit width [] = tt
instruction_fit width (first ∷ others) = if_fit width _ (Some (content_of _)) None (tokens_fit width _) tt

content_fit : (width : ℕ) (text : Text) → IsFit width (content width text)
content_fit width text =
    let ps : List Text = slice_split (λ c. c == 64) text in if_fit width _ (directive width (parts text)) (instruction ps) (directive_fit width (parts text)) (instruction_fit width ps)

labeled_fit : (width : ℕ) (label : Option Text) (o : Option Content) → IsFit width o → IsLineFit width (with_label label o)
labeled_fit width label None h = tt
labeled_fit width label (Some c) h = h

if_line_fit : (width : ℕ) (b : Bool) (o p : Option Line) → IsLineFit width o → IsLineFit width p → IsLineFit width (if b then o else p)
if_line_fit width true o p h k = h
if_line_fit width false o p h k = k

line_fit : (width : ℕ) (text : Text) → IsLineFit width (labeled_line width text)
line_fit width text =
    let label : Text = front is_name_byte text in
    let rest : Text = without_blanks (drop 1 (lines.behind is_name_byte text)) in
    if_line_fit width (has_label text) (if is_name label then with_label (Some label) (content width rest) else None) (with_label None (content width text))
    (if_line_fit width (is_name label) (with_label (Some label) (content width rest)) None (labeled_fit width (Some label) (content width rest) (content_fit width rest)) tt)
    (labeled_fit width None (content width text) (content_fit width text))

or_empty_fit : (width : ℕ) (o : Option Line) → IsLineFit width o → Fits width (unwrap_or o empty).content
or_empty_fit width None h = tt
or_empty_fit width (Some l) h = h

formed_fit : (width : ℕ) (ts : List Text) (l : Line) → Contains (formed (map (line width) ts)) l → Fits width l.content
formed_fit width [] l c = absurd (omega (arith, c.1))
formed_fit width (t ∷ ts) l c =
    elim (first_or_behind (unwrap_or (line width t) empty) (formed (map (line width) ts)) l c) [
      | inl e ↦ subst (λ (x : Line). Fits width x.content) e (or_empty_fit width (line width t) (line_fit width (without_blanks (without_comment t))))
      | inr d ↦ formed_fit width ts l d
    ]

all_append : (P : ℕ → Type 0) (xs ys : List ℕ) → AllByRecursion P xs → AllByRecursion P ys → AllByRecursion P (xs ++ ys)
all_append P [] ys h k = k
all_append P (x ∷ xs) ys h k = (h.0, all_append P xs ys h.1 k)

-- each word has so many bits
abbrev AllNarrow : ℕ → List ℕ → Type 0
AllNarrow width ws = AllByRecursion (λ w. w < 2 ^ width) ws

one_narrow : (t : Table) (labels : Labels) (width : ℕ) → IsWordWidth t width → (c : Content) (ws : List ℕ) → Fits width c → GivesWords t labels c ws → AllNarrow width ws
one_narrow t labels width wide Nothing ws fit h = subst (AllNarrow width) (sym h) tt
one_narrow t labels width wide (Instruction ts) ws fit h =
    subst (AllNarrow width) (sym h.4) (subst (λ n. word_of h.0 < 2 ^ n) (wide h.0 h.1) (number_below (image h.0)), tt)
one_narrow t labels width wide (Bits w) ws fit h = subst (AllNarrow width) (sym h) (fit, tt)
one_narrow t labels width wide (Data name cell value) ws fit h = subst (AllNarrow width) (sym h) tt

all_narrow : (t : Table) (labels : Labels) (width : ℕ) → IsWordWidth t width → (ls : List Line) (ws : List ℕ) → ((l : Line) → Contains ls l → Fits width l.content) → GiveWords t labels ls ws → AllNarrow width ws
all_narrow t labels width wide [] ws fit h = subst (AllNarrow width) (sym h) tt
all_narrow t labels width wide (l ∷ ls) ws fit h =
    subst (AllNarrow width) (sym h.2)
    (all_append (λ w. w < 2 ^ width) h.0 h.1 (one_narrow t labels width wide l.content h.0 (fit l (0, omega arith, refl)) h.3) (all_narrow t labels width wide ls h.1 (λ m c. fit m (behind l ls m c)) h.4))

-- ---- initial values

-- a value is one of a line
given_from : (t : Table) (ls : List Line) (i : Initial) → Contains (given t ls) i → (l : Line) × Contains ls l × Contains (given_by t l.content) i
given_from t [] i c = absurd (omega (arith, c.1))
given_from t (l ∷ ls) i c =
    elim (Contains-append_cases (given_by t l.content) (given t ls) i c) [
      | inl here ↦ (l, (0, omega arith, refl), here)
      | inr more ↦ (let f = given_from t ls i more in (f.0, behind l ls f.0 f.1, f.2))
    ]

passed : (test : Initial → Bool) (xs : List Initial) (x : Initial) → Contains (filter test xs) x → test x ≡ true
passed test [] x c = absurd (omega (arith, c.1))
passed test (y ∷ xs) x c = by (test y) refl (passed test xs x) c
  where
    by : (b : Bool) → test y ≡ b → (Contains (filter test xs) x → test x ≡ true) → Contains (if b then y ∷ filter test xs else filter test xs) x → test x ≡ true
    by true e more c = elim (first_or_behind y (filter test xs) x c) [ inl same ↦ subst (λ (z : Initial). test z ≡ true) same e | inr d ↦ more d ]
    by false e more c = more c

some_at : {A : Type 0} (xs : List A) (n : ℕ) (x : A) → slice_get xs n ≡ Some x → n < length xs
some_at [] n x h = absurd cc
some_at (y ∷ xs) zero x h = omega arith
some_at (y ∷ xs) (suc n) x h = omega (arith, some_at xs n x h)

init_right : (d : Desc) (width : ℕ) (name : Text) (cell : ℕ) (value : ℤ) (o : Option Declared) → declared (table d) name ≡ o → is_cell (table d) o cell value ≡ true → (i : Initial) → Contains (initial o cell value) i → nat_lt 0 i.raw ≡ true
    → is_init (measures (table d) width) (stored i) ≡ true
init_right d width name cell value None is h i c some = absurd cc
init_right d width name cell value (Some (Declared.Constant z)) is h i c some = absurd cc
init_right d width name cell value (Some (Declared.TypeName ty)) is h i c some = absurd cc
init_right d width name cell value (Some (Declared.Storage n k ty)) is h i c some =
    let t = table d in
    let raw = unsigned_abs (low_bits (width_of ty) value) in
    let same : record { storage = n; cell = cell; raw = raw } ≡ i = elim (first_or_behind (record { storage = n; cell = cell; raw = raw }) [] i c) [ inl e ↦ e | inr e ↦ absurd (omega (arith, e.1)) ] in
    let at : slice_get (storages t) n ≡ Some (k, ty) = (all_numbered d).0 name n k ty is in
    let p = and_parts (not (n == pc t) && nat_lt cell k) (is_in_range ty value) h in
    let q = and_parts (not (n == pc t)) (nat_lt cell k) p.0 in
    let positive : nat_lt 0 raw ≡ true = subst (λ (x : Initial). nat_lt 0 x.raw ≡ true) (sym same) some in
    subst (λ (x : Initial). is_init (measures t width) (stored x) ≡ true) same
    (and_from _ _ (and_from _ _ (lt-ltb n (length (storages t)) (some_at (storages t) n (k, ty) at)) q.0)
    (rw at (and_from _ _ q.1 (and_from _ _ positive (lt-ltb raw (2 ^ width_of ty) (low_below (width_of ty) value))))))
init_right d width name cell value (Some (Declared.Trn n ty)) is h i c some = absurd cc
init_right d width name cell value (Some (Declared.Inp ty)) is h i c some = absurd cc
init_right d width name cell value (Some (Declared.Out ty)) is h i c some = absurd cc
init_right d width name cell value (Some (Declared.Or mode names)) is h i c some = absurd cc
init_right d width name cell value (Some (Declared.And rule)) is h i c some = absurd cc

content_right : (d : Desc) (width : ℕ) (c : Content) → is_data (table d) c ≡ true → (i : Initial) → Contains (given_by (table d) c) i → nat_lt 0 i.raw ≡ true → is_init (measures (table d) width) (stored i) ≡ true
content_right d width Nothing h i c some = absurd (omega (arith, c.1))
content_right d width (Instruction ts) h i c some = absurd (omega (arith, c.1))
content_right d width (Bits w) h i c some = absurd (omega (arith, c.1))
content_right d width (Data name cell value) h i c some = init_right d width name cell value (declared (table d) name) refl h i c some

inits_right : (m : valid.Measures) (is : List Initial) → ((i : Initial) → Contains is i → is_init m (stored i) ≡ true) → AllByRecursion (λ c. is_init m c ≡ true) (map stored is)
inits_right m [] h = tt
inits_right m (i ∷ is) h = (h i (0, omega arith, refl), inits_right m is (λ j c. h j (behind i is j c)))

pub rise_stored : (is : List Initial) → rise is ≡ valid.rise (map stored is)
rise_stored [] = refl
rise_stored (a ∷ []) = refl
rise_stored (a ∷ b ∷ more) = ap (λ r. valid.is_before (stored a) (stored b) && r) (rise_stored (b ∷ more))

pub right : (d : Desc) (width : ℕ) (text ws : List ℕ) (is : List Initial) → IsChecked d → IsWordWidth (table d) width → IsAssembled (table d) width text ws is → AreRight (table d) width ws is
right d width text ws is checked wide h digest =
    let t = table d in
    let ls = formed (source width text) in
    let wanted : List Initial = filter (λ i. nat_lt 0 i.raw) (given t ls) in
    let first = and_parts (rise is && are_among is wanted) (are_among wanted is) h.assembles.begin in
    let second = and_parts (rise is) (are_among is wanted) first.0 in
    let no_fault : data_lines t [] 0 ls ≡ [] = none_from _ (λ n c. h.free 6 (omega arith) (By_data n c)) in
    record {
      width_is = refl;
      count = elim (cases_lt (word_limit t) (count_words ls)) [
        | inl over ↦ absurd (h.free 5 (omega arith) (By_count over))
        | inr within ↦ subst (λ n. n ≤ word_limit t) (sym (count_given t (labels ls) ls ws h.assembles.give)) within
      ];
      fit = all_narrow t (labels ls) width wide ls ws (formed_fit width (slice_split (λ c. c == 10) text)) h.assembles.give;
      cells = inits_right (measures t width) is (λ i c.
          let w = among_within is wanted second.1 i c in
          let f = given_from t ls i (filter_within (λ (j : Initial). nat_lt 0 j.raw) (given t ls) i w) in
          content_right d width f.0.content (all_data t [] 0 ls no_fault f.0 f.1) i f.2 (passed (λ (j : Initial). nat_lt 0 j.raw) (given t ls) i w));
      order = sym (rise_stored is) ∙ second.0;
    }
