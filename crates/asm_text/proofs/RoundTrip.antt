-- The canonical text is assembled to the words and the initial values that it was made of.
use Rattle.std.proofs.Common.{ℕ, zero, suc, ◌+◌, ◌^◌, ◌<◌, ◌≤◌, ◌≡◌, refl, sym, ◌∙◌, ap, subst, Bool, true, false, cond, ℤ, pos, List, [], ◌∷◌, ◌++◌, append_assoc, append-nil, map, filter, length, length-append, Option, Some, None, Contains, codes, arith, ◌⊎◌, inl, inr}
use Rattle.std.specs.Prelude.{◌==◌, nat_lt, not, ◌&&◌, ◌||◌, unwrap_or, slice_get, unsigned_abs}
use Rattle.std.specs.List.{AllByRecursion, list_all, list_any, slice_split}
use Rattle.std.proofs.lemmas.Bool.{and_parts, and_from, or_from, ltb-true, not_from_true}
use Rattle.std.proofs.lemmas.Bool.Decides.{nat_tests}
use Rattle.std.proofs.lemmas.List.Elements.{Contains-append_left, Contains-append_right}
use Rattle.nk_base.specs.Hexadecimal.{hexadecimal, digits_of_word}
use Rattle.nk_base.specs.Number.{low_bits, width_of, wrapped}
use Rattle.nk_base.specs.declared.number.Ty.{Ty}
use Rattle.nk_base.specs.declared.number.Ty.TheVariants as tys
use Rattle.nml_tree.specs.declared.tree.Desc.{Desc}
use Rattle.nml_tree.specs.Derivation.{Derivation}
use Rattle.nml_tree.specs.Exec.{pc, storages, storage_type}
use Rattle.nml_tree.specs.Image.{word_of}
use Rattle.nml_tree.specs.Legal.{IsLegal}
use Rattle.nml_tree.specs.LineToken.{LineToken}
use Rattle.nml_tree.specs.Machine.{Initial, IsInstruction}
use Rattle.nml_tree.specs.Places.{when}
use Rattle.nml_tree.specs.Refused.{IsChecked, IsTyped}
use Rattle.nml_tree.specs.Same.{tokens}
use Rattle.nml_tree.specs.Syntax.{syntax_of}
use Rattle.nml_tree.specs.Table.{Text, Table, Declared, declared, table}
use Rattle.nml_tree.specs.Valid.{IsRoot, IsWordWidth}
use Rattle.attr_exec.proofs.Lawful.{get_mapped}
use Rattle.image_file.specs.Measured.{measures, stored}
use Rattle.image_file.specs.Valid as valid
use Rattle.image_file.specs.Valid.{IsLimited, IsSmall, IsValid, is_init}
use Rattle.image_layout.proofs.Limits.{limited}
use Rattle.asm_lines.specs.Line.{Token, Written, Content, Nothing, Instruction, Bits, Data, Line, is_name, line, written}
use Rattle.asm_text.specs.Answer.{IsAssembled, AreRight}
use Rattle.asm_text.specs.Assembled.{GivesWords, GiveWords, initial, given_by, given, is_same_cell, is_before, rise, are_among, are_initial}
use Rattle.asm_text.specs.Canonical.{AreNamed, IsWordLine, Read, Unread, AreWordLines, storage_name, data_line, ended, IsCanonical}
use Rattle.asm_text.specs.Refused.{Holds, HasTokens, HasNoMatch, HasConflict, form_lines, label_lines, has_doubled, has_referent, are_known, is_data, data_lines, word_limit, IsFreeBelow}
use Rattle.asm_text.specs.Source.{Labels, source, formed, words_of, labels_before, labels_from, labels, count_words, resolved, empty}
use Rattle.asm_text.proofs.Inits.{initial_is, behind, first_or_behind, before_trans, not_before, rise_all, rise_behind, within_among}
use Rattle.asm_text.proofs.SomeAnswer.{cause}
use Rattle.asm_text.proofs.Right.{rise_stored}
use Rattle.asm_text.proofs.Texts.{AreWhole, whole_both, lines_of}
use Rattle.asm_text.proofs.NumberTexts.{IsShort}
use Rattle.asm_text.proofs.CellValues.{IsValue, value_is, power_short}
use Rattle.asm_text.proofs.DirectiveLines.{bits_whole, bits_line, data_text, data_whole, data_line_is}
use Rattle.asm_text.proofs.SyntaxLines.{syntax_line, tokens_whole}
use Rattle.asm_text.proofs.SyntaxTexts.{syntax_tokens, some_token}
use Rattle.asm_text.proofs.StorageNames.{storage_found}

-- ---- what lines are read as

-- tokens of a legal instruction
abbrev Stands : Table → List Token → Type 0
Stands t ts = (x : Derivation) × IsRoot t x × IsLegal t x × (ts ≡ map Written (tokens x))

-- no label; a cell that is there; or the tokens of a legal instruction
record IsGood (t : Table) (l : Line) : Type 0 where
  alone : l.label ≡ None
  cell : is_data t l.content ≡ true
  stands : (ts : List Token) → l.content ≡ Instruction ts → Stands t ts

-- the texts are lines that give these words and these initial values
record IsRead (t : Table) (width : ℕ) (texts : List Text) (ws : List ℕ) (is : List Initial) : Type 0 where
  these : List Line
  same : map (line width) texts ≡ map Some these
  good : AllByRecursion (IsGood t) these
  give : GiveWords t [] these ws
  many : count_words these ≡ length ws
  begin : given t these ≡ is

read_none : (t : Table) (width : ℕ) → IsRead t width [] [] []
read_none t width = record { these = []; same = refl; good = tt; give = refl; many = refl; begin = refl }

read_more : (t : Table) (width : ℕ) (text : Text) (texts : List Text) (l : Line) (ws vs : List ℕ) (is js : List Initial) → line width text ≡ Some l → IsGood t l → GivesWords t [] l.content ws
    → words_of l.content ≡ length ws → given_by t l.content ≡ is → IsRead t width texts vs js → IsRead t width (text ∷ texts) (ws ++ vs) (is ++ js)
read_more t width text texts l ws vs is js e g words count cells r = record {
  these = l ∷ r.these;
  same = ap (λ o. o ∷ map (line width) texts) e ∙ ap (λ os. Some l ∷ os) r.same;
  good = (g, r.good);
  give = (ws, vs, refl, words, r.give);
  many = omega (arith, count, r.many, length-append ws vs);
  begin = ap (λ xs. xs ++ given t r.these) cells ∙ ap (λ ys. is ++ ys) r.begin;
}

read_empty : (t : Table) (width : ℕ) → IsRead t width ([] ∷ []) [] []
read_empty t width =
    read_more t width [] [] (record { label = None; content = Nothing }) [] [] [] [] refl (record { alone = refl; cell = refl; stands = λ ts e. absurd cc }) refl refl refl (read_none t width)

-- ---- words

resolved_written : (ls : Labels) (ts : List LineToken) → map (resolved ls) (map Written ts) ≡ ts
resolved_written ls [] = refl
resolved_written ls (t ∷ ts) = ap (λ us. t ∷ us) (resolved_written ls ts)

same_tokens : (ts us : List Token) → Instruction ts ≡ Instruction us → ts ≡ us
same_tokens ts us e = cc

read_word : (d : Desc) (width : ℕ) → IsTyped d → 8 ≤ width → (w : ℕ) (first : Text) (texts : List Text) (ws : List ℕ) (is : List Initial) → w < 2 ^ width → IsWordLine (table d) width w first
    → IsRead (table d) width texts ws is → IsRead (table d) width (first ∷ texts) (w ∷ ws) is
read_word d width typed wide w first texts ws is low (Read x h e) r =
    let right = syntax_tokens d x typed h.derivation in
    read_more (table d) width first texts (record { label = None; content = Instruction (written (syntax_of x)) }) (w ∷ []) ws [] is
    (ap (line width) e ∙ syntax_line width (syntax_of x) right (some_token d x typed h.derivation))
    (record { alone = refl; cell = refl; stands = λ ts same. (x, h.derivation, h.legal, sym (same_tokens _ ts same)) })
    (x, h.derivation, h.legal, sym (resolved_written [] (tokens x)), ap (λ v. v ∷ []) (sym h.image)) refl refl r
read_word d width typed wide w first texts ws is low (Unread none e) r =
    let some : 1 ≤ digits_of_word width = omega (arith, wide) in
    read_more (table d) width first texts (record { label = None; content = Bits w }) (w ∷ []) ws [] is (ap (line width) e ∙ bits_line width w some low)
    (record { alone = refl; cell = refl; stands = λ ts same. absurd cc }) refl refl refl r

word_whole : (d : Desc) (width : ℕ) → IsTyped d → (w : ℕ) (first : Text) → IsWordLine (table d) width w first → list_all (λ c. not (c == 10)) first ≡ true
word_whole d width typed w first (Read x h e) = subst (λ text. list_all (λ c. not (c == 10)) text ≡ true) (sym e) (tokens_whole (syntax_of x) (syntax_tokens d x typed h.derivation))
word_whole d width typed w first (Unread none e) = subst (λ text. list_all (λ c. not (c == 10)) text ≡ true) (sym e) (bits_whole width w)

read_words : (d : Desc) (width : ℕ) → IsTyped d → 8 ≤ width → (ws : List ℕ) (ls texts : List Text) (is : List Initial) → AllByRecursion (λ w. w < 2 ^ width) ws → AreWordLines (table d) width ws ls
    → IsRead (table d) width texts [] is → IsRead (table d) width (ls ++ texts) ws is
read_words d width typed wide [] ls texts is fit h r = subst (λ xs. IsRead (table d) width (xs ++ texts) [] is) (sym h) r
read_words d width typed wide (w ∷ ws) ls texts is fit h r =
    subst (λ xs. IsRead (table d) width (xs ++ texts) (w ∷ ws) is) (sym h.2)
    (read_word d width typed wide w h.0 (h.1 ++ texts) ws is fit.0 h.3 (read_words d width typed wide ws h.1 texts is fit.1 h.4 r))

words_whole : (d : Desc) (width : ℕ) → IsTyped d → (ws : List ℕ) (ls : List Text) → AreWordLines (table d) width ws ls → AreWhole ls
words_whole d width typed [] ls h = subst AreWhole (sym h) tt
words_whole d width typed (w ∷ ws) ls h = subst AreWhole (sym h.2) (word_whole d width typed w h.0 h.3, words_whole d width typed ws h.1 h.4)

-- ---- initial values

-- what is known of the cell of an initial value
record HasCell (t : Table) (i : Initial) : Type 0 where
  size : ℕ
  ty : Ty
  name_is : is_name (storage_name t i.storage) ≡ true
  found : declared t (storage_name t i.storage) ≡ Some (Declared.Storage i.storage size ty)
  type_is : storage_type t i.storage ≡ ty
  within : nat_lt i.cell size ≡ true
  short : IsShort i.cell
  other : not (i.storage == pc t) ≡ true
  value : IsValue ty i.raw (wrapped ty (pos i.raw))

all_at : {A : Type 0} (P : A → Type 0) (xs : List A) (n : ℕ) (x : A) → AllByRecursion P xs → slice_get xs n ≡ Some x → P x
all_at P [] n x h is = absurd cc
all_at P (y ∷ xs) zero x h is = subst P (let e : y ≡ x = cc in e) h.0
all_at P (y ∷ xs) (suc n) x h is = all_at P xs n x h.1 is

has_cell : (d : Desc) (width : ℕ) → IsTyped d → AreNamed (table d) → IsLimited (measures (table d) width) → (i : Initial) → is_init (measures (table d) width) (stored i) ≡ true → HasCell (table d) i
has_cell d width typed are_named limits i h = by (slice_get (storages (table d)) i.storage) refl q.0 q.1
  where
    t : Table
    t = table d

    p : (valid.is_storage (measures (table d) width) i.storage ≡ true) × ((valid.is_cell (measures (table d) width) i.storage i.cell && valid.is_raw (measures (table d) width) i.storage i.raw) ≡ true)
    p = and_parts (valid.is_storage (measures (table d) width) i.storage) (valid.is_cell (measures (table d) width) i.storage i.cell && valid.is_raw (measures (table d) width) i.storage i.raw) h

    q : (valid.is_cell (measures (table d) width) i.storage i.cell ≡ true) × (valid.is_raw (measures (table d) width) i.storage i.raw ≡ true)
    q = and_parts (valid.is_cell (measures (table d) width) i.storage i.cell) (valid.is_raw (measures (table d) width) i.storage i.raw) p.1

    by : (o : Option (ℕ × Ty)) → slice_get (storages (table d)) i.storage ≡ o → valid.is_cell_of (slice_get (storages (table d)) i.storage) i.cell ≡ true → valid.is_raw_of (slice_get (storages (table d)) i.storage) i.raw ≡ true
        → HasCell (table d) i
    by None e a b = absurd (let f : valid.is_cell_of None i.cell ≡ true = subst (λ o. valid.is_cell_of o i.cell ≡ true) e a in cc)
    by (Some (size, ty)) e a b =
        let cell_low : nat_lt i.cell size ≡ true = subst (λ o. valid.is_cell_of o i.cell ≡ true) e a in
        let raw_low : (nat_lt 0 i.raw && nat_lt i.raw (2 ^ width_of ty)) ≡ true = subst (λ o. valid.is_raw_of o i.raw ≡ true) e b in
        let r = and_parts (nat_lt 0 i.raw) (nat_lt i.raw (2 ^ width_of ty)) raw_low in
        let small : IsSmall (size, ty) = all_at IsSmall (storages (table d)) i.storage (size, ty) limits.small e in
        let below = ltb-true i.cell size cell_low in
        let found = storage_found d typed i.storage size ty e in
        record {
          size = size;
          ty = ty;
          name_is = are_named (storage_name (table d) i.storage) i.storage size ty found;
          found = found;
          type_is = ap (λ o. unwrap_or o tys.Bool) (get_mapped (λ s. s.1) (storages (table d)) i.storage (size, ty) e);
          within = cell_low;
          short = power_short i.cell 16 (omega arith) (let most = small.0 in omega (arith, below, most));
          other = (and_parts (nat_lt i.storage (length (storages (table d)))) (not (i.storage == pc (table d))) p.0).1;
          value = value_is ty i.raw small.1 (ltb-true 0 i.raw r.0) (ltb-true i.raw (2 ^ width_of ty) r.1);
        }

data_is : (t : Table) (i : Initial) (c : HasCell t i) → data_line t i ≡ data_text (storage_name t i.storage) i.cell (wrapped c.ty (pos i.raw))
data_is t i c = ap (λ u. data_text (storage_name t i.storage) i.cell (wrapped u (pos i.raw))) c.type_is

read_data : (t : Table) (width : ℕ) (i : Initial) (texts : List Text) (is : List Initial) → HasCell t i → IsRead t width texts [] is → IsRead t width (data_line t i ∷ texts) [] (i ∷ is)
read_data t width i texts is c r =
    let name : Text = storage_name t i.storage in
    let z : ℤ = wrapped c.ty (pos i.raw) in
    read_more t width (data_line t i) texts (record { label = None; content = Data name i.cell z }) [] [] (i ∷ []) is
    (ap (line width) (data_is t i c) ∙ data_line_is width name i.cell z c.name_is c.short c.value.short)
    (record { alone = refl; cell = rw c.found (and_from _ _ (and_from _ _ c.other c.within) c.value.within); stands = λ ts e. absurd cc }) refl refl
    (ap (λ o. initial o i.cell z) c.found ∙ ap (λ (j : Initial). j ∷ []) (initial_is (record { storage = i.storage; cell = i.cell; raw = unsigned_abs (low_bits (width_of c.ty) z) }) i refl refl c.value.back)) r

read_inits : (t : Table) (width : ℕ) (is : List Initial) → ((i : Initial) → Contains is i → HasCell t i) → IsRead t width (map (data_line t) is ++ [] ∷ []) [] is
read_inits t width [] h = read_empty t width
read_inits t width (i ∷ is) h = read_data t width i (map (data_line t) is ++ [] ∷ []) is (h i (0, omega arith, refl)) (read_inits t width is (λ j c. h j (behind i is j c)))

inits_whole : (t : Table) (is : List Initial) → ((i : Initial) → Contains is i → HasCell t i) → AreWhole (map (data_line t) is)
inits_whole t [] h = tt
inits_whole t (i ∷ is) h =
    let c = h i (0, omega arith, refl) in (
      subst (λ text. list_all (λ b. not (b == 10)) text ≡ true) (sym (data_is t i c)) (data_whole (storage_name t i.storage) i.cell (wrapped c.ty (pos i.raw)) c.name_is c.short c.value.short),
      inits_whole t is (λ j e. h j (behind i is j e)),
    )

all_inits : (m : valid.Measures) (is : List Initial) → AllByRecursion (λ c. is_init m c ≡ true) (map stored is) → (i : Initial) → Contains is i → is_init m (stored i) ≡ true
all_inits m [] h i c = absurd (omega (arith, c.1))
all_inits m (j ∷ is) h i c = elim (first_or_behind j is i c) [ inl e ↦ subst (λ (k : Initial). is_init m (stored k) ≡ true) e h.0 | inr e ↦ all_inits m is h.1 i e ]

-- ---- such lines have no fault

formed_some : (ls : List Line) → formed (map Some ls) ≡ ls
formed_some [] = refl
formed_some (l ∷ ls) = ap (λ ms. l ∷ ms) (formed_some ls)

form_none : (n : ℕ) (ls : List Line) → form_lines n (map Some ls) ≡ []
form_none n [] = refl
form_none n (l ∷ ls) = form_none (n + 1) ls

labels_none : (t : Table) (n : ℕ) (ls : List Line) → AllByRecursion (IsGood t) ls → labels_from n ls ≡ []
labels_none t n [] h = refl
labels_none t n (l ∷ ls) h = ap (λ o. labels_before o n (labels_from (n + words_of l.content) ls)) h.0.alone ∙ labels_none t (n + words_of l.content) ls h.1

written_known : (ts : List LineToken) → list_all (has_referent []) (map Written ts) ≡ true
written_known [] = refl
written_known (t ∷ ts) = written_known ts

content_known : (t : Table) (c : Content) → ((ts : List Token) → c ≡ Instruction ts → Stands t ts) → are_known [] c ≡ true
content_known t Nothing h = refl
content_known t (Bits w) h = refl
content_known t (Data name cell value) h = refl
content_known t (Instruction ts) h = let s = h ts refl in subst (λ us. list_all (has_referent []) us ≡ true) (sym s.3) (written_known (tokens s.0))

label_lines_none : (t : Table) (n : ℕ) (ls : List Line) → AllByRecursion (IsGood t) ls → label_lines [] [] n ls ≡ []
label_lines_none t n [] h = refl
label_lines_none t n (l ∷ ls) h =
    let known = content_known t l.content h.0.stands in
    let doubled : has_doubled [] l.label ≡ false = ap (has_doubled []) h.0.alone in
    ap (λ b. when b (n + 1) ++ label_lines [] (labels_before l.label 0 []) (n + 1) ls) (or_from (has_doubled [] l.label) (not (are_known [] l.content)) doubled (not_from_true (are_known [] l.content) known))
    ∙ (ap (λ o. label_lines [] (labels_before o 0 []) (n + 1) ls) h.0.alone ∙ label_lines_none t (n + 1) ls h.1)

rise_apart : (xs ys : List Initial) → rise (xs ++ ys) ≡ true → (x y : Initial) → Contains xs x → Contains ys y → is_before x y ≡ true
rise_apart [] ys h x y c e = absurd (omega (arith, c.1))
rise_apart (z ∷ xs) ys h x y c e =
    elim (first_or_behind z xs x c) [
      | inl same ↦ subst (λ (v : Initial). is_before v y ≡ true) same (rise_all z (xs ++ ys) h y (Contains-append_right xs ys y e))
      | inr d ↦ rise_apart xs ys (rise_behind z (xs ++ ys) h) x y d e
    ]

numbers_other : (a b c d : ℕ) → (nat_lt a c || ((a == c) && nat_lt b d)) ≡ true → ((c == a) && (d == b)) ≡ false
numbers_other a b c d h = grind (arith, nat_tests)

none_same : (before : List Initial) (y : Initial) → ((x : Initial) → Contains before x → is_before x y ≡ true) → list_any (is_same_cell y) before ≡ false
none_same [] y h = refl
none_same (x ∷ before) y h = or_from _ _ (numbers_other x.storage x.cell y.storage y.cell (h x (0, omega arith, refl))) (none_same before y (λ z c. h z (behind x before z c)))

none_any : (before ys : List Initial) → ((x y : Initial) → Contains before x → Contains ys y → is_before x y ≡ true) → list_any (λ i. list_any (is_same_cell i) before) ys ≡ false
none_any before [] h = refl
none_any before (y ∷ ys) h = or_from _ _ (none_same before y (λ x c. h x y c (0, omega arith, refl))) (none_any before ys (λ x z c e. h x z c (behind y ys z e)))

data_none : (t : Table) (before : List Initial) (n : ℕ) (ls : List Line) → AllByRecursion (IsGood t) ls → rise (before ++ given t ls) ≡ true → data_lines t before n ls ≡ []
data_none t before n [] h up = refl
data_none t before n (l ∷ ls) h up =
    let g : List Initial = given_by t l.content in
    let rest : List Initial = given t ls in
    let apart : list_any (λ i. list_any (is_same_cell i) before) g ≡ false = none_any before g (λ x y c e. rise_apart before (g ++ rest) up x y c (in_front g rest y e)) in
    ap (λ b. when b (n + 1) ++ data_lines t (before ++ g) (n + 1) ls) (or_from (not (is_data t l.content)) (list_any (λ i. list_any (is_same_cell i) before) g) (not_from_true (is_data t l.content) h.0.cell) apart)
    ∙ data_none t (before ++ g) (n + 1) ls h.1 (subst (λ xs. rise xs ≡ true) (sym (append_assoc before g rest)) up)
  where
    in_front : (xs ys : List Initial) (x : Initial) → Contains xs x → Contains (xs ++ ys) x
    in_front xs ys x c = Contains-append_left xs ys x c

-- ---- together

all_wanted : (is : List Initial) → ((i : Initial) → Contains is i → nat_lt 0 i.raw ≡ true) → filter (λ i. nat_lt 0 i.raw) is ≡ is
all_wanted [] h = refl
all_wanted (i ∷ is) h =
    ap (λ b. cond b (i ∷ filter (λ (j : Initial). nat_lt 0 j.raw) is) (filter (λ (j : Initial). nat_lt 0 j.raw) is)) (h i (0, omega arith, refl)) ∙ ap (λ js. i ∷ js) (all_wanted is (λ j c. h j (behind i is j c)))

stands_at : (t : Table) (ls : List Line) (k : ℕ) (l : Line) → AllByRecursion (IsGood t) ls → slice_get ls k ≡ Some l → (ts : List Token) → l.content ≡ Instruction ts → Stands t ts
stands_at t ls k l h is = (all_at (IsGood t) ls k l h is).stands

matched : (t : Table) (ls : List Line) (n : ℕ) → AllByRecursion (IsGood t) ls → HasNoMatch t ls n → ⊥
matched t ls n h none =
    let s = stands_at t ls none.stands.1 none.stands.0 h none.stands.3 none.tokens none.stands.4 in
    none.none s.0 s.1 (sym (resolved_written (labels ls) (tokens s.0)) ∙ ap (map (resolved (labels ls))) (sym s.3))

legal : (d : Desc) → IsChecked d → (ls : List Line) (n : ℕ) → AllByRecursion (IsGood (table d)) ls → HasConflict (table d) ls n → ⊥
legal d checked ls n h bad =
    let s = stands_at (table d) ls bad.stands.1 bad.stands.0 h bad.stands.3 bad.tokens bad.stands.4 in
    let same = checked.by_tokens bad.by s.0 bad.root s.1 (bad.has ∙ (ap (map (resolved (labels ls))) s.3 ∙ resolved_written (labels ls) (tokens s.0))) in
    let right : IsLegal (table d) bad.by = subst (λ x. IsLegal (table d) x) (sym same) s.2 in
    let wrong = bad.illegal in
    cc

nowhere : {A : Type 0} (xs : List A) (x : A) → xs ≡ [] → Contains xs x → ⊥
nowhere xs x e c = let d = subst (λ ys. Contains ys x) e c in omega (arith, d.1)

assembled : (d : Desc) → IsChecked d → (width : ℕ) (texts : List Text) (ws : List ℕ) (is : List Initial) → length ws ≤ word_limit (table d) → rise is ≡ true → ((i : Initial) → Contains is i → nat_lt 0 i.raw ≡ true)
    → (text : Text) → source width text ≡ map (line width) texts → IsRead (table d) width texts ws is → IsAssembled (table d) width text ws is
assembled d checked width texts ws is few up some text cut r = record { free = free; assembles = record { give = give; begin = begin } }
  where
    t : Table
    t = table d

    is_source : source width text ≡ map Some r.these
    is_source = cut ∙ r.same

    is_formed : formed (source width text) ≡ r.these
    is_formed = ap formed is_source ∙ formed_some r.these

    is_labels : labels r.these ≡ []
    is_labels = labels_none (table d) 0 r.these r.good

    free : IsFreeBelow 7 (table d) (source width text)
    free zero low h = cause (table d) (source width text) zero h
    free (suc zero) low h = let c = cause (table d) (source width text) 1 h in nowhere _ c.0 (ap (form_lines 0) is_source ∙ form_none 0 r.these) c.1
    free (suc (suc zero)) low h =
        let c = cause (table d) (source width text) 2 h in
        nowhere _ c.0 (ap (λ ls. label_lines (labels ls) [] 0 ls) is_formed ∙ (ap (λ all. label_lines all [] 0 r.these) is_labels ∙ label_lines_none (table d) 0 r.these r.good)) c.1
    free (suc (suc (suc zero))) low h = let c = cause (table d) (source width text) 3 h in matched (table d) r.these c.0 r.good (subst (λ ls. HasNoMatch (table d) ls c.0) is_formed c.1)
    free (suc (suc (suc (suc zero)))) low h = let c = cause (table d) (source width text) 4 h in legal d checked r.these c.0 r.good (subst (λ ls. HasConflict (table d) ls c.0) is_formed c.1)
    free (suc (suc (suc (suc (suc zero))))) low h =
        let c = cause (table d) (source width text) 5 h in let over : word_limit (table d) < count_words r.these = subst (λ ls. word_limit (table d) < count_words ls) is_formed c in omega (arith, over, r.many, few)
    free (suc (suc (suc (suc (suc (suc zero)))))) low h =
        let c = cause (table d) (source width text) 6 h in
        nowhere _ c.0 (ap (data_lines (table d) [] 0) is_formed ∙ data_none (table d) [] 0 r.these r.good (subst (λ xs. rise xs ≡ true) (sym r.begin) up)) c.1
    free (suc (suc (suc (suc (suc (suc (suc k))))))) low h = omega (arith, low)

    give : GiveWords (table d) (labels (formed (source width text))) (formed (source width text)) ws
    give = subst (λ ls. GiveWords (table d) (labels ls) ls ws) (sym is_formed) (subst (λ all. GiveWords (table d) all r.these ws) (sym is_labels) r.give)

    begin : are_initial (table d) (formed (source width text)) is ≡ true
    begin =
        let wanted : filter (λ (i : Initial). nat_lt 0 i.raw) (given (table d) r.these) ≡ is = ap (filter (λ (i : Initial). nat_lt 0 i.raw)) r.begin ∙ all_wanted is some in
        let itself : are_among is is ≡ true = within_among is is (λ x c. c) in
        subst (λ ls. are_initial (table d) ls is ≡ true) (sym is_formed)
        (subst (λ xs. (rise is && are_among is xs && are_among xs is) ≡ true) (sym wanted) (and_from (rise is && are_among is is) (are_among is is) (and_from _ _ up itself) itself))

pub round_trip : (d : Desc) (width : ℕ) (ws text : List ℕ) (is : List Initial) → IsChecked d → AreNamed (table d) → IsWordWidth (table d) width → AreRight (table d) width ws is → IsCanonical (table d) width ws is text
    → IsAssembled (table d) width text ws is
round_trip d width ws text is checked are_named wide right h =
    let t = table d in
    let typed : IsTyped d = λ k low. checked.free k (omega (arith, low)) in
    let limits = limited d width checked wide in
    let v = right [] in
    let cells : (i : Initial) → Contains is i → is_init (measures t width) (stored i) ≡ true = all_inits (measures t width) is v.cells in
    let has : (i : Initial) → Contains is i → HasCell t i = λ i c. has_cell d width typed are_named limits i (cells i c) in
    let texts : List Text = h.0 ++ (map (data_line t) is ++ [] ∷ []) in
    let whole : AreWhole (h.0 ++ map (data_line t) is) = whole_both h.0 (map (data_line t) is) (words_whole d width typed ws h.0 h.1) (inits_whole t is has) in
    let cut : source width text ≡ map (line width) texts =
    ap (map (line width)) (ap (slice_split (λ c. c == 10)) h.2 ∙ (lines_of (h.0 ++ map (data_line t) is) whole ∙ append_assoc h.0 (map (data_line t) is) ([] ∷ []))) in
    assembled d checked width texts ws is v.count (rise_stored is ∙ v.order) (λ i c. positive i (cells i c)) text cut
    (read_words d width typed limits.wide ws h.0 (map (data_line t) is ++ [] ∷ []) is v.fit h.1 (read_inits t width is has))
  where
    raw_positive : (o : Option (ℕ × Ty)) (n : ℕ) → valid.is_raw_of o n ≡ true → nat_lt 0 n ≡ true
    raw_positive None n e = absurd cc
    raw_positive (Some (size, ty)) n e = (and_parts (nat_lt 0 n) (nat_lt n (2 ^ width_of ty)) e).0

    positive : (i : Initial) → is_init (measures (table d) width) (stored i) ≡ true → nat_lt 0 i.raw ≡ true
    positive i e =
        let m = measures (table d) width in
        let p = and_parts (valid.is_storage m i.storage) (valid.is_cell m i.storage i.cell && valid.is_raw m i.storage i.raw) e in
        let q = and_parts (valid.is_cell m i.storage i.cell) (valid.is_raw m i.storage i.raw) p.1 in
        raw_positive (slice_get (storages (table d)) i.storage) i.raw q.1
