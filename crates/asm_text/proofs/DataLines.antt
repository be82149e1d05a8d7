-- Where no `.data` line is at fault each gives a value to a cell, and no two to one cell.
use Rattle.std.proofs.Common.{ℕ, zero, suc, ◌+◌, ◌≡◌, refl, sym, ap, subst, Bool, true, false, List, [], ◌∷◌, ◌++◌, Option, Some, None, Contains, arith, ◌⊎◌, inl, inr, ℤ}
use Rattle.std.specs.Prelude.{not, ◌||◌, slice_get}
use Rattle.std.specs.List.{list_any}
use Rattle.std.proofs.lemmas.Bool.{or_parts, not-false}
use Rattle.std.proofs.lemmas.List.Elements.{Contains-append_left, Contains-append_right, Contains-append_cases}
use Rattle.nml_tree.specs.Machine.{Initial}
use Rattle.nml_tree.specs.Places.{when}
use Rattle.nml_tree.specs.Table.{Text, Table, Declared, declared}
use Rattle.nml_widths.proofs.Fits.{when_none, no_left, no_right}
use Rattle.asm_lines.specs.Line.{Content, Nothing, Instruction, Bits, Data, Line}
use Rattle.asm_text.specs.Assembled.{initial, given_by, given, is_same_cell}
use Rattle.asm_text.specs.Refused.{is_data, data_lines}
use Rattle.asm_text.proofs.Inits.{behind, first_or_behind}
use Rattle.asm_text.proofs.Sorted.{IsApart, Differ}

pub any_false : (test : Initial → Bool) (xs : List Initial) (x : Initial) → list_any test xs ≡ false → Contains xs x → test x ≡ false
any_false test [] x h c = absurd (omega (arith, c.1))
any_false test (y ∷ xs) x h c =
    let p = or_parts (test y) (list_any test xs) h in
    elim (first_or_behind y xs x c) [ inl e ↦ subst (λ (z : Initial). test z ≡ false) e p.0 | inr d ↦ any_false test xs x p.1 d ]

-- a line gives one value at most
abbrev IsFew : List Initial → Type 0
IsFew xs = (xs ≡ []) ⊎ ((i : Initial) × (xs ≡ i ∷ []))

few_initial : (o : Option Declared) (cell : ℕ) (value : ℤ) → IsFew (initial o cell value)
few_initial None cell value = inl refl
few_initial (Some (Declared.Constant z)) cell value = inl refl
few_initial (Some (Declared.TypeName ty)) cell value = inl refl
few_initial (Some (Declared.Storage n k ty)) cell value = inr (_, refl)
few_initial (Some (Declared.Trn n ty)) cell value = inl refl
few_initial (Some (Declared.Inp ty)) cell value = inl refl
few_initial (Some (Declared.Out ty)) cell value = inl refl
few_initial (Some (Declared.Or mode names)) cell value = inl refl
few_initial (Some (Declared.And rule)) cell value = inl refl

few_given : (t : Table) (c : Content) → IsFew (given_by t c)
few_given t Nothing = inl refl
few_given t (Instruction ts) = inl refl
few_given t (Bits w) = inl refl
few_given t (Data name cell value) = few_initial (declared t name) cell value

differ_few : (xs ys : List Initial) → IsFew xs → ((x : Initial) → Contains xs x → IsApart x ys) → Differ ys → Differ (xs ++ ys)
differ_few xs ys (inl e) h k = subst (λ zs. Differ (zs ++ ys)) (sym e) k
differ_few xs ys (inr (i, e)) h k = subst (λ zs. Differ (zs ++ ys)) (sym e) (h i (subst (λ zs. Contains zs i) (sym e) (0, omega arith, refl)), k)

-- what is told of a line, which gives no cell that was given before
here : (t : Table) (before : List Initial) (n : ℕ) (l : Line) (ls : List Line) → data_lines t before n (l ∷ ls) ≡ []
    → (is_data t l.content ≡ true) × (list_any (λ i. list_any (is_same_cell i) before) (given_by t l.content) ≡ false)
here t before n l ls h =
    let w = when_none (not (is_data t l.content) || list_any (λ i. list_any (is_same_cell i) before) (given_by t l.content)) (n + 1) (no_left _ _ h) in
    let p = or_parts (not (is_data t l.content)) (list_any (λ i. list_any (is_same_cell i) before) (given_by t l.content)) w in
    (not-false (is_data t l.content) p.0, p.1)

later : (t : Table) (before : List Initial) (n : ℕ) (l : Line) (ls : List Line) → data_lines t before n (l ∷ ls) ≡ [] → data_lines t (before ++ given_by t l.content) (n + 1) ls ≡ []
later t before n l ls h = no_right (when (not (is_data t l.content) || list_any (λ i. list_any (is_same_cell i) before) (given_by t l.content)) (n + 1)) _ h

pub all_data : (t : Table) (before : List Initial) (n : ℕ) (ls : List Line) → data_lines t before n ls ≡ [] → (l : Line) → Contains ls l → is_data t l.content ≡ true
all_data t before n [] h l c = absurd (omega (arith, c.1))
all_data t before n (x ∷ ls) h l c =
    elim (first_or_behind x ls l c) [
      | inl e ↦ subst (λ (y : Line). is_data t y.content ≡ true) e (here t before n x ls h).0
      | inr d ↦ all_data t (before ++ given_by t x.content) (n + 1) ls (later t before n x ls h) l d
    ]

apart_before : (t : Table) (before : List Initial) (n : ℕ) (ls : List Line) → data_lines t before n ls ≡ [] → (x : Initial) → Contains before x → IsApart x (given t ls)
apart_before t before n [] h x c z d = absurd (omega (arith, d.1))
apart_before t before n (l ∷ ls) h x c z d =
    elim (Contains-append_cases (given_by t l.content) (given t ls) z d) [
      | inl e ↦ any_false (is_same_cell z) before x (any_false (λ i. list_any (is_same_cell i) before) (given_by t l.content) z (here t before n l ls h).1 e) c
      | inr e ↦ apart_before t (before ++ given_by t l.content) (n + 1) ls (later t before n l ls h) x (Contains-append_left before (given_by t l.content) x c) z e
    ]

pub differ_given : (t : Table) (before : List Initial) (n : ℕ) (ls : List Line) → data_lines t before n ls ≡ [] → Differ (given t ls)
differ_given t before n [] h = tt
differ_given t before n (l ∷ ls) h =
    let more = later t before n l ls h in
    differ_few (given_by t l.content) (given t ls) (few_given t l.content)
    (λ x c. apart_before t (before ++ given_by t l.content) (n + 1) ls more x (Contains-append_right before (given_by t l.content) x c))
    (differ_given t (before ++ given_by t l.content) (n + 1) ls more)
