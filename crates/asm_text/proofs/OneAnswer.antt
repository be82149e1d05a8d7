-- A text has one answer at most, and what it is assembled to is right for an image.
use Rattle.std.proofs.Common.{ℕ, zero, suc, ◌+◌, ◌<◌, ◌≡◌, refl, sym, ◌∙◌, ap, subst, Bool, true, false, List, [], ◌∷◌, ◌++◌, map, filter, Option, arith, ◌⊎◌, inl, inr}
use Rattle.std.specs.Prelude.{nat_lt, ◌&&◌}
use Rattle.std.proofs.lemmas.Bool.{cases_order}
use Rattle.nml_tree.specs.declared.tree.Desc.{Desc}
use Rattle.nml_tree.specs.Derivation.{Derivation}
use Rattle.nml_tree.specs.Image.{word_of}
use Rattle.nml_tree.specs.Machine.{Initial}
use Rattle.nml_tree.specs.Places.{IsLeast}
use Rattle.nml_tree.specs.Refused.{IsChecked}
use Rattle.nml_tree.specs.Same.{tokens}
use Rattle.nml_tree.specs.Table.{Table, table}
use Rattle.nml_tree.specs.Valid.{IsRoot}
use Rattle.asm_lines.specs.Line.{Content, Nothing, Instruction, Bits, Data, Line}
use Rattle.asm_text.specs.declared.fault.AsmFault.{AsmFault}
use Rattle.asm_text.specs.declared.fault.AsmFault.TheVariants as fault
use Rattle.asm_text.specs.Answer.{IsAssembled}
use Rattle.asm_text.specs.Assembled.{GivesWords, GiveWords, rise, are_among, are_initial, given}
use Rattle.asm_text.specs.Refused.{Holds, By_form, By_label, By_match, By_conflict, By_count, By_data, form_lines, label_lines, data_lines, HasNoMatch, HasConflict, word_limit, IsFreeBelow, IsFirst, IsRefusedSource, IsRefused}
use Rattle.asm_text.specs.Source.{Labels, source, formed, labels, count_words}
use Rattle.asm_text.proofs.Inits.{among_within, one_rising}
pub use Rattle.asm_text.proofs.Right.{right}

abbrev AreTold : Table → Type 0
AreTold t = (a b : Derivation) → IsRoot t a → IsRoot t b → tokens a ≡ tokens b → a ≡ b

one_given : (t : Table) (labels : Labels) → AreTold t → (c : Content) (ws vs : List ℕ) → GivesWords t labels c ws → GivesWords t labels c vs → ws ≡ vs
one_given t labels told Nothing ws vs h k = h ∙ sym k
one_given t labels told (Instruction ts) ws vs h k = h.4 ∙ (ap (λ d. word_of d ∷ []) (told h.0 k.0 h.1 k.1 (h.3 ∙ sym k.3)) ∙ sym k.4)
one_given t labels told (Bits w) ws vs h k = h ∙ sym k
one_given t labels told (Data name cell value) ws vs h k = h ∙ sym k

words_same : (t : Table) (labels : Labels) → AreTold t → (ls : List Line) (ws vs : List ℕ) → GiveWords t labels ls ws → GiveWords t labels ls vs → ws ≡ vs
words_same t labels told [] ws vs h k = h ∙ sym k
words_same t labels told (l ∷ ls) ws vs h k =
    h.2 ∙ (ap (λ xs. xs ++ h.1) (one_given t labels told l.content h.0 k.0 h.3 k.3) ∙ (ap (λ ys. k.0 ++ ys) (words_same t labels told ls h.1 k.1 h.4 k.4) ∙ sym k.2))

pub three_parts : (a b c : Bool) → (a && b && c) ≡ true → (a ≡ true) × (b ≡ true) × (c ≡ true)
three_parts true true true h = (refl, refl, refl)
three_parts false b c h = absurd cc
three_parts true false c h = absurd cc
three_parts true true false h = absurd cc

inits_same : (t : Table) (ls : List Line) (is js : List Initial) → are_initial t ls is ≡ true → are_initial t ls js ≡ true → is ≡ js
inits_same t ls is js h k =
    let wanted = filter (λ (i : Initial). nat_lt 0 i.raw) (given t ls) in
    let p = three_parts (rise is) (are_among is wanted) (are_among wanted is) h in
    let q = three_parts (rise js) (are_among js wanted) (are_among wanted js) k in
    one_rising is js p.0 q.0 (λ x c. among_within wanted js q.2 x (among_within is wanted p.1 x c)) (λ x c. among_within wanted is p.2 x (among_within js wanted q.1 x c))

pub one_words : (d : Desc) (width : ℕ) (text ws vs : List ℕ) (is js : List Initial) → IsChecked d → IsAssembled (table d) width text ws is → IsAssembled (table d) width text vs js → (ws ≡ vs) × (is ≡ js)
one_words d width text ws vs is js checked h k = (
  words_same (table d) (labels (formed (source width text))) checked.by_tokens (formed (source width text)) ws vs h.assembles.give k.assembles.give,
  inits_same (table d) (formed (source width text)) is js h.assembles.begin k.assembles.begin,
)

-- ---- faults

-- the fault of this number, at this line or of so many words
abbrev made : ℕ → ℕ → AsmFault
made (suc zero) n = fault.Lex n
made (suc (suc zero)) n = fault.Label n
made (suc (suc (suc zero))) n = fault.NoMatch n
made (suc (suc (suc (suc zero)))) n = fault.Conflict n
made (suc (suc (suc (suc (suc zero))))) n = fault.Full n
made (suc (suc (suc (suc (suc (suc zero)))))) n = fault.Data n
made _ n = fault.Memory

-- it is told of the first line of which it holds, or of all words
abbrev IsValue : Table → List (Option Line) → ℕ → ℕ → Type 0
IsValue t ls (suc zero) n = IsLeast (form_lines 0 ls) n
IsValue t ls (suc (suc zero)) n = IsLeast (label_lines (labels (formed ls)) [] 0 (formed ls)) n
IsValue t ls (suc (suc (suc zero))) n = IsFirst (HasNoMatch t (formed ls)) n
IsValue t ls (suc (suc (suc (suc zero)))) n = IsFirst (HasConflict t (formed ls)) n
IsValue t ls (suc (suc (suc (suc (suc zero))))) n = (n ≡ count_words (formed ls)) × (word_limit t < n)
IsValue t ls (suc (suc (suc (suc (suc (suc zero)))))) n = IsLeast (data_lines t [] 0 (formed ls)) n
IsValue t ls _ n = ⊥

holds : (t : Table) (ls : List (Option Line)) (k n : ℕ) → IsValue t ls k n → Holds t ls k
holds t ls zero n h = absurd h
holds t ls (suc zero) n h = By_form n h.among
holds t ls (suc (suc zero)) n h = By_label n h.among
holds t ls (suc (suc (suc zero))) n h = By_match n h.holds
holds t ls (suc (suc (suc (suc zero)))) n h = By_conflict n h.holds
holds t ls (suc (suc (suc (suc (suc zero))))) n h = By_count (subst (λ m. word_limit t < m) h.0 h.1)
holds t ls (suc (suc (suc (suc (suc (suc zero)))))) n h = By_data n h.among
holds t ls (suc (suc (suc (suc (suc (suc (suc k))))))) n h = absurd h

one_least : (places : List ℕ) (m n : ℕ) → IsLeast places m → IsLeast places n → m ≡ n
one_least places m n h k = omega (arith, h.least n k.among, k.least m h.among)

one_first : (P : ℕ → Type 0) (m n : ℕ) → IsFirst P m → IsFirst P n → m ≡ n
one_first P m n h k = omega (arith, h.first n k.holds, k.first m h.holds)

one_value : (t : Table) (ls : List (Option Line)) (k m n : ℕ) → IsValue t ls k m → IsValue t ls k n → m ≡ n
one_value t ls zero m n h k = absurd h
one_value t ls (suc zero) m n h k = one_least _ m n h k
one_value t ls (suc (suc zero)) m n h k = one_least _ m n h k
one_value t ls (suc (suc (suc zero))) m n h k = one_first (HasNoMatch t (formed ls)) m n h k
one_value t ls (suc (suc (suc (suc zero)))) m n h k = one_first (HasConflict t (formed ls)) m n h k
one_value t ls (suc (suc (suc (suc (suc zero))))) m n h k = h.0 ∙ sym k.0
one_value t ls (suc (suc (suc (suc (suc (suc zero)))))) m n h k = one_least _ m n h k
one_value t ls (suc (suc (suc (suc (suc (suc (suc k))))))) m n h g = absurd h

-- a fault that a text is refused for
record IsTold (t : Table) (ls : List (Option Line)) (f : AsmFault) : Type 0 where
  number : ℕ
  line : ℕ
  is : f ≡ made number line
  low : number < 7
  told : IsValue t ls number line
  free : (k n : ℕ) → k < number → IsValue t ls k n → ⊥

by_holds : (t : Table) (ls : List (Option Line)) (number : ℕ) → IsFreeBelow number t ls → (k n : ℕ) → k < number → IsValue t ls k n → ⊥
by_holds t ls number free k n low h = free k low (holds t ls k n h)

by_none : (t : Table) (ls : List (Option Line)) (k n : ℕ) → k < 1 → IsValue t ls k n → ⊥
by_none t ls zero n low h = h
by_none t ls (suc k) n low h = omega (arith, low)

told : (t : Table) (ls : List (Option Line)) (f : AsmFault) → IsRefusedSource t ls f → (f ≡ fault.Memory) ⊎ IsTold t ls f
told t ls (fault.Lex n) h = inr (record { number = 1; line = n; is = refl; low = omega arith; told = h; free = by_none t ls })
told t ls (fault.Label n) h = inr (record { number = 2; line = n; is = refl; low = omega arith; told = h.1; free = by_holds t ls 2 h.0 })
told t ls (fault.NoMatch n) h = inr (record { number = 3; line = n; is = refl; low = omega arith; told = h.1; free = by_holds t ls 3 h.0 })
told t ls (fault.Conflict n) h = inr (record { number = 4; line = n; is = refl; low = omega arith; told = h.1; free = by_holds t ls 4 h.0 })
told t ls (fault.Full n) h = inr (record { number = 5; line = n; is = refl; low = omega arith; told = (h.1, h.2); free = by_holds t ls 5 h.0 })
told t ls (fault.Data n) h = inr (record { number = 6; line = n; is = refl; low = omega arith; told = h.1; free = by_holds t ls 6 h.0 })
told t ls fault.Memory h = inl refl

same_told : (t : Table) (ls : List (Option Line)) (f g : AsmFault) → IsTold t ls f → IsTold t ls g → f ≡ g
same_told t ls f g a b = by (cases_order a.number b.number)
  where
    by : (a.number ≡ b.number) ⊎ ((a.number < b.number) ⊎ (b.number < a.number)) → f ≡ g
    by (inl e) = a.is ∙ (ap (λ k. made k a.line) e ∙ (ap (made b.number) (one_value t ls b.number a.line b.line (subst (λ k. IsValue t ls k a.line) e a.told) b.told) ∙ sym b.is))
    by (inr (inl low)) = absurd (b.free a.number a.line low a.told)
    by (inr (inr low)) = absurd (a.free b.number b.line low b.told)

pub one_fault : (d : Desc) (width : ℕ) (text : List ℕ) (f g : AsmFault) → (f ≡ fault.Memory → ⊥) → (g ≡ fault.Memory → ⊥) → IsRefused (table d) width text f → IsRefused (table d) width text g → f ≡ g
one_fault d width text f g a b h k = by (told (table d) (source width text) f h) (told (table d) (source width text) g k)
  where
    by : (f ≡ fault.Memory) ⊎ IsTold (table d) (source width text) f → (g ≡ fault.Memory) ⊎ IsTold (table d) (source width text) g → f ≡ g
    by (inl e) q = absurd (a e)
    by (inr p) (inl e) = absurd (b e)
    by (inr p) (inr q) = same_told (table d) (source width text) f g p q

pub apart : (d : Desc) (width : ℕ) (text ws : List ℕ) (is : List Initial) (f : AsmFault) → IsAssembled (table d) width text ws is → IsRefused (table d) width text f → f ≡ fault.Memory
apart d width text ws is f h k =
    elim (told (table d) (source width text) f k) [ inl e ↦ e | inr p ↦ absurd (h.free p.number p.low (holds (table d) (source width text) p.number p.line p.told)) ]
