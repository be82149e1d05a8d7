-- It can't be that a text has no answer.
use Rattle.std.proofs.Common.{ℕ, zero, suc, ◌+◌, ◌<◌, ◌≤◌, ◌≡◌, refl, sym, ap, subst, Bool, true, false, List, [], ◌∷◌, map, filter, Option, Some, None, Contains, arith, ◌⊎◌, inl, inr}
use Rattle.std.specs.Prelude.{nat_lt, ◌&&◌, slice_get}
use Rattle.std.proofs.lemmas.Bool.{and_from, cases_lt}
use Rattle.nml_tree.specs.declared.tree.Desc.{Desc}
use Rattle.nml_tree.specs.Derivation.{Derivation}
use Rattle.nml_tree.specs.Image.{word_of}
use Rattle.nml_tree.specs.Legal.{is_legal}
use Rattle.nml_tree.specs.Machine.{Initial}
use Rattle.nml_tree.specs.Places.{IsLeast, least_of}
use Rattle.nml_tree.specs.Refused.{IsChecked}
use Rattle.nml_tree.specs.Same.{tokens}
use Rattle.nml_tree.specs.Table.{Table, table}
use Rattle.nml_tree.specs.Valid.{IsRoot}
use Rattle.nml_tree.proofs.LeastPlace.{none_from_least, is_least}
use Rattle.asm_lines.specs.Line.{Token, Content, Nothing, Instruction, Bits, Data, Line}
use Rattle.asm_text.specs.declared.fault.AsmFault.{AsmFault}
use Rattle.asm_text.specs.declared.fault.AsmFault.TheVariants as fault
use Rattle.asm_text.specs.Answer.{IsAssembled}
use Rattle.asm_text.specs.Assembled.{GivesWords, GiveWords, rise, are_among, are_initial, given}
use Rattle.asm_text.specs.Refused.{Holds, By_form, By_label, By_match, By_conflict, By_count, By_data, form_lines, label_lines, data_lines, HasNoMatch, HasConflict, word_limit, IsFreeBelow, IsFirst, IsRefusedSource, IsRefused}
use Rattle.asm_text.specs.Source.{Labels, source, formed, labels, count_words, resolved}
use Rattle.asm_text.proofs.Inits.{within_among}
use Rattle.asm_text.proofs.Sorted.{sorted, sorted_within, within_sorted, rise_sorted, differ_filter}
use Rattle.asm_text.proofs.DataLines.{differ_given}

-- ---- faults

-- for what a fault of this number holds
abbrev pub Cause : Table → List (Option Line) → ℕ → Type 0
Cause t ls (suc zero) = (n : ℕ) × Contains (form_lines 0 ls) n
Cause t ls (suc (suc zero)) = (n : ℕ) × Contains (label_lines (labels (formed ls)) [] 0 (formed ls)) n
Cause t ls (suc (suc (suc zero))) = (n : ℕ) × HasNoMatch t (formed ls) n
Cause t ls (suc (suc (suc (suc zero)))) = (n : ℕ) × HasConflict t (formed ls) n
Cause t ls (suc (suc (suc (suc (suc zero))))) = word_limit t < count_words (formed ls)
Cause t ls (suc (suc (suc (suc (suc (suc zero)))))) = (n : ℕ) × Contains (data_lines t [] 0 (formed ls)) n
Cause t ls _ = ⊥

pub cause : (t : Table) (ls : List (Option Line)) (k : ℕ) → Holds t ls k → Cause t ls k
cause t ls k (By_form n c) = (n, c)
cause t ls k (By_label n c) = (n, c)
cause t ls k (By_match n c) = (n, c)
cause t ls k (By_conflict n c) = (n, c)
cause t ls k (By_count c) = c
cause t ls k (By_data n c) = (n, c)

some_least : (places : List ℕ) (n : ℕ) → Contains places n → (m : ℕ) × IsLeast places m
some_least places n c = by (least_of places) refl
  where
    by : (o : Option ℕ) → least_of places ≡ o → (m : ℕ) × IsLeast places m
    by None e = absurd (let none = subst (λ xs. Contains xs n) (none_from_least places e) c in omega (arith, none.1))
    by (Some m) e = (m, is_least places m e)

-- it can't be that something holds of a number and of no first one
some_first : (P : ℕ → Type 0) (n : ℕ) → P n → ((m : ℕ) → IsFirst P m → ⊥) → ⊥
some_first P n h without = below (suc n) n (omega arith) h
  where
    below : (b k : ℕ) → k < b → P k → ⊥
    below zero k low p = omega (arith, low)
    below (suc b) k low p = without k (record { holds = p; first = λ j q. elim (cases_lt j k) [ inl less ↦ absurd (below b j (omega (arith, less, low)) q) | inr most ↦ most ] })

free_more : (t : Table) (ls : List (Option Line)) (k : ℕ) → IsFreeBelow k t ls → (Holds t ls k → ⊥) → IsFreeBelow (suc k) t ls
free_more t ls k free none j low h =
    elim (cases_lt j k) [ inl less ↦ free j less h | inr most ↦ none (subst (Holds t ls) (let e : j ≡ k = omega (arith, low, most) in e) h) ]

none_below : (t : Table) (ls : List (Option Line)) → IsFreeBelow 1 t ls
none_below t ls zero low h = cause t ls zero h
none_below t ls (suc j) low h = omega (arith, low)

-- a text that is refused for nothing has no fault
free_all : (t : Table) (ls : List (Option Line)) → ((f : AsmFault) → (f ≡ fault.Memory → ⊥) → IsRefusedSource t ls f → ⊥) → IsFreeBelow 7 t ls
free_all t ls none =
    let f1 = none_below t ls in
    let f2 = free_more t ls 1 f1 (λ h. let c = cause t ls 1 h in let l = some_least _ c.0 c.1 in none (fault.Lex l.0) (λ e. cc) l.1) in
    let f3 = free_more t ls 2 f2 (λ h. let c = cause t ls 2 h in let l = some_least _ c.0 c.1 in none (fault.Label l.0) (λ e. cc) (f2, l.1)) in
    let f4 = free_more t ls 3 f3 (λ h. let c = cause t ls 3 h in some_first (HasNoMatch t (formed ls)) c.0 c.1 (λ m first. none (fault.NoMatch m) (λ e. cc) (f3, first))) in
    let f5 = free_more t ls 4 f4 (λ h. let c = cause t ls 4 h in some_first (HasConflict t (formed ls)) c.0 c.1 (λ m first. none (fault.Conflict m) (λ e. cc) (f4, first))) in
    let f6 = free_more t ls 5 f5 (λ h. none (fault.Full (count_words (formed ls))) (λ e. cc) (f5, refl, cause t ls 5 h)) in
    free_more t ls 6 f6 (λ h. let c = cause t ls 6 h in let l = some_least _ c.0 c.1 in none (fault.Data l.0) (λ e. cc) (f6, l.1))

-- ---- words

-- it can't be that the line gives no words
abbrev Gives : Table → Labels → Content → Type 0
Gives t labels c = ((ws : List ℕ) → GivesWords t labels c ws → ⊥) → ⊥

one_gives : (t : Table) (ls : List Line) (k : ℕ) (l : Line) (c : Content) → ((n : ℕ) → HasNoMatch t ls n → ⊥) → ((n : ℕ) → HasConflict t ls n → ⊥) → slice_get ls k ≡ Some l → l.content ≡ c → Gives t (labels ls) c
one_gives t ls k l Nothing match legal stands is without = without [] refl
one_gives t ls k l (Bits w) match legal stands is without = without (w ∷ []) refl
one_gives t ls k l (Data name cell value) match legal stands is without = without [] refl
one_gives t ls k l (Instruction ts) match legal stands is without =
    match (k + 1) (record { tokens = ts; stands = (l, k, refl, stands, is); none = λ d root same. by d root same (is_legal t d) refl })
  where
    by : (d : Derivation) → IsRoot t d → tokens d ≡ map (resolved (labels ls)) ts → (b : Bool) → is_legal t d ≡ b → ⊥
    by d root same true e = without (word_of d ∷ []) (d, root, e, same, refl)
    by d root same false e = legal (k + 1) (record { tokens = ts; stands = (l, k, refl, stands, is); by = d; root = root; has = same; illegal = e })

some_words : (t : Table) (labels : Labels) (ls : List Line) → ((k : ℕ) (l : Line) → slice_get ls k ≡ Some l → Gives t labels l.content) → ((ws : List ℕ) → GiveWords t labels ls ws → ⊥) → ⊥
some_words t labels [] each without = without [] refl
some_words t labels (l ∷ ls) each without = each 0 l refl (λ xs h. some_words t labels ls (λ k m is. each (suc k) m is) (λ ys g. without _ (xs, ys, refl, h, g)))

-- ---- initial values

pub none_from : (xs : List ℕ) → ((n : ℕ) → Contains xs n → ⊥) → xs ≡ []
none_from [] h = refl
none_from (x ∷ xs) h = absurd (h x (0, omega arith, refl))

some_inits : (t : Table) (ls : List Line) → data_lines t [] 0 ls ≡ [] → are_initial t ls (sorted (filter (λ i. nat_lt 0 i.raw) (given t ls))) ≡ true
some_inits t ls h =
    let xs : List Initial = filter (λ i. nat_lt 0 i.raw) (given t ls) in
    and_from (rise (sorted xs) && are_among (sorted xs) xs) (are_among xs (sorted xs))
    (and_from (rise (sorted xs)) (are_among (sorted xs) xs) (rise_sorted xs (differ_filter (λ i. nat_lt 0 i.raw) (given t ls) (differ_given t [] 0 ls h))) (within_among (sorted xs) xs (sorted_within xs)))
    (within_among xs (sorted xs) (within_sorted xs))

pub some_answer : (d : Desc) (width : ℕ) (text : List ℕ) → IsChecked d → ((ws : List ℕ) (is : List Initial) → IsAssembled (table d) width text ws is → ⊥)
    → ((f : AsmFault) → (f ≡ fault.Memory → ⊥) → IsRefused (table d) width text f → ⊥) → ⊥
some_answer d width text checked without none =
    let t = table d in
    let ls = source width text in
    let free = free_all t ls none in
    some_words t (labels (formed ls)) (formed ls)
    (λ k l stands. one_gives t (formed ls) k l l.content (λ n h. free 3 (omega arith) (By_match n h)) (λ n h. free 4 (omega arith) (By_conflict n h)) stands refl)
    (λ ws give. without ws (sorted (filter (λ i. nat_lt 0 i.raw) (given t (formed ls)))) (record { free = free; assembles = record { give = give; begin = some_inits t (formed ls) (none_from _ (λ n c. free 6 (omega arith) (By_data n c))) } }))
