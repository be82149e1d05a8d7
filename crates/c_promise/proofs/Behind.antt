-- The mark of each label that a call returns to stands directly behind a jump, where labels are marked in order.
use Rattle.std.proofs.Common.{◌≡◌, refl, sym, subst, ℕ, ◌+◌, ◌<◌, ◌≤◌, List, [], ◌∷◌, arith, Bool, true, false, not, ◌&&◌, ◌||◌, ◌⊎◌, ⊎_elim}
use Rattle.std.specs.Prelude.{flat_map, ◌==◌}
use Rattle.std.specs.List.{range_with_len}
use Rattle.std.proofs.lemmas.Bool.{and_from, or_left, or_right, not_from_false, ne_eqb}
use Rattle.ir_run.specs.Node.{Const, Base, Label, Cell, In, Load, Unary, Shifted, Binary}
use Rattle.ir_run.specs.Entry.{Entry, Set, Store, Out, Branch, JumpCell, Jump, Mark, Halt}
use Rattle.ir_run.specs.Promise.{is_behind_jump}
use Rattle.c_tree.specs.Lowered.{returned_label}
use Rattle.c_promise.proofs.Labels.{marked}
use Rattle.c_promise.proofs.Once.{Counts, On, counts}
use Rattle.c_promise.proofs.Fit.{AllFit, Comes, Back}

-- a member of a list
abbrev pub Among : List ℕ → ℕ → Type 0
Among [] x = ⊥
Among (y ∷ ys) x = (y ≡ x) ⊎ Among ys x

-- a mark of another label
other_mark : (jumped : Bool) (k l : ℕ) → (k ≡ l → ⊥) → (not (k == l) || jumped) ≡ true
other_mark jumped k l differs = or_left (not (k == l)) jumped (not_from_false (k == l) (ne_eqb k l differs))

-- a label below those that are marked
unmarked : (jumped : Bool) (es : List Entry) (a m l : ℕ) → marked es ≡ range_with_len a m → l < a → is_behind_jump jumped es l ≡ true
unmarked jumped [] a m l is lt = refl
unmarked jumped (Mark k ∷ es) a m l is lt = by (counts a m k (marked es) is) (λ n rest. unmarked jumped es (a + 1) n l rest (omega (arith, lt)))
  where
    by : Counts a k (marked es) → ((n : ℕ) → marked es ≡ range_with_len (a + 1) n → is_behind_jump jumped es l ≡ true) → ((not (k == l) || jumped) && is_behind_jump jumped es l) ≡ true
    by (On n first rest) h = and_from (not (k == l) || jumped) (is_behind_jump jumped es l) (other_mark jumped k l (λ e. omega (arith, first, lt, e))) (h n rest)
unmarked jumped (Jump k ∷ es) a m l is lt = unmarked true es a m l is lt
unmarked jumped (Set c t ∷ es) a m l is lt = unmarked false es a m l is lt
unmarked jumped (Store t u ∷ es) a m l is lt = unmarked false es a m l is lt
unmarked jumped (Out t ∷ es) a m l is lt = unmarked false es a m l is lt
unmarked jumped (Branch r t u k ∷ es) a m l is lt = unmarked false es a m l is lt
unmarked jumped (JumpCell c ∷ es) a m l is lt = unmarked false es a m l is lt
unmarked jumped (Halt code ∷ es) a m l is lt = unmarked false es a m l is lt

-- a label at or above the first that is marked, whose marks come behind jumps
abbrev Behind : (jumped : Bool) (es : List Entry) (a l : ℕ) → Type 0
Behind jumped es a l = (a ≤ l) × (is_behind_jump jumped es l ≡ true)

-- where a jump and the label's mark come next
next : (es : List Entry) (a m l : ℕ) → marked es ≡ range_with_len a m → Comes l es → Behind false es a l
next es a m l is (Back j rest at) =
    let there : l ∷ marked rest ≡ range_with_len a m = subst (λ xs. marked xs ≡ range_with_len a m) at is in
    subst (λ xs. Behind false xs a l) (sym at) (by (counts a m l (marked rest) there))
  where
    by : Counts a l (marked rest) → Behind false (Jump j ∷ Mark l ∷ rest) a l
    by (On n first more) =
        (omega (arith, first), and_from (not (l == l) || true) (is_behind_jump true rest l) (or_right (not (l == l)) true refl) (unmarked true rest (a + 1) n l more (omega (arith, first))))

pub behind : (jumped : Bool) (es : List Entry) (n limit a m l : ℕ) → marked es ≡ range_with_len a m → AllFit n limit es → Among (flat_map returned_label es) l → Behind jumped es a l
behind jumped [] n limit a m l is fit h = absurd h
behind jumped (Mark k ∷ es) n limit a m l is fit h = by (counts a m k (marked es) is) (λ c rest. behind jumped es n limit (a + 1) c l rest fit.1 h)
  where
    by : Counts a k (marked es) → ((c : ℕ) → marked es ≡ range_with_len (a + 1) c → Behind jumped es (a + 1) l) → Behind jumped (Mark k ∷ es) a l
    by (On c first rest) further =
        let r = further c rest in
        (omega (arith, r.0), and_from (not (k == l) || jumped) (is_behind_jump jumped es l) (other_mark jumped k l (λ e. omega (arith, first, r.0, e))) r.1)
behind jumped (Jump k ∷ es) n limit a m l is fit h = behind true es n limit a m l is fit.1 h
behind jumped (Set c (Label k) ∷ es) n limit a m l is fit h =
    ⊎_elim (λ e. next es a m l is (subst (λ j. Comes j es) e fit.0.returned)) (λ i. behind false es n limit a m l is fit.1 i) h
behind jumped (Set c (Const z) ∷ es) n limit a m l is fit h = behind false es n limit a m l is fit.1 h
behind jumped (Set c (Base b) ∷ es) n limit a m l is fit h = behind false es n limit a m l is fit.1 h
behind jumped (Set c (Cell k) ∷ es) n limit a m l is fit h = behind false es n limit a m l is fit.1 h
behind jumped (Set c In ∷ es) n limit a m l is fit h = behind false es n limit a m l is fit.1 h
behind jumped (Set c (Load t) ∷ es) n limit a m l is fit h = behind false es n limit a m l is fit.1 h
behind jumped (Set c (Unary op t) ∷ es) n limit a m l is fit h = behind false es n limit a m l is fit.1 h
behind jumped (Set c (Shifted op t k) ∷ es) n limit a m l is fit h = behind false es n limit a m l is fit.1 h
behind jumped (Set c (Binary op t u) ∷ es) n limit a m l is fit h = behind false es n limit a m l is fit.1 h
behind jumped (Store t u ∷ es) n limit a m l is fit h = behind false es n limit a m l is fit.1 h
behind jumped (Out t ∷ es) n limit a m l is fit h = behind false es n limit a m l is fit.1 h
behind jumped (Branch r t u k ∷ es) n limit a m l is fit h = behind false es n limit a m l is fit.1 h
behind jumped (JumpCell c ∷ es) n limit a m l is fit h = behind false es n limit a m l is fit.1 h
behind jumped (Halt code ∷ es) n limit a m l is fit h = behind false es n limit a m l is fit.1 h
