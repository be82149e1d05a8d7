-- The first initial value that an array has no element for.
use Rattle.std.proofs.Common.{◌≡◌, ℕ, zero, suc, ◌-◌, ◌<◌, refl, subst, arith, List, [], ◌∷◌, map, drop, length, get_or}
use Rattle.c_tree.specs.declared.program.SNum.{SNum}
use Rattle.c_tree.specs.Faults.{BadKind, value_place, too_many_faults}

some_left : (k : ℕ) (xs : List (ℕ × SNum)) (x : ℕ × SNum) → k < length xs → x ≡ get_or xs k x → too_many_faults (drop k (map (λ (comma, v). v) xs)) ≡ BadKind (value_place x.1.minus x.1.number) ∷ []
some_left k [] x lt is = absurd (omega arith)
some_left zero (y ∷ ys) x lt is = rw is refl
some_left (suc k) (y ∷ ys) x lt is = some_left k ys x (omega arith) is

pub some_behind : (n : ℕ) (first : SNum) (xs : List (ℕ × SNum)) (x : ℕ × SNum) → (n ≡ 0 → ⊥) → n - 1 < length xs → x ≡ get_or xs (n - 1) x → too_many_faults (drop n (first ∷ map (λ (comma, v). v) xs)) ≡ BadKind (value_place x.1.minus x.1.number) ∷ []
some_behind zero first xs x some lt is = absurd (some refl)
some_behind (suc k) first xs x some lt is =
    let same : suc k - 1 ≡ k = omega arith in
    some_left k xs x (omega arith) (subst (λ j. x ≡ get_or xs j x) same is)
