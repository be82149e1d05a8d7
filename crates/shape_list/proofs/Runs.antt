-- How many digits stand in a row.
use Rattle.std.proofs.Common.{◌≡◌, ℕ, zero, suc, ◌+◌, ◌<◌, ◌≤◌, Bool, true, false, List, [], ◌∷◌, drop, ◌++◌, append_assoc, append-nil, ap, ◌∙◌, refl, arith, cond, subst, sym}
use Rattle.std.specs.Char.{is_ascii_digit}
use Rattle.std.specs.List.{prefix_len}
use Rattle.std.specs.Prelude.{◌||◌}
use Rattle.nml_line.specs.Pushed.{HasShortNumbers}
use Rattle.nml_tree.specs.Edge.{Flat, Letter, Number, Seam, Left, Other, AfterNumber, AfterLetter, touch, touch_number, over_seam, touches}
use Rattle.shape_list.specs.Runs.{AreShort}

-- no more than 38 digits in a row, of which so many stand before
abbrev pub Short : ℕ → List ℕ → Type 0
Short n [] = Unit {0}
Short n (c ∷ text) = (is_ascii_digit c ≡ true → (n < 38) × Short (n + 1) text) × (is_ascii_digit c ≡ false → Short 0 text)

in_front : (text : List ℕ) (n : ℕ) → n ≤ 38 → Short n text → n + prefix_len is_ascii_digit text ≤ 38
in_front [] n low h = omega (arith, low)
in_front (c ∷ text) n low h = by (is_ascii_digit c) refl (in_front text (n + 1))
  where
    by : (b : Bool) → is_ascii_digit c ≡ b → (n + 1 ≤ 38 → Short (n + 1) text → n + 1 + prefix_len is_ascii_digit text ≤ 38) → n + cond b (1 + prefix_len is_ascii_digit text) 0 ≤ 38
    by true e rest = let g = h.0 e in let r = rest (omega (arith, g.0)) g.1 in omega (arith, r)
    by false e rest = omega (arith, low)

at_each : (text : List ℕ) (n k : ℕ) → Short n text → prefix_len is_ascii_digit (drop k text) ≤ 38
at_each [] n zero h = omega arith
at_each [] n (suc k) h = omega arith
at_each (c ∷ text) n zero h = by (is_ascii_digit c) refl
  where
    by : (b : Bool) → is_ascii_digit c ≡ b → cond b (1 + prefix_len is_ascii_digit text) 0 ≤ 38
    by true e = let g = h.0 e in let r = in_front text (n + 1) (omega (arith, g.0)) g.1 in omega (arith, r)
    by false e = omega arith
at_each (c ∷ text) n (suc k) h = by (is_ascii_digit c) refl (λ m. at_each text m k)
  where
    by : (b : Bool) → is_ascii_digit c ≡ b → ((m : ℕ) → Short m text → prefix_len is_ascii_digit (drop k text) ≤ 38) → prefix_len is_ascii_digit (drop k text) ≤ 38
    by true e rest = rest (n + 1) (h.0 e).1
    by false e rest = rest 0 (h.1 e)

pub short_numbers : (text : List ℕ) → Short 0 text → HasShortNumbers text
short_numbers text h k = at_each text 0 k h

-- the same in a syntax, where a field ends a row and a seam doesn't
abbrev Runs : ℕ → List Flat → Type 0
Runs n [] = Unit {0}
Runs n (Letter c ∷ fs) = (is_ascii_digit c ≡ true → (n < 38) × Runs (n + 1) fs) × (is_ascii_digit c ≡ false → Runs 0 fs)
Runs n (Seam ∷ fs) = Runs n fs
Runs n (Number k ∷ fs) = Runs 0 fs

-- the letters have no long row, and end in so many digits
abbrev Trail : List ℕ → ℕ → Type 0
Trail letters n = (text : List ℕ) → Short n text → Short 0 (letters ++ text)

true_false : (b : Bool) → b ≡ true → b ≡ false → ⊥
true_false true h k = cc
true_false false h k = cc

trail_digit : (letters : List ℕ) (c n : ℕ) → Trail letters n → is_ascii_digit c ≡ true → n < 38 → Trail (letters ++ c ∷ []) (n + 1)
trail_digit letters c n t d low text h = subst (Short 0) (sym (append_assoc letters (c ∷ []) text)) (t (c ∷ text) (λ e. (low, h), λ e. absurd (true_false (is_ascii_digit c) d e)))

trail_other : (letters : List ℕ) (c n : ℕ) → Trail letters n → is_ascii_digit c ≡ false → Trail (letters ++ c ∷ []) 0
trail_other letters c n t d text h = subst (Short 0) (sym (append_assoc letters (c ∷ []) text)) (t (c ∷ text) (λ e. absurd (true_false (is_ascii_digit c) e d), λ e. h))

whole_trail : (letters : List ℕ) (n : ℕ) → Trail letters n → HasShortNumbers letters
whole_trail letters n t = short_numbers letters (subst (Short 0) (append-nil letters) (t [] tt))

runs_short : (fs : List Flat) (letters : List ℕ) (n : ℕ) → Trail letters n → Runs n fs → AreShort letters fs
runs_short [] letters n t h = whole_trail letters n t
runs_short (Letter c ∷ fs) letters n t h = by (is_ascii_digit c) refl (runs_short fs (letters ++ c ∷ []))
  where
    by : (b : Bool) → is_ascii_digit c ≡ b → ((m : ℕ) → Trail (letters ++ c ∷ []) m → Runs m fs → AreShort (letters ++ c ∷ []) fs) → AreShort (letters ++ c ∷ []) fs
    by true e rest = let g = h.0 e in rest (n + 1) (trail_digit letters c n t e g.0) g.1
    by false e rest = rest 0 (trail_other letters c n t e) (h.1 e)
runs_short (Seam ∷ fs) letters n t h = runs_short fs letters n t h
runs_short (Number k ∷ fs) letters n t h = (whole_trail letters n t, runs_short fs [] 0 (λ text g. g) h)

-- no more than 18 digits in a row in each string, of which so many stand before
abbrev pub Own : ℕ → List Flat → Type 0
Own n [] = Unit {0}
Own n (Letter c ∷ fs) = (is_ascii_digit c ≡ true → (n < 18) × Own (n + 1) fs) × (is_ascii_digit c ≡ false → Own 0 fs)
Own n (Seam ∷ fs) = Own 0 fs
Own n (Number k ∷ fs) = Own 0 fs

pub own_front : (xs ys : List Flat) (n : ℕ) → Own n (xs ++ ys) → Own n xs
own_front [] ys n h = tt
own_front (Letter c ∷ xs) ys n h = (λ e. ((h.0 e).0, own_front xs ys (n + 1) (h.0 e).1), λ e. own_front xs ys 0 (h.1 e))
own_front (Seam ∷ xs) ys n h = own_front xs ys 0 h
own_front (Number k ∷ xs) ys n h = own_front xs ys 0 h

-- how many digits stand last, in the string and over strings, where nothing touched
abbrev State : Left → ℕ → ℕ → Type 0
State Other n m = (n ≡ 0) × (m ≡ 0)
State AfterNumber n m = (n ≡ 0) × (m ≡ 0)
State (AfterLetter c false) n m = (n ≡ m) × (is_ascii_digit c ≡ false → m ≡ 0)
State (AfterLetter c true) n m = (n ≡ 0) × (is_ascii_digit c ≡ false → m ≡ 0)

same_count : (left : Left) (c n m : ℕ) → State left n m → touch left c ≡ false → is_ascii_digit c ≡ true → n ≡ m
same_count Other c n m s t d = s.0 ∙ sym s.1
same_count AfterNumber c n m s t d = s.0 ∙ sym s.1
same_count (AfterLetter b false) c n m s t d = s.0
same_count (AfterLetter b true) c n m s t d = by (is_ascii_digit b) refl
  where
    by : (x : Bool) → is_ascii_digit b ≡ x → n ≡ m
    by false e = s.0 ∙ sym (s.1 e)
    by true e = let g : touch (AfterLetter b true) c ≡ true = rw (e, d) refl in absurd (true_false (touch (AfterLetter b true) c) g t)

behind_seam : (left : Left) (n m : ℕ) → State left n m → State (over_seam left) 0 m
behind_seam Other n m s = (refl, s.1)
behind_seam AfterNumber n m s = (refl, s.1)
behind_seam (AfterLetter c false) n m s = (refl, s.1)
behind_seam (AfterLetter c true) n m s = (refl, s.1)

or_left : (a b : Bool) → (a || b) ≡ false → a ≡ false
or_left true b h = h
or_left false b h = refl

or_right : (a b : Bool) → (a || b) ≡ false → b ≡ false
or_right true b h = absurd cc
or_right false b h = h

own_runs : (fs : List Flat) (left : Left) (n m : ℕ) → State left n m → touches left fs ≡ false → Own n fs → Runs m fs
own_runs [] left n m s t h = tt
own_runs (Letter c ∷ fs) left n m s t h = (
  λ e.
      let g = h.0 e in
      let same = same_count left c n m s (or_left (touch left c) (touches (AfterLetter c false) fs) t) e in
      (omega (arith, g.0, same), own_runs fs (AfterLetter c false) (n + 1) (m + 1) (ap (λ k. k + 1) same, λ f. absurd (true_false (is_ascii_digit c) e f)) (or_right (touch left c) (touches (AfterLetter c false) fs) t) g.1),
  λ e. own_runs fs (AfterLetter c false) 0 0 (refl, λ f. refl) (or_right (touch left c) (touches (AfterLetter c false) fs) t) (h.1 e),
)
own_runs (Seam ∷ fs) left n m s t h = own_runs fs (over_seam left) 0 m (behind_seam left n m s) t h
own_runs (Number k ∷ fs) left n m s t h = own_runs fs AfterNumber 0 0 (refl, refl) (or_right (touch_number left) (touches AfterNumber fs) t) h

pub are_short_runs : (fs : List Flat) → touches Other fs ≡ false → Own 0 fs → AreShort [] fs
are_short_runs fs t h = runs_short fs [] 0 (λ text g. g) (own_runs fs Other 0 0 (refl, refl) t h)
