-- Cells at the start: the initial values of the globals, and zeros before the constants.
use Rattle.std.proofs.Common.{◌≡◌, ℕ, zero, suc, ◌+◌, ◌-◌, ◌^◌, ◌%◌, ◌<◌, ◌≤◌, ℤ, pos, negsuc, List, [], ◌∷◌, ◌++◌, length, map, replicate, Bool, true, false, not, refl, ap, sym, ◌∙◌, subst, arith, length-append}
use Rattle.std.specs.Prelude.{slice_set, slice_index_or, filter, cond, flat_map, nat_lt, All, ◌==◌, int_lt, if◌then◌else◌, ◌-ℤ◌}
use Rattle.std.proofs.Math.Nat.{zero-mod}
use Rattle.std.proofs.Math.Pow.{pow_pos}
use Rattle.std.proofs.lemmas.Bool.{ltb-true, ltb-false, lt-ltb, eqb-true}
use Rattle.std.proofs.lemmas.List.{length-set, length-replicate, length-take-le, get_or-set_same, get_or-set_other, get_or-take, get_or_append_left, get_or-append_right, get_or-replicate, get_or_past}
use Rattle.ir_core.specs.Operator.{wrap}
use Rattle.ir_core.specs.Inputs.{IsNumber}
use Rattle.ir_run.specs.Run.{filled}
use Rattle.c_tree.specs.Program.{size, sizes, GlobalVariable}
use Rattle.c_tree.specs.Meaning.{initial_cells}
use Rattle.c_tree.specs.Lowered.{is_zero, numbered, initial_among}
use Rattle.c_lowered.specs.Sound.{SoundGlobal}

-- what a cell of these holds
abbrev pub at : List ℤ → ℕ → ℤ
at cells k = slice_index_or cells k (pos 0)

below_power : (h m : ℕ) → 0 < h → (if int_lt (pos (0 % m)) (pos h) then pos (0 % m) else pos (0 % m) -ℤ pos m) ≡ pos 0
below_power h m some =
    ap (λ k. if int_lt (pos k) (pos h) then pos k else pos k -ℤ pos m) (zero-mod m) ∙ ap (λ b. if b then pos 0 else pos 0 -ℤ pos m) (lt-ltb 0 h some)

-- 0 is a number of any width
pub zero_number : (n : ℕ) → IsNumber n (pos 0)
zero_number n = below_power (2 ^ (n - 1)) (2 ^ n) (pow_pos (n - 1))

-- ---- cells that are filled

-- there are as many cells as before
pub length-filled : (start : List (ℕ × ℤ)) (cells : List ℤ) → length (filled cells start) ≡ length cells
length-filled [] cells = refl
length-filled ((k, z) ∷ start) cells = length-filled start (slice_set cells k z) ∙ length-set cells k z

-- one after the other is filled
pub filled_append : (xs ys : List (ℕ × ℤ)) (cells : List ℤ) → filled cells (xs ++ ys) ≡ filled (filled cells xs) ys
filled_append [] ys cells = refl
filled_append ((k, z) ∷ xs) ys cells = filled_append xs ys (slice_set cells k z)

-- all that is filled lies from one cell on, and before another
abbrev pub Lies : (from to : ℕ) → List (ℕ × ℤ) → Type 0
Lies from to [] = Unit {0}
Lies from to ((k, z) ∷ start) = (from ≤ k) × (k < to) × Lies from to start

-- two lists that lie there lie there together
pub lies_append : (from to : ℕ) (xs ys : List (ℕ × ℤ)) → Lies from to xs → Lies from to ys → Lies from to (xs ++ ys)
lies_append from to [] ys h i = i
lies_append from to ((k, z) ∷ xs) ys h i = (h.0, h.1, lies_append from to xs ys h.2 i)

-- what lies there lies in more
pub lies_wider : (from to from' to' : ℕ) (xs : List (ℕ × ℤ)) → from' ≤ from → to ≤ to' → Lies from to xs → Lies from' to' xs
lies_wider from to from' to' [] le le' h = tt
lies_wider from to from' to' ((k, z) ∷ xs) le le' h = (omega (arith, h.0), omega (arith, h.1), lies_wider from to from' to' xs le le' h.2)

-- a cell before them is as it was
pub filled_before : (from to : ℕ) (start : List (ℕ × ℤ)) (cells : List ℤ) (k : ℕ) → Lies from to start → k < from → at (filled cells start) k ≡ at cells k
filled_before from to [] cells k h lt = refl
filled_before from to ((j, z) ∷ start) cells k h lt =
    filled_before from to start (slice_set cells j z) k h.2 lt ∙ get_or-set_other cells j k z (pos 0) (λ e. omega (arith, e, h.0, lt))

-- nor is one behind them
pub filled_behind : (from to : ℕ) (start : List (ℕ × ℤ)) (cells : List ℤ) (k : ℕ) → Lies from to start → to ≤ k → at (filled cells start) k ≡ at cells k
filled_behind from to [] cells k h le = refl
filled_behind from to ((j, z) ∷ start) cells k h le =
    filled_behind from to start (slice_set cells j z) k h.2 le ∙ get_or-set_other cells j k z (pos 0) (λ e. omega (arith, e, h.1, le))

-- ---- initial values

-- a variable's initial values that aren't 0, from a cell on
abbrev pub given : ℕ → ℕ → List ℤ → List (ℕ × ℤ)
given n c zs = map (λ (k, z). (k, wrap n z)) (filter (λ (k, z). not (is_zero z)) (numbered c zs))

zero_is : (z : ℤ) → not (is_zero z) ≡ false → z ≡ pos 0
zero_is (pos k) e = let h : (k == 0) ≡ true = by_test (k == 0) refl e in ap pos (eqb-true k 0 h)
  where
    by_test : (b : Bool) → (k == 0) ≡ b → not b ≡ false → (k == 0) ≡ true
    by_test true i e = i
    by_test false i e = absurd cc
zero_is (negsuc k) e = absurd cc

-- they lie in as many cells as there are values
pub given_lies : (n c : ℕ) (zs : List ℤ) → Lies c (c + length zs) (given n c zs)
given_lies n c [] = tt
given_lies n c (z ∷ zs) = by_test (not (is_zero z)) (lies_wider (c + 1) (c + 1 + length zs) c (c + length (z ∷ zs)) (given n (c + 1) zs) (omega arith) (omega arith) (given_lies n (c + 1) zs))
  where
    by_test : (b : Bool) → Lies c (c + length (z ∷ zs)) (given n (c + 1) zs)
        → Lies c (c + length (z ∷ zs)) (map (λ (k, z). (k, wrap n z)) (cond b ((c, z) ∷ filter (λ (k, z). not (is_zero z)) (numbered (c + 1) zs)) (filter (λ (k, z). not (is_zero z)) (numbered (c + 1) zs))))
    by_test true rest = (omega arith, omega arith, rest)
    by_test false rest = rest

-- the cells hold them then, where they held zeros
given_filled : (n c : ℕ) (zs : List ℤ) (cells : List ℤ) → All (IsNumber n) zs → c + length zs ≤ length cells → ((k : ℕ) → c ≤ k → at cells k ≡ pos 0) → (j : ℕ) → at (filled cells (given n c zs)) (c + j) ≡ at zs j
given_filled n c [] cells numbers room zeros j = zeros (c + j) (omega arith) ∙ sym (get_or_past [] j (pos 0) (omega arith))
given_filled n c (z ∷ zs) cells numbers room zeros j =
    by_test (not (is_zero z)) refl j (λ cells' room' zeros' j. given_filled n (c + 1) zs cells' (λ k d lt. numbers (suc k) d (omega arith)) room' zeros' j)
  where
    assoc : (a b : ℕ) → a + suc b ≡ a + 1 + b
    assoc a b = omega arith

    first : c + 0 ≡ c
    first = omega arith

    by_test : (b : Bool) → not (is_zero z) ≡ b → (j : ℕ)
        → ((cells' : List ℤ) → c + 1 + length zs ≤ length cells' → ((k : ℕ) → c + 1 ≤ k → at cells' k ≡ pos 0) → (j : ℕ) → at (filled cells' (given n (c + 1) zs)) (c + 1 + j) ≡ at zs j)
        → at (filled cells (map (λ (k, z). (k, wrap n z)) (cond b ((c, z) ∷ filter (λ (k, z). not (is_zero z)) (numbered (c + 1) zs)) (filter (λ (k, z). not (is_zero z)) (numbered (c + 1) zs))))) (c + j) ≡ at (z ∷ zs) j
    by_test true e zero rest =
        ap (at (filled (slice_set cells c (wrap n z)) (given n (c + 1) zs))) first
        ∙ filled_before (c + 1) (c + 1 + length zs) (given n (c + 1) zs) (slice_set cells c (wrap n z)) c (given_lies n (c + 1) zs) (omega arith)
        ∙ get_or-set_same cells c (wrap n z) (pos 0) (omega (arith, room))
        ∙ numbers 0 z (omega arith)
    by_test true e (suc j) rest =
        ap (at (filled (slice_set cells c (wrap n z)) (given n (c + 1) zs))) (assoc c j)
        ∙ rest (slice_set cells c (wrap n z)) (omega (arith, room, length-set cells c (wrap n z)))
        (λ k le. get_or-set_other cells c k (wrap n z) (pos 0) (λ same. omega (arith, same, le)) ∙ zeros k (omega (arith, le))) j
    by_test false e zero rest =
        ap (at (filled cells (given n (c + 1) zs))) first
        ∙ filled_before (c + 1) (c + 1 + length zs) (given n (c + 1) zs) cells c (given_lies n (c + 1) zs) (omega arith)
        ∙ zeros c (omega arith) ∙ sym (zero_is z e)
    by_test false e (suc j) rest = ap (at (filled cells (given n (c + 1) zs))) (assoc c j) ∙ rest cells (omega (arith, room)) (λ k le. zeros k (omega (arith, le))) j

-- the globals' initial values
abbrev pub initially : ℕ → ℕ → List GlobalVariable → List (ℕ × ℤ)
initially n c vs = map (λ (k, z). (k, wrap n z)) (initial_among c vs)

map_append : {X Y : Type 0} (f : X → Y) (xs ys : List X) → map f (xs ++ ys) ≡ map f xs ++ map f ys
map_append f [] ys = refl
map_append f (x ∷ xs) ys = ap (λ l. f x ∷ l) (map_append f xs ys)

initially_more : (n c : ℕ) (v : GlobalVariable) (vs : List GlobalVariable) → initially n c (v ∷ vs) ≡ given n c v.initial ++ initially n (c + size v.shape) vs
initially_more n c v vs = map_append _ (filter (λ (k, z). not (is_zero z)) (numbered c v.initial)) (initial_among (c + size v.shape) vs)

-- the cells of the globals
abbrev pub cells_of : List GlobalVariable → ℕ
cells_of vs = sizes (map (λ v. v.shape) vs)

-- they lie in the cells of the globals
pub initially_lies : (n c : ℕ) (vs : List GlobalVariable) → All (SoundGlobal n) vs → Lies c (c + cells_of vs) (initially n c vs)
initially_lies n c [] sound = tt
initially_lies n c (v ∷ vs) sound =
    let s : SoundGlobal n v = sound 0 v (omega arith) in
    let rest = initially_lies n (c + size v.shape) vs (λ k d lt. sound (suc k) d (omega arith)) in
    subst (Lies c (c + (size v.shape + cells_of vs))) (sym (initially_more n c v vs))
    (lies_append c (c + (size v.shape + cells_of vs)) (given n c v.initial) (initially n (c + size v.shape) vs)
    (lies_wider c (c + length v.initial) c (c + (size v.shape + cells_of vs)) (given n c v.initial) (omega arith) (omega (arith, s.room)) (given_lies n c v.initial))
    (lies_wider (c + size v.shape) (c + size v.shape + cells_of vs) c (c + (size v.shape + cells_of vs)) (initially n (c + size v.shape) vs) (omega arith) (omega arith) rest))

-- a variable's cells at the start
pub length-initial : (v : GlobalVariable) → length (initial_cells v) ≡ size v.shape
length-initial v =
    length-take-le (size v.shape) (v.initial ++ replicate (size v.shape - length v.initial) (pos 0))
    (omega (arith, length-append v.initial (replicate (size v.shape - length v.initial) (pos 0)), length-replicate (size v.shape - length v.initial) (pos 0)))

-- zeros, and more zeros behind them
pub zeros_at : (m k : ℕ) → at (replicate m (pos 0)) k ≡ pos 0
zeros_at m k = by_test (nat_lt k m) refl
  where
    by_test : (b : Bool) → nat_lt k m ≡ b → at (replicate m (pos 0)) k ≡ pos 0
    by_test true e = get_or-replicate m k (pos 0) (pos 0) (ltb-true k m e)
    by_test false e = get_or_past (replicate m (pos 0)) k (pos 0) (let h = ltb-false k m e in let l = length-replicate m (pos 0) in omega (arith, h, l))

-- zeros behind don't show
pub at_zeros : (xs : List ℤ) (m k : ℕ) → at (xs ++ replicate m (pos 0)) k ≡ at xs k
at_zeros xs m k = by_test (nat_lt k (length xs)) refl
  where
    by_test : (b : Bool) → nat_lt k (length xs) ≡ b → at (xs ++ replicate m (pos 0)) k ≡ at xs k
    by_test true e = get_or_append_left xs (replicate m (pos 0)) (pos 0) k (ltb-true k (length xs) e)
    by_test false e =
        let h = ltb-false k (length xs) e in
        get_or-append_right xs (replicate m (pos 0)) (length xs) k (pos 0) refl (omega (arith, h)) ∙ zeros_at m (k - length xs) ∙ sym (get_or_past xs k (pos 0) (omega (arith, h)))

initial_at : (v : GlobalVariable) (j : ℕ) → j < size v.shape → at (initial_cells v) j ≡ at v.initial j
initial_at v j lt =
    get_or-take (size v.shape) (v.initial ++ replicate (size v.shape - length v.initial) (pos 0)) j (pos 0) lt ∙ at_zeros v.initial (size v.shape - length v.initial) j

-- The globals' cells hold what the program's memory has, where the cells held zeros.
pub initially_filled : (n c : ℕ) (vs : List GlobalVariable) (cells : List ℤ) → All (SoundGlobal n) vs → c + cells_of vs ≤ length cells → ((k : ℕ) → c ≤ k → at cells k ≡ pos 0) → (j : ℕ) → at (filled cells (initially n c vs)) (c + j) ≡ at (flat_map initial_cells vs) j
initially_filled n c [] cells sound room zeros j = zeros (c + j) (omega arith) ∙ sym (get_or_past [] j (pos 0) (omega arith))
initially_filled n c (v ∷ vs) cells sound room zeros j =
    ap (λ start. at (filled cells start) (c + j)) (initially_more n c v vs)
    ∙ ap (λ l. at l (c + j)) (filled_append (given n c v.initial) (initially n (c + size v.shape) vs) cells)
    ∙ by_test (nat_lt j (size v.shape)) refl
    (λ j. initially_filled n (c + size v.shape) vs (filled cells (given n c v.initial)) (λ k d lt. sound (suc k) d (omega arith))
    (omega (arith, room, length-filled (given n c v.initial) cells))
    (λ k le. filled_behind c (c + length v.initial) (given n c v.initial) cells k (given_lies n c v.initial) (omega (arith, le, s.room)) ∙ zeros k (omega (arith, le))) j)
  where
    s : SoundGlobal n v
    s = sound 0 v (omega arith)

    all_sound : All (SoundGlobal n) vs
    all_sound = λ k d lt. sound (suc k) d (omega arith)

    by_test : (b : Bool) → nat_lt j (size v.shape) ≡ b
        → ((i : ℕ) → at (filled (filled cells (given n c v.initial)) (initially n (c + size v.shape) vs)) (c + size v.shape + i) ≡ at (flat_map initial_cells vs) i)
        → at (filled (filled cells (given n c v.initial)) (initially n (c + size v.shape) vs)) (c + j) ≡ at (initial_cells v ++ flat_map initial_cells vs) j
    by_test true e rest =
        let lt = ltb-true j (size v.shape) e in
        filled_before (c + size v.shape) (c + size v.shape + cells_of vs) (initially n (c + size v.shape) vs) (filled cells (given n c v.initial)) (c + j) (initially_lies n (c + size v.shape) vs all_sound) (omega (arith, lt))
        ∙ given_filled n c v.initial cells s.numbers (omega (arith, room, s.room)) zeros j
        ∙ sym (initial_at v j lt)
        ∙ sym (get_or_append_left (initial_cells v) (flat_map initial_cells vs) (pos 0) j (omega (arith, lt, length-initial v)))
    by_test false e rest =
        let le = ltb-false j (size v.shape) e in
        let i : c + j ≡ c + size v.shape + (j - size v.shape) = omega (arith, le) in
        ap (at (filled (filled cells (given n c v.initial)) (initially n (c + size v.shape) vs))) i
        ∙ rest (j - size v.shape)
        ∙ sym (get_or-append_right (initial_cells v) (flat_map initial_cells vs) (size v.shape) j (pos 0) (length-initial v) (omega (arith, le)))

-- ---- the values are numbers

given_number : (n : ℕ) (zs : List ℤ) → All (IsNumber n) zs → (k : ℕ) → IsNumber n (at zs k)
given_number n zs all k = by_test (nat_lt k (length zs)) refl
  where
    by_test : (b : Bool) → nat_lt k (length zs) ≡ b → IsNumber n (at zs k)
    by_test true e = all k (pos 0) (ltb-true k (length zs) e)
    by_test false e = subst (IsNumber n) (sym (get_or_past zs k (pos 0) (let h = ltb-false k (length zs) e in omega (arith, h)))) (zero_number n)

-- what the memory has at the start are numbers
pub initial_number : (n : ℕ) (vs : List GlobalVariable) → All (SoundGlobal n) vs → (k : ℕ) → IsNumber n (at (flat_map initial_cells vs) k)
initial_number n [] sound k = subst (IsNumber n) (sym (get_or_past [] k (pos 0) (omega arith))) (zero_number n)
initial_number n (v ∷ vs) sound k = by_test (nat_lt k (size v.shape)) refl (λ i. initial_number n vs (λ k d lt. sound (suc k) d (omega arith)) i)
  where
    s : SoundGlobal n v
    s = sound 0 v (omega arith)

    by_test : (b : Bool) → nat_lt k (size v.shape) ≡ b → ((i : ℕ) → IsNumber n (at (flat_map initial_cells vs) i)) → IsNumber n (at (initial_cells v ++ flat_map initial_cells vs) k)
    by_test true e rest =
        let lt = ltb-true k (size v.shape) e in
        subst (IsNumber n) (sym (get_or_append_left (initial_cells v) (flat_map initial_cells vs) (pos 0) k (omega (arith, lt, length-initial v)) ∙ initial_at v k lt)) (given_number n v.initial s.numbers k)
    by_test false e rest =
        let le = ltb-false k (size v.shape) e in
        subst (IsNumber n) (sym (get_or-append_right (initial_cells v) (flat_map initial_cells vs) (size v.shape) k (pos 0) (length-initial v) (omega (arith, le)))) (rest (k - size v.shape))

-- the globals' part of the memory has their cells
pub length-initially : (vs : List GlobalVariable) → length (flat_map initial_cells vs) ≡ cells_of vs
length-initially [] = refl
length-initially (v ∷ vs) = length-append (initial_cells v) (flat_map initial_cells vs) ∙ ap (λ n. n + length (flat_map initial_cells vs)) (length-initial v) ∙ ap (λ n. size v.shape + n) (length-initially vs)
