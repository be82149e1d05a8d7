-- Cells block by block: the memory's cells of a block are its variables', and the statements' cells are those and more behind them.
use Rattle.std.proofs.Common.{◌≡◌, ℕ, zero, suc, ◌+◌, ◌-◌, ◌<◌, ◌≤◌, List, [], ◌∷◌, length, Bool, true, false, refl, ap, sym, ◌∙◌, arith}
use Rattle.std.specs.Prelude.{nat_lt, if◌then◌else◌}
use Rattle.std.proofs.lemmas.Bool.{ltb-true, ltb-false, lt-ltb, le-ltb}

-- how many cells the variables of a block have, how many cells the block has in all, and the rank of the function that it belongs to
pub record Block : Type 0 where
  pub variables : ℕ
  pub room : ℕ
  pub rank : ℕ

-- the cells of the memory, and of the statements
abbrev pub total : List Block → ℕ
total [] = 0
total (b ∷ bs) = b.variables + total bs

abbrev pub whole : List Block → ℕ
whole [] = 0
whole (b ∷ bs) = b.room + whole bs

-- the cell of a cell of the memory
abbrev pub home : List Block → ℕ → ℕ
home [] x = x
home (b ∷ bs) x = if nat_lt x b.variables then x else b.room + home bs (x - b.variables)

-- the first cell of a block, in the memory and among the cells
abbrev pub start : List Block → ℕ → ℕ
start [] i = 0
start (b ∷ bs) zero = 0
start (b ∷ bs) (suc i) = b.variables + start bs i

abbrev pub cell : List Block → ℕ → ℕ
cell [] i = 0
cell (b ∷ bs) zero = 0
cell (b ∷ bs) (suc i) = b.room + cell bs i

-- a block by its number
abbrev pub block_at : List Block → ℕ → Block
block_at [] i = record { variables = 0; room = 0; rank = 0 }
block_at (b ∷ bs) zero = b
block_at (b ∷ bs) (suc i) = block_at bs i

-- the rank of the function that a cell belongs to
abbrev pub owner : List Block → ℕ → ℕ
owner [] k = 0
owner (b ∷ bs) k = if nat_lt k b.room then b.rank else owner bs (k - b.room)

-- each block has its variables among its cells
abbrev pub Room : List Block → Type 0
Room [] = Unit {0}
Room (b ∷ bs) = (b.variables ≤ b.room) × Room bs

if_lt : {A : Type 0} (x n : ℕ) (a b : A) → x < n → (if nat_lt x n then a else b) ≡ a
if_lt x n a b lt = ap (λ t. if t then a else b) (lt-ltb x n lt)

if_ge : {A : Type 0} (x n : ℕ) (a b : A) → n ≤ x → (if nat_lt x n then a else b) ≡ b
if_ge x n a b le = ap (λ t. if t then a else b) (le-ltb x n le)

plus_minus : (a b : ℕ) → a + b - a ≡ b
plus_minus a b = omega arith

assoc : (a b c : ℕ) → a + b + c ≡ a + (b + c)
assoc a b c = omega arith

-- a block's variables stand in its first cells
pub home_at : (bs : List Block) (i j : ℕ) → i < length bs → j < (block_at bs i).variables → home bs (start bs i + j) ≡ cell bs i + j
home_at [] i j lt inside = absurd (omega arith)
home_at (b ∷ bs) zero j lt inside = let e : 0 + j ≡ j = omega arith in ap (home (b ∷ bs)) e ∙ if_lt j b.variables j _ inside ∙ sym e
home_at (b ∷ bs) (suc i) j lt inside =
    if_ge (b.variables + start bs i + j) b.variables _ _ (omega arith)
    ∙ ap (λ x. b.room + home bs x) (ap (λ x. x - b.variables) (assoc b.variables (start bs i) j) ∙ plus_minus b.variables (start bs i + j))
    ∙ ap (λ x. b.room + x) (home_at bs i j (omega arith) inside)
    ∙ sym (assoc b.room (cell bs i) j)

-- a block's cells belong to its function
pub owner_at : (bs : List Block) (i j : ℕ) → i < length bs → j < (block_at bs i).room → owner bs (cell bs i + j) ≡ (block_at bs i).rank
owner_at [] i j lt inside = absurd (omega arith)
owner_at (b ∷ bs) zero j lt inside = let e : 0 + j ≡ j = omega arith in ap (owner (b ∷ bs)) e ∙ if_lt j b.room _ _ inside
owner_at (b ∷ bs) (suc i) j lt inside =
    if_ge (b.room + cell bs i + j) b.room _ _ (omega arith)
    ∙ ap (owner bs) (ap (λ x. x - b.room) (assoc b.room (cell bs i) j) ∙ plus_minus b.room (cell bs i + j))
    ∙ owner_at bs i j (omega arith) inside

-- two cells of the memory have two cells
pub apart : (bs : List Block) → Room bs → (x z : ℕ) → x < total bs → z < total bs → home bs x ≡ home bs z → x ≡ z
apart [] room x z lt lt' e = absurd (omega arith)
apart (b ∷ bs) room x z lt lt' e = by_tests (nat_lt x b.variables) (nat_lt z b.variables) refl refl e (λ l l' e. apart bs room.1 (x - b.variables) (z - b.variables) l l' e)
  where
    by_tests : (s t : Bool) → nat_lt x b.variables ≡ s → nat_lt z b.variables ≡ t → (if s then x else b.room + home bs (x - b.variables)) ≡ (if t then z else b.room + home bs (z - b.variables))
        → (x - b.variables < total bs → z - b.variables < total bs → home bs (x - b.variables) ≡ home bs (z - b.variables) → x - b.variables ≡ z - b.variables) → x ≡ z
    by_tests true true i j e rest = e
    by_tests true false i j e rest = let h = ltb-true x b.variables i in absurd (omega (arith, room.0))
    by_tests false true i j e rest = let h = ltb-true z b.variables j in absurd (omega (arith, room.0))
    by_tests false false i j e rest =
        let h = ltb-false x b.variables i in let k = ltb-false z b.variables j in
        let same = rest (omega arith) (omega arith) (omega arith) in omega arith

-- the cells of a block behind its variables are no variable's
pub plain : (bs : List Block) → Room bs → (i j x : ℕ) → (block_at bs i).variables ≤ j → j < (block_at bs i).room → x < total bs → home bs x ≡ cell bs i + j → ⊥
plain [] room i j x le lt in_total e = omega arith
plain (b ∷ bs) room zero j x le lt in_total e = by_test (nat_lt x b.variables) refl e
  where
    by_test : (t : Bool) → nat_lt x b.variables ≡ t → (if t then x else b.room + home bs (x - b.variables)) ≡ 0 + j → ⊥
    by_test true i e = let h = ltb-true x b.variables i in omega arith
    by_test false i e = omega arith
plain (b ∷ bs) room (suc i) j x le lt in_total e = by_test (nat_lt x b.variables) refl e (λ l e. plain bs room.1 i j (x - b.variables) le lt l e)
  where
    by_test : (t : Bool) → nat_lt x b.variables ≡ t → (if t then x else b.room + home bs (x - b.variables)) ≡ b.room + cell bs i + j → (x - b.variables < total bs → home bs (x - b.variables) ≡ cell bs i + j → ⊥) → ⊥
    by_test true k e rest = let h = ltb-true x b.variables k in omega (arith, room.0)
    by_test false k e rest = let h = ltb-false x b.variables k in rest (omega arith) (omega arith)

-- a variable's cells are in the memory
pub within : (bs : List Block) (i j : ℕ) → i < length bs → j < (block_at bs i).variables → start bs i + j < total bs
within [] i j lt inside = absurd (omega arith)
within (b ∷ bs) zero j lt inside = omega arith
within (b ∷ bs) (suc i) j lt inside = omega (arith, within bs i j (omega arith) inside)

-- a block's cells are among all
pub among : (bs : List Block) (i j : ℕ) → i < length bs → j < (block_at bs i).room → cell bs i + j < whole bs
among [] i j lt inside = absurd (omega arith)
among (b ∷ bs) zero j lt inside = omega arith
among (b ∷ bs) (suc i) j lt inside = omega (arith, among bs i j (omega arith) inside)

-- the cells of the memory are among all
pub home_below : (bs : List Block) → Room bs → (x : ℕ) → x < total bs → home bs x < whole bs
home_below [] room x lt = absurd (omega arith)
home_below (b ∷ bs) room x lt = by_test (nat_lt x b.variables) refl (λ l. home_below bs room.1 (x - b.variables) l)
  where
    by_test : (t : Bool) → nat_lt x b.variables ≡ t → (x - b.variables < total bs → home bs (x - b.variables) < whole bs) → (if t then x else b.room + home bs (x - b.variables)) < b.room + whole bs
    by_test true e rest = let h = ltb-true x b.variables e in omega (arith, room.0)
    by_test false e rest = let h = ltb-false x b.variables e in let r = rest (omega arith) in omega arith

-- behind the first block's variables there are only cells behind the first block
pub home_behind : (b : Block) (bs : List Block) (x : ℕ) → b.variables ≤ x → b.room ≤ home (b ∷ bs) x
home_behind b bs x le = let e : home (b ∷ bs) x ≡ b.room + home bs (x - b.variables) = if_ge x b.variables _ _ le in omega arith

-- a block has room for its variables
pub room_at : (bs : List Block) → Room bs → (i : ℕ) → (block_at bs i).variables ≤ (block_at bs i).room
room_at [] room i = omega arith
room_at (b ∷ bs) room zero = room.0
room_at (b ∷ bs) room (suc i) = room_at bs room.1 i

-- a block's end is among all
pub block_end : (bs : List Block) (i : ℕ) → cell bs i + (block_at bs i).room ≤ whole bs
block_end [] i = omega arith
block_end (b ∷ bs) zero = omega arith
block_end (b ∷ bs) (suc i) = omega (arith, block_end bs i)
