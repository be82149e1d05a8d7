-- Routes, Certs and formulas on the sample machine, by computation. Patterns: 0 `X = A`, 1 `Y = A`, 9 `X = DM[n]`, 10 `Y = DM[n]`, 11 `A = DM[n]`,
-- 12 `DM[n] = A`, 25 and 26 `A = A + X`, 38 `jeq`, 44 `hlt`.
use Rattle.std.specs.Prelude.{List, ◌≡◌, refl, ℕ, negsuc, Bool, true, false, [], ◌∷◌, ◌++◌, map, length, take, drop, replicate, Option, Some, None}
use Rattle.std.specs.List.{list_all}
use Rattle.ir_run.specs.Size.{Copying, Loading, Putting, By, First, Moving, Comparing}
use Rattle.ir_core.specs.declared.relation.Rel.TheVariants as rel
use Rattle.ir_run.specs.Node.{Cell, Const, Binary}
use Rattle.isg_places.specs.declared.place.Place.{Place}
use Rattle.ir_core.specs.declared.operator.Prefix.TheVariants as prefixes
use Rattle.ir_core.specs.declared.operator.Shift.TheVariants as shifts
use Rattle.ir_core.specs.declared.operator.Arith.TheVariants as ariths
use Rattle.pat_core.specs.Isa.{home}
use Rattle.pat_core.specs.Operation.{Op, Of, ZeroTest, NegativeTest, op_number, ops, Related}
use Rattle.pat_core.specs.Formulas.{InTree, Instead, less, node_ops, usable, is_usable}
use Rattle.pat_core.specs.Route.{Route, is_route, end_of}
use Rattle.pat_core.specs.Cert.{Cert, IsCert, is_cert_to, words, can_halt}
use Rattle.pat_core.specs.Closure.{Closure, is_closed, is_closed_for, first_open}
use Rattle.pat_core.specs.Mirror.{steps}
use Rattle.pat_core.specs.SampleMachine.{machine}

-- the one register of a storage
abbrev register : ℕ → Place
register n = record { storage = n; index = Some 0 }

-- a cell of the data memory
abbrev home_cell : Place
home_cell = home machine

-- ---- routes

-- a cell is brought to Y at once, or over A
direct : is_route machine 10 None home_cell ((10, register 3) ∷ []) (register 3) ≡ true
direct = refl

over_a : is_route machine 10 None home_cell ((11, register 4) ∷ (1, register 3) ∷ []) (register 3) ≡ true
over_a = refl

-- where A is to be avoided, not over A
avoided : is_route machine 10 (Some (register 4)) home_cell ((11, register 4) ∷ (1, register 3) ∷ []) (register 3) ≡ false
avoided = refl

-- addresses have 10 bits, and 11 are asked
too_few_bits : is_route machine 11 None home_cell ((10, register 3) ∷ []) (register 3) ≡ false
too_few_bits = refl

-- another cell of a file is another place: AR[1] is written where AR[0] is to be avoided, and AR[0] isn't; a register is one cell
abbrev address : Option ℕ → Place
address k = record { storage = 6; index = k }

other_cell : (is_route machine 10 (Some (address (Some 0))) (register 4) ((3, address (Some 1)) ∷ []) (address (Some 1)) ≡ true)
    × (is_route machine 10 (Some (address (Some 0))) (register 4) ((3, address (Some 0)) ∷ []) (address (Some 0)) ≡ false)
    × (is_route machine 10 None (register 4) ((3, address (Some 2)) ∷ []) (address (Some 2)) ≡ false)
    × (is_route machine 10 None (register 4) ((3, address None) ∷ []) (address None) ≡ false)
other_cell = (refl, refl, refl, refl)

-- a route without a step stays where it is; one starts behind the start's storage
stays : (is_route machine 10 None (register 4) [] (register 4) ≡ true) × (is_route machine 10 None (register 4) [] (register 5) ≡ false)
    × (is_route machine 10 None (register 4) ((5, register 5) ∷ (6, register 4) ∷ []) (register 4) ≡ false)
    × (end_of home_cell ((11, register 4) ∷ (1, register 3) ∷ []) ≡ register 3)
stays = (refl, refl, refl, refl)

-- no storage twice
twice : is_route machine 10 None home_cell ((11, register 4) ∷ (12, home_cell) ∷ []) home_cell ≡ false
twice = refl

-- ---- Certs

-- `add`: the first operand to A, the second to X, the sum in A, from there to its cell
abbrev adds : Cert
adds = record { first = (11, register 4) ∷ []; second = (9, register 2) ∷ []; pattern = 25; last = (12, home_cell) ∷ [] }

add_cert : IsCert machine 10 (Of (By ariths.Add)) adds
add_cert = record { to = Some (register 4); is = refl; codes = tt }

-- the swapped form does as well, and has the greater number
abbrev adds_swapped : Cert
adds_swapped = record { first = (9, register 2) ∷ []; second = (11, register 4) ∷ []; pattern = 26; last = (12, home_cell) ∷ [] }

swapped_cert : IsCert machine 10 (Of (By ariths.Add)) adds_swapped
swapped_cert = record { to = Some (register 4); is = refl; codes = tt }

-- the second route may not go through the first operand's register
spoils : is_cert_to machine 10 (Of (By ariths.Add)) (record { first = (11, register 4) ∷ []; second = (11, register 4) ∷ (0, register 2) ∷ []; pattern = 25; last = (12, home_cell) ∷ [] }) (Some (register 4)) ≡ false
spoils = refl

-- `copy` has one of two words at 10 bits, and none of these patterns at 11
copy_cert : IsCert machine 10 (Of Copying) (record { first = []; second = []; pattern = 11; last = (12, home_cell) ∷ [] })
copy_cert = record { to = Some (register 4); is = refl; codes = tt }

-- `eq` compares X and Y
equal_cert : IsCert machine 10 (Of (Comparing rel.Eq)) (record { first = (9, register 2) ∷ []; second = (10, register 3) ∷ []; pattern = 38; last = [] })
equal_cert = record { to = None; is = refl; codes = tt }

-- `load` by an address register, which has 10 bits: not at 11
abbrev loads : Option ℕ → Cert
loads k = record { first = (11, register 4) ∷ (3, address k) ∷ []; second = []; pattern = 13; last = (2, register 4) ∷ (12, home_cell) ∷ [] }

load_cert : (is_cert_to machine 10 (Of Loading) (loads (Some 1)) (Some (register 2)) ≡ true)
    × (is_cert_to machine 11 (Of Loading) (loads (Some 1)) (Some (register 2)) ≡ false)
    × (is_cert_to machine 10 (Of Loading) (loads None) (Some (register 2)) ≡ false) × (words (loads (Some 1)) ≡ 5)
load_cert = (refl, refl, refl, refl)

-- an operand that isn't there has no route, and without a result there is none
no_more : (is_cert_to machine 10 (Of Putting) (record { first = (11, register 4) ∷ []; second = []; pattern = 7; last = [] }) None ≡ true)
    × (is_cert_to machine 10 (Of Putting) (record { first = (11, register 4) ∷ []; second = (9, register 2) ∷ []; pattern = 7; last = [] }) None ≡ false)
    × (is_cert_to machine 10 (Of Putting) (record { first = (11, register 4) ∷ []; second = []; pattern = 7; last = (12, home_cell) ∷ [] }) None ≡ false)
no_more = (refl, refl, refl)

-- the pattern is the operation itself: `A = A + X` is no subtraction, and `P = X * Y; A = A + P` no sum
other_operation : (is_cert_to machine 10 (Of (By ariths.Sub)) adds (Some (register 4)) ≡ false)
    × (is_cert_to machine 10 (Of (By ariths.Add)) (record adds { pattern = 21 }) (Some (register 4)) ≡ false)
other_operation = (refl, refl)

-- the shift by 1 is that of an amount of 4 bits
shift_cert : is_cert_to machine 10 (Of (Moving shifts.Shl)) (record { first = (11, register 4) ∷ []; second = []; pattern = 35; last = (12, home_cell) ∷ [] }) (Some (register 4)) ≡ true
shift_cert = refl

-- a halt by a field of card(8) gives each code
halts : list_all (λ k. can_halt machine k 44) (0 ∷ 1 ∷ 2 ∷ []) ≡ true
halts = refl

-- ---- formulas

-- the operations that have Certs here: all but not, le, gt, eqz and ltz
abbrev has : Op → Bool
has (Of (First prefixes.Not)) = false
has (Of (Comparing rel.Le)) = false
has (Of (Comparing rel.Gt)) = false
has ZeroTest = false
has NegativeTest = false
has op = true

-- `not` by formula: an exclusive or with -1
not_by_xor : usable has (Of (First prefixes.Not)) ≡ Some (InTree (λ a b. Binary ariths.Xor a (Const (negsuc 0))))
not_by_xor = refl

-- `a > b` as `b < a`
greater : usable has (Of (Comparing rel.Gt)) ≡ Some (Instead (Related rel.Lt) (λ a b. b) (λ a b. a))
greater = refl

-- the last formula of `<` has six operators, and with its test seven operations
six : length (node_ops (less (Cell 0) (Cell 1))) ≡ 6
six = refl

all_closed : list_all (λ op. is_usable (usable has op)) (Of (First prefixes.Not) ∷ Of (Comparing rel.Le) ∷ Of (Comparing rel.Gt) ∷ ZeroTest ∷ NegativeTest ∷ []) ≡ true
all_closed = refl

-- the operations are numbered in their order
in_order : map op_number ops ≡ 0 ∷ 1 ∷ 2 ∷ 3 ∷ 4 ∷ 5 ∷ 6 ∷ 7 ∷ 8 ∷ 9 ∷ 10 ∷ 11 ∷ 12 ∷ 13 ∷ 14 ∷ 15 ∷ 16 ∷ 17 ∷ 18 ∷ 19 ∷ 20 ∷ 21 ∷ 22 ∷ 23 ∷ 24 ∷ 25 ∷ []
in_order = refl

-- ---- the closure

-- an entry
abbrev with_cert : Route → Route → ℕ → Route → Option Cert
with_cert first second pattern last = Some (record { first = first; second = second; pattern = pattern; last = last })

-- a Cert for each operation that has one; that each is a Cert is shown for some above, that each is the one that is taken isn't
abbrev pub certs : List (Option Cert)
certs =
    with_cert [] [] 11 ((12, home_cell) ∷ [])  -- copy
    ∷ with_cert ((11, register 4) ∷ (3, register 6) ∷ []) [] 13 ((2, register 4) ∷ (12, home_cell) ∷ [])  -- load
    ∷ with_cert ((11, register 4) ∷ (3, register 6) ∷ []) ((11, register 4) ∷ []) 17 []  -- store
    ∷ with_cert [] [] 8 ((2, register 4) ∷ (12, home_cell) ∷ [])  -- in
    ∷ with_cert ((11, register 4) ∷ []) [] 7 []  -- out
    ∷ with_cert ((11, register 4) ∷ []) ((9, register 2) ∷ []) 25 ((12, home_cell) ∷ [])  -- add
    ∷ with_cert ((11, register 4) ∷ []) ((9, register 2) ∷ []) 27 ((12, home_cell) ∷ [])  -- sub
    ∷ with_cert ((9, register 2) ∷ []) ((10, register 3) ∷ []) 19 ((12, home_cell) ∷ [])  -- mul
    ∷ with_cert ((11, register 4) ∷ []) [] 34 ((12, home_cell) ∷ [])  -- neg
    ∷ with_cert ((11, register 4) ∷ []) ((9, register 2) ∷ []) 28 ((12, home_cell) ∷ [])  -- and
    ∷ with_cert ((11, register 4) ∷ []) ((9, register 2) ∷ []) 30 ((12, home_cell) ∷ [])  -- or
    ∷ with_cert ((11, register 4) ∷ []) ((9, register 2) ∷ []) 32 ((12, home_cell) ∷ [])  -- xor
    ∷ None  -- not
    ∷ with_cert ((11, register 4) ∷ []) [] 35 ((12, home_cell) ∷ [])  -- shl
    ∷ with_cert ((9, register 2) ∷ []) [] 36 ((12, home_cell) ∷ [])  -- shr
    ∷ with_cert ((9, register 2) ∷ []) ((10, register 3) ∷ []) 38 []  -- eq
    ∷ with_cert ((9, register 2) ∷ []) ((10, register 3) ∷ []) 39 []  -- ne
    ∷ with_cert ((9, register 2) ∷ []) ((10, register 3) ∷ []) 40 []  -- lt
    ∷ None  -- le
    ∷ None  -- gt
    ∷ with_cert ((9, register 2) ∷ []) ((10, register 3) ∷ []) 41 []  -- ge
    ∷ with_cert [] [] 37 []  -- jump
    ∷ with_cert ((9, register 2) ∷ []) [] 42 []  -- jumpcell
    ∷ with_cert [] [] 44 []  -- halt
    ∷ None  -- eqz
    ∷ None  -- ltz
    ∷ []

-- they, at 10 bits
abbrev pub closure : Closure
closure = record { bits = 10; certs = certs }

-- every operation is closed
closed : list_all (is_closed closure) ops ≡ true
closed = refl

-- without `mul` in the machine, and where nothing has a Cert
abbrev without_mul : Closure
without_mul = record { bits = 10; certs = take 7 certs ++ None ∷ drop 8 certs }

abbrev nothing : Closure
nothing = record { bits = 0; certs = replicate 26 None }

-- a program is refused by the first operation in order that isn't closed: by `mul` where it is used, by `copy` where nothing is closed
refused : (is_closed_for closure (0 ∷ 7 ∷ 12 ∷ 18 ∷ 23 ∷ []) ≡ true) × (first_open without_mul (0 ∷ 5 ∷ 7 ∷ 12 ∷ 23 ∷ []) ≡ Some 7)
    × (first_open without_mul (0 ∷ 5 ∷ 12 ∷ 23 ∷ []) ≡ None) × (first_open nothing (0 ∷ 23 ∷ []) ≡ Some 0)
refused = (refl, refl, refl, refl)

-- a route's patterns and places side by side
side_by_side : steps (11 ∷ 1 ∷ []) (register 4 ∷ register 3 ∷ []) ≡ (11, register 4) ∷ (1, register 3) ∷ []
side_by_side = refl
