-- The reach, the closure, and which operations are closed.
use Rattle.std.specs.Prelude.{ℕ, ◌==◌, ◌^◌, ◌≡◌, ◌≤◌, ◌<◌, ◌||◌, Bool, true, false, not, List, [], ◌∷◌, filter, replicate, Option, Some, None, slice_get, unwrap_or, option_map, if◌then◌else◌}
use Rattle.std.specs.List.{list_all}
use Rattle.ir_run.specs.Size.{Copying}
use Rattle.pat_core.specs.Isa.{Isa}
use Rattle.pat_core.specs.Operation.{Op, Of, op_number, ops}
use Rattle.pat_core.specs.Formulas.{usable, is_usable}
use Rattle.pat_core.specs.Cert.{Cert, IsCert, IsTaken}

-- a Cert for each operation that has one, in the order of their numbers
pub record Closure : Type 0 where
  pub bits : ℕ
  pub certs : List (Option Cert)

-- `copy` has a Cert at so many bits
abbrev pub HasCopy : Isa → ℕ → Type 0
HasCopy isa bits = (c : Cert) × IsCert isa bits (Of Copying) c

-- an operation's entry: the Cert that is taken, or none where there is none
abbrev pub IsEntry : Isa → ℕ → Op → Option Cert → Type 0
IsEntry isa bits op None = (c : Cert) → IsCert isa bits op c → ⊥
IsEntry isa bits op (Some c) = IsTaken isa bits op c

-- an entry for each of the operations, in order
abbrev pub AreEntries : Isa → ℕ → List Op → List (Option Cert) → Type 0
AreEntries isa bits [] certs = certs ≡ []
AreEntries isa bits (op ∷ ops) certs = (c : Option Cert) × (others : List (Option Cert)) × (certs ≡ c ∷ others) × IsEntry isa bits op c × AreEntries isa bits ops others

-- the greatest number of bits, from 1 to 16, at which `copy` has a Cert
pub record Reaches (isa : Isa) (c : Closure) : Type 0 where
  pub some : 1 ≤ c.bits
  pub most : c.bits ≤ 16
  pub copy : HasCopy isa c.bits
  pub greatest : (b : ℕ) → c.bits < b → b ≤ 16 → HasCopy isa b → ⊥
  pub entries : AreEntries isa c.bits ops c.certs

-- nothing is closed where `copy` has no Cert
pub record ReachesNothing (isa : Isa) (c : Closure) : Type 0 where
  pub no_bits : c.bits ≡ 0
  pub no_copy : (b : ℕ) → 1 ≤ b → b ≤ 16 → HasCopy isa b → ⊥
  pub no_certs : c.certs ≡ replicate 26 None

-- the closure: at the greatest reach, or none
pub data IsClosure (isa : Isa) (c : Closure) : Type 0 where
  Reaching : Reaches isa c → IsClosure isa c
  Nothing : ReachesNothing isa c → IsClosure isa c

-- the reach: how many cells of the data memory are reached, none where `copy` has no Cert
abbrev pub reach : Closure → ℕ
reach c = if c.bits == 0 then 0 else 2 ^ c.bits

-- ---- closed

-- the operation's Cert, where it has one
abbrev pub cert_of : Closure → Op → Option Cert
cert_of c op = unwrap_or (slice_get c.certs (op_number op)) None

-- the operation has a Cert
abbrev pub has : Closure → Op → Bool
has c op = unwrap_or (option_map (λ cert. true) (cert_of c op)) false

-- it has a Cert, or a formula all of whose operations have Certs
abbrev pub is_closed : Closure → Op → Bool
is_closed c op = has c op || is_usable (usable (has c) op)

-- the operation of this number in the compiler's list has a Cert
abbrev pub has_number : Closure → ℕ → Bool
has_number c k = unwrap_or (option_map (has c) (slice_get ops k)) false

-- the operation of this number is closed
abbrev pub is_closed_number : Closure → ℕ → Bool
is_closed_number c k = unwrap_or (option_map (is_closed c) (slice_get ops k)) false

-- each of the operations of these numbers is closed: for a program those that it uses, to which `copy` and `halt` always belong
abbrev pub is_closed_for : Closure → List ℕ → Bool
is_closed_for c used = list_all (is_closed_number c) used

-- the first of them that isn't; they stand in the compiler's order
abbrev pub first_open : Closure → List ℕ → Option ℕ
first_open c used = slice_get (filter (λ k. not (is_closed_number c k)) used) 0
