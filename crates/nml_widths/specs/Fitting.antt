-- That the value of each expression fits its width and cap.
use Rattle.std.specs.Prelude.{◌≡◌, ℕ, ◌+◌, ◌-◌, ◌^◌, ◌<◌, ◌≤◌, ℤ, pos, ◌≤ℤ◌, unsigned_abs, true, length, List, Option, Some, None, unwrap_or, FitsSigned}
use Rattle.std.specs.Int.{w128}
use Rattle.std.specs.Int.Signed.{mag}
use Rattle.nk_base.specs.declared.number.Ty.{Ty}
use Rattle.nk_base.specs.Number.{InRange}
use Rattle.nml_tree.specs.declared.names.Name.{Name}
use Rattle.nml_tree.specs.Formula as formula
use Rattle.nml_tree.specs.Formula.{Formula}
use Rattle.nml_tree.specs.Block as block
use Rattle.nml_tree.specs.Block.{Block, Index}
use Rattle.nml_tree.specs.Table.{Text, Table, Declared, declared}
use Rattle.nml_tree.specs.Worth.{Cap, UpTo, Uncapped, Untold, Worth, Scope, is_type, worth}
use Rattle.nml_tree.specs.Written as written
use Rattle.nml_tree.specs.Written.{term}
use Rattle.nml_tree.specs.Value.{View, value, number_at, cell}

pub record Holds (w : ℕ) (z : ℤ) : Type 0 where
  pub some : 1 ≤ w
  pub fits : mag z < 2 ^ (w - 1)

-- at most the cap; no number is where the cap is untold
abbrev pub Within : Cap → ℤ → Type 0
Within (UpTo c) z = (pos 0 ≤ℤ z) × (z ≤ℤ pos c)
Within Uncapped z = Unit {0}
Within Untold z = ⊥

pub record Fits (w : Worth) (z : ℤ) : Type 0 where
  pub holds : Holds w.width z
  pub within : Within w.cap z

-- a type has 1 to 64 bits, and an or-rule has an alternative
abbrev pub IsRightDeclared : Declared → Type 0
IsRightDeclared (Declared.Constant z) = Unit {0}
IsRightDeclared (Declared.TypeName ty) = is_type ty ≡ true
IsRightDeclared (Declared.Storage n k ty) = is_type ty ≡ true
IsRightDeclared (Declared.Trn n ty) = is_type ty ≡ true
IsRightDeclared (Declared.Inp ty) = is_type ty ≡ true
IsRightDeclared (Declared.Out ty) = is_type ty ≡ true
IsRightDeclared (Declared.Or mode names) = 1 ≤ length names
IsRightDeclared (Declared.And rule) = Unit {0}

-- the cells, the transitories and the input are of their types
abbrev pub IsOfType : View → Declared → Type 0
IsOfType v (Declared.Storage n k ty) = (i : ℕ) → InRange ty (cell v.cells n i)
IsOfType v (Declared.Trn n ty) = InRange ty (number_at v.trns n)
IsOfType v (Declared.Inp ty) = InRange ty (unwrap_or v.next (pos 0))
IsOfType v _ = Unit {0}

pub record AreOfTypes (t : Table) (v : View) : Type 0 where
  pub each : (name : Text) (d : Declared) → declared t name ≡ Some d → IsOfType v d

-- from the place n on stand these
abbrev pub StandAt : List ℤ → ℕ → List ℤ → Type 0
StandAt zs n ys = (k : ℕ) → k < length ys → number_at zs (n + k) ≡ number_at ys k

-- of an expression and of those in it
abbrev pub Everywhere : (Formula → Type 0) → Formula → Type 0
Everywhere P (formula.Numeral n) = P (formula.Numeral n)
Everywhere P (formula.Truth at b) = P (formula.Truth at b)
Everywhere P (formula.Named n) = P (formula.Named n)
Everywhere P (formula.Indexed n p i q) = P (formula.Indexed n p i q) × Everywhere P i
Everywhere P (formula.Paren p x q) = P (formula.Paren p x q) × Everywhere P x
Everywhere P (formula.Fitted f at p n c x q) = P (formula.Fitted f at p n c x q) × Everywhere P x
Everywhere P (formula.Bits at p x c high d low q) = P (formula.Bits at p x c high d low q) × Everywhere P x
Everywhere P (formula.Choose at c t x f y end) = P (formula.Choose at c t x f y end) × Everywhere P c × Everywhere P x × Everywhere P y
Everywhere P (formula.Unary op at x) = P (formula.Unary op at x) × Everywhere P x
Everywhere P (formula.Binary op x at y) = P (formula.Binary op x at y) × Everywhere P x × Everywhere P y

abbrev pub EachIndex : (Formula → Type 0) → Index → Type 0
EachIndex P None = Unit {0}
EachIndex P (Some (p, i, q)) = P i

-- of the expressions of statements: indices of places, assigned values, halt codes, conditions
abbrev pub Each : (Formula → Type 0) → Block → Type 0
Each P block.Done = Unit {0}
Each P (block.Assign n i at e semicolon rest) = EachIndex P i × P e × Each P rest
Each P (block.Part n dot at semicolon rest) = Each P rest
Each P (block.Halt at p e q semicolon rest) = P e × Each P rest
Each P (block.If at c t xs end semicolon rest) = P c × Each P xs × Each P rest
Each P (block.IfElse at c t xs f ys end semicolon rest) = P c × Each P xs × Each P ys × Each P rest

-- of a mode's value
abbrev pub EachValue : (Formula → Type 0) → Option Formula → Type 0
EachValue P None = Unit {0}
EachValue P (Some e) = P e

-- an index stands from 0 to below the size of the storage that is declared
abbrev pub IndexBelow : Scope → written.Scope → View → Formula → Type 0
IndexBelow s parts v (formula.Indexed n p i q) = (k size : ℕ) (ty : Ty) → declared s.table n.text ≡ Some (Declared.Storage k size ty)
    → (pos 0 ≤ℤ value v (term s.table parts i)) × (unsigned_abs (value v (term s.table parts i)) < size)
IndexBelow s parts v x = Unit {0}

-- an expression by itself
pub record Sound (s : Scope) (parts : written.Scope) (v : View) (x : Formula) : Type 0 where
  pub fits : Fits (worth s x) (value v (term s.table parts x))
  pub narrow : FitsSigned w128 (value v (term s.table parts x))
  pub below : IndexBelow s parts v x

-- the index of a place that is assigned
abbrev pub PlaceBelow : Scope → written.Scope → View → Name → Index → Type 0
PlaceBelow s parts v n None = Unit {0}
PlaceBelow s parts v n (Some (p, i, q)) = IndexBelow s parts v (formula.Indexed n p i q)

abbrev pub PlacesBelow : Scope → written.Scope → View → Block → Type 0
PlacesBelow s parts v block.Done = Unit {0}
PlacesBelow s parts v (block.Assign n i at e semicolon rest) = PlaceBelow s parts v n i × PlacesBelow s parts v rest
PlacesBelow s parts v (block.Part n dot at semicolon rest) = PlacesBelow s parts v rest
PlacesBelow s parts v (block.Halt at p e q semicolon rest) = PlacesBelow s parts v rest
PlacesBelow s parts v (block.If at c t xs end semicolon rest) = PlacesBelow s parts v xs × PlacesBelow s parts v rest
PlacesBelow s parts v (block.IfElse at c t xs f ys end semicolon rest) = PlacesBelow s parts v xs × PlacesBelow s parts v ys × PlacesBelow s parts v rest
