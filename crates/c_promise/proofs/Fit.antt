-- What is promised of each statement, with what comes behind it, and that it goes with lists that are joined.
use Rattle.std.proofs.Common.{◌≡◌, refl, ap, ℕ, ◌<◌, ◌≤◌, List, [], ◌∷◌, ◌++◌, true, false}
use Rattle.ir_run.specs.Node.{Node, Const, Base, Label, Cell, In, Load, Unary, Shifted, Binary}
use Rattle.ir_run.specs.Entry.{Entry, Set, Store, Out, Branch, JumpCell, Jump, Mark, Halt}
use Rattle.ir_run.specs.Promise.{shifts_fit, is_plain, is_settable}

-- a tree of a statement other than a Set: shifts are by 1 to n-1, and neither the input nor a label stands in it
abbrev pub IsTree : (n : ℕ) → Node → Type 0
IsTree n t = (shifts_fit n t ≡ true) × (is_plain t ≡ true)

-- a jump, and the label's mark behind it
pub data Comes (l : ℕ) (es : List Entry) : Type 0 where
  Back : (j : ℕ) (rest : List Entry) → es ≡ Jump j ∷ Mark l ∷ rest → Comes l es

-- a label that is put into a cell comes back behind a jump
abbrev pub Returned : Node → List Entry → Type 0
Returned (Label l) es = Comes l es
Returned (Const z) es = Unit {0}
Returned (Base c) es = Unit {0}
Returned (Cell k) es = Unit {0}
Returned In es = Unit {0}
Returned (Load t) es = Unit {0}
Returned (Unary op t) es = Unit {0}
Returned (Shifted op t k) es = Unit {0}
Returned (Binary op t u) es = Unit {0}

-- a Set of a cell below the limit
pub record IsSet (n limit k : ℕ) (t : Node) (es : List Entry) : Type 0 where
  pub below : k < limit
  pub shifts : shifts_fit n t ≡ true
  pub settable : is_settable t ≡ true
  pub returned : Returned t es

-- a statement before others
abbrev pub IsFit : (n limit : ℕ) → Entry → List Entry → Type 0
IsFit n limit (Set k t) es = IsSet n limit k t es
IsFit n limit (Store t u) es = IsTree n t × IsTree n u
IsFit n limit (Out t) es = IsTree n t
IsFit n limit (Branch r t u l) es = IsTree n t × IsTree n u
IsFit n limit (JumpCell k) es = Unit {0}
IsFit n limit (Jump l) es = Unit {0}
IsFit n limit (Mark l) es = Unit {0}
IsFit n limit (Halt code) es = code ≤ 1

-- all of a list
abbrev pub AllFit : (n limit : ℕ) → List Entry → Type 0
AllFit n limit [] = Unit {0}
AllFit n limit (e ∷ es) = IsFit n limit e es × AllFit n limit es

returned_append : (t : Node) (es fs : List Entry) → Returned t es → Returned t (es ++ fs)
returned_append (Label l) es fs (Back j rest is) = Back j (rest ++ fs) (ap (λ xs. xs ++ fs) is)
returned_append (Const z) es fs h = tt
returned_append (Base c) es fs h = tt
returned_append (Cell k) es fs h = tt
returned_append In es fs h = tt
returned_append (Load t) es fs h = tt
returned_append (Unary op t) es fs h = tt
returned_append (Shifted op t k) es fs h = tt
returned_append (Binary op t u) es fs h = tt

fit_append : (n limit : ℕ) (e : Entry) (es fs : List Entry) → IsFit n limit e es → IsFit n limit e (es ++ fs)
fit_append n limit (Set k t) es fs h = record { below = h.below; shifts = h.shifts; settable = h.settable; returned = returned_append t es fs h.returned }
fit_append n limit (Store t u) es fs h = h
fit_append n limit (Out t) es fs h = h
fit_append n limit (Branch r t u l) es fs h = h
fit_append n limit (JumpCell k) es fs h = h
fit_append n limit (Jump l) es fs h = h
fit_append n limit (Mark l) es fs h = h
fit_append n limit (Halt code) es fs h = h

-- lists that are joined
pub join : (n limit : ℕ) (es fs : List Entry) → AllFit n limit es → AllFit n limit fs → AllFit n limit (es ++ fs)
join n limit [] fs h i = i
join n limit (e ∷ es) fs h i = (fit_append n limit e es fs h.0, join n limit es fs h.1 i)

settable_plain : (t : Node) → is_plain t ≡ true → is_settable t ≡ true
settable_plain (Const z) h = h
settable_plain (Base c) h = h
settable_plain (Label l) h = refl
settable_plain (Cell k) h = h
settable_plain In h = refl
settable_plain (Load t) h = h
settable_plain (Unary op t) h = h
settable_plain (Shifted op t k) h = h
settable_plain (Binary op t u) h = h

returned_plain : (t : Node) (es : List Entry) → is_plain t ≡ true → Returned t es
returned_plain (Label l) es h = let none : false ≡ true = h in cc
returned_plain (Const z) es h = tt
returned_plain (Base c) es h = tt
returned_plain (Cell k) es h = tt
returned_plain In es h = tt
returned_plain (Load t) es h = tt
returned_plain (Unary op t) es h = tt
returned_plain (Shifted op t k) es h = tt
returned_plain (Binary op t u) es h = tt

-- a Set of such a tree
pub is_set : (n limit k : ℕ) (t : Node) (es : List Entry) → k < limit → IsTree n t → IsSet n limit k t es
is_set n limit k t es below h = record { below = below; shifts = h.0; settable = settable_plain t h.1; returned = returned_plain t es h.1 }
