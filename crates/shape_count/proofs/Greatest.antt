-- The greatest of what is counted of the derivations of a rule, from the greatest of those of the rules that it names.
use Rattle.std.proofs.Common.{ℕ, zero, suc, ◌≡◌, ◌≤◌, ◌+◌, ◌*◌, max, pos, refl, sym, ◌∙◌, ap, subst, arith, List, [], ◌∷◌, slice_get, Option, Some, None, Contains, ◌⊎◌, inl, inr, Bool}
use Rattle.std.proofs.lemmas.Bool.{cases_lt}
use Rattle.std.proofs.Math.Nat.{zero-mul, mul-zero, le-mul_of_pos_right, mul_comm}
use Rattle.nml_tree.specs.declared.tree.Par.{Par}
use Rattle.nml_tree.specs.Table.{Text, Table, Rule, Declared, Parameter, declared, parameter_of}
use Rattle.nml_tree.specs.Derivation.{Derivation, Arguments, Pick, Compose, NoMore, Part, Field, IsDerivation, Fill}
use Rattle.nml_tree.specs.Shapes.{counted, IsGreatest}
use Rattle.nml_tree.proofs.Height.{picked}
use Rattle.nml_widths.proofs.ModeFits.{zero_in}

-- products of numbers that are the same as far as is counted
pub counted_product : (a b c d : ℕ) → counted a ≡ counted c → counted b ≡ counted d → counted (a * b) ≡ counted (c * d)
counted_product zero b zero d p q = rw (zero-mul, zero-mul) refl
counted_product zero b (suc c) d p q = absurd (omega (arith, p))
counted_product (suc a) b zero d p q = absurd (omega (arith, p))
counted_product (suc a) zero (suc c) zero p q = rw (mul-zero, mul-zero) refl
counted_product (suc a) zero (suc c) (suc d) p q = absurd (omega (arith, q))
counted_product (suc a) (suc b) (suc c) zero p q = absurd (omega (arith, q))
counted_product (suc a) (suc b) (suc c) (suc d) p q =
    let e : suc a ≤ suc a * suc b = le-mul_of_pos_right (suc a) (omega arith) in
    let f : suc b ≤ suc a * suc b = rw mul_comm (le-mul_of_pos_right (suc b) (omega arith)) in
    let g : suc c ≤ suc c * suc d = le-mul_of_pos_right (suc c) (omega arith) in
    let h : suc d ≤ suc c * suc d = rw mul_comm (le-mul_of_pos_right (suc d) (omega arith)) in
    elim (cases_lt (suc a) 1000000) [
      | inl less ↦ elim (cases_lt (suc b) 1000000) [
        | inl low ↦ (let s : suc a ≡ suc c = omega (arith, p, less) in let r : suc b ≡ suc d = omega (arith, q, low) in rw (s, r) refl)
        | inr high ↦ omega (arith, q, high, f, h)
      ]
      | inr more ↦ omega (arith, p, more, e, g)
    ]

-- the greatest of these numbers and this
abbrev pub most_of : (Text → ℕ) → ℕ → List Text → ℕ
most_of v m [] = m
most_of v m (n ∷ ns) = most_of v (max m (v n)) ns

most_least : (v : Text → ℕ) (m : ℕ) (ns : List Text) → m ≤ most_of v m ns
most_least v m [] = omega arith
most_least v m (n ∷ ns) = let l = most_least v (max m (v n)) ns in omega (arith, l)

most_bound : (v : Text → ℕ) (m : ℕ) (ns : List Text) (b : Text) → Contains ns b → v b ≤ most_of v m ns
most_bound v m [] b c = let l = c.1 in absurd (omega (arith, l))
most_bound v m (n ∷ ns) b (zero, low, is) = subst (λ x. v x ≤ most_of v (max m (v n)) ns) is (let l = most_least v (max m (v n)) ns in omega (arith, l))
most_bound v m (n ∷ ns) b (suc k, low, is) = most_bound v (max m (v n)) ns b (k, omega (arith, low), is)

most_bound_all : (v : Text → ℕ) (n : Text) (ns : List Text) (b : Text) → Contains (n ∷ ns) b → v b ≤ most_of v (v n) ns
most_bound_all v n ns b c = let e : max (v n) (v n) ≡ v n = omega arith in subst (λ m. v b ≤ most_of v m ns) e (most_bound v (v n) (n ∷ ns) b c)

-- it is one of them
abbrev pub IsOne : (Text → ℕ) → ℕ → List Text → ℕ → Type 0
IsOne v m ns r = (r ≡ m) ⊎ ((b : Text) × Contains ns b × (v b ≡ r))

pub most_is : (v : Text → ℕ) (m : ℕ) (ns : List Text) → IsOne v m ns (most_of v m ns)
most_is v m [] = inl refl
most_is v m (n ∷ ns) = elim (most_is v (max m (v n)) ns) [
  | inl e ↦ elim (cases_lt m (v n)) [
    | inl less ↦ (let f : v n ≡ most_of v (max m (v n)) ns = omega (arith, e, less) in inr (n, (0, omega arith, refl), f))
    | inr more ↦ (let f : most_of v (max m (v n)) ns ≡ m = omega (arith, e, more) in inl f)
  ]
  | inr o ↦ (let c = o.1 in inr (o.0, (suc c.0, omega (arith, c.1), c.2), o.2))
]

pub got_is_among : (names : List Text) (n : ℕ) (x : Text) → slice_get names n ≡ Some x → Contains names x
got_is_among [] n x h = absurd cc
got_is_among (y ∷ ys) zero x h = let e : y ≡ x = cc in (0, omega arith, e)
got_is_among (y ∷ ys) (suc n) x h = let c = got_is_among ys n x h in (suc c.0, omega (arith, c.1), c.2)

pub among_is_got : (names : List Text) (x : Text) → Contains names x → (k : ℕ) × (slice_get names k ≡ Some x)
among_is_got [] x c = let l = c.1 in absurd (omega (arith, l))
among_is_got (y ∷ ys) x (zero, low, is) = (0, ap Some is)
among_is_got (y ∷ ys) x (suc k, low, is) = let r = among_is_got ys x (k, omega (arith, low), is) in (suc r.0, r.1)

-- of an or-rule
module _ (t : Table) (a : Text) (mode : Bool) (n : Text) (ns : List Text) (f g : Derivation → ℕ) (j : ℕ) (v : Text → ℕ) (is : declared t a ≡ Some (Declared.Or mode (n ∷ ns))) (more : (i : ℕ) (x : Derivation) → f (Pick i x) ≡ g x + j) (each : (b : Text) → Contains (n ∷ ns) b → IsGreatest (IsDerivation t b) g (v b)) where
  or_bound : (x : Derivation) → IsDerivation t a x → counted (f x) ≤ counted (most_of v (v n) ns + j)
  or_bound (Pick i x) h =
      let c = got_is_among (n ∷ ns) i h.0 (picked mode (n ∷ ns) t a i h.0 is h.1) in
      let b = (each h.0 c).bound x h.2 in
      let u = most_bound_all v n ns h.0 c in
      omega (arith, b, u, more i x)
  or_bound (Compose rule args) h = absurd cc

  pub or_greatest : IsGreatest (IsDerivation t a) f (counted (most_of v (v n) ns + j))
  or_greatest = record {
    bound = or_bound;
    reached =
        let one : (b : Text) × Contains (n ∷ ns) b × (v b ≡ most_of v (v n) ns) = elim (most_is v (v n) ns) [ inl e ↦ (n, (0, omega arith, refl), sym e) | inr o ↦ (let c = o.1 in (o.0, (suc c.0, omega (arith, c.1), c.2), o.2)) ] in
        let x = (each one.0 one.1).reached in
        let k = among_is_got (n ∷ ns) one.0 one.1 in
        (Pick k.0 x.0, (one.0, rw is k.1, x.1), (let q = x.2 in let r = one.2 in omega (arith, q, r, more k.0 x.0)));
  }

-- what is counted of what stands for a parameter: of a part, or of a field; and the most
pub record Weigh : Type 0 where
  pub part : Derivation → ℕ
  pub field : ℕ
  pub best : ℕ

-- of all arguments
abbrev pub arg_sum : List Weigh → Arguments → ℕ
arg_sum (w ∷ ws) (Part name d args) = w.part d + arg_sum ws args
arg_sum (w ∷ ws) (Field name ty z args) = w.field + arg_sum ws args
arg_sum _ _ = 0

-- the most of each
abbrev pub best_sum : List Weigh → ℕ
best_sum [] = 0
best_sum (w ∷ ws) = w.best + best_sum ws

-- it is the most of what may stand for the parameter
abbrev pub IsParGreatest : Table → Option Parameter → Weigh → Type 0
IsParGreatest t None w = ⊥
IsParGreatest t (Some (Parameter.Field ty)) w = counted w.field ≡ w.best
IsParGreatest t (Some (Parameter.Part b)) w = IsGreatest (IsDerivation t b) w.part w.best

-- so of all parameters
abbrev pub AreParGreatest : Table → List Par → List Weigh → Type 0
AreParGreatest t [] [] = Unit {0}
AreParGreatest t (p ∷ ps) (w ∷ ws) = IsParGreatest t (parameter_of t p.ty) w × AreParGreatest t ps ws
AreParGreatest t _ _ = ⊥

fill_bound : (args : Arguments) (t : Table) (pars : List Par) (ws : List Weigh) → AreParGreatest t pars ws → Fill t pars args → counted (arg_sum ws args) ≤ counted (best_sum ws)
fill_bound NoMore t [] [] right h = omega arith
fill_bound NoMore t (p ∷ pars) ws right h = absurd cc
fill_bound NoMore t [] (w ∷ ws) right h = absurd right
fill_bound (Part name x args) t [] ws right h = let e = h.3 in absurd cc
fill_bound (Part name x args) t (p ∷ pars) [] right h = absurd right
fill_bound (Part name x args) t (p ∷ pars) (w ∷ ws) right h =
    let all : p ∷ pars ≡ h.0 ∷ h.1 = h.3 in
    let first : p ≡ h.0 = cc in
    let others : pars ≡ h.1 = cc in
    let k : IsGreatest (IsDerivation t h.2) w.part w.best = subst (λ o. IsParGreatest t o w) (ap (λ (q : Par). parameter_of t q.ty) first ∙ h.5) right.0 in
    let b = k.bound x h.6 in
    let m = fill_bound args t pars ws right.1 (subst (λ ps. Fill t ps args) (sym others) h.7) in
    omega (arith, b, m)
fill_bound (Field name ty z args) t [] ws right h = let e = h.2 in absurd cc
fill_bound (Field name ty z args) t (p ∷ pars) [] right h = absurd right
fill_bound (Field name ty z args) t (p ∷ pars) (w ∷ ws) right h =
    let all : p ∷ pars ≡ h.0 ∷ h.1 = h.2 in
    let first : p ≡ h.0 = cc in
    let others : pars ≡ h.1 = cc in
    let k : counted w.field ≡ w.best = subst (λ o. IsParGreatest t o w) (ap (λ (q : Par). parameter_of t q.ty) first ∙ h.4) right.0 in
    let m = fill_bound args t pars ws right.1 (subst (λ ps. Fill t ps args) (sym others) h.6) in
    omega (arith, k, m)

-- some arguments come to this
abbrev Reached : Table → List Par → List Weigh → Type 0
Reached t pars ws = (args : Arguments) × Fill t pars args × (counted (arg_sum ws args) ≡ counted (best_sum ws))

fill_reached : (t : Table) (pars : List Par) (ws : List Weigh) → AreParGreatest t pars ws → Reached t pars ws
fill_reached t [] [] right = (NoMore, refl, refl)
fill_reached t [] (w ∷ ws) right = absurd right
fill_reached t (p ∷ pars) [] right = absurd right
fill_reached t (p ∷ pars) (w ∷ ws) right = by (parameter_of t p.ty) refl right.0 (fill_reached t pars ws right.1)
  where
    by : (o : Option Parameter) → parameter_of t p.ty ≡ o → IsParGreatest t o w → Reached t pars ws → Reached t (p ∷ pars) (w ∷ ws)
    by None is h more = absurd h
    by (Some (Parameter.Field ty)) is h more = (Field p.name.text ty (pos 0) more.0, (p, pars, refl, refl, is, zero_in ty, more.1), (let m = more.2 in omega (arith, h, m)))
    by (Some (Parameter.Part b)) is h more = let x = h.reached in (Part p.name.text x.0 more.0, (p, pars, b, refl, refl, is, x.1, more.1), (let m = more.2 in let q = x.2 in omega (arith, q, m)))

-- of the arguments for parameters
pub fill_greatest : (t : Table) (pars : List Par) (ws : List Weigh) → AreParGreatest t pars ws → IsGreatest (Fill t pars) (arg_sum ws) (counted (best_sum ws))
fill_greatest t pars ws right = record { bound = λ args h. fill_bound args t pars ws right h; reached = fill_reached t pars ws right }

-- of an and-rule
module _ (t : Table) (a : Text) (rule : Rule) (f : Derivation → ℕ) (own : ℕ) (ws : List Weigh) (is : declared t a ≡ Some (Declared.And rule)) (right : AreParGreatest t rule.pars ws) (comes : (args : Arguments) → Fill t rule.pars args → counted (f (Compose rule args)) ≡ counted (own + arg_sum ws args)) where
  and_bound : (x : Derivation) → IsDerivation t a x → counted (f x) ≤ counted (own + best_sum ws)
  and_bound (Pick n x) h = absurd cc
  and_bound (Compose other args) h =
      let e : Some (Declared.And other) ≡ Some (Declared.And rule) = sym h.0 ∙ is in
      let same : other ≡ rule = cc in
      let fill = subst (λ r. Fill t r.pars args) same h.1 in
      let b = fill_bound args t rule.pars ws right fill in
      let c : counted (f (Compose other args)) ≡ counted (own + arg_sum ws args) = ap (λ r. counted (f (Compose r args))) same ∙ comes args fill in
      omega (arith, b, c)

  pub and_greatest : IsGreatest (IsDerivation t a) f (counted (own + best_sum ws))
  and_greatest = record {
    bound = and_bound;
    reached = let r = fill_reached t rule.pars ws right in (Compose rule r.0, (is, r.1), (let q = r.2 in let c = comes r.0 r.1 in omega (arith, q, c)));
  }
