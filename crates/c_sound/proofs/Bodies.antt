-- The variables of a body have the lengths that are allowed, and a body whose last thing is a `return` never ends.
use Rattle.std.proofs.Common.{◌≡◌, refl, ◌∙◌, sym, ℕ, true, List, [], ◌∷◌, ◌++◌, Option, Some, None, inl, inr}
use Rattle.std.specs.Prelude.{nat_le, ◌&&◌, map}
use Rattle.std.specs.List.{AllByRecursion}
use Rattle.std.proofs.lemmas.Bool.{leb-true}
use Rattle.c_tree.specs.declared.names.Number.{Number}
use Rattle.c_tree.specs.Statement.{Variable, Scalar, Initial, Array, Declaration, Opening, Acts, Declares, Statement, Braces, Empty, Simply, Break, Continue, Return, If, IfElse, While, Do, For, Body, Nothing, Declare, Then}
use Rattle.c_tree.specs.Names.{Names, inner, shape, declared_variables, behind_variable, behind_variables, opening_shapes, behind_opening, behind_statement, statement_shapes, body_shapes}
use Rattle.c_tree.specs.Faults.{BadKind, formula_faults, optional_faults, declared_faults, length_faults, variable_faults, variables_faults, Within, in_loop, opening_faults, last_faults, statement_faults, body_faults}
use Rattle.c_tree.specs.Resolve.{ends_with_return, commands}
use Rattle.c_lowered.specs.Sound.{IsShape, NeverEnds}
use Rattle.c_sound.proofs.Lists.{no_left, no_right, kept, and_left, and_right, each_of_both}

-- an array's length
pub length_fits : (z : Number) → length_faults z ≡ [] → IsShape (Some z.value)
length_fits z h =
    let both = kept (nat_le 1 z.value && nat_le z.value 65536) (BadKind z.at) h in
    (leb-true 1 z.value (and_left (nat_le 1 z.value) (nat_le z.value 65536) both), leb-true z.value 65536 (and_right (nat_le 1 z.value) (nat_le z.value 65536) both))

variable_fits : (n : ℕ) (s : Names) (v : Variable) → variable_faults n s v ≡ [] → IsShape (shape v)
variable_fits n s (Scalar x) h = tt
variable_fits n s (Initial x at e) h = tt
variable_fits n s (Array x p z q) h = length_fits z (no_right (declared_faults s x) (length_faults z) h)

variables_fit : (n : ℕ) (s : Names) (vs : List Variable) → variables_faults n s vs ≡ [] → AllByRecursion IsShape (map shape vs)
variables_fit n s [] h = tt
variables_fit n s (v ∷ vs) h = (
  variable_fits n s v (no_left (variable_faults n s v) (variables_faults n (behind_variable s v) vs) h),
  variables_fit n (behind_variable s v) vs (no_right (variable_faults n s v) (variables_faults n (behind_variable s v) vs) h),
)

opening_fits : (n : ℕ) (s : Names) (first : Option Opening) → opening_faults n s first ≡ [] → AllByRecursion IsShape (opening_shapes first)
opening_fits n s None h = tt
opening_fits n s (Some (Acts a)) h = tt
opening_fits n s (Some (Declares word v)) h = (variable_fits n s v h, tt)

mutual
  -- the variables of a statement
  pub statement_fits : (w : Within) (s : Names) (x : Statement) → statement_faults w s x ≡ [] → AllByRecursion IsShape (statement_shapes x)
  statement_fits w s (Braces p b q) h = body_fits w (inner s) b h
  statement_fits w s (Empty semicolon) h = tt
  statement_fits w s (Simply a semicolon) h = tt
  statement_fits w s (Break at semicolon) h = tt
  statement_fits w s (Continue at semicolon) h = tt
  statement_fits w s (Return at e semicolon) h = tt
  statement_fits w s (If at p c q x) h = statement_fits w s x (no_right (formula_faults w.bits s c) (statement_faults w s x) h)
  statement_fits w s (IfElse at p c q x f y) h =
      let first = formula_faults w.bits s c in
      let second = statement_faults w s x in
      let third = statement_faults w (behind_statement s x) y in
      each_of_both IsShape (statement_shapes x) (statement_shapes y) (statement_fits w s x (no_right first second (no_left (first ++ second) third h)))
      (statement_fits w (behind_statement s x) y (no_right (first ++ second) third h))
  statement_fits w s (While at p c q x) h = statement_fits (in_loop w) s x (no_right (formula_faults w.bits s c) (statement_faults (in_loop w) s x) h)
  statement_fits w s (Do at x v p c q semicolon) h =
      statement_fits (in_loop w) s x (no_left (statement_faults (in_loop w) s x) (formula_faults w.bits (behind_statement s x) c) h)
  statement_fits w s (For at p first a c b step q x) h =
      let t = behind_opening s first in
      let f1 = opening_faults w.bits (inner s) first in
      let f2 = optional_faults w.bits t c in
      let f3 = last_faults w.bits t step in
      let f4 = statement_faults (in_loop w) t x in
      each_of_both IsShape (opening_shapes first) (statement_shapes x) (opening_fits w.bits (inner s) first (no_left f1 f2 (no_left (f1 ++ f2) f3 (no_left (f1 ++ f2 ++ f3) f4 h))))
      (statement_fits (in_loop w) t x (no_right (f1 ++ f2 ++ f3) f4 h))

  -- the variables of a body
  pub body_fits : (w : Within) (s : Names) (b : Body) → body_faults w s b ≡ [] → AllByRecursion IsShape (body_shapes b)
  body_fits w s Nothing h = tt
  body_fits w s (Declare d rest) h =
      let vs = declared_variables d in
      let front = variables_faults w.bits s vs in
      let back = body_faults w (behind_variables s vs) rest in
      each_of_both IsShape (map shape vs) (body_shapes rest) (variables_fit w.bits s vs (no_left front back h)) (body_fits w (behind_variables s vs) rest (no_right front back h))
  body_fits w s (Then x rest) h =
      let front = statement_faults w s x in
      let back = body_faults w (behind_statement s x) rest in
      each_of_both IsShape (statement_shapes x) (body_shapes rest) (statement_fits w s x (no_left front back h)) (body_fits w (behind_statement s x) rest (no_right front back h))

before_declaration : (x : Statement) (d : Declaration) (rest : Body) → ends_with_return (Then x (Declare d rest)) ≡ ends_with_return rest
before_declaration (Braces p b q) d rest = refl
before_declaration (Empty k) d rest = refl
before_declaration (Simply a k) d rest = refl
before_declaration (Break at k) d rest = refl
before_declaration (Continue at k) d rest = refl
before_declaration (Return at e k) d rest = refl
before_declaration (If at p c q x) d rest = refl
before_declaration (IfElse at p c q x f y) d rest = refl
before_declaration (While at p c q x) d rest = refl
before_declaration (Do at x v p c q k) d rest = refl
before_declaration (For at p first a c b step q x) d rest = refl

before_statement : (x z : Statement) (rest : Body) → ends_with_return (Then x (Then z rest)) ≡ ends_with_return (Then z rest)
before_statement (Braces p b q) z rest = refl
before_statement (Empty k) z rest = refl
before_statement (Simply a k) z rest = refl
before_statement (Break at k) z rest = refl
before_statement (Continue at k) z rest = refl
before_statement (Return at e k) z rest = refl
before_statement (If at p c q x) z rest = refl
before_statement (IfElse at p c q x f y) z rest = refl
before_statement (While at p c q x) z rest = refl
before_statement (Do at x v p c q k) z rest = refl
before_statement (For at p first a c b step q x) z rest = refl

-- a body whose last thing is a `return` never ends
pub body_never_ends : (s : Names) (b : Body) → ends_with_return b ≡ true → NeverEnds (commands s b)
body_never_ends s Nothing h = absurd cc
body_never_ends s (Declare d rest) h = inr (body_never_ends (behind_variables s (declared_variables d)) rest h)
body_never_ends s (Then x (Declare d rest)) h = inr (body_never_ends (behind_statement s x) (Declare d rest) (sym (before_declaration x d rest) ∙ h))
body_never_ends s (Then x (Then z rest)) h = inr (body_never_ends (behind_statement s x) (Then z rest) (sym (before_statement x z rest) ∙ h))
body_never_ends s (Then (Braces p b q) Nothing) h = absurd cc
body_never_ends s (Then (Empty k) Nothing) h = absurd cc
body_never_ends s (Then (Simply a k) Nothing) h = absurd cc
body_never_ends s (Then (Break at k) Nothing) h = absurd cc
body_never_ends s (Then (Continue at k) Nothing) h = absurd cc
body_never_ends s (Then (Return at e k) Nothing) h = inl tt
body_never_ends s (Then (If at p c q x) Nothing) h = absurd cc
body_never_ends s (Then (IfElse at p c q x f y) Nothing) h = absurd cc
body_never_ends s (Then (While at p c q x) Nothing) h = absurd cc
body_never_ends s (Then (Do at x v p c q k) Nothing) h = absurd cc
body_never_ends s (Then (For at p first a c b step q x) Nothing) h = absurd cc
