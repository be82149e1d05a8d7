-- Statements without faults are sound.
use Rattle.std.proofs.Common.{◌≡◌, refl, subst, ℕ, ◌+◌, ◌<◌, arith, Bool, true, false, List, [], ◌∷◌, ◌++◌, Option, Some, None, append_assoc}
use Rattle.std.specs.Prelude.{is_some, map, option_map}
use Rattle.ir_run.specs.Shifts.{IsCellWidth}
use Rattle.c_tree.specs.declared.statement.AssignMark.{AssignMark}
use Rattle.c_tree.specs.declared.statement.AssignMark.TheVariants as store
use Rattle.c_tree.specs.declared.meaning.Meaning.{Meaning}
use Rattle.c_tree.specs.declared.meaning.Meaning.TheVariants.{OneCell, Cells, Callee, Main, In, Out}
use Rattle.c_tree.specs.Formula.{Formula, Numeral, Named, Indexed, Called, CalledWith, Paren, Unary, Binary}
use Rattle.c_tree.specs.Statement.{Index, Act, Assign, Step, Invoke, Variable, Scalar, Initial, Array, Opening, Acts, Declares, Statement, Braces, Empty, Simply, Break, Continue, Return, If, IfElse, While, Do, For, Body, Nothing, Declare, Then}
use Rattle.c_tree.specs.Names.{Names, seen, callee, inner, shape, declared_variables, behind_variable, behind_variables, opening_shapes, behind_opening, behind_statement, statement_shapes, body_shapes}
use Rattle.c_tree.specs.Faults.{BadKind, use_faults, call_faults, further_count, formula_faults, further_faults, optional_faults, index_faults, act_faults, declared_faults, variable_faults, variables_faults, Giving, GivesValue, GivesNone, GivesEither, return_faults, Within, opening_faults, last_faults, statement_faults, body_faults}
use Rattle.c_tree.specs.Recursion.{callee_of, formula_callees, further_callees, optional_callees, index_callees, act_callees, variable_callees, variables_callees, opening_callees, last_callees, statement_callees, body_callees}
use Rattle.c_tree.specs.Resolve.{term, terms, stored, assigned, as_store, index_term, first_term, invoked, act, variable, variables, opening, last, command, commands}
use Rattle.c_tree.specs.Program.{Term, Terms, Shape}
use Rattle.c_tree.specs.Program as program
use Rattle.c_lowered.specs.Sound.{World, count, SoundTerm, SoundTerms, SoundOption, FitsReturn, SoundCommand}
use Rattle.c_sound.proofs.Lists.{no_left, no_right, kept, each_left, each_right}
use Rattle.c_sound.proofs.Meanings.{found_is, seen_known, callee_known, Seen, seen_inner, seen_variable, seen_over}
use Rattle.c_sound.proofs.Terms.{AreLower, IsKnownIn, KnowsIn, answers, one_small, count_all, term_sound, terms_sound}

-- which `return` stands in a function of a world
abbrev pub Returns : World → Giving → Type 0
Returns w GivesValue = w.is_main ≡ false → w.gives ≡ true
Returns w GivesNone = w.is_main ≡ false → w.gives ≡ false
Returns w GivesEither = w.is_main ≡ true

-- where a statement stands
abbrev pub within : World → Giving → Bool → Within
within w g looped = record { bits = w.bits; giving = g; looped = looped }

plain_return : (w : World) (g : Giving) (at : ℕ) → Returns w g → return_faults g false at ≡ [] → w.is_main ≡ false → w.gives ≡ false
plain_return w GivesValue at r fits is = absurd cc
plain_return w GivesNone at r fits is = r is
plain_return w GivesEither at r fits is = absurd cc

valued_return : (w : World) (g : Giving) (at : ℕ) → Returns w g → return_faults g true at ≡ [] → w.is_main ≡ false → w.gives ≡ true
valued_return w GivesValue at r fits is = r is
valued_return w GivesNone at r fits is = absurd cc
valued_return w GivesEither at r fits is = absurd cc

-- several variables are declared
pub seen_variables : (w : World) (s : Names) (vs : List Variable) (rest : List Shape) → Seen w s (map shape vs ++ rest) → Seen w (behind_variables s vs) rest
seen_variables w s [] rest h = h
seen_variables w s (v ∷ vs) rest h = seen_variables w (behind_variable s v) vs rest (seen_variable w s v (map shape vs ++ rest) h)

-- behind the first part of a `for`
seen_opening : (w : World) (s : Names) (first : Option Opening) (vs rest : List Shape) → Seen w s ((opening_shapes first ++ vs) ++ rest) → Seen w (behind_opening s first) (vs ++ rest)
seen_opening w s None vs rest h = seen_inner w s (vs ++ rest) h
seen_opening w s (Some (Acts a)) vs rest h = seen_inner w s (vs ++ rest) h
seen_opening w s (Some (Declares word v)) vs rest h = seen_variable w (inner s) v (vs ++ rest) (seen_inner w s (shape v ∷ (vs ++ rest)) h)

-- two parts, one behind the other
two_parts : (w : World) (s : Names) (xs ys rest : List Shape) → Seen w s ((xs ++ ys) ++ rest) → Seen w s (xs ++ (ys ++ rest))
two_parts w s xs ys rest h = subst (Seen w s) (append_assoc xs ys rest) h

module _ (w : World) (wide : IsCellWidth w.bits) where
  abbrev Low : ℕ → Type 0
  Low g = w.rank g < w.own

  stored_sound : (m : AssignMark) (x e : Term) → SoundTerm w x → SoundTerm w e → SoundTerm w (stored m x e)
  stored_sound (store.Set at) x e h k = k
  stored_sound (store.Add at) x e h k = (h, k)
  stored_sound (store.Sub at) x e h k = (h, k)

  assigned_sound : (o : Option Meaning) (i : Option Term) (m : AssignMark) (e : Term) (looped : Bool) → IsKnownIn w o → SoundOption w i → SoundTerm w e → SoundCommand w true looped (assigned o i m e)
  assigned_sound None i m e looped h j k = tt
  assigned_sound (Some (OneCell p)) None m e looped h j k = (refl, found_is w p (Some None) h, stored_sound m (program.Scalar p) e (found_is w p (Some None) h) k)
  assigned_sound (Some (OneCell p)) (Some i) m e looped h j k = tt
  assigned_sound (Some (Cells p n)) None m e looped h j k = tt
  assigned_sound (Some (Cells p n)) (Some i) (store.Set at) e looped h j k = (refl, found_is w p (Some (Some n)) h, j, k)
  assigned_sound (Some (Cells p n)) (Some i) (store.Add at) e looped h j k = (refl, found_is w p (Some (Some n)) h, j, k)
  assigned_sound (Some (Cells p n)) (Some i) (store.Sub at) e looped h j k = (refl, found_is w p (Some (Some n)) h, j, k)
  assigned_sound (Some (Callee g arity gives)) i m e looped h j k = tt
  assigned_sound (Some Main) i m e looped h j k = tt
  assigned_sound (Some In) i m e looped h j k = tt
  assigned_sound (Some Out) i m e looped h j k = tt

  first_sound : (xs : Terms) → SoundTerms w xs → SoundTerm w (first_term xs)
  first_sound program.NoMore h = let one = one_small w.bits wide in omega (arith, one)
  first_sound (program.More x xs) h = h.0

  invoked_sound : (o : Option Meaning) (xs : Terms) (k at : ℕ) (looped : Bool) → IsKnownIn w o → k ≡ count xs → call_faults o k false at ≡ [] → AreLower w (callee_of o) → SoundTerms w xs → SoundCommand w true looped (invoked o xs)
  invoked_sound None xs k at looped h same fits low args = tt
  invoked_sound (Some (OneCell p)) xs k at looped h same fits low args = tt
  invoked_sound (Some (Cells p n)) xs k at looped h same fits low args = tt
  invoked_sound (Some (Callee g arity gives)) xs k at looped h same fits low args = (refl, answers w g arity k (count xs) at gives false h same fits low.0, args)
  invoked_sound (Some Main) xs k at looped h same fits low args = tt
  invoked_sound (Some In) xs k at looped h same fits low args = refl
  invoked_sound (Some Out) xs k at looped h same fits low args = (refl, first_sound xs args)

  index_sound : (s : Names) (i : Index) → KnowsIn w s → index_faults w.bits s i ≡ [] → AreLower w (index_callees s i) → SoundOption w (index_term s i)
  index_sound s None h fits low = tt
  index_sound s (Some (p, i, q)) h fits low = term_sound w wide s i h fits low

  optional_sound : (s : Names) (e : Option Formula) → KnowsIn w s → optional_faults w.bits s e ≡ [] → AreLower w (optional_callees s e) → SoundOption w (option_map (term s) e)
  optional_sound s None h fits low = tt
  optional_sound s (Some x) h fits low = term_sound w wide s x h fits low

  -- a simple statement
  act_sound : (s : Names) (a : Act) (looped : Bool) → KnowsIn w s → act_faults w.bits s a ≡ [] → AreLower w (act_callees s a) → SoundCommand w true looped (act s a)
  act_sound s (Assign x i m e) looped h fits low =
      let used = use_faults (seen s x.text) (is_some i) x.at in
      let front = no_left (used ++ index_faults w.bits s i) (formula_faults w.bits s e) fits in
      assigned_sound (seen s x.text) (index_term s i) m (term s e) looped (seen_known w.globals w.locals w.functions s x.text h)
      (index_sound s i h (no_right used (index_faults w.bits s i) front) (each_left Low (index_callees s i) (formula_callees s e) low))
      (term_sound w wide s e h (no_right (used ++ index_faults w.bits s i) (formula_faults w.bits s e) fits) (each_right Low (index_callees s i) (formula_callees s e) low))
  act_sound s (Step x i c) looped h fits low =
      assigned_sound (seen s x.text) (index_term s i) (as_store c) (program.Number 1) looped (seen_known w.globals w.locals w.functions s x.text h)
      (index_sound s i h (no_right (use_faults (seen s x.text) (is_some i) x.at) (index_faults w.bits s i) fits) low) (one_small w.bits wide)
  act_sound s (Invoke (Called x p q)) looped h fits low =
      invoked_sound (callee s x.text) program.NoMore 0 x.at looped (callee_known w.globals w.locals w.functions s x.text h) refl fits low tt
  act_sound s (Invoke (CalledWith x p y ys q)) looped h fits low =
      let calls = call_faults (callee s x.text) (further_count ys + 1) false x.at in
      let front = no_left (calls ++ formula_faults w.bits s y) (further_faults w.bits s ys) fits in
      let back = no_right (calls ++ formula_faults w.bits s y) (further_faults w.bits s ys) fits in
      let names = callee_of (callee s x.text) in
      let low_front = each_left Low (names ++ formula_callees s y) (further_callees s ys) low in
      let low_back = each_right Low (names ++ formula_callees s y) (further_callees s ys) low in
      invoked_sound (callee s x.text) (program.More (term s y) (terms s ys)) (further_count ys + 1) x.at looped (callee_known w.globals w.locals w.functions s x.text h)
      (count_all s y ys) (no_left calls (formula_faults w.bits s y) front) (each_left Low names (formula_callees s y) low_front)
      (term_sound w wide s y h (no_right calls (formula_faults w.bits s y) front) (each_right Low names (formula_callees s y) low_front), terms_sound w wide s ys h back low_back)
  act_sound s (Invoke (Numeral z)) looped h fits low = tt
  act_sound s (Invoke (Named x)) looped h fits low = tt
  act_sound s (Invoke (Indexed x p i q)) looped h fits low = tt
  act_sound s (Invoke (Paren p x q)) looped h fits low = tt
  act_sound s (Invoke (Unary op at x)) looped h fits low = tt
  act_sound s (Invoke (Binary op x at y)) looped h fits low = tt

  -- a variable that is declared
  variable_sound : (s : Names) (v : Variable) (looped : Bool) → KnowsIn w (behind_variable s v) → variable_faults w.bits s v ≡ [] → AreLower w (variable_callees s v) → SoundCommand w true looped (variable s v)
  variable_sound s (Scalar x) looped h fits low = tt
  variable_sound s (Initial x at e) looped h fits low =
      let inside = behind_variable s (Initial x at e) in
      assigned_sound (seen inside x.text) None (store.Set at) (term inside e) looped (seen_known w.globals w.locals w.functions inside x.text h) tt
      (term_sound w wide inside e h (no_right (declared_faults s x) (formula_faults w.bits inside e) fits) low)
  variable_sound s (Array x p z q) looped h fits low = tt

  variables_sound : (s : Names) (vs : List Variable) (rest : List Shape) (looped : Bool) → Seen w s (map shape vs ++ rest) → variables_faults w.bits s vs ≡ [] → AreLower w (variables_callees s vs) → SoundCommand w true looped (variables s vs)
  variables_sound s [] rest looped h fits low = tt
  variables_sound s (v ∷ vs) rest looped h fits low =
      let after = seen_variable w s v (map shape vs ++ rest) h in
      let front = variable_faults w.bits s v in
      let back = variables_faults w.bits (behind_variable s v) vs in (
        variable_sound s v looped after.known (no_left front back fits) (each_left Low (variable_callees s v) (variables_callees (behind_variable s v) vs) low),
        variables_sound (behind_variable s v) vs rest looped after (no_right front back fits) (each_right Low (variable_callees s v) (variables_callees (behind_variable s v) vs) low),
      )

  opening_sound : (s : Names) (first : Option Opening) (looped : Bool) → KnowsIn w (inner s) → KnowsIn w (behind_opening s first) → opening_faults w.bits (inner s) first ≡ [] → AreLower w (opening_callees (inner s) first)
      → SoundCommand w true looped (opening (inner s) first)
  opening_sound s None looped h k fits low = tt
  opening_sound s (Some (Acts a)) looped h k fits low = act_sound (inner s) a looped h fits low
  opening_sound s (Some (Declares word v)) looped h k fits low = variable_sound (inner s) v looped k fits low

  last_sound : (s : Names) (a : Option Act) (looped : Bool) → KnowsIn w s → last_faults w.bits s a ≡ [] → AreLower w (last_callees s a) → SoundCommand w true looped (last s a)
  last_sound s None looped h fits low = tt
  last_sound s (Some a) looped h fits low = act_sound s a looped h fits low

  return_sound : (s : Names) (g : Giving) (e : Option Formula) (at : ℕ) → Returns w g → KnowsIn w s → return_faults g (is_some e) at ≡ [] → optional_faults w.bits s e ≡ [] → AreLower w (optional_callees s e) → FitsReturn w (option_map (term s) e)
  return_sound s g None at r h fits right low = plain_return w g at r fits
  return_sound s g (Some x) at r h fits right low = (valued_return w g at r fits, term_sound w wide s x h right low)

  module _ (g : Giving) (returns : Returns w g) where
    mutual
      -- a statement without faults is sound
      pub statement_sound : (looped paid : Bool) (s : Names) (x : Statement) (rest : List Shape) → Seen w s (statement_shapes x ++ rest) → statement_faults (within w g looped) s x ≡ [] → AreLower w (statement_callees s x)
          → SoundCommand w paid looped (command s x)
      statement_sound looped paid s (Braces p b q) rest h fits low = body_sound looped paid (inner s) b rest (seen_inner w s (body_shapes b ++ rest) h) fits low
      statement_sound looped paid s (Empty semicolon) rest h fits low = tt
      statement_sound looped paid s (Simply a semicolon) rest h fits low = act_sound s a looped h.known fits low
      statement_sound looped paid s (Break at semicolon) rest h fits low = kept looped (BadKind at) fits
      statement_sound looped paid s (Continue at semicolon) rest h fits low = kept looped (BadKind at) fits
      statement_sound looped paid s (Return at e semicolon) rest h fits low =
          let front = return_faults g (is_some e) at in
          let back = optional_faults w.bits s e in
          (refl, return_sound s g e at returns h.known (no_left front back fits) (no_right front back fits) low)
      statement_sound looped paid s (If at p c q x) rest h fits low =
          let front = formula_faults w.bits s c in
          let back = statement_faults (within w g looped) s x in (
            refl,
            term_sound w wide s c h.known (no_left front back fits) (each_left Low (formula_callees s c) (statement_callees s x) low),
            statement_sound looped true s x rest h (no_right front back fits) (each_right Low (formula_callees s c) (statement_callees s x) low),
          )
      statement_sound looped paid s (IfElse at p c q x f y) rest h fits low =
          let first = formula_faults w.bits s c in
          let second = statement_faults (within w g looped) s x in
          let third = statement_faults (within w g looped) (behind_statement s x) y in
          let front = no_left (first ++ second) third fits in
          let lows = each_left Low (formula_callees s c ++ statement_callees s x) (statement_callees (behind_statement s x) y) low in
          let both = two_parts w s (statement_shapes x) (statement_shapes y) rest h in (
            refl,
            term_sound w wide s c h.known (no_left first second front) (each_left Low (formula_callees s c) (statement_callees s x) lows),
            statement_sound looped true s x (statement_shapes y ++ rest) both (no_right first second front) (each_right Low (formula_callees s c) (statement_callees s x) lows),
            statement_sound looped true (behind_statement s x) y rest (seen_over w s (statement_shapes x) (statement_shapes y ++ rest) both) (no_right (first ++ second) third fits)
                (each_right Low (formula_callees s c ++ statement_callees s x) (statement_callees (behind_statement s x) y) low),
          )
      statement_sound looped paid s (While at p c q x) rest h fits low =
          let front = formula_faults w.bits s c in
          let back = statement_faults (within w g true) s x in (
            refl,
            term_sound w wide s c h.known (no_left front back fits) (each_left Low (formula_callees s c) (statement_callees s x) low),
            statement_sound true true s x rest h (no_right front back fits) (each_right Low (formula_callees s c) (statement_callees s x) low),
          )
      statement_sound looped paid s (Do at x v p c q semicolon) rest h fits low =
          let front = statement_faults (within w g true) s x in
          let back = formula_faults w.bits (behind_statement s x) c in
          let calls = formula_callees (behind_statement s x) c in (
            refl,
            term_sound w wide (behind_statement s x) c h.known (no_right front back fits) (each_right Low (statement_callees s x) calls low),
            statement_sound true true s x rest h (no_left front back fits) (each_left Low (statement_callees s x) calls low),
          )
      statement_sound looped paid s (For at p first a c b step q x) rest h fits low =
          let t = behind_opening s first in
          let f1 = opening_faults w.bits (inner s) first in
          let f2 = optional_faults w.bits t c in
          let f3 = last_faults w.bits t step in
          let f4 = statement_faults (within w g true) t x in
          let fits3 = no_left (f1 ++ f2 ++ f3) f4 fits in
          let fits2 = no_left (f1 ++ f2) f3 fits3 in
          let c1 = opening_callees (inner s) first in
          let c2 = optional_callees t c in
          let c3 = last_callees t step in
          let c4 = statement_callees t x in
          let low3 = each_left Low (c1 ++ c2 ++ c3) c4 low in
          let low2 = each_left Low (c1 ++ c2) c3 low3 in
          let after = seen_opening w s first (statement_shapes x) rest h in
          let began = seen_inner w s ((opening_shapes first ++ statement_shapes x) ++ rest) h in (
            opening_sound s first looped began.known after.known (no_left f1 f2 fits2) (each_left Low c1 c2 low2),
            (
              refl,
              optional_sound t c after.known (no_right f1 f2 fits2) (each_right Low c1 c2 low2),
              last_sound t step false after.known (no_right (f1 ++ f2) f3 fits3) (each_right Low (c1 ++ c2) c3 low3),
              statement_sound true true t x rest after (no_right (f1 ++ f2 ++ f3) f4 fits) (each_right Low (c1 ++ c2 ++ c3) c4 low),
            ),
          )

      -- and so is what stands in a block
      pub body_sound : (looped paid : Bool) (s : Names) (b : Body) (rest : List Shape) → Seen w s (body_shapes b ++ rest) → body_faults (within w g looped) s b ≡ [] → AreLower w (body_callees s b)
          → SoundCommand w paid looped (commands s b)
      body_sound looped paid s Nothing rest h fits low = tt
      body_sound looped paid s (Declare d more) rest h fits low =
          let vs = declared_variables d in
          let t = behind_variables s vs in
          let front = variables_faults w.bits s vs in
          let back = body_faults (within w g looped) t more in
          let both = two_parts w s (map shape vs) (body_shapes more) rest h in (
            variables_sound s vs (body_shapes more ++ rest) looped both (no_left front back fits) (each_left Low (variables_callees s vs) (body_callees t more) low),
            body_sound looped paid t more rest (seen_variables w s vs (body_shapes more ++ rest) both) (no_right front back fits) (each_right Low (variables_callees s vs) (body_callees t more) low),
          )
      body_sound looped paid s (Then x more) rest h fits low =
          let t = behind_statement s x in
          let front = statement_faults (within w g looped) s x in
          let back = body_faults (within w g looped) t more in
          let both = two_parts w s (statement_shapes x) (body_shapes more) rest h in (
            statement_sound looped paid s x (body_shapes more ++ rest) both (no_left front back fits) (each_left Low (statement_callees s x) (body_callees t more) low),
            body_sound looped paid t more rest (seen_over w s (statement_shapes x) (body_shapes more ++ rest) both) (no_right front back fits) (each_right Low (statement_callees s x) (body_callees t more) low),
          )
