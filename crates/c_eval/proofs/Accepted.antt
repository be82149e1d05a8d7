-- An accepted program has small numbers.
use Rattle.std.proofs.Common.{◌≡◌, refl, subst, ℕ, zero, suc, ◌-◌, ◌^◌, ◌<◌, ◌≤◌, arith, pos, negsuc, neg_ℤ, Bool, true, false, not, ◌&&◌, nat_lt, List, [], ◌∷◌, ◌++◌, map, drop, slice_get, Option, Some, None, option_map}
use Rattle.std.specs.Prelude.{int_lt, int_le}
use Rattle.std.specs.List.{filter, flat_map}
use Rattle.std.proofs.Math.Pow.{pow_mono}
use Rattle.std.proofs.lemmas.Bool.{ltb-true, leb-true}
use Rattle.c_tree.specs.declared.names.Number.{Number}
use Rattle.c_tree.specs.declared.operator.Bin.{Bin}
use Rattle.c_tree.specs.declared.operator.Bin.TheVariants as bin
use Rattle.c_tree.specs.declared.statement.AssignMark.{AssignMark}
use Rattle.c_tree.specs.declared.statement.AssignMark.TheVariants as store
use Rattle.c_tree.specs.declared.program.SNum.{SNum}
use Rattle.c_tree.specs.declared.program.GVar.{GVar}
use Rattle.c_tree.specs.declared.program.GVar.TheVariants as gvar
use Rattle.c_tree.specs.declared.program.Global.{Global}
use Rattle.c_tree.specs.declared.program.Global.TheVariants as global
use Rattle.c_tree.specs.declared.program.CTree.{CTree}
use Rattle.c_tree.specs.declared.meaning.Meaning.{Meaning}
use Rattle.c_tree.specs.declared.meaning.Meaning.TheVariants.{OneCell, Cells, Callee, Main, In, Out}
use Rattle.c_tree.specs.Formula.{Formula, Further, Prefix, Numeral, Named, Indexed, Called, CalledWith, Paren, Unary, Binary}
use Rattle.c_tree.specs.Formula as formula
use Rattle.c_tree.specs.Statement.{Index, Act, Assign, Step, Invoke, Variable, Scalar, Initial, Array, Opening, Acts, Declares, Statement, Body}
use Rattle.c_tree.specs.Statement as statement
use Rattle.c_tree.specs.Items.{Definition, Item, Variables, Defines, item, items}
use Rattle.c_tree.specs.Names.{Names, seen, callee, inner, declared_variables, behind_variable, behind_variables, behind_opening, behind_statement, first_names, behind_gvar, behind_global, before_body, gvars}
use Rattle.c_tree.specs.Faults.{Fault, giving, unless, number_faults, is_amount, shift_faults, formula_faults, further_faults, optional_faults, index_faults, act_faults, variable_faults, variables_faults, Within, in_loop, opening_faults, last_faults, statement_faults, body_faults, initial_faults, initials_faults, too_many_faults, gvar_faults, gvars_faults, globals_faults}
use Rattle.c_tree.specs.Program.{Term, Terms, Command, Function, Program}
use Rattle.c_tree.specs.Program as program
use Rattle.c_tree.specs.Meaning.{main_body}
use Rattle.c_tree.specs.Resolve.{scalar, element, called, written, unary, binary, term, terms, stored, assigned, as_store, index_term, first_term, invoked, invocation, act, variable, variables, opening, last, command, commands, body_of, resolved_functions, signed, initial, named_main, first_of_all, resolved}
use Rattle.c_tree.specs.Accepted.{IsAcceptedTree}
use Rattle.c_frames.specs.Small.{IsSmallTerm, AreSmallTerms, IsSmallOption, IsSmallCommand, IsSmallProgram}
use Rattle.c_eval.specs.Starts.{IsSmallValue, AreSmallValues, HasSmallValues, HaveSmallValues, BeginSmall}

-- ---- no faults

left_none : {A : Type 0} (xs ys : List A) → xs ++ ys ≡ [] → xs ≡ []
left_none [] ys h = refl
left_none (x ∷ xs) ys h = absurd cc

right_none : {A : Type 0} (xs ys : List A) → xs ++ ys ≡ [] → ys ≡ []
right_none [] ys h = h
right_none (x ∷ xs) ys h = absurd cc

holds : (b : Bool) (f : Fault) → unless b f ≡ [] → b ≡ true
holds true f h = refl
holds false f h = absurd cc

and_left : (a b : Bool) → (a && b) ≡ true → a ≡ true
and_left true b h = refl
and_left false b h = absurd cc

and_right : (a b : Bool) → (a && b) ≡ true → b ≡ true
and_right true b h = h
and_right false b h = absurd cc

-- ---- expressions

half_low : (n : ℕ) → n ≤ 32 → 2 ^ (n - 1) < 2 ^ 63
half_low n low = let h : 2 ^ (n - 1) ≤ 2 ^ 31 = pow_mono {i = n - 1} {j = 31} (omega (arith, low)) in omega (arith, h)

number_small : (n : ℕ) (z : Number) → n ≤ 32 → number_faults n z ≡ [] → z.value < 2 ^ 63
number_small n z low h =
    let below = ltb-true z.value (2 ^ (n - 1)) (holds (nat_lt z.value (2 ^ (n - 1))) _ h) in
    let half = half_low n low in
    omega (arith, below, half)

amount_small : (n : ℕ) (y : Formula) → n ≤ 32 → is_amount n y ≡ true → written y < 63
amount_small n (Numeral z) low h = let below = ltb-true z.value n h in omega (arith, low, below)
amount_small n (Named x) low h = absurd cc
amount_small n (Indexed x p i q) low h = absurd cc
amount_small n (Called x p q) low h = absurd cc
amount_small n (CalledWith x p y ys q) low h = absurd cc
amount_small n (Paren p x q) low h = absurd cc
amount_small n (Unary op at x) low h = absurd cc
amount_small n (Binary op x at y) low h = absurd cc

scalar_small : (m : Option Meaning) → IsSmallTerm (scalar m)
scalar_small None = omega arith
scalar_small (Some (OneCell p)) = tt
scalar_small (Some (Cells p n)) = omega arith
scalar_small (Some (Callee g arity gives)) = omega arith
scalar_small (Some Main) = omega arith
scalar_small (Some In) = omega arith
scalar_small (Some Out) = omega arith

element_small : (m : Option Meaning) (i : Term) → IsSmallTerm i → IsSmallTerm (element m i)
element_small None i h = omega arith
element_small (Some (OneCell p)) i h = omega arith
element_small (Some (Cells p n)) i h = h
element_small (Some (Callee g arity gives)) i h = omega arith
element_small (Some Main) i h = omega arith
element_small (Some In) i h = omega arith
element_small (Some Out) i h = omega arith

called_small : (m : Option Meaning) (xs : Terms) → AreSmallTerms xs → IsSmallTerm (called m xs)
called_small None xs h = omega arith
called_small (Some (OneCell p)) xs h = omega arith
called_small (Some (Cells p n)) xs h = omega arith
called_small (Some (Callee g arity gives)) xs h = h
called_small (Some Main) xs h = omega arith
called_small (Some In) xs h = tt
called_small (Some Out) xs h = omega arith

unary_small : (op : Prefix) (x : Term) → IsSmallTerm x → IsSmallTerm (unary op x)
unary_small Prefix.Neg x h = h
unary_small Prefix.Inv x h = h
unary_small Prefix.Not x h = h

binary_small : (n : ℕ) (op : Bin) (x y : Term) (f : Formula) → n ≤ 32 → IsSmallTerm x → IsSmallTerm y → shift_faults n op f ≡ [] → IsSmallTerm (binary op x y (written f))
binary_small n bin.OrElse x y f low h k s = (h, k)
binary_small n bin.AndAlso x y f low h k s = (h, k)
binary_small n bin.Or x y f low h k s = (h, k)
binary_small n bin.Xor x y f low h k s = (h, k)
binary_small n bin.And x y f low h k s = (h, k)
binary_small n bin.Eq x y f low h k s = (h, k)
binary_small n bin.Ne x y f low h k s = (h, k)
binary_small n bin.Lt x y f low h k s = (h, k)
binary_small n bin.Le x y f low h k s = (h, k)
binary_small n bin.Gt x y f low h k s = (h, k)
binary_small n bin.Ge x y f low h k s = (h, k)
binary_small n bin.Shl x y f low h k s = (h, amount_small n f low (holds (is_amount n f) _ s))
binary_small n bin.Shr x y f low h k s = (h, amount_small n f low (holds (is_amount n f) _ s))
binary_small n bin.Add x y f low h k s = (h, k)
binary_small n bin.Sub x y f low h k s = (h, k)
binary_small n bin.Mul x y f low h k s = (h, k)

module _ (n : ℕ) (low : n ≤ 32) where
  mutual
    term_small : (s : Names) (x : Formula) → formula_faults n s x ≡ [] → IsSmallTerm (term s x)
    term_small s (Numeral z) h = number_small n z low h
    term_small s (Named x) h = scalar_small (seen s x.text)
    term_small s (Indexed x p i q) h = element_small (seen s x.text) (term s i) (term_small s i (right_none _ (formula_faults n s i) h))
    term_small s (Called x p q) h = called_small (callee s x.text) program.NoMore tt
    term_small s (CalledWith x p y ys q) h =
        called_small (callee s x.text) (program.More (term s y) (terms s ys)) (
          term_small s y (right_none _ (formula_faults n s y) (left_none _ (further_faults n s ys) h)),
          terms_small s ys (right_none _ (further_faults n s ys) h),
        )
    term_small s (Paren p x q) h = term_small s x h
    term_small s (Unary op at x) h = unary_small op (term s x) (term_small s x h)
    term_small s (Binary op x at y) h =
        let both = left_none (formula_faults n s x ++ formula_faults n s y) (shift_faults n op y) h in
        binary_small n op (term s x) (term s y) y low (term_small s x (left_none (formula_faults n s x) (formula_faults n s y) both))
        (term_small s y (right_none (formula_faults n s x) (formula_faults n s y) both)) (right_none (formula_faults n s x ++ formula_faults n s y) (shift_faults n op y) h)

    terms_small : (s : Names) (xs : Further) → further_faults n s xs ≡ [] → AreSmallTerms (terms s xs)
    terms_small s formula.NoMore h = tt
    terms_small s (formula.More comma x xs) h = (
      term_small s x (left_none (formula_faults n s x) (further_faults n s xs) h),
      terms_small s xs (right_none (formula_faults n s x) (further_faults n s xs) h),
    )

  option_small : (s : Names) (x : Option Formula) → optional_faults n s x ≡ [] → IsSmallOption (option_map (term s) x)
  option_small s None h = tt
  option_small s (Some x) h = term_small s x h

  -- ---- simple statements

  stored_small : (m : AssignMark) (x e : Term) → IsSmallTerm x → IsSmallTerm e → IsSmallTerm (stored m x e)
  stored_small (store.Set at) x e h k = k
  stored_small (store.Add at) x e h k = (h, k)
  stored_small (store.Sub at) x e h k = (h, k)

  assigned_small : (m : Option Meaning) (i : Option Term) (mark : AssignMark) (e : Term) → IsSmallOption i → IsSmallTerm e → IsSmallCommand (assigned m i mark e)
  assigned_small (Some (OneCell p)) None mark e h k = stored_small mark (program.Scalar p) e tt k
  assigned_small (Some (OneCell p)) (Some i) mark e h k = tt
  assigned_small (Some (Cells p l)) None mark e h k = tt
  assigned_small (Some (Cells p l)) (Some i) (store.Set at) e h k = (h, k)
  assigned_small (Some (Cells p l)) (Some i) (store.Add at) e h k = (h, k)
  assigned_small (Some (Cells p l)) (Some i) (store.Sub at) e h k = (h, k)
  assigned_small None i mark e h k = tt
  assigned_small (Some (Callee g arity gives)) i mark e h k = tt
  assigned_small (Some Main) i mark e h k = tt
  assigned_small (Some In) i mark e h k = tt
  assigned_small (Some Out) i mark e h k = tt

  index_small : (s : Names) (i : Index) → index_faults n s i ≡ [] → IsSmallOption (index_term s i)
  index_small s None h = tt
  index_small s (Some (p, i, q)) h = term_small s i h

  first_small : (xs : Terms) → AreSmallTerms xs → IsSmallTerm (first_term xs)
  first_small program.NoMore h = omega arith
  first_small (program.More x xs) h = h.0

  invoked_small : (m : Option Meaning) (xs : Terms) → AreSmallTerms xs → IsSmallCommand (invoked m xs)
  invoked_small (Some (Callee g arity gives)) xs h = h
  invoked_small (Some In) xs h = tt
  invoked_small (Some Out) xs h = first_small xs h
  invoked_small None xs h = tt
  invoked_small (Some (OneCell p)) xs h = tt
  invoked_small (Some (Cells p l)) xs h = tt
  invoked_small (Some Main) xs h = tt

  invocation_small : (s : Names) (x : Formula) → act_faults n s (Invoke x) ≡ [] → IsSmallCommand (invocation s x)
  invocation_small s (Called x p q) h = invoked_small (callee s x.text) program.NoMore tt
  invocation_small s (CalledWith x p y ys q) h =
      invoked_small (callee s x.text) (program.More (term s y) (terms s ys)) (
        term_small s y (right_none _ (formula_faults n s y) (left_none _ (further_faults n s ys) h)),
        terms_small s ys (right_none _ (further_faults n s ys) h),
      )
  invocation_small s (Numeral z) h = tt
  invocation_small s (Named x) h = tt
  invocation_small s (Indexed x p i q) h = tt
  invocation_small s (Paren p x q) h = tt
  invocation_small s (Unary op at x) h = tt
  invocation_small s (Binary op x at y) h = tt

  act_small : (s : Names) (a : Act) → act_faults n s a ≡ [] → IsSmallCommand (act s a)
  act_small s (Assign x i mark e) h =
      assigned_small (seen s x.text) (index_term s i) mark (term s e) (index_small s i (right_none _ (index_faults n s i) (left_none _ (formula_faults n s e) h)))
      (term_small s e (right_none _ (formula_faults n s e) h))
  act_small s (Step x i c) h = assigned_small (seen s x.text) (index_term s i) (as_store c) (program.Number 1) (index_small s i (right_none _ (index_faults n s i) h)) (omega arith)
  act_small s (Invoke x) h = invocation_small s x h

  -- ---- declarations and statements

  variable_small : (s : Names) (v : Variable) → variable_faults n s v ≡ [] → IsSmallCommand (variable s v)
  variable_small s (Scalar x) h = tt
  variable_small s (Initial x at e) h =
      let inside = behind_variable s (Initial x at e) in
      assigned_small (seen inside x.text) None (store.Set at) (term inside e) tt (term_small inside e (right_none _ (formula_faults n inside e) h))
  variable_small s (Array x p z q) h = tt

  variables_small : (s : Names) (vs : List Variable) → variables_faults n s vs ≡ [] → IsSmallCommand (variables s vs)
  variables_small s [] h = tt
  variables_small s (v ∷ vs) h = (
    variable_small s v (left_none (variable_faults n s v) (variables_faults n (behind_variable s v) vs) h),
    variables_small (behind_variable s v) vs (right_none (variable_faults n s v) (variables_faults n (behind_variable s v) vs) h),
  )

  opening_small : (s : Names) (o : Option Opening) → opening_faults n s o ≡ [] → IsSmallCommand (opening s o)
  opening_small s None h = tt
  opening_small s (Some (Acts a)) h = act_small s a h
  opening_small s (Some (Declares w v)) h = variable_small s v h

  last_small : (s : Names) (o : Option Act) → last_faults n s o ≡ [] → IsSmallCommand (last s o)
  last_small s None h = tt
  last_small s (Some a) h = act_small s a h

  mutual
    command_small : (w : Within) (s : Names) (x : Statement) → w.bits ≡ n → statement_faults w s x ≡ [] → IsSmallCommand (command s x)
    command_small w s (statement.Braces p b q) is h = commands_small w (inner s) b is h
    command_small w s (statement.Empty semicolon) is h = tt
    command_small w s (statement.Simply a semicolon) is h = act_small s a (subst (λ k. act_faults k s a ≡ []) is h)
    command_small w s (statement.Break at semicolon) is h = tt
    command_small w s (statement.Continue at semicolon) is h = tt
    command_small w s (statement.Return at e semicolon) is h = option_small s e (subst (λ k. optional_faults k s e ≡ []) is (right_none _ (optional_faults w.bits s e) h))
    command_small w s (statement.If at p c q x) is h = (
      term_small s c (subst (λ k. formula_faults k s c ≡ []) is (left_none (formula_faults w.bits s c) (statement_faults w s x) h)),
      command_small w s x is (right_none (formula_faults w.bits s c) (statement_faults w s x) h),
    )
    command_small w s (statement.IfElse at p c q x f y) is h =
        let other = statement_faults w (behind_statement s x) y in
        let front = left_none (formula_faults w.bits s c ++ statement_faults w s x) other h in (
          term_small s c (subst (λ k. formula_faults k s c ≡ []) is (left_none (formula_faults w.bits s c) (statement_faults w s x) front)),
          command_small w s x is (right_none (formula_faults w.bits s c) (statement_faults w s x) front),
          command_small w (behind_statement s x) y is (right_none (formula_faults w.bits s c ++ statement_faults w s x) other h),
        )
    command_small w s (statement.While at p c q x) is h = (
      term_small s c (subst (λ k. formula_faults k s c ≡ []) is (left_none (formula_faults w.bits s c) (statement_faults (in_loop w) s x) h)),
      command_small (in_loop w) s x is (right_none (formula_faults w.bits s c) (statement_faults (in_loop w) s x) h),
    )
    command_small w s (statement.Do at x v p c q semicolon) is h =
        let test = formula_faults w.bits (behind_statement s x) c in (
          command_small (in_loop w) s x is (left_none (statement_faults (in_loop w) s x) test h),
          term_small (behind_statement s x) c (subst (λ k. formula_faults k (behind_statement s x) c ≡ []) is (right_none (statement_faults (in_loop w) s x) test h)),
        )
    command_small w s (statement.For at p first a c b step q x) is h =
        let inside = behind_opening s first in
        let one = opening_faults w.bits (inner s) first in
        let two = optional_faults w.bits inside c in
        let three = last_faults w.bits inside step in
        let four = statement_faults (in_loop w) inside x in
        let front = left_none (one ++ two ++ three) four h in
        let both = left_none (one ++ two) three front in (
          opening_small (inner s) first (subst (λ k. opening_faults k (inner s) first ≡ []) is (left_none one two both)),
          (
            option_small inside c (subst (λ k. optional_faults k inside c ≡ []) is (right_none one two both)),
            last_small inside step (subst (λ k. last_faults k inside step ≡ []) is (right_none (one ++ two) three front)),
            command_small (in_loop w) inside x is (right_none (one ++ two ++ three) four h),
          ),
        )

    commands_small : (w : Within) (s : Names) (b : Body) → w.bits ≡ n → body_faults w s b ≡ [] → IsSmallCommand (commands s b)
    commands_small w s statement.Nothing is h = tt
    commands_small w s (statement.Declare d rest) is h =
        let vs = declared_variables d in
        let others = body_faults w (behind_variables s vs) rest in (
          variables_small s vs (subst (λ k. variables_faults k s vs ≡ []) is (left_none (variables_faults w.bits s vs) others h)),
          commands_small w (behind_variables s vs) rest is (right_none (variables_faults w.bits s vs) others h),
        )
    commands_small w s (statement.Then x rest) is h =
        let others = body_faults w (behind_statement s x) rest in (
          command_small w s x is (left_none (statement_faults w s x) others h),
          commands_small w (behind_statement s x) rest is (right_none (statement_faults w s x) others h),
        )

  -- ---- functions

  abbrev AreSmall : List Function → Type 0
  AreSmall [] = Unit {0}
  AreSmall (f ∷ fs) = IsSmallCommand f.body × AreSmall fs

  abbrev whole : Definition → Within
  whole f = record { bits = n; giving = giving f; looped = false }

  functions_small : (s : Names) (gs : List Item) → globals_faults n s gs ≡ [] → AreSmall (resolved_functions s gs)
  functions_small s [] h = tt
  functions_small s (Variables v ∷ gs) h = functions_small (behind_global s (Variables v)) gs (right_none _ (globals_faults n (behind_global s (Variables v)) gs) h)
  functions_small s (Defines f ∷ gs) h = (
    commands_small (whole f) (before_body s f) (body_of f.braces) refl (right_none _ (body_faults (whole f) (before_body s f) (body_of f.braces)) (left_none _ (globals_faults n (behind_global s (Defines f)) gs) h)),
    functions_small (behind_global s (Defines f)) gs (right_none _ (globals_faults n (behind_global s (Defines f)) gs) h),
  )

  filter_by : (keep : Function → Bool) (f : Function) (fs : List Function) → IsSmallCommand f.body → AreSmall (filter keep fs) → (b : Bool) → keep f ≡ b → AreSmall (filter keep (f ∷ fs))
  filter_by keep f fs h k true is = rw is (h, k)
  filter_by keep f fs h k false is = rw is k

  filter_small : (keep : Function → Bool) (fs : List Function) → AreSmall fs → AreSmall (filter keep fs)
  filter_small keep [] h = tt
  filter_small keep (f ∷ fs) h = filter_by keep f fs h.0 (filter_small keep fs h.1) (keep f) refl

  first_function_small : (fs : List Function) → AreSmall fs → IsSmallCommand (main_body (first_of_all fs))
  first_function_small [] h = tt
  first_function_small (f ∷ fs) h = h.0

  got_small : (fs : List Function) (g : ℕ) (f : Function) → AreSmall fs → slice_get fs g ≡ Some f → IsSmallCommand f.body
  got_small [] zero f h is = absurd cc
  got_small [] (suc g) f h is = absurd cc
  got_small (x ∷ fs) zero f h is = let same : x ≡ f = cc in subst (λ y. IsSmallCommand y.body) same h.0
  got_small (x ∷ fs) (suc g) f h is = got_small fs g f h.1 is

  pub program_small : (c : CTree) → IsAcceptedTree c n → IsSmallProgram (resolved c)
  program_small c h =
      let fs = resolved_functions (first_names (items c)) (items c) in
      let all : AreSmall fs = functions_small (first_names (items c)) (items c) h.faultless in
      record {
        main = first_function_small (filter named_main fs) (filter_small named_main fs all);
        functions = λ g f is. got_small (filter (λ x. not (named_main x)) fs) g f (filter_small (λ x. not (named_main x)) fs all) is;
      }

  -- ---- initial values

  value_low : (minus : Option ℕ) (v m : ℕ) → (int_le (neg_ℤ (pos m)) (signed minus v) && int_lt (signed minus v) (pos m)) ≡ true → v ≤ m
  value_low None v m h = let below = ltb-true v m (and_right (int_le (neg_ℤ (pos m)) (pos v)) (int_lt (pos v) (pos m)) h) in omega (arith, below)
  value_low (Some at) zero m h = omega arith
  value_low (Some at) (suc v) zero h = absurd cc
  value_low (Some at) (suc v) (suc m) h = let below = leb-true v m (and_left (int_le (negsuc m) (negsuc v)) (int_lt (negsuc v) (pos (suc m))) h) in omega (arith, below)

  value_small : (z : SNum) → initial_faults n z ≡ [] → IsSmallValue z
  value_small z h =
      let m = 2 ^ (n - 1) in
      let v = value_low z.minus z.number.value m (holds (int_le (neg_ℤ (pos m)) (initial z) && int_lt (initial z) (pos m)) _ h) in
      let half = half_low n low in
      omega (arith, v, half)

  values_small : (zs : List SNum) → flat_map (initial_faults n) zs ≡ [] → AreSmallValues zs
  values_small [] h = tt
  values_small (z ∷ zs) h = (value_small z (left_none (initial_faults n z) (flat_map (initial_faults n) zs) h), values_small zs (right_none (initial_faults n z) (flat_map (initial_faults n) zs) h))

  gvar_small : (s : Names) (v : GVar) → gvar_faults n s v ≡ [] → HasSmallValues v
  gvar_small s (gvar.Scalar x None) h = tt
  gvar_small s (gvar.Scalar x (Some (at, z))) h = value_small z (right_none _ (initial_faults n z) h)
  gvar_small s (gvar.Array x p z q None) h = tt
  gvar_small s (gvar.Array x p z q (Some (at, l, y, ys, r))) h =
      let zs = y ∷ map (λ (comma, v). v) ys in
      values_small zs (left_none (flat_map (initial_faults n) zs) (too_many_faults (drop z.value zs)) (right_none _ (initials_faults n z.value zs) h))

  gvars_small : (s : Names) (vs : List GVar) → gvars_faults n s vs ≡ [] → HaveSmallValues vs
  gvars_small s [] h = tt
  gvars_small s (v ∷ vs) h = (
    gvar_small s v (left_none (gvar_faults n s v) (gvars_faults n (behind_gvar s v) vs) h),
    gvars_small (behind_gvar s v) vs (right_none (gvar_faults n s v) (gvars_faults n (behind_gvar s v) vs) h),
  )

  pub starts_small : (s : Names) (gs : List Global) → globals_faults n s (map item gs) ≡ [] → BeginSmall gs
  starts_small s [] h = tt
  starts_small s (global.Vars v ∷ gs) h =
      let others = globals_faults n (behind_global s (Variables v)) (map item gs) in (
        gvars_small s (gvars v) (left_none (gvars_faults n s (gvars v)) others h),
        starts_small (behind_global s (Variables v)) gs (right_none (gvars_faults n s (gvars v)) others h),
      )
  starts_small s (global.Function f ∷ gs) h =
      starts_small (behind_global s (item (global.Function f))) gs (right_none _ (globals_faults n (behind_global s (item (global.Function f))) (map item gs)) h)
