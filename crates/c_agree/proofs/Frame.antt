-- The cells that an expression leaves as they are, and what its tree is worth.
use Rattle.std.proofs.Common.{◌≡◌, ℕ, zero, suc, ◌<◌, ◌≤◌, ◌^◌, ℤ, pos, negsuc, List, [], ◌∷◌, Bool, true, false, length, refl, ap, ◌∙◌, subst, sym, ◌||◌, ◌*ℤ◌, div-one, arith}
use Rattle.std.specs.Int.{int_shr}
use Rattle.std.proofs.lemmas.Bool.{or_left, or_right}
use Rattle.std.proofs.lemmas.Int.{ints}
use Rattle.ir_core.specs.Operator.{wrap, prefixed, shifted, arithmetic}
use Rattle.ir_core.specs.declared.operator.Prefix.{Prefix}
use Rattle.ir_core.specs.declared.operator.Shift.{Shift}
use Rattle.ir_core.specs.declared.operator.Shift.TheVariants as shift
use Rattle.ir_core.specs.declared.operator.Arith.{Arith}
use Rattle.ir_core.specs.Inputs.{IsNumber}
use Rattle.ir_run.specs.Node.{Node, Const, Cell, Unary, Shifted, Binary}
use Rattle.ir_run.specs.Runs.{Turn}
use Rattle.ir_run.specs.Run.{at_place, on, put}
use Rattle.ir_run.specs.Value.{held, number}
use Rattle.ir_run.specs.Strict.{is_numeral, only, value}
use Rattle.c_tree.specs.Code.{shifted_tree}
use Rattle.c_agree.proofs.World.{Machine, Ground, IsGround, IsHome, Here, IsHere, Same, IsWorth, Held}
use Rattle.c_agree.proofs.Stands.{put_other, number_of, only_numeral}

times_one : (x : ℤ) → x *ℤ pos (2 ^ 0) ≡ x
times_one (pos a) = omega (arith, ints)
times_one (negsuc a) = omega (arith, ints)

over_one : (x : ℤ) → int_shr x 0 ≡ x
over_one (pos a) = ap pos (div-one a)
over_one (negsuc a) = ap negsuc (div-one a)

module _ (g : Ground) (h : Here) where
  -- nothing was done
  pub same_refl : (b : Bool) (s : ℕ) (m : Machine) → Same g h b s m m
  same_refl b s m = record { by = λ k safe out. refl }

  -- what is left as it is without a call is so with one
  pub same_more : (b c : Bool) (s : ℕ) (m m' : Machine) → (b ≡ true → c ≡ true) → Same g h b s m m' → Same g h c s m m'
  same_more b c s m m' imp i = record { by = λ k safe out. i.by k (λ e. safe (imp e)) out }

  -- where nothing was called
  pub same_any : (c : Bool) (s : ℕ) (m m' : Machine) → Same g h false s m m' → Same g h c s m m'
  same_any c s m m' i = same_more false c s m m' (λ e. let e' : false ≡ true = e in cc) i

  -- one after the other
  pub same_trans : (b : Bool) (s t : ℕ) (m1 m2 m3 : Machine) → s ≤ t → Same g h b s m1 m2 → Same g h b t m2 m3 → Same g h b s m1 m3
  same_trans b s t m1 m2 m3 le i j = record { by = λ k safe out. j.by k safe (λ le' lt. out (omega arith) lt) ∙ i.by k safe out }

  -- two parts, each with calls or not
  pub same_both : (b c : Bool) (s t : ℕ) (m1 m2 m3 : Machine) → s ≤ t → Same g h b s m1 m2 → Same g h c t m2 m3 → Same g h (b || c) s m1 m3
  same_both b c s t m1 m2 m3 le i j = same_trans (b || c) s t m1 m2 m3 le (same_more b (b || c) s m1 m2 (or_left b c) i) (same_more c (b || c) t m2 m3 (or_right b c) j)

  -- the first part alone
  pub same_first : (b c : Bool) (s : ℕ) (m m' : Machine) → Same g h b s m m' → Same g h (b || c) s m m'
  same_first b c s m m' i = same_more b (b || c) s m m' (or_left b c) i

  -- a step cell is written
  pub same_set : (b : Bool) (s k : ℕ) (z : ℤ) (m1 m2 : Machine) → s ≤ k → k < h.hi → Same g h b s m1 m2 → Same g h b s m1 (on (put k z m2))
  same_set b s k z m1 m2 le lt i = record { by = λ j safe out. put_other m2 k j z (λ e. out (omega arith) (omega arith)) ∙ i.by j safe out }

  -- a statement further
  pub same_on : (b : Bool) (s : ℕ) (m1 m2 : Machine) → Same g h b s m1 m2 → Same g h b s m1 (on m2)
  same_on b s m1 m2 i = record { by = i.by }

  -- elsewhere in the list
  pub same_jump : (b : Bool) (s p : ℕ) (m1 m2 : Machine) → Same g h b s m1 m2 → Same g h b s m1 (at_place p m2)
  same_jump b s p m1 m2 i = record { by = i.by }

  -- the same below an equal cell
  pub worth_at : (b : Bool) (t : Node) (s s' : ℕ) (x : ℤ) (m : Machine) → s ≡ s' → IsWorth g h b t s x m → IsWorth g h b t s' x m
  worth_at b t s s' x m e i = subst (λ n. IsWorth g h b t n x m) e i

  -- the same tree later on
  pub worth_later : (first later called : Bool) (t : Node) (s s' : ℕ) (x : ℤ) (m m' : Machine) → (called ≡ true → first ≡ true) → (later ≡ true → first ≡ true) → s ≤ s' → Same g h called s m m' → IsWorth g h first t s x m → IsWorth g h later t s' x m'
  worth_later first later called t s s' x m m' imp_called imp_later le same wt = record {
    by = λ n i go.
        wt.by n (same_trans first s s' m m' n le (same_more called first s m m' imp_called same) (same_more later first s' m' n imp_later i)) go;
  }

  -- what it is worth now
  pub worth_now : (b : Bool) (t : Node) (s : ℕ) (x : ℤ) (m : Machine) → IsWorth g h b t s x m → (go : ℤ → Machine → Turn Machine) → value g.arrays g.bits t go m ≡ go x m
  worth_now b t s x m i = i.by m (same_refl b s m)

  -- a number
  pub worth_number : (b : Bool) (s : ℕ) (z x : ℤ) (m : Machine) → wrap g.bits z ≡ x → IsWorth g h b (Const z) s x m
  worth_number b s z x m e = record { by = λ n i go. ap (λ v. go v n) e }

  module _ (is : IsGround g) where
    -- an operator of one number
    pub worth_unary : (b : Bool) (op : Prefix) (t : Node) (s : ℕ) (x : ℤ) (m : Machine) → IsNumber g.bits x → IsWorth g h b t s x m → IsWorth g h b (Unary op t) s (prefixed g.bits op x) m
    worth_unary b op t s x m x_number wt = record {
      by = λ n i go.
          wt.by n i (λ z s. only (is_numeral z) (go (prefixed g.bits op (number g.bits z)) s))
          ∙ only_numeral g is x (go (prefixed g.bits op (number g.bits x)) n) x_number
          ∙ ap (λ v. go (prefixed g.bits op v) n) (number_of g.bits x is.width x_number);
    }

    shift_worth : (b : Bool) (op : Shift) (t : Node) (k s : ℕ) (x : ℤ) (m : Machine) → IsNumber g.bits x → IsWorth g h b t s x m → IsWorth g h b (Shifted op t k) s (shifted g.bits op x k) m
    shift_worth b op t k s x m x_number wt = record {
      by = λ n i go.
          wt.by n i (λ z s. only (is_numeral z) (go (shifted g.bits op (number g.bits z) k) s))
          ∙ only_numeral g is x (go (shifted g.bits op (number g.bits x) k) n) x_number
          ∙ ap (λ v. go (shifted g.bits op v k) n) (number_of g.bits x is.width x_number);
    }

    no_shift : (op : Shift) (x : ℤ) → IsNumber g.bits x → shifted g.bits op x 0 ≡ x
    no_shift shift.Shl x x_number = ap (wrap g.bits) (times_one x) ∙ x_number
    no_shift shift.Shr x x_number = over_one x

    -- a shift, which is left out where it's by 0
    pub worth_shifted : (b : Bool) (op : Shift) (t : Node) (k s : ℕ) (x : ℤ) (m : Machine) → IsNumber g.bits x → IsWorth g h b t s x m → IsWorth g h b (shifted_tree op t k) s (shifted g.bits op x k) m
    worth_shifted b op t zero s x m x_number wt = subst (λ v. IsWorth g h b t s v m) (sym (no_shift op x x_number)) wt
    worth_shifted b op t (suc k) s x m x_number wt = shift_worth b op t (suc k) s x m x_number wt

    -- an operator of two numbers
    pub worth_binary : (b : Bool) (op : Arith) (t u : Node) (s : ℕ) (x y : ℤ) (m : Machine) → IsNumber g.bits x → IsNumber g.bits y → IsWorth g h b t s x m → IsWorth g h b u s y m → IsWorth g h b (Binary op t u) s (arithmetic g.bits op x y) m
    worth_binary b op t u s x y m x_number y_number wt wu = record {
      by = λ n i go.
          wt.by n i (λ x s. only (is_numeral x) (value g.arrays g.bits u (λ y s. only (is_numeral y) (go (arithmetic g.bits op (number g.bits x) (number g.bits y)) s)) s))
          ∙ only_numeral g is x (value g.arrays g.bits u (λ y s. only (is_numeral y) (go (arithmetic g.bits op (number g.bits x) (number g.bits y)) s)) n) x_number
          ∙ wu.by n i (λ y s. only (is_numeral y) (go (arithmetic g.bits op (number g.bits x) (number g.bits y)) s))
          ∙ only_numeral g is y (go (arithmetic g.bits op (number g.bits x) (number g.bits y)) n) y_number
          ∙ ap (λ v. go (arithmetic g.bits op v (number g.bits y)) n) (number_of g.bits x is.width x_number)
          ∙ ap (λ v. go (arithmetic g.bits op x v) n) (number_of g.bits y is.width y_number);
    }

  module _ (at : IsHere g h) where
    -- a step cell is no variable's
    pub plain : (k : ℕ) → h.lo ≤ k → k < h.hi → IsHome g k → ⊥
    plain k le lt = (at.steps k le lt).plain

    -- it's there
    pub there : (k : ℕ) (m : Machine) → h.lo ≤ k → k < h.hi → length m.cells ≡ g.cells → k < length m.cells
    there k m le lt e = let i = (at.steps k le lt).inside in omega (arith, e, i)

    -- it's left as it is behind the step cells before s
    pub same_cell : (b : Bool) (k s : ℕ) (z : ℤ) (m m' : Machine) → h.lo ≤ k → k < s → s ≤ h.hi → Same g h b s m m' → held m k ≡ z → held m' k ≡ z
    same_cell b k s z m m' le lt top i e = i.by k (λ _. let o = (at.steps k le (omega arith)).owned in omega (arith, o)) (λ le' lt'. omega arith) ∙ e

    -- a step cell is worth what it holds
    pub worth_cell : (b : Bool) (k s : ℕ) (x : ℤ) (m : Machine) → h.lo ≤ k → k < s → s ≤ h.hi → held m k ≡ x → IsWorth g h b (Cell k) s x m
    worth_cell b k s x m le lt top e = record { by = λ n i go. ap (λ v. go v n) (same_cell b k s x m n le lt top i e) }

    -- the return cell is left as it is
    pub same_ret : (b : Bool) (s : ℕ) (m m' : Machine) → h.returns ≡ true → h.lo ≤ s → Same g h b s m m' → held m' h.ret ≡ held m h.ret
    same_ret b s m m' e low i = i.by h.ret (λ _. let o = (at.ret_own e).owned in omega (arith, o)) (λ le lt. at.ret_apart e (omega arith) lt)

  -- cells that hold numbers hold them while they are left as they are
  pub held_same : (s s' : ℕ) (ks : List ℕ) (xs : List ℤ) (m m' : Machine) → s ≤ s' → ((k : ℕ) → h.lo ≤ k → k < s → held m' k ≡ held m k) → Held g h s ks xs m → Held g h s' ks xs m'
  held_same s s' [] [] m m' le same i = tt
  held_same s s' (k ∷ ks) (x ∷ xs) m m' le same i = (same k i.2 i.3 ∙ i.0, i.1, i.2, omega (arith, i.3), held_same s s' ks xs m m' le same i.4)
  held_same s s' [] (x ∷ xs) m m' le same i = i
  held_same s s' (k ∷ ks) [] m m' le same i = i
