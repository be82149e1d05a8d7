-- Both halves of agreement from one half with equal outcomes.
use Rattle.std.proofs.Common.{◌≡◌, ℕ, zero, suc, ◌+◌, ◌*◌, ◌≤◌, ℤ, List, [], ◌++◌, refl, ap, sym, ◌∙◌, subst, arith, append_assoc, append-nil}
use Rattle.std.proofs.Math.Nat.{mul-suc, mul-le-mul_right, le_of_mul-le-mul_left}
use Rattle.nk_outside.specs.Outcome.{Outcome}
use Rattle.nk_outside.specs.Agree.{GoesOn, Stopped, Further, Agree}
use Rattle.nk_outside.specs.declared.stop.Stop.{Stop}
use Rattle.nk_outside.specs.declared.stop.Stop.TheVariants as stops
use Rattle.ir_run.specs.Runs.{Turn, Goes, Ends, put_before, followed, run, Grows, Follows}
use Rattle.ir_run.specs.Simulation.{Meets}
use Rattle.ir_run.specs.Entry.{Listing}
use Rattle.ir_run.specs.Run.{step, beginning, outcome}

further : (a b c : Outcome) (more : List ℤ) → a.stop ≡ stops.Running → b.out ≡ a.out ++ more → GoesOn b c → GoesOn a c
further a b c more running out (Stopped same) = Further running more (ap (λ o. o.out) (sym same) ∙ out)
further a b c more running out (Further running2 more2 out2) =
    Further running (more ++ more2) (out2 ∙ ap (λ xs. xs ++ more2) out ∙ append_assoc a.out more more2)

-- what goes on from what goes on from a run goes on from it
pub goes_on_trans : (a b c : Outcome) → GoesOn a b → GoesOn b c → GoesOn a c
goes_on_trans a b c (Stopped same) v = subst (λ x. GoesOn x c) (sym same) v
goes_on_trans a b c (Further running more out) v = further a b c more running out v

pub agree_refl : (f : ℕ → Outcome) → Agree f f
agree_refl f = record { forth = λ n. (n, Stopped refl); back = λ n. (n, Stopped refl) }

pub agree_sym : (f g : ℕ → Outcome) → Agree f g → Agree g f
agree_sym f g a = record { forth = a.back; back = a.forth }

-- agreement goes through several layers
pub agree_trans : (f g h : ℕ → Outcome) → Agree f g → Agree g h → Agree f h
agree_trans f g h a b = record {
  forth = λ n. let i = a.forth n in let j = b.forth i.0 in (j.0, goes_on_trans (f n) (g i.0) (h j.0) i.1 j.1);
  back = λ m. let i = b.back m in let j = a.back i.0 in (j.0, goes_on_trans (h m) (g i.0) (f j.0) i.1 j.1);
}

-- as many steps as those of the other, once each stands for w of them
steps_of : (w c k m : ℕ) → 1 ≤ w → w * k + c ≤ w * m + c → k ≤ m
steps_of w c k m some le = let e : w * k ≤ w * m = omega arith in le_of_mul-le-mul_left e some

pub agree : (w c : ℕ) (f g : ℕ → Outcome) → 1 ≤ w → Grows g → Follows w c f g → Agree f g
agree w c f g some grows follows = record {
  forth = λ n. let a = follows n in (a.0, Stopped (sym a.2));
  back = λ k. let a = follows (w * k + c) in (w * k + c, subst (GoesOn (g k)) a.2 (grows k a.0 (steps_of w c k a.0 some a.1)));
}

-- ---- runs of steps grow

before : (out : List ℤ) (a b : Outcome) → GoesOn a b → GoesOn (put_before out a) (put_before out b)
before out a b (Stopped same) = Stopped (ap (put_before out) same)
before out a b (Further running more is) = Further running more (ap (λ xs. out ++ xs) is ∙ sym (append_assoc out a.out more))

by_turn : {S : Type 0} (step : S → Turn S) (n m : ℕ) → ((s : S) → GoesOn (run step n s) (run step m s)) → (t : Turn S) → GoesOn (followed (run step n) t) (followed (run step m) t)
by_turn step n m rest (Goes out next) = before out (run step n next) (run step m next) (rest next)
by_turn step n m rest (Ends stop) = Stopped refl

pub longer : {S : Type 0} (step : S → Turn S) (s : S) (n m : ℕ) → n ≤ m → GoesOn (run step n s) (run step m s)
longer step s zero m le = Further refl (run step m s).out refl
longer step s (suc n) zero le = absurd (omega arith)
longer step s (suc n) (suc m) le = by_turn step n m (λ next. longer step next n m (omega arith)) (step s)

pub outcomes_grow : (i : Listing) (n : ℕ) (input : List ℤ) → Grows (outcome i n input)
outcomes_grow i n input = λ m j le. longer (step i.entries n) (beginning i input) m j le

-- ---- a run of one is met by a run of the other, construct by construct

pub put_twice : (a b : List ℤ) (o : Outcome) → put_before a (put_before b o) ≡ put_before (a ++ b) o
put_twice a b o = ap (λ xs. record { out = xs; stop = o.stop }) (sym (append_assoc a b o.out))

module _ {T : Type 0} (g : T → Turn T) (w : ℕ) where
  -- no turn is left
  pub meets_rest : (c : ℕ) (out : List ℤ) (t : T) → Meets g w c out t 0 (record { out = out; stop = stops.Running })
  meets_rest c out t = record { steps = 0; enough = omega arith; same = ap (λ xs. record { out = xs; stop = stops.Running }) (append-nil out) }

  -- a turn is paid from what was paid beforehand
  pub meets_turn : (c : ℕ) (out : List ℤ) (t : T) (n : ℕ) (o : Outcome) → Meets g w c out t n o → Meets g w (suc c) out t (suc n) o
  meets_turn c out t n o h = record { steps = h.steps; enough = omega (arith, h.enough); same = h.same }

  pub meets_more : (c d : ℕ) (out : List ℤ) (t : T) (n : ℕ) (o : Outcome) → c ≤ d → Meets g w c out t n o → Meets g w d out t n o
  meets_more c d out t n o le h = record { steps = h.steps; enough = omega (arith, h.enough, le); same = h.same }

  -- a step of g
  pub meets_step : (c : ℕ) (out : List ℤ) (t next : T) (more : List ℤ) (n : ℕ) (o : Outcome) → g t ≡ Goes more next → Meets g w (c + w) (out ++ more) next n o → Meets g w c out t n o
  meets_step c out t next more n o e h = record {
    steps = suc h.steps;
    enough = omega (arith, h.enough, mul-suc w h.steps);
    same = ap (λ x. put_before out (followed (run g h.steps) x)) e ∙ put_twice out more (run g h.steps next) ∙ h.same;
  }

  -- one that pays for nothing
  pub meets_free : (c : ℕ) (out : List ℤ) (t next : T) (more : List ℤ) (n : ℕ) (o : Outcome) → g t ≡ Goes more next → Meets g w c (out ++ more) next n o → Meets g w c out t n o
  meets_free c out t next more n o e h = meets_step c out t next more n o e (meets_more c (c + w) (out ++ more) next n o (omega arith) h)

  -- g stops
  pub meets_end : (c : ℕ) (out : List ℤ) (t : T) (n : ℕ) (s : Stop) → 1 ≤ w → g t ≡ Ends s → Meets g w c out t n (record { out = out; stop = s })
  meets_end c out t n s some e = record {
    steps = suc n;
    enough = let most : 1 * suc n ≤ w * suc n = mul-le-mul_right (suc n) some in omega (arith, most);
    same = ap (λ x. put_before out (followed (run g n) x)) e ∙ ap (λ xs. record { out = xs; stop = s }) (append-nil out);
  }

-- where each run of f is met from one state of g, they agree
pub agree_met : {T : Type 0} (g : T → Turn T) (w c : ℕ) (t : T) (f : ℕ → Outcome) → 1 ≤ w → ((n : ℕ) → Meets g w c [] t n (f n)) → Agree f (λ m. run g m t)
agree_met g w c t f some all = agree w c f (λ m. run g m t) some (λ n m le. longer g t n m le) (λ n. let a = all n in (a.steps, a.enough, a.same))
