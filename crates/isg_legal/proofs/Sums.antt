-- How much statements count together, one after the other.
use Rattle.std.proofs.Common.{ℕ, ◌+◌, suc, zero, ◌≤◌, ◌<◌, List, [], ◌∷◌, length, drop, get_or, ◌≡◌, ℤ, Option, Some, None, Bool, true, false, refl, sym, ◌∙◌, ap, subst, arith}
use Rattle.std.specs.Prelude.{nat_le, if◌then◌else◌}
use Rattle.std.proofs.lemmas.Bool.{leb-true, le-leb}
use Rattle.std.proofs.lemmas.List.{drop_all}
use Rattle.attr_eval.specs.Lawful.{Shape, act_shape, term_shape}
use Rattle.attr_legal.proofs.Tallies.{low}
use Rattle.attr_legal.proofs.Weights.{together_assoc, followed_tally, reads_tally}
use Rattle.attr_legal.specs.Key.{meets}
use Rattle.attr_legal.specs.Tally.{excess, hit, reads, tally, together}
use Rattle.attr_legal.specs.declared.key.Key.{Key}
use Rattle.attr_legal.specs.declared.key.Key.TheVariants as key
use Rattle.isg_legal.specs.Counts.{as_key, counts, weighed}
use Rattle.isg_legal.specs.Known.{AreFit, key_in}
use Rattle.isg_legal.specs.declared.key.Key as mine
use Rattle.isg_legal.specs.declared.key.Key.TheVariants as own
use Rattle.isg_legal.proofs.Splits.{splits, fit_splits}
use Rattle.isg_nodes.specs.Written.{action, statement}
use Rattle.isg_nodes.specs.declared.node.Node.{Node}
use Rattle.nml_tree.specs.Act.{Term, Act, Number, Field, Cell, Trn, Inp, Out, Unary, Binary, Choose, Done}
use Rattle.nml_tree.specs.Legal.{Event, Reads}

-- an event counts at most 1
hit_low : (a b : Key) → hit a b ≤ 1
hit_low a b = one (meets a b)
  where
    one : (b : Bool) → (if b then 1 else 0) ≤ 1
    one true = omega arith
    one false = omega arith

excess_low : (n : ℕ) → excess n ≤ 1
excess_low n = one (nat_le n 1)
  where
    one : (b : Bool) → (if b then 0 else 1) ≤ 1
    one true = omega arith
    one false = omega arith

pub weighed_low : (b : Bool) (zs : List ℤ) (whole : Act) (sought : Option mine.Key) (k : Key) → weighed b zs whole sought k ≤ 1
weighed_low b zs whole None k = excess_low (tally (λ e. hit k (key_in b zs e)) (act_shape whole))
weighed_low b zs whole (Some first) k = hit_low (as_key first) k

counts_low : (b : Bool) (zs : List ℤ) (whole : Act) (sought : Option mine.Key) (s : Shape) → tally (counts b zs whole sought) s ≤ 2
counts_low b zs whole sought s = low (counts b zs whole sought) s (λ e. let h = weighed_low b zs whole sought (key_in b zs e) in omega (arith, h))

-- what counts nothing isn't read
weightless : (x : Term) → reads 0 0 x ≡ 0
weightless (Number z) = refl
weightless (Field n) = refl
weightless (Cell n i) = let h = weightless i in omega (arith, h)
weightless (Trn n) = refl
weightless Inp = refl
weightless Out = refl
weightless (Unary op x) = weightless x
weightless (Binary op x y) = rw (weightless x, weightless y) refl
weightless (Choose c x y) = rw (weightless c, weightless x, weightless y) refl

module _ (w : Event → ℕ) (x : Term) where
  pub taken_none : w Reads ≡ 0 → 0 ≡ tally w (term_shape x)
  taken_none h = sym (weightless x) ∙ ap (λ k. reads 0 k x) (sym h) ∙ reads_tally w x

  pub taken_some : (count : ℕ) → w Reads ≡ 1 → count ≡ reads 0 1 x → count ≡ tally w (term_shape x)
  taken_some count h is = is ∙ ap (λ k. reads 0 k x) (sym h) ∙ reads_tally w x

  -- with no read of the input it doesn't matter how much one counts
  pub taken_nothing : (count : ℕ) → w Reads ≤ 1 → count ≡ reads 0 1 x → count ≡ 0 → 0 ≡ tally w (term_shape x)
  taken_nothing count small is none = either (w Reads) refl small
    where
      either : (k : ℕ) → w Reads ≡ k → k ≤ 1 → 0 ≡ tally w (term_shape x)
      either zero h l = taken_none h
      either (suc zero) h l = sym none ∙ taken_some count h is
      either (suc (suc k)) h l = absurd (omega (arith, l))

pub excess_none : (n : ℕ) → n ≤ 1 → excess n ≡ 0
excess_none n h = ap (λ (b : Bool). if b then 0 else 1) (le-leb n 1 h)

pub excess_some : (n : ℕ) → 1 < n → excess n ≡ 1
excess_some n h = case (nat_le n 1) refl
  where
    case : (b : Bool) → nat_le n 1 ≡ b → excess n ≡ 1
    case true e = let l = leb-true n 1 e in absurd (omega (arith, h, l))
    case false e = ap (λ (b : Bool). if b then 0 else 1) e

-- how much statements count
abbrev pub V : (b : Bool) (zs : List ℤ) (whole : Act) → Option mine.Key → Act → ℕ
V b zs whole sought a = tally (counts b zs whole sought) (act_shape a)

-- the reads of the input in an expression, where none is sought: by how often it is read in the whole
module _ (b : Bool) (zs : List ℤ) (whole : Act) (x : Term) (sought : Option mine.Key) where
  abbrev W : Event → ℕ
  W = counts b zs whole sought

  pub no_reads : (count : ℕ) → count ≡ reads 0 1 x → count ≡ 0 → 0 ≡ tally W (term_shape x)
  no_reads count is none = taken_nothing W x count (weighed_low b zs whole sought key.Read) is none

  pub read_once : (times : ℕ) → sought ≡ None → times ≡ V b zs whole (Some own.Read) whole → times ≤ 1 → 0 ≡ tally W (term_shape x)
  read_once times none told few = taken_none W x (ap (λ o. weighed b zs whole o key.Read) none ∙ ap excess (sym told) ∙ excess_none times few)

  pub read_twice : (times count : ℕ) → sought ≡ None → times ≡ V b zs whole (Some own.Read) whole → 1 < times → count ≡ reads 0 1 x → count ≡ tally W (term_shape x)
  read_twice times count none told many is = taken_some W x count (ap (λ o. weighed b zs whole o key.Read) none ∙ ap excess (sym told) ∙ excess_some times many) is

  -- and where one is
  pub read_sought : (first : mine.Key) (count : ℕ) → sought ≡ Some first → meets (as_key first) key.Read ≡ true → count ≡ reads 0 1 x → count ≡ tally W (term_shape x)
  read_sought first count some met is = taken_some W x count (ap (λ o. weighed b zs whole o key.Read) some ∙ ap (λ (m : Bool). if m then 1 else 0) met) is

  pub other_sought : (first : mine.Key) → sought ≡ Some first → meets (as_key first) key.Read ≡ false → 0 ≡ tally W (term_shape x)
  other_sought first some met = taken_none W x (ap (λ o. weighed b zs whole o key.Read) some ∙ ap (λ (m : Bool). if m then 1 else 0) met)

-- some statements count so much, and these are left
pub record Sums (nodes : List Node) (b : Bool) (zs : List ℤ) (whole : Act) (sought : Option mine.Key) (rest all : List ℕ) (sum : ℕ) : Type 0 where
  pub small : sum ≤ 2
  pub goes : AreFit b zs whole → AreFit b zs (action nodes all) → AreFit b zs (action nodes rest) × (together sum (V b zs whole sought (action nodes rest)) ≡ V b zs whole sought (action nodes all))

module _ (nodes : List Node) (b : Bool) (zs : List ℤ) (whole : Act) (sought : Option mine.Key) where
  abbrev Now : Act → ℕ
  Now = V b zs whole sought

  abbrev Left : List ℕ → List ℕ → ℕ → Type 0
  Left = Sums nodes b zs whole sought

  -- how much one statement counts
  abbrev pub Counts : ℕ → ℕ → Type 0
  Counts x r = AreFit b zs whole → AreFit b zs (statement nodes x Done) → r ≡ Now (statement nodes x Done)

  pub sums_begin : (all : List ℕ) → Left all all 0
  sums_begin all = record { small = omega arith; goes = λ fit each. (each, (let l = counts_low b zs whole sought (act_shape (action nodes all)) in omega (arith, l))) }

  sums_one : (x : ℕ) (rest all : List ℕ) (sum more after : ℕ) → Left (x ∷ rest) all sum → Counts x more → after ≡ together sum more → Left rest all after
  sums_one x rest all sum more after s one is = record {
    small = omega (arith, is);
    goes = λ fit each.
        let g = s.goes fit each in
        let e = splits nodes x (action nodes rest) in
        let p = fit_splits b zs (statement nodes x Done) (action nodes rest) (subst (AreFit b zs) e g.0) in
        let k = ap Now e ∙ followed_tally (counts b zs whole sought) (counts_low b zs whole sought) (statement nodes x Done) (action nodes rest) in (
          p.1,
          ap (λ n. together n (Now (action nodes rest))) (is ∙ ap (together sum) (one fit p.0)) ∙ together_assoc sum (Now (statement nodes x Done)) (Now (action nodes rest)) ∙ ap (together sum) (sym k) ∙ g.1,
        );
  }

  front_suc : (xs : List ℕ) (i : ℕ) → i < length xs → drop i xs ≡ get_or xs i 0 ∷ drop (suc i) xs
  front_suc [] i h = absurd (omega arith)
  front_suc (x ∷ xs) zero h = refl
  front_suc (x ∷ xs) (suc i) h = front_suc xs i (omega arith)

  front : (xs : List ℕ) (i : ℕ) → i < length xs → drop i xs ≡ get_or xs i 0 ∷ drop (i + 1) xs
  front xs i h = let e : i + 1 ≡ suc i = omega arith in subst (λ k. drop i xs ≡ get_or xs i 0 ∷ drop k xs) (sym e) (front_suc xs i h)

  pub sums_next : (i : ℕ) (all : List ℕ) (sum more after : ℕ) → i < length all → Left (drop i all) all sum → Counts (get_or all i 0) more → after ≡ together sum more → Left (drop (i + 1) all) all after
  sums_next i all sum more after h s one is = sums_one (get_or all i 0) (drop (i + 1) all) all sum more after (subst (λ xs. Left xs all sum) (front all i h) s) one is

  pub sums_end : (i : ℕ) (all : List ℕ) (sum : ℕ) → length all ≤ i → Left (drop i all) all sum → AreFit b zs whole → AreFit b zs (action nodes all) → sum ≡ Now (action nodes all)
  sums_end i all sum h s fit each =
      let s' : Left [] all sum = subst (λ xs. Left xs all sum) (drop_all i all h) s in
      let e : sum ≡ together sum 0 = omega (arith, s'.small) in
      e ∙ (s'.goes fit each).1
