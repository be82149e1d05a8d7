-- The constants in the statements of a term are those that the table brings in and the numbers of the term's text. Shown by weights: where the
-- table's own constants and the lengths of arrays weigh nothing, the heaviest constant of the statements weighs as much as the heaviest number.
use Rattle.std.proofs.Common.{◌≡◌, refl, sym, ap, ap₂, ◌∙◌, ℕ, zero, suc, ◌+◌, ◌-◌, ◌^◌, max, nat_lt, ltb-true, ℤ, pos, Bool, true, false, List, [], ◌∷◌, ◌++◌, map, flat_map, arith, if◌then◌else◌}
use Rattle.std.proofs.lemmas.Grind.{flat_map-append}
use Rattle.ir_core.specs.Operator.{wrap}
use Rattle.ir_core.specs.declared.relation.Rel.TheVariants as rel
use Rattle.ir_run.specs.Node.{Node, Const, Cell}
use Rattle.ir_run.specs.Node as node
use Rattle.ir_run.specs.Entry.{Entry, Branch}
use Rattle.ir_run.specs.Size.{trees_of, constants, constants_of_all}
use Rattle.c_lowered.specs.Sound.{World, IsArray, SoundTerm, SoundTerms}
use Rattle.c_tree.specs.declared.meaning.Place.{Place}
use Rattle.c_tree.specs.Program.{Term, Terms, Number, Scalar, Element, Input, Call, Unary, Shifted, Arithmetic, Compare, Not, AndAlso, OrElse, NoMore, More}
use Rattle.c_tree.specs.Code.{Aim, Value, When, Unless, side, is_value, Layout, Piece, used, scalar_read, is_saved, cell_of, is_below_length, passed, piece, passing}
use Rattle.c_counted.specs.Counted.{numbers, arguments_numbers, step_numbers}
use Rattle.c_counted.proofs.Wrapping.{wrap_small}

-- ---- weights

-- the weight of the heaviest thing
abbrev pub greatest : {X : Type 0} → (X → ℕ) → List X → ℕ
greatest w [] = 0
greatest w (x ∷ xs) = max (w x) (greatest w xs)

pub greatest_append : {X : Type 0} (w : X → ℕ) (xs ys : List X) → greatest w (xs ++ ys) ≡ max (greatest w xs) (greatest w ys)
greatest_append w [] ys = omega arith
greatest_append w (x ∷ xs) ys = let rest = greatest_append w xs ys in omega (arith, rest)

pub greatest_map : {X Y : Type 0} (w : Y → ℕ) (f : X → Y) (xs : List X) → greatest w (map f xs) ≡ greatest (λ x. w (f x)) xs
greatest_map w f [] = refl
greatest_map w f (x ∷ xs) = ap (λ m. max (w (f x)) m) (greatest_map w f xs)

-- the weight of a number of the text
abbrev pub worth : (ℤ → ℕ) → ℕ → ℕ → ℕ
worth w n z = w (wrap n (pos z))

-- the weight of the heaviest constant in a tree, in trees, in a statement and in statements
abbrev pub heft : (ℤ → ℕ) → Node → ℕ
heft w (Const z) = w z
heft w (node.Load t) = heft w t
heft w (node.Unary op t) = heft w t
heft w (node.Shifted op t k) = heft w t
heft w (node.Binary op t u) = max (heft w t) (heft w u)
heft w _ = 0

abbrev pub hefts : (ℤ → ℕ) → List Node → ℕ
hefts w [] = 0
hefts w (t ∷ ts) = max (heft w t) (hefts w ts)

abbrev pub weight : (ℤ → ℕ) → Entry → ℕ
weight w e = hefts w (trees_of e)

abbrev pub weigh : (ℤ → ℕ) → List Entry → ℕ
weigh w [] = 0
weigh w (e ∷ es) = max (weight w e) (weigh w es)

heft_is : (w : ℤ → ℕ) (t : Node) → greatest w (constants t) ≡ heft w t
heft_is w (Const z) = omega arith
heft_is w (node.Base c) = refl
heft_is w (node.Label l) = refl
heft_is w (node.Cell k) = refl
heft_is w node.In = refl
heft_is w (node.Load t) = heft_is w t
heft_is w (node.Unary op t) = heft_is w t
heft_is w (node.Shifted op t k) = heft_is w t
heft_is w (node.Binary op t u) = greatest_append w (constants t) (constants u) ∙ ap₂ max (heft_is w t) (heft_is w u)

hefts_are : (w : ℤ → ℕ) (ts : List Node) → greatest w (flat_map constants ts) ≡ hefts w ts
hefts_are w [] = refl
hefts_are w (t ∷ ts) = greatest_append w (constants t) (flat_map constants ts) ∙ ap₂ max (heft_is w t) (hefts_are w ts)

pub weigh_is : (w : ℤ → ℕ) (es : List Entry) → greatest w (constants_of_all es) ≡ weigh w es
weigh_is w [] = refl
weigh_is w (e ∷ es) =
    ap (greatest w) (flat_map-append constants (trees_of e) (flat_map trees_of es)) ∙ greatest_append w (flat_map constants (trees_of e)) (constants_of_all es)
    ∙ ap₂ max (hefts_are w (trees_of e)) (weigh_is w es)

pub weigh_append : (w : ℤ → ℕ) (es fs : List Entry) → weigh w (es ++ fs) ≡ max (weigh w es) (weigh w fs)
weigh_append w [] fs = omega arith
weigh_append w (e ∷ es) fs = let rest = weigh_append w es fs in omega (arith, rest)

-- ---- numbers of terms

-- the numbers in the tree that is left of a value
abbrev pub tree_numbers : Term → List ℕ
tree_numbers (Number z) = z ∷ []
tree_numbers (Unary op x) = tree_numbers x
tree_numbers (Shifted op x k) = tree_numbers x
tree_numbers (Arithmetic op x y) = tree_numbers x ++ tree_numbers y
tree_numbers _ = []

-- a number stands in a step or in the tree that is left
pub both : (u : ℕ → ℕ) (e : Term) → max (greatest u (step_numbers e)) (greatest u (tree_numbers e)) ≡ greatest u (numbers e)
both u (Number z) = omega arith
both u (Scalar p) = omega arith
both u (Element p n i) = omega arith
both u Input = omega arith
both u (Call f xs) = omega arith
both u (Unary op x) = both u x
both u (Shifted op x k) = both u x
both u (Arithmetic op x y) = simp greatest_append (omega (arith, both u x, both u y))
both u (Compare r x y) = omega arith
both u (Not x) = omega arith
both u (AndAlso x y) = omega arith
both u (OrElse x y) = omega arith

-- a number by how a value is used
abbrev pub by_use : (valued : Bool) → (steps whole : ℕ) → ℕ
by_use true steps whole = steps
by_use false steps whole = whole

-- ---- statements of terms

module _ (w : ℤ → ℕ) (t : Layout) (zero_light : w (pos 0) ≡ 0) (one_light : w (pos 1) ≡ 0) where
  pub used_weight : (e : Term) (aim : Aim) (p : Piece) → weigh w p.steps ≡ greatest (worth w t.bits) (step_numbers e) → heft w p.tree ≡ greatest (worth w t.bits) (tree_numbers e) → weigh w (used aim p).steps ≡ by_use (is_value (side aim)) (greatest (worth w t.bits) (step_numbers e)) (greatest (worth w t.bits) (numbers e))
  used_weight e Value p steps tree = steps
  used_weight e (When label) p steps tree = simp weigh_append (omega (arith, zero_light, steps, tree, both (worth w t.bits) e))
  used_weight e (Unless label) p steps tree = simp weigh_append (omega (arith, zero_light, steps, tree, both (worth w t.bits) e))

  read_weight : (saved : Bool) (k x : ℕ) → weigh w (scalar_read saved k x).steps ≡ 0
  read_weight true k x = refl
  read_weight false k x = refl

  read_tree : (saved : Bool) (k x : ℕ) → heft w (scalar_read saved k x).tree ≡ 0
  read_tree true k x = refl
  read_tree false k x = refl

  -- a length that an index is compared with is as it is wrapped
  pub test_weight : (n : ℕ) → w (wrap t.bits (pos n)) ≡ 0 → (s : ℕ) → weight w (is_below_length t n s) ≡ 0
  test_weight n light s = by (nat_lt n (2 ^ (t.bits - 1))) refl
    where
      by : (b : Bool) → nat_lt n (2 ^ (t.bits - 1)) ≡ b → weight w (if b then Branch rel.Ge (Cell s) (Const (pos n)) t.trap else Branch rel.Lt (Cell s) (Const (pos 0)) t.trap) ≡ 0
      by true is = let same = ap w (wrap_small t.bits n (ltb-true n (2 ^ (t.bits - 1)) is)) in omega (arith, light, same)
      by false is = omega (arith, zero_light)

  pub passed_weight : (ss : List ℕ) (k : ℕ) → weigh w (passed k ss) ≡ 0
  passed_weight [] k = refl
  passed_weight (s ∷ ss) k = let rest = passed_weight ss (k + 1) in omega (arith, rest)

  pub tree_weight : (e : Term) (k l : ℕ) (later : Bool) → heft w (piece t k l later Value e).tree ≡ greatest (worth w t.bits) (tree_numbers e)
  tree_weight (Number z) k l later = omega arith
  tree_weight (Scalar p) k l later = read_tree (is_saved later p) k (cell_of t p)
  tree_weight (Element p n i) k l later = refl
  tree_weight Input k l later = refl
  tree_weight (Call f xs) k l later = refl
  tree_weight (Unary op x) k l later = tree_weight x k l later
  tree_weight (Shifted op x zero) k l later = tree_weight x k l later
  tree_weight (Shifted op x (suc j)) k l later = tree_weight x k l later
  tree_weight (Arithmetic op x y) k l later =
      ap₂ max (tree_weight x _ _ _) (tree_weight y _ _ _) ∙ sym (greatest_append (worth w t.bits) (tree_numbers x) (tree_numbers y))
  tree_weight (Compare r x y) k l later = refl
  tree_weight (Not x) k l later = refl
  tree_weight (AndAlso x y) k l later = refl
  tree_weight (OrElse x y) k l later = refl

  module _ (at : World) (arrays : (p : Place) (n : ℕ) → IsArray at p n → w (wrap t.bits (pos n)) ≡ 0) where
    mutual
      pub term_weight : (e : Term) (s : SoundTerm at e) (k l : ℕ) (later : Bool) (aim : Aim) → weigh w (piece t k l later aim e).steps ≡ by_use (is_value (side aim)) (greatest (worth w t.bits) (step_numbers e)) (greatest (worth w t.bits) (numbers e))
      term_weight (Number z) s k l later aim = used_weight (Number z) aim _ refl (omega arith)
      term_weight (Scalar p) s k l later aim =
          used_weight (Scalar p) aim _ (read_weight (is_saved later p) k (cell_of t p)) (read_tree (is_saved later p) k (cell_of t p))
      term_weight (Element p n i) s k l later aim =
          used_weight (Element p n i) aim _
          (simp (weigh_append, term_weight i s.1, tree_weight i, test_weight n (arrays p n s.0)) (omega (arith, zero_light, both (worth w t.bits) i)))
          refl
      term_weight Input s k l later aim = used_weight Input aim _ refl refl
      term_weight (Call f xs) s k l later aim =
          used_weight (Call f xs) aim _ (simp (weigh_append, arguments_weight xs s.1, passed_weight) (omega arith)) refl
      term_weight (Unary op x) s k l later aim = used_weight (Unary op x) aim _ (term_weight x s k l later Value) (tree_weight (Unary op x) k l later)
      term_weight (Shifted op x j) s k l later aim =
          used_weight (Shifted op x j) aim _ (term_weight x s.1 k l later Value) (tree_weight (Shifted op x j) k l later)
      term_weight (Arithmetic op x y) s k l later aim =
          used_weight (Arithmetic op x y) aim _ (simp (weigh_append, term_weight x s.0, term_weight y s.1) (sym (greatest_append (worth w t.bits) (step_numbers x) (step_numbers y))))
          (tree_weight (Arithmetic op x y) k l later)
      term_weight (Compare r x y) s k l later Value =
          simp (weigh_append, term_weight x s.0, term_weight y s.1, tree_weight x, tree_weight y)
          (omega (arith, zero_light, one_light, both (worth w t.bits) x, both (worth w t.bits) y, greatest_append (worth w t.bits) (numbers x) (numbers y)))
      term_weight (Compare r x y) s k l later (When label) =
          simp (weigh_append, term_weight x s.0, term_weight y s.1, tree_weight x, tree_weight y)
          (omega (arith, zero_light, one_light, both (worth w t.bits) x, both (worth w t.bits) y, greatest_append (worth w t.bits) (numbers x) (numbers y)))
      term_weight (Compare r x y) s k l later (Unless label) =
          simp (weigh_append, term_weight x s.0, term_weight y s.1, tree_weight x, tree_weight y)
          (omega (arith, zero_light, one_light, both (worth w t.bits) x, both (worth w t.bits) y, greatest_append (worth w t.bits) (numbers x) (numbers y)))
      term_weight (Not x) s k l later Value = simp (weigh_append, term_weight x s) (omega (arith, zero_light, one_light))
      term_weight (Not x) s k l later (When label) = term_weight x s k l later (Unless label)
      term_weight (Not x) s k l later (Unless label) = term_weight x s k l later (When label)
      term_weight (AndAlso x y) s k l later Value =
          simp (weigh_append, term_weight x s.0, term_weight y s.1)
          (omega (arith, zero_light, one_light, greatest_append (worth w t.bits) (numbers x) (numbers y)))
      term_weight (AndAlso x y) s k l later (When label) =
          simp (weigh_append, term_weight x s.0, term_weight y s.1)
          (omega (arith, zero_light, one_light, greatest_append (worth w t.bits) (numbers x) (numbers y)))
      term_weight (AndAlso x y) s k l later (Unless label) =
          simp (weigh_append, term_weight x s.0, term_weight y s.1)
          (omega (arith, zero_light, one_light, greatest_append (worth w t.bits) (numbers x) (numbers y)))
      term_weight (OrElse x y) s k l later Value =
          simp (weigh_append, term_weight x s.0, term_weight y s.1)
          (omega (arith, zero_light, one_light, greatest_append (worth w t.bits) (numbers x) (numbers y)))
      term_weight (OrElse x y) s k l later (When label) =
          simp (weigh_append, term_weight x s.0, term_weight y s.1)
          (omega (arith, zero_light, one_light, greatest_append (worth w t.bits) (numbers x) (numbers y)))
      term_weight (OrElse x y) s k l later (Unless label) =
          simp (weigh_append, term_weight x s.0, term_weight y s.1)
          (omega (arith, zero_light, one_light, greatest_append (worth w t.bits) (numbers x) (numbers y)))

      pub arguments_weight : (xs : Terms) (s : SoundTerms at xs) (k l : ℕ) (later : Bool) → weigh w (passing t k l later xs).steps ≡ greatest (worth w t.bits) (arguments_numbers xs)
      arguments_weight NoMore s k l later = refl
      arguments_weight (More x xs) s k l later =
          simp (weigh_append, term_weight x s.0, arguments_weight xs s.1, tree_weight x)
          (omega (arith, both (worth w t.bits) x, greatest_append (worth w t.bits) (numbers x) (arguments_numbers xs)))
