-- How much statements count, by their kinds; an assignment by its place.
use Rattle.std.proofs.Common.{ℕ, ◌≤◌, max, List, ◌≡◌, ℤ, refl, sym, ◌∙◌, ap, subst, Some, None, Option, Bool, true, false, arith}
use Rattle.std.specs.Prelude.{nat_le, if◌then◌else◌}
use Rattle.std.specs.Map.{lookup}
use Rattle.nk_base.specs.Text.{text_eq}
use Rattle.nml_tree.specs.Act.{Term, Act, Number, Field, Cell, Trn, Inp, Out, Unary, Binary, Choose, Done, SetCell, SetTrn, Put, Halt, When, followed, assigned}
use Rattle.nml_tree.specs.Block as block
use Rattle.nml_tree.specs.Block.{Block, Index}
use Rattle.nml_tree.specs.declared.names.Name.{Name}
use Rattle.nml_tree.specs.Derivation.{Derivation, Arguments, Compose, IsDerivation, fields_of}
use Rattle.nml_tree.specs.Formula.{Formula}
use Rattle.nml_tree.specs.Legal.{Event, Reads}
use Rattle.nml_tree.specs.Table.{Text, Table, Rule}
use Rattle.nml_tree.specs.Value.{View}
use Rattle.nml_tree.specs.Written as written
use Rattle.nml_tree.specs.Written.{Argument, action_of, act, arguments, index_term, term}
use Rattle.attr_eval.specs.Alone.{Alone, alone}
use Rattle.attr_eval.proofs.Values.{stand_drop}
use Rattle.nml_widths.specs.Fitting.{Each, EachIndex}
use Rattle.attr_eval.specs.Lawful.{Shape, term_shape, act_shape}
use Rattle.attr_eval.specs.Walks.{Walks, WalksAll}
use Rattle.attr_legal.proofs.Tallies.{low}
use Rattle.attr_legal.specs.Asked.{Acting, SoundIn, counts, weighed, weight}
use Rattle.attr_legal.specs.Key.{key_of, meets}
use Rattle.attr_legal.specs.Tally.{reads, tally, together}
use Rattle.attr_legal.specs.Target.{target}
use Rattle.attr_legal.specs.declared.act.Ask.{Ask}
use Rattle.attr_legal.specs.declared.act.Ask.TheVariants as ask
use Rattle.attr_legal.specs.declared.key.Key.{Key}
use Rattle.attr_legal.specs.declared.key.Key.TheVariants as key
use Rattle.attr_legal.specs.declared.target.Target.{Target}

-- sums
pub together_assoc : (a b c : ℕ) → together (together a b) c ≡ together a (together b c)
together_assoc a b c = omega arith

-- an event counts at most 1
one_of : (b : Bool) → (if b then 1 else 0) ≤ 2
one_of true = omega arith
one_of false = omega arith

none_of : (b : Bool) → (if b then 0 else 1) ≤ 2
none_of true = omega arith
none_of false = omega arith

weighed_low : (t : Table) (zs : List ℤ) (x : Derivation) (a : Ask) (k : Key) → weighed t zs x a k ≤ 2
weighed_low t zs x (ask.Count q) k = one_of (meets q k)
weighed_low t zs x (ask.Check whole) k = none_of (nat_le _ 1)

pub counts_low : (t : Table) (zs : List ℤ) (x : Derivation) (a : Ask) (s : Shape) → tally (counts t zs x a) s ≤ 2
counts_low t zs x a s = low (counts t zs x a) s (λ e. weighed_low t zs x a (key_of (alone zs) e))

module _ (w : Event → ℕ) where
  pub reads_tally : (x : Term) → reads 0 (w Reads) x ≡ tally w (term_shape x)
  reads_tally (Number z) = refl
  reads_tally (Field n) = refl
  reads_tally (Cell n i) = let h = reads_tally i in omega (arith, h)
  reads_tally (Trn n) = refl
  reads_tally Inp = refl
  reads_tally Out = refl
  reads_tally (Unary op x) = reads_tally x
  reads_tally (Binary op x y) = rw (reads_tally x, reads_tally y) refl
  reads_tally (Choose c x y) = rw (reads_tally c, reads_tally x, reads_tally y) refl

  pub followed_tally : ((s : Shape) → tally w s ≤ 2) → (a b : Act) → tally w (act_shape (followed a b)) ≡ together (tally w (act_shape a)) (tally w (act_shape b))
  followed_tally h Done b = let l = h (act_shape b) in omega (arith, l)
  followed_tally h (SetCell n i e a) b = ap (together _) (followed_tally h a b) ∙ sym (together_assoc _ (tally w (act_shape a)) (tally w (act_shape b)))
  followed_tally h (SetTrn n e a) b = ap (together _) (followed_tally h a b) ∙ sym (together_assoc _ (tally w (act_shape a)) (tally w (act_shape b)))
  followed_tally h (Put e a) b = ap (together _) (followed_tally h a b) ∙ sym (together_assoc _ (tally w (act_shape a)) (tally w (act_shape b)))
  followed_tally h (Halt e a) b = ap (together _) (followed_tally h a b) ∙ sym (together_assoc _ (tally w (act_shape a)) (tally w (act_shape b)))
  followed_tally h (When c x y a) b = ap (together _) (followed_tally h a b) ∙ sym (together_assoc _ (tally w (act_shape a)) (tally w (act_shape b)))

-- an assignment to what is no place, and to a place
module _ (v : View) (of : Key → ℕ) (rest : Act) (e : Term) (input : ℕ) where
  abbrev pub W : Event → ℕ
  W x = of (key_of v x)

  pub none_assigned : (p : Term) → tally W (act_shape rest) ≤ 2 → None ≡ target v input p → tally W (act_shape (assigned p e rest)) ≡ together 0 (tally W (act_shape rest))
  none_assigned (Number z) l is = omega (arith, l)
  none_assigned (Field n) l is = omega (arith, l)
  none_assigned (Cell n i) l is = absurd cc
  none_assigned (Trn n) l is = absurd cc
  none_assigned Inp l is = omega (arith, l)
  none_assigned Out l is = absurd cc
  none_assigned (Unary op x) l is = omega (arith, l)
  none_assigned (Binary op x y) l is = omega (arith, l)
  none_assigned (Choose c x y) l is = omega (arith, l)

  four : (i x k r a b c n : ℕ) → i ≡ a → x ≡ b → k ≡ c → r ≡ together i (together x k) → together (together (together a b) c) n ≡ together r n
  four i x k r a b c n e f g h = omega (arith, e, f, g, h)

  three : (i x k r b c n : ℕ) → i ≡ 0 → x ≡ b → k ≡ c → r ≡ together i (together x k) → together (together b c) n ≡ together r n
  three i x k r b c n e f g h = omega (arith, e, f, g, h)

  pub some_assigned : (p : Term) (x : Target) (taken more write r : ℕ) → Some x ≡ target v input p → input ≡ of key.Read → taken ≡ reads 0 input e → write ≡ of x.key → more ≡ together taken write → r ≡ together x.reads more → tally W (act_shape (assigned p e rest)) ≡ together r (tally W (act_shape rest))
  some_assigned (Number z) x taken more write r is i k w m q = absurd cc
  some_assigned (Field n) x taken more write r is i k w m q = absurd cc
  some_assigned (Cell n j) x taken more write r is i k w m q =
      let same : x ≡ record { key = key.Cell n _; reads = reads 0 input j } = cc in
      four x.reads taken write r _ _ _ _
      (ap (λ y. y.reads) same ∙ ap (λ y. reads 0 y j) i ∙ reads_tally W j)
      (k ∙ ap (λ y. reads 0 y e) i ∙ reads_tally W e)
      (w ∙ ap (λ y. of y.key) same) (q ∙ ap (together x.reads) m)
  some_assigned (Trn n) x taken more write r is i k w m q =
      let same : x ≡ record { key = key.Trn n; reads = 0 } = cc in
      three x.reads taken write r _ _ _
      (ap (λ y. y.reads) same)
      (k ∙ ap (λ y. reads 0 y e) i ∙ reads_tally W e)
      (w ∙ ap (λ y. of y.key) same) (q ∙ ap (together x.reads) m)
  some_assigned Inp x taken more write r is i k w m q = absurd cc
  some_assigned Out x taken more write r is i k w m q =
      let same : x ≡ record { key = key.Put; reads = 0 } = cc in
      three x.reads taken write r _ _ _
      (ap (λ y. y.reads) same)
      (k ∙ ap (λ y. reads 0 y e) i ∙ reads_tally W e)
      (w ∙ ap (λ y. of y.key) same) (q ∙ ap (together x.reads) m)
  some_assigned (Unary op y) x taken more write r is i k w m q = absurd cc
  some_assigned (Binary op y z) x taken more write r is i k w m q = absurd cc
  some_assigned (Choose c y z) x taken more write r is i k w m q = absurd cc

-- what is read in an expression
pub taken_is : (w : Event → ℕ) (x : Term) (input r : ℕ) → input ≡ w Reads → r ≡ reads 0 input x → r ≡ tally w (term_shape x)
taken_is w x input r i is = is ∙ ap (λ y. reads 0 y x) i ∙ reads_tally w x

-- the action that a name is
pub argument_tally : (t : Table) (scope : written.Scope) (w : Event → ℕ) (name : Text) (o : Option Argument) (r : ℕ) → lookup (text_eq name) scope ≡ o → r ≡ tally w (act_shape (action_of o)) → r ≡ tally w (act_shape (action_of (lookup (text_eq name) scope)))
argument_tally t scope w name o r is e = e ∙ ap (λ x. tally w (act_shape (action_of x))) (sym is)

-- the action of a rule
pub whole_action : (t : Table) (rule : Rule) (n j : ℕ) (d : Derivation) (ps : List ℕ) (fs : List ℤ) (ks : List ℕ) (ys zs : List ℤ) (x : Derivation) (a : Ask) (b : Block) (r : ℕ) → (m : (args : Arguments) × (d ≡ Compose rule args) × WalksAll t rule.pars n args ps fs ks ys)
    → rule.action ≡ b → r ≡ weight t m.0 j zs x a b → r ≡ tally (counts t zs x a) (act_shape (written.written t j d).action)
whole_action t rule n j d ps fs ks ys zs x a b r m is e = e ∙ ap (weight t m.0 j zs x a) (sym is) ∙ ap (λ y. tally (counts t zs x a) (act_shape (written.written t j y).action)) (sym m.1)

pub sound_action : (t : Table) (name : Text) (rule : Rule) (n limit j : ℕ) (d : Derivation) (ps : List ℕ) (fs : List ℤ) (ks : List ℕ) (ys zs : List ℤ) (x : Derivation) (a : Ask) (b : Block) → Walks t name limit d ps fs ks ys → (m : (args : Arguments) × (d ≡ Compose rule args) × WalksAll t rule.pars n args ps fs ks ys)
    → Alone t j zs fs → Acting t zs x a → rule.action ≡ b → Each (SoundIn t rule m.0 j zs) b
sound_action t name rule n limit j d ps fs ks ys zs x a b w m s g is =
    subst (Each (SoundIn t rule m.0 j zs)) is (g.actions name rule m.0 j (subst (IsDerivation t name) m.1 w.is) (stand_drop (fields_of m.0) zs ys j (s.left_are ∙ m.2.fields_are)))

-- a statement by its kind
module _ (t : Table) (args : Arguments) (n : ℕ) (zs : List ℤ) (x : Derivation) (a : Ask) (rule : Rule) where
  abbrev pub P : Formula → Type 0
  P = SoundIn t rule args n zs

  abbrev pub V : Block → ℕ
  V = weight t args n zs x a

  abbrev pub T : Formula → ℕ
  T e = tally (counts t zs x a) (term_shape (term t (arguments t n args) e))

  pub assign_case : (b rest : Block) (name : Name) (i : Index) (at semicolon : ℕ) (e : Formula) (r : ℕ) → b ≡ block.Assign name i at e semicolon rest → Each P b
      → (EachIndex P i → tally (counts t zs x a) (act_shape (assigned (written.reference t (arguments t n args) name.text (index_term t (arguments t n args) i)) (term t (arguments t n args) e) (act t (arguments t n args) rest))) ≡ together r (V rest)) → Each P rest × (V b ≡ together r (V rest))
  assign_case b rest name i at semicolon e r is each k = let h = subst (Each P) is each in (h.2, ap V is ∙ k h.0)

  pub part_case : (b rest : Block) (name : Name) (dot at semicolon : ℕ) (r : ℕ) → b ≡ block.Part name dot at semicolon rest → Each P b
      → r ≡ tally (counts t zs x a) (act_shape (action_of (lookup (text_eq name.text) (arguments t n args)))) → Each P rest × (V b ≡ together r (V rest))
  part_case b rest name dot at semicolon r is each k =
      let h = subst (Each P) is each in (
        h,
        ap V is ∙ followed_tally (counts t zs x a) (counts_low t zs x a) (action_of (lookup (text_eq name.text) (arguments t n args))) (act t (arguments t n args) rest) ∙ ap (λ m. together m (V rest)) (sym k),
      )

  pub halt_case : (b rest : Block) (at p q semicolon : ℕ) (e : Formula) (taken halt r : ℕ) → b ≡ block.Halt at p e q semicolon rest → Each P b → taken ≡ T e → halt ≡ weighed t zs x a key.Halt → r ≡ together taken halt → Each P rest × (V b ≡ together r (V rest))
  halt_case b rest at p q semicolon e taken halt r is each k m o =
      let h = subst (Each P) is each in (
        h.1,
        ap V is ∙ ap (λ z. together z (V rest)) (ap (λ z. together z (weighed t zs x a key.Halt)) (sym k) ∙ ap (together taken) (sym m) ∙ sym o),
      )

  if_sum : (c y r taken some : ℕ) (z : ℕ) → taken ≡ c → some ≡ y → r ≡ together taken some → together (together c (max y 0)) z ≡ together r z
  if_sum c y r taken some z e f g = omega (arith, e, f, g)

  pub if_case : (b rest xs : Block) (at then_at end semicolon : ℕ) (c : Formula) (taken some r : ℕ) → b ≡ block.If at c then_at xs end semicolon rest → Each P b → taken ≡ T c → (Each P xs → some ≡ V xs) → r ≡ together taken some → Each P rest × (V b ≡ together r (V rest))
  if_case b rest xs at then_at end semicolon c taken some r is each k m o =
      let h = subst (Each P) is each in (h.2, ap V is ∙ if_sum (T c) (V xs) r taken some (V rest) k (m h.1) o)

  else_sum : (c y w r taken some others : ℕ) (z g : ℕ) → taken ≡ c → some ≡ y → others ≡ w → g ≡ max some others → r ≡ together taken g → together (together c (max y w)) z ≡ together r z
  else_sum c y w r taken some others z g e f h i j = omega (arith, e, f, h, i, j)

  pub else_case : (b rest xs ys : Block) (at then_at else_at end semicolon : ℕ) (c : Formula) (taken some others g r : ℕ) → b ≡ block.IfElse at c then_at xs else_at ys end semicolon rest → Each P b → taken ≡ T c → (Each P xs → some ≡ V xs) → (Each P ys → others ≡ V ys) → g ≡ max some others → r ≡ together taken g
      → Each P rest × (V b ≡ together r (V rest))
  else_case b rest xs ys at then_at else_at end semicolon c taken some others g r is each k m o i j =
      let h = subst (Each P) is each in (h.3, ap V is ∙ else_sum (T c) (V xs) (V ys) r taken some others (V rest) g k (m h.1) (o h.2) i j)

  -- statement after statement
  pub first_sum : (b : Block) → together 0 (V b) ≡ V b
  first_sum b = let l = counts_low t zs x a (act_shape (act t (arguments t n args) b)) in omega (arith, l)

  pub next_sum : (all b rest : Block) (sum more r : ℕ) → together sum (V b) ≡ V all → V b ≡ together more (V rest) → r ≡ together sum more → together r (V rest) ≡ V all
  next_sum all b rest sum more r h k is = ap (λ z. together z (V rest)) is ∙ together_assoc sum more (V rest) ∙ ap (together sum) (sym k) ∙ h

  pub last_sum : (all : Block) (sum : ℕ) → sum ≤ 2 → together sum 0 ≡ V all → sum ≡ V all
  last_sum all sum low h = let e : sum ≡ together sum 0 = omega (arith, low) in e ∙ h
