-- A list that is made of what each statement has, one behind the other.
use Rattle.std.proofs.Common.{◌≡◌, ℕ, ◌+◌, ◌<◌, ◌≤◌, List, [], ◌∷◌, ◌++◌, length, reverse, take, get_or, flat_map, append-nil, refl, ap, sym, ◌∙◌, Bool, true, false}
use Rattle.std.proofs.lemmas.List.{take_all, take_more}
use Rattle.std.proofs.lemmas.List.Concat.{flat_map-append}
use Rattle.std.specs.Prelude.{◌==◌, if◌then◌else◌}
use Rattle.nml_tree.specs.Act.{Term, Act, Done, SetCell, SetTrn, Put, Halt, When}
use Rattle.isg_nodes.specs.declared.node.Node.{Node}
use Rattle.isg_nodes.specs.declared.node.Node.TheVariants as node
use Rattle.isg_nodes.specs.Written.{one_act, one_term, in_order, grown_term, grown_act, statement, term, action}
use Rattle.isg_places.specs.Places.{reads_in, act_reads, act_writes, pc_values}

-- of an action it is what its first statement has, then what the others have
pub record Splitting {X : Type 0} (f : Act → List X) : Type 0 where
  pub done : f Done ≡ []
  pub set_cell : (n : ℕ) (i e : Term) (rest : Act) → f (SetCell n i e rest) ≡ f (SetCell n i e Done) ++ f rest
  pub set_trn : (n : ℕ) (e : Term) (rest : Act) → f (SetTrn n e rest) ≡ f (SetTrn n e Done) ++ f rest
  pub put : (e : Term) (rest : Act) → f (Put e rest) ≡ f (Put e Done) ++ f rest
  pub halt : (e : Term) (rest : Act) → f (Halt e rest) ≡ f (Halt e Done) ++ f rest
  pub when : (c : Term) (x y rest : Act) → f (When c x y rest) ≡ f (When c x y Done) ++ f rest

module _ {X : Type 0} (f : Act → List X) (s : Splitting f) where
  nothing : (rest : Act) → f rest ≡ f Done ++ f rest
  nothing rest = ap (λ l. l ++ f rest) (sym s.done)

  one_splits : (x : Node) (g : ℕ → Term) (a : ℕ → Act → Act) (rest : Act) → f (one_act x g a rest) ≡ f (one_act x g a Done) ++ f rest
  one_splits (node.Number z) g a rest = nothing rest
  one_splits (node.Field k) g a rest = nothing rest
  one_splits (node.Cell k i) g a rest = nothing rest
  one_splits (node.Trn k) g a rest = nothing rest
  one_splits node.Inp g a rest = nothing rest
  one_splits (node.Unary op x) g a rest = nothing rest
  one_splits (node.Binary op x y) g a rest = nothing rest
  one_splits (node.Choose c x y) g a rest = nothing rest
  one_splits (node.SetCell k i e) g a rest = s.set_cell k (g i) (g e) rest
  one_splits (node.SetTrn k e) g a rest = s.set_trn k (g e) rest
  one_splits (node.Put e) g a rest = s.put (g e) rest
  one_splits (node.Halt e) g a rest = s.halt (g e) rest
  one_splits (node.When c xs ys) g a rest = s.when (g c) (in_order a xs Done) (in_order a ys Done) rest

  turn : (b : Bool) (one old : Act → Act) (rest : Act) → f (one rest) ≡ f (one Done) ++ f rest → f (old rest) ≡ f (old Done) ++ f rest → f (if b then one rest else old rest) ≡ f (if b then one Done else old Done) ++ f rest
  turn true one old rest h g = h
  turn false one old rest h g = g

  grown_splits : (ns : List Node) (n : ℕ) (rest : Act) → f (grown_act ns n rest) ≡ f (grown_act ns n Done) ++ f rest
  grown_splits [] n rest = nothing rest
  grown_splits (x ∷ older) n rest =
      turn (n == length older) (λ r. one_act x (grown_term older) (grown_act older) r) (λ r. grown_act older n r) rest (one_splits x (grown_term older) (grown_act older) rest) (grown_splits older n rest)

  splits : (nodes : List Node) (n : ℕ) (rest : Act) → f (statement nodes n rest) ≡ f (statement nodes n Done) ++ f rest
  unfolding statement
  splits nodes n rest = grown_splits (reverse nodes) n rest

  -- of statements in order
  in_order_is : (nodes : List Node) (xs : List ℕ) → f (in_order (statement nodes) xs Done) ≡ flat_map (λ m. f (statement nodes m Done)) xs
  in_order_is nodes [] = s.done
  in_order_is nodes (x ∷ xs) = splits nodes x (in_order (statement nodes) xs Done) ∙ ap (λ l. f (statement nodes x Done) ++ l) (in_order_is nodes xs)

  -- all of them
  pub whole : (nodes : List Node) (xs : List ℕ) (i : ℕ) → length xs ≤ i → flat_map (λ m. f (statement nodes m Done)) (take i xs) ≡ f (in_order (statement nodes) xs Done)
  whole nodes xs i h = ap (flat_map (λ m. f (statement nodes m Done))) (take_all i xs h) ∙ sym (in_order_is nodes xs)

-- one more
pub flat_more : {X : Type 0} (g : ℕ → List X) (xs : List ℕ) (i : ℕ) → i < length xs → flat_map g (take (i + 1) xs) ≡ flat_map g (take i xs) ++ g (get_or xs i 0)
flat_more g xs i h =
    ap (flat_map g) (take_more xs i 0 h) ∙ flat_map-append g (take i xs) (get_or xs i 0 ∷ []) ∙ ap (λ l. flat_map g (take i xs) ++ l) (append-nil (g (get_or xs i 0)))

pub reads_split : Splitting act_reads
reads_split = record {
  done = refl;
  set_cell = λ n i e rest. ap (λ l. l ++ act_reads rest) (sym (append-nil (reads_in i ++ reads_in e)));
  set_trn = λ n e rest. ap (λ l. l ++ act_reads rest) (sym (append-nil (reads_in e)));
  put = λ e rest. ap (λ l. l ++ act_reads rest) (sym (append-nil (reads_in e)));
  halt = λ e rest. ap (λ l. l ++ act_reads rest) (sym (append-nil (reads_in e)));
  when = λ c x y rest. ap (λ l. l ++ act_reads rest) (sym (append-nil (reads_in c ++ act_reads x ++ act_reads y)));
}

pub writes_split : Splitting act_writes
writes_split = record {
  done = refl;
  set_cell = λ n i e rest. refl;
  set_trn = λ n e rest. refl;
  put = λ e rest. refl;
  halt = λ e rest. refl;
  when = λ c x y rest. ap (λ l. l ++ act_writes rest) (sym (append-nil (act_writes x ++ act_writes y)));
}

pub values_split : (pc : ℕ) → Splitting (pc_values pc)
values_split pc = record {
  done = refl;
  set_cell = λ n i e rest. ap (λ l. l ++ pc_values pc rest) (sym (append-nil (if n == pc then e ∷ [] else [])));
  set_trn = λ n e rest. refl;
  put = λ e rest. refl;
  halt = λ e rest. refl;
  when = λ c x y rest. ap (λ l. l ++ pc_values pc rest) (sym (append-nil (pc_values pc x ++ pc_values pc y)));
}

module _ (nodes : List Node) (n : ℕ) (x : Node) (is : statement nodes n Done ≡ one_act x (term nodes) (statement nodes) Done) where
  -- what the node's statement has
  has : {X : Type 0} (f : Act → List X) (y : Node) → x ≡ y → f (statement nodes n Done) ≡ f (one_act y (term nodes) (statement nodes) Done)
  has f y at = ap f (is ∙ ap (λ z. one_act z (term nodes) (statement nodes) Done) at)

  pub set_cell_reads : (k i e : ℕ) → x ≡ node.SetCell k i e → reads_in (term nodes i) ++ reads_in (term nodes e) ≡ act_reads (statement nodes n Done)
  set_cell_reads k i e at = sym (has act_reads (node.SetCell k i e) at ∙ append-nil (reads_in (term nodes i) ++ reads_in (term nodes e)))

  pub when_reads : (c : ℕ) (xs ys : List ℕ) → x ≡ node.When c xs ys → reads_in (term nodes c) ++ act_reads (action nodes xs) ++ act_reads (action nodes ys) ≡ act_reads (statement nodes n Done)
  when_reads c xs ys at = sym (has act_reads (node.When c xs ys) at ∙ append-nil (reads_in (term nodes c) ++ act_reads (action nodes xs) ++ act_reads (action nodes ys)))

  pub when_writes : (c : ℕ) (xs ys : List ℕ) → x ≡ node.When c xs ys → act_writes (action nodes xs) ++ act_writes (action nodes ys) ≡ act_writes (statement nodes n Done)
  when_writes c xs ys at = sym (has act_writes (node.When c xs ys) at ∙ append-nil (act_writes (action nodes xs) ++ act_writes (action nodes ys)))

-- what the node's expression has
pub term_reads : (nodes : List Node) (n : ℕ) (x y : Node) → term nodes n ≡ one_term x (term nodes) → x ≡ y → reads_in (one_term y (term nodes)) ≡ reads_in (term nodes n)
term_reads nodes n x y is at = sym (ap reads_in (is ∙ ap (λ z. one_term z (term nodes)) at))
