-- A node that is pushed, one that stands already, and lists of statements.
use Rattle.std.proofs.Common.{◌≡◌, ℕ, ◌<◌, ◌≤◌, List, [], ◌∷◌, ◌++◌, length, reverse, Some, refl, ap, sym, ◌∙◌, subst, arith, length-append, ⊎_elim}
use Rattle.std.proofs.lemmas.Bool.{cases_lt}
use Rattle.std.specs.Prelude.{slice_get}
use Rattle.std.proofs.lemmas.List.{reverse-append, length-reverse}
use Rattle.std.proofs.lemmas.Option.{slice_get_within}
use Rattle.nml_tree.specs.Act.{Term, Act, Done, When}
use Rattle.isg_nodes.specs.declared.node.Node.{Node}
use Rattle.isg_nodes.specs.declared.node.Node.TheVariants as node
use Rattle.isg_nodes.specs.Written.{one_term, one_act, in_order, AllBelow, grown_term, grown_act, term, statement, IsBelow, Falls}
use Rattle.isg_nodes.specs.Grow.{Extends, Grown, Listed}
use Rattle.isg_nodes.proofs.Written.{test_less, test_same, slice_get_front, slice_get_seam, term_at, statement_at, order_ext}

term_old : (nodes : List Node) (x : Node) (n : ℕ) → n < length nodes → term (nodes ++ x ∷ []) n ≡ term nodes n
unfolding term
term_old nodes x n h = ap (λ ns. grown_term ns n) (reverse-append nodes (x ∷ [])) ∙ test_less n (length (reverse nodes)) _ _ (omega (arith, length-reverse nodes))

term_new : (nodes : List Node) (x : Node) (n : ℕ) → n ≡ length nodes → term (nodes ++ x ∷ []) n ≡ one_term x (term nodes)
unfolding term
term_new nodes x n h = ap (λ ns. grown_term ns n) (reverse-append nodes (x ∷ [])) ∙ test_same n (length (reverse nodes)) _ _ (h ∙ sym (length-reverse nodes))

act_old : (nodes : List Node) (x : Node) (n : ℕ) → n < length nodes → (rest : Act) → statement (nodes ++ x ∷ []) n rest ≡ statement nodes n rest
unfolding statement
act_old nodes x n h rest = ap (λ ns. grown_act ns n rest) (reverse-append nodes (x ∷ [])) ∙ test_less n (length (reverse nodes)) _ _ (omega (arith, length-reverse nodes))

act_new : (nodes : List Node) (x : Node) (n : ℕ) → n ≡ length nodes → (rest : Act) → statement (nodes ++ x ∷ []) n rest ≡ one_act x (term nodes) (statement nodes) rest
unfolding term statement
act_new nodes x n h rest = ap (λ ns. grown_act ns n rest) (reverse-append nodes (x ∷ [])) ∙ test_same n (length (reverse nodes)) _ _ (h ∙ sym (length-reverse nodes))

fall_push : (nodes : List Node) (x : Node) → Falls nodes → IsBelow x (length nodes) → Falls (nodes ++ x ∷ [])
fall_push nodes x falls b = record {
  each = λ n y is.
      let within : n < length (nodes ++ x ∷ []) = slice_get_within (nodes ++ x ∷ []) n y is in
      ⊎_elim
      (λ (lt : n < length nodes). falls.each n y (sym (slice_get_front nodes (x ∷ []) n lt) ∙ is))
      (λ (le : length nodes ≤ n).
      let here : n ≡ length nodes = omega (arith, length-append nodes (x ∷ [])) in
      let same : Some x ≡ Some y = sym (slice_get_seam nodes x n here) ∙ is in
      let equal : x ≡ y = cc in
      subst (λ z. IsBelow z n) equal (subst (IsBelow x) (sym here) b))
      (cases_lt n (length nodes));
}

pub grown_push : (nodes : List Node) (x : Node) (n : ℕ) → Falls nodes → IsBelow x (length nodes) → n ≡ length nodes → Grown nodes (nodes ++ x ∷ []) x n
grown_push nodes x n falls b is = record {
  extends = record { longer = omega (arith, length-append nodes (x ∷ [])); values = term_old nodes x; acts = act_old nodes x };
  falls = fall_push nodes x falls b;
  within = omega (arith, length-append nodes (x ∷ []));
  value = term_new nodes x n is;
  act = act_new nodes x n is;
}

-- an equal node that stands already
pub grown_shared : (nodes : List Node) (x : Node) (n : ℕ) → Falls nodes → slice_get nodes n ≡ Some x → Grown nodes nodes x n
grown_shared nodes x n falls is = record {
  extends = record { longer = omega arith; values = λ n h. refl; acts = λ n h rest. refl };
  falls = falls;
  within = slice_get_within nodes n x is;
  value = term_at nodes n x is (falls.each n x is);
  act = λ rest. statement_at nodes n x rest is (falls.each n x is);
}

pub extends_trans : (a b c : List Node) → Extends a b → Extends b c → Extends a c
extends_trans a b c p q = record {
  longer = omega (arith, p.longer, q.longer);
  values = λ n h. q.values n (omega (arith, p.longer)) ∙ p.values n h;
  acts = λ n h rest. q.acts n (omega (arith, p.longer)) rest ∙ p.acts n h rest;
}

all_more : (ns : List ℕ) (m k : ℕ) → m ≤ k → AllBelow ns m → AllBelow ns k
all_more [] m k le b = tt
all_more (n ∷ ns) m k le b = (omega (arith, b.0), all_more ns m k le b.1)

all_push : (ns : List ℕ) (n k : ℕ) → AllBelow ns k → n < k → AllBelow (ns ++ n ∷ []) k
all_push [] n k b h = (h, tt)
all_push (m ∷ ns) n k b h = (b.0, all_push ns n k b.1 h)

order_push : (a : ℕ → Act → Act) (ns : List ℕ) (n : ℕ) (rest : Act) → in_order a (ns ++ n ∷ []) rest ≡ in_order a ns (a n rest)
order_push a [] n rest = refl
order_push a (m ∷ ns) n rest = ap (a m) (order_push a ns n rest)

pub listed_none : (nodes : List Node) → Listed nodes [] (λ r. r)
listed_none nodes = record { below = tt; is = λ rest. refl }

pub listed_kept : (old new : List Node) (ns : List ℕ) (a : Act → Act) → Extends old new → Listed old ns a → Listed new ns a
listed_kept old new ns a e l = record {
  below = all_more ns (length old) (length new) e.longer l.below;
  is = λ rest. order_ext ns (length old) (statement new) (statement old) rest l.below e.acts ∙ l.is rest;
}

-- one statement more
pub listed_push : (old new : List Node) (ns : List ℕ) (a b : Act → Act) (n : ℕ) → Extends old new → Listed old ns a → n < length new → ((rest : Act) → statement new n rest ≡ b rest) → Listed new (ns ++ n ∷ []) (λ r. a (b r))
listed_push old new ns a b n e l h is =
    let m = listed_kept old new ns a e l in
    record {
      below = all_push ns n (length new) m.below h;
      is = λ rest. order_push (statement new) ns n rest ∙ m.is (statement new n rest) ∙ ap a (is rest);
    }

-- a node over two lists
pub listed_when : (old new : List Node) (c n : ℕ) (xs ys : List ℕ) (t : Term) (a b : Act → Act) → Grown old new (node.When c xs ys) n → term old c ≡ t → Listed old xs a → Listed old ys b → (rest : Act) → statement new n rest ≡ When t (a Done) (b Done) rest
listed_when old new c n xs ys t a b g v l m rest =
    g.act rest
    ∙ ap (λ u. When u (in_order (statement old) xs Done) (in_order (statement old) ys Done) rest) v
    ∙ ap (λ u. When t u (in_order (statement old) ys Done) rest) (l.is Done)
    ∙ ap (λ u. When t (a Done) u rest) (m.is Done)

pub extends_refl : (a : List Node) → Extends a a
extends_refl a = record { longer = omega arith; values = λ n h. refl; acts = λ n h rest. refl }
