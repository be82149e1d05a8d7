-- What a node writes out is that node over what the older ones write out.
use Rattle.std.proofs.Common.{◌≡◌, ℕ, zero, suc, ◌<◌, ◌≤◌, List, [], ◌∷◌, ◌++◌, length, reverse, Some, refl, ap, sym, ◌∙◌, arith, ⊎_elim}
use Rattle.std.proofs.lemmas.Bool.{cases_lt}
use Rattle.std.specs.Prelude.{slice_get, ◌==◌, if◌then◌else◌}
use Rattle.std.proofs.lemmas.List.{reverse-append, length-reverse, reverse-reverse}
use Rattle.std.proofs.lemmas.Option.{slice_get_within}
use Rattle.std.proofs.lemmas.Bool.Decides.{nat_tests}
use Rattle.nml_tree.specs.Act.{Term, Act, Done, Cell, Unary, Binary, Choose, SetCell, SetTrn, Put, Halt, When}
use Rattle.isg_nodes.specs.declared.node.Node.{Node}
use Rattle.isg_nodes.specs.declared.node.Node.TheVariants as node
use Rattle.isg_nodes.specs.Written.{one_term, one_act, in_order, grown_term, grown_act, term, statement, IsBelow, AllBelow}

-- a node over the same operands is the same
term_ext : (x : Node) (n : ℕ) (f g : ℕ → Term) → IsBelow x n → ((i : ℕ) → i < n → f i ≡ g i) → one_term x f ≡ one_term x g
term_ext (node.Number z) n f g b same = refl
term_ext (node.Field k) n f g b same = refl
term_ext (node.Cell s i) n f g b same = ap (Cell s) (same i b)
term_ext (node.Trn k) n f g b same = refl
term_ext node.Inp n f g b same = refl
term_ext (node.Unary op x) n f g b same = ap (Unary op) (same x b)
term_ext (node.Binary op x y) n f g b same = ap (λ t. Binary op t (f y)) (same x b.0) ∙ ap (Binary op (g x)) (same y b.1)
term_ext (node.Choose c x y) n f g b same =
    ap (λ t. Choose t (f x) (f y)) (same c b.0) ∙ ap (λ t. Choose (g c) t (f y)) (same x b.1.0) ∙ ap (Choose (g c) (g x)) (same y b.1.1)
term_ext (node.SetCell s i e) n f g b same = refl
term_ext (node.SetTrn k e) n f g b same = refl
term_ext (node.Put e) n f g b same = refl
term_ext (node.Halt e) n f g b same = refl
term_ext (node.When c xs ys) n f g b same = refl

pub order_ext : (xs : List ℕ) (n : ℕ) (a d : ℕ → Act → Act) (rest : Act) → AllBelow xs n → ((i : ℕ) → i < n → (r : Act) → a i r ≡ d i r) → in_order a xs rest ≡ in_order d xs rest
order_ext [] n a d rest b same = refl
order_ext (x ∷ xs) n a d rest b same = same x b.0 (in_order a xs rest) ∙ ap (d x) (order_ext xs n a d rest b.1 same)

act_ext : (x : Node) (n : ℕ) (f g : ℕ → Term) (a d : ℕ → Act → Act) (rest : Act) → IsBelow x n → ((i : ℕ) → i < n → f i ≡ g i) → ((i : ℕ) → i < n → (r : Act) → a i r ≡ d i r) → one_act x f a rest ≡ one_act x g d rest
act_ext (node.Number z) n f g a d rest b same goes = refl
act_ext (node.Field k) n f g a d rest b same goes = refl
act_ext (node.Cell s i) n f g a d rest b same goes = refl
act_ext (node.Trn k) n f g a d rest b same goes = refl
act_ext node.Inp n f g a d rest b same goes = refl
act_ext (node.Unary op x) n f g a d rest b same goes = refl
act_ext (node.Binary op x y) n f g a d rest b same goes = refl
act_ext (node.Choose c x y) n f g a d rest b same goes = refl
act_ext (node.SetCell s i e) n f g a d rest b same goes = ap (λ t. SetCell s t (f e) rest) (same i b.0) ∙ ap (λ t. SetCell s (g i) t rest) (same e b.1)
act_ext (node.SetTrn k e) n f g a d rest b same goes = ap (λ t. SetTrn k t rest) (same e b)
act_ext (node.Put e) n f g a d rest b same goes = ap (λ t. Put t rest) (same e b)
act_ext (node.Halt e) n f g a d rest b same goes = ap (λ t. Halt t rest) (same e b)
act_ext (node.When c xs ys) n f g a d rest b same goes =
    ap (λ t. When t (in_order a xs Done) (in_order a ys Done) rest) (same c b.0)
    ∙ ap (λ t. When (g c) t (in_order a ys Done) rest) (order_ext xs n a d Done b.1.0 goes)
    ∙ ap (λ t. When (g c) (in_order d xs Done) t rest) (order_ext ys n a d Done b.1.1 goes)

pub test_less : {X : Type 0} (i n : ℕ) (a b : X) → i < n → (if i == n then a else b) ≡ b
test_less i n a b h = grind (arith, nat_tests)

pub test_same : {X : Type 0} (i n : ℕ) (a b : X) → i ≡ n → (if i == n then a else b) ≡ a
test_same i n a b h = grind (arith, nat_tests)

pub slice_get_front : {X : Type 0} (xs ys : List X) (n : ℕ) → n < length xs → slice_get (xs ++ ys) n ≡ slice_get xs n
slice_get_front [] ys n h = absurd (omega arith)
slice_get_front (x ∷ xs) ys zero h = refl
slice_get_front (x ∷ xs) ys (suc n) h = slice_get_front xs ys n (omega arith)

pub slice_get_seam : {X : Type 0} (xs : List X) (y : X) (n : ℕ) → n ≡ length xs → slice_get (xs ++ y ∷ []) n ≡ Some y
slice_get_seam [] y zero h = refl
slice_get_seam [] y (suc n) h = absurd (omega arith)
slice_get_seam (x ∷ xs) y zero h = absurd (omega arith)
slice_get_seam (x ∷ xs) y (suc n) h = slice_get_seam xs y n (omega arith)

below : (y : Node) (older : List Node) (n : ℕ) → n ≤ length older → (i : ℕ) → i < n → grown_term older i ≡ grown_term (y ∷ older) i
below y older n le i h = sym (test_less i (length older) _ _ (omega arith))

below_act : (y : Node) (older : List Node) (n : ℕ) → n ≤ length older → (i : ℕ) → i < n → (r : Act) → grown_act older i r ≡ grown_act (y ∷ older) i r
below_act y older n le i h r = sym (test_less i (length older) _ _ (omega arith))

record OneAt (ns : List Node) (n : ℕ) (x : Node) : Type 0 where
  value : grown_term ns n ≡ one_term x (grown_term ns)
  act : (rest : Act) → grown_act ns n rest ≡ one_act x (grown_term ns) (grown_act ns) rest

grown_at : (ns : List Node) (n : ℕ) (x : Node) → slice_get (reverse ns) n ≡ Some x → IsBelow x n → OneAt ns n x
grown_at [] n x is b = absurd (cc)
grown_at (y ∷ older) n x is b =
    let flip : reverse (y ∷ older) ≡ reverse older ++ y ∷ [] = reverse-append (y ∷ []) older in
    let flipped : slice_get (reverse older ++ y ∷ []) n ≡ Some x = sym (ap (λ ns. slice_get ns n) flip) ∙ is in
    let within : n < length (reverse (y ∷ older)) = slice_get_within (reverse (y ∷ older)) n x is in
    let long : length (reverse (y ∷ older)) ≡ suc (length older) = length-reverse (y ∷ older) in
    let long' : length (reverse older) ≡ length older = length-reverse older in
    ⊎_elim
    (λ (lt : n < length older).
    let before : slice_get (reverse older) n ≡ Some x = sym (slice_get_front (reverse older) (y ∷ []) n (omega arith)) ∙ flipped in
    let one = grown_at older n x before b in
    record {
      value = test_less n (length older) _ _ lt ∙ one.value ∙ term_ext x n _ _ b (below y older n (omega arith));
      act = λ rest. test_less n (length older) _ _ lt ∙ one.act rest ∙ act_ext x n _ _ _ _ rest b (below y older n (omega arith)) (below_act y older n (omega arith));
    })
    (λ (le : length older ≤ n).
    let here : n ≡ length older = omega arith in
    let same : Some y ≡ Some x = sym (slice_get_seam (reverse older) y n (here ∙ sym long')) ∙ flipped in
    let equal : y ≡ x = cc in
    record {
      value = test_same n (length older) _ _ here ∙ ap (λ z. one_term z (grown_term older)) equal ∙ term_ext x n _ _ b (below y older n (omega arith));
      act = λ rest. test_same n (length older) _ _ here ∙ ap (λ z. one_act z (grown_term older) (grown_act older) rest) equal ∙ act_ext x n _ _ _ _ rest b (below y older n (omega arith)) (below_act y older n (omega arith));
    })
    (cases_lt n (length older))

pub term_at : (nodes : List Node) (n : ℕ) (x : Node) → slice_get nodes n ≡ Some x → IsBelow x n → term nodes n ≡ one_term x (term nodes)
unfolding term
term_at nodes n x is b = (grown_at (reverse nodes) n x (ap (λ ns. slice_get ns n) (reverse-reverse nodes) ∙ is) b).value

pub statement_at : (nodes : List Node) (n : ℕ) (x : Node) (rest : Act) → slice_get nodes n ≡ Some x → IsBelow x n → statement nodes n rest ≡ one_act x (term nodes) (statement nodes) rest
unfolding term statement
statement_at nodes n x rest is b = (grown_at (reverse nodes) n x (ap (λ ns. slice_get ns n) (reverse-reverse nodes) ∙ is) b).act rest
