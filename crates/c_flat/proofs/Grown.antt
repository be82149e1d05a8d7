-- What a node writes out stays the same when nodes are added, and is one node over what the others write out.
use Rattle.std.proofs.Common.{◌≡◌, ℕ, zero, suc, ◌<◌, ◌≤◌, List, [], ◌∷◌, ◌++◌, length, reverse, Some, refl, ap, sym, ◌∙◌, subst, arith, length-append, ⊎_elim}
use Rattle.std.proofs.lemmas.Bool.{cases_lt}
use Rattle.std.specs.Prelude.{slice_get, ◌==◌, if◌then◌else◌}
use Rattle.std.proofs.lemmas.List.{reverse-append, length-reverse, reverse-reverse}
use Rattle.std.proofs.lemmas.Option.{slice_get_within}
use Rattle.std.proofs.lemmas.Bool.Decides.{nat_tests}
use Rattle.c_flat.specs.declared.node.Node.{Node}
use Rattle.c_flat.specs.declared.node.Node.TheVariants as node
use Rattle.c_flat.specs.Written.{Written, one, grown, written, IsBelow, Falls, Extends, Grew}

one_ext : (x : Node) (n : ℕ) (f g : ℕ → Written) → IsBelow x n → ((i : ℕ) → i < n → f i ≡ g i) → one x f ≡ one x g
one_ext (node.Number z) n f g b same = refl
one_ext (node.Scalar p) n f g b same = refl
one_ext (node.Element p m i) n f g b same = rw (same i b.0) refl
one_ext node.Input n f g b same = refl
one_ext (node.Call h xs) n f g b same = rw (same xs b.0) refl
one_ext (node.Unary op x) n f g b same = rw (same x b.0) refl
one_ext (node.Shifted op x k) n f g b same = rw (same x b.0) refl
one_ext (node.Arithmetic op x y) n f g b same = rw (same x b.0, same y b.1.0) refl
one_ext (node.Compare r x y) n f g b same = rw (same x b.0, same y b.1.0) refl
one_ext (node.Not x) n f g b same = rw (same x b.0) refl
one_ext (node.AndAlso x y) n f g b same = rw (same x b.0, same y b.1.0) refl
one_ext (node.OrElse x y) n f g b same = rw (same x b.0, same y b.1.0) refl
one_ext node.NoMore n f g b same = refl
one_ext (node.More x xs) n f g b same = rw (same x b.0, same xs b.1.0) refl
one_ext node.Skip n f g b same = refl
one_ext (node.Seq x y) n f g b same = rw (same x b.0, same y b.1.0) refl
one_ext (node.Turn x) n f g b same = rw (same x b.0) refl
one_ext (node.Set p e) n f g b same = rw (same e b.0) refl
one_ext (node.Store p m i e) n f g b same = rw (same i b.0, same e b.1.0) refl
one_ext (node.Change p m i op e) n f g b same = rw (same i b.0, same e b.1.0) refl
one_ext (node.Print e) n f g b same = rw (same e b.0) refl
one_ext node.Take n f g b same = refl
one_ext (node.Invoke h xs) n f g b same = rw (same xs b.0) refl
one_ext (node.If e x) n f g b same = rw (same e b.0, same x b.1.0) refl
one_ext (node.IfElse e x y) n f g b same = rw (same e b.0, same x b.1.0, same y b.1.1.0) refl
one_ext (node.While e x) n f g b same = rw (same e b.0, same x b.1.0) refl
one_ext (node.Do x e) n f g b same = rw (same x b.0, same e b.1.0) refl
one_ext (node.Forever st x) n f g b same = rw (same st b.0, same x b.1.0) refl
one_ext (node.For e st x) n f g b same = rw (same e b.0, same st b.1.0, same x b.1.1.0) refl
one_ext node.Break n f g b same = refl
one_ext node.Continue n f g b same = refl
one_ext node.Return n f g b same = refl
one_ext (node.ReturnWith e) n f g b same = rw (same e b.0) refl

test_less : (i n : ℕ) (a b : Written) → i < n → (if i == n then a else b) ≡ b
test_less i n a b h = grind (arith, nat_tests)

test_same : (i n : ℕ) (a b : Written) → i ≡ n → (if i == n then a else b) ≡ a
test_same i n a b h = grind (arith, nat_tests)

pub slice_get_front : {X : Type 0} (xs ys : List X) (n : ℕ) → n < length xs → slice_get (xs ++ ys) n ≡ slice_get xs n
slice_get_front [] ys n h = absurd (omega arith)
slice_get_front (x ∷ xs) ys zero h = refl
slice_get_front (x ∷ xs) ys (suc n) h = slice_get_front xs ys n (omega arith)

pub slice_get_seam : {X : Type 0} (xs : List X) (y : X) (n : ℕ) → n ≡ length xs → slice_get (xs ++ y ∷ []) n ≡ Some y
slice_get_seam [] y zero h = refl
slice_get_seam [] y (suc n) h = absurd (omega arith)
slice_get_seam (x ∷ xs) y zero h = absurd (omega arith)
slice_get_seam (x ∷ xs) y (suc n) h = slice_get_seam xs y n (omega arith)

below : (y : Node) (older : List Node) (n : ℕ) → n ≤ length older → (i : ℕ) → i < n → grown older i ≡ grown (y ∷ older) i
below y older n le i h = sym (test_less i (length older) _ _ (omega arith))

grown_at : (ns : List Node) (n : ℕ) (x : Node) → slice_get (reverse ns) n ≡ Some x → IsBelow x n → grown ns n ≡ one x (grown ns)
grown_at [] n x is b = absurd (cc)
grown_at (y ∷ older) n x is b =
    let flip : reverse (y ∷ older) ≡ reverse older ++ y ∷ [] = reverse-append (y ∷ []) older in
    let flipped : slice_get (reverse older ++ y ∷ []) n ≡ Some x = sym (ap (λ ns. slice_get ns n) flip) ∙ is in
    let within : n < length (reverse (y ∷ older)) = slice_get_within (reverse (y ∷ older)) n x is in
    let long : length (reverse (y ∷ older)) ≡ suc (length older) = length-reverse (y ∷ older) in
    let long' : length (reverse older) ≡ length older = length-reverse older in
    ⊎_elim
    (λ (lt : n < length older).
    let before : slice_get (reverse older) n ≡ Some x = sym (slice_get_front (reverse older) (y ∷ []) n (omega arith)) ∙ flipped in
    test_less n (length older) _ _ lt ∙ grown_at older n x before b ∙ one_ext x n _ _ b (below y older n (omega arith)))
    (λ (le : length older ≤ n).
    let here : n ≡ length older = omega arith in
    let same : Some y ≡ Some x = sym (slice_get_seam (reverse older) y n (here ∙ sym long')) ∙ flipped in
    let equal : y ≡ x = cc in
    test_same n (length older) _ _ here ∙ ap (λ z. one z (grown older)) equal ∙ one_ext x n _ _ b (below y older n (omega arith)))
    (cases_lt n (length older))

pub written_at : (nodes : List Node) (n : ℕ) (x : Node) → slice_get nodes n ≡ Some x → IsBelow x n → written nodes n ≡ one x (written nodes)
unfolding written
written_at nodes n x is b = grown_at (reverse nodes) n x (ap (λ ns. slice_get ns n) (reverse-reverse nodes) ∙ is) b

pub written_old : (nodes : List Node) (x : Node) (n : ℕ) → n < length nodes → written (nodes ++ x ∷ []) n ≡ written nodes n
unfolding written
written_old nodes x n h =
    ap (λ ns. grown ns n) (reverse-append nodes (x ∷ [])) ∙ test_less n (length (reverse nodes)) _ _ (omega (arith, length-reverse nodes))

pub written_new : (nodes : List Node) (x : Node) (n : ℕ) → n ≡ length nodes → written (nodes ++ x ∷ []) n ≡ one x (written nodes)
unfolding written
written_new nodes x n h =
    ap (λ ns. grown ns n) (reverse-append nodes (x ∷ [])) ∙ test_same n (length (reverse nodes)) _ _ (h ∙ sym (length-reverse nodes))

pub Extends-refl : (nodes : List Node) → Extends nodes nodes
Extends-refl nodes = record { longer = omega arith; same = λ n h. refl }

pub Extends-trans : (a b c : List Node) → Extends a b → Extends b c → Extends a c
Extends-trans a b c p q = record { longer = omega (arith, p.longer, q.longer); same = λ n h. q.same n (omega (arith, p.longer)) ∙ p.same n h }

pub Extends-push : (nodes : List Node) (x : Node) → Extends nodes (nodes ++ x ∷ [])
Extends-push nodes x = record { longer = omega (arith, length-append nodes (x ∷ [])); same = written_old nodes x }

pub Falls-push : (nodes : List Node) (x : Node) → Falls nodes → IsBelow x (length nodes) → Falls (nodes ++ x ∷ [])
Falls-push nodes x falls b = record {
  each = λ n y is.
      let within : n < length (nodes ++ x ∷ []) = slice_get_within (nodes ++ x ∷ []) n y is in
      ⊎_elim
      (λ (lt : n < length nodes). falls.each n y (sym (slice_get_front nodes (x ∷ []) n lt) ∙ is))
      (λ (le : length nodes ≤ n).
      let here : n ≡ length nodes = omega (arith, length-append nodes (x ∷ [])) in
      let same : Some x ≡ Some y = sym (slice_get_seam nodes x n here) ∙ is in
      let equal : x ≡ y = cc in
      subst (λ z. IsBelow z n) equal (subst (IsBelow x) (sym here) b))
      (cases_lt n (length nodes));
}

pub grew_push : (nodes : List Node) (x : Node) (n : ℕ) → Falls nodes → IsBelow x (length nodes) → n ≡ length nodes → Grew nodes (nodes ++ x ∷ []) (one x (written nodes)) n
grew_push nodes x n falls b is = record {
  extends = Extends-push nodes x;
  falls = Falls-push nodes x falls b;
  within = omega (arith, length-append nodes (x ∷ []));
  is = written_new nodes x n is;
}

-- a node over one part, over two
pub grew_over : (a b c : List Node) (w r : Written) (x : Node) (i n : ℕ) → Grew a b w i → Grew b c (one x (written b)) n → ((f : ℕ → Written) → f i ≡ w → one x f ≡ r) → Grew a c r n
grew_over a b c w r x i n g h is = record {
  extends = Extends-trans a b c g.extends h.extends;
  falls = h.falls;
  within = h.within;
  is = h.is ∙ is (written b) g.is;
}

pub grew_both : (a b c d : List Node) (v w r : Written) (x : Node) (i j n : ℕ) → Grew a b v i → Grew b c w j → Grew c d (one x (written c)) n → ((f : ℕ → Written) → f i ≡ v → f j ≡ w → one x f ≡ r) → Grew a d r n
grew_both a b c d v w r x i j n g h k is = record {
  extends = Extends-trans a b d g.extends (Extends-trans b c d h.extends k.extends);
  falls = k.falls;
  within = k.within;
  is = k.is ∙ is (written c) (h.extends.same i g.within ∙ g.is) h.is;
}

-- the first part still stands before what is put behind the second
pub first_below : (a b c : List Node) (v w : Written) (i j : ℕ) → Grew a b v i → Grew b c w j → i < length c
first_below a b c v w i j g h = omega (arith, g.within, h.extends.longer)
