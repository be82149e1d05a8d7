-- Nodes one behind the other.
use Rattle.std.proofs.Common.{◌≡◌, ℕ, ◌<◌, ◌≤◌, List, [], ◌∷◌, ◌++◌, length, map, refl, ap, sym, ◌∙◌, subst, arith, append-nil, append_assoc, drop, get_or, zero, suc, ◌+◌, drop-cons, add-one}
use Rattle.std.specs.Result.{IfOk}
use Rattle.std.specs.declared.result.Result.{Result}
use Rattle.std.specs.declared.result.Result.TheVariants.{Ok, Err}
use Rattle.c_tree.specs.Program.{Term, Terms}
use Rattle.c_flat.specs.declared.node.Node.{Node}
use Rattle.c_flat.specs.declared.chain.Chain.{Chain}
use Rattle.c_flat.specs.Written.{Written, OfTerm, OfTerms, one, written, AreBelow, Falls, Grew}
use Rattle.c_flat.specs.Listing.{end_of, link, ahead, Listed}
use Rattle.c_flat.proofs.Grown.{Extends-refl, Extends-trans, grew_over, grew_both}

pub ok_more : {T E : Type 0} (P Q : T → Type 0) (r : Result T E) → ((x : T) → P x → Q x) → IfOk r P → IfOk r Q
ok_more P Q (Ok x) f h = f x h
ok_more P Q (Err e) f h = tt

-- where the first nodes stand, the nodes behind them too
pub grew_on : (a b c : List Node) (w r : Written) (i n : ℕ) → Grew a b w i → Grew b c r n → Grew a c r n
grew_on a b c w r i n g h = record { extends = Extends-trans a b c g.extends h.extends; falls = h.falls; within = h.within; is = h.is }

-- the first of two parts still stands behind the second
pub still : (a b c : List Node) (v w : Written) (i j : ℕ) → Grew a b v i → Grew b c w j → written c i ≡ v
still a b c v w i j g h = h.extends.same i g.within ∙ g.is

ahead_snoc : (c : Chain) (xs : List Written) (x w : Written) → ahead c (xs ++ x ∷ []) w ≡ ahead c xs (link c x w)
ahead_snoc c [] x w = refl
ahead_snoc c (y ∷ ys) x w = ap (link c y) (ahead_snoc c ys x w)

pub map_snoc : (f : ℕ → Written) (ks : List ℕ) (k : ℕ) → map f (ks ++ k ∷ []) ≡ map f ks ++ f k ∷ []
map_snoc f [] k = refl
map_snoc f (j ∷ ks) k = ap (λ ws. f j ∷ ws) (map_snoc f ks k)

pub map_same : (f g : ℕ → Written) (ks : List ℕ) (n : ℕ) → AreBelow ks n → ((i : ℕ) → i < n → f i ≡ g i) → map f ks ≡ map g ks
map_same f g [] n b same = refl
map_same f g (k ∷ ks) n b same = rw (same k b.0, map_same f g ks n b.1 same) refl

pub below_later : (ks : List ℕ) (n m : ℕ) → AreBelow ks n → n ≤ m → AreBelow ks m
below_later [] n m b le = tt
below_later (k ∷ ks) n m b le = (omega (arith, b.0), below_later ks n m b.1 le)

pub below_snoc : (ks : List ℕ) (k n : ℕ) → AreBelow ks n → k < n → AreBelow (ks ++ k ∷ []) n
below_snoc [] k n b h = (h, tt)
below_snoc (j ∷ ks) k n b h = (b.0, below_snoc ks k n b.1 h)

-- the front of numbers that stand
pub below_front : (ks js : List ℕ) (n : ℕ) → AreBelow (ks ++ js) n → AreBelow ks n
below_front [] js n b = tt
below_front (k ∷ ks) js n b = (b.0, below_front ks js n b.1)

pub below_back : (ks js : List ℕ) (n : ℕ) → AreBelow (ks ++ js) n → AreBelow js n
below_back [] js n b = b
below_back (k ∷ ks) js n b = below_back ks js n b.1

pub listed_begin : (c : Chain) (nodes : List Node) (w : Written) → Falls nodes → Listed c nodes nodes [] w w
listed_begin c nodes w falls = record { extends = Extends-refl nodes; falls = falls; within = tt; is = refl }

pub listed_more : (c : Chain) (old nodes new : List Node) (ks : List ℕ) (k : ℕ) (w left left' whole : Written) → Listed c old nodes ks left whole → Grew nodes new w k → link c w left' ≡ left → Listed c old new (ks ++ k ∷ []) left' whole
listed_more c old nodes new ks k w left left' whole l g is = record {
  extends = Extends-trans old nodes new l.extends g.extends;
  falls = g.falls;
  within = below_snoc ks k (length new) (below_later ks (length nodes) (length new) l.within g.extends.longer) g.within;
  is =
      ap (λ ws. ahead c ws left') (map_snoc (written new) ks k ∙ ap (λ u. map (written new) ks ++ u ∷ []) g.is ∙ ap (λ ws. ws ++ w ∷ []) (map_same (written new) (written nodes) ks (length nodes) l.within g.extends.same))
      ∙ ahead_snoc c (map (written nodes) ks) w left'
      ∙ ap (ahead c (map (written nodes) ks)) is
      ∙ l.is;
}

pub listed_end : (c : Chain) (old nodes new : List Node) (ks : List ℕ) (whole : Written) (n : ℕ) → Listed c old nodes ks (end_of c) whole → Grew nodes new (ahead c (map (written nodes) ks) (end_of c)) n → Grew old new whole n
listed_end c old nodes new ks whole n l g = record { extends = Extends-trans old nodes new l.extends g.extends; falls = g.falls; within = g.within; is = g.is ∙ l.is }

-- What is put of a list: those that are left, and those that are done.
pub record Chained (c : Chain) (old nodes : List Node) (whole left : List ℕ) (rest : ℕ) : Type 0 where
  pub done : List ℕ
  pub both : left ++ done ≡ whole
  pub grew : Grew old nodes (ahead c (map (written old) done) (end_of c)) rest

pub chained_begin : (c : Chain) (old nodes : List Node) (whole : List ℕ) (x : Node) (n : ℕ) → Grew old nodes (one x (written old)) n → one x (written old) ≡ end_of c → Chained c old nodes whole whole n
chained_begin c old nodes whole x n g is = record {
  done = [];
  both = append-nil whole;
  grew = subst (λ w. Grew old nodes w n) is g;
}

back_below : (left : List ℕ) (k : ℕ) (n : ℕ) → AreBelow (left ++ k ∷ []) n → k < n
back_below [] k n b = b.0
back_below (j ∷ left) k n b = back_below left k n b.1

-- the last of those that are left stands
pub last_below : (c : Chain) (old nodes : List Node) (whole left : List ℕ) (k rest : ℕ) → Chained c old nodes whole (left ++ k ∷ []) rest → AreBelow whole (length old) → k < length old
last_below c old nodes whole left k rest h b = back_below left k (length old) (below_front (left ++ k ∷ []) h.done (length old) (subst (λ ks. AreBelow ks (length old)) (sym h.both) b))

pub chained_more : (c : Chain) (old nodes new : List Node) (whole left : List ℕ) (k rest n : ℕ) (x : Node) → Chained c old nodes whole (left ++ k ∷ []) rest → AreBelow whole (length old) → Grew nodes new (one x (written nodes)) n → one x (written nodes) ≡ link c (written nodes k) (written nodes rest) → Chained c old new whole left n
chained_more c old nodes new whole left k rest n x h b g is = record {
  done = k ∷ h.done;
  both = sym (append_assoc left (k ∷ []) h.done) ∙ h.both;
  grew = grew_on old nodes new _ _ rest n h.grew (subst (λ w. Grew nodes new w n) (is ∙ ap (λ w. link c w (written nodes rest)) (h.grew.extends.same k (last_below c old nodes whole left k rest h b)) ∙ ap (link c (written old k)) h.grew.is) g);
}

pub chained_end : (c : Chain) (old nodes : List Node) (whole : List ℕ) (n : ℕ) → Chained c old nodes whole [] n → Grew old nodes (ahead c (map (written old) whole) (end_of c)) n
chained_end c old nodes whole n h = subst (λ ks. Grew old nodes (ahead c (map (written old) ks) (end_of c)) n) h.both h.grew

pub over_ok : {E : Type 0} (a b c : List Node) (w r : Written) (x : Node) (i : ℕ) (res : Result ℕ E) → Grew a b w i → IfOk res (λ n. Grew b c (one x (written b)) n) → ((f : ℕ → Written) → f i ≡ w → one x f ≡ r) → IfOk res (λ n. Grew a c r n)
over_ok a b c w r x i res g h is = ok_more (λ n. Grew b c (one x (written b)) n) (λ n. Grew a c r n) res (λ n k. grew_over a b c w r x i n g k is) h

pub both_ok : {E : Type 0} (a b c d : List Node) (v w r : Written) (x : Node) (i j : ℕ) (res : Result ℕ E) → Grew a b v i → Grew b c w j → IfOk res (λ n. Grew c d (one x (written c)) n) → ((f : ℕ → Written) → f i ≡ v → f j ≡ w → one x f ≡ r) → IfOk res (λ n. Grew a d r n)
both_ok a b c d v w r x i j res g h k is = ok_more (λ n. Grew c d (one x (written c)) n) (λ n. Grew a d r n) res (λ n m. grew_both a b c d v w r x i j n g h m is) k

pub called_ok : {E : Type 0} (a b c d : List Node) (t : Term) (ts : Terms) (r : Term → Terms → Written) (i j : ℕ) (res : Result ℕ E) → Grew a b (OfTerm t) i → Grew b c (OfTerms ts) j → IfOk res (λ n. (t' : Term) (ts' : Terms) → written c i ≡ OfTerm t' → written c j ≡ OfTerms ts' → Grew c d (r t' ts') n) → IfOk res (λ n. Grew a d (r t ts) n)
called_ok a b c d t ts r i j res g h k =
    ok_more (λ n. (t' : Term) (ts' : Terms) → written c i ≡ OfTerm t' → written c j ≡ OfTerms ts' → Grew c d (r t' ts') n) (λ n. Grew a d (r t ts) n) res (λ n m. grew_on a b d _ _ i n g (grew_on b c d _ _ j n h (m t ts (still a b c _ _ i j g h) h.is))) k

pub listed_ok : {E : Type 0} (c : Chain) (old nodes new : List Node) (ks : List ℕ) (whole : Written) (res : Result ℕ E) → Listed c old nodes ks (end_of c) whole → IfOk res (λ n. Grew nodes new (ahead c (map (written nodes) ks) (end_of c)) n) → IfOk res (λ n. Grew old new whole n)
listed_ok c old nodes new ks whole res l h = ok_more (λ n. Grew nodes new (ahead c (map (written nodes) ks) (end_of c)) n) (λ n. Grew old new whole n) res (λ n g. listed_end c old nodes new ks whole n l g) h

-- what is left of a list begins with its next thing
pub drop_step : {A : Type 0} (xs : List A) (i : ℕ) (x : A) → i < length xs → x ≡ get_or xs i x → drop i xs ≡ x ∷ drop (i + 1) xs
drop_step xs i x lt is = rw add-one (drop-cons xs i x lt ∙ ap (λ y. y ∷ drop (suc i) xs) (sym is))

pub drop_end : {A : Type 0} (xs : List A) (i : ℕ) → length xs ≤ i → drop i xs ≡ []
drop_end [] zero h = refl
drop_end [] (suc i) h = refl
drop_end (x ∷ xs) zero h = absurd (omega arith)
drop_end (x ∷ xs) (suc i) h = drop_end xs i (omega arith)
