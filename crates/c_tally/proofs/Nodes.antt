-- What is counted of a node is what is counted of what it writes out.
use Rattle.std.proofs.Common.{◌≡◌, ℕ, ◌+◌, ◌<◌, ◌≤◌, List, [], ◌∷◌, ◌++◌, length, Some, refl, ap, sym, ◌∙◌, arith, length-append, ⊎_elim}
use Rattle.std.proofs.lemmas.Bool.{cases_lt}
use Rattle.std.specs.Prelude.{slice_get}
use Rattle.c_flat.specs.declared.node.Node.{Node}
use Rattle.c_flat.specs.declared.node.Node.TheVariants as node
use Rattle.c_flat.specs.Written.{Written, OfTerm, OfTerms, OfCommand, as_term, as_terms, as_command, one, written, IsBelow, Falls}
use Rattle.c_flat.proofs.Grown.{written_at, slice_get_front, slice_get_seam}
use Rattle.c_tally.specs.declared.tally.Tally.{Tally}
use Rattle.c_tally.specs.declared.tally.Tally.TheVariants as tally
use Rattle.c_tally.specs.Tallied.{term_tally, terms_tally, command_tally, tallied}
use Rattle.c_tally.specs.Over.{term_of, terms_of, command_of, term_at, terms_at, command_at, counted}
use Rattle.c_tally.proofs.Laws.{scalar_law, arithmetic_law, compare_law, and_law, or_law, more_law, if_else_law, do_law, forever_law, for_law, return_law}

-- what is counted of a part, by what it writes out
term_of_tallied : (w : Written) → term_of (Some (tallied w)) ≡ term_tally (as_term w)
term_of_tallied (OfTerm t) = refl
term_of_tallied (OfTerms ts) = refl
term_of_tallied (OfCommand c) = refl

-- the same of arguments
terms_of_tallied : (w : Written) → terms_of (Some (tallied w)) ≡ terms_tally (as_terms w)
terms_of_tallied (OfTerm t) = refl
terms_of_tallied (OfTerms ts) = refl
terms_of_tallied (OfCommand c) = refl

-- the same of a command
command_of_tallied : (w : Written) → command_of (Some (tallied w)) ≡ command_tally (as_command w)
command_of_tallied (OfTerm t) = refl
command_of_tallied (OfTerms ts) = refl
command_of_tallied (OfCommand c) = refl

-- The first n nodes are counted.
pub record FrontTallied (nodes : List Node) (n : ℕ) (f : List Tally) : Type 0 where
  pub long : length f ≡ n
  pub each : (k : ℕ) → k < n → slice_get f k ≡ Some (tallied (written nodes k))

-- what is found of an expression among the first nodes
term_is : (nodes : List Node) (n : ℕ) (f : List Tally) → FrontTallied nodes n f → (k : ℕ) → k < n → term_at f k ≡ term_tally (as_term (written nodes k))
term_is nodes n f front k h = ap term_of (front.each k h) ∙ term_of_tallied (written nodes k)

-- the same of arguments
terms_are : (nodes : List Node) (n : ℕ) (f : List Tally) → FrontTallied nodes n f → (k : ℕ) → k < n → terms_at f k ≡ terms_tally (as_terms (written nodes k))
terms_are nodes n f front k h = ap terms_of (front.each k h) ∙ terms_of_tallied (written nodes k)

-- the same of a command
command_is : (nodes : List Node) (n : ℕ) (f : List Tally) → FrontTallied nodes n f → (k : ℕ) → k < n → command_at f k ≡ command_tally (as_command (written nodes k))
command_is nodes n f front k h = ap command_of (front.each k h) ∙ command_of_tallied (written nodes k)

-- what is counted of a node over the first nodes is what is counted of what it writes out
counted_is : (nodes : List Node) (n : ℕ) (f : List Tally) → FrontTallied nodes n f → (x : Node) → IsBelow x n → counted x f ≡ tallied (one x (written nodes))
counted_is nodes n f front (node.Number z) b = refl
counted_is nodes n f front (node.Scalar p) b = ap tally.Term (scalar_law p)
counted_is nodes n f front (node.Element p m i) b = rw (term_is nodes n f front i b.0) refl
counted_is nodes n f front node.Input b = refl
counted_is nodes n f front (node.Call g xs) b = rw (terms_are nodes n f front xs b.0) refl
counted_is nodes n f front (node.Unary op x) b = rw (term_is nodes n f front x b.0) refl
counted_is nodes n f front (node.Shifted op x by) b = rw (term_is nodes n f front x b.0) refl
counted_is nodes n f front (node.Arithmetic op x y) b = rw (term_is nodes n f front x b.0, term_is nodes n f front y b.1.0) (ap tally.Term (arithmetic_law op (as_term (written nodes x)) (as_term (written nodes y))))
counted_is nodes n f front (node.Compare r x y) b = rw (term_is nodes n f front x b.0, term_is nodes n f front y b.1.0) (ap tally.Term (compare_law r (as_term (written nodes x)) (as_term (written nodes y))))
counted_is nodes n f front (node.Not x) b = rw (term_is nodes n f front x b.0) refl
counted_is nodes n f front (node.AndAlso x y) b = rw (term_is nodes n f front x b.0, term_is nodes n f front y b.1.0) (ap tally.Term (and_law (as_term (written nodes x)) (as_term (written nodes y))))
counted_is nodes n f front (node.OrElse x y) b = rw (term_is nodes n f front x b.0, term_is nodes n f front y b.1.0) (ap tally.Term (or_law (as_term (written nodes x)) (as_term (written nodes y))))
counted_is nodes n f front node.NoMore b = refl
counted_is nodes n f front (node.More x xs) b = rw (term_is nodes n f front x b.0, terms_are nodes n f front xs b.1.0) (ap tally.Arguments (more_law (as_term (written nodes x)) (as_terms (written nodes xs))))
counted_is nodes n f front node.Skip b = refl
counted_is nodes n f front (node.Seq x y) b = rw (command_is nodes n f front x b.0, command_is nodes n f front y b.1.0) refl
counted_is nodes n f front (node.Turn x) b = rw (command_is nodes n f front x b.0) refl
counted_is nodes n f front (node.Set p e) b = rw (term_is nodes n f front e b.0) refl
counted_is nodes n f front (node.Store p m i e) b = rw (term_is nodes n f front i b.0, term_is nodes n f front e b.1.0) refl
counted_is nodes n f front (node.Change p m i op e) b = rw (term_is nodes n f front i b.0, term_is nodes n f front e b.1.0) refl
counted_is nodes n f front (node.Print e) b = rw (term_is nodes n f front e b.0) refl
counted_is nodes n f front node.Take b = refl
counted_is nodes n f front (node.Invoke g xs) b = rw (terms_are nodes n f front xs b.0) refl
counted_is nodes n f front (node.If e x) b = rw (term_is nodes n f front e b.0, command_is nodes n f front x b.1.0) refl
counted_is nodes n f front (node.IfElse e x y) b = rw (term_is nodes n f front e b.0, command_is nodes n f front x b.1.0, command_is nodes n f front y b.1.1.0) (ap tally.Command (if_else_law (as_term (written nodes e)) (as_command (written nodes x)) (as_command (written nodes y))))
counted_is nodes n f front (node.While e x) b = rw (term_is nodes n f front e b.0, command_is nodes n f front x b.1.0) refl
counted_is nodes n f front (node.Do x e) b = rw (command_is nodes n f front x b.0, term_is nodes n f front e b.1.0) (ap tally.Command (do_law (as_command (written nodes x)) (as_term (written nodes e))))
counted_is nodes n f front (node.Forever st x) b = rw (command_is nodes n f front st b.0, command_is nodes n f front x b.1.0) (ap tally.Command (forever_law (as_command (written nodes st)) (as_command (written nodes x))))
counted_is nodes n f front (node.For e st x) b = rw (term_is nodes n f front e b.0, command_is nodes n f front st b.1.0, command_is nodes n f front x b.1.1.0) (ap tally.Command (for_law (as_term (written nodes e)) (as_command (written nodes st)) (as_command (written nodes x))))
counted_is nodes n f front node.Break b = refl
counted_is nodes n f front node.Continue b = refl
counted_is nodes n f front node.Return b = refl
counted_is nodes n f front (node.ReturnWith e) b = rw (term_is nodes n f front e b.0) (ap tally.Command (return_law (as_term (written nodes e))))

-- one node more
pub front_more : (nodes : List Node) (n : ℕ) (f : List Tally) (x : Node) (r : Tally) → Falls nodes → FrontTallied nodes n f → slice_get nodes n ≡ Some x → r ≡ counted x f
    → FrontTallied nodes (n + 1) (f ++ r ∷ [])
front_more nodes n f x r falls front at is = record {
  long = omega (arith, length-append f (r ∷ []), front.long);
  each = λ k h.
      ⊎_elim
      (λ (lt : k < n). slice_get_front f (r ∷ []) k (omega (arith, front.long, lt)) ∙ front.each k lt)
      (λ (le : n ≤ k).
      let here : k ≡ n = omega (arith, h, le) in
      let new : r ≡ tallied (written nodes n) = is ∙ counted_is nodes n f front x (falls.each n x at) ∙ ap tallied (sym (written_at nodes n x at (falls.each n x at))) in
      slice_get_seam f r k (omega (arith, front.long, here)) ∙ ap Some (new ∙ ap (λ j. tallied (written nodes j)) (sym here)))
      (cases_lt k n);
}
