-- Pieces that a sink took one after another.
use Rattle.std.proofs.Common.{List, ℕ, ◌++◌, Option, Some, None, ap, ◌∙◌, sym, append_assoc}
use Rattle.nk_outside.specs.Taken.{Took, TookFront}

pub took_append : (a b c : Option (List ℕ)) (x y : List ℕ) → Took a b x → Took b c y → Took a c (x ++ y)
took_append None None None x y p q = tt
took_append (Some a) (Some b) (Some c) x y p q = q ∙ ap (λ l. l ++ y) p ∙ append_assoc a x y
took_append None None (Some c) x y p q = absurd q
took_append None (Some b) c x y p q = absurd p
took_append (Some a) None c x y p q = absurd p
took_append (Some a) (Some b) None x y p q = absurd q

-- a piece, and a front of the next
pub front_after : (a b c : Option (List ℕ)) (x y : List ℕ) → Took a b x → TookFront b c y → TookFront a c (x ++ y)
front_after a b c x y p q = (x ++ q.0, (q.1.0, append_assoc x q.0 q.1.0 ∙ ap (λ l. x ++ l) q.1.1), took_append a b c x q.0 p q.2)

-- a front of the first piece alone
pub front_of_first : (a b : Option (List ℕ)) (x y : List ℕ) → TookFront a b x → TookFront a b (x ++ y)
front_of_first a b x y p = (p.0, (p.1.0 ++ y, sym (append_assoc p.0 p.1.0 y) ∙ ap (λ l. l ++ y) p.1.1), p.2)
