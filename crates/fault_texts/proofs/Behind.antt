-- One piece of a line behind another.
use Rattle.std.proofs.Common.{◌≡◌, ℕ, List, ◌++◌, ap, sym, ◌∙◌, append_assoc}
use Rattle.std.specs.Prelude.{Result, Ok, Err, OnOk}

pub on_ok : {A E : Type 0} (P Q : Type 0) (r : Result A E) → (P → Q) → OnOk r P → OnOk r Q
on_ok P Q (Ok x) f p = f p
on_ok P Q (Err e) f p = tt

-- a text, one more piece, and another behind it
pub behind : (l p s b x y : List ℕ) → x ≡ l ++ p → y ≡ x ++ (s ++ b) → y ≡ l ++ ((p ++ s) ++ b)
behind l p s b x y e f = f ∙ ap (λ w. w ++ (s ++ b)) e ∙ append_assoc l p (s ++ b) ∙ ap (λ w. l ++ w) (sym (append_assoc p s b))
