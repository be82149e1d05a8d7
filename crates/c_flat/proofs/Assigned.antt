-- `+=` and `-=` as an assignment of a sum and of a difference.
use Rattle.std.proofs.Common.{◌≡◌, ℕ, List, Option, Some, None, refl, ap, ◌∙◌}
use Rattle.std.specs.Result.{IfOk}
use Rattle.std.specs.declared.result.Result.{Result}
use Rattle.ir_core.specs.declared.operator.Arith.{Arith}
use Rattle.ir_core.specs.declared.operator.Arith.TheVariants as arith
use Rattle.c_tree.specs.declared.statement.AssignMark.{AssignMark}
use Rattle.c_tree.specs.declared.statement.AssignMark.TheVariants as store
use Rattle.c_tree.specs.declared.meaning.Meaning.{Meaning}
use Rattle.c_tree.specs.declared.meaning.Meaning.TheVariants.{OneCell, Cells, Callee, Main, In, Out}
use Rattle.c_tree.specs.Program.{Term, Arithmetic}
use Rattle.c_tree.specs.Resolve.{scalar, assigned}
use Rattle.c_flat.specs.declared.node.Node.{Node}
use Rattle.c_flat.specs.Written.{Written, OfTerm, OfCommand, as_term, one, written, Grew}
use Rattle.c_flat.proofs.Grown.{grew_over}
use Rattle.c_flat.proofs.Chained.{ok_more}

pub added : (m : Option Meaning) (at : ℕ) (t : Term) → assigned m None (store.Set at) (Arithmetic arith.Add (scalar m) t) ≡ assigned m None (store.Add at) t
added None at t = refl
added (Some (OneCell p)) at t = refl
added (Some (Cells p n)) at t = refl
added (Some (Callee f k g)) at t = refl
added (Some Main) at t = refl
added (Some In) at t = refl
added (Some Out) at t = refl

pub taken_off : (m : Option Meaning) (at : ℕ) (t : Term) → assigned m None (store.Set at) (Arithmetic arith.Sub (scalar m) t) ≡ assigned m None (store.Sub at) t
taken_off None at t = refl
taken_off (Some (OneCell p)) at t = refl
taken_off (Some (Cells p n)) at t = refl
taken_off (Some (Callee f k g)) at t = refl
taken_off (Some Main) at t = refl
taken_off (Some In) at t = refl
taken_off (Some Out) at t = refl

pub changed_ok : {E : Type 0} (a b c : List Node) (m : Option Meaning) (mark : AssignMark) (op : Arith) (at v i : ℕ) (x : Node) (res : Result ℕ E) → ((t : Term) → assigned m None (store.Set at) (Arithmetic op (scalar m) t) ≡ assigned m None mark t) → Grew a b (OfTerm (Arithmetic op (scalar m) (as_term (written a v)))) i → ((f : ℕ → Written) (at : ℕ) (t : Term) → f i ≡ OfTerm t → one x f ≡ OfCommand (assigned m None (store.Set at) t)) → IfOk res (λ n. Grew b c (one x (written b)) n) → IfOk res (λ n. (t : Term) → written a v ≡ OfTerm t → Grew a c (OfCommand (assigned m None mark t)) n)
changed_ok a b c m mark op at v i x res same g is h =
    ok_more (λ n. Grew b c (one x (written b)) n) (λ n. (t : Term) → written a v ≡ OfTerm t → Grew a c (OfCommand (assigned m None mark t)) n) res (λ n k t told.
    grew_over a b c _ _ x i n g k (λ f p. is f at _ p ∙ ap (λ u. OfCommand (assigned m None (store.Set at) (Arithmetic op (scalar m) u))) (ap as_term told) ∙ ap OfCommand (same t))) h
