-- Initial values, one global variable after the other.
use Rattle.std.proofs.Common.{◌≡◌, sym, ap, ◌∙◌, ℕ, ◌+◌, ◌<◌, ℤ, List, ◌++◌, append_assoc, map, filter, drop, length, get_or}
use Rattle.std.specs.Prelude.{not}
use Rattle.c_flat.proofs.Chained.{drop_step}
use Rattle.c_tree.specs.Program.{GlobalVariable, size}
use Rattle.c_tree.specs.Lowered.{numbered, is_zero, initial_among}

-- what is left behind the values of a variable
pub values_step : {V : Type 0} (shown : V → GlobalVariable) (vs : List V) (i : ℕ) (v : V) (cell next : ℕ) (old new whole : List (ℕ × ℤ))
    → i < length vs → v ≡ get_or vs i v
    → new ≡ old ++ filter (λ (k, z). not (is_zero z)) (numbered cell (shown v).initial) → next ≡ cell + size (shown v).shape
    → old ++ initial_among cell (map shown (drop i vs)) ≡ whole → new ++ initial_among next (map shown (drop (i + 1) vs)) ≡ whole
values_step shown vs i v cell next old new whole within at new_is next_is whole_is =
    let rest = initial_among (cell + size (shown v).shape) (map shown (drop (i + 1) vs)) in
    let mine = filter (λ (k, z). not (is_zero z)) (numbered cell (shown v).initial) in
    ap (λ k. new ++ initial_among k (map shown (drop (i + 1) vs))) next_is ∙ ap (λ l. l ++ rest) new_is ∙ append_assoc old mine rest
    ∙ ap (λ l. old ++ initial_among cell (map shown l)) (sym (drop_step vs i v within at)) ∙ whole_is
