-- Lists that grow at their end.
use Rattle.std.proofs.Common.{◌≡◌, sym, ap, ◌∙◌, List, [], ◌++◌, append-nil, append_assoc}
use Rattle.std.specs.Result.{OnOk}
use Rattle.std.specs.declared.result.Result.{Result}
use Rattle.c_walk.proofs.Loops.{ok_map}

-- by nothing
pub grown_none : {A : Type 0} (xs : List A) → xs ≡ xs ++ []
grown_none xs = sym (append-nil xs)

-- by two lists, one behind the other
pub grown_both : {A T E : Type 0} (old mid new ts us : List A) (r : Result T E) → mid ≡ old ++ ts → OnOk r (new ≡ mid ++ us) → OnOk r (new ≡ old ++ (ts ++ us))
grown_both old mid new ts us r first h =
    ok_map r (new ≡ mid ++ us) (new ≡ old ++ (ts ++ us)) (λ e. e ∙ ap (λ xs. xs ++ us) first ∙ append_assoc old ts us) h
