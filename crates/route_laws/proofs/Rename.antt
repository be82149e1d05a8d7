-- Cells that no one names may be one cell.
use Rattle.std.proofs.Common.{◌≡◌, ℕ, refl, sym, ap, ◌∙◌, true≢false}
use Rattle.std.specs.Prelude.{Bool, true, false, eqb, List, if◌then◌else◌}
use Rattle.std.proofs.lemmas.Bool.{eqb-true}
use Rattle.route_laws.specs.Search.{is_seen, rename}

apart_by : (ns : List ℕ) (d e : ℕ) (b : Bool) → eqb e d ≡ b → is_seen d ns ≡ true → is_seen e ns ≡ false → b ≡ false
apart_by ns d e false is p q = refl
apart_by ns d e true is p q = absurd (true≢false (sym p ∙ ap (λ n. is_seen n ns) (sym (eqb-true e d is)) ∙ q))

named_alike : (ns : List ℕ) (r c d : ℕ) (b : Bool) → is_seen c ns ≡ b → is_seen d ns ≡ true → is_seen r ns ≡ false
    → eqb (if b then c else r) d ≡ eqb c d
named_alike ns r c d true is p q = refl
named_alike ns r c d false is p q = apart_by ns d r (eqb r d) refl p q ∙ sym (apart_by ns d c (eqb c d) refl p is)

-- a renamed cell is one of the list exactly where the cell itself is it
pub rename_named : (ns : List ℕ) (r c d : ℕ) → is_seen d ns ≡ true → is_seen r ns ≡ false → eqb (rename ns r c) d ≡ eqb c d
rename_named ns r c d p q = named_alike ns r c d (is_seen c ns) refl p q
