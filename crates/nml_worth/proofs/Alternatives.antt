-- What alternatives are worth together.
use Rattle.std.proofs.Common.{◌≡◌, ℕ, zero, suc, ◌-◌, ◌<◌, ◌≤◌, Bool, true, false, List, [], ◌∷◌, map, drop, length, Option, Some, None, refl, ap, sym, subst, ◌∙◌, arith, option_map, Contains}
use Rattle.std.specs.Prelude.{slice_index_or, filter, if◌then◌else◌}
use Rattle.nml_tree.specs.declared.names.Name.{Name}
use Rattle.nml_tree.specs.declared.tree.Desc.{Desc}
use Rattle.nml_tree.specs.Table.{Text, declared, table}
use Rattle.nml_tree.specs.Worth as worth
use Rattle.nml_tree.specs.Worth.{greatest, is_rule, rule_worth, of_mode}
use Rattle.nml_worth.specs.declared.worth.Worth.{Worth}
use Rattle.nml_worth.specs.Rules.{AltKnown, alternative, best, greater, of_alternatives}
use Rattle.nml_worth.specs.Shown.{shown, seen}
use Rattle.nml_worth.proofs.Kept.{mode_kept}
use Rattle.nml_worth.proofs.Scopes.{dropped_at}

-- any of them
abbrev rules_of : Desc → List Text → List worth.Worth
rules_of d names = map (rule_worth (table d)) (filter (λ name. is_rule (declared (table d) name)) names)

abbrev some_greatest : List worth.Worth → Option worth.Worth
some_greatest [] = None
some_greatest (w ∷ ws) = Some (greatest (w ∷ ws))

greater_more : (w : worth.Worth) (ws : List worth.Worth) → greater (Some w) (some_greatest ws) ≡ Some (greatest (w ∷ ws))
greater_more w [] = refl
greater_more w (v ∷ ws) = refl

best_is : (d : Desc) (names : List Text) → best d names ≡ some_greatest (rules_of d names)
best_is d [] = refl
best_is d (n ∷ names) = by (is_rule (declared (table d) n)) (best_is d names)
  where
    none_first : (o : Option worth.Worth) → greater None o ≡ o
    none_first o = refl

    by : (b : Bool) → best d names ≡ some_greatest (rules_of d names)
        → greater (if b then Some (rule_worth (table d) n) else None) (best d names)
        ≡ some_greatest (map (rule_worth (table d)) (if b then n ∷ filter (λ name. is_rule (declared (table d) name)) names else filter (λ name. is_rule (declared (table d) name)) names))
    by true h = ap (greater (Some (rule_worth (table d) n))) h ∙ greater_more (rule_worth (table d) n) (rules_of d names)
    by false h = h

greatest_of : (ws : List worth.Worth) (w : worth.Worth) → some_greatest ws ≡ Some w → w ≡ greatest ws
greatest_of [] w h = absurd cc
greatest_of (v ∷ ws) w h = cc

no_greatest : (ws : List worth.Worth) → some_greatest ws ≡ None → greatest ws ≡ greatest []
no_greatest [] h = refl
no_greatest (v ∷ ws) h = absurd cc

pub modes_none : (d : Desc) (names : List Text) (o : Option worth.Worth) (w r : Worth) → o ≡ best d names → None ≡ option_map shown o → w ≡ shown (greatest []) → r ≡ shown (of_mode (seen w)) → r ≡ shown (of_alternatives d names)
modes_none d names None w r is none of made =
    made ∙ ap (λ z. shown (of_mode (seen z))) of ∙ mode_kept (greatest []) ∙ ap (λ z. shown (of_mode z)) (sym (no_greatest (rules_of d names) (sym (best_is d names) ∙ sym is)))
modes_none d names (Some x) w r is none of made = absurd cc

pub modes_some : (d : Desc) (names : List Text) (o : Option worth.Worth) (w r : Worth) → o ≡ best d names → Some w ≡ option_map shown o → r ≡ shown (of_mode (seen w)) → r ≡ shown (of_alternatives d names)
modes_some d names None w r is some made = absurd cc
modes_some d names (Some x) w r is some made =
    let e : w ≡ shown x = cc in
    made ∙ ap (λ z. shown (of_mode (seen z))) e ∙ mode_kept x ∙ ap (λ z. shown (of_mode z)) (greatest_of (rules_of d names) x (sym (best_is d names) ∙ sym is))

-- further alternatives, the last first
stands_in : (xs : List (ℕ × Name)) (j : ℕ) (e : ℕ × Name) → j < length xs → Contains (map (λ x. x.1.text) xs) (slice_index_or xs j e).1.text
stands_in [] j e low = absurd (omega (arith, low))
stands_in (x ∷ xs) zero e low = (0, omega arith, refl)
stands_in (x ∷ xs) (suc j) e low = let c = stands_in xs j e (omega (arith, low)) in (suc c.0, omega (arith, c.1), c.2)

pub alternative_at : (d : Desc) (worths : List Worth) (xs : List (ℕ × Name)) (i : ℕ) (e : ℕ × Name) → ((name : Text) → Contains (map (λ x. x.1.text) xs) name → AltKnown d worths name) → 0 < i → i ≤ length xs
    → AltKnown d worths (slice_index_or xs (i - 1) e).1.text
alternative_at d worths xs i e h some low = h _ (stands_in xs (i - 1) e (omega (arith, some, low)))

pub further_best : (d : Desc) (xs : List (ℕ × Name)) (i : ℕ) (e : ℕ × Name) (r : Option Worth) → 0 < i → i ≤ length xs
    → r ≡ option_map shown (greater (alternative d (slice_index_or xs (i - 1) e).1.text) (best d (map (λ x. x.1.text) (drop i xs))))
    → r ≡ option_map shown (best d (map (λ x. x.1.text) (drop (i - 1) xs)))
further_best d xs i e r some low is =
    let n : suc (i - 1) ≡ i = omega (arith, some) in
    is ∙ ap (λ m. option_map shown (greater (alternative d (slice_index_or xs (i - 1) e).1.text) (best d (map (λ x. x.1.text) (drop m xs))))) (sym n)
    ∙ ap (λ ys. option_map shown (best d (map (λ x. x.1.text) ys))) (sym (dropped_at xs (i - 1) e (omega (arith, some, low))))

-- those behind the first
pub rest_known : (d : Desc) (worths : List Worth) (first : Text) (rest xs : List (ℕ × Name)) → xs ≡ rest → ((name : Text) → Contains (first ∷ map (λ x. x.1.text) rest) name → AltKnown d worths name)
    → (name : Text) → Contains (map (λ x. x.1.text) xs) name → AltKnown d worths name
rest_known d worths first rest xs is h name c =
    let e : Contains (map (λ x. x.1.text) rest) name = subst (λ ys. Contains (map (λ x. x.1.text) ys) name) is c in
    h name (suc e.0, omega (arith, e.1), e.2)
