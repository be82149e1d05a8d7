-- A program that has no fault, want of memory apart, is accepted.
use Rattle.std.proofs.Common.{ℕ, zero, suc, ◌≡◌, ◌≤◌, ◌<◌, ◌⊎◌, inl, inr, refl, arith, Bool, true, false, List, [], ◌∷◌, length, Option, Some, None, slice_get, if◌then◌else◌}
use Rattle.c_tree.specs.declared.fault.CFault.{CFault}
use Rattle.c_tree.specs.declared.fault.CFault.TheVariants as fault
use Rattle.c_tree.specs.Items.{Definition, Item, Variables, Defines}
use Rattle.c_tree.specs.Names.{Names, functions_in, is_main, parameters, behind_global, before_body, first_names}
use Rattle.c_tree.specs.Resolve.{body_of}
use Rattle.c_tree.specs.Faults.{faults, bad_names, bad_kinds, bad_numbers, bad_shifts}
use Rattle.c_tree.specs.Recursion.{Among, Graph, row, graph, calls_of, Reaches, at_once, over, IsAcyclic, others, main_of, body_callees, IsFirstRecursive}
use Rattle.c_tree.specs.Accepted.{IsLeast, HasNoMain, IsAccepted, IsFaultOf}
use Rattle.c_check.specs.Note.{noted_places}
use Rattle.c_check.proofs.Firsts.{least_of, none_of, none_left}

-- places of which none is the least are none
nowhere : (xs : List ℕ) → ((at : ℕ) → IsLeast xs at → ⊥) → xs ≡ []
nowhere xs none = by (noted_places None xs) refl
  where
    by : (o : Option ℕ) → noted_places None xs ≡ o → xs ≡ []
    by None is = none_of xs is
    by (Some at) is = absurd (none at (least_of xs at is))

-- ---- calls

le_or_lt : (a b : ℕ) → (a ≤ b) ⊎ (b < a)
le_or_lt zero b = inl (omega arith)
le_or_lt (suc a) zero = inr (omega arith)
le_or_lt (suc a) (suc b) = elim (le_or_lt a b) [ inl h ↦ inl (omega (arith, h)) | inr h ↦ inr (omega (arith, h)) ]

row_or : (m : Bool) (r : List ℕ) (g : Graph) (f : Definition) (fs : List Definition) (a b : ℕ) → ((k : ℕ) → Among (row g k) b → (h : Definition) × (slice_get fs k ≡ Some h)) → Among (row (if m then g else r ∷ g) a) b
    → (h : Definition) × (slice_get (if m then fs else f ∷ fs) a ≡ Some h)
row_or true r g f fs a b rest at = rest a at
row_or false r g f fs zero b rest at = (f, refl)
row_or false r g f fs (suc a) b rest at = rest a at

-- what calls is a function
caller : (s : Names) (gs : List Item) (a b : ℕ) → Among (row (graph s gs) a) b → (h : Definition) × (slice_get (others (functions_in gs)) a ≡ Some h)
caller s [] a b at = absurd at
caller s (Variables v ∷ gs) a b at = caller (behind_global s (Variables v)) gs a b at
caller s (Defines f ∷ gs) a b at =
    row_or (is_main f) (body_callees (before_body s f) (body_of f.braces)) (graph (behind_global s (Defines f)) gs) f (others (functions_in gs)) a b
    (λ k. caller (behind_global s (Defines f)) gs k b) at

reaching : (gs : List Item) (a b : ℕ) → Reaches (calls_of gs) a b → (h : Definition) × (slice_get (others (functions_in gs)) a ≡ Some h)
reaching gs a b (at_once e) = caller (first_names gs) gs a b e
reaching gs a b (over {b = m} e more) = caller (first_names gs) gs a m e

-- where no function is the first that reaches itself, none reaches itself
none_first : (gs : List Item) → ((name : List ℕ) → IsFirstRecursive gs name → ⊥) → (n k : ℕ) → k < n → Reaches (calls_of gs) k k → ⊥
none_first gs none zero k low r = absurd (omega (arith, low))
none_first gs none (suc n) k low r =
    let f = reaching gs k k r in
    none f.0.name.text (record {
      number = k;
      function = f.0;
      is = f.1;
      named = refl;
      recursive = r;
      first = λ j s. elim (le_or_lt k j) [ inl le ↦ le | inr lt ↦ absurd (none_first gs none n j (omega (arith, low, lt)) s) ];
    })

-- ---- `main`

main_there : (gs : List Item) → (HasNoMain gs → ⊥) → (f : Definition) × (main_of (functions_in gs) ≡ Some f) × (length (parameters f.params) ≡ 0)
main_there gs none = by (main_of (functions_in gs)) refl
  where
    with : (f : Definition) (k : ℕ) → main_of (functions_in gs) ≡ Some f → length (parameters f.params) ≡ k → (g : Definition) × (main_of (functions_in gs) ≡ Some g) × (length (parameters g.params) ≡ 0)
    with f zero is e = (f, is, e)
    with f (suc k) is e = absurd (none (inr (f, is, omega (arith, e))))

    by : (o : Option Definition) → main_of (functions_in gs) ≡ o → (f : Definition) × (main_of (functions_in gs) ≡ Some f) × (length (parameters f.params) ≡ 0)
    by None is = absurd (none (inl is))
    by (Some f) is = with f (length (parameters f.params)) is refl

-- ---- all of it

faultless : (gs : List Item) (n : ℕ) → ((f : CFault) → IsFaultOf gs n f → f ≡ fault.Memory) → faults gs n ≡ []
faultless gs n none =
    let names = nowhere (bad_names gs n) (λ at l. absurd (let e = none (fault.Name at) l in cc)) in
    let kinds = nowhere (bad_kinds gs n) (λ at l. absurd (let e = none (fault.Kind at) (names, l) in cc)) in
    let numbers = nowhere (bad_numbers gs n) (λ at l. absurd (let e = none (fault.Literal at) (names, kinds, l) in cc)) in
    let shifts = nowhere (bad_shifts gs n) (λ at l. absurd (let e = none (fault.Shift at) (names, kinds, numbers, l) in cc)) in
    none_left (faults gs n) names kinds numbers shifts

pub accepted_if_none : (gs : List Item) (n : ℕ) → ((f : CFault) → IsFaultOf gs n f → f ≡ fault.Memory) → IsAccepted gs n
accepted_if_none gs n none =
    let free = faultless gs n none in
    let acyclic : IsAcyclic (calls_of gs) = λ f r. none_first gs (λ name h. absurd (let e = none (fault.Recursion name) (free, h) in cc)) (suc f) f (omega arith) r in
    let main = main_there gs (λ h. absurd (let e = none fault.Main (free, acyclic, h) in cc)) in
    record { faultless = free; acyclic = acyclic; main = main }
