-- Runs of small programs with numbers of 16 bits, each by computation.
use Rattle.std.specs.Prelude.{◌≡◌, refl, ℕ, ℤ, pos, negsuc, List, [], ◌∷◌, ◌++◌, replicate}
use Rattle.nk_outside.specs.Outcome.{Outcome}
use Rattle.nk_outside.specs.declared.stop.Stop.{Stop}
use Rattle.nk_outside.specs.declared.stop.Stop.TheVariants as stops
use Rattle.c_tree.specs.Items.{Item}
use Rattle.c_tree.specs.Resolve.{resolved_items}
use Rattle.c_tree.specs.Meaning.{outcome}
use Rattle.c_tree.specs.Texts.{echo, four, wrapped, array, filter, forever, kept, saved, nested, short_cut, loops, chained, no_value, hidden}

abbrev pub runs : List Item → List ℤ → ℕ → Outcome
runs gs input turns = outcome (resolved_items gs) 16 input turns

abbrev pub puts : List ℤ → Stop → Outcome
puts out stop = record { out = out; stop = stop }

-- the greatest number and 1 is the least one
echo_wraps : runs echo ((pos 32767) ∷ []) 9 ≡ puts ((negsuc 32767) ∷ []) stops.Ended
echo_wraps = refl

echo_wants : runs echo [] 9 ≡ puts [] stops.Wants
echo_wants = refl

-- what was put out before stays
four_wants : runs four [] 9 ≡ puts ((pos 4) ∷ []) stops.Wants
four_wants = refl

-- one turn is paid, and the second would be one too many
four_runs : runs four [] 1 ≡ puts ((pos 4) ∷ []) stops.Running
four_runs = refl

-- a sum is wrapped before it is compared
sum_is_wrapped : runs wrapped ((pos 32767) ∷ []) 9 ≡ puts ((pos 1) ∷ []) stops.Ended
sum_is_wrapped = refl

-- an index is tested before the right side is evaluated
past_the_array : runs array ((pos 3) ∷ []) 9 ≡ puts ((pos 7) ∷ []) (stops.Trap 1)
past_the_array = refl

before_the_array : runs array ((negsuc 0) ∷ []) 9 ≡ puts ((pos 7) ∷ []) (stops.Trap 1)
before_the_array = refl

in_the_array : runs array ((pos 2) ∷ []) 9 ≡ puts ((pos 7) ∷ (pos 5) ∷ []) stops.Ended
in_the_array = refl

-- the statement, a test, `;`, a test, `;`: five turns, and the next test is one too many
goes_on : runs forever [] 5 ≡ puts [] stops.Running
goes_on = refl

-- a local without an initial value keeps what it held; one with an initial value gets it each time
locals_stay : runs kept [] 20 ≡ puts ((pos 1) ∷ (pos 6) ∷ (pos 2) ∷ (pos 7) ∷ []) stops.Ended
locals_stay = refl

-- from left to right: 3 is read before the call, 4 behind it
read_before_the_call : runs saved [] 20 ≡ puts ((pos 19) ∷ []) stops.Ended
read_before_the_call = refl

-- all arguments are evaluated before the parameters get them
arguments_first : runs nested [] 20 ≡ puts ((pos 5) ∷ []) stops.Ended
arguments_first = refl

right_side_where_needed : runs short_cut [] 40 ≡ puts ((pos 0) ∷ (pos 0) ∷ (pos 2) ∷ (pos 1) ∷ (pos 0) ∷ (pos 1) ∷ []) stops.Ended
right_side_where_needed = refl

left_and_gone_on : runs loops [] 60 ≡ puts ((pos 0) ∷ (pos 1) ∷ (pos 3) ∷ (pos 2) ∷ []) stops.Ended
left_and_gone_on = refl

-- the index is evaluated once and tested first, so the last call for 9 doesn't come
index_once : runs chained [] 40 ≡ puts ((pos 1) ∷ (pos 5) ∷ (negsuc 0) ∷ (pos 5) ∷ (pos 2) ∷ []) (stops.Trap 1)
index_once = refl

-- a function that reaches its end gives 0; what `main` returns is dropped
zero_at_the_end : runs no_value [] 40 ≡ puts ((pos 7) ∷ (pos 0) ∷ []) stops.Ended
zero_at_the_end = refl

-- in `int x = x + 1` both are the new x, which holds 0
seen_from_its_name_on : runs hidden [] 40 ≡ puts ((pos 1) ∷ (pos 2) ∷ []) stops.Ended
seen_from_its_name_on = refl

-- a filter on the number 1 and 31 zeros gives its coefficients back, in so many turns and no fewer
filtered : runs filter (pos 1 ∷ replicate 31 (pos 0)) 2245 ≡ puts (((pos 1) ∷ (pos 2) ∷ (pos 3) ∷ (pos 4) ∷ (pos 5) ∷ (pos 6) ∷ (pos 7) ∷ (pos 8) ∷ (pos 8) ∷ (pos 7) ∷ (pos 6) ∷ (pos 5) ∷ (pos 4) ∷ (pos 3) ∷ (pos 2) ∷ (pos 1) ∷ []) ++ replicate 16 (pos 0)) stops.Ended
filtered = refl

not_filtered : runs filter (pos 1 ∷ replicate 31 (pos 0)) 2244 ≡ puts (((pos 1) ∷ (pos 2) ∷ (pos 3) ∷ (pos 4) ∷ (pos 5) ∷ (pos 6) ∷ (pos 7) ∷ (pos 8) ∷ (pos 8) ∷ (pos 7) ∷ (pos 6) ∷ (pos 5) ∷ (pos 4) ∷ (pos 3) ∷ (pos 2) ∷ (pos 1) ∷ []) ++ replicate 16 (pos 0)) stops.Running
not_filtered = refl
