-- The numbers of an input's lines are of its type.
use Rattle.std.proofs.Common.{ℕ, ◌+◌, ◌-◌, ◌^◌, ℤ, pos, negsuc, ◌≤ℤ◌, ◌<ℤ◌, List, [], ◌∷◌, ◌++◌, ◌≡◌, arith, refl, subst, Bool, true, false, Option, Some, None, Result, Ok, Err}
use Rattle.std.specs.Prelude.{int_le, int_lt, neg_ℤ, if◌then◌else◌}
use Rattle.std.specs.List.{list_all}
use Rattle.std.proofs.lemmas.Bool.{and_parts}
use Rattle.std.proofs.lemmas.Int.{ints}
use Rattle.std.proofs.lemmas.Nat.{pow_pos}
use Rattle.nk_base.specs.Byte.{is_blank}
use Rattle.nk_base.specs.declared.number.Ty.{Ty}
use Rattle.nk_base.specs.declared.number.Ty.TheVariants as tys
use Rattle.nk_base.specs.Number.{InRange}
use Rattle.nk_range.specs.Range.{is_in_range}
use Rattle.nml_tree.specs.declared.tree.Desc.{Desc}
use Rattle.nml_tree.specs.Table.{table}
use Rattle.nml_tree.specs.Refused.{IsTyped}
use Rattle.attr_exec.specs.Ready.{NextFits}
use Rattle.input_lines.specs.Input.{behind_blanks, signed_number, is_wanted, within, numbers_in, in_front, with_line, numbers_from, numbers, lines}
use Rattle.input_port.specs.Port.{input_type, AllFit}
use Rattle.input_port.proofs.Alone.{declared_input}

-- each is a number of the type
abbrev AllWanted : Option Ty → List ℤ → Type 0
AllWanted ty [] = Unit {0}
AllWanted ty (z ∷ zs) = (is_wanted ty z ≡ true) × AllWanted ty zs

wanted_append : (ty : Option Ty) (xs ys : List ℤ) → AllWanted ty xs → AllWanted ty ys → AllWanted ty (xs ++ ys)
wanted_append ty [] ys h k = k
wanted_append ty (x ∷ xs) ys h k = (h.0, wanted_append ty xs ys h.1 k)

wanted_one : (ty : Option Ty) (z : ℤ) (zs : List ℤ) (b : Bool) → is_wanted ty z ≡ b → (if b then Some (z ∷ []) else None) ≡ Some zs → AllWanted ty zs
wanted_one ty z zs true is h = let e : z ∷ [] ≡ zs = cc in subst (AllWanted ty) e (is, tt)
wanted_one ty z zs false is h = absurd cc

wanted_within : (ty : Option Ty) (o : Option ℤ) (zs : List ℤ) → within ty o ≡ Some zs → AllWanted ty zs
wanted_within ty None zs h = absurd cc
wanted_within ty (Some z) zs h = wanted_one ty z zs (is_wanted ty z) refl h

wanted_line : (ty : Option Ty) (o : Option ℤ) (zs : List ℤ) (b : Bool) → (if b then Some [] else within ty o) ≡ Some zs → AllWanted ty zs
wanted_line ty o zs true h = let e : [] ≡ zs = cc in subst (AllWanted ty) e tt
wanted_line ty o zs false h = wanted_within ty o zs h

front_wanted : (ty : Option Ty) (zs found : List ℤ) (r : Result (List ℤ) ℕ) → AllWanted ty zs → ((more : List ℤ) → r ≡ Ok more → AllWanted ty more) → in_front zs r ≡ Ok found → AllWanted ty found
front_wanted ty zs found (Ok more) h k e = let same : zs ++ more ≡ found = cc in subst (AllWanted ty) same (wanted_append ty zs more h (k more refl))
front_wanted ty zs found (Err line) h k e = absurd cc

line_wanted : (ty : Option Ty) (o : Option (List ℤ)) (line : ℕ) (found : List ℤ) (r : Result (List ℤ) ℕ) → ((zs : List ℤ) → o ≡ Some zs → AllWanted ty zs) → ((more : List ℤ) → r ≡ Ok more → AllWanted ty more) → with_line o line r ≡ Ok found → AllWanted ty found
line_wanted ty None line found r h k e = absurd cc
line_wanted ty (Some zs) line found r h k e = front_wanted ty zs found r (h zs refl) k e

all_wanted : (ty : Option Ty) (number : ℕ) (ls : List (List ℕ)) (found : List ℤ) → numbers_from ty number ls ≡ Ok found → AllWanted ty found
all_wanted ty number [] found h = let e : [] ≡ found = cc in subst (AllWanted ty) e tt
all_wanted ty number (line ∷ more) found h =
    line_wanted ty (numbers_in ty line) number found (numbers_from ty (number + 1) more) (λ zs e. wanted_line ty (signed_number (behind_blanks line)) zs (list_all is_blank line) e) (λ zs e. all_wanted ty (number + 1) more zs e) h

bool_in : (z : ℤ) → int_le (pos 0) z ≡ true → int_le z (pos 1) ≡ true → (pos 0 ≤ℤ z) × (z ≤ℤ pos 1)
bool_in (pos k) a b = (omega (arith, ints), omega (arith, ints, b))
bool_in (negsuc k) a b = absurd (omega (arith, ints, a))

card_in : (m : ℕ) (z : ℤ) → int_le (pos 0) z ≡ true → int_lt z (pos m) ≡ true → (pos 0 ≤ℤ z) × (z <ℤ pos m)
card_in m (pos k) a b = (omega (arith, ints), omega (arith, ints, b))
card_in m (negsuc k) a b = absurd (omega (arith, ints, a))

int_in : (m : ℕ) (z : ℤ) → int_le (neg_ℤ (pos m)) z ≡ true → int_lt z (pos m) ≡ true → (neg_ℤ (pos m) ≤ℤ z) × (z <ℤ pos m)
int_in m z a b = (omega (arith, ints, a), omega (arith, ints, b))

in_range : (ty : Ty) (z : ℤ) → is_in_range ty z ≡ true → InRange ty z
in_range tys.Bool z h = let p = and_parts (int_le (pos 0) z) (int_le z (pos 1)) h in bool_in z p.0 p.1
in_range (tys.Card n) z h = let p = and_parts (int_le (pos 0) z) (int_lt z (pos (2 ^ n))) h in card_in (2 ^ n) z p.0 p.1
in_range (tys.Int n) z h = let p = and_parts (int_le (neg_ℤ (pos (2 ^ (n - 1)))) z) (int_lt z (pos (2 ^ (n - 1)))) h in int_in (2 ^ (n - 1)) z p.0 p.1

zero_in : (ty : Ty) → InRange ty (pos 0)
zero_in tys.Bool = (omega (arith, ints), omega (arith, ints))
zero_in (tys.Card n) = (omega (arith, ints), omega (arith, ints, pow_pos n))
zero_in (tys.Int n) = (omega (arith, ints), omega (arith, ints, pow_pos (n - 1)))

pub none_fits : (d : Desc) → IsTyped d → NextFits (table d) None
none_fits d typed name ty h = zero_in ty

next_fits : (d : Desc) → IsTyped d → (z : ℤ) → is_wanted (input_type (table d)) z ≡ true → NextFits (table d) (Some z)
next_fits d typed z h name ty is = in_range ty z (subst (λ o. is_wanted o z ≡ true) (declared_input d typed name ty is) h)

all_fit : (d : Desc) → IsTyped d → (zs : List ℤ) → AllWanted (input_type (table d)) zs → AllFit (table d) zs
all_fit d typed [] h = tt
all_fit d typed (z ∷ zs) h = (next_fits d typed z h.0, all_fit d typed zs h.1)

pub numbers_fit : (d : Desc) (text : List ℕ) (found : List ℤ) → IsTyped d → numbers (input_type (table d)) text ≡ Ok found → AllFit (table d) found
numbers_fit d text found typed h = all_fit d typed found (all_wanted (input_type (table d)) 1 (lines text) found h)
