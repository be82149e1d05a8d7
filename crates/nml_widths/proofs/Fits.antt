-- The value of an expression fits the width of the expression, and stands from 0 to its cap where it has one.
use Rattle.std.proofs.Common.{◌≡◌, ℕ, zero, suc, ◌+◌, ◌-◌, ◌*◌, ◌^◌, ◌<◌, ◌≤◌, ◌/◌, ℤ, pos, negsuc, ◌-ℤ◌, ◌*ℤ◌, refl, ap, sym, ◌∙◌, subst, arith, List, [], ◌∷◌, ◌++◌, Option, Some, None, Bool, true, false, lit<, lit≤}
use Rattle.std.specs.Prelude.{nat_le, int_le, int_lt, unsigned_abs, ◌==◌, if◌then◌else◌, ◌&&◌, ◌||◌, not, flat_map, unwrap_or, option_and_then}
use Rattle.std.specs.Int.{int_div_euclid}
use Rattle.std.proofs.lemmas.Int.{ints}
use Rattle.std.proofs.lemmas.Bool.{le-leb, leb-true, eqb-true}
use Rattle.std.proofs.lemmas.Grind.{flat_map-append}
use Rattle.std.proofs.Math.Pow.{pow_pos}
use Rattle.nk_base.specs.declared.number.Ty.{Ty}
use Rattle.nk_base.specs.declared.number.Ty.TheVariants as ty
use Rattle.nk_base.specs.Number.{InRange}
use Rattle.nml_tree.specs.declared.operator.Un.TheVariants as un
use Rattle.nml_tree.specs.declared.operator.Bin.{Bin}
use Rattle.nml_tree.specs.declared.operator.Bin.TheVariants as bin
use Rattle.nml_tree.specs.Formula as formula
use Rattle.nml_tree.specs.Formula.{Formula, Prefix, Fit}
use Rattle.nml_tree.specs.Table.{Text, natural, size_number, size_or_none}
use Rattle.nml_tree.specs.Inside.{inside}
use Rattle.nml_tree.specs.Places.{unless, when}
use Rattle.nml_tree.specs.Worth.{Kind, Number, Truth, Unknown, Nothing, Cap, UpTo, Uncapped, Untold, Worth, truth, binary_digits, of_number, is_type, of_ty, of_type, is_other, greater_cap, sides, amount, of_binary, of_prefix, of_fit, as_number, are_bits, of_bits, Scope, of_name, worth}
use Rattle.nml_tree.specs.TypeFault.{is_within, has_value, is_read_rightly, is_shift, is_amount, has_bounds, node_places}
use Rattle.nml_tree.specs.Written as written
use Rattle.nml_tree.specs.Written.{reference, term}
use Rattle.nml_tree.specs.Act.{Term}
use Rattle.nml_tree.specs.Value.{View, value, unary, binary, is_true, is_zero}
use Rattle.nml_widths.proofs.Holds.{Holds, holds_more, holds_add, holds_sub, holds_neg, holds_mul, holds_not, holds_and, holds_or, holds_xor, holds_shr, holds_shl, holds_natural, holds_signed, remainder_low, remainder_high, wrapped_fits, clamped_fits}
pub use Rattle.nml_widths.specs.Fitting.{Within, Fits}

-- nothing is wrong at any of these expressions
abbrev pub AreRight : Scope → List Formula → Type 0
AreRight s xs = flat_map (node_places s) xs ≡ []

-- what a name stands for fits what the name is worth
pub record Named (s : Scope) (parts : written.Scope) (v : View) : Type 0 where
  pub each : (name : Text) (i : Term) → has_value (of_name s name).kind ≡ true → Fits (of_name s name) (value v (reference s.table parts name i))

pub no_left : (xs ys : List ℕ) → xs ++ ys ≡ [] → xs ≡ []
no_left [] ys h = refl
no_left (x ∷ xs) ys h = absurd cc

pub no_right : (xs ys : List ℕ) → xs ++ ys ≡ [] → ys ≡ []
no_right [] ys h = h
no_right (x ∷ xs) ys h = absurd cc

pub unless_none : (b : Bool) (at : ℕ) → unless b at ≡ [] → b ≡ true
unless_none true at h = refl
unless_none false at h = absurd cc

pub when_none : (b : Bool) (at : ℕ) → when b at ≡ [] → b ≡ false
when_none false at h = refl
when_none true at h = absurd cc

pub both_left : (a b : Bool) → (a && b) ≡ true → a ≡ true
both_left true b h = refl
both_left false b h = absurd cc

pub both_right : (a b : Bool) → (a && b) ≡ true → b ≡ true
both_right true b h = h
both_right false b h = absurd cc

pub right_left : (s : Scope) (xs ys : List Formula) → AreRight s (xs ++ ys) → AreRight s xs
right_left s xs ys h = no_left (flat_map (node_places s) xs) (flat_map (node_places s) ys) (sym (flat_map-append (node_places s) xs ys) ∙ h)

pub right_right : (s : Scope) (xs ys : List Formula) → AreRight s (xs ++ ys) → AreRight s ys
right_right s xs ys h = no_right (flat_map (node_places s) xs) (flat_map (node_places s) ys) (sym (flat_map-append (node_places s) xs ys) ∙ h)

digits_zero : (k n : ℕ) (b : Bool) → (n == 0) ≡ b → n < 2 ^ suc k → (n / 2 < 2 ^ k → n / 2 < 2 ^ binary_digits k (n / 2)) → n < 2 ^ (if b then 0 else 1 + binary_digits k (n / 2))
digits_zero k n true is h f = let e : n ≡ 0 = eqb-true n 0 is in let r : n < 1 = omega (arith, e) in r
digits_zero k n false is h f =
    let g = f (omega (arith, h)) in
    let one : 1 + binary_digits k (n / 2) ≡ suc (binary_digits k (n / 2)) = omega arith in
    let e : 2 ^ (1 + binary_digits k (n / 2)) ≡ 2 * 2 ^ binary_digits k (n / 2) = ap (λ m. 2 ^ m) one ∙ omega arith in
    let r : n < 2 ^ (1 + binary_digits k (n / 2)) = omega (arith, g, e) in
    r

pub digits : (k n : ℕ) → n < 2 ^ k → n < 2 ^ binary_digits k n
digits zero n h = h
digits (suc k) n h = digits_zero k n (n == 0) refl h (digits k (n / 2))

within_power : (n : ℕ) → n < 2 ^ n
within_power zero = lit< tt
within_power (suc n) = let h = within_power n in omega (arith, h)

pub number_fits : (z : ℤ) → Fits (of_number z) z
number_fits (pos n) =
    let e : binary_digits n n + 1 - 1 ≡ binary_digits n n = omega arith in
    record { holds = record { some = omega arith; fits = rw e (digits n n (within_power n)) }; within = (omega (arith, ints), omega (arith, ints)) }
number_fits (negsuc n) =
    let e : binary_digits n n + 1 - 1 ≡ binary_digits n n = omega arith in
    record { holds = record { some = omega arith; fits = rw e (digits n n (within_power n)) }; within = tt }

pub truth_fits : (b : Bool) → Fits truth (written.truth b)
truth_fits true = record { holds = record { some = lit≤ tt; fits = lit< tt }; within = (omega (arith, ints), omega (arith, ints)) }
truth_fits false = record { holds = record { some = lit≤ tt; fits = lit< tt }; within = (omega (arith, ints), omega (arith, ints)) }

is_width : (n : ℕ) → 1 ≤ n → n ≤ 64 → (nat_le 1 n && nat_le n 64) ≡ true
is_width n low high =
    let a : nat_le 1 n ≡ true = le-leb 1 n low in
    let b : nat_le n 64 ≡ true = le-leb n 64 high in
    rw (a, b) refl

pub ty_fits : (t : Ty) (z : ℤ) → is_type t ≡ true → InRange t z → Fits (of_ty t) z
ty_fits ty.Bool z is h = record { holds = holds_natural 1 h.0 (omega (arith, ints, h.1)); within = h }
ty_fits (ty.Card n) z is h =
    record { holds = holds_natural n h.0 h.1; within = (h.0, omega (arith, ints, h.1, pow_pos n)) }
ty_fits (ty.Int n) z is h =
    let low : 1 ≤ n = leb-true 1 n (both_left (nat_le 1 n) (nat_le n 64) is) in
    record { holds = holds_signed n low h.0 h.1; within = tt }

pub type_fits : (t : Ty) (z : ℤ) → is_type t ≡ true → InRange t z → Fits (of_type t) z
type_fits t z is h = rw is (ty_fits t z is h)

pub natural_within : (o : Option ℤ) (least most : ℕ) → is_within least most o ≡ true → (o ≡ Some (pos (unwrap_or (option_and_then natural o) 0))) × (least ≤ unwrap_or (option_and_then natural o) 0) × (unwrap_or (option_and_then natural o) 0 ≤ most)
natural_within None least most h = absurd cc
natural_within (Some (pos n)) least most h =
    (refl, omega (arith, ints, both_left (int_le (pos least) (pos n)) (int_le (pos n) (pos most)) h), omega (arith, ints, both_right (int_le (pos least) (pos n)) (int_le (pos n) (pos most)) h))
natural_within (Some (negsuc n)) least most h =
    absurd (omega (arith, ints, both_left (int_le (pos least) (negsuc n)) (int_le (negsuc n) (pos most)) h))

pub fitted : (f : Fit) (n : ℕ) (z : ℤ) → 1 ≤ n → n ≤ 64 → Fits (as_number (of_type (of_fit f n))) (unary (written.fit f n) z)
fitted Fit.Int n z low high = rw (is_width n low high) (record { holds = wrapped_fits n z low; within = tt })
fitted Fit.Sat n z low high = rw (is_width n low high) (record { holds = clamped_fits n z low; within = tt })
fitted Fit.Card n z low high =
    let a = remainder_low z (2 ^ n) (pow_pos n) in
    let b = remainder_high z (2 ^ n) (pow_pos n) in
    rw (is_width n low high) (record { holds = holds_natural n a b; within = (a, omega (arith, ints, b, pow_pos n)) })

run_length : (high low : ℕ) → low ≤ high → unsigned_abs (pos high -ℤ pos low) ≡ high - low
run_length high low h = omega (arith, ints, h)

selected_fits : (z : ℤ) (high low : ℕ) → are_bits (pos high) (pos low) ≡ true → Fits (of_bits (Some (pos high)) (Some (pos low))) (unary (un.Bits high low) z)
selected_fits z high low h =
    let p : (int_le (pos low) (pos high) && int_le (pos high) (pos 126)) ≡ true = both_left _ _ h in
    let le : low ≤ high = omega (arith, ints, both_left (int_le (pos low) (pos high)) (int_le (pos high) (pos 126)) p) in
    let a = remainder_low (int_div_euclid z (pos (2 ^ low))) (2 ^ (high - low + 1)) (pow_pos (high - low + 1)) in
    let b = remainder_high (int_div_euclid z (pos (2 ^ low))) (2 ^ (high - low + 1)) (pow_pos (high - low + 1)) in
    let e : high - low + 1 + 1 ≡ high - low + 2 = omega arith in
    rw (h, run_length high low le) (record { holds = subst (λ n. Holds n (unary (un.Bits high low) z)) e (holds_natural (high - low + 1) a b); within = (a, omega (arith, ints, b, pow_pos (high - low + 1))) })

negative : (least most n : ℕ) → is_within least most (Some (negsuc n)) ≡ true → ⊥
negative least most n h = omega (arith, ints, both_left (int_le (pos least) (negsuc n)) (int_le (negsuc n) (pos most)) h)

pub bits_fit : (z : ℤ) (o p : Option ℤ) → is_within 0 65536 o ≡ true → is_within 0 65536 p ≡ true → has_bounds o p ≡ true
    → Fits (of_bits o p) (unary (un.Bits (unwrap_or (option_and_then natural o) 0) (unwrap_or (option_and_then natural p) 0)) z)
bits_fit z None p h k is = absurd cc
bits_fit z (Some (negsuc n)) p h k is = absurd (negative 0 65536 n h)
bits_fit z (Some (pos n)) None h k is = absurd cc
bits_fit z (Some (pos n)) (Some (negsuc m)) h k is = absurd (negative 0 65536 m k)
bits_fit z (Some (pos n)) (Some (pos m)) h k is = selected_fits z n m is

-- not of what is misused
abbrev pub Told : Cap → Type 0
Told (UpTo c) = Unit {0}
Told Uncapped = Unit {0}
Told Untold = ⊥

pub told_of : (c : Cap) (z : ℤ) → Within c z → Told c
told_of (UpTo c) z h = tt
told_of Uncapped z h = tt
told_of Untold z h = absurd h

pub told_both : (a b : Cap) → Told a → Told b → Told (greater_cap a b)
told_both (UpTo a) (UpTo b) h k = tt
told_both (UpTo a) Uncapped h k = tt
told_both Uncapped (UpTo b) h k = tt
told_both Uncapped Uncapped h k = tt
told_both Untold b h k = absurd h
told_both (UpTo a) Untold h k = absurd k
told_both Uncapped Untold h k = absurd k

pub cap_left : (a b : Cap) (x : ℤ) → Within a x → Told b → Within (greater_cap a b) x
cap_left (UpTo a) (UpTo b) x h k = (h.0, omega (arith, ints, h.1))
cap_left (UpTo a) Uncapped x h k = tt
cap_left Uncapped (UpTo b) x h k = tt
cap_left Uncapped Uncapped x h k = tt
cap_left Untold b x h k = absurd h
cap_left (UpTo a) Untold x h k = absurd k
cap_left Uncapped Untold x h k = absurd k

pub cap_right : (a b : Cap) (y : ℤ) → Told a → Within b y → Within (greater_cap a b) y
cap_right (UpTo a) (UpTo b) y h k = (k.0, omega (arith, ints, k.1))
cap_right (UpTo a) Uncapped y h k = tt
cap_right Uncapped (UpTo b) y h k = tt
cap_right Uncapped Uncapped y h k = tt
cap_right Untold b y h k = absurd h
cap_right (UpTo a) Untold y h k = absurd k
cap_right Uncapped Untold y h k = absurd k

pub other_sym : (a b : Kind) → is_other a b ≡ is_other b a
other_sym Number Number = refl
other_sym Number Truth = refl
other_sym Number Unknown = refl
other_sym Number Nothing = refl
other_sym Truth Number = refl
other_sym Truth Truth = refl
other_sym Truth Unknown = refl
other_sym Truth Nothing = refl
other_sym Unknown Number = refl
other_sym Unknown Truth = refl
other_sym Unknown Unknown = refl
other_sym Unknown Nothing = refl
other_sym Nothing Number = refl
other_sym Nothing Truth = refl
other_sym Nothing Unknown = refl
other_sym Nothing Nothing = refl

chosen : (c : Bool) (a b : Worth) (x y : ℤ) → is_other b.kind a.kind ≡ false → Fits a x → Fits b y → Fits (sides a b) (if c then x else y)
chosen true a b x y is h k = rw (other_sym a.kind b.kind, is) (record { holds = holds_more (omega arith) h.holds; within = cap_left a.cap b.cap x h.within (told_of b.cap y k.within) })
chosen false a b x y is h k = rw (other_sym a.kind b.kind, is) (record { holds = holds_more (omega arith) k.holds; within = cap_right a.cap b.cap y (told_of a.cap x h.within) k.within })

prefixed : (op : Prefix) (a : Worth) (x : ℤ) → Fits a x → Fits (of_prefix op a) (unary (written.prefix op) x)
prefixed Prefix.Neg a x h = record { holds = holds_neg h.holds; within = tt }
prefixed Prefix.Inv a x h = record { holds = holds_not h.holds; within = tt }
prefixed Prefix.Not a x h = truth_fits (is_zero x)

shifted : (w : ℕ) (o : Cap) (x y : ℤ) → not (is_amount o) ≡ false → Holds w x → Within o y → Holds (w + amount o) (x *ℤ pos (2 ^ unsigned_abs y))
shifted w (UpTo c) x (pos n) is h k = holds_shl c n (omega (arith, ints, k.1)) h
shifted w (UpTo c) x (negsuc n) is h k = absurd (omega (arith, ints, k.0))
shifted w Uncapped x y is h k = absurd cc
shifted w Untold x y is h k = absurd k

joined : (op : Bin) (a b : Worth) (x y : ℤ) → (is_shift op && not (is_amount b.cap)) ≡ false → Fits a x → Fits b y → Fits (of_binary op a b) (binary op x y)
joined bin.OrElse a b x y is h k = truth_fits (is_true x || is_true y)
joined bin.AndAlso a b x y is h k = truth_fits (is_true x && is_true y)
joined bin.Or a b x y is h k = record { holds = holds_or h.holds k.holds; within = tt }
joined bin.Xor a b x y is h k = record { holds = holds_xor h.holds k.holds; within = tt }
joined bin.And a b x y is h k = record { holds = holds_and h.holds k.holds; within = tt }
joined bin.Eq a b x y is h k = truth_fits (is_zero (x -ℤ y))
joined bin.Ne a b x y is h k = truth_fits (is_true (x -ℤ y))
joined bin.Lt a b x y is h k = truth_fits (int_lt x y)
joined bin.Le a b x y is h k = truth_fits (int_le x y)
joined bin.Gt a b x y is h k = truth_fits (int_lt y x)
joined bin.Ge a b x y is h k = truth_fits (int_le y x)
joined bin.Shl a b x y is h k = record { holds = shifted a.width b.cap x y is h.holds k.within; within = tt }
joined bin.Shr a b x y is h k = record { holds = holds_shr (unsigned_abs y) h.holds; within = tt }
joined bin.Add a b x y is h k = record { holds = holds_add h.holds k.holds; within = tt }
joined bin.Sub a b x y is h k = record { holds = holds_sub h.holds k.holds; within = tt }
joined bin.Mul a b x y is h k = record { holds = holds_mul h.holds k.holds; within = tt }

-- every expression at which nothing is wrong, nor at those in it
pub value_fits : (s : Scope) (parts : written.Scope) (v : View) → Named s parts v → (x : Formula) → AreRight s (inside x) → Fits (worth s x) (value v (term s.table parts x))
value_fits s parts v n (formula.Numeral m) h = number_fits (pos m.value)
value_fits s parts v n (formula.Truth at b) h = truth_fits b
value_fits s parts v n (formula.Named m) h =
    let e : is_read_rightly s false m ≡ true = unless_none (is_read_rightly s false m) m.at (no_left _ _ h) in
    n.each m.text (Term.Number (pos 0)) (both_right _ _ (both_left _ _ e))
value_fits s parts v n (formula.Indexed m p i q) h =
    let e : is_read_rightly s true m ≡ true = unless_none (is_read_rightly s true m) m.at (no_left _ _ (no_left _ _ h)) in
    n.each m.text (term s.table parts i) (both_right _ _ (both_left _ _ e))
value_fits s parts v n (formula.Paren p x q) h =
    let f = value_fits s parts v n x h in record { holds = f.holds; within = f.within }
value_fits s parts v n (formula.Fitted f at p m c x q) h =
    let e = natural_within (size_number s.table m) 1 64 (unless_none _ _ (no_left _ _ (no_left _ _ h))) in
    fitted f (size_or_none s.table m) (value v (term s.table parts x)) e.1 e.2
value_fits s parts v n (formula.Bits at p x c high d low q) h =
    let here = no_left _ _ h in
    let bounds = no_left _ _ (no_left _ _ here) in
    bits_fit (value v (term s.table parts x)) (size_number s.table high) (size_number s.table low) (unless_none _ _ (no_right _ _ (no_left _ _ here))) (unless_none _ _ (no_right _ _ here)) (unless_none _ _ (no_left _ _ bounds))
value_fits s parts v n (formula.Choose at c t x f y end) h =
    let here = no_left _ _ h in
    let behind = no_right _ _ h in
    chosen (is_true (value v (term s.table parts c))) (worth s x) (worth s y) _ _ (when_none _ _ (no_right _ _ here))
    (value_fits s parts v n x (right_right s (inside c) (inside x) (right_left s (inside c ++ inside x) (inside y) behind))) (value_fits s parts v n y (right_right s (inside c ++ inside x) (inside y) behind))
value_fits s parts v n (formula.Unary op at x) h = prefixed op (worth s x) (value v (term s.table parts x)) (value_fits s parts v n x (no_right _ _ h))
value_fits s parts v n (formula.Binary op x at y) h =
    let here = no_left _ _ h in
    let behind = no_right _ _ h in
    joined op (worth s x) (worth s y) _ _ (when_none _ _ (no_right _ _ here))
    (value_fits s parts v n x (right_left s (inside x) (inside y) behind)) (value_fits s parts v n y (right_right s (inside x) (inside y) behind))
