-- The numbers that digits write.
use Rattle.std.proofs.Common.{ℕ, ◌≡◌, ◌≤◌, ◌<◌, ◌^◌, true, List, length, Some, None, arith}
use Rattle.std.specs.Prelude.{nat_lt, if◌then◌else◌}
use Rattle.std.specs.Char.{is_ascii_digit}
use Rattle.std.specs.List.{AllPass}
use Rattle.std.specs.Str.Parse.{digits_value}
use Rattle.std.proofs.lemmas.Bool.{and_parts, leb-true}
use Rattle.std.proofs.lemmas.List.Sums.{AllPass-from_list_all}
use Rattle.nml_line.proofs.LineSteps.{small_number, no_number, some_is}
use Rattle.asm_lines.specs.Line.{is_number}

pub digits_pass : (text : List ℕ) → is_number text ≡ true → AllPass is_ascii_digit text
digits_pass text h = AllPass-from_list_all _ _ (and_parts _ _ (and_parts _ _ h).0).0

few : (text : List ℕ) → is_number text ≡ true → length text ≤ 38
few text h = leb-true _ _ (and_parts _ _ h).1

pub no_value : (text : List ℕ) → is_number text ≡ true → None ≡ (if nat_lt (digits_value 10 text) (2 ^ 128) then Some (digits_value 10 text) else None) → ⊥
no_value text h e = no_number text (digits_pass text h) (few text h) e

pub the_value : (text : List ℕ) (n : ℕ) → is_number text ≡ true → Some n ≡ (if nat_lt (digits_value 10 text) (2 ^ 128) then Some (digits_value 10 text) else None) → (n ≡ digits_value 10 text) × (n < 10 ^ 38)
the_value text n h e =
    let s = small_number text (digits_pass text h) (few text h) in
    let a = some_is n (digits_value 10 text) s e in
    (a, omega (arith, a, s))
