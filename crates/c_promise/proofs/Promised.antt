-- The statements of a sound program keep what single statements promise.
use Rattle.std.proofs.Common.{◌≡◌, ℕ, Bool, true, false, ◌&&◌}
use Rattle.std.specs.List.{list_all}
use Rattle.std.proofs.lemmas.Bool.{and_from}
use Rattle.ir_run.specs.Size.{trees_of}
use Rattle.ir_run.specs.Promise.{shifts_fit, stands_alone, halts_fit, set_fits, arrays_fit, is_behind_jump, is_promised}
use Rattle.ir_run.specs.Shifts.{AllShift}
use Rattle.c_tree.specs.Program.{Program}
use Rattle.c_tree.specs.Lowered.{program_entries, first_constant, first_return, return_labels, homes, lowered}
use Rattle.c_lowered.specs.Sound.{Sound}
use Rattle.c_promise.proofs.Labels.{labels_in_order}
use Rattle.c_promise.proofs.Claims.{all_pass, shifts_pass, alone_pass, halts_pass, sets_pass, all_shift}
use Rattle.c_promise.proofs.Behind.{behind}
use Rattle.c_promise.proofs.Homes.{row_holds, free, arrays_pass}
use Rattle.c_promise.proofs.Table.{program_fit}

all_six : (a b c d e f : Bool) → a ≡ true → b ≡ true → c ≡ true → d ≡ true → e ≡ true → f ≡ true → (a && b && c && d && e && f) ≡ true
all_six a b c d e f g h i j k l =
    and_from (a && b && c && d && e) f (and_from (a && b && c && d) e (and_from (a && b && c) d (and_from (a && b) c (and_from a b g h) i) j) k) l

-- each return label's mark is directly behind a jump
labels_pass : (p : Program) (n : ℕ) → Sound p n → list_all (λ (k, l). is_behind_jump false (program_entries p n) l) (homes p n).labels ≡ true
labels_pass p n s =
    let es = program_entries p n in
    let order = labels_in_order p n in
    row_holds (λ l. is_behind_jump false es l) (first_return p n) (return_labels p n)
    (λ l h. (behind false es n (first_constant p) 0 order.0 l order.1 (program_fit p n s) h).1)

pub promised : (p : Program) (n : ℕ) → Sound p n → is_promised 1 (lowered p n) n ≡ true
promised p n s =
    let es = program_entries p n in
    let limit = first_constant p in
    let fit = program_fit p n s in
    all_six (list_all (λ e. list_all (shifts_fit n) (trees_of e)) es) (list_all stands_alone es) (list_all (halts_fit 1) es) (list_all (set_fits (homes p n)) es) (arrays_fit (lowered p n))
    (list_all (λ (k, l). is_behind_jump false es l) (homes p n).labels)
    (all_pass n limit (λ e. list_all (shifts_fit n) (trees_of e)) (shifts_pass n limit) es fit)
    (all_pass n limit stands_alone (alone_pass n limit) es fit)
    (all_pass n limit (halts_fit 1) (halts_pass n limit) es fit)
    (all_pass n limit (set_fits (homes p n)) (sets_pass (homes p n) n limit (free p n)) es fit)
    (arrays_pass p n)
    (labels_pass p n s)

pub shifts : (p : Program) (n : ℕ) → Sound p n → AllShift n (program_entries p n)
shifts p n s = all_shift n (first_constant p) (program_entries p n) (program_fit p n s)
