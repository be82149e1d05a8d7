-- The laws of the statements of a sound program, from all that stands below.
use Rattle.std.proofs.Common.{ℕ, ◌≤◌, refl}
use Rattle.ir_run.specs.Promise.{RunsSafely}
use Rattle.c_tree.specs.Program.{Program}
use Rattle.c_tree.specs.Lowered.{lowered}
use Rattle.c_tree.specs.Counts.{data_of}
use Rattle.c_tree.specs.AgreeIr.{AgreeIr}
use Rattle.c_lowered.specs.Sound.{Sound}
use Rattle.c_promise.proofs.Once.{label_once}
use Rattle.c_agree.proofs.Grounds.{ground_of, is_ground}
use Rattle.c_agree.proofs.Bodies.{bodies, main_mark}
use Rattle.c_agree.proofs.Calls.{main_met}
use Rattle.c_agree.proofs.Together as together
use Rattle.c_agree.proofs.Together.{MainMet}

main_is_met : (p : Program) (n : ℕ) (sound : Sound p n) → data_of p n ≤ 65536 → MainMet p n sound
main_is_met p n sound small body d st m fits =
    main_met (ground_of p n sound) (is_ground p n sound small (label_once p n)) p refl (λ f. refl) (bodies p n sound (label_once p n)) sound.main 0 0 body d st m (main_mark p n sound) fits

-- the statements print and stop as the program does
pub agrees : (p : Program) (n : ℕ) → Sound p n → data_of p n ≤ 65536 → AgreeIr (lowered p n) p n
agrees p n sound small = together.agrees p n sound (main_is_met p n sound small)

-- no run of them breaks a promise
pub runs_safely : (p : Program) (n : ℕ) → Sound p n → data_of p n ≤ 65536 → RunsSafely (lowered p n) n
runs_safely p n sound small = together.runs_safely p n sound (main_is_met p n sound small)
