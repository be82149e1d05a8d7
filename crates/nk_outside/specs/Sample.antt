-- Worked examples of the definitions, each by computation.
use Rattle.std.specs.Prelude.{◌≡◌, ◌-◌, ◌^◌, Some, codes, refl}
use Rattle.nk_outside.specs.Count.{counted, Rose}
use Rattle.nk_outside.specs.Taken.{Took, TookFront}
use Rattle.std.proofs.Common.{lit≤}

-- a count goes up by one, and stays at its end
one_more : counted 3 ≡ 4
one_more = refl

at_the_end : counted (2 ^ 64 - 1) ≡ 2 ^ 64 - 1
at_the_end = refl

-- it rose where it is greater
rose : Rose 3 4
rose = lit≤ tt

-- a piece was taken behind what was there, and a front of it
took : Took (Some (codes "ab")) (Some (codes "abcd")) (codes "cd")
took = refl

took_front : TookFront (Some (codes "ab")) (Some (codes "abc")) (codes "cd")
took_front = (codes "c", (codes "d", refl), refl)
