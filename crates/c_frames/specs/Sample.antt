-- The machine on small programs, each by computation.
use Rattle.std.specs.Prelude.{◌≡◌, refl, pos, negsuc, [], ◌∷◌}
use Rattle.nk_outside.specs.declared.stop.Stop.TheVariants as stops
use Rattle.c_tree.specs.Resolve.{resolved_items}
use Rattle.c_tree.specs.Texts.{echo}
use Rattle.c_frames.specs.Steps.{Stops, begin, follow}

-- one turn, and the greatest number and 1 is put out as the least one
echo_wraps : follow (resolved_items echo) 16 20 (begin (resolved_items echo) 16 (pos 32767 ∷ []) 9) ≡ Stops stops.Ended (record { memory = []; input = []; out = negsuc 32767 ∷ []; turns = 8 })
echo_wraps = refl
