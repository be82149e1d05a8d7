-- Shapes that meet have something in common, and the other way round.
use Rattle.std.proofs.Common.{◌≡◌, true, bit_or}
use Rattle.nml_shape.specs.declared.shape.Shape.{Shape}
use Rattle.shape_table.specs.declared.common.Common.{Common}
use Rattle.shape_table.specs.declared.common.Common.TheVariants as common
use Rattle.shape_table.specs.Label.{Have, IsReady, meets}
use Rattle.shape_table.proofs.Words.{meets_from, least_from}
use Rattle.shape_table.proofs.Tokens.{tokens_have, have_tokens}

pub have_meets : (c : Common) (a b : Shape) → IsReady c a → IsReady c b → Have c a b → meets c a b ≡ true
have_meets common.Image a b r s h = meets_from a b h.0 h.1 h.2
have_meets common.Syntax a b r s h = have_tokens a b r.0 s.0 r.1 s.1 h

pub meets_have : (c : Common) (a b : Shape) → IsReady c a → IsReady c b → meets c a b ≡ true → Have c a b
meets_have common.Image a b r s is = let w = least_from a b is in (bit_or a.value b.value, w.0, w.1)
meets_have common.Syntax a b r s is = tokens_have a b r.0 s.0 r.1 s.1 is
