-- Kinds as they are told.
use Rattle.std.proofs.Common.{◌≡◌, refl}
use Rattle.nml_tree.specs.Worth as worth
use Rattle.nml_worth.specs.Shown.{seen_kind, shown_kind}

pub seen_shown : (k : worth.Kind) → seen_kind (shown_kind k) ≡ k
seen_shown worth.Number = refl
seen_shown worth.Truth = refl
seen_shown worth.Unknown = refl
seen_shown worth.Nothing = refl
