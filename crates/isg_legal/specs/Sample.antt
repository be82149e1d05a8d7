-- Worked examples of the definitions, each by computation.
use Rattle.std.specs.Prelude.{◌≡◌, refl, pos, [], ◌∷◌, true, false}
use Rattle.attr_eval.specs.Alone.{alone}
use Rattle.attr_eval.specs.Lawful.{act_shape, is_lawful}
use Rattle.isg_legal.specs.Coarse.{coarse}
use Rattle.nml_tree.specs.Act.{Act, Done, Number, Field, Inp, SetCell, Put}

-- `R[0] = n; R[1] = m;`, R being storage 1
abbrev pub written : Act
written = SetCell 1 (Number (pos 0)) (Field 0) (SetCell 1 (Number (pos 1)) (Field 1) Done)

-- never clashes
never : is_lawful (alone []) (coarse (act_shape written)) ≡ true
never = refl

-- `R[a] = 0; R[b] = 0;`, where a and b are fields
abbrev pub fielded : Act
fielded = SetCell 1 (Field 0) (Number (pos 0)) (SetCell 1 (Field 1) (Number (pos 0)) Done)

-- may clash by the written numbers alone
may : is_lawful (alone []) (coarse (act_shape fielded)) ≡ false
may = refl

-- doesn't where the fields differ
apart : is_lawful (alone (pos 2 ∷ pos 3 ∷ [])) (act_shape fielded) ≡ true
apart = refl

-- clashes where they are the same
same : is_lawful (alone (pos 2 ∷ pos 2 ∷ [])) (act_shape fielded) ≡ false
same = refl

-- `out = in; R[in] = 0;` reads the input twice
twice : is_lawful (alone []) (coarse (act_shape (Put Inp (SetCell 1 Inp (Number (pos 0)) Done)))) ≡ false
twice = refl
