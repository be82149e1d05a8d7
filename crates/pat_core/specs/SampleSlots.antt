-- Slots, shapes and machines of small descriptions, by computation.
use Rattle.std.specs.Prelude.{◌≡◌, refl, pos, true, false, [], ◌∷◌, ◌++◌, Some, codes}
use Rattle.nk_base.specs.declared.number.Ty.TheVariants as ty
use Rattle.nml_tree.specs.Block as block
use Rattle.nml_tree.specs.Table.{Table, Rule, Declared, table}
use Rattle.nml_tree.specs.Derivation.{Derivation, Compose, NoMore, Part, Field}
use Rattle.nml_tree.specs.Written.{action}
use Rattle.nml_tree.specs.Built as built
use Rattle.nml_tree.specs.Built.{par, card, int, size_n, type_name, read, read_at, num, set, set_at, when, string, reg, mem, trn, inp, out, desc}
use Rattle.nml_tree.specs.Formula.{Binary}
use Rattle.nml_tree.specs.declared.operator.Bin.TheVariants as binary
use Rattle.nml_tree.specs.declared.tree.Desc.{Desc}
use Rattle.nml_tree.specs.SampleMachines.{m1_with, m2, two_moves, five, op_rule}
use Rattle.pat_core.specs.Described.{machine_of}
use Rattle.pat_core.specs.Shape.{Shape}
use Rattle.pat_core.specs.Slots.{DoesNothing, IsNeutral, root_gives}

-- ---- slots

-- two moves at once: the first statement comes from the first slot, the second from the second
two_slots : root_gives m2 two_moves ≡ (0 ∷ []) ∷ (1 ∷ []) ∷ []
two_slots = refl

-- an instruction with an empty action is neutral, being the first of its rule
nothing : DoesNothing (m1_with [] ((codes "five", Declared.And five) ∷ [])) (codes "five") (Compose five NoMore)
nothing = record { is = (refl, refl); empty = refl; first = λ e is none. refl }

neutral : IsNeutral (m1_with [] ((codes "five", Declared.And five) ∷ [])) (codes "five") (Compose five NoMore)
neutral = record { picks = nothing; zeros = λ k z below. elim below [ ] }

-- `mode inc(p: card(1)) = AR[p] .. action = { AR[p] = AR[p] + 1; }`
abbrev inc : Rule
inc = record {
  pars = par 0 (codes "p") (card 0 (size_n 0 1)) ∷ [];
  value = Some (read_at 0 (codes "AR") (read 0 (codes "p")));
  syntax = string 0 [];
  image = string 0 [];
  action = set_at 0 (codes "AR") (read 0 (codes "p")) (Binary binary.Add (read_at 0 (codes "AR") (read 0 (codes "p"))) 0 (num 0 1)) block.Done;
}

-- `op load(m: inc, k: card(4), c: card(1)) .. action = { X = DM[m]; m.action; if c == 1 then X = k; endif; }`
abbrev load : Rule
load = op_rule (par 0 (codes "m") (type_name 0 (codes "inc")) ∷ par 0 (codes "k") (card 0 (size_n 0 4)) ∷ par 0 (codes "c") (card 0 (size_n 0 1)) ∷ [])
    (string 0 []) (string 0 [])
    (set 0 (codes "X") (read_at 0 (codes "DM") (read 0 (codes "m")))
    (built.act 0 (codes "m")
    (when (Binary binary.Eq (read 0 (codes "c")) 0 (num 0 1)) (set 0 (codes "X") (read 0 (codes "k")) block.Done) block.Done)))

-- a small description: PC, DM, X, AR, the ports and a transitory
abbrev small : Desc
small = desc (
    reg 0 (codes "PC") (size_n 0 1) (card 0 (size_n 0 10))
    ∷ mem 0 (codes "DM") (size_n 0 256) (int 0 (size_n 0 16))
    ∷ trn 0 (codes "P") (int 0 (size_n 0 32))
    ∷ reg 0 (codes "X") (size_n 0 1) (int 0 (size_n 0 16))
    ∷ inp 0 (codes "IN") (int 0 (size_n 0 16))
    ∷ reg 0 (codes "AR") (size_n 0 2) (card 0 (size_n 0 8))
    ∷ out 0 (codes "OUT") (int 0 (size_n 0 16))
    ∷ [])

-- as patterns see it
of_small : machine_of small
    ≡ record {
      width = 16;
      storages = (record { is_reg = true; size = 1; ty = ty.Card 10 }) ∷ (record { is_reg = false; size = 256; ty = ty.Int 16 })
          ∷ (record { is_reg = true; size = 1; ty = ty.Int 16 }) ∷ (record { is_reg = true; size = 2; ty = ty.Card 8 }) ∷ [];
      trns = ty.Int 32 ∷ [];
      dm = 1;
      pc = 0;
    }
of_small = refl

-- its names with the two rules
abbrev names : Table
names = table small ++ (codes "inc", Declared.And inc) ∷ (codes "load", Declared.And load) ∷ []

-- an instruction of `load`
abbrev loads : Derivation
loads = Compose load
    (Part (codes "m") (Compose inc (Field (codes "p") (ty.Card 1) (pos 0) NoMore))
    (Field (codes "k") (ty.Card 4) (pos 0) (Field (codes "c") (ty.Card 1) (pos 0) NoMore)))

-- the first statement names the mode, the second comes from it, the `if` names c in its condition, and what stands in it names k
of_loads : root_gives names loads ≡ (0 ∷ []) ∷ (0 ∷ []) ∷ (2 ∷ []) ∷ (1 ∷ []) ∷ []
of_loads = refl

-- their shape
abbrev pub shape : Shape
shape = record { fields = ty.Card 1 ∷ ty.Card 4 ∷ ty.Card 1 ∷ []; neutral = false ∷ true ∷ true ∷ []; action = action names loads; gives = root_gives names loads }
