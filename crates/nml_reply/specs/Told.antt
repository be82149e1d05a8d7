-- What a sink took of what is told, and the status that is answered.
use Rattle.std.specs.Prelude.{◌≡◌, ◌⊎◌, ℕ, List, ◌++◌, Option, codes}
use Rattle.nk_outside.specs.Count.{Rose}
use Rattle.nk_outside.specs.Taken.{Took, TookFront, IsFront}
use Rattle.nml_reply.specs.Reply.{Reply}
use Rattle.nml_reply.specs.declared.status.Status.{Status}
use Rattle.nml_reply.specs.declared.status.Status.TheVariants as statuses

abbrev pub memory_line : List ℕ
memory_line = codes "memory\n"

-- a front of the text, and then a front of the line `memory`
pub record TookStarved (old new : Option (List ℕ)) (text : List ℕ) : Type 0 where
  pub front : List ℕ
  pub line : List ℕ
  pub is_front : IsFront front text
  pub is_line : IsFront line memory_line
  pub took : Took old new (front ++ line)

-- No put failed and the whole text was taken; or a put failed, and nothing follows it; or memory was wanted, which is told: then no put failed,
-- or that of the line `memory` did.
pub data Told (told : Reply) (old new : Option (List ℕ)) (before now : ℕ) (status : Status) : Type 0 where
  Whole : Took old new told.text → now ≡ before → status ≡ told.status → Told told old new before now status
  Cut : TookFront old new told.text → Rose before now → status ≡ statuses.Write → Told told old new before now status
  Starved : TookStarved old new told.text → now ≡ before → status ≡ statuses.Memory → Told told old new before now status
  CutStarved : TookStarved old new told.text → Rose before now → status ≡ statuses.Write → Told told old new before now status

-- this status, but for a failed put and want of memory
abbrev pub EndsIn : Status → Status → Type 0
EndsIn wanted status = (status ≡ wanted) ⊎ ((status ≡ statuses.Write) ⊎ (status ≡ statuses.Memory))
