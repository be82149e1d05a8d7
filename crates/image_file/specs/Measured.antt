-- By what the images of a description are measured, and its initial values as a machine begins with them.
use Rattle.std.specs.Prelude.{ℕ}
use Rattle.nk_base.specs.Number.{width_of}
use Rattle.nml_tree.specs.Exec.{pc, storages, storage_type}
use Rattle.nml_tree.specs.Machine.{Initial}
use Rattle.nml_tree.specs.Table.{Table}
use Rattle.image_file.specs.File.{Init}
use Rattle.image_file.specs.Valid.{Measures}

-- of a description whose words have so many bits
abbrev pub measures : Table → ℕ → Measures
measures t width = record { width = width; pc_bits = width_of (storage_type t (pc t)); pc = pc t; storages = storages t }

-- an initial value, as an image has it and as a machine begins with it
abbrev pub stored : Initial → Init
stored i = record { storage = i.storage; cell = i.cell; value = i.raw }

abbrev pub initial : Init → Initial
initial i = record { storage = i.storage; cell = i.cell; raw = i.value }
