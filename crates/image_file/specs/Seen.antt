-- An image, and what images are measured by, without where they lie in memory.
use Rattle.std.specs.Prelude.{map}
use Rattle.image_file.specs.File.{Picture, Init}
use Rattle.image_file.specs.Valid.{Measures}
use Rattle.image_file.specs.declared.image.Image.{Image}
use Rattle.image_file.specs.declared.image.DataCell.{DataCell}
use Rattle.image_file.specs.declared.layout.Layout.{Layout}

abbrev pub init_of : DataCell → Init
init_of c = record { storage = c.storage; cell = c.cell; value = c.value }

abbrev pub picture_of : Image → Picture
picture_of i = record { digest = i.digest; width = i.width; words = i.words.items; inits = map init_of i.inits.items }

abbrev pub measures_of : Layout → Measures
measures_of l = record { width = l.width; pc_bits = l.pc_bits; pc = l.pc; storages = l.storages.items }
