-- The image of an assembly text.
use Rattle.std.specs.Prelude.{ℕ, ◌≡◌, List, map}
use Rattle.nml_tree.specs.Table.{table}
use Rattle.image_file.specs.File.{Picture}
use Rattle.image_file.specs.Measured.{initial}
use Rattle.isg_graph.specs.Graph.{Graph}
use Rattle.asm_text.specs.Answer.{IsAssembled}

-- it carries the digest, and the text is assembled to its words and its initial values
pub record IsImageOfText (g : Graph) (digest text : List ℕ) (i : Picture) : Type 0 where
  pub digest_is : i.digest ≡ digest
  pub width_is : i.width ≡ g.word_bits
  pub assembles : IsAssembled (table g.desc) g.word_bits text i.words (map initial i.inits)
