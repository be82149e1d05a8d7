-- For private contracts: the pieces of an instruction with numbers for its references.
use Rattle.std.specs.Prelude.{pos, List, ◌∷◌, ◌++◌, flat_map}
use Rattle.nml_shape.specs.declared.shape.Piece.{Piece}
use Rattle.nml_shape.specs.declared.shape.Piece.TheVariants as piece
use Rattle.asm_lines.specs.declared.line.Reference.{Reference}
use Rattle.asm_lines.specs.declared.line.Tokens.{Tokens}
use Rattle.asm_text.specs.Source.{Labels}
use Rattle.asm_source.specs.Known.{number_of}

-- the number of the label, and the pieces behind it
abbrev pub pieces_at : Labels → Reference → List Piece
pieces_at labels r = piece.Number (pos (number_of labels r.name)) ∷ r.behind.items

-- the pieces in front of the references, and those at each
abbrev pub pieces_of : Labels → Tokens → List Piece
pieces_of labels t = t.front.items ++ flat_map (pieces_at labels) t.references.items
