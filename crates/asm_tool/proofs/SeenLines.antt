-- Lines as a loop takes them.
use Rattle.std.proofs.Common.{ℕ, ◌+◌, ◌<◌, ◌≤◌, ◌≡◌, sym, ◌∙◌, ap, arith, List, ◌∷◌, length, map, drop, get_or, Some}
use Rattle.std.specs.Prelude.{slice_get, option_map}
use Rattle.std.proofs.lemmas.List.{length-map}
use Rattle.std.proofs.lemmas.Option.{slice_get-map, slice_get-get_or, get_or_from_slice_get}
use Rattle.nml_tree.proofs.Drops.{dropped}
use Rattle.asm_lines.specs.Seen.{seen}
use Rattle.asm_lines.specs.declared.line.Line.{Line}

pub ends : (ls : List Line) (i : ℕ) → length ls ≤ i → length (map seen ls) ≤ i
ends ls i end = let e = length-map ls seen in omega (arith, end, e)

module _ (ls : List Line) (i : ℕ) (l : Line) (low : i < length ls) (is : l ≡ get_or ls i l) where
  pub stands : slice_get (map seen ls) i ≡ Some (seen l)
  stands = slice_get-map seen ls i ∙ ap (option_map seen) (slice_get-get_or ls i l low ∙ ap Some (sym is))

  pub left : drop i (map seen ls) ≡ seen l ∷ drop (i + 1) (map seen ls)
  left = dropped (map seen ls) i (seen l) (let e = length-map ls seen in omega (arith, low, e)) (sym (get_or_from_slice_get (map seen ls) i (seen l) (seen l) stands))
