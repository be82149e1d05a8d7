use Rattle.std.proofs.Common.{◌≡◌, ◌++◌, [], map, drop}
use Rattle.nml_shape.specs.Shown.{token_of}
use Rattle.nml_tree.specs.Outline.{template_behind}
use Rattle.shape_list.specs.Drawn.{flat_of}
use Rattle.shape_list.specs.Runs.{AreShort}
use Rattle.shape_list.proofs.shape.template.Given as goal

abbrev pub invariant-loop-g : goal.invariant-loop-g
invariant-loop-g l =
    (map token_of l.tokens.items ++ template_behind l.letters (map flat_of (drop l.g-index l.syntax)) ≡ template_behind [] (map flat_of l.syntax))
    × AreShort l.letters (map flat_of (drop l.g-index l.syntax))
