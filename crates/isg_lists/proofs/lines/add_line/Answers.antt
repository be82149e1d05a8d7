use Rattle.std.proofs.Common.{◌≡◌, ◌++◌, ◌∷◌, [], Bool, OnOk, subst}
use Rattle.std.specs.Prelude.{if◌then◌else◌}
use Rattle.isg_lists.specs.Numbers.{list_at}
use Rattle.isg_lists.specs.declared.lines.Line.{Line}
use Rattle.isg_lists.proofs.Alike.{same_lines}
use Rattle.isg_lists.proofs.lines.add_line.Goals as goal

pub returns-in-Some : goal.returns-in-Some
returns-in-Some c =
    rw c.in-Some.is
    (subst (λ (f : Line → Line → Bool). OnOk c.add.result ((k : Line) → list_at f c.add.new.lists k ≡ (if f k c.in-Some.line then list_at f c.args.lists.now k ++ c.args.n ∷ [] else list_at f c.args.lists.now k))) same_lines c.add.ensures.lists)
