use Rattle.std.proofs.Common.{ap, ap₂, sym, ◌∙◌, ◌∷◌, List, ℤ, reverse}
use Rattle.c_tree.specs.Meaning.{State}
use Rattle.c_frames.specs.Frames.{Run, Frame, Called}
use Rattle.c_frames.specs.Steps.{to}
use Rattle.c_machine.specs.declared.task.Pending.TheVariants as pendings
use Rattle.c_machine.specs.Stands.{state_of, frames_of}
use Rattle.c_flat.specs.Sorts.{command_at}
use Rattle.c_machine.proofs.Stacks.{frames_push, with_put}
use Rattle.c_machine.proofs.machine.Machine.enter.Goals as goal

pub returns : goal.returns
returns c = λ p out.
    let m = c.args.self.now in
    let ns = c.args.code.now.nodes.items in
    let x = Run (command_at ns c.args.entry.body) in
    let s = state_of c.args.input.now m out in
    let k = ap (frames_of ns) c.in_ok-push.ensures.items ∙ frames_push ns m.frames.items (pendings.Called m.base m.depth) in
    c.go.ensures p out
    ∙ ap₂ {A = List Frame} {B = List ℤ} (λ k z. to p c.args.code.now.bits x (record { base = c.args.entry.base; depth = c.args.depth }) k (record s { memory = z })) k c.fill.ensures.memory
    ∙ ap {A = State} (λ s. to p c.args.code.now.bits x (record { base = c.args.entry.base; depth = c.args.depth }) (Called (record { base = m.base; depth = m.depth }) ∷ frames_of ns m.frames.items) s) (sym (with_put (reverse m.arguments.items) c.args.entry.base s))
