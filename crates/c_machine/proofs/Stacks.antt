-- What waits in a machine in code, the last first; and what waits for a number is no end of a command.
use Rattle.std.proofs.Common.{◌≡◌, refl, ap, ◌∙◌, ℕ, ◌+◌, ℤ, List, [], ◌∷◌, ◌++◌, map, reverse}
use Rattle.std.proofs.lemmas.List.{reverse-append, map-append}
use Rattle.nk_outside.specs.declared.stop.Stop.TheVariants as stops
use Rattle.c_tree.specs.Program.{Program}
use Rattle.c_tree.specs.Meaning.{State, put, with_arguments}
use Rattle.c_flat.specs.declared.node.Node.{Node}
use Rattle.c_frames.specs.Frames.{Where, Frame}
use Rattle.c_frames.specs.Steps.{Stops, step_pass, step_on, step_leave, step_onward, step_back}
use Rattle.c_machine.specs.declared.task.Expects.{Expects}
use Rattle.c_machine.specs.declared.task.Expects.TheVariants as expects
use Rattle.c_machine.specs.declared.task.Pending.{Pending}
use Rattle.c_machine.specs.Filled.{put_all}
use Rattle.c_machine.specs.Stands.{expected, frame_of, frames_of}

pub frames_push : (ns : List Node) (ps : List Pending) (f : Pending) → frames_of ns (ps ++ f ∷ []) ≡ frame_of ns f ∷ frames_of ns ps
frames_push ns ps f = ap reverse (map-append (frame_of ns) ps (f ∷ [])) ∙ reverse-append (map (frame_of ns) ps) (frame_of ns f ∷ [])

pub frames_pop : (ns : List Node) (old new : List Pending) (f : Pending) → old ≡ new ++ f ∷ [] → frames_of ns old ≡ frame_of ns f ∷ frames_of ns new
frames_pop ns old new f is = ap (frames_of ns) is ∙ frames_push ns new f

pub frames_none : (ns : List Node) (old : List Pending) → old ≡ [] → frames_of ns old ≡ []
frames_none ns old is = ap (frames_of ns) is

pub record NoEnd (e : Frame) : Type 0 where
  pub passes : (p : Program) (n : ℕ) (k : List Frame) (zs : List ℤ) (w : Where) (s : State) → step_pass p n (e ∷ k) zs w s ≡ Stops stops.Running s
  pub goes_on : (p : Program) (n : ℕ) (k : List Frame) (w : Where) (s : State) → step_on p n (e ∷ k) w s ≡ Stops stops.Running s
  pub leaves : (p : Program) (n : ℕ) (k : List Frame) (w : Where) (s : State) → step_leave p n (e ∷ k) w s ≡ Stops stops.Running s
  pub goes_onward : (p : Program) (n : ℕ) (k : List Frame) (w : Where) (s : State) → step_onward p n (e ∷ k) w s ≡ Stops stops.Running s
  pub goes_back : (p : Program) (n : ℕ) (k : List Frame) (z : ℤ) (w : Where) (s : State) → step_back p n (e ∷ k) z w s ≡ Stops stops.Running s

pub no_end : (ns : List Node) (e : Expects) → NoEnd (expected ns e)
no_end ns (expects.Element q m) = record { passes = λ p n k zs w s. refl; goes_on = λ p n k w s. refl; leaves = λ p n k w s. refl; goes_onward = λ p n k w s. refl; goes_back = λ p n k z w s. refl }
no_end ns (expects.Unary op) = record { passes = λ p n k zs w s. refl; goes_on = λ p n k w s. refl; leaves = λ p n k w s. refl; goes_onward = λ p n k w s. refl; goes_back = λ p n k z w s. refl }
no_end ns (expects.Shifted op k) = record { passes = λ p n k zs w s. refl; goes_on = λ p n k w s. refl; leaves = λ p n k w s. refl; goes_onward = λ p n k w s. refl; goes_back = λ p n k z w s. refl }
no_end ns (expects.ArithmeticRight op y) = record { passes = λ p n k zs w s. refl; goes_on = λ p n k w s. refl; leaves = λ p n k w s. refl; goes_onward = λ p n k w s. refl; goes_back = λ p n k z w s. refl }
no_end ns (expects.ArithmeticLeft op a) = record { passes = λ p n k zs w s. refl; goes_on = λ p n k w s. refl; leaves = λ p n k w s. refl; goes_onward = λ p n k w s. refl; goes_back = λ p n k z w s. refl }
no_end ns (expects.CompareRight r y) = record { passes = λ p n k zs w s. refl; goes_on = λ p n k w s. refl; leaves = λ p n k w s. refl; goes_onward = λ p n k w s. refl; goes_back = λ p n k z w s. refl }
no_end ns (expects.CompareLeft r a) = record { passes = λ p n k zs w s. refl; goes_on = λ p n k w s. refl; leaves = λ p n k w s. refl; goes_onward = λ p n k w s. refl; goes_back = λ p n k z w s. refl }
no_end ns expects.Negate = record { passes = λ p n k zs w s. refl; goes_on = λ p n k w s. refl; leaves = λ p n k w s. refl; goes_onward = λ p n k w s. refl; goes_back = λ p n k z w s. refl }
no_end ns (expects.AndRight y) = record { passes = λ p n k zs w s. refl; goes_on = λ p n k w s. refl; leaves = λ p n k w s. refl; goes_onward = λ p n k w s. refl; goes_back = λ p n k z w s. refl }
no_end ns (expects.OrRight y) = record { passes = λ p n k zs w s. refl; goes_on = λ p n k w s. refl; leaves = λ p n k w s. refl; goes_onward = λ p n k w s. refl; goes_back = λ p n k z w s. refl }
no_end ns expects.AsTruth = record { passes = λ p n k zs w s. refl; goes_on = λ p n k w s. refl; leaves = λ p n k w s. refl; goes_onward = λ p n k w s. refl; goes_back = λ p n k z w s. refl }
no_end ns (expects.Argument xs) = record { passes = λ p n k zs w s. refl; goes_on = λ p n k w s. refl; leaves = λ p n k w s. refl; goes_onward = λ p n k w s. refl; goes_back = λ p n k z w s. refl }
no_end ns (expects.SetTo q) = record { passes = λ p n k zs w s. refl; goes_on = λ p n k w s. refl; leaves = λ p n k w s. refl; goes_onward = λ p n k w s. refl; goes_back = λ p n k z w s. refl }
no_end ns (expects.StoreIndex q m e) = record { passes = λ p n k zs w s. refl; goes_on = λ p n k w s. refl; leaves = λ p n k w s. refl; goes_onward = λ p n k w s. refl; goes_back = λ p n k z w s. refl }
no_end ns (expects.StoreAt c) = record { passes = λ p n k zs w s. refl; goes_on = λ p n k w s. refl; leaves = λ p n k w s. refl; goes_onward = λ p n k w s. refl; goes_back = λ p n k z w s. refl }
no_end ns (expects.ChangeIndex q m op e) = record { passes = λ p n k zs w s. refl; goes_on = λ p n k w s. refl; leaves = λ p n k w s. refl; goes_onward = λ p n k w s. refl; goes_back = λ p n k z w s. refl }
no_end ns (expects.ChangeAt c op old) = record { passes = λ p n k zs w s. refl; goes_on = λ p n k w s. refl; leaves = λ p n k w s. refl; goes_onward = λ p n k w s. refl; goes_back = λ p n k z w s. refl }
no_end ns expects.Show = record { passes = λ p n k zs w s. refl; goes_on = λ p n k w s. refl; leaves = λ p n k w s. refl; goes_onward = λ p n k w s. refl; goes_back = λ p n k z w s. refl }
no_end ns expects.Forget = record { passes = λ p n k zs w s. refl; goes_on = λ p n k w s. refl; leaves = λ p n k w s. refl; goes_onward = λ p n k w s. refl; goes_back = λ p n k z w s. refl }
no_end ns (expects.Then x) = record { passes = λ p n k zs w s. refl; goes_on = λ p n k w s. refl; leaves = λ p n k w s. refl; goes_onward = λ p n k w s. refl; goes_back = λ p n k z w s. refl }
no_end ns (expects.Choose x y) = record { passes = λ p n k zs w s. refl; goes_on = λ p n k w s. refl; leaves = λ p n k w s. refl; goes_onward = λ p n k w s. refl; goes_back = λ p n k z w s. refl }
no_end ns (expects.Tested l b) = record { passes = λ p n k zs w s. refl; goes_on = λ p n k w s. refl; leaves = λ p n k w s. refl; goes_onward = λ p n k w s. refl; goes_back = λ p n k z w s. refl }
no_end ns expects.Giving = record { passes = λ p n k zs w s. refl; goes_on = λ p n k w s. refl; leaves = λ p n k w s. refl; goes_onward = λ p n k w s. refl; goes_back = λ p n k z w s. refl }

pub with_put : (zs : List ℤ) (k : ℕ) (s : State) → with_arguments s k zs ≡ record s { memory = put_all s.memory k zs }
with_put [] k s = refl
with_put (z ∷ zs) k s = with_put zs (k + 1) (put s k z)
