-- For contracts: a plan that can be lowered, and where its cells and labels lie.
use Rattle.std.specs.Prelude.{◌≡◌, ℕ, ◌<◌, length, map, IfSome, All}
use Rattle.ir_run.specs.Entry.{Listing}
use Rattle.c_tree.specs.Program.{Program}
use Rattle.c_tree.specs.Meaning.{global_cells}
use Rattle.c_tree.specs.Lowered.{program_frames, first_constant, trap_label, lowered}
use Rattle.c_pieces.specs.Pushed.{IsProgram, frame_shown}
use Rattle.c_plan.specs.declared.plan.Plan.{Plan}
use Rattle.c_lower.specs.declared.ground.Ground.{Ground}

-- the nodes are counted, and the bodies are among them
pub record IsReady (plan : Plan) : Type 0 where
  pub program : IsProgram plan.nodes.items plan.sizes.items
  pub main : IfSome plan.main (λ r. r.body < length plan.nodes.items)
  pub others : All (λ r. r.body < length plan.nodes.items) plan.others.items

-- where the cells and labels of a program lie
pub record IsGround (p : Program) (g : Ground) : Type 0 where
  pub shapes_are : g.shapes.items ≡ map (λ v. v.shape) p.globals
  pub globals_are : g.globals ≡ global_cells p
  pub frames_are : map frame_shown g.frames.items ≡ program_frames p
  pub constants : g.free.cell ≡ first_constant p
  pub trap : g.free.label ≡ trap_label p

-- these are the program's statements and cells
pub record IsLowered (i : Listing) (p : Program) (n : ℕ) : Type 0 where
  pub is : i ≡ lowered p n
