-- For contracts: frames, and what is free behind them.
use Rattle.std.specs.Prelude.{◌≡◌, ◌+◌, List, map}
use Rattle.c_tree.specs.Program.{Function}
use Rattle.c_tree.specs.Lowered.{frames, cells_of_all, marks_of_all}
use Rattle.c_pieces.specs.declared.layout.Frame.{Frame}
use Rattle.c_pieces.specs.Pushed.{frame_shown}
use Rattle.c_lower.specs.declared.frames.Free.{Free}

-- this is free behind the functions whose cells and labels begin there
pub record IsBehind (free : Free) (fs : List Function) (next : Free) : Type 0 where
  pub cell : next.cell ≡ free.cell + cells_of_all fs
  pub label : next.label ≡ free.label + marks_of_all fs

-- these are the frames of the functions whose cells and labels begin there, and this is free behind them
pub record HasFrames (free : Free) (fs : List Function) (found : List Frame) (next : Free) : Type 0 where
  pub frames : map frame_shown found ≡ frames free.cell free.label fs
  pub behind : IsBehind free fs next
