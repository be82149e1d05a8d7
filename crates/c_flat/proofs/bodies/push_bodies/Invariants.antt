use Rattle.std.proofs.Common.{drop, map}
use Rattle.c_tree.specs.Items.{item}
use Rattle.c_names.specs.Shown.{names}
use Rattle.c_flat.specs.Listing.{Standing, outlines_of}
use Rattle.c_flat.proofs.AllBodies.{outlines_left}
use Rattle.c_flat.proofs.bodies.push_bodies.Given as goal

abbrev pub invariant-loop-one : goal.invariant-loop-one
invariant-loop-one l = Standing l.fn.nodes.items l.nodes.items l.bodies.items (outlines_left (names l.scopes) (drop l.one-index l.globals)) (outlines_of (map item l.globals))
