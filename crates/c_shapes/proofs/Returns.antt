-- Whether a block ends with a `return` is a matter of its last part.
use Rattle.std.proofs.Common.{◌≡◌, ◌<◌, ◌+◌, ◌-◌, ap, arith, subst, sym, ◌∙◌, refl, false, List, [], ◌∷◌, ◌++◌, get_or, length, take}
use Rattle.std.proofs.lemmas.List.{take_all, take_more}
use Rattle.c_tree.specs.declared.statement.Decl.{Decl}
use Rattle.c_tree.specs.declared.statement.Part.{Part}
use Rattle.c_tree.specs.declared.statement.Part.TheVariants as p
use Rattle.c_tree.specs.declared.statement.Stmt.{Stmt}
use Rattle.c_tree.specs.declared.statement.Block.{Block}
use Rattle.c_tree.specs.declared.statement.Part.TheOpen.{Part-F}
use Rattle.c_tree.specs.declared.statement.Part.TheFolds.{map-Part}
use Rattle.c_tree.specs.declared.statement.Part.TheViews.{out-Part, roll-out-Part}
use Rattle.c_tree.specs.Statement.{Statement, Braces, Empty, Simply, Break, Continue, Return, If, IfElse, While, Do, For, Body, Nothing, Declare, Then, Braced, part_step, part, statement, block, body}
use Rattle.c_tree.specs.Resolve.{ends_with_return}
use Rattle.c_tree.proofs.StatementLaws.{part_at, part-Decl, part-Stmt}
use Rattle.c_shapes.specs.Shapes.{returns_at_once}

-- a list is what stands before its last item, and that item
pub last_apart : {A : Type 0} (xs : List A) (x : A) → 0 < length xs → x ≡ get_or xs (length xs - 1) x → xs ≡ take (length xs - 1) xs ++ x ∷ []
last_apart xs x some at =
    let n = length xs - 1 in
    let all : take (n + 1) xs ≡ xs = take_all (n + 1) xs (omega (arith, some)) in
    sym all ∙ take_more xs n x (omega (arith, some)) ∙ ap (λ y. take n xs ++ y ∷ []) (sym at)

-- something stands there
abbrev IsMore : Body → Type 0
IsMore Nothing = ⊥
IsMore (Declare d rest) = Unit {0}
IsMore (Then x rest) = Unit {0}

-- a statement before others says nothing
ends_then : (x : Statement) (rest : Body) → IsMore rest → ends_with_return (Then x rest) ≡ ends_with_return rest
ends_then (Return at e q) Nothing m = absurd m
ends_then (Return at e q) (Declare d rest) m = refl
ends_then (Return at e q) (Then x rest) m = refl
ends_then (Braces p b q) rest m = refl
ends_then (Empty at) rest m = refl
ends_then (Simply a at) rest m = refl
ends_then (Break at q) rest m = refl
ends_then (Continue at q) rest m = refl
ends_then (If at p c q x) rest m = refl
ends_then (IfElse at p c q x f y) rest m = refl
ends_then (While at p c q x) rest m = refl
ends_then (Do at x w p c q r) rest m = refl
ends_then (For at p first a c b last q x) rest m = refl

-- the last statement says all
ends_alone : (x : Statement) → ends_with_return (Then x Nothing) ≡ returns_at_once x
ends_alone (Return at e q) = refl
ends_alone (Braces p b q) = refl
ends_alone (Empty at) = refl
ends_alone (Simply a at) = refl
ends_alone (Break at q) = refl
ends_alone (Continue at q) = refl
ends_alone (If at p c q x) = refl
ends_alone (IfElse at p c q x f y) = refl
ends_alone (While at p c q x) = refl
ends_alone (Do at x w p c q r) = refl
ends_alone (For at p first a c b last q x) = refl

-- one level of a part
abbrev opened : Part-F Part Stmt Block → Part-F (Body → Body) Statement Braced
opened l = map-Part Part Stmt Block (Body → Body) Statement Braced part statement block l

more_step : (l : Part-F Part Stmt Block) (rest : Body) → IsMore (part_step (opened l) rest)
more_step (Part-F.Decl d) rest = tt
more_step (Part-F.Stmt s) rest = tt

more_part : (q : Part) (rest : Body) → IsMore (part q rest)
more_part q rest = subst IsMore (sym (part_at (out-Part q) (roll-out-Part q) rest)) (more_step (out-Part q) rest)

behind_step : (l : Part-F Part Stmt Block) (rest : Body) → IsMore rest → ends_with_return (part_step (opened l) rest) ≡ ends_with_return rest
behind_step (Part-F.Decl d) rest m = refl
behind_step (Part-F.Stmt s) rest m = ends_then (statement s) rest m

behind_part : (q : Part) (rest : Body) → IsMore rest → ends_with_return (part q rest) ≡ ends_with_return rest
behind_part q rest m = ap ends_with_return (part_at (out-Part q) (roll-out-Part q) rest) ∙ behind_step (out-Part q) rest m

more_body : (parts : List Part) (one : Part) → IsMore (body (parts ++ one ∷ []))
more_body [] one = more_part one Nothing
more_body (q ∷ parts) one = more_part q (body (parts ++ one ∷ []))

-- the parts before the last one say nothing
last_part : (parts : List Part) (one : Part) → ends_with_return (body (parts ++ one ∷ [])) ≡ ends_with_return (part one Nothing)
last_part [] one = refl
last_part (q ∷ parts) one = behind_part q (body (parts ++ one ∷ [])) (more_body parts one) ∙ last_part parts one

-- a block whose last part is a declaration
pub ends_declaring : (all parts : List Part) (one : Part) (d : Decl) → all ≡ parts ++ one ∷ [] → one ≡ p.Decl d → ends_with_return (body all) ≡ false
ends_declaring all parts one d is told = ap (λ ps. ends_with_return (body ps)) is ∙ last_part parts one ∙ rw (told, part-Decl) refl

-- a block whose last part is a statement
pub ends_stating : (all parts : List Part) (one : Part) (x : Stmt) → all ≡ parts ++ one ∷ [] → one ≡ p.Stmt x → ends_with_return (body all) ≡ returns_at_once (statement x)
ends_stating all parts one x is told = ap (λ ps. ends_with_return (body ps)) is ∙ last_part parts one ∙ rw (told, part-Stmt) (ends_alone (statement x))
