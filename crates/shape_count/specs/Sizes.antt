-- How long the action and the value of a rule are, written out, from how long those of its parts are. For private contracts.
use Rattle.std.specs.Prelude.{ℕ, ◌==◌, ◌+◌, ◌*◌, if◌then◌else◌, List, slice_get, slice_set, Option, Some, None, unwrap_or}
use Rattle.std.specs.Map.{lookup}
use Rattle.nk_base.specs.Text.{text_eq}
use Rattle.nml_tree.specs.declared.names.Name.{Name}
use Rattle.nml_tree.specs.declared.tree.Desc.{Desc}
use Rattle.nml_tree.specs.Formula.{Formula, Numeral, Truth, Named, Indexed, Paren, Fitted, Bits, Choose, Unary, Binary}
use Rattle.nml_tree.specs.Block.{Block, Index, Done, Assign, Part, Halt, If, IfElse}
use Rattle.nml_tree.specs.Shapes.{counted}
use Rattle.nml_tree.specs.Table.{Text, Declared, declared, table}
use Rattle.shape_count.specs.declared.scope.Found.{Found}
use Rattle.shape_count.specs.declared.scope.Found.TheVariants as found_as

-- a sum, as far as is counted
abbrev pub plus : ℕ → ℕ → ℕ
plus a b = counted (a + b)

-- a product, as far as is counted
abbrev pub times : ℕ → ℕ → ℕ
times a b = counted (a * b)

-- what stands at the place once more
abbrev pub bumped : List ℕ → ℕ → List ℕ
bumped counts n = slice_set counts n (plus (unwrap_or (slice_get counts n) 0) 1)

-- what a declared name is
abbrev pub found_declared : Option Declared → Found
found_declared (Some (Declared.Storage n k ty)) = if k == 1 then found_as.Leaf else found_as.Wide
found_declared _ = found_as.Leaf

-- what a name is that may be a parameter
abbrev pub found_at : Option ℕ → Option Declared → Found
found_at None d = found_declared d
found_at (Some place) d = found_as.Parameter place

-- what a name is, the parameters having these places
abbrev pub found : Desc → List (Text × ℕ) → Text → Found
found d places name = found_at (lookup (text_eq name) places) (declared (table d) name)

-- the same
abbrev pub finds : Desc → List (Text × ℕ) → Text → Found
finds d places name = found d places name

-- a name that stands in an expression, with an index of this size
abbrev pub own_found : Found → ℕ → ℕ
own_found (found_as.Parameter place) index = 0
own_found found_as.Wide index = plus 1 index
own_found found_as.Leaf index = 1

-- leaves and operators of an expression that are no parameters
abbrev pub own : (Text → Found) → Formula → ℕ
own f (Numeral n) = 1
own f (Truth at b) = 1
own f (Named n) = own_found (f n.text) 1
own f (Indexed n p i q) = own_found (f n.text) (own f i)
own f (Paren p x q) = own f x
own f (Fitted g at p n c x q) = plus 1 (own f x)
own f (Bits at p x c high d low q) = plus 1 (own f x)
own f (Choose at c b x g y end) = plus (own f c) (plus 1 (plus (own f x) (own f y)))
own f (Unary op at x) = plus 1 (own f x)
own f (Binary op x at y) = plus 1 (plus (own f x) (own f y))

-- how often each parameter is named, where a name stands with an index
abbrev pub mention_found : Found → (within counts : List ℕ) → List ℕ
mention_found (found_as.Parameter place) within counts = bumped counts place
mention_found found_as.Wide within counts = within
mention_found found_as.Leaf within counts = counts

-- in an expression
abbrev pub mentioned : (Text → Found) → Formula → List ℕ → List ℕ
mentioned f (Numeral n) counts = counts
mentioned f (Truth at b) counts = counts
mentioned f (Named n) counts = mention_found (f n.text) counts counts
mentioned f (Indexed n p i q) counts = mention_found (f n.text) (mentioned f i counts) counts
mentioned f (Paren p x q) counts = mentioned f x counts
mentioned f (Fitted g at p n c x q) counts = mentioned f x counts
mentioned f (Bits at p x c high d low q) counts = mentioned f x counts
mentioned f (Choose at c b x g y end) counts = mentioned f y (mentioned f x (mentioned f c counts))
mentioned f (Unary op at x) counts = mentioned f x counts
mentioned f (Binary op x at y) counts = mentioned f y (mentioned f x counts)

-- the place that is assigned
abbrev pub own_place : (Text → Found) → Name → Index → ℕ
own_place f n None = own_found (f n.text) 1
own_place f n (Some (p, i, q)) = own_found (f n.text) (own f i)

-- and what is named there
abbrev pub place_mentioned : (Text → Found) → Name → Index → List ℕ → List ℕ
place_mentioned f n None counts = mention_found (f n.text) counts counts
place_mentioned f n (Some (p, i, q)) counts = mention_found (f n.text) (mentioned f i counts) counts

-- the total with statements, but for what parameters give
abbrev pub with_block : (Text → Found) → Block → ℕ → ℕ
with_block f Done total = total
with_block f (Assign n i at e semicolon rest) total = with_block f rest (plus total (plus 1 (plus (own_place f n i) (own f e))))
with_block f (Part n dot at semicolon rest) total = with_block f rest total
with_block f (Halt at p e q semicolon rest) total = with_block f rest (plus total (plus 1 (own f e)))
with_block f (If at c t xs end semicolon rest) total = with_block f rest (with_block f xs (plus total (plus 1 (own f c))))
with_block f (IfElse at c t xs g ys end semicolon rest) total = with_block f rest (with_block f ys (with_block f xs (plus total (plus 1 (own f c)))))

-- how often they name each parameter
abbrev pub block_mentioned : (Text → Found) → Block → List ℕ → List ℕ
block_mentioned f Done counts = counts
block_mentioned f (Assign n i at e semicolon rest) counts = block_mentioned f rest (mentioned f e (place_mentioned f n i counts))
block_mentioned f (Part n dot at semicolon rest) counts = block_mentioned f rest counts
block_mentioned f (Halt at p e q semicolon rest) counts = block_mentioned f rest (mentioned f e counts)
block_mentioned f (If at c t xs end semicolon rest) counts = block_mentioned f rest (block_mentioned f xs (mentioned f c counts))
block_mentioned f (IfElse at c t xs g ys end semicolon rest) counts = block_mentioned f rest (block_mentioned f ys (block_mentioned f xs (mentioned f c counts)))

-- an action that stands there
abbrev pub act_found : Found → List ℕ → List ℕ
act_found (found_as.Parameter place) counts = bumped counts place
act_found found_as.Wide counts = counts
act_found found_as.Leaf counts = counts

-- how often the action of each parameter stands in statements
abbrev pub acted : (Text → Found) → Block → List ℕ → List ℕ
acted f Done counts = counts
acted f (Assign n i at e semicolon rest) counts = acted f rest counts
acted f (Part n dot at semicolon rest) counts = acted f rest (act_found (f n.text) counts)
acted f (Halt at p e q semicolon rest) counts = acted f rest counts
acted f (If at c t xs end semicolon rest) counts = acted f rest (acted f xs counts)
acted f (IfElse at c t xs g ys end semicolon rest) counts = acted f rest (acted f ys (acted f xs counts))

-- a mode's value; an `op` has none, and 0 stands for it
abbrev pub own_value : (Text → Found) → Option Formula → ℕ
own_value f None = 1
own_value f (Some e) = own f e

-- and what is named there
abbrev pub value_mentioned : (Text → Found) → Option Formula → List ℕ → List ℕ
value_mentioned f None counts = counts
value_mentioned f (Some e) counts = mentioned f e counts
