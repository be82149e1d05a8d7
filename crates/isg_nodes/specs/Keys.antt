-- The node of a key.
use Rattle.std.specs.Prelude.{ℕ, [], ◌∷◌, unwrap_or, slice_get}
use Rattle.nml_tree.specs.declared.operator.Un.{Un}
use Rattle.nml_tree.specs.declared.operator.Un.TheVariants as un
use Rattle.nml_tree.specs.declared.operator.Bin.{Bin}
use Rattle.nml_tree.specs.declared.operator.Bin.TheVariants as bin
use Rattle.isg_nodes.specs.declared.key.Key.{Key}
use Rattle.isg_nodes.specs.declared.node.Node.{Node}
use Rattle.isg_nodes.specs.declared.node.Node.TheVariants as node

-- the operator of two operands of this number
abbrev pub bin_at : ℕ → Bin
bin_at n =
    unwrap_or (slice_get (bin.OrElse ∷ bin.AndAlso ∷ bin.Or ∷ bin.Xor ∷ bin.And ∷ bin.Eq ∷ bin.Ne ∷ bin.Lt ∷ bin.Le ∷ bin.Gt ∷ bin.Ge ∷ bin.Shl ∷ bin.Shr ∷ bin.Add ∷ bin.Sub ∷ bin.Mul ∷ []) n) bin.OrElse

-- the operator of one operand of this number, with these sizes
abbrev pub un_at : (n a b : ℕ) → Un
un_at n a b = unwrap_or (slice_get (un.Neg ∷ un.Inv ∷ un.Not ∷ un.Int a ∷ un.Card a ∷ un.Sat a ∷ un.Bits a b ∷ []) n) un.Neg

-- the node that the key stands for
abbrev pub node_of : Key → Node
node_of k =
    unwrap_or
    (slice_get
    (node.Number k.number
    ∷ node.Field k.first
    ∷ node.Cell k.first k.second
    ∷ node.Trn k.first
    ∷ node.Inp
    ∷ node.Unary (un_at k.operator k.second k.third) k.first
    ∷ node.Binary (bin_at k.operator) k.first k.second
    ∷ node.Choose k.first k.second k.third
    ∷ node.SetCell k.first k.second k.third
    ∷ node.SetTrn k.first k.second
    ∷ node.Put k.first
    ∷ node.Halt k.first
    ∷ [])
    k.kind)
    node.Inp
