-- What nodes write out: the expressions, arguments and commands of a resolved program.
use Rattle.std.specs.Prelude.{◌≡◌, ℕ, ◌<◌, ◌≤◌, ◌==◌, List, [], ◌∷◌, length, reverse, Some, None, slice_get, if◌then◌else◌}
use Rattle.c_tree.specs.Program.{Term, Terms, Command}
use Rattle.c_tree.specs.Program as program
use Rattle.c_flat.specs.declared.node.Node.{Node}
use Rattle.c_flat.specs.declared.node.Node.TheVariants as node

-- what a node is
pub data Written : Type 0 where
  OfTerm : Term → Written
  OfTerms : Terms → Written
  OfCommand : Command → Written

-- what a part is; a part of another sort counts as 0, as no arguments or as nothing to do
abbrev pub as_term : Written → Term
as_term (OfTerm t) = t
as_term _ = program.Number 0

abbrev pub as_terms : Written → Terms
as_terms (OfTerms ts) = ts
as_terms _ = program.NoMore

abbrev pub as_command : Written → Command
as_command (OfCommand c) = c
as_command _ = program.Skip

-- one node, over what the earlier ones write out
abbrev pub one : Node → (ℕ → Written) → Written
one (node.Number z) f = OfTerm (program.Number z)
one (node.Scalar p) f = OfTerm (program.Scalar p)
one (node.Element p n i) f = OfTerm (program.Element p n (as_term (f i)))
one node.Input f = OfTerm program.Input
one (node.Call g xs) f = OfTerm (program.Call g (as_terms (f xs)))
one (node.Unary op x) f = OfTerm (program.Unary op (as_term (f x)))
one (node.Shifted op x k) f = OfTerm (program.Shifted op (as_term (f x)) k)
one (node.Arithmetic op x y) f = OfTerm (program.Arithmetic op (as_term (f x)) (as_term (f y)))
one (node.Compare r x y) f = OfTerm (program.Compare r (as_term (f x)) (as_term (f y)))
one (node.Not x) f = OfTerm (program.Not (as_term (f x)))
one (node.AndAlso x y) f = OfTerm (program.AndAlso (as_term (f x)) (as_term (f y)))
one (node.OrElse x y) f = OfTerm (program.OrElse (as_term (f x)) (as_term (f y)))
one node.NoMore f = OfTerms program.NoMore
one (node.More x xs) f = OfTerms (program.More (as_term (f x)) (as_terms (f xs)))
one node.Skip f = OfCommand program.Skip
one (node.Seq x y) f = OfCommand (program.Seq (as_command (f x)) (as_command (f y)))
one (node.Turn x) f = OfCommand (program.Turn (as_command (f x)))
one (node.Set p e) f = OfCommand (program.Set p (as_term (f e)))
one (node.Store p n i e) f = OfCommand (program.Store p n (as_term (f i)) (as_term (f e)))
one (node.Change p n i op e) f = OfCommand (program.Change p n (as_term (f i)) op (as_term (f e)))
one (node.Print e) f = OfCommand (program.Print (as_term (f e)))
one node.Take f = OfCommand program.Take
one (node.Invoke g xs) f = OfCommand (program.Invoke g (as_terms (f xs)))
one (node.If e x) f = OfCommand (program.If (as_term (f e)) (as_command (f x)))
one (node.IfElse e x y) f = OfCommand (program.IfElse (as_term (f e)) (as_command (f x)) (as_command (f y)))
one (node.While e x) f = OfCommand (program.While (as_term (f e)) (as_command (f x)))
one (node.Do x e) f = OfCommand (program.Do (as_command (f x)) (as_term (f e)))
one (node.Forever st x) f = OfCommand (program.For None (as_command (f st)) (as_command (f x)))
one (node.For e st x) f = OfCommand (program.For (Some (as_term (f e))) (as_command (f st)) (as_command (f x)))
one node.Break f = OfCommand program.Break
one node.Continue f = OfCommand program.Continue
one node.Return f = OfCommand (program.Return None)
one (node.ReturnWith e) f = OfCommand (program.Return (Some (as_term (f e))))

-- of nodes that are listed from the newest on, what node n writes out
abbrev pub grown : List Node → ℕ → Written
grown [] n = OfCommand program.Skip
grown (x ∷ older) n = if n == length older then one x (grown older) else grown older n

-- what node n writes out
unfoldable pub written : List Node → ℕ → Written
written nodes n = grown (reverse nodes) n

-- the parts of a node
abbrev pub parts : Node → List ℕ
parts (node.Element p n i) = i ∷ []
parts (node.Call g xs) = xs ∷ []
parts (node.Unary op x) = x ∷ []
parts (node.Shifted op x k) = x ∷ []
parts (node.Arithmetic op x y) = x ∷ y ∷ []
parts (node.Compare r x y) = x ∷ y ∷ []
parts (node.Not x) = x ∷ []
parts (node.AndAlso x y) = x ∷ y ∷ []
parts (node.OrElse x y) = x ∷ y ∷ []
parts (node.More x xs) = x ∷ xs ∷ []
parts (node.Seq x y) = x ∷ y ∷ []
parts (node.Turn x) = x ∷ []
parts (node.Set p e) = e ∷ []
parts (node.Store p n i e) = i ∷ e ∷ []
parts (node.Change p n i op e) = i ∷ e ∷ []
parts (node.Print e) = e ∷ []
parts (node.Invoke g xs) = xs ∷ []
parts (node.If e x) = e ∷ x ∷ []
parts (node.IfElse e x y) = e ∷ x ∷ y ∷ []
parts (node.While e x) = e ∷ x ∷ []
parts (node.Do x e) = x ∷ e ∷ []
parts (node.Forever st x) = st ∷ x ∷ []
parts (node.For e st x) = e ∷ st ∷ x ∷ []
parts (node.ReturnWith e) = e ∷ []
parts _ = []

abbrev pub AreBelow : List ℕ → ℕ → Type 0
AreBelow [] n = Unit {0}
AreBelow (x ∷ xs) n = (x < n) × AreBelow xs n

-- the parts of a node stand before this number
abbrev pub IsBelow : Node → ℕ → Type 0
IsBelow x n = AreBelow (parts x) n

-- each node names earlier ones
pub record Falls (nodes : List Node) : Type 0 where
  pub each : (n : ℕ) (x : Node) → slice_get nodes n ≡ Some x → IsBelow x n

-- more nodes at the end
pub record Extends (old new : List Node) : Type 0 where
  pub longer : length old ≤ length new
  pub same : (n : ℕ) → n < length old → written new n ≡ written old n

-- node n of the new nodes writes out a, the old nodes are as before, and each names earlier ones
pub record Grew (old new : List Node) (a : Written) (n : ℕ) : Type 0 where
  pub extends : Extends old new
  pub falls : Falls new
  pub within : n < length new
  pub is : written new n ≡ a
