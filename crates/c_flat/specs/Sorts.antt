-- Nodes by their sort: an expression, arguments or a command.
use Rattle.std.specs.Prelude.{ℕ, List, [], ◌∷◌, Option, Some, None}
use Rattle.c_tree.specs.Program.{Term, Terms, Command}
use Rattle.c_tree.specs.Program as program
use Rattle.c_flat.specs.declared.node.Node.{Node}
use Rattle.c_flat.specs.declared.sort.TermNode.{TermNode}
use Rattle.c_flat.specs.declared.sort.TermNode.TheVariants as term_node
use Rattle.c_flat.specs.declared.sort.CommandNode.{CommandNode}
use Rattle.c_flat.specs.declared.sort.CommandNode.TheVariants as command_node
use Rattle.c_flat.specs.Written.{Written, as_term, as_terms, as_command, written}

-- the expression, the arguments, the command that a node writes out
abbrev pub term_at : List Node → ℕ → Term
term_at ns k = as_term (written ns k)

abbrev pub terms_at : List Node → ℕ → Terms
terms_at ns k = as_terms (written ns k)

abbrev pub command_at : List Node → ℕ → Command
command_at ns k = as_command (written ns k)

-- what a node of an expression is, over what the earlier ones write out
abbrev pub term_over : TermNode → (ℕ → Written) → Term
term_over (term_node.Number z) f = program.Number z
term_over (term_node.Scalar p) f = program.Scalar p
term_over (term_node.Element p n i) f = program.Element p n (as_term (f i))
term_over term_node.Input f = program.Input
term_over (term_node.Call g xs) f = program.Call g (as_terms (f xs))
term_over (term_node.Unary op x) f = program.Unary op (as_term (f x))
term_over (term_node.Shifted op x k) f = program.Shifted op (as_term (f x)) k
term_over (term_node.Arithmetic op x y) f = program.Arithmetic op (as_term (f x)) (as_term (f y))
term_over (term_node.Compare r x y) f = program.Compare r (as_term (f x)) (as_term (f y))
term_over (term_node.Not x) f = program.Not (as_term (f x))
term_over (term_node.AndAlso x y) f = program.AndAlso (as_term (f x)) (as_term (f y))
term_over (term_node.OrElse x y) f = program.OrElse (as_term (f x)) (as_term (f y))

-- the same of arguments: none, or one and those behind it
abbrev pub terms_over : Option (ℕ × ℕ) → (ℕ → Written) → Terms
terms_over None f = program.NoMore
terms_over (Some (x, xs)) f = program.More (as_term (f x)) (as_terms (f xs))

-- the same of commands
abbrev pub command_over : CommandNode → (ℕ → Written) → Command
command_over command_node.Skip f = program.Skip
command_over (command_node.Seq x y) f = program.Seq (as_command (f x)) (as_command (f y))
command_over (command_node.Turn x) f = program.Turn (as_command (f x))
command_over (command_node.Set p e) f = program.Set p (as_term (f e))
command_over (command_node.Store p n i e) f = program.Store p n (as_term (f i)) (as_term (f e))
command_over (command_node.Change p n i op e) f = program.Change p n (as_term (f i)) op (as_term (f e))
command_over (command_node.Print e) f = program.Print (as_term (f e))
command_over command_node.Take f = program.Take
command_over (command_node.Invoke g xs) f = program.Invoke g (as_terms (f xs))
command_over (command_node.If e x) f = program.If (as_term (f e)) (as_command (f x))
command_over (command_node.IfElse e x y) f = program.IfElse (as_term (f e)) (as_command (f x)) (as_command (f y))
command_over (command_node.While e x) f = program.While (as_term (f e)) (as_command (f x))
command_over (command_node.Do x e) f = program.Do (as_command (f x)) (as_term (f e))
command_over (command_node.Forever st x) f = program.For None (as_command (f st)) (as_command (f x))
command_over (command_node.For e st x) f = program.For (Some (as_term (f e))) (as_command (f st)) (as_command (f x))
command_over command_node.Break f = program.Break
command_over command_node.Continue f = program.Continue
command_over command_node.Return f = program.Return None
command_over (command_node.ReturnWith e) f = program.Return (Some (as_term (f e)))

-- the parts of a node by its sort
abbrev pub term_parts : TermNode → List ℕ
term_parts (term_node.Number z) = []
term_parts (term_node.Scalar p) = []
term_parts (term_node.Element p n i) = i ∷ []
term_parts term_node.Input = []
term_parts (term_node.Call g xs) = xs ∷ []
term_parts (term_node.Unary op x) = x ∷ []
term_parts (term_node.Shifted op x k) = x ∷ []
term_parts (term_node.Arithmetic op x y) = x ∷ y ∷ []
term_parts (term_node.Compare r x y) = x ∷ y ∷ []
term_parts (term_node.Not x) = x ∷ []
term_parts (term_node.AndAlso x y) = x ∷ y ∷ []
term_parts (term_node.OrElse x y) = x ∷ y ∷ []

abbrev pub terms_parts : Option (ℕ × ℕ) → List ℕ
terms_parts None = []
terms_parts (Some (x, xs)) = x ∷ xs ∷ []

abbrev pub command_parts : CommandNode → List ℕ
command_parts command_node.Skip = []
command_parts (command_node.Seq x y) = x ∷ y ∷ []
command_parts (command_node.Turn x) = x ∷ []
command_parts (command_node.Set p e) = e ∷ []
command_parts (command_node.Store p n i e) = i ∷ e ∷ []
command_parts (command_node.Change p n i op e) = i ∷ e ∷ []
command_parts (command_node.Print e) = e ∷ []
command_parts command_node.Take = []
command_parts (command_node.Invoke g xs) = xs ∷ []
command_parts (command_node.If e x) = e ∷ x ∷ []
command_parts (command_node.IfElse e x y) = e ∷ x ∷ y ∷ []
command_parts (command_node.While e x) = e ∷ x ∷ []
command_parts (command_node.Do x e) = x ∷ e ∷ []
command_parts (command_node.Forever st x) = st ∷ x ∷ []
command_parts (command_node.For e st x) = e ∷ st ∷ x ∷ []
command_parts command_node.Break = []
command_parts command_node.Continue = []
command_parts command_node.Return = []
command_parts (command_node.ReturnWith e) = e ∷ []
