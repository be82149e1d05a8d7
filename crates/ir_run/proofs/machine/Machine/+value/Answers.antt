use Rattle.std.proofs.Common.{rules, ◌≡◌, ◌*◌, ◌∙◌, ap, sym, pos, FitsSigned}
use Rattle.std.specs.Int.{w64}
use Rattle.ir_core.specs.declared.operator.Prefix.TheVariants as prefix
use Rattle.ir_core.specs.declared.operator.Shift.TheVariants as shift
use Rattle.ir_core.specs.declared.operator.Arith.TheVariants as arith
use Rattle.ir_core.specs.Operator.{wrap, prefixed, shifted}
use Rattle.ir_run.specs.Node.{Const, Base, Label, Cell, In, Load, Unary, Shifted, Binary, node}
use Rattle.ir_run.specs.Value.{label_value, number, address, held}
use Rattle.ir_run.specs.Stands.{state_of}
use Rattle.ir_run.proofs.Nodes.{node-Const, node-Base, node-Label, node-Cell, node-In, node-Load, node-Neg, node-Not, node-Shl, node-Shr, node-Add, node-Sub, node-Mul, node-And, node-Or, node-Xor}
use Rattle.ir_run.proofs.Values.{height, below_load, below_unary, below_shifted, small_shift, below_binary, in_code, gives_same, gives_const, gives_base, gives_label, gives_cell, gives_in, gives_load, gives_unary, gives_shifted, wants_load, wants_unary, wants_shifted}
use Rattle.ir_run.proofs.machine.Machine.+value.Goals as goal

pub value-value-requires : goal.value-value-requires
value-value-requires t c =
    let measure : 2 * height (node c.args.tree.now) ≡ t = c.decreases in
    let is : node c.args.tree.now ≡ Load (node c.get.result.now) = ap node c.in-Load.is ∙ node-Load c.in-Load.t ∙ ap (λ x. Load (node x)) (sym c.get.ensures) in
    below_load (node c.args.tree.now) (node c.get.result.now) t c.args.n is measure c.requires.width c.requires.shifts

pub value-returns-in_err-a-in-Load-clause-value : goal.value-returns-in_err-a-in-Load-clause-value
value-returns-in_err-a-in-Load-clause-value t c =
    let is : node c.args.tree.now ≡ Load (node c.get.result.now) = ap node c.in-Load.is ∙ node-Load c.in-Load.t ∙ ap (λ x. Load (node x)) (sym c.get.ensures) in
    wants_load c.args.n (node c.args.tree.now) (node c.get.result.now) (state_of c.args.input.now c.args.self.now) (state_of c.args.input.now c.value.new.self) c.from_residual.result is c.from_residual.ensures c.in_err-a-in-Load.ensures.value

pub value-returns-in_ok-a-in-Load-clause-value : goal.value-returns-in_ok-a-in-Load-clause-value
value-returns-in_ok-a-in-Load-clause-value t c =
    let is : node c.args.tree.now ≡ Load (node c.get.result.now) = ap node c.in-Load.is ∙ node-Load c.in-Load.t ∙ ap (λ x. Load (node x)) (sym c.get.ensures) in
    let fits : FitsSigned w64 c.held-in-Load.result = search rules in
    let same : c.held-in-Load.result ≡ held (state_of c.args.input.now c.value.new.self) (address c.args.n c.in_ok-a-in-Load.a) = search rules in
    in_code c.args.n (node c.args.tree.now) (state_of c.args.input.now c.args.self.now) (state_of c.args.input.now c.value.new.self) c.held-in-Load.result (held (state_of c.args.input.now c.value.new.self) (address c.args.n c.in_ok-a-in-Load.a)) fits same (gives_load c.args.n (node c.args.tree.now) (node c.get.result.now) (state_of c.args.input.now c.args.self.now) (state_of c.args.input.now c.value.new.self) c.in_ok-a-in-Load.a is c.in_ok-a-in-Load.ensures.value)

pub value-value-requires-in-Neg : goal.value-value-requires-in-Neg
value-value-requires-in-Neg t c =
    let measure : 2 * height (node c.args.tree.now) ≡ t = c.decreases in
    let is : node c.args.tree.now ≡ Unary prefix.Neg (node c.get-in-Neg.result.now) = ap node c.in-Neg.is ∙ node-Neg c.in-Neg.t ∙ ap (λ x. Unary prefix.Neg (node x)) (sym c.get-in-Neg.ensures) in
    below_unary prefix.Neg (node c.args.tree.now) (node c.get-in-Neg.result.now) t c.args.n is measure c.requires.width c.requires.shifts

pub value-returns-in_err-z-in-Neg-clause-value : goal.value-returns-in_err-z-in-Neg-clause-value
value-returns-in_err-z-in-Neg-clause-value t c =
    let is : node c.args.tree.now ≡ Unary prefix.Neg (node c.get-in-Neg.result.now) = ap node c.in-Neg.is ∙ node-Neg c.in-Neg.t ∙ ap (λ x. Unary prefix.Neg (node x)) (sym c.get-in-Neg.ensures) in
    wants_unary c.args.n prefix.Neg (node c.args.tree.now) (node c.get-in-Neg.result.now) (state_of c.args.input.now c.args.self.now) (state_of c.args.input.now c.value-in-Neg.new.self) c.from_residual-in_err-z-in-Neg.result is c.from_residual-in_err-z-in-Neg.ensures c.in_err-z-in-Neg.ensures.value

pub value-returns-in_ok-z-in-Neg-clause-value : goal.value-returns-in_ok-z-in-Neg-clause-value
value-returns-in_ok-z-in-Neg-clause-value t c =
    let is : node c.args.tree.now ≡ Unary prefix.Neg (node c.get-in-Neg.result.now) = ap node c.in-Neg.is ∙ node-Neg c.in-Neg.t ∙ ap (λ x. Unary prefix.Neg (node x)) (sym c.get-in-Neg.ensures) in
    let fits : FitsSigned w64 c.prefixed.result = search rules in
    let same : c.prefixed.result ≡ prefixed c.args.n prefix.Neg (number c.args.n c.in_ok-z-in-Neg.z) = search rules in
    in_code c.args.n (node c.args.tree.now) (state_of c.args.input.now c.args.self.now) (state_of c.args.input.now c.value-in-Neg.new.self) c.prefixed.result (prefixed c.args.n prefix.Neg (number c.args.n c.in_ok-z-in-Neg.z)) fits same (gives_unary c.args.n prefix.Neg (node c.args.tree.now) (node c.get-in-Neg.result.now) (state_of c.args.input.now c.args.self.now) (state_of c.args.input.now c.value-in-Neg.new.self) c.in_ok-z-in-Neg.z is c.in_ok-z-in-Neg.ensures.value)

pub value-value-requires-in-Not : goal.value-value-requires-in-Not
value-value-requires-in-Not t c =
    let measure : 2 * height (node c.args.tree.now) ≡ t = c.decreases in
    let is : node c.args.tree.now ≡ Unary prefix.Not (node c.get-in-Not.result.now) = ap node c.in-Not.is ∙ node-Not c.in-Not.t ∙ ap (λ x. Unary prefix.Not (node x)) (sym c.get-in-Not.ensures) in
    below_unary prefix.Not (node c.args.tree.now) (node c.get-in-Not.result.now) t c.args.n is measure c.requires.width c.requires.shifts

pub value-returns-in_err-z-in-Not-clause-value : goal.value-returns-in_err-z-in-Not-clause-value
value-returns-in_err-z-in-Not-clause-value t c =
    let is : node c.args.tree.now ≡ Unary prefix.Not (node c.get-in-Not.result.now) = ap node c.in-Not.is ∙ node-Not c.in-Not.t ∙ ap (λ x. Unary prefix.Not (node x)) (sym c.get-in-Not.ensures) in
    wants_unary c.args.n prefix.Not (node c.args.tree.now) (node c.get-in-Not.result.now) (state_of c.args.input.now c.args.self.now) (state_of c.args.input.now c.value-in-Not.new.self) c.from_residual-in_err-z-in-Not.result is c.from_residual-in_err-z-in-Not.ensures c.in_err-z-in-Not.ensures.value

pub value-returns-in_ok-z-in-Not-clause-value : goal.value-returns-in_ok-z-in-Not-clause-value
value-returns-in_ok-z-in-Not-clause-value t c =
    let is : node c.args.tree.now ≡ Unary prefix.Not (node c.get-in-Not.result.now) = ap node c.in-Not.is ∙ node-Not c.in-Not.t ∙ ap (λ x. Unary prefix.Not (node x)) (sym c.get-in-Not.ensures) in
    let fits : FitsSigned w64 c.prefixed-in-Not.result = search rules in
    let same : c.prefixed-in-Not.result ≡ prefixed c.args.n prefix.Not (number c.args.n c.in_ok-z-in-Not.z) = search rules in
    in_code c.args.n (node c.args.tree.now) (state_of c.args.input.now c.args.self.now) (state_of c.args.input.now c.value-in-Not.new.self) c.prefixed-in-Not.result (prefixed c.args.n prefix.Not (number c.args.n c.in_ok-z-in-Not.z)) fits same (gives_unary c.args.n prefix.Not (node c.args.tree.now) (node c.get-in-Not.result.now) (state_of c.args.input.now c.args.self.now) (state_of c.args.input.now c.value-in-Not.new.self) c.in_ok-z-in-Not.z is c.in_ok-z-in-Not.ensures.value)

pub value-value-requires-in-Shl : goal.value-value-requires-in-Shl
value-value-requires-in-Shl t c =
    let measure : 2 * height (node c.args.tree.now) ≡ t = c.decreases in
    let is : node c.args.tree.now ≡ Shifted shift.Shl (node c.get-in-Shl.result.now) c.in-Shl.k = ap node c.in-Shl.is ∙ node-Shl c.in-Shl.t c.in-Shl.k ∙ ap (λ x. Shifted shift.Shl (node x) c.in-Shl.k) (sym c.get-in-Shl.ensures) in
    below_shifted shift.Shl c.in-Shl.k (node c.args.tree.now) (node c.get-in-Shl.result.now) t c.args.n is measure c.requires.width c.requires.shifts

pub value-returns-in_err-z-in-Shl-clause-value : goal.value-returns-in_err-z-in-Shl-clause-value
value-returns-in_err-z-in-Shl-clause-value t c =
    let is : node c.args.tree.now ≡ Shifted shift.Shl (node c.get-in-Shl.result.now) c.in-Shl.k = ap node c.in-Shl.is ∙ node-Shl c.in-Shl.t c.in-Shl.k ∙ ap (λ x. Shifted shift.Shl (node x) c.in-Shl.k) (sym c.get-in-Shl.ensures) in
    wants_shifted c.args.n shift.Shl c.in-Shl.k (node c.args.tree.now) (node c.get-in-Shl.result.now) (state_of c.args.input.now c.args.self.now) (state_of c.args.input.now c.value-in-Shl.new.self) c.from_residual-in_err-z-in-Shl.result is c.from_residual-in_err-z-in-Shl.ensures c.in_err-z-in-Shl.ensures.value

pub value-shifted-requires-clause-amount : goal.value-shifted-requires-clause-amount
value-shifted-requires-clause-amount t c =
    let is : node c.args.tree.now ≡ Shifted shift.Shl (node c.get-in-Shl.result.now) c.in-Shl.k = ap node c.in-Shl.is ∙ node-Shl c.in-Shl.t c.in-Shl.k ∙ ap (λ x. Shifted shift.Shl (node x) c.in-Shl.k) (sym c.get-in-Shl.ensures) in
    small_shift shift.Shl c.in-Shl.k (node c.args.tree.now) (node c.get-in-Shl.result.now) c.args.n is c.requires.width c.requires.shifts

pub value-returns-in_ok-z-in-Shl-clause-value : goal.value-returns-in_ok-z-in-Shl-clause-value
value-returns-in_ok-z-in-Shl-clause-value t c =
    let is : node c.args.tree.now ≡ Shifted shift.Shl (node c.get-in-Shl.result.now) c.in-Shl.k = ap node c.in-Shl.is ∙ node-Shl c.in-Shl.t c.in-Shl.k ∙ ap (λ x. Shifted shift.Shl (node x) c.in-Shl.k) (sym c.get-in-Shl.ensures) in
    let fits : FitsSigned w64 c.shifted.result = search rules in
    let same : c.shifted.result ≡ shifted c.args.n shift.Shl (number c.args.n c.in_ok-z-in-Shl.z) c.in-Shl.k = search rules in
    in_code c.args.n (node c.args.tree.now) (state_of c.args.input.now c.args.self.now) (state_of c.args.input.now c.value-in-Shl.new.self) c.shifted.result (shifted c.args.n shift.Shl (number c.args.n c.in_ok-z-in-Shl.z) c.in-Shl.k) fits same (gives_shifted c.args.n shift.Shl c.in-Shl.k (node c.args.tree.now) (node c.get-in-Shl.result.now) (state_of c.args.input.now c.args.self.now) (state_of c.args.input.now c.value-in-Shl.new.self) c.in_ok-z-in-Shl.z is c.in_ok-z-in-Shl.ensures.value)

pub value-value-requires-in-Shr : goal.value-value-requires-in-Shr
value-value-requires-in-Shr t c =
    let measure : 2 * height (node c.args.tree.now) ≡ t = c.decreases in
    let is : node c.args.tree.now ≡ Shifted shift.Shr (node c.get-in-Shr.result.now) c.in-Shr.k = ap node c.in-Shr.is ∙ node-Shr c.in-Shr.t c.in-Shr.k ∙ ap (λ x. Shifted shift.Shr (node x) c.in-Shr.k) (sym c.get-in-Shr.ensures) in
    below_shifted shift.Shr c.in-Shr.k (node c.args.tree.now) (node c.get-in-Shr.result.now) t c.args.n is measure c.requires.width c.requires.shifts

pub value-returns-in_err-z-in-Shr-clause-value : goal.value-returns-in_err-z-in-Shr-clause-value
value-returns-in_err-z-in-Shr-clause-value t c =
    let is : node c.args.tree.now ≡ Shifted shift.Shr (node c.get-in-Shr.result.now) c.in-Shr.k = ap node c.in-Shr.is ∙ node-Shr c.in-Shr.t c.in-Shr.k ∙ ap (λ x. Shifted shift.Shr (node x) c.in-Shr.k) (sym c.get-in-Shr.ensures) in
    wants_shifted c.args.n shift.Shr c.in-Shr.k (node c.args.tree.now) (node c.get-in-Shr.result.now) (state_of c.args.input.now c.args.self.now) (state_of c.args.input.now c.value-in-Shr.new.self) c.from_residual-in_err-z-in-Shr.result is c.from_residual-in_err-z-in-Shr.ensures c.in_err-z-in-Shr.ensures.value

pub value-shifted-requires-in-Shr-clause-amount : goal.value-shifted-requires-in-Shr-clause-amount
value-shifted-requires-in-Shr-clause-amount t c =
    let is : node c.args.tree.now ≡ Shifted shift.Shr (node c.get-in-Shr.result.now) c.in-Shr.k = ap node c.in-Shr.is ∙ node-Shr c.in-Shr.t c.in-Shr.k ∙ ap (λ x. Shifted shift.Shr (node x) c.in-Shr.k) (sym c.get-in-Shr.ensures) in
    small_shift shift.Shr c.in-Shr.k (node c.args.tree.now) (node c.get-in-Shr.result.now) c.args.n is c.requires.width c.requires.shifts

pub value-returns-in_ok-z-in-Shr-clause-value : goal.value-returns-in_ok-z-in-Shr-clause-value
value-returns-in_ok-z-in-Shr-clause-value t c =
    let is : node c.args.tree.now ≡ Shifted shift.Shr (node c.get-in-Shr.result.now) c.in-Shr.k = ap node c.in-Shr.is ∙ node-Shr c.in-Shr.t c.in-Shr.k ∙ ap (λ x. Shifted shift.Shr (node x) c.in-Shr.k) (sym c.get-in-Shr.ensures) in
    let fits : FitsSigned w64 c.shifted-in-Shr.result = search rules in
    let same : c.shifted-in-Shr.result ≡ shifted c.args.n shift.Shr (number c.args.n c.in_ok-z-in-Shr.z) c.in-Shr.k = search rules in
    in_code c.args.n (node c.args.tree.now) (state_of c.args.input.now c.args.self.now) (state_of c.args.input.now c.value-in-Shr.new.self) c.shifted-in-Shr.result (shifted c.args.n shift.Shr (number c.args.n c.in_ok-z-in-Shr.z) c.in-Shr.k) fits same (gives_shifted c.args.n shift.Shr c.in-Shr.k (node c.args.tree.now) (node c.get-in-Shr.result.now) (state_of c.args.input.now c.args.self.now) (state_of c.args.input.now c.value-in-Shr.new.self) c.in_ok-z-in-Shr.z is c.in_ok-z-in-Shr.ensures.value)

pub value-binary-requires : goal.value-binary-requires
value-binary-requires t c =
    let measure : 2 * height (node c.args.tree.now) ≡ t = c.decreases in
    let is : node c.args.tree.now ≡ Binary arith.Add (node c.get-in-Add.result.now) (node c.get-in-Add-2.result.now) = ap node c.in-Add.is ∙ node-Add c.in-Add.t c.in-Add.u ∙ ap (λ x. Binary arith.Add (node x) (node c.in-Add.u)) (sym c.get-in-Add.ensures) ∙ ap (λ x. Binary arith.Add (node c.get-in-Add.result.now) (node x)) (sym c.get-in-Add-2.ensures) in
    below_binary arith.Add (node c.args.tree.now) (node c.get-in-Add.result.now) (node c.get-in-Add-2.result.now) t c.args.n is measure c.requires.width c.requires.shifts

pub value-returns-in-Add-clause-value : goal.value-returns-in-Add-clause-value
value-returns-in-Add-clause-value t c =
    let is : node c.args.tree.now ≡ Binary arith.Add (node c.get-in-Add.result.now) (node c.get-in-Add-2.result.now) = ap node c.in-Add.is ∙ node-Add c.in-Add.t c.in-Add.u ∙ ap (λ x. Binary arith.Add (node x) (node c.in-Add.u)) (sym c.get-in-Add.ensures) ∙ ap (λ x. Binary arith.Add (node c.get-in-Add.result.now) (node x)) (sym c.get-in-Add-2.ensures) in
    gives_same c.args.n (node c.args.tree.now) (Binary arith.Add (node c.get-in-Add.result.now) (node c.get-in-Add-2.result.now)) (state_of c.args.input.now c.args.self.now) (state_of c.args.input.now c.binary.new.self) c.binary.result is c.binary.ensures.value

pub value-binary-requires-in-Sub : goal.value-binary-requires-in-Sub
value-binary-requires-in-Sub t c =
    let measure : 2 * height (node c.args.tree.now) ≡ t = c.decreases in
    let is : node c.args.tree.now ≡ Binary arith.Sub (node c.get-in-Sub.result.now) (node c.get-in-Sub-2.result.now) = ap node c.in-Sub.is ∙ node-Sub c.in-Sub.t c.in-Sub.u ∙ ap (λ x. Binary arith.Sub (node x) (node c.in-Sub.u)) (sym c.get-in-Sub.ensures) ∙ ap (λ x. Binary arith.Sub (node c.get-in-Sub.result.now) (node x)) (sym c.get-in-Sub-2.ensures) in
    below_binary arith.Sub (node c.args.tree.now) (node c.get-in-Sub.result.now) (node c.get-in-Sub-2.result.now) t c.args.n is measure c.requires.width c.requires.shifts

pub value-returns-in-Sub-clause-value : goal.value-returns-in-Sub-clause-value
value-returns-in-Sub-clause-value t c =
    let is : node c.args.tree.now ≡ Binary arith.Sub (node c.get-in-Sub.result.now) (node c.get-in-Sub-2.result.now) = ap node c.in-Sub.is ∙ node-Sub c.in-Sub.t c.in-Sub.u ∙ ap (λ x. Binary arith.Sub (node x) (node c.in-Sub.u)) (sym c.get-in-Sub.ensures) ∙ ap (λ x. Binary arith.Sub (node c.get-in-Sub.result.now) (node x)) (sym c.get-in-Sub-2.ensures) in
    gives_same c.args.n (node c.args.tree.now) (Binary arith.Sub (node c.get-in-Sub.result.now) (node c.get-in-Sub-2.result.now)) (state_of c.args.input.now c.args.self.now) (state_of c.args.input.now c.binary-in-Sub.new.self) c.binary-in-Sub.result is c.binary-in-Sub.ensures.value

pub value-binary-requires-in-Mul : goal.value-binary-requires-in-Mul
value-binary-requires-in-Mul t c =
    let measure : 2 * height (node c.args.tree.now) ≡ t = c.decreases in
    let is : node c.args.tree.now ≡ Binary arith.Mul (node c.get-in-Mul.result.now) (node c.get-in-Mul-2.result.now) = ap node c.in-Mul.is ∙ node-Mul c.in-Mul.t c.in-Mul.u ∙ ap (λ x. Binary arith.Mul (node x) (node c.in-Mul.u)) (sym c.get-in-Mul.ensures) ∙ ap (λ x. Binary arith.Mul (node c.get-in-Mul.result.now) (node x)) (sym c.get-in-Mul-2.ensures) in
    below_binary arith.Mul (node c.args.tree.now) (node c.get-in-Mul.result.now) (node c.get-in-Mul-2.result.now) t c.args.n is measure c.requires.width c.requires.shifts

pub value-returns-in-Mul-clause-value : goal.value-returns-in-Mul-clause-value
value-returns-in-Mul-clause-value t c =
    let is : node c.args.tree.now ≡ Binary arith.Mul (node c.get-in-Mul.result.now) (node c.get-in-Mul-2.result.now) = ap node c.in-Mul.is ∙ node-Mul c.in-Mul.t c.in-Mul.u ∙ ap (λ x. Binary arith.Mul (node x) (node c.in-Mul.u)) (sym c.get-in-Mul.ensures) ∙ ap (λ x. Binary arith.Mul (node c.get-in-Mul.result.now) (node x)) (sym c.get-in-Mul-2.ensures) in
    gives_same c.args.n (node c.args.tree.now) (Binary arith.Mul (node c.get-in-Mul.result.now) (node c.get-in-Mul-2.result.now)) (state_of c.args.input.now c.args.self.now) (state_of c.args.input.now c.binary-in-Mul.new.self) c.binary-in-Mul.result is c.binary-in-Mul.ensures.value

pub value-binary-requires-in-And : goal.value-binary-requires-in-And
value-binary-requires-in-And t c =
    let measure : 2 * height (node c.args.tree.now) ≡ t = c.decreases in
    let is : node c.args.tree.now ≡ Binary arith.And (node c.get-in-And.result.now) (node c.get-in-And-2.result.now) = ap node c.in-And.is ∙ node-And c.in-And.t c.in-And.u ∙ ap (λ x. Binary arith.And (node x) (node c.in-And.u)) (sym c.get-in-And.ensures) ∙ ap (λ x. Binary arith.And (node c.get-in-And.result.now) (node x)) (sym c.get-in-And-2.ensures) in
    below_binary arith.And (node c.args.tree.now) (node c.get-in-And.result.now) (node c.get-in-And-2.result.now) t c.args.n is measure c.requires.width c.requires.shifts

pub value-returns-in-And-clause-value : goal.value-returns-in-And-clause-value
value-returns-in-And-clause-value t c =
    let is : node c.args.tree.now ≡ Binary arith.And (node c.get-in-And.result.now) (node c.get-in-And-2.result.now) = ap node c.in-And.is ∙ node-And c.in-And.t c.in-And.u ∙ ap (λ x. Binary arith.And (node x) (node c.in-And.u)) (sym c.get-in-And.ensures) ∙ ap (λ x. Binary arith.And (node c.get-in-And.result.now) (node x)) (sym c.get-in-And-2.ensures) in
    gives_same c.args.n (node c.args.tree.now) (Binary arith.And (node c.get-in-And.result.now) (node c.get-in-And-2.result.now)) (state_of c.args.input.now c.args.self.now) (state_of c.args.input.now c.binary-in-And.new.self) c.binary-in-And.result is c.binary-in-And.ensures.value

pub value-binary-requires-in-Or : goal.value-binary-requires-in-Or
value-binary-requires-in-Or t c =
    let measure : 2 * height (node c.args.tree.now) ≡ t = c.decreases in
    let is : node c.args.tree.now ≡ Binary arith.Or (node c.get-in-Or.result.now) (node c.get-in-Or-2.result.now) = ap node c.in-Or.is ∙ node-Or c.in-Or.t c.in-Or.u ∙ ap (λ x. Binary arith.Or (node x) (node c.in-Or.u)) (sym c.get-in-Or.ensures) ∙ ap (λ x. Binary arith.Or (node c.get-in-Or.result.now) (node x)) (sym c.get-in-Or-2.ensures) in
    below_binary arith.Or (node c.args.tree.now) (node c.get-in-Or.result.now) (node c.get-in-Or-2.result.now) t c.args.n is measure c.requires.width c.requires.shifts

pub value-returns-in-Or-clause-value : goal.value-returns-in-Or-clause-value
value-returns-in-Or-clause-value t c =
    let is : node c.args.tree.now ≡ Binary arith.Or (node c.get-in-Or.result.now) (node c.get-in-Or-2.result.now) = ap node c.in-Or.is ∙ node-Or c.in-Or.t c.in-Or.u ∙ ap (λ x. Binary arith.Or (node x) (node c.in-Or.u)) (sym c.get-in-Or.ensures) ∙ ap (λ x. Binary arith.Or (node c.get-in-Or.result.now) (node x)) (sym c.get-in-Or-2.ensures) in
    gives_same c.args.n (node c.args.tree.now) (Binary arith.Or (node c.get-in-Or.result.now) (node c.get-in-Or-2.result.now)) (state_of c.args.input.now c.args.self.now) (state_of c.args.input.now c.binary-in-Or.new.self) c.binary-in-Or.result is c.binary-in-Or.ensures.value

pub value-binary-requires-in-Xor : goal.value-binary-requires-in-Xor
value-binary-requires-in-Xor t c =
    let measure : 2 * height (node c.args.tree.now) ≡ t = c.decreases in
    let is : node c.args.tree.now ≡ Binary arith.Xor (node c.get-in-Xor.result.now) (node c.get-in-Xor-2.result.now) = ap node c.in-Xor.is ∙ node-Xor c.in-Xor.t c.in-Xor.u ∙ ap (λ x. Binary arith.Xor (node x) (node c.in-Xor.u)) (sym c.get-in-Xor.ensures) ∙ ap (λ x. Binary arith.Xor (node c.get-in-Xor.result.now) (node x)) (sym c.get-in-Xor-2.ensures) in
    below_binary arith.Xor (node c.args.tree.now) (node c.get-in-Xor.result.now) (node c.get-in-Xor-2.result.now) t c.args.n is measure c.requires.width c.requires.shifts

pub value-returns-in-Xor-clause-value : goal.value-returns-in-Xor-clause-value
value-returns-in-Xor-clause-value t c =
    let is : node c.args.tree.now ≡ Binary arith.Xor (node c.get-in-Xor.result.now) (node c.get-in-Xor-2.result.now) = ap node c.in-Xor.is ∙ node-Xor c.in-Xor.t c.in-Xor.u ∙ ap (λ x. Binary arith.Xor (node x) (node c.in-Xor.u)) (sym c.get-in-Xor.ensures) ∙ ap (λ x. Binary arith.Xor (node c.get-in-Xor.result.now) (node x)) (sym c.get-in-Xor-2.ensures) in
    gives_same c.args.n (node c.args.tree.now) (Binary arith.Xor (node c.get-in-Xor.result.now) (node c.get-in-Xor-2.result.now)) (state_of c.args.input.now c.args.self.now) (state_of c.args.input.now c.binary-in-Xor.new.self) c.binary-in-Xor.result is c.binary-in-Xor.ensures.value

pub value-returns-in-Const-clause-value : goal.value-returns-in-Const-clause-value
value-returns-in-Const-clause-value t c =
    let is : node c.args.tree.now ≡ Const c.in-Const.z = ap node c.in-Const.is ∙ node-Const c.in-Const.z in
    let fits : FitsSigned w64 c.wrapped.result = search rules in
    let same : c.wrapped.result ≡ wrap c.args.n c.in-Const.z = search rules in
    in_code c.args.n (node c.args.tree.now) (state_of c.args.input.now c.args.self.now) (state_of c.args.input.now c.args.self.now) c.wrapped.result (wrap c.args.n c.in-Const.z) fits same (gives_const c.args.n c.in-Const.z (node c.args.tree.now) (state_of c.args.input.now c.args.self.now) is)

pub value-returns-in-Base-clause-value : goal.value-returns-in-Base-clause-value
value-returns-in-Base-clause-value t c =
    let is : node c.args.tree.now ≡ Base c.in-Base.first = ap node c.in-Base.is ∙ node-Base c.in-Base.first in
    let fits : FitsSigned w64 c.wrapped-in-Base.result = search rules in
    let same : c.wrapped-in-Base.result ≡ wrap c.args.n (pos c.in-Base.first) = search rules in
    in_code c.args.n (node c.args.tree.now) (state_of c.args.input.now c.args.self.now) (state_of c.args.input.now c.args.self.now) c.wrapped-in-Base.result (wrap c.args.n (pos c.in-Base.first)) fits same (gives_base c.args.n c.in-Base.first (node c.args.tree.now) (state_of c.args.input.now c.args.self.now) is)

pub value-returns-in-Label-clause-value : goal.value-returns-in-Label-clause-value
value-returns-in-Label-clause-value t c =
    let is : node c.args.tree.now ≡ Label c.in-Label.label = ap node c.in-Label.is ∙ node-Label c.in-Label.label in
    let fits : FitsSigned w64 c.label_value.result = search rules in
    let same : c.label_value.result ≡ label_value c.in-Label.label = search rules in
    in_code c.args.n (node c.args.tree.now) (state_of c.args.input.now c.args.self.now) (state_of c.args.input.now c.args.self.now) c.label_value.result (label_value c.in-Label.label) fits same (gives_label c.args.n c.in-Label.label (node c.args.tree.now) (state_of c.args.input.now c.args.self.now) is)

pub value-returns-in-Cell-clause-value : goal.value-returns-in-Cell-clause-value
value-returns-in-Cell-clause-value t c =
    let is : node c.args.tree.now ≡ Cell c.in-Cell.k = ap node c.in-Cell.is ∙ node-Cell c.in-Cell.k in
    let fits : FitsSigned w64 c.held.result = search rules in
    let same : c.held.result ≡ held (state_of c.args.input.now c.args.self.now) c.in-Cell.k = search rules in
    in_code c.args.n (node c.args.tree.now) (state_of c.args.input.now c.args.self.now) (state_of c.args.input.now c.args.self.now) c.held.result (held (state_of c.args.input.now c.args.self.now) c.in-Cell.k) fits same (gives_cell c.args.n c.in-Cell.k (node c.args.tree.now) (state_of c.args.input.now c.args.self.now) is)

pub value-returns-in-In-clause-value : goal.value-returns-in-In-clause-value
value-returns-in-In-clause-value t c =
    let is : node c.args.tree.now ≡ In = ap node c.in-In.is ∙ node-In in
    gives_in c.args.n (node c.args.tree.now) (state_of c.args.input.now c.args.self.now) (state_of c.args.input.now c.take.new.self) c.take.result is c.take.ensures.value
