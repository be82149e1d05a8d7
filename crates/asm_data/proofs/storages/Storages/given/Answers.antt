use Rattle.std.proofs.Common.{arith, rules}
use Rattle.asm_data.proofs.KeptStorages.{get_below}
use Rattle.asm_data.proofs.LineCells.{row_is, stands, right_cell, wrong_pc, wrong_place, wrong_value, gives}
use Rattle.asm_data.proofs.storages.Storages.given.Goals as goal
use Rattle.asm_data.proofs.storages.Storages.given.Goals.{then-number-self-via-then-number-self, then-number-self-via-else-number-self+then-data-from, then-number-self-via-else-number-self+else-data-from+then-not-is_in_range}

pub returns-then-number-self : goal.returns-then-number-self
returns-then-number-self c = λ t h.
    let row = row_is c.args.self.now _ c.in_ok-number.number c.in_ok-size.size c.in_ok-size.ty _ c.as_slice.ensures.value c.row_at.ensures c.in_ok-size.was in
    let is = stands t c.args.self.now c.args.data.now.name c.in_ok-number.number c.in_ok-size.size c.in_ok-size.ty c.number.result h (c.number.ensures t) c.in_ok-number.was row in
    elim c.then-number-self.branch [
      | then-number-self-via-then-number-self w ↦ wrong_pc t c.args.self.now _ _ _ _ _ _ h is w.if-number-self.true
      | then-number-self-via-else-number-self+then-data-from w ↦ wrong_place t _ _ _ _ _ _ is (let high = w.if-data-from.true in let size = w.from.ensures in omega (arith, high, size))
      | then-number-self-via-else-number-self+else-data-from+then-not-is_in_range w ↦ wrong_value t _ _ _ _ _ _ is (search rules)
    ]

pub overflow_cast-cell : goal.overflow_cast-cell
overflow_cast-cell c =
    let row = row_is c.args.self.now _ c.in_ok-number.number c.in_ok-size.size c.in_ok-size.ty _ c.as_slice.ensures.value c.row_at.ensures c.in_ok-size.was in
    let low = get_below c.args.self.now.layout.storages.items c.in_ok-number.number (c.in_ok-size.size, c.in_ok-size.ty) row in
    let few = c.requires.few in
    omega (arith, low, few)

pub returns : goal.returns
returns c = λ t h.
    let row = row_is c.args.self.now _ c.in_ok-number.number c.in_ok-size.size c.in_ok-size.ty _ c.as_slice.ensures.value c.row_at.ensures c.in_ok-size.was in
    let is = stands t c.args.self.now c.args.data.now.name c.in_ok-number.number c.in_ok-size.size c.in_ok-size.ty c.number.result h (c.number.ensures t) c.in_ok-number.was row in
    let low = c.if-data-from.false in
    let size = c.from.ensures in
    (right_cell t c.args.self.now _ _ _ _ _ _ h is c.if-number-self.false (omega (arith, low, size)) (search rules), gives _ _ _ _ _ _ _ is (search rules))
