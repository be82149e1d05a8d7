use Rattle.isg_lists.proofs.Search.{none_in_list, found_in_list, values_rise}
use Rattle.isg_lists.proofs.masks.OfMask.shape_of.Goals as goal

pub returns-in-None : goal.returns-in-None
returns-in-None c = λ shapes is. none_in_list shapes c.args.self.now c.args.word is ((rw c.as_slice.ensures.value at c.in-None.ensures) (values_rise shapes c.args.self.now is))

pub returns-in-Some : goal.returns-in-Some
returns-in-Some c = λ shapes is.
    found_in_list shapes c.args.self.now c.args.word c.in-Some.i c.number_at.result is ((rw c.as_slice.ensures.value at c.in-Some.ensures) (values_rise shapes c.args.self.now is))
    (rw c.as_slice-in-Some.ensures.value at c.number_at.ensures)
