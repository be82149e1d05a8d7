use Rattle.std.proofs.Common.{sym}
use Rattle.c_homes.proofs.label.label_of.Goals as goal

pub returns-in-Leaf : goal.returns-in-Leaf
returns-in-Leaf c = λ k. sym (c.in-Leaf.ensures.label k)

pub returns-in-Number : goal.returns-in-Number
returns-in-Number c = λ k. sym (c.in-Number.ensures.label k)

pub returns-in-Label : goal.returns-in-Label
returns-in-Label c = λ k. sym (c.in-Label.ensures.label k)

pub returns-in-One : goal.returns-in-One
returns-in-One c = λ k. sym (c.in-One.ensures.label k)

pub returns-in-Two : goal.returns-in-Two
returns-in-Two c = λ k. sym (c.in-Two.ensures.label k)
