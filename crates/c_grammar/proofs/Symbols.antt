-- Single symbols: the operators of two operands, and what an operand begins with.
use Rattle.std.proofs.Common.{◌≡◌, ℕ, suc, ◌<◌, ◌≤◌, List, [], ◌∷◌, Option, Some, None, refl, ap, sym, ◌∙◌, subst, arith, lit<, ⊎_elim}
use Rattle.std.proofs.lemmas.Bool.{cases_lt}
use Rattle.std.specs.Prelude.{codes}
use Rattle.c_tree.specs.declared.operator.Bin.{Bin}
use Rattle.readings.specs.Symbol.{Symbol}
use Rattle.c_tree.specs.Formula.{Prefix}
use Rattle.c_tree.specs.Spell.{binary_mark, prefix_mark}
use Rattle.c_tree.specs.Level.{binary_level, unary_level}
use Rattle.readings.specs.Reading.{looked_up}
use Rattle.c_grammar.specs.Reading.{operators, of_level, operator, Beginning, Opening, Operation, beginnings, HasNoOperator, HasNoSuffix}
use Rattle.readings.proofs.Symbols.{above, within, some_is, none_is_none, Each, entry}
use Rattle.c_tree.specs.declared.operator.Bin.TheVariants as bin

-- ---- operators of two operands

marks : Each (λ text op. text ≡ binary_mark op) operators
marks = (refl, (refl, (refl, (refl, (refl, (refl, (refl, (refl, (refl, (refl, (refl, (refl, (refl, (refl, (refl, (refl, tt))))))))))))))))

operator_of : (op : Bin) → looked_up operators (binary_mark op) ≡ Some op
operator_of bin.OrElse = refl
operator_of bin.AndAlso = refl
operator_of bin.Or = refl
operator_of bin.Xor = refl
operator_of bin.And = refl
operator_of bin.Eq = refl
operator_of bin.Ne = refl
operator_of bin.Lt = refl
operator_of bin.Le = refl
operator_of bin.Gt = refl
operator_of bin.Ge = refl
operator_of bin.Shl = refl
operator_of bin.Shr = refl
operator_of bin.Add = refl
operator_of bin.Sub = refl
operator_of bin.Mul = refl

-- all are weaker than those of one operand
pub below_unary : (op : Bin) → binary_level op < unary_level
below_unary bin.OrElse = lit< tt
below_unary bin.AndAlso = lit< tt
below_unary bin.Or = lit< tt
below_unary bin.Xor = lit< tt
below_unary bin.And = lit< tt
below_unary bin.Eq = lit< tt
below_unary bin.Ne = lit< tt
below_unary bin.Lt = lit< tt
below_unary bin.Le = lit< tt
below_unary bin.Gt = lit< tt
below_unary bin.Ge = lit< tt
below_unary bin.Shl = lit< tt
below_unary bin.Shr = lit< tt
below_unary bin.Add = lit< tt
below_unary bin.Sub = lit< tt
below_unary bin.Mul = lit< tt

-- the operator in front
pub record Front (k : ℕ) (ss : List Symbol) (op : Bin) (at : ℕ) (rest : List Symbol) : Type 0 where
  pub strong : k ≤ binary_level op
  pub spelled : ss ≡ Symbol.Fixed at (binary_mark op) ∷ rest

taken : (k : ℕ) (text : List ℕ) (p : ℕ) (ss : List Symbol) (o : Option Bin) (op : Bin) (at : ℕ) (rest : List Symbol) → looked_up operators text ≡ o → of_level k p ss o ≡ Some (op, at, rest) → Front k (Symbol.Fixed p text ∷ ss) op at rest
taken k text p ss None op at rest i e = none_is_none (op, at, rest) e
taken k text p ss (Some found) op at rest i e =
    ⊎_elim
    (λ (lt : binary_level found < k). none_is_none (op, at, rest) (sym (above k (binary_level found) (Some (found, p, ss)) None lt) ∙ e))
    (λ (le : k ≤ binary_level found).
    let is = some_is (found, p, ss) (op, at, rest) (sym (within k (binary_level found) (Some (found, p, ss)) None le) ∙ e) in
    let text_is = entry (λ text op. text ≡ binary_mark op) operators text found marks i in
    subst (λ (z : Bin × ℕ × List Symbol). Front k (Symbol.Fixed p text ∷ ss) z.0 z.1 z.2) is (record { strong = le; spelled = ap (λ t. Symbol.Fixed p t ∷ ss) text_is }))
    (cases_lt (binary_level found) k)

pub operator_is : (k : ℕ) (ss : List Symbol) (op : Bin) (at : ℕ) (rest : List Symbol) → operator k ss ≡ Some (op, at, rest) → Front k ss op at rest
operator_is k [] op at rest e = none_is_none (op, at, rest) e
operator_is k (Symbol.Fixed p text ∷ ss) op at rest e = taken k text p ss (looked_up operators text) op at rest refl e
operator_is k (Symbol.Named p text ∷ ss) op at rest e = none_is_none (op, at, rest) e
operator_is k (Symbol.Number p value ∷ ss) op at rest e = none_is_none (op, at, rest) e
operator_is k (Symbol.Quoted p text ∷ ss) op at rest e = none_is_none (op, at, rest) e

pub operator_front : (k : ℕ) (op : Bin) (at : ℕ) (rest : List Symbol) → k ≤ binary_level op → operator k (Symbol.Fixed at (binary_mark op) ∷ rest) ≡ Some (op, at, rest)
operator_front k op at rest le = ap (of_level k at rest) (operator_of op) ∙ within k (binary_level op) (Some (op, at, rest)) None le

pub operator_weak : (k : ℕ) (op : Bin) (at : ℕ) (rest : List Symbol) → binary_level op < k → HasNoOperator k (Symbol.Fixed at (binary_mark op) ∷ rest)
operator_weak k op at rest lt = ap (of_level k at rest) (operator_of op) ∙ above k (binary_level op) (Some (op, at, rest)) None lt

-- the operator in front, of a level at which none is in front, is weaker
pub tight_of : (m : ℕ) (op : Bin) (at : ℕ) (here rest : List Symbol) → HasNoOperator (suc m) here → here ≡ Symbol.Fixed at (binary_mark op) ∷ rest → binary_level op ≤ m
tight_of m op at here rest h e =
    ⊎_elim
    (λ (lt : m < binary_level op). none_is_none (op, at, rest) (sym h ∙ ap (operator (suc m)) e ∙ operator_front (suc m) op at rest (omega arith)))
    (λ (le : binary_level op ≤ m). le)
    (cases_lt m (binary_level op))

-- where no operator of a level is in front, none of a stronger one is
level_more : (k m at : ℕ) (ss : List Symbol) (o : Option Bin) → k ≤ m → of_level k at ss o ≡ None → of_level m at ss o ≡ None
level_more k m at ss None le h = refl
level_more k m at ss (Some op) le h =
    ⊎_elim
    (λ (lt : binary_level op < k). above m (binary_level op) (Some (op, at, ss)) None (omega arith))
    (λ (has : k ≤ binary_level op). none_is_none (op, at, ss) (sym h ∙ within k (binary_level op) (Some (op, at, ss)) None has))
    (cases_lt (binary_level op) k)

pub stops_more : (k m : ℕ) (ss : List Symbol) → k ≤ m → HasNoOperator k ss → HasNoOperator m ss
stops_more k m [] le h = refl
stops_more k m (Symbol.Fixed p text ∷ ss) le h = level_more k m p ss (looked_up operators text) le h
stops_more k m (Symbol.Named p text ∷ ss) le h = refl
stops_more k m (Symbol.Number p value ∷ ss) le h = refl
stops_more k m (Symbol.Quoted p text ∷ ss) le h = refl

-- none is as strong as those of one operand
level_unary : (at : ℕ) (ss : List Symbol) (o : Option Bin) → of_level unary_level at ss o ≡ None
level_unary at ss None = refl
level_unary at ss (Some op) = above unary_level (binary_level op) (Some (op, at, ss)) None (below_unary op)

pub stops_unary : (ss : List Symbol) → HasNoOperator unary_level ss
stops_unary [] = refl
stops_unary (Symbol.Fixed p text ∷ ss) = level_unary p ss (looked_up operators text)
stops_unary (Symbol.Named p text ∷ ss) = refl
stops_unary (Symbol.Number p value ∷ ss) = refl
stops_unary (Symbol.Quoted p text ∷ ss) = refl

-- an operator is neither a bracket nor a parenthesis
pub no_suffix : (op : Bin) (at : ℕ) (rest : List Symbol) → HasNoSuffix (Symbol.Fixed at (binary_mark op) ∷ rest)
no_suffix bin.OrElse at rest = record { bracket = refl; parenthesis = refl }
no_suffix bin.AndAlso at rest = record { bracket = refl; parenthesis = refl }
no_suffix bin.Or at rest = record { bracket = refl; parenthesis = refl }
no_suffix bin.Xor at rest = record { bracket = refl; parenthesis = refl }
no_suffix bin.And at rest = record { bracket = refl; parenthesis = refl }
no_suffix bin.Eq at rest = record { bracket = refl; parenthesis = refl }
no_suffix bin.Ne at rest = record { bracket = refl; parenthesis = refl }
no_suffix bin.Lt at rest = record { bracket = refl; parenthesis = refl }
no_suffix bin.Le at rest = record { bracket = refl; parenthesis = refl }
no_suffix bin.Gt at rest = record { bracket = refl; parenthesis = refl }
no_suffix bin.Ge at rest = record { bracket = refl; parenthesis = refl }
no_suffix bin.Shl at rest = record { bracket = refl; parenthesis = refl }
no_suffix bin.Shr at rest = record { bracket = refl; parenthesis = refl }
no_suffix bin.Add at rest = record { bracket = refl; parenthesis = refl }
no_suffix bin.Sub at rest = record { bracket = refl; parenthesis = refl }
no_suffix bin.Mul at rest = record { bracket = refl; parenthesis = refl }

-- ---- what an operand begins with

-- the mark
abbrev pub beginning_text : Beginning → List ℕ
beginning_text Opening = codes "("
beginning_text (Operation op) = prefix_mark op

marks_begin : Each (λ text b. text ≡ beginning_text b) beginnings
marks_begin = (refl, (refl, (refl, (refl, tt))))

pub beginning_is : (text : List ℕ) (b : Beginning) → looked_up beginnings text ≡ Some b → text ≡ beginning_text b
beginning_is text b e = entry (λ text b. text ≡ beginning_text b) beginnings text b marks_begin e

pub beginning_of : (b : Beginning) → looked_up beginnings (beginning_text b) ≡ Some b
beginning_of Opening = refl
beginning_of (Operation Prefix.Neg) = refl
beginning_of (Operation Prefix.Inv) = refl
beginning_of (Operation Prefix.Not) = refl
