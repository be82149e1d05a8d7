-- What the sample description comes to, whose expressions and statements are read by their laws.
use Rattle.std.proofs.Common.{◌≡◌, refl, ap, ◌∙◌, ℕ, zero, suc, None, codes, lit<, lit≤, ◌≤◌, arith}
use Rattle.std.proofs.lemmas.Fmt.{decimal-digits_of}
use Rattle.std.proofs.lemmas.List.Elements.{All-from_recursion}
use Rattle.std.specs.Fmt.{decimal}
use Rattle.nml_tree.specs.Formula.{Paren, formula}
use Rattle.nml_tree.specs.Block.{Assign, Done, block}
use Rattle.nml_tree.specs.SpellItems.{spelling}
use Rattle.nml_tree.specs.Level.{IsLeveled, IsLeveledItem}
use Rattle.nml_tree.specs.Depth.{item_depth, depth_limit}
use Rattle.nml_tree.specs.SpellsTree.{SpellsTree}
use Rattle.nml_tree.specs.Joined.{joined}
use Rattle.nml_tree.specs.SampleTree.{name, difference_leveled, right_first, sample, sample_stmts, sample_block, sample_symbols, rule_of, parens, parens_formula, deep_stmts}
use Rattle.nml_tree.proofs.FormulaLaws.{formula_laws}
use Rattle.nml_tree.proofs.BlockLaws.{block_laws}

sample_is : block sample_stmts ≡ sample_block
sample_is = simp (block_laws, formula_laws) refl

pub sample_spelled : spelling sample ≡ sample_symbols
sample_spelled = rw sample_is refl

-- `a - ( b - c )` without its parentheses is no tree of a text
pub right_first_not_leveled : IsLeveled right_first → ⊥
right_first_not_leveled h = omega arith

pub sample_is_tree : SpellsTree sample_symbols sample
sample_is_tree = record {
  leveled = All-from_recursion IsLeveledItem sample.items (tt, (rw sample_is (tt, difference_leveled, tt), tt));
  shallow = All-from_recursion (λ i. item_depth i ≤ depth_limit) sample.items (lit≤ tt, (rw sample_is (lit≤ tt), tt));
  spelled = rw sample_is refl;
}

-- the library's decimal text doesn't compute, but its digits do
five : decimal 5 ≡ codes "5"
five = decimal-digits_of 5 (lit< tt) (lit< tt) ∙ refl

-- with one blank between two, the symbols are the text that has them at their places
pub sample_text : joined (spelling sample) ≡ codes "let k = - 5 op f ( p : k ) syntax = \"f\" image = p . image action = { x = a - b * ( c ) ; }"
sample_text = rw (sample_is, five) refl

parens_is : (n : ℕ) → formula (parens n) ≡ parens_formula n
parens_is zero = simp (formula_laws) refl
parens_is (suc n) = simp (formula_laws) (ap (λ f. Paren 0 f 0) (parens_is n))

deep_is : (n : ℕ) → block (deep_stmts n) ≡ Assign (name 0 (codes "x")) None 0 (parens_formula n) 0 Done
deep_is n = simp (block_laws, parens_is n) refl

-- 196 pairs of parentheses round a name, in a statement of an action, are just not too deep
pub deepest : item_depth (rule_of (deep_stmts 196)) ≡ 200
deepest = rw (deep_is 196) refl

pub too_deep : item_depth (rule_of (deep_stmts 197)) ≡ 201
too_deep = rw (deep_is 197) refl
