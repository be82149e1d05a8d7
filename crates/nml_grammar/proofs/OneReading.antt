-- Bytes have one description, or none and then one place where their tokens stop to begin one.
use Rattle.std.proofs.Common.{◌≡◌, ℕ, List, ◌++◌, length, map, ap, sym, ◌∙◌}
use Rattle.nml_tree.specs.declared.tree.Desc.{Desc}
use Rattle.readings.specs.Symbol.{first_place}
use Rattle.nml_tree.specs.SpellsTree.{SpellsTree}
use Rattle.nml_lex.proofs.Parts.{one}
use Rattle.readings.proofs.OneEnd.{goes_through, one_left}
use Rattle.nml_grammar.specs.Trees.{symbol, IsTree, HasNoTree}
use Rattle.nml_grammar.proofs.OneItem.{unique_tree}

-- the tokens stop at one place
pub one_place : (bytes : List ℕ) (a b : ℕ) → HasNoTree bytes a → HasNoTree bytes b → a ≡ b
one_place bytes a b h i =
    let same : h.front ++ h.left ≡ i.front ++ i.left = sym h.whole ∙ ap (map symbol) (one bytes h.tokens i.tokens h.has i.has) ∙ i.whole in
    h.is ∙ ap (first_place (length bytes)) (one_left SpellsTree h.front i.front h.left i.left same h.begins i.begins h.stops i.stops) ∙ sym i.is

-- and nowhere where the bytes have a description
pub tree_or_none : (bytes : List ℕ) (d : Desc) (at : ℕ) → IsTree bytes d → HasNoTree bytes at → ⊥
tree_or_none bytes d at t h = goes_through SpellsTree d (map symbol t.tokens) h.front h.left t.spells (ap (map symbol) (one bytes t.tokens h.tokens t.has h.has) ∙ h.whole) h.stops

-- the bytes have one description
pub one_description : (bytes : List ℕ) (d e : Desc) → IsTree bytes d → IsTree bytes e → d ≡ e
one_description bytes d e t u =
    unique_tree d e t.spells.leveled u.spells.leveled (sym t.spells.spelled ∙ ap (map symbol) (one bytes t.tokens u.tokens t.has u.has) ∙ u.spells.spelled)
