-- Bytes have one program, or one place where their tokens stop to begin one, or one first token that is left out.
use Rattle.std.proofs.Common.{◌≡◌, ℕ, List, [], ◌∷◌, ◌++◌, length, map, ap, sym, ◌∙◌, subst}
use Rattle.c_tree.specs.declared.program.CTree.{CTree}
use Rattle.readings.specs.Symbol.{first_place}
use Rattle.readings.specs.Whole.{Goods}
use Rattle.readings.proofs.OneEnd.{goes_through, one_left}
use Rattle.c_tree.specs.Items.{items}
use Rattle.c_tree.specs.SpellsTree.{SpellsTree}
use Rattle.nml_lex.specs.Lexed.{Lexeme}
use Rattle.c_lex.specs.Lexed as tokens
use Rattle.c_lex.specs.Lexed.{HasLexemes, IsStuckAt}
use Rattle.c_lex.proofs.Parts as parts
use Rattle.c_lex.proofs.Words.{apart}
use Rattle.c_grammar.specs.Trees.{symbol, outside_places, IsTree, HasNoTree, IsOutsideAt}
use Rattle.c_grammar.proofs.Inside.{IsInside, items_inside, none_outside}
use Rattle.c_grammar.proofs.Programs.{one_program}

-- bytes have one list of tokens
one_tokens : (bytes : List ℕ) (ps qs : List Lexeme) → HasLexemes bytes ps → HasLexemes bytes qs → ps ≡ qs
one_tokens bytes ps qs h i = parts.one tokens.c bytes ps qs apart h i

-- the bytes have one program
pub one_bytes : (bytes : List ℕ) (c d : CTree) → IsTree bytes c → IsTree bytes d → c ≡ d
one_bytes bytes c d t u =
    one_program (map symbol u.tokens) c d (subst (λ ps. SpellsTree (map symbol ps) c) (one_tokens bytes t.tokens u.tokens t.has u.has) t.spells) u.spells

-- its tokens don't stop to begin one
pub tree_or_none : (bytes : List ℕ) (c : CTree) (at : ℕ) → IsTree bytes c → HasNoTree bytes at → ⊥
tree_or_none bytes c at t h =
    goes_through SpellsTree c (map symbol t.tokens) h.front h.left t.spells (ap (map symbol) (one_tokens bytes t.tokens h.tokens t.has h.has) ∙ h.whole) h.stops

-- and none of them is left out
tree_inside : (bytes : List ℕ) (c : CTree) → (t : IsTree bytes c) → outside_places t.tokens ≡ []
tree_inside bytes c t = none_outside t.tokens (subst (Goods IsInside) (sym t.spells.spelled) (items_inside (items c)).each)

some_place : {P : Type 0} (at : ℕ) (others : List ℕ) → [] ≡ at ∷ others → P
some_place at others e = absurd (cc)

pub tree_or_outside : (bytes : List ℕ) (c : CTree) (at : ℕ) → IsTree bytes c → IsOutsideAt bytes at → ⊥
tree_or_outside bytes c at t o =
    some_place at o.others (sym (tree_inside bytes c t) ∙ ap outside_places (one_tokens bytes t.tokens o.tokens t.has o.has) ∙ o.first)

-- the tokens stop at one place, and where one is left out they don't
pub one_place : (bytes : List ℕ) (a b : ℕ) → HasNoTree bytes a → HasNoTree bytes b → a ≡ b
one_place bytes a b h i =
    let same : h.front ++ h.left ≡ i.front ++ i.left = sym h.whole ∙ ap (map symbol) (one_tokens bytes h.tokens i.tokens h.has i.has) ∙ i.whole in
    h.is ∙ ap (first_place (length bytes)) (one_left SpellsTree h.front i.front h.left i.left same h.begins i.begins h.stops i.stops) ∙ sym i.is

pub none_or_outside : (bytes : List ℕ) (a b : ℕ) → HasNoTree bytes a → IsOutsideAt bytes b → ⊥
none_or_outside bytes a b h o = some_place b o.others (sym h.inside ∙ ap outside_places (one_tokens bytes h.tokens o.tokens h.has o.has) ∙ o.first)

-- one token is the first that is left out
first_is : (a b : ℕ) (xs ys : List ℕ) → a ∷ xs ≡ b ∷ ys → a ≡ b
first_is a b xs ys e = cc

pub one_outside : (bytes : List ℕ) (a b : ℕ) → IsOutsideAt bytes a → IsOutsideAt bytes b → a ≡ b
one_outside bytes a b o q = first_is a b o.others q.others (sym o.first ∙ ap outside_places (one_tokens bytes o.tokens q.tokens o.has q.has) ∙ q.first)
