-- Bytes have one fault, or one tree and no fault.
use Rattle.std.proofs.Common.{◌≡◌, ◌∙◌, ap, sym, subst, ℕ, List, [], ◌∷◌}
use Rattle.nml_tree.specs.Floats.{float_places}
use Rattle.nml_tree.specs.declared.tree.Desc.{Desc}
use Rattle.nml_tree.specs.declared.fault.DescFault.{DescFault}
use Rattle.nml_tree.specs.declared.fault.DescFault.TheVariants as faults
use Rattle.nml_lex.proofs.Parts.{never, place}
use Rattle.nml_grammar.specs.Trees.{IsFloat}
use Rattle.nml_grammar.proofs.OneReading.{one_place, tree_or_none, one_description}
use Rattle.nml_refusals.proofs.Told.{told}
use Rattle.nml_refusals.proofs.TreeFaults.{one_only, none_checked}
use Rattle.nml_refusals.specs.TreeFault.{IsTreeFault}
use Rattle.nml_suite.specs.Described.{HasFault, NoTokens, NoTree, Floating, Refused, Spells, IsAccepted}

one_head : {a b : ℕ} {xs ys : List ℕ} → a ∷ xs ≡ b ∷ ys → a ≡ b
one_head e = cc

no_head : {a : ℕ} {xs : List ℕ} → a ∷ xs ≡ [] → ⊥
no_head e = absurd (cc)

-- the first `float` stands at one place
one_float : (bytes : List ℕ) (a b : ℕ) → IsFloat bytes a → IsFloat bytes b → a ≡ b
one_float bytes a b h k = one_head (sym h.first ∙ ap float_places (one_description bytes h.description k.description h.tree k.tree) ∙ k.first)

one_spelled : (bytes : List ℕ) (t u : Desc) → Spells bytes t → Spells bytes u → t ≡ u
one_spelled bytes t u a b = one_description bytes t u a.is b.is

-- a tree without a type `float` has none
no_float_spelled : (bytes : List ℕ) (t : Desc) (at : ℕ) → Spells bytes t → IsFloat bytes at → ⊥
no_float_spelled bytes t at s h = no_head (sym h.first ∙ ap float_places (one_description bytes h.description t h.tree s.is) ∙ s.no_float)

pub one_fault : (bytes : List ℕ) (f g : DescFault) → HasFault bytes f → HasFault bytes g → f ≡ g
one_fault bytes f g (NoTokens a e h) (NoTokens b i k) = e ∙ ap faults.Lex (place bytes a b h k) ∙ sym i
one_fault bytes f g (NoTokens a e h) (NoTree b i k) = absurd (never bytes k.tokens a k.has h)
one_fault bytes f g (NoTokens a e h) (Floating b i k) = absurd (never bytes k.tree.tokens a k.tree.has h)
one_fault bytes f g (NoTokens a e h) (Refused t s k) = absurd (never bytes s.is.tokens a s.is.has h)
one_fault bytes f g (NoTree a e h) (NoTokens b i k) = absurd (never bytes h.tokens b h.has k)
one_fault bytes f g (NoTree a e h) (NoTree b i k) = e ∙ ap faults.Syntax (one_place bytes a b h k) ∙ sym i
one_fault bytes f g (NoTree a e h) (Floating b i k) = absurd (tree_or_none bytes k.description a k.tree h)
one_fault bytes f g (NoTree a e h) (Refused t s k) = absurd (tree_or_none bytes t a s.is h)
one_fault bytes f g (Floating a e h) (NoTokens b i k) = absurd (never bytes h.tree.tokens b h.tree.has k)
one_fault bytes f g (Floating a e h) (NoTree b i k) = absurd (tree_or_none bytes h.description b h.tree k)
one_fault bytes f g (Floating a e h) (Floating b i k) = e ∙ ap faults.Float (one_float bytes a b h k) ∙ sym i
one_fault bytes f g (Floating a e h) (Refused t s k) = absurd (no_float_spelled bytes t a s h)
one_fault bytes f g (Refused t s h) (NoTokens b i k) = absurd (never bytes s.is.tokens b s.is.has k)
one_fault bytes f g (Refused t s h) (NoTree b i k) = absurd (tree_or_none bytes t b s.is k)
one_fault bytes f g (Refused t s h) (Floating b i k) = absurd (no_float_spelled bytes t b s k)
one_fault bytes f g (Refused t s h) (Refused u r k) = one_only u (told u) f g (subst (λ x. IsTreeFault x f) (one_spelled bytes t u s r) h) k

-- bytes that are accepted have no fault
pub no_fault : (bytes : List ℕ) (t : Desc) (f : DescFault) → IsAccepted bytes t → HasFault bytes f → ⊥
no_fault bytes t f a (NoTokens at e h) = never bytes a.spelled.is.tokens at a.spelled.is.has h
no_fault bytes t f a (NoTree at e h) = tree_or_none bytes t at a.spelled.is h
no_fault bytes t f a (Floating at e h) = no_float_spelled bytes t at a.spelled h
no_fault bytes t f a (Refused u s h) = none_checked t f a.right (subst (λ x. IsTreeFault x f) (one_spelled bytes u t s a.spelled) h)

-- bytes are accepted as one tree
pub one_accepted : (bytes : List ℕ) (t u : Desc) → IsAccepted bytes t → IsAccepted bytes u → t ≡ u
one_accepted bytes t u a b = one_spelled bytes t u a.spelled b.spelled
