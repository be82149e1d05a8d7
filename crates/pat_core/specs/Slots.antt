-- The slots of a derivation, which of them are neutral, and the shape of a derivation as patterns see it.
use Rattle.std.specs.Prelude.{ℕ, ◌+◌, ◌≡◌, pos, Bool, false, IsTrue, ◌↔◌, List, [], ◌∷◌, ◌++◌, flat_map, replicate, length, All, Option, Some, None, slice_get, if◌then◌else◌}
use Rattle.std.specs.Map.{lookup}
use Rattle.nk_base.specs.Text.{text_eq}
use Rattle.nml_tree.specs.declared.tree.Par.{Par}
use Rattle.nml_tree.specs.Formula as formula
use Rattle.nml_tree.specs.Formula.{Formula}
use Rattle.nml_tree.specs.Block as block
use Rattle.nml_tree.specs.Block.{Block, Index}
use Rattle.nml_tree.specs.Table.{Text, Table, Parameter, parameter_of}
use Rattle.nml_tree.specs.Derivation.{Derivation, Arguments, Pick, Compose, NoMore, Part, Field, IsDerivation, picks, fields}
use Rattle.nml_tree.specs.Act.{Done}
use Rattle.nml_tree.specs.Written.{Scope, action, action_of, arguments}
use Rattle.nml_tree.specs.Outline.{types}
use Rattle.nml_tree.specs.Shapes.{comes_before}
use Rattle.nml_tree.specs.Valid.{IsRoot}
use Rattle.pat_core.specs.Shape.{Shape, statements}

-- ---- neutral

-- a derivation of a rule whose written-out action is empty, the first such in the order of alternatives
pub record DoesNothing (t : Table) (rule : Text) (d : Derivation) : Type 0 where
  pub is : IsDerivation t rule d
  pub empty : action t d ≡ Done
  pub first : (e : Derivation) → IsDerivation t rule e → action t e ≡ Done → comes_before (picks e) (picks d) ≡ false

-- a neutral derivation of a rule: that one, with each field 0
pub record IsNeutral (t : Table) (rule : Text) (d : Derivation) : Type 0 where
  pub picks : DoesNothing t rule d
  pub zeros : All (λ z. z ≡ pos 0) (fields d)

-- ---- what a statement names

-- the names in an expression
abbrev pub named : Formula → List Text
named (formula.Numeral n) = []
named (formula.Truth at b) = []
named (formula.Named n) = n.text ∷ []
named (formula.Indexed n p i q) = n.text ∷ named i
named (formula.Paren p x q) = named x
named (formula.Fitted f at p n c x q) = named x
named (formula.Bits at p x c hi d lo q) = named x
named (formula.Choose at c t x e y end) = named c ++ named x ++ named y
named (formula.Unary op at x) = named x
named (formula.Binary op x at y) = named x ++ named y

-- the names in an index
abbrev pub named_in : Index → List Text
named_in None = []
named_in (Some (p, i, q)) = named i

-- the numbers of the parameters, from k on, that have this name
abbrev pub slots_named : ℕ → List Par → Text → List ℕ
slots_named k [] name = []
slots_named k (p ∷ pars) name = if text_eq p.name.text name then k ∷ slots_named (k + 1) pars name else slots_named (k + 1) pars name

-- the slots that have one of these names
abbrev pub slots : List Par → List Text → List ℕ
slots pars names = flat_map (slots_named 0 pars) names

-- Of each statement of a rule's action written out, in the order of the text, the slots that it comes from or names. What stands in an `if`
-- counts by itself; the `if` has those that its condition names.
abbrev pub gives : Scope → List Par → Block → List (List ℕ)
gives scope pars block.Done = []
gives scope pars (block.Assign n i at e semi rest) = slots pars (n.text ∷ named_in i ++ named e) ∷ gives scope pars rest
gives scope pars (block.Part n dot at semi rest) =
    replicate (statements (action_of (lookup (text_eq n.text) scope))) (slots pars (n.text ∷ [])) ++ gives scope pars rest
gives scope pars (block.Halt at p e q semi rest) = slots pars (named e) ∷ gives scope pars rest
gives scope pars (block.If at c b xs end semi rest) = slots pars (named c) ∷ gives scope pars xs ++ gives scope pars rest
gives scope pars (block.IfElse at c b xs f ys end semi rest) =
    slots pars (named c) ∷ gives scope pars xs ++ gives scope pars ys ++ gives scope pars rest

-- the same of a derivation: the and-rule that is reached, the root, has the slots
abbrev pub root_gives : Table → Derivation → List (List ℕ)
root_gives t (Pick n d) = root_gives t d
root_gives t (Compose rule args) = gives (arguments t 0 args) rule.pars rule.action

-- ---- the shape of a derivation

-- the rule of a parameter that is a part
abbrev pub rule_named : Option Parameter → Text
rule_named (Some (Parameter.Part rule)) = rule
rule_named _ = []

-- of each slot, whether it is neutral but for its fields, which are 0 where nothing asks for them; so a slot that is a field is
abbrev pub AreSlots : Table → List Par → Arguments → List Bool → Type 0
AreSlots t pars NoMore [] = Unit {0}
AreSlots t (p ∷ pars) (Part name d args) (b ∷ bs) = (IsTrue b ↔ DoesNothing t (rule_named (parameter_of t p.ty)) d) × AreSlots t pars args bs
AreSlots t (p ∷ pars) (Field name ty z args) (b ∷ bs) = IsTrue b × AreSlots t pars args bs
AreSlots t pars args neutral = ⊥

-- the same of the root's slots
abbrev pub AreRootSlots : Table → Derivation → List Bool → Type 0
AreRootSlots t (Pick n d) neutral = AreRootSlots t d neutral
AreRootSlots t (Compose rule args) neutral = AreSlots t rule.pars args neutral

-- the shape is that of the derivation
pub record IsShape (t : Table) (d : Derivation) (s : Shape) : Type 0 where
  pub fields : s.fields ≡ types d
  pub neutral : AreRootSlots t d s.neutral
  pub action : s.action ≡ action t d
  pub gives : s.gives ≡ root_gives t d

-- the shapes of a description in the order of these lists of picks, each that of all its derivations
pub record AreShapesOf (t : Table) (lists : List (List ℕ)) (shapes : List Shape) : Type 0 where
  pub many : length shapes ≡ length lists
  pub each : (k : ℕ) (ps : List ℕ) (s : Shape) → slice_get lists k ≡ Some ps → slice_get shapes k ≡ Some s
      → (d : Derivation) → IsRoot t d → picks d ≡ ps → IsShape t d s
