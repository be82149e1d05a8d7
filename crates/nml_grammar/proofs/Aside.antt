-- A description without places is spelled as its symbols without theirs, and keeps its levels. So two descriptions whose symbols
-- differ in places alone do so too.
use Rattle.std.proofs.Common.{◌≡◌, ℕ, ◌≤◌, ◌<◌, List, [], ◌∷◌, ◌++◌, Option, Some, None, map, refl, ap, sym, ◌∙◌, subst}
use Rattle.std.specs.Prelude.{codes, flat_map, All}
use Rattle.std.proofs.lemmas.List.{map-append}
use Rattle.std.proofs.lemmas.List.Elements.{All-nil, All-cons, All-head, All-tail}
use Rattle.nml_tree.specs.declared.names.Name.{Name}
use Rattle.nml_tree.specs.declared.names.Number.{Number}
use Rattle.nml_tree.specs.declared.names.Quoted.{Quoted}
use Rattle.nml_tree.specs.declared.expression.Expr.{Expr}
use Rattle.nml_tree.specs.declared.statement.Stmt.{Stmt}
use Rattle.nml_tree.specs.declared.attributes.Attribute.{Attribute}
use Rattle.nml_tree.specs.declared.attributes.Arg.{Arg}
use Rattle.nml_tree.specs.declared.attributes.Template.{Template}
use Rattle.nml_tree.specs.declared.attributes.Action.{Action}
use Rattle.nml_tree.specs.declared.attributes.Attrs.{Attrs}
use Rattle.nml_tree.specs.declared.tree.Size.{Size}
use Rattle.nml_tree.specs.declared.tree.TypeExpr.{TypeExpr}
use Rattle.nml_tree.specs.declared.tree.Par.{Par}
use Rattle.nml_tree.specs.declared.tree.Pars.{Pars}
use Rattle.nml_tree.specs.declared.tree.StorageWord.{StorageWord}
use Rattle.nml_tree.specs.declared.tree.PortWord.{PortWord}
use Rattle.nml_tree.specs.declared.tree.RuleWord.{RuleWord}
use Rattle.nml_tree.specs.declared.tree.Item.{Item}
use Rattle.nml_tree.specs.declared.tree.Desc.{Desc}
use Rattle.readings.specs.Symbol.{Symbol, fixed}
use Rattle.nml_tree.specs.Formula.{Formula, Numeral, Truth, Named, Indexed, Paren, Fitted, Bits, Choose, Unary, Binary, formula}
use Rattle.nml_tree.specs.Block.{Block, Index, Done, Assign, Part, Halt, If, IfElse, block, action_block}
use Rattle.nml_tree.specs.Level.{binary_level, unary_level, level, IsLeveled, IsLeveledIndex, IsLeveledBlock, IsLeveledItem}
use Rattle.nml_tree.specs.Spell.{truth_word, fit_word, prefix_mark, binary_mark, name_spelling, number_spelling, string_spelling, size_spelling, type_spelling, formula_spelling, index_spelling, block_spelling}
use Rattle.nml_tree.specs.SpellItems.{attribute_spelling, dotted_spelling, arg_spelling, template_spelling, action_spelling, attrs_spelling, par_spelling, further_par_spelling, pars_spelling, further_name_spelling, storage_word_spelling, port_word_spelling, rule_word_spelling, minus_spelling, item_spelling, spelling}
use Rattle.nml_grammar.specs.Unplaced.{unplaced_symbol, unplaced_name, unplaced_number, unplaced_string, unplaced_size, unplaced_type, unplaced_formula, unplaced_index, unplaced_block, unplaced_expression, unplaced_statements, unplaced_attribute, unplaced_dotted, unplaced_arg, unplaced_template, unplaced_action, unplaced_attrs, unplaced_par, unplaced_further_par, unplaced_pars, unplaced_further_name, unplaced_storage_word, unplaced_port_word, unplaced_rule_word, unplaced_minus, unplaced_item, unplaced}
use Rattle.nml_grammar.proofs.MadeOf.{formula-expr_of, block-stmts_of}
use Rattle.nml_grammar.proofs.OneItem.{unique_tree}
use Rattle.nml_tree.specs.declared.attributes.Attribute.TheVariants as attribute
use Rattle.nml_tree.specs.declared.attributes.Template.TheVariants as template
use Rattle.nml_tree.specs.declared.tree.Size.TheVariants as size
use Rattle.nml_tree.specs.declared.tree.TypeExpr.TheVariants as type_expr
use Rattle.nml_tree.specs.declared.tree.StorageWord.TheVariants as storage_word
use Rattle.nml_tree.specs.declared.tree.PortWord.TheVariants as port_word
use Rattle.nml_tree.specs.declared.tree.RuleWord.TheVariants as rule_word
use Rattle.nml_tree.specs.declared.tree.Item.TheVariants as item

-- these symbols without their places
record Bare (bare symbols : List Symbol) : Type 0 where
  is : bare ≡ map unplaced_symbol symbols

infixl 20 ◌+++◌
-- one behind the other
◌+++◌ : {a b c d : List Symbol} → Bare a b → Bare c d → Bare (a ++ c) (b ++ d)
◌+++◌ {a} {b} {c} {d} p q = record { is = rw (p.is, q.is, map-append unplaced_symbol b d) refl }

-- a keyword or a mark, a name, a number and a string
word : (at : ℕ) (text : List ℕ) → Bare (fixed 0 text) (fixed at text)
word at text = record { is = refl }

name : (n : Name) → Bare (name_spelling (unplaced_name n)) (name_spelling n)
name n = record { is = refl }

number : (n : Number) → Bare (number_spelling (unplaced_number n)) (number_spelling n)
number n = record { is = refl }

string : (q : Quoted) → Bare (string_spelling (unplaced_string q)) (string_spelling q)
string q = record { is = refl }

-- ---- the spelling of each part

size_bare : (n : Size) → Bare (size_spelling (unplaced_size n)) (size_spelling n)
size_bare (size.Number n) = number n
size_bare (size.Name n) = name n

type_bare : (t : TypeExpr) → Bare (type_spelling (unplaced_type t)) (type_spelling t)
type_bare (type_expr.Bool at) = word at (codes "bool")
type_bare (type_expr.Card at p n q) = word at (codes "card") +++ word p (codes "(") +++ size_bare n +++ word q (codes ")")
type_bare (type_expr.Int at p n q) = word at (codes "int") +++ word p (codes "(") +++ size_bare n +++ word q (codes ")")
type_bare (type_expr.Fix at p n c m q) =
    word at (codes "fix") +++ word p (codes "(") +++ size_bare n +++ word c (codes ",") +++ size_bare m +++ word q (codes ")")
type_bare (type_expr.Float at p n c m q) =
    word at (codes "float") +++ word p (codes "(") +++ size_bare n +++ word c (codes ",") +++ size_bare m +++ word q (codes ")")
type_bare (type_expr.Name n) = name n

formula_bare : (x : Formula) → Bare (formula_spelling (unplaced_formula x)) (formula_spelling x)
formula_bare (Numeral n) = number n
formula_bare (Truth at b) = word at (truth_word b)
formula_bare (Named n) = name n
formula_bare (Indexed n p i q) = name n +++ word p (codes "[") +++ formula_bare i +++ word q (codes "]")
formula_bare (Paren p x q) = word p (codes "(") +++ formula_bare x +++ word q (codes ")")
formula_bare (Fitted f at p n c x q) =
    word at (fit_word f) +++ word p (codes "(") +++ size_bare n +++ word c (codes ",") +++ formula_bare x +++ word q (codes ")")
formula_bare (Bits at p x c high d low q) =
    word at (codes "bits") +++ word p (codes "(") +++ formula_bare x +++ word c (codes ",") +++ size_bare high +++ word d (codes ",")
    +++ size_bare low +++ word q (codes ")")
formula_bare (Choose at c t x f y end) =
    word at (codes "if") +++ formula_bare c +++ word t (codes "then") +++ formula_bare x +++ word f (codes "else") +++ formula_bare y
    +++ word end (codes "endif")
formula_bare (Unary op at x) = word at (prefix_mark op) +++ formula_bare x
formula_bare (Binary op x at y) = formula_bare x +++ word at (binary_mark op) +++ formula_bare y

index_bare : (i : Index) → Bare (index_spelling (unplaced_index i)) (index_spelling i)
index_bare None = record { is = refl }
index_bare (Some (p, i, q)) = word p (codes "[") +++ formula_bare i +++ word q (codes "]")

block_bare : (b : Block) → Bare (block_spelling (unplaced_block b)) (block_spelling b)
block_bare Done = record { is = refl }
block_bare (Assign n i at e semicolon rest) =
    name n +++ index_bare i +++ word at (codes "=") +++ formula_bare e +++ word semicolon (codes ";") +++ block_bare rest
block_bare (Part n dot at semicolon rest) =
    name n +++ word dot (codes ".") +++ word at (codes "action") +++ word semicolon (codes ";") +++ block_bare rest
block_bare (Halt at p e q semicolon rest) =
    word at (codes "halt") +++ word p (codes "(") +++ formula_bare e +++ word q (codes ")") +++ word semicolon (codes ";") +++ block_bare rest
block_bare (If at c t xs end semicolon rest) =
    word at (codes "if") +++ formula_bare c +++ word t (codes "then") +++ block_bare xs +++ word end (codes "endif")
    +++ word semicolon (codes ";") +++ block_bare rest
block_bare (IfElse at c t xs f ys end semicolon rest) =
    word at (codes "if") +++ formula_bare c +++ word t (codes "then") +++ block_bare xs +++ word f (codes "else") +++ block_bare ys
    +++ word end (codes "endif") +++ word semicolon (codes ";") +++ block_bare rest

-- an expression and statements, by their formula and their block
expression_bare : (e : Expr) → Bare (formula_spelling (formula (unplaced_expression e))) (formula_spelling (formula e))
expression_bare e = record { is = ap formula_spelling (formula-expr_of (unplaced_formula (formula e))) ∙ (formula_bare (formula e)).is }

statements_bare : (xs : List Stmt) → Bare (block_spelling (block (unplaced_statements xs))) (block_spelling (block xs))
statements_bare xs = record { is = ap block_spelling (block-stmts_of (unplaced_block (block xs))) ∙ (block_bare (block xs)).is }

-- things one after the other, of each of which it is known
list_bare : {A : Type 0} (each : A → List Symbol) (unplaced_one : A → A) → ((x : A) → Bare (each (unplaced_one x)) (each x))
    → (xs : List A) → Bare (flat_map each (map unplaced_one xs)) (flat_map each xs)
list_bare each unplaced_one known [] = record { is = refl }
list_bare each unplaced_one known (x ∷ xs) = known x +++ list_bare each unplaced_one known xs

attribute_bare : (a : Attribute) → Bare (attribute_spelling (unplaced_attribute a)) (attribute_spelling a)
attribute_bare (attribute.Syntax at) = word at (codes "syntax")
attribute_bare (attribute.Image at) = word at (codes "image")

dotted_bare : (a : Option (ℕ × Attribute)) → Bare (dotted_spelling (unplaced_dotted a)) (dotted_spelling a)
dotted_bare None = record { is = refl }
dotted_bare (Some (dot, a)) = word dot (codes ".") +++ attribute_bare a

arg_bare : (a : ℕ × Arg) → Bare (arg_spelling (unplaced_arg a)) (arg_spelling a)
arg_bare (comma, a) = word comma (codes ",") +++ name a.name +++ dotted_bare a.attribute

template_bare : (t : Template) → Bare (template_spelling (unplaced_template t)) (template_spelling t)
template_bare (template.Plain q) = string q
template_bare (template.Part n dot a) = name n +++ word dot (codes ".") +++ attribute_bare a
template_bare (template.Format at p q args r) =
    word at (codes "format") +++ word p (codes "(") +++ string q +++ list_bare arg_spelling unplaced_arg arg_bare args +++ word r (codes ")")

action_bare : (a : Option Action) → Bare (action_spelling (unplaced_action a)) (action_spelling a)
action_bare None = record { is = refl }
action_bare (Some a) =
    word a.action (codes "action") +++ word a.equals (codes "=") +++ word a.opening (codes "{") +++ statements_bare a.stmts
    +++ word a.closing (codes "}")

attrs_bare : (a : Attrs) → Bare (attrs_spelling (unplaced_attrs a)) (attrs_spelling a)
attrs_bare a =
    word a.syntax (codes "syntax") +++ word a.syntax_equals (codes "=") +++ template_bare a.syntax_text
    +++ word a.image (codes "image") +++ word a.image_equals (codes "=") +++ template_bare a.image_text
    +++ action_bare a.action

par_bare : (p : Par) → Bare (par_spelling (unplaced_par p)) (par_spelling p)
par_bare p = name p.name +++ word p.colon (codes ":") +++ type_bare p.ty

further_par_bare : (p : ℕ × Par) → Bare (further_par_spelling (unplaced_further_par p)) (further_par_spelling p)
further_par_bare (comma, p) = word comma (codes ",") +++ par_bare p

pars_bare : (ps : Option Pars) → Bare (pars_spelling (unplaced_pars ps)) (pars_spelling ps)
pars_bare None = record { is = refl }
pars_bare (Some ps) = par_bare ps.first +++ list_bare further_par_spelling unplaced_further_par further_par_bare ps.rest

further_name_bare : (n : ℕ × Name) → Bare (further_name_spelling (unplaced_further_name n)) (further_name_spelling n)
further_name_bare (bar, n) = word bar (codes "|") +++ name n

storage_word_bare : (w : StorageWord) → Bare (storage_word_spelling (unplaced_storage_word w)) (storage_word_spelling w)
storage_word_bare (storage_word.Mem at) = word at (codes "mem")
storage_word_bare (storage_word.Reg at) = word at (codes "reg")

port_word_bare : (w : PortWord) → Bare (port_word_spelling (unplaced_port_word w)) (port_word_spelling w)
port_word_bare (port_word.Trn at) = word at (codes "trn")
port_word_bare (port_word.Inp at) = word at (codes "inp")
port_word_bare (port_word.Out at) = word at (codes "out")

rule_word_bare : (w : RuleWord) → Bare (rule_word_spelling (unplaced_rule_word w)) (rule_word_spelling w)
rule_word_bare (rule_word.Op at) = word at (codes "op")
rule_word_bare (rule_word.Mode at) = word at (codes "mode")

minus_bare : (minus : Option ℕ) → Bare (minus_spelling (unplaced_minus minus)) (minus_spelling minus)
minus_bare None = record { is = refl }
minus_bare (Some at) = word at (codes "-")

item_bare : (x : Item) → Bare (item_spelling (unplaced_item x)) (item_spelling x)
item_bare (item.Let at n equals minus z) =
    word at (codes "let") +++ name n +++ word equals (codes "=") +++ minus_bare minus +++ number z
item_bare (item.Type at n equals t) = word at (codes "type") +++ name n +++ word equals (codes "=") +++ type_bare t
item_bare (item.Storage s) =
    storage_word_bare s.word +++ name s.name +++ word s.opening (codes "[") +++ size_bare s.size +++ word s.comma (codes ",")
    +++ type_bare s.ty +++ word s.closing (codes "]")
item_bare (item.Port p) =
    port_word_bare p.word +++ name p.name +++ word p.opening (codes "[") +++ type_bare p.ty +++ word p.closing (codes "]")
item_bare (item.OrRule r) =
    rule_word_bare r.word +++ name r.name +++ word r.equals (codes "=") +++ name r.first
    +++ list_bare further_name_spelling unplaced_further_name further_name_bare r.rest
item_bare (item.OpRule r) =
    word r.op (codes "op") +++ name r.name +++ word r.opening (codes "(") +++ pars_bare r.pars +++ word r.closing (codes ")")
    +++ attrs_bare r.attrs
item_bare (item.ModeRule r) =
    word r.mode (codes "mode") +++ name r.name +++ word r.opening (codes "(") +++ pars_bare r.pars +++ word r.closing (codes ")")
    +++ word r.equals (codes "=") +++ expression_bare r.value +++ attrs_bare r.attrs

-- a description without places is spelled as its symbols without theirs
pub spelling-unplaced : (d : Desc) → spelling (unplaced d) ≡ map unplaced_symbol (spelling d)
spelling-unplaced d = (list_bare item_spelling unplaced_item item_bare d.items).is

-- ---- the levels, which don't look at places

level_aside : (x : Formula) → level (unplaced_formula x) ≡ level x
level_aside (Numeral n) = refl
level_aside (Truth at b) = refl
level_aside (Named n) = refl
level_aside (Indexed n p i q) = refl
level_aside (Paren p x q) = refl
level_aside (Fitted f at p n c x q) = refl
level_aside (Bits at p x c high d low q) = refl
level_aside (Choose at c t x f y end) = refl
level_aside (Unary op at x) = refl
level_aside (Binary op x at y) = refl

leveled : (x : Formula) → IsLeveled x → IsLeveled (unplaced_formula x)
leveled (Numeral n) h = tt
leveled (Truth at b) h = tt
leveled (Named n) h = tt
leveled (Indexed n p i q) h = leveled i h
leveled (Paren p x q) h = leveled x h
leveled (Fitted f at p n c x q) h = leveled x h
leveled (Bits at p x c high d low q) h = leveled x h
leveled (Choose at c t x f y end) (h, i, j) = (leveled c h, leveled x i, leveled y j)
leveled (Unary op at x) (h, above) = (leveled x h, subst (λ (n : ℕ). unary_level ≤ n) (sym (level_aside x)) above)
leveled (Binary op x at y) (h, i, left, right) =
    (leveled x h, leveled y i, subst (λ (n : ℕ). binary_level op ≤ n) (sym (level_aside x)) left, subst (λ (n : ℕ). binary_level op < n) (sym (level_aside y)) right)

leveled_index : (i : Index) → IsLeveledIndex i → IsLeveledIndex (unplaced_index i)
leveled_index None h = tt
leveled_index (Some (p, i, q)) h = leveled i h

leveled_block : (b : Block) → IsLeveledBlock b → IsLeveledBlock (unplaced_block b)
leveled_block Done h = tt
leveled_block (Assign n i at e semicolon rest) (h, j, k) = (leveled_index i h, leveled e j, leveled_block rest k)
leveled_block (Part n dot at semicolon rest) h = leveled_block rest h
leveled_block (Halt at p e q semicolon rest) (h, j) = (leveled e h, leveled_block rest j)
leveled_block (If at c t xs end semicolon rest) (h, j, k) = (leveled c h, leveled_block xs j, leveled_block rest k)
leveled_block (IfElse at c t xs f ys end semicolon rest) (h, j, k, l) = (leveled c h, leveled_block xs j, leveled_block ys k, leveled_block rest l)

action_block_aside : (a : Option Action) → action_block (unplaced_action a) ≡ unplaced_block (action_block a)
action_block_aside None = refl
action_block_aside (Some a) = block-stmts_of (unplaced_block (block a.stmts))

leveled_action : (a : Option Action) → IsLeveledBlock (action_block a) → IsLeveledBlock (action_block (unplaced_action a))
leveled_action a h = subst IsLeveledBlock (sym (action_block_aside a)) (leveled_block (action_block a) h)

leveled_item : (x : Item) → IsLeveledItem x → IsLeveledItem (unplaced_item x)
leveled_item (item.Let at n equals minus z) h = tt
leveled_item (item.Type at n equals t) h = tt
leveled_item (item.Storage s) h = tt
leveled_item (item.Port p) h = tt
leveled_item (item.OrRule r) h = tt
leveled_item (item.OpRule r) h = leveled_action r.attrs.action h
leveled_item (item.ModeRule r) (h, i) =
    (subst IsLeveled (sym (formula-expr_of (unplaced_formula (formula r.value)))) (leveled (formula r.value) h), leveled_action r.attrs.action i)

leveled_items : (xs : List Item) → All IsLeveledItem xs → All IsLeveledItem (map unplaced_item xs)
leveled_items [] l = All-nil IsLeveledItem
leveled_items (x ∷ xs) l =
    All-cons IsLeveledItem (unplaced_item x) (map unplaced_item xs) (leveled_item x (All-head IsLeveledItem x xs l)) (leveled_items xs (All-tail IsLeveledItem x xs l))

-- ---- descriptions

-- two descriptions whose symbols differ in places alone differ in places alone
pub aside : (d e : Desc) → All IsLeveledItem d.items → All IsLeveledItem e.items → map unplaced_symbol (spelling d) ≡ map unplaced_symbol (spelling e) → unplaced d ≡ unplaced e
aside d e l m is =
    unique_tree (unplaced d) (unplaced e) (leveled_items d.items l) (leveled_items e.items m) (spelling-unplaced d ∙ is ∙ sym (spelling-unplaced e))
