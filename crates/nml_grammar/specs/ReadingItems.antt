-- Reading types, attributes and items from the front of a list of symbols.
use Rattle.std.specs.Prelude.{ℕ, ◌-◌, List, [], ◌∷◌, Option, Some, None, option_map, codes}
use Rattle.nml_tree.specs.declared.names.Name.{Name}
use Rattle.nml_tree.specs.declared.expression.Expr.{Expr}
use Rattle.nml_tree.specs.declared.statement.Stmt.{Stmt}
use Rattle.nml_tree.specs.declared.attributes.Attribute.{Attribute}
use Rattle.nml_tree.specs.declared.attributes.Arg.{Arg}
use Rattle.nml_tree.specs.declared.attributes.Template.{Template}
use Rattle.nml_tree.specs.declared.attributes.Action.{Action}
use Rattle.nml_tree.specs.declared.attributes.Attrs.{Attrs}
use Rattle.nml_tree.specs.declared.tree.TypeExpr.{TypeExpr}
use Rattle.nml_tree.specs.declared.tree.Par.{Par}
use Rattle.nml_tree.specs.declared.tree.Pars.{Pars}
use Rattle.nml_tree.specs.declared.tree.StorageWord.{StorageWord}
use Rattle.nml_tree.specs.declared.tree.PortWord.{PortWord}
use Rattle.nml_tree.specs.declared.tree.RuleWord.{RuleWord}
use Rattle.nml_tree.specs.declared.tree.Item.{Item}
use Rattle.readings.specs.Symbol.{Symbol}
use Rattle.nml_tree.specs.Inverse.{expr_of, stmts_of}
use Rattle.nml_tree.specs.Depth.{depth_limit}
use Rattle.readings.specs.Reading.{Read, Found, Stuck, read_on, behind}
use Rattle.nml_grammar.specs.Reading.{climb}
use Rattle.nml_grammar.specs.ReadingStatements.{statements}
use Rattle.readings.specs.Readings.{to_end, Reading, ◌>>>◌, made, given, sign, optional, further, worded}
use Rattle.nml_grammar.specs.Words.{size, name, number, string}
use Rattle.nml_tree.specs.declared.attributes.Attribute.TheVariants as attributes
use Rattle.nml_tree.specs.declared.attributes.Template.TheVariants as templates
use Rattle.nml_tree.specs.declared.tree.TypeExpr.TheVariants as types
use Rattle.nml_tree.specs.declared.tree.StorageWord.TheVariants as storage_words
use Rattle.nml_tree.specs.declared.tree.PortWord.TheVariants as port_words
use Rattle.nml_tree.specs.declared.tree.RuleWord.TheVariants as rule_words
use Rattle.nml_tree.specs.declared.tree.Item.TheVariants as items

-- ---- types

-- what a type begins with if it is no name
pub data Kind : Type 0 where
  Truth : Kind
  Card : Kind
  Int : Kind
  Fix : Kind
  Float : Kind

-- the keywords
abbrev pub kinds : List (List ℕ × Kind)
kinds = (codes "bool", Truth) ∷ (codes "card", Card) ∷ (codes "int", Int) ∷ (codes "fix", Fix) ∷ (codes "float", Float) ∷ []

-- what stands behind each
abbrev pub behind_kind : Kind → ℕ → Reading TypeExpr
behind_kind Truth at = given (types.Bool at)
behind_kind Card at = made (λ (p, (m, q)). types.Card at p m q) (sign (codes "(") >>> (size >>> sign (codes ")")))
behind_kind Int at = made (λ (p, (m, q)). types.Int at p m q) (sign (codes "(") >>> (size >>> sign (codes ")")))
behind_kind Fix at = made (λ (p, (m, (c, (k, q)))). types.Fix at p m c k q) (sign (codes "(") >>> (size >>> (sign (codes ",") >>> (size >>> sign (codes ")")))))
behind_kind Float at = made (λ (p, (m, (c, (k, q)))). types.Float at p m c k q) (sign (codes "(") >>> (size >>> (sign (codes ",") >>> (size >>> sign (codes ")")))))

-- a name, or what begins with a keyword
abbrev pub type_read : Reading TypeExpr
type_read n [] = Stuck []
type_read n (Symbol.Fixed at text ∷ ss) = worded kinds behind_kind n (Symbol.Fixed at text ∷ ss)
type_read n (Symbol.Named at text ∷ ss) = Found (types.Name (record { at = at; text = text })) ss
type_read n (Symbol.Number at value ∷ ss) = Stuck (Symbol.Number at value ∷ ss)
type_read n (Symbol.Quoted at text ∷ ss) = Stuck (Symbol.Quoted at text ∷ ss)

-- ---- attributes

-- the two keywords
abbrev pub attribute_words : List (List ℕ × (ℕ → Attribute))
attribute_words = (codes "syntax", attributes.Syntax) ∷ (codes "image", attributes.Image) ∷ []

-- `syntax` or `image`
abbrev pub attribute : Reading Attribute
attribute = worded attribute_words (λ make at. given (make at))

-- a name, and behind a dot the attribute, where there is one
abbrev pub argument : Reading Arg
argument = made (λ (x, a). record { name = x; attribute = a }) (name >>> optional (codes ".") attribute)

-- `( STRING , arg , arg )`, behind `format`
abbrev pub format : ℕ → Reading Template
format at = made (λ (p, (q, (args, r))). templates.Format at p q args r) (sign (codes "(") >>> (string >>> (further (codes ",") argument >>> sign (codes ")"))))

-- `. attribute`, behind a name
abbrev pub part : Name → Reading Template
part x = made (λ (dot, a). templates.Part x dot a) (sign (codes ".") >>> attribute)

-- a string, the attribute of a part, or `format`
abbrev pub template : Reading Template
template n [] = Stuck []
template n (Symbol.Fixed at text ∷ ss) = worded ((codes "format", format) ∷ []) (λ behind_format at. behind_format at) n (Symbol.Fixed at text ∷ ss)
template n (Symbol.Named at text ∷ ss) = part (record { at = at; text = text }) n ss
template n (Symbol.Number at value ∷ ss) = Stuck (Symbol.Number at value ∷ ss)
template n (Symbol.Quoted at text ∷ ss) = Found (templates.Plain (record { at = at; text = text })) ss

-- statements of an item's action, which stand two nodes below the item
abbrev pub stmts : Reading (List Stmt)
stmts = made stmts_of (λ n ss. statements n (depth_limit - 2) ss)

-- `= { stmts }` behind `action`, where there is one
abbrev pub action : Reading (Option Action)
action =
    made (option_map (λ (at, (eq, (p, (xs, q)))). record { action = at; equals = eq; opening = p; stmts = xs; closing = q }))
    (optional (codes "action") (sign (codes "=") >>> (sign (codes "{") >>> (stmts >>> sign (codes "}")))))

-- `syntax = text image = text`, and the action
abbrev pub attrs : Reading Attrs
attrs =
    made (λ (s, (eq, (x, (i, (eq2, (y, a)))))). record { syntax = s; syntax_equals = eq; syntax_text = x; image = i; image_equals = eq2; image_text = y; action = a })
    (sign (codes "syntax") >>> (sign (codes "=") >>> (template >>> (sign (codes "image") >>> (sign (codes "=") >>> (template >>> action))))))

-- ---- parameters

-- `NAME : type`
abbrev pub par : Reading Par
par = made (λ (x, (c, t)). record { name = x; colon = c; ty = t }) (name >>> (sign (codes ":") >>> type_read))

-- a parameter, and others behind commas
abbrev pub some_pars : Reading Pars
some_pars = made (λ (p, ps). record { first = p; rest = ps }) (par >>> further (codes ",") par)

-- the last is what stands behind a closing parenthesis, if that is next: then there are none
abbrev pub pars_from : ℕ → List Symbol → Option (ℕ × List Symbol) → Read (Option Pars)
pars_from n ss None = made Some some_pars n ss
pars_from n ss (Some (q, rest)) = Found None ss

-- the parameters, if there are some
abbrev pub pars : Reading (Option Pars)
pars n ss = pars_from n ss (behind (codes ")") ss)

-- ---- items

-- what an item begins with
pub data Opening : Type 0 where
  Letting : Opening
  Typing : Opening
  Storing : (ℕ → StorageWord) → Opening
  Porting : (ℕ → PortWord) → Opening
  Operation : Opening
  Moding : Opening

-- the keywords
abbrev pub openings : List (List ℕ × Opening)
openings =
    (codes "let", Letting) ∷ (codes "type", Typing) ∷ (codes "mem", Storing storage_words.Mem) ∷ (codes "reg", Storing storage_words.Reg)
    ∷ (codes "trn", Porting port_words.Trn) ∷ (codes "inp", Porting port_words.Inp) ∷ (codes "out", Porting port_words.Out)
    ∷ (codes "op", Operation) ∷ (codes "mode", Moding) ∷ []

-- the last is what stands behind a minus, if that is next
abbrev pub minus_from : List Symbol → Option (ℕ × List Symbol) → Read (Option ℕ)
minus_from ss None = Found None ss
minus_from ss (Some (at, rest)) = Found (Some at) rest

-- `-`, or nothing
abbrev pub minus : Reading (Option ℕ)
minus n ss = minus_from ss (behind (codes "-") ss)

-- `NAME = number`, behind `let`
abbrev pub let_item : ℕ → Reading Item
let_item at = made (λ (x, (eq, (m, z))). items.Let at x eq m z) (name >>> (sign (codes "=") >>> (minus >>> number)))

-- `NAME = type`, behind `type`
abbrev pub type_item : ℕ → Reading Item
type_item at = made (λ (x, (eq, t)). items.Type at x eq t) (name >>> (sign (codes "=") >>> type_read))

-- `NAME [ size , type ]`, behind its word
abbrev pub storage : StorageWord → Reading Item
storage word =
    made (λ (x, (p, (m, (c, (t, q))))). items.Storage (record { word = word; name = x; opening = p; size = m; comma = c; ty = t; closing = q }))
    (name >>> (sign (codes "[") >>> (size >>> (sign (codes ",") >>> (type_read >>> sign (codes "]"))))))

-- `NAME [ type ]`, behind its word
abbrev pub port : PortWord → Reading Item
port word =
    made (λ (x, (p, (t, q))). items.Port (record { word = word; name = x; opening = p; ty = t; closing = q }))
    (name >>> (sign (codes "[") >>> (type_read >>> sign (codes "]"))))

-- the alternatives, behind `=`
abbrev pub or_rule : RuleWord → Name → ℕ → Reading Item
or_rule word x eq =
    made (λ (y, ys). items.OrRule (record { word = word; name = x; equals = eq; first = y; rest = ys })) (name >>> further (codes "|") name)

-- `( pars ) attrs`, behind the name
abbrev pub op_rule : ℕ → Name → Reading Item
op_rule at x =
    made (λ (p, (ps, (q, a))). items.OpRule (record { op = at; name = x; opening = p; pars = ps; closing = q; attrs = a }))
    (sign (codes "(") >>> (pars >>> (sign (codes ")") >>> attrs)))

-- the value of a mode, which stands one node below the item
abbrev pub value : Reading Expr
value = made expr_of (λ n ss. climb n 0 (depth_limit - 1) ss)

-- `( pars ) = e attrs`, behind the name
abbrev pub mode_rule : ℕ → Name → Reading Item
mode_rule at x =
    made (λ (p, (ps, (q, (eq, (e, a))))). items.ModeRule (record { mode = at; name = x; opening = p; pars = ps; closing = q; equals = eq; value = e; attrs = a }))
    (sign (codes "(") >>> (pars >>> (sign (codes ")") >>> (sign (codes "=") >>> (value >>> attrs)))))

-- alternatives if `=` is next, else a rule with parameters: the last is what stands behind `=`
abbrev pub rule_from : RuleWord → Reading Item → Name → ℕ → List Symbol → Option (ℕ × List Symbol) → Read Item
rule_from word composed x n ss None = composed n ss
rule_from word composed x n ss (Some (eq, rest)) = or_rule word x eq n rest

-- a rule behind its word
abbrev pub rule : RuleWord → (Name → Reading Item) → Reading Item
rule word composed n ss = read_on (name n ss) (λ x s. rule_from word (composed x) x n s (behind (codes "=") s))

-- what stands behind each keyword
abbrev pub behind_opening : Opening → ℕ → Reading Item
behind_opening Letting at = let_item at
behind_opening Typing at = type_item at
behind_opening (Storing word) at = storage (word at)
behind_opening (Porting word) at = port (word at)
behind_opening Operation at = rule (rule_words.Op at) (op_rule at)
behind_opening Moding at = rule (rule_words.Mode at) (mode_rule at)

-- an item
abbrev pub item : Reading Item
item = worded openings behind_opening

-- items one behind the other, to the end
abbrev pub item_list : Reading (List Item)
item_list = to_end item
