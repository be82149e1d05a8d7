-- Statements that may be read, and where they end.
use Rattle.std.specs.Prelude.{ℕ, suc, ◌≡◌, ◌≤◌, List, [], ◌∷◌, ◌++◌, Option, Some, None, codes}
use Rattle.c_tree.specs.declared.names.TypeWord.TheVariants as type_word
use Rattle.readings.specs.Symbol.{Symbol, fixed, beyond}
use Rattle.readings.specs.Readings.{Reading, made}
use Rattle.c_tree.specs.Formula.{Formula, Called, CalledWith}
use Rattle.c_tree.specs.Statement.{Declaration, Act, Assign, Step, Invoke, Opening, Acts, Declares, Statement, Braces, Empty, Simply, Break, Continue, Return, If, IfElse, While, Do, For, Body, Nothing, Declare, Then}
use Rattle.c_tree.specs.Level.{IsLeveledVariable, AreLeveledVariables, IsLeveledStatement, IsLeveledBody, ends_open}
use Rattle.c_tree.specs.Depth.{declaration_depth, statement_depth, body_depth}
use Rattle.c_tree.specs.Spell.{declaration_spelling, statement_spelling, body_spelling}
use Rattle.c_grammar.specs.Until.{OpenEnds, until}

-- a call
abbrev pub IsCall : Formula → Type 0
IsCall (Called n p q) = Unit {0}
IsCall (CalledWith n p x xs q) = Unit {0}
IsCall _ = ⊥

-- of expressions only a call is a statement
abbrev pub IsWritten : Act → Type 0
IsWritten (Assign n i s e) = Unit {0}
IsWritten (Step n i c) = Unit {0}
IsWritten (Invoke x) = IsCall x

-- the same of the first part and of the last part of a `for`
abbrev pub IsWrittenOpening : Option Opening → Type 0
IsWrittenOpening None = Unit {0}
IsWrittenOpening (Some (Acts a)) = IsWritten a
IsWrittenOpening (Some (Declares w v)) = Unit {0}

abbrev pub IsWrittenLast : Option Act → Type 0
IsWrittenLast None = Unit {0}
IsWrittenLast (Some a) = IsWritten a

-- and of all statements in a statement
abbrev mutual
  pub IsWrittenStatement : Statement → Type 0
  IsWrittenStatement (Braces p b q) = IsWrittenBody b
  IsWrittenStatement (Empty semicolon) = Unit {0}
  IsWrittenStatement (Simply a semicolon) = IsWritten a
  IsWrittenStatement (Break at semicolon) = Unit {0}
  IsWrittenStatement (Continue at semicolon) = Unit {0}
  IsWrittenStatement (Return at e semicolon) = Unit {0}
  IsWrittenStatement (If at p c q x) = IsWrittenStatement x
  IsWrittenStatement (IfElse at p c q x f y) = IsWrittenStatement x × IsWrittenStatement y
  IsWrittenStatement (While at p c q x) = IsWrittenStatement x
  IsWrittenStatement (Do at x w p c q semicolon) = IsWrittenStatement x
  IsWrittenStatement (For at p first a c b last q x) = IsWrittenOpening first × IsWrittenLast last × IsWrittenStatement x

  pub IsWrittenBody : Body → Type 0
  IsWrittenBody Nothing = Unit {0}
  IsWrittenBody (Declare d rest) = IsWrittenBody rest
  IsWrittenBody (Then s rest) = IsWrittenStatement s × IsWrittenBody rest

-- a statement of at most this depth whose operators and `else`s stand where they belong
pub record IsGoodStatement (room : ℕ) (s : Statement) : Type 0 where
  pub written : IsWrittenStatement s
  pub leveled : IsLeveledStatement s
  pub shallow : statement_depth s ≤ room

-- behind a statement that ends with an `if` without `else` no `else` is next
abbrev pub IsStatementEnd : Statement → List Symbol → Type 0
IsStatementEnd = OpenEnds ends_open (codes "else")

-- ---- what stands in a block

-- a declaration or a statement
pub data BodyPart : Type 0 where
  Declaring : Declaration → BodyPart
  Stating : Statement → BodyPart

-- the parts one after the other
abbrev pub body_of : List BodyPart → Body
body_of [] = Nothing
body_of (Declaring d ∷ ps) = Declare d (body_of ps)
body_of (Stating s ∷ ps) = Then s (body_of ps)

abbrev pub part_spelling : BodyPart → List Symbol
part_spelling (Declaring d) = declaration_spelling d
part_spelling (Stating s) = statement_spelling s

-- a declaration of at most this depth whose operators stand where they belong
pub record IsGoodDeclaration (room : ℕ) (d : Declaration) : Type 0 where
  pub first : IsLeveledVariable d.first
  pub rest : AreLeveledVariables d.rest
  pub shallow : declaration_depth d ≤ room

-- one behind the word `int` at this place, whose initial values are of at most this depth, and its symbols behind that word
pub record IsDeclarationOf (room at : ℕ) (d : Declaration) : Type 0 where
  pub good : IsGoodDeclaration (suc (suc room)) d
  pub word : d.word ≡ type_word.Int at

abbrev pub inside_declaration : Declaration → List Symbol
inside_declaration d = beyond (declaration_spelling d)

abbrev pub IsGoodPart : ℕ → BodyPart → Type 0
IsGoodPart room (Declaring d) = IsGoodDeclaration room d
IsGoodPart room (Stating s) = IsGoodStatement room s

abbrev pub IsPartEnd : BodyPart → List Symbol → Type 0
IsPartEnd (Declaring d) r = Unit {0}
IsPartEnd (Stating s) r = IsStatementEnd s r

-- what stands between the braces of a block, each part of which is of at most this depth, and the second brace
pub record IsGoodBody (room : ℕ) (b : Body × ℕ) : Type 0 where
  pub written : IsWrittenBody b.0
  pub leveled : IsLeveledBody b.0
  pub shallow : body_depth b.0 ≤ room

abbrev pub closed_spelling : Body × ℕ → List Symbol
closed_spelling (b, q) = body_spelling b ++ fixed q (codes "}")

-- the parts of a block up to its second brace, by the reading of one
abbrev pub closed_body : Reading BodyPart → Reading (Body × ℕ)
closed_body reads = made (λ (ps, q). (body_of ps, q)) (until (codes "}") reads)
