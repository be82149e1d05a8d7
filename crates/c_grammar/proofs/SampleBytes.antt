-- Bytes that are a program and bytes that are none, by computation.
use Rattle.std.specs.Prelude.{◌≤◌, List, refl, [], ◌∷◌, None, codes}
use Rattle.std.proofs.Common.{lit≤}
use Rattle.std.proofs.lemmas.List.Elements.{All-nil, All-cons}
use Rattle.c_tree.specs.declared.names.TypeWord.TheVariants as type_word
use Rattle.c_tree.specs.declared.program.GVar.TheVariants as gvar
use Rattle.c_tree.specs.declared.program.Global.TheVariants as global
use Rattle.c_tree.specs.Items.{Item, Variables}
use Rattle.c_tree.specs.Level.{IsLeveledItem}
use Rattle.c_tree.specs.Depth.{item_depth, depth_limit}
use Rattle.readings.specs.Symbol.{Symbol}
use Rattle.nml_lex.specs.Lexed.{Lexeme, Space, Word}
use Rattle.c_lex.specs.Lexed.{HasLexemes}
use Rattle.c_lex.specs.Sample.{word}
use Rattle.c_grammar.specs.ReadingStatements.{statement_read, block_body}
use Rattle.c_grammar.specs.Trees.{IsTree, HasNoTree, IsOutsideAt}
use Rattle.c_grammar.proofs.SomeReading.{read_none}

-- ---- `int x;` is a program

abbrev variable : Item
variable = Variables (record { word = type_word.Int 0; first = gvar.Scalar (record { at = 4; text = codes "x" }) None; rest = []; semicolon = 5 })

pub one_variable : IsTree (codes "int x;")
    (record { globals = global.Vars (record { word = type_word.Int 0; first = gvar.Scalar (record { at = 4; text = codes "x" }) None; rest = []; semicolon = 5 }) ∷ [] })
one_variable = record {
  tokens = record { at = 0; text = codes "int" } ∷ record { at = 4; text = codes "x" } ∷ record { at = 5; text = codes ";" } ∷ [];
  has = record {
    parts = Word (codes "int") ∷ Space (codes " ") ∷ Word (codes "x") ∷ Word (codes ";") ∷ [];
    left = [];
    begins = (_, refl, word refl refl refl, (_, refl, refl, (_, refl, word refl refl refl, (_, refl, word refl refl refl, refl))));
    ends = refl;
    is = refl;
  };
  spells = record {
    leveled = All-cons IsLeveledItem variable [] tt (All-nil IsLeveledItem);
    shallow = All-cons (λ g. item_depth g ≤ depth_limit) variable [] (lit≤ tt) (All-nil (λ g. item_depth g ≤ depth_limit));
    spelled = refl;
  };
}

-- ---- `void main(void){ out(1) } int x;` is none: a semicolon lacks before the brace at 24

abbrev unended : List Lexeme
unended =
    record { at = 0; text = codes "void" } ∷ record { at = 5; text = codes "main" } ∷ record { at = 9; text = codes "(" } ∷ record { at = 10; text = codes "void" }
    ∷ record { at = 14; text = codes ")" } ∷ record { at = 15; text = codes "{" } ∷ record { at = 17; text = codes "out" } ∷ record { at = 20; text = codes "(" }
    ∷ record { at = 21; text = codes "1" } ∷ record { at = 22; text = codes ")" } ∷ record { at = 24; text = codes "}" } ∷ record { at = 26; text = codes "int" }
    ∷ record { at = 30; text = codes "x" } ∷ record { at = 31; text = codes ";" } ∷ []

has_unended : HasLexemes (codes "void main(void){ out(1) } int x;") unended
has_unended = record {
  parts = Word (codes "void") ∷ Space (codes " ") ∷ Word (codes "main") ∷ Word (codes "(") ∷ Word (codes "void") ∷ Word (codes ")") ∷ Word (codes "{") ∷ Space (codes " ")
      ∷ Word (codes "out") ∷ Word (codes "(") ∷ Word (codes "1") ∷ Word (codes ")") ∷ Space (codes " ") ∷ Word (codes "}") ∷ Space (codes " ") ∷ Word (codes "int")
      ∷ Space (codes " ") ∷ Word (codes "x") ∷ Word (codes ";") ∷ [];
  left = [];
  begins = (_, refl, word refl refl refl, (_, refl, refl, (_, refl, word refl refl refl, (_, refl, word refl refl refl, (_, refl, word refl refl refl, (_, refl, word refl refl refl, (_, refl, word refl refl refl, (_, refl, refl, (_, refl, word refl refl refl, (_, refl, word refl refl refl, (_, refl, word refl refl refl, (_, refl, word refl refl refl, (_, refl, refl, (_, refl, word refl refl refl, (_, refl, refl, (_, refl, word refl refl refl, (_, refl, refl, (_, refl, word refl refl refl, (_, refl, word refl refl refl, refl)))))))))))))))))));
  ends = refl;
  is = refl;
}

pub no_semicolon : HasNoTree (codes "void main(void){ out(1) } int x;") 24
unfolding statement_read block_body
no_semicolon = read_none (codes "void main(void){ out(1) } int x;") unended (Symbol.Fixed 24 (codes "}") ∷ Symbol.Fixed 26 (codes "int") ∷ Symbol.Named 30 (codes "x") ∷ Symbol.Fixed 31 (codes ";") ∷ []) has_unended refl refl

-- ---- `void main(void){ int x; x = 6 / 2; }` has a mark that no program has, at 30

pub divided : IsOutsideAt (codes "void main(void){ int x; x = 6 / 2; }") 30
divided = record {
  tokens = record { at = 0; text = codes "void" } ∷ record { at = 5; text = codes "main" } ∷ record { at = 9; text = codes "(" }
      ∷ record { at = 10; text = codes "void" } ∷ record { at = 14; text = codes ")" } ∷ record { at = 15; text = codes "{" }
      ∷ record { at = 17; text = codes "int" } ∷ record { at = 21; text = codes "x" } ∷ record { at = 22; text = codes ";" }
      ∷ record { at = 24; text = codes "x" } ∷ record { at = 26; text = codes "=" } ∷ record { at = 28; text = codes "6" }
      ∷ record { at = 30; text = codes "/" } ∷ record { at = 32; text = codes "2" } ∷ record { at = 33; text = codes ";" }
      ∷ record { at = 35; text = codes "}" } ∷ [];
  has = record {
    parts = Word (codes "void") ∷ Space (codes " ") ∷ Word (codes "main") ∷ Word (codes "(") ∷ Word (codes "void") ∷ Word (codes ")") ∷ Word (codes "{")
        ∷ Space (codes " ") ∷ Word (codes "int") ∷ Space (codes " ") ∷ Word (codes "x") ∷ Word (codes ";") ∷ Space (codes " ")
        ∷ Word (codes "x") ∷ Space (codes " ") ∷ Word (codes "=") ∷ Space (codes " ") ∷ Word (codes "6") ∷ Space (codes " ")
        ∷ Word (codes "/") ∷ Space (codes " ") ∷ Word (codes "2") ∷ Word (codes ";") ∷ Space (codes " ") ∷ Word (codes "}") ∷ [];
    left = [];
    begins = (_, refl, word refl refl refl, (_, refl, refl, (_, refl, word refl refl refl, (_, refl, word refl refl refl, (_, refl, word refl refl refl, (_, refl, word refl refl refl, (_, refl, word refl refl refl, (_, refl, refl, (_, refl, word refl refl refl, (_, refl, refl, (_, refl, word refl refl refl, (_, refl, word refl refl refl, (_, refl, refl, (_, refl, word refl refl refl, (_, refl, refl, (_, refl, word refl refl refl, (_, refl, refl, (_, refl, word refl refl refl, (_, refl, refl, (_, refl, word refl refl refl, (_, refl, refl, (_, refl, word refl refl refl, (_, refl, word refl refl refl, (_, refl, refl, (_, refl, word refl refl refl, refl)))))))))))))))))))))))));
    ends = refl;
    is = refl;
  };
  others = [];
  first = refl;
}
