-- What some lists of symbols are read as: types, attributes and items.
use Rattle.std.specs.Prelude.{◌≡◌, refl, List, [], ◌∷◌, ◌++◌, None, codes}
use Rattle.readings.specs.Symbol.{Symbol, Fixed, Named, Number, Quoted}
use Rattle.readings.specs.Reading.{Found, Stuck}
use Rattle.nml_grammar.specs.ReadingItems.{type_read, template, item, item_list}
use Rattle.nml_grammar.specs.Trees.{symbol}
use Rattle.nml_tree.specs.declared.tree.Item.TheVariants as items
use Rattle.nml_tree.specs.declared.tree.Size.TheVariants as sizes
use Rattle.nml_tree.specs.declared.tree.TypeExpr.TheVariants as types
use Rattle.nml_tree.specs.declared.tree.StorageWord.TheVariants as storage_words
use Rattle.nml_tree.specs.declared.tree.RuleWord.TheVariants as rule_words
use Rattle.nml_tree.specs.declared.attributes.Attribute.TheVariants as attributes
use Rattle.nml_tree.specs.declared.attributes.Template.TheVariants as templates

-- `opn` is `op`, a name is no keyword, a number has its value, a string is without its quotes
pub words : symbol (record { at = 3; text = codes "opn" }) ≡ Fixed 3 (codes "op")
words = refl

pub names : symbol (record { at = 0; text = codes "opx" }) ≡ Named 0 (codes "opx")
names = refl

pub numbers : symbol (record { at = 0; text = codes "0x1F" }) ≡ Number 0 31
numbers = refl

pub strings : symbol (record { at = 7; text = 34 ∷ codes "a b" ++ 34 ∷ [] }) ≡ Quoted 7 (codes "a b")
strings = refl

pub marks : symbol (record { at = 9; text = codes "<<" }) ≡ Fixed 9 (codes "<<")
marks = refl

-- `reg PC [ 1 , card ( 4 ) ]`
abbrev pub register_symbols : List Symbol
register_symbols =
    Fixed 0 (codes "reg") ∷ Named 4 (codes "PC") ∷ Fixed 6 (codes "[") ∷ Number 7 1 ∷ Fixed 8 (codes ",") ∷ Fixed 10 (codes "card") ∷ Fixed 14 (codes "(")
    ∷ Number 15 4 ∷ Fixed 16 (codes ")") ∷ Fixed 17 (codes "]") ∷ []

pub register_read : item 1 register_symbols ≡ Found
    (items.Storage (record {
      word = storage_words.Reg 0;
      name = record { at = 4; text = codes "PC" };
      opening = 6;
      size = sizes.Number (record { at = 7; value = 1 });
      comma = 8;
      ty = types.Card 10 14 (sizes.Number (record { at = 15; value = 4 })) 16;
      closing = 17;
    })) []
register_read = refl

-- without its bracket it is stuck at the number
pub no_bracket : item_list 9 (Fixed 0 (codes "reg") ∷ Named 4 (codes "PC") ∷ Number 7 1 ∷ Fixed 8 (codes ",") ∷ []) ≡ Stuck (Number 7 1 ∷ Fixed 8 (codes ",") ∷ [])
no_bracket = refl

-- `op instruction = a | b`
pub alternatives_read : item_list 9
    (Fixed 0 (codes "op") ∷ Named 3 (codes "instruction") ∷ Fixed 15 (codes "=") ∷ Named 17 (codes "a") ∷ Fixed 19 (codes "|") ∷ Named 21 (codes "b") ∷ [])
    ≡ Found (items.OrRule (record {
      word = rule_words.Op 0;
      name = record { at = 3; text = codes "instruction" };
      equals = 15;
      first = record { at = 17; text = codes "a" };
      rest = (19, record { at = 21; text = codes "b" }) ∷ [];
    }) ∷ []) []
alternatives_read = refl

-- it ends too early without a name
pub no_alternative : item_list 9 (Fixed 0 (codes "op") ∷ Named 3 (codes "instruction") ∷ Fixed 15 (codes "=") ∷ []) ≡ Stuck []
no_alternative = refl

-- `op f ( ) syntax = "f" image = x . image` before another item has no action
pub attributes_read : item 9
    (Fixed 0 (codes "op") ∷ Named 3 (codes "f") ∷ Fixed 4 (codes "(") ∷ Fixed 5 (codes ")") ∷ Fixed 7 (codes "syntax") ∷ Fixed 14 (codes "=") ∷ Quoted 16 (codes "f")
    ∷ Fixed 20 (codes "image") ∷ Fixed 26 (codes "=") ∷ Named 28 (codes "x") ∷ Fixed 29 (codes ".") ∷ Fixed 30 (codes "image") ∷ Fixed 36 (codes "let") ∷ [])
    ≡ Found (items.OpRule (record {
      op = 0;
      name = record { at = 3; text = codes "f" };
      opening = 4;
      pars = None;
      closing = 5;
      attrs = record {
        syntax = 7;
        syntax_equals = 14;
        syntax_text = templates.Plain (record { at = 16; text = codes "f" });
        image = 20;
        image_equals = 26;
        image_text = templates.Part (record { at = 28; text = codes "x" }) 29 (attributes.Image 30);
        action = None;
      };
    })) (Fixed 36 (codes "let") ∷ [])
attributes_read = refl

-- `int ( ]` is stuck at the bracket, and a number is no type
pub no_size : type_read 1 (Fixed 0 (codes "int") ∷ Fixed 3 (codes "(") ∷ Fixed 4 (codes "]") ∷ []) ≡ Stuck (Fixed 4 (codes "]") ∷ [])
no_size = refl

pub no_type : type_read 1 (Number 0 8 ∷ []) ≡ Stuck (Number 0 8 ∷ [])
no_type = refl

-- `format ( "%d" , n , p . syntax ; `
pub no_comma : template 9 (Fixed 0 (codes "format") ∷ Fixed 6 (codes "(") ∷ Quoted 7 (codes "%d") ∷ Fixed 11 (codes ",") ∷ Named 12 (codes "n") ∷ Fixed 13 (codes ";") ∷ [])
    ≡ Stuck (Fixed 13 (codes ";") ∷ [])
no_comma = refl
