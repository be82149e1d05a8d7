-- Bytes that are a description, by computation; proofs/SampleBytes shows bytes that are none.
use Rattle.std.specs.Prelude.{◌≤◌, refl, [], ◌∷◌, None, codes}
use Rattle.std.proofs.Common.{lit≤}
use Rattle.std.proofs.lemmas.List.Elements.{All-nil, All-cons}
use Rattle.nml_tree.specs.declared.tree.Item.{Item}
use Rattle.nml_tree.specs.declared.tree.Item.TheVariants as items
use Rattle.nml_tree.specs.Level.{IsLeveledItem}
use Rattle.nml_tree.specs.Depth.{item_depth, depth_limit}
use Rattle.nml_lex.specs.Lexed.{Space, Word}
use Rattle.nml_lex.specs.Sample.{word}
use Rattle.nml_grammar.specs.Trees.{IsTree}

-- ---- `let A=5` is a description

-- its item
abbrev constant : Item
constant = items.Let 0 (record { at = 4; text = codes "A" }) 5 None (record { at = 6; value = 5 })

pub constant_is : IsTree (codes "let A=5") (record { items = constant ∷ [] })
constant_is = record {
  tokens = record { at = 0; text = codes "let" } ∷ record { at = 4; text = codes "A" } ∷ record { at = 5; text = codes "=" } ∷ record { at = 6; text = codes "5" } ∷ [];
  has = record {
    parts = Word (codes "let") ∷ Space (codes " ") ∷ Word (codes "A") ∷ Word (codes "=") ∷ Word (codes "5") ∷ [];
    left = [];
    begins = (_, refl, word refl refl refl, (_, refl, refl, (_, refl, word refl refl refl, (_, refl, word refl refl refl, (_, refl, word refl refl refl, refl)))));
    ends = refl;
    is = refl;
  };
  spells = record {
    leveled = All-cons IsLeveledItem constant [] tt (All-nil IsLeveledItem);
    shallow = All-cons (λ i. item_depth i ≤ depth_limit) constant [] (lit≤ tt) (All-nil (λ i. item_depth i ≤ depth_limit));
    spelled = refl;
  };
}
