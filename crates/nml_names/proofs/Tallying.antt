-- Names that are counted up to two.
use Rattle.std.proofs.Common.{◌≡◌, List, [], ◌∷◌, ◌++◌, refl, Bool, true}
use Rattle.nml_tree.specs.declared.names.Name.{Name}
use Rattle.nml_tree.specs.declared.attributes.Attrs.{Attrs}
use Rattle.nml_tree.specs.Block.{action_block}
use Rattle.nml_tree.specs.Table.{Text}
use Rattle.nml_tree.specs.Uses.{in_text}
use Rattle.nml_names.specs.declared.linear.Named.{Named}
use Rattle.nml_names.specs.Tallies.{Seen, seen, nothing, add, tally, part_names, are_linear, attrs_linear, named_linear, first_other}

pub tally_append : (s : Seen) (xs ys : List Name) → tally s (xs ++ ys) ≡ tally (tally s xs) ys
tally_append s [] ys = refl
tally_append s (n ∷ xs) ys = tally_append (add s n.text) xs ys

-- a parameter that passes isn't the first that fails
pub skip_first : (test : Text → Bool) (p : Name) (ps : List Name) → test p.text ≡ true → first_other test ps ≡ first_other test (p ∷ ps)
skip_first test p ps e = rw e refl

pub same_tests : (n : Named) (a : Attrs) → seen n.syntax ≡ tally nothing (in_text a.syntax_text) → seen n.image ≡ tally nothing (in_text a.image_text)
    → seen n.action ≡ tally nothing (part_names (action_block a.action)) → named_linear n ≡ attrs_linear a
same_tests n a s i b = λ j p. are_linear (s j) (i j) (b j) p
