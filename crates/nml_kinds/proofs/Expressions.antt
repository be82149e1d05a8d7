-- An expression that is noted, as an operand, an index or what is assigned.
use Rattle.std.proofs.Common.{ℕ, Bool, List, ◌++◌, ◌≡◌, refl, ap, sym, ◌∙◌, Option}
use Rattle.nml_tree.specs.declared.names.Name.{Name}
use Rattle.nml_tree.specs.Formula.{Formula}
use Rattle.nml_tree.specs.Block.{Index}
use Rattle.nml_tree.specs.Inside.{start, inside}
use Rattle.nml_tree.specs.Places.{when}
use Rattle.nml_tree.specs.TypeFault.{places_inside, operand_places}
use Rattle.nml_tree.specs.Worth as worth
use Rattle.nml_tree.specs.Worth.{Scope, is_other}
use Rattle.nml_names.specs.Note.{noted}
use Rattle.nml_names.proofs.Notes.{noted_append}
use Rattle.nml_worth.specs.declared.worth.Worth.{Worth}
use Rattle.nml_worth.specs.Shown.{seen_kind, shown}
use Rattle.nml_kinds.specs.Statements.{operand_kinds, assigned_kinds, index_kinds, name_kinds}
use Rattle.nml_kinds.proofs.KindLaws.{seen_shown}

-- a told worth has the worth's kind
kind_of : (x : worth.Worth) (w : Worth) → w ≡ shown x → seen_kind w.kind ≡ x.kind
kind_of x w is = ap (λ y. seen_kind y.kind) is ∙ seen_shown x.kind

pub operand_noted : (s : Scope) (k : worth.Kind) (f : Formula) (w : Worth) (at : ℕ) (bad : Bool) (a b r : Option ℕ)
    → w ≡ shown (worth.worth s f) → at ≡ start f → b ≡ noted a (places_inside s (inside f)) → bad ≡ is_other (seen_kind w.kind) k → r ≡ noted b (when bad at)
    → r ≡ noted a (operand_kinds s k f)
operand_noted s k f w at bad a b r told begins inner test outer =
    let same : bad ≡ is_other (worth.worth s f).kind k = test ∙ ap (λ x. is_other x k) (kind_of (worth.worth s f) w told) in
    outer ∙ rw (same, begins, inner) (sym (noted_append a (places_inside s (inside f)) (operand_places s k f)))

pub assigned_noted : (s : Scope) (n : Name) (i : Index) (f : Formula) (w : Worth) (a b d r : Option ℕ)
    → w ≡ shown (worth.worth s f) → b ≡ noted a (index_kinds s i) → d ≡ noted b (places_inside s (inside f)) → r ≡ noted d (name_kinds s n i (seen_kind w.kind))
    → r ≡ noted a (assigned_kinds s n i f)
assigned_noted s n i f w a b d r told first second third =
    third ∙ rw (kind_of (worth.worth s f) w told, second, first)
    (sym (noted_append a (index_kinds s i ++ places_inside s (inside f)) (name_kinds s n i (worth.worth s f).kind) ∙ ap (λ x. noted x (name_kinds s n i (worth.worth s f).kind)) (noted_append a (index_kinds s i) (places_inside s (inside f)))))

pub two_noted : (xs ys : List ℕ) (a b r : Option ℕ) → b ≡ noted a xs → r ≡ noted b ys → r ≡ noted a (xs ++ ys)
two_noted xs ys a b r first second = second ∙ ap (λ x. noted x ys) first ∙ sym (noted_append a xs ys)
