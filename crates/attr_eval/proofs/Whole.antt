-- What a typed description gives its derivations: a limit, types of fields, words of at most 64 bits.
use Rattle.std.proofs.Common.{ℕ, zero, suc, ◌+◌, ◌≤◌, ◌<◌, List, [], ◌∷◌, ◌++◌, ◌≡◌, ℤ, length, arith, refl, sym, ◌∙◌, ap, subst, append-nil, ◌⊎◌, inl, inr}
use Rattle.std.specs.Prelude.{codes}
use Rattle.nml_tree.specs.declared.tree.Item.{Item}
use Rattle.nml_tree.specs.declared.tree.Desc.{Desc}
use Rattle.nml_tree.specs.Table.{Text, Table, Declared, table, entries, entry}
use Rattle.nml_tree.specs.Derivation.{Derivation, Arguments, Pick, Compose, NoMore, Part, Field, picks, fields}
use Rattle.nml_tree.specs.Image.{image}
use Rattle.nml_tree.specs.Refused.{IsTyped, IsFreeBelow, By_cycle, By_word}
use Rattle.nml_tree.specs.Valid.{IsRoot, WordFault}
use Rattle.nml_tree.specs.Walk.{IsWalkOf}
use Rattle.nml_tree.proofs.WalkLaws as laws
use Rattle.nml_tree.proofs.Height.{height_within}
use Rattle.nml_widths.proofs.ModeFits.{ParRight}
use Rattle.nml_widths.proofs.WidthLaws.{is_sound}
use Rattle.attr_eval.specs.Walks.{Walks, RulesRight, height, height_of}

mutual
  same_height : (d : Derivation) → height d ≡ laws.height d
  same_height (Pick n d) = ap (λ k. 1 + k) (same_height d)
  same_height (Compose rule args) = ap (λ k. 1 + k) (same_height_of args)

  same_height_of : (a : Arguments) → height_of a ≡ laws.height_of a
  same_height_of NoMore = refl
  same_height_of (Part name d args) = let e = same_height d in let f = same_height_of args in rw (e, f) refl
  same_height_of (Field name ty z args) = same_height_of args

length_push : (t : Table) (x : Text × Declared) → length (t ++ x ∷ []) ≡ length t + 1
length_push [] x = refl
length_push (y ∷ t) x = omega (arith, length_push t x)

entries_length : (items : List Item) (t : Table) → length (entries t items) ≡ length t + length items
entries_length [] t = omega arith
entries_length (i ∷ items) t = entries_length items (t ++ entry t i ∷ []) ∙ (let e = length_push t (entry t i) in omega (arith, e))

pub rules_right : (d : Desc) → IsFreeBelow 8 d → RulesRight (table d)
rules_right d free name rule h p ty among is = subst ParRight is (((is_sound d free).rules name rule h).fields p among)

le_or_lt : (a b : ℕ) → (a ≤ b) ⊎ (b < a)
le_or_lt zero b = inl (omega arith)
le_or_lt (suc a) zero = inr (omega arith)
le_or_lt (suc a) (suc b) = elim (le_or_lt a b) [ inl h ↦ inl (omega (arith, h)) | inr h ↦ inr (omega (arith, h)) ]

pub narrow_image : (d : Desc) → IsTyped d → (x : Derivation) → IsRoot (table d) x → length (image x) ≤ 64
narrow_image d typed x is =
    elim (le_or_lt (length (image x)) 64) [ inl low ↦ low | inr high ↦ absurd (typed 9 (omega arith) (By_word (codes "instruction") (WordFault.Wide x refl is high))) ]

pub walks_named : (d : Desc) → IsTyped d → (name : Text) (x : Derivation) (ps : List ℕ) (zs : List ℤ) → IsWalkOf (table d) name ps zs x → Walks (entries [] d.items) name (length d.items) x ps zs [] []
walks_named d typed name x ps zs w =
    let low = height_within (table d) (λ r f. typed 5 (omega arith) (By_cycle r f)) name x w.derivation in
    record {
      right = rules_right d (λ k less. typed k (omega (arith, less)));
      is = w.derivation;
      low = omega (arith, low, same_height x, entries_length d.items []);
      picks_are = sym w.picks ∙ sym (append-nil (picks x));
      fields_are = sym w.fields ∙ sym (append-nil (fields x));
    }

pub walks_whole : (d : Desc) → IsTyped d → (x : Derivation) (ps : List ℕ) (zs : List ℤ) → IsWalkOf (table d) (codes "instruction") ps zs x → Walks (entries [] d.items) (codes "instruction") (length d.items) x ps zs [] []
walks_whole d typed x ps zs w = walks_named d typed (codes "instruction") x ps zs w
