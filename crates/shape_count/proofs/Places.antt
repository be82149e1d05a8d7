-- What a map gives after a name is put into it.
use Rattle.std.proofs.Common.{◌≡◌, ℕ, ◌+◌, ◌<◌, Bool, true, false, cond, List, [], ◌∷◌, map, get_or, drop, length, Some, refl, sym, ◌∙◌, true≢false}
use Rattle.std.specs.Map.{lookup}
use Rattle.indexmap.specs.IndexMap.{insert_entry}
use Rattle.nk_base.specs.Text.{text_eq}
use Rattle.nml_tree.specs.declared.tree.Par.{Par}
use Rattle.nml_tree.specs.Table.{Text}
use Rattle.nml_tree.proofs.SameText.{same_text, equal_text, turned}
use Rattle.nml_tree.proofs.Drops.{dropped}
use Rattle.nml_tree.specs.declared.tree.Desc.{Desc}
use Rattle.nml_tree.specs.Table.{table, declared}
use Rattle.shape_count.specs.Sizes.{finds, found_at}
use Rattle.shape_count.specs.Weights.{AreGiven, numbered, par_names}

-- a name that is put into a map, and the others
after_put : {V : Type 0} (k : Text) (v : V) (q : Text) (es : List (Text × V)) → lookup (text_eq q) (insert_entry text_eq es k v) ≡ cond (text_eq k q) (Some v) (lookup (text_eq q) es)
after_put k v q [] = rw (turned q k) refl
after_put {V} k v q (e ∷ es) = by (text_eq k e.0) (text_eq q e.0) (text_eq k q) refl refl refl (after_put k v q es)
  where
    put : Bool → List (Text × V)
    put b = cond b ((e.0, v) ∷ es) (e ∷ insert_entry text_eq es k v)

    by : (x y z : Bool) → text_eq k e.0 ≡ x → text_eq q e.0 ≡ y → text_eq k q ≡ z → lookup (text_eq q) (insert_entry text_eq es k v) ≡ cond (text_eq k q) (Some v) (lookup (text_eq q) es)
        → lookup (text_eq q) (put (text_eq k e.0)) ≡ cond (text_eq k q) (Some v) (cond (text_eq q e.0) (Some e.1) (lookup (text_eq q) es))
    by true true true ex ey ez h = rw (ex, ey, ez) refl
    by true true false ex ey ez h = absurd (true≢false (sym (equal_text k q (same_text k e.0 ex ∙ sym (same_text q e.0 ey))) ∙ ez))
    by true false true ex ey ez h = absurd (true≢false (sym (equal_text q e.0 (sym (same_text k q ez) ∙ same_text k e.0 ex)) ∙ ey))
    by true false false ex ey ez h = rw (ex, ey, ez) refl
    by false true true ex ey ez h = absurd (true≢false (sym (equal_text k e.0 (same_text k q ez ∙ same_text q e.0 ey)) ∙ ex))
    by false true false ex ey ez h = rw (ex, ey, ez) refl
    by false false true ex ey ez h = rw (ex, ey, ez, h, ez) refl
    by false false false ex ey ez h = rw (ex, ey, ez, h, ez) refl

pub put_given : (es : List (Text × ℕ)) (k : Text) (v : ℕ) (rest : List (Text × ℕ)) → AreGiven es rest → AreGiven (insert_entry text_eq es k v) ((k, v) ∷ rest)
put_given es k v rest h = λ q. after_put k v q es ∙ rw (h q, turned k q) refl

-- the parameters from a place on
pub next_given : (rest : List (ℕ × Par)) (next i : ℕ) (p : ℕ × Par) (es new : List (Text × ℕ)) → next ≡ i + 1 → i < length rest → p ≡ get_or rest i p
    → AreGiven es (numbered (next + 1) (par_names (map (λ (comma, p). p) (drop next rest)))) → ((more : List (Text × ℕ)) → AreGiven es more → AreGiven new ((p.1.name.text, i + 1) ∷ more))
    → AreGiven new (numbered (i + 1) (par_names (map (λ (comma, p). p) (drop i rest))))
next_given rest next i p es new up low is before put = rw (dropped rest i p low is) (put (numbered (i + 1 + 1) (par_names (map (λ (comma, p). p) (drop (i + 1) rest)))) (rw (← up) before))

-- and the first before them
pub first_given : (first : Par) (rest slice : List (ℕ × Par)) (es new : List (Text × ℕ)) → slice ≡ rest → AreGiven es (numbered 1 (par_names (map (λ (comma, p). p) slice))) → ((more : List (Text × ℕ)) → AreGiven es more → AreGiven new ((first.name.text, 0) ∷ more))
    → AreGiven new (numbered 0 (par_names (first ∷ map (λ (comma, p). p) rest)))
first_given first rest slice es new is before put = put (numbered 1 (par_names (map (λ (comma, p). p) rest))) (rw (← is) before)

-- the same names by a map
pub same_finds : (d : Desc) (es given : List (Text × ℕ)) → AreGiven es given → finds d es ≡ finds d given
same_finds d es given h = λ j q. found_at (h q j) (declared (table d) q)
