-- `main` and the others among functions, one function more at a time.
use Rattle.std.proofs.Common.{◌≡◌, refl, sym, ap, ◌∙◌, Bool, true, false, not, List, [], ◌∷◌, ◌++◌, append-nil, map, filter, Option, Some, None, slice_get, if◌then◌else◌}
use Rattle.std.proofs.lemmas.List.{map-append}
use Rattle.std.proofs.lemmas.List.Elements.{filter-append}
use Rattle.std.specs.Option.{is_some}
use Rattle.c_flat.specs.declared.function.Body.{Body}
use Rattle.c_shapes.specs.declared.functions.Declared.{Declared}
use Rattle.c_plan.specs.declared.routine.Routine.{Routine}
use Rattle.c_plan.specs.Paired.{paired, is_main, is_other}

abbrev Pair : Type 0
Pair = Declared × Body

-- of these functions one is `main` and these are the others
pub record Chosen (ps : List Pair) (main : Option Routine) (others : List Routine) : Type 0 where
  pub first : main ≡ slice_get (map paired (filter is_main ps)) 0
  pub behind : others ≡ map paired (filter is_other ps)

-- those of one function more
filter_more : (test : Pair → Bool) (ps : List Pair) (p : Pair) (b : Bool) → test p ≡ b → map paired (filter test (ps ++ p ∷ [])) ≡ map paired (filter test ps) ++ map paired (if b then p ∷ [] else [])
filter_more test ps p b is =
    ap (λ xs. map paired xs) (filter-append test ps (p ∷ []) ∙ ap (λ c. filter test ps ++ (if c then p ∷ [] else [])) is)
    ∙ map-append paired (filter test ps) (if b then p ∷ [] else [])

-- the first of a list that goes on
first_stays : (xs ys : List Routine) (x : Routine) → slice_get xs 0 ≡ Some x → slice_get (xs ++ ys) 0 ≡ Some x
first_stays [] ys x is = absurd (cc)
first_stays (y ∷ xs) ys x is = is

first_comes : (xs : List Routine) (y : Routine) → slice_get xs 0 ≡ None → slice_get (xs ++ y ∷ []) 0 ≡ Some y
first_comes [] y is = refl
first_comes (x ∷ xs) y is = absurd (cc)

others_stay : (ps : List Pair) (p : Pair) → is_main p ≡ true → map paired (filter is_other ps) ≡ map paired (filter is_other (ps ++ p ∷ []))
others_stay ps p is = sym (filter_more is_other ps p false (ap not is) ∙ append-nil (map paired (filter is_other ps)))

is_main_from_not : (b : Bool) → not b ≡ false → b ≡ true
is_main_from_not true is = refl
is_main_from_not false is = absurd (cc)

pub chosen_main : (ps : List Pair) (p : Pair) (main : Option Routine) (others : List Routine) → not (is_main p) ≡ false → is_some main ≡ false → Chosen ps main others → Chosen (ps ++ p ∷ []) (Some (paired p)) others
chosen_main ps p (Some m) others is none c = absurd (cc)
chosen_main ps p None others is none c =
    let it = is_main_from_not (is_main p) is in
    record {
      first = sym (ap (λ xs. slice_get xs 0) (filter_more is_main ps p true it) ∙ first_comes (map paired (filter is_main ps)) (paired p) (sym c.first));
      behind = c.behind ∙ others_stay ps p it;
    }

pub chosen_further : (ps : List Pair) (p : Pair) (main : Option Routine) (others : List Routine) → not (is_main p) ≡ false → is_some main ≡ true → Chosen ps main others → Chosen (ps ++ p ∷ []) main others
chosen_further ps p None others is some c = absurd (cc)
chosen_further ps p (Some m) others is some c =
    let it = is_main_from_not (is_main p) is in
    record {
      first = sym (ap (λ xs. slice_get xs 0) (filter_more is_main ps p true it) ∙ first_stays (map paired (filter is_main ps)) (paired p ∷ []) m (sym c.first));
      behind = c.behind ∙ others_stay ps p it;
    }

-- pairs made of their parts are the same pairs
pub pairs_same : (ps : List Pair) → map (λ (p : Pair). (p.0, p.1)) ps ≡ ps
pairs_same [] = refl
pairs_same (p ∷ ps) = ap (λ qs. p ∷ qs) (pairs_same ps)
