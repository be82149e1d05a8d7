-- Where functions or their frames are at an end, no more arrays and no more statements stand behind.
use Rattle.std.proofs.Common.{◌≡◌, refl, sym, subst, ◌∙◌, ap, suc, ◌+◌, List, [], ◌∷◌, ◌++◌, arith, length, map}
use Rattle.std.proofs.lemmas.List.{append-nil, append_assoc}
use Rattle.ir_run.specs.Entry.{Entry}
use Rattle.c_tree.specs.Program.{Function, sizes}
use Rattle.c_tree.specs.Code.{Frame, Layout}
use Rattle.c_tree.specs.Lowered.{Returns, arrays_of_functions, function_steps}
use Rattle.c_lower.specs.Steps.{based, steps_of_others}

-- one of two lists is at its end
pub data OneEnded {A B : Type 0} (xs : List A) (ys : List B) : Type 0 where
  First : xs ≡ [] → OneEnded xs ys
  Second : ys ≡ [] → OneEnded xs ys

pub no_more : {A : Type 0} (xs : List A) → length xs ≡ 0 → xs ≡ []
no_more [] is = refl
no_more (x ∷ xs) is = let none : suc (length xs) ≡ 0 = is in absurd (omega (arith, none))

no_arrays_behind : (fs : List Function) → arrays_of_functions fs [] ≡ []
no_arrays_behind [] = refl
no_arrays_behind (f ∷ fs) = refl

pub arrays_ended : {A B : Type 0} (f : A → Function) (g : B → Frame) (xs : List A) (ys : List B) → OneEnded xs ys → arrays_of_functions (map f xs) (map g ys) ≡ []
arrays_ended f g xs ys (First is) = subst (λ l. arrays_of_functions (map f l) (map g ys) ≡ []) (sym is) refl
arrays_ended f g xs ys (Second is) = subst (λ l. arrays_of_functions (map f xs) (map g l) ≡ []) (sym is) (no_arrays_behind (map f xs))

no_steps_behind : (t : Layout) (fs : List Function) → steps_of_others t fs [] ≡ []
no_steps_behind t [] = refl
no_steps_behind t (f ∷ fs) = refl

pub steps_ended : {A B : Type 0} (t : Layout) (f : A → Function) (g : B → Frame) (xs : List A) (ys : List B) → OneEnded xs ys → steps_of_others t (map f xs) (map g ys) ≡ []
steps_ended t f g xs ys (First is) = subst (λ l. steps_of_others t (map f l) (map g ys) ≡ []) (sym is) refl
steps_ended t f g xs ys (Second is) = subst (λ l. steps_of_others t (map f xs) (map g l) ≡ []) (sym is) (no_steps_behind t (map f xs))

-- what is put behind others is all, where nothing is left
pub all_put : {A : Type 0} (out old rest whole : List A) → rest ≡ [] → out ++ rest ≡ old ++ whole → out ≡ old ++ whole
all_put out old rest whole none is = sym (append-nil out) ∙ subst (λ l. out ++ l ≡ old ++ whole) none is

-- one function and its frame before others
pub first_steps : (t : Layout) (f : Function) (g : Frame) (fs : List Function) (gs : List Frame) (old new behind : List Entry)
    → new ≡ old ++ steps_of_others t (f ∷ []) (g ∷ []) → old ++ steps_of_others t (f ∷ fs) (g ∷ gs) ≡ behind → new ++ steps_of_others t fs gs ≡ behind
first_steps t f g fs gs old new behind is whole =
    let one = function_steps (based t g.first) (Returns g.result g.ret) f (g.first + sizes f.variables) g.label in
    let same : new ≡ old ++ one = is ∙ ap (λ l. old ++ l) (append-nil one) in
    ap (λ l. l ++ steps_of_others t fs gs) same ∙ append_assoc old one (steps_of_others t fs gs) ∙ whole
