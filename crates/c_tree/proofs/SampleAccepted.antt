-- Which small programs are accepted with numbers of 16 bits, and why others aren't.
use Rattle.std.specs.Prelude.{refl, ℕ, List, [], ◌∷◌, Some, codes}
use Rattle.c_tree.specs.declared.names.TypeWord.TheVariants as type_word
use Rattle.c_tree.specs.declared.program.ResultWord.TheVariants as result_word
use Rattle.c_tree.specs.declared.program.Params.TheVariants as params
use Rattle.c_tree.specs.Formula.{Numeral, Named, Called, CalledWith, NoMore}
use Rattle.c_tree.specs.Statement.{Invoke, Simply, Return, If, Nothing, Then}
use Rattle.c_tree.specs.Items.{Item, Defines}
use mathlib.Core.Logic.{inl}
use Rattle.std.proofs.Common.{arith}
use Rattle.c_tree.specs.declared.fault.CFault.TheVariants as fault
use Rattle.c_tree.specs.Recursion.{Reaches, at_once, over, calls_of}
use Rattle.c_tree.specs.Accepted.{IsAccepted, IsFaultOf}
use Rattle.c_tree.specs.Texts.{name, num, array}

-- where no function but `main` is defined, none reaches itself
no_calls : (f : ℕ) → Reaches [] f f → ⊥
no_calls f (at_once e) = e
no_calls f (over e r) = e

-- void f(void){ f(); } void main(void){ }
abbrev pub itself : List Item
itself =
    Defines (record {
      result = (result_word.Void 0);
      name = (name 5 (codes "f"));
      opening = 6;
      params = (Some (params.Void 7));
      closing =
          11;
      braces = (12, (Then (Simply (Invoke (Called (name 14 (codes "f")) 15 16)) 17) Nothing), 19);
    }) ∷ Defines (record {
      result =
          (result_word.Void 21);
      name = (name 26 (codes "main"));
      opening = 30;
      params = (Some (params.Void 31));
      closing = 35;
      braces = (
        36,
        Nothing,
        38,
      );
    }) ∷ []

itself_recurs : IsFaultOf itself 16 (fault.Recursion (codes "f"))
itself_recurs = (
  refl,
  record {
    number = 0;
    function = _;
    is = refl;
    named = refl;
    recursive = at_once (inl refl);
    first = λ f r. omega arith;
  },
)

-- int g(int a){ return 1; } int f(int a){ return h(a); } int h(int a){ if (a) return f(g(a)); return 0; } void main(void){ }
abbrev pub each_other : List Item
each_other =
    Defines (record {
      result = (result_word.Type (type_word.Int 0));
      name = (name 4 (codes "g"));
      opening = 5;
      params = (Some (params.Named
          (record { word = (type_word.Int 6); name = (name 10 (codes "a")) }) []));
      closing = 11;
      braces = (
        12,
        (Then (Return 14 (Some (Numeral
            (num 21 1))) 22) Nothing),
        24,
      );
    }) ∷ Defines (record {
      result = (result_word.Type (type_word.Int 26));
      name = (name 30 (codes "f"));
      opening = 31;
      params = (Some (params.Named (record { word = (type_word.Int 32); name = (name 36 (codes "a")) }) []));
      closing = 37;
      braces = (38, (Then (Return 40 (Some (CalledWith (name 47 (codes "h")) 48 (Named (name 49 (codes "a"))) NoMore 50)) 51) Nothing), 53);
    })
    ∷ Defines (record {
      result = (result_word.Type (type_word.Int 55));
      name = (name 59 (codes "h"));
      opening = 60;
      params = (Some
          (params.Named (record { word = (type_word.Int 61); name = (name 65 (codes "a")) }) []));
      closing = 66;
      braces = (
        67,
        (Then (If 69 72
            (Named (name 73 (codes "a"))) 74 (Return 76 (Some (CalledWith (name 83 (codes "f")) 84 (CalledWith (name 85 (codes "g")) 86 (Named (name
            87 (codes "a"))) NoMore 88) NoMore 89)) 90)) (Then (Return 92 (Some (Numeral (num 99 0))) 100) Nothing)),
        102,
      );
    }) ∷ Defines (record {
      result = (result_word.Void 104);
      name = (name 109 (codes "main"));
      opening = 113;
      params = (Some (params.Void 114));
      closing = 118;
      braces = (119, Nothing, 121);
    }) ∷ []

-- f calls h, and h calls f; g, which stands before, reaches nothing
each_other_recurs : Reaches (calls_of each_other) 1 1
each_other_recurs = over {b = 2} (inl refl) (at_once (inl refl))

array_accepted : IsAccepted array 16
array_accepted = record { faultless = refl; acyclic = no_calls; main = (_, refl, refl) }

-- an empty text has no `main`
empty_has_no_main : IsFaultOf [] 16 fault.Main
empty_has_no_main = (refl, no_calls, inl refl)
