-- The cells of programs for numbers of 16 bits, counted on their terms and commands, each by computation.
use Rattle.std.specs.Prelude.{◌≡◌, refl, true, false, [], ◌∷◌, Some, None, codes}
use Rattle.ir_core.specs.declared.operator.Arith.TheVariants as operator
use Rattle.c_tree.specs.Resolve.{resolved_items}
use Rattle.c_tree.specs.Program.{Program, Number, Call, Arithmetic, NoMore, More, Skip, Turn, Return}
use Rattle.c_tree.specs.Texts.{name, array, filter, saved, short_cut, one_tree, two_products, great, greater, demo_3, longest_array}
use Rattle.c_tree.specs.Counts.{data_of}
use Rattle.c_counted.specs.Total.{counted}

array_counted : counted (resolved_items array) 16 ≡ 26
array_counted = refl

one_tree_counted : counted (resolved_items one_tree) 16 ≡ 19
one_tree_counted = refl

two_products_counted : counted (resolved_items two_products) 16 ≡ 22
two_products_counted = refl

-- 1,024 cells, and one more
great_counted : counted (resolved_items great) 16 ≡ 1024
great_counted = refl

greater_counted : counted (resolved_items greater) 16 ≡ 1025
greater_counted = refl

demo_3_counted : counted (resolved_items demo_3) 16 ≡ 27
demo_3_counted = refl

filter_counted : counted (resolved_items filter) 16 ≡ 62
filter_counted = refl

-- a saved global, and conditions as values
saved_counted : counted (resolved_items saved) 16 ≡ data_of (resolved_items saved) 16
saved_counted = refl

short_cut_counted : counted (resolved_items short_cut) 16 ≡ data_of (resolved_items short_cut) 16
short_cut_counted = refl

-- the array's length is wrapped
longest_array_counted : counted (resolved_items longest_array) 16 ≡ data_of (resolved_items longest_array) 16
longest_array_counted = refl

-- `int main(void){ return f(7) + 8; } int f(int a){ }`
abbrev dropped : Program
dropped = record {
  globals = [];
  main = Some (record {
    name = name 4 (codes "main");
    arity = 0;
    gives = true;
    variables = [];
    body = Turn (Return (Some (Arithmetic operator.Add (Call 0 (More (Number 7) NoMore)) (Number 8))));
    returns = true;
  });
  functions = record { name = name 40 (codes "f"); arity = 1; gives = true; variables = None ∷ []; body = Skip; returns = false } ∷ [];
}

-- 8 stands in no statement, for what `main` returns is dropped; 7 does, as an argument: 2 steps, 3 cells of the function, -1, 0, 1, 7, one return word,
-- 8 temporaries and 1
dropped_counted : counted dropped 16 ≡ 19
dropped_counted = refl

dropped_data : data_of dropped 16 ≡ 19
dropped_data = refl
