-- What small programs declare, each by computation.
use Rattle.std.specs.Prelude.{◌≡◌, refl, pos, negsuc, true, false, [], ◌∷◌, None, Some, map, codes}
use Rattle.c_tree.specs.declared.names.TypeWord.TheVariants as type_word
use Rattle.c_tree.specs.declared.program.GVar.TheVariants as gvar
use Rattle.c_tree.specs.Formula.{Numeral}
use Rattle.c_tree.specs.Statement.{Scalar, Array, Braces, IfElse, Nothing, Declare}
use Rattle.c_tree.specs.Items.{Variables}
use Rattle.c_tree.specs.Names.{first_names, statement_shapes}
use Rattle.c_tree.specs.Resolve.{global_variables, resolved_functions}
use Rattle.c_tree.specs.Texts.{name, num, snum, array, hidden, no_value, saved}
use Rattle.c_shapes.specs.Shapes.{declared, outlines}

-- int g = 3;
one_value : global_variables saved ≡ record { shape = None; initial = pos 3 ∷ [] } ∷ []
one_value = refl

-- int a[3];
no_values : global_variables array ≡ record { shape = Some 3; initial = [] } ∷ []
no_values = refl

-- int a[2] = {-5, 6}, b;
two_variables : global_variables (Variables (record { word = type_word.Int 0; first = gvar.Array (name 4 (codes "a")) 5 (num 6 2) 7 (Some (9, 11, snum (Some 12) (num 13 5), (14, snum None (num 16 6)) ∷ [], 17)); rest = (18, gvar.Scalar (name 20 (codes "b")) None) ∷ []; semicolon = 21 }) ∷ []) ≡
    record { shape = Some 2; initial = negsuc 4 ∷ pos 6 ∷ [] } ∷ record { shape = None; initial = [] } ∷ []
two_variables = refl

-- if (1) { int a[2]; } else { int b; }
both_sides : statement_shapes (IfElse 0 3 (Numeral (num 4 1)) 5
    (Braces 7 (Declare (record { word = type_word.Int 9; first = Array (name 13 (codes "a")) 14 (num 15 2) 16; rest = []; semicolon = 17 }) Nothing) 19) 21
    (Braces 26 (Declare (record { word = type_word.Int 28; first = Scalar (name 32 (codes "b")); rest = []; semicolon = 33 }) Nothing) 35)) ≡
    Some 2 ∷ None ∷ []
both_sides = refl

-- int f(int a){ if (a) return 7; } int main(void){ out(f(1)); out(f(0)); return f(1) + 1; }
first_does_not_return : map declared (resolved_functions (first_names no_value) no_value) ≡
    record { main = false; arity = 1; gives = true; returns = false; variables = None ∷ [] } ∷
    record { main = true; arity = 0; gives = true; returns = true; variables = [] } ∷ []
first_does_not_return = refl

-- int x = 1; void main(void){ int y = x; { int x = x + 1; out(x); } out(x + y); }
inner_block : map declared (resolved_functions (first_names hidden) hidden) ≡
    record { main = true; arity = 0; gives = false; returns = false; variables = None ∷ None ∷ [] } ∷ []
inner_block = refl

-- and straight from the text
inner_block_outlined : outlines hidden ≡ map declared (resolved_functions (first_names hidden) hidden)
inner_block_outlined = refl
