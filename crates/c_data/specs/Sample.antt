-- What is counted of the parts of a program, by computation.
use Rattle.std.specs.Prelude.{◌≡◌, refl}
use Rattle.c_tree.specs.Resolve.{resolved_items}
use Rattle.c_tree.specs.Texts.{echo, no_value}
use Rattle.c_data.specs.Totals.{main_total, functions_total, constants_of, together}

-- void main(void){ out(in()+1); }
echo_constants : constants_of (resolved_items echo) 16 ≡ record { different = 3; arrays = 0 }
echo_constants = refl

-- int f(int a){ if (a) return 7; } int main(void){ out(f(1)); out(f(0)); return f(1) + 1; }
no_value_main : main_total (resolved_items no_value).main ≡ record { cells = 6; calls = 3; largest = 1 }
no_value_main = refl

-- the parameter, the result and the return of f have a cell each
no_value_others : functions_total (resolved_items no_value).functions ≡ record { cells = 3; calls = 0; largest = 2 }
no_value_others = refl

-- -1, 0, 1 and 7
no_value_constants : constants_of (resolved_items no_value) 16 ≡ record { different = 4; arrays = 0 }
no_value_constants = refl

no_value_cells : together 0 (record { cells = 6; calls = 3; largest = 1 }) (record { cells = 3; calls = 0; largest = 2 }) (record { different = 4; arrays = 0 }) ≡ 26
no_value_cells = refl
