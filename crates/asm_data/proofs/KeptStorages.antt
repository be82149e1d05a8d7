-- What is kept of the storages of a description.
use Rattle.std.proofs.Common.{ℕ, zero, suc, ◌≡◌, ◌≤◌, ◌<◌, sym, ◌∙◌, ap, subst, arith, List, [], ◌∷◌, length, Some}
use Rattle.std.specs.Prelude.{slice_get}
use Rattle.nml_tree.specs.declared.tree.Desc.{Desc}
use Rattle.nml_tree.specs.declared.tree.Item.{Item}
use Rattle.nml_tree.specs.Exec.{storages}
use Rattle.nml_tree.specs.Refused.{IsChecked}
use Rattle.nml_tree.specs.Table.{table, entries}
use Rattle.nml_tree.specs.Valid.{IsWordWidth}
use Rattle.attr_exec.proofs.Lawful.{all_numbered}
use Rattle.image_file.specs.Measured.{measures}
use Rattle.image_file.specs.Seen.{measures_of}
use Rattle.image_layout.proofs.Limits.{limited}
use Rattle.asm_data.specs.Storages.{AreStorages, HasNumbers, IsSound}
use Rattle.asm_data.specs.declared.storages.Storages.{Storages}
use Rattle.asm_data.proofs.Types.{storage_typed}

pub get_below : {A : Type 0} (xs : List A) (n : ℕ) (x : A) → slice_get xs n ≡ Some x → n < length xs
get_below [] n x h = absurd cc
get_below (y ∷ xs) zero x h = omega arith
get_below (y ∷ xs) (suc n) x h = let k = get_below xs n x h in omega (arith, k)

pub are_storages : (d : Desc) (width : ℕ) (s : Storages) (items : List Item) → items ≡ d.items → measures_of s.layout ≡ measures (table d) width → HasNumbers (entries [] items) s.numbers.entries → AreStorages (table d) s
are_storages d width s items same is numbers = record {
  numbers_are = subst (λ xs. HasNumbers (entries [] xs) s.numbers.entries) same numbers;
  rows_are = ap (λ m. m.storages) is;
  pc_is = ap (λ m. m.pc) is;
  numbered = (all_numbered d).0;
}

pub sound : (d : Desc) (width : ℕ) (s : Storages) → IsChecked d → IsWordWidth (table d) width → measures_of s.layout ≡ measures (table d) width → IsSound s
sound d width s checked word is =
    let rows : s.layout.storages.items ≡ storages (table d) = ap (λ m. m.storages) is in
    let limits = limited d width checked word in
    record {
      few = subst (λ xs. length xs ≤ 65536) (sym rows) limits.few;
      typed = λ n size ty at. storage_typed d (λ k low. checked.free k (omega (arith, low))) n size ty (ap (λ xs. slice_get xs n) (sym rows) ∙ at);
    }
