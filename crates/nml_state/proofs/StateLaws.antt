-- There is room for one more write of a cell that has none, and a state's values stay of their types.
use Rattle.std.proofs.Common.{◌≡◌, ℕ, zero, suc, ◌+◌, ◌-◌, ◌<◌, ◌≤◌, List, [], ◌∷◌, ◌++◌, length, map, take, get_or, ℤ, pos, refl, ap, sym, append-nil, ◌∙◌, subst, arith, Bool, true, false, Some, ◌⊎◌, inl, inr, ⊎_elim}
use Rattle.std.specs.Prelude.{eqb, ◌||◌, ◌&&◌, ◌==◌, slice_get, slice_set, unwrap_or, replicate}
use Rattle.std.specs.List.{list_any, IsDistinct, AllByRecursion}
use Rattle.std.proofs.lemmas.Int.{ints}
use Rattle.std.proofs.lemmas.Bool.Decides.{nat_tests}
use Rattle.std.proofs.lemmas.Map.Steps.{length-le_from_distinct_below}
use Rattle.std.proofs.Math.Pow.{pow_pos}
use Rattle.nk_base.specs.declared.number.Ty.{Ty}
use Rattle.nk_base.specs.declared.number.Ty.TheVariants as ty
use Rattle.nk_base.specs.Number.{InRange}
use Rattle.nml_tree.specs.Value.{Cells, cell, number_at}
use Rattle.nml_tree.specs.Exec.{Write, with_write, with_writes, storages, trn_types}
use Rattle.nml_state.specs.Cells.{Shown, IsAmong, IsOf, is_write_of, is_kept, sizes, opened}
use Rattle.nml_tree.specs.Table.{Text, Table, Declared, port_of}
use Rattle.nml_tree.specs.declared.tree.PortWord.{PortWord}
use Rattle.nml_tree.specs.declared.tree.PortWord.TheVariants as port
use Rattle.nml_state.specs.IsState.{total, place, places, AreAll, AreRows, AreOf, AllExist, AreTyped, IsState, AreParts}

or_left : (a b : Bool) → a || b ≡ false → (a ≡ false) × (b ≡ false)
or_left true b h = absurd (cc)
or_left false b h = (refl, h)

or_true : (a b : Bool) → a || b ≡ true → (a ≡ true) ⊎ (b ≡ true)
or_true true b h = inl refl
or_true false b h = inr h

turned : (x n : ℕ) → eqb n x ≡ false → eqb x n ≡ false
turned x n h = grind (arith, nat_tests)

same_self : (n : ℕ) → eqb n n ≡ true
same_self n = grind (arith, nat_tests)

same_from : (q n : ℕ) → eqb q n ≡ true → q ≡ n
same_from q n h = grind (arith, nat_tests)

all_push : (xs : List ℕ) (x n : ℕ) → AllByRecursion (λ y. eqb x y ≡ false) xs → eqb x n ≡ false → AllByRecursion (λ y. eqb x y ≡ false) (xs ++ n ∷ [])
all_push [] x n h k = (k, tt)
all_push (y ∷ ys) x n h k = (h.0, all_push ys x n h.1 k)

distinct_push : (xs : List ℕ) (n : ℕ) → IsDistinct eqb xs → AllByRecursion (λ y. eqb n y ≡ false) xs → IsDistinct eqb (xs ++ n ∷ [])
unfolding IsDistinct
distinct_push [] n d h = (tt, tt)
distinct_push (x ∷ xs) n d h = (all_push xs x n d.0 (turned x n h.0), distinct_push xs n d.1 h.1)

-- a cell's number is below the number of all cells
place_below : (counts : List ℕ) (s n : ℕ) → IsAmong counts s n → place counts s n < total counts
place_below [] s n h = absurd (let e = h.1 in cc)
place_below (c ∷ counts) zero n h = let same : c ≡ h.0 = (let e = h.1 in cc) in omega (arith, h.2, same)
place_below (c ∷ counts) (suc s) n h = omega (arith, place_below counts s n (h.0, h.1, h.2))

-- no two cells have one number
place_one : (counts : List ℕ) (s n r m : ℕ) → IsAmong counts s n → IsAmong counts r m → place counts s n ≡ place counts r m → (s ≡ r) × (n ≡ m)
place_one [] s n r m h k e = absurd (let f = h.1 in cc)
place_one (c ∷ counts) zero n zero m h k e = (refl, e)
place_one (c ∷ counts) zero n (suc r) m h k e = let same : c ≡ h.0 = (let f = h.1 in cc) in absurd (omega (arith, h.2, same, e))
place_one (c ∷ counts) (suc s) n zero m h k e = let same : c ≡ k.0 = (let f = k.1 in cc) in absurd (omega (arith, k.2, same, e))
place_one (c ∷ counts) (suc s) n (suc r) m h k e =
    let i = place_one counts s n r m (h.0, h.1, h.2) (k.0, k.1, k.2) (omega (arith, e)) in
    (ap suc i.0, i.1)

other_place : (counts : List ℕ) (s n : ℕ) (w : Write) (b : Bool) → IsAmong counts s n → IsAmong counts w.storage w.index → is_write_of s n w ≡ false → eqb (place counts s n) (place counts w.storage w.index) ≡ b → b ≡ false
other_place counts s n w false h k free e = refl
other_place counts s n w true h k free e =
    let one = place_one counts s n w.storage w.index h k (same_from _ _ e) in
    let a : (w.storage == s) ≡ true = rw (one.0) (same_self w.storage) in
    let b : (w.index == n) ≡ true = rw (one.1) (same_self w.index) in
    let c : is_write_of s n w ≡ true = rw (a, b) refl in
    cc

free_places : (kept : List Write) (counts : List ℕ) (s n : ℕ) → AllExist counts kept → IsAmong counts s n → is_kept kept s n ≡ false → AllByRecursion (λ y. eqb (place counts s n) y ≡ false) (places counts kept)
free_places [] counts s n all h free = tt
free_places (w ∷ ws) counts s n all h free =
    let a = or_left (is_write_of s n w) (list_any (is_write_of s n) ws) free in
    (other_place counts s n w _ h all.0 a.0 refl, free_places ws counts s n all.1 h a.1)

places_below : (kept : List Write) (counts : List ℕ) (q : ℕ) → AllExist counts kept → list_any (eqb q) (places counts kept) ≡ true → q < total counts
places_below [] counts q all h = absurd (cc)
places_below (w ∷ ws) counts q all h =
    ⊎_elim
    (λ (a : eqb q (place counts w.storage w.index) ≡ true). let e = same_from q _ a in omega (arith, e, place_below counts w.storage w.index all.0))
    (λ (b : list_any (eqb q) (places counts ws) ≡ true). places_below ws counts q all.1 b)
    (or_true (eqb q (place counts w.storage w.index)) (list_any (eqb q) (places counts ws)) h)

long_places : (kept : List Write) (counts : List ℕ) → length (places counts kept) ≡ length kept
long_places [] counts = refl
long_places (w ∷ ws) counts = ap suc (long_places ws counts)

pub has_room : (s : Shown) (room storage n : ℕ) → IsState s room → is_kept s.kept storage n ≡ false → IsAmong (sizes s.cells) storage n → length s.kept < room
unfolding IsDistinct
has_room s room storage n h free among =
    let counts = sizes s.cells in
    let xs = places counts s.kept in
    let new = place counts storage n in
    let below : (q : ℕ) → list_any (eqb q) (new ∷ xs) ≡ true → q < total counts = λ q e. ⊎_elim
    (λ (a : eqb q new ≡ true). let same = same_from q new a in omega (arith, same, place_below counts storage n among))
    (λ (b : list_any (eqb q) xs ≡ true). places_below s.kept counts q h.exist b)
    (or_true (eqb q new) (list_any (eqb q) xs) e) in
    let few = length-le_from_distinct_below (new ∷ xs) (total counts) (free_places s.kept counts storage n h.exist among free, h.distinct) below in
    omega (arith, few, h.fits, long_places s.kept counts)

places_push : (kept : List Write) (counts : List ℕ) (w : Write) → places counts (kept ++ w ∷ []) ≡ places counts kept ++ place counts w.storage w.index ∷ []
places_push [] counts w = refl
places_push (v ∷ ws) counts w = ap (λ xs. place counts v.storage v.index ∷ xs) (places_push ws counts w)

exist_push : (kept : List Write) (counts : List ℕ) (w : Write) → AllExist counts kept → IsAmong counts w.storage w.index → AllExist counts (kept ++ w ∷ [])
exist_push [] counts w h k = (k, tt)
exist_push (v ∷ ws) counts w h k = (h.0, exist_push ws counts w h.1 k)

typed_push : (kept : List Write) (types : List Ty) (w : Write) → AreTyped types kept → IsOf types w.storage w.value → AreTyped types (kept ++ w ∷ [])
typed_push [] types w h k = (k, tt)
typed_push (v ∷ ws) types w h k = (h.0, typed_push ws types w h.1 k)

pub state_push : (s : Shown) (room : ℕ) (w : Write) → IsState s room → is_kept s.kept w.storage w.index ≡ false → IsAmong (sizes s.cells) w.storage w.index → IsOf s.types w.storage w.value → IsState (record s { kept = s.kept ++ w ∷ [] }) room
state_push s room w h free among of =
    record {
      distinct = rw (places_push s.kept (sizes s.cells) w) (distinct_push (places (sizes s.cells) s.kept) (place (sizes s.cells) w.storage w.index) h.distinct (free_places s.kept (sizes s.cells) w.storage w.index h.exist among free));
      exist = exist_push s.kept (sizes s.cells) w h.exist among;
      fits = h.fits;
      rows = h.rows;
      trn_values = h.trn_values;
      writes = typed_push s.kept s.types w h.writes of;
    }

length_set : (xs : List ℤ) (n : ℕ) (z : ℤ) → length (slice_set xs n z) ≡ length xs
length_set [] n z = refl
length_set (x ∷ xs) zero z = refl
length_set (x ∷ xs) (suc n) z = ap suc (length_set xs n z)

-- a write leaves the sizes
pub sizes_write : (cells : Cells) (s n : ℕ) (z : ℤ) → sizes (slice_set cells s (slice_set (unwrap_or (slice_get cells s) []) n z)) ≡ sizes cells
sizes_write [] s n z = refl
sizes_write (row ∷ rows) zero n z = ap (λ k. k ∷ sizes rows) (length_set row n z)
sizes_write (row ∷ rows) (suc s) n z = ap (λ ks. length row ∷ ks) (sizes_write rows s n z)

pub sizes_writes : (ws : List Write) (cells : Cells) → sizes (with_writes cells ws) ≡ sizes cells
sizes_writes [] cells = refl
sizes_writes (w ∷ ws) cells = sizes_writes ws (with_write cells w) ∙ sizes_write cells w.storage w.index w.value

all_set : (xs : List ℤ) (t : Ty) (n : ℕ) (z : ℤ) → AreAll t xs → InRange t z → AreAll t (slice_set xs n z)
all_set [] t n z h r = tt
all_set (x ∷ xs) t zero z h r = (r, h.1)
all_set (x ∷ xs) t (suc n) z h r = (h.0, all_set xs t n z h.1 r)

pub rows_write : (types : List Ty) (cells : Cells) (s n : ℕ) (z : ℤ) → AreRows types cells → IsOf types s z → AreRows types (slice_set cells s (slice_set (unwrap_or (slice_get cells s) []) n z))
rows_write [] [] s n z h of = tt
rows_write [] (row ∷ rows) s n z h of = absurd h
rows_write (t ∷ types) [] s n z h of = absurd h
rows_write (t ∷ types) (row ∷ rows) zero n z h of =
    let same : t ≡ of.0 = (let e = of.1 in cc) in
    (all_set row t n z h.0 (subst (λ x. InRange x z) (sym same) of.2), h.1)
rows_write (t ∷ types) (row ∷ rows) (suc s) n z h of = (h.0, rows_write types rows s n z h.1 (of.0, of.1, of.2))

pub rows_writes : (ws : List Write) (types : List Ty) (cells : Cells) → AreRows types cells → AreTyped types ws → AreRows types (with_writes cells ws)
rows_writes [] types cells h of = h
rows_writes (w ∷ ws) types cells h of = rows_writes ws types (with_write cells w) (rows_write types cells w.storage w.index w.value h of.0) of.1

pub state_write : (s : Shown) (room : ℕ) (w : Write) → IsState s room → IsOf s.types w.storage w.value → IsState (record s { cells = with_write s.cells w }) room
state_write s room w h of =
    let e = sizes_write s.cells w.storage w.index w.value in
    record {
      distinct = rw e h.distinct;
      exist = rw e h.exist;
      fits = rw e h.fits;
      rows = rows_write s.types s.cells w.storage w.index w.value h.rows of;
      trn_values = h.trn_values;
      writes = h.writes;
    }

of_set : (types : List Ty) (zs : List ℤ) (n : ℕ) (z : ℤ) → AreOf types zs → IsOf types n z → AreOf types (slice_set zs n z)
of_set [] [] n z h of = tt
of_set [] (x ∷ zs) n z h of = absurd h
of_set (t ∷ types) [] n z h of = absurd h
of_set (t ∷ types) (x ∷ zs) zero z h of = let same : t ≡ of.0 = (let e = of.1 in cc) in (subst (λ y. InRange y z) (sym same) of.2, h.1)
of_set (t ∷ types) (x ∷ zs) (suc n) z h of = (h.0, of_set types zs n z h.1 (of.0, of.1, of.2))

pub state_trn : (s : Shown) (room n : ℕ) (z : ℤ) → IsState s room → IsOf s.trn_types n z → IsState (record s { trns = slice_set s.trns n z }) room
state_trn s room n z h of = record { distinct = h.distinct; exist = h.exist; fits = h.fits; rows = h.rows; trn_values = of_set s.trn_types s.trns n z h.trn_values of; writes = h.writes }

-- 0 is of every type
pub zero_in : (t : Ty) → InRange t (pos 0)
zero_in ty.Bool = (omega (arith, ints), omega (arith, ints))
zero_in (ty.Card n) = (omega (arith, ints), omega (arith, ints, pow_pos n))
zero_in (ty.Int n) = (omega (arith, ints, pow_pos (n - 1)), omega (arith, ints, pow_pos (n - 1)))

of_zero : (types : List Ty) (zs : List ℤ) → AreOf types zs → AreOf types (map (λ z. pos 0) zs)
of_zero [] [] h = tt
of_zero [] (x ∷ zs) h = absurd h
of_zero (t ∷ types) [] h = absurd h
of_zero (t ∷ types) (x ∷ zs) h = (zero_in t, of_zero types zs h.1)

pub state_done : (s : Shown) (room : ℕ) → IsState s room → IsState (record s { cells = with_writes s.cells s.kept; trns = map (λ z. pos 0) s.trns; kept = [] }) room
unfolding IsDistinct
state_done s room h =
    record {
      distinct = tt;
      exist = tt;
      fits = rw (sizes_writes s.kept s.cells) h.fits;
      rows = rows_writes s.kept s.types s.cells h.rows h.writes;
      trn_values = of_zero s.trn_types s.trns h.trn_values;
      writes = tt;
    }

pub state_forgot : (s : Shown) (room : ℕ) → IsState s room → IsState (record s { trns = map (λ z. pos 0) s.trns; kept = [] }) room
unfolding IsDistinct
state_forgot s room h =
    record { distinct = tt; exist = tt; fits = h.fits; rows = h.rows; trn_values = of_zero s.trn_types s.trns h.trn_values; writes = tt }

in_row : (xs : List ℤ) (t : Ty) (n : ℕ) → AreAll t xs → InRange t (number_at xs n)
in_row [] t n h = zero_in t
in_row (x ∷ xs) t zero h = h.0
in_row (x ∷ xs) t (suc n) h = in_row xs t n h.1

-- what a cell holds is of its type
pub cell_of : (types : List Ty) (cells : Cells) (s n : ℕ) → AreRows types cells → IsAmong (sizes cells) s n → IsOf types s (cell cells s n)
cell_of types [] s n h among = absurd (let e = among.1 in cc)
cell_of [] (row ∷ rows) s n h among = absurd h
cell_of (t ∷ types) (row ∷ rows) zero n h among = (t, refl, in_row row t n h.0)
cell_of (t ∷ types) (row ∷ rows) (suc s) n h among = let r = cell_of types rows s n h.1 (among.0, among.1, among.2) in (r.0, r.1, r.2)

pub trn_of : (types : List Ty) (zs : List ℤ) (n : ℕ) (z : ℤ) → AreOf types zs → slice_get zs n ≡ Some z → IsOf types n z
trn_of types [] n z h is = absurd cc
trn_of [] (x ∷ zs) n z h is = absurd h
trn_of (t ∷ types) (x ∷ zs) zero z h is = let same : x ≡ z = cc in (t, refl, subst (λ y. InRange t y) same h.0)
trn_of (t ∷ types) (x ∷ zs) (suc n) z h is = let r = trn_of types zs n z h.1 is in (r.0, r.1, r.2)

-- the state in which a machine begins
all_zero : (t : Ty) (n : ℕ) → AreAll t (replicate n (pos 0))
all_zero t zero = tt
all_zero t (suc n) = (zero_in t, all_zero t n)

rows_zero : (ss : List (ℕ × Ty)) → AreRows (map (λ s. s.1) ss) (map (λ s. replicate s.0 (pos 0)) ss)
rows_zero [] = tt
rows_zero (s ∷ ss) = (all_zero s.1 s.0, rows_zero ss)

trns_zero : (types : List Ty) → AreOf types (map (λ ty. pos 0) types)
trns_zero [] = tt
trns_zero (t ∷ types) = (zero_in t, trns_zero types)

pub state_opened : (t : Table) (room : ℕ) → total (sizes (opened t).cells) ≤ room → IsState (opened t) room
unfolding IsDistinct
state_opened t room h = record { distinct = tt; exist = tt; fits = h; rows = rows_zero (storages t); trn_values = trns_zero (trn_types t); writes = tt }

pub storages_append : (t u : Table) → storages (t ++ u) ≡ storages t ++ storages u
storages_append [] u = refl
storages_append ((name, Declared.Constant z) ∷ t) u = storages_append t u
storages_append ((name, Declared.TypeName ty) ∷ t) u = storages_append t u
storages_append ((name, Declared.Storage n k ty) ∷ t) u = ap (λ ss. (k, ty) ∷ ss) (storages_append t u)
storages_append ((name, Declared.Trn n ty) ∷ t) u = storages_append t u
storages_append ((name, Declared.Inp ty) ∷ t) u = storages_append t u
storages_append ((name, Declared.Out ty) ∷ t) u = storages_append t u
storages_append ((name, Declared.Or mode names) ∷ t) u = storages_append t u
storages_append ((name, Declared.And rule) ∷ t) u = storages_append t u

pub trn_types_append : (t u : Table) → trn_types (t ++ u) ≡ trn_types t ++ trn_types u
trn_types_append [] u = refl
trn_types_append ((name, Declared.Constant z) ∷ t) u = trn_types_append t u
trn_types_append ((name, Declared.TypeName ty) ∷ t) u = trn_types_append t u
trn_types_append ((name, Declared.Storage n k ty) ∷ t) u = trn_types_append t u
trn_types_append ((name, Declared.Trn n ty) ∷ t) u = ap (λ ss. ty ∷ ss) (trn_types_append t u)
trn_types_append ((name, Declared.Inp ty) ∷ t) u = trn_types_append t u
trn_types_append ((name, Declared.Out ty) ∷ t) u = trn_types_append t u
trn_types_append ((name, Declared.Or mode names) ∷ t) u = trn_types_append t u
trn_types_append ((name, Declared.And rule) ∷ t) u = trn_types_append t u

total_append : (xs ys : List ℕ) → total (xs ++ ys) ≡ total xs + total ys
total_append [] ys = omega arith
total_append (x ∷ xs) ys = omega (arith, total_append xs ys)

map_append : {A B : Type 0} (f : A → B) (xs ys : List A) → map f (xs ++ ys) ≡ map f xs ++ map f ys
map_append f [] ys = refl
map_append f (x ∷ xs) ys = ap (λ zs. f x ∷ zs) (map_append f xs ys)

-- an item more
pub parts_more : (t : Table) (e : Text × Declared) (types more_types : List Ty) (cells more_cells : Cells) (count more : ℕ) (of more_of : List Ty) (trns more_trns : List ℤ) → AreParts t types cells count of trns
    → more_types ≡ types ++ map (λ s. s.1) (storages (e ∷ [])) → more_cells ≡ cells ++ map (λ s. replicate s.0 (pos 0)) (storages (e ∷ [])) → more ≡ count + total (sizes (map (λ s. replicate s.0 (pos 0)) (storages (e ∷ []))))
    → more_of ≡ of ++ trn_types (e ∷ []) → more_trns ≡ trns ++ map (λ ty. pos 0) (trn_types (e ∷ [])) → AreParts (t ++ e ∷ []) more_types more_cells more more_of more_trns
parts_more t e types more_types cells more_cells count more of more_of trns more_trns h a b k d f =
    let s = storages_append t (e ∷ []) in
    let r = trn_types_append t (e ∷ []) in
    let sum : total (sizes (cells ++ map (λ s. replicate s.0 (pos 0)) (storages (e ∷ [])))) ≡ total (sizes cells) + total (sizes (map (λ s. replicate s.0 (pos 0)) (storages (e ∷ [])))) =
    ap total (map_append (λ row. length row) cells _) ∙ total_append (sizes cells) _ in
    record {
      types_are = a ∙ ap (λ xs. xs ++ map (λ s. s.1) (storages (e ∷ []))) h.types_are ∙ sym (map_append (λ s. s.1) (storages t) (storages (e ∷ []))) ∙ ap (map (λ s. s.1)) (sym s);
      cells_are = b ∙ ap (λ xs. xs ++ map (λ s. replicate s.0 (pos 0)) (storages (e ∷ []))) h.cells_are ∙ sym (map_append (λ s. replicate s.0 (pos 0)) (storages t) (storages (e ∷ []))) ∙ ap (map (λ s. replicate s.0 (pos 0))) (sym s);
      count_is = k ∙ ap (λ n. n + total (sizes (map (λ s. replicate s.0 (pos 0)) (storages (e ∷ []))))) h.count_is ∙ sym sum ∙ ap (λ xs. total (sizes xs)) (sym b);
      trns_of_are = d ∙ ap (λ xs. xs ++ trn_types (e ∷ [])) h.trns_of_are ∙ sym r;
      trns_are = f ∙ ap (λ xs. xs ++ map (λ ty. pos 0) (trn_types (e ∷ []))) h.trns_are ∙ sym (map_append (λ ty. pos 0) (trn_types t) (trn_types (e ∷ []))) ∙ ap (map (λ ty. pos 0)) (sym r);
    }

-- an item that is no storage and no transitory
pub parts_same : (t : Table) (e : Text × Declared) (types : List Ty) (cells : Cells) (count : ℕ) (of : List Ty) (trns : List ℤ) → storages (e ∷ []) ≡ [] → trn_types (e ∷ []) ≡ [] → AreParts t types cells count of trns → AreParts (t ++ e ∷ []) types cells count of trns
parts_same t e types cells count of trns none no_trn h =
    parts_more t e types types cells cells count count of of trns trns h
    (sym (append-nil types) ∙ ap (λ ss. types ++ map (λ s. s.1) ss) (sym none))
    (sym (append-nil cells) ∙ ap (λ ss. cells ++ map (λ s. replicate s.0 (pos 0)) ss) (sym none))
    (plus none)
    (sym (append-nil of) ∙ ap (λ ss. of ++ ss) (sym no_trn))
    (sym (append-nil trns) ∙ ap (λ ss. trns ++ map (λ ty. pos 0) ss) (sym no_trn))
  where
    plus : storages (e ∷ []) ≡ [] → count ≡ count + total (sizes (map (λ s. replicate s.0 (pos 0)) (storages (e ∷ []))))
    plus none = rw none (omega arith)

length_zeros : (n : ℕ) → length (replicate n (pos 0)) ≡ n
length_zeros zero = refl
length_zeros (suc n) = ap suc (length_zeros n)

-- a storage
pub parts_storage : (t : Table) (name : Text) (n k : ℕ) (ty : Ty) (types more_types : List Ty) (cells more_cells : Cells) (count more : ℕ) (of more_of : List Ty) (trns more_trns : List ℤ)
    → more_types ≡ types ++ ty ∷ [] → more_cells ≡ cells ++ replicate k (pos 0) ∷ [] → more ≡ count + k → more_of ≡ of → more_trns ≡ trns
    → AreParts t types cells count of trns → AreParts (t ++ (name, Declared.Storage n k ty) ∷ []) more_types more_cells more more_of more_trns
parts_storage t name n k ty types more_types cells more_cells count more of more_of trns more_trns a b m d f h =
    parts_more t (name, Declared.Storage n k ty) types more_types cells more_cells count more of more_of trns more_trns h a b (omega (arith, m, length_zeros k)) (d ∙ sym (append-nil of)) (f ∙ sym (append-nil trns))

-- a transitory or a port
pub parts_port : (t : Table) (name : Text) (w : PortWord) (ty : Ty) (types more_types : List Ty) (cells more_cells : Cells) (count more : ℕ) (of more_of : List Ty) (trns more_trns : List ℤ)
    → more_of ≡ of ++ trn_types ((name, port_of t w ty) ∷ []) → more_trns ≡ trns ++ map (λ ty. pos 0) (trn_types ((name, port_of t w ty) ∷ [])) → more_types ≡ types → more_cells ≡ cells → more ≡ count
    → AreParts t types cells count of trns → AreParts (t ++ (name, port_of t w ty) ∷ []) more_types more_cells more more_of more_trns
parts_port t name w ty types more_types cells more_cells count more of more_of trns more_trns a b m d f h =
    let none = no_storage t name w ty in
    parts_more t (name, port_of t w ty) types more_types cells more_cells count more of more_of trns more_trns h
    (m ∙ sym (append-nil types) ∙ ap (λ ss. types ++ map (λ s. s.1) ss) (sym none))
    (d ∙ sym (append-nil cells) ∙ ap (λ ss. cells ++ map (λ s. replicate s.0 (pos 0)) ss) (sym none))
    (plus none f) a b
  where
    no_storage : (t : Table) (name : Text) (w : PortWord) (ty : Ty) → storages ((name, port_of t w ty) ∷ []) ≡ []
    no_storage t name (port.Trn at) ty = refl
    no_storage t name (port.Inp at) ty = refl
    no_storage t name (port.Out at) ty = refl

    plus : storages ((name, port_of t w ty) ∷ []) ≡ [] → more ≡ count → more ≡ count + total (sizes (map (λ s. replicate s.0 (pos 0)) (storages ((name, port_of t w ty) ∷ []))))
    plus none f = rw none (omega (arith, f))
