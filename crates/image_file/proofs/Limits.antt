-- A valid image of a description has a file: its numbers are within its fields, and its data cells can be counted.
use Rattle.std.proofs.Common.{◌≡◌, ℕ, zero, suc, ◌+◌, ◌*◌, ◌^◌, ◌<◌, ◌≤◌, true, List, [], ◌∷◌, length, sym, subst, arith, ⊎_elim}
use Rattle.std.specs.Prelude.{nat_lt, ◌==◌, not, ◌&&◌, slice_get, IsTrue}
use Rattle.std.specs.List.{AllByRecursion}
use Rattle.std.proofs.Math.Pow.{pow_mono}
use Rattle.std.proofs.lemmas.Bool.{ltb-true, eqb-true, eqb-false, not-true, and_parts, or_cases, cases_lt}
use Rattle.nk_base.specs.Number.{width_of}
use Rattle.nk_base.specs.declared.number.Ty.{Ty}
use Rattle.image_file.specs.File.{Picture, Init, IsInit, HasFile}
use Rattle.image_file.specs.Valid.{Measures, IsValid, IsLimited, IsDigest, IsSmall, is_storage, is_cell_of, is_cell, is_raw_of, is_raw, is_init, is_before, rise}

small_cell : (ss : List (ℕ × Ty)) (n cell : ℕ) → AllByRecursion IsSmall ss → is_cell_of (slice_get ss n) cell ≡ true → cell < 65536
small_cell [] n cell a e = absurd (cc e)
small_cell ((size, ty) ∷ ss) zero cell a e = omega (arith, ltb-true cell size e, a.0.0)
small_cell ((size, ty) ∷ ss) (suc n) cell a e = small_cell ss n cell a.1 e

small_raw : (ss : List (ℕ × Ty)) (n value : ℕ) → AllByRecursion IsSmall ss → is_raw_of (slice_get ss n) value ≡ true → value < 2 ^ 64
small_raw [] n value a e = absurd (cc e)
small_raw ((size, ty) ∷ ss) zero value a e =
    let p = and_parts (nat_lt 0 value) (nat_lt value (2 ^ width_of ty)) e in
    omega (arith, ltb-true value (2 ^ width_of ty) p.1, pow_mono {i = width_of ty} {j = 64} a.0.1)
small_raw ((size, ty) ∷ ss) (suc n) value a e = small_raw ss n value a.1 e

-- the number of a cell over all storages, as if each had 65,536
abbrev key : Init → ℕ
key c = c.storage * 65536 + c.cell

-- a data cell's numbers
record Fits (m : Measures) (c : Init) : Type 0 where
  storage : c.storage < 65536
  cell : c.cell < 65536
  value : c.value < 2 ^ 64
  other : key c ≡ m.pc * 65536 → ⊥

fits : (m : Measures) (c : Init) → IsLimited m → is_init m c ≡ true → Fits m c
fits m c l e =
    let p = and_parts (is_storage m c.storage) (is_cell m c.storage c.cell && is_raw m c.storage c.value) e in
    let q = and_parts (is_cell m c.storage c.cell) (is_raw m c.storage c.value) p.1 in
    let s = and_parts (nat_lt c.storage (length m.storages)) (not (c.storage == m.pc)) p.0 in
    let small = small_cell m.storages c.storage c.cell l.small q.0 in
    record {
      storage = omega (arith, ltb-true c.storage (length m.storages) s.0, l.few);
      cell = small;
      value = small_raw m.storages c.storage c.value l.small q.1;
      other = λ h. eqb-false c.storage m.pc (not-true (c.storage == m.pc) s.1) (omega (arith, h, small));
    }

rises : (a b : Init) → b.cell < 65536 → a.cell < 65536 → is_before a b ≡ true → key a < key b
rises a b hb ha e = ⊎_elim lower same (or_cases (nat_lt a.storage b.storage) ((a.storage == b.storage) && nat_lt a.cell b.cell) e)
  where
    lower : nat_lt a.storage b.storage ≡ true → key a < key b
    lower l = omega (arith, ltb-true a.storage b.storage l, ha)

    same : ((a.storage == b.storage) && nat_lt a.cell b.cell) ≡ true → key a < key b
    same l =
        let p = and_parts (a.storage == b.storage) (nat_lt a.cell b.cell) l in
        omega (arith, eqb-true a.storage b.storage p.0, ltb-true a.cell b.cell p.1)

-- so many cells stand from this one on, at most; one less where the one left out is behind it
record Counted (out : ℕ) (c : Init) (cs : List Init) : Type 0 where
  within : key c + length (c ∷ cs) ≤ 2 ^ 32
  less : key c < out → key c + length (c ∷ cs) + 1 ≤ 2 ^ 32

counted : (m : Measures) (c : Init) (cs : List Init) → IsLimited m → AllByRecursion (λ x. IsTrue (is_init m x)) (c ∷ cs) → rise (c ∷ cs) ≡ true → Counted (m.pc * 65536) c cs
counted m c [] l a r =
    let f = fits m c l a.0 in
    record { within = omega (arith, f.storage, f.cell); less = λ h. omega (arith, h, l.pc_is, l.few) }
counted m c (d ∷ cs) l a r =
    let f = fits m c l a.0 in
    let g = fits m d l a.1.0 in
    let p = and_parts (is_before c d) (rise (d ∷ cs)) r in
    let up = rises c d g.cell f.cell p.0 in
    let next = counted m d cs l a.1 p.1 in
    record {
      within = omega (arith, up, next.within);
      less = λ h. ⊎_elim (λ (k : key d < m.pc * 65536). omega (arith, up, next.less k)) (λ (k : m.pc * 65536 ≤ key d). omega (arith, h, k, g.other, next.within)) (cases_lt (key d) (m.pc * 65536));
    }

few_cells : (m : Measures) (cs : List Init) → IsLimited m → AllByRecursion (λ x. IsTrue (is_init m x)) cs → rise cs ≡ true → length cs < 2 ^ 32
few_cells m [] l a r = omega arith
few_cells m (c ∷ cs) l a r =
    let f = fits m c l a.0 in
    let n = counted m c cs l a r in
    ⊎_elim (λ (h : key c < m.pc * 65536). omega (arith, n.less h)) (λ (h : m.pc * 65536 ≤ key c). omega (arith, n.within, h, f.other)) (cases_lt (key c) (m.pc * 65536))

all_inits : (m : Measures) (cs : List Init) → IsLimited m → AllByRecursion (λ x. IsTrue (is_init m x)) cs → AllByRecursion IsInit cs
all_inits m [] l a = tt
all_inits m (c ∷ cs) l a =
    let f = fits m c l a.0 in
    ((omega (arith, f.storage), omega (arith, f.cell), f.value), all_inits m cs l a.1)

pub has_file : (m : Measures) (i : Picture) → IsLimited m → IsDigest i.digest → IsValid m i → HasFile i
has_file m i l d v = record {
  digest_is = d.length_is;
  digest_bytes = d.each;
  wide = omega (arith, l.wide, v.width_is);
  narrow = omega (arith, l.narrow, v.width_is);
  words_count = omega (arith, v.count, pow_mono {i = m.pc_bits} {j = 16} l.few_words);
  words_fit = subst (λ (n : ℕ). AllByRecursion (λ w. w < 2 ^ n) i.words) (sym v.width_is) v.fit;
  inits_count = few_cells m i.inits l v.cells v.order;
  inits_fit = all_inits m i.inits l v.cells;
}
