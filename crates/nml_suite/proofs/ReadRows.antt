-- Rows of reads: put one after another, the causes that they leave, and what they leave alone.
use Rattle.std.proofs.Common.{◌≡◌, ◌≤◌, ◌+◌, ℕ, List, [], ◌∷◌, ◌++◌, length, refl, sym, ◌∙◌, subst, arith}
use Rattle.nk_outside.specs.Count.{counted}
use Rattle.nk_outside.specs.Held.{Reads, Lacks, IsTooLong}
use Rattle.nml_reply.specs.Reading.{Reading, Got, Absent, Failed, TooLong, Unread}
use Rattle.nml_suite.specs.Files.{HaveCauses}
use Rattle.nml_suite.specs.Reading.{Store, HasReading, Asked, IsRead, AreRead}

-- no more than one call is counted
pub counted_once : (n : ℕ) → counted n ≤ n + 1
counted_once n = omega arith

-- the files hold the same, and no count of reads fell
pub record Later (before now : Store) : Type 0 where
  pub held : now.held ≡ before.held
  pub read_faults : before.counts.read_faults ≤ now.counts.read_faults
  pub absents : before.counts.absents ≤ now.counts.absents
  pub write_faults : now.counts.write_faults ≡ before.counts.write_faults

pub later_both : (b m n : Store) → Later b m → Later m n → Later b n
later_both b m n x y = record {
  held = y.held ∙ x.held;
  read_faults = omega (arith, x.read_faults, y.read_faults);
  absents = omega (arith, x.absents, y.absents);
  write_faults = y.write_faults ∙ x.write_faults;
}

one_later : (b n : Store) (name : List ℕ) (r : Reading) → IsRead b n name r → Later b n
one_later b n name r x = record { held = x.held; read_faults = x.read_faults; absents = x.absents; write_faults = x.write_faults }

pub reads_later : (b n : Store) (xs : List Asked) → AreRead b n xs → Later b n
reads_later b n [] e = subst (Later b) (sym e) (record { held = refl; read_faults = omega arith; absents = omega arith; write_faults = refl })
reads_later b n (x ∷ xs) r = later_both b r.0 n (one_later b r.0 x.0 x.1 r.1) (reads_later r.0 n xs r.2)

-- how many calls they are
pub reads_calls : (b n : Store) (xs : List Asked) → AreRead b n xs → n.counts.calls ≤ b.counts.calls + length xs
reads_calls b n [] e = subst (λ (s : Store). s.counts.calls ≤ b.counts.calls + 0) (sym e) (omega arith)
reads_calls b n (x ∷ xs) r = omega (arith, counted_once b.counts.calls, r.1.calls, reads_calls r.0 n xs r.2)

pub reads_append : (b m n : Store) (xs ys : List Asked) → AreRead b m xs → AreRead m n ys → AreRead b n (xs ++ ys)
reads_append b m n [] ys e r = subst (λ s. AreRead s n ys) e r
reads_append b m n (x ∷ xs) ys r s = (r.0, r.1, reads_append r.0 m n xs ys r.2 s)

-- ---- causes at other moments

-- a cause holds from an earlier moment on, of files that hold the same
earlier : (b m n : Store) (name : List ℕ) (r : Reading) → Later b m → HasReading m.held m.counts n.counts name r → HasReading b.held b.counts n.counts name r
earlier b m n name (Got bytes) l x = subst (λ q. Reads q name bytes) l.held x
earlier b m n name Absent l x = (subst (λ q. Lacks q name) l.held x.0, omega (arith, x.1, l.absents))
earlier b m n name Failed l x = omega (arith, x, l.read_faults)
earlier b m n name TooLong l x = subst (λ q. IsTooLong q name) l.held x
earlier b m n name Unread l x = tt

all_earlier : (b m n : Store) (xs : List Asked) → Later b m → HaveCauses m n xs → HaveCauses b n xs
all_earlier b m n [] l c = tt
all_earlier b m n (x ∷ xs) l c = (earlier b m n x.0 x.1 l c.0, all_earlier b m n xs l c.1)

-- and up to a later one
up_to : (b m n : Store) (name : List ℕ) (r : Reading) → m.counts.read_faults ≤ n.counts.read_faults → m.counts.absents ≤ n.counts.absents
    → HasReading b.held b.counts m.counts name r → HasReading b.held b.counts n.counts name r
up_to b m n name (Got bytes) f a x = x
up_to b m n name Absent f a x = (x.0, omega (arith, x.1, a))
up_to b m n name Failed f a x = omega (arith, x, f)
up_to b m n name TooLong f a x = x
up_to b m n name Unread f a x = tt

-- each read has its cause over the whole call
pub causes : (b m n : Store) (xs : List Asked) → m.counts.read_faults ≤ n.counts.read_faults → m.counts.absents ≤ n.counts.absents → AreRead b m xs → HaveCauses b n xs
causes b m n [] f a r = tt
causes b m n (x ∷ xs) f a r =
    let l = reads_later r.0 m xs r.2 in (
      up_to b r.0 n x.0 x.1 (omega (arith, f, l.read_faults)) (omega (arith, a, l.absents)) r.1.cause,
      all_earlier b r.0 n xs (one_later b r.0 x.0 x.1 r.1) (causes r.0 m n xs f a r.2),
    )
