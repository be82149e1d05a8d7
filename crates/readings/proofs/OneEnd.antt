-- Symbols stop to begin a tree at one place at most, and nowhere where they spell one.
use Rattle.std.proofs.Common.{◌≡◌, ◌⊎◌, inl, inr, List, [], ◌∷◌, ◌++◌, refl, ap, sym, ◌∙◌, subst, append_assoc, append-nil, ⊎_elim}
use Rattle.readings.specs.Symbol.{Symbol}
use Rattle.readings.specs.Whole.{BeginsOne, EndsBefore}

module _ {D : Type 0} (Spells : List Symbol → D → Type 0) where
  -- what stands before more symbols begins what they begin
  pub begins_before : (front more : List Symbol) → BeginsOne Spells (front ++ more) → BeginsOne Spells front
  begins_before front more b = record {
    further = more ++ b.further;
    tree = b.tree;
    spells = subst (λ u. Spells u b.tree) (append_assoc front more b.further) b.spells;
  }

  -- symbols that are a tree's don't stop to begin one
  pub goes_through : (d : D) (ss front left : List Symbol) → Spells ss d → ss ≡ front ++ left → EndsBefore Spells front left → ⊥
  goes_through d ss front [] t i h = h d (subst (λ u. Spells u d) (i ∙ append-nil front) t)
  goes_through d ss front (c ∷ left) t i h = h
      (record { further = left; tree = d; spells = subst (λ u. Spells u d) (i ∙ sym (append_assoc front (c ∷ []) left)) t })

  -- what the one front has beyond the other
  record Beyond (f g l k : List Symbol) : Type 0 where
    first : Symbol
    others : List Symbol
    longer : g ≡ f ++ (first ∷ others)
    shorter : l ≡ first ∷ (others ++ k)

  -- with one more symbol in front of both
  further : (c : Symbol) (f g l k : List Symbol) → Beyond f g l k → Beyond (c ∷ f) (c ∷ g) l k
  further c f g l k b = record { first = b.first; others = b.others; longer = ap (λ u. c ∷ u) b.longer; shorter = b.shorter }

  -- two ways to divide a list
  divided : (f g l k : List Symbol) → f ++ l ≡ g ++ k → (l ≡ k) ⊎ (Beyond f g l k ⊎ Beyond g f k l)
  divided [] [] l k e = inl e
  divided [] (c ∷ g) l k e = inr (inl (record { first = c; others = g; longer = refl; shorter = e }))
  divided (c ∷ f) [] l k e = inr (inr (record { first = c; others = f; longer = refl; shorter = sym e }))
  divided (c ∷ f) (d ∷ g) l k e =
      let same : c ≡ d = cc in
      let rest : f ++ l ≡ g ++ k = cc in
      ⊎_elim (λ h. inl h)
      (λ h.
      ⊎_elim (λ b. inr (inl (subst (λ x. Beyond (c ∷ f) (x ∷ g) l k) same (further c f g l k b))))
      (λ b. inr (inr (subst (λ x. Beyond (x ∷ g) (c ∷ f) k l) same (further c g f k l b)))) h)
      (divided f g l k rest)

  -- a front that begins a tree is no longer than one that stops
  no_longer : (f g l k : List Symbol) → Beyond f g l k → BeginsOne Spells g → EndsBefore Spells f l → ⊥
  no_longer f g l k b h stops =
      let s : EndsBefore Spells f (b.first ∷ (b.others ++ k)) = subst (EndsBefore Spells f) b.shorter stops in
      s (begins_before (f ++ b.first ∷ []) b.others (subst (BeginsOne Spells) (b.longer ∙ sym (append_assoc f (b.first ∷ []) b.others)) h))

  -- so there is one place where symbols stop to begin a tree
  pub one_left : (f g l k : List Symbol) → f ++ l ≡ g ++ k → BeginsOne Spells f → BeginsOne Spells g → EndsBefore Spells f l → EndsBefore Spells g k → l ≡ k
  one_left f g l k e a b h i = ⊎_elim (λ s. s) (λ s. ⊎_elim (λ x. absurd (no_longer f g l k x b h)) (λ x. absurd (no_longer g f k l x a i)) s) (divided f g l k e)
