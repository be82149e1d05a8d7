-- An image's file tells the image.
use Rattle.std.proofs.Common.{◌≡◌, ℕ, ◌^◌, ◌<◌, List, [], ◌∷◌, ◌++◌, length, refl, sym, ap, subst, ◌∙◌, arith}
use Rattle.std.specs.Prelude.{flat_map}
use Rattle.std.specs.List.{AllByRecursion}
use Rattle.image_file.specs.File.{Picture, Init, IsInit, HasFile, big_endian, word_bytes, init_bytes, file}
use Rattle.image_file.proofs.Bytes.{same_front, same_number_front, same_words, word_fits}

pub init_is : (x y : Init) → x.storage ≡ y.storage → x.cell ≡ y.cell → x.value ≡ y.value → x ≡ y
init_is x y a b c =
    ap (λ (n : ℕ). record { storage = n; cell = x.cell; value = x.value }) a
    ∙ ap (λ (n : ℕ). record { storage = y.storage; cell = n; value = x.value }) b
    ∙ ap (λ (n : ℕ). record { storage = y.storage; cell = y.cell; value = n }) c

-- the bytes of a data cell before others
init_front : (x : Init) (us : List ℕ) → init_bytes x ++ us ≡ big_endian 2 x.storage ++ (big_endian 4 x.cell ++ (big_endian 8 x.value ++ us))
init_front x us = refl

same_inits : (xs ys : List Init) → AllByRecursion IsInit xs → AllByRecursion IsInit ys → length xs ≡ length ys → flat_map init_bytes xs ≡ flat_map init_bytes ys → xs ≡ ys
same_inits [] [] a b l e = refl
same_inits [] (y ∷ ys) a b l e = absurd (omega arith)
same_inits (x ∷ xs) [] a b l e = absurd (omega arith)
same_inits (x ∷ xs) (y ∷ ys) a b l e =
    let us = flat_map init_bytes xs in
    let vs = flat_map init_bytes ys in
    let p = same_number_front 2 x.storage y.storage (big_endian 4 x.cell ++ (big_endian 8 x.value ++ us)) (big_endian 4 y.cell ++ (big_endian 8 y.value ++ vs)) a.0.0 b.0.0 (sym (init_front x us) ∙ e ∙ init_front y vs) in
    let q = same_number_front 4 x.cell y.cell (big_endian 8 x.value ++ us) (big_endian 8 y.value ++ vs) a.0.1 b.0.1 p.1 in
    let r = same_number_front 8 x.value y.value us vs a.0.2 b.0.2 q.1 in
    let t = same_inits xs ys a.1 b.1 (omega arith) r.1 in
    let h = init_is x y p.0 q.0 r.0 in
    cc (h, t)

abbrev head : ℕ → List ℕ
head width = 78 ∷ 77 ∷ 76 ∷ 73 ∷ 1 ∷ width ∷ []

pub picture_is : (i j : Picture) → i.digest ≡ j.digest → i.width ≡ j.width → i.words ≡ j.words → i.inits ≡ j.inits → i ≡ j
picture_is i j a b c d =
    ap (λ (n : List ℕ). record { digest = n; width = i.width; words = i.words; inits = i.inits }) a
    ∙ ap (λ (n : ℕ). record { digest = j.digest; width = n; words = i.words; inits = i.inits }) b
    ∙ ap (λ (n : List ℕ). record { digest = j.digest; width = j.width; words = n; inits = i.inits }) c
    ∙ ap (λ (n : List Init). record { digest = j.digest; width = j.width; words = j.words; inits = n }) d

-- what follows the words
abbrev tail_of : List Init → List ℕ
tail_of inits = big_endian 4 (length inits) ++ flat_map init_bytes inits

abbrev words_of : ℕ → List ℕ → List ℕ
words_of width words = flat_map (big_endian (word_bytes width)) words

pub one : (i j : Picture) → HasFile i → HasFile j → file i ≡ file j → i ≡ j
one i j a b e =
    let after_i = words_of i.width i.words ++ tail_of i.inits in
    let after_j = words_of j.width j.words ++ tail_of j.inits in
    let p = same_front (head i.width) (head j.width) (i.digest ++ (big_endian 4 (length i.words) ++ after_i)) (j.digest ++ (big_endian 4 (length j.words) ++ after_j)) refl e in
    let width : i.width ≡ j.width = cc p.0 in
    let q = same_front i.digest j.digest (big_endian 4 (length i.words) ++ after_i) (big_endian 4 (length j.words) ++ after_j) (a.digest_is ∙ sym b.digest_is) p.1 in
    let r = same_number_front 4 (length i.words) (length j.words) after_i after_j (omega (arith, a.words_count)) (omega (arith, b.words_count)) q.1 in
    let e2 : after_i ≡ words_of i.width j.words ++ tail_of j.inits =
    r.1 ∙ ap (λ (w : ℕ). words_of w j.words ++ tail_of j.inits) (sym width) in
    let fits : AllByRecursion (λ w. w < 2 ^ i.width) j.words = subst (λ (n : ℕ). AllByRecursion (λ w. w < 2 ^ n) j.words) (sym width) b.words_fit in
    let s = same_words (word_bytes i.width) (2 ^ i.width) i.words j.words (tail_of i.inits) (tail_of j.inits) (word_fits i.width) a.words_fit fits r.0 e2 in
    let t = same_number_front 4 (length i.inits) (length j.inits) (flat_map init_bytes i.inits) (flat_map init_bytes j.inits) a.inits_count b.inits_count s.1 in
    picture_is i j q.0 width s.0 (same_inits i.inits j.inits a.inits_fit b.inits_fit t.0 t.1)
