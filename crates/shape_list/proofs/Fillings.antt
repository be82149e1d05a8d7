-- What the parameters give, one after the other.
use Rattle.std.proofs.Common.{◌≡◌, ℕ, ℤ, zero, suc, ◌+◌, ◌≤◌, Bool, true, false, add-one, List, [], ◌∷◌, ◌++◌, append-nil, append_assoc, map, length, replicate, refl, ap, sym, ◌∙◌, arith, Option, Some, None}
use Rattle.std.specs.Prelude.{slice_get, min, ◌&&◌, nat_le}
use Rattle.std.proofs.lemmas.Bool.{leb-true}
use Rattle.std.proofs.lemmas.List.{length-append}
use Rattle.nk_base.specs.declared.number.Ty.{Ty}
use Rattle.nk_base.specs.declared.number.Ty.TheVariants as ty
use Rattle.nk_base.specs.Number.{width_of}
use Rattle.nml_tree.specs.declared.tree.Par.{Par}
use Rattle.nml_tree.specs.declared.attributes.Template.{Template}
use Rattle.nml_tree.specs.Derivation.{Derivation, Arguments, Pick, Compose, NoMore, Part, Field, fields, fields_of, picks_of}
use Rattle.nml_tree.specs.Edge as edge
use Rattle.nml_tree.specs.Edge.{Flat, flat, flats}
use Rattle.nml_tree.specs.Image.{bit}
use Rattle.nml_tree.specs.Outline as outline
use Rattle.nml_tree.specs.Outline.{OutlineBit, outline_bits, outlines, types, types_of}
use Rattle.nml_tree.specs.Table as spec
use Rattle.nml_tree.specs.Table.{Text, Table, parameter_of}
use Rattle.nml_tree.specs.Template.{text_of}
use Rattle.nml_tree.specs.Worth.{is_type}
use Rattle.attr_eval.specs.Walks.{from, Walks, WalksAll}
use Rattle.attr_eval.proofs.Images.{among}
use Rattle.attr_eval.proofs.Steps.{from_past, walks_at, field_at}
use Rattle.nml_known.specs.Known.{told}
use Rattle.shape_list.specs.declared.text.Glyph.TheVariants as glyph
use Rattle.shape_list.specs.declared.text.Given.{Given}
use Rattle.shape_list.specs.declared.sketch.Sketch.{Sketch}
use Rattle.shape_list.specs.declared.sketch.Filling.{Filling}
use Rattle.shape_list.specs.Drawn.{bit_of, flat_of, named, bits_named, flats_named, Draws, Filled, Added}
use Rattle.shape_list.proofs.Texts.{map_append, seen_text, bits_seen, flats_seen}

mutual
  types_many : (d : Derivation) → length (types d) ≡ length (fields d)
  types_many (Pick n d) = types_many d
  types_many (Compose rule args) = types_of_many args

  types_of_many : (a : Arguments) → length (types_of a) ≡ length (fields_of a)
  types_of_many NoMore = refl
  types_of_many (Part name d args) =
      length-append (types d) (types_of args) ∙ ap (λ n. n + length (types_of args)) (types_many d) ∙ ap (λ n. length (fields d) + n) (types_of_many args) ∙ sym (length-append (fields d) (fields_of args))
  types_of_many (Field name u z args) = ap suc (types_of_many args)

-- so far the parameters before this number gave what they give, and their picks are taken
pub record Kept (first : ℕ) (args : Arguments) (k : ℕ) (f : Filling) (ps ks : List ℕ) : Type 0 where
  pub types_are : f.types.items ++ types_of (from k args) ≡ types_of args
  pub images_are : bits_named f.images.items ++ outlines (first + length f.types.items) (from k args) ≡ outlines first args
  pub syntaxes_are : flats_named f.syntaxes.items ++ flats (first + length f.types.items) (from k args) ≡ flats first args
  pub picks_are : ps ≡ picks_of (from k args) ++ ks

pub kept_none : (first : ℕ) (args : Arguments) (f : Filling) (ps ks : List ℕ) → f.types.items ≡ [] → f.images.items ≡ [] → f.syntaxes.items ≡ [] → ps ≡ picks_of args ++ ks → Kept first args 0 f ps ks
kept_none first args f ps ks a b c is =
    let e : first + 0 ≡ first = omega arith in
    record { types_are = rw a refl; images_are = rw (a, b, e) refl; syntaxes_are = rw (a, c, e) refl; picks_are = is }

kept_more : (first : ℕ) (args rest : Arguments) (i k : ℕ) (old new : Filling) (ts : List Ty) (name : Text) (bs : List OutlineBit) (fs : List Flat) (ps qs ks : List ℕ)
    → types_of (from i args) ≡ ts ++ types_of rest
    → outlines (first + length old.types.items) (from i args) ≡ (name, bs) ∷ outlines (first + length old.types.items + length ts) rest
    → flats (first + length old.types.items) (from i args) ≡ (name, fs) ∷ flats (first + length old.types.items + length ts) rest
    → from k args ≡ rest → Added old new ts name bs fs → qs ≡ picks_of rest ++ ks → Kept first args i old ps ks → Kept first args k new qs ks
kept_more first args rest i k old new ts name bs fs ps qs ks t_is o_is f_is left added taken kept =
    let many : first + length new.types.items ≡ first + length old.types.items + length ts = (let l = ap length added.types_are in let m = length-append old.types.items ts in omega (arith, l, m)) in
    record {
      types_are = rw (left, added.types_are) (append_assoc old.types.items ts (types_of rest) ∙ ap (λ xs. old.types.items ++ xs) (sym t_is) ∙ kept.types_are);
      images_are = rw (left, many, added.images_are) (append_assoc (bits_named old.images.items) ((name, bs) ∷ []) (outlines (first + length old.types.items + length ts) rest) ∙ ap (λ xs. bits_named old.images.items ++ xs) (sym o_is) ∙ kept.images_are);
      syntaxes_are = rw (left, many, added.syntaxes_are) (append_assoc (flats_named old.syntaxes.items) ((name, fs) ∷ []) (flats (first + length old.types.items + length ts) rest) ∙ ap (λ xs. flats_named old.syntaxes.items ++ xs) (sym f_is) ∙ kept.syntaxes_are);
      picks_are = rw left taken;
    }

pub kept_part : (first : ℕ) (args : Arguments) (i : ℕ) (old new : Filling) (name : Text) (d : Derivation) (ps qs ks : List ℕ) → from i args ≡ Part name d (from (suc i) args)
    → Added old new (types d) name (outline_bits (first + length old.types.items) d) (edge.Seam ∷ (flat (first + length old.types.items) d ++ edge.Seam ∷ []))
    → qs ≡ picks_of (from (suc i) args) ++ ks → Kept first args i old ps ks → Kept first args (suc i) new qs ks
kept_part first args i old new name d ps qs ks is added taken kept =
    let m = first + length old.types.items in
    kept_more first args (from (suc i) args) i (suc i) old new (types d) name (outline_bits m d) (edge.Seam ∷ (flat m d ++ edge.Seam ∷ [])) ps qs ks
    (ap types_of is)
    (ap (outlines m) is ∙ ap (λ n. (name, outline_bits m d) ∷ outlines (m + n) (from (suc i) args)) (sym (types_many d)))
    (ap (flats m) is ∙ ap (λ n. (name, edge.Seam ∷ (flat m d ++ edge.Seam ∷ [])) ∷ flats (m + n) (from (suc i) args)) (sym (types_many d)))
    refl added taken kept

pub kept_field : (first : ℕ) (args : Arguments) (i : ℕ) (old new : Filling) (x : Text) (u : Ty) (z : ℤ) (ps qs ks : List ℕ) → from i args ≡ Field x u z (from (suc i) args)
    → Added old new (u ∷ []) x (replicate (width_of u) (outline.Free (first + length old.types.items))) (edge.Number (first + length old.types.items) ∷ [])
    → qs ≡ ps → Kept first args i old ps ks → Kept first args (suc i) new qs ks
kept_field first args i old new x u z ps qs ks is added taken kept =
    let m = first + length old.types.items in
    kept_more first args (from (suc i) args) i (suc i) old new (u ∷ []) x (replicate (width_of u) (outline.Free m)) (edge.Number m ∷ []) ps qs ks
    (ap types_of is) (ap (outlines m) is) (ap (flats m) is) refl added (taken ∙ kept.picks_are ∙ ap (λ a. picks_of a ++ ks) is) kept

pub kept_all : (t : Table) (pars : List Par) (n first : ℕ) (args : Arguments) (ps : List ℕ) (zs : List ℤ) (ks : List ℕ) (ys : List ℤ) (k : ℕ) (f : Filling) (qs : List ℕ) → WalksAll t pars n args ps zs ks ys → length pars ≤ k → Kept first args k f qs ks
    → Filled f (types_of args) (outlines first args) (flats first args) × (qs ≡ ks)
kept_all t pars n first args ps zs ks ys k f qs w past kept =
    let none : from k args ≡ NoMore = from_past args t pars k w.fill past in (
      record {
        types_are = sym (append-nil f.types.items) ∙ ap (λ a. f.types.items ++ types_of a) (sym none) ∙ kept.types_are;
        images_are = sym (append-nil (bits_named f.images.items)) ∙ ap (λ a. bits_named f.images.items ++ outlines (first + length f.types.items) a) (sym none) ∙ kept.images_are;
        syntaxes_are = sym (append-nil (flats_named f.syntaxes.items)) ∙ ap (λ a. flats_named f.syntaxes.items ++ flats (first + length f.types.items) a) (sym none) ∙ kept.syntaxes_are;
      },
      kept.picks_are ∙ ap (λ a. picks_of a ++ ks) none,
    )

-- what a field gives
pub field_added : (old new : Filling) (u : Ty) (name : Text) (n : ℕ) (image text : Given) → new.types.items ≡ old.types.items ++ u ∷ [] → new.images.items ≡ old.images.items ++ image ∷ [] → new.syntaxes.items ≡ old.syntaxes.items ++ text ∷ []
    → image.name.now ≡ name → text.name.now ≡ name → image.text.items ≡ replicate (width_of u) (glyph.Field n) → text.text.items ≡ replicate 1 (glyph.Field n)
    → Added old new (u ∷ []) name (replicate (width_of u) (outline.Free n)) (edge.Number n ∷ [])
field_added old new u name n image text ts is ss a b c d = record {
  types_are = ts;
  images_are = ap bits_named is ∙ map_append (λ g. (g.name.now, map bit_of g.text.items)) old.images.items (image ∷ []) ∙ (rw (a, c, same (width_of u)) refl);
  syntaxes_are = ap flats_named ss ∙ map_append (λ g. (g.name.now, map flat_of g.text.items)) old.syntaxes.items (text ∷ []) ∙ (rw (b, d) refl);
}
  where
    same : (k : ℕ) → map bit_of (replicate k (glyph.Field n)) ≡ replicate k (outline.Free n)
    same zero = refl
    same (suc k) = ap (λ xs. outline.Free n ∷ xs) (same k)

and_right : (a b : Bool) → (a && b) ≡ true → b ≡ true
and_right true b h = h
and_right false b h = absurd cc

-- a type is told as it is
pub told_type : (u : Ty) → is_type u ≡ true → told u ≡ u
told_type ty.Bool h = refl
told_type (ty.Card n) h = let l = leb-true n 64 (and_right (nat_le 1 n) (nat_le n 64) h) in let e : min n 65 ≡ n = omega (arith, l) in ap ty.Card e
told_type (ty.Int n) h = let l = leb-true n 64 (and_right (nat_le 1 n) (nat_le n 64) h) in let e : min n 65 ≡ n = omega (arith, l) in ap ty.Int e

-- the image and the syntax of a rule
pub drawn : (s : Sketch) (f : Filling) (args : Arguments) (first : ℕ) (image syntax : Template) → Filled f (types_of args) (outlines first args) (flats first args)
    → s.types.items ≡ f.types.items → s.image.items ≡ text_of glyph.Letter (named f.images.items) image → s.syntax.items ≡ text_of glyph.Letter (named f.syntaxes.items) syntax
    → Draws s (types_of args) (text_of (λ c. outline.Fixed (bit c)) (outlines first args) image) (text_of edge.Letter (flats first args) syntax)
drawn s f args first image syntax filled a b c = record {
  types_are = a ∙ filled.types_are;
  image_is = ap (map bit_of) b ∙ seen_text bit_of glyph.Letter (named f.images.items) image ∙ ap (λ ps. text_of (λ c. outline.Fixed (bit c)) ps image) (bits_seen f.images.items ∙ filled.images_are);
  syntax_is = ap (map flat_of) c ∙ seen_text flat_of glyph.Letter (named f.syntaxes.items) syntax ∙ ap (λ ps. text_of edge.Letter ps syntax) (flats_seen f.syntaxes.items ∙ filled.syntaxes_are);
}

-- a parameter more
pub kept_next : (t : Table) (pars : List Par) (n first : ℕ) (args : Arguments) (ps : List ℕ) (zs : List ℤ) (ks : List ℕ) (ys : List ℤ) (i : ℕ) (x : Par) (old new : Filling) (qs rs : List ℕ) → WalksAll t pars n args ps zs ks ys → slice_get pars i ≡ Some x
    → ((rule : Text) (d : Derivation) (zs : List ℤ) (ks : List ℕ) (ys : List ℤ) → parameter_of t x.ty ≡ Some (spec.Parameter.Part rule) → Walks t rule n d qs zs ks ys
    → Added old new (types d) x.name.text (outline_bits (first + length old.types.items) d) (edge.Seam ∷ (flat (first + length old.types.items) d ++ edge.Seam ∷ [])) × (rs ≡ ks))
    → ((u : Ty) → parameter_of t x.ty ≡ Some (spec.Parameter.Field u) → is_type u ≡ true
    → Added old new (u ∷ []) x.name.text (replicate (width_of u) (outline.Free (first + length old.types.items))) (edge.Number (first + length old.types.items) ∷ []) × (rs ≡ qs))
    → Kept first args i old qs ks → Kept first args (i + 1) new rs ks
kept_next t pars n first args ps zs ks ys i x old new qs rs w stands part field kept = rw add-one (by (parameter_of t x.ty) refl)
  where
    is_field : ((rule : Text) → parameter_of t x.ty ≡ Some (spec.Parameter.Part rule) → ⊥) → Kept first args (suc i) new rs ks
    is_field not =
        let f = field_at args t pars i x w.fill stands not in
        let a = field f.ty f.is (w.here x f.ty (among pars i x stands) f.is) in
        kept_field first args i old new x.name.text f.ty f.z qs rs ks f.at a.0 a.1 kept

    by : (o : Option spec.Parameter) → parameter_of t x.ty ≡ o → Kept first args (suc i) new rs ks
    by None e = is_field (λ rule h. let g : Some (spec.Parameter.Part rule) ≡ None = sym h ∙ e in cc)
    by (Some (spec.Parameter.Field u)) e = is_field (λ rule h. let g : Some (spec.Parameter.Part rule) ≡ Some (spec.Parameter.Field u) = sym h ∙ e in cc)
    by (Some (spec.Parameter.Part rule)) e =
        let p = walks_at t pars n args ps zs ks ys i rule x qs (fields_of (from i args) ++ ys) w stands e kept.picks_are refl in
        let a = part rule p.0.of _ _ _ e p.1 in
        kept_part first args i old new x.name.text p.0.of qs rs ks p.0.at a.0 a.1 kept
