-- Readings of single symbols and of what begins with a word keep the law.
use Rattle.std.proofs.Common.{◌≡◌, ℕ, List, [], ◌∷◌, Option, Some, None, option_map, refl, ap, sym}
use Rattle.nml_tree.specs.declared.names.Name.{Name}
use Rattle.nml_tree.specs.declared.names.Number.{Number}
use Rattle.nml_tree.specs.declared.names.Quoted.{Quoted}
use Rattle.nml_tree.specs.declared.tree.Size.{Size}
use Rattle.readings.specs.Symbol.{Symbol}
use Rattle.nml_tree.specs.Spell.{name_spelling, number_spelling, string_spelling, size_spelling}
use Rattle.readings.specs.Readings.{given}
use Rattle.nml_grammar.specs.Words.{size, name, number, string}
use Rattle.readings.proofs.Symbols.{some_is, none_is_none}
use Rattle.readings.specs.Lawful.{IsReading, Any, Anywhere}
use Rattle.readings.proofs.Combining.{picked}
use Rattle.readings.proofs.CombiningWords.{single_law}
use Rattle.nml_tree.specs.declared.tree.Size.TheVariants as size_case

-- a name
abbrev name_pick : Symbol → Option Name
name_pick (Symbol.Fixed at text) = None
name_pick (Symbol.Named at text) = Some (record { at = at; text = text })
name_pick (Symbol.Number at value) = None
name_pick (Symbol.Quoted at text) = None

-- so a name is read lawfully
pub name_law : IsReading name_spelling Any Anywhere name
name_law = single_law name_spelling name name_pick (λ n. refl) goes is (λ y. (Symbol.Named y.at y.text, refl)) (record { at = 0; text = [] })
  where
    goes : (n : ℕ) (s : Symbol) (ss : List Symbol) → name n (s ∷ ss) ≡ picked n s ss (option_map given (name_pick s))
    goes n (Symbol.Fixed at text) ss = refl
    goes n (Symbol.Named at text) ss = refl
    goes n (Symbol.Number at value) ss = refl
    goes n (Symbol.Quoted at text) ss = refl

    is : (s : Symbol) (x : Name) → name_pick s ≡ Some x → name_spelling x ≡ s ∷ []
    is (Symbol.Fixed at text) x e = none_is_none x e
    is (Symbol.Named at text) x e = ap name_spelling (sym (some_is (record { at = at; text = text }) x e))
    is (Symbol.Number at value) x e = none_is_none x e
    is (Symbol.Quoted at text) x e = none_is_none x e

-- a number
abbrev number_pick : Symbol → Option Number
number_pick (Symbol.Fixed at text) = None
number_pick (Symbol.Named at text) = None
number_pick (Symbol.Number at value) = Some (record { at = at; value = value })
number_pick (Symbol.Quoted at text) = None

-- so a number is
pub number_law : IsReading number_spelling Any Anywhere number
number_law = single_law number_spelling number number_pick (λ n. refl) goes is (λ y. (Symbol.Number y.at y.value, refl)) (record { at = 0; value = 0 })
  where
    goes : (n : ℕ) (s : Symbol) (ss : List Symbol) → number n (s ∷ ss) ≡ picked n s ss (option_map given (number_pick s))
    goes n (Symbol.Fixed at text) ss = refl
    goes n (Symbol.Named at text) ss = refl
    goes n (Symbol.Number at value) ss = refl
    goes n (Symbol.Quoted at text) ss = refl

    is : (s : Symbol) (x : Number) → number_pick s ≡ Some x → number_spelling x ≡ s ∷ []
    is (Symbol.Fixed at text) x e = none_is_none x e
    is (Symbol.Named at text) x e = none_is_none x e
    is (Symbol.Number at value) x e = ap number_spelling (sym (some_is (record { at = at; value = value }) x e))
    is (Symbol.Quoted at text) x e = none_is_none x e

-- a string
abbrev string_pick : Symbol → Option Quoted
string_pick (Symbol.Fixed at text) = None
string_pick (Symbol.Named at text) = None
string_pick (Symbol.Number at value) = None
string_pick (Symbol.Quoted at text) = Some (record { at = at; text = text })

-- so a string is
pub string_law : IsReading string_spelling Any Anywhere string
string_law = single_law string_spelling string string_pick (λ n. refl) goes is (λ y. (Symbol.Quoted y.at y.text, refl)) (record { at = 0; text = [] })
  where
    goes : (n : ℕ) (s : Symbol) (ss : List Symbol) → string n (s ∷ ss) ≡ picked n s ss (option_map given (string_pick s))
    goes n (Symbol.Fixed at text) ss = refl
    goes n (Symbol.Named at text) ss = refl
    goes n (Symbol.Number at value) ss = refl
    goes n (Symbol.Quoted at text) ss = refl

    is : (s : Symbol) (x : Quoted) → string_pick s ≡ Some x → string_spelling x ≡ s ∷ []
    is (Symbol.Fixed at text) x e = none_is_none x e
    is (Symbol.Named at text) x e = none_is_none x e
    is (Symbol.Number at value) x e = none_is_none x e
    is (Symbol.Quoted at text) x e = ap string_spelling (sym (some_is (record { at = at; text = text }) x e))

-- a size
abbrev size_pick : Symbol → Option Size
size_pick (Symbol.Fixed at text) = None
size_pick (Symbol.Named at text) = Some (size_case.Name (record { at = at; text = text }))
size_pick (Symbol.Number at value) = Some (size_case.Number (record { at = at; value = value }))
size_pick (Symbol.Quoted at text) = None

-- so a size is
pub size_law : IsReading size_spelling Any Anywhere size
size_law = single_law size_spelling size size_pick (λ n. refl) goes is first (size_case.Number (record { at = 0; value = 0 }))
  where
    goes : (n : ℕ) (s : Symbol) (ss : List Symbol) → size n (s ∷ ss) ≡ picked n s ss (option_map given (size_pick s))
    goes n (Symbol.Fixed at text) ss = refl
    goes n (Symbol.Named at text) ss = refl
    goes n (Symbol.Number at value) ss = refl
    goes n (Symbol.Quoted at text) ss = refl

    is : (s : Symbol) (x : Size) → size_pick s ≡ Some x → size_spelling x ≡ s ∷ []
    is (Symbol.Fixed at text) x e = none_is_none x e
    is (Symbol.Named at text) x e = ap size_spelling (sym (some_is (size_case.Name (record { at = at; text = text })) x e))
    is (Symbol.Number at value) x e = ap size_spelling (sym (some_is (size_case.Number (record { at = at; value = value })) x e))
    is (Symbol.Quoted at text) x e = none_is_none x e

    first : (y : Size) → (s : Symbol) × (size_pick s ≡ Some y)
    first (size_case.Number n) = (Symbol.Number n.at n.value, refl)
    first (size_case.Name n) = (Symbol.Named n.at n.text, refl)
