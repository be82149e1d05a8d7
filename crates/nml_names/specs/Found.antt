-- Names that are looked for where an item uses them.
use Rattle.std.specs.Prelude.{ℕ, max, nat_lt, ◌==◌, Bool, true, false, ◌||◌, ◌&&◌, not, List, [], ◌∷◌, ◌++◌, map, Option, Some, None, codes}
use Rattle.std.specs.List.{list_any}
use Rattle.std.specs.Map.{lookup}
use Rattle.nk_base.specs.Text.{text_eq}
use Rattle.indexmap.specs.IndexSet.{insert_key}
use Rattle.nml_tree.specs.declared.names.Name.{Name}
use Rattle.nml_tree.specs.declared.tree.Par.{Par}
use Rattle.nml_tree.specs.declared.tree.Pars.{Pars}
use Rattle.nml_tree.specs.Table.{Text, pars_of}
use Rattle.nml_tree.specs.declared.tree.PortWord.{PortWord}
use Rattle.nml_tree.specs.declared.tree.PortWord.TheVariants as port
use Rattle.nml_tree.specs.declared.tree.Item.{Item}
use Rattle.nml_tree.specs.declared.tree.Item.TheVariants as item
use Rattle.nml_tree.specs.NameFault.{is_register, is_rule}
use Rattle.nml_tree.specs.Places.{unless, when}
use Rattle.nml_tree.specs.Uses.{declares, parameters, uses}
use Rattle.nml_names.specs.declared.names.Declaration.{Declaration}
use Rattle.nml_names.specs.declared.scope.Scope.{Scope}
use Rattle.nml_names.specs.Note.{noted}

-- declared before the item of this number
abbrev pub is_before : ℕ → Option Declaration → Bool
is_before k None = false
is_before k (Some d) = nat_lt d.first k

-- or as what may stand behind its use
abbrev pub is_declared : ℕ → Option Declaration → Bool
is_declared k None = false
is_declared k (Some d) = nat_lt d.first k || d.late

-- a parameter, or a name that is declared
abbrev pub is_found_in : List (Text × Declaration) → List Text → ℕ → Text → Bool
is_found_in names pars k name = list_any (text_eq name) pars || is_declared k (lookup (text_eq name) names)

-- a parameter of the item, or a declared name
abbrev pub is_found : Scope → Text → Bool
is_found s name = is_found_in s.names.now.entries s.pars.now.keys s.number name

-- the least of a place and those of the names that aren't known
abbrev pub met : (Text → Bool) → Option ℕ → List Name → Option ℕ
met known found [] = found
met known found (n ∷ names) = met known (noted found (unless (known n.text) n.at)) names

-- a parameter that repeats one of these, or is called `PC` or `instruction`
abbrev pub is_repeated : List Text → Name → Bool
is_repeated keys p = list_any (text_eq p.text) keys || text_eq p.text (codes "PC") || text_eq p.text (codes "instruction")

-- the places of parameters that can't be called so, these being before them
abbrev pub repeated : List Text → List Name → List ℕ
repeated keys [] = []
repeated keys (p ∷ ps) = when (is_repeated keys p) p.at ++ repeated (insert_key text_eq keys p.text) ps

-- the names of parameters
abbrev pub names_of : Option Pars → List Name
names_of pars = map (λ p. p.name) (pars_of pars)

-- and of further ones
abbrev pub names_in : List (ℕ × Par) → List Name
names_in rest = map (λ p. p.name) (map (λ (comma, p). p) rest)

-- these names and those
abbrev pub with_names : List Text → List Name → List Text
with_names keys [] = keys
with_names keys (p ∷ ps) = with_names (insert_key text_eq keys p.text) ps

-- the later of the place of a parameter and of the first declaration of its name
abbrev pub shared : ℕ → Option Declaration → List ℕ
shared at None = []
shared at (Some d) = max at d.place ∷ []

-- for each of the parameters
abbrev pub all_shared : List (Text × Declaration) → List Name → List ℕ
all_shared names [] = []
all_shared names (p ∷ ps) = shared p.at (lookup (text_eq p.text) names) ++ all_shared names ps

-- `inp`
abbrev pub is_inp_word : PortWord → Bool
is_inp_word (port.Inp at) = true
is_inp_word _ = false

-- `out`
abbrev pub is_out_word : PortWord → Bool
is_out_word (port.Out at) = true
is_out_word _ = false

-- an item that is the input
abbrev pub is_inp : Item → Bool
is_inp (item.Port p) = is_inp_word p.word
is_inp _ = false

-- an item that is the output
abbrev pub is_out : Item → Bool
is_out (item.Port p) = is_out_word p.word
is_out _ = false

-- a second port of its kind, where there is one of these before it
abbrev pub is_second : (inp out : Bool) → Item → Bool
is_second inp out i = (inp && is_inp i) || (out && is_out i)

-- the name that an item declares stands before, or isn't what it must be
abbrev pub own_places : List (Text × Declaration) → ℕ → (inp out : Bool) → Item → List ℕ
own_places names k inp out i =
    let n = declares i in
    when (is_before k (lookup (text_eq n.text) names)) n.at
    ++ when (is_second inp out i) n.at
    ++ when (text_eq n.text (codes "PC") && not (is_register i)) n.at
    ++ when (text_eq n.text (codes "instruction") && not (is_rule i)) n.at

-- the least of a place and those of an item
abbrev pub item_found : List (Text × Declaration) → ℕ → (inp out : Bool) → Item → Option ℕ → Option ℕ
item_found names k inp out i found =
    let ps = parameters i in
    noted (noted (met (is_found_in names (with_names [] ps) k) (noted found (repeated [] ps)) (uses i)) (own_places names k inp out i)) (all_shared names ps)

-- declared first by the item of this number
abbrev pub is_first : ℕ → Option Declaration → Bool
is_first k None = false
is_first k (Some d) = d.first == k
