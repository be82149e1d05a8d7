-- The words of the reader as definitions see them. Private: its contracts cite it.
use Rattle.nml_read.specs.declared.types.Kind.{Kind}
use Rattle.nml_read.specs.declared.item.Opening.{Opening}
use Rattle.nml_grammar.specs.ReadingItems as items
use Rattle.nml_read.specs.declared.types.Kind.TheVariants as kinds
use Rattle.nml_read.specs.declared.item.Opening.TheVariants as openings
use Rattle.nml_tree.specs.declared.tree.StorageWord.TheVariants as storage_words
use Rattle.nml_tree.specs.declared.tree.PortWord.TheVariants as port_words

abbrev pub seen_kind : Kind → items.Kind
seen_kind kinds.Truth = items.Truth
seen_kind kinds.Card = items.Card
seen_kind kinds.Int = items.Int
seen_kind kinds.Fix = items.Fix
seen_kind kinds.Float = items.Float

abbrev pub seen_opening : Opening → items.Opening
seen_opening openings.Let = items.Letting
seen_opening openings.Type = items.Typing
seen_opening openings.Mem = items.Storing storage_words.Mem
seen_opening openings.Reg = items.Storing storage_words.Reg
seen_opening openings.Trn = items.Porting port_words.Trn
seen_opening openings.Inp = items.Porting port_words.Inp
seen_opening openings.Out = items.Porting port_words.Out
seen_opening openings.Op = items.Operation
seen_opening openings.Mode = items.Moding
