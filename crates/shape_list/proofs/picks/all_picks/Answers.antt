use Rattle.std.proofs.Common.{◌∙◌, ap, length}
use Rattle.shape_list.proofs.Listing.{if_all}
use Rattle.shape_list.proofs.picks.all_picks.Goals as goal

pub returns : goal.returns
returns c = if_all (λ v. v.items) c.args.names.now _ _ c.requires (ap length c.items.ensures) (c.in_ok-root.ensures ∙ c.as_slice.ensures) c.list.result c.list.ensures
