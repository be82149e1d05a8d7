use Rattle.nml_shape.specs.First.{HaveTokens}
use Rattle.nml_types.proofs.Checks.{each_single, each_types, first_below, first_tokens, found_pair, images_free, second_below}
use Rattle.nml_types.proofs.checking.refuse_tokens.Goals as goal

pub first_syntax_pair-requires-clause-single : goal.first_syntax_pair-requires-clause-single
first_syntax_pair-requires-clause-single c = each_single c.args.d.now c.args.all.now c.requires.listed

pub first_syntax_pair-requires-clause-types : goal.first_syntax_pair-requires-clause-types
first_syntax_pair-requires-clause-types c = each_types c.args.d.now c.args.all.now c.requires.listed

pub shape_at-requires : goal.shape_at-requires
shape_at-requires c = first_below HaveTokens c.args.all.now _ _ (found_pair HaveTokens c.args.all.now _ _ _ c.in_ok-first_syntax_pair.ensures c.in-Some.is)

pub shape_at-requires-in-Some : goal.shape_at-requires-in-Some
shape_at-requires-in-Some c = second_below HaveTokens c.args.all.now _ _ (found_pair HaveTokens c.args.all.now _ _ _ c.in_ok-first_syntax_pair.ensures c.in-Some.is)

pub same_tokens-requires : goal.same_tokens-requires
same_tokens-requires c =
    first_tokens c.args.d.now c.args.all.now _ _ _ _ c.requires.listed (found_pair HaveTokens c.args.all.now _ _ _ c.in_ok-first_syntax_pair.ensures c.in-Some.is)
    c.shape_at.ensures c.shape_at-in-Some.ensures

pub returns-in_ok-same_tokens-in-Some : goal.returns-in_ok-same_tokens-in-Some
returns-in_ok-same_tokens-in-Some c = c.in_ok-same_tokens-in-Some.ensures (images_free c.args.d.now c.args.all.now c.requires.listed c.requires.images)
