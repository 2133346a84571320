use Rattle.std.proofs.Common.{◌≡◌, ◌++◌, ◌^◌, ◌<◌, ◌∙◌, map, sym, ap, subst, arith}
use Rattle.std.specs.List.{AllByRecursion, flat_map}
use Rattle.std.specs.Str.Iter.{split_has_more, split_pattern, split_text}
use Rattle.std.proofs.lemmas.Iterator.Consumers.{YieldsList-end}
use Rattle.std.proofs.lemmas.Iterator.Splits.{YieldsList-from_str_split}
use Rattle.std.proofs.lemmas.List.{map_push}
use Rattle.fm_base.proofs.ListFacts.{AllByRecursion-append}
use Rattle.fm_cli_requests.proofs.ArgumentLemmas.{given_more}
use Rattle.fm_cli_requests.specs.Arguments.{argument_of}
use Rattle.fm_cli_requests.proofs.arguments.arguments_of.Goals as goal

pub loop-piece-preserved : goal.loop-piece-preserved
loop-piece-preserved c =
    let put = c.in_ok-push_argument.ensures.given in
    let piece = c.in-Some.piece in
    let pieces = map (λ p. p.now) c.loop-piece.yielded in (
      put ∙ ap (λ given. given ++ argument_of piece.now) c.loop-piece.invariant.0 ∙ sym (given_more argument_of pieces piece.now)
          ∙ ap (flat_map argument_of) (sym (map_push (λ p. p.now) c.loop-piece.yielded piece)),
      subst (AllByRecursion (λ argument. AllByRecursion (λ unit. unit < 2 ^ 16) argument)) (sym put)
          (AllByRecursion-append (λ argument. AllByRecursion (λ unit. unit < 2 ^ 16) argument) _ (argument_of piece.now) c.loop-piece.invariant.1 c.in_ok-push_argument.ensures.units),
    )

pub returns-clause-given : goal.returns-clause-given
returns-clause-given c =
    let pieces = c.into_iter-piece-iterator.result in
    let same : pieces ≡ c.split-piece-items.result = c.into_iter-piece-iterator.ensures.into_iter_gives in
    let cut = c.split-piece-items.ensures in
    let all = YieldsList-from_str_split {s = pieces} 32 c.args.text.now (omega arith) (ap split_text same ∙ cut.text) (ap split_has_more same ∙ cut.has_more) (ap split_pattern same ∙ cut.pattern) in
    let t = YieldsList-end all c.loop-piece.yielded _ c.loop-piece.yielded_by _ _ c.in-None.is c.next.ensures.steps in
    c.loop-piece.invariant.0 ∙ ap (flat_map argument_of) t.0
