use Rattle.std.proofs.Common.{◌++◌, ◌^◌, ◌<◌, ◌∙◌, sym, ap, subst}
use Rattle.std.specs.Char.Escape.{encode_utf16}
use Rattle.std.specs.List.{AllByRecursion, flat_map}
use Rattle.std.proofs.lemmas.Iterator.{YieldsList-from_chars}
use Rattle.std.proofs.lemmas.Iterator.Consumers.{YieldsList-end}
use Rattle.std.proofs.lemmas.List.{map-id}
use Rattle.fm_base.proofs.ListFacts.{AllByRecursion-append}
use Rattle.fm_cli_requests.proofs.ArgumentLemmas.{given_more}
use Rattle.fm_cli_requests.proofs.arguments.units_of.Goals as goal

pub loop-character-preserved : goal.loop-character-preserved
loop-character-preserved c =
    let put = c.in_ok-put_character.ensures.given in
    let cs = c.loop-character.yielded in (
      put ∙ ap (λ us. us ++ encode_utf16 c.in-Some.character) c.loop-character.invariant.0 ∙ sym (given_more encode_utf16 cs c.in-Some.character),
      subst (AllByRecursion (λ unit. unit < 2 ^ 16)) (sym put) (AllByRecursion-append (λ unit. unit < 2 ^ 16) _ (encode_utf16 c.in-Some.character) c.loop-character.invariant.1 c.put_character.ensures.units),
    )

pub returns-clause-given : goal.returns-clause-given
returns-clause-given c =
    let t = YieldsList-end (YieldsList-from_chars c.args.text.now c.utf8.text cc) c.loop-character.yielded _ c.loop-character.yielded_by _ _ c.in-None.is c.next.ensures.steps in
    c.new.ensures ∙ c.loop-character.invariant.0 ∙ ap (flat_map encode_utf16) (sym (map-id c.loop-character.yielded) ∙ t.0)
