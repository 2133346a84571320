use Rattle.std.proofs.Common.{sym, ◌∙◌, ap, ◌≡◌, ◌++◌, string_bytes, append-nil, append_assoc}
use Rattle.std.specs.Char.{encode_utf8}
use Rattle.fm_base.specs.Texts.{shown}
use Rattle.fm_cli.specs.Printed.{printed}
use Rattle.fm_cli.proofs.PrintedLemmas.{printed_next, printed_none}
use Rattle.fm_cli.proofs.printing.printed.Goals as goal

pub loop-character-preserved : goal.loop-character-preserved
loop-character-preserved c =
    let text = string_bytes c.loop-character.text in
    let after = printed c.in-Some.after.now in
    let next = printed_next c.loop-character.rest.now c.in-Some.after.now c.in-Some.character c.in-Some.ensures.0 in
    let bytes : string_bytes c.push.new.self ≡ text ++ encode_utf8 (shown c.in-Some.character) = c.in_ok-push.ensures.bytes ∙ ap (λ character. text ++ encode_utf8 character) c.unwrap_or.ensures in
    c.loop-character.invariant ∙ ap (λ rest. text ++ rest) next ∙ sym (append_assoc text (encode_utf8 (shown c.in-Some.character)) after) ∙ ap (λ front. front ++ after) (sym bytes)

pub returns : goal.returns
returns c =
    let none = printed_none c.loop-character.rest.now c.in_default.ensures in
    sym (c.loop-character.invariant ∙ ap (λ rest. string_bytes c.loop-character.text ++ rest) none ∙ append-nil (string_bytes c.loop-character.text))
