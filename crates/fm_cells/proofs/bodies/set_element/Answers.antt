use Rattle.std.proofs.Common.{◌+◌, ◌*◌, ◌/◌, ◌^◌, ◌≤◌, ◌∙◌, ap, subst, sym, get_or, set}
use Rattle.fm_cells.specs.inner.Words.{with_digit}
use Rattle.fm_cells.proofs.DigitLaws.{low_bits, bits-some, bits-within}
use Rattle.fm_cells.proofs.bodies.set_element.Goals as goal

pub with_digit-requires-clause-some : goal.with_digit-requires-clause-some
with_digit-requires-clause-some c = bits-some c.args.exponent c.requires.small

pub with_digit-requires-clause-within : goal.with_digit-requires-clause-within
with_digit-requires-clause-within c =
    subst (λ index. 64 / 2 ^ c.args.exponent * index + 64 / 2 ^ c.args.exponent ≤ 64) (sym (low_bits c.args.place c.args.exponent c.requires.small)) (bits-within c.args.place c.args.exponent c.requires.small)

pub returns : goal.returns
returns c =
    let at = c.args.start + c.args.place / 2 ^ c.args.exponent in
    let word = get_or c.args.words.now at 0 in
    ap (set c.args.words.now at) (c.with_digit.ensures ∙ ap (λ index. with_digit (64 / 2 ^ c.args.exponent) index c.args.element word) (low_bits c.args.place c.args.exponent c.requires.small))
