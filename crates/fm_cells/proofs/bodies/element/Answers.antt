use Rattle.std.proofs.Common.{◌+◌, ◌*◌, ◌/◌, ◌^◌, ◌≤◌, ◌∙◌, ap, subst, sym, get_or}
use Rattle.fm_cells.specs.inner.Words.{digit}
use Rattle.fm_cells.proofs.DigitLaws.{low_bits, bits-some, bits-within}
use Rattle.fm_cells.proofs.bodies.element.Goals as goal

pub digit-requires-clause-some : goal.digit-requires-clause-some
digit-requires-clause-some c = bits-some c.args.exponent c.requires.small

pub digit-requires-clause-within : goal.digit-requires-clause-within
digit-requires-clause-within c =
    subst (λ index. 64 / 2 ^ c.args.exponent * index + 64 / 2 ^ c.args.exponent ≤ 64) (sym (low_bits c.args.place c.args.exponent c.requires.small)) (bits-within c.args.place c.args.exponent c.requires.small)

pub returns : goal.returns
returns c = c.digit.ensures.value ∙ ap (λ index. digit (64 / 2 ^ c.args.exponent) index (get_or c.args.words.now (c.args.start + c.args.place / 2 ^ c.args.exponent) 0)) (low_bits c.args.place c.args.exponent c.requires.small)
