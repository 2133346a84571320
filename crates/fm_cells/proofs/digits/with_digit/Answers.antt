use Rattle.std.proofs.Common.{◌≡◌, ◌+◌, ◌-◌, ◌*◌, ◌%◌, ◌^◌, ap, ◌∙◌, arith}
use Rattle.fm_cells.specs.inner.Words.{digit}
use Rattle.fm_cells.proofs.DigitLaws.{shifted-is, digit-lt, with_digit-lt}
use Rattle.fm_cells.proofs.digits.with_digit.Goals as goal

pub returns : goal.returns
returns c =
    let old : c.digit-old.result * 2 ^ (c.args.bits * c.args.place) % 18446744073709551616 ≡ digit c.args.bits c.args.place c.args.word * 2 ^ (c.args.bits * c.args.place) =
    ap (λ d. d * 2 ^ (c.args.bits * c.args.place) % 18446744073709551616) c.digit-old.ensures.value ∙ shifted-is c.args.bits c.args.place (digit c.args.bits c.args.place c.args.word) c.requires.within (digit-lt c.args.word c.args.bits c.args.place) in
    let new : c.args.value * 2 ^ (c.args.bits * c.args.place) % 18446744073709551616 ≡ c.args.value * 2 ^ (c.args.bits * c.args.place) = shifted-is c.args.bits c.args.place c.args.value c.requires.within c.requires.fits in
    ap (λ n. c.args.word - n + c.args.value * 2 ^ (c.args.bits * c.args.place) % 18446744073709551616) old ∙ ap (λ n. c.args.word - digit c.args.bits c.args.place c.args.word * 2 ^ (c.args.bits * c.args.place) + n) new

pub overflow_add-result : goal.overflow_add-result
overflow_add-result c =
    let old : c.digit-old.result * 2 ^ (c.args.bits * c.args.place) % 18446744073709551616 ≡ digit c.args.bits c.args.place c.args.word * 2 ^ (c.args.bits * c.args.place) =
    ap (λ d. d * 2 ^ (c.args.bits * c.args.place) % 18446744073709551616) c.digit-old.ensures.value ∙ shifted-is c.args.bits c.args.place (digit c.args.bits c.args.place c.args.word) c.requires.within (digit-lt c.args.word c.args.bits c.args.place) in
    let new : c.args.value * 2 ^ (c.args.bits * c.args.place) % 18446744073709551616 ≡ c.args.value * 2 ^ (c.args.bits * c.args.place) = shifted-is c.args.bits c.args.place c.args.value c.requires.within c.requires.fits in
    omega (arith, old, new, with_digit-lt c.args.word c.args.bits c.args.place c.args.value c.requires.within c.requires.fits (omega arith))
