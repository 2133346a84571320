-- Each row by its lemma, at the count that the code takes.
use Rattle.std.proofs.Common.{rules, sym, subst, w64, ◌≡◌, ◌^◌, ◌/◌, pos, of_z, ap, ◌∙◌}
use Rattle.std.proofs.lemmas.Int.{to_z-of_z}
use Rattle.fm_alu.specs.TwosComplement.{low_bits, signed}
use Rattle.fm_alu.specs.Laws.{IsFloor}
use Rattle.fm_alu.proofs.LawsLemmas.{floors}
use Rattle.std.proofs.lemmas.Nat.{pow_pos}
use Rattle.fm_alu.proofs.TwosComplementLemmas.{low_bits-lt}
use Rattle.fm_alu.proofs.ShiftsLemmas.{left-is, right-is, right_with_zeros-is, count_6}
use Rattle.fm_alu.proofs.shifts.long_shift.Goals as goal

pub returns-in-Left-clause-value : goal.returns-in-Left-clause-value
returns-in-Left-clause-value c =
    let k = low_bits 6 c.args.n in
    let e = count_6 c.args.n c.cast_unsigned-count.result c.ranges.n c.cast_unsigned-count.ensures in
    let r = left-is w64 c.args.a c.ranges.a k (low_bits-lt 6 c.args.n) in
    rw e (search (rules, r))

pub returns-in-Right-clause-value : goal.returns-in-Right-clause-value
returns-in-Right-clause-value c =
    let k = low_bits 6 c.args.n in
    let e = count_6 c.args.n c.cast_unsigned-count.result c.ranges.n c.cast_unsigned-count.ensures in
    let r = right-is w64 c.args.a c.ranges.a k in
    rw e (search (rules, r))

pub returns-in-RightZero-clause-value : goal.returns-in-RightZero-clause-value
returns-in-RightZero-clause-value c =
    let k = low_bits 6 c.args.n in
    let e = count_6 c.args.n c.cast_unsigned-count.result c.ranges.n c.cast_unsigned-count.ensures in
    let u = c.cast_unsigned.ensures ∙ ap (of_z w64) (to_z-of_z w64 c.args.a c.ranges.a) in
    let r = right_with_zeros-is w64 c.args.a c.ranges.a k in
    let v : c.cast_signed.result ≡ signed 64 (pos (low_bits 64 c.args.a / 2 ^ k)) = cc in
    search (rules, v)

pub returns-in-Right-clause-floor : goal.returns-in-Right-clause-floor
returns-in-Right-clause-floor c =
    let k = low_bits 6 c.args.n in
    let e = count_6 c.args.n c.cast_unsigned-count.result c.ranges.n c.cast_unsigned-count.ensures in
    let r = right-is w64 c.args.a c.ranges.a k in
    rw e (λ _. subst (IsFloor c.args.a (2 ^ k)) (sym r) (floors c.args.a (2 ^ k) (pow_pos k)))
