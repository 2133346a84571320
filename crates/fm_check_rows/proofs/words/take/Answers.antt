use Rattle.std.proofs.Common.{◌≡◌, ◌+◌, ◌-◌, ◌<◌, sym, ◌∙◌, ap, [], length, reverse, take, arith, rules}
use Rattle.fm_types.specs.States.{taken}
use Rattle.fm_types.specs.declared.slots.Slot.TheVariants as slot
use Rattle.fm_check_rows.proofs.WordLemmas.{taken-empty}
use Rattle.fm_check_rows.proofs.words.take.Goals as goal

pub returns-in_default : goal.returns-in_default
returns-in_default c =
    let o = c.args.program.now.outline in
    let wanted = c.args.wanted.now in
    let left = c.loop-left.left in
    let some : 0 < left = omega (arith, c.loop-left-test.true) in
    let inside : left - 1 < length wanted = omega (arith, some, c.loop-left.invariant.within) in
    let again : left - 1 + 1 ≡ left = omega (arith, some) in
    let empty : c.loop-left.stack ≡ [] = search rules in
    sym (taken-empty o wanted (left - 1) slot.Top inside)
    ∙ ap (λ k. taken o (reverse (take k wanted)) []) again
    ∙ ap (λ stack. taken o (reverse (take left wanted)) stack) (sym empty)
    ∙ c.loop-left.invariant.same
