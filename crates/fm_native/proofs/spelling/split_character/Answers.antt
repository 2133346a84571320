use Rattle.std.proofs.Common.{sym, ◌∙◌, ap, ◌∷◌, arith}
use Rattle.std.specs.Char.Utf16.{utf16_chars}
use Rattle.fm_base.proofs.Utf16Lemmas.{no_units, with_last, with_pair, without_pair}
use Rattle.fm_native.proofs.spelling.split_character.Goals as goal
use Rattle.fm_native.proofs.spelling.split_character.Goals.{in-Some+else-is_surrogate_pair, in_default}

pub returns-in_err-unit : goal.returns-in_err-unit
returns-in_err-unit c =
    let none = no_units c.args.units.now c.in_err-unit.ensures in
    rw c.from_residual.ensures none

pub returns-then-is_surrogate_pair : goal.returns-then-is_surrogate_pair
returns-then-is_surrogate_pair c = (
  with_pair c.args.units.now c.in_ok-unit.after.now c.in-Some.after_next.now c.in_ok-unit.unit c.in-Some.next c.in_ok-unit.ensures.0 c.in-Some.ensures.0 c.if-is_surrogate_pair.ensures
      ∙ ap (λ character. character ∷ utf16_chars c.in-Some.after_next.now) (sym c.pair_character.ensures),
  (let first = c.in_ok-unit.ensures.2 in let second = c.in-Some.ensures.2 in omega arith),
)

pub returns : goal.returns
returns c = (
  elim c.match-split_unit.branch [
    | in-Some+else-is_surrogate_pair w ↦ without_pair c.args.units.now c.in_ok-unit.after.now w.in-Some.after_next.now c.in_ok-unit.unit w.in-Some.next c.in_ok-unit.ensures.0 w.in-Some.ensures.0 w.if-is_surrogate_pair.ensures
    | in_default w ↦ with_last c.args.units.now c.in_ok-unit.after.now c.in_ok-unit.unit c.in_ok-unit.ensures.0 w.in_default.ensures
  ] ∙ ap (λ character. character ∷ utf16_chars c.in_ok-unit.after.now) (sym c.lone_character.ensures),
  c.in_ok-unit.ensures.2,
)
