use Rattle.std.proofs.Common.{◌≡◌, ◌++◌, ◌∷◌, [], suc, ◌<◌, ◌^◌, ap, sym, ◌∙◌, subst, arith}
use Rattle.std.specs.List.{All}
use Rattle.std.proofs.lemmas.List.{append_assoc}
use Rattle.fm_base.specs.Texts.{units}
use Rattle.fm_base.proofs.texts.Units.from_modified_utf8.Goals as goal

pub loop-unit-preserved : goal.loop-unit-preserved
loop-unit-preserved c =
    let read = c.loop-unit.units.items in
    let after = units c.in-Some.after.now in
    let taken : units c.loop-unit.rest.now ≡ c.in-Some.unit ∷ after = c.in-Some.ensures.0 in
    let few : All (λ unit. unit < 2 ^ 16) (c.in-Some.unit ∷ after) = subst (All (λ unit. unit < 2 ^ 16)) taken c.loop-unit.invariant.few in
    let pushed : c.push.new.self.items ≡ read ++ c.in-Some.unit ∷ [] = c.in_ok-push.ensures.items in
    record {
      few = λ k d within. few (suc k) d (omega (arith, within));
      whole =
          ap (λ us. us ++ after) pushed ∙ append_assoc read (c.in-Some.unit ∷ []) after ∙ sym (ap (λ us. read ++ us) taken)
          ∙ c.loop-unit.invariant.whole;
    }
