use Rattle.std.proofs.Common.{◌∙◌, refl, sym, subst, ℕ, List, Contains}
use Rattle.fm_base.proofs.TestFacts.{match_true}
use Rattle.fm_check_handlers.proofs.GivingLemmas.{guarded-later}
use Rattle.fm_check_walk.proofs.Outcomes.{ok_weaker}
use Rattle.fm_check_walk.proofs.CarryLemmas.{can_carry_later}
use Rattle.fm_check.proofs.RiseLemmas.{CarriesOn-both, rises_local}
use Rattle.fm_check_walk.specs.declared.risen.Rise.{Rise}
use Rattle.fm_check.specs.inner.Steps.{CarriesOnGuarded, CarriesAll}
use Rattle.fm_check_handlers.specs.inner.Runs.{GivesAll, has_room}
use Rattle.fm_check_walk.specs.inner.Walks.{CanCarry, Untypable, walked}
use Rattle.fm_check_walk.specs.inner.Tasks.{task}
use Rattle.fm_check.proofs.carrying.carry_on.Goals as goal

pub give_to_levels-requires-clause-may : goal.give_to_levels-requires-clause-may
give_to_levels-requires-clause-may c =
    let is = c.as_slice.ensures.value ∙ c.in_ok-locals.ensures in
    record {
      local = λ rise found. rises_local c.args.rises.now rise (subst (λ (rs : List Rise). Contains rs rise) is found);
      carried = λ h holds.
          let Can : List Rise → Type 0 = λ rises. CanCarry (task c.args.method.now) (walked c.args.walk.now) h.handler rises in
          subst Can (sym is)
          (c.requires.ready.handlers h holds.listed (record { after_start = holds.after_start; before_end = holds.before_end; handler_is = refl }));
    }

pub next_items-requires : goal.next_items-requires
next_items-requires c = c.requires.ready.small

pub carry_to_all-requires-clause-stands : goal.carry_to_all-requires-clause-stands
carry_to_all-requires-clause-stands c =
    let t = task c.args.method.now in
    (match_true
    (GivesAll (has_room t c.as_slice.result.now) t c.args.item c.give_to_levels.new.levels.items (walked c.args.walk.now)
    (walked c.give_to_levels.new.walk))
    (Untypable t) c.in_ok-give_to_levels.field-0 c.if-not-branch.false c.in_ok-give_to_levels.ensures).went.stands

pub carry_to_all-requires-clause-carried : goal.carry_to_all-requires-clause-carried
carry_to_all-requires-clause-carried c = λ next found.
    let t = task c.args.method.now in
    let caught = match_true
    (GivesAll (has_room t c.as_slice.result.now) t c.args.item c.give_to_levels.new.levels.items (walked c.args.walk.now)
    (walked c.give_to_levels.new.walk))
    (Untypable t) c.in_ok-give_to_levels.field-0 c.if-not-branch.false c.in_ok-give_to_levels.ensures in
    let is = c.as_slice-2.ensures.value ∙ c.in_ok-items.ensures in
    can_carry_later t (walked c.args.walk.now) (walked c.give_to_levels.new.walk) next c.args.rises.now caught.went
    (c.requires.ready.items next (subst (λ (xs : List ℕ). Contains xs next) is found))

pub returns : goal.returns
returns c =
    let t = task c.args.method.now in
    let rises = c.args.rises.now in
    let old = walked c.args.walk.now in
    let middle = walked c.give_to_levels.new.walk in
    let new = walked c.carry_to_all.new.walk in
    let levels = c.give_to_levels.new.levels.items in
    let With : List Rise → Type 0 = λ locals. GivesAll (has_room t locals) t c.args.item levels old middle in
    let caught = subst With (c.as_slice.ensures.value ∙ c.in_ok-locals.ensures)
    (match_true (With c.as_slice.result.now) (Untypable t) c.in_ok-give_to_levels.field-0 c.if-not-branch.false c.in_ok-give_to_levels.ensures) in
    let is = c.as_slice-2.ensures.value ∙ c.in_ok-items.ensures in
    ok_weaker (CarriesAll t c.as_slice-2.result.now rises middle new) (CarriesOnGuarded t c.args.item c.args.insn.now rises levels old new) (Untypable t)
    c.carry_to_all.result
    (λ all.
    let All : List ℕ → Type 0 = λ xs. CarriesAll t xs rises middle new in
    record {
      carries = CarriesOn-both t c.args.item c.args.insn.now rises levels old middle new c.requires.sound caught (subst All is all);
      guarded = guarded-later t middle new levels c.requires.sound all.went.rises caught.guarded;
    })
    c.carry_to_all.ensures
