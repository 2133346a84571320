use Rattle.std.proofs.Common.{◌<◌, ◌≤◌, ◌∙◌, refl, sym, ap, subst, length, Contains, ℕ, arith, ◌/◌}
use Rattle.fm_base.proofs.TestFacts.{match_true}
use Rattle.fm_check_handlers.proofs.GivingLemmas.{GivesAll-all, GivesLevels-more, GivesLevels-none, halved-more, level_given, MayGive-later, place_read, same_length, stays-taken}
use Rattle.fm_check_handlers.specs.inner.Runs.{entries_in, GivesLevel, is_taken}
use Rattle.fm_check_walk.specs.inner.Walks.{Untypable, walked}
use Rattle.fm_check_walk.specs.inner.Tasks.{task}
use Rattle.fm_check_handlers.proofs.catching.give_to_levels.Goals as goal

pub loop-index-init : goal.loop-index-init
loop-index-init c =
    let t = task c.args.method.now in (
      GivesLevels-none (is_taken t c.args.item c.args.giving) t c.args.item c.args.levels.now.items (walked c.args.walk.now) c.requires.sound c.requires.stands
          c.requires.guarded,
      refl,
    )

pub index_mut-requires : goal.index_mut-requires
index_mut-requires c =
    let long = c.len-index-end.ensures in
    let ok = c.args.levels.now.ok.0 in
    let same = same_length c.args.levels.now.items c.loop-index.levels.items c.loop-index.invariant.0.same in
    let now = c.loop-index.levels.ok.0 in
    let test = c.loop-index-test.true in
    omega (arith, long, ok, same, now, test)

pub give_to_level-requires-clause-stands : goal.give_to_level-requires-clause-stands
give_to_level-requires-clause-stands c = c.loop-index.invariant.0.went.stands

pub give_to_level-requires-clause-may : goal.give_to_level-requires-clause-may
give_to_level-requires-clause-may c =
    MayGive-later (task c.args.method.now) (walked c.args.walk.now) (walked c.loop-index.walk) c.args.item c.args.giving c.loop-index.invariant.0.went c.requires.may

pub give_to_level-requires-clause-given : goal.give_to_level-requires-clause-given
give_to_level-requires-clause-given c =
    let long = c.len-index-end.ensures in
    let ok = c.args.levels.now.ok.0 in
    let same = same_length c.args.levels.now.items c.loop-index.levels.items c.loop-index.invariant.0.same in
    let test = c.loop-index-test.true in
    let inside : c.loop-index.index < length c.loop-index.levels.items = omega (arith, long, ok, same, test) in
    level_given (task c.args.method.now) (walked c.loop-index.walk).states c.loop-index.levels.items c.loop-index.index c.index_mut.result.now
    c.index_mut.result.now inside c.index_mut.ensures.value c.loop-index.invariant.0.guarded

pub give_to_level-requires-clause-holds : goal.give_to_level-requires-clause-holds
give_to_level-requires-clause-holds c = λ h found.
    let read = c.index_mut.result.now in
    let long = c.len-index-end.ensures in
    let ok = c.args.levels.now.ok.0 in
    let same = same_length c.args.levels.now.items c.loop-index.levels.items c.loop-index.invariant.0.same in
    let test = c.loop-index-test.true in
    let inside : c.loop-index.index < length c.loop-index.levels.items = omega (arith, long, ok, same, test) in
    c.requires.guarded.covered.holds c.loop-index.index c.args.item h
    (place_read c.args.levels.now.items c.loop-index.levels.items c.args.item c.loop-index.index read read h inside c.index_mut.ensures.value
    c.loop-index.invariant.0.same (subst (λ (n : ℕ). Contains (entries_in read.runs.items n) h) c.loop-index.invariant.1 found))

pub loop-index-preserved : goal.loop-index-preserved
loop-index-preserved c =
    let t = task c.args.method.now in
    let W = is_taken t c.args.item c.args.giving in
    let index = c.loop-index.index in
    let read = c.index_mut.result.now in
    let next = c.give_to_level.new.level in
    let old = walked c.loop-index.walk in
    let new = walked c.give_to_level.new.walk in
    let long = c.len-index-end.ensures in
    let ok = c.args.levels.now.ok.0 in
    let same = same_length c.args.levels.now.items c.loop-index.levels.items c.loop-index.invariant.0.same in
    let test = c.loop-index-test.true in
    let inside : index < length c.loop-index.levels.items = omega (arith, long, ok, same, test) in
    let one = match_true (GivesLevel W t c.loop-index.place read.runs.items next.runs.items old new) (Untypable t) c.in_ok-give_to_level.field-0
    c.if-not-branch.false c.in_ok-give_to_level.ensures in (
      GivesLevels-more W t c.args.item index c.args.levels.now.items c.loop-index.levels.items read next read (walked c.args.walk.now) old new
          c.requires.sound (stays-taken t c.args.item c.args.giving c.requires.sound) inside c.index_mut.ensures.value c.loop-index.invariant.0
          (subst (λ (n : ℕ). GivesLevel W t n read.runs.items next.runs.items old new) c.loop-index.invariant.1 one),
      ap (λ (n : ℕ). n / 2) c.loop-index.invariant.1 ∙ sym (halved-more index c.args.item),
    )

pub returns : goal.returns
returns c =
    let t = task c.args.method.now in
    let long = c.len-index-end.ensures in
    let ok = c.args.levels.now.ok.0 in
    let test = c.loop-index-test.false in
    let all : length c.args.levels.now.items ≤ c.loop-index.index = omega (arith, long, ok, test) in
    GivesAll-all (is_taken t c.args.item c.args.giving) t c.args.item c.loop-index.index c.args.levels.now.items c.loop-index.levels.items (walked c.args.walk.now)
    (walked c.loop-index.walk) all c.loop-index.invariant.0
