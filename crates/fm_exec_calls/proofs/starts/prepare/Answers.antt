use Rattle.std.proofs.Common.{◌≡◌, ◌+◌, ◌++◌, [], length, map, min, true, false, refl, ap, sym, ◌∙◌, subst, arith}
use Rattle.std.proofs.lemmas.Result.{IfOk-weaker}
use Rattle.fm_base.specs.declared.ids.ClassId.{ClassId}
use Rattle.fm_exec_calls.proofs.StartSteps.{asked, can-reserved, first-price, prepared-by}
use Rattle.fm_exec_calls.proofs.StartWords.{words-whole}
use Rattle.fm_exec_calls.proofs.starts.prepare.Goals as goal
use Rattle.fm_exec_calls.specs.inner.Actions.{ActsAll, AllSuit}
use Rattle.fm_exec_calls.specs.inner.Starting.{with_first}
use Rattle.fm_frames.specs.Starts.{start_actions}
use Rattle.fm_frames.specs.States.{State}
use Rattle.fm_frames.specs.Steps.{most_words, objects_made, words_among}
use Rattle.fm_frames.specs.inner.StartActions.{action_of}

pub returns-then-not-has_room : goal.returns-then-not-has_room
returns-then-not-has_room g c f plain has next =
    let first = start_actions c.args.program.now.outline (map (λ (k : ClassId). k.0) c.args.classes.now) in
    c.if-not-has_room.ensures.deep refl c.args.program.now g.M.Memory.choose (with_first first f) next

pub start_words-requires-clause-texts : goal.start_words-requires-clause-texts
start_words-requires-clause-texts g c =
    let p = c.args.program.now in
    let x = c.args.machine.now in
    let listed = ap (map action_of) c.as_slice-listed.ensures.value ∙ c.in_ok-actions.ensures in
    subst (λ (y : State). AllSuit p (length y.areas.literals) (map action_of c.as_slice-listed.result.now)) (sym (c.if-not-has_room.ensures.kept refl))
    (subst (AllSuit p (length x.areas.literals)) (sym listed) c.requires.suit)

pub returns-then-not-reserve : goal.returns-then-not-reserve
returns-then-not-reserve g c f plain has next =
    let p = c.args.program.now in
    let o = p.outline in
    let a = c.has_room.new.self in
    let first = start_actions o (map (λ (k : ClassId). k.0) c.args.classes.now) in
    let listed = ap (map action_of) c.as_slice-listed.ensures.value ∙ c.in_ok-actions.ensures in
    let is = c.in_ok-needed.ensures ∙ ap (λ l. min (c.args.words + words_among o a.areas [] l) most_words) listed in
    asked p g.M.Memory.choose c.args.machine.now a c.reserve.new.self (with_first first f) c.args.frames c.in_ok-needed.needed false
    (c.if-not-has_room.ensures.kept refl) next (c.if-not-has_room.ensures.room refl)
    (words-whole o a.areas c.args.words c.in_ok-needed.needed first f.actions has is)
    (λ deep many. c.if-not-reserve.ensures.told p g.M.Memory.choose (with_first first f) deep many)

pub act_all-requires-clause-suit : goal.act_all-requires-clause-suit
act_all-requires-clause-suit g c =
    let p = c.args.program.now in
    let x = c.args.machine.now in
    let listed = ap (map action_of) c.as_slice-listed.ensures.value ∙ c.in_ok-actions.ensures in
    let same = c.if-not-reserve.ensures.kept refl ∙ c.if-not-has_room.ensures.kept refl in
    subst (λ (y : State). AllSuit p (length y.areas.literals) (map action_of c.as_slice-listed.result.now)) (sym same)
    (subst (AllSuit p (length x.areas.literals)) (sym listed) c.requires.suit)

pub act_all-requires-clause-can : goal.act_all-requires-clause-can
act_all-requires-clause-can g c =
    let o = c.args.program.now.outline in
    can-reserved o c.args.machine.now c.has_room.new.self c.reserve.new.self (map action_of c.as_slice-listed.result.now) c.args.words 0 c.in_ok-needed.needed
    (c.if-not-has_room.ensures.kept refl) (c.if-not-reserve.ensures.kept refl) (omega arith) c.requires.births c.requires.can.budget_fits
    c.births-births.ensures.sound c.in_ok-needed.ensures (c.if-not-reserve.ensures.room refl)

pub returns : goal.returns
returns g c =
    let p = c.args.program.now in
    let o = p.outline in
    let x = c.args.machine.now in
    let a = c.has_room.new.self in
    let b = c.reserve.new.self in
    let z = c.act_all.new.machine in
    let first = start_actions o (map (λ (k : ClassId). k.0) c.args.classes.now) in
    let listed : map action_of c.as_slice-listed.result.now ≡ first = ap (map action_of) c.as_slice-listed.ensures.value ∙ c.in_ok-actions.ensures in
    let is = c.in_ok-needed.ensures ∙ ap (λ l. min (c.args.words + words_among o a.areas [] l) most_words) listed in
    IfOk-weaker c.act_all.result _ _
    (λ goes acts f plain has next.
    prepared-by p g.M.Memory.choose x b z first f c.args.words c.args.frames goes c.requires.can plain has next (c.if-not-has_room.ensures.room refl)
    (subst (λ l. objects_made (l ++ f.actions) ≡ objects_made f.actions) listed (first-price c.as_slice-listed.result.now f.actions))
    (asked p g.M.Memory.choose x a b (with_first first f) c.args.frames c.in_ok-needed.needed true
    (c.if-not-has_room.ensures.kept refl) next (c.if-not-has_room.ensures.room refl)
    (words-whole o a.areas c.args.words c.in_ok-needed.needed first f.actions has is)
    (λ deep many. c.if-not-reserve.ensures.told p g.M.Memory.choose (with_first first f) deep many))
    (subst (λ l. ActsAll p g.M.Memory.choose b z l goes) listed acts)
    (can-reserved o x a b first c.args.words c.args.words c.in_ok-needed.needed
    (c.if-not-has_room.ensures.kept refl) (c.if-not-reserve.ensures.kept refl) (omega arith) c.requires.births c.requires.can.budget_fits
    c.births-births.ensures.sound is (c.if-not-reserve.ensures.room refl)))
    c.act_all.ensures
