use Rattle.std.proofs.Common.{◌≡◌, ◌+◌, ◌<◌, ◌^◌, [], length, map, min, true, false, append-nil, refl, ap, sym, ◌∙◌, subst, arith}
use Rattle.fm_base.specs.declared.ids.ClassId.{ClassId}
use Rattle.fm_exec_calls.proofs.StartSteps.{acted-starts, asked, can-reserved, entered-starts, first-price, some-frames}
use Rattle.fm_exec_calls.proofs.StartWords.{words-alone}
use Rattle.fm_exec_calls.proofs.starts.enter.Goals as goal
use Rattle.fm_exec_calls.specs.inner.Actions.{ActsAll, AllSuit}
use Rattle.fm_exec_calls.specs.inner.Starting.{enters}
use Rattle.fm_frames.specs.Starts.{start_actions, start_methods}
use Rattle.fm_frames.specs.States.{State}
use Rattle.fm_frames.specs.Steps.{most_words, objects_made, words_among}
use Rattle.fm_frames.specs.inner.Doings.{Underway}
use Rattle.fm_frames.specs.inner.StartActions.{action_of}

pub returns-then-not-has_room : goal.returns-then-not-has_room
returns-then-not-has_room g c =
    let o = c.args.program.now.outline in
    let numbers = map (λ (k : ClassId). k.0) c.args.classes.now in
    c.if-not-has_room.ensures.deep refl c.args.program.now g.M.Memory.choose (enters (start_actions o numbers) (start_methods o numbers)) (sym c.requires.many)

pub start_words-requires-clause-texts : goal.start_words-requires-clause-texts
start_words-requires-clause-texts g c =
    let p = c.args.program.now in
    let x = c.args.machine.now in
    let listed = ap (map action_of) c.as_slice-listed.ensures.value ∙ c.in_ok-actions.ensures in
    subst (λ (y : State). AllSuit p (length y.areas.literals) (map action_of c.as_slice-listed.result.now)) (sym (c.if-not-has_room.ensures.kept refl))
    (subst (AllSuit p (length x.areas.literals)) (sym listed) c.requires.suit)

pub returns-then-not-reserve : goal.returns-then-not-reserve
returns-then-not-reserve g c =
    let p = c.args.program.now in
    let o = p.outline in
    let a = c.has_room.new.self in
    let numbers = map (λ (k : ClassId). k.0) c.args.classes.now in
    let first = start_actions o numbers in
    let e = enters first (start_methods o numbers) in
    let listed = ap (map action_of) c.as_slice-listed.ensures.value ∙ c.in_ok-actions.ensures in
    let is = c.in_ok-needed.ensures ∙ ap (λ l. min (0 + words_among o a.areas [] l) most_words) listed in
    asked p g.M.Memory.choose c.args.machine.now a c.reserve.new.self e c.args.methods c.in_ok-needed.needed false
    (c.if-not-has_room.ensures.kept refl) (sym c.requires.many) (c.if-not-has_room.ensures.room refl)
    (words-alone o a.areas c.in_ok-needed.needed first is)
    (λ deep many. c.if-not-reserve.ensures.told p g.M.Memory.choose e deep many)

pub act_all-requires-clause-suit : goal.act_all-requires-clause-suit
act_all-requires-clause-suit g c =
    let p = c.args.program.now in
    let x = c.args.machine.now in
    let listed = ap (map action_of) c.as_slice-listed.ensures.value ∙ c.in_ok-actions.ensures in
    let same = c.if-not-reserve.ensures.kept refl ∙ c.if-not-has_room.ensures.kept refl in
    subst (λ (y : State). AllSuit p (length y.areas.literals) (map action_of c.as_slice-listed.result.now)) (sym same)
    (subst (AllSuit p (length x.areas.literals)) (sym listed) c.requires.suit)

pub act_all-requires-clause-can : goal.act_all-requires-clause-can
act_all-requires-clause-can g c =
    let o = c.args.program.now.outline in
    can-reserved o c.args.machine.now c.has_room.new.self c.reserve.new.self (map action_of c.as_slice-listed.result.now) 0 0 c.in_ok-needed.needed
    (c.if-not-has_room.ensures.kept refl) (c.if-not-reserve.ensures.kept refl) (omega arith) c.requires.births c.requires.can.budget_fits
    c.births-births.ensures.sound c.in_ok-needed.ensures (c.if-not-reserve.ensures.room refl)

pub returns-then-not-branch : goal.returns-then-not-branch
returns-then-not-branch g c =
    let p = c.args.program.now in
    let o = p.outline in
    let a = c.has_room.new.self in
    let b = c.reserve.new.self in
    let z = c.act_all.new.machine in
    let numbers = map (λ (k : ClassId). k.0) c.args.classes.now in
    let first = start_actions o numbers in
    let e = enters first (start_methods o numbers) in
    let listed : map action_of c.as_slice-listed.result.now ≡ first = ap (map action_of) c.as_slice-listed.ensures.value ∙ c.in_ok-actions.ensures in
    let is = c.in_ok-needed.ensures ∙ ap (λ l. min (0 + words_among o a.areas [] l) most_words) listed in
    let begun =
    asked p g.M.Memory.choose c.args.machine.now a b e c.args.methods c.in_ok-needed.needed true
    (c.if-not-has_room.ensures.kept refl) (sym c.requires.many) (c.if-not-has_room.ensures.room refl)
    (words-alone o a.areas c.in_ok-needed.needed first is)
    (λ deep many. c.if-not-reserve.ensures.told p g.M.Memory.choose e deep many) in
    let acts = subst (λ l. ActsAll p g.M.Memory.choose b z l false) listed
    (subst (ActsAll p g.M.Memory.choose b z (map action_of c.as_slice-listed.result.now)) c.if-not-branch.true c.in_ok-act_all.ensures) in
    acts c.args.machine.now e [] [] (subst (Underway p g.M.Memory.choose c.args.machine.now b e []) (sym (append-nil first)) begun)

pub enter_starts-requires-clause-some : goal.enter_starts-requires-clause-some
enter_starts-requires-clause-some g c =
    let p = c.args.program.now in
    let o = p.outline in
    let x = c.args.machine.now in
    let a = c.has_room.new.self in
    let z = c.act_all.new.machine in
    let numbers = map (λ (k : ClassId). k.0) c.args.classes.now in
    let first = start_actions o numbers in
    let methods = start_methods o numbers in
    let listed : map action_of c.as_slice-listed.result.now ≡ first = ap (map action_of) c.as_slice-listed.ensures.value ∙ c.in_ok-actions.ensures in
    let so : Underway p g.M.Memory.choose x z (enters first methods) [] [] =
    acted-starts p g.M.Memory.choose x a c.reserve.new.self z first (map action_of c.as_slice-listed.result.now) methods c.args.methods c.in_ok-needed.needed
    c.in_ok-act_all.field-0 (c.if-not-has_room.ensures.kept refl) (sym c.requires.many) (c.if-not-has_room.ensures.room refl) listed
    (c.in_ok-needed.ensures ∙ ap (λ l. min (0 + words_among o a.areas [] l) most_words) listed)
    (λ deep many. c.if-not-reserve.ensures.told p g.M.Memory.choose (enters first methods) deep many) c.in_ok-act_all.ensures c.if-not-branch.false in
    subst (λ (y : State). 0 < length y.frames) (sym so.same) (some-frames x.frames c.requires.can.ready.next_fits)

pub count_step-requires : goal.count_step-requires
count_step-requires g c =
    let p = c.args.program.now in
    let o = p.outline in
    let x = c.args.machine.now in
    let a = c.has_room.new.self in
    let z = c.act_all.new.machine in
    let numbers = map (λ (k : ClassId). k.0) c.args.classes.now in
    let first = start_actions o numbers in
    let methods = start_methods o numbers in
    let listed : map action_of c.as_slice-listed.result.now ≡ first = ap (map action_of) c.as_slice-listed.ensures.value ∙ c.in_ok-actions.ensures in
    let so : Underway p g.M.Memory.choose x z (enters first methods) [] [] =
    acted-starts p g.M.Memory.choose x a c.reserve.new.self z first (map action_of c.as_slice-listed.result.now) methods c.args.methods c.in_ok-needed.needed
    c.in_ok-act_all.field-0 (c.if-not-has_room.ensures.kept refl) (sym c.requires.many) (c.if-not-has_room.ensures.room refl) listed
    (c.in_ok-needed.ensures ∙ ap (λ l. min (0 + words_among o a.areas [] l) most_words) listed)
    (λ deep many. c.if-not-reserve.ensures.told p g.M.Memory.choose (enters first methods) deep many) c.in_ok-act_all.ensures c.if-not-branch.false in
    let same : c.enter_starts.new.machine.steps ≡ x.steps = ap (λ (y : State). y.steps) c.in_ok-enter_starts.ensures ∙ ap (λ (y : State). y.steps) so.same in
    subst (λ n. n + 1 < 2 ^ 64) (sym same) c.requires.can.ready.step_fits

pub returns : goal.returns
returns g c =
    let p = c.args.program.now in
    let o = p.outline in
    let x = c.args.machine.now in
    let a = c.has_room.new.self in
    let z = c.act_all.new.machine in
    let numbers = map (λ (k : ClassId). k.0) c.args.classes.now in
    let first = start_actions o numbers in
    let methods = start_methods o numbers in
    let listed : map action_of c.as_slice-listed.result.now ≡ first = ap (map action_of) c.as_slice-listed.ensures.value ∙ c.in_ok-actions.ensures in
    let so : Underway p g.M.Memory.choose x z (enters first methods) [] [] =
    acted-starts p g.M.Memory.choose x a c.reserve.new.self z first (map action_of c.as_slice-listed.result.now) methods c.args.methods c.in_ok-needed.needed
    c.in_ok-act_all.field-0 (c.if-not-has_room.ensures.kept refl) (sym c.requires.many) (c.if-not-has_room.ensures.room refl) listed
    (c.in_ok-needed.ensures ∙ ap (λ l. min (0 + words_among o a.areas [] l) most_words) listed)
    (λ deep many. c.if-not-reserve.ensures.told p g.M.Memory.choose (enters first methods) deep many) c.in_ok-act_all.ensures c.if-not-branch.false in
    let none : objects_made first ≡ 0 =
    subst (λ l. objects_made l ≡ 0) listed
    (subst (λ l. objects_made l ≡ 0) (append-nil (map action_of c.as_slice-listed.result.now)) (first-price c.as_slice-listed.result.now [])) in
    entered-starts p g.M.Memory.choose x z c.count_step.new.self first methods c.requires.can.ready.next_fits none so
    (c.count_step.ensures ∙ ap (λ (v : State). record v { steps = v.steps + 1 }) c.in_ok-enter_starts.ensures)
