-- A step at a kept item is the step of the first program at the state that is held.
use Rattle.std.proofs.Common.{◌≡◌, ℕ, suc, ◌+◌, ◌<◌, Bool, true, false, cond, List, [], ◌∷◌, length, map, max, take, reverse, Some, None, option_map, unwrap_or, nat_lt, refl, sym, ap, subst, ◌∙◌, arith, if◌then◌else◌}
use Rattle.std.specs.Prelude.{slice_get}
use Rattle.std.specs.List.{AllByRecursion}
use Rattle.std.proofs.lemmas.List.{length-map}
use Rattle.std.proofs.lemmas.Option.{none-some}
use Rattle.fm_base.proofs.ListFacts.{AllByRecursion-at}
use Rattle.fm_base.proofs.OptionFacts.{same_value}
use Rattle.fm_cells.specs.Choices.{lawful}
use Rattle.fm_cells.specs.Stores.{live_words}
use Rattle.fm_code.specs.Edges.{insn_of}
use Rattle.fm_code.specs.SpellsCode.{LocalsFit, targets_of, with_targets}
use Rattle.fm_code.specs.declared.code_array.Code.{Code}
use Rattle.fm_code.specs.declared.code_array.Item.{Item}
use Rattle.fm_code.specs.declared.instructions.Insn.{Insn}
use Rattle.fm_code.specs.declared.instructions.Insn.TheVariants as insn
use Rattle.fm_conn.specs.Facts.{Facts}
use Rattle.fm_conn.specs.Links.{typed_method}
use Rattle.fm_frames.proofs.StepCounts.{step_going}
use Rattle.fm_frames.specs.Acts.{cell_of, Choose, Did, FullAt, LostAt, performed, Performed}
use Rattle.fm_frames.specs.Effects.{Calls, Effect, Enters, Exits, Falls, Faults, Jumps, JumpsIfSame, Next, Returns, Throws}
use Rattle.fm_frames.specs.Rows.{effect_of}
use Rattle.fm_frames.specs.Sights.{sights}
use Rattle.fm_frames.specs.Starts.{with_start}
use Rattle.fm_frames.specs.States.{Areas, Frame, Moved, State}
use Rattle.fm_frames.specs.Steps.{attempted, continued, done_by, halted, is_deep, is_over, max_locals_of, next_effect, objects_made, step, target_at, words_made}
use Rattle.fm_frames.specs.declared.ends.Ended.TheVariants as end
use Rattle.fm_frames.specs.declared.values.Value.{Value}
use Rattle.fm_law_same_runs.specs.Beside.{kept_item, Marks}
use Rattle.fm_law_sound.proofs.CallsStand.{max_locals_in}
use Rattle.fm_law_sound.proofs.RunsSound.{makes_few}
use Rattle.fm_law_sound.proofs.StartActs.{for_class}
use Rattle.fm_law_sound.specs.Laws.{SoundStatesStep}
use Rattle.fm_law_sound.specs.Making.{MakesAreResolved, MakesFew}
use Rattle.fm_law_sound.specs.Resolved.{StepsAreResolved}
use Rattle.fm_law_sound.specs.Sound.{IsSoundBy, StandBelow as SoundBelow, StandsWithout}
use Rattle.fm_law_unwoven.proofs.KeptEdges.{FallsAs, LeadsOn, next_leads, step_falls}
use Rattle.fm_law_unwoven.proofs.KeptEffects.{branch_starts, item_is, old_effect, split_effect, whole_effect}
use Rattle.fm_law_unwoven.proofs.KeptNext.{Alike, CallsAreWhole, done_with, IsEntered, new_source, next_alike, old_source}
use Rattle.fm_law_unwoven.proofs.KeptSound.{arguments_fit, call_whole, codes_below, item_of, methods_coded}
use Rattle.fm_law_unwoven.proofs.KeptSplit.{branch_next, FollowsBranch, HasNext, split_alike}
use Rattle.fm_law_unwoven.proofs.UnseenLocals.{locals_unseen, only_named}
use Rattle.fm_law_unwoven.specs.Kept.{BothDo, BothFault, but_frames, HoldersStand, IsAtKept, KeptStepsAreSteps, old_frame, old_state, StandBelow, StepsAlike}
use Rattle.fm_law_unwoven.specs.Laid.{IsKept, IsSplit, IsWhole, mark_at}
use Rattle.fm_law_unwoven.specs.UnseenCode.{exchanged, UsesNamed}
use Rattle.fm_law_unwoven.specs.WovenFrom.{HasInserted, inserted_by, IsWovenFrom, own_marks}
use Rattle.fm_law_woven_flow.proofs.RoleLists.{element_at}
use Rattle.fm_layout.specs.Spelling.{conditional, opposite}
use Rattle.fm_layout.specs.declared.rooms.Condition.{Condition}
use Rattle.fm_place.specs.Rewriting.{Plans}
use Rattle.fm_types.specs.Typed.{use_by}
use Rattle.fm_world.specs.Programs.{code_at, Program}

module _ (p q : Program) (facts : Facts) (plans : Plans) (marks : Marks) (from : IsWovenFrom p q facts plans marks) (ready : StepsAreResolved p) (makes : MakesAreResolved p)
    (sound_steps : SoundStatesStep) (choose : Choose) (z : State) (g : Frame) (callers : List Frame)
    (at : IsAtKept p q facts plans marks (record z { frames = g ∷ callers })) (going : z.ended ≡ None) where
  abbrev y : State
  y = record z { frames = g ∷ callers }

  abbrev x : State
  x = old_state p marks z.steps (record z { frames = g ∷ callers })

  abbrev f : Frame
  f = old_frame p marks g

  abbrev fs : List Frame
  fs = map (old_frame p marks) callers

  abbrev ch : Choose
  ch = lawful choose

  sound : IsSoundBy p facts.typing x
  sound = record {
    typed = at.sound.typed;
    areas = at.sound.areas;
    frames = at.sound.frames;
    running = at.sound.running;
    within = at.sound.within;
  }

  few : MakesFew p x
  few = makes_few p x at.words

  abbrev code : Code
  code = at.sound.frames.0.code

  code_is : code_at p g.method ≡ Some code
  code_is = at.sound.frames.0.code_is

  abbrev j : ℕ
  j = at.frames.0.item

  j_is : kept_item marks g.method g.item ≡ Some j
  j_is = at.frames.0.item_is

  abbrev w : HasInserted q marks g.method code (inserted_by (plans g.method))
  w = from.methods g.method code code_is

  item : (i : Item) × (slice_get code.items j ≡ Some i)
  item = element_at code.items j (w.laid.once g.item j j_is).0

  abbrev i : Insn
  i = item.0.insn

  found : insn_of code j ≡ Some item.0.insn
  found = ap (option_map (λ (k : Item). k.insn)) item.1

  below : StandBelow p q facts plans marks g callers
  below = at.frames.1

  stand : HoldersStand facts (typed_method p facts.typing g.method code) (inserted_by (plans g.method)) g j
  stand = at.frames.0.holders code code_is

  coded : AllByRecursion (λ (h : Frame). (c : Code) × (code_at p h.method ≡ Some c)) callers
  coded = old_codes callers (codes_below p facts.typing at.sound.typed f fs at.sound.frames.1) where
    old_codes : (gs : List Frame) → AllByRecursion (λ (h : Frame). (c : Code) × (code_at p h.method ≡ Some c)) (map (old_frame p marks) gs)
        → AllByRecursion (λ (h : Frame). (c : Code) × (code_at p h.method ≡ Some c)) gs
    old_codes [] all = tt
    old_codes (h ∷ gs) all = (all.0, old_codes gs all.1)

  abbrev e : Effect
  e = next_effect p x

  max_is : code.max_locals ≡ max_locals_of p g.method
  max_is = sym (ap max_locals_in code_is)

  effect_is : next_effect p x
      ≡ with_start p.outline z.areas.started (effect_of p.outline g.method (use_by p g.method i) i (slice_get z.input 0) (sights p.outline z.areas.store g.stack))
  effect_is = old_effect p q facts plans marks from z g callers code code_is j j_is i found

  uses : UsesNamed p.outline (max_locals_of p g.method) (length (targets_of i)) (next_effect p x)
  uses =
      let rules = from.rules g.method code code_is in
      subst (λ n. UsesNamed p.outline n (length (targets_of i)) (next_effect p x)) max_is
      (subst (λ d. UsesNamed p.outline code.max_locals (length (targets_of i)) d) (sym effect_is)
      (only_named code.max_locals p.outline z.areas.started g.method (use_by p g.method i) i (slice_get z.input 0) (sights p.outline z.areas.store g.stack)
      (AllByRecursion-at (λ (k : Item). LocalsFit code.max_locals k.insn) code.items j item.0 (rules.1).locals item.1)))

  -- it leads along edges
  leads : LeadsOn p code f j (next_effect p x).next
  leads =
      let here : f.item ≡ j = item_is p q facts plans marks from z g callers code code_is j j_is i found in
      let falls : FallsAs i (next_effect p x).next =
      subst (λ d. FallsAs i d.next) (sym effect_is)
      (step_falls p.outline z.areas.started g.method (use_by p g.method i) i (slice_get z.input 0) (sights p.outline z.areas.store g.stack)) in
      next_leads p facts.typing ready at.sound.typed 0 f at.sound.frames.0 i (ap (insn_of code) here ∙ found) j here (next_effect p x).next falls uses.next

  whole_callers : CallsAreWhole p q facts plans marks from z g callers code code_is j j_is i found below stand coded e uses z.areas [] 0 [] callers
  whole_callers = by_callers callers at.sound.frames.1 where
    by_callers : (gs : List Frame) → SoundBelow p facts.typing f (map (old_frame p marks) gs)
        → CallsAreWhole p q facts plans marks from z g callers code code_is j j_is i found below stand coded e uses z.areas [] 0 [] gs
    by_callers [] sounds = tt
    by_callers (next ∷ rest) sounds = λ c c_is item item_is none. call_whole p q facts plans marks from facts.typing ready at.sound.typed f next sounds.0 none c c_is item item_is

  count : length (g ∷ callers) ≡ length (f ∷ fs)
  count = ap suc (sym (length-map callers (old_frame p marks)))

  -- ---- the step, by its tests and the result of its actions

  abbrev price : ℕ
  price = max 1 (objects_made e.actions)

  abbrev moved_old : Bool → Bool → Performed → Moved
  moved_old deep over result =
      cond deep (halted x (end.TooDeep (length x.frames)))
      (cond over (halted x (end.Exhausted (live_words z.areas.store) (words_made p.outline z.areas e.actions))) (done_by p price e x result))

  abbrev moved_new : Next → Bool → Bool → Performed → Moved
  moved_new next deep over result =
      cond deep (halted y (end.TooDeep (length y.frames)))
      (cond over (halted y (end.Exhausted (live_words z.areas.store) (words_made p.outline z.areas e.actions))) (done_by q price (record e { next = next }) y result))

  over_same : is_over q.outline z.areas e.actions ≡ is_over p.outline z.areas e.actions
  over_same = ap (λ o. is_over o z.areas e.actions) from.outline

  performed_same : performed q.outline ch g.locals g.stack e.actions z.areas [] ≡ performed p.outline ch f.locals f.stack e.actions z.areas []
  performed_same =
      ap (λ o. performed o ch g.locals g.stack e.actions z.areas []) from.outline
      ∙ locals_unseen p.outline ch g.locals f.locals g.stack e.actions z.areas [] uses.acts

  abbrev result : Performed
  result = performed p.outline ch f.locals f.stack e.actions z.areas []

  old_step : step p ch x ≡ moved_old (is_deep x e.next) (is_over p.outline z.areas e.actions) result
  old_step = step_going p ch x going

  new_step : (next : Next) → next_effect q y ≡ record e { next = next } → is_deep y next ≡ is_deep x e.next
      → step q ch y ≡ moved_new next (is_deep x e.next) (is_over p.outline z.areas e.actions) result
  new_step next effect deep =
      step_going q ch y going ∙ ap (attempted q ch y) effect
      ∙ (λ k.
      cond (deep k) (halted y (end.TooDeep (length y.frames)))
      (cond (over_same k) (halted y (end.Exhausted (live_words z.areas.store) (words_made (from.outline k) z.areas e.actions)))
      (done_by q price (record e { next = next }) y (performed_same k))))

  -- what follows is alike, where the state that it leads to is sound
  abbrev Follows : Next → Type 0
  Follows next =
      (areas : Areas) (made : List ℕ)
      → IsSoundBy p facts.typing (continued p
      (old_source p q facts plans marks from z g callers code code_is j j_is i found below stand coded e uses areas made price e.prints) e f fs
      (done_with p q facts plans marks from z g callers code code_is j j_is i found below stand coded e uses areas made price e.prints e.next (f ∷ fs)))
      → Alike p q facts plans marks from z g callers code code_is j j_is i found below stand coded e uses areas made price e.prints
      (continued p (old_source p q facts plans marks from z g callers code code_is j j_is i found below stand coded e uses areas made price e.prints) e f fs
      (done_with p q facts plans marks from z g callers code code_is j j_is i found below stand coded e uses areas made price e.prints e.next (f ∷ fs)))
      (continued q (new_source p q facts plans marks from z g callers code code_is j j_is i found below stand coded e uses areas made price e.prints)
      (record e { next = next }) g callers
      (done_with p q facts plans marks from z g callers code code_is j j_is i found below stand coded e uses areas made price e.prints next (g ∷ callers)))

  moved_alike : (next : Next) → Follows next → (deep over : Bool) (r : Performed) → IsSoundBy p facts.typing (moved_old deep over r).state
      → StepsAlike p q facts plans marks y (moved_old deep over r) (moved_new next deep over r)
  moved_alike next follows true over r kept =
      BothDo refl (λ k. record (but_frames x) { ended = Some (end.TooDeep (count k)) }) (λ goes. absurd (none-some (end.TooDeep (length x.frames)) (sym goes)))
  moved_alike next follows false true r kept =
      BothDo refl refl (λ goes. absurd (none-some (end.Exhausted (live_words z.areas.store) (words_made p.outline z.areas e.actions)) (sym goes)))
  moved_alike next follows false false (Did areas made) kept = follows areas made kept
  moved_alike next follows false false (FullAt areas needed) kept = BothDo refl refl (λ goes. absurd (none-some _ (sym goes)))
  moved_alike next follows false false (LostAt v) kept = BothFault g.method _ _ (cell_of v) refl refl

  steps_alike : (next : Next) → next_effect q y ≡ record e { next = next } → is_deep y next ≡ is_deep x e.next → Follows next
      → StepsAlike p q facts plans marks y (step p ch x) (step q ch y)
  steps_alike next effect deep follows =
      let moved = (sound_steps p facts.typing ready makes choose x sound few).1 in
      subst (λ m. StepsAlike p q facts plans marks y (step p ch x) m) (sym (new_step next effect deep))
      (subst (λ m. StepsAlike p q facts plans marks y m (moved_new next (is_deep x e.next) (is_over p.outline z.areas e.actions) result)) (sym old_step)
      (moved_alike next follows (is_deep x e.next) (is_over p.outline z.areas e.actions) result
      (subst (λ (m : Moved). IsSoundBy p facts.typing m.state) old_step moved)))

  -- ---- an item that is kept whole

  deep_same : (next : Next) → is_deep y next ≡ is_deep x next
  deep_same (Calls m) = ap (λ n. nat_lt z.depth (n + 1)) count
  deep_same (Enters methods) = ap (λ n. nat_lt z.depth (n + length methods)) count
  deep_same Falls = refl
  deep_same (Jumps n) = refl
  deep_same (JumpsIfSame same) = refl
  deep_same (Returns n) = refl
  deep_same (Throws source) = refl
  deep_same (Exits n) = refl
  deep_same (Faults source) = refl

  module _ (is : insn_of w.new (w.laid.numbers j) ≡ Some (with_targets w.laid.entries i)) (behind : w.laid.behind j ≡ w.laid.numbers j + 1) where
    given_by : (areas : Areas) (made : List ℕ) (next : Next)
        → IsSoundBy p facts.typing (continued p
        (old_source p q facts plans marks from z g callers code code_is j j_is i found below stand coded e uses areas made price e.prints) (record e { next = next }) f fs
        (done_with p q facts plans marks from z g callers code code_is j j_is i found below stand coded e uses areas made price e.prints next (f ∷ fs)))
        → IsEntered p q facts plans marks from z g callers code code_is j j_is i found below stand coded e uses areas made price e.prints is behind whole_callers next
    unfolding continued
    given_by areas made Falls kept = tt
    given_by areas made (Jumps n) kept = tt
    given_by areas made (JumpsIfSame same) kept = tt
    given_by areas made (Calls m) kept = arguments_fit p facts.typing at.sound.typed m (reverse (take e.takes g.stack)) kept.frames.0
    given_by areas made (Returns n) kept = tt
    given_by areas made (Throws source) kept = tt
    given_by areas made (Enters methods) kept = methods_coded p facts.typing at.sound.typed methods (f ∷ fs) kept.frames
    given_by areas made (Exits n) kept = tt
    given_by areas made (Faults source) kept = tt

    whole_alike : StepsAlike p q facts plans marks y (step p ch x) (step q ch y)
    whole_alike =
        steps_alike e.next (whole_effect p q facts plans marks from z g callers code code_is j j_is i found is) (deep_same e.next)
        (λ areas made kept.
        next_alike p q facts plans marks from z g callers code code_is j j_is i found below stand coded e uses areas made price e.prints is behind whole_callers
        e.next refl uses.next leads (given_by areas made e.next kept))

  -- ---- a branch that is split

  module _ (c : Condition) (target other : ℕ) (branch : item.0.insn ≡ conditional c target)
      (test : insn_of w.new (w.laid.numbers j) ≡ Some (conditional (opposite c) other)) (follows : j + 1 < length code.items → other ≡ w.laid.behind j)
      (jump : insn_of w.new (w.laid.numbers j + 1) ≡ Some (insn.Goto (w.laid.entries target)))
      (mark : mark_at (own_marks marks g.method) (w.laid.numbers j + 1) ≡ None) where
    abbrev own : Effect
    own = effect_of p.outline g.method (use_by p g.method i) i (slice_get z.input 0) (sights p.outline z.areas.store g.stack)

    own_is : next_effect p x ≡ own
    own_is =
        effect_is
        ∙ ap (for_class p.outline z.areas.started own)
        (ap (λ k. (effect_of p.outline g.method (use_by p g.method i) k (slice_get z.input 0) (sights p.outline z.areas.store g.stack)).starts) branch
        ∙ branch_starts p.outline g.method (use_by p g.method i) c target (slice_get z.input 0) (sights p.outline z.areas.store g.stack))

    kind : FollowsBranch (next_effect p x).next
    kind =
        subst (λ d. FollowsBranch d.next) (sym own_is)
        (subst (λ k. FollowsBranch (effect_of p.outline g.method (use_by p g.method i) k (slice_get z.input 0) (sights p.outline z.areas.store g.stack)).next) (sym branch)
        (branch_next p.outline g.method (use_by p g.method i) c target (slice_get z.input 0) (sights p.outline z.areas.store g.stack)))

    deep_split : (next : Next) → FollowsBranch next → is_deep y (exchanged next) ≡ is_deep x next
    deep_split Falls after = refl
    deep_split (Jumps n) after = refl
    deep_split (JumpsIfSame same) after = refl
    deep_split (Calls m) after = absurd after
    deep_split (Returns n) after = absurd after
    deep_split (Throws source) after = absurd after
    deep_split (Enters methods) after = absurd after
    deep_split (Exits n) after = absurd after
    deep_split (Faults source) after = refl

    -- a frame behind the branch is at an item that is there
    behind_inside : (item : ℕ) (locals stack : List Value) → item ≡ f.item + 1
        → StandsWithout p facts.typing 0 (record { method = g.method; item = item; locals = locals; stack = stack }) → j + 1 < length code.items
    behind_inside item locals stack is stands =
        let here : item < length stands.code.items = item_of p facts.typing at.sound.typed 0 (record { method = g.method; item = item; locals = locals; stack = stack }) stands in
        let same : stands.code ≡ code = same_value (code_at p g.method) stands.code code stands.code_is code_is in
        let size = ap (λ (d : Code). length d.items) same in
        let old_at : f.item ≡ j = ap (λ o. unwrap_or o 0) j_is in
        omega (arith, here, size, is, old_at)

    given_split : (areas : Areas) (made : List ℕ) (next : Next)
        → IsSoundBy p facts.typing (continued p
        (old_source p q facts plans marks from z g callers code code_is j j_is i found below stand coded e uses areas made price e.prints) (record e { next = next }) f fs
        (done_with p q facts plans marks from z g callers code code_is j j_is i found below stand coded e uses areas made price e.prints next (f ∷ fs)))
        → HasNext p q facts plans marks from z g callers code code_is j j_is i found below stand coded e uses areas made price e.prints c target other branch test follows jump mark next
    unfolding continued
    given_split areas made Falls kept = behind_inside (f.item + 1) _ _ refl kept.frames.0
    given_split areas made (JumpsIfSame same) kept = λ fails.
        behind_inside _ _ _ (ap (λ b. if b then target_at p f 0 else f.item + 1) fails) kept.frames.0
    given_split areas made (Jumps n) kept = tt
    given_split areas made (Calls m) kept = tt
    given_split areas made (Returns n) kept = tt
    given_split areas made (Throws source) kept = tt
    given_split areas made (Enters methods) kept = tt
    given_split areas made (Exits n) kept = tt
    given_split areas made (Faults source) kept = tt

    split_both : StepsAlike p q facts plans marks y (step p ch x) (step q ch y)
    split_both =
        steps_alike (exchanged e.next) (split_effect p q facts plans marks from z g callers code code_is j j_is i found c target other branch test) (deep_split e.next kind)
        (λ areas made kept.
        split_alike p q facts plans marks from z g callers code code_is j j_is i found below stand coded e uses areas made price e.prints c target other branch test follows jump mark
        e.next refl kind uses.next leads (given_split areas made e.next kept))

  -- ---- both

  by_kept : IsKept code w.new (own_marks marks g.method) w.laid.entries j item.0.insn (w.laid.numbers j) (w.laid.behind j)
      → StepsAlike p q facts plans marks y (step p ch x) (step q ch y)
  by_kept (IsWhole is behind) = whole_alike is behind
  by_kept (IsSplit c target other branch test follows jump mark behind) = split_both c target other branch test follows jump mark

  pub kept_step : StepsAlike p q facts plans marks y (step p ch x) (step q ch y)
  kept_step = by_kept (w.laid.kept j item.0.insn found)

-- a state that goes on has a frame
pub kept_steps : SoundStatesStep → KeptStepsAreSteps
kept_steps sound_steps p q facts plans marks from ready makes choose y at going = by_frames y.frames refl where
  Wanted : List Frame → Type 0
  Wanted frames =
      StepsAlike p q facts plans marks (record y { frames = frames }) (step p (lawful choose) (old_state p marks y.steps (record y { frames = frames })))
      (step q (lawful choose) (record y { frames = frames }))

  by_frames : (frames : List Frame) → y.frames ≡ frames → Wanted y.frames
  by_frames [] none = absurd (let some = at.sound.running going in let count : length (map (old_frame p marks) y.frames) ≡ 0 = ap (λ fs. length (map (old_frame p marks) fs)) none in omega (arith, some, count))
  by_frames (g ∷ callers) are =
      subst Wanted (sym are)
      (kept_step p q facts plans marks from ready makes sound_steps choose y g callers
      (subst (λ frames. IsAtKept p q facts plans marks (record y { frames = frames })) are at) going)
