-- A step costs something, unless it makes too many frames or lacks words.
use Rattle.std.proofs.Common.{◌≡◌, ℕ, ◌+◌, ◌<◌, Bool, true, false, cond, List, [], ◌∷◌, max, Option, Some, None, option_and_then, slice_get, refl, sym, ap, subst, ◌∙◌, arith}
use Rattle.std.proofs.lemmas.Bool.{false≢true}
use Rattle.std.specs.List.{AllByRecursion}
use Rattle.fm_base.proofs.ListFacts.{AllByRecursion-weaker}
use Rattle.fm_base.proofs.OptionFacts.{option_and_then-some, Some-from_some_and}
use Rattle.fm_cells.specs.Choices.{lawful}
use Rattle.fm_cells.specs.Stores.{live_words, Store}
use Rattle.fm_code.specs.Edges.{insn_of, IsNormalEdge}
use Rattle.fm_code.specs.declared.code_array.Code.{Code}
use Rattle.fm_code.specs.declared.instructions.Insn.{Insn}
use Rattle.fm_frames.proofs.StepCounts.{step_going}
use Rattle.fm_frames.specs.Acts.{Choose, Did, FullAt, LostAt, performed, Performed, Sources}
use Rattle.fm_frames.specs.Effects.{Action, Effect, Faults, FreeChain, Next}
use Rattle.fm_frames.specs.Rows.{effect_of}
use Rattle.fm_frames.specs.Sights.{sights}
use Rattle.fm_frames.specs.Starts.{start_methods, to_start, with_start}
use Rattle.fm_frames.specs.States.{Frame, Moved, State}
use Rattle.fm_frames.specs.Steps.{attempted, effect_by, finished, input_after, is_deep, is_done, is_over, next_effect, next_insn, objects_made, step, words_made}
use Rattle.fm_law_lockstep.proofs.Unlimited.{acts_room, HasRoom, MayLose}
use Rattle.fm_law_lockstep.specs.Limits.{ShallowStepsCost}
use Rattle.fm_law_no_fault.specs.CellsResolved.{CellsAreResolved}
use Rattle.fm_law_no_fault.specs.Laws.{RowsAreNoFaults}
use Rattle.fm_law_no_fault.specs.Seen.{IsNoFault}
use Rattle.fm_law_no_fault.specs.Whole.{IsWholeBy}
use Rattle.fm_law_same_runs.proofs.Costs.{continued-keeps}
use Rattle.fm_law_sound.proofs.FramesStand.{typing_of}
use Rattle.fm_law_sound.proofs.StartActs.{after_methods, for_class}
use Rattle.fm_law_sound.proofs.StepsSound.{moved_by}
use Rattle.fm_law_sound.specs.Going.{StandsAtRow}
use Rattle.fm_law_sound.specs.Sound.{StandsWithout, Typings}
use Rattle.fm_law_two_memories.proofs.TwoMemories.{next_effects_alike}
use Rattle.fm_law_two_memories.specs.Reading.{ActsAlike, EffectAlike}
use Rattle.fm_law_two_memories.specs.Runs.{IsWithoutFrees, LacksWords}
use Rattle.fm_types.specs.Rows.{row_after}
use Rattle.fm_types.specs.States.{TypeState}
use Rattle.fm_types.specs.Typed.{after_item, FitsAt, IsTypingOf, made_at, MeetsItem, use_by}
use Rattle.fm_world.specs.Programs.{Outline, Program}

-- ---- what rows don't do

-- what is no fault is done
done_unless_fault : (next : Next) → IsNoFault next → is_done next ≡ true
done_unless_fault (Faults source) none = absurd none
done_unless_fault next none = refl

-- the start of a class is no fault either
methods_no_fault : (o : Outline) (classes : List ℕ) (e : Effect) (methods : List ℕ) → IsNoFault e.next → IsNoFault (after_methods o classes e methods).next
methods_no_fault o classes e [] none = none
methods_no_fault o classes e (m ∷ methods) none = tt

class_no_fault : (o : Outline) (started : List Bool) (e : Effect) (class : Option ℕ) → IsNoFault e.next → IsNoFault (for_class o started e class).next
class_no_fault o started e None none = none
class_no_fault o started e (Some class) none =
    methods_no_fault o (to_start o started class) e (start_methods o (to_start o started class)) none

-- what does the same on both memories frees no chain
alike_loses : (o : Outline) (store : Store) (f : Frame) (action : Action) → ActsAlike o store f action → MayLose false action
alike_loses o store f (FreeChain operand) alike = absurd alike
alike_loses o store f action alike = tt

-- ---- the next effect

module _ (rows : RowsAreNoFaults) (p : Program) (typings : Typings) (without : IsWithoutFrees p typings) (cells : CellsAreResolved p) (z : State) (f : Frame) (callers : List Frame) where
  -- the state, with its frames
  abbrev x : State
  x = record z { frames = f ∷ callers }

  module _ (whole : IsWholeBy p typings x) where
    abbrev standing : StandsWithout p typings 0 f
    standing = whole.sound.frames.0

    typing : IsTypingOf p f.method standing.code (typings f.method)
    typing = typing_of p typings whole.sound.typed f.method standing.code standing.code_is

    meets : MeetsItem p f.method standing.code (typings f.method) f.item standing.known
    meets = typing.items f.item standing.known standing.at

    module _ (i : Insn) (after : TypeState) (insn_is : insn_of standing.code f.item ≡ Some i) (row : row_after p.outline f.method f.item (made_at p f.method standing.code) (use_by p f.method i) i standing.known ≡ Some after) where
      abbrev at_row : StandsAtRow p typings f i after
      at_row = record {
        code = standing.code;
        code_is = standing.code_is;
        insn_is = insn_is;
        known = standing.known;
        at = standing.at;
        row = row;
        targets = without.steps.targets f.method standing.code f.item i standing.code_is insn_is;
      }

      abbrev effect : Effect
      effect = effect_of p.outline f.method (use_by p f.method i) i (slice_get z.input 0) (sights p.outline z.areas.store f.stack)

      found_insn : next_insn p f ≡ Some i
      found_insn = ap (λ found. option_and_then (λ (c : Code). insn_of c f.item) found) standing.code_is ∙ insn_is

      row_no_fault : IsNoFault (next_effect p x).next
      unfolding next_effect
      row_no_fault =
          subst (λ e. IsNoFault (with_start p.outline z.areas.started e).next) (sym (ap (effect_by p x f) found_insn))
          (class_no_fault p.outline z.areas.started effect effect.starts
          (rows p typings whole.sound.typed without.steps cells without.no_free z.areas whole.sound.areas whole.areas f i after at_row standing
          whole.frames.0 (slice_get z.input 0)))

    found_row : (after : TypeState) × (after_item p f.method standing.code f.item standing.known ≡ Some after)
    found_row =
        let found = Some-from_some_and (after_item p f.method standing.code f.item standing.known)
        (λ given. (next : ℕ) → IsNormalEdge standing.code f.item next → FitsAt p (typings f.method) next given) meets.row in
        (found.0, found.1)

    next_no_fault : IsNoFault (next_effect p x).next
    next_no_fault =
        let parts = option_and_then-some
        (λ other. row_after p.outline f.method f.item (made_at p f.method standing.code) (use_by p f.method other) other standing.known)
        (insn_of standing.code f.item) found_row.0 found_row.1 in
        row_no_fault parts.0 found_row.0 parts.1 parts.2

    next_loses : AllByRecursion (MayLose false) (next_effect p x).actions
    next_loses =
        let alike : EffectAlike p.outline z.areas.store f (next_effect p x) = next_effects_alike p typings without z f callers standing in
        AllByRecursion-weaker (ActsAlike p.outline z.areas.store f) (MayLose false) (alike_loses p.outline z.areas.store f)
        (next_effect p x).actions alike.acts

    -- ---- the step

    -- it counts what it did
    finished_costs : (price : ℕ) → 0 < price → (result : Performed) → HasRoom false result
        → z.steps < (finished p price (next_effect p x) x result).steps
    finished_costs price some (FullAt areas needed) room = absurd room
    finished_costs price some (LostAt v) room = absurd (false≢true room)
    finished_costs price some (Did areas made) room =
        let e : Effect = next_effect p x in
        let from : Sources = record { locals = f.locals; stack = f.stack; areas = areas; made = made } in
        let y : State = record x { areas = areas; input = input_after e.reads z.input; steps = cond (is_done e.next) (z.steps + price) z.steps } in
        subst (λ n. z.steps < n)
        (sym
        (continued-keeps p from e f callers y e.next ∙ ap (λ b. cond b (z.steps + price) z.steps) (done_unless_fault e.next next_no_fault)))
        (omega (arith, some))

    some_price : (made : ℕ) → 0 < max 1 made
    some_price made = omega arith

    pub frame_costs : (choose : Choose) → z.ended ≡ None → z.areas.store.limit ≡ None → is_deep x (next_effect p x).next ≡ false
        → ¬ LacksWords (step p (lawful choose) x).state → z.steps < (step p (lawful choose) x).state.steps
    frame_costs choose going unlimited shallow words =
        subst (λ (m : Moved). ¬ LacksWords m.state → z.steps < m.state.steps) (sym (step_going p (lawful choose) x going)) attempt words where
          e : Effect
          e = next_effect p x

          attempt : ¬ LacksWords (attempted p (lawful choose) x (next_effect p x)).state
              → z.steps < (attempted p (lawful choose) x (next_effect p x)).state.steps
          attempt =
              moved_by (λ (s : State). ¬ LacksWords s → z.steps < s.steps) (is_deep x (next_effect p x).next) _ _
              (λ deep. absurd (false≢true (sym shallow ∙ deep)))
              (λ within. moved_by (λ (s : State). ¬ LacksWords s → z.steps < s.steps) (is_over p.outline z.areas (next_effect p x).actions) _ _
              (λ over none. absurd (none (live_words z.areas.store, words_made p.outline z.areas (next_effect p x).actions, refl)))
              (λ fits none. finished_costs (max 1 (objects_made (next_effect p x).actions)) (some_price (objects_made (next_effect p x).actions))
              (performed p.outline (lawful choose) f.locals f.stack (next_effect p x).actions z.areas [])
              (acts_room false p.outline choose f.locals f.stack (next_effect p x).actions next_loses z.areas [] unlimited)))

all_frames_cost : (rows : RowsAreNoFaults) (p : Program) (typings : Typings) → IsWithoutFrees p typings → CellsAreResolved p → (choose : Choose) (z : State)
    (frames : List Frame) → IsWholeBy p typings (record z { frames = frames }) → z.ended ≡ None → z.areas.store.limit ≡ None
    → is_deep (record z { frames = frames }) (next_effect p (record z { frames = frames })).next ≡ false
    → ¬ LacksWords (step p (lawful choose) (record z { frames = frames })).state
    → z.steps < (step p (lawful choose) (record z { frames = frames })).state.steps
all_frames_cost rows p typings without cells choose z [] whole going unlimited shallow words =
    let some = whole.sound.running going in absurd (omega (arith, some))
all_frames_cost rows p typings without cells choose z (f ∷ callers) whole going unlimited shallow words =
    frame_costs rows p typings without cells z f callers whole choose going unlimited shallow words

pub shallow_steps_cost : RowsAreNoFaults → ShallowStepsCost
shallow_steps_cost rows p typings without cells choose x whole going unlimited shallow words =
    all_frames_cost rows p typings without cells choose x x.frames whole going unlimited shallow words
