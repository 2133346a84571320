-- A step of a whole state leads from frames that are as the states of their items have them to such frames.
use Rattle.std.proofs.Common.{◌≡◌, ℕ, ◌+◌, cond, max, false, List, [], ◌∷◌, Option, Some, None, option_and_then, refl, sym, ◌∙◌, ap, subst, slice_get, arith}
use Rattle.std.specs.List.{AllByRecursion}
use Rattle.fm_cells.proofs.Choices.{lawful_choice-may}
use Rattle.fm_cells.specs.Choices.{lawful}
use Rattle.fm_code.specs.Edges.{insn_of}
use Rattle.fm_code.specs.declared.code_array.Code.{Code}
use Rattle.fm_code.specs.declared.instructions.Insn.{Insn}
use Rattle.fm_types.specs.Named.{this_class}
use Rattle.fm_types.specs.Rows.{row_after}
use Rattle.fm_types.specs.States.{TypeState}
use Rattle.fm_types.specs.Typed.{made_at, MeetsItem, use_by}
use Rattle.fm_world.specs.Programs.{Outline, Program}
use Rattle.fm_frames.specs.Acts.{Choose, Did, FullAt, LostAt, performed, Performed}
use Rattle.fm_frames.specs.Effects.{Action, Effect}
use Rattle.fm_frames.specs.Rows.{effect_of}
use Rattle.fm_frames.specs.Sights.{sights}
use Rattle.fm_frames.specs.Starts.{with_start}
use Rattle.fm_frames.specs.States.{Areas, Frame, Moved, State}
use Rattle.fm_frames.specs.Steps.{attempted, continued, effect_by, finished, input_after, is_deep, is_done, is_over, next_effect, next_insn, objects_made, step}
use Rattle.fm_frames.specs.declared.ends.Ended.{Ended}
use Rattle.fm_same.proofs.StoreChanges.{Extends, extends-refl}
use Rattle.fm_same.specs.Resolved.{CallsNoFreeMe}
use Rattle.fm_law_sound.specs.Acting.{ActsFit}
use Rattle.fm_law_sound.specs.Going.{StandsAtRow}
use Rattle.fm_law_sound.specs.Leading.{sources_of}
use Rattle.fm_law_sound.specs.Making.{MakesAreResolved, MakesFew}
use Rattle.fm_law_sound.specs.Resolved.{StepsAreResolved}
use Rattle.fm_law_sound.specs.Sound.{AreasAreSound, AreTyped, IsSoundBy, StandsWithout, Typings}
use Rattle.fm_law_sound.proofs.Following.{continued_is, followed_areas}
use Rattle.fm_law_sound.proofs.FramesStand.{met_row, typing_of}
use Rattle.fm_law_sound.proofs.NextActs.{next_acts_fit}
use Rattle.fm_law_sound.proofs.StepsSound.{moved_by, step_sound}
use Rattle.fm_law_no_fault.specs.CellsResolved.{CellsAreResolved}
use Rattle.fm_law_no_fault.specs.Whole.{IsWholeBy}
use Rattle.fm_law_no_fault.proofs.ActsKeep.{acts_go, types_after, went_first, WentTo}
use Rattle.fm_law_no_fault.proofs.ActsSuits.{acts_lead}
use Rattle.fm_law_no_fault.proofs.AllRows.{rows_owe}
use Rattle.fm_law_no_fault.proofs.Owing.{RowIsWhole}
use Rattle.fm_law_no_fault.proofs.StartsSuit.{NumbersAreConstants, start_owes}
use Rattle.fm_law_holders.specs.Uninitialised.{AreMade, FrameIsMade, item_of, Made, made_after, made_from}
use Rattle.fm_law_holders.proofs.NextMade.{next_made}
use Rattle.fm_law_holders.proofs.StepMade.{Follows, frames-later, start_follows}

module _ (p : Program) (typings : Typings) (typed : AreTyped p typings) (steps : StepsAreResolved p) (cells : CellsAreResolved p) (numbers : NumbersAreConstants p.outline) (free : CallsNoFreeMe p) (choose : Choose) (z : State) (f : Frame) (callers : List Frame) (made : Made) where
  abbrev o : Outline
  o = p.outline

  -- the state, with its frames
  abbrev x : State
  x = record z { frames = f ∷ callers }

  abbrev later_made : Made
  later_made = made_from made z.areas.store.births f.item

  -- what has to hold of the next state
  abbrev IsMade : State → Type 0
  IsMade y = AreMade typings y later_made

  with_areas : (next : State) (areas : Areas) → next.areas ≡ areas → AllByRecursion (FrameIsMade typings areas.store later_made) next.frames → IsMade next
  with_areas next areas same h = subst (λ (y : Areas). AllByRecursion (FrameIsMade typings y.store later_made) next.frames) (sym same) h

  module _ (whole : IsWholeBy p typings x) (are : AreMade typings x made) where
    abbrev standing : StandsWithout p typings 0 f
    standing = whole.sound.frames.0

    meets : MeetsItem p f.method standing.code (typings f.method) f.item standing.known
    meets = (typing_of p typings typed f.method standing.code standing.code_is).items f.item standing.known standing.at

    -- the frames as they are, once objects were made
    stays : (areas : Areas) → Extends z.areas.store areas.store → AllByRecursion (FrameIsMade typings areas.store later_made) (f ∷ callers)
    stays areas more = frames-later typings z.areas.store areas.store more made f.item (f ∷ callers) are

    module _ (i : Insn) (after : TypeState) (insn_is : insn_of standing.code f.item ≡ Some i) (row : row_after o f.method f.item (made_at p f.method standing.code) (use_by p f.method i) i standing.known ≡ Some after) where
      abbrev at_row : StandsAtRow p typings f i after
      at_row = record {
        code = standing.code;
        code_is = standing.code_is;
        insn_is = insn_is;
        known = standing.known;
        at = standing.at;
        row = row;
        targets = steps.targets f.method standing.code f.item i standing.code_is insn_is;
      }

      found_insn : next_insn p f ≡ Some i
      found_insn = ap (λ found. option_and_then (λ (c : Code). insn_of c f.item) found) standing.code_is ∙ insn_is

      -- what holds of the effect with its class's start
      record Goes (e : Effect) : Type 0 where
        owes : RowIsWhole p z.areas.store (this_class o f.method) (made_at p f.method standing.code) after f e
        follows : Follows p typings typed steps choose z f callers whole.sound made are i after at_row e

      goes : Goes (next_effect p x)
      unfolding next_effect
      goes =
          subst (λ e. Goes (with_start o z.areas.started e)) (sym (ap (effect_by p x f) found_insn))
          (record {
            owes = start_owes p cells steps.tree numbers z.areas.store f.stack (this_class o f.method) (made_at p f.method standing.code) after f refl
                z.areas.started
                (effect_of o f.method (use_by p f.method i) i (slice_get z.input 0) (sights o z.areas.store f.stack))
                (rows_owe p typings typed steps cells free z.areas whole.sound.areas whole.areas f i after at_row standing whole.frames.0 (slice_get z.input 0));
            follows = start_follows p typings typed steps choose z f callers whole.sound made are i after at_row z.areas.started;
          })

      abbrev actions : List Action
      actions = (next_effect p x).actions

      finished_made : (price : ℕ) (result : Performed) → performed o (lawful choose) f.locals f.stack actions z.areas [] ≡ result
          → WentTo o z.areas.store (types_after [] actions) result → IsSoundBy p typings (finished p price (next_effect p x) x result)
          → IsMade (finished p price (next_effect p x) x result)
      finished_made price (Did areas made_cells) is went sound =
          let e : Effect = next_effect p x in
          let y : State = record x {
            areas = areas;
            input = input_after e.reads x.input;
            steps = cond (is_done e.next) (x.steps + price) x.steps;
          } in
          let next : State = continued p (sources_of f areas made_cells) e f callers y in
          let same : next.areas ≡ areas =
          ap (λ (s : State). s.areas) (continued_is p (sources_of f areas made_cells) e f callers y)
          ∙ followed_areas p (sources_of f areas made_cells) e f callers y e.next in
          let shared : AreasAreSound o areas = subst (AreasAreSound o) same sound.areas in
          with_areas next areas same
          (next_made p typings typed steps later_made y f i after at_row made_cells standing callers whole.sound.frames.1 (stays areas went.extends)
          (stays areas went.extends) e e.next (goes.follows y made_cells is went.extends shared.statics) sound.frames)
      finished_made price (FullAt areas needed) is went sound = stays areas went.1
      finished_made price (LostAt v) is went sound = absurd went

      attempt_made : (is_over o z.areas actions ≡ false → ActsFit o z.areas.store f [] actions)
          → IsSoundBy p typings (attempted p (lawful choose) x (next_effect p x)).state → IsMade (attempted p (lawful choose) x (next_effect p x)).state
      attempt_made fit =
          moved_by (λ s. IsSoundBy p typings s → IsMade s) (is_deep x (next_effect p x).next) _ _
          (λ deep sound. stays z.areas (extends-refl z.areas.store))
          (λ shallow. moved_by (λ s. IsSoundBy p typings s → IsMade s) (is_over o z.areas actions) _ _
          (λ over sound. stays z.areas (extends-refl z.areas.store))
          (λ within sound. finished_made (max 1 (objects_made actions))
          (performed o (lawful choose) f.locals f.stack actions z.areas []) refl
          (acts_go o (lawful choose) (λ s request. lawful_choice-may s request (choose s request)) z.areas.store f.locals f.stack actions [] z.areas []
          (acts_lead p cells z.areas.store f actions [] (fit within) goes.owes.acts) (went_first o z.areas whole.areas)) sound))

    pub frame_made : (is_over o z.areas (next_effect p x).actions ≡ false → ActsFit o z.areas.store f [] (next_effect p x).actions)
        → IsSoundBy p typings (attempted p (lawful choose) x (next_effect p x)).state → IsMade (attempted p (lawful choose) x (next_effect p x)).state
    frame_made fit =
        let met = met_row p typings f standing.code standing.known meets in attempt_made met.insn met.after met.insn_is met.row fit

by_frames : (p : Program) (typings : Typings) (typed : AreTyped p typings) (steps : StepsAreResolved p) (cells : CellsAreResolved p)
    → NumbersAreConstants p.outline → CallsNoFreeMe p → (choose : Choose) (z : State) (frames : List Frame) (made : Made)
    → IsWholeBy p typings (record z { frames = frames }) → AreMade typings (record z { frames = frames }) made → z.ended ≡ None
    → ((f : Frame) (callers : List Frame) → frames ≡ f ∷ callers → is_over p.outline z.areas (next_effect p (record z { frames = frames })).actions ≡ false
    → ActsFit p.outline z.areas.store f [] (next_effect p (record z { frames = frames })).actions)
    → IsSoundBy p typings (attempted p (lawful choose) (record z { frames = frames }) (next_effect p (record z { frames = frames }))).state
    → AreMade typings (attempted p (lawful choose) (record z { frames = frames }) (next_effect p (record z { frames = frames }))).state
    (made_after (record z { frames = frames }) made)
by_frames p typings typed steps cells numbers free choose z [] made whole are not_ended fit sound =
    let some = whole.sound.running not_ended in absurd (omega (arith, some))
by_frames p typings typed steps cells numbers free choose z (f ∷ callers) made whole are not_ended fit sound =
    frame_made p typings typed steps cells numbers free choose z f callers made whole are (fit f callers refl) sound

pub step_made : (p : Program) (typings : Typings) (typed : AreTyped p typings) (steps : StepsAreResolved p) → MakesAreResolved p → (cells : CellsAreResolved p)
    → NumbersAreConstants p.outline → CallsNoFreeMe p → (choose : Choose) (x : State) (made : Made) → IsWholeBy p typings x → MakesFew p x
    → AreMade typings x made → AreMade typings (step p (lawful choose) x).state (made_after x made)
unfolding step
step_made p typings typed steps makes cells numbers free choose x made whole few are =
    by_end x.ended refl (step_sound p typings steps choose x whole.sound (λ running. next_acts_fit p typings steps makes x whole.sound few)) where
      moved_with : Option Ended → Moved
      moved_with (Some e) = record { state = x; printed = [] }
      moved_with None = attempted p (lawful choose) x (next_effect p x)

      by_end : (ended : Option Ended) → x.ended ≡ ended → IsSoundBy p typings (moved_with ended).state
          → AreMade typings (moved_with ended).state (made_after x made)
      by_end (Some e) is sound = frames-later typings x.areas.store x.areas.store (extends-refl x.areas.store) made (item_of x) x.frames are
      by_end None is sound =
          by_frames p typings typed steps cells numbers free choose x x.frames made whole are is
          (λ f callers frames within. next_acts_fit p typings steps makes x whole.sound few f callers frames within) sound
