-- Where the frames of a state that goes on are, and what that gives to each step.
use Rattle.std.proofs.Common.{◌≡◌, ℕ, zero, suc, ◌+◌, ◌-◌, ◌^◌, ◌<◌, ◌≤◌, ◌⊎◌, inl, inr, true, List, [], ◌∷◌, length, Some, None, refl, sym, subst, slice_get, arith}
use Rattle.fm_base.proofs.ListFacts.{some_within}
use Rattle.fm_base.proofs.OptionFacts.{option_and_then-some, Some-from_some_and}
use Rattle.fm_exec_calls.specs.inner.Actions.{unmade}
use Rattle.fm_code.proofs.EdgesLemmas.{insn_inside}
use Rattle.fm_code.specs.Edges.{insn_of, IsNormalEdge}
use Rattle.fm_code.specs.declared.code_array.Code.{Code}
use Rattle.fm_code.specs.declared.code_array.TheConstants.{MAX_CODE_BYTES}
use Rattle.fm_code.specs.declared.instructions.Insn.{Insn}
use Rattle.fm_frames.proofs.StepCounts.{costs_some}
use Rattle.fm_frames.specs.States.{Frame, State}
use Rattle.fm_frames.specs.Steps.{next_insn}
use Rattle.fm_frames.specs.inner.Doings.{CanStep, NextFits}
use Rattle.fm_frames.specs.inner.Targets.{IsAt, IsAtIn}
use Rattle.fm_law_can_step.specs.Ready.{CanRun, IsGoing, IsNext}
use Rattle.fm_law_sound.proofs.FramesStand.{typing_of}
use Rattle.fm_law_sound.specs.Sound.{AreTyped, Calling, FrameHasKinds, IsSoundBy, Stand, StandBelow, StandsWithout, Starting, Typings}
use Rattle.fm_types.specs.Rows.{row_after}
use Rattle.fm_types.specs.States.{is_whole, TypeState}
use Rattle.fm_types.specs.Typed.{after_item, FitsAt, IsTypingOf, made_at, MeetsItem, use_by}
use Rattle.fm_world.specs.Members.{methods_of}
use Rattle.fm_world.specs.Programs.{code_at, Program}
use Rattle.fm_world.specs.declared.uses.Use.{Use}

-- ---- the topmost frame

-- it is at an instruction of its method's code, and meets the row of the checker for it
pub record IsStanding (p : Program) (x : State) : Type 0 where
  pub frame : Frame
  pub callers : List Frame
  pub frames_is : x.frames ≡ frame ∷ callers
  pub code : Code
  pub code_is : code_at p frame.method ≡ Some code
  pub insn : Insn
  pub insn_is : insn_of code frame.item ≡ Some insn
  pub below : frame.item < length code.items
  pub known : TypeState
  pub kinds : FrameHasKinds known frame.locals frame.stack
  pub whole : is_whole known.stack ≡ true
  pub after : TypeState
  pub row : row_after p.outline frame.method frame.item (made_at p frame.method code) (use_by p frame.method insn) insn known ≡ Some after

pub standing_by : (p : Program) (typings : Typings) (z : State) (frames : List Frame) → IsSoundBy p typings (record z { frames = frames }) → z.ended ≡ None
    → IsStanding p (record z { frames = frames })
standing_by p typings z [] sound goes = let some = sound.running goes in absurd (omega (arith, some))
standing_by p typings z (f ∷ callers) sound goes =
    let stands : StandsWithout p typings 0 f = sound.frames.0 in
    let typing : IsTypingOf p f.method stands.code (typings f.method) = typing_of p typings sound.typed f.method stands.code stands.code_is in
    let meets : MeetsItem p f.method stands.code (typings f.method) f.item stands.known = typing.items f.item stands.known stands.at in
    let found = Some-from_some_and (after_item p f.method stands.code f.item stands.known)
    (λ given. (next : ℕ) → IsNormalEdge stands.code f.item next → FitsAt p (typings f.method) next given) meets.row in
    let parts = option_and_then-some
    (λ other. row_after p.outline f.method f.item (made_at p f.method stands.code) (use_by p f.method other) other stands.known)
    (insn_of stands.code f.item) found.0 found.1 in
    record {
      frame = f;
      callers = callers;
      frames_is = refl;
      code = stands.code;
      code_is = stands.code_is;
      insn = parts.0;
      insn_is = parts.1;
      below = insn_inside stands.code f.item parts.0 parts.1;
      known = stands.known;
      kinds = record { in_locals = stands.locals; in_stack = stands.stack };
      whole = meets.whole;
      after = found.0;
      row = parts.2;
    }

-- a state that goes on is at an instruction
pub standing : (p : Program) (x : State) → CanRun p → IsGoing p x → IsStanding p x
standing p x can going = standing_by p going.sound.0 x x.frames going.sound.1 going.goes

-- ---- all frames

-- each of the frames below
each_below : (p : Program) (typings : Typings) (f : Frame) (callers : List Frame) → StandBelow p typings f callers → (k : ℕ) (g : Frame)
    → slice_get callers k ≡ Some g → (words : ℕ) × StandsWithout p typings words g
each_below p typings f [] below k g at = absurd (cc)
each_below p typings f (caller ∷ callers) below (suc k) g at = each_below p typings caller callers below.1 k g at
each_below p typings f (caller ∷ callers) below zero g at = by_case below.0 where
  same : caller ≡ g
  same = cc

  by_case : (Calling p typings f caller ⊎ Starting p typings f caller) → (words : ℕ) × StandsWithout p typings words g
  by_case (inl calling) = (calling.words, subst (StandsWithout p typings calling.words) same calling.stands)
  by_case (inr starting) = (0, subst (StandsWithout p typings 0) same starting.stands)

-- and the topmost one
each_stands : (p : Program) (typings : Typings) (frames : List Frame) → Stand p typings frames → (k : ℕ) (g : Frame) → slice_get frames k ≡ Some g
    → (words : ℕ) × StandsWithout p typings words g
each_stands p typings [] stand k g at = absurd (cc)
each_stands p typings (f ∷ callers) stand zero g at =
    let same : f ≡ g = cc in (0, subst (StandsWithout p typings 0) same stand.0)
each_stands p typings (f ∷ callers) stand (suc k) g at = each_below p typings f callers stand.1 k g at

-- a method that has code is there
pub coded_inside : (p : Program) → CanRun p → (method : ℕ) (code : Code) → code_at p method ≡ Some code → method < length (methods_of p.outline.classes)
coded_inside p can method code is =
    let inside = some_within p.codes method code is in
    let same = can.steps.calls.runnable.codes in omega (arith, inside, same)

-- a frame's item is one of a code, of which there are few
item_fits : (p : Program) (typings : Typings) (words : ℕ) (f : Frame) → CanRun p → AreTyped p typings → StandsWithout p typings words f → f.item + 1 < 2 ^ 64
item_fits p typings words f can typed h =
    let typing : IsTypingOf p f.method h.code (typings f.method) = typing_of p typings typed f.method h.code h.code_is in
    let inside = some_within (typings f.method) f.item h.known h.at in
    let same = typing.one_each in
    let few = can.steps.items f.method h.code h.code_is in
    let most : MAX_CODE_BYTES ≤ 65536 = omega arith in
    omega (arith, inside, same, few, most)

-- ---- what each step asks

-- one more object can be numbered after the literals that aren't made yet
pub births : (p : Program) (x : State) → CanRun p → IsGoing p x → x.areas.store.births + unmade x.areas.literals < 2 ^ 32 - 1
births p x can going = let some = costs_some p x in let all = going.births in omega (arith, some, all)

next_fits : (frames : List Frame) → 0 < length frames → ((k : ℕ) (f : Frame) → slice_get frames k ≡ Some f → f.item + 1 < 2 ^ 64) → NextFits frames
next_fits [] some fits = absurd (omega (arith, some))
next_fits (f ∷ callers) some fits = fits 0 f refl

-- each step of a state that goes on can be done
pub can_step : (p : Program) (x : State) → CanRun p → IsGoing p x → CanStep p x
can_step p x can going =
    let typings : Typings = going.sound.0 in
    let sound : IsSoundBy p typings x = going.sound.1 in
    let one = costs_some p x in
    let steps = going.steps in
    let many = births p x can going in
    let fits : (k : ℕ) (f : Frame) → slice_get x.frames k ≡ Some f → f.item + 1 < 2 ^ 64 =
    λ k f at. let found = each_stands p typings x.frames sound.frames k f at in item_fits p typings found.0 f can sound.typed found.1 in
    record {
      runnable = can.steps.calls.runnable;
      ready = record { next_fits = next_fits x.frames (sound.running going.goes) fits; step_fits = omega (arith, one, steps) };
      frames = λ k f at.
          let found = each_stands p typings x.frames sound.frames k f at in coded_inside p can f.method found.1.code found.1.code_is;
      items_fit = fits;
      within = sound.within;
      birth_fits = omega (arith, many);
      budget_fits = going.sound.2;
    }

-- ---- the next instruction

at_frames : (p : Program) (frames : List Frame) (f : Frame) (callers : List Frame) (i : Insn) → frames ≡ f ∷ callers → next_insn p f ≡ Some i → IsAtIn p frames i
at_frames p frames f callers i is at = subst (λ all. IsAtIn p all i) (sym is) at

-- a jump is where its targets are listed
pub at_insn : (p : Program) (x : State) (i : Insn) (u : Use) → IsNext p x i u → IsAt p x i
at_insn p x i u next = at_frames p x.frames next.frame next.callers i next.frames_is next.insn_is

-- the method of the topmost frame is there
pub caller_inside : (p : Program) (x : State) (i : Insn) (u : Use) → CanRun p → (next : IsNext p x i u)
    → next.frame.method < length (methods_of p.outline.classes)
caller_inside p x i u can next =
    let parts = option_and_then-some (λ code. insn_of code next.frame.item) (code_at p next.frame.method) i next.insn_is in
    coded_inside p can next.frame.method parts.0 parts.1
