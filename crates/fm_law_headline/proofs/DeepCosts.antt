-- A step that ends a run as far as its program goes costs at most one more than was counted: where more frames would come than may be, it makes one object at
-- most.
use Rattle.std.proofs.Common.{◌≡◌, ℕ, ℤ, ◌+◌, ◌≤◌, Bool, true, false, List, [], ◌∷◌, length, max, reverse, Option, Some, None, refl, sym, ◌∙◌, ap, subst, if◌then◌else◌, arith}
use Rattle.std.specs.Prelude.{int_lt, pos}
use Rattle.std.specs.List.{list_any, range_with_len}
use Rattle.std.proofs.lemmas.Bool.{false≢true}
use Rattle.std.proofs.lemmas.Option.{same_Some}
use Rattle.fm_base.specs.declared.kinds.TypeRef.{TypeRef}
use Rattle.fm_cells.specs.Sizes.{cell_words}
use Rattle.fm_cells.specs.Stores.{live_words}
use Rattle.fm_code.specs.declared.instructions.Insn.{Insn}
use Rattle.fm_code.specs.declared.instructions.Insn.TheVariants as insn
use Rattle.fm_exec_nests.proofs.CostSteps.{cost-at, cost-cheap, cost-none, frames_effect, nest-alone, nest-insn}
use Rattle.fm_exec_nests.specs.inner.Costs.{nest_of}
use Rattle.fm_exec_nests.specs.inner.Nests.{nest_effect}
use Rattle.fm_frames.proofs.StepCounts.{step_going}
use Rattle.fm_frames.specs.Acts.{Choose, performed, Performed, Did, FullAt, LostAt, Sources, value_of}
use Rattle.fm_frames.specs.ArrayRows.{arrays_of, ints_at, multi_array_effect, thrown_negative}
use Rattle.fm_frames.specs.Effects.{Calls, Effect, Enters, Exits, Falls, Faults, Jumps, JumpsIfSame, Next, Returns, Throws}
use Rattle.fm_frames.specs.Rows.{effect_of}
use Rattle.fm_frames.specs.Runnable.{IsRunnable}
use Rattle.fm_frames.specs.Sights.{Sight, sights}
use Rattle.fm_frames.specs.Starts.{with_start}
use Rattle.fm_frames.specs.States.{Areas, Frame, Moved, State}
use Rattle.fm_frames.specs.Steps.{attempted, caught, continued, cost, done_by, effect_by, fault_of, finished, halted, is_deep, is_done, is_over, locals_of, next_effect, next_insn, objects_made, stack_of, step, stopped, type_at, words_made}
use Rattle.fm_frames.specs.declared.ends.Ended.{Ended}
use Rattle.fm_frames.specs.declared.ends.Ended.TheVariants as end
use Rattle.fm_law_same_runs.proofs.Costs.{begun, end_counts, is_counted, steps_rise, thrown-keeps}
use Rattle.fm_law_same_runs.specs.Programs as programs
use Rattle.fm_law_sound.proofs.Cases.{by_on_type}
use Rattle.fm_law_sound.proofs.InsnActs.{magnitudes}
use Rattle.fm_types.specs.Typed.{use_in}
use Rattle.fm_world.specs.Programs.{Outline, Program}
use Rattle.fm_world.specs.declared.uses.Use.{Use}

-- ---- the instruction that may make several objects

-- no frame comes on top
abbrev IsShallow : Next → Type 0
IsShallow Falls = Unit {0}
IsShallow (Throws source) = Unit {0}
IsShallow (Faults source) = Unit {0}
IsShallow next = ⊥

record HasShallow (e : Effect) : Type 0 where
  shallow : IsShallow e.next

arrays_shallow : (o : Outline) (t : TypeRef) (dimensions : ℕ) (counts : Option (List ℤ)) → HasShallow (arrays_of o t dimensions counts)
arrays_shallow o t dimensions None = record { shallow = tt }
arrays_shallow o t dimensions (Some counts) = by_sign (list_any (λ n. int_lt n (pos 0)) counts) where
  by_sign : (negative : Bool) → HasShallow (if negative then thrown_negative o else nest_effect dimensions t (magnitudes counts))
  by_sign true = record { shallow = tt }
  by_sign false = record { shallow = tt }

nest_shallow : (o : Outline) (u : Use) (dimensions : ℕ) (s : List Sight) → HasShallow (multi_array_effect o u dimensions s)
unfolding multi_array_effect
nest_shallow o u dimensions s =
    by_on_type HasShallow o u _ (record { shallow = tt }) (λ n t is at. arrays_shallow o t dimensions (ints_at s (reverse (range_with_len 0 dimensions))))

-- ---- what such an effect leaves

-- the run hasn't ended as too deep, or its steps are this many
abbrev CountsDeep : ℕ → State → Type 0
CountsDeep n y = (frames : ℕ) → y.ended ≡ Some (end.TooDeep frames) → y.steps ≡ n

abbrev is_too_deep : Ended → Bool
is_too_deep (end.TooDeep frames) = true
is_too_deep e = false

no_deep : (n : ℕ) (y : State) (e : Ended) → is_too_deep e ≡ false → CountsDeep n (stopped y e)
no_deep n y e other frames is = absurd (false≢true (sym other ∙ ap is_too_deep (same_Some e (end.TooDeep frames) is)))

continued_deep : (p : Program) (price : ℕ) (from : Sources) (e : Effect) (x : State) (f : Frame) (callers : List Frame) (areas : Areas) (next : Next)
    → IsShallow next
    → CountsDeep (x.steps + price)
    (continued p from (record e { next = next }) f callers (begun price (record e { next = next }) (record x { frames = f ∷ callers }) areas))
unfolding continued
continued_deep p price from e x f callers areas Falls shallow frames is = refl
continued_deep p price from e x f callers areas (Throws source) shallow frames is =
    let y = begun price (record e { next = Throws source }) (record x { frames = f ∷ callers }) areas in
    let v = value_of from source in thrown-keeps y (caught p (type_at p.outline areas.store v) v (f ∷ callers))
continued_deep p price from e x f callers areas (Faults source) shallow frames is =
    let y = begun price (record e { next = Faults source }) (record x { frames = f ∷ callers }) areas in
    no_deep (x.steps + price) y (fault_of p y (value_of from source)) refl frames is
continued_deep p price from e x f callers areas (Jumps n) shallow frames is = absurd shallow
continued_deep p price from e x f callers areas (JumpsIfSame same) shallow frames is = absurd shallow
continued_deep p price from e x f callers areas (Calls m) shallow frames is = absurd shallow
continued_deep p price from e x f callers areas (Returns n) shallow frames is = absurd shallow
continued_deep p price from e x f callers areas (Enters methods) shallow frames is = absurd shallow
continued_deep p price from e x f callers areas (Exits n) shallow frames is = absurd shallow

finished_deep : (p : Program) (price : ℕ) (e : Effect) (x : State) (f : Frame) (callers : List Frame) (result : Performed) → IsShallow e.next
    → CountsDeep (x.steps + price) (finished p price e (record x { frames = f ∷ callers }) result)
finished_deep p price e x f callers (FullAt areas needed) shallow =
    no_deep (x.steps + price) (record x { frames = f ∷ callers; areas = areas }) (end.StoreFull areas.store.made_words (cell_words needed)) refl
finished_deep p price e x f callers (LostAt v) shallow =
    let y : State = record x { frames = f ∷ callers } in no_deep (x.steps + price) y (fault_of p y v) refl
finished_deep p price e x f callers (Did areas made) shallow =
    continued_deep p price (record { locals = f.locals; stack = f.stack; areas = areas; made = made }) e x f callers areas e.next shallow

shallow_deep : (x : State) (next : Next) → IsShallow next → is_deep x next ≡ false
shallow_deep x Falls shallow = refl
shallow_deep x (Throws source) shallow = refl
shallow_deep x (Faults source) shallow = refl
shallow_deep x (Jumps n) shallow = absurd shallow
shallow_deep x (JumpsIfSame same) shallow = absurd shallow
shallow_deep x (Calls m) shallow = absurd shallow
shallow_deep x (Returns n) shallow = absurd shallow
shallow_deep x (Enters methods) shallow = absurd shallow
shallow_deep x (Exits n) shallow = absurd shallow

attempted_deep : (p : Program) (choose : Choose) (e : Effect) (x : State) (f : Frame) (callers : List Frame) → IsShallow e.next
    → CountsDeep (x.steps + max 1 (objects_made e.actions)) (attempted p choose (record x { frames = f ∷ callers }) e).state
attempted_deep p choose e x f callers shallow = by_room (is_deep y e.next) (is_over p.outline y.areas e.actions) (shallow_deep y e.next shallow) where
  y : State
  y = record x { frames = f ∷ callers }

  price : ℕ
  price = max 1 (objects_made e.actions)

  by_room : (deep over : Bool) → deep ≡ false
      → CountsDeep (x.steps + price) (if deep then halted y (end.TooDeep (length y.frames)) else
      if over then halted y (end.Exhausted (live_words y.areas.store) (words_made p.outline y.areas e.actions)) else
      done_by p price e y (performed p.outline choose (locals_of y) (stack_of y) e.actions y.areas [])).state
  by_room true over none = absurd (false≢true (sym none))
  by_room false true none =
      no_deep (x.steps + price) y (end.Exhausted (live_words y.areas.store) (words_made p.outline y.areas e.actions)) refl
  by_room false false none = finished_deep p price e x f callers (performed p.outline choose (locals_of y) (stack_of y) e.actions y.areas []) shallow

-- ---- a step that ends as too deep

-- what was counted and one step more are no fewer than the steps with the cost of this one
abbrev CostsWithin : Program → Choose → State → Type 0
CostsWithin p choose x = x.steps + cost p x ≤ (step p choose x).state.steps + 1

within_one : (p : Program) (choose : Choose) (x : State) → cost p x ≡ 1 → CostsWithin p choose x
within_one p choose x one = let rise = steps_rise p choose x in omega (arith, one, rise)

module _ (p : Program) (x : State) (f : Frame) (callers : List Frame) (is : x.frames ≡ f ∷ callers) where
  nest_next : (index dimensions : ℕ) → next_insn p f ≡ Some (insn.MultiArray index dimensions) → HasShallow (next_effect p x)
  unfolding next_effect effect_of
  nest_next index dimensions at =
      let s : List Sight = sights p.outline x.areas.store f.stack in
      let u : Use = use_in p f.method index in
      subst HasShallow
      (sym
      (ap (λ frames. with_start p.outline x.areas.started (frames_effect p x frames)) is
      ∙ ap (λ i. with_start p.outline x.areas.started (effect_by p x f i)) at ∙ nest-alone p.outline x.areas.started u dimensions s))
      (nest_shallow p.outline u dimensions s)

  nest_counts : (choose : Choose) (index dimensions : ℕ) → next_insn p f ≡ Some (insn.MultiArray index dimensions) → x.ended ≡ None
      → CountsDeep (x.steps + cost p x) (step p choose x).state
  unfolding cost
  nest_counts choose index dimensions at going =
      let e : Effect = next_effect p x in
      let price : ℕ = max 1 (objects_made e.actions) in
      subst (λ (m : Moved). CountsDeep (x.steps + price) m.state) (sym (step_going p choose x going))
      (subst (λ (frames : List Frame). CountsDeep (x.steps + price) (attempted p choose (record x { frames = frames }) e).state) (sym is)
      (attempted_deep p choose e x f callers (nest_next index dimensions at).shallow))

  nest_within : (choose : Choose) (index dimensions frames : ℕ) → next_insn p f ≡ Some (insn.MultiArray index dimensions) → x.ended ≡ None
      → (step p choose x).state.ended ≡ Some (end.TooDeep frames) → CostsWithin p choose x
  nest_within choose index dimensions frames at going ended =
      let same = nest_counts choose index dimensions at going frames ended in omega (arith, same)

  found_within : IsRunnable p → (choose : Choose) (frames : ℕ) (found : Option Insn) → next_insn p f ≡ found → x.ended ≡ None
      → (step p choose x).state.ended ≡ Some (end.TooDeep frames) → CostsWithin p choose x
  found_within runnable choose frames None at going ended = within_one p choose x (cost-at p x f callers None is at)
  found_within runnable choose frames (Some i) at going ended = by_nest (nest_of i) refl where
    by_nest : (nest : Option (ℕ × ℕ)) → nest_of i ≡ nest → CostsWithin p choose x
    by_nest None other = within_one p choose x (cost-cheap p x f callers i runnable is at other)
    by_nest (Some (index, dimensions)) several =
        nest_within choose index dimensions frames (at ∙ ap Some (nest-insn i index dimensions several)) going ended

module _ (p : Program) (runnable : IsRunnable p) (choose : Choose) (x : State) (going : x.ended ≡ None) where
  deep_within : (frames : ℕ) → (step p choose x).state.ended ≡ Some (end.TooDeep frames) → CostsWithin p choose x
  deep_within frames ended = by_frames x.frames refl where
    by_frames : (all : List Frame) → x.frames ≡ all → CostsWithin p choose x
    by_frames [] none = within_one p choose x (cost-none p x none)
    by_frames (f ∷ callers) is = found_within p x f callers is runnable choose frames (next_insn p f) refl going ended

  counted_within : (e : Ended) → (step p choose x).state.ended ≡ Some e → is_counted e ≡ true → CostsWithin p choose x
  counted_within e ended counted = by_frames x.frames refl where
    by_frames : (all : List Frame) → x.frames ≡ all → CostsWithin p choose x
    by_frames [] none = within_one p choose x (cost-none p x none)
    by_frames (f ∷ callers) is = let same = end_counts p choose x f callers is going e ended counted in omega (arith, same)

  -- the last step of a run that went as far as its program goes
  pub done_within : (e : Ended) → (step p choose x).state.ended ≡ Some e → programs.is_done e ≡ true → x.steps + cost p x ≤ (step p choose x).state.steps + 1
  done_within end.Returned ended done = counted_within end.Returned ended refl
  done_within (end.Exit number) ended done = counted_within (end.Exit number) ended refl
  done_within (end.Uncaught class) ended done = counted_within (end.Uncaught class) ended refl
  done_within (end.InitFailed class) ended done = counted_within (end.InitFailed class) ended refl
  done_within (end.TooDeep frames) ended done = deep_within frames ended
  done_within end.Running ended done = absurd (false≢true done)
  done_within (end.Exhausted live needed) ended done = absurd (false≢true done)
  done_within (end.StoreFull made needed) ended done = absurd (false≢true done)
  done_within (end.Fault method offset cell) ended done = absurd (false≢true done)
