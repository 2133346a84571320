-- A step lets the cells of each size class grow, or shrink: it makes objects or frees them.
use Rattle.std.proofs.Common.{◌≡◌, ◌⊎◌, ℕ, ◌+◌, max, inl, inr, Bool, true, false, cond, List, [], ◌∷◌, ◌++◌, Option, Some, None, refl, sym, ◌∙◌, ap, subst}
use Rattle.std.specs.List.{AllByRecursion}
use Rattle.fm_base.proofs.ListFacts.{AllByRecursion-append, AllByRecursion-weaker}
use Rattle.fm_cells.specs.Soundness.{IsLastReused}
use Rattle.fm_cells.specs.Stores.{Store}
use Rattle.fm_code.specs.declared.instructions.Insn.{Insn}
use Rattle.fm_types.specs.Typed.{use_by}
use Rattle.fm_world.specs.Programs.{Outline, Program}
use Rattle.fm_frames.specs.Acts.{Did, FullAt, LostAt, performed, Performed}
use Rattle.fm_frames.specs.Effects.{Action, Effect, Enters, MakeLiteral, nothing, SetStatic, Start, stuck}
use Rattle.fm_frames.specs.Sights.{sights}
use Rattle.fm_frames.specs.Starts.{start_actions, start_methods, started_by, to_start, with_start}
use Rattle.fm_frames.specs.States.{Areas, Frame, Moved, State}
use Rattle.fm_frames.specs.Steps.{attempted, effect_at, effect_by, finished, input_after, next_insn, is_deep, is_done, is_over, locals_of, next_effect, objects_made, stack_of, step}
use Rattle.fm_frames.specs.declared.ends.Ended.{Ended}
use Rattle.fm_law_sound.proofs.Following.{continued_is, followed_areas}
use Rattle.fm_law_sound.proofs.Opening.{IsOfStart, start_made}
use Rattle.fm_law_sound.specs.Leading.{sources_of}
use Rattle.fm_law_cells_made.proofs.Acts.{acts_grow, acts_shrink, choice, IsFreeing, IsGrowing, leads_follow, LeadsBy}
use Rattle.fm_law_cells_made.proofs.Counts.{Follows, Grows, grows_follow, same_grows, same_shrinks, Shrinks, shrinks_follow}
use Rattle.fm_frames.proofs.EachRow.{IsOfRow}
use Rattle.fm_law_cells_made.proofs.Rows.{IsApart, rows_apart}

-- ---- the start of classes

of_start : (action : Action) → IsOfStart action → IsGrowing action
of_start (MakeLiteral text) h = tt
of_start (SetStatic slot k v) h = tt
of_start (Start class) h = tt
of_start action h = absurd h

pub starts_grow : (o : Outline) (classes : List ℕ) → AllByRecursion IsGrowing (start_actions o classes)
starts_grow o classes = AllByRecursion-weaker IsOfStart IsGrowing of_start (start_actions o classes) (start_made o classes)

-- the classes of built-in methods have started
abbrev pub AreSettled : Outline → Type 0
AreSettled o = (started : List Bool) (class : ℕ) → IsOfRow o (Some class) → to_start o started class ≡ []

-- all actions free nothing, or all of them free
abbrev pub AreApart : List Action → Type 0
AreApart actions = AllByRecursion IsGrowing actions ⊎ AllByRecursion IsFreeing actions

module _ (o : Outline) (settled : AreSettled o) (started : List Bool) (e : Effect) where
  -- what the start of a class makes of an effect
  abbrev for_methods : List ℕ → List ℕ → Effect
  for_methods classes [] = record e { starts = None; actions = start_actions o classes ++ e.actions }
  for_methods classes (m ∷ methods) = record nothing { actions = start_actions o classes; next = Enters (m ∷ methods) }

  grown_apart : AllByRecursion IsGrowing e.actions → (classes methods : List ℕ) → AreApart (for_methods classes methods).actions
  grown_apart all classes [] = inl (AllByRecursion-append IsGrowing (start_actions o classes) e.actions (starts_grow o classes) all)
  grown_apart all classes (m ∷ methods) = inl (starts_grow o classes)

  abbrev for_class : Option ℕ → Effect
  for_class None = e
  for_class (Some class) = started_by o (to_start o started class) e

  starts_apart : IsApart o e → (starts : Option ℕ) → e.starts ≡ starts → AreApart (for_class starts).actions
  starts_apart h starts is = by_actions h.apart starts is where
    by_actions : AllByRecursion IsGrowing e.actions ⊎ (IsOfRow o e.starts × AllByRecursion IsFreeing e.actions) → (starts : Option ℕ) → e.starts ≡ starts
        → AreApart (for_class starts).actions
    by_actions (inl all) None is = inl all
    by_actions (inl all) (Some class) is = grown_apart all (to_start o started class) (start_methods o (to_start o started class))
    by_actions (inr all) None is = inr all.1
    by_actions (inr all) (Some class) is =
        subst (λ classes. AreApart (started_by o classes e).actions) (sym (settled started class (subst (IsOfRow o) is all.0))) (inr all.1)

  pub start_apart : IsApart o e → AreApart (with_start o started e).actions
  start_apart h = starts_apart h e.starts refl

-- ---- the next effect

pub next_apart : (p : Program) → AreSettled p.outline → (x : State) → AreApart (next_effect p x).actions
unfolding next_effect
next_apart p settled x = start_apart p.outline settled x.areas.started (effect_at p x) (of_frames x.frames) where
  found : (frames : List Frame) → Effect
  found [] = stuck
  found (f ∷ callers) = effect_by p x f (next_insn p f)

  of_insn : (f : Frame) (i : Option Insn) → IsApart p.outline (effect_by p x f i)
  of_insn f None = record { apart = inl tt }
  of_insn f (Some i) = rows_apart p.outline (sights p.outline x.areas.store f.stack) f.method i (use_by p f.method i) _

  of_frames : (frames : List Frame) → IsApart p.outline (found frames)
  of_frames [] = record { apart = inl tt }
  of_frames (f ∷ callers) = of_insn f (next_insn p f)

-- ---- the step

-- what it does to the store
abbrev pub Steps : State → State → Type 0
Steps x y = Follows x.areas.store y.areas.store

same_follow : (x : Store) → IsLastReused x → Follows x x
same_follow x last = grows_follow x x (same_grows x last)

module _ (p : Program) (x : State) (last : IsLastReused x.areas.store) (e : Effect) where
  -- where all actions were done
  did_follow : (price : ℕ) (areas : Areas) (made : List ℕ) (frames : List Frame) → Follows x.areas.store areas.store
      → Steps x (finished p price e (record x { frames = frames }) (Did areas made))
  did_follow price areas made [] h = h
  did_follow price areas made (f ∷ callers) h =
      let later : State = record x {
        frames = f ∷ callers;
        areas = areas;
        input = input_after e.reads x.input;
        steps = cond (is_done e.next) (x.steps + price) x.steps;
      } in
      let same = ap (λ (y : State). y.areas) (continued_is p (sources_of f areas made) e f callers later) ∙ followed_areas p (sources_of f areas made) e f callers later e.next in
      subst (λ (a : Areas). Follows x.areas.store a.store) (sym same) h

  finished_follows : (price : ℕ) (result : Performed) → LeadsBy Follows x.areas.store result → Steps x (finished p price e x result)
  finished_follows price (Did areas made) h = did_follow price areas made x.frames h
  finished_follows price (FullAt areas needed) h = h
  finished_follows price (LostAt v) h = same_follow x.areas.store last

  either_follows : (b : Bool) (one other : Moved) → Steps x one.state → Steps x other.state → Steps x (cond b one other).state
  either_follows true one other first second = first
  either_follows false one other first second = second

  acts_follow : AreApart e.actions → LeadsBy Follows x.areas.store (performed p.outline choice (locals_of x) (stack_of x) e.actions x.areas [])
  acts_follow (inl all) =
      let result : Performed = performed p.outline choice (locals_of x) (stack_of x) e.actions x.areas [] in
      leads_follow Grows grows_follow x.areas.store result
      (acts_grow p.outline (locals_of x) (stack_of x) x.areas.store e.actions x.areas [] all (same_grows x.areas.store last))
  acts_follow (inr all) =
      let result : Performed = performed p.outline choice (locals_of x) (stack_of x) e.actions x.areas [] in
      leads_follow Shrinks shrinks_follow x.areas.store result
      (acts_shrink p.outline (locals_of x) (stack_of x) x.areas.store e.actions x.areas [] all (same_shrinks x.areas.store last))

  attempt_follows : AreApart e.actions → Steps x (attempted p choice x e).state
  attempt_follows apart =
      either_follows (is_deep x e.next) _ _ (same_follow x.areas.store last)
      (either_follows (is_over p.outline x.areas e.actions) _ _ (same_follow x.areas.store last)
      (finished_follows (max 1 (objects_made e.actions)) (performed p.outline choice (locals_of x) (stack_of x) e.actions x.areas []) (acts_follow apart)))

pub step_follows : (p : Program) → AreSettled p.outline → (x : State) → IsLastReused x.areas.store → Steps x (step p choice x).state
unfolding step
step_follows p settled x last = by_end x.ended where
  moved_with : Option Ended → Moved
  moved_with (Some ended) = record { state = x; printed = [] }
  moved_with None = attempted p choice x (next_effect p x)

  by_end : (ended : Option Ended) → Steps x (moved_with ended).state
  by_end (Some ended) = same_follow x.areas.store last
  by_end None = attempt_follows p x last (next_effect p x) (next_apart p settled x)
