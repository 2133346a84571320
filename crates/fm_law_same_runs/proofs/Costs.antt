-- The steps that a run counts never fall, and each step of a run that goes on adds what it costs.
use Rattle.std.proofs.Common.{◌≡◌, ℕ, zero, suc, ◌+◌, ◌<◌, ◌≤◌, ◌⊎◌, Bool, true, false, List, [], ◌∷◌, ◌++◌, length, take, max, Option, Some, None, refl, sym, ◌∙◌, ap, subst, inl, inr, if◌then◌else◌, arith}
use Rattle.std.proofs.Math.Nat.{le-suc_iff, le_refl}
use Rattle.std.proofs.lemmas.Bool.{cases_lt, false≢true}
use Rattle.std.proofs.lemmas.Option.{none-some, same_Some}
use Rattle.fm_cells.specs.Sizes.{cell_words}
use Rattle.fm_cells.specs.Stores.{live_words}
use Rattle.fm_frames.proofs.StepCounts.{step_ended, step_going, steps-after}
use Rattle.fm_frames.specs.Acts.{Choose, performed, Performed, Did, FullAt, LostAt, Sources, value_of}
use Rattle.fm_frames.specs.Effects.{Effect, Next, Falls, Jumps, JumpsIfSame, Calls, Returns, Throws, Enters, Exits, Faults}
use Rattle.fm_frames.specs.States.{Areas, Frame, Moved, State}
use Rattle.fm_frames.specs.Steps.{attempted, Caught, InFrames, Leaves, caught, continued, cost, done_by, fault_of, finished, halted, input_after, is_deep, is_done, is_over, is_start, locals_of, next_effect, objects_made, returned, stack_of, step, stopped, thrown_by, type_at, words_made}
use Rattle.fm_frames.specs.declared.ends.Ended.{Ended}
use Rattle.fm_frames.specs.declared.ends.Ended.TheVariants as end
use Rattle.fm_world.specs.Programs.{Program}

-- ---- no step takes counted steps back

returned-keeps : (p : Program) (words : ℕ) (f : Frame) (callers : List Frame) (y : State) → (returned p words f callers y).steps ≡ y.steps
returned-keeps p words f [] y = refl
returned-keeps p words f (caller ∷ callers) y = by_start (is_start p.outline f.method) where
  by_start : (b : Bool)
      → (if b then record y { frames = caller ∷ callers }
      else record y { frames = record caller { item = caller.item + 1; stack = take words f.stack ++ caller.stack } ∷ callers }).steps ≡ y.steps
  by_start true = refl
  by_start false = refl

pub thrown-keeps : (y : State) (c : Caught) → (thrown_by y c).steps ≡ y.steps
thrown-keeps y (InFrames frames) = refl
thrown-keeps y (Leaves e) = refl

pub continued-keeps : (p : Program) (from : Sources) (e : Effect) (f : Frame) (callers : List Frame) (y : State) (next : Next)
    → (continued p from (record e { next = next }) f callers y).steps ≡ y.steps
unfolding continued
continued-keeps p from e f callers y Falls = refl
continued-keeps p from e f callers y (Jumps n) = refl
continued-keeps p from e f callers y (JumpsIfSame same) = refl
continued-keeps p from e f callers y (Calls m) = refl
continued-keeps p from e f callers y (Returns n) = returned-keeps p n f callers y
continued-keeps p from e f callers y (Throws source) =
    let v = value_of from source in thrown-keeps y (caught p (type_at p.outline y.areas.store v) v (f ∷ callers))
continued-keeps p from e f callers y (Enters methods) = refl
continued-keeps p from e f callers y (Exits n) = refl
continued-keeps p from e f callers y (Faults source) = refl

priced : (n price : ℕ) (done : Bool) → n ≤ (if done then n + price else n)
priced n price true = omega arith
priced n price false = le_refl n

-- the state before what follows is done
abbrev pub begun : ℕ → Effect → State → Areas → State
begun price e x areas =
    record x { areas = areas; input = input_after e.reads x.input; steps = (if is_done e.next then x.steps + price else x.steps) }

finished-keeps : (p : Program) (price : ℕ) (e : Effect) (x : State) (frames : List Frame) (result : Performed)
    → x.steps ≤ (finished p price e (record x { frames = frames }) result).steps
finished-keeps p price e x frames (FullAt areas needed) = le_refl x.steps
finished-keeps p price e x frames (LostAt v) = le_refl x.steps
finished-keeps p price e x [] (Did areas made) = priced x.steps price (is_done e.next)
finished-keeps p price e x (f ∷ callers) (Did areas made) =
    let from : Sources = record { locals = f.locals; stack = f.stack; areas = areas; made = made } in
    subst (λ n. x.steps ≤ n) (sym (continued-keeps p from e f callers (begun price e (record x { frames = f ∷ callers }) areas) e.next))
    (priced x.steps price (is_done e.next))

attempted-keeps : (p : Program) (choose : Choose) (x : State) (e : Effect) → x.steps ≤ (attempted p choose x e).state.steps
attempted-keeps p choose x e = by_room (is_deep x e.next) (is_over p.outline x.areas e.actions) where
  by_room : (deep over : Bool)
      → x.steps ≤ (if deep then halted x (end.TooDeep (length x.frames)) else
      if over then halted x (end.Exhausted (live_words x.areas.store) (words_made p.outline x.areas e.actions)) else
      done_by p (max 1 (objects_made e.actions)) e x (performed p.outline choose (locals_of x) (stack_of x) e.actions x.areas [])).state.steps
  by_room true over = le_refl x.steps
  by_room false true = le_refl x.steps
  by_room false false =
      finished-keeps p (max 1 (objects_made e.actions)) e x x.frames
      (performed p.outline choose (locals_of x) (stack_of x) e.actions x.areas [])

pub steps_rise : (p : Program) (choose : Choose) (x : State) → x.steps ≤ (step p choose x).state.steps
steps_rise p choose x = by_end x.ended refl where
  by_end : (ended : Option Ended) → x.ended ≡ ended → x.steps ≤ (step p choose x).state.steps
  by_end (Some e) is = subst (λ (m : Moved). x.steps ≤ m.state.steps) (sym (step_ended p choose x e is)) (le_refl x.steps)
  by_end None is =
      subst (λ (m : Moved). x.steps ≤ m.state.steps) (sym (step_going p choose x is)) (attempted-keeps p choose x (next_effect p x))

-- ---- a step that ends a run as its program does is counted

-- the end of a run whose last step was done
abbrev pub is_counted : Ended → Bool
is_counted end.Returned = true
is_counted (end.Exit number) = true
is_counted (end.Uncaught class) = true
is_counted end.Running = false
is_counted (end.Exhausted live needed) = false
is_counted (end.TooDeep frames) = false
is_counted (end.InitFailed class) = true
is_counted (end.StoreFull made needed) = false
is_counted (end.Fault method offset cell) = false

-- if the run has ended so, this many steps were counted
abbrev CountsAtEnd : ℕ → State → Type 0
CountsAtEnd n y = (e : Ended) → y.ended ≡ Some e → is_counted e ≡ true → y.steps ≡ n

uncounted : (n : ℕ) (y : State) (d : Ended) → is_counted d ≡ false → CountsAtEnd n (stopped y d)
uncounted n y d none e is counted = absurd (false≢true (sym none ∙ ap is_counted (same_Some d e is) ∙ counted))

continued-ends : (p : Program) (price : ℕ) (from : Sources) (e : Effect) (x : State) (f : Frame) (callers : List Frame) (areas : Areas) (next : Next)
    → CountsAtEnd (x.steps + price)
    (continued p from (record e { next = next }) f callers (begun price (record e { next = next }) (record x { frames = f ∷ callers }) areas))
unfolding continued
continued-ends p price from e x f callers areas Falls d is counted =
    continued-keeps p from e f callers (begun price (record e { next = Falls }) (record x { frames = f ∷ callers }) areas) Falls
continued-ends p price from e x f callers areas (Jumps n) d is counted =
    continued-keeps p from e f callers (begun price (record e { next = Jumps n }) (record x { frames = f ∷ callers }) areas) (Jumps n)
continued-ends p price from e x f callers areas (JumpsIfSame same) d is counted =
    continued-keeps p from e f callers (begun price (record e { next = JumpsIfSame same }) (record x { frames = f ∷ callers }) areas) (JumpsIfSame same)
continued-ends p price from e x f callers areas (Calls m) d is counted =
    continued-keeps p from e f callers (begun price (record e { next = Calls m }) (record x { frames = f ∷ callers }) areas) (Calls m)
continued-ends p price from e x f callers areas (Returns n) d is counted =
    continued-keeps p from e f callers (begun price (record e { next = Returns n }) (record x { frames = f ∷ callers }) areas) (Returns n)
continued-ends p price from e x f callers areas (Throws source) d is counted =
    continued-keeps p from e f callers (begun price (record e { next = Throws source }) (record x { frames = f ∷ callers }) areas) (Throws source)
continued-ends p price from e x f callers areas (Enters methods) d is counted =
    continued-keeps p from e f callers (begun price (record e { next = Enters methods }) (record x { frames = f ∷ callers }) areas) (Enters methods)
continued-ends p price from e x f callers areas (Exits n) d is counted =
    continued-keeps p from e f callers (begun price (record e { next = Exits n }) (record x { frames = f ∷ callers }) areas) (Exits n)
continued-ends p price from e x f callers areas (Faults source) d is counted =
    let y = begun price (record e { next = Faults source }) (record x { frames = f ∷ callers }) areas in
    uncounted (x.steps + price) y (fault_of p y (value_of from source)) refl d is counted

finished-ends : (p : Program) (price : ℕ) (e : Effect) (x : State) (f : Frame) (callers : List Frame) (result : Performed)
    → CountsAtEnd (x.steps + price) (finished p price e (record x { frames = f ∷ callers }) result)
finished-ends p price e x f callers (FullAt areas needed) =
    uncounted (x.steps + price) (record x { frames = f ∷ callers; areas = areas }) (end.StoreFull areas.store.made_words (cell_words needed)) refl
finished-ends p price e x f callers (LostAt v) =
    let y : State = record x { frames = f ∷ callers } in uncounted (x.steps + price) y (fault_of p y v) refl
finished-ends p price e x f callers (Did areas made) =
    continued-ends p price (record { locals = f.locals; stack = f.stack; areas = areas; made = made }) e x f callers areas e.next

attempted-ends : (p : Program) (choose : Choose) (e : Effect) (x : State) (f : Frame) (callers : List Frame)
    → CountsAtEnd (x.steps + max 1 (objects_made e.actions)) (attempted p choose (record x { frames = f ∷ callers }) e).state
attempted-ends p choose e x f callers = by_room (is_deep y e.next) (is_over p.outline y.areas e.actions) where
  y : State
  y = record x { frames = f ∷ callers }

  price : ℕ
  price = max 1 (objects_made e.actions)

  by_room : (deep over : Bool)
      → CountsAtEnd (x.steps + price) (if deep then halted y (end.TooDeep (length y.frames)) else
      if over then halted y (end.Exhausted (live_words y.areas.store) (words_made p.outline y.areas e.actions)) else
      done_by p price e y (performed p.outline choose (locals_of y) (stack_of y) e.actions y.areas [])).state
  by_room true over = uncounted (x.steps + price) y (end.TooDeep (length y.frames)) refl
  by_room false true =
      uncounted (x.steps + price) y (end.Exhausted (live_words y.areas.store) (words_made p.outline y.areas e.actions)) refl
  by_room false false = finished-ends p price e x f callers (performed p.outline choose (locals_of y) (stack_of y) e.actions y.areas [])

pub end_counts : (p : Program) (choose : Choose) (x : State) (f : Frame) (callers : List Frame) → x.frames ≡ f ∷ callers → x.ended ≡ None
    → (e : Ended) → (step p choose x).state.ended ≡ Some e → is_counted e ≡ true → (step p choose x).state.steps ≡ x.steps + cost p x
unfolding cost
end_counts p choose x f callers is going =
    subst (λ (m : Moved). CountsAtEnd (x.steps + max 1 (objects_made (next_effect p x).actions)) m.state) (sym (step_going p choose x going))
    (subst (λ (frames : List Frame). CountsAtEnd (x.steps + max 1 (objects_made (next_effect p x).actions))
    (attempted p choose (record x { frames = frames }) (next_effect p x)).state) (sym is)
    (attempted-ends p choose (next_effect p x) x f callers))

-- ---- where no frame is, none comes

finished-none : (p : Program) (price : ℕ) (e : Effect) (x : State) (result : Performed)
    → (finished p price e (record x { frames = [] }) result).frames ≡ []
finished-none p price e x (FullAt areas needed) = refl
finished-none p price e x (LostAt v) = refl
finished-none p price e x (Did areas made) = refl

attempted-none : (p : Program) (choose : Choose) (x : State) (e : Effect) → (attempted p choose (record x { frames = [] }) e).state.frames ≡ []
attempted-none p choose x e = by_room (is_deep y e.next) (is_over p.outline y.areas e.actions) where
  y : State
  y = record x { frames = [] }

  by_room : (deep over : Bool)
      → (if deep then halted y (end.TooDeep (length y.frames)) else
      if over then halted y (end.Exhausted (live_words y.areas.store) (words_made p.outline y.areas e.actions)) else
      done_by p (max 1 (objects_made e.actions)) e y (performed p.outline choose (locals_of y) (stack_of y) e.actions y.areas [])).state.frames ≡ []
  by_room true over = refl
  by_room false true = refl
  by_room false false =
      finished-none p (max 1 (objects_made e.actions)) e x (performed p.outline choose (locals_of y) (stack_of y) e.actions y.areas [])

no_frames : (p : Program) (choose : Choose) (x : State) → x.frames ≡ [] → (step p choose x).state.frames ≡ []
no_frames p choose x none = by_end x.ended refl where
  by_end : (ended : Option Ended) → x.ended ≡ ended → (step p choose x).state.frames ≡ []
  by_end (Some e) is = ap (λ (m : Moved). m.state.frames) (step_ended p choose x e is) ∙ none
  by_end None is =
      ap (λ (m : Moved). m.state.frames) (step_going p choose x is)
      ∙ subst (λ frames. (attempted p choose (record x { frames = frames }) (next_effect p x)).state.frames ≡ []) (sym none)
      (attempted-none p choose x (next_effect p x))

-- ---- one run

module _ (p : Program) (choose : Choose) (zs : ℕ → Moved) (goes : (l : ℕ) → (zs (suc l)).state ≡ (step p choose (zs l).state).state) where
  pub rises : (l : ℕ) → (zs l).state.steps ≤ (zs (suc l)).state.steps
  rises l = subst (λ (x : State). (zs l).state.steps ≤ x.steps) (sym (goes l)) (steps_rise p choose (zs l).state)

  pub went_on : (l : ℕ) → (zs (suc l)).state.ended ≡ None → (zs l).state.ended ≡ None
  went_on l going = by_end (zs l).state.ended refl where
    by_end : (e : Option Ended) → (zs l).state.ended ≡ e → e ≡ None
    by_end None is = refl
    by_end (Some e) is =
        let stays : (zs (suc l)).state ≡ (zs l).state = goes l ∙ ap (λ (m : Moved). m.state) (step_ended p choose (zs l).state e is) in
        absurd (none-some e (sym going ∙ ap (λ (x : State). x.ended) stays ∙ is))

  pub all_went_on : (l m : ℕ) → l ≤ m → (zs m).state.ended ≡ None → (zs l).state.ended ≡ None
  all_went_on l zero le going = subst (λ n. (zs n).state.ended ≡ None) zero_is going where
    zero_is : zero ≡ l
    zero_is = omega (arith, le)
  all_went_on l (suc m) le going = by_case (λ before. all_went_on l m before (went_on m going)) (le-suc_iff.0 le) where
    by_case : (l ≤ m → (zs l).state.ended ≡ None) → (l ≤ m) ⊎ (l ≡ suc m) → (zs l).state.ended ≡ None
    by_case rest (inl before) = rest before
    by_case rest (inr is) = subst (λ n. (zs n).state.ended ≡ None) (sym is) going

  -- a run that has ended stays so
  pub stays_ended : (l m : ℕ) (e : Ended) → l ≤ m → (zs l).state.ended ≡ Some e → (zs m).state.ended ≡ Some e
  stays_ended l zero e le ended = subst (λ n. (zs n).state.ended ≡ Some e) zero_is ended where
    zero_is : l ≡ zero
    zero_is = omega (arith, le)
  stays_ended l (suc m) e le ended = by_case (λ before. stays_ended l m e before ended) (le-suc_iff.0 le) where
    one_more : (zs m).state.ended ≡ Some e → (zs (suc m)).state.ended ≡ Some e
    one_more is = ap (λ (x : State). x.ended) (goes m) ∙ ap (λ (n : Moved). n.state.ended) (step_ended p choose (zs m).state e is) ∙ is

    by_case : (l ≤ m → (zs m).state.ended ≡ Some e) → (l ≤ m) ⊎ (l ≡ suc m) → (zs (suc m)).state.ended ≡ Some e
    by_case rest (inl before) = one_more (rest before)
    by_case rest (inr is) = subst (λ n. (zs n).state.ended ≡ Some e) is ended

  -- it has one end
  pub ends_once : (l m : ℕ) (d e : Ended) → (zs l).state.ended ≡ Some d → (zs m).state.ended ≡ Some e → Some d ≡ Some e
  ends_once l m d e one other = by_order (cases_lt l m) where
    by_order : (l < m) ⊎ (m ≤ l) → Some d ≡ Some e
    by_order (inl less) = let le : l ≤ m = omega (arith, less) in sym (stays_ended l m d le one) ∙ other
    by_order (inr le) = sym one ∙ stays_ended m l e le other

  -- it goes on before it has ended
  pub goes_before : (l m : ℕ) (e : Ended) → (zs l).state.ended ≡ None → (zs m).state.ended ≡ Some e → l < m
  goes_before l m e going ended = by_order (cases_lt l m) where
    by_order : (l < m) ⊎ (m ≤ l) → l < m
    by_order (inl less) = less
    by_order (inr le) = absurd (none-some e (sym (all_went_on m l le going) ∙ ended))

  had_frames : (l : ℕ) → 0 < length (zs (suc l)).state.frames → 0 < length (zs l).state.frames
  had_frames l some = by_frames (zs l).state.frames refl where
    by_frames : (frames : List Frame) → (zs l).state.frames ≡ frames → 0 < length (zs l).state.frames
    by_frames (f ∷ callers) is = subst (λ (frames : List Frame). 0 < length frames) (sym is) (omega arith)
    by_frames [] is =
        let none : (zs (suc l)).state.frames ≡ [] = ap (λ (x : State). x.frames) (goes l) ∙ no_frames p choose (zs l).state is in
        let count : length (zs (suc l)).state.frames ≡ 0 = ap (λ (frames : List Frame). length frames) none in absurd (omega (arith, some, count))

  -- a step after which the run goes on adds what it costs
  pub adds : (l : ℕ) → (zs (suc l)).state.ended ≡ None → 0 < length (zs l).state.frames
      → (zs (suc l)).state.steps ≡ (zs l).state.steps + cost p (zs l).state
  adds l going some = by_frames (zs l).state.frames refl where
    next_goes : (step p choose (zs l).state).state.ended ≡ None
    next_goes = ap (λ (x : State). x.ended) (sym (goes l)) ∙ going

    by_frames : (frames : List Frame) → (zs l).state.frames ≡ frames → (zs (suc l)).state.steps ≡ (zs l).state.steps + cost p (zs l).state
    by_frames (f ∷ callers) is =
        ap (λ (x : State). x.steps) (goes l) ∙ steps-after p choose (zs l).state f callers is (went_on l going) next_goes
    by_frames [] is =
        let count : length (zs l).state.frames ≡ 0 = ap (λ (frames : List Frame). length frames) is in absurd (omega (arith, some, count))

  -- so do all steps up to a state that goes on
  pub adds_up : (l m : ℕ) → l < m → (zs m).state.ended ≡ None → 0 < length (zs m).state.frames
      → (zs l).state.steps + cost p (zs l).state ≤ (zs m).state.steps
  adds_up l zero less going some = absurd (omega (arith, less))
  adds_up l (suc m) less going some =
      let had = had_frames m some in
      let went = went_on m going in
      by_order (λ before. adds_up l m before went had) (cases_lt l m) where
        by_order : (l < m → (zs l).state.steps + cost p (zs l).state ≤ (zs m).state.steps) → (l < m) ⊎ (m ≤ l)
            → (zs l).state.steps + cost p (zs l).state ≤ (zs (suc m)).state.steps
        by_order rest (inl before) = let low = rest before in let more = rises m in omega (arith, low, more)
        by_order rest (inr le) =
            let is : m ≡ l = omega (arith, less, le) in
            let added : (zs (suc m)).state.steps ≡ (zs m).state.steps + cost p (zs m).state = adds m going (had_frames m some) in
            subst (λ n. (zs n).state.steps + cost p (zs n).state ≤ (zs (suc m)).state.steps) is (omega (arith, added))
