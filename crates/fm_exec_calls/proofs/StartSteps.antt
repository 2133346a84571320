-- The start of classes before an instruction: how far it has come, and that the instruction is done after it.
use Rattle.std.proofs.Common.{◌≡◌, ◌⊎◌, inl, inr, ℕ, ◌+◌, ◌-◌, ◌^◌, ◌<◌, ◌≤◌, ◌&&◌, Bool, true, false, nat_lt, if◌then◌else◌, List, [], ◌∷◌, ◌++◌, length, map, max, min, append-nil, refl, ap, sym, ◌∙◌, subst, arith}
use Rattle.std.proofs.lemmas.Bool.{cases_lt, le-ltb}
use Rattle.std.proofs.lemmas.List.Sums.{sum_by-cons}
use Rattle.std.specs.List.{flat_map}
use Rattle.fm_base.proofs.ListFacts.{AllByRecursion-append}
use Rattle.fm_exec_calls.proofs.StartWords.{words-alone}
use Rattle.fm_exec_calls.specs.inner.Actions.{ActsAll, AllSuit, CanAct, MakesOrSets, Suits, unmade}
use Rattle.fm_cells.specs.Changes.{Choice, Take, RefuseStore, made_by}
use Rattle.fm_cells.specs.Objects.{Request}
use Rattle.fm_cells.specs.Soundness.{IsSound}
use Rattle.fm_cells.specs.Stores.{live_words}
use Rattle.fm_frames.proofs.FrameRoom.{not-deep}
use Rattle.fm_frames.specs.ObjectRows.{starting}
use Rattle.fm_frames.specs.Starts.{fields_at, start_actions, start_methods, start_of_class, to_start, with_start}
use Rattle.fm_frames.specs.declared.actions.StartAction.{StartAction}
use Rattle.fm_frames.specs.declared.actions.StartAction.TheVariants as starting_by
use Rattle.fm_frames.specs.declared.values.Value.{Value}
use Rattle.fm_frames.specs.inner.StartActions.{action_of, constant_at}
use Rattle.fm_exec_calls.specs.inner.Starting.{enters, Prepared, StartsBefore, with_first}
use Rattle.fm_world.specs.Programs.{Outline, Program}
use Rattle.fm_frames.proofs.Underways.{begun}
use Rattle.fm_frames.specs.Acts.{Choose, class_started, Did, FullAt, LostAt, made_then, performed, Performed, requested, set_static, value_of, with_content}
use Rattle.fm_frames.specs.Effects.{Action, Effect, Enters, Falls, Calls, Exits, Faults, Jumps, JumpsIfSame, Make, MakeLiteral, Next, OfLiteral, Plain, Returns, SetStatic, Start, Throws}
use Rattle.fm_frames.specs.States.{Areas, Frame, silent, State}
use Rattle.fm_frames.specs.Steps.{attempted, continued, done_by, frames_needed, is_deep, is_over, locals_of, makes, most_words, objects_made, stack_of, start_frames, words_among, words_made}
use Rattle.fm_frames.specs.inner.Doings.{CanStep, DoesIn, IsReserved, NextFits, Underway}

-- ---- a class is marked

pub start-next : (p : Program) (choose : Choose) (x y z : State) (e : Effect) (made : List ℕ) (class : ℕ) (left : List Action)
    → Underway p choose x y e made (Start class ∷ left) → z ≡ record y { areas = class_started y.areas class } → Underway p choose x z e made left
unfolding performed
start-next p choose x y z e made class left so is = record {
  so_far =
      so.so_far
      ∙ ap (λ (z : State). done_by p (max 1 (objects_made e.actions)) e x (performed p.outline choose (locals_of x) (stack_of x) left z.areas made)) (sym is);
  same = is ∙ (λ i. record (so.same i) { areas = (sym is i).areas });
}

-- ---- the instruction after the start

-- no chain was lost
abbrev pub IsFound : Performed → Type 0
IsFound (Did areas made) = Unit {0}
IsFound (FullAt areas needed) = Unit {0}
IsFound (LostAt v) = ⊥

-- how an effect is finished depends neither on its actions nor on the areas before them
done-same : (p : Program) (price : ℕ) (f : Effect) (first : List Action) (x : State) (areas : Areas) (r : Performed) → IsFound r
    → done_by p price f (record x { areas = areas }) r ≡ done_by p price (with_first first f) x r
unfolding continued
done-same p price f first x areas (FullAt a needed) found = refl
done-same p price f first x areas (LostAt v) found = absurd found
done-same p price f first x areas (Did a made) found = in_frames x.frames where
  in_frames : (frames : List Frame)
      → done_by p price f (record x { areas = areas; frames = frames }) (Did a made)
      ≡ done_by p price (with_first first f) (record x { frames = frames }) (Did a made)
  in_frames [] = refl
  in_frames (g ∷ callers) = by_next f.next where
    by_next : (next : Next)
        → done_by p price (record f { next = next }) (record x { areas = areas; frames = g ∷ callers }) (Did a made)
        ≡ done_by p price (with_first first (record f { next = next })) (record x { frames = g ∷ callers }) (Did a made)
    by_next Falls = refl
    by_next (Jumps n) = refl
    by_next (JumpsIfSame same) = refl
    by_next (Calls m) = refl
    by_next (Returns n) = refl
    by_next (Throws source) = refl
    by_next (Enters methods) = refl
    by_next (Exits n) = refl
    by_next (Faults source) = refl

-- where the start led to areas in which the instruction has room, the step is that of the instruction there
pub carried-on : (p : Program) (choose : Choose) (x y z : State) (f : Effect) (first : List Action) → is_deep (record x { areas = y.areas }) f.next ≡ false
    → is_over p.outline y.areas f.actions ≡ false → objects_made (first ++ f.actions) ≡ objects_made f.actions
    → IsFound (performed p.outline choose (locals_of x) (stack_of x) f.actions y.areas [])
    → Underway p choose x y (with_first first f) [] f.actions → DoesIn p choose y z f → DoesIn p choose x z (with_first first f)
carried-on p choose x y z f first deep over price found so does =
    let after : Performed = performed p.outline choose (locals_of x) (stack_of x) f.actions y.areas [] in
    does
    ∙ ap (λ (y : State). attempted p choose y f) so.same
    ∙ (begun p choose (record x { areas = y.areas }) f deep over).so_far
    ∙ done-same p (max 1 (objects_made f.actions)) f first x y.areas after found
    ∙ ap (λ n. done_by p (max 1 n) (with_first first f) x after) (sym price)
    ∙ sym so.so_far

-- ---- the methods that start classes

enters-done : (p : Program) (x : State) (areas : Areas) (first : List Action) (methods : List ℕ) (frames : List Frame) → NextFits frames
    → silent (record x { areas = areas; frames = start_frames p methods ++ frames; steps = x.steps + 1 })
    ≡ done_by p 1 (enters first methods) (record x { frames = frames }) (Did areas [])
unfolding continued
enters-done p x areas first methods [] fits = absurd fits
enters-done p x areas first methods (f ∷ callers) fits = refl

pub entered-starts : (p : Program) (choose : Choose) (x y z : State) (first : List Action) (methods : List ℕ) → NextFits x.frames → objects_made first ≡ 0
    → Underway p choose x y (enters first methods) [] [] → z ≡ record y { frames = start_frames p methods ++ y.frames; steps = y.steps + 1 }
    → DoesIn p choose x z (enters first methods)
unfolding performed
entered-starts p choose x y z first methods fits none so is =
    ap silent (is ∙ ap (λ (y : State). record y { frames = start_frames p methods ++ y.frames; steps = y.steps + 1 }) so.same)
    ∙ enters-done p x y.areas first methods x.frames fits
    ∙ ap (λ n. done_by p (max 1 n) (enters first methods) x (Did y.areas [])) (sym none)
    ∙ sym so.so_far

-- ---- what comes before the instruction

-- the start of classes makes only literals
pub first-price : (first : List StartAction) (actions : List Action) → objects_made (map action_of first ++ actions) ≡ objects_made actions
first-price [] actions = refl
first-price (starting_by.Start class ∷ first) actions =
    let rest = first-price first actions in
    let all : objects_made (Start class.0 ∷ (map action_of first ++ actions)) ≡ 0 + objects_made (map action_of first ++ actions) =
    sum_by-cons _ (Start class.0) (map action_of first ++ actions) in omega (arith, rest, all)
first-price (starting_by.MakeLiteral text ∷ first) actions =
    let rest = first-price first actions in
    let all : objects_made (MakeLiteral text ∷ (map action_of first ++ actions)) ≡ 0 + objects_made (map action_of first ++ actions) =
    sum_by-cons _ (MakeLiteral text) (map action_of first ++ actions) in omega (arith, rest, all)
first-price (starting_by.SetNumber slot k v ∷ first) actions =
    let rest = first-price first actions in
    let all : objects_made (SetStatic slot k (Plain v) ∷ (map action_of first ++ actions)) ≡ 0 + objects_made (map action_of first ++ actions) =
    sum_by-cons _ (SetStatic slot k (Plain v)) (map action_of first ++ actions) in omega (arith, rest, all)
first-price (starting_by.SetLiteral slot k text ∷ first) actions =
    let rest = first-price first actions in
    let all : objects_made (SetStatic slot k (OfLiteral text) ∷ (map action_of first ++ actions)) ≡ 0 + objects_made (map action_of first ++ actions) =
    sum_by-cons _ (SetStatic slot k (OfLiteral text)) (map action_of first ++ actions) in omega (arith, rest, all)

found-made : (x : Areas) (r : Request) (content : List ℕ) (c : Choice) (follows : Areas → ℕ → Performed) → ((y : Areas) (cell : ℕ) → IsFound (follows y cell))
    → IsFound (made_then x r content c follows)
found-made x r content RefuseStore follows found = tt
found-made x r content (Take cell grows) follows found =
    found (record x { store = with_content (made_by x.store r (Take cell grows)) cell content }) cell

-- actions that make objects or give static fields values lose no chain
pub found-all : (o : Outline) (choose : Choose) (locals stack : List Value) (actions : List Action) (x : Areas) (made : List ℕ) → MakesOrSets actions
    → IsFound (performed o choose locals stack actions x made)
unfolding performed
found-all o choose locals stack [] x made plain = tt
found-all o choose locals stack (Make t len content ∷ more) x made plain =
    found-made x (requested o t len false) content (choose x.store (requested o t len false)) _
    (λ y cell. found-all o choose locals stack more y (made ++ cell ∷ []) plain)
found-all o choose locals stack (SetStatic slot k v ∷ more) x made plain =
    found-all o choose locals stack more (set_static x slot k (value_of (record { locals = locals; stack = stack; areas = x; made = made }) v)) made plain
found-all o choose locals stack (other ∷ more) x made plain = absurd plain

-- ---- the effect with the start of its class

abbrev by_methods : List Action → Effect → List ℕ → Effect
by_methods first effect [] = with_first first effect
by_methods first effect (m ∷ methods) = enters first (m ∷ methods)

pub no-methods : (o : Outline) (started : List Bool) (class : ℕ) (f : Effect) (methods : List ℕ) → start_methods o (to_start o started class) ≡ methods → length methods ≡ 0
    → with_start o started (starting class f) ≡ with_first (start_actions o (to_start o started class)) f
no-methods o started class f [] is none = ap (by_methods (start_actions o (to_start o started class)) (starting class f)) is
no-methods o started class f (m ∷ methods) is none = absurd (omega (arith, none))

pub some-methods : (o : Outline) (started : List Bool) (class : ℕ) (f : Effect) (methods : List ℕ) → start_methods o (to_start o started class) ≡ methods → 0 < length methods
    → with_start o started (starting class f) ≡ enters (start_actions o (to_start o started class)) (start_methods o (to_start o started class))
some-methods o started class f [] is some = absurd (omega (arith, some))
some-methods o started class f (m ∷ methods) is some =
    ap (by_methods (start_actions o (to_start o started class)) (starting class f)) is ∙ ap (enters (start_actions o (to_start o started class))) (sym is)

-- ---- the room

pub can-begin : (o : Outline) (x : State) (first : List Action) (words own needed : ℕ) → own ≤ words
    → x.areas.store.births + unmade x.areas.literals < 2 ^ 32 - 1 → x.areas.store.budget ≤ 2 ^ 27 → IsSound x.areas.store
    → needed ≡ min (words + words_among o x.areas [] first) most_words
    → (0 < needed → live_words x.areas.store + needed ≤ x.areas.store.budget)
    → CanAct o x first own
can-begin o x first words own needed few births budget sound is room =
    let lives = sound.live_within_peak in
    let peak = sound.peak_within_budget in
    record { births = births; budget = budget; room = by_some lives peak (cases_lt 0 needed) } where
      by_some : live_words x.areas.store ≤ x.areas.store.peak → x.areas.store.peak ≤ x.areas.store.budget → (0 < needed) ⊎ (needed ≤ 0)
          → live_words x.areas.store + (words_among o x.areas [] first + own) ≤ x.areas.store.budget
      by_some lives peak (inl some) = let r = room some in omega (arith, r, is, budget, few)
      by_some lives peak (inr none) = omega (arith, none, is, few, lives, peak)

-- the instruction has room after the start
room-after : (o : Outline) (y : State) (actions : List Action) (words : ℕ) → ((x : Areas) (literals : List ℕ) → words_among o x literals actions ≡ words)
    → CanAct o y [] words → is_over o y.areas actions ≡ false
room-after o y actions words has can = by_making (makes actions) refl where
  needed : ℕ
  needed = words_made o y.areas actions

  by_making : (b : Bool) → makes actions ≡ b → is_over o y.areas actions ≡ false
  by_making false none = ap (λ b. if b then nat_lt 0 needed && nat_lt y.areas.store.budget (live_words y.areas.store + needed) else false) none
  by_making true some =
      let all = has y.areas [] in
      let room = can.room in
      ap (λ b. if b then nat_lt 0 needed && nat_lt y.areas.store.budget (live_words y.areas.store + needed) else false) some
      ∙ within (nat_lt 0 needed) (le-ltb y.areas.store.budget (live_words y.areas.store + needed) (omega (arith, all, room))) where
        within : (b : Bool) {over : Bool} → over ≡ false → (b && over) ≡ false
        within true e = e
        within false e = refl

-- a further step can be done in the midst of it
can-still-step : (p : Program) (x y : State) (words : ℕ) → y ≡ record x { areas = y.areas } → CanStep p x → CanAct p.outline y [] words → CanStep p y
can-still-step p x y words same step can =
    let births = can.births in
    subst (λ (y : State). CanStep p y) (sym same)
    (record {
      runnable = step.runnable;
      ready = record { next_fits = step.ready.next_fits; step_fits = step.ready.step_fits };
      frames = step.frames;
      items_fit = step.items_fit;
      within = step.within;
      birth_fits = omega (arith, births);
      budget_fits = can.budget;
    })

pub prepared : (p : Program) (choose : Choose) (x b z : State) (first : List Action) (f : Effect) (words frames : ℕ) → CanStep p x
    → MakesOrSets f.actions → ((a : Areas) (literals : List ℕ) → words_among p.outline a literals f.actions ≡ words) → frames_needed f.next ≡ frames
    → length x.frames + frames ≤ x.depth → objects_made (first ++ f.actions) ≡ objects_made f.actions
    → Underway p choose x b (with_first first f) [] (first ++ f.actions) → ActsAll p choose b z first true → CanAct p.outline b first words
    → Prepared p choose x z first f true
prepared p choose x b z first f words frames step plain has needed room price begun acts can =
    let able : CanAct p.outline z [] words = acts.1 words can in
    let so : Underway p choose x z (with_first first f) [] f.actions = acts.0 x (with_first first f) [] f.actions begun in (
      can-still-step p x z words so.same step able,
      so.same,
      λ w does. carried-on p choose x z w f first (not-deep (record x { areas = z.areas }) f.next frames room needed)
          (room-after p.outline z f.actions words has able) price (found-all p.outline choose (locals_of x) (stack_of x) f.actions z.areas [] plain) so does,
    )

pub prepared-full : (p : Program) (choose : Choose) (x b z : State) (first : List Action) (f : Effect)
    → Underway p choose x b (with_first first f) [] (first ++ f.actions) → ActsAll p choose b z first false
    → Prepared p choose x z first f false
prepared-full p choose x b z first f begun stops = stops x (with_first first f) [] f.actions begun

pub prepared-by : (p : Program) (choose : Choose) (x b z : State) (first : List Action) (f : Effect) (words frames : ℕ) (goes : Bool) → CanStep p x
    → MakesOrSets f.actions → ((a : Areas) (literals : List ℕ) → words_among p.outline a literals f.actions ≡ words) → frames_needed f.next ≡ frames
    → length x.frames + frames ≤ x.depth → objects_made (first ++ f.actions) ≡ objects_made f.actions
    → Underway p choose x b (with_first first f) [] (first ++ f.actions) → ActsAll p choose b z first goes → CanAct p.outline b first words
    → Prepared p choose x z first f goes
prepared-by p choose x b z first f words frames true step plain has needed room price begun acts can =
    prepared p choose x b z first f words frames step plain has needed room price begun acts can
prepared-by p choose x b z first f words frames false step plain has needed room price begun acts can =
    prepared-full p choose x b z first f begun acts

-- the words are asked for
pub asked : (p : Program) (choose : Choose) (x a b : State) (e : Effect) (frames needed : ℕ) (goes : Bool) → a ≡ x → frames_needed e.next ≡ frames
    → length x.frames + frames ≤ x.depth → words_made p.outline a.areas e.actions ≡ needed
    → (is_deep a e.next ≡ false → words_made p.outline a.areas e.actions ≡ needed → IsReserved p choose a b e goes) → IsReserved p choose x b e goes
asked p choose x a b e frames needed goes same next room is told =
    subst (λ a. IsReserved p choose a b e goes) same
    (told (subst (λ (y : State). is_deep y e.next ≡ false) (sym same) (not-deep x e.next frames room next)) is)

-- and they are there
pub can-reserved : (o : Outline) (x a b : State) (first : List Action) (words own needed : ℕ) → a ≡ x → b ≡ a → own ≤ words
    → x.areas.store.births + unmade x.areas.literals < 2 ^ 32 - 1 → x.areas.store.budget ≤ 2 ^ 27 → IsSound x.areas.store
    → needed ≡ min (words + words_among o a.areas [] first) most_words
    → (0 < needed → live_words a.areas.store + needed ≤ a.areas.store.budget)
    → CanAct o b first own
can-reserved o x a b first words own needed a_is b_is few births budget sound is room =
    let P : State → Type 0 = λ a. needed ≡ min (words + words_among o a.areas [] first) most_words
    → (0 < needed → live_words a.areas.store + needed ≤ a.areas.store.budget) → CanAct o x first own in
    subst (λ b. CanAct o b first own) (sym (b_is ∙ a_is))
    (subst P (sym a_is) (can-begin o x first words own needed few births budget sound) is room)

-- what the start does is done, before the methods that start classes run
pub acted-starts : (p : Program) (choose : Choose) (x a b z : State) (first listed : List Action) (methods : List ℕ) (count needed : ℕ) (goes : Bool) → a ≡ x
    → length methods ≡ count → length x.frames + count ≤ x.depth → listed ≡ first → needed ≡ min (0 + words_among p.outline a.areas [] first) most_words
    → (is_deep a (enters first methods).next ≡ false → words_made p.outline a.areas first ≡ needed → IsReserved p choose a b (enters first methods) true)
    → ActsAll p choose b z listed goes → goes ≡ true
    → Underway p choose x z (enters first methods) [] []
acted-starts p choose x a b z first listed methods count needed goes same many room is words told acts went =
    let begun = asked p choose x a b (enters first methods) count needed true same many room (words-alone p.outline a.areas needed first words) told in
    let all : ActsAll p choose b z first true = subst (λ l. ActsAll p choose b z l true) is (subst (ActsAll p choose b z listed) went acts) in
    all.0 x (enters first methods) [] [] (subst (Underway p choose x b (enters first methods) []) (sym (append-nil first)) begun)

pub some-frames : (frames : List Frame) → NextFits frames → 0 < length frames
some-frames [] fits = absurd fits
some-frames (f ∷ callers) fits = omega arith

-- ---- the whole step

pub prepared-before : (p : Program) (choose : Choose) (x y : State) (class : ℕ) (f : Effect) (goes : Bool)
    → length (start_methods p.outline (to_start p.outline x.areas.started class)) ≡ 0
    → Prepared p choose x y (start_actions p.outline (to_start p.outline x.areas.started class)) f goes
    → StartsBefore p choose x y class f goes
prepared-before p choose x y class f true none so = (
  so.0,
  so.1,
  λ z does. subst (λ e. DoesIn p choose x z e)
      (sym (no-methods p.outline x.areas.started class f (start_methods p.outline (to_start p.outline x.areas.started class)) refl none)) (so.2 z does),
)
prepared-before p choose x y class f false none so =
    subst (λ e. DoesIn p choose x y e)
    (sym (no-methods p.outline x.areas.started class f (start_methods p.outline (to_start p.outline x.areas.started class)) refl none)) so

pub entered-before : (p : Program) (choose : Choose) (x y : State) (class : ℕ) (f : Effect)
    → 0 < length (start_methods p.outline (to_start p.outline x.areas.started class))
    → DoesIn p choose x y (enters (start_actions p.outline (to_start p.outline x.areas.started class)) (start_methods p.outline (to_start p.outline x.areas.started class)))
    → StartsBefore p choose x y class f false
entered-before p choose x y class f some does =
    subst (λ e. DoesIn p choose x y e)
    (sym (some-methods p.outline x.areas.started class f (start_methods p.outline (to_start p.outline x.areas.started class)) refl some)) does

-- ---- what the actions ask

fields-suit : (p : Program) (literals : ℕ) (g : ℕ → List Action) (fields : List ℕ) → ((field : ℕ) → AllSuit p literals (g field))
    → AllSuit p literals (flat_map g fields)
fields-suit p literals g [] suit = tt
fields-suit p literals g (field ∷ fields) suit =
    AllByRecursion-append (Suits p literals) (g field) (flat_map g fields) (suit field) (fields-suit p literals g fields suit)

-- those of each start, where the constants of static fields do
pub start-suits : (p : Program) (literals : ℕ) (classes : List ℕ) → ((field : ℕ) → AllSuit p literals (constant_at p.outline field))
    → AllSuit p literals (start_actions p.outline classes)
start-suits p literals classes suit =
    fields-suit p literals (start_of_class p.outline) classes
    (λ class. (tt, fields-suit p literals (constant_at p.outline) (fields_at p.outline class) suit))
