-- What is inserted is done, one thing after the other.
use Rattle.std.proofs.Common.{◌≡◌, inl, inr, ℕ, zero, suc, ◌+◌, not, Bool, true, false, List, [], ◌∷◌, drop, Option, Some, None, option_and_then, is_some, refl, sym, ap, subst, ◌∙◌, arith}
use Rattle.std.specs.Prelude.{slice_set}
use Rattle.fm_cells.specs.Objects.{Object}
use Rattle.fm_cells.specs.Stores.{object_at}
use Rattle.fm_code.specs.Edges.{insn_of}
use Rattle.fm_code.specs.declared.code_array.Code.{Code}
use Rattle.fm_code.specs.declared.instructions.Insn.{Insn}
use Rattle.fm_code.specs.declared.instructions.Insn.TheVariants as insn
use Rattle.fm_code.specs.declared.operations.Reg.TheVariants as reg
use Rattle.fm_frames.specs.Acts.{all_freed, cell_of, chain_from, chained, Choose}
use Rattle.fm_frames.specs.States.{Areas, Frame, Moved, null, State, word_at}
use Rattle.fm_frames.specs.Steps.{next_insn, offset_at, step}
use Rattle.fm_frames.specs.declared.natives.Native.TheVariants.{FreeMeFree, FreeMeFreeChain, FreeMeLink}
use Rattle.fm_frames.specs.declared.values.Value.{Value}
use Rattle.fm_law_chained.proofs.CalledSteps.{chains_fault, chains_free, links_fault, links_join, links_pass_over}
use Rattle.fm_law_chained.specs.Called.{CallsNative, IsCalled, JoinsNone, with_frame}
use Rattle.fm_law_same_runs.specs.Beside.{Marks}
use Rattle.fm_law_sound.specs.Sound.{IsReference}
use Rattle.fm_law_unwoven.proofs.InsertedSteps.{counted, dup_step, free_held, free_lost, free_null, goes_to, load_step, null_step, seen, Seen, SeenGone, SeenNull, SeenThing, store_step}
use Rattle.fm_law_unwoven.specs.Doing.{all_steps_to, AllDone, areas_after, freed_along, freed_from, IsDone, IsPassed, joined_to, joins_in, left_in, locals_after, may_join, MayDoAll, MayLink, OneLost, state_after, steps_to, TodosAreDone}
use Rattle.fm_law_unwoven.specs.Laid.{all_insns_to, LieInserted, mark_at, Todo, ToFree, ToFreeAll, ToKeep, ToLink, ToStart}
use Rattle.fm_law_unwoven.specs.WovenFrom.{HasInserted, own_marks}
use Rattle.fm_place.specs.Insertions.{Insertions}
use Rattle.fm_place.specs.Woven.{local_of}
use Rattle.fm_types.specs.Typed.{use_in}
use Rattle.fm_world.specs.Programs.{Program}

-- ---- steps one after the other

pub passed-append : (q : Program) (marks : Marks) (choose : Choose) (a b n : ℕ) (x y z : State) → n ≡ a + b → IsPassed q marks choose a x y
    → IsPassed q marks choose b y z → IsPassed q marks choose n x z
passed-append q marks choose zero b n x y z count here there =
    let same : b ≡ n = omega (arith, count) in
    subst (λ m. IsPassed q marks choose m x z) same (subst (λ s. IsPassed q marks choose b s z) (sym here) there)
passed-append q marks choose (suc a) b zero x y z count here there = absurd (omega (arith, count))
passed-append q marks choose (suc a) b (suc n) x y z count here there =
    (here.0, here.1, here.2, passed-append q marks choose a b n (step q choose x).state y z (omega (arith, count)) here.3 there)

-- one step, at an item without a mark
pub one_passed : (q : Program) (marks : Marks) (choose : Choose) (y : State) (f : Frame) (callers : List Frame) (next : State) (n : ℕ) (z : State)
    → mark_at (own_marks marks f.method) f.item ≡ None → step q choose (with_frame y f callers) ≡ record { state = next; printed = [] }
    → drop 1 next.frames ≡ callers → IsPassed q marks choose n next z → IsPassed q marks choose (suc n) (with_frame y f callers) z
one_passed q marks choose y f callers next n z mark is below rest = (
  record { goes_on = refl; inserted = ap is_some mark },
  ap (λ (m : Moved). m.printed) is,
  ap (λ (m : Moved). drop 1 m.state.frames) is ∙ below,
  subst (λ s. IsPassed q marks choose n s z) (sym (ap (λ (m : Moved). m.state) is)) rest,
)

-- one more for each step
abbrev behind : ℕ → Todo → ℕ
behind n (ToStart h) = n + 1 + 1
behind n (ToKeep h) = n + 1 + 1
behind n (ToLink h joins) = n + 1 + 1 + 1 + 1
behind n (ToFree h) = n + 1 + 1 + 1 + 1
behind n (ToFreeAll h) = n + 1 + 1 + 1 + 1

behind_is : (n : ℕ) (t : Todo) → behind n t ≡ n + steps_to t
behind_is n (ToStart h) = omega arith
behind_is n (ToKeep h) = omega arith
behind_is n (ToLink h joins) = omega arith
behind_is n (ToFree h) = omega arith
behind_is n (ToFreeAll h) = omega arith

module _ (q : Program) (marks : Marks) (choose : Choose) (method : ℕ) (old : Code) (plan : Insertions) (w : HasInserted q marks method old plan)
    (callers : List Frame) where
  abbrev new : Code
  new = w.new

  abbrev own : List (Option ℕ)
  own = own_marks marks method

  abbrev Done : State → Frame → List Todo → ℕ → Type 0
  Done y f todos next = IsDone q marks choose old y f callers todos next

  abbrev Passed : ℕ → State → State → Type 0
  Passed n y z = IsPassed q marks choose n y z

  -- the method's frame at an item, with these locals and this stack
  abbrev at : ℕ → List Value → List Value → Frame
  at item locals stack = record { method = method; item = item; locals = locals; stack = stack }

  insn_at : (item : ℕ) (locals stack : List Value) (i : Insn) → insn_of new item ≡ Some i → next_insn q (at item locals stack) ≡ Some i
  insn_at item locals stack i is = ap (option_and_then (λ (code : Code). insn_of code item)) w.new_is ∙ is

  -- the state after one thing is done
  abbrev onwards : State → List Value → List Value → Todo → State
  onwards y locals stack t = record y { areas = areas_after old stack locals t y.areas; steps = behind y.steps t }

  abbrev frame_after : ℕ → List Value → List Value → Todo → Frame
  frame_after item locals stack t = at (behind item t) (locals_after old stack t locals) stack

  -- one thing, and then all others
  join : (y : State) (item : ℕ) (locals stack : List Value) (t : Todo) (todos : List Todo) (next : ℕ)
      → Passed (steps_to t) (with_frame y (at item locals stack) callers) (with_frame (onwards y locals stack t) (frame_after item locals stack t) callers)
      → Done (onwards y locals stack t) (frame_after item locals stack t) todos next → Done y (at item locals stack) (t ∷ todos) next
  join y item locals stack t todos next passed (AllDone all) =
      let one = behind_is y.steps t in
      let count : behind y.steps t + all_steps_to todos ≡ y.steps + (steps_to t + all_steps_to todos) = omega (arith, one) in
      let there = state_after old (onwards y locals stack t) (frame_after item locals stack t) callers todos next in
      AllDone
      (passed-append q marks choose (steps_to t) (all_steps_to todos) (all_steps_to (t ∷ todos)) (with_frame y (at item locals stack) callers)
      (with_frame (onwards y locals stack t) (frame_after item locals stack t) callers) (state_after old y (at item locals stack) callers (t ∷ todos) next) refl passed
      (subst (λ s. Passed (all_steps_to todos) (with_frame (onwards y locals stack t) (frame_after item locals stack t) callers) s)
      (ap (λ n. record there { steps = n }) count) all))
  join y item locals stack t todos next passed (OneLost count m offset cell z lost few steps inserted ended printed) =
      OneLost (steps_to t + count) m offset cell z
      (record {
        before = t ∷ lost.before;
        todo = lost.todo;
        behind = lost.behind;
        is = ap (λ more. t ∷ more) lost.is;
        misses = lost.misses;
      })
      (omega (arith, few))
      (passed-append q marks choose (steps_to t) count (steps_to t + count) (with_frame y (at item locals stack) callers)
      (with_frame (onwards y locals stack t) (frame_after item locals stack t) callers) z refl passed steps)
      inserted ended printed

  -- ---- each thing

  abbrev LiesTwo : ℕ → Insn → Insn → Type 0
  LiesTwo item one two = (insn_of new item ≡ Some one) × (mark_at own item ≡ None) × (insn_of new (item + 1) ≡ Some two) × (mark_at own (item + 1) ≡ None)

  -- two steps, the second of which stores what the first one puts on top
  start_passed : (y : State) (item : ℕ) (locals stack : List Value) (h : ℕ) → LiesTwo item insn.Null (insn.Store reg.Ref (local_of old h))
      → Passed 2 (with_frame y (at item locals stack) callers)
      (with_frame (onwards y locals stack (ToStart h)) (frame_after item locals stack (ToStart h)) callers)
  start_passed y item locals stack h lies =
      let k = local_of old h in
      let last = with_frame (counted q choose (counted q choose y)) (at (item + 1 + 1) (slice_set locals k null) stack) callers in
      one_passed q marks choose y (at item locals stack) callers (with_frame (counted q choose y) (at (item + 1) locals (null ∷ stack)) callers) 1
      last lies.1 (null_step q choose y (at item locals stack) callers (insn_at item locals stack insn.Null lies.0)) refl
      (one_passed q marks choose (counted q choose y) (at (item + 1) locals (null ∷ stack)) callers last 0 last lies.3
      (store_step q choose (counted q choose y) (at (item + 1) locals stack) callers k null stack (insn_at (item + 1) locals stack (insn.Store reg.Ref k) lies.2))
      refl refl)

  -- the same of what is on top
  keep_passed : (y : State) (item : ℕ) (locals : List Value) (v : Value) (rest : List Value) (h : ℕ) → LiesTwo item insn.Dup (insn.Store reg.Ref (local_of old h))
      → Passed 2 (with_frame y (at item locals (v ∷ rest)) callers)
      (with_frame (onwards y locals (v ∷ rest) (ToKeep h)) (frame_after item locals (v ∷ rest) (ToKeep h)) callers)
  keep_passed y item locals v rest h lies =
      let k = local_of old h in
      let last = with_frame (counted q choose (counted q choose y)) (at (item + 1 + 1) (slice_set locals k v) (v ∷ rest)) callers in
      one_passed q marks choose y (at item locals (v ∷ rest)) callers (with_frame (counted q choose y) (at (item + 1) locals (v ∷ v ∷ rest)) callers) 1
      last lies.1 (dup_step q choose y (at item locals rest) callers v rest (insn_at item locals rest insn.Dup lies.0)) refl
      (one_passed q marks choose (counted q choose y) (at (item + 1) locals (v ∷ v ∷ rest)) callers last 0 last lies.3
      (store_step q choose (counted q choose y) (at (item + 1) locals (v ∷ rest)) callers k v (v ∷ rest)
      (insn_at (item + 1) locals (v ∷ rest) (insn.Store reg.Ref k) lies.2)) refl refl)

  -- ---- frees

  abbrev LiesFour : (item call k : ℕ) → Type 0
  LiesFour item call k =
      (insn_of new item ≡ Some (insn.Load reg.Ref k)) × (mark_at own item ≡ None)
      × (insn_of new (item + 1) ≡ Some (insn.Static call)) × (mark_at own (item + 1) ≡ None)
      × (insn_of new (item + 1 + 1) ≡ Some insn.Null) × (mark_at own (item + 1 + 1) ≡ None)
      × (insn_of new (item + 1 + 1 + 1) ≡ Some (insn.Store reg.Ref k)) × (mark_at own (item + 1 + 1 + 1) ≡ None)

  -- a holder is passed to a method, and becomes null behind the call
  module _ (y : State) (item : ℕ) (locals stack : List Value) (call k : ℕ) (lies : LiesFour item call k) where
    abbrev v : Value
    v = word_at locals k

    abbrev loaded : State
    loaded = with_frame (counted q choose y) (at (item + 1) locals (v ∷ stack)) callers

    load_is : step q choose (with_frame y (at item locals stack) callers) ≡ record { state = loaded; printed = [] }
    load_is = load_step q choose y (at item locals stack) callers k (insn_at item locals stack (insn.Load reg.Ref k) lies.0)

    call_there : next_insn q (at (item + 1) locals stack) ≡ Some (insn.Static call)
    call_there = insn_at (item + 1) locals stack (insn.Static call) lies.2

    abbrev freed_state : Areas → State
    freed_state areas = record y { areas = areas; steps = y.steps + 1 + 1 + 1 + 1 }

    abbrev nulled_frame : Frame
    nulled_frame = at (item + 1 + 1 + 1 + 1) (slice_set locals k null) stack

    -- after the call the holder becomes null
    rest_passed : (areas : Areas)
        → step q choose loaded
        ≡ goes_to q choose (record y { areas = areas; steps = y.steps + 1 + 1 }) (at (item + 1 + 1) locals stack) callers
        → Passed 4 (with_frame y (at item locals stack) callers) (with_frame (freed_state areas) nulled_frame callers)
    rest_passed areas is =
        let z : State = record y { areas = areas; steps = y.steps + 1 + 1 } in
        let nulled = with_frame (counted q choose z) (at (item + 1 + 1 + 1) locals (null ∷ stack)) callers in
        let last = with_frame (counted q choose (counted q choose z)) nulled_frame callers in
        one_passed q marks choose y (at item locals stack) callers loaded 3 last lies.1 load_is refl
        (one_passed q marks choose (counted q choose y) (at (item + 1) locals (v ∷ stack)) callers (with_frame z (at (item + 1 + 1) locals stack) callers) 2 last lies.3 is refl
        (one_passed q marks choose z (at (item + 1 + 1) locals stack) callers nulled 1 last lies.5
        (null_step q choose z (at (item + 1 + 1) locals stack) callers (insn_at (item + 1 + 1) locals stack insn.Null lies.4)) refl
        (one_passed q marks choose (counted q choose z) (at (item + 1 + 1 + 1) locals (null ∷ stack)) callers last 0 last lies.7
        (store_step q choose (counted q choose z) (at (item + 1 + 1 + 1) locals stack) callers k null stack
        (insn_at (item + 1 + 1 + 1) locals stack (insn.Store reg.Ref k) lies.6)) refl refl)))

    -- the step to the call
    load_passed : Passed 1 (with_frame y (at item locals stack) callers) loaded
    load_passed = one_passed q marks choose y (at item locals stack) callers loaded 0 loaded lies.1 load_is refl refl

  -- what is inserted to free a holder
  module _ (y : State) (item : ℕ) (locals stack : List Value) (h : ℕ) (todos : List Todo) (next : ℕ) (reference : IsReference (word_at locals (local_of old h)))
      (lies : LieInserted new own item (all_insns_to w.calls old (ToFree h ∷ todos)) next) where
    abbrev kept : ℕ
    kept = local_of old h

    abbrev held : Value
    held = word_at locals kept

    four : LiesFour item w.calls.free kept
    four = (lies.0, lies.1, lies.2.0, lies.2.1, lies.2.2.0, lies.2.2.1, lies.2.2.2.0, lies.2.2.2.1)

    native : CallsNative q.outline FreeMeFree (use_in q method w.calls.free)
    native = w.frees (item + 1) lies.2.0 lies.2.1

    free_passed : (areas : Areas) → freed_from y.areas (cell_of held) ≡ areas
        → step q choose (loaded y item locals stack w.calls.free kept four)
        ≡ goes_to q choose (record y { areas = areas; steps = y.steps + 1 + 1 }) (at (item + 1 + 1) locals stack) callers
        → Passed 4 (with_frame y (at item locals stack) callers)
        (with_frame (onwards y locals stack (ToFree h)) (frame_after item locals stack (ToFree h)) callers)
    free_passed areas freed is =
        subst (λ (a : Areas). Passed 4 (with_frame y (at item locals stack) callers)
        (with_frame (record y { areas = a; steps = y.steps + 1 + 1 + 1 + 1 }) (frame_after item locals stack (ToFree h)) callers)) (sym freed)
        (rest_passed y item locals stack w.calls.free kept four areas is)

    pub free_done : Done (onwards y locals stack (ToFree h)) (frame_after item locals stack (ToFree h)) todos next
        → Done y (at item locals stack) (ToFree h ∷ todos) next
    free_done later = by_sight (seen q.outline y.areas held reference) where
      there : next_insn q (at (item + 1) locals stack) ≡ Some (insn.Static w.calls.free)
      there = call_there y item locals stack w.calls.free kept four

      by_sight : Seen q.outline y.areas held → Done y (at item locals stack) (ToFree h ∷ todos) next
      by_sight (SeenNull sight_is areas_are) =
          join y item locals stack (ToFree h) todos next
          (free_passed y.areas areas_are
          (free_null q choose (counted q choose y) (at (item + 1) locals stack) callers w.calls.free held stack native there sight_is)) later
      by_sight (SeenThing it sight_is areas_are) =
          join y item locals stack (ToFree h) todos next
          (free_passed _ areas_are
          (free_held q choose (counted q choose y) (at (item + 1) locals stack) callers w.calls.free held stack native there it sight_is)) later
      by_sight (SeenGone n cell_is lost sight_is) =
          let fault = free_lost q choose (counted q choose y) (at (item + 1) locals stack) callers w.calls.free held stack native there sight_is in
          OneLost 1 method (offset_at q (at (item + 1) locals stack)) (cell_of held) (loaded y item locals stack w.calls.free kept four)
          (record { before = []; todo = ToFree h; behind = todos; is = refl; misses = (n, cell_is, lost) })
          (omega arith) (load_passed y item locals stack w.calls.free kept four)
          (record { goes_on = refl; inserted = ap is_some lies.2.1 }) fault.0 fault.1

  -- what is inserted to free all of a holder's chain
  module _ (y : State) (item : ℕ) (locals stack : List Value) (h : ℕ) (todos : List Todo) (next : ℕ)
      (lies : LieInserted new own item (all_insns_to w.calls old (ToFreeAll h ∷ todos)) next) where
    abbrev chain_local : ℕ
    chain_local = local_of old h

    abbrev chain : Value
    chain = word_at locals chain_local

    all_four : LiesFour item w.calls.free_chain chain_local
    all_four = (lies.0, lies.1, lies.2.0, lies.2.1, lies.2.2.0, lies.2.2.1, lies.2.2.2.0, lies.2.2.2.1)

    chain_called : IsCalled q FreeMeFreeChain (at (item + 1) locals stack) w.calls.free_chain
    chain_called = record {
      next = call_there y item locals stack w.calls.free_chain chain_local all_four;
      calls = w.chains (item + 1) lies.2.0 lies.2.1;
    }

    pub chain_done : Done (onwards y locals stack (ToFreeAll h)) (frame_after item locals stack (ToFreeAll h)) todos next
        → Done y (at item locals stack) (ToFreeAll h ∷ todos) next
    chain_done later = by_walk (chain_from y.areas.store (cell_of chain)) refl where
      by_walk : (found : Option (List ℕ)) → chain_from y.areas.store (cell_of chain) ≡ found → Done y (at item locals stack) (ToFreeAll h ∷ todos) next
      by_walk (Some cells) is =
          join y item locals stack (ToFreeAll h) todos next
          (subst (λ (a : Areas). Passed 4 (with_frame y (at item locals stack) callers)
          (with_frame (record y { areas = a; steps = y.steps + 1 + 1 + 1 + 1 }) (frame_after item locals stack (ToFreeAll h)) callers))
          (sym (ap (freed_along y.areas) is))
          (rest_passed y item locals stack w.calls.free_chain chain_local all_four (all_freed y.areas cells)
          (chains_free q choose (counted q choose y) (at (item + 1) locals stack) callers w.calls.free_chain chain stack cells chain_called is))) later
      by_walk None is =
          let fault = chains_fault q choose (counted q choose y) (at (item + 1) locals stack) callers w.calls.free_chain chain stack chain_called is in
          OneLost 1 method (offset_at q (at (item + 1) locals stack)) (cell_of chain) (loaded y item locals stack w.calls.free_chain chain_local all_four)
          (record { before = []; todo = ToFreeAll h; behind = todos; is = refl; misses = is })
          (omega arith) (load_passed y item locals stack w.calls.free_chain chain_local all_four)
          (record { goes_on = refl; inserted = ap is_some lies.2.1 }) (ap (λ (m : Moved). m.state.ended) fault) (ap (λ (m : Moved). m.printed) fault)

  -- ---- chains

  -- what is inserted to put what is on top before a holder's chain
  module _ (y : State) (item : ℕ) (locals : List Value) (v : Value) (rest : List Value) (h : ℕ) (joins : Bool) (todos : List Todo) (next : ℕ)
      (may : MayLink old y.areas.store (v ∷ rest) locals h joins)
      (lies : LieInserted new own item (all_insns_to w.calls old (ToLink h joins ∷ todos)) next) where
    abbrev link_local : ℕ
    link_local = local_of old h

    abbrev before : Value
    before = word_at locals link_local

    abbrev counted_twice : State
    counted_twice = counted q choose (counted q choose y)

    abbrev doubled : State
    doubled = with_frame (counted q choose y) (at (item + 1) locals (v ∷ v ∷ rest)) callers

    abbrev both_loaded : State
    both_loaded = with_frame counted_twice (at (item + 1 + 1) locals (before ∷ v ∷ v ∷ rest)) callers

    dup_is : step q choose (with_frame y (at item locals (v ∷ rest)) callers) ≡ record { state = doubled; printed = [] }
    dup_is = dup_step q choose y (at item locals rest) callers v rest (insn_at item locals rest insn.Dup lies.0)

    chain_loaded : step q choose doubled ≡ record { state = both_loaded; printed = [] }
    chain_loaded =
        load_step q choose (counted q choose y) (at (item + 1) locals (v ∷ v ∷ rest)) callers link_local
        (insn_at (item + 1) locals (v ∷ v ∷ rest) (insn.Load reg.Ref link_local) lies.2.0)

    abbrev at_call : Frame
    at_call = at (item + 1 + 1) locals []

    link_called : IsCalled q FreeMeLink at_call w.calls.link
    link_called = record {
      next = insn_at (item + 1 + 1) locals [] (insn.Static w.calls.link) lies.2.2.0;
      calls = w.links (item + 1 + 1) lies.2.2.0 lies.2.2.1;
    }

    -- after the call the holder has what is on top
    link_passed : (areas : Areas) (top : Value) → joined_to joins y.areas (cell_of v) (cell_of before) ≡ areas → left_in joins v before ≡ top
        → step q choose both_loaded
        ≡ goes_to q choose (record y { areas = areas; steps = y.steps + 1 + 1 + 1 }) (at (item + 1 + 1 + 1) locals (top ∷ v ∷ rest)) callers
        → Passed 4 (with_frame y (at item locals (v ∷ rest)) callers)
        (with_frame (onwards y locals (v ∷ rest) (ToLink h joins)) (frame_after item locals (v ∷ rest) (ToLink h joins)) callers)
    link_passed areas top areas_are top_is is =
        let z : State = record y { areas = areas; steps = y.steps + 1 + 1 + 1 } in
        let last = with_frame (counted q choose z) (at (item + 1 + 1 + 1 + 1) (slice_set locals link_local top) (v ∷ rest)) callers in
        subst (λ (s : State). Passed 4 (with_frame y (at item locals (v ∷ rest)) callers) s)
        (sym (λ k. with_frame (record y { areas = areas_are k; steps = y.steps + 1 + 1 + 1 + 1 })
        (at (item + 1 + 1 + 1 + 1) (slice_set locals link_local (top_is k)) (v ∷ rest)) callers))
        (one_passed q marks choose y (at item locals (v ∷ rest)) callers doubled 3 last lies.1 dup_is refl
        (one_passed q marks choose (counted q choose y) (at (item + 1) locals (v ∷ v ∷ rest)) callers both_loaded 2 last lies.2.1 chain_loaded refl
        (one_passed q marks choose counted_twice (at (item + 1 + 1) locals (before ∷ v ∷ v ∷ rest)) callers
        (with_frame z (at (item + 1 + 1 + 1) locals (top ∷ v ∷ rest)) callers) 1 last lies.2.2.1 is refl
        (one_passed q marks choose z (at (item + 1 + 1 + 1) locals (top ∷ v ∷ rest)) callers last 0 last lies.2.2.2.1
        (store_step q choose z (at (item + 1 + 1 + 1) locals (v ∷ rest)) callers link_local top (v ∷ rest)
        (insn_at (item + 1 + 1 + 1) locals (v ∷ rest) (insn.Store reg.Ref link_local) lies.2.2.2.0)) refl refl))))

    pub link_done : Done (onwards y locals (v ∷ rest) (ToLink h joins)) (frame_after item locals (v ∷ rest) (ToLink h joins)) todos next
        → Done y (at item locals (v ∷ rest)) (ToLink h joins ∷ todos) next
    link_done later = by_cell (cell_of v) refl where
      passes : joins ≡ false → JoinsNone y.areas.store (cell_of v) → Done y (at item locals (v ∷ rest)) (ToLink h joins ∷ todos) next
      passes apart none =
          join y item locals (v ∷ rest) (ToLink h joins) todos next
          (link_passed y.areas before (ap (λ b. joined_to b y.areas (cell_of v) (cell_of before)) apart) (ap (λ b. left_in b v before) apart)
          (links_pass_over q choose counted_twice at_call callers w.calls.link v before (v ∷ rest) link_called may.top none)) later

      joined : (n : ℕ) → cell_of v ≡ suc n → (a : Object) → object_at y.areas.store (suc n) ≡ Some a → a.fixed ≡ false → joins ≡ true
          → Done y (at item locals (v ∷ rest)) (ToLink h joins ∷ todos) next
      joined n is a there fixed does =
          join y item locals (v ∷ rest) (ToLink h joins) todos next
          (link_passed (chained y.areas (cell_of v) (cell_of before)) v (ap (λ b. joined_to b y.areas (cell_of v) (cell_of before)) does)
          (ap (λ b. left_in b v before) does)
          (links_join q choose counted_twice at_call callers w.calls.link n v before (v ∷ rest) a link_called may.top is there fixed)) later

      by_fixed : (n : ℕ) → cell_of v ≡ suc n → (a : Object) → object_at y.areas.store (suc n) ≡ Some a → (b : Bool) → a.fixed ≡ b
          → Done y (at item locals (v ∷ rest)) (ToLink h joins ∷ todos) next
      by_fixed n is a there true fixed =
          passes (may.joins_is ∙ ap (joins_in y.areas.store) is ∙ ap may_join there ∙ ap not fixed) (inr (n, a, is, there, fixed))
      by_fixed n is a there false fixed =
          joined n is a there fixed (may.joins_is ∙ ap (joins_in y.areas.store) is ∙ ap may_join there ∙ ap not fixed)

      by_object : (n : ℕ) → cell_of v ≡ suc n → (found : Option Object) → object_at y.areas.store (suc n) ≡ found
          → Done y (at item locals (v ∷ rest)) (ToLink h joins ∷ todos) next
      by_object n is None there =
          let fault = links_fault q choose counted_twice at_call callers w.calls.link n v before (v ∷ rest) link_called may.top is there in
          OneLost 2 method (offset_at q at_call) (suc n) both_loaded
          (record { before = []; todo = ToLink h joins; behind = todos; is = refl; misses = (n, is, there) })
          (omega arith)
          (one_passed q marks choose y (at item locals (v ∷ rest)) callers doubled 1 both_loaded lies.1 dup_is refl
          (one_passed q marks choose (counted q choose y) (at (item + 1) locals (v ∷ v ∷ rest)) callers both_loaded 0 both_loaded lies.2.1 chain_loaded refl refl))
          (record { goes_on = refl; inserted = ap is_some lies.2.2.1 }) (ap (λ (m : Moved). m.state.ended) fault) (ap (λ (m : Moved). m.printed) fault)
      by_object n is (Some a) there = by_fixed n is a there a.fixed refl

      by_cell : (n : ℕ) → cell_of v ≡ n → Done y (at item locals (v ∷ rest)) (ToLink h joins ∷ todos) next
      by_cell zero is = passes (may.joins_is ∙ ap (joins_in y.areas.store) is) (inl is)
      by_cell (suc n) is = by_object n is (object_at y.areas.store (suc n)) refl

  -- ---- all things

  pub all_done : (todos : List Todo) (next item : ℕ) (locals stack : List Value) → LieInserted new own item (all_insns_to w.calls old todos) next
      → (y : State) → MayDoAll old y.areas stack locals todos → Done y (at item locals stack) todos next
  all_done [] next item locals stack lies y may =
      let same : y.steps ≡ y.steps + 0 = omega arith in
      AllDone (λ i. record y { frames = at (lies i) locals stack ∷ callers; steps = same i; ended = None })
  all_done (ToStart h ∷ todos) next item locals stack lies y may =
      join y item locals stack (ToStart h) todos next (start_passed y item locals stack h (lies.0, lies.1, lies.2.0, lies.2.1))
      (all_done todos next (item + 1 + 1) (slice_set locals (local_of old h) null) stack lies.2.2 (onwards y locals stack (ToStart h)) may.1)
  all_done (ToKeep h ∷ todos) next item locals [] lies y may = absurd (let some = may.0.0 in omega arith)
  all_done (ToKeep h ∷ todos) next item locals (v ∷ rest) lies y may =
      join y item locals (v ∷ rest) (ToKeep h) todos next (keep_passed y item locals v rest h (lies.0, lies.1, lies.2.0, lies.2.1))
      (all_done todos next (item + 1 + 1) (slice_set locals (local_of old h) v) (v ∷ rest) lies.2.2 (onwards y locals (v ∷ rest) (ToKeep h)) may.1)
  all_done (ToLink h joins ∷ todos) next item locals [] lies y may = absurd (let some = may.0.some in omega arith)
  all_done (ToLink h joins ∷ todos) next item locals (v ∷ rest) lies y may =
      link_done y item locals v rest h joins todos next may.0 lies
      (all_done todos next (item + 1 + 1 + 1 + 1) (locals_after old (v ∷ rest) (ToLink h joins) locals) (v ∷ rest) lies.2.2.2.2
      (onwards y locals (v ∷ rest) (ToLink h joins)) may.1)
  all_done (ToFree h ∷ todos) next item locals stack lies y may =
      free_done y item locals stack h todos next may.0.0 lies
      (all_done todos next (item + 1 + 1 + 1 + 1) (slice_set locals (local_of old h) null) stack lies.2.2.2.2 (onwards y locals stack (ToFree h)) may.1)
  all_done (ToFreeAll h ∷ todos) next item locals stack lies y may =
      chain_done y item locals stack h todos next lies
      (all_done todos next (item + 1 + 1 + 1 + 1) (slice_set locals (local_of old h) null) stack lies.2.2.2.2 (onwards y locals stack (ToFreeAll h)) may.1)

pub todos_done : TodosAreDone
todos_done q marks choose f old plan w todos next lies y callers may =
    all_done q marks choose f.method old plan w callers todos next f.item f.locals f.stack lies y may
