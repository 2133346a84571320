-- Whatever comes next after the actions of a step, the frames that follow are as the states of their items have them.
use Rattle.std.proofs.Common.{◌≡◌, ℕ, ◌+◌, ◌<◌, not, Bool, true, false, cond, List, [], ◌∷◌, ◌++◌, length, take, Some, option_and_then, option_to_list, refl, sym, ◌∙◌, ap, ⊎_elim}
use Rattle.std.specs.List.{AllByRecursion}
use Rattle.std.proofs.lemmas.Bool.{false≢true}
use Rattle.std.proofs.lemmas.Slice.Zip.{AllZip-long}
use Rattle.fm_cells.specs.Stores.{Store}
use Rattle.fm_code.specs.Edges.{falls_through, insn_of, IsNormalEdge}
use Rattle.fm_code.specs.SpellsCode.{targets_of}
use Rattle.fm_code.specs.declared.code_array.Code.{Code}
use Rattle.fm_code.specs.declared.instructions.Insn.{Insn}
use Rattle.fm_types.specs.Named.{result_words}
use Rattle.fm_types.specs.States.{stack_slots, TypeState}
use Rattle.fm_types.specs.Typed.{made_at, use_by}
use Rattle.fm_world.specs.Descriptors.{result_kind}
use Rattle.fm_world.specs.Programs.{Program}
use Rattle.fm_frames.specs.Acts.{same_cell, value_of}
use Rattle.fm_frames.specs.Effects.{Calls, Effect, Enters, Exits, Falls, Faults, Jumps, JumpsIfSame, Next, Returns, Throws}
use Rattle.fm_frames.specs.States.{Frame, State, word_at}
use Rattle.fm_frames.specs.Steps as steps
use Rattle.fm_frames.specs.Steps.{Caught, caught, continued, InFrames, is_start, Leaves, returned, stack_after, target_at, thrown_by, type_at, written}
use Rattle.fm_frames.specs.declared.values.Value.{Value}
use Rattle.fm_law_sound.specs.Going.{StandsAtRow}
use Rattle.fm_law_sound.specs.Leading.{sources_of}
use Rattle.fm_law_sound.specs.Resolved.{StepsAreResolved}
use Rattle.fm_law_sound.specs.Sound.{AreTyped, Calling, HasKind, HaveKinds, Stand, StandBelow, Starting, StandsWithout, Typings}
use Rattle.fm_law_sound.proofs.FramesStand.{edge_fits, met_row_of, next_edge, target_edge, typing_of}
use Rattle.fm_law_sound.proofs.ReturnsStand.{call_falls}
use Rattle.fm_law_holders.specs.Uninitialised.{FrameIsMade, Made}
use Rattle.fm_law_holders.proofs.CallsLeave.{call_are}
use Rattle.fm_law_holders.proofs.FramesMade.{all_caught, begun_made, brought_made, started_made, waiting_made, words_left}
use Rattle.fm_law_holders.proofs.Slots.{AreAt}

module _ (p : Program) (typings : Typings) (typed : AreTyped p typings) (ready : StepsAreResolved p) (made : Made) (y : State) (f : Frame) (i : Insn) (after : TypeState) (h : StandsAtRow p typings f i after) (cells : List ℕ) where
  abbrev store : Store
  store = y.areas.store

  abbrev Each : List Frame → Type 0
  Each frames = AllByRecursion (FrameIsMade typings store made) frames

  -- the frame that is left is as the state after the row
  abbrev IsLeft : Effect → Type 0
  IsLeft e = AreAt store made after (written (sources_of f y.areas cells) e.writes f.locals) (stack_after (sources_of f y.areas cells) e f.stack)

  -- what has to be known of the effect, by where it leads
  abbrev pub Ready : Effect → Next → Type 0
  Ready e Falls = (falls_through i ≡ true) × IsLeft e
  Ready e (Jumps n) = (n < length (targets_of i)) × IsLeft e
  Ready e (JumpsIfSame same) = (0 < length (targets_of i)) × (falls_through i ≡ true) × IsLeft e
  Ready e (Returns n) = HaveKinds (result_words p.outline f.method) (take n f.stack)
  Ready e next = Unit {0}

  -- ---- in the frame

  goes_made : (e : Effect) (callers : List Frame) (next : ℕ) → IsNormalEdge h.code f.item next → IsLeft e → Each callers
      → Each (steps.went (sources_of f y.areas cells) e f next ∷ callers)
  goes_made e callers next edge left below = (
    brought_made p typings typed store made (steps.went (sources_of f y.areas cells) e f next) after
        (edge_fits p typings ready.tree typed f i after h next edge) left,
    below,
  )

  either_made : (b : Bool) (e : Effect) (callers : List Frame) (one other : ℕ) → Each (steps.went (sources_of f y.areas cells) e f one ∷ callers)
      → Each (steps.went (sources_of f y.areas cells) e f other ∷ callers)
      → Each (steps.went (sources_of f y.areas cells) e f (cond b one other) ∷ callers)
  either_made true e callers one other first second = first
  either_made false e callers one other first second = second

  -- ---- to the frame below

  caller_made : (g : Frame) (result : List Value) → length result ≡ length (result_words p.outline f.method) → (call : Calling p typings f g)
      → FrameIsMade typings store made g → FrameIsMade typings store made (record g { item = g.item + 1; stack = result ++ g.stack })
  caller_made g result long call is =
      let code : Code = call.stands.code in
      let known : TypeState = call.stands.known in
      let insn_is : insn_of code g.item ≡ Some call.called =
      sym (ap (λ o. option_and_then (λ (c : Code). insn_of c g.item) o) call.stands.code_is) ∙ call.at in
      let typing = typing_of p typings typed g.method code call.stands.code_is in
      let found = met_row_of p typings g code known (typing.items g.item known call.stands.at) call.called insn_is in
      let at_row : StandsAtRow p typings g call.called found.0 = record {
        code = code;
        code_is = call.stands.code_is;
        insn_is = insn_is;
        known = known;
        at = call.stands.at;
        row = found.1;
        targets = ready.targets g.method code g.item call.called call.stands.code_is insn_is;
      } in
      let named_long : length result ≡ length (result_words p.outline call.named) =
      long ∙ ap (λ d. length (stack_slots (option_to_list (result_kind p.outline.classes d)))) call.same_descriptor in
      let there : AreAt store made found.0 g.locals (result ++ g.stack) =
      call_are p.outline store made g.method (made_at p g.method code) ready.calls.constructors known call.named g.locals g.stack result
      (is known call.stands.at).in_locals named_long call.called g.item call.words (use_by p g.method call.called) found.0 call.takes call.names
      (words_left p typings typed store made g call.words call.stands is) found.1 in
      let falls : falls_through call.called ≡ true = call_falls p.outline call.called call.named call.words call.takes in
      brought_made p typings typed store made (record g { item = g.item + 1; stack = result ++ g.stack }) found.0
      (edge_fits p typings ready.tree typed g call.called found.0 at_row (g.item + 1) (next_edge p typings ready.tree typed g call.called found.0 at_row falls))
      there

  returned_to : (n : ℕ) (g : Frame) (callers : List Frame) → StandBelow p typings f (g ∷ callers) → HaveKinds (result_words p.outline f.method) (take n f.stack)
      → Each (g ∷ callers) → (b : Bool) → is_start p.outline f.method ≡ b
      → Each (cond b (record y { frames = g ∷ callers })
      (record y { frames = record g { item = g.item + 1; stack = take n f.stack ++ g.stack } ∷ callers })).frames
  returned_to n g callers below kinds each true is = each
  returned_to n g callers below kinds each false is = ⊎_elim
      (λ (call : Calling p typings f g).
      (caller_made g (take n f.stack) (AllZip-long HasKind (result_words p.outline f.method) (take n f.stack) kinds) call each.0, each.1))
      (λ (start : Starting p typings f g). absurd (false≢true (sym is ∙ start.starts)))
      below.0

  returned_made : (n : ℕ) (callers : List Frame) → StandBelow p typings f callers → HaveKinds (result_words p.outline f.method) (take n f.stack)
      → Each callers → Each y.frames → Each (returned p n f callers y).frames
  returned_made n [] below kinds each all = all
  returned_made n (g ∷ callers) below kinds each all = returned_to n g callers below kinds each (is_start p.outline f.method) refl

  thrown_made : (c : Caught) → ((frames : List Frame) → c ≡ InFrames frames → Stand p typings frames → Each frames) → Stand p typings (thrown_by y c).frames
      → Each y.frames → Each (thrown_by y c).frames
  thrown_made (InFrames frames) each stand all = each frames refl stand
  thrown_made (Leaves e) each stand all = all

  -- ---- wherever it leads

  pub next_made : (stands : StandsWithout p typings 0 f) (callers : List Frame) → StandBelow p typings f callers → Each (f ∷ callers) → Each y.frames
      → (e : Effect) (next : Next) → Ready e next
      → Stand p typings (continued p (sources_of f y.areas cells) (record e { next = next }) f callers y).frames
      → Each (continued p (sources_of f y.areas cells) (record e { next = next }) f callers y).frames
  unfolding continued
  next_made stands callers below here all e Falls is stand =
      goes_made (record e { next = Falls }) callers (f.item + 1) (next_edge p typings ready.tree typed f i after h is.0) is.1 here.1
  next_made stands callers below here all e (Jumps n) is stand =
      goes_made (record e { next = Jumps n }) callers (target_at p f n) (target_edge p typings ready.tree typed f i after h n is.0) is.1 here.1
  next_made stands callers below here all e (JumpsIfSame same) is stand =
      let is_same = same_cell (word_at f.stack 0) (word_at f.stack 1) in
      either_made (cond same is_same (not is_same)) (record e { next = JumpsIfSame same }) callers (target_at p f 0) (f.item + 1)
      (goes_made (record e { next = JumpsIfSame same }) callers (target_at p f 0) (target_edge p typings ready.tree typed f i after h 0 is.0) is.2 here.1)
      (goes_made (record e { next = JumpsIfSame same }) callers (f.item + 1) (next_edge p typings ready.tree typed f i after h is.1) is.2 here.1)
  next_made stands callers below here all e (Calls target) is stand =
      (begun_made p typings typed store made _ 0 refl refl stand.0, (waiting_made p typings typed store made f e.takes stands here.0, here.1))
  next_made stands callers below here all e (Returns n) is stand = returned_made n callers below is here.1 all
  next_made stands callers below here all e (Throws s) is stand =
      let v : Value = value_of (sources_of f y.areas cells) s in
      thrown_made (caught p (type_at p.outline store v) v (f ∷ callers))
      (λ frames caught_is after_stand. all_caught p typings typed store made (type_at p.outline store v) v f callers 0 stands below here frames after_stand caught_is)
      stand all
  next_made stands callers below here all e (Enters methods) is stand = started_made p typings typed store made methods (f ∷ callers) stand here
  next_made stands callers below here all e (Exits n) is stand = all
  next_made stands callers below here all e (Faults s) is stand = all
