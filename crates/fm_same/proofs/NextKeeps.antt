-- Whatever comes next after the actions of a step, the frames that follow are coloured.
use Rattle.std.proofs.Common.{◌≡◌, ℕ, ◌+◌, ◌-◌, ◌<◌, not, Bool, true, false, cond, if◌then◌else◌, List, [], ◌∷◌, ◌++◌, length, take, drop, reverse, refl, sym, ◌∙◌, ap, subst, inl, slice_index_or, min, arith, ⊎_elim, length-drop, length-take}
use Rattle.std.proofs.lemmas.List.{length-reverse}
use Rattle.std.specs.List.{AllByRecursion}
use Rattle.std.proofs.lemmas.Bool.{false≢true}
use Rattle.std.proofs.lemmas.Option.{get_or_from_slice_get, same_Some, slice_get-get_or}
use Rattle.fm_cells.specs.Stores.{Store}
use Rattle.fm_code.specs.Edges.{falls_through, IsNormalEdge}
use Rattle.fm_code.specs.Live.{stores_over}
use Rattle.fm_code.specs.SpellsCode.{targets_of}
use Rattle.fm_code.specs.declared.instructions.Insn.{Insn}
use Rattle.fm_conn.specs.Facts.{AreFacts, Facts}
use Rattle.fm_conn.specs.Nodes.{depth_at, Global}
use Rattle.fm_world.specs.Programs.{Outline, Program}
use Rattle.fm_frames.specs.Acts.{same_cell, Sources, value_of}
use Rattle.fm_frames.specs.Effects.{Effect, Next, Falls, Jumps, JumpsIfSame, Calls, Returns, Throws, Enters, Exits, Faults, Source, OfOperand, OfMade}
use Rattle.fm_frames.specs.States.{Frame, State, word_at}
use Rattle.fm_frames.specs.Steps.{caught, Caught, InFrames, is_start, Leaves, new_frame, returned, start_frames, target_at, thrown_by, type_at}
use Rattle.fm_frames.specs.Steps as steps
use Rattle.fm_frames.specs.declared.values.Value.{Value}
use Rattle.fm_same.specs.Advances.{point_of}
use Rattle.fm_same.specs.Colours.{AreAreasColoured, AreFramesColoured, Colour, HasColour, IsFrameColoured}
use Rattle.fm_same.specs.Evenness.{ComesFrom, EndsEvenly, GoesOn, IsObjectSource, LeadsRight, Point}
use Rattle.fm_same.specs.Regions.{Everywhere, region}
use Rattle.fm_same.specs.Standing.{Called, Goes, method_of, Stand, StandBelow, StandsAt, Waits}
use Rattle.fm_same.proofs.ActsKeep.{Went}
use Rattle.fm_same.proofs.CallsKeep.{called_coloured, calling_coloured, no_words, start_coloured, starts_coloured}
use Rattle.fm_same.proofs.EdgesKeep.{edge_to_next, edge_to_target, item_with_state}
use Rattle.fm_same.proofs.GoesOnKeep.{frame_goes, frames-later}
use Rattle.fm_same.proofs.RegionLemmas.{region_global}
use Rattle.fm_same.proofs.ReturnsKeep.{ReturnIsColoured, return_kept}
use Rattle.fm_same.proofs.SourcesKeep.{source_gives}
use Rattle.fm_same.proofs.ThrowsKeep.{thrown_coloured}
use Rattle.fm_law_sound.specs.Placing.{ReadAgrees}
use Rattle.fm_law_sound.specs.Going.{IsGoingOn}
use Rattle.fm_law_sound.proofs.Following.{followed}
use Rattle.fm_law_sound.proofs.FramesStand.{target_is}

-- ---- targets

same_default : (xs : List ℕ) (n d : ℕ) → n < length xs → slice_index_or xs n (slice_index_or xs n d) ≡ slice_index_or xs n d
same_default xs n d within = get_or_from_slice_get xs n (slice_index_or xs n d) (slice_index_or xs n d) (slice_get-get_or xs n d within)

-- ---- whatever follows

object_read : (o : Outline) (store : Store) (stack : List Value) (s : Source) → IsObjectSource s → ReadAgrees o store stack s
object_read o store stack (OfOperand n) h = tt
object_read o store stack (OfMade n) h = tt
object_read o store stack other h = absurd h

module _ (p : Program) (facts : Facts) (exact : AreFacts p facts) (f : Frame) (callers : List Frame) (at : StandsAt p facts f) (below : StandBelow p facts f callers) (store : Store) (colour : Colour) (coloured : AreFramesColoured p.outline facts store colour (f ∷ callers)) (home : ℕ) (x : State) (frames_are : x.frames ≡ f ∷ callers) (made : List ℕ) (gone : Went p.outline store colour (region p.outline facts f.method callers home) x.areas made) (e : Effect) (reads : AllByRecursion (ReadAgrees p.outline store f.stack) e.gives) where
  abbrev point : Point
  point = point_of p facts f at.code

  abbrev from : Sources
  from = record { locals = f.locals; stack = f.stack; areas = x.areas; made = made }

  abbrev To : List Frame → Type 0
  To frames = ReturnIsColoured p facts (f ∷ callers) colour x.areas.store.births frames x.areas

  pub frames_now : AreFramesColoured p.outline facts x.areas.store colour (f ∷ callers)
  frames_now = frames-later p.outline facts store x.areas.store colour (f ∷ callers) gone.extends coloured

  pub with_frames : (frames : List Frame) → AreFramesColoured p.outline facts x.areas.store colour frames → To frames
  with_frames frames h = record { other = colour; frames_coloured = h; areas_coloured = gone.areas; advances = λ birth lt. inl refl; lowers = λ birth lt. inl refl }

  pub stays : To x.frames
  stays = subst (λ frames. To frames) (sym frames_are) (with_frames (f ∷ callers) frames_now)

  -- in the frame
  goes_on : (next : ℕ) → GoesOn point home e next → Goes p facts (steps.went from e f next) → To (steps.went from e f next ∷ callers)
  goes_on next owes stands =
      with_frames (steps.went from e f next ∷ callers)
      (frame_goes p facts f callers at store colour coloured.0 home x.areas made gone e next owes reads stands, frames_now.1)

  inside : (next : ℕ) → Goes p facts (steps.went from e f next) → next < length at.code.items
  inside next stands = item_with_state p facts exact f.method at.code at.code_is next stands.at.state stands.at.state_is

  falls : ((next : ℕ) → IsNormalEdge at.code f.item next → GoesOn point home e next) → falls_through at.insn ≡ true
      → Goes p facts (steps.went from e f (f.item + 1)) → To (steps.went from e f (f.item + 1) ∷ callers)
  falls goes on stands =
      goes_on (f.item + 1) (goes (f.item + 1) (edge_to_next at.code f.item at.insn at.insn_is on (inside (f.item + 1) stands))) stands

  jumps : ((next : ℕ) → IsNormalEdge at.code f.item next → GoesOn point home e next) → (n : ℕ) → n < length (targets_of at.insn)
      → Goes p facts (steps.went from e f (target_at p f n)) → To (steps.went from e f (target_at p f n) ∷ callers)
  jumps goes n within stands =
      let target : ℕ = target_at p f n in
      let is : target_at p f n ≡ slice_index_or (targets_of at.insn) n f.item = target_is p f n at.code at.insn at.code_is at.insn_is in
      let there : slice_index_or (targets_of at.insn) n (target_at p f n) ≡ target_at p f n =
      subst (λ t. slice_index_or (targets_of at.insn) n t ≡ t) (sym is) (same_default (targets_of at.insn) n f.item within) in
      goes_on (target_at p f n)
      (goes (target_at p f n)
      (edge_to_target at.code f.item n (target_at p f n) at.insn at.insn_is within there (inside (target_at p f n) stands)))
      stands

  either_way : (b : Bool) (one other : ℕ)
      → (Goes p facts (steps.went from e f one) → To (steps.went from e f one ∷ callers))
      → (Goes p facts (steps.went from e f other) → To (steps.went from e f other ∷ callers))
      → Goes p facts (steps.went from e f (cond b one other)) → To (steps.went from e f (cond b one other) ∷ callers)
  either_way true one other first second stands = first stands
  either_way false one other first second stands = second stands

  -- to a method
  -- a frame that starts a class is called with nothing: the one below keeps its stack
  nothing_taken : length f.stack ≡ depth_at (method_of p facts f at.code) f.item → Goes p facts (record f { stack = drop e.takes f.stack })
      → reverse (take e.takes f.stack) ≡ []
  nothing_taken depth goes =
      let same : goes.at.code ≡ at.code = same_Some goes.at.code at.code (sym goes.at.code_is ∙ at.code_is) in
      let level : depth_at (method_of p facts f goes.at.code) f.item ≡ depth_at (method_of p facts f at.code) f.item =
      ap (λ code. depth_at (method_of p facts f code) f.item) same in
      let kept : length (drop e.takes f.stack) ≡ depth_at (method_of p facts f goes.at.code) f.item = goes.depth in
      let left : length (drop e.takes f.stack) ≡ length f.stack - e.takes = length-drop e.takes f.stack in
      let count : length (take e.takes f.stack) ≡ min e.takes (length f.stack) = length-take e.takes f.stack in
      let size : length (reverse (take e.takes f.stack)) ≡ length (take e.takes f.stack) = length-reverse (take e.takes f.stack) in
      no_words (reverse (take e.takes f.stack)) (omega arith)

  calls : length f.stack ≡ depth_at (method_of p facts f at.code) f.item → (m : ℕ)
      → Stand p facts (new_frame p m (reverse (take e.takes f.stack)) ∷ record f { stack = drop e.takes f.stack } ∷ callers)
      → To (new_frame p m (reverse (take e.takes f.stack)) ∷ record f { stack = drop e.takes f.stack } ∷ callers)
  calls depth m stands =
      let callee : Frame = new_frame p m (reverse (take e.takes f.stack)) in
      let caller : Frame = record f { stack = drop e.takes f.stack } in
      ⊎_elim
      (λ (is : (is_start p.outline m ≡ false) × Called p facts callee caller).
      with_frames (callee ∷ caller ∷ callers) (
        called_coloured p facts exact f callers at x.areas.store colour frames_now.0 m e.takes stands.0.at.code stands.0.at.code_is is.1,
        (calling_coloured p facts exact f callers at x.areas.store colour frames_now.0 m e.takes, frames_now.1),
      ))
      (λ (waits : (is_start p.outline m ≡ true) × Waits p facts caller).
      with_frames (callee ∷ caller ∷ callers) (
        subst (λ words. IsFrameColoured p.outline facts x.areas.store colour (new_frame p m words) (caller ∷ callers))
            (sym (nothing_taken depth waits.1.goes)) (start_coloured p facts x.areas.store colour m (caller ∷ callers)),
        (calling_coloured p facts exact f callers at x.areas.store colour frames_now.0 m e.takes, frames_now.1),
      ))
      stands.1.0

  -- out of the frame
  throws : (s : Source) → IsObjectSource s → ComesFrom point home (point.class Global) s → ((k : ℕ) → stores_over k at.insn ≡ false)
      → (c : Caught) → caught p (type_at p.outline x.areas.store (value_of from s)) (value_of from s) (f ∷ callers) ≡ c
      → Stand p facts (thrown_by x c).frames → ReturnIsColoured p facts (f ∷ callers) colour x.areas.store.births (thrown_by x c).frames (thrown_by x c).areas
  throws s is_object comes keeps (InFrames frames) is stands =
      let has : HasColour x.areas.store colour Everywhere (value_of from s) =
      subst (λ r. HasColour x.areas.store colour r (value_of from s))
      (region_global p.outline facts f.method callers (facts.class f.method Global) refl)
      (source_gives p facts f callers at store colour coloured.0 home x.areas made gone (point.class Global) s comes
      (object_read p.outline store f.stack s is_object)) in
      with_frames frames
      (thrown_coloured p facts exact x.areas.store colour (type_at p.outline x.areas.store (value_of from s)) (value_of from s) has f callers at keeps
      frames_now below frames stands is)
  throws s is_object comes keeps (Leaves ended) is stands = stays

-- a return, where the frame below is this one
returns_to : (p : Program) (facts : Facts) (exact : AreFacts p facts) (f g : Frame) (callers : List Frame) (at : StandsAt p facts f)
    (below : StandBelow p facts f (g ∷ callers)) (x : State) (colour : Colour)
    (coloured : AreFramesColoured p.outline facts x.areas.store colour (f ∷ g ∷ callers)) (shared : AreAreasColoured p.outline colour x.areas)
    (home : ℕ) (i : Insn) (n : ℕ) → EndsEvenly p.outline (point_of p facts f at.code) home i (Returns n)
    → (b : Bool) → is_start p.outline f.method ≡ b
    → Stand p facts (cond b (record x { frames = g ∷ callers })
    (record x { frames = record g { item = g.item + 1; stack = take n f.stack ++ g.stack } ∷ callers })).frames
    → ReturnIsColoured p facts (f ∷ g ∷ callers) colour x.areas.store.births
    (cond b (record x { frames = g ∷ callers }) (record x { frames = record g { item = g.item + 1; stack = take n f.stack ++ g.stack } ∷ callers })).frames
    (cond b (record x { frames = g ∷ callers }) (record x { frames = record g { item = g.item + 1; stack = take n f.stack ++ g.stack } ∷ callers })).areas
returns_to p facts exact f g callers at below x colour coloured shared home i n evenly true is stands =
    record { other = colour; frames_coloured = coloured.1; areas_coloured = shared; advances = λ birth lt. inl refl; lowers = λ birth lt. inl refl }
returns_to p facts exact f g callers at below x colour coloured shared home i n evenly false is stands = ⊎_elim
    (λ (call : (is_start p.outline f.method ≡ false) × Called p facts f g).
    return_kept p facts exact f g callers at call.1 x.areas colour coloured.0 coloured.1.0 coloured.1.1 shared n evenly stands.0)
    (λ (waits : (is_start p.outline f.method ≡ true) × Waits p facts g). absurd (false≢true (sym is ∙ waits.0)))
    below.0

returns_kept : (p : Program) (facts : Facts) (exact : AreFacts p facts) (f : Frame) (callers : List Frame) (at : StandsAt p facts f)
    (below : StandBelow p facts f callers) (x : State) (colour : Colour)
    (coloured : AreFramesColoured p.outline facts x.areas.store colour (f ∷ callers)) (shared : AreAreasColoured p.outline colour x.areas)
    (home : ℕ) (i : Insn) (n : ℕ) → EndsEvenly p.outline (point_of p facts f at.code) home i (Returns n)
    → ReturnIsColoured p facts (f ∷ callers) colour x.areas.store.births x.frames x.areas
    → Stand p facts (returned p n f callers x).frames
    → ReturnIsColoured p facts (f ∷ callers) colour x.areas.store.births (returned p n f callers x).frames (returned p n f callers x).areas
returns_kept p facts exact f [] at below x colour coloured shared home i n evenly same stands = same
returns_kept p facts exact f (g ∷ callers) at below x colour coloured shared home i n evenly same stands =
    returns_to p facts exact f g callers at below x colour coloured shared home i n evenly (is_start p.outline f.method) refl stands

module _ (p : Program) (facts : Facts) (exact : AreFacts p facts) (f : Frame) (callers : List Frame) (at : StandsAt p facts f) (below : StandBelow p facts f callers) (store : Store) (colour : Colour) (coloured : AreFramesColoured p.outline facts store colour (f ∷ callers)) (home : ℕ) (x : State) (frames_are : x.frames ≡ f ∷ callers) (made : List ℕ) (gone : Went p.outline store colour (region p.outline facts f.method callers home) x.areas made) (e : Effect) (reads : AllByRecursion (ReadAgrees p.outline store f.stack) e.gives) where
  abbrev follow : Next → State
  follow nx = followed p (from p facts exact f callers at below store colour coloured home x frames_are made gone e reads) e f callers x nx

  pub next_kept : length f.stack ≡ depth_at (method_of p facts f at.code) f.item → (nx : Next) → LeadsRight at.insn nx
      → ((next : ℕ) → IsGoingOn nx → IsNormalEdge at.code f.item next → GoesOn (point_of p facts f at.code) home e next)
      → EndsEvenly p.outline (point_of p facts f at.code) home at.insn nx → Stand p facts (follow nx).frames
      → ReturnIsColoured p facts (f ∷ callers) colour x.areas.store.births (follow nx).frames (follow nx).areas
  next_kept depth Falls leads goes ends stands =
      falls p facts exact f callers at below store colour coloured home x frames_are made gone e reads (λ next edge. goes next tt edge) leads stands.0
  next_kept depth (Jumps n) leads goes ends stands =
      jumps p facts exact f callers at below store colour coloured home x frames_are made gone e reads (λ next edge. goes next tt edge) n leads stands.0
  next_kept depth (JumpsIfSame same) leads goes ends stands =
      let is_same : Bool = same_cell (word_at f.stack 0) (word_at f.stack 1) in
      either_way p facts exact f callers at below store colour coloured home x frames_are made gone e reads
      (if same then is_same else not is_same) (target_at p f 0) (f.item + 1)
      (jumps p facts exact f callers at below store colour coloured home x frames_are made gone e reads (λ next edge. goes next tt edge) 0 leads.0)
      (falls p facts exact f callers at below store colour coloured home x frames_are made gone e reads (λ next edge. goes next tt edge) leads.1)
      stands.0
  next_kept depth (Calls m) leads goes ends stands =
      calls p facts exact f callers at below store colour coloured home x frames_are made gone e reads depth m stands
  next_kept depth (Returns n) leads goes ends stands =
      returns_kept p facts exact f callers at below x colour
      (frames_now p facts exact f callers at below store colour coloured home x frames_are made gone e reads) gone.areas home at.insn n ends
      (stays p facts exact f callers at below store colour coloured home x frames_are made gone e reads) stands
  next_kept depth (Throws s) leads goes ends stands =
      throws p facts exact f callers at below store colour coloured home x frames_are made gone e reads s ends.0 ends.1 ends.2
      (caught p (type_at p.outline x.areas.store (value_of (from p facts exact f callers at below store colour coloured home x frames_are made gone e reads) s))
      (value_of (from p facts exact f callers at below store colour coloured home x frames_are made gone e reads) s) (f ∷ callers)) refl stands
  next_kept depth (Enters methods) leads goes ends stands =
      with_frames p facts exact f callers at below store colour coloured home x frames_are made gone e reads (start_frames p methods ++ f ∷ callers)
      (starts_coloured p facts x.areas.store colour methods (f ∷ callers)
      (frames_now p facts exact f callers at below store colour coloured home x frames_are made gone e reads))
  next_kept depth (Exits n) leads goes ends stands = stays p facts exact f callers at below store colour coloured home x frames_are made gone e reads
  next_kept depth (Faults s) leads goes ends stands = stays p facts exact f callers at below store colour coloured home x frames_are made gone e reads
