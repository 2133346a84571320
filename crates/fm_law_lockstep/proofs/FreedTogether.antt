-- Where holders of classes that aren't busy are freed, a state goes together with one of the first program: what was freed is gone, and retired.
use Rattle.std.proofs.Common.{◌≡◌, ◌≢◌, ◌+◌, ◌⊎◌, inl, inr, ℕ, true, List, [], ◌∷◌, length, map, Some, None, Contains, slice_get, refl, sym, ap, subst, ◌∙◌, arith, ⊎_elim}
use Rattle.std.specs.List.{AllZip}
use Rattle.std.proofs.lemmas.List.Elements.{length_all_zip}
use Rattle.std.proofs.lemmas.List.{length-map}
use Rattle.std.proofs.lemmas.Option.{same_Some}
use Rattle.fm_code.specs.declared.code_array.Code.{Code}
use Rattle.fm_conn.specs.Links.{typed_method}
use Rattle.fm_frames.specs.States.{Areas, Frame, null, State}
use Rattle.fm_frames.specs.declared.values.Value.{Value}
use Rattle.fm_law_held_objects.specs.Above.{AreSomeOf, FewerAreForNoneAbove}
use Rattle.fm_law_held_objects.specs.Freeing.{HoldersAreFreed, AreRetired}
use Rattle.fm_law_held_objects.specs.Held.{AreHeld, FrameIsHeld, FramesAreHeld}
use Rattle.fm_law_held_objects.specs.Laws.{AreThere, FreedClassesRetire, frees_of, FreesKeepHeld, NothingIsLost, RetiringKeepsHeld}
use Rattle.fm_law_holders.specs.Holding.{holder_value}
use Rattle.fm_law_holders.specs.Uninitialised.{Made}
use Rattle.fm_law_lockstep.proofs.FramesHeld.{frames_go}
use Rattle.fm_law_lockstep.proofs.FoundTodos.{todos_keep_limits}
use Rattle.fm_law_lockstep.specs.Both.{Both}
use Rattle.fm_law_lockstep.specs.Known.{IsKnown}
use Rattle.fm_law_lockstep.specs.Together.{AreLimited, GoTogetherAt}
use Rattle.fm_law_same_runs.specs.Beside.{kept_item}
use Rattle.fm_law_two_memories.specs.Pairing.{EndAlike, FramesPaired, Gone, StatesPaired}
use Rattle.fm_law_two_memories.specs.Results.{KeepsLimits}
use Rattle.fm_law_unwoven.specs.Doing.{all_areas_after, all_locals_after, IsLost}
use Rattle.fm_law_unwoven.specs.Kept.{IsAtKept, old_frame, old_state}
use Rattle.fm_law_unwoven.specs.WovenFrom.{inserted_by}
use Rattle.fm_place.specs.Insertions.{Holder, Insertions}
use Rattle.fm_place.specs.Places.{is_busy}
use Rattle.fm_place.specs.Safe as safe
use Rattle.fm_same.specs.Colours.{Colour}
use Rattle.fm_same.specs.Regions.{Own, Retired}
use Rattle.fm_same.specs.Standing.{Stand}
use Rattle.fm_world.specs.Programs.{code_at}

-- the laws of frees and of what is retired then
pub record FreeLaws : Type 0 where
  pub found : NothingIsLost
  pub frees : FreesKeepHeld
  pub retire : FreedClassesRetire
  pub retired : RetiringKeepsHeld
  pub fewer : FewerAreForNoneAbove

-- The state of the first program, and one of the second whose frames hold its frames, before the frees: what is gone is retired, and holders hold what they may.
pub record BeforeFrees (b : Both) (x z : State) (f g : Frame) (callers below : List Frame) (code : Code) (locals : List Value) : Type 0 where
  pub colour : Colour
  pub made : Made
  pub gone : Gone
  pub goes_on : x.ended ≡ None
  pub known : IsKnown b.one b.facts x colour made
  pub stand : Stand b.one b.facts x.frames
  pub retired : (birth : ℕ) → gone.births birth ≡ true → colour birth ≡ Retired
  pub paired : StatesPaired gone b.one.outline x (record z { frames = f ∷ callers; steps = x.steps })
  pub freed : z.areas.freed_words ≡ gone.words
  pub limits : AreLimited b x.areas.store z.areas.store
  pub method : g.method ≡ f.method
  pub callers_are : map (old_frame b.one b.marks) below ≡ callers
  pub code_is : code_at b.one g.method ≡ Some code
  pub width : length locals ≡ code.max_locals + length (inserted_by (b.plans g.method)).holders
  pub top : AreHeld b.facts.typing x colour (length below) z.areas.store code (inserted_by (b.plans g.method)) locals
  pub others : FramesAreHeld b.one b.facts b.plans b.marks x colour z.areas.store below

module _ (laws : FreeLaws) (b : Both) (x z : State) (f g : Frame) (callers below : List Frame) (code : Code) (locals : List Value)
    (h : BeforeFrees b x z f g callers below code locals) (hs : List ℕ)
    (may : (number : ℕ) → Contains hs number
    → safe.MayFree b.facts (typed_method b.one b.facts.typing g.method code) (inserted_by (b.plans g.method)) f.item number) where
  abbrev plan : Insertions
  plan = inserted_by (b.plans g.method)

  abbrev later : Areas
  later = all_areas_after code g.stack (frees_of (inserted_by (b.plans g.method)) hs) locals z.areas

  abbrev values : List Value
  values = all_locals_after code g.stack (frees_of (inserted_by (b.plans g.method)) hs) locals

  there : AreThere plan hs
  there number among = let m = may number among in (m.holder, m.is)

  -- no free meets an empty cell
  pub nothing_lost : ¬ IsLost code (record g { locals = locals }) z.areas (frees_of (inserted_by (b.plans g.method)) hs)
  nothing_lost =
      laws.found h.gone b.one.outline b.facts.typing x h.colour (length below) z.areas h.paired.areas code plan (record g { locals = locals }) hs there h.width h.top

  pub freed : HoldersAreFreed b.one.outline b.facts.typing x h.colour (length below) code (inserted_by (b.plans g.method)) hs h.gone z.areas
      (all_areas_after code g.stack (frees_of (inserted_by (b.plans g.method)) hs) locals z.areas) locals
      (all_locals_after code g.stack (frees_of (inserted_by (b.plans g.method)) hs) locals)
  freed =
      laws.frees h.gone b.one.outline b.facts.typing x h.colour (length below) z.areas h.paired.areas code plan (record g { locals = locals }) hs there h.width h.top

  -- ---- what is retired

  retire_at : (frames : List Frame) → x.frames ≡ frames → AllZip (FramesPaired h.gone x.areas.store z.areas.store) frames (f ∷ callers)
      → AreRetired b.one b.facts x h.colour (length below) (inserted_by (b.plans g.method)) hs
  retire_at [] are paired = absurd paired
  retire_at (top ∷ rest) are paired =
      let count : length rest ≡ length below =
      length_all_zip (FramesPaired h.gone x.areas.store z.areas.store) rest callers paired.1
      ∙ sym (ap length h.callers_are) ∙ length-map below (old_frame b.one b.marks) in
      let method : g.method ≡ top.method = h.method ∙ paired.0.method in
      subst (λ n. AreRetired b.one b.facts x h.colour n plan hs) count
      (laws.retire b.one b.facts x h.colour h.known.coloured h.stand top rest are code (ap (code_at b.one) (sym method) ∙ h.code_is) plan hs
      (λ number among.
      subst (λ n. safe.MayFree b.facts (typed_method b.one b.facts.typing top.method code) plan n number) paired.0.item
      (subst (λ m. safe.MayFree b.facts (typed_method b.one b.facts.typing m code) plan f.item number) method (may number among))))

  retired : AreRetired b.one b.facts x h.colour (length below) (inserted_by (b.plans g.method)) hs
  retired = retire_at x.frames refl h.paired.frames

  all_retired : (birth : ℕ) → freed.more.births birth ≡ true → retired.other birth ≡ Retired
  all_retired birth lost = ⊎_elim
      (λ before. ⊎_elim (λ same. same ∙ h.retired birth before) (λ mine. retired.retired birth mine) (retired.or_same birth))
      (λ mine. retired.retired birth mine)
      (freed.was birth lost)

  -- what is retired has no own region any longer, and the rest has the one that it had
  some_of : AreSomeOf retired.other h.colour
  some_of birth depth class own = ⊎_elim
      (λ same. sym same ∙ own)
      (λ mine. let both : Retired ≡ Own depth class = sym (retired.retired birth mine) ∙ own in absurd (cc))
      (retired.or_same birth)

  -- ---- the state then

  module _ (item : ℕ) (item_is : kept_item b.marks g.method item ≡ Some f.item) (steps : ℕ) where
    abbrev top_after : Frame
    top_after = record { method = g.method; item = item; locals = all_locals_after code g.stack (frees_of (inserted_by (b.plans g.method)) hs) locals; stack = g.stack }

    abbrev pub state_freed : State
    state_freed = record z {
      frames = record { method = g.method; item = item; locals = all_locals_after code g.stack (frees_of (inserted_by (b.plans g.method)) hs) locals; stack = g.stack } ∷ below;
      areas = all_areas_after code g.stack (frees_of (inserted_by (b.plans g.method)) hs) locals z.areas;
      steps = steps;
      ended = None;
    }

    module _ (kept : IsAtKept b.one b.other b.facts b.plans b.marks state_freed)
        (olds : map (old_frame b.one b.marks) (state_freed).frames ≡ f ∷ callers) where
      -- each holder of the frame is null, or its class is busy
      busy : (number : ℕ) (holder : Holder) → slice_get (inserted_by (b.plans g.method)).holders number ≡ Some holder
          → (holder_value code (all_locals_after code g.stack (frees_of (inserted_by (b.plans g.method)) hs) locals) number ≡ null)
          ⊎ (is_busy b.facts (typed_method b.one b.facts.typing g.method code) holder.class f.item ≡ true)
      busy number holder at =
          let stands = kept.frames.0 in
          let here : stands.item ≡ f.item = same_Some stands.item f.item (sym stands.item_is ∙ item_is) in
          ⊎_elim (λ none. inl none)
          (λ held. inr (subst (λ n. is_busy b.facts (typed_method b.one b.facts.typing g.method code) holder.class n ≡ true) here held.0))
          ((stands.holders code h.code_is).may number holder at)

      top_held : AreHeld b.facts.typing x retired.other (length below) later.store code plan values
      top_held =
          laws.retired b.one b.facts x h.colour (length below) plan hs retired g.method f.item code may (length below) code plan values later.store
          freed.paired.store.other_orderly (λ same. busy) freed.held

      others_held : FramesAreHeld b.one b.facts b.plans b.marks x retired.other later.store below
      others_held =
          frames_go b.one b.facts b.plans b.marks x x h.colour retired.other z.areas.store later.store (length below)
          (λ depth method second held less second_is had.
          let apart : depth ≢ length below = λ same. omega (arith, less, same) in
          laws.retired b.one b.facts x h.colour (length below) plan hs retired g.method f.item code may depth second (inserted_by (b.plans method)) held
          later.store freed.paired.store.other_orderly (λ same. absurd (apart same))
          (freed.others depth second (inserted_by (b.plans method)) held apart had))
          below (omega arith) h.others

      frame_held : FrameIsHeld b.one b.facts b.plans b.marks x retired.other (length below) later.store top_after
      frame_held at second at_is second_is =
          subst (λ c. AreHeld b.facts.typing x retired.other (length below) later.store c plan values)
          (same_Some code second (sym h.code_is ∙ second_is)) top_held

      paired_then : StatesPaired freed.more b.one.outline x (old_state b.one b.marks x.steps state_freed)
      paired_then = record {
        frames = subst (AllZip (FramesPaired freed.more x.areas.store later.store) x.frames) (sym olds) (freed.frames x.frames (f ∷ callers) h.paired.frames);
        areas = freed.paired;
        input = h.paired.input;
        depth = h.paired.depth;
        steps = refl;
        ended = subst (λ e. EndAlike freed.more x.areas.store later.store e None) (sym h.goes_on) refl;
      }

      limits_then : AreLimited b x.areas.store later.store
      limits_then =
          let keep : KeepsLimits z.areas.store later.store = todos_keep_limits code g.stack (frees_of (inserted_by (b.plans g.method)) hs) locals z.areas in
          record {
            unlimited = h.limits.unlimited;
            limited = keep.limit ∙ h.limits.limited;
            budget = h.limits.budget;
            other_budget = keep.budget ∙ h.limits.other_budget;
            within = h.limits.within;
            few = h.limits.few;
          }

      -- it goes together with that of the first program
      pub freed_together : GoTogetherAt b x state_freed
      freed_together = record {
        colour = retired.other;
        made = h.made;
        gone = freed.more;
        goes_on = h.goes_on;
        known = record {
          coloured = retired.coloured;
          covered = h.known.covered;
          whole = h.known.whole;
          reached = h.known.reached;
          no_fault = h.known.no_fault;
          made_at = h.known.made_at;
          clean = λ birth depth class own. h.known.clean birth depth class (some_of birth depth class own);
          for_none_above = laws.fewer b.facts.typing x.areas.store h.colour retired.other x.frames some_of h.known.for_none_above;
        };
        retired = all_retired;
        paired = paired_then;
        kept = kept;
        held = (frame_held, others_held);
        freed = let words = freed.words in let before = h.freed in omega (arith, words, before);
        limits = limits_then;
      }
