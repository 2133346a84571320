-- A step leads from frames that are as the states of their items have them to such frames.
use Rattle.std.proofs.Common.{◌≡◌, ℕ, ◌<◌, ◌≤◌, cond, nat_lt, Bool, true, false, List, [], ◌∷◌, ◌++◌, Option, Some, None, refl, sym, ◌∙◌, ap, subst, slice_get, slice_index_or, arith}
use Rattle.std.specs.List.{AllByRecursion}
use Rattle.std.proofs.lemmas.Bool.{false≢true}
use Rattle.std.proofs.lemmas.Bool.Decides.{nat_tests}
use Rattle.std.proofs.lemmas.Option.{same_Some}
use Rattle.fm_cells.proofs.Choices.{lawful_choice-may}
use Rattle.fm_cells.specs.Choices.{lawful}
use Rattle.fm_cells.specs.Stores.{Store}
use Rattle.fm_code.specs.declared.instructions.Insn.{Insn}
use Rattle.fm_types.specs.States.{is_whole, TypeState}
use Rattle.fm_types.specs.Typed.{made_at, use_by}
use Rattle.fm_types.specs.declared.slots.Slot.{Slot}
use Rattle.fm_types.specs.declared.slots.Slot.TheVariants as slot
use Rattle.fm_types.proofs.Zips.{zip-implied}
use Rattle.fm_world.specs.Programs.{Outline, Program}
use Rattle.fm_frames.specs.Acts.{Choose, Did, performed}
use Rattle.fm_frames.specs.Effects.{Action, Calls, Effect, Enters, Exits, Falls, Faults, Jumps, JumpsIfSame, Make, Next, Returns, Throws}
use Rattle.fm_frames.specs.Rows.{effect_of}
use Rattle.fm_frames.specs.Sights.{sights}
use Rattle.fm_frames.specs.Starts.{start_actions, start_methods, to_start, with_start}
use Rattle.fm_frames.specs.States.{Frame, State}
use Rattle.fm_frames.specs.declared.values.Value.{Value}
use Rattle.fm_same.proofs.StoreChanges.{Extends, IsKept}
use Rattle.fm_law_sound.specs.Going.{CallLeads, StandsAtRow}
use Rattle.fm_law_sound.specs.Leading.{is_call, LeadsAs}
use Rattle.fm_law_sound.specs.Resolved.{StepsAreResolved}
use Rattle.fm_law_sound.specs.Sound.{AreTyped, FrameHasKinds, HaveKinds, IsSoundBy, StandsWithout, static_slots, Typings}
use Rattle.fm_law_sound.proofs.CallsLead.{calls_lead}
use Rattle.fm_law_sound.proofs.FramesStand.{typing_of}
use Rattle.fm_law_sound.proofs.Opening.{IsOfStart, start_made}
use Rattle.fm_law_sound.proofs.Rows.{effect_leads}
use Rattle.fm_law_sound.proofs.StartActs.{after_methods, for_class}
use Rattle.fm_law_holders.specs.Uninitialised.{AreMadeIn, FrameIsMade, IsMadeAt, Made, made_from, ValueIsMade}
use Rattle.fm_law_holders.proofs.CallRows.{calls_go, row_at}
use Rattle.fm_law_holders.proofs.FramesMade.{full_stack}
use Rattle.fm_law_holders.proofs.Leaving.{LeftBy, Row}
use Rattle.fm_law_holders.proofs.NewObjects.{IsNew, new_first, NewFirst}
use Rattle.fm_law_holders.proofs.NextMade.{Ready}
use Rattle.fm_law_holders.proofs.PlainRows.{NewIs, plain_goes}
use Rattle.fm_law_holders.proofs.Slots.{AreAt}

-- ---- where objects stay, and what was born keeps its item

module _ (typings : Typings) (store later : Store) (more : Extends store later) (made : Made) (item : ℕ) where
  abbrev now : Made
  now = made_from made store.births item

  old_item : (b : Bool) (birth : ℕ) → b ≡ true → cond b (made birth) item ≡ made birth
  old_item true birth is = refl
  old_item false birth is = absurd (false≢true is)

  is_made-later : (at cell : ℕ) → IsMadeAt store made at cell → IsMadeAt later now at cell
  is_made-later at cell h =
      let kept : IsKept later cell h.object = more.kept cell h.object h.held in
      let born : kept.now.birth < store.births = subst (λ b. b < store.births) (sym kept.birth) h.born in
      let grown : store.births ≤ later.births = more.births in
      record {
        object = kept.now;
        held = kept.is;
        born = omega (arith, born, grown);
        made_is = old_item (nat_lt kept.now.birth store.births) kept.now.birth (grind (arith, nat_tests, born)) ∙ ap made kept.birth ∙ h.made_is;
        not_fixed = kept.fixed ∙ h.not_fixed;
      }

  value-later : (s : Slot) (v : Value) → ValueIsMade store made s v → ValueIsMade later now s v
  value-later (slot.Uninit at) v h = is_made-later at _ h
  value-later s v h = tt

  frame-later : (f : Frame) → FrameIsMade typings store made f → FrameIsMade typings later now f
  frame-later f h known at =
      let is : AreMadeIn store made known f = h known at in
      record {
        in_locals = zip-implied (ValueIsMade store made) (ValueIsMade later now) value-later _ _ is.in_locals;
        in_stack = zip-implied (ValueIsMade store made) (ValueIsMade later now) value-later _ _ is.in_stack;
      }

  pub frames-later : (frames : List Frame) → AllByRecursion (FrameIsMade typings store made) frames → AllByRecursion (FrameIsMade typings later now) frames
  frames-later [] h = tt
  frames-later (f ∷ frames) h = (frame-later f h.0, frames-later frames h.1)

-- what is new is of the item
new_is_made : (store later : Store) (made : Made) (item cell : ℕ) → IsNew store.births later cell
    → IsMadeAt later (made_from made store.births item) item cell
new_is_made store later made item cell h = record {
  object = h.object;
  held = h.held;
  born = h.born;
  made_is = new_item (nat_lt h.object.birth store.births) (let since = h.since in grind (arith, nat_tests, since));
  not_fixed = h.not_fixed;
} where
  new_item : (b : Bool) → b ≡ false → cond b (made h.object.birth) item ≡ item
  new_item true is = absurd (false≢true (sym is))
  new_item false is = refl

-- ---- the effect of an instruction, and what the start of its class makes of it

module _ (p : Program) (typings : Typings) (typed : AreTyped p typings) (steps : StepsAreResolved p) (choose : Choose) (z : State) (f : Frame) (callers : List Frame) (sound : IsSoundBy p typings (record z { frames = f ∷ callers })) (made : Made) (are : AllByRecursion (FrameIsMade typings z.areas.store made) (f ∷ callers)) (i : Insn) (after : TypeState) (h : StandsAtRow p typings f i after) where
  abbrev o : Outline
  o = p.outline

  abbrev later_made : Made
  later_made = made_from made z.areas.store.births f.item

  stands : StandsWithout p typings 0 f
  stands = sound.frames.0

  same_known : stands.known ≡ h.known
  same_known = same_Some stands.known h.known (sym stands.at ∙ h.at)

  kinds : FrameHasKinds h.known f.locals f.stack
  kinds = subst (λ s. FrameHasKinds s f.locals f.stack) same_known (record { in_locals = stands.locals; in_stack = stands.stack })

  unsplit : is_whole h.known.stack ≡ true
  unsplit = ((typing_of p typings typed f.method h.code h.code_is).items f.item h.known h.at).whole

  abbrev effect : Effect
  effect = effect_of o f.method (use_by p f.method i) i (slice_get z.input 0) (sights o z.areas.store f.stack)

  -- an effect whose actions led to areas goes on as it should
  abbrev pub Follows : Effect → Type 0
  Follows e =
      (y : State) (cells : List ℕ) → performed o (lawful choose) f.locals f.stack e.actions z.areas [] ≡ Did y.areas cells
      → Extends z.areas.store y.areas.store → HaveKinds (static_slots o) y.areas.statics
      → Ready p typings typed steps later_made y f i after h cells e e.next

  module _ (y : State) (cells : List ℕ) (more : Extends z.areas.store y.areas.store) (statics : HaveKinds (static_slots o) y.areas.statics) where
    abbrev Ready-here : Effect → Next → Type 0
    Ready-here e next = Ready p typings typed steps later_made y f i after h cells e next

    there : AreAt y.areas.store later_made h.known f.locals f.stack
    there =
        subst (λ s. AreAt y.areas.store later_made s f.locals f.stack) same_known
        (full_stack p typings typed y.areas.store later_made f stands
        (frames-later typings z.areas.store y.areas.store more made f.item (f ∷ callers) are).0)

    abbrev row : Row
    row = row_at p steps.calls typings f i after h kinds y.areas.store later_made y.areas cells statics there

    plain_ready : (e : Effect) (next : Next) → LeadsAs o i after f e next → LeftBy row e next → Ready-here e next
    plain_ready e Falls leads left = (leads.0, left)
    plain_ready e (Jumps n) leads left = (leads.0, left)
    plain_ready e (JumpsIfSame same) leads left = (leads.0, leads.1, left)
    plain_ready e (Returns n) leads left = leads
    plain_ready e (Calls target) leads left = tt
    plain_ready e (Throws s) leads left = tt
    plain_ready e (Enters methods) leads left = tt
    plain_ready e (Exits n) leads left = tt
    plain_ready e (Faults s) leads left = tt

    call_ready : (e : Effect) (next : Next) → CallLeads p f i after e next → LeftBy row e next → Ready-here e next
    call_ready e Falls leads left = (leads.0, left)
    call_ready e (Jumps n) leads left = (leads.0, left)
    call_ready e (JumpsIfSame same) leads left = (leads.0, leads.1, left)
    call_ready e (Returns n) leads left = leads
    call_ready e (Calls target) leads left = tt
    call_ready e (Throws s) leads left = tt
    call_ready e (Enters methods) leads left = tt
    call_ready e (Exits n) leads left = tt
    call_ready e (Faults s) leads left = tt

    started_ready : (e : Effect) (actions : List Action) (next : Next) → Ready-here e next → Ready-here (record e { starts = None; actions = actions }) next
    started_ready e actions Falls is = is
    started_ready e actions (Jumps n) is = is
    started_ready e actions (JumpsIfSame same) is = is
    started_ready e actions (Returns n) is = is
    started_ready e actions (Calls target) is = tt
    started_ready e actions (Throws s) is = tt
    started_ready e actions (Enters methods) is = tt
    started_ready e actions (Exits n) is = tt
    started_ready e actions (Faults s) is = tt

    plain_follows : NewIs row effect → is_call i ≡ false → Ready-here effect effect.next
    plain_follows new call =
        let leads = effect_leads o h.known f kinds after i (use_by p f.method i) (made_at p f.method h.code) (slice_get z.input 0)
        (sights o z.areas.store f.stack) unsplit
        (steps.fields f.method i (use_by p f.method i)
        (record { code = h.code; code_is = h.code_is; item = f.item; insn_is = h.insn_is; use_is = refl })) call h.row in
        plain_ready effect effect.next leads
        (plain_goes row i (use_by p f.method i) (made_at p f.method h.code) (slice_get z.input 0) (sights o z.areas.store f.stack) call h.row leads new)

    call_follows : is_call i ≡ true → Ready-here effect effect.next
    call_follows call =
        call_ready effect effect.next (calls_lead p typings typed steps.calls f i after h kinds call z.areas sound.areas (slice_get z.input 0))
        (calls_go p steps.calls typings f i after h kinds y.areas.store later_made y.areas cells statics there call unsplit z.areas sound.areas (slice_get z.input 0))

    effect_follows : NewIs row effect → (b : Bool) → is_call i ≡ b → Ready-here effect effect.next
    effect_follows new true call = call_follows call
    effect_follows new false call = plain_follows new call

    -- after the start of classes
    new_then : (starts : List Action) → AllByRecursion IsOfStart starts
        → performed o (lawful choose) f.locals f.stack (starts ++ effect.actions) z.areas [] ≡ Did y.areas cells → NewIs row effect
    new_then starts each did t n is =
        let first : NewFirst z.areas.store.births (performed o (lawful choose) f.locals f.stack (starts ++ Make t n [] ∷ []) z.areas []) =
        new_first o (lawful choose) (λ s request. lawful_choice-may s request (choose s request)) f.locals f.stack z.areas.store.births t n starts each z.areas (omega arith) in
        let here : performed o (lawful choose) f.locals f.stack (starts ++ Make t n [] ∷ []) z.areas [] ≡ Did y.areas cells =
        ap (λ actions. performed o (lawful choose) f.locals f.stack (starts ++ actions) z.areas []) (sym is) ∙ did in
        new_is_made z.areas.store y.areas.store made f.item (slice_index_or cells 0 0) (subst (NewFirst z.areas.store.births) here first)

  plain_start : Follows effect
  plain_start y cells did more statics =
      effect_follows y cells more statics (new_then y cells more statics [] tt did) (is_call i) refl

  methods_follow : (classes methods : List ℕ) → Follows (after_methods o classes effect methods)
  methods_follow classes [] y cells did more statics =
      started_ready y cells more statics effect (start_actions o classes ++ effect.actions) effect.next
      (effect_follows y cells more statics (new_then y cells more statics (start_actions o classes) (start_made o classes) did) (is_call i) refl)
  methods_follow classes (m ∷ methods) y cells did more statics = tt

  class_follows : (started : List Bool) (class : Option ℕ) → Follows (for_class o started effect class)
  class_follows started None = plain_start
  class_follows started (Some class) = methods_follow (to_start o started class) (start_methods o (to_start o started class))

  pub start_follows : (started : List Bool) → Follows (with_start o started effect)
  start_follows started = class_follows started effect.starts
