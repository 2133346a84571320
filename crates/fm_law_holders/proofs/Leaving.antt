-- The frame that an effect leaves is as the state that the row of the checker gives: one lemma for each way in which rows are made.
use Rattle.std.proofs.Common.{◌≡◌, ℕ, ◌+◌, List, [], ◌++◌, length, drop, map, Option, Some, refl, sym, ◌∙◌, ap, subst}
use Rattle.std.specs.List.{AllByRecursion}
use Rattle.std.proofs.lemmas.Option.{same_Some}
use Rattle.std.proofs.lemmas.Slice.Zip.{AllZip-long}
use Rattle.fm_base.proofs.OptionFacts.{option_map-some}
use Rattle.fm_cells.specs.Stores.{Store}
use Rattle.fm_types.specs.States.{taken, TypeState, worked, worked_below}
use Rattle.fm_types.specs.declared.slots.Slot.{Slot}
use Rattle.fm_types.proofs.Zips.{zip-drop}
use Rattle.fm_world.specs.Programs.{Outline}
use Rattle.fm_code.specs.declared.instructions.Insn.{Insn}
use Rattle.fm_frames.specs.Acts.{Sources, value_of}
use Rattle.fm_frames.specs.Effects.{Effect, Falls, Jumps, JumpsIfSame, Next}
use Rattle.fm_frames.specs.States.{Areas, Frame}
use Rattle.fm_frames.specs.Steps as steps
use Rattle.fm_frames.specs.declared.values.Value.{Value}
use Rattle.fm_law_sound.specs.Leading.{LeadsAs, LeavesAs, sources_of}
use Rattle.fm_law_sound.specs.Sound.{FrameHasKinds, HasKind, HaveKinds, static_slots}
use Rattle.fm_law_sound.proofs.FramesLeft as left
use Rattle.fm_law_sound.proofs.FramesLeft.{AreAs, taken_drop}
use Rattle.fm_law_holders.specs.Uninitialised.{Made}
use Rattle.fm_law_holders.proofs.Slots.{above_long, Are, AreAt, Is, others_are}
use Rattle.fm_types.proofs.EachCheckRow.{IsPlain}

-- ---- how many words an effect takes

-- this many where the frame goes on, and no local is written
abbrev pub TakesBy : ℕ → Effect → Next → Type 0
TakesBy n e Falls = (e.takes ≡ n) × (e.writes ≡ [])
TakesBy n e (Jumps target) = (e.takes ≡ n) × (e.writes ≡ [])
TakesBy n e (JumpsIfSame same) = (e.takes ≡ n) × (e.writes ≡ [])
TakesBy n e next = Unit {0}

abbrev pub Takes : ℕ → Effect → Type 0
Takes n e = TakesBy n e e.next

-- ---- a row that is met, with a frame that is as the state before it, once the actions are done

pub record Row : Type 0 where
  pub outline : Outline
  pub store : Store
  pub made : Made
  pub frame : Frame
  pub areas : Areas
  pub cells : List ℕ
  pub before : TypeState
  pub after : TypeState
  pub kinds : FrameHasKinds before frame.locals frame.stack
  pub statics : HaveKinds (static_slots outline) areas.statics
  pub locals : Are store made before.locals frame.locals
  pub stack : Are store made before.stack frame.stack

module _ (r : Row) where
  abbrev pub from : Sources
  from = sources_of r.frame r.areas r.cells

  -- the frame that is left is as the state after the row
  abbrev pub Left : Effect → Type 0
  Left e = AreAt r.store r.made r.after (steps.written from e.writes r.frame.locals) (steps.stack_after from e r.frame.stack)

  -- that is so where the frame goes on
  abbrev pub LeftBy : Effect → Next → Type 0
  LeftBy e Falls = Left e
  LeftBy e (Jumps n) = Left e
  LeftBy e (JumpsIfSame same) = Left e
  LeftBy e next = Unit {0}

  abbrev pub Goes : Effect → Type 0
  Goes e = LeftBy e e.next

  -- the kinds of the frame that is left are known
  abbrev pub Leads : Insn → Effect → Type 0
  Leads i e = LeadsAs r.outline i r.after r.frame e e.next

  pub before_are : AreAs (Is r.store r.made) (Is r.store r.made) r.before r.frame.locals r.frame.stack
  before_are = record { in_locals = r.locals; in_stack = r.stack }

  pub left_are : (known : TypeState) (locals stack : List Value) → AreAs (Is r.store r.made) (Is r.store r.made) known locals stack
      → AreAt r.store r.made known locals stack
  left_are known locals stack are = record { in_locals = are.in_locals; in_stack = are.in_stack }

  -- the locals stay, and the stack is this one
  pub leaves_stack : (stack : List Slot) (e : Effect) → record r.before { stack = stack } ≡ r.after → e.writes ≡ []
      → Are r.store r.made stack (steps.stack_after from e r.frame.stack) → Left e
  leaves_stack stack e is writes are =
      left_are _ _ _ (left.stack_leaves (Is r.store r.made) (Is r.store r.made) r.before r.after from before_are stack e is writes are)

  -- ---- other slots in place of those on top

  rest_long : (n : ℕ) → length (drop n r.frame.stack) ≡ length (drop n r.before.stack)
  rest_long n = AllZip-long HasKind (drop n r.before.stack) (drop n r.frame.stack) (zip-drop HasKind n r.before.stack r.frame.stack r.kinds.in_stack)

  above_rest : (given : List Slot) (n : ℕ) (e : Effect) → record r.before { stack = given ++ drop n r.before.stack } ≡ r.after
      → AllByRecursion IsPlain given → e.takes ≡ n → e.writes ≡ [] → LeavesAs r.outline r.after r.frame e → Left e
  above_rest given n e is others takes writes leaves =
      let values : List Value = map (value_of from) e.gives in
      let after_kinds : FrameHasKinds r.after (steps.written from e.writes r.frame.locals) (steps.stack_after from e r.frame.stack) =
      leaves r.areas r.cells r.statics in
      let kinds : HaveKinds (given ++ drop n r.before.stack) (values ++ drop n r.frame.stack) =
      subst (λ k. HaveKinds (given ++ drop n r.before.stack) (values ++ drop k r.frame.stack)) takes
      (subst (λ (t : TypeState). HaveKinds t.stack (steps.stack_after from e r.frame.stack)) (sym is) after_kinds.in_stack) in
      let long : length values ≡ length given = above_long HasKind given (drop n r.before.stack) values (drop n r.frame.stack) kinds (rest_long n) in
      left_are _ _ _
      (left.above_leaves (Is r.store r.made) (Is r.store r.made) r.before r.after from before_are given (drop n r.before.stack) n e is refl takes writes
      (others_are r.store r.made given values others long))

  above_case : (given : List Slot) (n : ℕ) (i : Insn) (e : Effect) (next : Next) → record r.before { stack = given ++ drop n r.before.stack } ≡ r.after
      → AllByRecursion IsPlain given → TakesBy n e next → LeadsAs r.outline i r.after r.frame e next → LeftBy e next
  above_case given n i e Falls is others takes leads = above_rest given n e is others takes.0 takes.1 leads.1
  above_case given n i e (Jumps target) is others takes leads = above_rest given n e is others takes.0 takes.1 leads.1
  above_case given n i e (JumpsIfSame same) is others takes leads = above_rest given n e is others takes.0 takes.1 leads.2
  above_case given n i e next is others takes leads = tt

  pub above_goes : (given : List Slot) (n : ℕ) (i : Insn) (e : Effect) → record r.before { stack = given ++ drop n r.before.stack } ≡ r.after
      → AllByRecursion IsPlain given → Takes n e → Leads i e → Goes e
  above_goes given n i e is others takes leads = above_case given n i e e.next is others takes leads

  pub pushed_goes : (given : List Slot) (i : Insn) (e : Effect) → Some (record r.before { stack = given ++ r.before.stack }) ≡ Some r.after
      → AllByRecursion IsPlain given → Takes 0 e → Leads i e → Goes e
  pushed_goes given i e row others takes leads = above_goes given 0 i e (same_Some _ r.after row) others takes leads

  pub worked_goes : (wanted given : List Slot) (i : Insn) (e : Effect) → worked r.outline wanted given r.before ≡ Some r.after
      → AllByRecursion IsPlain given → Takes (length wanted) e → Leads i e → Goes e
  worked_goes wanted given i e row others takes leads =
      let parts = option_map-some (λ stack. record r.before { stack = given ++ stack }) (taken r.outline wanted r.before.stack) r.after row in
      let rest : drop (length wanted) r.before.stack ≡ parts.0 = taken_drop r.outline wanted r.before.stack parts.0 parts.1 in
      above_goes given (length wanted) i e (ap (λ xs. record r.before { stack = given ++ xs }) rest ∙ parts.2) others takes leads

  -- ---- in place of the slot below them too

  pub worked_below_goes : (wanted : List Slot) (given : Slot → Option (List Slot)) (i : Insn) (e : Effect)
      → worked_below r.outline wanted given r.before ≡ Some r.after
      → ((s : Slot) (slots : List Slot) → given s ≡ Some slots → AllByRecursion IsPlain slots) → Takes (length wanted + 1) e → Leads i e → Goes e
  worked_below_goes wanted given i e row others takes leads =
      let b = left.below_found r.outline r.before wanted given r.after row in
      let rest : drop (length wanted + 1) r.before.stack ≡ b.rest = left.below_rest r.outline r.before wanted given r.after b in
      above_goes b.slots (length wanted + 1) i e (ap (λ xs. record r.before { stack = b.slots ++ xs }) rest ∙ b.after_is) (others b.below b.slots b.given_is)
      takes leads
