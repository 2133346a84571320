-- The effect of a call leads where the call may lead, and after a built-in method on with the kinds of the state that the checker's row gives.
use Rattle.std.proofs.Common.{◌≡◌, ℕ, true, List, ◌++◌, length, drop, map, Option, sym, subst}
use Rattle.fm_code.specs.declared.instructions.Insn.{Insn}
use Rattle.fm_types.specs.Named.{result_words}
use Rattle.fm_types.specs.States.{is_whole, TypeState}
use Rattle.fm_types.specs.Typed.{IsTypingOf, made_at, use_by}
use Rattle.fm_types.proofs.Zips.{zip-drop}
use Rattle.fm_world.specs.Programs.{Program}
use Rattle.fm_frames.specs.Acts.{value_of}
use Rattle.fm_frames.specs.Effects.{Calls, Effect, Enters, Exits, Falls, Faults, Jumps, JumpsIfSame, Next, Returns, Throws}
use Rattle.fm_frames.specs.NativeRows.{native_effect}
use Rattle.fm_frames.specs.declared.natives.Native.{Native}
use Rattle.fm_frames.specs.ObjectRows.{starting}
use Rattle.fm_frames.specs.Rows.{effect_of}
use Rattle.fm_frames.specs.Sights.{sights}
use Rattle.fm_frames.specs.States.{Areas, Frame}
use Rattle.fm_frames.specs.Steps.{stack_after, written}
use Rattle.fm_frames.specs.declared.values.Value.{Value}
use Rattle.fm_law_sound.specs.BuiltIns.{native_slots, NativeLeads}
use Rattle.fm_law_sound.specs.Going.{CallLeads, StandsAtRow}
use Rattle.fm_law_sound.specs.Leading.{is_call, LeavesAs, sources_of}
use Rattle.fm_law_sound.specs.Resolved.{CallsAreResolved}
use Rattle.fm_law_sound.specs.Sound.{AreasAreSound, AreTyped, FrameHasKinds, HasKind, HaveKinds, Typings}
use Rattle.fm_law_sound.proofs.BuiltInMethods.{from_plain}
use Rattle.fm_law_sound.proofs.BuiltInRows.{native_leads}
use Rattle.fm_law_sound.proofs.CallCases.{by_call, CallsRow}
use Rattle.fm_law_sound.proofs.FramesStand.{typing_of}
use Rattle.fm_law_sound.proofs.ReturnsStand.{call_falls, call_kinds}

module _ (p : Program) (ready : CallsAreResolved p) (typings : Typings) (f : Frame) (i : Insn) (after : TypeState) (h : StandsAtRow p typings f i after) (kinds : FrameHasKinds h.known f.locals f.stack) where
  -- a class is started first
  started_leads : (class : ℕ) (e : Effect) (next : Next) → CallLeads p f i after e next → CallLeads p f i after (starting class e) next
  started_leads class e Falls leads = leads
  started_leads class e (Jumps n) leads = leads
  started_leads class e (JumpsIfSame same) leads = leads
  started_leads class e (Calls target) leads = leads
  started_leads class e (Returns n) leads = leads
  started_leads class e (Throws s) leads = leads
  started_leads class e (Enters methods) leads = leads
  started_leads class e (Exits n) leads = leads
  started_leads class e (Faults s) leads = leads

  -- the result of a built-in method is on top of what its words were taken off
  given_leaves : (row : Native) → CallsRow p f i row → (e : Effect) → NativeLeads p.outline f row e Falls → LeavesAs p.outline after f e
  given_leaves row called e leads areas made statics =
      let result : List Value = map (value_of (sources_of f areas made)) e.gives in
      let count : ℕ = length (native_slots row) in
      let given : HaveKinds (result_words p.outline called.named) result =
      from_plain (result_words p.outline called.named) result (subst (λ xs. HaveKinds xs result) (sym called.result) (leads.2 areas made statics)) in
      let after_call : FrameHasKinds after f.locals (result ++ drop count f.stack) =
      call_kinds p.outline ready.constructors h.known called.named f.locals (drop count f.stack) result kinds.in_locals given i f.method f.item count
      (made_at p f.method h.code) (use_by p f.method i) after called.takes called.names (zip-drop HasKind count h.known.stack f.stack kinds.in_stack) h.row in
      let taken : FrameHasKinds after f.locals (stack_after (sources_of f areas made) e f.stack) =
      subst (λ k. FrameHasKinds after f.locals (result ++ drop k f.stack)) (sym leads.0) after_call in
      subst (λ ws. FrameHasKinds after (written (sources_of f areas made) ws f.locals) (stack_after (sources_of f areas made) e f.stack)) (sym leads.1) taken

  native_call : (row : Native) → CallsRow p f i row → (e : Effect) (next : Next) → NativeLeads p.outline f row e next → CallLeads p f i after e next
  native_call row called e Falls leads =
      (call_falls p.outline i called.named (length (native_slots row)) called.takes, given_leaves row called e leads)
  native_call row called e (Throws s) leads = leads
  native_call row called e (Exits n) leads = tt
  native_call row called e (Faults s) leads = tt
  native_call row called e next leads = absurd leads

  call_leads : is_call i ≡ true → (x : Areas) → AreasAreSound p.outline x → (byte : Option ℕ) → is_whole h.known.stack ≡ true
      → CallLeads p f i after (effect_of p.outline f.method (use_by p f.method i) i byte (sights p.outline x.store f.stack))
      (effect_of p.outline f.method (use_by p f.method i) i byte (sights p.outline x.store f.stack)).next
  call_leads call x sound byte whole =
      by_call p ready x sound typings f byte (λ e. CallLeads p f i after e e.next) i after h kinds whole call (record {
        none = tt;
        gone = λ operand. tt;
        null = λ areas made. tt;
        unlike = λ areas made. tt;
        first = λ class e leads. started_leads class e e.next leads;
        called = λ target words is. is;
        of_row = λ row called. native_call row called (native_effect p.outline row byte (sights p.outline x.store f.stack))
            (native_effect p.outline row byte (sights p.outline x.store f.stack)).next
            (native_leads p.outline f row byte (sights p.outline x.store f.stack) called.have);
      })

pub calls_lead : (p : Program) (typings : Typings) → AreTyped p typings → CallsAreResolved p
    → (f : Frame) (i : Insn) (after : TypeState) (h : StandsAtRow p typings f i after) → FrameHasKinds h.known f.locals f.stack → is_call i ≡ true
    → (x : Areas) → AreasAreSound p.outline x → (byte : Option ℕ)
    → CallLeads p f i after (effect_of p.outline f.method (use_by p f.method i) i byte (sights p.outline x.store f.stack))
    (effect_of p.outline f.method (use_by p f.method i) i byte (sights p.outline x.store f.stack)).next
calls_lead p typings typed ready f i after h kinds call x sound byte =
    let typing : IsTypingOf p f.method h.code (typings f.method) = typing_of p typings typed f.method h.code h.code_is in
    call_leads p ready typings f i after h kinds call x sound byte (typing.items f.item h.known h.at).whole
