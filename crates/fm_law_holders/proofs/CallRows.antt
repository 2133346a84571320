-- The frame that the row of a call leaves is as the state after it, where a built-in method was called.
use Rattle.std.proofs.Common.{◌≡◌, ℕ, true, List, ◌++◌, length, drop, map, Option, sym, ◌∙◌, ap, subst}
use Rattle.std.proofs.lemmas.List.{length-map}
use Rattle.std.proofs.lemmas.Slice.Zip.{AllZip-long}
use Rattle.fm_cells.specs.Stores.{Store}
use Rattle.fm_code.specs.declared.instructions.Insn.{Insn}
use Rattle.fm_types.specs.Named.{result_words}
use Rattle.fm_types.specs.States.{is_whole, TypeState}
use Rattle.fm_types.specs.Typed.{made_at, use_by}
use Rattle.fm_types.proofs.Zips.{zip-drop}
use Rattle.fm_world.specs.Programs.{Program}
use Rattle.fm_frames.specs.Acts.{value_of}
use Rattle.fm_frames.specs.Effects.{Calls, Effect, Enters, Exits, Falls, Faults, Jumps, JumpsIfSame, Next, Returns, Throws}
use Rattle.fm_frames.specs.NativeRows.{native_effect}
use Rattle.fm_frames.specs.declared.natives.Native.{Native}
use Rattle.fm_frames.specs.ObjectRows.{starting}
use Rattle.fm_frames.specs.Rows.{effect_of}
use Rattle.fm_frames.specs.Sights.{sights}
use Rattle.fm_frames.specs.States.{Areas, Frame}
use Rattle.fm_frames.specs.Steps.{stack_after, written}
use Rattle.fm_frames.specs.declared.values.Value.{Value}
use Rattle.fm_law_sound.specs.BuiltIns.{native_result, native_slots, NativeLeads}
use Rattle.fm_law_sound.specs.Going.{StandsAtRow}
use Rattle.fm_law_sound.specs.Leading.{is_call}
use Rattle.fm_law_sound.specs.Resolved.{CallsAreResolved}
use Rattle.fm_law_sound.specs.Sound.{AreasAreSound, FrameHasKinds, HasKind, HaveKinds, static_slots, Typings}
use Rattle.fm_law_sound.proofs.BuiltInMethods.{plain}
use Rattle.fm_law_sound.proofs.BuiltInRows.{native_leads}
use Rattle.fm_law_sound.proofs.CallCases.{by_call, CallsRow}
use Rattle.fm_law_holders.specs.Uninitialised.{Made}
use Rattle.fm_law_holders.proofs.CallsLeave.{call_are}
use Rattle.fm_law_holders.proofs.Leaving.{from, Goes, LeftBy, Row}
use Rattle.fm_law_holders.proofs.Slots.{AreAt, Is}

module _ (p : Program) (ready : CallsAreResolved p) (typings : Typings) (f : Frame) (i : Insn) (after : TypeState) (h : StandsAtRow p typings f i after) (kinds : FrameHasKinds h.known f.locals f.stack) (store : Store) (made : Made) (areas : Areas) (cells : List ℕ) (statics : HaveKinds (static_slots p.outline) areas.statics) (are : AreAt store made h.known f.locals f.stack) where
  abbrev pub row_at : Row
  row_at = record {
    outline = p.outline;
    store = store;
    made = made;
    frame = f;
    areas = areas;
    cells = cells;
    before = h.known;
    after = after;
    kinds = kinds;
    statics = statics;
    locals = are.in_locals;
    stack = are.in_stack;
  }

  -- a class is started first
  started_goes : (class : ℕ) (e : Effect) (next : Next) → LeftBy row_at e next → LeftBy row_at (starting class e) next
  started_goes class e Falls left = left
  started_goes class e (Jumps n) left = left
  started_goes class e (JumpsIfSame same) left = left
  started_goes class e (Calls target) left = tt
  started_goes class e (Returns n) left = tt
  started_goes class e (Throws s) left = tt
  started_goes class e (Enters methods) left = tt
  started_goes class e (Exits n) left = tt
  started_goes class e (Faults s) left = tt

  -- the result of a built-in method is on top of what its words were taken off
  native_goes : (row : Native) → CallsRow p f i row → (e : Effect) (next : Next) → NativeLeads p.outline f row e next → LeftBy row_at e next
  native_goes row called e Falls leads =
      let result : List Value = map (value_of (from row_at)) e.gives in
      let count : ℕ = length (native_slots row) in
      let long : length result ≡ length (result_words p.outline called.named) =
      AllZip-long HasKind (native_result row) result (leads.2 areas cells statics) ∙ sym (ap length called.result)
      ∙ length-map (result_words p.outline called.named) plain in
      let after_call : AreAt store made after f.locals (result ++ drop count f.stack) =
      call_are p.outline store made f.method (made_at p f.method h.code) ready.constructors h.known called.named f.locals (drop count f.stack) result
      are.in_locals long i f.item count (use_by p f.method i) after called.takes called.names (zip-drop (Is store made) count h.known.stack f.stack are.in_stack) h.row in
      subst (λ ws. AreAt store made after (written (from row_at) ws f.locals) (stack_after (from row_at) e f.stack)) (sym leads.1)
      (subst (λ k. AreAt store made after f.locals (result ++ drop k f.stack)) (sym leads.0) after_call)
  native_goes row called e (Throws s) leads = tt
  native_goes row called e (Exits n) leads = tt
  native_goes row called e (Faults s) leads = tt
  native_goes row called e next leads = absurd leads

  pub calls_go : is_call i ≡ true → is_whole h.known.stack ≡ true → (x : Areas) → AreasAreSound p.outline x → (byte : Option ℕ)
      → Goes row_at (effect_of p.outline f.method (use_by p f.method i) i byte (sights p.outline x.store f.stack))
  calls_go call whole x sound byte =
      by_call p ready x sound typings f byte (λ e. Goes row_at e) i after h kinds whole call (record {
        none = tt;
        gone = λ operand. tt;
        null = tt;
        unlike = tt;
        first = λ class e left. started_goes class e e.next left;
        called = λ target words is. tt;
        of_row = λ row called. native_goes row called (native_effect p.outline row byte (sights p.outline x.store f.stack))
            (native_effect p.outline row byte (sights p.outline x.store f.stack)).next
            (native_leads p.outline f row byte (sights p.outline x.store f.stack) called.have);
      })
