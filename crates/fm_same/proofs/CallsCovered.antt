-- A method that a call leads to is as the call's row wants it: it is among the targets, and a built-in one takes the words and has the ends of its row.
use Rattle.std.proofs.Common.{◌≡◌, ℕ, ◌+◌, ◌-◌, ◌<◌, ◌≤◌, not, Bool, true, false, List, [], ◌∷◌, length, reverse, Option, Some, option_and_then, IsSomeAnd, Contains, refl, sym, ◌∙◌, ap, subst, slice_get, arith, ⊎_elim}
use Rattle.std.proofs.lemmas.Bool.{cases_Bool, cases_lt, false≢true}
use Rattle.std.proofs.lemmas.List.{length-append}
use Rattle.std.proofs.lemmas.Option.{none-some}
use Rattle.fm_base.specs.declared.ids.MethodId.{MethodId}
use Rattle.fm_base.specs.declared.ids.TypeId.{TypeId}
use Rattle.fm_code.specs.AccessFlags.{is_static}
use Rattle.fm_code.specs.declared.instructions.Insn.{Insn}
use Rattle.fm_code.specs.declared.instructions.Insn.TheVariants as insn
use Rattle.fm_conn.specs.Facts.{AreFacts, Facts}
use Rattle.fm_conn.specs.Nodes.{IsNode, Slot, TypedMethod}
use Rattle.fm_conn.specs.Pairs.{call_of, IsEnd}
use Rattle.fm_conn.specs.declared.ends.End2.TheVariants as end
use Rattle.fm_types.specs.States.{is_reference}
use Rattle.fm_types.specs.Typed.{state_at, use_by}
use Rattle.fm_types.specs.declared.slots.Slot as slots
use Rattle.fm_world.specs.BuiltIns.{built_in}
use Rattle.fm_world.specs.Causes.{static_method_wanted}
use Rattle.fm_world.specs.Members.{method_at, methods_of}
use Rattle.fm_world.specs.Programs.{Program, targets}
use Rattle.fm_world.specs.declared.calls.Call.{Call}
use Rattle.fm_world.specs.declared.uses.Use.TheVariants as resolved
use Rattle.fm_frames.specs.CallRows.{native_of, words_of_arguments}
use Rattle.fm_frames.specs.Natives.{native_of_row}
use Rattle.fm_frames.specs.declared.natives.Native.{Native}
use Rattle.fm_frames.specs.Runnable.{IsUseIn}
use Rattle.fm_frames.specs.Sights.{Sight, sights}
use Rattle.fm_frames.specs.States.{Frame, State}
use Rattle.fm_same.specs.Covering.{CallsNative, CoversAt, CoversTargets, Enters, is_free_me, native_words, PlacesAgreeAt}
use Rattle.fm_law_sound.specs.Resolved.{IsNamed}
use Rattle.fm_same.specs.Resolved.{CallsNoFreeMe, IsResolved}
use Rattle.fm_same.specs.Standing.{Goes, method_of, Stand, StandsAt}
use Rattle.fm_same.specs.Targets.{Covers, IsTarget}
use Rattle.fm_same.proofs.CallWords.{call_ends, call_length, receiver_count, TakesCall}
use Rattle.fm_same.proofs.ItemFacts.{depth_is}
use Rattle.fm_same.proofs.NativeMethods.{has_row, HasRow}
use Rattle.fm_same.proofs.CallFacts.{call_is_made, call_method, CallsMethod, Fits, state_takes, static_itself, swapped, target_fits, type_there, use_there, word_in_state, words_are}

-- a built-in method is one of the built-in classes
native_inside : (p : Program) → IsResolved p → (target : ℕ) (row : Native) → native_of p.outline target ≡ Some row → target < length (methods_of built_in)
native_inside p ready target row is = ⊎_elim (λ lt. lt) (λ ge. absurd (past ge)) (cases_lt target (length (methods_of built_in))) where
  past : length (methods_of built_in) ≤ target → ⊥
  past ge = none-some row (sym (ap (option_and_then native_of_row) (ready.rows target ge)) ∙ is)

module _ (p : Program) (facts : Facts) (exact : AreFacts p facts) (ready : IsResolved p) (no_free : CallsNoFreeMe p) (f : Frame) (goes : Goes p facts f) (at : StandsAt p facts f) where
  abbrev x : TypedMethod
  x = method_of p facts f at.code

  named_here : (m : MethodId) (t : TypeId) → use_by p f.method at.insn ≡ resolved.OfMethod m t → IsNamed p f.method at.insn (resolved.OfMethod m t)
  named_here m t is = record { code = at.code; code_is = at.code_is; item = f.item; insn_is = at.insn_is; use_is = is }

  calls_by : (m : MethodId) (t : TypeId) (static : Bool) → use_by p f.method at.insn ≡ resolved.OfMethod m t → static_method_wanted at.insn ≡ Some static
      → CallsMethod p f.method at.insn
  calls_by m t static is wanted = record {
    m = m;
    t = t;
    use_is = is;
    static = static;
    wanted = wanted;
    flags = ready.calls f.method at.insn m t static (named_here m t is) wanted;
  }

  -- what enters a method is a call
  entered_call : (s : List Sight) (target : ℕ) (i : Insn) → at.insn ≡ i → Enters p.outline f.method (use_by p f.method i) s i target
      → CallsMethod p f.method at.insn
  entered_call s target (insn.Virtual index) is e = calls_by e.method e.type false (ap (use_by p f.method) is ∙ e.named) (ap static_method_wanted is)
  entered_call s target (insn.Interface index) is e = calls_by e.method e.type false (ap (use_by p f.method) is ∙ e.named) (ap static_method_wanted is)
  entered_call s target (insn.Special index) is e = calls_by e.method e.type false (ap (use_by p f.method) is ∙ e.named) (ap static_method_wanted is)
  entered_call s target (insn.Static index) is e = calls_by e.method e.type true (ap (use_by p f.method) is ∙ e.named) (ap static_method_wanted is)
  entered_call s target i is e = absurd e

  module _ (c : CallsMethod p f.method at.insn) (target : ℕ) (covered : IsTarget p facts f target) (row : Native) (native : native_of p.outline target ≡ Some row) where
    made : (call : Call) × (call_of x at.insn ≡ Some call)
    made =
        let there = type_there p.outline c.m c.t (subst (IsUseIn p.outline) c.use_is (use_there p ready f.method at.insn)) in
        call_is_made x at.insn c there.0 there.1

    among : Contains (targets p made.0) target
    among = covered at.code at.insn made.0 at.code_is at.insn_is made.1

    fits : Fits p.outline c.m.0 target c.static
    fits = target_fits x at.insn c made.0 target made.1 among

    takes : TakesCall p.outline c.m.0 (not c.static) at.state.stack
    takes = state_takes p facts exact f at.code at.insn at.state at.code_is at.insn_is at.state_is c

    of_row : HasRow p.outline target row
    of_row = has_row p.outline ready.runnable.given ready.runnable.classes target (native_inside p ready target row native) row native

    -- a method of FreeMe is static, and so the one that is named
    other_row : is_free_me row ≡ false
    other_row = ⊎_elim (λ free. absurd (free_named free)) (λ other. other) (cases_Bool (is_free_me row)) where
      free_named : is_free_me row ≡ true → ⊥
      free_named free =
          let static : c.static ≡ true = sym fits.flags ∙ of_row.free free in
          let itself : target ≡ c.m.0 =
          static_itself x at.insn made.0 target made.1 (c.wanted ∙ ap Some static) among
          ∙ ap (λ (m : MethodId). m.0) (call_method x at.insn c made.0 made.1) in
          false≢true
          (sym (no_free f.method at.insn c.m c.t row (named_here c.m c.t c.use_is) (sym (ap (native_of p.outline) itself) ∙ native)) ∙ free)

    row_words : words_of_arguments p.outline c.m.0 + receiver_count (not c.static) ≡ native_words row
    row_words =
        ap (λ n. n + receiver_count (not c.static)) (sym fits.arguments)
        ∙ sym (swapped (is_static (method_at p.outline.classes target).method.flags) c.static (words_of_arguments p.outline target) fits.flags) ∙ of_row.words

    stack_level : length f.stack ≡ length takes.words + length takes.rest
    stack_level =
        goes.depth ∙ depth_is p facts f goes.at.code f.item at.state at.state_is ∙ ap length takes.is ∙ length-append takes.words takes.rest

    many : length takes.words ≡ native_words row
    many = call_length p.outline c.m.0 (not c.static) at.state.stack takes ∙ row_words

    below : length f.stack - native_words row ≡ length takes.rest
    below = omega (arith, stack_level, many)

    argument_node : (k : ℕ) → IsEnd p.outline target (end.Parameter k) → IsNode x (Slot f.item (length f.stack - native_words row + k))
    argument_node k ended =
        let found : word_in_state (length f.stack - native_words row + k) (state_at (facts.typing f.method) f.item)
        ≡ slice_get (reverse at.state.stack) (length takes.rest + k) =
        ap (word_in_state (length f.stack - native_words row + k)) at.state_is ∙ ap (λ n. slice_get (reverse at.state.stack) (n + k)) below in
        subst (λ (w : Option slots.Slot). IsSomeAnd w (λ s. is_reference s ≡ true)) (sym found)
        ((call_ends p.outline c.m.0 target c.static at.state.stack takes fits.parameters fits.flags k).0 ended)

    calls_native : CallsNative p facts f at.code at.insn target row
    calls_native = record {
      call = made.0;
      call_is = made.1;
      among = among;
      words = words_are p f.method at.insn c ∙ row_words;
      deep = omega (arith, stack_level, many);
      number = of_row.number;
      number_is = of_row.number_is;
      row_is = of_row.row_is;
      ends = of_row.ends other_row;
      arguments = argument_node;
    }

  -- each method that the instruction leads to is as it should be, where it is among the targets
  pub covers_targets : (s : List Sight) → ((target : ℕ) → Enters p.outline f.method (use_by p f.method at.insn) s at.insn target → IsTarget p facts f target)
      → CoversTargets p facts f at.code at.insn s
  covers_targets s covers target e = record {
    among = λ call is. covers target e at.code at.insn call at.code_is at.insn_is is;
    natives = λ row native. calls_native (entered_call s target at.insn refl e) target (covers target e) row native;
  }

-- ---- at a state

module _ (p : Program) (facts : Facts) (exact : AreFacts p facts) (ready : IsResolved p) (no_free : CallsNoFreeMe p) where
  frames_cover : (y : State) (frames : List Frame) → Stand p facts frames → Covers p facts (record y { frames = frames })
      → PlacesAgreeAt p (record y { frames = frames }) frames → CoversAt p facts (record y { frames = frames }) frames
  frames_cover y [] stand covers places = tt
  frames_cover y (f ∷ callers) stand covers places = λ at. record {
    calls = covers_targets p facts exact ready no_free f stand.0 at (sights p.outline y.areas.store f.stack)
        (λ target e. covers at.code at.insn target at.code_is at.insn_is e);
    places = places;
  }

  -- a state whose frames are as the laws require, and whose calls lead to targets
  pub state_covers : (x : State) → Stand p facts x.frames → Covers p facts x → PlacesAgreeAt p x x.frames → CoversAt p facts x x.frames
  state_covers x stand covers places = frames_cover x x.frames stand covers places
