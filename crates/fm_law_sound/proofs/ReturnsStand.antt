-- A frame that called another one goes on after its call with the words of the result.
use Rattle.std.proofs.Common.{◌≡◌, ℕ, ◌+◌, Bool, true, false, cond, List, ◌∷◌, ◌++◌, drop, take, Option, Some, option_and_then, option_to_list, refl, sym, ◌∙◌, ap, subst, ⊎_elim}
use Rattle.std.specs.List.{AllByRecursion}
use Rattle.std.proofs.lemmas.Bool.{false≢true}
use Rattle.fm_base.specs.declared.kinds.TypeRef.{TypeRef}
use Rattle.fm_code.specs.Edges.{falls_through, insn_of}
use Rattle.fm_code.specs.SpellsCode.{targets_of}
use Rattle.fm_code.specs.declared.code_array.Code.{Code}
use Rattle.fm_code.specs.declared.instructions.Insn.{Insn}
use Rattle.fm_code.specs.declared.instructions.Insn.TheVariants as insn
use Rattle.fm_types.specs.Fits.{AreTree}
use Rattle.fm_types.specs.Named.{result_words, this_class}
use Rattle.fm_types.specs.Rows.{row_after}
use Rattle.fm_types.specs.States.{is_uninit, is_uninit_this, stack_slots, TypeState}
use Rattle.fm_types.specs.Typed.{IsTypingOf, made_at, use_by}
use Rattle.fm_types.specs.declared.slots.Slot.TheVariants as slot
use Rattle.fm_world.specs.Descriptors.{result_kind}
use Rattle.fm_world.specs.Numbers.{type_of_class}
use Rattle.fm_world.specs.Programs.{Outline, Program}
use Rattle.fm_world.specs.declared.uses.Use.{Use}
use Rattle.fm_frames.specs.States.{Frame, State}
use Rattle.fm_frames.specs.Steps.{is_start, returned}
use Rattle.fm_frames.specs.declared.values.Value.{Value}
use Rattle.fm_law_sound.specs.Going.{ConstructorsGiveNothing, StandsAtRow}
use Rattle.fm_law_sound.specs.Sound.{AreTyped, Calling, FrameHasKinds, HasKind, HaveKinds, LocalHasKind, LocalsHaveKinds, Stand, StandBelow, Starting, Typings, words_of_call}
use Rattle.fm_law_sound.proofs.CallsLeft.{call_left, IsMarked, method_in}
use Rattle.fm_law_sound.proofs.FramesStand.{after_whole, below_same, edge_fits, fits_stands, met_row_of, next_edge, typing_of}

-- ---- objects that are initialised

uninit_marked : (item : ℕ) (t : TypeRef) → IsMarked LocalHasKind (is_uninit item) t × IsMarked HasKind (is_uninit item) t
uninit_marked item t = (in_local, on_stack) where
  in_local : IsMarked LocalHasKind (is_uninit item) t
  in_local (slot.Uninit other) v is h = h
  in_local s v is h = absurd (false≢true is)

  on_stack : IsMarked HasKind (is_uninit item) t
  on_stack (slot.Uninit other) v is h = h
  on_stack s v is h = absurd (false≢true is)

this_marked : (t : TypeRef) → IsMarked LocalHasKind is_uninit_this t × IsMarked HasKind is_uninit_this t
this_marked t = (in_local, on_stack) where
  in_local : IsMarked LocalHasKind is_uninit_this t
  in_local slot.UninitThis v is h = h
  in_local s v is h = absurd (false≢true is)

  on_stack : IsMarked HasKind is_uninit_this t
  on_stack slot.UninitThis v is h = h
  on_stack s v is h = absurd (false≢true is)

-- ---- the state after a call

module _ (o : Outline) (nothing_given : ConstructorsGiveNothing o) (s : TypeState) (named : ℕ) (locals words result : List Value) (in_locals : LocalsHaveKinds s.locals locals) (has : HaveKinds (result_words o named) result) where
  pub call_kinds : (i : Insn) (method item count : ℕ) (news : ℕ → Option TypeRef) (u : Use) (after : TypeState) → words_of_call o i named ≡ Some count
      → method_in u ≡ Some named → HaveKinds (drop count s.stack) words → row_after o method item news u i s ≡ Some after
      → FrameHasKinds after locals (result ++ words)
  call_kinds i method item count news u after takes names in_stack row =
      let are = call_left LocalHasKind HasKind o method news (λ item t made. uninit_marked item t) (this_marked (type_of_class (this_class o method)))
      nothing_given s named locals words result in_locals has i item count u after takes names in_stack row in
      record { in_locals = are.in_locals; in_stack = are.in_stack }

pub call_falls : (o : Outline) (i : Insn) (named count : ℕ) → words_of_call o i named ≡ Some count → falls_through i ≡ true
call_falls o (insn.Virtual index) named count is = refl
call_falls o (insn.Interface index) named count is = refl
call_falls o (insn.Special index) named count is = refl
call_falls o (insn.Static index) named count is = refl
call_falls o i named count is = absurd (cc)

pub call_targets : (o : Outline) (i : Insn) (named count : ℕ) (P : ℕ → Type 0) → words_of_call o i named ≡ Some count → AllByRecursion P (targets_of i)
call_targets o (insn.Virtual index) named count P is = tt
call_targets o (insn.Interface index) named count P is = tt
call_targets o (insn.Special index) named count P is = tt
call_targets o (insn.Static index) named count P is = tt
call_targets o i named count P is = absurd (cc)

-- ---- the frame below

module _ (p : Program) (typings : Typings) (tree : AreTree p.outline.classes) (typed : AreTyped p typings) (nothing_given : ConstructorsGiveNothing p.outline) (f g : Frame) (callers : List Frame) (below : StandBelow p typings g callers) (result : List Value) (has : HaveKinds (result_words p.outline f.method) result) where
  caller_stands : Calling p typings f g
      → Stand p typings (record g { item = g.item + 1; stack = result ++ g.stack } ∷ callers)
  caller_stands call =
      let code : Code = call.stands.code in
      let insn_is : insn_of code g.item ≡ Some call.called =
      sym (ap (λ o. option_and_then (λ (c : Code). insn_of c g.item) o) call.stands.code_is) ∙ call.at in
      let typing : IsTypingOf p g.method code (typings g.method) = typing_of p typings typed g.method code call.stands.code_is in
      let meets = typing.items g.item call.stands.known call.stands.at in
      let found = met_row_of p typings g code call.stands.known meets call.called insn_is in
      let at_row : StandsAtRow p typings g call.called found.0 = record {
        code = code;
        code_is = call.stands.code_is;
        insn_is = insn_is;
        known = call.stands.known;
        at = call.stands.at;
        row = found.1;
        targets = call_targets p.outline call.called call.named call.words _ call.takes;
      } in
      let named_result : HaveKinds (result_words p.outline call.named) result =
      subst (λ d. HaveKinds (stack_slots (option_to_list (result_kind p.outline.classes d))) result) call.same_descriptor has in
      let kinds : FrameHasKinds found.0 g.locals (result ++ g.stack) =
      call_kinds p.outline nothing_given call.stands.known call.named g.locals g.stack result call.stands.locals named_result call.called g.method g.item
      call.words (made_at p g.method code) (use_by p g.method call.called) found.0 call.takes call.names call.stands.stack found.1 in
      let falls : falls_through call.called ≡ true = call_falls p.outline call.called call.named call.words call.takes in (
        fits_stands p typings typed g.method code call.stands.code_is (g.item + 1) found.0 (after_whole p typings tree typed g call.called found.0 at_row)
            (edge_fits p typings tree typed g call.called found.0 at_row (g.item + 1) (next_edge p typings tree typed g call.called found.0 at_row falls))
            g.locals (result ++ g.stack) kinds,
        below_same p typings g (record g { item = g.item + 1; stack = result ++ g.stack }) callers refl below,
      )

pub returned_stand : (p : Program) (typings : Typings) → AreTree p.outline.classes → AreTyped p typings → ConstructorsGiveNothing p.outline
    → (f g : Frame) (callers : List Frame) → StandBelow p typings f (g ∷ callers) → (n : ℕ) → HaveKinds (result_words p.outline f.method) (take n f.stack)
    → (x : State) → Stand p typings (returned p n f (g ∷ callers) x).frames
returned_stand p typings tree typed nothing_given f g callers below n has x = by_start (is_start p.outline f.method) refl where
  by_start : (b : Bool) → is_start p.outline f.method ≡ b
      → Stand p typings (cond b (record x { frames = g ∷ callers })
      (record x { frames = record g { item = g.item + 1; stack = take n f.stack ++ g.stack } ∷ callers })).frames
  by_start true is = ⊎_elim
      (λ (call : Calling p typings f g). absurd (false≢true (sym call.is_no_start ∙ is)))
      (λ (start : Starting p typings f g). (start.stands, below.1))
      below.0
  by_start false is = ⊎_elim
      (λ (call : Calling p typings f g). caller_stands p typings tree typed nothing_given f g callers below.1 (take n f.stack) has call)
      (λ (start : Starting p typings f g). absurd (false≢true (sym is ∙ start.starts)))
      below.0
