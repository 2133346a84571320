-- A frame that called another one goes on after its call with the words of the result, and is whole there.
use Rattle.std.proofs.Common.{◌≡◌, ℕ, ◌+◌, Bool, true, false, cond, List, [], ◌∷◌, ◌++◌, length, drop, take, Option, Some, None, option_and_then, option_to_list, refl, sym, ◌∙◌, ap, subst, inr, ⊎_elim, arith}
use Rattle.std.specs.List.{AllByRecursion, AllZip}
use Rattle.std.proofs.lemmas.Bool.{false≢true}
use Rattle.std.proofs.lemmas.Bool.Decides.{nat_tests}
use Rattle.std.proofs.lemmas.Slice.Zip.{AllZip-long}
use Rattle.fm_base.specs.declared.kinds.Kind.{Kind}
use Rattle.fm_base.specs.declared.kinds.Kind.TheVariants as kind
use Rattle.fm_base.specs.declared.kinds.TypeRef.{TypeRef}
use Rattle.fm_cells.specs.Stores.{Store}
use Rattle.fm_code.specs.Edges.{falls_through, insn_of}
use Rattle.fm_code.specs.declared.code_array.Code.{Code}
use Rattle.fm_code.specs.declared.instructions.Insn.{Insn}
use Rattle.fm_types.specs.CallRows.{is_type}
use Rattle.fm_types.specs.Fits.{AreTree, fits_type}
use Rattle.fm_types.specs.Named.{result_of, result_words, this_class}
use Rattle.fm_types.specs.Rows.{row_after}
use Rattle.fm_types.specs.States.{is_uninit, is_uninit_this, stack_slots, TypeState}
use Rattle.fm_types.specs.Typed.{made_at, use_by}
use Rattle.fm_types.specs.declared.slots.Slot.{Slot}
use Rattle.fm_types.specs.declared.slots.Slot.TheVariants as slot
use Rattle.fm_types.proofs.LeastJoins.{same_type-eq}
use Rattle.fm_types.proofs.Order.{type-refl}
use Rattle.fm_world.specs.Descriptors.{result_kind}
use Rattle.fm_world.specs.Numbers.{type_of_class}
use Rattle.fm_world.specs.Programs.{Outline, Program}
use Rattle.fm_world.specs.declared.uses.Use.{Use}
use Rattle.fm_frames.specs.Acts.{cell_of}
use Rattle.fm_frames.specs.States.{Frame, State}
use Rattle.fm_frames.specs.Steps.{is_start, returned}
use Rattle.fm_frames.specs.declared.values.Value.{Value}
use Rattle.fm_law_sound.specs.Going.{ConstructorsGiveNothing, StandsAtRow}
use Rattle.fm_law_sound.specs.Sound.{AreTyped, Calling, FrameHasKinds, HasKind, HaveKinds, LocalHasKind, StandBelow, Starting, Typings, words_of_call}
use Rattle.fm_law_sound.proofs.CallsLeft.{call_left, IsMarked, method_in}
use Rattle.fm_law_sound.proofs.FramesStand.{after_whole, edge_fits, met_row_of, next_edge, typing_of}
use Rattle.fm_law_sound.proofs.ReturnsStand.{call_falls, call_kinds, call_targets}
use Rattle.fm_law_no_fault.specs.Whole.{FrameFits, FrameIsWhole, is_below, LocalFits, lowest, WordFits}
use Rattle.fm_law_no_fault.proofs.ActsSuits.{holds_weaker}
use Rattle.fm_law_no_fault.proofs.CellsLeave.{local_cells, stack_cells}
use Rattle.fm_law_no_fault.proofs.FramesKeep.{brought_whole}
use Rattle.fm_law_no_fault.proofs.ObjectRows.{below_fits}
use Rattle.fm_law_no_fault.proofs.Owing.{Cell, CellsFit}
use Rattle.fm_law_no_fault.proofs.WaitingFrames.{lowest_all, lowest_drop}

-- ---- kinds and cells together

pub zip_both : {A B : Type 0} (P Q R : A → B → Type 0) → ((a : A) (b : B) → P a b → Q a b → R a b) → (xs : List A) (ys : List B) → AllZip P xs ys
    → AllZip Q xs ys → AllZip R xs ys
zip_both P Q R each [] [] h g = tt
zip_both P Q R each [] (y ∷ ys) h g = absurd h
zip_both P Q R each (x ∷ xs) [] h g = absurd h
zip_both P Q R each (x ∷ xs) (y ∷ ys) h g = (each x y h.0 g.0, zip_both P Q R each xs ys h.1 g.1)

-- a frame of these kinds whose cells fit
pub fits_by : (o : Outline) (store : Store) (own : ℕ) (news : ℕ → Option TypeRef) (known : TypeState) (locals stack : List Value)
    → FrameHasKinds known locals stack → CellsFit o store own news known locals stack → FrameFits o store own news known locals stack
fits_by o store own news known locals stack kinds cells =
    let long : length known.stack ≡ length stack = sym (AllZip-long HasKind known.stack stack kinds.in_stack) in
    record {
      in_locals = zip_both LocalHasKind (Cell o store own news) (LocalFits o store own news) (λ s v k c. record { kind = k; cell = c }) known.locals locals
          kinds.in_locals cells.in_locals;
      in_stack = subst (λ xs. AllZip (WordFits o store own news) xs stack) (sym (lowest_all known.stack (length stack) long))
          (zip_both HasKind (Cell o store own news) (WordFits o store own news) (λ s v k c. record { kind = k; cell = c }) known.stack stack
          kinds.in_stack cells.in_stack);
    }

-- ---- the slots of a result are those of any method

module _ (o : Outline) (store : Store) (own other : ℕ) (news others : ℕ → Option TypeRef) where
  -- whatever the method, such slots ask the same
  abbrev pub IsAnyones : Slot → Type 0
  IsAnyones s = (v : Value) → Cell o store own news s v → Cell o store other others s v

  pub elsewhere : (xs : List Slot) (words : List Value) → AllByRecursion IsAnyones xs → AllZip (Cell o store own news) xs words
      → AllZip (Cell o store other others) xs words
  elsewhere [] [] each h = tt
  elsewhere [] (v ∷ words) each h = absurd h
  elsewhere (x ∷ xs) [] each h = absurd h
  elsewhere (x ∷ xs) (v ∷ words) each h = (each.0 v h.0, elsewhere xs words each.1 h.1)

  kind_anyones : (k : Kind) → AllByRecursion IsAnyones (stack_slots (k ∷ []))
  kind_anyones kind.Boolean = (λ v h. tt, tt)
  kind_anyones kind.Byte = (λ v h. tt, tt)
  kind_anyones kind.Char = (λ v h. tt, tt)
  kind_anyones kind.Short = (λ v h. tt, tt)
  kind_anyones kind.Int = (λ v h. tt, tt)
  kind_anyones kind.Long = (λ v h. tt, (λ v h. tt, tt))
  kind_anyones (kind.Ref t) = (λ v h. h, tt)

  result_elsewhere : (given : Option Kind) (words : List Value) → AllZip (Cell o store own news) (stack_slots (option_to_list given)) words
      → AllZip (Cell o store other others) (stack_slots (option_to_list given)) words
  result_elsewhere None [] h = tt
  result_elsewhere None (v ∷ words) h = absurd h
  result_elsewhere (Some k) words h = elsewhere (stack_slots (k ∷ [])) words (kind_anyones k) h

-- ---- objects that are initialised

module _ (o : Outline) (tree : AreTree o.classes) (store : Store) (own : ℕ) (news : ℕ → Option TypeRef) where
  made_type : (t u : TypeRef) (found : Option TypeRef) → is_type t found ≡ true → is_type u found ≡ true → u ≡ t
  made_type t u None is other = absurd (false≢true is)
  made_type t u (Some w) is other = same_type-eq u w other ∙ sym (same_type-eq t w is)

  uninit_marked : (item : ℕ) (t : TypeRef) → is_type t (news item) ≡ true → IsMarked (Cell o store own news) (is_uninit item) t
  uninit_marked item t named (slot.Uninit other) v is h =
      let same : item ≡ other = grind (arith, nat_tests, is) in
      inr (holds_weaker o store (λ u. is_type u (news other)) (λ u. fits_type o.classes u t)
      (λ u found. subst (λ w. fits_type o.classes w t ≡ true)
      (sym (made_type t u (news other) (subst (λ n. is_type t (news n) ≡ true) same named) found)) (type-refl o.classes tree t))
      (cell_of v) h)
  uninit_marked item t named s v is h = absurd (false≢true is)

  this_marked : IsMarked (Cell o store own news) is_uninit_this (type_of_class own)
  this_marked slot.UninitThis v is h =
      inr (holds_weaker o store (is_below o own) (λ u. fits_type o.classes u (type_of_class own)) (λ u found. below_fits o u own found) (cell_of v) h)
  this_marked s v is h = absurd (false≢true is)

  -- ---- the state after a call

  module _ (nothing_given : ConstructorsGiveNothing o) (s : TypeState) (named : ℕ) (locals words result : List Value) (in_locals : AllZip (Cell o store own news) s.locals locals) (has : AllZip (Cell o store own news) (result_words o named) result) where
    pub call_cells : (i : Insn) (method item count : ℕ) → own ≡ this_class o method → (u : Use) (after : TypeState)
        → words_of_call o i named ≡ Some count → method_in u ≡ Some named → AllZip (Cell o store own news) (drop count s.stack) words
        → row_after o method item news u i s ≡ Some after → CellsFit o store own news after locals (result ++ words)
    call_cells i method item count own_is u after takes names in_stack row =
        let this = subst (λ c. IsMarked (Cell o store own news) is_uninit_this (type_of_class c)) own_is this_marked in
        let are = call_left (Cell o store own news) (Cell o store own news) o method news
        (λ item t made. (uninit_marked item t made, uninit_marked item t made)) (this, this) nothing_given s named locals words result in_locals has i item count u
        after takes names in_stack row in
        record { in_locals = are.in_locals; in_stack = are.in_stack }

-- ---- the frame below

module _ (p : Program) (typings : Typings) (tree : AreTree p.outline.classes) (typed : AreTyped p typings) (nothing_given : ConstructorsGiveNothing p.outline) (store : Store) (f g : Frame) (callers : List Frame) (result : List Value) where
  -- the caller's words without those of the call
  caller_words : (call : Calling p typings f g) → FrameIsWhole p typings store g
      → AllZip (Cell p.outline store (this_class p.outline g.method) (made_at p g.method call.stands.code)) (drop call.words call.stands.known.stack) g.stack
  caller_words call whole =
      let own : ℕ = this_class p.outline g.method in
      let news : ℕ → Option TypeRef = made_at p g.method call.stands.code in
      let fits_it : FrameFits p.outline store own news call.stands.known g.locals g.stack = whole call.stands.code call.stands.known call.stands.code_is call.stands.at in
      let long : length g.stack ≡ length (drop call.words call.stands.known.stack) =
      AllZip-long HasKind (drop call.words call.stands.known.stack) g.stack call.stands.stack in
      let same : lowest (length g.stack) call.stands.known.stack ≡ drop call.words call.stands.known.stack =
      ap (λ n. lowest n call.stands.known.stack) long ∙ lowest_drop call.words call.stands.known.stack in
      stack_cells p.outline store own news (drop call.words call.stands.known.stack) g.stack
      (subst (λ xs. AllZip (WordFits p.outline store own news) xs g.stack) same fits_it.in_stack)

  caller_whole : (call : Calling p typings f g) → HaveKinds (result_words p.outline f.method) result
      → (own : ℕ) (news : ℕ → Option TypeRef) → AllZip (Cell p.outline store own news) (result_words p.outline f.method) result
      → FrameIsWhole p typings store g → FrameIsWhole p typings store (record g { item = g.item + 1; stack = result ++ g.stack })
  caller_whole call kinds own news cells whole =
      let code : Code = call.stands.code in
      let known : TypeState = call.stands.known in
      let insn_is : insn_of code g.item ≡ Some call.called =
      sym (ap (λ o. option_and_then (λ (c : Code). insn_of c g.item) o) call.stands.code_is) ∙ call.at in
      let typing = typing_of p typings typed g.method code call.stands.code_is in
      let meets = typing.items g.item known call.stands.at in
      let found = met_row_of p typings g code known meets call.called insn_is in
      let at_row : StandsAtRow p typings g call.called found.0 = record {
        code = code;
        code_is = call.stands.code_is;
        insn_is = insn_is;
        known = known;
        at = call.stands.at;
        row = found.1;
        targets = call_targets p.outline call.called call.named call.words _ call.takes;
      } in
      let fits_it : FrameFits p.outline store (this_class p.outline g.method) (made_at p g.method code) known g.locals g.stack =
      whole code known call.stands.code_is call.stands.at in
      let given_kinds : HaveKinds (result_words p.outline call.named) result =
      subst (λ d. HaveKinds (stack_slots (option_to_list (result_kind p.outline.classes d))) result) call.same_descriptor kinds in
      let there : AllZip (Cell p.outline store (this_class p.outline g.method) (made_at p g.method code)) (result_words p.outline f.method) result =
      result_elsewhere p.outline store own (this_class p.outline g.method) news (made_at p g.method code) (result_of p.outline f.method) result cells in
      let given_cells : AllZip (Cell p.outline store (this_class p.outline g.method) (made_at p g.method code)) (result_words p.outline call.named) result =
      subst (λ d. AllZip (Cell p.outline store (this_class p.outline g.method) (made_at p g.method code)) (stack_slots (option_to_list (result_kind p.outline.classes d))) result) call.same_descriptor there in
      let after_kinds : FrameHasKinds found.0 g.locals (result ++ g.stack) =
      call_kinds p.outline nothing_given known call.named g.locals g.stack result call.stands.locals given_kinds call.called g.method g.item
      call.words (made_at p g.method code) (use_by p g.method call.called) found.0 call.takes call.names call.stands.stack found.1 in
      let after_cells : CellsFit p.outline store (this_class p.outline g.method) (made_at p g.method code) found.0 g.locals (result ++ g.stack) =
      call_cells p.outline tree store (this_class p.outline g.method) (made_at p g.method code) nothing_given known call.named g.locals g.stack result
      (local_cells p.outline store (this_class p.outline g.method) (made_at p g.method code) known.locals g.locals fits_it.in_locals) given_cells
      call.called g.method g.item call.words refl (use_by p g.method call.called) found.0 call.takes call.names (caller_words call whole) found.1 in
      let falls : falls_through call.called ≡ true = call_falls p.outline call.called call.named call.words call.takes in
      brought_whole p typings tree typed store (record g { item = g.item + 1; stack = result ++ g.stack }) code call.stands.code_is found.0
      (after_whole p typings tree typed g call.called found.0 at_row)
      (edge_fits p typings tree typed g call.called found.0 at_row (g.item + 1) (next_edge p typings tree typed g call.called found.0 at_row falls))
      (fits_by p.outline store (this_class p.outline g.method) (made_at p g.method code) found.0 g.locals (result ++ g.stack) after_kinds after_cells)

pub returned_whole : (p : Program) (typings : Typings) → AreTree p.outline.classes → AreTyped p typings → ConstructorsGiveNothing p.outline → (store : Store)
    → (f g : Frame) (callers : List Frame) → StandBelow p typings f (g ∷ callers) → (n : ℕ) → HaveKinds (result_words p.outline f.method) (take n f.stack)
    → (own : ℕ) (news : ℕ → Option TypeRef) → AllZip (Cell p.outline store own news) (result_words p.outline f.method) (take n f.stack)
    → AllByRecursion (FrameIsWhole p typings store) (g ∷ callers) → (x : State)
    → AllByRecursion (FrameIsWhole p typings store) (returned p n f (g ∷ callers) x).frames
returned_whole p typings tree typed nothing_given store f g callers below n kinds own news cells whole x = by_start (is_start p.outline f.method) refl where
  by_start : (b : Bool) → is_start p.outline f.method ≡ b
      → AllByRecursion (FrameIsWhole p typings store) (cond b (record x { frames = g ∷ callers })
      (record x { frames = record g { item = g.item + 1; stack = take n f.stack ++ g.stack } ∷ callers })).frames
  by_start true is = whole
  by_start false is = ⊎_elim
      (λ (call : Calling p typings f g).
      (caller_whole p typings tree typed nothing_given store f g callers (take n f.stack) call kinds own news cells whole.0, whole.1))
      (λ (start : Starting p typings f g). absurd (false≢true (sym is ∙ start.starts)))
      below.0
