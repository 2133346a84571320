-- What soundness says of the frames that a step at a kept item leads to: their methods have code, arguments fit their locals, and a frame waits at a call.
use Rattle.std.proofs.Common.{◌≡◌, ℕ, suc, ◌+◌, ◌-◌, ◌<◌, ◌≤◌, ◌⊎◌, inl, inr, false, List, [], ◌∷◌, ◌++◌, length, length-append, replicate, Some, option_and_then, unwrap_or, refl, sym, ap, subst, ◌∙◌, arith}
use Rattle.std.specs.List.{AllByRecursion, AllZip}
use Rattle.std.proofs.lemmas.Bool.{false≢true}
use Rattle.std.proofs.lemmas.Option.{none-some}
use Rattle.fm_base.proofs.OptionFacts.{option_and_then-some, same_value, Some-from_some_and}
use Rattle.fm_code.proofs.EdgesLemmas.{insn_inside}
use Rattle.fm_code.specs.Edges.{insn_of, IsEdge, IsNormalEdge}
use Rattle.fm_code.specs.declared.code_array.Code.{Code}
use Rattle.fm_conn.specs.Facts.{Facts}
use Rattle.fm_frames.specs.States.{Frame}
use Rattle.fm_frames.specs.Steps.{is_start, max_locals_of, new_frame, start_frames}
use Rattle.fm_frames.specs.declared.values.Value.{Value}
use Rattle.fm_frames.specs.declared.values.Value.TheVariants as value
use Rattle.fm_law_same_runs.specs.Beside.{kept_item, Marks}
use Rattle.fm_law_sound.proofs.CallsStand.{max_locals_in}
use Rattle.fm_law_sound.proofs.FramesStand.{typing_of}
use Rattle.fm_law_sound.proofs.ReturnsStand.{call_falls}
use Rattle.fm_law_sound.specs.Resolved.{StepsAreResolved}
use Rattle.fm_law_sound.specs.Sound.{AreTyped, Calling, LocalHasKind, Stand, StandBelow as SoundBelow, StandsWithout, Starting, Typings, words_of_call}
use Rattle.fm_law_unwoven.proofs.KeptEdges.{leads_behind}
use Rattle.fm_law_unwoven.specs.Kept.{old_frame}
use Rattle.fm_law_unwoven.specs.Laid.{IsKept, IsSplit, IsWhole}
use Rattle.fm_law_unwoven.specs.WovenFrom.{HasInserted, inserted_by, IsWovenFrom, own_marks}
use Rattle.fm_layout.specs.Spelling.{conditional}
use Rattle.fm_layout.specs.declared.rooms.Condition.{Condition}
use Rattle.fm_layout.specs.declared.rooms.Condition.TheVariants as condition
use Rattle.fm_place.specs.Rewriting.{Plans}
use Rattle.fm_types.specs.Rows.{row_after}
use Rattle.fm_types.specs.Typed.{after_item, FitsAt, made_at, MeetsItem, use_by}
use Rattle.fm_types.specs.declared.slots.Slot.{Slot}
use Rattle.fm_world.specs.Programs.{code_at, Outline, Program}

as_many : (slots : List Slot) (words : List Value) → AllZip LocalHasKind slots words → length slots ≡ length words
as_many [] [] all = refl
as_many [] (v ∷ words) all = absurd all
as_many (s ∷ slots) [] all = absurd all
as_many (s ∷ slots) (v ∷ words) all = ap suc (as_many slots words all.1)

-- a call is no branch
no_call : (o : Outline) (c : Condition) (target method words : ℕ) → words_of_call o (conditional c target) method ≡ Some words → ⊥
no_call o (condition.Int t) target method words is = none-some words is
no_call o (condition.Pair t) target method words is = none-some words is
no_call o (condition.Same same) target method words is = none-some words is
no_call o (condition.Null null) target method words is = none-some words is

module _ (p : Program) (typings : Typings) (typed : AreTyped p typings) where
  -- what the checker knows of the item of a frame
  meets_of : (words : ℕ) (f : Frame) (stands : StandsWithout p typings words f)
      → MeetsItem p f.method stands.code (typings f.method) f.item stands.known
  meets_of words f stands = (typing_of p typings typed f.method stands.code stands.code_is).items f.item stands.known stands.at

  pub width_of : (words : ℕ) (f : Frame) → StandsWithout p typings words f → length f.locals ≡ max_locals_of p f.method
  width_of words f stands =
      let meets = meets_of words f stands in
      let max : max_locals_of p f.method ≡ stands.code.max_locals = ap max_locals_in stands.code_is in
      sym (as_many stands.known.locals f.locals stands.locals) ∙ meets.locals ∙ sym max

  -- it is at an item that is there
  pub item_of : (words : ℕ) (f : Frame) (stands : StandsWithout p typings words f) → f.item < length stands.code.items
  item_of words f stands =
      let meets = meets_of words f stands in
      let row = Some-from_some_and (after_item p f.method stands.code f.item stands.known)
      (λ given. (next : ℕ) → IsNormalEdge stands.code f.item next → FitsAt p (typings f.method) next given) meets.row in
      let parts = option_and_then-some
      (λ i. row_after p.outline f.method f.item (made_at p f.method stands.code) (use_by p f.method i) i stands.known) (insn_of stands.code f.item) row.0 row.1 in
      insn_inside stands.code f.item parts.0 parts.1

  -- the arguments of a new frame fit its locals
  pub arguments_fit : (method : ℕ) (arguments : List Value) → StandsWithout p typings 0 (new_frame p method arguments) → length arguments ≤ max_locals_of p method
  arguments_fit method arguments stands =
      let width = width_of 0 (new_frame p method arguments) stands in
      let both = length-append arguments (replicate (max_locals_of p method - length arguments) value.Top) in
      omega (arith, width, both)

  -- methods have code
  abbrev pub HasCode : ℕ → Type 0
  HasCode method = (c : Code) × (code_at p method ≡ Some c)

  code_below : (f g : Frame) → Calling p typings f g ⊎ Starting p typings f g → HasCode g.method
  code_below f g (inl calling) = (calling.stands.code, calling.stands.code_is)
  code_below f g (inr starting) = (starting.stands.code, starting.stands.code_is)

  pub codes_below : (f : Frame) (callers : List Frame) → SoundBelow p typings f callers → AllByRecursion (λ (g : Frame). HasCode g.method) callers
  codes_below f [] below = tt
  codes_below f (g ∷ callers) below = (code_below f g below.0, codes_below g callers below.1)

  starts_coded : (methods : List ℕ) (above : Frame) (rest : List Frame) → SoundBelow p typings above (start_frames p methods ++ rest) → AllByRecursion HasCode methods
  starts_coded [] above rest below = tt
  starts_coded (m ∷ methods) above rest below = (code_below above (new_frame p m []) below.0, starts_coded methods (new_frame p m []) rest below.1)

  pub methods_coded : (methods : List ℕ) (rest : List Frame) → Stand p typings (start_frames p methods ++ rest) → AllByRecursion HasCode methods
  methods_coded [] rest stand = tt
  methods_coded (m ∷ methods) rest stand = ((stand.0.code, stand.0.code_is), starts_coded methods (new_frame p m []) rest stand.1)

-- ---- a frame that waits at a call

module _ (p q : Program) (facts : Facts) (plans : Plans) (marks : Marks) (from : IsWovenFrom p q facts plans marks) (typings : Typings)
    (ready : StepsAreResolved p) (typed : AreTyped p typings) where
  pub call_whole : (f next : Frame) → Calling p typings f (old_frame p marks next) ⊎ Starting p typings f (old_frame p marks next) → is_start p.outline f.method ≡ false
      → (c : Code) (c_is : code_at p next.method ≡ Some c) (item : ℕ) → kept_item marks next.method next.item ≡ Some item
      → ((from.methods next.method c c_is).laid.behind item ≡ (from.methods next.method c c_is).laid.numbers item + 1) × IsEdge c item (item + 1)
  call_whole f next (inr starting) none c c_is item item_is = absurd (false≢true (sym none ∙ starting.starts))
  call_whole f next (inl calling) none c c_is item item_is = (by_kept (w.laid.kept item calling.called called_there), edge) where
    edge : IsEdge c item (item + 1)
    edge =
        let there : insn_of calling.stands.code (old_frame p marks next).item ≡ Some calling.called =
        sym (ap (option_and_then (λ (d : Code). insn_of d (old_frame p marks next).item)) calling.stands.code_is) ∙ calling.at in
        let falls = call_falls p.outline calling.called calling.named calling.words calling.takes in
        subst (λ k. IsEdge c k (k + 1)) (ap (λ o. unwrap_or o 0) item_is)
        (subst (λ d. IsEdge d (old_frame p marks next).item ((old_frame p marks next).item + 1))
        (same_value (code_at p next.method) calling.stands.code c calling.stands.code_is c_is)
        (leads_behind p typings ready typed calling.words (old_frame p marks next) calling.stands calling.called there falls))

    w : HasInserted q marks next.method c (inserted_by (plans next.method))
    w = from.methods next.method c c_is

    called_there : insn_of c item ≡ Some calling.called
    called_there =
        sym (ap (option_and_then (λ (d : Code). insn_of d (old_frame p marks next).item)) c_is ∙ ap (insn_of c) (ap (λ o. unwrap_or o 0) item_is)) ∙ calling.at

    by_kept : IsKept c w.new (own_marks marks next.method) w.laid.entries item calling.called (w.laid.numbers item) (w.laid.behind item)
        → w.laid.behind item ≡ w.laid.numbers item + 1
    by_kept (IsWhole at behind) = behind
    by_kept (IsSplit condition target other is at follows jump mark behind) =
        absurd (no_call p.outline condition target calling.named calling.words
        (ap (λ i. words_of_call p.outline i calling.named) (sym is) ∙ calling.takes))
