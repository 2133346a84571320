-- The frames after a step at a kept item: the topmost one goes on with its holders as they were, or a new one begins.
use Rattle.std.proofs.Common.{◌≡◌, ℕ, ◌+◌, ◌-◌, ◌<◌, ◌≤◌, ◌⊎◌, inl, inr, true, List, [], ◌∷◌, ◌++◌, length, length-append, map, take, drop, replicate, Option, Some, None, unwrap_or, refl, sym, ap, subst, ◌∙◌, arith}
use Rattle.std.proofs.Math.Seq.{take-append-add}
use Rattle.std.proofs.lemmas.List.{length-replicate, take-replicate}
use Rattle.std.proofs.lemmas.Option.{none-some, same_Some}
use Rattle.fm_code.specs.Edges.{IsEdge}
use Rattle.fm_code.specs.declared.code_array.Code.{Code}
use Rattle.fm_code.specs.declared.instructions.Insn.{Insn}
use Rattle.fm_conn.specs.Facts.{Facts}
use Rattle.fm_conn.specs.Links.{typed_method}
use Rattle.fm_conn.specs.Nodes.{TypedMethod}
use Rattle.fm_frames.specs.Effects.{Effect}
use Rattle.fm_frames.specs.States.{Areas, Frame, null, State, word_at}
use Rattle.fm_frames.specs.Steps.{is_start, max_locals_of, new_frame, went}
use Rattle.fm_frames.specs.declared.values.Value.{Value}
use Rattle.fm_frames.specs.declared.values.Value.TheVariants as value
use Rattle.fm_law_same_runs.specs.Beside.{kept_item, Marks}
use Rattle.fm_law_sound.proofs.CallsStand.{max_locals_in}
use Rattle.fm_law_sound.specs.Sound.{IsReference}
use Rattle.fm_law_unwoven.proofs.OldFrames.{further_same, further_stay, new_from, old_from, same_gives, same_written, written_length}
use Rattle.fm_law_unwoven.specs.Kept.{Begins, BeginsOn, FramesGo, GoesOn, HasNotBegun, HoldersStand, InMethod, old_frame, StandBelow, StandsAtKept}
use Rattle.fm_law_unwoven.specs.Laid.{all_insns_to, frees_at, LieInserted, mark_at, starts_of}
use Rattle.fm_law_unwoven.specs.UnseenCode.{UsesNamed}
use Rattle.fm_law_unwoven.specs.WovenFrom.{HasInserted, inserted_by, IsWovenFrom, own_marks}
use Rattle.fm_place.specs.Insertions.{Insertions}
use Rattle.fm_place.specs.Places.{is_busy, MayHold}
use Rattle.fm_place.specs.Rewriting.{Plans}
use Rattle.fm_place.specs.Woven.{local_of}
use Rattle.fm_world.specs.Programs.{code_at, Program}

-- a run of inserted items is empty, or begins at one without a mark
lies_first : (new : Code) (marks : List (Option ℕ)) (n next : ℕ) (insns : List Insn) → LieInserted new marks n insns next → (n ≡ next) ⊎ (mark_at marks n ≡ None)
lies_first new marks n next [] lies = inl lies
lies_first new marks n next (i ∷ insns) lies = inr lies.1

-- the first words of words with others behind them
take_more : (words : List Value) (m n : ℕ) (v : Value) → length words ≤ m → m ≤ n
    → take m (words ++ replicate (n - length words) v) ≡ words ++ replicate (m - length words) v
take_more words m n v few more =
    let place : m ≡ length words + (m - length words) = omega (arith, few) in
    ap (λ k. take k (words ++ replicate (n - length words) v)) place
    ∙ take-append-add words (replicate (n - length words) v) (m - length words)
    ∙ ap (λ rest. words ++ rest) (take-replicate (m - length words) (n - length words) v (omega (arith, few, more)))

module _ (p q : Program) (facts : Facts) (plans : Plans) (marks : Marks) (from : IsWovenFrom p q facts plans marks) where
  -- ---- methods

  more_locals : (method : ℕ) → max_locals_of p method ≤ max_locals_of q method
  more_locals method = by_code (code_at p method) refl where
    by_code : (o : Option Code) → code_at p method ≡ o → max_locals_of p method ≤ max_locals_of q method
    by_code None is =
        let one : max_locals_of p method ≡ 0 = ap max_locals_in is in
        let other : max_locals_of q method ≡ 0 = ap max_locals_in (from.bare method is) in
        omega (arith, one, other)
    by_code (Some code) is =
        let w = from.methods method code is in
        let one : max_locals_of p method ≡ code.max_locals = ap max_locals_in is in
        let other : max_locals_of q method ≡ w.new.max_locals = ap max_locals_in w.new_is in
        let all = w.laid.locals in
        omega (arith, one, other, all)

  -- a frame at the first item of its method holds one at the first item
  pub first_old : (method : ℕ) (code : Code) → code_at p method ≡ Some code → unwrap_or (kept_item marks method 0) 0 ≡ 0
  first_old method code is = by_mark (kept_item marks method 0) refl where
    w : HasInserted q marks method code (inserted_by (plans method))
    w = from.methods method code is

    same_item : (k : ℕ) → k < length code.items → 0 ≡ w.laid.numbers k → 0 ≡ w.laid.numbers 0 → k ≡ 0
    same_item k inside here first =
        same_Some k 0
        (sym (w.laid.marked k inside) ∙ ap (mark_at (own_marks marks method)) (sym here ∙ first) ∙ w.laid.marked 0 (omega (arith, inside)))

    by_start : (k : ℕ) → kept_item marks method 0 ≡ Some k → (0 ≡ w.laid.numbers 0) ⊎ (mark_at (own_marks marks method) 0 ≡ None) → k ≡ 0
    by_start k some (inl first) = let once = w.laid.once 0 k some in same_item k once.0 once.1 first
    by_start k some (inr none) = absurd (none-some k (sym none ∙ some))

    by_mark : (o : Option ℕ) → kept_item marks method 0 ≡ o → unwrap_or (kept_item marks method 0) 0 ≡ 0
    by_mark None none = ap (λ o. unwrap_or o 0) none
    by_mark (Some k) some =
        ap (λ o. unwrap_or o 0) some
        ∙ by_start k some
        (lies_first w.new (own_marks marks method) 0 (w.laid.numbers 0)
        (all_insns_to w.calls code (starts_of (inserted_by (plans method)) ++ frees_at (inserted_by (plans method)) 0)) w.laid.start)

  -- ---- new frames

  new_locals : (method : ℕ) (arguments : List Value) → length arguments ≤ max_locals_of p method
      → take (max_locals_of p method) (new_frame q method arguments).locals ≡ (new_frame p method arguments).locals
  new_locals method arguments few = take_more arguments (max_locals_of p method) (max_locals_of q method) value.Top few (more_locals method)

  pub new_width : (method : ℕ) (arguments : List Value) → length arguments ≤ max_locals_of p method
      → length (new_frame q method arguments).locals ≡ max_locals_of q method
  new_width method arguments few =
      let more = more_locals method in
      let both = length-append arguments (replicate (max_locals_of q method - length arguments) value.Top) in
      let rest = length-replicate (max_locals_of q method - length arguments) value.Top in
      omega (arith, few, more, both, rest)

  -- what is known of it in both programs
  pub old_new : (method : ℕ) (code : Code) (arguments : List Value) → code_at p method ≡ Some code → length arguments ≤ max_locals_of p method
      → old_frame p marks (new_frame q method arguments) ≡ new_frame p method arguments
  old_new method code arguments is few =
      let item = first_old method code is in
      let locals = new_locals method arguments few in
      (λ t. record { method = method; item = item t; locals = locals t; stack = [] })

  -- the frames below another frame of the same method
  pub below_other : (above other : Frame) → other.method ≡ above.method → (callers : List Frame) → StandBelow p q facts plans marks above callers
      → StandBelow p q facts plans marks other callers
  below_other above other same [] below = tt
  below_other above other same (g ∷ callers) below = (by_kind below.0, below.1) where
    by_kind : StandsAtKept p facts plans marks g ⊎ HasNotBegun q above g → StandsAtKept p facts plans marks g ⊎ HasNotBegun q other g
    by_kind (inl stands) = inl stands
    by_kind (inr begun) = inr (record {
      starts = subst (λ m. is_start q.outline m ≡ true) (sym same) begun.starts;
      first = begun.first;
      empty = begun.empty;
      width = begun.width;
    })

  -- a frame that begins on top of others
  pub begins : (before : State) (method : ℕ) (arguments : List Value) (callers below : List Frame) → BeginsOn before.frames (new_frame q method arguments) below
      → length arguments ≤ max_locals_of p method → map (old_frame p marks) below ≡ callers → StandBelow p q facts plans marks (new_frame q method arguments) below
      → FramesGo p q facts plans marks before (new_frame p method arguments) (new_frame q method arguments) callers below
  begins before method arguments callers below on few are stand = record {
    method = refl;
    locals = new_locals method arguments few;
    stack = refl;
    top = Begins refl refl refl (new_width method arguments few) on;
    callers_are = are;
    stands_below = stand;
  }

  pub not_begun : (above : Frame) (method : ℕ) (arguments : List Value) → is_start q.outline above.method ≡ true → length arguments ≤ max_locals_of p method
      → HasNotBegun q above (new_frame q method arguments)
  not_begun above method arguments starts few = record { starts = starts; first = refl; empty = refl; width = new_width method arguments few }

  -- ---- the frame itself

  -- holders look at the locals past those of the old code alone
  pub holders_other : (x : TypedMethod) (plan : Insertions) (g other : Frame) (j : ℕ) → length other.locals ≡ length g.locals
      → ((m : ℕ) → x.code.max_locals ≤ m → word_at other.locals m ≡ word_at g.locals m) → HoldersStand facts x plan g j → HoldersStand facts x plan other j
  holders_other x plan g other j count same stand = record {
    width = count ∙ stand.width;
    references = λ h inside. subst IsReference (sym (same (local_of x.code h) (omega arith))) (stand.references h inside);
    may = λ h holder is.
        subst (λ v. (v ≡ null) ⊎ ((is_busy facts x holder.class j ≡ true) × MayHold facts x holder.site holder.class j))
        (sym (same (local_of x.code h) (omega arith))) (stand.may h holder is);
  }

  module _ (g : Frame) (callers : List Frame) (code : Code) (code_is : code_at p g.method ≡ Some code) (j : ℕ) (below : StandBelow p q facts plans marks g callers)
      (stand : HoldersStand facts (typed_method p facts.typing g.method code) (inserted_by (plans g.method)) g j) (targets : ℕ) (e : Effect)
      (uses : UsesNamed p.outline (max_locals_of p g.method) targets e) (areas : Areas) (made : List ℕ) where
    abbrev max : ℕ
    max = max_locals_of p g.method

    max_is : max_locals_of p g.method ≡ code.max_locals
    max_is = ap max_locals_in code_is

    abbrev pub new_went : ℕ → Frame
    new_went n = went (new_from (max_locals_of p g.method) g.locals g.stack areas made) e g n

    abbrev pub old_went : ℕ → Frame
    old_went m = went (old_from (max_locals_of p g.method) g.locals g.stack areas made) e (old_frame p marks g) m

    pub goes : (before : State) → before.frames ≡ g ∷ callers → kept_item marks g.method g.item ≡ Some j → (m n : ℕ)
        → GoesOn p q marks before [] (old_went m) (new_went n) code (inserted_by (plans g.method)) (from.methods g.method code code_is) j
        → IsEdge code j m → FramesGo p q facts plans marks before (old_went m) (new_went n) (map (old_frame p marks) callers) callers
    goes before frames_are item_is m n on edge =
        let given = same_gives max g.locals g.stack areas made e.gives uses.gives in
        record {
          method = refl;
          locals = same_written max g.locals g.stack areas made e.writes g.locals uses.writes;
          stack = ap (λ words. words ++ drop e.takes g.stack) given;
          top = InMethod j code code_is (from.methods g.method code code_is)
              (record {
                above = [];
                was = g;
                frames_are = frames_are;
                method = refl;
                item_is = item_is;
                holders = further_same max g.locals g.stack areas made e.writes g.locals uses.writes;
              })
              on edge
              (holders_other (typed_method p facts.typing g.method code) (inserted_by (plans g.method)) g (new_went n) j
              (written_length max g.locals g.stack areas made e.writes g.locals)
              (λ k past. further_stay max g.locals g.stack areas made k (let is = max_is in omega (arith, is, past)) e.writes g.locals uses.writes) stand);
          callers_are = refl;
          stands_below = below_other g (new_went n) refl callers below;
        }
