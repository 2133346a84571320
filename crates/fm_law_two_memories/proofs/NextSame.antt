-- What comes next after the actions of a step leads paired states to paired states.
use Rattle.std.proofs.Common.{◌≡◌, ℕ, zero, suc, ◌+◌, ◌-◌, not, inl, inr, Bool, true, false, cond, List, [], ◌∷◌, ◌++◌, length, map, take, reverse, replicate, Option, Some, None, refl, sym, ◌∙◌, ap, subst, slice_set}
use Rattle.std.specs.List.{AllByRecursion, AllZip}
use Rattle.std.proofs.lemmas.List.{reverse-append}
use Rattle.std.proofs.lemmas.List.Elements.{length_all_zip}
use Rattle.fm_base.specs.declared.kinds.TypeRef.{TypeRef}
use Rattle.fm_cells.specs.Stores.{object_at, Store}
use Rattle.fm_types.proofs.Zips.{zip-append, zip-drop, zip-set}
use Rattle.fm_types.specs.Named.{class_of_method}
use Rattle.fm_world.specs.Programs.{Outline, Program}
use Rattle.fm_frames.proofs.Throwing.{type_of}
use Rattle.fm_frames.specs.Acts.{cell_of, same_cell, Sources, value_of}
use Rattle.fm_frames.specs.Effects.{Calls, Effect, Enters, Exits, Falls, Faults, Jumps, JumpsIfSame, Next, Returns, Source, Throws}
use Rattle.fm_frames.specs.Sights.{type_numbered}
use Rattle.fm_frames.specs.States.{Areas, Frame, State, word_at}
use Rattle.fm_frames.specs.Steps.{caught, caught_in, Caught, continued, fault_of, handler_of, InFrames, is_start, Leaves, max_locals_of, new_frame, offset_at, returned, start_frames, stopped, target_at, thrown_by, type_at, went, written}
use Rattle.fm_frames.specs.declared.ends.Ended.{Ended}
use Rattle.fm_frames.specs.declared.ends.Ended.TheVariants as end
use Rattle.fm_frames.specs.declared.values.Value.{Value}
use Rattle.fm_frames.specs.declared.values.Value.TheVariants as value
use Rattle.fm_law_sound.proofs.Following.{continued_is, followed}
use Rattle.fm_law_two_memories.specs.Reading.{sources_of_next}
use Rattle.fm_law_two_memories.specs.Laws.{IsSameFrom, NextKeepsPaired}
use Rattle.fm_law_two_memories.specs.Pairing.{AreasPaired, EndAlike, FramesPaired, Gone, SameEnd, SameFound, SameValue, StatesPaired}
use Rattle.fm_law_two_memories.specs.Seeing.{GoesOnByFound, IsThere}
use Rattle.fm_law_two_memories.proofs.SightsSame.{twins_alike}
use Rattle.fm_law_two_memories.proofs.SourcesSame.{word_same}
use Rattle.fm_law_two_memories.proofs.Twins.{cell_same, found_same, tests_agree}

-- ---- lists

zip_take : {X : Type 0} (R : X → X → Type 0) (n : ℕ) (xs ys : List X) → AllZip R xs ys → AllZip R (take n xs) (take n ys)
zip_take R zero xs ys h = tt
zip_take R (suc n) [] [] h = tt
zip_take R (suc n) [] (y ∷ ys) h = absurd h
zip_take R (suc n) (x ∷ xs) [] h = absurd h
zip_take R (suc n) (x ∷ xs) (y ∷ ys) h = (h.0, zip_take R n xs ys h.1)

zip_reverse : {X : Type 0} (R : X → X → Type 0) (xs ys : List X) → AllZip R xs ys → AllZip R (reverse xs) (reverse ys)
zip_reverse R [] [] h = tt
zip_reverse R [] (y ∷ ys) h = absurd h
zip_reverse R (x ∷ xs) [] h = absurd h
zip_reverse R (x ∷ xs) (y ∷ ys) h =
    subst (λ zs. AllZip R (reverse (x ∷ xs)) zs) (sym (reverse-append (y ∷ []) ys))
    (subst (λ zs. AllZip R zs (reverse ys ++ y ∷ [])) (sym (reverse-append (x ∷ []) xs))
    (zip-append R (reverse xs) (reverse ys) (x ∷ []) (y ∷ []) (zip_reverse R xs ys h.1) (h.0, tt)))

zip_copies : {X : Type 0} (R : X → X → Type 0) (x : X) → R x x → (n : ℕ) → AllZip R (replicate n x) (replicate n x)
zip_copies R x same zero = tt
zip_copies R x same (suc n) = (same, zip_copies R x same n)

-- ---- frames

module _ (gone : Gone) (p : Program) (one other : Store) where
  abbrev S : Value → Value → Type 0
  S v w = SameValue gone one other v w

  abbrev F : Frame → Frame → Type 0
  F f g = FramesPaired gone one other f g

  pub new_same : (method : ℕ) (vs ws : List Value) → AllZip S vs ws → F (new_frame p method vs) (new_frame p method ws)
  new_same method vs ws h = record {
    method = refl;
    item = refl;
    locals = zip-append S vs ws (replicate (max_locals_of p method - length vs) value.Top) (replicate (max_locals_of p method - length ws) value.Top) h
        (subst (λ n. AllZip S (replicate (max_locals_of p method - length vs) value.Top) (replicate (max_locals_of p method - n) value.Top))
        (length_all_zip S vs ws h) (zip_copies S value.Top refl (max_locals_of p method - length vs)));
    stack = tt;
  }

  pub starts_same : (methods : List ℕ) → AllZip F (start_frames p methods) (start_frames p methods)
  starts_same [] = tt
  starts_same (m ∷ methods) = (new_same m [] [] tt, starts_same methods)

  -- a frame that is where another one is, with its own words
  abbrev standing : Frame → Frame → Frame
  standing f g = record { method = f.method; item = f.item; locals = g.locals; stack = g.stack }

  stands_so : (f g : Frame) → F f g → g ≡ standing f g
  stands_so f g h = λ i. record { method = h.method i; item = h.item i; locals = g.locals; stack = g.stack }

  target_same : (f g : Frame) (n : ℕ) → F f g → target_at p g n ≡ target_at p f n
  target_same f g n h = ap (λ fr. target_at p fr n) (stands_so f g h)

  handler_same : (t : TypeRef) (f g : Frame) → F f g → handler_of p g t ≡ handler_of p f t
  handler_same t f g h = ap (λ fr. handler_of p fr t) (stands_so f g h)

  -- ---- exceptions

  abbrev CaughtSame : Caught → Caught → Type 0
  CaughtSame (InFrames fs) c = (gs : List Frame) × (c ≡ InFrames gs) × AllZip F fs gs
  CaughtSame (Leaves e) c = (c ≡ Leaves e) × SameEnd gone one other e e

  left_same : (b : Bool) (e : Ended) → SameEnd gone one other e e → (below second : Caught) → CaughtSame below second
      → CaughtSame (cond b (Leaves e) below) (cond b (Leaves e) second)
  left_same true e same below second h = (refl, same)
  left_same false e same below second h = h

  in_same : (v w : Value) → S v w → (f g : Frame) (fs gs : List Frame) → F f g → AllZip F fs gs → (found : Option ℕ) (below second : Caught)
      → CaughtSame below second → CaughtSame (caught_in p v f fs found below) (caught_in p w g gs found second)
  in_same v w same f g fs gs h rest (Some handler) below second later = (
    record g { item = handler; stack = w ∷ [] } ∷ gs,
    refl,
    (record { method = h.method; item = refl; locals = h.locals; stack = (same, tt) }, rest),
  )
  in_same v w same f g fs gs h rest None below second later =
      subst (λ fr. CaughtSame (caught_in p v f fs None below) (caught_in p w fr gs None second)) (sym (stands_so f g h))
      (left_same (is_start p.outline f.method) (end.InitFailed (record { 0 = class_of_method p.outline f.method })) refl below second later)

  caught_same : (t : TypeRef) (v w : Value) → S v w → (fs gs : List Frame) → AllZip F fs gs → CaughtSame (caught p t v fs) (caught p t w gs)
  unfolding caught
  caught_same t v w same [] [] h = (refl, refl)
  caught_same t v w same [] (g ∷ gs) h = absurd h
  caught_same t v w same (f ∷ fs) [] h = absurd h
  caught_same t v w same (f ∷ fs) (g ∷ gs) h =
      subst (λ found. CaughtSame (caught_in p v f fs (handler_of p f t) (caught p t v fs)) (caught_in p w g gs found (caught p t w gs)))
      (sym (handler_same t f g h.0))
      (in_same v w same f g fs gs h.0 h.1 (handler_of p f t) (caught p t v fs) (caught p t w gs) (caught_same t v w same fs gs h.1))

type_same : (gone : Gone) (o : Outline) (x y : Areas) → AreasPaired gone o x y → (v w : Value) → SameValue gone x.store y.store v w
    → IsThere gone x.store (cell_of v) → type_at o y.store w ≡ type_at o x.store v
type_same gone o x y paired v w same there =
    by_cells (cell_of v) (cell_of w) (found_same gone x.store y.store (cell_of v) (cell_of w) there (cell_same gone x.store y.store v w same)) where
      by_cells : (a b : ℕ) → SameFound x.store y.store a b → type_of o (object_at y.store b) ≡ type_of o (object_at x.store a)
      by_cells a b (inl null) =
          ap (type_of o) (ap (object_at y.store) null.1 ∙ paired.store.other_orderly.null_not_held)
          ∙ sym (ap (type_of o) (ap (object_at x.store) null.0 ∙ paired.store.orderly.null_not_held))
      by_cells a b (inr t) =
          ap (type_of o) t.twin_held ∙ ap (type_numbered o) (twins_alike gone o x.store y.store paired.store a b t).class
          ∙ sym (ap (type_of o) t.held)

-- ---- what comes next

module _ (gone : Gone) (p : Program) (from second : Sources) (z w : State) (areas : AreasPaired gone p.outline z.areas w.areas) (frames : AllZip (FramesPaired gone z.areas.store w.areas.store) z.frames w.frames) (input : w.input ≡ z.input) (depth : w.depth ≡ z.depth) (steps : w.steps ≡ z.steps) (ended : EndAlike gone z.areas.store w.areas.store z.ended w.ended) where
  abbrev one : Store
  one = z.areas.store

  abbrev other : Store
  other = w.areas.store

  abbrev o : Outline
  o = p.outline

  with_frames : (fs gs : List Frame) → AllZip (FramesPaired gone one other) fs gs → StatesPaired gone o (record z { frames = fs }) (record w { frames = gs })
  with_frames fs gs h = record { frames = h; areas = areas; input = input; depth = depth; steps = steps; ended = ended }

  stopped_same : (a b : Ended) → SameEnd gone one other a b → StatesPaired gone o (stopped z a) (stopped w b)
  stopped_same a b h = record { frames = frames; areas = areas; input = input; depth = depth; steps = steps; ended = (b, refl, h) }

  fault_same : (v u : Value) → SameValue gone one other v u → (fs gs : List Frame) → AllZip (FramesPaired gone one other) fs gs
      → SameEnd gone one other (fault_of p (record z { frames = fs }) v) (fault_of p (record w { frames = gs }) u)
  fault_same v u same [] [] h = (cell_of u, refl, cell_same gone one other v u same)
  fault_same v u same [] (g ∷ gs) h = absurd h
  fault_same v u same (f ∷ fs) [] h = absurd h
  fault_same v u same (f ∷ fs) (g ∷ gs) h = (
    cell_of u,
    ap (λ (fr : Frame). end.Fault (record { 0 = fr.method }) (offset_at p fr) (cell_of u)) (stands_so gone p one other f g h.0),
    cell_same gone one other v u same,
  )

  either_same : (b : Bool) (a c : State) (d e : State) → StatesPaired gone o a d → StatesPaired gone o c e → StatesPaired gone o (cond b a c) (cond b d e)
  either_same true a c d e first later = first
  either_same false a c d e first later = later

  thrown_same : (t : TypeRef) (c d : Caught) → CaughtSame gone p one other c d → StatesPaired gone o (thrown_by z c) (thrown_by w d)
  thrown_same t (InFrames fs) d h = subst (λ k. StatesPaired gone o (record z { frames = fs }) (thrown_by w k)) (sym h.1) (with_frames fs h.0 h.2)
  thrown_same t (Leaves e) d h = subst (λ k. StatesPaired gone o (stopped z e) (thrown_by w k)) (sym h.0) (stopped_same e e h.1)

  module _ (P : Source → Type 0) (fits : (s : Source) → P s → SameValue gone one other (value_of from s) (value_of second s)) (e : Effect) (f g : Frame) (callers others : List Frame) (frame : FramesPaired gone one other f g) (below : AllZip (FramesPaired gone one other) callers others) (writes : AllByRecursion P (map (λ (it : ℕ × Source). it.1) e.writes)) (gives : AllByRecursion P e.gives) where
    gives_same : (sources : List Source) → AllByRecursion P sources → AllZip (SameValue gone one other) (map (value_of from) sources) (map (value_of second) sources)
    gives_same [] all = tt
    gives_same (s ∷ sources) all = (fits s all.0, gives_same sources all.1)

    written_same : (ws : List (ℕ × Source)) → AllByRecursion P (map (λ (it : ℕ × Source). it.1) ws) → (vs us : List Value)
        → AllZip (SameValue gone one other) vs us → AllZip (SameValue gone one other) (written from ws vs) (written second ws us)
    written_same [] all vs us h = h
    written_same (it ∷ ws) all vs us h =
        written_same ws all.1 (slice_set vs it.0 (value_of from it.1)) (slice_set us it.0 (value_of second it.1))
        (zip-set (SameValue gone one other) it.0 (value_of from it.1) (value_of second it.1) vs us (fits it.1 all.0) h)

    went_same : (item there : ℕ) → there ≡ item → AllZip (FramesPaired gone one other) (went from e f item ∷ callers) (went second e g there ∷ others)
    went_same item there is = (
      record {
        method = frame.method;
        item = is;
        locals = written_same e.writes writes f.locals g.locals frame.locals;
        stack = zip-append (SameValue gone one other) _ _ _ _ (gives_same e.gives gives) (zip-drop (SameValue gone one other) e.takes f.stack g.stack frame.stack);
      },
      below,
    )

    tests_same : IsThere gone one (cell_of (word_at f.stack 0)) → IsThere gone one (cell_of (word_at f.stack 1))
        → same_cell (word_at g.stack 0) (word_at g.stack 1) ≡ same_cell (word_at f.stack 0) (word_at f.stack 1)
    tests_same there other_there =
        tests_agree gone o one other areas.store (word_at f.stack 0) (word_at f.stack 1) (word_at g.stack 0) (word_at g.stack 1)
        (word_same gone one other f.stack g.stack 0 frame.stack) (word_same gone one other f.stack g.stack 1 frame.stack) there other_there

    returned_same : (n : ℕ) (fs gs : List Frame) → AllZip (FramesPaired gone one other) fs gs → StatesPaired gone o (returned p n f fs z) (returned p n g gs w)
    returned_same n [] [] h = stopped_same end.Returned end.Returned refl
    returned_same n [] (d ∷ gs) h = absurd h
    returned_same n (c ∷ fs) [] h = absurd h
    returned_same n (c ∷ fs) (d ∷ gs) h =
        subst (λ m. StatesPaired gone o (returned p n f (c ∷ fs) z)
        (cond (is_start o m) (record w { frames = d ∷ gs }) (record w { frames = record d { item = d.item + 1; stack = take n g.stack ++ d.stack } ∷ gs })))
        (sym frame.method)
        (either_same (is_start o f.method) _ _ _ _ (with_frames (c ∷ fs) (d ∷ gs) h)
        (with_frames (record c { item = c.item + 1; stack = take n f.stack ++ c.stack } ∷ fs)
        (record d { item = d.item + 1; stack = take n g.stack ++ d.stack } ∷ gs) (
          record {
            method = h.0.method;
            item = ap (λ m. m + 1) h.0.item;
            locals = h.0.locals;
            stack = zip-append (SameValue gone one other) _ _ _ _ (zip_take (SameValue gone one other) n f.stack g.stack frame.stack) h.0.stack;
          },
          h.1,
        )))

    pub next_same : (next : Next) → AllByRecursion P (sources_of_next next) → GoesOnByFound gone one from f next
        → StatesPaired gone o (followed p from e f callers z next) (followed p second e g others w next)
    next_same Falls thrown found = with_frames _ _ (went_same (f.item + 1) (g.item + 1) (ap (λ n. n + 1) frame.item))
    next_same (Jumps n) thrown found = with_frames _ _ (went_same (target_at p f n) (target_at p g n) (target_same gone p one other f g n frame))
    next_same (JumpsIfSame same) thrown found =
        with_frames _ _ (went_same _ _
        (ap (λ b. cond (cond same b (not b)) (target_at p g 0) (g.item + 1)) (tests_same found.0 found.1)
        ∙ ap (λ (it : ℕ). cond (cond same is_same (not is_same)) it (g.item + 1)) (target_same gone p one other f g 0 frame)
        ∙ ap (λ n. cond (cond same is_same (not is_same)) (target_at p f 0) (n + 1)) frame.item)) where
          is_same : Bool
          is_same = same_cell (word_at f.stack 0) (word_at f.stack 1)
    next_same (Calls m) thrown found =
        with_frames _ _ (
          new_same gone p one other m _ _ (zip_reverse (SameValue gone one other) _ _ (zip_take (SameValue gone one other) e.takes f.stack g.stack frame.stack)),
          (record { method = frame.method; item = frame.item; locals = frame.locals; stack = zip-drop (SameValue gone one other) e.takes f.stack g.stack frame.stack }, below),
        )
    next_same (Returns n) thrown found = returned_same n callers others below
    next_same (Throws source) thrown found =
        let v = value_of from source in
        let u = value_of second source in
        let same : SameValue gone one other v u = fits source thrown.0 in
        thrown_same (type_at o one v) (caught p (type_at o one v) v (f ∷ callers)) (caught p (type_at o other u) u (g ∷ others))
        (subst (λ t. CaughtSame gone p one other (caught p (type_at o one v) v (f ∷ callers)) (caught p t u (g ∷ others)))
        (sym (type_same gone o z.areas w.areas areas v u same found))
        (caught_same gone p one other (type_at o one v) v u same (f ∷ callers) (g ∷ others) (frame, below)))
    next_same (Enters methods) thrown found =
        with_frames _ _ (zip-append (FramesPaired gone one other) (start_frames p methods) (start_frames p methods) (f ∷ callers) (g ∷ others) (starts_same gone p one other methods) (frame, below))
    next_same (Exits n) thrown found = stopped_same (end.Exit n) (end.Exit n) refl
    next_same (Faults source) thrown found = stopped_same _ _ (fault_same _ _ (fits source thrown.0) z.frames w.frames frames)

pub continued_same : NextKeepsPaired
continued_same gone p from other x y areas frames input depth steps ended e f g callers others frame below writes gives thrown found =
    subst (λ s. StatesPaired gone p.outline s (continued p other e g others y)) (sym (continued_is p from e f callers x))
    (subst (λ s. StatesPaired gone p.outline (followed p from e f callers x e.next) s) (sym (continued_is p other e g others y))
    (next_same gone p from other x y areas frames input depth steps ended (IsSameFrom gone x.areas.store y.areas.store from other) (λ s same. same) e f g callers others frame below writes gives e.next thrown found))
