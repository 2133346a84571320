-- A step of a program that calls no FreeMe frees nothing: what is held stays in its cell, and no words are freed.
use Rattle.std.proofs.Common.{◌≡◌, ℕ, Bool, true, false, cond, List, [], ◌∷◌, ◌++◌, length, None, refl, sym, ap, subst, ◌∙◌, arith}
use Rattle.std.specs.List.{AllByRecursion}
use Rattle.fm_cells.proofs.Choices.{lawful_choice-may}
use Rattle.fm_cells.specs.Changes.{Choice, made_by, RefuseStore, Take}
use Rattle.fm_cells.specs.Choices.{lawful}
use Rattle.fm_cells.specs.Objects.{Request}
use Rattle.fm_cells.specs.Stores.{Store}
use Rattle.fm_frames.specs.Acts.{cell_of, Choose, copied, Did, FullAt, is_there, literal_made, literal_text, literal_type, LostAt, made_object, made_then, performed, Performed, put_value, requested, set_static, Sources, value_of, with_content}
use Rattle.fm_frames.specs.Effects.{Action, Copy, Effect, Free, FreeChain, Make, MakeFixed, MakeLiteral, Put, SetChain, SetStatic, Start}
use Rattle.fm_frames.specs.States.{Areas, Frame, State, word_at}
use Rattle.fm_frames.specs.Steps.{next_effect, step}
use Rattle.fm_frames.specs.declared.values.Value.{Value}
use Rattle.fm_law_holders.proofs.BornObjects.{acts_made, OldWereThere, Went, WentTo}
use Rattle.fm_law_holders.proofs.StepsBehind.{done_areas, IsDoneTo, step_done}
use Rattle.fm_law_holders.specs.NewResults.{KeepsObjects}
use Rattle.fm_law_sound.proofs.Opening.{IsFreeless}
use Rattle.fm_law_sound.specs.Sound.{IsSoundBy, Typings}
use Rattle.fm_law_two_memories.specs.Reading.{ActsAlike}
use Rattle.fm_law_two_memories.specs.Runs.{IsWithoutFrees}
use Rattle.fm_law_two_memories.specs.Whole.{NextEffectsAreAlike}
use Rattle.fm_world.specs.Programs.{Outline, Program}

-- ---- actions

-- what does the same on both memories frees nothing
one_freeless : (o : Outline) (store : Store) (f : Frame) (action : Action) → ActsAlike o store f action → IsFreeless action
one_freeless o store f (Make t len content) alike = tt
one_freeless o store f (MakeFixed t) alike = tt
one_freeless o store f (MakeLiteral text) alike = tt
one_freeless o store f (Put object place kind v) alike = tt
one_freeless o store f (SetStatic slot kind v) alike = tt
one_freeless o store f (Start class) alike = tt
one_freeless o store f (Free operand) alike = alike
one_freeless o store f (SetChain operand to) alike = alike
one_freeless o store f (FreeChain operand) alike = alike
one_freeless o store f (Copy t len operand) alike = tt

all_freeless : (o : Outline) (store : Store) (f : Frame) (actions : List Action) → AllByRecursion (ActsAlike o store f) actions
    → AllByRecursion IsFreeless actions
all_freeless o store f [] alike = tt
all_freeless o store f (action ∷ more) alike = (one_freeless o store f action alike.0, all_freeless o store f more alike.1)

-- as many words were freed
abbrev HasFreed : ℕ → Performed → Type 0
HasFreed words (Did x made) = x.freed_words ≡ words
HasFreed words (FullAt x needed) = Unit {0}
HasFreed words (LostAt v) = Unit {0}

made_freed : (words : ℕ) (x : Areas) (request : Request) (content : List ℕ) (choice : Choice) (follows : Areas → ℕ → Performed) → x.freed_words ≡ words
    → ((y : Areas) (cell : ℕ) → y.freed_words ≡ words → HasFreed words (follows y cell)) → HasFreed words (made_then x request content choice follows)
made_freed words x request content RefuseStore follows same rest = tt
made_freed words x request content (Take cell grows) follows same rest =
    rest (record x { store = with_content (made_by x.store request (Take cell grows)) cell content }) cell same

either_freed : (words : ℕ) (b : Bool) (one other : Performed) → HasFreed words one → HasFreed words other → HasFreed words (cond b one other)
either_freed words true one other first second = first
either_freed words false one other first second = second

module _ (o : Outline) (choose : Choose) (words : ℕ) (locals stack : List Value) where
  acts_freed : (actions : List Action) (x : Areas) (made : List ℕ) → AllByRecursion IsFreeless actions → x.freed_words ≡ words
      → HasFreed words (performed o choose locals stack actions x made)
  unfolding performed
  acts_freed [] x made h same = same
  acts_freed (Make t len content ∷ more) x made h same =
      made_freed words x (requested o t len false) content (choose x.store (requested o t len false))
      (λ y cell. performed o choose locals stack more y (made ++ cell ∷ [])) same (λ y cell is. acts_freed more y (made ++ cell ∷ []) h.1 is)
  acts_freed (MakeFixed t ∷ more) x made h same =
      made_freed words x (requested o t 0 true) [] (choose x.store (requested o t 0 true))
      (λ y cell. performed o choose locals stack more y (made ++ cell ∷ [])) same (λ y cell is. acts_freed more y (made ++ cell ∷ []) h.1 is)
  acts_freed (MakeLiteral text ∷ more) x made h same =
      let request : Request = requested o (literal_type o text) (length (literal_text o text)) true in
      either_freed words (is_there x text) (performed o choose locals stack more x made)
      (made_object o choose (literal_type o text) (length (literal_text o text)) true (literal_text o text) x
      (λ y cell. performed o choose locals stack more (literal_made y text cell) made))
      (acts_freed more x made h.1 same)
      (made_freed words x request (literal_text o text) (choose x.store request)
      (λ y cell. performed o choose locals stack more (literal_made y text cell) made) same
      (λ y cell is. acts_freed more (literal_made y text cell) made h.1 is))
  acts_freed (Put object place k v ∷ more) x made h same =
      let from : Sources = record { locals = locals; stack = stack; areas = x; made = made } in
      acts_freed more (put_value x (value_of from object) place k (value_of from v)) made h.1 same
  acts_freed (SetStatic slot k v ∷ more) x made h same =
      let from : Sources = record { locals = locals; stack = stack; areas = x; made = made } in
      acts_freed more (set_static x slot k (value_of from v)) made h.1 same
  acts_freed (Start class ∷ more) x made h same = acts_freed more _ made h.1 same
  acts_freed (Free operand ∷ more) x made h same = absurd h.0
  acts_freed (SetChain operand to ∷ more) x made h same = absurd h.0
  acts_freed (FreeChain operand ∷ more) x made h same = absurd h.0
  acts_freed (Copy t len operand ∷ more) x made h same =
      made_freed words x (requested o t len false) (copied x.store (cell_of (word_at stack operand)) len) (choose x.store (requested o t len false))
      (λ y cell. performed o choose locals stack more y (made ++ cell ∷ [])) same (λ y cell is. acts_freed more y (made ++ cell ∷ []) h.1 is)

-- ---- steps

-- what is held stays in its cell, what isn't born later was there, and as many words are freed
pub record FreesNothing (x later : Areas) : Type 0 where
  pub keeps : KeepsObjects x.store later.store
  pub old : OldWereThere x.store later.store
  pub words : later.freed_words ≡ x.freed_words

module _ (alike : NextEffectsAreAlike) (p : Program) (typings : Typings) (without : IsWithoutFrees p typings) (choose : Choose) where
  module _ (z : State) (f : Frame) (callers : List Frame) (going : z.ended ≡ None) (sound : IsSoundBy p typings (record z { frames = f ∷ callers }))
      (goes : (step p (lawful choose) (record z { frames = f ∷ callers })).state.ended ≡ None) where
    abbrev e : Effect
    e = next_effect p (record z { frames = f ∷ callers })

    abbrev later : State
    later = (step p (lawful choose) (record z { frames = f ∷ callers })).state

    done : IsDoneTo p (lawful choose) z f callers later
    done = step_done p (lawful choose) z f callers going goes

    freeless : AllByRecursion IsFreeless e.actions
    freeless = all_freeless p.outline z.areas.store f e.actions (alike p typings without z f callers sound.frames.0).acts

    went : Went z.areas.store done.areas done.made
    went =
        subst (WentTo z.areas.store) done.did
        (acts_made p.outline (lawful choose) (λ store request. lawful_choice-may store request (choose store request)) z.areas.store f.locals f.stack e.actions z.areas refl freeless)

    freed_same : done.areas.freed_words ≡ z.areas.freed_words
    freed_same =
        subst (HasFreed z.areas.freed_words) done.did (acts_freed p.outline (lawful choose) z.areas.freed_words f.locals f.stack e.actions z.areas [] freeless refl)

    at_frame : FreesNothing z.areas later.areas
    at_frame = record {
      keeps = subst (λ (a : Areas). KeepsObjects z.areas.store a.store) (sym (done_areas p (lawful choose) z f callers later done))
          (λ cell object held. let now = went.extends.kept cell object held in (now.now, now.is, now.birth, now.fixed, now.chain));
      old = subst (λ (a : Areas). OldWereThere z.areas.store a.store) (sym (done_areas p (lawful choose) z f callers later done)) went.old;
      words = ap (λ (a : Areas). a.freed_words) (done_areas p (lawful choose) z f callers later done) ∙ freed_same;
    }

  by_frames : (z : State) (frames : List Frame) → z.ended ≡ None → IsSoundBy p typings (record z { frames = frames })
      → (step p (lawful choose) (record z { frames = frames })).state.ended ≡ None → FreesNothing z.areas (step p (lawful choose) (record z { frames = frames })).state.areas
  by_frames z [] going sound goes = absurd (let some = sound.running going in omega (arith, some))
  by_frames z (f ∷ callers) going sound goes = at_frame z f callers going sound goes

  -- while the run goes on
  pub nothing_freed : (x : State) → x.ended ≡ None → IsSoundBy p typings x → (step p (lawful choose) x).state.ended ≡ None
      → FreesNothing x.areas (step p (lawful choose) x).state.areas
  nothing_freed x going sound goes = by_frames x x.frames going sound goes
