-- What is gone is retired, so no root leads to it: what is reached has a twin.
use Rattle.std.proofs.Common.{◌≡◌, ℕ, zero, suc, ◌<◌, ◌⊎◌, inl, inr, true, List, [], ◌∷◌, length, map, take, Option, Some, unwrap_or, refl, sym, ap, subst, ◌∙◌, arith, ⊎_elim}
use Rattle.std.specs.Prelude.{slice_get}
use Rattle.std.specs.List.{AllZip, slice_index_or}
use Rattle.std.proofs.lemmas.Bool.{cases_Bool, false≢true}
use Rattle.std.proofs.lemmas.Option.{none-some, same_Some}
use Rattle.fm_base.specs.declared.kinds.Kind.{Kind}
use Rattle.fm_base.specs.declared.kinds.Kind.TheVariants as kind
use Rattle.fm_cells.specs.Objects.{Object}
use Rattle.fm_cells.specs.Stores.{object_at, Store}
use Rattle.fm_conn.specs.Facts.{Facts}
use Rattle.fm_frames.specs.States.{Frame, State, word_at}
use Rattle.fm_frames.specs.Steps.{max_locals_of}
use Rattle.fm_frames.specs.declared.values.Value.{Value}
use Rattle.fm_frames.specs.declared.values.Value.TheVariants as value
use Rattle.fm_law_lockstep.proofs.Seen.{itself}
use Rattle.fm_law_lockstep.proofs.SinceStep.{MissingIs}
use Rattle.fm_law_lockstep.specs.Both.{Both}
use Rattle.fm_law_lockstep.specs.Reaching.{AreAtOneItem, IsUnreached}
use Rattle.fm_law_lockstep.specs.Renamed.{TogetherIsRenamed}
use Rattle.fm_law_lockstep.specs.Together.{GoTogetherAt}
use Rattle.fm_law_same_runs.specs.Beside.{Marks}
use Rattle.fm_law_same_runs.specs.Renaming.{AreRenamed, HasName, IsFrameRenamed, SameOrRetired}
use Rattle.fm_law_sound.specs.Placing.{kind_in}
use Rattle.fm_law_two_memories.specs.Pairing.{ArePaired, AreTwins, FramesPaired, Gone, none_gone, SameElement, SameValue}
use Rattle.fm_law_unwoven.specs.Kept.{old_frame, StandKept}
use Rattle.fm_same.proofs.Retiring.{dead_if_retired}
use Rattle.fm_same.specs.DeadRegions.{InLocal, InWord, IsDead, IsRoot, LeadsTo}
use Rattle.fm_place.specs.Rewriting.{Plans}
use Rattle.fm_world.specs.Programs.{Outline, Program}

module _ (o : Outline) (gone : Gone) (one other : Store) (paired : ArePaired gone o one other) where
  -- ---- values that lead to nothing that is gone

  abbrev LeadsOn : Value → Type 0
  LeadsOn v = (birth : ℕ) → gone.births birth ≡ true → ¬ LeadsTo o one v birth

  same_there : (v w : Value) → LeadsOn v → SameValue gone one other v w → SameValue none_gone one other v w
  same_there value.Top w there same = same
  same_there (value.Int n) w there same = same
  same_there (value.Long n) w there same = same
  same_there (value.Ref cell) w there (twin, is, inl found) = (twin, is, inl found)
  same_there (value.Ref cell) w there (twin, is, inr lost) =
      absurd (there lost.object.birth lost.gone_is
      (record {
        trail = [];
        last = cell.0;
        follows = refl;
        object = lost.object;
        held = lost.held;
        not_fixed = paired.loose cell.0 lost.object lost.held lost.gone_is;
        is = refl;
      }))

  all_there : (vs ws : List Value) → ((n : ℕ) (v : Value) → slice_get vs n ≡ Some v → LeadsOn v) → AllZip (SameValue gone one other) vs ws
      → AllZip (SameValue none_gone one other) vs ws
  all_there [] [] there same = tt
  all_there [] (w ∷ ws) there same = absurd same
  all_there (v ∷ vs) [] there same = absurd same
  all_there (v ∷ vs) (w ∷ ws) there same = (same_there v w (there 0 v refl) same.0, all_there vs ws (λ n u at. there (suc n) u at) same.1)

  -- one local among the first ones
  local_there : (max : ℕ) (vs ws : List Value) (k : ℕ) (v : Value) → AllZip (SameValue gone one other) vs (take max ws) → slice_get vs k ≡ Some v → LeadsOn v
      → SameValue none_gone one other v (word_at ws k)
  local_there max [] ws k v same at there = absurd (none-some v at)
  local_there zero (u ∷ vs) ws k v same at there = absurd same
  local_there (suc max) (u ∷ vs) [] k v same at there = absurd same
  local_there (suc max) (u ∷ vs) (w ∷ ws) zero v same at there =
      same_there v w there (subst (λ t. SameValue gone one other t w) (same_Some u v at) same.0)
  local_there (suc max) (u ∷ vs) (w ∷ ws) (suc k) v same at there = local_there max vs ws k v same.1 at there

  -- ---- frames

  frames_there : (p : Program) (facts : Facts) (marks : Marks) (fs gs : List Frame) → AllZip (FramesPaired gone one other) fs (map (old_frame p marks) gs)
      → ((v : Value) → IsRoot facts fs v → LeadsOn v) → AllZip (IsFrameRenamed facts one other) fs gs
  frames_there p facts marks [] [] same there = tt
  frames_there p facts marks [] (g ∷ gs) same there = absurd same
  frames_there p facts marks (f ∷ fs) [] same there = absurd same
  frames_there p facts marks (f ∷ fs) (g ∷ gs) same there =
      let pair = same.0 in (
        record {
          method = pair.method;
          locals = λ k v at live.
              local_there (max_locals_of p g.method) f.locals g.locals k v pair.locals at (there v (inl (InLocal k at live)));
          stack = all_there f.stack g.stack (λ n v at. there v (inl (InWord n at))) pair.stack;
        },
        frames_there p facts marks fs gs same.1 (λ v root. there v (inr root)),
      )

  -- the topmost frames are at one item
  one_item : (p q : Program) (facts : Facts) (plans : Plans) (marks : Marks) (fs gs : List Frame) → 0 < length fs
      → AllZip (FramesPaired gone one other) fs (map (old_frame p marks) gs) → StandKept p q facts plans marks gs → AreAtOneItem marks fs gs
  one_item p q facts plans marks [] gs some same stand = absurd (omega (arith, some))
  one_item p q facts plans marks (f ∷ fs) [] some same stand = absurd same
  one_item p q facts plans marks (f ∷ fs) (g ∷ gs) some same stand =
      stand.0.item_is ∙ ap Some (sym (ap (λ o. unwrap_or o 0) stand.0.item_is) ∙ same.0.item)

  -- ---- objects

  abbrev IsGone : ℕ → Type 0
  IsGone birth = gone.births birth ≡ true

  element_there : (k : Option Kind) (element twin : ℕ) → SameElement gone one other k element twin → SameOrRetired IsGone one other k element twin
  element_there (Some (kind.Ref t)) element twin (inl found) = inl (inl found)
  element_there (Some (kind.Ref t)) element twin (inr lost) = inr (record { object = lost.object; held = lost.held; retired = lost.gone_is })
  element_there k element twin same = same

  object_there : (cell : ℕ) (object : Object) → object_at one cell ≡ Some object → IsGone object.birth ⊎ HasName o IsGone one other object
  object_there cell object held =
      ⊎_elim (λ lost. inl lost)
      (λ stays.
      let twin = paired.objects cell object held stays in
      inr (record {
        cell = twin.cell;
        twin = twin.twin;
        held = twin.held;
        renamed = record {
          class = twin.alike.class;
          birth = twin.alike.birth;
          len = twin.alike.len;
          elements = λ place.
              element_there (kind_in o object place) (slice_index_or object.elements place 0) (slice_index_or twin.twin.elements place 0) (twin.alike.elements place);
        };
      }))
      (cases_Bool (gone.births object.birth))

  -- objects of two cells have two
  twins_apart : (cell second twin : ℕ) → AreTwins one other cell twin → AreTwins one other second twin → cell ≡ second
  twins_apart cell second twin a b =
      paired.orderly.births_apart cell second a.object b.object a.held b.held
      (sym a.born ∙ ap (λ (t : Object). t.birth) (same_Some a.second b.second (sym a.twin_held ∙ b.twin_held)) ∙ b.born)

-- ---- what is left out

module _ (o : Outline) (facts : Facts) (x y : State) (R S : ℕ → Type 0)
    (weaker : (cell : ℕ) (object : Object) → object_at x.areas.store cell ≡ Some object → R object.birth → S object.birth) where
  element_weaker : (k : Option Kind) (element twin : ℕ) → SameOrRetired R x.areas.store y.areas.store k element twin
      → SameOrRetired S x.areas.store y.areas.store k element twin
  element_weaker (Some (kind.Ref t)) element twin (inl same) = inl same
  element_weaker (Some (kind.Ref t)) element twin (inr leads) =
      inr (record { object = leads.object; held = leads.held; retired = weaker element leads.object leads.held leads.retired })
  element_weaker k element twin same = same

  name_weaker : (object : Object) → HasName o R x.areas.store y.areas.store object → HasName o S x.areas.store y.areas.store object
  name_weaker object name = record {
    cell = name.cell;
    twin = name.twin;
    held = name.held;
    renamed = record {
      class = name.renamed.class;
      birth = name.renamed.birth;
      len = name.renamed.len;
      elements = λ place.
          element_weaker (kind_in o object place) (slice_index_or object.elements place 0) (slice_index_or name.twin.elements place 0) (name.renamed.elements place);
    };
  }

  pub renamed_weaker : AreRenamed o facts R x y → AreRenamed o facts S x y
  renamed_weaker renamed = record {
    objects = λ cell object held.
        ⊎_elim (λ lost. inl (weaker cell object held lost)) (λ name. inr (name_weaker object name)) (renamed.objects cell object held);
    apart = renamed.apart;
    frames = renamed.frames;
    statics = renamed.statics;
  }

-- ---- states that go together

-- nothing leads to what is gone, as it is retired
dead : (b : Both) (x y : State) (t : GoTogetherAt b x y) (birth : ℕ) → t.gone.births birth ≡ true → IsDead b.one b.facts birth x x
dead b x y t birth lost =
    dead_if_retired b.one b.facts x x t.colour birth t.known.coloured (t.retired birth lost) (itself b.one b.facts x t.colour t.known.coloured)

gone_renamed : (b : Both) (x y : State) (t : GoTogetherAt b x y) → AreRenamed b.one.outline b.facts (λ birth. t.gone.births birth ≡ true) x y
gone_renamed b x y t = record {
  objects = object_there b.one.outline t.gone x.areas.store y.areas.store t.paired.areas.store;
  apart = twins_apart b.one.outline t.gone x.areas.store y.areas.store t.paired.areas.store;
  frames = frames_there b.one.outline t.gone x.areas.store y.areas.store t.paired.areas.store b.one b.facts b.marks x.frames y.frames t.paired.frames
      (λ v root birth lost. (dead b x y t birth lost).no_root v root);
  statics = all_there b.one.outline t.gone x.areas.store y.areas.store t.paired.areas.store x.areas.statics y.areas.statics
      (λ slot v at birth lost. (dead b x y t birth lost).no_static slot v at) t.paired.areas.statics;
}

pub together_is_renamed : TogetherIsRenamed
together_is_renamed b x y t = (
  one_item b.one.outline t.gone x.areas.store y.areas.store t.paired.areas.store b.one b.other b.facts b.plans b.marks x.frames y.frames
      (t.known.whole.sound.running t.goes_on) t.paired.frames t.kept.frames,
  renamed_weaker b.one.outline b.facts x y (λ birth. t.gone.births birth ≡ true) (IsUnreached b.one.outline b.facts x)
      (λ cell object held lost.
      record {
        not_fixed = λ c second there born. t.paired.areas.store.loose c second there (ap t.gone.births born ∙ lost);
        no_root = (dead b x y t object.birth lost).no_root;
        no_static = (dead b x y t object.birth lost).no_static;
      })
      (gone_renamed b x y t),
)

-- what is gone is missing in the second state
pub missing_renamed : (b : Both) (x y : State) → GoTogetherAt b x y → (S : ℕ → Type 0) → MissingIs S x.areas.store y.areas.store
    → AreRenamed b.one.outline b.facts S x y
missing_renamed b x y t S missing =
    renamed_weaker b.one.outline b.facts x y (λ birth. t.gone.births birth ≡ true) S
    (λ cell object held lost.
    missing cell object held
    (λ twin second there same.
    false≢true (sym (t.paired.areas.store.absent twin second there) ∙ ap t.gone.births same ∙ lost))) (gone_renamed b x y t)
