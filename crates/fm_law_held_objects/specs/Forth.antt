-- What a holder of a chain has stays in it, or is freed: where Keeping and Freeing say that what it has then it had before, this says what becomes of what it had.
use Rattle.std.specs.Prelude.{Contains, List, Some, [], length, slice_get, true, ℕ, ◌+◌, ◌<◌, ◌∷◌, ◌≡◌, ◌≢◌, ◌⊎◌}
use Rattle.fm_cells.specs.Soundness.{IsOrderly}
use Rattle.fm_cells.specs.Stores.{Store}
use Rattle.fm_chain.specs.Chained.{looped_at}
use Rattle.fm_code.specs.declared.code_array.Code.{Code}
use Rattle.fm_conn.specs.Facts.{Facts}
use Rattle.fm_frames.specs.Acts.{cell_of}
use Rattle.fm_frames.specs.States.{Areas, Frame, State, word_at}
use Rattle.fm_frames.specs.declared.values.Value.{Value}
use Rattle.fm_law_held_objects.specs.Held.{AreHeld, HolderHas}
use Rattle.fm_law_held_objects.specs.Initialised.{IsInitialised}
use Rattle.fm_law_holders.specs.Holding.{HasOther, Holding, HoldsFreeable}
use Rattle.fm_law_holders.specs.NewResults.{GoesOnBehind, HasNewResult, KeepsObjects}
use Rattle.fm_law_holders.specs.Uninitialised.{AreMadeIn, Made}
use Rattle.fm_law_sound.specs.Sound.{Typings}
use Rattle.fm_law_two_memories.specs.Pairing.{AreasPaired, Gone}
use Rattle.fm_law_unwoven.specs.Doing.{all_areas_after, all_locals_after, areas_after, joins_in, locals_after}
use Rattle.fm_law_unwoven.specs.Laid.{to_keep}
use Rattle.fm_place.specs.Insertions.{Holder, Insertions}
use Rattle.fm_same.specs.Colours.{Colour}
use Rattle.fm_types.specs.States.{TypeState}
use Rattle.fm_types.specs.Typed.{state_at}
use Rattle.fm_world.specs.Programs.{Outline, Program}
use Rattle.fm_law_held_objects.specs.Laws.{AreThere, frees_of}

-- Where these holders of a frame get a value: each chain of the frame has what it had, and those of these holders have that value's object too; holders of
-- other frames have what they had, and no object comes to be held.
pub record ChainsAreKept (typings : Typings) (x : State) (colour : Colour) (depth : ℕ) (code : Code) (plan : Insertions) (hs : List ℕ) (given : Value) (y later : Areas) (before locals : List Value) : Type 0 where
  pub stays : (h birth : ℕ) → h < length plan.holders → looped_at plan h ≡ true → HolderHas y.store code plan before h birth
      → HolderHas later.store code plan locals h birth
  pub gets : (h birth : ℕ) → Contains hs h → looped_at plan h ≡ true → HoldsFreeable y.store given birth → HolderHas later.store code plan locals h birth
  pub others : (other : ℕ) (second : Code) (inserted : Insertions) (values : List Value) → other ≢ depth
      → AreHeld typings x colour other y.store second inserted values → (h birth : ℕ) → h < length inserted.holders
      → HolderHas y.store second inserted values h birth → HolderHas later.store second inserted values h birth
  pub absent : (birth : ℕ) → ((cell : ℕ) → HasOther y.store birth cell) → (cell : ℕ) → HasOther later.store birth cell

-- Where a frame frees some of its holders: what a chain of the frame had it has, or that isn't held any longer; holders of other frames have what they had, and
-- no object comes to be held.
pub record ChainsAreFreed (typings : Typings) (x : State) (colour : Colour) (depth : ℕ) (code : Code) (plan : Insertions) (y later : Areas) (before locals : List Value) : Type 0 where
  pub stays : (h birth : ℕ) → h < length plan.holders → looped_at plan h ≡ true → HolderHas y.store code plan before h birth
      → HolderHas later.store code plan locals h birth ⊎ ((cell : ℕ) → HasOther later.store birth cell)
  pub others : (other : ℕ) (second : Code) (inserted : Insertions) (values : List Value) → other ≢ depth
      → AreHeld typings x colour other y.store second inserted values → (h birth : ℕ) → h < length inserted.holders
      → HolderHas y.store second inserted values h birth → HolderHas later.store second inserted values h birth
  pub absent : (birth : ℕ) → ((cell : ℕ) → HasOther y.store birth cell) → (cell : ℕ) → HasOther later.store birth cell

-- ---- laws

-- Where a frame frees some of its holders, what chains had they have, or it is gone.
abbrev pub FreesEmptyChains : Type 0
FreesEmptyChains =
    (gone : Gone) (o : Outline) (typings : Typings) (x : State) (colour : Colour) (depth : ℕ) (y : Areas) → AreasPaired gone o x.areas y
    → (code : Code) (plan : Insertions) (g : Frame) (hs : List ℕ) → AreThere plan hs → length g.locals ≡ code.max_locals + length plan.holders
    → AreHeld typings x colour depth y.store code plan g.locals
    → ChainsAreFreed typings x colour depth code plan y (all_areas_after code g.stack (frees_of plan hs) g.locals y) g.locals
    (all_locals_after code g.stack (frees_of plan hs) g.locals)

-- Where a holder gets a new result, which the second memory has on top of the stack, its chain has that then, and all chains what they had.
abbrev pub KeepingLinksChains : Type 0
KeepingLinksChains =
    (p : Program) (facts : Facts) (x next : State) (colour other : Colour) (made : Made) (known : TypeState) (f : Frame) (callers : List Frame)
    → GoesOnBehind p x f callers → state_at (facts.typing f.method) f.item ≡ Some known
    → (r : HasNewResult facts x next colour known f callers) → IsOrderly next.areas.store → AreMadeIn x.areas.store made known f
    → (gone : Gone) (o : Outline) (before : Store) (y : Areas) → IsOrderly before → AreasPaired gone o next.areas y
    → before.births ≡ x.areas.store.births → KeepsObjects before y.store
    → (code : Code) (plan : Insertions) (locals : List Value) → AreHeld facts.typing x colour (length callers) before code plan locals
    → AreHeld facts.typing next other (length callers) y.store code plan locals → length locals ≡ code.max_locals + length plan.holders
    → (kept : ℕ) (holder : Holder) → slice_get plan.holders kept ≡ Some holder
    → (stack : List Value) → Holding y.store other (length callers) holder.class (word_at stack 0)
    → ((birth : ℕ) → HoldsFreeable y.store (word_at stack 0) birth → HoldsFreeable next.areas.store r.result birth)
    → ((birth : ℕ) → HoldsFreeable next.areas.store r.result birth → IsInitialised facts.typing next birth)
    → ChainsAreKept facts.typing next other (length callers) code plan (kept ∷ []) (word_at stack 0) y
    (areas_after code stack locals (to_keep (looped_at plan kept) (joins_in y.store (cell_of (word_at stack 0))) kept) y) locals
    (locals_after code stack (to_keep (looped_at plan kept) (joins_in y.store (cell_of (word_at stack 0))) kept) locals)
