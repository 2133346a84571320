-- What the second memory does where holders of a frame get what a site gave, in place of what they had or before their chains.
use Rattle.std.specs.Prelude.{◌≡◌, ◌≢◌, ◌⊎◌, ◌<◌, ℕ, List, length, Contains}
use Rattle.std.specs.List.{AllZip}
use Rattle.fm_code.specs.declared.code_array.Code.{Code}
use Rattle.fm_frames.specs.States.{Areas, Frame, State}
use Rattle.fm_frames.specs.declared.values.Value.{Value}
use Rattle.fm_law_held_objects.specs.Held.{AreHeld, HolderHas}
use Rattle.fm_law_holders.specs.Holding.{HoldsFreeable}
use Rattle.fm_law_sound.specs.Sound.{Typings}
use Rattle.fm_law_two_memories.specs.Pairing.{AreasPaired, FramesPaired, Gone}
use Rattle.fm_place.specs.Insertions.{Insertions}
use Rattle.fm_same.specs.Colours.{Colour}
use Rattle.fm_world.specs.Programs.{Outline}

-- The second memory's areas lead to later ones, and a frame's locals to others, where these holders get a value: the memories and all frames stay paired, with
-- nothing more gone and no words freed, and holders held, those of this frame and those of other frames. What a holder of the frame has then it had before, or
-- is what that value leads to; what a holder of another frame has then it had before.
pub record HoldersKeep (o : Outline) (typings : Typings) (x : State) (colour : Colour) (depth : ℕ) (code : Code) (plan : Insertions) (hs : List ℕ) (given : Value) (gone : Gone) (y later : Areas) (before locals : List Value) : Type 0 where
  pub paired : AreasPaired gone o x.areas later
  pub frames : (fs gs : List Frame) → AllZip (FramesPaired gone x.areas.store y.store) fs gs → AllZip (FramesPaired gone x.areas.store later.store) fs gs
  pub words : later.freed_words ≡ y.freed_words
  pub held : AreHeld typings x colour depth later.store code plan locals
  pub others : (other : ℕ) (second : Code) (inserted : Insertions) (values : List Value) → other ≢ depth
      → AreHeld typings x colour other y.store second inserted values → AreHeld typings x colour other later.store second inserted values
  pub had : (h birth : ℕ) → h < length plan.holders → HolderHas later.store code plan locals h birth
      → HolderHas y.store code plan before h birth ⊎ (Contains hs h × HoldsFreeable later.store given birth)
  pub others_had : (other : ℕ) (second : Code) (inserted : Insertions) (values : List Value) → other ≢ depth
      → AreHeld typings x colour other y.store second inserted values → (h birth : ℕ) → h < length inserted.holders
      → HolderHas later.store second inserted values h birth → HolderHas y.store second inserted values h birth
