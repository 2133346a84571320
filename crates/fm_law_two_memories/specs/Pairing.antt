-- Two states of one program over two memories are paired where they are the same but for the cells
-- in which their objects lie (JVMS 2.7), and for objects that are gone: the second memory has freed
-- them. An object is known by its birth number: the cells of one birth correspond to each other, so
-- nobody has to number cells anew.
use Rattle.std.specs.Prelude.{◌≡◌, ℕ, ◌+◌, ◌*◌, ◌^◌, ◌<◌, ◌≤◌, ◌⊎◌, ◌==◌, ◌||◌, Bool, true, false, length, Option, Some, None, slice_index_or}
use Rattle.std.specs.List.{AllZip}
use Rattle.fm_base.specs.declared.kinds.Kind.{Kind}
use Rattle.fm_base.specs.declared.kinds.Kind.TheVariants as kind
use Rattle.fm_cells.specs.Objects.{Object, object_words}
use Rattle.fm_cells.specs.Soundness.{IsOrderly}
use Rattle.fm_cells.specs.Stores.{live_words, object_at, Store}
use Rattle.fm_world.specs.Programs.{Outline}
use Rattle.fm_frames.specs.Elements.{is_text_type}
use Rattle.fm_frames.specs.Sights.{type_numbered}
use Rattle.fm_frames.specs.States.{Areas, Frame, ref, State}
use Rattle.fm_frames.specs.declared.ends.Ended.{Ended}
use Rattle.fm_frames.specs.declared.ends.Ended.TheVariants as end
use Rattle.fm_frames.specs.declared.values.Value.{Value}
use Rattle.fm_frames.specs.declared.values.Value.TheVariants as value
use Rattle.fm_law_sound.specs.Placing.{kind_in}

-- ---- what is gone

-- the births of the objects that the first store holds and the second one has freed, and their words in all
pub record Gone : Type 0 where
  pub births : ℕ → Bool
  pub words : ℕ

-- nothing is gone
abbrev pub none_gone : Gone
none_gone = record { births = λ birth. false; words = 0 }

-- one object more is gone
abbrev pub with_gone : Gone → Object → Gone
with_gone gone object = record { births = λ birth. (birth == object.birth) || gone.births birth; words = gone.words + object_words object }

-- the cell of the first store holds an object that is gone, and the second cell isn't that of null
pub record IsGoneAt (gone : Gone) (store : Store) (cell twin : ℕ) : Type 0 where
  pub object : Object
  pub held : object_at store cell ≡ Some object
  pub gone_is : gone.births object.birth ≡ true
  pub some : 0 < twin

-- ---- cells and values

-- the cells hold objects of one birth
pub record AreTwins (one other : Store) (cell twin : ℕ) : Type 0 where
  pub object : Object
  pub held : object_at one cell ≡ Some object
  pub second : Object
  pub twin_held : object_at other twin ≡ Some second
  pub born : second.birth ≡ object.birth

-- both cells are that of null, or they hold objects of one birth
abbrev pub SameFound : Store → Store → ℕ → ℕ → Type 0
SameFound one other cell twin = ((cell ≡ 0) × (twin ≡ 0)) ⊎ AreTwins one other cell twin

-- the cells correspond to each other: so it is, or the first one holds an object that is gone
abbrev pub SameCell : Gone → Store → Store → ℕ → ℕ → Type 0
SameCell gone one other cell twin = SameFound one other cell twin ⊎ IsGoneAt gone one cell twin

-- numbers are equal, and references lead to cells that correspond to each other
abbrev pub SameValue : Gone → Store → Store → Value → Value → Type 0
SameValue gone one other value.Top w = w ≡ value.Top
SameValue gone one other (value.Int n) w = w ≡ value.Int n
SameValue gone one other (value.Long n) w = w ≡ value.Long n
SameValue gone one other (value.Ref cell) w = (twin : ℕ) × (w ≡ ref twin) × SameCell gone one other cell.0 twin

-- ---- objects

-- the elements of two objects at a place of this kind: where a reference is their cells correspond
-- to each other, and else they are equal
abbrev pub SameElement : Gone → Store → Store → Option Kind → ℕ → ℕ → Type 0
SameElement gone one other (Some (kind.Ref t)) element twin = SameCell gone one other element twin
SameElement gone one other k element twin = twin ≡ element

-- the objects are the same but for the cells to which they lead; chains are left out, as no program
-- without frees has any
pub record AreAlike (gone : Gone) (o : Outline) (one other : Store) (object twin : Object) : Type 0 where
  pub class : twin.class ≡ object.class
  pub birth : twin.birth ≡ object.birth
  pub pack : twin.pack ≡ object.pack
  pub fixed : twin.fixed ≡ object.fixed
  pub len : length twin.elements ≡ length object.elements
  pub units : is_text_type o (type_numbered o object.class) ≡ true → twin.elements ≡ object.elements
  pub elements : (place : ℕ) → SameElement gone one other (kind_in o object place) (slice_index_or object.elements place 0) (slice_index_or twin.elements place 0)

-- the object is held in the other store too
pub record HasTwin (gone : Gone) (o : Outline) (one other : Store) (object : Object) : Type 0 where
  pub cell : ℕ
  pub twin : Object
  pub held : object_at other cell ≡ Some twin
  pub alike : AreAlike gone o one other object twin

-- As many objects were made in each of the stores, each of the one is held in the other too unless it is gone, and as many words live, with those that are
-- gone. The words of cells that were made for the other are at most twice as many as live in the first.
pub record ArePaired (gone : Gone) (o : Outline) (one other : Store) : Type 0 where
  pub births : other.births ≡ one.births
  pub orderly : IsOrderly one
  pub other_orderly : IsOrderly other
  pub objects : (cell : ℕ) (object : Object) → object_at one cell ≡ Some object → gone.births object.birth ≡ false → HasTwin gone o one other object
  -- the other holds nothing that is gone
  pub absent : (cell : ℕ) (object : Object) → object_at other cell ≡ Some object → gone.births object.birth ≡ false
  -- what is gone was made, and doesn't live for ever
  pub past : (birth : ℕ) → gone.births birth ≡ true → birth < one.births
  pub loose : (cell : ℕ) (object : Object) → object_at one cell ≡ Some object → gone.births object.birth ≡ true → object.fixed ≡ false
  pub words : live_words other + gone.words ≡ live_words one
  pub made_words : live_words one ≤ 2 ^ 36 → other.made_words ≤ 2 * live_words one

-- ---- states

-- the frames are at one item, and have the same locals and the same words
pub record FramesPaired (gone : Gone) (one other : Store) (f g : Frame) : Type 0 where
  pub method : g.method ≡ f.method
  pub item : g.item ≡ f.item
  pub locals : AllZip (SameValue gone one other) f.locals g.locals
  pub stack : AllZip (SameValue gone one other) f.stack g.stack

-- what the frames share is the same
pub record AreasPaired (gone : Gone) (o : Outline) (x y : Areas) : Type 0 where
  pub store : ArePaired gone o x.store y.store
  pub statics : AllZip (SameValue gone x.store y.store) x.statics y.statics
  pub literals : AllZip (SameCell gone x.store y.store) x.literals y.literals
  pub started : y.started ≡ x.started

-- one end is the other, but for the cell of a fault, and for the words that are gone where words are wanting
abbrev pub SameEnd : Gone → Store → Store → Ended → Ended → Type 0
SameEnd gone one other (end.Fault method offset cell) e = (twin : ℕ) × (e ≡ end.Fault method offset twin) × SameCell gone one other cell twin
SameEnd gone one other (end.Exhausted live needed) e = (less : ℕ) × (e ≡ end.Exhausted less needed) × (less + gone.words ≡ live)
SameEnd gone one other ended e = e ≡ ended

-- both runs go on, or they end alike
abbrev pub EndAlike : Gone → Store → Store → Option Ended → Option Ended → Type 0
EndAlike gone one other None ended = ended ≡ None
EndAlike gone one other (Some e) ended = (other_end : Ended) × (ended ≡ Some other_end) × SameEnd gone one other e other_end

-- the states are the same, whichever cells their objects lie in and whatever is gone
pub record StatesPaired (gone : Gone) (o : Outline) (x y : State) : Type 0 where
  pub frames : AllZip (FramesPaired gone x.areas.store y.areas.store) x.frames y.frames
  pub areas : AreasPaired gone o x.areas y.areas
  pub input : y.input ≡ x.input
  pub depth : y.depth ≡ x.depth
  pub steps : y.steps ≡ x.steps
  pub ended : EndAlike gone x.areas.store y.areas.store x.ended y.ended
