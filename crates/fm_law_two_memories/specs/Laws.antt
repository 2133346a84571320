-- The laws that the functions of `laws` prove.
use Rattle.std.specs.Prelude.{◌≡◌, ℕ, Bool, false, List, map, Some}
use Rattle.std.specs.List.{AllByRecursion, AllZip}
use Rattle.fm_base.specs.declared.kinds.Kind.{Kind}
use Rattle.fm_base.specs.declared.kinds.Kind.TheVariants as kind
use Rattle.fm_base.specs.declared.kinds.TypeRef.{TypeRef}
use Rattle.fm_cells.specs.Changes.{freed_by, made_by, Take, with_element, with_object}
use Rattle.fm_cells.specs.Choices.{MayReuse}
use Rattle.fm_cells.specs.Objects.{Object, Request}
use Rattle.fm_cells.specs.Stores.{object_at, Store}
use Rattle.fm_world.specs.Programs.{Outline, Program}
use Rattle.fm_frames.specs.Acts.{cell_of, freed, put_value, same_cell, set_static, Sources, value_of, with_content}
use Rattle.fm_frames.specs.Effects.{Effect, Source}
use Rattle.fm_frames.specs.Elements.{cut, is_text_type, kept}
use Rattle.fm_frames.specs.Sights.{sights, type_numbered}
use Rattle.fm_frames.specs.States.{Areas, Frame, State}
use Rattle.fm_frames.specs.Steps.{continued, cost, next_effect}
use Rattle.fm_frames.specs.declared.values.Value.{Value}
use Rattle.fm_law_sound.specs.Acting.{ContentFits}
use Rattle.fm_law_sound.specs.Leading.{sources_of}
use Rattle.fm_law_sound.specs.Placing.{kind_in, ReadAgrees}
use Rattle.fm_law_two_memories.specs.Hidden.{HiddenComesFirst}
use Rattle.fm_law_two_memories.specs.Pairing.{AreAlike, ArePaired, AreasPaired, EndAlike, FramesPaired, Gone, SameCell, SameElement, SameFound, SameValue, StatesPaired, with_gone}
use Rattle.fm_law_two_memories.specs.Reading.{IsOfKind, NumberAgrees, sources_of_next}
use Rattle.fm_law_two_memories.specs.Seeing.{GoesOnByFound, IsSeen, IsThere, SeesNothingGone}

-- ---- cells

-- cells that correspond to each other do so one to one, but for those of what is gone
abbrev pub CellsAreApart : Type 0
CellsAreApart =
    (gone : Gone) (o : Outline) (one other : Store) → ArePaired gone o one other → (a b c d : ℕ) → SameCell gone one other a c → SameCell gone one other b d
    → IsThere gone one a → IsThere gone one b → ((a ≡ b) → c ≡ d) × ((c ≡ d) → a ≡ b)

-- ---- values

-- the cells of the same values correspond to each other
abbrev pub CellsOfValues : Type 0
CellsOfValues = (gone : Gone) (one other : Store) (v w : Value) → SameValue gone one other v w → SameCell gone one other (cell_of v) (cell_of w)

-- two references to what isn't gone are the same on one memory where they are on the other
abbrev pub TestsAgree : Type 0
TestsAgree =
    (gone : Gone) (o : Outline) (one other : Store) → ArePaired gone o one other → (a b c d : Value) → SameValue gone one other a c → SameValue gone one other b d
    → IsThere gone one (cell_of a) → IsThere gone one (cell_of b) → same_cell c d ≡ same_cell a b

-- ---- stores

-- The same element that is put into an object that is no text and into its twin leaves the stores paired.
abbrev pub PutsKeepPaired : Type 0
PutsKeepPaired =
    (gone : Gone) (o : Outline) (one other : Store) → ArePaired gone o one other → (cell twin : ℕ) (object second : Object) → object_at one cell ≡ Some object
    → object_at other twin ≡ Some second → AreAlike gone o one other object second → (place element set_element : ℕ)
    → is_text_type o (type_numbered o object.class) ≡ false → SameElement gone one other (kind_in o object place) element set_element
    → ArePaired gone o (with_object one cell (with_element object place element)) (with_object other twin (with_element second place set_element))

-- The object that is made in each store for one request, in whichever cells that are not held, leaves the stores paired.
abbrev pub MakesKeepPaired : Type 0
MakesKeepPaired =
    (gone : Gone) (o : Outline) (one other : Store) → ArePaired gone o one other → (request : Request) (cell twin : ℕ) (grows other_grows : Bool)
    → MayReuse one request (Take cell grows) → MayReuse other request (Take twin other_grows)
    → ArePaired gone o (made_by one request (Take cell grows)) (made_by other request (Take twin other_grows))

-- Any object of the second store that may be freed may be gone: what led to it leads to what is gone.
abbrev pub FreesKeepPaired : Type 0
FreesKeepPaired =
    (gone : Gone) (o : Outline) (one other : Store) → ArePaired gone o one other → (cell : ℕ) (object : Object) → object_at other cell ≡ Some object
    → object.fixed ≡ false → ArePaired (with_gone gone object) o one (freed_by other cell)

-- So what the frames share stays paired where the second memory frees such an object.
abbrev pub FreesKeepAreas : Type 0
FreesKeepAreas =
    (gone : Gone) (o : Outline) (x y : Areas) → AreasPaired gone o x y → (cell : ℕ) (object : Object) → object_at y.store cell ≡ Some object
    → object.fixed ≡ false → AreasPaired (with_gone gone object) o x (freed y cell)

-- And so do frames, of which nothing is asked.
abbrev pub FreesKeepFrames : Type 0
FreesKeepFrames =
    (gone : Gone) (o : Outline) (x y : Areas) → AreasPaired gone o x y → (cell : ℕ) (object : Object) → object_at y.store cell ≡ Some object
    → object.fixed ≡ false → (fs gs : List Frame) → AllZip (FramesPaired gone x.store y.store) fs gs
    → AllZip (FramesPaired (with_gone gone object) x.store (freed y cell).store) fs gs

-- what is held is held later too, with its birth number
abbrev pub KeepsBirths : Store → Store → Type 0
KeepsBirths store later =
    (cell : ℕ) (object : Object) → object_at store cell ≡ Some object → (now : Object) × (object_at later cell ≡ Some now) × (now.birth ≡ object.birth)

-- what is held earlier and later is of one class
abbrev pub KeepsClasses : Store → Store → Type 0
KeepsClasses store later =
    (cell : ℕ) (object now : Object) → object_at store cell ≡ Some object → object_at later cell ≡ Some now → now.class ≡ object.class

-- The stores after an object was made in each are paired, each keeps what it held, and the new
-- objects correspond to each other.
pub record MadeAlike (gone : Gone) (o : Outline) (one other next following : Store) (cell twin : ℕ) : Type 0 where
  pub paired : ArePaired gone o next following
  pub stays : KeepsBirths one next
  pub other_stays : KeepsBirths other following
  pub twins : SameFound next following cell twin

-- So it is where the object of a request is made in each, in whichever cells that aren't held, with content that fits its type.
abbrev pub MakesAlike : Type 0
MakesAlike =
    (gone : Gone) (o : Outline) (one other : Store) → ArePaired gone o one other → (request : Request) (cell twin : ℕ) (grows other_grows : Bool)
    → MayReuse one request (Take cell grows) → MayReuse other request (Take twin other_grows) → (t : TypeRef) → type_numbered o request.class ≡ t
    → (content : List ℕ) → ContentFits o t request.len content
    → MadeAlike gone o one other (with_content (made_by one request (Take cell grows)) cell content)
    (with_content (made_by other request (Take twin other_grows)) twin content) cell twin

-- ---- effects

-- An instruction sees the same of the same words on both memories, where none leads to what is gone. So effects, which are data that go by what is seen, are equal on both.
abbrev pub SightsAgree : Type 0
SightsAgree =
    (gone : Gone) (o : Outline) (one other : Store) → ArePaired gone o one other → HiddenComesFirst o → (words others : List Value)
    → AllZip (SameValue gone one other) words others → AllByRecursion (IsSeen gone o one) words → sights o other others ≡ sights o one words

-- So paired states have one next effect, at one cost.
abbrev pub EffectsAgree : Type 0
EffectsAgree =
    (gone : Gone) (p : Program) → HiddenComesFirst p.outline → (x y : State) → StatesPaired gone p.outline x y → SeesNothingGone gone p.outline x
    → (next_effect p y ≡ next_effect p x) × (cost p y ≡ cost p x)

-- ---- sources

-- From a step's beginning on objects stay held, and of their births and classes, so that a source
-- has the same value on both memories: also once some of the step's actions are done, which made
-- these cells.
abbrev pub SourcesAgree : Type 0
SourcesAgree =
    (gone : Gone) (o : Outline) (one other : Store) (f g : Frame) → FramesPaired gone one other f g → AllByRecursion (IsSeen gone o one) f.stack → (x y : Areas) (made others : List ℕ) → AreasPaired gone o x y
    → KeepsBirths one x.store → KeepsBirths other y.store → KeepsClasses one x.store → AllZip (SameFound x.store y.store) made others
    → (s : Source) → ReadAgrees o one f.stack s → NumberAgrees o one f.stack s
    → SameValue gone x.store y.store (value_of (sources_of f x made) s) (value_of (sources_of g y others) s)

-- ---- what comes next

-- the source has the same value on both memories
abbrev pub IsSameFrom : Gone → Store → Store → Sources → Sources → Source → Type 0
IsSameFrom gone one other from second s = SameValue gone one other (value_of from s) (value_of second s)

-- Where the sources of an effect have the same values on both memories, and what is compared and what is thrown isn't gone, what comes next after the
-- actions leads paired states to paired ones: to the next item or to a target, into a method and
-- back, to a handler, to the start of classes, or to ends that are alike.
abbrev pub NextKeepsPaired : Type 0
NextKeepsPaired =
    (gone : Gone) (p : Program) (from other : Sources) (x y : State) → AreasPaired gone p.outline x.areas y.areas
    → AllZip (FramesPaired gone x.areas.store y.areas.store) x.frames y.frames → y.input ≡ x.input → y.depth ≡ x.depth → y.steps ≡ x.steps
    → EndAlike gone x.areas.store y.areas.store x.ended y.ended
    → (e : Effect) (f g : Frame) (callers others : List Frame) → FramesPaired gone x.areas.store y.areas.store f g
    → AllZip (FramesPaired gone x.areas.store y.areas.store) callers others
    → AllByRecursion (IsSameFrom gone x.areas.store y.areas.store from other) (map (λ (w : ℕ × Source). w.1) e.writes)
    → AllByRecursion (IsSameFrom gone x.areas.store y.areas.store from other) e.gives
    → AllByRecursion (IsSameFrom gone x.areas.store y.areas.store from other) (sources_of_next e.next)
    → GoesOnByFound gone x.areas.store from f e.next → StatesPaired gone p.outline (continued p from e f callers x) (continued p other e g others y)

-- ---- actions

-- What is put into an object that isn't gone and into its twin, and into a static field, leaves the areas paired, where the same is kept of it on both memories.
abbrev pub AreasPutPaired : Type 0
AreasPutPaired =
    (gone : Gone) (o : Outline) (x y : Areas) → AreasPaired gone o x y → (v w : Value) (place : ℕ) (k : Kind) (object : Object) → object_at x.store (cell_of v) ≡ Some object
    → gone.births object.birth ≡ false → kind_in o object place ≡ Some k → is_text_type o (type_numbered o object.class) ≡ false → SameCell gone x.store y.store (cell_of v) (cell_of w)
    → (u i : Value) → SameElement gone x.store y.store (Some k) (kept k u) (kept k i) → AreasPaired gone o (put_value x v place k u) (put_value y w place k i)

-- and so does what is put into a static field
abbrev pub StaticsSetPaired : Type 0
StaticsSetPaired =
    (gone : Gone) (o : Outline) (x y : Areas) (slot : ℕ) (k : Kind) (v w : Value) → AreasPaired gone o x y → SameValue gone x.store y.store (cut k v) (cut k w)
    → AreasPaired gone o (set_static x slot k v) (set_static y slot k w)

-- Of a source that has a kind the same is kept on both memories: where a number is put no reference may be read.
abbrev pub KeptAgree : Type 0
KeptAgree =
    (gone : Gone) (o : Outline) (one other : Store) (f g : Frame) → FramesPaired gone one other f g → AllByRecursion (IsSeen gone o one) f.stack → (x y : Areas) (made others : List ℕ) → AreasPaired gone o x y
    → KeepsBirths one x.store → KeepsBirths other y.store → KeepsClasses one x.store → AllZip (SameFound x.store y.store) made others
    → (k : Kind) (s : Source) → ((t : TypeRef) → k ≡ kind.Ref t → ReadAgrees o one f.stack s) → NumberAgrees o one f.stack s
    → IsOfKind k (value_of (sources_of f x made) s)
    → SameElement gone x.store y.store (Some k) (kept k (value_of (sources_of f x made) s)) (kept k (value_of (sources_of g y others) s))
