-- The actions of a step keep the colours of what frames share: objects that are made get the region of their home, and what is put leads on within one
-- region.
use Rattle.std.proofs.Common.{◌≡◌, ◌≢◌, ℕ, zero, suc, ◌≤◌, ◌⊎◌, Bool, true, false, cond, nat_eq, List, [], ◌∷◌, ◌++◌, length, Option, Some, None, refl, sym, ◌∙◌, ap, subst, inl, inr, slice_get, slice_set, slice_index_or, ⊎_elim, nat_lt}
use Rattle.std.specs.List.{AllByRecursion}
use Rattle.std.proofs.lemmas.Bool.{false≢true}
use Rattle.std.proofs.lemmas.List.{get_or-set_other}
use Rattle.std.proofs.lemmas.Option.{none-some, same_Some}
use Rattle.fm_base.specs.declared.kinds.Kind.{Kind}
use Rattle.fm_base.specs.declared.kinds.Kind.TheVariants as kind
use Rattle.fm_base.specs.declared.kinds.TypeRef.{TypeRef}
use Rattle.fm_cells.specs.Objects.{Object, Request, new_object}
use Rattle.fm_cells.specs.Stores.{elements_at, Store, object_at}
use Rattle.fm_cells.specs.Changes.{Choice, Take, RefuseStore, made_by, put_by, with_element, with_object}
use Rattle.fm_cells.specs.Choices.{MayReuse}
use Rattle.fm_cells.specs.Soundness.{IsOrderly}
use Rattle.fm_cells.proofs.Changes.{object_at-made_by, object_at-with_object}
use Rattle.fm_cells.proofs.Elements.{elements_at-none, elements_at-some, put_by-none, put_by-some}
use Rattle.fm_cells.proofs.Soundness.{IsOrderly-made_by, IsOrderly-with_object}
use Rattle.fm_world.specs.Programs.{kind_at, Outline}
use Rattle.fm_frames.specs.Acts.{cell_of, Choose, copied, is_there, literal_made, literal_text, literal_type, made_object, made_then, performed, Performed, Did, FullAt, LostAt, put_value, requested, set_static, Sources, value_of, with_content}
use Rattle.fm_frames.specs.Effects.{Action, Make, MakeFixed, MakeLiteral, Put, SetStatic, Start, Free, SetChain, FreeChain, Copy, Source, Plain, OfOperand, OfLocal, LocalPlus, OfPlace, OfStatic, OfMade, OfLiteral, SameOperands}
use Rattle.fm_frames.proofs.Resized.{resized_where}
use Rattle.fm_frames.specs.Elements.{cut, kept, read}
use Rattle.fm_frames.specs.NativeRows.{class_type, text_type}
use Rattle.fm_frames.specs.Sights.{type_numbered}
use Rattle.fm_frames.specs.States.{Areas, word_at}
use Rattle.fm_frames.specs.declared.values.Value.{Value}
use Rattle.fm_frames.specs.declared.values.Value.TheVariants as value
use Rattle.fm_same.proofs.CopyTypes.{copy_type}
use Rattle.fm_same.specs.Advances.{IsStill}
use Rattle.fm_same.specs.Colours.{AreAreasColoured, Colour, HasColour, IsEdgeEven, IsFixed, IsOf, LivesForEver, OfNull, OfObject}
use Rattle.fm_same.specs.Evenness.{HasNoEdge, HoldsNumbers, IsPlainKind}
use Rattle.fm_same.specs.Regions.{Everywhere, Region, Retired}
use Rattle.fm_law_sound.specs.Placing.{IsPlain, kind_in}
use Rattle.fm_law_sound.specs.Sound.{IsReference}
use Rattle.fm_same.proofs.StoreChanges.{Extends, extends-then, for_ever-is_of, for_ever-later, has-later, held_later, is_of-later, IsChanged, changed-extends, IsKept, IsMade, made-extends, Puts, put_elsewhere, put_here, set_cases, set_found}
use Rattle.fm_law_sound.proofs.ActsKeep.{zeros_at}

-- ---- what is known of sources when the step begins

-- the value has the region
abbrev pub SourceHas : Store → Colour → List Value → Region → Region → Source → Type 0
SourceHas store colour stack home r (Plain v) = IsPlain v
SourceHas store colour stack home r (OfOperand n) = HasColour store colour r (word_at stack n)
SourceHas store colour stack home r (OfMade n) = home ≡ r
SourceHas store colour stack home r (OfLiteral text) = Unit {0}
SourceHas store colour stack home r (OfLocal k) = ⊥
SourceHas store colour stack home r (LocalPlus k by) = ⊥
SourceHas store colour stack home r (OfPlace n place kind) = ⊥
SourceHas store colour stack home r (OfStatic slot) = ⊥
SourceHas store colour stack home r SameOperands = ⊥

-- the value is a reference
abbrev pub SourceLeads : List Value → Source → Type 0
SourceLeads stack (Plain v) = IsReference v
SourceLeads stack (OfOperand n) = IsReference (word_at stack n)
SourceLeads stack (OfMade n) = Unit {0}
SourceLeads stack (OfLiteral text) = Unit {0}
SourceLeads stack (OfLocal k) = ⊥
SourceLeads stack (LocalPlus k by) = ⊥
SourceLeads stack (OfPlace n place kind) = ⊥
SourceLeads stack (OfStatic slot) = ⊥
SourceLeads stack SameOperands = ⊥

-- the place of an operand's object is none for references
abbrev pub NoEdge : Outline → Store → List Value → ℕ → Source → Type 0
NoEdge o store stack place (OfOperand n) =
    (object : Object) → object_at store (cell_of (word_at stack n)) ≡ Some object → (t : TypeRef) → kind_in o object place ≡ Some (kind.Ref t) → ⊥
NoEdge o store stack place other = ⊥

-- what is put and the object that it is put into have one region; or a number is put where no
-- reference is
abbrev pub PutHas : Outline → Store → Colour → List Value → Region → Source → ℕ → Source → Kind → Type 0
PutHas o store colour stack home object place v (kind.Ref t) =
    (r : Region) × (r ≢ Retired) × SourceHas store colour stack home r object × SourceHas store colour stack home r v × SourceLeads stack v
PutHas o store colour stack home object place v other =
    (r : Region) × (r ≢ Retired) × SourceHas store colour stack home r object × NoEdge o store stack place object

abbrev pub StaticHas : Store → Colour → List Value → Region → Source → Kind → Type 0
StaticHas store colour stack home v (kind.Ref t) = SourceHas store colour stack home Everywhere v × SourceLeads stack v
StaticHas store colour stack home v other = Unit {0}

abbrev pub ActHas : Outline → Store → Colour → List Value → Region → Action → Type 0
ActHas o store colour stack home (Make t len content) = (content ≡ []) ⊎ (t ≡ text_type o)
ActHas o store colour stack home (MakeFixed t) = HasNoEdge o t
ActHas o store colour stack home (MakeLiteral text) = Unit {0}
ActHas o store colour stack home (Put object place kind v) = PutHas o store colour stack home object place v kind
ActHas o store colour stack home (SetStatic slot kind v) = StaticHas store colour stack home v kind
ActHas o store colour stack home (Start class) = Unit {0}
ActHas o store colour stack home (Free operand) = ⊥
ActHas o store colour stack home (SetChain operand to) = ⊥
ActHas o store colour stack home (FreeChain operand) = ⊥
ActHas o store colour stack home (Copy t len n) =
    HasColour store colour home (word_at stack n)
    × ((object : Object) → object_at store (cell_of (word_at stack n)) ≡ Some object → t ≡ type_numbered o object.class)

-- ---- what holds along the actions

pub record Went (o : Outline) (store : Store) (colour : Colour) (home : Region) (x : Areas) (cells : List ℕ) : Type 0 where
  pub areas : AreAreasColoured o colour x
  pub extends : Extends store x.store
  pub made : (n : ℕ) → IsOf x.store colour home (slice_index_or cells n 0)
  pub still : IsStill store colour x.store

abbrev pub WentTo : Outline → Store → Colour → Region → Performed → Type 0
WentTo o store colour home (Did x made) = Went o store colour home x made
WentTo o store colour home (FullAt x needed) = AreAreasColoured o colour x × Extends store x.store × IsStill store colour x.store
WentTo o store colour home (LostAt v) = Unit {0}

-- ---- values

pub plain_has : (store : Store) (colour : Colour) (r : Region) (v : Value) → IsPlain v → HasColour store colour r v
plain_has store colour r value.Top h = tt
plain_has store colour r (value.Int n) h = tt
plain_has store colour r (value.Long n) h = tt
plain_has store colour r (value.Ref cell) h = OfNull h

module _ (o : Outline) (store : Store) (colour : Colour) (home : Region) (locals stack : List Value) where
  abbrev sources : Areas → List ℕ → Sources
  sources x made = record { locals = locals; stack = stack; areas = x; made = made }

  pub source_has : (x : Areas) (made : List ℕ) (r : Region) (s : Source) → Went o store colour home x made → SourceHas store colour stack home r s
      → HasColour x.store colour r (value_of (sources x made) s)
  source_has x made r (Plain v) went h = plain_has x.store colour r v h
  source_has x made r (OfOperand n) went h = has-later store x.store colour r (word_at stack n) went.extends h
  source_has x made r (OfMade n) went h = subst (λ region. IsOf x.store colour region (slice_index_or made n 0)) h (went.made n)
  source_has x made r (OfLiteral text) went h = for_ever-is_of x.store colour r (slice_index_or x.literals text 0) (went.areas.literals text)
  source_has x made r (OfLocal k) went h = absurd h
  source_has x made r (LocalPlus k by) went h = absurd h
  source_has x made r (OfPlace n place kind) went h = absurd h
  source_has x made r (OfStatic slot) went h = absurd h
  source_has x made r SameOperands went h = absurd h

  pub source_leads : (x : Areas) (made : List ℕ) (s : Source) → SourceLeads stack s → IsReference (value_of (sources x made) s)
  source_leads x made (Plain v) h = h
  source_leads x made (OfOperand n) h = h
  source_leads x made (OfMade n) h = tt
  source_leads x made (OfLiteral text) h = tt
  source_leads x made (OfLocal k) h = absurd h
  source_leads x made (LocalPlus k by) h = absurd h
  source_leads x made (OfPlace n place kind) h = absurd h
  source_leads x made (OfStatic slot) h = absurd h
  source_leads x made SameOperands h = absurd h

-- the cell of a reference has its region
pub cell_has : (store : Store) (colour : Colour) (r : Region) (v : Value) → HasColour store colour r v → IsOf store colour r (cell_of v)
cell_has store colour r value.Top h = OfNull refl
cell_has store colour r (value.Int n) h = OfNull refl
cell_has store colour r (value.Long n) h = OfNull refl
cell_has store colour r (value.Ref cell) h = h

kept_reference : (t : TypeRef) (v : Value) → IsReference v → kept (kind.Ref t) v ≡ cell_of v
kept_reference t value.Top h = absurd h
kept_reference t (value.Int n) h = absurd h
kept_reference t (value.Long n) h = absurd h
kept_reference t (value.Ref cell) h = refl

-- an object that a reference of a region leads to, and that doesn't live for ever, has the region
pub object_has : (store : Store) (colour : Colour) (r : Region) (cell : ℕ) (object : Object) → IsOrderly store → IsOf store colour r cell
    → object_at store cell ≡ Some object → object.fixed ≡ false → colour object.birth ≡ r
object_has store colour r cell object orderly (OfNull e) held not_fixed =
    absurd (none-some object (sym orderly.null_not_held ∙ ap (λ c. object_at store c) (sym e) ∙ held))
object_has store colour r cell object orderly (OfObject found there (inl fixed)) held not_fixed =
    let same : found ≡ object = same_Some found object (sym there ∙ held) in
    let is : object.fixed ≡ true = ap (λ x. x.fixed) (sym same) ∙ fixed in absurd (cc)
object_has store colour r cell object orderly (OfObject found there (inr has)) held not_fixed =
    let same : found ≡ object = same_Some found object (sym there ∙ held) in ap (λ x. colour x.birth) (sym same) ∙ has

-- an element of an object of the region, where it has references
pub element_even : (o : Outline) (store : Store) (colour : Colour) (home : Region) (y : Areas) (made : List ℕ) (r : Region) (cell place : ℕ)
    → Went o store colour home y made → IsOf store colour r cell
    → ((object : Object) → object_at store cell ≡ Some object → (u : TypeRef) × (kind_in o object place ≡ Some (kind.Ref u)))
    → IsOf y.store colour r (slice_index_or (elements_at y.store cell) place 0)
element_even o store colour home y made r cell place went (OfNull e) agrees =
    let none : object_at y.store cell ≡ None = ap (λ c. object_at y.store c) e ∙ went.areas.orderly.null_not_held in
    OfNull (ap (λ (xs : List ℕ). slice_index_or xs place 0) (elements_at-none y.store cell none))
element_even o store colour home y made r cell place went (OfObject object held other) agrees =
    let kept : IsKept y.store cell object = went.extends.kept cell object held in
    let kind_is : (u : TypeRef) × (kind_in o object place ≡ Some (kind.Ref u)) = agrees object held in
    let edge : IsEdgeEven y.store colour kept.now place =
    went.areas.edges cell kept.now kept.is place kind_is.0
    (ap (λ c. kind_at o.classes (type_numbered o c) place) kept.class ∙ kind_is.1) in
    let region_is : colour kept.now.birth ≡ r = ⊎_elim
    (λ fixed. let impossible : true ≡ false = sym fixed ∙ sym kept.fixed ∙ edge.not_fixed in absurd (false≢true (sym impossible)))
    (λ has. ap colour kept.birth ∙ has) other in
    subst (λ (xs : List ℕ). IsOf y.store colour r (slice_index_or xs place 0)) (sym (elements_at-some y.store cell kept.now kept.is))
    (subst (λ region. IsOf y.store colour region (slice_index_or kept.now.elements place 0)) region_is edge.even)

-- ---- one object changes

statics_later : (store later : Store) (colour : Colour) (statics : List Value)
    → Extends store later → ((slot : ℕ) (v : Value) → slice_get statics slot ≡ Some v → HasColour store colour Everywhere v)
    → (slot : ℕ) (v : Value) → slice_get statics slot ≡ Some v → HasColour later colour Everywhere v
statics_later store later colour statics more h slot v at = has-later store later colour Everywhere v more (h slot v at)

edge_later : (store later : Store) (colour : Colour) (object : Object) (place : ℕ) → Extends store later → IsEdgeEven store colour object place
    → IsEdgeEven later colour object place
edge_later store later colour object place more h = record {
  not_fixed = h.not_fixed;
  even = is_of-later store later colour (colour object.birth) (slice_index_or object.elements place 0) more h.even;
}

-- areas with another store, of which one object is new or changed
areas_with : (o : Outline) (colour : Colour) (x : Areas) (later : Store) (cell : ℕ) (object : Object)
    → AreAreasColoured o colour x → Extends x.store later → IsOrderly later → Puts x.store later cell object
    → ((place : ℕ) (t : TypeRef) → kind_in o object place ≡ Some (kind.Ref t) → IsEdgeEven later colour object place)
    → AreAreasColoured o colour (record x { store = later })
areas_with o colour x later cell object h more orderly puts edges = record {
  orderly = orderly;
  statics = statics_later x.store later colour x.statics more h.statics;
  edges = λ q found held place t is. ⊎_elim
      (λ here. subst (λ (y : Object). kind_in o y place ≡ Some (kind.Ref t) → IsEdgeEven later colour y place) here.1 (edges place t) is)
      (λ there. edge_later x.store later colour found place more (h.edges q found there.1 place t is))
      (held_later x.store later cell object q found puts held);
  literals = λ text. for_ever-later x.store later (slice_index_or x.literals text 0) more (h.literals text);
}

-- ---- makes

-- the object as it is made, with its content
abbrev pub made_as : Store → Request → List ℕ → Object
made_as store request [] = new_object store.births request
made_as store request (element ∷ elements) = record (new_object store.births request) { elements = element ∷ elements }

abbrev pub stored_as : Store → Request → ℕ → Bool → List ℕ → Store
stored_as store request cell grows content = with_content (made_by store request (Take cell grows)) cell content

-- what `with_content` does to the object that it finds
abbrev content_in : Store → ℕ → ℕ → List ℕ → Option Object → Store
content_in store cell element elements None = store
content_in store cell element elements (Some object) = with_object store cell (record object { elements = element ∷ elements })

with_content-held : (store : Store) (cell : ℕ) (object : Object) (element : ℕ) (elements : List ℕ) → object_at store cell ≡ Some object
    → with_content store cell (element ∷ elements) ≡ with_object store cell (record object { elements = element ∷ elements })
with_content-held store cell object element elements held = ap (content_in store cell element elements) held

cond_twice : {X : Type 0} (b : Bool) (x y z : X) → cond b x (cond b y z) ≡ cond b x z
cond_twice true x y z = refl
cond_twice false x y z = refl

-- one more change of the object that was made
remade : (store middle : Store) (cell : ℕ) (first object : Object) → IsMade store middle cell first → object.birth ≡ first.birth
    → IsMade store (with_object middle cell object) cell object
remade store middle cell first object h same = record {
  puts = λ q. object_at-with_object middle cell object q ∙ ap (λ (found : Option Object). cond (nat_eq q cell) (Some object) found) (h.puts q)
      ∙ cond_twice (nat_eq q cell) (Some object) (Some first) (object_at store q);
  free = h.free;
  birth = same ∙ h.birth;
  births = h.births;
}

made_first : (store : Store) (request : Request) (cell : ℕ) (grows : Bool) → object_at store cell ≡ None
    → IsMade store (made_by store request (Take cell grows)) cell (new_object store.births request)
made_first store request cell grows free =
    record { puts = object_at-made_by store request cell grows; free = free; birth = refl; births = refl }

pub make_is : (store : Store) (request : Request) (cell : ℕ) (grows : Bool) (content : List ℕ) → object_at store cell ≡ None
    → IsMade store (stored_as store request cell grows content) cell (made_as store request content)
make_is store request cell grows [] free = made_first store request cell grows free
make_is store request cell grows (element ∷ elements) free =
    let middle : Store = made_by store request (Take cell grows) in
    let first : IsMade store middle cell (new_object store.births request) = made_first store request cell grows free in
    let held : object_at middle cell ≡ Some (new_object store.births request) =
    put_here store middle cell (new_object store.births request) first.puts in
    subst (λ later. IsMade store later cell (made_as store request (element ∷ elements)))
    (sym (with_content-held middle cell (new_object store.births request) element elements held))
    (remade store middle cell (new_object store.births request) (made_as store request (element ∷ elements)) first refl)

make_orderly : (store : Store) (request : Request) (cell : ℕ) (grows : Bool) (content : List ℕ) → IsOrderly store → MayReuse store request (Take cell grows)
    → IsOrderly (stored_as store request cell grows content)
make_orderly store request cell grows [] orderly may = IsOrderly-made_by store request cell grows orderly may
make_orderly store request cell grows (element ∷ elements) orderly may =
    let middle : Store = made_by store request (Take cell grows) in
    let held : object_at middle cell ≡ Some (new_object store.births request) =
    put_here store middle cell (new_object store.births request) (object_at-made_by store request cell grows) in
    subst IsOrderly (sym (with_content-held middle cell (new_object store.births request) element elements held))
    (IsOrderly-with_object middle cell (new_object store.births request) (made_as store request (element ∷ elements))
    (IsOrderly-made_by store request cell grows orderly may) held refl)

pub made_fixed : (store : Store) (request : Request) (content : List ℕ) → (made_as store request content).fixed ≡ request.fixed
made_fixed store request [] = refl
made_fixed store request (element ∷ elements) = refl

made_birth : (store : Store) (request : Request) (content : List ℕ) → (made_as store request content).birth ≡ store.births
made_birth store request [] = refl
made_birth store request (element ∷ elements) = refl

pub made_class : (store : Store) (request : Request) (content : List ℕ) → (made_as store request content).class ≡ request.class
made_class store request [] = refl
made_class store request (element ∷ elements) = refl

-- an object without content that doesn't live for ever, or one without places for references
abbrev pub IsBlank : Outline → Request → List ℕ → Type 0
IsBlank o request content =
    ((content ≡ []) × (request.fixed ≡ false))
    ⊎ ((object : Object) → object.class ≡ request.class → (place : ℕ) (t : TypeRef) → kind_in o object place ≡ Some (kind.Ref t) → ⊥)

blank_edges : (o : Outline) (store later : Store) (colour : Colour) (request : Request) (content : List ℕ) → IsBlank o request content
    → (place : ℕ) (t : TypeRef) → kind_in o (made_as store request content) place ≡ Some (kind.Ref t)
    → IsEdgeEven later colour (made_as store request content) place
blank_edges o store later colour request [] (inl blank) place t is =
    record { not_fixed = blank.1; even = OfNull (zeros_at request.len place) }
blank_edges o store later colour request (element ∷ elements) (inl blank) place t is = absurd (cc (blank.0))
blank_edges o store later colour request content (inr none) place t is =
    absurd (none (made_as store request content) (made_class store request content) place t is)

-- a place of what was made has its content, or 0
pub made_where : (store : Store) (request : Request) (content : List ℕ) (place : ℕ)
    → (slice_index_or (made_as store request content).elements place 0 ≡ slice_index_or content place 0)
    ⊎ (slice_index_or (made_as store request content).elements place 0 ≡ 0)
made_where store request [] place = inr (zeros_at request.len place)
made_where store request (element ∷ elements) place = inl refl

-- ---- what was made is listed

push_cases : (cells : List ℕ) (cell n : ℕ)
    → (slice_index_or (cells ++ cell ∷ []) n zero ≡ cell) ⊎ (slice_index_or (cells ++ cell ∷ []) n zero ≡ slice_index_or cells n zero)
push_cases [] cell zero = inl refl
push_cases [] cell (suc n) = inr refl
push_cases (first ∷ cells) cell zero = inr refl
push_cases (first ∷ cells) cell (suc n) = push_cases cells cell n

went_pushed : (o : Outline) (store : Store) (colour : Colour) (home : Region) (x : Areas) (made : List ℕ) (cell : ℕ) → Went o store colour home x made
    → IsOf x.store colour home cell → Went o store colour home x (made ++ cell ∷ [])
went_pushed o store colour home x made cell went new = record {
  areas = went.areas;
  extends = went.extends;
  made = λ n. ⊎_elim
      (λ last. subst (λ c. IsOf x.store colour home c) (sym last) new)
      (λ before. subst (λ c. IsOf x.store colour home c) (sym before) (went.made n))
      (push_cases made cell n);
  still = went.still;
}

-- the areas with another store, which goes on from the one before
went_stored : (o : Outline) (store : Store) (colour : Colour) (home : Region) (x : Areas) (made : List ℕ) (later : Store) → Went o store colour home x made
    → AreAreasColoured o colour (record x { store = later }) → Extends x.store later → IsStill x.store colour later
    → Went o store colour home (record x { store = later }) made
went_stored o store colour home x made later went areas more still = record {
  areas = areas;
  extends = extends-then store x.store later went.extends more;
  made = λ n. is_of-later x.store later colour home (slice_index_or made n 0) more (went.made n);
  still = λ cell object held not_fixed retired. still cell object (went.still cell object held not_fixed retired) not_fixed retired;
}

-- what a make leaves
pub record Makes (o : Outline) (store : Store) (colour : Colour) (home : Region) (made : List ℕ) (request : Request) (y : Areas) (cell : ℕ) : Type 0 where
  pub went : Went o store colour home y made
  pub object : Object
  pub held : object_at y.store cell ≡ Some object
  pub fixed : object.fixed ≡ request.fixed
  pub has : colour object.birth ≡ home

module _ (o : Outline) (store : Store) (colour : Colour) (home : Region) (new : (birth : ℕ) → store.births ≤ birth → colour birth ≡ home) where
  -- the references of what is made lead on within its region, wherever it is made
  abbrev pub HasEvenEdges : Areas → Request → List ℕ → Type 0
  HasEvenEdges x request content =
      (later : Store) → Extends x.store later → (place : ℕ) (t : TypeRef) → kind_in o (made_as x.store request content) place ≡ Some (kind.Ref t)
      → IsEdgeEven later colour (made_as x.store request content) place

  full_goes : (x : Areas) (made : List ℕ) (request : Request) (cell : ℕ) (grows : Bool) (content : List ℕ) → Went o store colour home x made
      → MayReuse x.store request (Take cell grows) → HasEvenEdges x request content
      → Makes o store colour home made request (record x { store = stored_as x.store request cell grows content }) cell
  full_goes x made request cell grows content went may edges =
      let later : Store = stored_as x.store request cell grows content in
      let object : Object = made_as x.store request content in
      let is : IsMade x.store later cell object = make_is x.store request cell grows content may.1 in
      let more : Extends x.store later = made-extends x.store later cell object is in
      let areas : AreAreasColoured o colour (record x { store = later }) =
      areas_with o colour x later cell object went.areas more
      (make_orderly x.store request cell grows content went.areas.orderly may) is.puts (edges later more) in
      record {
        went = went_stored o store colour home x made later went areas more
            (λ q old held not_fixed retired.
            let apart : q ≢ cell = λ same. none-some old (sym is.free ∙ ap (λ c. object_at x.store c) (sym same) ∙ held) in
            put_elsewhere x.store later cell object q is.puts apart ∙ held);
        object = object;
        held = put_here x.store later cell object is.puts;
        fixed = made_fixed x.store request content;
        has = ap colour (made_birth x.store request content) ∙ new x.store.births went.extends.births;
      }

  pub make_goes : (x : Areas) (made : List ℕ) (request : Request) (cell : ℕ) (grows : Bool) (content : List ℕ) → Went o store colour home x made
      → MayReuse x.store request (Take cell grows) → IsBlank o request content
      → Makes o store colour home made request (record x { store = stored_as x.store request cell grows content }) cell
  make_goes x made request cell grows content went may blank =
      full_goes x made request cell grows content went may (λ later more. blank_edges o x.store later colour request content blank)

  full_then_goes : (x : Areas) (made : List ℕ) (request : Request) (content : List ℕ) (choice : Choice) (follows : Areas → ℕ → Performed)
      → Went o store colour home x made → MayReuse x.store request choice → HasEvenEdges x request content
      → ((y : Areas) (cell : ℕ) → Makes o store colour home made request y cell → WentTo o store colour home (follows y cell))
      → WentTo o store colour home (made_then x request content choice follows)
  full_then_goes x made request content RefuseStore follows went may edges then = (went.areas, went.extends, went.still)
  full_then_goes x made request content (Take cell grows) follows went may edges then =
      then (record x { store = stored_as x.store request cell grows content }) cell (full_goes x made request cell grows content went may edges)

  made_then_goes : (x : Areas) (made : List ℕ) (request : Request) (content : List ℕ) (choice : Choice) (follows : Areas → ℕ → Performed)
      → Went o store colour home x made → MayReuse x.store request choice → IsBlank o request content
      → ((y : Areas) (cell : ℕ) → Makes o store colour home made request y cell → WentTo o store colour home (follows y cell))
      → WentTo o store colour home (made_then x request content choice follows)
  made_then_goes x made request content choice follows went may blank then =
      full_then_goes x made request content choice follows went may (λ later more. blank_edges o x.store later colour request content blank) then

  went_made : (made : List ℕ) (request : Request) (y : Areas) (cell : ℕ) → Makes o store colour home made request y cell
      → Went o store colour home y (made ++ cell ∷ [])
  went_made made request y cell h = went_pushed o store colour home y made cell h.went (OfObject h.object h.held (inr h.has))

  literal_goes : (made : List ℕ) (request : Request) (y : Areas) (text cell : ℕ) → request.fixed ≡ true → Makes o store colour home made request y cell
      → Went o store colour home (literal_made y text cell) made
  literal_goes made request y text cell fixed h = record {
    areas = record {
      orderly = h.went.areas.orderly;
      statics = h.went.areas.statics;
      edges = h.went.areas.edges;
      literals = λ other. ⊎_elim
          (λ this. subst (λ c. LivesForEver y.store c) (sym this) (IsFixed h.object h.held (h.fixed ∙ fixed)))
          (λ before. subst (λ c. LivesForEver y.store c) (sym before) (h.went.areas.literals other))
          (set_cases y.literals text cell other 0);
    };
    extends = h.went.extends;
    made = h.went.made;
    still = h.went.still;
  }

  -- ---- puts

  put_goes_at : (x : Areas) (made : List ℕ) (cell place element : ℕ) (old : Object) → Went o store colour home x made → object_at x.store cell ≡ Some old
      → (old.fixed ≡ false → colour old.birth ≢ Retired)
      → ((other : ℕ) (t : TypeRef) → kind_in o old other ≡ Some (kind.Ref t)
      → IsOf x.store colour (colour old.birth) (slice_index_or (slice_set old.elements place element) other 0))
      → Went o store colour home (record x { store = with_object x.store cell (with_element old place element) }) made
  put_goes_at x made cell place element old went held live even =
      let object : Object = with_element old place element in
      let later : Store = with_object x.store cell object in
      let is : IsChanged x.store later cell old object = record {
        puts = object_at-with_object x.store cell object;
        held = held;
        class = refl;
        birth = refl;
        fixed = refl;
        chain = refl;
        births = refl;
      } in
      let more : Extends x.store later = changed-extends x.store later cell old object is in
      let areas : AreAreasColoured o colour (record x { store = later }) =
      areas_with o colour x later cell object went.areas more (IsOrderly-with_object x.store cell old object went.areas.orderly held refl) is.puts
      (λ other t kind_is. record {
        not_fixed = (went.areas.edges cell old held other t kind_is).not_fixed;
        even = is_of-later x.store later colour (colour old.birth) (slice_index_or object.elements other 0) more (even other t kind_is);
      }) in
      went_stored o store colour home x made later went areas more
      (λ q found there not_fixed retired.
      let apart : q ≢ cell = λ same.
      let is_old : found ≡ old = same_Some found old (sym there ∙ ap (λ c. object_at x.store c) same ∙ held) in
      live (ap (λ (y : Object). y.fixed) (sym is_old) ∙ not_fixed) (ap (λ (y : Object). colour y.birth) (sym is_old) ∙ retired) in
      put_elsewhere x.store later cell object q is.puts apart ∙ there)

  put_goes : (x : Areas) (made : List ℕ) (cell place element : ℕ) (found : Option Object) → object_at x.store cell ≡ found → Went o store colour home x made
      → ((old : Object) → object_at x.store cell ≡ Some old → old.fixed ≡ false → colour old.birth ≢ Retired)
      → ((old : Object) → object_at x.store cell ≡ Some old → (other : ℕ) (t : TypeRef) → kind_in o old other ≡ Some (kind.Ref t)
      → IsOf x.store colour (colour old.birth) (slice_index_or (slice_set old.elements place element) other 0))
      → Went o store colour home (record x { store = put_by x.store cell place element }) made
  put_goes x made cell place element None none went live even =
      subst (λ later. Went o store colour home (record x { store = later }) made) (sym (put_by-none x.store cell place element none)) went
  put_goes x made cell place element (Some old) held went live even =
      subst (λ later. Went o store colour home (record x { store = later }) made) (sym (put_by-some x.store cell place element old held))
      (put_goes_at x made cell place element old went held (live old held) (even old held))

  -- a reference of the object's region is put into it
  live_object : (x : Areas) (made : List ℕ) (r : Region) (object : Value) → r ≢ Retired → Went o store colour home x made → HasColour x.store colour r object
      → (old : Object) → object_at x.store (cell_of object) ≡ Some old → old.fixed ≡ false → colour old.birth ≢ Retired
  live_object x made r object live went has old held not_fixed retired =
      live (sym (object_has x.store colour r (cell_of object) old went.areas.orderly (cell_has x.store colour r object has) held not_fixed) ∙ retired)

  reference_goes : (x : Areas) (made : List ℕ) (r : Region) (t : TypeRef) (object v : Value) (place : ℕ) → r ≢ Retired → Went o store colour home x made
      → HasColour x.store colour r object → HasColour x.store colour r v → IsReference v
      → Went o store colour home (put_value x object place (kind.Ref t) v) made
  reference_goes x made r t object v place live went of_object of_value leads =
      put_goes x made (cell_of object) place (kept (kind.Ref t) v) (object_at x.store (cell_of object)) refl went
      (live_object x made r object live went of_object)
      (λ old held other u kind_is.
      let before : IsEdgeEven x.store colour old other = went.areas.edges (cell_of object) old held other u kind_is in
      let region : colour old.birth ≡ r =
      object_has x.store colour r (cell_of object) old went.areas.orderly (cell_has x.store colour r object of_object) held before.not_fixed in
      let value_even : IsOf x.store colour (colour old.birth) (kept (kind.Ref t) v) =
      subst (λ c. IsOf x.store colour (colour old.birth) c) (sym (kept_reference t v leads))
      (subst (λ s. IsOf x.store colour s (cell_of v)) (sym region) (cell_has x.store colour r v of_value)) in
      ⊎_elim
      (λ this. subst (λ c. IsOf x.store colour (colour old.birth) c) (sym this) value_even)
      (λ that. subst (λ c. IsOf x.store colour (colour old.birth) c) (sym that) before.even)
      (set_cases old.elements place (kept (kind.Ref t) v) other 0))

  -- a number is put where no reference is
  number_goes : (x : Areas) (made : List ℕ) (r : Region) (object : Value) (place element : ℕ) → r ≢ Retired → Went o store colour home x made
      → HasColour x.store colour r object
      → ((old : Object) → object_at x.store (cell_of object) ≡ Some old → (t : TypeRef) → kind_in o old place ≡ Some (kind.Ref t) → ⊥)
      → Went o store colour home (record x { store = put_by x.store (cell_of object) place element }) made
  number_goes x made r object place element live went of_object no_edge =
      put_goes x made (cell_of object) place element (object_at x.store (cell_of object)) refl went
      (live_object x made r object live went of_object)
      (λ old held other u kind_is.
      let before : IsEdgeEven x.store colour old other = went.areas.edges (cell_of object) old held other u kind_is in
      let apart : other ≢ place = λ same. no_edge old held u (ap (λ n. kind_in o old n) (sym same) ∙ kind_is) in
      subst (λ c. IsOf x.store colour (colour old.birth) c) (sym (get_or-set_other old.elements place other element 0 apart)) before.even)

  -- ---- static fields

  static_goes : (x : Areas) (made : List ℕ) (slot : ℕ) (v : Value) → Went o store colour home x made → HasColour x.store colour Everywhere v
      → Went o store colour home (record x { statics = slice_set x.statics slot v }) made
  static_goes x made slot v went has = record {
    areas = record {
      orderly = went.areas.orderly;
      statics = λ other w at. ⊎_elim
          (λ here. subst (λ u. HasColour x.store colour Everywhere u) here.1 has)
          (λ there. went.areas.statics other w there.1)
          (set_found x.statics slot v other w at);
      edges = went.areas.edges;
      literals = went.areas.literals;
    };
    extends = went.extends;
    made = went.made;
    still = went.still;
  }

  started_goes : (x : Areas) (made : List ℕ) (started : List Bool) → Went o store colour home x made
      → Went o store colour home (record x { started = started }) made
  started_goes x made started went = record {
    areas = record {
      orderly = went.areas.orderly;
      statics = went.areas.statics;
      edges = went.areas.edges;
      literals = went.areas.literals;
    };
    extends = went.extends;
    made = went.made;
    still = went.still;
  }

-- a reference that a static field gets
cut_reference : (store : Store) (colour : Colour) (r : Region) (t : TypeRef) (v : Value) → IsReference v → HasColour store colour r v
    → HasColour store colour r (cut (kind.Ref t) v)
unfolding read
cut_reference store colour r t v leads has =
    subst (λ c. IsOf store colour r c) (sym (kept_reference t v leads)) (cell_has store colour r v has)

cut_number : (store : Store) (colour : Colour) (r : Region) (k : Kind) (v : Value) → IsPlainKind k → HasColour store colour r (cut k v)
unfolding read
cut_number store colour r kind.Boolean v h = tt
cut_number store colour r kind.Byte v h = tt
cut_number store colour r kind.Char v h = tt
cut_number store colour r kind.Short v h = tt
cut_number store colour r kind.Int v h = tt
cut_number store colour r kind.Long v h = tt
cut_number store colour r (kind.Ref t) v h = absurd h

-- ---- all actions

either_to : (o : Outline) (store : Store) (colour : Colour) (home : Region) (b : Bool) (one other : Performed) → WentTo o store colour home one
    → WentTo o store colour home other → WentTo o store colour home (cond b one other)
either_to o store colour home true one other first second = first
either_to o store colour home false one other first second = second

text_blank : (o : Outline) (t : TypeRef) (len : ℕ) (fixed : Bool) (content : List ℕ) → HoldsNumbers o → t ≡ text_type o
    → IsBlank o (requested o t len fixed) content
text_blank o t len fixed content numbers is =
    inr (λ object class. numbers.texts object len fixed (class ∙ ap (λ u. (requested o u len fixed).class) is))

literal_blank : (o : Outline) (literal len : ℕ) (content : List ℕ) → HoldsNumbers o → IsBlank o (requested o (literal_type o literal) len true) content
literal_blank o literal len content numbers = by_text (nat_lt literal (length o.texts)) where
  by_text : (b : Bool) → IsBlank o (requested o (cond b (text_type o) (class_type o)) len true) content
  by_text true = inr (λ object class. numbers.texts object len true class)
  by_text false = inr (λ object class. numbers.class_literals object len true class)

make_blank : (o : Outline) (t : TypeRef) (len : ℕ) (content : List ℕ) → HoldsNumbers o → (content ≡ []) ⊎ (t ≡ text_type o)
    → IsBlank o (requested o t len false) content
make_blank o t len content numbers (inl none) = inl (none, refl)
make_blank o t len content numbers (inr is) = text_blank o t len false content numbers is

module _ (o : Outline) (choose : Choose) (may : (s : Store) (request : Request) → MayReuse s request (choose s request)) (numbers : HoldsNumbers o) (store : Store) (colour : Colour) (home : Region) (new : (birth : ℕ) → store.births ≤ birth → colour birth ≡ home) (locals stack : List Value) where
  abbrev before : Areas → List ℕ → Sources
  before x made = sources o store colour home locals stack x made

  -- an object stays of its type
  no_edge_later : (x : Areas) (made : List ℕ) (r : Region) (v : Value) (place : ℕ) → Went o store colour home x made → IsOf store colour r (cell_of v)
      → ((object : Object) → object_at store (cell_of v) ≡ Some object → (t : TypeRef) → kind_in o object place ≡ Some (kind.Ref t) → ⊥)
      → (old : Object) → object_at x.store (cell_of v) ≡ Some old → (t : TypeRef) → kind_in o old place ≡ Some (kind.Ref t) → ⊥
  no_edge_later x made r v place went (OfNull e) none old held t is =
      none-some old (sym went.areas.orderly.null_not_held ∙ ap (λ c. object_at x.store c) (sym e) ∙ held)
  no_edge_later x made r v place went (OfObject object there other) none old held t is =
      let kept : IsKept x.store (cell_of v) object = went.extends.kept (cell_of v) object there in
      let same : kept.now ≡ old = same_Some kept.now old (sym kept.is ∙ held) in
      let class : object.class ≡ old.class = sym kept.class ∙ ap (λ (y : Object). y.class) same in
      none object there t (ap (λ c. kind_at o.classes (type_numbered o c) place) class ∙ is)

  number_put : (x : Areas) (made : List ℕ) (object v : Source) (place : ℕ) (k : Kind) → Went o store colour home x made
      → (r : Region) → r ≢ Retired → SourceHas store colour stack home r object → NoEdge o store stack place object
      → Went o store colour home (put_value x (value_of (before x made) object) place k (value_of (before x made) v)) made
  number_put x made (OfOperand n) v place k went r live has none =
      number_goes o store colour home new x made r (word_at stack n) place (kept k (value_of (before x made) v)) live went
      (source_has o store colour home locals stack x made r (OfOperand n) went has)
      (no_edge_later x made r (word_at stack n) place went (cell_has store colour r (word_at stack n) has) none)
  number_put x made other v place k went r live has none = absurd none

  put_kinds : (x : Areas) (made : List ℕ) (object v : Source) (place : ℕ) (k : Kind) → Went o store colour home x made
      → PutHas o store colour stack home object place v k
      → Went o store colour home (put_value x (value_of (before x made) object) place k (value_of (before x made) v)) made
  put_kinds x made object v place (kind.Ref t) went h =
      reference_goes o store colour home new x made h.0 t (value_of (before x made) object) (value_of (before x made) v) place h.1 went
      (source_has o store colour home locals stack x made h.0 object went h.2) (source_has o store colour home locals stack x made h.0 v went h.3)
      (source_leads o store colour home locals stack x made v h.4)
  put_kinds x made object v place k went h = number_put x made object v place k went h.0 h.1 h.2 h.3

  static_kinds : (x : Areas) (made : List ℕ) (slot : ℕ) (v : Source) (k : Kind) → Went o store colour home x made → StaticHas store colour stack home v k
      → Went o store colour home (set_static x slot k (value_of (before x made) v)) made
  static_kinds x made slot v (kind.Ref t) went h =
      static_goes o store colour home new x made slot (cut (kind.Ref t) (value_of (before x made) v)) went
      (cut_reference x.store colour Everywhere t (value_of (before x made) v) (source_leads o store colour home locals stack x made v h.1)
      (source_has o store colour home locals stack x made Everywhere v went h.0))
  static_kinds x made slot v k went h =
      static_goes o store colour home new x made slot (cut k (value_of (before x made) v)) went
      (cut_number x.store colour Everywhere k (value_of (before x made) v) tt)

  -- the elements of a copy lead where those of the object do, within one region
  copy_even : (x : Areas) (made : List ℕ) (t : TypeRef) (len n : ℕ) → Went o store colour home x made → ActHas o store colour stack home (Copy t len n)
      → HasEvenEdges o store colour home new x (requested o t len false) (copied x.store (cell_of (word_at stack n)) len)
  copy_even x made t len n went h later more place u is =
      let cell : ℕ = cell_of (word_at stack n) in
      let request : Request = requested o t len false in
      let content : List ℕ = copied x.store cell len in
      let object : Object = made_as x.store request content in
      let region : colour object.birth ≡ home = ap colour (made_birth x.store request content) ∙ new x.store.births went.extends.births in
      let old : IsOf x.store colour home (slice_index_or (elements_at x.store cell) place 0) =
      element_even o store colour home x made home cell place went (cell_has store colour home (word_at stack n) h.0)
      (λ found held. (
        u,
        ap (λ v. kind_at o.classes v place) (sym (copy_type o numbers.first t found.class (h.1 found held) ∙ h.1 found held))
            ∙ ap (λ c. kind_at o.classes (type_numbered o c) place) (sym (made_class x.store request content)) ∙ is,
      )) in
      let here : IsOf x.store colour home (slice_index_or object.elements place 0) = ⊎_elim
      (λ filled. ⊎_elim
      (λ was. subst (λ c. IsOf x.store colour home c) (sym (filled ∙ was)) old)
      (λ none. OfNull (filled ∙ none)) (resized_where (elements_at x.store cell) len place))
      (λ none. OfNull none) (made_where x.store request content place) in
      record {
        not_fixed = made_fixed x.store request content;
        even = subst (λ r. IsOf later colour r (slice_index_or object.elements place 0)) (sym region)
            (is_of-later x.store later colour home (slice_index_or object.elements place 0) more here);
      }

  -- from areas at which the actions are done so far, they keep the colours up to the last
  pub acts_go : (actions : List Action) (x : Areas) (made : List ℕ) → AllByRecursion (ActHas o store colour stack home) actions
      → Went o store colour home x made → WentTo o store colour home (performed o choose locals stack actions x made)
  unfolding performed
  acts_go [] x made h went = went
  acts_go (Make t len content ∷ more) x made h went =
      made_then_goes o store colour home new x made (requested o t len false) content (choose x.store (requested o t len false))
      (λ y cell. performed o choose locals stack more y (made ++ cell ∷ [])) went (may x.store (requested o t len false))
      (make_blank o t len content numbers h.0)
      (λ y cell makes. acts_go more y (made ++ cell ∷ []) h.1 (went_made o store colour home new made (requested o t len false) y cell makes))
  acts_go (MakeFixed t ∷ more) x made h went =
      let request : Request = requested o t 0 true in
      made_then_goes o store colour home new x made request [] (choose x.store request)
      (λ y cell. performed o choose locals stack more y (made ++ cell ∷ [])) went (may x.store request)
      (inr (λ object class place u is. h.0 object 0 true class place u is))
      (λ y cell makes. acts_go more y (made ++ cell ∷ []) h.1 (went_made o store colour home new made request y cell makes))
  acts_go (MakeLiteral text ∷ more) x made h went =
      let request : Request = requested o (literal_type o text) (length (literal_text o text)) true in
      either_to o store colour home (is_there x text) (performed o choose locals stack more x made)
      (made_object o choose (literal_type o text) (length (literal_text o text)) true (literal_text o text) x
      (λ y cell. performed o choose locals stack more (literal_made y text cell) made))
      (acts_go more x made h.1 went)
      (made_then_goes o store colour home new x made request (literal_text o text) (choose x.store request)
      (λ y cell. performed o choose locals stack more (literal_made y text cell) made) went (may x.store request)
      (literal_blank o text (length (literal_text o text)) (literal_text o text) numbers)
      (λ y cell makes. acts_go more (literal_made y text cell) made h.1 (literal_goes o store colour home new made request y text cell refl makes)))
  acts_go (Put object place k v ∷ more) x made h went =
      acts_go more (put_value x (value_of (before x made) object) place k (value_of (before x made) v)) made h.1 (put_kinds x made object v place k went h.0)
  acts_go (SetStatic slot k v ∷ more) x made h went =
      acts_go more (set_static x slot k (value_of (before x made) v)) made h.1 (static_kinds x made slot v k went h.0)
  acts_go (Start class ∷ more) x made h went =
      acts_go more (record x { started = slice_set x.started class true }) made h.1
      (started_goes o store colour home new x made (slice_set x.started class true) went)
  acts_go (Free operand ∷ more) x made h went = absurd h.0
  acts_go (SetChain operand to ∷ more) x made h went = absurd h.0
  acts_go (FreeChain operand ∷ more) x made h went = absurd h.0
  acts_go (Copy t len n ∷ more) x made h went =
      full_then_goes o store colour home new x made (requested o t len false) (copied x.store (cell_of (word_at stack n)) len)
      (choose x.store (requested o t len false)) (λ y cell. performed o choose locals stack more y (made ++ cell ∷ [])) went
      (may x.store (requested o t len false)) (copy_even x made t len n went h.0)
      (λ y cell makes. acts_go more y (made ++ cell ∷ []) h.1 (went_made o store colour home new made (requested o t len false) y cell makes))
