-- Actions keep whole what the frames share: an object that is made leads nowhere at first, and what is put fits its place.
use Rattle.std.proofs.Common.{◌≡◌, ℕ, zero, suc, ◌⊎◌, Bool, true, false, cond, List, [], ◌∷◌, ◌++◌, length, Some, None, refl, sym, ◌∙◌, ap, subst, inl, inr, slice_get, slice_set, slice_index_or, ⊎_elim}
use Rattle.std.proofs.lemmas.Bool.{false≢true}
use Rattle.std.proofs.lemmas.Option.{none-some, same_Some}
use Rattle.fm_base.specs.declared.kinds.Kind.{Kind}
use Rattle.fm_base.specs.declared.kinds.Kind.TheVariants as kind
use Rattle.fm_base.specs.declared.kinds.TypeRef.{TypeRef}
use Rattle.fm_cells.specs.Objects.{Object, Request}
use Rattle.fm_cells.specs.Stores.{object_at, Store}
use Rattle.fm_cells.specs.Changes.{Choice, RefuseStore, Take, with_element, with_object}
use Rattle.fm_cells.specs.Choices.{lawful, MayReuse}
use Rattle.fm_cells.proofs.Changes.{object_at-with_object}
use Rattle.fm_cells.proofs.Choices.{lawful_choice-may}
use Rattle.fm_cells.proofs.Elements.{elements_at-some, put_by-some}
use Rattle.fm_types.specs.Fits.{fits_type}
use Rattle.fm_types.proofs.LeastJoins.{same_type-eq, same_type-refl}
use Rattle.fm_world.specs.Programs.{kind_at, Outline}
use Rattle.fm_frames.specs.Acts.{cell_of, Choose, copied, Did, FullAt, is_there, literal_made, literal_text, literal_type, LostAt, made_object, made_then, performed, Performed, put_value, requested, set_static, Sources, value_of}
use Rattle.fm_frames.specs.Effects.{Action, Make, MakeFixed, MakeLiteral, Put, SetStatic, Start, Free, SetChain, FreeChain, Copy, Source, Plain, OfOperand, OfMade, OfLiteral}
use Rattle.fm_frames.specs.Elements.{cut, is_string_type, kept, read}
use Rattle.fm_frames.specs.NativeRows.{resized}
use Rattle.fm_frames.proofs.Resized.{resized_where}
use Rattle.fm_frames.specs.Sights.{has_hidden_field, type_numbered}
use Rattle.fm_frames.specs.States.{Areas, word_at}
use Rattle.fm_frames.specs.declared.values.Value.{Value}
use Rattle.fm_frames.specs.declared.values.Value.TheVariants as value
use Rattle.fm_same.proofs.ActsKeep.{made_as, made_class, made_fixed, made_where, make_is, stored_as}
use Rattle.fm_same.proofs.StoreChanges.{changed-extends, Extends, extends-refl, extends-then, held_later, IsChanged, IsKept, IsMade, made-extends, put_here, Puts}
use Rattle.fm_law_sound.specs.Placing.{kind_in}
use Rattle.fm_law_sound.specs.Sound.{IsReference, static_slots}
use Rattle.fm_law_sound.proofs.ActsKeep.{zeros_at}
use Rattle.fm_law_no_fault.specs.Doing.{ActsLead, HasNumber, HoldsNoCell, IsReferenceKind, LeavesWhole, PlaceTakes, SourceIsOf, SourceLeadsTo, StaticTakes}
use Rattle.fm_law_no_fault.specs.Whole.{AreasAreWhole, HoldsA, LeadsToA, ObjectIsWhole}
use Rattle.fm_law_no_fault.proofs.StoresKeep.{leads-later}
use Rattle.fm_world.specs.Chains.{same_type}

-- ---- lists

-- what is in a list after one place of it was set
pub set_at : {X : Type 0} (xs : List X) (i : ℕ) (x : X) (k : ℕ) (d : X)
    → ((i ≡ k) × (slice_index_or (slice_set xs i x) k d ≡ x)) ⊎ (slice_index_or (slice_set xs i x) k d ≡ slice_index_or xs k d)
set_at [] i x k d = inr refl
set_at (y ∷ xs) zero x zero d = inl (refl, refl)
set_at (y ∷ xs) zero x (suc k) d = inr refl
set_at (y ∷ xs) (suc i) x zero d = inr refl
set_at (y ∷ xs) (suc i) x (suc k) d = ⊎_elim (λ here. inl (ap suc here.0, here.1)) (λ there. inr there) (set_at xs i x k d)

-- the types and the cells of what was made, after one more
pushed_cases : (types : List TypeRef) (made : List ℕ) (t u : TypeRef) (cell n : ℕ) → length made ≡ length types → slice_get (types ++ t ∷ []) n ≡ Some u
    → ((t ≡ u) × (slice_index_or (made ++ cell ∷ []) n 0 ≡ cell))
    ⊎ ((slice_get types n ≡ Some u) × (slice_index_or (made ++ cell ∷ []) n 0 ≡ slice_index_or made n 0))
pushed_cases [] [] t u cell zero level at = inl (same_Some t u at, refl)
pushed_cases [] [] t u cell (suc n) level at = absurd (cc)
pushed_cases [] (c ∷ made) t u cell n level at = absurd (cc)
pushed_cases (x ∷ types) [] t u cell n level at = absurd (cc)
pushed_cases (x ∷ types) (c ∷ made) t u cell zero level at = inr (at, refl)
pushed_cases (x ∷ types) (c ∷ made) t u cell (suc n) level at = pushed_cases types made t u cell n (cc (level)) at

pushed_level : (types : List TypeRef) (made : List ℕ) (t : TypeRef) (cell : ℕ) → length made ≡ length types
    → length (made ++ cell ∷ []) ≡ length (types ++ t ∷ [])
pushed_level [] [] t cell level = refl
pushed_level [] (c ∷ made) t cell level = absurd (cc)
pushed_level (x ∷ types) [] t cell level = absurd (cc)
pushed_level (x ∷ types) (c ∷ made) t cell level = ap suc (pushed_level types made t cell (cc (level)))

-- ---- objects

-- an object of exactly this type lies in the cell
pub record IsAn (o : Outline) (store : Store) (t : TypeRef) (cell : ℕ) : Type 0 where
  pub object : Object
  pub held : object_at store cell ≡ Some object
  pub type_is : type_numbered o object.class ≡ t

pub an-later : (o : Outline) (store later : Store) (t : TypeRef) (cell : ℕ) → Extends store later → IsAn o store t cell → IsAn o later t cell
an-later o store later t cell more h =
    let kept : IsKept later cell h.object = more.kept cell h.object h.held in
    record { object = kept.now; held = kept.is; type_is = ap (λ c. type_numbered o c) kept.class ∙ h.type_is }

object-later : (o : Outline) (store later : Store) (object : Object) → Extends store later → ObjectIsWhole o store object → ObjectIsWhole o later object
object-later o store later object more h = record {
  elements = λ place t is. leads-later o store later more _ _ (h.elements place t is);
  hidden = λ has. leads-later o store later more _ _ (h.hidden has);
  fixed = h.fixed;
}

-- areas with another store, of which one object is new or changed
areas_with : (o : Outline) (x : Areas) (later : Store) (cell : ℕ) (object : Object) → AreasAreWhole o x → Extends x.store later
    → Puts x.store later cell object → ObjectIsWhole o later object → AreasAreWhole o (record x { store = later })
areas_with o x later cell object h more puts whole = record {
  statics = λ field t is. leads-later o x.store later more _ _ (h.statics field t is);
  literals = λ text. leads-later o x.store later more _ _ (h.literals text);
  heap = λ q found held. ⊎_elim
      (λ here. subst (λ (y : Object). ObjectIsWhole o later y) here.1 whole)
      (λ there. object-later o x.store later found more (h.heap q found there.1))
      (held_later x.store later cell object q found puts held);
}

-- ---- what holds along the actions

pub record Went (o : Outline) (store : Store) (types : List TypeRef) (x : Areas) (cells : List ℕ) : Type 0 where
  pub areas : AreasAreWhole o x
  pub extends : Extends store x.store
  pub level : length cells ≡ length types
  pub made : (n : ℕ) (t : TypeRef) → slice_get types n ≡ Some t → IsAn o x.store t (slice_index_or cells n 0)

-- the types of all that was made
abbrev pub types_after : List TypeRef → List Action → List TypeRef
types_after types [] = types
types_after types (Make t len content ∷ more) = types_after (types ++ t ∷ []) more
types_after types (MakeFixed t ∷ more) = types_after (types ++ t ∷ []) more
types_after types (Copy t len operand ∷ more) = types_after (types ++ t ∷ []) more
types_after types (action ∷ more) = types_after types more

abbrev pub WentTo : Outline → Store → List TypeRef → Performed → Type 0
WentTo o store types (Did x made) = Went o store types x made
WentTo o store types (FullAt x needed) = AreasAreWhole o x × Extends store x.store
WentTo o store types (LostAt v) = ⊥

-- the areas with another store, which goes on from the one before
went_stored : (o : Outline) (store : Store) (types : List TypeRef) (x : Areas) (made : List ℕ) (later : Store) → Went o store types x made
    → AreasAreWhole o (record x { store = later }) → Extends x.store later → Went o store types (record x { store = later }) made
went_stored o store types x made later went areas more = record {
  areas = areas;
  extends = extends-then store x.store later went.extends more;
  level = went.level;
  made = λ n t at. an-later o x.store later t (slice_index_or made n 0) more (went.made n t at);
}

-- one more object was made
went_pushed : (o : Outline) (store : Store) (types : List TypeRef) (x : Areas) (made : List ℕ) (t : TypeRef) (cell : ℕ) → Went o store types x made
    → IsAn o x.store t cell → Went o store (types ++ t ∷ []) x (made ++ cell ∷ [])
went_pushed o store types x made t cell went new = record {
  areas = went.areas;
  extends = went.extends;
  level = pushed_level types made t cell went.level;
  made = λ n u at. ⊎_elim
      (λ last. subst (λ c. IsAn o x.store u c) (sym last.1) (subst (λ w. IsAn o x.store w cell) last.0 new))
      (λ before. subst (λ c. IsAn o x.store u c) (sym before.1) (went.made n u before.0))
      (pushed_cases types made t u cell n went.level at);
}

-- ---- makes

-- an object without content that doesn't live for ever, or one of a type that has no place for references
abbrev pub IsBlank : Outline → TypeRef → Bool → List ℕ → Type 0
IsBlank o t fixed content = ((content ≡ []) × (fixed ≡ false)) ⊎ HoldsNoCell o t

module _ (o : Outline) (t : TypeRef) (len : ℕ) (fixed : Bool) (number : HasNumber o t) where
  made_type : (store : Store) (content : List ℕ) → type_numbered o (made_as store (requested o t len fixed) content).class ≡ t
  made_type store content = ap (λ c. type_numbered o c) (made_class store (requested o t len fixed) content) ∙ number

  blank_whole : (store later : Store) (content : List ℕ) → IsBlank o t fixed content
      → ObjectIsWhole o later (made_as store (requested o t len fixed) content)
  blank_whole store later [] (inl blank) = record {
    elements = λ place u is. inl (zeros_at len place);
    hidden = λ has. inl (zeros_at len 0);
    fixed = λ is place u kind_is. absurd (cc (is, blank.1));
  }
  blank_whole store later (element ∷ elements) (inl blank) = absurd (cc (blank.0))
  blank_whole store later content (inr none) =
      let is : type_numbered o (made_as store (requested o t len fixed) content).class ≡ t = made_type store content in
      record {
        elements = λ place u kind_is. absurd (none.no_reference place u (ap (λ w. kind_at o.classes w place) (sym is) ∙ kind_is));
        hidden = λ has. absurd (cc (ap (λ w. has_hidden_field o w) (sym is) ∙ has, none.no_text));
        fixed = λ lives place u kind_is. none.no_reference place u (ap (λ w. kind_at o.classes w place) (sym is) ∙ kind_is);
      }

  -- the object that is made with this content is whole, wherever it lies
  abbrev pub IsWholeSoon : Areas → List ℕ → Type 0
  IsWholeSoon x content = (later : Store) → Extends x.store later → ObjectIsWhole o later (made_as x.store (requested o t len fixed) content)

  -- an object with the elements of a whole one of its type
  pub copy_whole : (x : Areas) (cell : ℕ) (old : Object) → fixed ≡ false → object_at x.store cell ≡ Some old → type_numbered o old.class ≡ t
      → ObjectIsWhole o x.store old → IsWholeSoon x (copied x.store cell len)
  copy_whole x cell old loose held type_is whole later more = record {
    elements = λ place u is. ⊎_elim
        (λ same. subst (λ c. LeadsToA o later (λ w. fits_type o.classes w u) c) (sym same)
        (leads-later o x.store later more _ _ (whole.elements place u (ap (λ w. kind_at o.classes w place) alike ∙ is))))
        (λ none. inl none) (place_of place);
    hidden = λ has. ⊎_elim
        (λ same. subst (λ c. LeadsToA o later (is_string_type o) c) (sym same)
        (leads-later o x.store later more _ _ (whole.hidden (ap (λ w. has_hidden_field o w) alike ∙ has))))
        (λ none. inl none) (place_of 0);
    fixed = λ lives place u kind_is. absurd (false≢true (sym loose ∙ sym (made_fixed x.store (requested o t len fixed) (copied x.store cell len)) ∙ lives));
  } where
    alike : type_numbered o old.class ≡ type_numbered o (made_as x.store (requested o t len fixed) (copied x.store cell len)).class
    alike = type_is ∙ sym (made_type x.store (copied x.store cell len))

    content_at : (place : ℕ) → slice_index_or (copied x.store cell len) place 0 ≡ slice_index_or (resized old.elements len) place 0
    content_at place = ap (λ elements. slice_index_or (resized elements len) place 0) (elements_at-some x.store cell old held)

    place_of : (place : ℕ)
        → (slice_index_or (made_as x.store (requested o t len fixed) (copied x.store cell len)).elements place 0 ≡ slice_index_or old.elements place 0)
        ⊎ (slice_index_or (made_as x.store (requested o t len fixed) (copied x.store cell len)).elements place 0 ≡ 0)
    place_of place = ⊎_elim
        (λ here. ⊎_elim (λ was. inl (here ∙ content_at place ∙ was)) (λ none. inr (here ∙ content_at place ∙ none)) (resized_where old.elements len place))
        (λ none. inr none) (made_where x.store (requested o t len fixed) (copied x.store cell len) place)

  full_goes : (store : Store) (types : List TypeRef) (x : Areas) (made : List ℕ) (content : List ℕ) (cell : ℕ) (grows : Bool) → Went o store types x made
      → object_at x.store cell ≡ None → IsWholeSoon x content
      → Went o store types (record x { store = stored_as x.store (requested o t len fixed) cell grows content }) made
      × IsAn o (stored_as x.store (requested o t len fixed) cell grows content) t cell
  full_goes store types x made content cell grows went free whole =
      let object : Object = made_as x.store (requested o t len fixed) content in
      let later : Store = stored_as x.store (requested o t len fixed) cell grows content in
      let is : IsMade x.store later cell object = make_is x.store (requested o t len fixed) cell grows content free in
      let more : Extends x.store later = made-extends x.store later cell object is in (
        went_stored o store types x made later went
            (areas_with o x later cell object went.areas more is.puts (whole later more)) more,
        record { object = object; held = put_here x.store later cell object is.puts; type_is = made_type x.store content },
      )

  full_then_goes : (store : Store) (types final : List TypeRef) (x : Areas) (made : List ℕ) (content : List ℕ) (choice : Choice)
      (follows : Areas → ℕ → Performed) → Went o store types x made → MayReuse x.store (requested o t len fixed) choice → IsWholeSoon x content
      → ((y : Areas) (cell : ℕ) → Went o store types y made → IsAn o y.store t cell → WentTo o store final (follows y cell))
      → WentTo o store final (made_then x (requested o t len fixed) content choice follows)
  full_then_goes store types final x made content RefuseStore follows went may whole then = (went.areas, went.extends)
  full_then_goes store types final x made content (Take cell grows) follows went may whole then =
      let goes = full_goes store types x made content cell grows went may.1 whole in
      then (record x { store = stored_as x.store (requested o t len fixed) cell grows content }) cell goes.0 goes.1

  made_goes : (store : Store) (types final : List TypeRef) (x : Areas) (made : List ℕ) (content : List ℕ) (choice : Choice)
      (follows : Areas → ℕ → Performed) → Went o store types x made → MayReuse x.store (requested o t len fixed) choice → IsBlank o t fixed content
      → ((y : Areas) (cell : ℕ) → Went o store types y made → IsAn o y.store t cell → WentTo o store final (follows y cell))
      → WentTo o store final (made_then x (requested o t len fixed) content choice follows)
  made_goes store types final x made content choice follows went may blank then =
      full_then_goes store types final x made content choice follows went may (λ later more. blank_whole x.store later content blank) then

literal_goes : (o : Outline) (store : Store) (types : List TypeRef) (y : Areas) (made : List ℕ) (text cell : ℕ) → Went o store types y made
    → IsAn o y.store (literal_type o text) cell → Went o store types (literal_made y text cell) made
literal_goes o store types y made text cell went is =
    let leads : LeadsToA o y.store (same_type (literal_type o text)) cell =
    inr (record { object = is.object; held = is.held; passes = ap (same_type (literal_type o text)) is.type_is ∙ same_type-refl (literal_type o text) }) in
    record {
      areas = record {
        statics = went.areas.statics;
        literals = λ other. ⊎_elim
            (λ this. subst (λ c. LeadsToA o y.store (same_type (literal_type o other)) c) (sym this.1)
            (subst (λ n. LeadsToA o y.store (same_type (literal_type o n)) cell) this.0 leads))
            (λ before. subst (λ c. LeadsToA o y.store (same_type (literal_type o other)) c) (sym before) (went.areas.literals other))
            (set_at y.literals text cell other 0);
        heap = went.areas.heap;
      };
      extends = went.extends;
      level = went.level;
      made = went.made;
    }

-- ---- values

kept_reference : (k : Kind) (v : Value) → IsReferenceKind k → IsReference v → kept k v ≡ cell_of v
kept_reference (kind.Ref t) (value.Ref cell) is leads = refl
kept_reference (kind.Ref t) value.Top is leads = absurd leads
kept_reference (kind.Ref t) (value.Int n) is leads = absurd leads
kept_reference (kind.Ref t) (value.Long n) is leads = absurd leads
kept_reference k v is leads = absurd is

cut_reference : (k : Kind) (v : Value) → IsReferenceKind k → IsReference v → cell_of (cut k v) ≡ cell_of v
unfolding read
cut_reference (kind.Ref t) (value.Ref cell) is leads = refl
cut_reference (kind.Ref t) value.Top is leads = absurd leads
cut_reference (kind.Ref t) (value.Int n) is leads = absurd leads
cut_reference (kind.Ref t) (value.Long n) is leads = absurd leads
cut_reference k v is leads = absurd is

module _ (o : Outline) (store : Store) (locals stack : List Value) (types : List TypeRef) (x : Areas) (made : List ℕ) (went : Went o store types x made) where
  abbrev sources : Sources
  sources = record { locals = locals; stack = stack; areas = x; made = made }

  pub source_leads : (test : TypeRef → Bool) (s : Source) → SourceLeadsTo o store stack types test s
      → IsReference (value_of sources s) × LeadsToA o x.store test (cell_of (value_of sources s))
  source_leads test (Plain (value.Ref cell)) h = (tt, inl (ap cell_of h))
  source_leads test (Plain value.Top) h = absurd (cc)
  source_leads test (Plain (value.Int n)) h = absurd (cc)
  source_leads test (Plain (value.Long n)) h = absurd (cc)
  source_leads test (OfOperand n) h = (h.0, leads-later o store x.store went.extends test (cell_of (word_at stack n)) h.1)
  source_leads test (OfMade n) h =
      let is : IsAn o x.store h.0 (slice_index_or made n 0) = went.made n h.0 h.1 in
      (tt, inr (record { object = is.object; held = is.held; passes = ap test is.type_is ∙ h.2 }))
  source_leads test (OfLiteral text) h = (
    tt,
    ⊎_elim
        (λ e. inl e)
        (λ (is : HoldsA o x.store (same_type (literal_type o text)) (slice_index_or x.literals text 0)).
        inr (record {
          object = is.object;
          held = is.held;
          passes = subst (λ t. test t ≡ true) (same_type-eq (literal_type o text) (type_numbered o is.object.class) is.passes) h;
        }))
        (went.areas.literals text),
  )
  source_leads test other h = absurd h

  pub source_is_of : (t : TypeRef) (s : Source) → SourceIsOf o store stack types t s → IsAn o x.store t (cell_of (value_of sources s))
  source_is_of t (OfOperand n) h =
      an-later o store x.store t (cell_of (word_at stack n)) went.extends (record { object = h.0; held = h.1; type_is = h.2 })
  source_is_of t (OfMade n) h = went.made n t h
  source_is_of t other h = absurd h

  -- what is kept of the source leads on
  kept_leads : (later : Store) → Extends x.store later → (k : Kind) (test : TypeRef → Bool) (s : Source) → IsReferenceKind k
      → SourceLeadsTo o store stack types test s → LeadsToA o later test (kept k (value_of sources s))
  kept_leads later more k test s is h =
      let leads = source_leads test s h in
      subst (λ c. LeadsToA o later test c) (sym (kept_reference k (value_of sources s) is leads.0)) (leads-later o x.store later more test _ leads.1)

  put_whole : (later : Store) → Extends x.store later → (t : TypeRef) (place : ℕ) (k : Kind) (v : Source) (old : Object)
      → type_numbered o old.class ≡ t → PlaceTakes o store stack types t place k v → ObjectIsWhole o x.store old
      → ObjectIsWhole o later (with_element old place (kept k (value_of sources v)))
  put_whole later more t place k v old type_is takes whole = record {
    elements = λ other u is. ⊎_elim
        (λ here.
        let given = takes.reference u (ap (λ w. kind_at o.classes w place) (sym type_is) ∙ ap (λ n. kind_in o old n) here.0 ∙ is) in
        subst (λ c. LeadsToA o later (λ w. fits_type o.classes w u) c) (sym here.1) (kept_leads later more k _ v given.0 given.1))
        (λ there.
        subst (λ c. LeadsToA o later (λ w. fits_type o.classes w u) c) (sym there) (leads-later o x.store later more _ _ (whole.elements other u is)))
        (set_at old.elements place (kept k (value_of sources v)) other 0);
    hidden = λ has. ⊎_elim
        (λ here.
        let given = takes.text here.0 (ap (λ w. has_hidden_field o w) (sym type_is) ∙ has) in
        subst (λ c. LeadsToA o later (is_string_type o) c) (sym here.1) (kept_leads later more k _ v given.0 given.1))
        (λ there. subst (λ c. LeadsToA o later (is_string_type o) c) (sym there) (leads-later o x.store later more _ _ (whole.hidden has)))
        (set_at old.elements place (kept k (value_of sources v)) 0 0);
    fixed = whole.fixed;
  }

  put_goes : (t : TypeRef) (object : Source) (place : ℕ) (k : Kind) (v : Source) → SourceIsOf o store stack types t object
      → PlaceTakes o store stack types t place k v
      → Went o store types (put_value x (value_of sources object) place k (value_of sources v)) made
  put_goes t object place k v of takes =
      let is : IsAn o x.store t (cell_of (value_of sources object)) = source_is_of t object of in
      let cell : ℕ = cell_of (value_of sources object) in
      let element : ℕ = kept k (value_of sources v) in
      let now : Object = with_element is.object place element in
      let later : Store = with_object x.store cell now in
      let change : IsChanged x.store later cell is.object now = record {
        puts = object_at-with_object x.store cell now;
        held = is.held;
        class = refl;
        birth = refl;
        fixed = refl;
        chain = refl;
        births = refl;
      } in
      let more : Extends x.store later = changed-extends x.store later cell is.object now change in
      subst (λ s. Went o store types (record x { store = s }) made) (sym (put_by-some x.store cell place element is.object is.held))
      (went_stored o store types x made later went
      (areas_with o x later cell now went.areas more change.puts
      (put_whole later more t place k v is.object is.type_is takes (went.areas.heap cell is.object is.held))) more)

  static_goes : (field : ℕ) (k : Kind) (v : Source) → StaticTakes o store stack types field k v
      → Went o store types (set_static x field k (value_of sources v)) made
  static_goes field k v takes = record {
    areas = record {
      statics = λ other t is. ⊎_elim
          (λ here.
          let given = takes t (ap (λ n. slice_get (static_slots o) n) here.0 ∙ is) in
          let leads = source_leads (λ w. fits_type o.classes w t) v given.1 in
          subst (λ c. LeadsToA o x.store (λ w. fits_type o.classes w t) c)
          (sym (ap cell_of here.1 ∙ cut_reference k (value_of sources v) given.0 leads.0)) leads.1)
          (λ there. subst (λ w. LeadsToA o x.store (λ u. fits_type o.classes u t) (cell_of w)) (sym there) (went.areas.statics other t is))
          (set_at x.statics field (cut k (value_of sources v)) other value.Top);
      literals = went.areas.literals;
      heap = went.areas.heap;
    };
    extends = went.extends;
    level = went.level;
    made = went.made;
  }

started_goes : (o : Outline) (store : Store) (types : List TypeRef) (x : Areas) (made : List ℕ) (started : List Bool) → Went o store types x made
    → Went o store types (record x { started = started }) made
started_goes o store types x made started went = record {
  areas = record { statics = went.areas.statics; literals = went.areas.literals; heap = went.areas.heap };
  extends = went.extends;
  level = went.level;
  made = went.made;
}

-- ---- all actions

either_to : (o : Outline) (store : Store) (types : List TypeRef) (b : Bool) (one other : Performed) → WentTo o store types one → WentTo o store types other
    → WentTo o store types (cond b one other)
either_to o store types true one other first second = first
either_to o store types false one other first second = second

make_blank : (o : Outline) (t : TypeRef) (content : List ℕ) → (content ≡ []) ⊎ HoldsNoCell o t → IsBlank o t false content
make_blank o t content (inl none) = inl (none, refl)
make_blank o t content (inr none) = inr none

module _ (o : Outline) (choose : Choose) (may : (s : Store) (request : Request) → MayReuse s request (choose s request)) (store : Store) (locals stack : List Value) where
  abbrev before : Areas → List ℕ → Sources
  before x made = record { locals = locals; stack = stack; areas = x; made = made }

  -- from areas at which the actions are done so far, they stay whole up to the last
  pub acts_go : (actions : List Action) (types : List TypeRef) (x : Areas) (made : List ℕ) → ActsLead o store stack types actions
      → Went o store types x made → WentTo o store (types_after types actions) (performed o choose locals stack actions x made)
  unfolding performed
  acts_go [] types x made h went = went
  acts_go (Make t len content ∷ more) types x made h went =
      made_goes o t len false h.0 store types (types_after (types ++ t ∷ []) more) x made content (choose x.store (requested o t len false))
      (λ y cell. performed o choose locals stack more y (made ++ cell ∷ [])) went (may x.store (requested o t len false)) (make_blank o t content h.1)
      (λ y cell goes is. acts_go more (types ++ t ∷ []) y (made ++ cell ∷ []) h.2 (went_pushed o store types y made t cell goes is))
  acts_go (MakeFixed t ∷ more) types x made h went =
      made_goes o t 0 true h.0 store types (types_after (types ++ t ∷ []) more) x made [] (choose x.store (requested o t 0 true))
      (λ y cell. performed o choose locals stack more y (made ++ cell ∷ [])) went (may x.store (requested o t 0 true)) (inr h.1)
      (λ y cell goes is. acts_go more (types ++ t ∷ []) y (made ++ cell ∷ []) h.2 (went_pushed o store types y made t cell goes is))
  acts_go (MakeLiteral text ∷ more) types x made h went =
      let len : ℕ = length (literal_text o text) in
      either_to o store (types_after types more) (is_there x text) (performed o choose locals stack more x made)
      (made_object o choose (literal_type o text) len true (literal_text o text) x
      (λ y cell. performed o choose locals stack more (literal_made y text cell) made))
      (acts_go more types x made h.2 went)
      (made_goes o (literal_type o text) len true h.0 store types (types_after types more) x made (literal_text o text)
      (choose x.store (requested o (literal_type o text) len true)) (λ y cell. performed o choose locals stack more (literal_made y text cell) made) went
      (may x.store (requested o (literal_type o text) len true)) (inr h.1)
      (λ y cell goes is. acts_go more types (literal_made y text cell) made h.2 (literal_goes o store types y made text cell goes is)))
  acts_go (Put object place k v ∷ more) types x made h went =
      acts_go more types (put_value x (value_of (before x made) object) place k (value_of (before x made) v)) made h.1
      (put_goes o store locals stack types x made went h.0.0 object place k v h.0.1 h.0.2)
  acts_go (SetStatic field k v ∷ more) types x made h went =
      acts_go more types (set_static x field k (value_of (before x made) v)) made h.1
      (static_goes o store locals stack types x made went field k v h.0)
  acts_go (Start class ∷ more) types x made h went =
      acts_go more types (record x { started = slice_set x.started class true }) made h
      (started_goes o store types x made (slice_set x.started class true) went)
  acts_go (Free operand ∷ more) types x made h went = absurd h
  acts_go (SetChain operand to ∷ more) types x made h went = absurd h
  acts_go (FreeChain operand ∷ more) types x made h went = absurd h
  acts_go (Copy t len n ∷ more) types x made h went =
      let cell : ℕ = cell_of (word_at stack n) in
      let is : IsAn o x.store t cell = source_is_of o store locals stack types x made went t (OfOperand n) h.1 in
      full_then_goes o t len false h.0 store types (types_after (types ++ t ∷ []) more) x made (copied x.store cell len) (choose x.store (requested o t len false))
      (λ y cell. performed o choose locals stack more y (made ++ cell ∷ [])) went (may x.store (requested o t len false))
      (copy_whole o t len false h.0 x cell is.object refl is.held is.type_is (went.areas.heap cell is.object is.held))
      (λ y cell goes is. acts_go more (types ++ t ∷ []) y (made ++ cell ∷ []) h.2 (went_pushed o store types y made t cell goes is))

-- at the beginning of a step nothing is made
pub went_first : (o : Outline) (x : Areas) → AreasAreWhole o x → Went o x.store [] x []
went_first o x areas = record { areas = areas; extends = extends-refl x.store; level = refl; made = λ n t at. absurd (none-some t at) }

leaves : (o : Outline) (store : Store) (types : List TypeRef) (result : Performed) → WentTo o store types result → LeavesWhole o result
leaves o store types (Did x made) went = went.areas
leaves o store types (FullAt x needed) went = went.0
leaves o store types (LostAt v) went = absurd went

pub acts_keep : (o : Outline) (choose : Choose) (locals stack : List Value) (x : Areas) (actions : List Action) → AreasAreWhole o x
    → ActsLead o x.store stack [] actions → LeavesWhole o (performed o (lawful choose) locals stack actions x [])
acts_keep o choose locals stack x actions areas leads =
    leaves o x.store (types_after [] actions) (performed o (lawful choose) locals stack actions x [])
    (acts_go o (lawful choose) (λ s request. lawful_choice-may s request (choose s request)) x.store locals stack actions [] x [] leads
    (went_first o x areas))
