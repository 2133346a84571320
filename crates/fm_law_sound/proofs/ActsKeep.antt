-- Actions that fit keep what the frames share sound.
use Rattle.std.proofs.Common.{◌≡◌, ℕ, zero, suc, ◌+◌, ◌^◌, ◌<◌, ◌⊎◌, Bool, true, false, cond, nat_eq, List, [], ◌∷◌, ◌++◌, length, replicate, Option, Some, None, unwrap_or, refl, sym, ◌∙◌, ap, subst, inl, inr, slice_get, slice_set, slice_index_or, arith, ⊎_elim}
use Rattle.std.specs.List.{AllByRecursion}
use Rattle.std.proofs.lemmas.Bool.{false≢true}
use Rattle.std.proofs.lemmas.Bool.Decides.{nat_tests}
use Rattle.std.proofs.lemmas.List.{length-append, length-replicate, length-set}
use Rattle.std.proofs.lemmas.Option.{get_or_from_slice_get, none-some, same_Some, slice_get_within}
use Rattle.fm_alu.proofs.TwosComplementLemmas.{low_bits-lt}
use Rattle.fm_base.specs.declared.kinds.Kind.{Kind}
use Rattle.fm_base.specs.declared.kinds.Kind.TheVariants as kind
use Rattle.fm_base.specs.declared.kinds.TypeRef.{TypeRef}
use Rattle.fm_cells.proofs.Changes.{object_at-made_by, object_at-with_object, object_at-without_object}
use Rattle.fm_cells.proofs.Elements.{chained_by-none, chained_by-some, elements_at-some, freed_by-some, put_by-some}
use Rattle.fm_cells.specs.Changes.{Choice, chained_by, freed_by, made_by, put_by, RefuseStore, Take, with_chain, with_element, with_object, without_object}
use Rattle.fm_cells.specs.Choices.{MayReuse}
use Rattle.fm_cells.specs.Objects.{new_object, Object, object_words, Request}
use Rattle.fm_cells.specs.Stores.{object_at, Store}
use Rattle.fm_types.specs.declared.slots.Slot.{Slot}
use Rattle.fm_world.specs.Members.{size_of}
use Rattle.fm_world.specs.Programs.{kind_at, Outline}
use Rattle.fm_frames.specs.Acts.{all_freed, cell_of, chain_from, chain_freed, chained, Choose, copied, freed, freed_object, is_there, literal_made, literal_text, literal_type, made_then, performed, Performed, put_value, requested, set_static, value_of, with_content}
use Rattle.fm_frames.specs.Effects.{Action, Make, MakeFixed, MakeLiteral, Put, SetStatic, Start, Free, SetChain, FreeChain, Copy, Source, OfOperand, OfMade}
use Rattle.fm_frames.specs.Elements.{cut, kept}
use Rattle.fm_frames.specs.NativeRows.{resized}
use Rattle.fm_frames.specs.Sights.{type_numbered}
use Rattle.fm_frames.specs.States.{Areas, Frame, word_at}
use Rattle.fm_frames.specs.declared.values.Value.{Value}
use Rattle.fm_law_sound.specs.Acting.{ActsFit, CopyFits, MakeFits, ObjectFits, PlaceFits, ValueFits}
use Rattle.fm_law_sound.specs.Laws.{LeavesSound}
use Rattle.fm_law_sound.specs.Leading.{sources_of}
use Rattle.fm_law_sound.specs.Sound.{AreasAreSound, ElementFits, ElementsFit, field_slot, HasKind, HasLength, HaveKinds, IsObjectIn, IsObjectOf, static_slots, UnitsFit}
use Rattle.fm_law_sound.proofs.Counts.{words_few}
use Rattle.fm_law_sound.proofs.Leaving.{read_kind}
use Rattle.fm_frames.proofs.Resized.{length-resized, resized_where}
use Rattle.fm_frames.proofs.HeldCounts.{held_insert_held, held_insert_new, held_remove}

-- ---- lists

pub kinds-set : (xs : List Slot) (words : List Value) (n : ℕ) (s : Slot) (v : Value) → HaveKinds xs words → slice_get xs n ≡ Some s → HasKind s v
    → HaveKinds xs (slice_set words n v)
kinds-set [] words n s v h at new = absurd (cc)
kinds-set (x ∷ xs) [] n s v h at new = absurd h
kinds-set (x ∷ xs) (w ∷ words) zero s v h at new = (subst (λ t. HasKind t v) (sym (same_Some x s at)) new, h.1)
kinds-set (x ∷ xs) (w ∷ words) (suc n) s v h at new = (h.0, kinds-set xs words n s v h.1 at new)

pub set_where : (xs : List ℕ) (i x k : ℕ)
    → ((i ≡ k) × (slice_index_or (slice_set xs i x) k 0 ≡ x)) ⊎ (slice_index_or (slice_set xs i x) k 0 ≡ slice_index_or xs k 0)
set_where [] i x k = inr refl
set_where (y ∷ xs) zero x zero = inl (refl, refl)
set_where (y ∷ xs) zero x (suc k) = inr refl
set_where (y ∷ xs) (suc i) x zero = inr refl
set_where (y ∷ xs) (suc i) x (suc k) = ⊎_elim (λ here. inl (ap suc here.0, here.1)) (λ there. inr there) (set_where xs i x k)

pub zeros_at : (n place : ℕ) → slice_index_or (replicate n zero) place zero ≡ zero
zeros_at zero place = refl
zeros_at (suc n) zero = refl
zeros_at (suc n) (suc place) = zeros_at n place

pub all_or : (P : ℕ → Type 0) (xs : List ℕ) (n : ℕ) → AllByRecursion P xs → P 0 → P (slice_index_or xs n 0)
all_or P [] n h default = default
all_or P (x ∷ xs) zero h default = h.0
all_or P (x ∷ xs) (suc n) h default = all_or P xs n h.1 default

-- the last of a longer list, or one of those before
last_or_before : {A B : Type 0} (types : List A) (t : A) (made : List B) (cell : B) (d : B) (n : ℕ) (u : A) → length types ≡ length made
    → slice_get (types ++ t ∷ []) n ≡ Some u
    → ((t ≡ u) × (slice_index_or (made ++ cell ∷ []) n d ≡ cell))
    ⊎ ((slice_get types n ≡ Some u) × (slice_index_or (made ++ cell ∷ []) n d ≡ slice_index_or made n d))
last_or_before [] t [] cell d zero u same at = inl (same_Some t u at, refl)
last_or_before [] t [] cell d (suc n) u same at = absurd (cc)
last_or_before [] t (m ∷ made) cell d n u same at = absurd (omega (arith, same))
last_or_before (x ∷ types) t [] cell d n u same at = absurd (omega (arith, same))
last_or_before (x ∷ types) t (m ∷ made) cell d zero u same at = inr (at, refl)
last_or_before (x ∷ types) t (m ∷ made) cell d (suc n) u same at = last_or_before types t made cell d n u (omega (arith, same)) at

-- ---- elements

zero_fits : (k : Kind) → ElementFits k 0
zero_fits kind.Boolean = omega arith
zero_fits kind.Byte = omega arith
zero_fits kind.Char = omega arith
zero_fits kind.Short = omega arith
zero_fits kind.Int = omega arith
zero_fits kind.Long = omega arith
zero_fits (kind.Ref t) = tt

pub kept_fits : (k : Kind) (v : Value) → HasKind (field_slot k) v → ElementFits k (kept k v)
kept_fits kind.Boolean v h = subst (λ w. kept kind.Boolean w < 2 ^ 1) (sym h.1) (low_bits-lt 1 h.0)
kept_fits kind.Byte v h = subst (λ w. kept kind.Byte w < 2 ^ 8) (sym h.1) (low_bits-lt 8 h.0)
kept_fits kind.Char v h = subst (λ w. kept kind.Char w < 2 ^ 16) (sym h.1) (low_bits-lt 16 h.0)
kept_fits kind.Short v h = subst (λ w. kept kind.Short w < 2 ^ 16) (sym h.1) (low_bits-lt 16 h.0)
kept_fits kind.Int v h = subst (λ w. kept kind.Int w < 2 ^ 32) (sym h.1) (low_bits-lt 32 h.0)
kept_fits kind.Long v h = subst (λ w. kept kind.Long w < 2 ^ 64) (sym h.1) (low_bits-lt 64 h.0)
kept_fits (kind.Ref t) v h = tt

-- ---- a cell that is changed

put_cases : (store later : Store) (cell q : ℕ) (object found : Object) → object_at later q ≡ cond (nat_eq q cell) (Some object) (object_at store q)
    → object_at later q ≡ Some found → (object ≡ found) ⊎ (object_at store q ≡ Some found)
put_cases store later cell q object found at held = by_test (nat_eq q cell) (sym at ∙ held) where
  by_test : (b : Bool) → cond b (Some object) (object_at store q) ≡ Some found → (object ≡ found) ⊎ (object_at store q ≡ Some found)
  by_test true is = inl (same_Some object found is)
  by_test false is = inr is

-- what holds of the new object and of each one that was held holds of each one that is
pub heap_put : (P : Object → Type 0) (store later : Store) (cell : ℕ) (object : Object) → P object
    → ((q : ℕ) → object_at later q ≡ cond (nat_eq q cell) (Some object) (object_at store q))
    → ((q : ℕ) (found : Object) → object_at store q ≡ Some found → P found)
    → (q : ℕ) (found : Object) → object_at later q ≡ Some found → P found
heap_put P store later cell object new puts h q found held =
    ⊎_elim (λ (here : object ≡ found). subst P here new) (λ there. h q found there)
    (put_cases store later cell q object found (puts q) held)

-- the object that is made, and its store with these elements
pub new_held : (store : Store) (request : Request) (cell : ℕ) (grows : Bool)
    → object_at (made_by store request (Take cell grows)) cell ≡ Some (new_object store.births request)
new_held store request cell grows =
    let at = object_at-made_by store request cell grows cell in grind (arith, nat_tests, at)

abbrev pub content_in : Store → ℕ → ℕ → List ℕ → Option Object → Store
content_in store cell unit units None = store
content_in store cell unit units (Some object) = with_object store cell (record object { elements = unit ∷ units })

module _ (o : Outline) where
  -- ---- one object

  object_put : (object : Object) (place : ℕ) (k : Kind) (v : Value) → IsObjectIn o object → PlaceFits o (type_numbered o object.class) place k
      → HasKind (field_slot k) v → IsObjectIn o (with_element object place (kept k v))
  object_put object place k v h fits has = record {
    numbered = h.numbered;
    of_type = record {
      made = h.of_type.made;
      len = subst (λ n. HasLength o (type_numbered o object.class) n) (sym (length-set object.elements place (kept k v))) h.of_type.len;
      pack = h.of_type.pack;
      elements = λ q other is. ⊎_elim
          (λ here. subst (λ n. ElementFits other n) (sym here.1)
          (subst (λ c. ElementFits c (kept k v)) (same_Some k other (sym fits.kind ∙ ap (λ w. kind_at o.classes (type_numbered o object.class) w) here.0 ∙ is))
          (kept_fits k v has)))
          (λ there. subst (λ n. ElementFits other n) (sym there) (h.of_type.elements q other is))
          (set_where object.elements place (kept k v) q);
      units = λ is q. absurd (false≢true (sym fits.no_text ∙ is));
    };
  }

  object_chained : (object : Object) (to : ℕ) → IsObjectIn o object → IsObjectIn o (with_chain object to)
  object_chained object to h = record {
    numbered = h.numbered;
    of_type = record {
      made = h.of_type.made;
      len = h.of_type.len;
      pack = h.of_type.pack;
      elements = h.of_type.elements;
      units = h.of_type.units;
    };
  }

  class_made : (t : TypeRef) (len : ℕ) (content : List ℕ) (fixed : Bool) → (h : MakeFits o t len content) → (requested o t len fixed).class ≡ h.number
  class_made t len content fixed h = ap (λ n. unwrap_or n 0) h.number_is

  pub type_made : (t : TypeRef) (len : ℕ) (content : List ℕ) (fixed : Bool) → MakeFits o t len content
      → type_numbered o (requested o t len fixed).class ≡ t
  type_made t len content fixed h =
      ap (type_numbered o) (class_made t len content fixed h) ∙ get_or_from_slice_get o.types h.number t _ h.there

  number_made : (t : TypeRef) (len : ℕ) (content : List ℕ) (fixed : Bool) → MakeFits o t len content → (requested o t len fixed).class < length o.types
  number_made t len content fixed h =
      subst (λ n. n < length o.types) (sym (class_made t len content fixed h)) (slice_get_within o.types h.number t h.there)

  object_new : (t : TypeRef) (len : ℕ) (content : List ℕ) (fixed : Bool) (birth : ℕ) → MakeFits o t len content
      → IsObjectIn o (new_object birth (requested o t len fixed))
  object_new t len content fixed birth h = record {
    numbered = number_made t len content fixed h;
    of_type = subst (λ u. IsObjectOf o (new_object birth (requested o t len fixed)) u) (sym (type_made t len content fixed h)) (record {
      made = h.made;
      len = subst (λ n. HasLength o t n) (sym (length-replicate len 0)) h.length_fits;
      pack = refl;
      elements = λ q k is. subst (λ n. ElementFits k n) (sym (zeros_at len q)) (zero_fits k);
      units = λ is q. subst (λ n. n < 2 ^ 16) (sym (zeros_at len q)) (omega arith);
    });
  }

  -- the elements are as many as the object has, and fit it
  pub record Fill (t : TypeRef) (len : ℕ) (content : List ℕ) : Type 0 where
    pub all : length content ≡ len
    pub elements : ElementsFit o t content
    pub units : UnitsFit o t content

  object_filled : (t : TypeRef) (len : ℕ) (content : List ℕ) (fixed : Bool) (birth : ℕ) → MakeFits o t len [] → Fill t len content
      → IsObjectIn o (record (new_object birth (requested o t len fixed)) { elements = content })
  object_filled t len content fixed birth h fills = record {
    numbered = number_made t len [] fixed h;
    of_type = subst (λ u. IsObjectOf o (record (new_object birth (requested o t len fixed)) { elements = content }) u)
        (sym (type_made t len [] fixed h)) (record {
          made = h.made;
          len = subst (λ n. HasLength o t n) (sym fills.all) h.length_fits;
          pack = refl;
          elements = fills.elements;
          units = fills.units;
        });
  }

  -- units fill a text
  units_fill : (t : TypeRef) (len unit : ℕ) (units : List ℕ) → MakeFits o t len (unit ∷ units) → Fill t len (unit ∷ units)
  units_fill t len unit units h =
      let content : (length (unit ∷ units) ≡ len) × AllByRecursion (λ u. u < 2 ^ 16) (unit ∷ units) × ((place : ℕ) → kind_at o.classes t place ≡ None) =
      h.content_fits in
      record {
        all = content.0;
        elements = λ q k is. absurd (none-some k (sym (content.2 q) ∙ is));
        units = λ is q. all_or (λ u. u < 2 ^ 16) (unit ∷ units) q content.1 (omega arith);
      }

  -- the elements of an object fill one of its type
  copy_fills : (t : TypeRef) (len : ℕ) (object : Object) → IsObjectOf o object t → Fill t len (resized object.elements len)
  copy_fills t len object h = record {
    all = length-resized object.elements len;
    elements = λ q k is. ⊎_elim
        (λ here. subst (λ n. ElementFits k n) (sym here) (h.elements q k is))
        (λ none. subst (λ n. ElementFits k n) (sym none) (zero_fits k))
        (resized_where object.elements len q);
    units = λ is q. ⊎_elim
        (λ here. subst (λ n. n < 2 ^ 16) (sym here) (h.units is q))
        (λ none. subst (λ n. n < 2 ^ 16) (sym none) (omega arith))
        (resized_where object.elements len q);
  }

  -- ---- one cell

  sound_changed : (x : Areas) (cell : ℕ) (old object : Object) → AreasAreSound o x → object_at x.store cell ≡ Some old → IsObjectIn o object
      → AreasAreSound o (record x { store = with_object x.store cell object })
  sound_changed x cell old object h held new = record {
    statics = h.statics;
    started = h.started;
    literals = h.literals;
    heap = heap_put (IsObjectIn o) x.store (with_object x.store cell object) cell object new (λ q. object_at-with_object x.store cell object q) h.heap;
    freed = ap (λ n. x.frees + n) (held_insert_held x.store.held cell old object held) ∙ h.freed;
    freed_words = h.freed_words;
  }

  sound_made : (x : Areas) (request : Request) (cell : ℕ) (grows : Bool) → AreasAreSound o x → object_at x.store cell ≡ None
      → IsObjectIn o (new_object x.store.births request) → AreasAreSound o (record x { store = made_by x.store request (Take cell grows) })
  sound_made x request cell grows h free new = record {
    statics = h.statics;
    started = h.started;
    literals = h.literals;
    heap = heap_put (IsObjectIn o) x.store (made_by x.store request (Take cell grows)) cell (new_object x.store.births request) new
        (λ q. object_at-made_by x.store request cell grows q) h.heap;
    freed =
        let more = held_insert_new x.store.held cell (new_object x.store.births request) free in
        let before = h.freed in omega (arith, more, before);
    freed_words = h.freed_words;
  }

  -- ---- frees and chains

  sound_freed_one : (sizes : (class : ℕ) → size_of o.classes class < 2 ^ 31) (x : Areas) (cell : ℕ) (object : Object) → AreasAreSound o x
      → object_at x.store cell ≡ Some object
      → AreasAreSound o (record x { store = without_object x.store cell object; frees = x.frees + 1; freed_words = x.freed_words + object_words object })
  sound_freed_one sizes x cell object h held = record {
    statics = h.statics;
    started = h.started;
    literals = h.literals;
    heap = λ q found is. h.heap q found (kept_object (nat_eq q cell) q found (sym (object_at-without_object x.store cell object q) ∙ is));
    freed =
        let less = held_remove x.store.held cell object held in
        let before = h.freed in omega (arith, less, before);
    freed_words =
        let few = words_few o sizes object (h.heap cell object held) in
        let before = h.freed_words in omega (arith, few, before);
  } where
    kept_object : (b : Bool) (q : ℕ) (found : Object) → cond b None (object_at x.store q) ≡ Some found → object_at x.store q ≡ Some found
    kept_object true q found is = absurd (cc)
    kept_object false q found is = is

  sound_freed : (sizes : (class : ℕ) → size_of o.classes class < 2 ^ 31) (x : Areas) (cell : ℕ) → AreasAreSound o x → AreasAreSound o (freed x cell)
  sound_freed sizes x cell h = by_object (object_at x.store cell) refl where
    by_fixed : (b : Bool) (object : Object) → object_at x.store cell ≡ Some object → object.fixed ≡ b
        → AreasAreSound o (cond b x
        (record x { store = freed_by x.store cell; frees = x.frees + 1; freed_words = x.freed_words + object_words object }))
    by_fixed true object held is = h
    by_fixed false object held is =
        let after : freed_by x.store cell ≡ without_object x.store cell object =
        freed_by-some x.store cell object held ∙ ap (λ b. cond b x.store (without_object x.store cell object)) is in
        subst (λ store. AreasAreSound o (record x { store = store; frees = x.frees + 1; freed_words = x.freed_words + object_words object })) (sym after)
        (sound_freed_one sizes x cell object h held)

    by_object : (found : Option Object) → object_at x.store cell ≡ found → AreasAreSound o (freed_object x cell found)
    by_object None held = h
    by_object (Some object) held = by_fixed object.fixed object held refl

  sound_all_freed : (sizes : (class : ℕ) → size_of o.classes class < 2 ^ 31) (x : Areas) (cells : List ℕ) → AreasAreSound o x
      → AreasAreSound o (all_freed x cells)
  sound_all_freed sizes x [] h = h
  sound_all_freed sizes x (cell ∷ cells) h = sound_all_freed sizes (freed x cell) cells (sound_freed sizes x cell h)

  sound_chained : (x : Areas) (cell to : ℕ) → AreasAreSound o x → AreasAreSound o (chained x cell to)
  sound_chained x cell to h = by_object (object_at x.store cell) refl where
    by_object : (found : Option Object) → object_at x.store cell ≡ found → AreasAreSound o (record x { store = chained_by x.store cell to })
    by_object None held = subst (λ store. AreasAreSound o (record x { store = store })) (sym (chained_by-none x.store cell to held)) h
    by_object (Some object) held =
        subst (λ store. AreasAreSound o (record x { store = store })) (sym (chained_by-some x.store cell to object held))
        (sound_changed x cell object (with_chain object to) h held (object_chained object to (h.heap cell object held)))

  -- ---- what holds along the actions

  -- an object of the type is in the cell
  abbrev pub Holds : Store → ℕ → ℕ → Type 0
  Holds later cell class = (now : Object) × (object_at later cell ≡ Some now) × (now.class ≡ class)

  pub record Keeps (store : Store) (x : Areas) (types : List TypeRef) (made : List ℕ) : Type 0 where
    pub sound : AreasAreSound o x
    pub kept : (cell : ℕ) (object : Object) → object_at store cell ≡ Some object → Holds x.store cell object.class
    pub made_is : (n : ℕ) (t : TypeRef) → slice_get types n ≡ Some t
        → (now : Object) × (object_at x.store (slice_index_or made n 0) ≡ Some now) × (type_numbered o now.class ≡ t)
    pub count : length types ≡ length made

  -- what is held is held later, of the same type
  abbrev pub Follows : Store → Store → Type 0
  Follows store later = (cell : ℕ) (object : Object) → object_at store cell ≡ Some object → Holds later cell object.class

  changed_follows : (store : Store) (cell : ℕ) (old object : Object) → object_at store cell ≡ Some old → object.class ≡ old.class
      → Follows store (with_object store cell object)
  changed_follows store cell old object held same q found is = by_test (nat_eq q cell) refl where
    by_test : (b : Bool) → nat_eq q cell ≡ b → Holds (with_object store cell object) q found.class
    by_test true e =
        let here : q ≡ cell = grind (arith, nat_tests, e) in
        let was : old ≡ found = same_Some old found (sym held ∙ ap (λ c. object_at store c) (sym here) ∙ is) in
        (object, object_at-with_object store cell object q ∙ ap (λ b. cond b (Some object) (object_at store q)) e, same ∙ ap (λ (y : Object). y.class) was)
    by_test false e =
        (found, object_at-with_object store cell object q ∙ ap (λ b. cond b (Some object) (object_at store q)) e ∙ is, refl)

  made_follows : (store : Store) (request : Request) (cell : ℕ) (grows : Bool) → object_at store cell ≡ None
      → Follows store (made_by store request (Take cell grows))
  made_follows store request cell grows free q found is = by_test (nat_eq q cell) refl where
    by_test : (b : Bool) → nat_eq q cell ≡ b → Holds (made_by store request (Take cell grows)) q found.class
    by_test true e =
        let here : q ≡ cell = grind (arith, nat_tests, e) in
        absurd (none-some found (sym free ∙ ap (λ c. object_at store c) (sym here) ∙ is))
    by_test false e = (
      found,
      object_at-made_by store request cell grows q ∙ ap (λ b. cond b (Some (new_object store.births request)) (object_at store q)) e ∙ is,
      refl,
    )

  follows_then : (store middle later : Store) → Follows store middle → Follows middle later → Follows store later
  follows_then store middle later first second cell object held =
      let one = first cell object held in
      let two = second cell one.0 one.1 in (two.0, two.1, two.2 ∙ one.2)

  -- the made objects are what they were
  made_later : (store later : Store) (types : List TypeRef) (made : List ℕ) → Follows store later
      → ((n : ℕ) (t : TypeRef) → slice_get types n ≡ Some t
      → (now : Object) × (object_at store (slice_index_or made n 0) ≡ Some now) × (type_numbered o now.class ≡ t))
      → (n : ℕ) (t : TypeRef) → slice_get types n ≡ Some t
      → (now : Object) × (object_at later (slice_index_or made n 0) ≡ Some now) × (type_numbered o now.class ≡ t)
  made_later store later types made follows h n t at =
      let was = h n t at in
      let now = follows (slice_index_or made n 0) was.0 was.1 in (now.0, now.1, ap (type_numbered o) now.2 ∙ was.2)

  pub keeps_later : (store : Store) (x : Areas) (later : Store) (types : List TypeRef) (made : List ℕ) → Keeps store x types made → Follows x.store later
      → AreasAreSound o (record x { store = later }) → Keeps store (record x { store = later }) types made
  keeps_later store x later types made h follows sound = record {
    sound = sound;
    kept = follows_then store x.store later h.kept follows;
    made_is = made_later x.store later types made follows h.made_is;
    count = h.count;
  }

  -- ---- makes

  -- the areas with the object made, and the object there
  pub record Makes (x : Areas) (later : Store) (cell : ℕ) (t : TypeRef) : Type 0 where
    pub sound : AreasAreSound o (record x { store = later })
    pub follows : Follows x.store later
    pub now : Object
    pub there : object_at later cell ≡ Some now
    pub type : type_numbered o now.class ≡ t

  pub makes_full : (x : Areas) (t : TypeRef) (len : ℕ) (content : List ℕ) (fixed : Bool) (cell : ℕ) (grows : Bool) → AreasAreSound o x → MakeFits o t len []
      → Fill t len content → object_at x.store cell ≡ None
      → Makes x (with_content (made_by x.store (requested o t len fixed) (Take cell grows)) cell content) cell t
  makes_full x t len [] fixed cell grows h fits fills free = record {
    sound = sound_made x (requested o t len fixed) cell grows h free (object_new t len [] fixed x.store.births fits);
    follows = made_follows x.store (requested o t len fixed) cell grows free;
    now = new_object x.store.births (requested o t len fixed);
    there = new_held x.store (requested o t len fixed) cell grows;
    type = type_made t len [] fixed fits;
  }
  makes_full x t len (unit ∷ units) fixed cell grows h fits fills free =
      let request : Request = requested o t len fixed in
      let middle : Store = made_by x.store request (Take cell grows) in
      let first : Object = new_object x.store.births request in
      let object : Object = record first { elements = unit ∷ units } in
      let held : object_at middle cell ≡ Some first = new_held x.store request cell grows in
      let after : with_content middle cell (unit ∷ units) ≡ with_object middle cell object = ap (content_in middle cell unit units) held in
      let one : AreasAreSound o (record x { store = middle }) =
      sound_made x request cell grows h free (object_new t len [] fixed x.store.births fits) in
      let two : AreasAreSound o (record x { store = with_object middle cell object }) =
      sound_changed (record x { store = middle }) cell first object one held (object_filled t len (unit ∷ units) fixed x.store.births fits fills) in
      let at = object_at-with_object middle cell object cell in
      subst (λ later. Makes x later cell t) (sym after) (record {
        sound = two;
        follows = follows_then x.store middle (with_object middle cell object) (made_follows x.store request cell grows free)
            (changed_follows middle cell first object held refl);
        now = object;
        there = grind (arith, nat_tests, at);
        type = type_made t len [] fixed fits;
      })

  -- the same of an object whose elements are 0
  bare_fits : (t : TypeRef) (len : ℕ) (content : List ℕ) → MakeFits o t len content → MakeFits o t len []
  bare_fits t len content h = record {
    number = h.number;
    number_is = h.number_is;
    there = h.there;
    made = h.made;
    length_fits = h.length_fits;
    content_fits = tt;
  }

  pub makes : (x : Areas) (t : TypeRef) (len : ℕ) (content : List ℕ) (fixed : Bool) (cell : ℕ) (grows : Bool) → AreasAreSound o x → MakeFits o t len content
      → object_at x.store cell ≡ None
      → Makes x (with_content (made_by x.store (requested o t len fixed) (Take cell grows)) cell content) cell t
  makes x t len [] fixed cell grows h fits free = record {
    sound = sound_made x (requested o t len fixed) cell grows h free (object_new t len [] fixed x.store.births fits);
    follows = made_follows x.store (requested o t len fixed) cell grows free;
    now = new_object x.store.births (requested o t len fixed);
    there = new_held x.store (requested o t len fixed) cell grows;
    type = type_made t len [] fixed fits;
  }
  makes x t len (unit ∷ units) fixed cell grows h fits free =
      makes_full x t len (unit ∷ units) fixed cell grows h (bare_fits t len (unit ∷ units) fits) (units_fill t len unit units fits) free

  -- what is copied
  pub record Copying (x : Areas) (f : Frame) (t : TypeRef) (len operand : ℕ) : Type 0 where
    pub object : Object
    pub held : object_at x.store (cell_of (word_at f.stack operand)) ≡ Some object
    pub type : type_numbered o object.class ≡ t
    pub content : copied x.store (cell_of (word_at f.stack operand)) len ≡ resized object.elements len
    pub fills : Fill t len (copied x.store (cell_of (word_at f.stack operand)) len)

  pub copying : (store : Store) (x : Areas) (types : List TypeRef) (made : List ℕ) (f : Frame) (t : TypeRef) (len operand : ℕ) → Keeps store x types made
      → CopyFits o store f t len operand → Copying x f t len operand
  copying store x types made f t len operand h fits =
      let now = h.kept (cell_of (word_at f.stack operand)) fits.object fits.held in
      let type : type_numbered o now.0.class ≡ t = ap (type_numbered o) now.2 ∙ fits.type in
      let content : copied x.store (cell_of (word_at f.stack operand)) len ≡ resized now.0.elements len =
      ap (λ elements. resized elements len) (elements_at-some x.store (cell_of (word_at f.stack operand)) now.0 now.1) in
      record {
        object = now.0;
        held = now.1;
        type = type;
        content = content;
        fills = subst (λ elements. Fill t len elements) (sym content)
            (copy_fills t len now.0 (subst (λ u. IsObjectOf o now.0 u) type (h.sound.heap (cell_of (word_at f.stack operand)) now.0 now.1).of_type));
      }

  -- what follows a copy, where the memory chose
  copy_goes : (x : Areas) (t : TypeRef) (len : ℕ) (content : List ℕ) (choice : Choice) (follows : Areas → ℕ → Performed)
      → AreasAreSound o x → MakeFits o t len [] → Fill t len content → MayReuse x.store (requested o t len false) choice
      → ((later : Store) (cell : ℕ) → Makes x later cell t → LeavesSound o (follows (record x { store = later }) cell))
      → LeavesSound o (made_then x (requested o t len false) content choice follows)
  copy_goes x t len content RefuseStore follows h fits fills may rest = h
  copy_goes x t len content (Take cell grows) follows h fits fills may rest =
      rest (with_content (made_by x.store (requested o t len false) (Take cell grows)) cell content) cell
      (makes_full x t len content false cell grows h fits fills may.1)

  -- what follows a make, where the memory chose
  made_goes : (x : Areas) (t : TypeRef) (len : ℕ) (content : List ℕ) (fixed : Bool) (choice : Choice) (follows : Areas → ℕ → Performed)
      → AreasAreSound o x → MakeFits o t len content → MayReuse x.store (requested o t len fixed) choice
      → ((later : Store) (cell : ℕ) → Makes x later cell t → LeavesSound o (follows (record x { store = later }) cell))
      → LeavesSound o (made_then x (requested o t len fixed) content choice follows)
  made_goes x t len content fixed RefuseStore follows h fits may rest = h
  made_goes x t len content fixed (Take cell grows) follows h fits may rest =
      rest (with_content (made_by x.store (requested o t len fixed) (Take cell grows)) cell content) cell
      (makes x t len content fixed cell grows h fits may.1)

  pub one_made : (store : Store) (x : Areas) (later : Store) (types : List TypeRef) (made : List ℕ) (cell : ℕ) (t : TypeRef) → Keeps store x types made
      → Makes x later cell t → Keeps store (record x { store = later }) (types ++ t ∷ []) (made ++ cell ∷ [])
  one_made store x later types made cell t h one = record {
    sound = one.sound;
    kept = follows_then store x.store later h.kept one.follows;
    made_is = λ n u at. ⊎_elim
        (λ here. (one.now, ap (λ c. object_at later c) here.1 ∙ one.there, one.type ∙ here.0))
        (λ there.
        let was = made_later x.store later types made one.follows h.made_is n u there.0 in
        (was.0, ap (λ c. object_at later c) there.1 ∙ was.1, was.2))
        (last_or_before types t made cell 0 n u h.count at);
    count = length-append types (t ∷ []) ∙ ap (λ n. n + 1) h.count ∙ sym (length-append made (cell ∷ []));
  }

  -- ---- puts

  put_keeps : (store : Store) (x : Areas) (types : List TypeRef) (made : List ℕ) (cell place : ℕ) (k : Kind) (v : Value) (object : Object)
      → Keeps store x types made → object_at x.store cell ≡ Some object → PlaceFits o (type_numbered o object.class) place k → HasKind (field_slot k) v
      → Keeps store (record x { store = put_by x.store cell place (kept k v) }) types made
  put_keeps store x types made cell place k v object h held fits has =
      subst (λ later. Keeps store (record x { store = later }) types made) (sym (put_by-some x.store cell place (kept k v) object held))
      (keeps_later store x (with_object x.store cell (with_element object place (kept k v))) types made h
      (changed_follows x.store cell object (with_element object place (kept k v)) held refl)
      (sound_changed x cell object (with_element object place (kept k v)) h.sound held
      (object_put object place k v (h.sound.heap cell object held) fits has)))

module _ (o : Outline) (sizes : (class : ℕ) → size_of o.classes class < 2 ^ 31) (choose : Choose) (may : (s : Store) (request : Request) → MayReuse s request (choose s request)) (store : Store) (f : Frame) where
  pub object_keeps : (x : Areas) (types : List TypeRef) (made : List ℕ) (source v : Source) (place : ℕ) (k : Kind) → Keeps o store x types made
      → ObjectFits o store f types source place k → ValueFits o f k v
      → Keeps o store (put_value x (value_of (sources_of f x made) source) place k (value_of (sources_of f x made) v)) types made
  object_keeps x types made (OfOperand n) v place k h fits value =
      let now = h.kept (cell_of (word_at f.stack n)) fits.0 fits.1 in
      put_keeps o store x types made (cell_of (word_at f.stack n)) place k (value_of (sources_of f x made) v) now.0 h now.1
      (subst (λ class. PlaceFits o (type_numbered o class) place k) (sym now.2) fits.2) (value x made h.sound.statics)
  object_keeps x types made (OfMade n) v place k h fits value =
      let now = h.made_is n fits.0 fits.1 in
      put_keeps o store x types made (slice_index_or made n 0) place k (value_of (sources_of f x made) v) now.0 h now.1
      (subst (λ t. PlaceFits o t place k) (sym now.2) fits.2) (value x made h.sound.statics)
  object_keeps x types made source v place k h fits value = absurd fits

  pub with_areas : (x y : Areas) (types : List TypeRef) (made : List ℕ) → Keeps o store x types made → y.store ≡ x.store → AreasAreSound o y
      → Keeps o store y types made
  with_areas x y types made h same sound = record {
    sound = sound;
    kept = subst (λ (later : Store). (cell : ℕ) (object : Object) → object_at store cell ≡ Some object
        → (now : Object) × (object_at later cell ≡ Some now) × (now.class ≡ object.class)) (sym same) h.kept;
    made_is = subst (λ (later : Store). (n : ℕ) (t : TypeRef) → slice_get types n ≡ Some t
        → (now : Object) × (object_at later (slice_index_or made n 0) ≡ Some now) × (type_numbered o now.class ≡ t)) (sym same) h.made_is;
    count = h.count;
  }

  pub static_set : (x : Areas) (slot : ℕ) (k : Kind) (v : Value) → AreasAreSound o x → slice_get (static_slots o) slot ≡ Some (field_slot k)
      → AreasAreSound o (set_static x slot k v)
  static_set x slot k v h at = record {
    statics = kinds-set (static_slots o) x.statics slot (field_slot k) (cut k v) h.statics at (read_kind k (kept k v));
    started = h.started;
    literals = h.literals;
    heap = h.heap;
    freed = h.freed;
    freed_words = h.freed_words;
  }

  pub class_set : (x : Areas) (class : ℕ) → AreasAreSound o x → AreasAreSound o (record x { started = slice_set x.started class true })
  class_set x class h = record {
    statics = h.statics;
    started = length-set x.started class true ∙ h.started;
    literals = h.literals;
    heap = h.heap;
    freed = h.freed;
    freed_words = h.freed_words;
  }

  pub literal_set : (x : Areas) (text cell : ℕ) → AreasAreSound o x → AreasAreSound o (literal_made x text cell)
  literal_set x text cell h = record {
    statics = h.statics;
    started = h.started;
    literals = length-set x.literals text cell ∙ h.literals;
    heap = h.heap;
    freed = h.freed;
    freed_words = h.freed_words;
  }

  either_leaves : (b : Bool) (one other : Performed) → LeavesSound o one → LeavesSound o other → LeavesSound o (cond b one other)
  either_leaves true one other first second = first
  either_leaves false one other first second = second

  -- nothing follows what frees or chains
  ends_sound : (more : List Action) (x : Areas) (made : List ℕ) → more ≡ [] → AreasAreSound o x
      → LeavesSound o (performed o choose f.locals f.stack more x made)
  unfolding performed
  ends_sound more x made is h = subst (λ others. LeavesSound o (performed o choose f.locals f.stack others x made)) (sym is) h

  chain_ends : (more : List Action) (x : Areas) (made : List ℕ) (v : Value) (cells : Option (List ℕ)) → more ≡ [] → AreasAreSound o x
      → LeavesSound o (chain_freed x v cells (λ y. performed o choose f.locals f.stack more y made))
  chain_ends more x made v None is h = tt
  chain_ends more x made v (Some cells) is h = ends_sound more (all_freed x cells) made is (sound_all_freed o sizes x cells h)

  acts_keep : (actions : List Action) (x : Areas) (types : List TypeRef) (made : List ℕ) → ActsFit o store f types actions → Keeps o store x types made
      → LeavesSound o (performed o choose f.locals f.stack actions x made)
  unfolding performed
  acts_keep [] x types made fit h = h.sound
  acts_keep (Make t len content ∷ more) x types made fit h =
      made_goes o x t len content false (choose x.store (requested o t len false))
      (λ y cell. performed o choose f.locals f.stack more y (made ++ cell ∷ [])) h.sound fit.0 (may x.store (requested o t len false))
      (λ later cell one. acts_keep more (record x { store = later }) (types ++ t ∷ []) (made ++ cell ∷ []) fit.1
      (one_made o store x later types made cell t h one))
  acts_keep (MakeFixed t ∷ more) x types made fit h =
      made_goes o x t 0 [] true (choose x.store (requested o t 0 true))
      (λ y cell. performed o choose f.locals f.stack more y (made ++ cell ∷ [])) h.sound fit.0 (may x.store (requested o t 0 true))
      (λ later cell one. acts_keep more (record x { store = later }) (types ++ t ∷ []) (made ++ cell ∷ []) fit.1
      (one_made o store x later types made cell t h one))
  acts_keep (MakeLiteral text ∷ more) x types made fit h =
      let t : TypeRef = literal_type o text in
      let len : ℕ = length (literal_text o text) in
      either_leaves (is_there x text) (performed o choose f.locals f.stack more x made)
      (made_then x (requested o t len true) (literal_text o text) (choose x.store (requested o t len true))
      (λ y cell. performed o choose f.locals f.stack more (literal_made y text cell) made))
      (acts_keep more x types made fit.1 h)
      (made_goes o x t len (literal_text o text) true (choose x.store (requested o t len true))
      (λ y cell. performed o choose f.locals f.stack more (literal_made y text cell) made) h.sound fit.0 (may x.store (requested o t len true))
      (λ later cell one. acts_keep more (literal_made (record x { store = later }) text cell) types made fit.1
      (with_areas (record x { store = later }) (literal_made (record x { store = later }) text cell) types made
      (keeps_later o store x later types made h one.follows one.sound) refl (literal_set (record x { store = later }) text cell one.sound))))
  acts_keep (Put object place k v ∷ more) x types made fit h =
      acts_keep more (put_value x (value_of (sources_of f x made) object) place k (value_of (sources_of f x made) v)) types made fit.2
      (object_keeps x types made object v place k h fit.0 fit.1)
  acts_keep (SetStatic slot k v ∷ more) x types made fit h =
      acts_keep more (set_static x slot k (value_of (sources_of f x made) v)) types made fit.1
      (with_areas x (set_static x slot k (value_of (sources_of f x made) v)) types made h refl
      (static_set x slot k (value_of (sources_of f x made) v) h.sound fit.0))
  acts_keep (Start class ∷ more) x types made fit h =
      acts_keep more (record x { started = slice_set x.started class true }) types made fit
      (with_areas x (record x { started = slice_set x.started class true }) types made h refl (class_set x class h.sound))
  acts_keep (Free operand ∷ more) x types made fit h =
      ends_sound more (freed x (cell_of (word_at f.stack operand))) made fit (sound_freed o sizes x (cell_of (word_at f.stack operand)) h.sound)
  acts_keep (SetChain operand to ∷ more) x types made fit h =
      ends_sound more (chained x (cell_of (word_at f.stack operand)) (cell_of (word_at f.stack to))) made fit
      (sound_chained o x (cell_of (word_at f.stack operand)) (cell_of (word_at f.stack to)) h.sound)
  acts_keep (FreeChain operand ∷ more) x types made fit h =
      chain_ends more x made (word_at f.stack operand) (chain_from x.store (cell_of (word_at f.stack operand))) fit h.sound
  acts_keep (Copy t len operand ∷ more) x types made fit h =
      copy_goes o x t len (copied x.store (cell_of (word_at f.stack operand)) len) (choose x.store (requested o t len false))
      (λ y cell. performed o choose f.locals f.stack more y (made ++ cell ∷ [])) h.sound fit.0.makes
      (copying o store x types made f t len operand h fit.0).fills (may x.store (requested o t len false))
      (λ later cell one. acts_keep more (record x { store = later }) (types ++ t ∷ []) (made ++ cell ∷ []) fit.1
      (one_made o store x later types made cell t h one))

pub actions_keep : (o : Outline) → ((class : ℕ) → size_of o.classes class < 2 ^ 31) → (choose : Choose)
    → ((s : Store) (request : Request) → MayReuse s request (choose s request)) → (f : Frame) (x : Areas) (actions : List Action)
    → AreasAreSound o x → ActsFit o x.store f [] actions → LeavesSound o (performed o choose f.locals f.stack actions x [])
actions_keep o sizes choose may f x actions sound fit =
    acts_keep o sizes choose may x.store f actions x [] [] fit (record {
      sound = sound;
      kept = λ cell object held. (object, held, refl);
      made_is = λ n t at. absurd (cc);
      count = refl;
    })
