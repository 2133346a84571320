-- Actions lead to no cell but to those that were led to and those that are held after them.
use Rattle.std.proofs.Common.{◌≡◌, ℕ, ℤ, ◌+◌, ◌^◌, ◌<◌, Bool, true, false, cond, nat_eq, List, [], ◌∷◌, ◌++◌, length, Option, Some, None, is_some, refl, sym, ◌∙◌, ap, subst, inl, inr, slice_set, slice_index_or, arith, ⊎_elim}
use Rattle.std.specs.List.{All, AllByRecursion}
use Rattle.std.proofs.lemmas.Bool.Decides.{nat_tests}
use Rattle.std.proofs.lemmas.Bool.{cases_lt}
use Rattle.std.proofs.lemmas.List.{get_or_past}
use Rattle.std.proofs.lemmas.List.Elements.{All-push, All-set}
use Rattle.std.proofs.lemmas.Option.{same_Some}
use Rattle.fm_alu.proofs.TwosComplementLemmas.{low_bits-lt}
use Rattle.fm_base.specs.declared.kinds.Kind.{Kind}
use Rattle.fm_base.specs.declared.kinds.Kind.TheVariants as kind
use Rattle.fm_base.specs.declared.kinds.TypeRef.{TypeRef}
use Rattle.fm_cells.proofs.Changes.{object_at-made_by, object_at-with_object, object_at-without_object}
use Rattle.fm_cells.proofs.Elements.{chained_by-none, chained_by-some, elements_at-none, elements_at-some, freed_by-some, put_by-some}
use Rattle.fm_cells.specs.Changes.{Choice, chained_by, freed_by, made_by, RefuseStore, Take, with_chain, with_element, with_object, without_object}
use Rattle.fm_cells.specs.Choices.{MayReuse}
use Rattle.fm_cells.specs.Objects.{new_object, Object, object_words, Request}
use Rattle.fm_cells.specs.Soundness.{CellsFit}
use Rattle.fm_cells.specs.Stores.{elements_at, IsHeld, object_at, Store}
use Rattle.fm_world.specs.Members.{size_of}
use Rattle.fm_world.specs.Programs.{kind_at, Outline}
use Rattle.fm_frames.specs.Acts.{all_freed, cell_of, chain_from, chain_freed, chained, Choose, copied, Did, freed, freed_object, FullAt, is_there, literal_made, literal_text, literal_type, LostAt, made_then, performed, Performed, put_value, requested, set_static, sum_of, value_of, with_content}
use Rattle.fm_frames.specs.Effects.{Action, Make, MakeFixed, MakeLiteral, Put, SetStatic, Start, Free, SetChain, FreeChain, Copy, Source, Plain, OfOperand, OfLocal, LocalPlus, OfPlace, OfStatic, OfMade, OfLiteral, SameOperands}
use Rattle.fm_frames.specs.Elements.{cut, kept, read}
use Rattle.fm_frames.specs.NativeRows.{resized}
use Rattle.fm_frames.proofs.Resized.{resized_where}
use Rattle.fm_frames.specs.Sights.{type_numbered}
use Rattle.fm_frames.specs.States.{Areas, Frame, word_at}
use Rattle.fm_frames.specs.declared.values.Value.{Value}
use Rattle.fm_frames.specs.declared.values.Value.TheVariants as value
use Rattle.fm_law_sound.specs.Acting.{ActsFit, ContentFits, MakeFits, ObjectFits}
use Rattle.fm_law_sound.specs.HeldCells.{AreasLeadWithin, FrameLeadsWithin, LeadsWithin, ObjectLeadsWithin}
use Rattle.fm_law_sound.specs.Leading.{sources_of}
use Rattle.fm_law_sound.specs.Placing.{IsPlain, kind_in, PutAgrees, ReadAgrees}
use Rattle.fm_law_sound.specs.Sound.{AreasAreSound}
use Rattle.fm_law_sound.proofs.ActsKeep.{all_or, class_set, content_in, heap_put, copying, Copying, Fill, Keeps, keeps_later, literal_set, Makes, makes, makes_full, new_held, object_keeps, one_made, set_where, static_set, type_made, with_areas, zeros_at}
use Rattle.fm_law_sound.proofs.HeldStays.{acts_stay, ChainsFit, IsIn, word_within}

-- ---- numbers and references

-- a number of a list, such as a literal's cell or one that was made
pub cell_within : (cells : List ℕ) → All (λ cell. cell < 2 ^ 32) cells → (n : ℕ) → slice_index_or cells n 0 < 2 ^ 32
cell_within cells all n = elim (cases_lt n (length cells)) as (λ _. slice_index_or cells n 0 < 2 ^ 32) [
  | inl inside ↦ all n 0 inside
  | inr past ↦ subst (λ cell. cell < 2 ^ 32) (sym (get_or_past cells n 0 past)) (omega arith)
]

abbrev IsOfNumbers : Kind → Type 0
IsOfNumbers (kind.Ref t) = ⊥
IsOfNumbers k = Unit {0}

number_within : (k : Kind) (n : ℕ) → IsOfNumbers k → LeadsWithin (read k n)
unfolding read
number_within kind.Boolean n h = omega arith
number_within kind.Byte n h = omega arith
number_within kind.Char n h = omega arith
number_within kind.Short n h = omega arith
number_within kind.Int n h = omega arith
number_within kind.Long n h = omega arith
number_within (kind.Ref t) n h = absurd h

reference_within : (t : TypeRef) (n : ℕ) → n < 2 ^ 32 → LeadsWithin (read (kind.Ref t) n)
unfolding read
reference_within t n h = h

-- what is read of a number within the range
pub number_read : (k : Kind) (n : ℕ) → n < 2 ^ 32 → LeadsWithin (read k n)
number_read (kind.Ref t) n h = reference_within t n h
number_read k n h = number_within k n tt

pub kept_within : (t : TypeRef) (v : Value) → LeadsWithin v → kept (kind.Ref t) v < 2 ^ 32
kept_within t value.Top h = omega arith
kept_within t (value.Int n) h = low_bits-lt 32 n
kept_within t (value.Long n) h = low_bits-lt 32 n
kept_within t (value.Ref cell) h = h

plain_within : (v : Value) → IsPlain v → LeadsWithin v
plain_within value.Top h = omega arith
plain_within (value.Int n) h = omega arith
plain_within (value.Long n) h = omega arith
plain_within (value.Ref cell) h = omega arith

sum_within : (v : Value) (by : ℤ) → LeadsWithin (sum_of v by)
sum_within value.Top by = omega arith
sum_within (value.Int n) by = omega arith
sum_within (value.Long n) by = omega arith
sum_within (value.Ref cell) by = omega arith

-- ---- what a source gives

-- what is held in both stores has one type
abbrev pub SameClasses : Store → Store → Type 0
SameClasses store later = (cell : ℕ) (object now : Object) → object_at store cell ≡ Some object → object_at later cell ≡ Some now → now.class ≡ object.class

module _ (o : Outline) (store : Store) (f : Frame) (within : FrameLeadsWithin f) where
  module _ (x : Areas) (made : List ℕ) (leads : AreasLeadWithin o x) (small : All (λ cell. cell < 2 ^ 32) made) (same : SameClasses store x.store) where
    element_within : (cell place : ℕ) (object : Object) (t : TypeRef) → object_at store cell ≡ Some object → kind_in o object place ≡ Some (kind.Ref t)
        → slice_index_or (elements_at x.store cell) place 0 < 2 ^ 32
    element_within cell place object t held is = by_object (object_at x.store cell) refl where
      by_object : (found : Option Object) → object_at x.store cell ≡ found → slice_index_or (elements_at x.store cell) place 0 < 2 ^ 32
      by_object None now = subst (λ (xs : List ℕ). slice_index_or xs place 0 < 2 ^ 32) (sym (elements_at-none x.store cell now)) (omega arith)
      by_object (Some later) now =
          subst (λ (xs : List ℕ). slice_index_or xs place 0 < 2 ^ 32) (sym (elements_at-some x.store cell later now))
          ((leads.heap cell later now).elements place t
          (ap (λ class. kind_at o.classes (type_numbered o class) place) (same cell object later held now) ∙ is))

    pub source_within : (s : Source) → ReadAgrees o store f.stack s → LeadsWithin (value_of (sources_of f x made) s)
    source_within (Plain v) reads = plain_within v reads
    source_within (OfOperand n) reads = word_within f.stack within.stack n
    source_within (OfLocal k) reads = word_within f.locals within.locals k
    source_within (LocalPlus k by) reads = sum_within (word_at f.locals k) by
    source_within (OfPlace n place (kind.Ref t)) reads =
        reference_within t (slice_index_or (elements_at x.store (cell_of (word_at f.stack n))) place 0)
        (element_within (cell_of (word_at f.stack n)) place reads.0 reads.2 reads.1 reads.3)
    source_within (OfPlace n place k) reads = number_within k (slice_index_or (elements_at x.store (cell_of (word_at f.stack n))) place 0) tt
    source_within (OfStatic slot) reads = word_within x.statics leads.statics slot
    source_within (OfMade n) reads = cell_within made small n
    source_within (OfLiteral text) reads = cell_within x.literals leads.literals text
    source_within SameOperands reads = omega arith

-- ---- one object

module _ (o : Outline) where
  put_within : (object : Object) (place : ℕ) (k : Kind) (v : Value) → ObjectLeadsWithin o object → kind_in o object place ≡ Some k
      → ((t : TypeRef) → k ≡ kind.Ref t → LeadsWithin v) → ObjectLeadsWithin o (with_element object place (kept k v))
  put_within object place k v h at fits = record {
    chain = h.chain;
    elements = λ q t is. ⊎_elim
        (λ here.
        let both : Some k ≡ Some (kind.Ref t) = sym at ∙ ap (λ n. kind_in o object n) here.0 ∙ is in
        let reference : k ≡ kind.Ref t = same_Some k (kind.Ref t) both in
        subst (λ n. n < 2 ^ 32) (sym here.1) (subst (λ other. kept other v < 2 ^ 32) (sym reference) (kept_within t v (fits t reference))))
        (λ there. subst (λ n. n < 2 ^ 32) (sym there) (h.elements q t is))
        (set_where object.elements place (kept k v) q);
  }

  chained_within : (object : Object) (to : ℕ) → ObjectLeadsWithin o object → to < 2 ^ 32 → ObjectLeadsWithin o (with_chain object to)
  chained_within object to h fits = record { chain = fits; elements = h.elements }

  new_within : (birth : ℕ) (request : Request) → ObjectLeadsWithin o (new_object birth request)
  new_within birth request = record {
    chain = omega arith;
    elements = λ q t is. subst (λ n. n < 2 ^ 32) (sym (zeros_at request.len q)) (omega arith);
  }

  -- the references among elements of a type lead within the range
  abbrev pub LeadIn : TypeRef → List ℕ → Type 0
  LeadIn t elements = (place : ℕ) (u : TypeRef) → kind_at o.classes t place ≡ Some (kind.Ref u) → slice_index_or elements place 0 < 2 ^ 32

  filled_within : (object : Object) (elements : List ℕ) → ObjectLeadsWithin o object → LeadIn (type_numbered o object.class) elements
      → ObjectLeadsWithin o (record object { elements = elements })
  filled_within object elements h few = record { chain = h.chain; elements = few }

  -- units are no cells above the range
  units_lead : (t : TypeRef) (units : List ℕ) → AllByRecursion (λ u. u < 2 ^ 16) units → LeadIn t units
  units_lead t units few q u is =
      let unit : slice_index_or units q 0 < 2 ^ 16 = all_or (λ u. u < 2 ^ 16) units q few (omega arith) in omega (arith, unit)

  -- the elements of a copy lead where those of the object do
  pub copy_leads : (t : TypeRef) (len : ℕ) (object : Object) → type_numbered o object.class ≡ t → ObjectLeadsWithin o object
      → LeadIn t (resized object.elements len)
  copy_leads t len object type h q u is =
      ⊎_elim
      (λ here. subst (λ n. n < 2 ^ 32) (sym here) (h.elements q u (ap (λ v. kind_at o.classes v q) type ∙ is)))
      (λ none. subst (λ n. n < 2 ^ 32) (sym none) (omega arith))
      (resized_where object.elements len q)

  -- ---- areas

  pub chains_of : (x : Areas) → AreasLeadWithin o x → ChainsFit x.store
  chains_of x leads cell object held = (leads.heap cell object held).chain

  with_heap : (x : Areas) (later : Store) → AreasLeadWithin o x → ((cell : ℕ) (object : Object) → object_at later cell ≡ Some object → ObjectLeadsWithin o object)
      → AreasLeadWithin o (record x { store = later })
  with_heap x later leads heap = record { statics = leads.statics; literals = leads.literals; heap = heap }

  changed_leads : (x : Areas) (cell : ℕ) (object : Object) → AreasLeadWithin o x → ObjectLeadsWithin o object
      → AreasLeadWithin o (record x { store = with_object x.store cell object })
  changed_leads x cell object leads new =
      with_heap x (with_object x.store cell object) leads
      (heap_put (ObjectLeadsWithin o) x.store (with_object x.store cell object) cell object new (object_at-with_object x.store cell object) leads.heap)

  made_leads : (x : Areas) (request : Request) (cell : ℕ) (grows : Bool) → AreasLeadWithin o x
      → AreasLeadWithin o (record x { store = made_by x.store request (Take cell grows) })
  made_leads x request cell grows leads =
      with_heap x (made_by x.store request (Take cell grows)) leads
      (heap_put (ObjectLeadsWithin o) x.store (made_by x.store request (Take cell grows)) cell (new_object x.store.births request)
      (new_within x.store.births request) (object_at-made_by x.store request cell grows) leads.heap)

  pub full_leads : (x : Areas) (request : Request) (cell : ℕ) (grows : Bool) (content : List ℕ) → AreasLeadWithin o x
      → LeadIn (type_numbered o request.class) content
      → AreasLeadWithin o (record x { store = with_content (made_by x.store request (Take cell grows)) cell content })
  full_leads x request cell grows [] leads few = made_leads x request cell grows leads
  full_leads x request cell grows (unit ∷ units) leads few =
      let middle : Store = made_by x.store request (Take cell grows) in
      let first : Object = new_object x.store.births request in
      let after : with_content middle cell (unit ∷ units) ≡ with_object middle cell (record first { elements = unit ∷ units }) =
      ap (content_in middle cell unit units) (new_held x.store request cell grows) in
      subst (λ later. AreasLeadWithin o (record x { store = later })) (sym after)
      (changed_leads (record x { store = middle }) cell (record first { elements = unit ∷ units }) (made_leads x request cell grows leads)
      (filled_within first (unit ∷ units) (new_within x.store.births request) few))

  pub filled_leads : (x : Areas) (request : Request) (cell : ℕ) (grows : Bool) (content : List ℕ) → AreasLeadWithin o x
      → AllByRecursion (λ u. u < 2 ^ 16) content
      → AreasLeadWithin o (record x { store = with_content (made_by x.store request (Take cell grows)) cell content })
  filled_leads x request cell grows content leads few =
      full_leads x request cell grows content leads (units_lead (type_numbered o request.class) content few)

  pub units_of : (t : TypeRef) (len : ℕ) (content : List ℕ) → ContentFits o t len content → AllByRecursion (λ u. u < 2 ^ 16) content
  units_of t len [] fits = tt
  units_of t len (unit ∷ units) fits = fits.1

  -- ---- frees and chains

  -- the areas lead where they led, and what is held in them was held, of its type
  pub record Less (x y : Areas) : Type 0 where
    pub leads : AreasLeadWithin o x → AreasLeadWithin o y
    pub was : (cell : ℕ) (now : Object) → object_at y.store cell ≡ Some now → (object : Object) × (object_at x.store cell ≡ Some object) × (now.class ≡ object.class)

  same_less : (x : Areas) → Less x x
  same_less x = record { leads = λ leads. leads; was = λ cell now held. (now, held, refl) }

  gone_less : (x : Areas) (cell frees freed_words : ℕ) (object : Object)
      → Less x (record x { store = without_object x.store cell object; frees = frees; freed_words = freed_words })
  gone_less x cell frees freed_words object = record {
    leads = λ leads. record { statics = leads.statics; literals = leads.literals; heap = λ q now held. leads.heap q now (there q now held) };
    was = λ q now held. (now, there q now held, refl);
  } where
    kept_object : (b : Bool) (q : ℕ) (now : Object) → cond b None (object_at x.store q) ≡ Some now → object_at x.store q ≡ Some now
    kept_object true q now is = absurd (cc)
    kept_object false q now is = is

    there : (q : ℕ) (now : Object) → object_at (without_object x.store cell object) q ≡ Some now → object_at x.store q ≡ Some now
    there q now held = kept_object (nat_eq q cell) q now (sym (object_at-without_object x.store cell object q) ∙ held)

  freed_less : (x : Areas) (cell : ℕ) → Less x (freed x cell)
  freed_less x cell = by_object (object_at x.store cell) refl where
    by_fixed : (b : Bool) (object : Object) → object_at x.store cell ≡ Some object → object.fixed ≡ b
        → Less x (cond b x (record x { store = freed_by x.store cell; frees = x.frees + 1; freed_words = x.freed_words + object_words object }))
    by_fixed true object held is = same_less x
    by_fixed false object held is =
        let after : freed_by x.store cell ≡ without_object x.store cell object =
        freed_by-some x.store cell object held ∙ ap (λ b. cond b x.store (without_object x.store cell object)) is in
        subst (λ later. Less x (record x { store = later; frees = x.frees + 1; freed_words = x.freed_words + object_words object })) (sym after)
        (gone_less x cell (x.frees + 1) (x.freed_words + object_words object) object)

    by_object : (found : Option Object) → object_at x.store cell ≡ found → Less x (freed_object x cell found)
    by_object None held = same_less x
    by_object (Some object) held = by_fixed object.fixed object held refl

  all_freed_less : (x : Areas) (cells : List ℕ) → Less x (all_freed x cells)
  all_freed_less x [] = same_less x
  all_freed_less x (cell ∷ cells) =
      let one = freed_less x cell in
      let more = all_freed_less (freed x cell) cells in
      record {
        leads = λ leads. more.leads (one.leads leads);
        was = λ q now held.
            let middle = more.was q now held in
            let first = one.was q middle.0 middle.1 in (first.0, first.1, middle.2 ∙ first.2);
      }

  chained_less : (x : Areas) (cell to : ℕ) → to < 2 ^ 32 → Less x (chained x cell to)
  chained_less x cell to fits = by_object (object_at x.store cell) refl where
    by_place : (object : Object) (q : ℕ) (now : Object) (b : Bool) → nat_eq q cell ≡ b → object_at x.store cell ≡ Some object
        → cond b (Some (with_chain object to)) (object_at x.store q) ≡ Some now
        → (was : Object) × (object_at x.store q ≡ Some was) × (now.class ≡ was.class)
    by_place object q now true e held is =
        let here : q ≡ cell = grind (arith, nat_tests, e) in
        (object, ap (λ c. object_at x.store c) here ∙ held, ap (λ (y : Object). y.class) (sym (same_Some (with_chain object to) now is)))
    by_place object q now false e held is = (now, is, refl)

    by_object : (found : Option Object) → object_at x.store cell ≡ found → Less x (record x { store = chained_by x.store cell to })
    by_object None held = subst (λ later. Less x (record x { store = later })) (sym (chained_by-none x.store cell to held)) (same_less x)
    by_object (Some object) held =
        subst (λ later. Less x (record x { store = later })) (sym (chained_by-some x.store cell to object held)) (record {
          leads = λ leads. changed_leads x cell (with_chain object to) leads (chained_within object to (leads.heap cell object held) fits);
          was = λ q now is. by_place object q now (nat_eq q cell) refl held (sym (object_at-with_object x.store cell (with_chain object to) q) ∙ is);
        })

-- ---- along the actions

-- what is held where all actions were done or the store was full has cells within the range
abbrev pub FitsHeld : Performed → Type 0
FitsHeld (Did x made) = CellsFit x.store
FitsHeld (FullAt x needed) = CellsFit x.store
FitsHeld (LostAt v) = Unit {0}

-- then all leads there, and what was held has its type
abbrev pub LeadWithin : Outline → Store → Performed → Type 0
LeadWithin o store (Did x made) = AreasLeadWithin o x × All (λ cell. cell < 2 ^ 32) made × SameClasses store x.store
LeadWithin o store (FullAt x needed) = AreasLeadWithin o x
LeadWithin o store (LostAt v) = Unit {0}

by_held : (o : Outline) (store : Store) (result : Performed) (cell : ℕ) → IsIn cell result → FitsHeld result → (cell < 2 ^ 32 → LeadWithin o store result)
    → LeadWithin o store result
by_held o store (Did x made) cell is fits rest = ⊎_elim (λ held. rest (fits cell held)) (λ small. rest small) is
by_held o store (FullAt x needed) cell is fits rest = ⊎_elim (λ held. rest (fits cell held)) (λ small. rest small) is
by_held o store (LostAt v) cell is fits rest = tt

module _ (o : Outline) (sizes : (class : ℕ) → size_of o.classes class < 2 ^ 31) (choose : Choose) (may : (s : Store) (request : Request) → MayReuse s request (choose s request)) (store : Store) (f : Frame) (within : FrameLeadsWithin f) where
  abbrev L : Performed → Type 0
  L result = FitsHeld result → LeadWithin o store result

  pub kept_classes : (x : Areas) (types : List TypeRef) (made : List ℕ) → Keeps o store x types made → SameClasses store x.store
  kept_classes x types made h cell object now was is =
      let here = h.kept cell object was in ap (λ (y : Object). y.class) (same_Some now here.0 (sym is ∙ here.1)) ∙ here.2

  less_classes : (x y : Areas) → Less o x y → SameClasses store x.store → SameClasses store y.store
  less_classes x y less same cell object now was is =
      let middle = less.was cell now is in middle.2 ∙ same cell object middle.0 was middle.1

  -- what follows a make
  pub made_holds : (x : Areas) (t : TypeRef) (len : ℕ) (content : List ℕ) (fixed : Bool) (choice : Choice) (follows : Areas → ℕ → Performed)
      → AreasAreSound o x → MakeFits o t len content → MayReuse x.store (requested o t len fixed) choice → AreasLeadWithin o x
      → ((y : Areas) (cell : ℕ) → ChainsFit y.store → IsHeld y.store cell → IsIn cell (follows y cell))
      → ((later : Store) (cell : ℕ) → Makes o x later cell t → cell < 2 ^ 32 → AreasLeadWithin o (record x { store = later })
      → L (follows (record x { store = later }) cell))
      → L (made_then x (requested o t len fixed) content choice follows)
  made_holds x t len content fixed RefuseStore follows sound fits can leads stay rest held = leads
  made_holds x t len content fixed (Take cell grows) follows sound fits can leads stay rest held =
      let request : Request = requested o t len fixed in
      let later : Store = with_content (made_by x.store request (Take cell grows)) cell content in
      let one : Makes o x later cell t = makes o x t len content fixed cell grows sound fits can.1 in
      let now : AreasLeadWithin o (record x { store = later }) =
      filled_leads o x request cell grows content leads (units_of o t len content fits.content_fits) in
      by_held o store (follows (record x { store = later }) cell) cell
      (stay (record x { store = later }) cell (chains_of o (record x { store = later }) now) (ap is_some one.there)) held
      (λ small. rest later cell one small now held)

  -- what follows a copy
  copy_holds : (x : Areas) (t : TypeRef) (len : ℕ) (content : List ℕ) (choice : Choice) (follows : Areas → ℕ → Performed)
      → AreasAreSound o x → (fits : MakeFits o t len []) → Fill o t len content → LeadIn o t content → MayReuse x.store (requested o t len false) choice
      → AreasLeadWithin o x → ((y : Areas) (cell : ℕ) → ChainsFit y.store → IsHeld y.store cell → IsIn cell (follows y cell))
      → ((later : Store) (cell : ℕ) → Makes o x later cell t → cell < 2 ^ 32 → AreasLeadWithin o (record x { store = later })
      → L (follows (record x { store = later }) cell))
      → L (made_then x (requested o t len false) content choice follows)
  copy_holds x t len content RefuseStore follows sound fits fills within_range can leads stay rest held = leads
  copy_holds x t len content (Take cell grows) follows sound fits fills within_range can leads stay rest held =
      let request : Request = requested o t len false in
      let later : Store = with_content (made_by x.store request (Take cell grows)) cell content in
      let one : Makes o x later cell t = makes_full o x t len content false cell grows sound fits fills can.1 in
      let now : AreasLeadWithin o (record x { store = later }) =
      full_leads o x request cell grows content leads (subst (λ u. LeadIn o u content) (sym (type_made o t len [] false fits)) within_range) in
      by_held o store (follows (record x { store = later }) cell) cell
      (stay (record x { store = later }) cell (chains_of o (record x { store = later }) now) (ap is_some one.there)) held
      (λ small. rest later cell one small now held)

  either_holds : (b : Bool) (one other : Performed) → L one → L other → L (cond b one other)
  either_holds true one other first second = first
  either_holds false one other first second = second

  -- the object that is put into
  object_now : (x : Areas) (types : List TypeRef) (made : List ℕ) (source : Source) (place : ℕ) (k : Kind) → Keeps o store x types made
      → ObjectFits o store f types source place k
      → (now : Object) × (object_at x.store (cell_of (value_of (sources_of f x made) source)) ≡ Some now) × (kind_in o now place ≡ Some k)
  object_now x types made (OfOperand n) place k h fits =
      let now = h.kept (cell_of (word_at f.stack n)) fits.0 fits.1 in
      (now.0, now.1, ap (λ class. kind_at o.classes (type_numbered o class) place) now.2 ∙ fits.2.kind)
  object_now x types made (OfMade n) place k h fits =
      let now = h.made_is n fits.0 fits.1 in (now.0, now.1, ap (λ t. kind_at o.classes t place) now.2 ∙ fits.2.kind)
  object_now x types made source place k h fits = absurd fits

  pub put_leads : (x : Areas) (types : List TypeRef) (made : List ℕ) (source : Source) (place : ℕ) (k : Kind) (v : Value) → Keeps o store x types made
      → ObjectFits o store f types source place k → AreasLeadWithin o x → ((t : TypeRef) → k ≡ kind.Ref t → LeadsWithin v)
      → AreasLeadWithin o (put_value x (value_of (sources_of f x made) source) place k v)
  put_leads x types made source place k v h fits leads value_fits =
      let target : ℕ = cell_of (value_of (sources_of f x made) source) in
      let now = object_now x types made source place k h fits in
      subst (λ later. AreasLeadWithin o (record x { store = later })) (sym (put_by-some x.store target place (kept k v) now.0 now.1))
      (changed_leads o x target (with_element now.0 place (kept k v)) leads
      (put_within o now.0 place k v (leads.heap target now.0 now.1) now.2 value_fits))

  pub put_reads : (object v : Source) (place : ℕ) (k : Kind) → PutAgrees o store f.stack (Put object place k v) → (t : TypeRef) → k ≡ kind.Ref t
      → ReadAgrees o store f.stack v
  put_reads object v place k agrees t is = subst (λ other. PutAgrees o store f.stack (Put object place other v)) is agrees

  set_within : (slot : ℕ) (k : Kind) (s : Source) (v : Value) → PutAgrees o store f.stack (SetStatic slot k s) → (ReadAgrees o store f.stack s → LeadsWithin v)
      → LeadsWithin (cut k v)
  set_within slot (kind.Ref t) s v agrees fits = reference_within t (kept (kind.Ref t) v) (kept_within t v (fits agrees))
  set_within slot k s v agrees fits = number_within k (kept k v) tt

  pub set_leads : (x : Areas) (slot : ℕ) (k : Kind) (s : Source) (v : Value) → AreasLeadWithin o x → PutAgrees o store f.stack (SetStatic slot k s)
      → (ReadAgrees o store f.stack s → LeadsWithin v) → AreasLeadWithin o (set_static x slot k v)
  set_leads x slot k s v leads agrees fits = record {
    statics = All-set LeadsWithin x.statics slot (cut k v) (set_within slot k s v agrees fits) leads.statics;
    literals = leads.literals;
    heap = leads.heap;
  }

  pub literal_leads : (x : Areas) (text cell : ℕ) → AreasLeadWithin o x → cell < 2 ^ 32 → AreasLeadWithin o (literal_made x text cell)
  literal_leads x text cell leads small = record {
    statics = leads.statics;
    literals = All-set (λ c. c < 2 ^ 32) x.literals text cell small leads.literals;
    heap = leads.heap;
  }

  pub start_leads : (x : Areas) (class : ℕ) → AreasLeadWithin o x → AreasLeadWithin o (record x { started = slice_set x.started class true })
  start_leads x class leads = record { statics = leads.statics; literals = leads.literals; heap = leads.heap }

  -- nothing follows what frees or chains
  ends_hold : (more : List Action) (x : Areas) (made : List ℕ) → more ≡ [] → AreasLeadWithin o x → All (λ cell. cell < 2 ^ 32) made
      → SameClasses store x.store → L (performed o choose f.locals f.stack more x made)
  unfolding performed
  ends_hold more x made is leads small same =
      subst (λ others. L (performed o choose f.locals f.stack others x made)) (sym is) (λ held. (leads, small, same))

  chain_holds : (more : List Action) (x : Areas) (made : List ℕ) (v : Value) (cells : Option (List ℕ)) → more ≡ [] → AreasLeadWithin o x
      → All (λ cell. cell < 2 ^ 32) made → SameClasses store x.store
      → L (chain_freed x v cells (λ y. performed o choose f.locals f.stack more y made))
  chain_holds more x made v None is leads small same = λ held. tt
  chain_holds more x made v (Some cells) is leads small same =
      ends_hold more (all_freed x cells) made is ((all_freed_less o x cells).leads leads) small
      (less_classes x (all_freed x cells) (all_freed_less o x cells) same)

  acts_hold : (actions : List Action) (x : Areas) (types : List TypeRef) (made : List ℕ) → ActsFit o store f types actions
      → AllByRecursion (PutAgrees o store f.stack) actions → Keeps o store x types made → AreasLeadWithin o x → All (λ cell. cell < 2 ^ 32) made
      → L (performed o choose f.locals f.stack actions x made)
  unfolding performed
  acts_hold [] x types made fit agrees h leads small = λ held. (leads, small, kept_classes x types made h)
  acts_hold (Make t len content ∷ more) x types made fit agrees h leads small =
      made_holds x t len content false (choose x.store (requested o t len false))
      (λ y cell. performed o choose f.locals f.stack more y (made ++ cell ∷ [])) h.sound fit.0 (may x.store (requested o t len false)) leads
      (λ y cell chains held. acts_stay o choose f within more y (made ++ cell ∷ []) chains cell held)
      (λ later cell one within_range now. acts_hold more (record x { store = later }) (types ++ t ∷ []) (made ++ cell ∷ []) fit.1 agrees.1
      (one_made o store x later types made cell t h one) now (All-push (λ c. c < 2 ^ 32) made cell small within_range))
  acts_hold (MakeFixed t ∷ more) x types made fit agrees h leads small =
      made_holds x t 0 [] true (choose x.store (requested o t 0 true))
      (λ y cell. performed o choose f.locals f.stack more y (made ++ cell ∷ [])) h.sound fit.0 (may x.store (requested o t 0 true)) leads
      (λ y cell chains held. acts_stay o choose f within more y (made ++ cell ∷ []) chains cell held)
      (λ later cell one within_range now. acts_hold more (record x { store = later }) (types ++ t ∷ []) (made ++ cell ∷ []) fit.1 agrees.1
      (one_made o store x later types made cell t h one) now (All-push (λ c. c < 2 ^ 32) made cell small within_range))
  acts_hold (MakeLiteral text ∷ more) x types made fit agrees h leads small =
      let t : TypeRef = literal_type o text in
      let len : ℕ = length (literal_text o text) in
      either_holds (is_there x text) (performed o choose f.locals f.stack more x made)
      (made_then x (requested o t len true) (literal_text o text) (choose x.store (requested o t len true))
      (λ y cell. performed o choose f.locals f.stack more (literal_made y text cell) made))
      (acts_hold more x types made fit.1 agrees.1 h leads small)
      (made_holds x t len (literal_text o text) true (choose x.store (requested o t len true))
      (λ y cell. performed o choose f.locals f.stack more (literal_made y text cell) made) h.sound fit.0 (may x.store (requested o t len true)) leads
      (λ y cell chains held. acts_stay o choose f within more (literal_made y text cell) made chains cell held)
      (λ later cell one within_range now. acts_hold more (literal_made (record x { store = later }) text cell) types made fit.1 agrees.1
      (with_areas o sizes choose may store f (record x { store = later }) (literal_made (record x { store = later }) text cell) types made
      (keeps_later o store x later types made h one.follows one.sound) refl
      (literal_set o sizes choose may store f (record x { store = later }) text cell one.sound))
      (literal_leads (record x { store = later }) text cell now within_range) small))
  acts_hold (Put object place k v ∷ more) x types made fit agrees h leads small =
      acts_hold more (put_value x (value_of (sources_of f x made) object) place k (value_of (sources_of f x made) v)) types made fit.2 agrees.1
      (object_keeps o sizes choose may store f x types made object v place k h fit.0 fit.1)
      (put_leads x types made object place k (value_of (sources_of f x made) v) h fit.0 leads
      (λ t is. source_within o store f within x made leads small (kept_classes x types made h) v (put_reads object v place k agrees.0 t is)))
      small
  acts_hold (SetStatic slot k v ∷ more) x types made fit agrees h leads small =
      acts_hold more (set_static x slot k (value_of (sources_of f x made) v)) types made fit.1 agrees.1
      (with_areas o sizes choose may store f x (set_static x slot k (value_of (sources_of f x made) v)) types made h refl
      (static_set o sizes choose may store f x slot k (value_of (sources_of f x made) v) h.sound fit.0))
      (set_leads x slot k v (value_of (sources_of f x made) v) leads agrees.0
      (λ reads. source_within o store f within x made leads small (kept_classes x types made h) v reads))
      small
  acts_hold (Start class ∷ more) x types made fit agrees h leads small =
      acts_hold more (record x { started = slice_set x.started class true }) types made fit agrees.1
      (with_areas o sizes choose may store f x (record x { started = slice_set x.started class true }) types made h refl
      (class_set o sizes choose may store f x class h.sound))
      (start_leads x class leads) small
  acts_hold (Free operand ∷ more) x types made fit agrees h leads small =
      let target : ℕ = cell_of (word_at f.stack operand) in
      ends_hold more (freed x target) made fit ((freed_less o x target).leads leads) small
      (less_classes x (freed x target) (freed_less o x target) (kept_classes x types made h))
  acts_hold (SetChain operand to ∷ more) x types made fit agrees h leads small =
      let target : ℕ = cell_of (word_at f.stack operand) in
      let end : ℕ = cell_of (word_at f.stack to) in
      let less = chained_less o x target end (word_within f.stack within.stack to) in
      ends_hold more (chained x target end) made fit (less.leads leads) small
      (less_classes x (chained x target end) less (kept_classes x types made h))
  acts_hold (FreeChain operand ∷ more) x types made fit agrees h leads small =
      chain_holds more x made (word_at f.stack operand) (chain_from x.store (cell_of (word_at f.stack operand))) fit leads small
      (kept_classes x types made h)
  acts_hold (Copy t len operand ∷ more) x types made fit agrees h leads small =
      let from : ℕ = cell_of (word_at f.stack operand) in
      let copies : Copying o x f t len operand = copying o store x types made f t len operand h fit.0 in
      copy_holds x t len (copied x.store from len) (choose x.store (requested o t len false))
      (λ y cell. performed o choose f.locals f.stack more y (made ++ cell ∷ [])) h.sound fit.0.makes copies.fills
      (subst (λ elements. LeadIn o t elements) (sym copies.content)
      (copy_leads o t len copies.object copies.type (leads.heap from copies.object copies.held)))
      (may x.store (requested o t len false)) leads
      (λ y cell chains held. acts_stay o choose f within more y (made ++ cell ∷ []) chains cell held)
      (λ later cell one within_range now. acts_hold more (record x { store = later }) (types ++ t ∷ []) (made ++ cell ∷ []) fit.1 agrees.1
      (one_made o store x later types made cell t h one) now (All-push (λ c. c < 2 ^ 32) made cell small within_range))

pub actions_hold : (o : Outline) → ((class : ℕ) → size_of o.classes class < 2 ^ 31) → (choose : Choose)
    → ((s : Store) (request : Request) → MayReuse s request (choose s request)) → (f : Frame) → FrameLeadsWithin f → (x : Areas) (actions : List Action)
    → AreasAreSound o x → ActsFit o x.store f [] actions → AllByRecursion (PutAgrees o x.store f.stack) actions → AreasLeadWithin o x
    → FitsHeld (performed o choose f.locals f.stack actions x []) → LeadWithin o x.store (performed o choose f.locals f.stack actions x [])
actions_hold o sizes choose may f within x actions sound fit agrees leads =
    acts_hold o sizes choose may x.store f within actions x [] [] fit agrees (record {
      sound = sound;
      kept = λ cell object held. (object, held, refl);
      made_is = λ n t at. absurd (cc);
      count = refl;
    }) leads (λ n d inside. absurd (omega (arith, inside)))
