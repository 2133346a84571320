-- The rows of arrays: what is loaded fits the elements of the array's type, and what is stored fits those of the array that is met.
use Rattle.std.proofs.Common.{◌≡◌, ℕ, ◌+◌, ◌-◌, ◌==◌, ◌&&◌, ◌||◌, not, int_lt, pos, unsigned_abs, Bool, true, false, List, [], ◌∷◌, ◌++◌, length, map, codes, nat_lt, Option, Some, refl, sym, ◌∙◌, ap, subst, inl, inr, slice_get}
use Rattle.std.specs.List.{AllZip}
use Rattle.std.proofs.lemmas.Bool.{false≢true}
use Rattle.std.proofs.lemmas.Option.{same_Some}
use Rattle.fm_base.proofs.OptionFacts.{cond-some_then, option_and_then-some}
use Rattle.fm_base.specs.declared.kinds.Base.TheVariants as base
use Rattle.fm_base.specs.declared.kinds.Kind.{Kind}
use Rattle.fm_base.specs.declared.kinds.Kind.TheVariants as kind
use Rattle.fm_base.specs.declared.kinds.TypeRef.{TypeRef}
use Rattle.fm_code.specs.declared.operations.Elem.{Elem}
use Rattle.fm_code.specs.declared.operations.Elem.TheVariants as elem
use Rattle.fm_types.specs.ArrayRows as typed
use Rattle.fm_types.specs.ArrayRows.{array_load_row, array_store_row, has_letter, is_array_of, length_row, new_array_row, new_references_row, null_element, on_array, stored_element}
use Rattle.fm_types.specs.Fits.{fits_type}
use Rattle.fm_types.specs.States.{stack_slots, worked}
use Rattle.fm_types.specs.declared.slots.Slot.{Slot}
use Rattle.fm_types.specs.declared.slots.Slot.TheVariants as slot
use Rattle.fm_types.proofs.Order.{type-refl, type-trans}
use Rattle.fm_world.specs.Chains.{is_sub}
use Rattle.fm_world.specs.Programs.{Outline}
use Rattle.fm_world.specs.Uses.{array_of}
use Rattle.fm_world.specs.declared.uses.Use.{Use}
use Rattle.fm_frames.specs.Acts.{cell_of, value_of}
use Rattle.fm_code.specs.StackWords.{element_words}
use Rattle.fm_frames.specs.ArrayRows.{array_load_effect, array_made, array_store_effect, element_kind, element_type, length_effect, new_array_effect, new_references_effect, on_element, put_element, put_reference, thrown_negative}
use Rattle.fm_frames.specs.Effects.{Effect, int_word, loaded, Make, making, OfOperand, OfPlace, Source, words}
use Rattle.fm_frames.specs.Operands.{thrown}
use Rattle.fm_frames.specs.Sights.{Looks, sight, Sight, sights, Thing}
use Rattle.fm_frames.specs.States.{Areas, word_at}
use Rattle.fm_frames.specs.declared.values.Value.{Value}
use Rattle.fm_law_sound.specs.Leading.{sources_of}
use Rattle.fm_law_sound.specs.Sound.{IsReference}
use Rattle.fm_law_sound.proofs.ArrayRows.{by_array, number_slots}
use Rattle.fm_law_sound.proofs.Cases.{by_if}
use Rattle.fm_law_sound.proofs.InsnActs.{elements_deep}
use Rattle.fm_law_sound.proofs.NestedArrays.{array_kind}
use Rattle.fm_law_no_fault.specs.Seen.{SeesA}
use Rattle.fm_law_no_fault.specs.Whole.{LeadsToA, WordFits}
use Rattle.fm_law_no_fault.proofs.ActsKeep.{Went}
use Rattle.fm_law_no_fault.proofs.ActsSuits.{leads_weaker}
use Rattle.fm_law_no_fault.proofs.ArrayTypes.{array_fits, dimensions_fit, element_fits, element_kind-is}
use Rattle.fm_law_no_fault.proofs.CellsLeave.{Below, below_found, worked_below_cells}
use Rattle.fm_law_no_fault.proofs.ObjectRows.{by_row_type, loaded_cells, made_is, place_leads}
use Rattle.fm_law_no_fault.proofs.Owing.{Cell, Suits}
use Rattle.fm_law_no_fault.proofs.RowCases.{asked_int, null_cell, null_whole, Row, seen_holds, thrown_whole, Whole, worked_leaves}
use Rattle.fm_law_no_fault.proofs.StoresKeep.{sees}
use Rattle.fm_law_no_fault.proofs.Wanted.{slot_held, slot_passing, wanted_at, wanted_int, wanted_leads, word_fits_at, word_there}

-- ---- types of arrays

-- what isn't a reference takes one word or two
letter_suits : (e : Elem) (k : Kind) → stack_slots (k ∷ []) ≡ typed.element_words e → ((t : TypeRef) → k ≡ kind.Ref t → ⊥)
letter_suits elem.Boolean k same t is = absurd (cc (ap (λ q. stack_slots (q ∷ [])) is, same))
letter_suits elem.Byte k same t is = absurd (cc (ap (λ q. stack_slots (q ∷ [])) is, same))
letter_suits elem.Char k same t is = absurd (cc (ap (λ q. stack_slots (q ∷ [])) is, same))
letter_suits elem.Short k same t is = absurd (cc (ap (λ q. stack_slots (q ∷ [])) is, same))
letter_suits elem.Int k same t is = absurd (cc (ap (λ q. stack_slots (q ∷ [])) is, same))
letter_suits elem.Long k same t is = absurd (cc (ap (λ q. stack_slots (q ∷ [])) is, same))
letter_suits elem.Ref k same t is = absurd (cc (ap (λ q. stack_slots (q ∷ [])) is, same))

module _ (r : Row) where
  abbrev o : Outline
  o = r.program.outline

  abbrev seen : List Sight
  seen = sights o r.areas.store r.frame.stack

  -- a number is kept, whatever the source
  suits_number : (k : Kind) (v : Source) → ((t : TypeRef) → k ≡ kind.Ref t → ⊥) → Suits o r.areas.store r.frame.stack [] k v
  suits_number kind.Boolean v none = tt
  suits_number kind.Byte v none = tt
  suits_number kind.Char v none = tt
  suits_number kind.Short v none = tt
  suits_number kind.Int v none = tt
  suits_number kind.Long v none = tt
  suits_number (kind.Ref t) v none = absurd (none t refl)

  -- ---- the array below the index

  -- what is where the checker has null or an array leads to null or to such an array
  array_leads : (passes : TypeRef → Bool) → ((a t : TypeRef) → fits_type o.classes a t ≡ true → passes t ≡ true → passes a ≡ true)
      → (null : List Slot) (given : TypeRef → List Slot) (below : Slot) (slots : List Slot) → on_array passes null given below ≡ Some slots → (v : Value)
      → WordFits o r.areas.store r.own r.news below v → IsReference v × LeadsToA o r.areas.store passes (cell_of v)
  array_leads passes along null given slot.Null slots is v h = (h.kind, inl h.cell)
  array_leads passes along null given (slot.Ref t) slots is v h =
      let parts = cond-some_then (passes t) (Some (given t)) slots is in
      (h.kind, leads_weaker o r.areas.store (λ u. fits_type o.classes u t) passes (λ a fits_it. along a t fits_it parts.0) (cell_of v) h.cell)
  array_leads passes along null given slot.Top slots is v h = absurd (cc)
  array_leads passes along null given slot.Int slots is v h = absurd (cc)
  array_leads passes along null given slot.Long slots is v h = absurd (cc)
  array_leads passes along null given (slot.Uninit item) slots is v h = absurd (cc)
  array_leads passes along null given slot.UninitThis slots is v h = absurd (cc)

  abbrev BelowOf : List Slot → (Slot → Option (List Slot)) → Type 0
  BelowOf wanted given = Below o r.areas.store r.own r.news r.before r.frame r.locals r.stack wanted given r.after

  -- an element of an array that passes
  element_whole : (e : Elem) (wanted null : List Slot) (given : TypeRef → List Slot) (b : BelowOf wanted (on_array (is_array_of e) null given))
      → (index : ℕ) → length wanted ≡ index + 1 → slice_get wanted index ≡ Some slot.Int → (follows : Looks → ℕ → Effect)
      → ((it : Looks) → slice_get seen (index + 1) ≡ Some (Thing it) → is_array_of e it.type ≡ true → (place : ℕ) → Whole r (follows it place))
      → Whole r (on_element o e seen index follows)
  element_whole e wanted null given b index count int_at follows each =
      let at : slice_get r.before.stack (index + 1) ≡ Some b.below = ap (λ n. slice_get r.before.stack n) (sym count) ∙ b.at in
      let fits_it = word_fits_at o r.areas.store r.own r.news r.before.stack r.frame.stack r.stack (index + 1) b.below at in
      let leads = array_leads (is_array_of e) (λ a t f is. array_fits o r.steps.tree a t f e is) null given b.below b.slots b.given_is
      (word_at r.frame.stack (index + 1)) fits_it in
      slot_passing o r.areas.store r.own r.news (Whole r) r.before.stack r.frame.stack r.stack (index + 1) b.below at _ (is_array_of e) leads.0 leads.1
      (null_whole r)
      (λ it found passes.
      wanted_int o r.areas.store r.own r.news r.steps.tree (Whole r) wanted r.before.stack (b.below ∷ b.rest) b.taken_is r.frame.stack r.stack index int_at _
      (λ n. by_if (Whole r) (int_lt n (pos 0) || not (int_lt n (pos it.len))) (thrown o (codes "java/lang/ArrayIndexOutOfBoundsException"))
      (follows it (unsigned_abs n))
      (λ outside. thrown_whole r (codes "java/lang/ArrayIndexOutOfBoundsException") r.cells.built_in.thrown.1.1.1.0)
      (λ inside. each it found passes (unsigned_abs n))))

  -- ---- loading

  abbrev Loads : TypeRef → ℕ → List Slot → Type 0
  Loads t place slots =
      (y : Areas) (made : List ℕ) → Went o r.areas.store [] y made
      → AllZip (Cell o y.store r.own r.news) slots (map (value_of (sources_of r.frame y made)) (loaded (element_kind t) (OfPlace 1 place (element_kind t))))

  element_loads : (e : Elem) (it : Looks) → slice_get seen 1 ≡ Some (Thing it) → is_array_of e it.type ≡ true → (place : ℕ)
      → Loads it.type place (stack_slots (element_kind it.type ∷ []))
  element_loads e it found is place y made went =
      loaded_cells r (element_kind it.type) (OfPlace 1 place (element_kind it.type)) y made
      (place_leads r 1 it found place (element_kind it.type) (array_kind o.classes it.type place (elements_deep e it.type is)) [] y made went)

  -- what is seen of a word that leads to what passes does pass
  seen_passes : (n : ℕ) (below : Slot) → slice_get r.before.stack n ≡ Some below → (it : Looks) → slice_get seen n ≡ Some (Thing it) → (test : TypeRef → Bool)
      → IsReference (word_at r.frame.stack n) → LeadsToA o r.areas.store test (cell_of (word_at r.frame.stack n)) → test it.type ≡ true
  seen_passes n below at it found test reference leads =
      let there = word_there o r.areas.store r.own r.news r.before.stack r.frame.stack r.stack n below at in
      subst (SeesA test) (same_Some (sight o r.areas.store (word_at r.frame.stack n)) (Thing it) (sym there ∙ found))
      (sees o r.areas.store test (word_at r.frame.stack n) reference leads)

  reference_loads : (below : Slot) (slots : List Slot) → slice_get r.before.stack 1 ≡ Some below
      → on_array (is_array_of elem.Ref) (slot.Null ∷ []) (typed.element_of elem.Ref) below ≡ Some slots
      → WordFits o r.areas.store r.own r.news below (word_at r.frame.stack 1)
      → (it : Looks) → slice_get seen 1 ≡ Some (Thing it) → is_array_of elem.Ref it.type ≡ true → (place : ℕ) → Loads it.type place slots
  reference_loads slot.Null slots at given h it found is place y made went =
      absurd (false≢true (seen_passes 1 slot.Null at it found (λ u. false) h.kind (inl h.cell)))
  reference_loads (slot.Ref t) slots at given h it found is place y made went =
      let parts = cond-some_then (is_array_of elem.Ref t) (Some (typed.element_of elem.Ref t)) slots given in
      let kind_is : element_kind it.type ≡ kind.Ref (element_type it.type) = element_kind-is it.type is in
      let fits_it : fits_type o.classes it.type t ≡ true = seen_passes 1 (slot.Ref t) at it found (λ u. fits_type o.classes u t) h.kind h.cell in
      let element : fits_type o.classes (element_type it.type) (element_type t) ≡ true = element_fits o r.steps.tree it.type t fits_it parts.0 in
      let leads = place_leads r 1 it found place (element_kind it.type) (array_kind o.classes it.type place (elements_deep elem.Ref it.type is)) [] y made went
      (element_type it.type) kind_is in
      subst (λ xs. AllZip (Cell o y.store r.own r.news) xs (map (value_of (sources_of r.frame y made)) (loaded (element_kind it.type) (OfPlace 1 place (element_kind it.type)))))
      (same_Some _ slots parts.1)
      (subst (λ k. AllZip (Cell o y.store r.own r.news) (slot.Ref (element_type t) ∷ []) (map (value_of (sources_of r.frame y made)) (loaded k (OfPlace 1 place (element_kind it.type)))))
      (sym kind_is) (
        leads_weaker o y.store (λ u. fits_type o.classes u (element_type it.type)) (λ u. fits_type o.classes u (element_type t))
            (λ u f. type-trans o.classes r.steps.tree u (element_type it.type) (element_type t) f element) _ leads,
        tt,
      ))
  reference_loads below slots at given h it found is place y made went = absurd (cc)

  -- what an array of numbers gives
  number_loads : (e : Elem) (t : TypeRef) (place : ℕ) (below : Slot) (slots : List Slot) → ((t.dims == 1) && has_letter e t.base) ≡ true
      → Loads t place (stack_slots (element_kind t ∷ []))
      → on_array (is_array_of e) (typed.element_words e) (λ u. typed.element_words e) below ≡ Some slots → Loads t place slots
  number_loads e t place below slots is loads given =
      let words : Loads t place (typed.element_words e) = subst (Loads t place) (number_slots e t.dims t.base is) loads in
      by_array (Loads t place) (is_array_of e) (typed.element_words e) (λ u. typed.element_words e) below slots words (λ u. words) given

  abbrev LoadOf : Elem → Type 0
  LoadOf e = BelowOf (slot.Int ∷ []) (on_array (is_array_of e) (null_element e) (typed.element_of e))

  load_leaves : (e : Elem) (b : LoadOf e) (it : Looks) (place : ℕ) → Loads it.type place b.slots
      → Whole r (words 2 (loaded (element_kind it.type) (OfPlace 1 place (element_kind it.type))))
  load_leaves e b it place loads = record {
    acts = tt;
    next = worked_below_cells o r.areas.store r.own r.news r.before r.frame r.locals r.stack (slot.Int ∷ [])
        (on_array (is_array_of e) (null_element e) (typed.element_of e)) r.after
        (words 2 (loaded (element_kind it.type) (OfPlace 1 place (element_kind it.type)))) b refl refl loads;
  }

  load_whole : (e : Elem) (b : LoadOf e)
      → ((it : Looks) → slice_get seen 1 ≡ Some (Thing it) → is_array_of e it.type ≡ true → (place : ℕ) → Loads it.type place b.slots)
      → Whole r (on_element o e seen 0 (λ it place. words 2 (loaded (element_kind it.type) (OfPlace 1 place (element_kind it.type)))))
  load_whole e b loads =
      element_whole e (slot.Int ∷ []) (null_element e) (typed.element_of e) b 0 refl refl _
      (λ it found passes place. load_leaves e b it place (loads it found passes place))

  number_load_whole : (e : Elem) (b : LoadOf e) → ((t : TypeRef) → is_array_of e t ≡ true → ((t.dims == 1) && has_letter e t.base) ≡ true)
      → on_array (is_array_of e) (typed.element_words e) (λ u. typed.element_words e) b.below ≡ Some b.slots
      → Whole r (on_element o e seen 0 (λ it place. words 2 (loaded (element_kind it.type) (OfPlace 1 place (element_kind it.type)))))
  number_load_whole e b letters given =
      load_whole e b (λ it found passes place.
      number_loads e it.type place b.below b.slots (letters it.type passes) (element_loads e it found passes place) given)

  load_by : (e : Elem) (b : LoadOf e)
      → Whole r (on_element o e seen 0 (λ it place. words 2 (loaded (element_kind it.type) (OfPlace 1 place (element_kind it.type)))))
  load_by elem.Boolean b = number_load_whole elem.Boolean b (λ t is. is) b.given_is
  load_by elem.Byte b = number_load_whole elem.Byte b (λ t is. is) b.given_is
  load_by elem.Char b = number_load_whole elem.Char b (λ t is. is) b.given_is
  load_by elem.Short b = number_load_whole elem.Short b (λ t is. is) b.given_is
  load_by elem.Int b = number_load_whole elem.Int b (λ t is. is) b.given_is
  load_by elem.Long b = number_load_whole elem.Long b (λ t is. is) b.given_is
  load_by elem.Ref b =
      load_whole elem.Ref b (reference_loads b.below b.slots b.at b.given_is
      (word_fits_at o r.areas.store r.own r.news r.before.stack r.frame.stack r.stack 1 b.below b.at))

  pub array_load_whole : (e : Elem) → array_load_row o e r.before ≡ Some r.after → Whole r (array_load_effect o e seen)
  unfolding array_load_row array_load_effect
  array_load_whole e checked =
      load_by e (below_found o r.areas.store r.own r.news r.before r.frame r.locals r.stack (slot.Int ∷ [])
      (on_array (is_array_of e) (null_element e) (typed.element_of e)) r.after checked)

  -- ---- storing

  abbrev StoreOf : Elem → Type 0
  StoreOf e = BelowOf (stored_element o e ++ slot.Int ∷ []) (on_array (is_array_of e) [] (λ t. []))

  nothing_given : (e : Elem) (below : Slot) (slots : List Slot) → on_array (is_array_of e) [] (λ t. []) below ≡ Some slots → (y : Areas)
      → AllZip (Cell o y.store r.own r.news) slots []
  nothing_given e below slots given y =
      by_array (λ xs. AllZip (Cell o y.store r.own r.news) xs []) (is_array_of e) [] (λ t. []) below slots tt (λ t. tt) given

  put_whole : (e : Elem) (b : StoreOf e) → element_words e + 2 ≡ length (stored_element o e ++ slot.Int ∷ []) + 1 → (it : Looks) (place : ℕ)
      → Suits o r.areas.store r.frame.stack [] (element_kind it.type) (OfOperand (element_words e - 1)) → Whole r (put_element (element_words e) it place)
  put_whole e b takes it place suits = record {
    acts = (suits, tt);
    next = worked_below_cells o r.areas.store r.own r.news r.before r.frame r.locals r.stack (stored_element o e ++ slot.Int ∷ [])
        (on_array (is_array_of e) [] (λ t. [])) r.after (put_element (element_words e) it place) b takes refl
        (λ y made went. nothing_given e b.below b.slots b.given_is y);
  }

  number_store_whole : (e : Elem) (b : StoreOf e) → element_words e + 2 ≡ length (stored_element o e ++ slot.Int ∷ []) + 1
      → length (stored_element o e ++ slot.Int ∷ []) ≡ element_words e + 1
      → slice_get (stored_element o e ++ slot.Int ∷ []) (element_words e) ≡ Some slot.Int
      → ((t : TypeRef) → is_array_of e t ≡ true → ((t.dims == 1) && has_letter e t.base) ≡ true)
      → Whole r (on_element o e seen (element_words e) (λ it place. put_element (element_words e) it place))
  number_store_whole e b takes count int_at letters =
      element_whole e (stored_element o e ++ slot.Int ∷ []) [] (λ t. []) b (element_words e) count int_at (λ it place. put_element (element_words e) it place)
      (λ it found passes place. put_whole e b takes it place
      (suits_number (element_kind it.type) _ (letter_suits e (element_kind it.type) (number_slots e it.type.dims it.type.base (letters it.type passes)))))

  put_reference_whole : (b : StoreOf elem.Ref) (it : Looks) → is_array_of elem.Ref it.type ≡ true → (place : ℕ) → Whole r (put_reference o seen it place)
  put_reference_whole b it passes place =
      let kind_is : element_kind it.type ≡ kind.Ref (element_type it.type) = element_kind-is it.type passes in
      let Takes = λ (k : Kind). Suits o r.areas.store r.frame.stack [] k (OfOperand 0) in
      let found = wanted_at o (stored_element o elem.Ref ++ slot.Int ∷ []) r.before.stack (b.below ∷ b.rest) b.taken_is 0 _ refl in
      let leads = wanted_leads o r.areas.store r.own r.news r.steps.tree (Whole r) (stored_element o elem.Ref ++ slot.Int ∷ []) r.before.stack (b.below ∷ b.rest)
      b.taken_is r.frame.stack r.stack 0 _ refl in
      slot_held o r.areas.store r.own r.news (Whole r) r.before.stack r.frame.stack r.stack 0 found.0 found.1 (put_element 1 it place) _ _ leads.0 leads.1
      (λ null. put_whole elem.Ref b refl it place (subst Takes (sym kind_is) (leads.0, inl (null_cell r 0 null))))
      (λ v seen_v fits_v. by_if (Whole r) (is_sub o.classes v.type (element_type it.type)) (put_element 1 it place)
      (thrown o (codes "java/lang/ArrayStoreException"))
      (λ stores. put_whole elem.Ref b refl it place (subst Takes (sym kind_is)
      (leads.0, inr (seen_holds r 0 v (λ u. fits_type o.classes u (element_type it.type)) seen_v (r.cells.places.subtypes v.type (element_type it.type) stores)))))
      (λ fails. thrown_whole r (codes "java/lang/ArrayStoreException") r.cells.built_in.thrown.1.1.1.1.0))

  store_by : (e : Elem) (b : StoreOf e) → Whole r (array_store_effect o e seen)
  unfolding array_store_effect
  store_by elem.Boolean b = number_store_whole elem.Boolean b refl refl refl (λ t is. is)
  store_by elem.Byte b = number_store_whole elem.Byte b refl refl refl (λ t is. is)
  store_by elem.Char b = number_store_whole elem.Char b refl refl refl (λ t is. is)
  store_by elem.Short b = number_store_whole elem.Short b refl refl refl (λ t is. is)
  store_by elem.Int b = number_store_whole elem.Int b refl refl refl (λ t is. is)
  store_by elem.Long b = number_store_whole elem.Long b refl refl refl (λ t is. is)
  store_by elem.Ref b =
      element_whole elem.Ref (stored_element o elem.Ref ++ slot.Int ∷ []) [] (λ t. []) b 1 refl refl (λ it place. put_reference o seen it place)
      (λ it found passes place. put_reference_whole b it passes place)

  pub array_store_whole : (e : Elem) → array_store_row o e r.before ≡ Some r.after → Whole r (array_store_effect o e seen)
  unfolding array_store_row
  array_store_whole e checked =
      store_by e (below_found o r.areas.store r.own r.news r.before r.frame r.locals r.stack (stored_element o e ++ slot.Int ∷ [])
      (on_array (is_array_of e) [] (λ t. [])) r.after checked)

  -- ---- lengths

  abbrev measured : Slot → Option (List Slot)
  measured = on_array (λ t. nat_lt 0 t.dims) (slot.Int ∷ []) (λ t. slot.Int ∷ [])

  length_by : (b : BelowOf [] measured) → Whole r (length_effect o seen)
  unfolding length_effect
  length_by b =
      let fits_it = word_fits_at o r.areas.store r.own r.news r.before.stack r.frame.stack r.stack 0 b.below b.at in
      let leads = array_leads (λ t. nat_lt 0 t.dims) (λ a t f is. dimensions_fit o r.steps.tree a t f is) (slot.Int ∷ []) (λ t. slot.Int ∷ []) b.below b.slots
      b.given_is (word_at r.frame.stack 0) fits_it in
      slot_passing o r.areas.store r.own r.news (Whole r) r.before.stack r.frame.stack r.stack 0 b.below b.at _ (λ t. nat_lt 0 t.dims) leads.0 leads.1
      (null_whole r)
      (λ it found passes. record {
        acts = tt;
        next = worked_below_cells o r.areas.store r.own r.news r.before r.frame r.locals r.stack [] measured r.after (words 1 (int_word (pos it.len))) b refl refl
            (λ y made went. by_array (λ xs. AllZip (Cell o y.store r.own r.news) xs (map (value_of (sources_of r.frame y made)) (int_word (pos it.len))))
            (λ t. nat_lt 0 t.dims) (slot.Int ∷ []) (λ t. slot.Int ∷ []) b.below b.slots (tt, tt) (λ t. (tt, tt)) b.given_is);
      })

  pub length_whole : length_row o r.before ≡ Some r.after → Whole r (length_effect o seen)
  unfolding length_row
  length_whole checked = length_by (below_found o r.areas.store r.own r.news r.before r.frame r.locals r.stack [] measured r.after checked)

  -- ---- new arrays

  pub negative_whole : Whole r (thrown_negative o)
  negative_whole = thrown_whole r (codes "java/lang/NegativeArraySizeException") r.cells.built_in.thrown.1.1.1.1.1.0

  array_whole : (t : TypeRef) → worked o (slot.Int ∷ []) (slot.Ref t ∷ []) r.before ≡ Some r.after → Whole r (array_made o (Some t) seen)
  array_whole t checked =
      asked_int r (slot.Int ∷ []) (slot.Ref t ∷ []) checked 0 refl _
      (λ n. by_if (Whole r) (int_lt n (pos 0)) (thrown_negative o) (making 1 (Make t (unsigned_abs n) [])) (λ below. negative_whole)
      (λ fine. record {
        acts = (inl refl, tt);
        next = worked_leaves r (slot.Int ∷ []) (slot.Ref t ∷ []) (making 1 (Make t (unsigned_abs n) [])) checked refl refl
            (λ y made went. (
              inr (made_is r (t ∷ []) y made went 0 t (λ u. fits_type o.classes u t) refl (type-refl o.classes r.steps.tree t)),
              tt,
            ));
      }))

  pub new_array_whole : (e : Elem) → new_array_row o e r.before ≡ Some r.after → Whole r (new_array_effect o e seen)
  unfolding new_array_row new_array_effect
  new_array_whole elem.Boolean checked = array_whole (record { dims = 1; base = base.Boolean }) checked
  new_array_whole elem.Byte checked = array_whole (record { dims = 1; base = base.Byte }) checked
  new_array_whole elem.Char checked = array_whole (record { dims = 1; base = base.Char }) checked
  new_array_whole elem.Short checked = array_whole (record { dims = 1; base = base.Short }) checked
  new_array_whole elem.Int checked = array_whole (record { dims = 1; base = base.Int }) checked
  new_array_whole elem.Long checked = array_whole (record { dims = 1; base = base.Long }) checked
  new_array_whole elem.Ref checked = absurd (cc)

  pub new_references_whole : (u : Use) → new_references_row o u r.before ≡ Some r.after → Whole r (new_references_effect o u seen)
  unfolding new_references_row new_references_effect
  new_references_whole u checked =
      by_row_type (Whole r) o u _ r.after checked _
      (λ n t is at array_is.
      let found = option_and_then-some (λ array. worked o (slot.Int ∷ []) (slot.Ref array ∷ []) r.before) (array_of t) r.after array_is in
      subst (λ a. Whole r (array_made o a seen)) (sym found.1) (array_whole found.0 found.2))
