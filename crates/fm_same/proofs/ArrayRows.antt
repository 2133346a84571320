-- The rows of arrays: an element is of the array's class, and all arrays that one step makes have one home.
use Rattle.std.proofs.Common.{◌≡◌, ◌≢◌, ℕ, ℤ, pos, ◌+◌, ◌-◌, ◌*◌, ◌<◌, ◌≤◌, ◌==◌, ◌&&◌, int_lt, Bool, true, false, cond, List, [], ◌∷◌, ◌++◌, length, reverse, Option, Some, None, codes, unsigned_abs, nat_lt, nat_le, Contains, refl, sym, ◌∙◌, ap, subst, inl, slice_get, arith, eqb-true, ne_eqb, leb-true}
use Rattle.std.specs.List.{AllByRecursion, list_any, range_with_len}
use Rattle.std.proofs.lemmas.Bool.{and_parts, false≢true}
use Rattle.std.proofs.lemmas.List.{length-reverse}
use Rattle.std.proofs.lemmas.List.FromFn.{length-range_with_len}
use Rattle.std.proofs.lemmas.Option.{same_Some}
use Rattle.fm_base.proofs.ListFacts.{AllByRecursion-append}
use Rattle.fm_base.proofs.OptionFacts.{cond-some_then, option_and_then-some}
use Rattle.fm_base.specs.declared.kinds.Base.{Base}
use Rattle.fm_base.specs.declared.kinds.Base.TheVariants as base
use Rattle.fm_base.specs.declared.kinds.Kind.{Kind}
use Rattle.fm_base.specs.declared.kinds.Kind.TheVariants as kind
use Rattle.fm_base.specs.declared.kinds.TypeRef.{TypeRef}
use Rattle.fm_code.specs.Edges.{falls_through}
use Rattle.fm_code.specs.Live.{stores_over}
use Rattle.fm_code.specs.SpellsCode.{targets_of}
use Rattle.fm_base.specs.declared.ids.TypeId.{TypeId}
use Rattle.fm_code.specs.declared.instructions.Insn.{Insn}
use Rattle.fm_code.specs.declared.instructions.Insn.TheVariants as insn
use Rattle.fm_code.specs.declared.operations.Elem.{Elem}
use Rattle.fm_code.specs.declared.operations.Elem.TheVariants as elem
use Rattle.fm_conn.specs.Facts.{AreFacts, Facts}
use Rattle.fm_conn.specs.Rows as pairs
use Rattle.fm_types.specs.ArrayRows.{array_store_row, has_letter, is_array_of, multi_array_row}
use Rattle.fm_types.specs.Fits.{object_of}
use Rattle.fm_types.specs.Rows.{row_after}
use Rattle.fm_types.specs.States.{is_reference, taken, TypeState}
use Rattle.fm_types.specs.declared.slots.Slot as slots
use Rattle.fm_types.specs.declared.slots.Slot.TheVariants as slot
use Rattle.fm_world.specs.Chains.{is_sub}
use Rattle.fm_world.specs.Descriptors.{kind_with}
use Rattle.fm_world.specs.Numbers.{type_of_class}
use Rattle.fm_world.specs.Programs.{Outline, Program}
use Rattle.fm_world.specs.Uses.{array_of}
use Rattle.fm_world.specs.declared.uses.Use.{Use}
use Rattle.fm_world.specs.declared.uses.Use.TheVariants as resolved
use Rattle.fm_code.specs.StackWords.{element_words}
use Rattle.fm_frames.specs.ArrayRows.{array_actions, array_load_effect, array_made, array_store_effect, arrays_made, arrays_of, element_kind, element_type, ints_at, length_effect, multi_array_effect, new_array_effect, new_references_effect, on_element, put_element, thrown_negative}
use Rattle.fm_frames.specs.Effects.{Make, Put, Effect, OfMade, making, words}
use Rattle.fm_frames.specs.Operands.{thrown}
use Rattle.fm_frames.specs.Sights.{Looks, Sight}
use Rattle.fm_frames.specs.States.{Frame}
use Rattle.fm_same.specs.Evenness.{ActsEvenly, given, Point, PutsEvenly}
use Rattle.fm_law_sound.proofs.ArrayRows.{by_element}
use Rattle.fm_law_sound.proofs.Cases.{by_held, by_if, by_int, by_on_type, by_passing}
use Rattle.fm_law_sound.proofs.Opening.{all_flat}
use Rattle.fm_law_sound.proofs.InsnActs.{ints_many, magnitudes, magnitudes_many}
use Rattle.fm_same.proofs.ItemFacts.{AtInsn, goes_obey, point, row, used, x}
use Rattle.fm_same.proofs.MoveRows.{gives_one, row_gives}
use Rattle.fm_same.proofs.ObjectRows.{home_of, leads_operand, loaded_obeys, making_obeys, only_next, put_obeys, reference_on_top}
use Rattle.fm_same.proofs.PlainRows.{faulty_obeys, null_obeys, Owes, stuck_obeys, thrown_obeys, words_obey}

-- ---- elements

-- a letter's elements are no references
letter_plain : (e : Elem) (b : Base) (u : TypeRef) → has_letter e b ≡ true → kind_with 0 b ≡ kind.Ref u → ⊥
letter_plain e base.Boolean u letter is = absurd (cc)
letter_plain e base.Byte u letter is = absurd (cc)
letter_plain e base.Char u letter is = absurd (cc)
letter_plain e base.Short u letter is = absurd (cc)
letter_plain e base.Int u letter is = absurd (cc)
letter_plain e base.Long u letter is = absurd (cc)
letter_plain elem.Boolean (base.OfClass c) u letter is = absurd (false≢true letter)
letter_plain elem.Byte (base.OfClass c) u letter is = absurd (false≢true letter)
letter_plain elem.Char (base.OfClass c) u letter is = absurd (false≢true letter)
letter_plain elem.Short (base.OfClass c) u letter is = absurd (false≢true letter)
letter_plain elem.Int (base.OfClass c) u letter is = absurd (false≢true letter)
letter_plain elem.Long (base.OfClass c) u letter is = absurd (false≢true letter)
letter_plain elem.Ref (base.OfClass c) u letter is = absurd (false≢true letter)

number_elements : (e : Elem) (t u : TypeRef) → ((t.dims == 1) && has_letter e t.base) ≡ true → element_kind t ≡ kind.Ref u → ⊥
number_elements e t u h is =
    let parts : ((t.dims == 1) ≡ true) × (has_letter e t.base ≡ true) = and_parts (t.dims == 1) (has_letter e t.base) h in
    let one : t.dims ≡ 1 = eqb-true t.dims 1 parts.0 in
    let none : t.dims - 1 ≡ 0 = omega (arith, one) in
    letter_plain e t.base u parts.1 (ap (λ d. kind_with d t.base) (sym none) ∙ is)

-- where elements are references, the instruction joins the array with them
load_joins : (o : Outline) (u : Use) (e : Elem) (t v : TypeRef) → is_array_of e t ≡ true → element_kind t ≡ kind.Ref v
    → Contains (pairs.joined_by o u (insn.ArrayLoad e)) (pairs.Taken 1, pairs.Given 0)
unfolding pairs.joined_by
load_joins o u elem.Ref t v h is = (0, omega arith, refl)
load_joins o u elem.Boolean t v h is = absurd (number_elements elem.Boolean t v h is)
load_joins o u elem.Byte t v h is = absurd (number_elements elem.Byte t v h is)
load_joins o u elem.Char t v h is = absurd (number_elements elem.Char t v h is)
load_joins o u elem.Short t v h is = absurd (number_elements elem.Short t v h is)
load_joins o u elem.Int t v h is = absurd (number_elements elem.Int t v h is)
load_joins o u elem.Long t v h is = absurd (number_elements elem.Long t v h is)

store_top : (o : Outline) (s after : TypeState) → array_store_row o elem.Ref s ≡ Some after
    → (top : slots.Slot) × (slice_get s.stack 0 ≡ Some top) × (is_reference top ≡ true)
unfolding array_store_row
store_top o s after h =
    let rest = option_and_then-some _ (taken o (slot.Ref (type_of_class (object_of o.classes)) ∷ slot.Int ∷ []) s.stack) after h in
    reference_on_top o (slot.Ref (type_of_class (object_of o.classes)) ∷ slot.Int ∷ []) (slot.Int ∷ []) s.stack rest.0 (type_of_class (object_of o.classes)) refl rest.1

module _ (p : Program) (facts : Facts) (exact : AreFacts p facts) (f : Frame) where
  pub array_load_obeys : (e : Elem) (h : AtInsn p facts f (insn.ArrayLoad e)) (s : List Sight)
      → Owes p facts exact f (insn.ArrayLoad e) h (array_load_effect p.outline e s)
  unfolding array_load_effect pairs.words_taken
  array_load_obeys e h s =
      let i : Insn = insn.ArrayLoad e in
      by_element (Owes p facts exact f i h) p.outline e s 0 _ (null_obeys p facts exact f i h (λ k. refl)) (stuck_obeys p facts exact f i h)
      (faulty_obeys p facts exact f i h 1) (thrown_obeys p facts exact f i h (λ k. refl) (codes "java/lang/ArrayIndexOutOfBoundsException"))
      (λ it place passes. loaded_obeys p facts exact f i h (λ k. refl) refl 2 1 place (element_kind it.type) refl
      (λ v is. load_joins p.outline (used p facts exact f i h) e it.type v passes is))

  -- a reference is put
  stored_reference : (h : AtInsn p facts f (insn.ArrayStore elem.Ref)) (it : Looks) (place : ℕ)
      → Owes p facts exact f (insn.ArrayStore elem.Ref) h (put_element 1 it place)
  unfolding pairs.words_taken pairs.joined_by row_after
  stored_reference h it place =
      let i : Insn = insn.ArrayStore elem.Ref in
      let after = row_gives p facts exact f i h (array_store_row p.outline elem.Ref h.state) (row p facts exact f i h) in
      let top = store_top p.outline h.state after.0 after.1 in
      put_obeys p facts exact f i h (λ k. refl) refl 3 2 place 0 (element_kind it.type) (omega arith)
      (λ v is. ((0, omega arith, refl), leads_operand p facts exact f i h 0 top.0 top.1 top.2))

  stored_number : (e : Elem) (h : AtInsn p facts f (insn.ArrayStore e)) (it : Looks) (place : ℕ) → ((it.type.dims == 1) && has_letter e it.type.base) ≡ true
      → Owes p facts exact f (insn.ArrayStore e) h (put_element (element_words e) it place)
  unfolding pairs.words_taken
  stored_number e h it place passes =
      let i : Insn = insn.ArrayStore e in
      put_obeys p facts exact f i h (λ k. refl) refl (element_words e + 2) (element_words e + 1) place (element_words e - 1) (element_kind it.type)
      (omega arith) (λ v is. absurd (number_elements e it.type v passes is))

  -- where an element is put
  store_by : (e : Elem) (h : AtInsn p facts f (insn.ArrayStore e)) (s : List Sight) (follows : Looks → ℕ → Effect)
      → ((it : Looks) (place : ℕ) → is_array_of e it.type ≡ true → Owes p facts exact f (insn.ArrayStore e) h (follows it place))
      → Owes p facts exact f (insn.ArrayStore e) h (on_element p.outline e s (element_words e) follows)
  store_by e h s follows some =
      let i : Insn = insn.ArrayStore e in
      by_element (Owes p facts exact f i h) p.outline e s (element_words e) follows (null_obeys p facts exact f i h (λ k. refl)) (stuck_obeys p facts exact f i h)
      (faulty_obeys p facts exact f i h (element_words e + 1))
      (thrown_obeys p facts exact f i h (λ k. refl) (codes "java/lang/ArrayIndexOutOfBoundsException")) some

  pub array_store_obeys : (e : Elem) (h : AtInsn p facts f (insn.ArrayStore e)) (s : List Sight)
      → Owes p facts exact f (insn.ArrayStore e) h (array_store_effect p.outline e s)
  unfolding array_store_effect
  array_store_obeys elem.Ref h s =
      let i : Insn = insn.ArrayStore elem.Ref in
      store_by elem.Ref h s _ (λ it place passes.
      by_held (Owes p facts exact f i h) (put_element 1 it place) s 0 _ (stored_reference h it place) (stuck_obeys p facts exact f i h)
      (faulty_obeys p facts exact f i h 0)
      (λ v seen. by_if (Owes p facts exact f i h) (is_sub p.outline.classes v.type (element_type it.type)) (put_element 1 it place)
      (thrown p.outline (codes "java/lang/ArrayStoreException")) (λ fits_it. stored_reference h it place)
      (λ fails. thrown_obeys p facts exact f i h (λ k. refl) (codes "java/lang/ArrayStoreException"))))
  array_store_obeys elem.Boolean h s = store_by elem.Boolean h s _ (λ it place passes. stored_number elem.Boolean h it place passes)
  array_store_obeys elem.Byte h s = store_by elem.Byte h s _ (λ it place passes. stored_number elem.Byte h it place passes)
  array_store_obeys elem.Char h s = store_by elem.Char h s _ (λ it place passes. stored_number elem.Char h it place passes)
  array_store_obeys elem.Short h s = store_by elem.Short h s _ (λ it place passes. stored_number elem.Short h it place passes)
  array_store_obeys elem.Int h s = store_by elem.Int h s _ (λ it place passes. stored_number elem.Int h it place passes)
  array_store_obeys elem.Long h s = store_by elem.Long h s _ (λ it place passes. stored_number elem.Long h it place passes)

  pub length_obeys : (h : AtInsn p facts f insn.Length) (s : List Sight) → Owes p facts exact f insn.Length h (length_effect p.outline s)
  unfolding length_effect pairs.words_taken
  length_obeys h s =
      let i : Insn = insn.Length in
      by_passing (Owes p facts exact f i h) p.outline (λ it. nat_lt 0 it.type.dims) s 0 _ (null_obeys p facts exact f i h (λ k. refl)) (stuck_obeys p facts exact f i h)
      (faulty_obeys p facts exact f i h 0) (λ it seen passes. words_obey p facts exact f i h (λ k. refl) refl 1 _ (tt, tt) (omega arith))

  -- ---- new arrays

  array_made_obeys : (i : Insn) (h : AtInsn p facts f i) → ((k : ℕ) → stores_over k i ≡ false) → falls_through i ≡ true → targets_of i ≡ []
      → pairs.words_taken p.outline (used p facts exact f i h) i ≤ 1 → (t : Option TypeRef) (s : List Sight)
      → Owes p facts exact f i h (array_made p.outline t s)
  array_made_obeys i h keeps falls none le None s = stuck_obeys p facts exact f i h
  array_made_obeys i h keeps falls none le (Some t) s =
      by_int (Owes p facts exact f i h) s 0 _ (stuck_obeys p facts exact f i h)
      (λ n. by_if (Owes p facts exact f i h) (int_lt n (pos 0)) (thrown_negative p.outline) (making 1 (Make t (unsigned_abs n) []))
      (λ negative. thrown_obeys p facts exact f i h keeps (codes "java/lang/NegativeArraySizeException"))
      (λ counts. making_obeys p facts exact f i h keeps falls none 1 t (unsigned_abs n) le))

  pub new_array_obeys : (e : Elem) (h : AtInsn p facts f (insn.NewArray e)) (s : List Sight)
      → Owes p facts exact f (insn.NewArray e) h (new_array_effect p.outline e s)
  unfolding new_array_effect pairs.words_taken
  new_array_obeys e h s = array_made_obeys (insn.NewArray e) h (λ k. refl) refl refl (omega arith) _ s

  pub new_references_obeys : (index : ℕ) (h : AtInsn p facts f (insn.NewRefs index)) (u : Use) (s : List Sight)
      → Owes p facts exact f (insn.NewRefs index) h (new_references_effect p.outline u s)
  unfolding new_references_effect pairs.words_taken
  new_references_obeys index h u s =
      by_on_type (Owes p facts exact f (insn.NewRefs index) h) p.outline u _ (stuck_obeys p facts exact f (insn.NewRefs index) h)
      (λ n t is there. array_made_obeys (insn.NewRefs index) h (λ k. refl) refl refl (omega arith) (array_of t) s)

-- ---- arrays of arrays

-- arrays with more than one dimension have references for elements
pub cond_no : (c : Bool) (a b : Kind) → c ≡ false → cond c a b ≡ b
cond_no true a b e = absurd (false≢true (sym e))
cond_no false a b e = refl

deep_kind : (n : ℕ) (b : Base) → 0 < n → (u : TypeRef) × (kind_with n b ≡ kind.Ref u)
deep_kind n b lt =
    let some : n ≢ 0 = λ none. absurd (omega arith) in
    (record { dims = n; base = b }, cond_no (n == 0) _ (kind.Ref (record { dims = n; base = b })) (ne_eqb n 0 some))

put_made : (x : Point) (home a b : ℕ) (k : Kind) (u : TypeRef) → k ≡ kind.Ref u → PutsEvenly x home (OfMade a) (OfMade b) k
put_made x home a b k u is = subst (λ q. PutsEvenly x home (OfMade a) (OfMade b) q) (sym is) (home, tt, refl, refl, tt)

arrays_even : (o : Outline) (x : Point) (home : ℕ) (counts : List ℕ) (t : TypeRef) (first : ℕ) → length counts ≤ t.dims
    → AllByRecursion (ActsEvenly o x home) (array_actions t counts first)
unfolding array_actions
arrays_even o x home [] t first le = tt
arrays_even o x home (count ∷ []) t first le = (inl refl, tt)
arrays_even o x home (count ∷ next ∷ counts) t first le =
    let deep : (u : TypeRef) × (kind_with (t.dims - 1) t.base ≡ kind.Ref u) = deep_kind (t.dims - 1) t.base (omega arith) in
    let size : ℕ = arrays_made (next ∷ counts) in (
      inl refl,
      all_flat (ActsEvenly o x home)
          (λ place. array_actions (element_type t) (next ∷ counts) (first + 1 + place * size)
          ++ Put (OfMade first) place (element_kind t) (OfMade (first + 1 + place * size)) ∷ [])
          (range_with_len 0 count)
          (λ place. AllByRecursion-append (ActsEvenly o x home) (array_actions (element_type t) (next ∷ counts) (first + 1 + place * size)) _
          (arrays_even o x home (next ∷ counts) (element_type t) (first + 1 + place * size) (omega arith))
          (put_made x home first (first + 1 + place * size) (element_kind t) deep.0 deep.1, tt)),
    )

abbrev both_ints : Option ℤ → Option (List ℤ) → Option (List ℤ)
both_ints (Some n) (Some others) = Some (n ∷ others)
both_ints n others = None

multi_dims : (o : Outline) (n : TypeId) (t : TypeRef) (dimensions : ℕ) (s after : TypeState) → slice_get o.types n.0 ≡ Some t
    → multi_array_row o (resolved.OfType n) dimensions s ≡ Some after → dimensions ≤ t.dims
unfolding multi_array_row
multi_dims o n t dimensions s after there h =
    let named = option_and_then-some _ (slice_get o.types n.0) after h in
    let same : named.0 ≡ t = same_Some named.0 t (sym named.1 ∙ there) in
    let passes = cond-some_then (nat_lt 0 dimensions && nat_le dimensions named.0.dims) _ after named.2 in
    let within : dimensions ≤ named.0.dims = leb-true dimensions named.0.dims (and_parts (nat_lt 0 dimensions) (nat_le dimensions named.0.dims) passes.0).1 in
    subst (λ (u : TypeRef). dimensions ≤ u.dims) same within

module _ (p : Program) (facts : Facts) (exact : AreFacts p facts) (f : Frame) where
  arrays_of_obeys : (index dimensions : ℕ) (h : AtInsn p facts f (insn.MultiArray index dimensions)) (t : TypeRef) → dimensions ≤ t.dims
      → (counts : Option (List ℤ)) → ((found : List ℤ) → counts ≡ Some found → length found ≡ dimensions)
      → Owes p facts exact f (insn.MultiArray index dimensions) h (arrays_of p.outline t dimensions counts)
  unfolding pairs.words_taken
  arrays_of_obeys index dimensions h t le None size = stuck_obeys p facts exact f (insn.MultiArray index dimensions) h
  arrays_of_obeys index dimensions h t le (Some counts) size =
      let i : Insn = insn.MultiArray index dimensions in
      let e : Effect = record (words dimensions (OfMade 0 ∷ [])) { actions = array_actions t (magnitudes counts) 0 } in
      let fits_in : length (magnitudes counts) ≡ dimensions = magnitudes_many counts ∙ size counts refl in
      by_if (Owes p facts exact f i h) (list_any (λ n. int_lt n (pos 0)) counts) (thrown_negative p.outline) e
      (λ negative. thrown_obeys p facts exact f i h (λ k. refl) (codes "java/lang/NegativeArraySizeException"))
      (λ sizes. goes_obey p facts exact f i h e (home_of p facts exact f i h e)
      (arrays_even p.outline (point p facts exact f i h) (home_of p facts exact f i h e) (magnitudes counts) t 0 (omega (arith, fits_in))) refl tt
      (gives_one p facts exact f i h e (home_of p facts exact f i h e) (OfMade 0) refl
      (λ next edge there. ap (λ n. facts.class f.method (given (point p facts exact f i h) e n 0))
      (sym (only_next h.code f.item next i h.insn_is refl edge))))
      tt (λ k unwritten. refl) (omega arith))

  pub multi_array_obeys : (index dimensions : ℕ) (h : AtInsn p facts f (insn.MultiArray index dimensions)) (s : List Sight)
      → Owes p facts exact f (insn.MultiArray index dimensions) h
      (multi_array_effect p.outline (used p facts exact f (insn.MultiArray index dimensions) h) dimensions s)
  unfolding multi_array_effect row_after
  multi_array_obeys index dimensions h s =
      let i : Insn = insn.MultiArray index dimensions in
      let u : Use = used p facts exact f i h in
      by_on_type (Owes p facts exact f i h) p.outline u _ (stuck_obeys p facts exact f i h)
      (λ n t is there.
      let after = row_gives p facts exact f i h (multi_array_row p.outline u dimensions h.state) (row p facts exact f i h) in
      let le : dimensions ≤ t.dims =
      multi_dims p.outline n t dimensions h.state after.0 there (ap (λ v. multi_array_row p.outline v dimensions h.state) (sym is) ∙ after.1) in
      arrays_of_obeys index dimensions h t le (ints_at s (reverse (range_with_len 0 dimensions)))
      (λ found at. ints_many s (reverse (range_with_len 0 dimensions)) found at ∙ length-reverse (range_with_len 0 dimensions) ∙ length-range_with_len 0 dimensions))
