-- The frame that a row of no call leaves is as the state after it.
use Rattle.std.proofs.Common.{◌≡◌, ℕ, ℤ, ◌+◌, ◌-◌, ◌&&◌, Bool, true, false, List, [], ◌∷◌, ◌++◌, length, replicate, reverse, cond, codes, if◌then◌else◌, pos, nat_le, nat_lt, Option, Some, None, refl, sym, ap, subst, slice_index_or}
use Rattle.std.specs.List.{AllByRecursion, range_with_len}
use Rattle.std.proofs.lemmas.Bool.{false≢true}
use Rattle.std.proofs.lemmas.List.{length-replicate}
use Rattle.std.proofs.lemmas.Option.{same_Some}
use Rattle.fm_base.proofs.OptionFacts.{cond-some_then, option_and_then-some, option_map-some}
use Rattle.fm_base.specs.Kinds.{kind_words}
use Rattle.fm_base.specs.declared.kinds.Base.TheVariants as base
use Rattle.fm_base.specs.declared.kinds.Kind.{Kind}
use Rattle.fm_base.specs.declared.kinds.Kind.TheVariants as kind
use Rattle.fm_base.specs.declared.kinds.TypeRef.{TypeRef}
use Rattle.fm_code.specs.StackWords.{number_given}
use Rattle.fm_code.specs.declared.instructions.Insn.{Insn}
use Rattle.fm_code.specs.declared.instructions.Insn.TheVariants as insn
use Rattle.fm_code.specs.declared.operations.Elem.{Elem}
use Rattle.fm_code.specs.declared.operations.Elem.TheVariants as elem
use Rattle.fm_code.specs.declared.operations.Reg.{Reg}
use Rattle.fm_code.specs.declared.operations.Reg.TheVariants as reg
use Rattle.fm_types.specs.ArrayRows as typed
use Rattle.fm_types.specs.ArrayRows.{array_load_row, array_store_row, is_array_of, length_row, multi_array_row, new_array_row, new_references_row, null_element, on_array, stored_element}
use Rattle.fm_types.specs.Fits.{fits}
use Rattle.fm_types.specs.Moves.{Moves, moves_of}
use Rattle.fm_types.specs.Named.{field_words, object_slot, throwable_type}
use Rattle.fm_types.specs.NumberRows.{constant_row, convert_row, increment_row, is_int, load_row, loaded, move_row, store_row}
use Rattle.fm_types.specs.ObjectRows.{cast_row, get_field_row, get_static_row, is_a_row, new_row, put_field_row, put_static_row, takes_field}
use Rattle.fm_types.specs.Rows.{row_after}
use Rattle.fm_types.specs.States.{is_uninit, local_at, replaced, stack_slots, taken, worked}
use Rattle.fm_types.specs.declared.slots.Slot.{Slot}
use Rattle.fm_types.specs.declared.slots.Slot.TheVariants as slot
use Rattle.fm_world.specs.Chains.{is_sub}
use Rattle.fm_world.specs.Members.{slot_of}
use Rattle.fm_world.specs.Programs.{class_of_type, Outline}
use Rattle.fm_world.specs.Uses.{array_of}
use Rattle.fm_world.specs.declared.uses.Use.{Use}
use Rattle.fm_world.specs.declared.uses.Use.TheVariants as resolved
use Rattle.fm_frames.proofs.EachNumber.{each_number}
use Rattle.fm_frames.specs.ArrayRows.{array_load_effect, array_made, array_store_effect, length_effect, element_kind, multi_array_effect, ints_at, arrays_of, new_array_effect, new_references_effect, put_element, put_reference}
use Rattle.fm_frames.specs.Effects.{acting, Effect, going, int_word, Jumps, long_words, Make, null_word, OfOperand, OfPlace, OfStatic, Put, SetStatic, words}
use Rattle.fm_frames.specs.Effects as effects
use Rattle.fm_frames.specs.JumpRows.{int_jump_effect, jumps_if, lookup_effect, null_jump_effect, pair_jump_effect, return_effect, same_jump_effect, table_effect, throw_effect}
use Rattle.fm_frames.specs.NumberRows.{constant_effect, increment_effect, load_effect, move_effect, moved_words, store_effect}
use Rattle.fm_frames.specs.ObjectRows.{cast_effect, class_of_field, get_field_effect, get_static_effect, is_a_effect, kind_of_field, made_of, new_effect, put_field_effect, put_static_effect, starting}
use Rattle.fm_frames.specs.Operands.{thrown}
use Rattle.fm_frames.specs.Rows.{effect_of}
use Rattle.fm_frames.specs.Sights.{Sight}
use Rattle.fm_frames.specs.States.{ref}
use Rattle.fm_frames.specs.declared.values.Value.{Value}
use Rattle.fm_law_sound.specs.Leading.{is_call}
use Rattle.fm_law_sound.proofs.ArrayRows.{by_array}
use Rattle.fm_law_sound.proofs.Cases.{by_held, by_if, by_int, by_long, by_object, by_on_field, by_on_type, by_reference}
use Rattle.fm_law_sound.proofs.FramesLeft as left
use Rattle.fm_law_sound.proofs.Leaving.{kind_slots}
use Rattle.fm_law_sound.proofs.ObjectRows.{row_of_field, row_of_type}
use Rattle.fm_law_holders.specs.Uninitialised.{IsMadeAt}
use Rattle.fm_law_holders.proofs.EffectTakes.{arrays_take, element_takes, length_takes, made_takes, put_takes}
use Rattle.fm_law_holders.proofs.Leaving.{before_are, from, Goes, Leads, leaves_stack, Left, left_are, pushed_goes, Row, Takes, worked_below_goes, worked_goes}
use Rattle.fm_law_holders.proofs.Slots.{Are, Is, other_is}
use Rattle.fm_types.proofs.EachCheckRow.{a_number, given_by, is_number, IsPlain, wanted_by}

-- ---- slots of which nothing is asked

pub kind_other : (k : Kind) → AllByRecursion IsPlain (stack_slots (k ∷ []))
kind_other kind.Boolean = (tt, tt)
kind_other kind.Byte = (tt, tt)
kind_other kind.Char = (tt, tt)
kind_other kind.Short = (tt, tt)
kind_other kind.Int = (tt, tt)
kind_other kind.Long = (tt, (tt, tt))
kind_other (kind.Ref t) = (tt, tt)

null_other : (e : Elem) → AllByRecursion IsPlain (null_element e)
null_other elem.Long = (tt, (tt, tt))
null_other e = (tt, tt)

element_other : (e : Elem) (t : TypeRef) → AllByRecursion IsPlain (typed.element_of e t)
element_other elem.Long t = (tt, (tt, tt))
element_other e t = (tt, tt)

int_other : (s : Slot) → is_int s ≡ true → IsPlain s
int_other slot.Int is = tt
int_other s is = absurd (false≢true is)

none_given : (o : Outline) (method field : ℕ) (t : TypeRef) (below : Slot) (slots : List Slot) → takes_field o method field t below ≡ Some slots
    → AllByRecursion IsPlain slots
none_given o method field t below slots is =
    let parts = cond-some_then _ (Some []) slots is in subst (AllByRecursion IsPlain) (same_Some [] slots parts.1) tt

module _ (r : Row) where
  abbrev o : Outline
  o = r.outline

  -- where the effect leads as the checker's row does
  abbrev Keeps : Insn → Effect → Type 0
  Keeps i e = Leads r i e → Goes r e

  -- where an effect does nothing but make one object, that is of this item
  abbrev pub NewIs : Effect → Type 0
  NewIs e = (t : TypeRef) (n : ℕ) → e.actions ≡ Make t n [] ∷ [] → IsMadeAt r.store r.made r.frame.item (slice_index_or r.cells 0 0)

  -- ---- constants

  constant_goes : (index : ℕ) (u : Use) → constant_row o u r.before ≡ Some r.after → Keeps (insn.LoadPool index) (constant_effect o u)
  unfolding constant_row constant_effect
  constant_goes index (resolved.OfType t) row leads =
      pushed_goes r (slot.Ref _ ∷ []) (insn.LoadPool index) (constant_effect o (resolved.OfType t)) row (tt, tt) (refl, refl) leads
  constant_goes index (resolved.OfField g t) row leads = absurd (cc)
  constant_goes index (resolved.OfMethod m t) row leads = absurd (cc)
  constant_goes index (resolved.OfInt n) row leads = pushed_goes r (slot.Int ∷ []) (insn.LoadPool index) (words 0 (int_word n)) row (tt, tt) (refl, refl) leads
  constant_goes index (resolved.OfLong n) row leads =
      pushed_goes r (slot.Top ∷ slot.Long ∷ []) (insn.LoadPool index) (words 0 (long_words n)) row (tt, (tt, tt)) (refl, refl) leads
  constant_goes index (resolved.OfText text) row leads =
      pushed_goes r (slot.Ref _ ∷ []) (insn.LoadPool index) (constant_effect o (resolved.OfText text)) row (tt, tt) (refl, refl) leads
  constant_goes index resolved.Unused row leads = absurd (cc)

  -- ---- locals

  load_left : (q : Reg) (k : ℕ) → load_row q k r.before ≡ Some r.after → Left r (load_effect q k)
  load_left q k row =
      left_are r _ _ _
      (left.load_leaves (Is r.store r.made) (Is r.store r.made) r.before r.after (from r) (before_are r) (λ v. tt) tt (λ s v h. h) (λ q s v is h. h) q k row)

  load_goes : (q : Reg) (k : ℕ) → load_row q k r.before ≡ Some r.after → Goes r (load_effect q k)
  unfolding load_effect
  load_goes reg.Int k row = load_left reg.Int k row
  load_goes reg.Long k row = load_left reg.Long k row
  load_goes reg.Ref k row = load_left reg.Ref k row

  store_left : (q : Reg) (k : ℕ) → store_row o q k r.before ≡ Some r.after → Left r (store_effect q k)
  store_left q k row =
      left_are r _ _ _
      (left.store_leaves (Is r.store r.made) (Is r.store r.made) r.before r.after (from r) (before_are r) (λ v. tt) tt (λ s v h. h) (λ q s v is h. h) o q k row)

  store_goes : (q : Reg) (k : ℕ) → store_row o q k r.before ≡ Some r.after → Goes r (store_effect q k)
  unfolding store_effect
  store_goes reg.Int k row = store_left reg.Int k row
  store_goes reg.Long k row = store_left reg.Long k row
  store_goes reg.Ref k row = store_left reg.Ref k row

  increment_goes : (k : ℕ) (by : ℤ) → increment_row k r.before ≡ Some r.after → Goes r (increment_effect k by)
  increment_goes k by row =
      left_are r _ _ _
      (left.increment_leaves (Is r.store r.made) (Is r.store r.made) r.before r.after (from r) (before_are r) k by row
      (λ is. other_is r.store r.made (local_at r.before.locals k) _ (int_other (local_at r.before.locals k) is)))

  -- ---- moves of the stack

  move_goes : (i : Insn) (m : Moves) → moves_of i ≡ Some m → move_row i r.before ≡ Some r.after → Goes r (move_effect i)
  unfolding move_effect
  move_goes i m is row =
      subst (λ found. Goes r (moved_words found)) (sym is)
      (left_are r _ _ _
      (left.moved_leaves (Is r.store r.made) (Is r.store r.made) r.before r.after (from r) (before_are r) m (left.moved_row r.before r.after i m is row)))

  -- ---- numbers

  number_goes : (i : Insn) (u : Use) (byte : Option ℕ) (sights : List Sight) → is_number i ≡ true → worked o (wanted_by i) (given_by i) r.before ≡ Some r.after
      → Keeps i (effect_of o r.frame.method u i byte sights)
  number_goes i u byte sights is row leads =
      worked_goes r (wanted_by i) (given_by i) i (effect_of o r.frame.method u i byte sights) row (a_number (number_given i)).plain
      (each_number o sights r.frame.method u byte (Takes (length (wanted_by i))) i is (record {
        int = λ n at k each. by_int (Takes (length (wanted_by i))) sights n k tt each;
        long = λ n at k each. by_long (Takes (length (wanted_by i))) sights n k tt each;
        thrown = tt;
        gives = λ n. (refl, refl);
      }))
      leads

  -- ---- returns

  return_goes : (value : Option Reg) → Goes r (return_effect value)
  unfolding return_effect
  return_goes None = tt
  return_goes (Some reg.Int) = tt
  return_goes (Some reg.Long) = tt
  return_goes (Some reg.Ref) = tt

  throw_goes : (sights : List Sight) → Goes r (throw_effect o sights)
  unfolding throw_effect
  throw_goes sights = by_object (Goes r) o (throwable_type o) sights 0 _ tt tt tt (λ it seen passes. tt)

  -- ---- objects and fields

  new_made : (t : TypeRef) (class : Option ℕ) (b : Bool)
      → cond b (Some (record r.before { locals = replaced (is_uninit r.frame.item) slot.Top r.before.locals; stack = slot.Uninit r.frame.item ∷ r.before.stack })) None
      ≡ Some r.after → NewIs (made_of o t class) → Goes r (made_of o t class)
  new_made t None b row new = tt
  new_made t (Some class) b row new =
      left_are r _ _ _
      (left.new_leaves (Is r.store r.made) (Is r.store r.made) r.before r.after (from r) (before_are r) (λ v. tt) r.frame.item b
      (ref (slice_index_or r.cells 0 0)) row (new t _ refl))

  new_goes : (u : Use) → new_row o r.frame.item u r.before ≡ Some r.after → NewIs (new_effect o u) → Goes r (new_effect o u)
  unfolding new_row new_effect
  new_goes u row =
      by_on_type (λ e. NewIs e → Goes r e) o u _ (λ new. tt)
      (λ n t is at new. new_made t (class_of_type t) _ (row_of_type o u _ n t r.after is at row) new)

  get_static_goes : (index : ℕ) (u : Use) → get_static_row o u r.before ≡ Some r.after → Keeps (insn.GetStatic index) (get_static_effect o u)
  unfolding get_static_row get_static_effect
  get_static_goes index u row =
      by_on_field (Keeps (insn.GetStatic index)) o u _ (λ leads. tt)
      (λ g n t is at leads. pushed_goes r (field_words o g.0) (insn.GetStatic index)
      (starting (class_of_field o g.0) (words 0 (effects.loaded (kind_of_field o g.0) (OfStatic (slot_of o.classes g.0)))))
      (row_of_field o u _ g n t r.after is at row) (kind_other (kind_of_field o g.0)) (refl, refl) leads)

  put_static_goes : (index : ℕ) (u : Use) → put_static_row o u r.before ≡ Some r.after → Keeps (insn.PutStatic index) (put_static_effect o u)
  unfolding put_static_row put_static_effect
  put_static_goes index u row =
      by_on_field (Keeps (insn.PutStatic index)) o u _ (λ leads. tt)
      (λ g n t is at leads. worked_goes r (field_words o g.0) [] (insn.PutStatic index)
      (starting (class_of_field o g.0) (acting (kind_words (kind_of_field o g.0)) (SetStatic (slot_of o.classes g.0) (kind_of_field o g.0) (OfOperand (kind_words (kind_of_field o g.0) - 1)) ∷ [])))
      (row_of_field o u _ g n t r.after is at row) tt (kind_slots (kind_of_field o g.0), refl) leads)

  get_field_goes : (index : ℕ) (u : Use) (sights : List Sight) → get_field_row o u r.before ≡ Some r.after
      → Keeps (insn.GetField index) (get_field_effect o u sights)
  unfolding get_field_row get_field_effect
  get_field_goes index u sights row =
      by_on_field (Keeps (insn.GetField index)) o u _ (λ leads. tt)
      (λ g n t is at. by_object (Keeps (insn.GetField index)) o t sights 0 _ (λ leads. tt) (λ leads. tt) (λ leads. tt)
      (λ it seen passes leads. worked_goes r (slot.Ref t ∷ []) (field_words o g.0) (insn.GetField index)
      (words 1 (effects.loaded (kind_of_field o g.0) (OfPlace 0 (slot_of o.classes g.0) (kind_of_field o g.0))))
      (row_of_field o u _ g n t r.after is at row) (kind_other (kind_of_field o g.0)) (refl, refl) leads))

  put_field_goes : (index : ℕ) (u : Use) (sights : List Sight) → put_field_row o r.frame.method u r.before ≡ Some r.after
      → Keeps (insn.PutField index) (put_field_effect o u sights)
  unfolding put_field_row put_field_effect
  put_field_goes index u sights row =
      by_on_field (Keeps (insn.PutField index)) o u _ (λ leads. tt)
      (λ g n t is at. by_object (Keeps (insn.PutField index)) o t sights (kind_words (kind_of_field o g.0)) _ (λ leads. tt) (λ leads. tt) (λ leads. tt)
      (λ it seen passes leads. worked_below_goes r (field_words o g.0) (takes_field o r.frame.method g.0 t) (insn.PutField index)
      (acting (kind_words (kind_of_field o g.0) + 1) (Put (OfOperand (kind_words (kind_of_field o g.0))) (slot_of o.classes g.0) (kind_of_field o g.0) (OfOperand (kind_words (kind_of_field o g.0) - 1)) ∷ []))
      (row_of_field o u _ g n t r.after is at row) (λ below slots given. none_given o r.frame.method g.0 t below slots given)
      (ap (λ k. k + 1) (kind_slots (kind_of_field o g.0)), refl) leads))

  cast_are : (w : Slot) (t : TypeRef) (stack rest : List Slot) (values : List Value) → taken o (w ∷ []) stack ≡ Some rest → Are r.store r.made stack values
      → Are r.store r.made (slot.Ref t ∷ rest) values
  cast_are w t [] rest values is h = absurd (cc)
  cast_are w t (s ∷ stack) rest [] is h = absurd h
  cast_are w t (s ∷ stack) rest (v ∷ values) is h =
      (tt, subst (λ xs. Are r.store r.made xs values) (same_Some stack rest (cond-some_then (fits o s w) (Some stack) rest is).1) h.1)

  cast_leaves : (t : TypeRef) → worked o (object_slot o ∷ []) (slot.Ref t ∷ []) r.before ≡ Some r.after → Left r (words 0 [])
  cast_leaves t row =
      let rest = option_map-some (λ stack. record r.before { stack = slot.Ref t ∷ stack }) (taken o (object_slot o ∷ []) r.before.stack) r.after row in
      leaves_stack r (slot.Ref t ∷ rest.0) (words 0 []) rest.2 refl (cast_are (object_slot o) t r.before.stack rest.0 r.frame.stack rest.1 r.stack)

  cast_goes : (u : Use) (sights : List Sight) → cast_row o u r.before ≡ Some r.after → Goes r (cast_effect o u sights)
  unfolding cast_row cast_effect
  cast_goes u sights row =
      by_on_type (Goes r) o u _ tt
      (λ n t is at.
      let leaves : Left r (words 0 []) = cast_leaves t (row_of_type o u _ n t r.after is at row) in
      by_held (Goes r) (words 0 []) sights 0 _ leaves tt tt
      (λ it seen. by_if (Goes r) (is_sub o.classes it.type t) (words 0 []) (thrown o (codes "java/lang/ClassCastException"))
      (λ passes. leaves) (λ fails. tt)))

  is_a_goes : (index : ℕ) (u : Use) (sights : List Sight) → is_a_row o u r.before ≡ Some r.after → Keeps (insn.IsA index) (is_a_effect o u sights)
  unfolding is_a_row is_a_effect
  is_a_goes index u sights row =
      by_on_type (Keeps (insn.IsA index)) o u _ (λ leads. tt)
      (λ n t is at.
      let there = row_of_type o u _ n t r.after is at row in
      by_held (Keeps (insn.IsA index)) _ sights 0 _
      (λ leads. worked_goes r (object_slot o ∷ []) (slot.Int ∷ []) (insn.IsA index) (words 1 (int_word (pos 0))) there (tt, tt) (refl, refl) leads)
      (λ leads. tt) (λ leads. tt)
      (λ it seen leads. worked_goes r (object_slot o ∷ []) (slot.Int ∷ []) (insn.IsA index)
      (words 1 (int_word (if is_sub o.classes it.type t then pos 1 else pos 0))) there (tt, tt) (refl, refl) leads))

  -- ---- arrays

  array_load_goes : (e : Elem) (sights : List Sight) → array_load_row o e r.before ≡ Some r.after → Keeps (insn.ArrayLoad e) (array_load_effect o e sights)
  unfolding array_load_row array_load_effect
  array_load_goes e sights row leads =
      worked_below_goes r (slot.Int ∷ []) (on_array (is_array_of e) (null_element e) (typed.element_of e)) (insn.ArrayLoad e) (array_load_effect o e sights) row
      (λ below slots given. by_array (AllByRecursion IsPlain) (is_array_of e) (null_element e) (typed.element_of e) below slots (null_other e) (element_other e) given)
      (element_takes 2 o e sights 0 (λ it place. words 2 (effects.loaded (element_kind it.type) (OfPlace 1 place (element_kind it.type)))) (λ it place. (refl, refl))) leads

  array_store_goes : (e : Elem) (sights : List Sight) → array_store_row o e r.before ≡ Some r.after → Takes (length (stored_element o e ++ slot.Int ∷ []) + 1) (array_store_effect o e sights)
      → Keeps (insn.ArrayStore e) (array_store_effect o e sights)
  unfolding array_store_row
  array_store_goes e sights row takes leads =
      worked_below_goes r (stored_element o e ++ slot.Int ∷ []) (on_array (is_array_of e) [] (λ t. [])) (insn.ArrayStore e) (array_store_effect o e sights) row
      (λ below slots given. by_array (AllByRecursion IsPlain) (is_array_of e) [] (λ t. []) below slots tt (λ t. tt) given)
      takes leads

  array_store_takes : (e : Elem) (sights : List Sight) → Takes (length (stored_element o e ++ slot.Int ∷ []) + 1) (array_store_effect o e sights)
  unfolding array_store_effect
  array_store_takes elem.Boolean sights = element_takes 3 o elem.Boolean sights 1 (λ it place. put_element 1 it place) (λ it place. (refl, refl))
  array_store_takes elem.Byte sights = element_takes 3 o elem.Byte sights 1 (λ it place. put_element 1 it place) (λ it place. (refl, refl))
  array_store_takes elem.Char sights = element_takes 3 o elem.Char sights 1 (λ it place. put_element 1 it place) (λ it place. (refl, refl))
  array_store_takes elem.Short sights = element_takes 3 o elem.Short sights 1 (λ it place. put_element 1 it place) (λ it place. (refl, refl))
  array_store_takes elem.Int sights = element_takes 3 o elem.Int sights 1 (λ it place. put_element 1 it place) (λ it place. (refl, refl))
  array_store_takes elem.Long sights = element_takes 4 o elem.Long sights 2 (λ it place. put_element 2 it place) (λ it place. (refl, refl))
  array_store_takes elem.Ref sights =
      element_takes 3 o elem.Ref sights 1 (λ it place. put_reference o sights it place) (λ it place. put_takes o sights it place)

  length_goes : (sights : List Sight) → length_row o r.before ≡ Some r.after → Keeps insn.Length (length_effect o sights)
  unfolding length_row
  length_goes sights row leads =
      worked_below_goes r [] (on_array (λ t. nat_lt 0 t.dims) (slot.Int ∷ []) (λ t. slot.Int ∷ [])) insn.Length (length_effect o sights) row
      (λ below slots given. by_array (AllByRecursion IsPlain) (λ t. nat_lt 0 t.dims) (slot.Int ∷ []) (λ t. slot.Int ∷ []) below slots (tt, tt) (λ t. (tt, tt)) given)
      (length_takes o sights) leads

  made_goes : (i : Insn) (t : Option TypeRef) (given : TypeRef) (sights : List Sight) → worked o (slot.Int ∷ []) (slot.Ref given ∷ []) r.before ≡ Some r.after
      → Keeps i (array_made o t sights)
  made_goes i t given sights row leads =
      worked_goes r (slot.Int ∷ []) (slot.Ref given ∷ []) i (array_made o t sights) row (tt, tt) (made_takes o t sights) leads

  new_array_goes : (e : Elem) (sights : List Sight) → new_array_row o e r.before ≡ Some r.after → Keeps (insn.NewArray e) (new_array_effect o e sights)
  unfolding new_array_row new_array_effect
  new_array_goes elem.Boolean sights row leads = made_goes (insn.NewArray elem.Boolean) (Some (record { dims = 1; base = base.Boolean })) (record { dims = 1; base = base.Boolean }) sights row leads
  new_array_goes elem.Byte sights row leads = made_goes (insn.NewArray elem.Byte) (Some (record { dims = 1; base = base.Byte })) (record { dims = 1; base = base.Byte }) sights row leads
  new_array_goes elem.Char sights row leads = made_goes (insn.NewArray elem.Char) (Some (record { dims = 1; base = base.Char })) (record { dims = 1; base = base.Char }) sights row leads
  new_array_goes elem.Short sights row leads = made_goes (insn.NewArray elem.Short) (Some (record { dims = 1; base = base.Short })) (record { dims = 1; base = base.Short }) sights row leads
  new_array_goes elem.Int sights row leads = made_goes (insn.NewArray elem.Int) (Some (record { dims = 1; base = base.Int })) (record { dims = 1; base = base.Int }) sights row leads
  new_array_goes elem.Long sights row leads = made_goes (insn.NewArray elem.Long) (Some (record { dims = 1; base = base.Long })) (record { dims = 1; base = base.Long }) sights row leads
  new_array_goes elem.Ref sights row leads = absurd (cc)

  new_references_goes : (index : ℕ) (u : Use) (sights : List Sight) → new_references_row o u r.before ≡ Some r.after
      → Keeps (insn.NewRefs index) (new_references_effect o u sights)
  unfolding new_references_row new_references_effect
  new_references_goes index u sights row =
      by_on_type (Keeps (insn.NewRefs index)) o u _ (λ leads. tt)
      (λ n t is at leads.
      let found = option_and_then-some (λ array. worked o (slot.Int ∷ []) (slot.Ref array ∷ []) r.before) (array_of t) r.after
      (row_of_type o u _ n t r.after is at row) in
      made_goes (insn.NewRefs index) (array_of t) found.0 sights found.2 leads)

  multi_array_goes : (index dimensions : ℕ) (u : Use) (sights : List Sight) → multi_array_row o u dimensions r.before ≡ Some r.after
      → Keeps (insn.MultiArray index dimensions) (multi_array_effect o u dimensions sights)
  unfolding multi_array_row multi_array_effect
  multi_array_goes index dimensions u sights row =
      by_on_type (Keeps (insn.MultiArray index dimensions)) o u _ (λ leads. tt)
      (λ n t is at leads.
      let parts = cond-some_then (nat_lt 0 dimensions && nat_le dimensions t.dims) (worked o (replicate dimensions slot.Int) (slot.Ref t ∷ []) r.before) r.after
      (row_of_type o u _ n t r.after is at row) in
      let counts : Option (List ℤ) = ints_at sights (reverse (range_with_len 0 dimensions)) in
      worked_goes r (replicate dimensions slot.Int) (slot.Ref t ∷ []) (insn.MultiArray index dimensions) (arrays_of o t dimensions counts) parts.1 (tt, tt)
      (subst (λ k. Takes k (arrays_of o t dimensions counts)) (sym (length-replicate dimensions slot.Int)) (arrays_take o t dimensions counts).takes) leads)

  -- ---- all rows but calls

  jump_takes : (n : ℕ) (b : Bool) → Takes n (going n (jumps_if b))
  jump_takes n true = (refl, refl)
  jump_takes n false = (refl, refl)

  pub plain_goes : (i : Insn) (u : Use) (news : ℕ → Option TypeRef) (byte : Option ℕ) (sights : List Sight) → is_call i ≡ false
      → row_after o r.frame.method r.frame.item news u i r.before ≡ Some r.after → Leads r i (effect_of o r.frame.method u i byte sights)
      → NewIs (effect_of o r.frame.method u i byte sights) → Goes r (effect_of o r.frame.method u i byte sights)
  unfolding convert_row row_after effect_of int_jump_effect pair_jump_effect null_jump_effect table_effect lookup_effect
  plain_goes insn.Nop u news byte sights call row leads new = pushed_goes r [] insn.Nop (words 0 []) row tt (refl, refl) leads
  plain_goes insn.Null u news byte sights call row leads new = pushed_goes r (slot.Null ∷ []) insn.Null (words 0 null_word) row (tt, tt) (refl, refl) leads
  plain_goes (insn.Const n) u news byte sights call row leads new =
      pushed_goes r (slot.Int ∷ []) (insn.Const n) (words 0 (int_word n)) row (tt, tt) (refl, refl) leads
  plain_goes (insn.LongConst n) u news byte sights call row leads new =
      pushed_goes r (slot.Top ∷ slot.Long ∷ []) (insn.LongConst n) (words 0 (long_words n)) row (tt, (tt, tt)) (refl, refl) leads
  plain_goes (insn.LoadPool index) u news byte sights call row leads new = constant_goes index u row leads
  plain_goes (insn.Load q k) u news byte sights call row leads new = load_goes q k row
  plain_goes (insn.Store q k) u news byte sights call row leads new = store_goes q k row
  plain_goes (insn.Inc k by) u news byte sights call row leads new = increment_goes k by row
  plain_goes insn.Pop u news byte sights call row leads new = move_goes insn.Pop _ refl row
  plain_goes insn.Pop2 u news byte sights call row leads new = move_goes insn.Pop2 _ refl row
  plain_goes insn.Dup u news byte sights call row leads new = move_goes insn.Dup _ refl row
  plain_goes insn.DupX1 u news byte sights call row leads new = move_goes insn.DupX1 _ refl row
  plain_goes insn.DupX2 u news byte sights call row leads new = move_goes insn.DupX2 _ refl row
  plain_goes insn.Dup2 u news byte sights call row leads new = move_goes insn.Dup2 _ refl row
  plain_goes insn.Dup2X1 u news byte sights call row leads new = move_goes insn.Dup2X1 _ refl row
  plain_goes insn.Dup2X2 u news byte sights call row leads new = move_goes insn.Dup2X2 _ refl row
  plain_goes insn.Swap u news byte sights call row leads new = move_goes insn.Swap _ refl row
  plain_goes (insn.IfInt test target) u news byte sights call row leads new =
      worked_goes r (slot.Int ∷ []) [] (insn.IfInt test target) (int_jump_effect test sights) row tt
      (by_int (Takes 1) sights 0 _ tt (λ a. jump_takes 1 _)) leads
  plain_goes (insn.IfPair test target) u news byte sights call row leads new =
      worked_goes r (slot.Int ∷ slot.Int ∷ []) [] (insn.IfPair test target) (pair_jump_effect test sights) row tt
      (by_int (Takes 2) sights 0 _ tt (λ b. by_int (Takes 2) sights 1 _ tt (λ a. jump_takes 2 _))) leads
  plain_goes (insn.IfSame same target) u news byte sights call row leads new =
      worked_goes r (object_slot o ∷ object_slot o ∷ []) [] (insn.IfSame same target) (same_jump_effect same) row tt (refl, refl) leads
  plain_goes (insn.IfNull null target) u news byte sights call row leads new =
      worked_goes r (object_slot o ∷ []) [] (insn.IfNull null target) (null_jump_effect null sights) row tt
      (by_reference (Takes 1) sights 0 _ tt (λ b. jump_takes 1 _)) leads
  plain_goes (insn.Goto target) u news byte sights call row leads new =
      pushed_goes r [] (insn.Goto target) (going 0 (Jumps 0)) row tt (refl, refl) leads
  plain_goes (insn.Table low others targets) u news byte sights call row leads new =
      worked_goes r (slot.Int ∷ []) [] (insn.Table low others targets) (table_effect low (length targets) sights) row tt
      (by_int (Takes 1) sights 0 _ tt (λ key. (refl, refl))) leads
  plain_goes (insn.Lookup others keys targets) u news byte sights call row leads new =
      worked_goes r (slot.Int ∷ []) [] (insn.Lookup others keys targets) (lookup_effect keys (length targets) sights) row tt
      (by_int (Takes 1) sights 0 _ tt (λ key. (refl, refl))) leads
  plain_goes (insn.Return value) u news byte sights call row leads new = return_goes value
  plain_goes insn.Throw u news byte sights call row leads new = throw_goes sights
  plain_goes (insn.New index) u news byte sights call row leads new = new_goes u row new
  plain_goes (insn.GetStatic index) u news byte sights call row leads new = get_static_goes index u row leads
  plain_goes (insn.PutStatic index) u news byte sights call row leads new = put_static_goes index u row leads
  plain_goes (insn.GetField index) u news byte sights call row leads new = get_field_goes index u sights row leads
  plain_goes (insn.PutField index) u news byte sights call row leads new = put_field_goes index u sights row leads
  plain_goes (insn.Cast index) u news byte sights call row leads new = cast_goes u sights row
  plain_goes (insn.IsA index) u news byte sights call row leads new = is_a_goes index u sights row leads
  plain_goes (insn.ArrayLoad e) u news byte sights call row leads new = array_load_goes e sights row leads
  plain_goes (insn.ArrayStore e) u news byte sights call row leads new = array_store_goes e sights row (array_store_takes e sights) leads
  plain_goes insn.Length u news byte sights call row leads new = length_goes sights row leads
  plain_goes (insn.NewArray e) u news byte sights call row leads new = new_array_goes e sights row leads
  plain_goes (insn.NewRefs index) u news byte sights call row leads new = new_references_goes index u sights row leads
  plain_goes (insn.MultiArray index dimensions) u news byte sights call row leads new = multi_array_goes index dimensions u sights row leads
  plain_goes (insn.Virtual index) u news byte sights call row leads new = absurd (false≢true (sym call))
  plain_goes (insn.Interface index) u news byte sights call row leads new = absurd (false≢true (sym call))
  plain_goes (insn.Special index) u news byte sights call row leads new = absurd (false≢true (sym call))
  plain_goes (insn.Static index) u news byte sights call row leads new = absurd (false≢true (sym call))
  plain_goes (insn.LeftOut opcode) u news byte sights call row leads new = absurd (cc)
  plain_goes i u news byte sights call row leads new = number_goes i u byte sights refl row leads
