-- The words of a call: those that an instruction takes are references where the parameters of the method called are.
use Rattle.std.proofs.Common.{◌≡◌, ℕ, zero, suc, ◌+◌, ◌↔◌, not, cond, Bool, true, false, List, [], ◌∷◌, ◌++◌, length, reverse, Option, Some, None, option_and_then, IsSomeAnd, refl, sym, ◌∙◌, ap, subst, slice_get, arith, append_assoc, append-nil}
use Rattle.std.specs.Prelude.{option_map}
use Rattle.std.specs.List.{AllZip, flat_map}
use Rattle.std.proofs.lemmas.Bool.{false≢true}
use Rattle.std.proofs.lemmas.List.{length-append, length-reverse, reverse-append}
use Rattle.std.proofs.lemmas.List.Elements.{length_all_zip}
use Rattle.std.proofs.lemmas.Option.{none-some, option_and_then_some, same_Some}
use Rattle.fm_base.specs.declared.ids.MethodId.{MethodId}
use Rattle.fm_base.specs.declared.ids.TypeId.{TypeId}
use Rattle.fm_base.specs.declared.kinds.TypeRef.{TypeRef}
use Rattle.fm_code.specs.AccessFlags.{is_static}
use Rattle.fm_code.specs.declared.instructions.Insn.{Insn}
use Rattle.fm_code.specs.declared.instructions.Insn.TheVariants as insn
use Rattle.fm_conn.specs.Pairs.{IsEnd}
use Rattle.fm_conn.specs.declared.ends.End2.TheVariants as end
use Rattle.fm_types.specs.CallRows.{constructed, constructor_called, instance_call_row, is_constructor, is_initializer, names_own_or_above, special_call_row, static_call_row}
use Rattle.fm_types.specs.Named.{argument_words, parameters_of, result_words, this_class}
use Rattle.fm_types.specs.Rows.{row_after}
use Rattle.fm_types.specs.States.{is_reference, is_whole, local_slots, stack_slots, taken, TypeState, worked}
use Rattle.fm_types.specs.Typed.{entry_slots, receiver_slots}
use Rattle.fm_types.specs.declared.slots.Slot as slots
use Rattle.fm_types.specs.declared.slots.Slot.TheVariants as slot
use Rattle.fm_types.specs.Fits.{fits}
use Rattle.fm_types.proofs.CallOrder.{called-whole}
use Rattle.fm_types.proofs.ObjectOrder.{argument_words-whole}
use Rattle.fm_types.proofs.StateOrder.{Fitting, long_below, other_below, shape_of, whole-long, whole-other}
use Rattle.fm_types.proofs.Zips.{zip-append}
use Rattle.fm_world.specs.Causes.{static_method_wanted}
use Rattle.fm_world.specs.Members.{method_at}
use Rattle.fm_world.specs.Numbers.{type_of_class}
use Rattle.fm_world.specs.Programs.{Outline}
use Rattle.fm_world.specs.declared.uses.Use.TheVariants as resolved
use Rattle.fm_frames.specs.CallRows.{words_of_arguments}
use Rattle.fm_law_sound.proofs.CallsLeft.{arguments_count}

-- ---- shapes

abbrev Slots : Type 0
Slots = List slots.Slot

-- both are references, or neither is
abbrev pub IsAlike : slots.Slot → slots.Slot → Type 0
IsAlike a b = is_reference a ≡ is_reference b

abbrev IsReferenceAt : Slots → ℕ → Type 0
IsReferenceAt xs k = IsSomeAnd (slice_get xs k) (λ s. is_reference s ≡ true)

-- lists that are alike have references at the same places
alike_references : (xs ys : Slots) (k : ℕ) → AllZip IsAlike xs ys → IsReferenceAt ys k → IsReferenceAt xs k
alike_references [] [] k h is = absurd is
alike_references [] (y ∷ ys) k h is = absurd h
alike_references (x ∷ xs) [] k h is = absurd h
alike_references (x ∷ xs) (y ∷ ys) zero h is = h.0 ∙ is
alike_references (x ∷ xs) (y ∷ ys) (suc k) h is = alike_references xs ys k h.1 is

alike_back : (xs ys : Slots) → AllZip IsAlike xs ys → AllZip IsAlike ys xs
alike_back [] [] h = tt
alike_back [] (y ∷ ys) h = absurd h
alike_back (x ∷ xs) [] h = absurd h
alike_back (x ∷ xs) (y ∷ ys) h = (sym h.0, alike_back xs ys h.1)

alike_same : (xs : Slots) → AllZip IsAlike xs xs
alike_same [] = tt
alike_same (x ∷ xs) = (refl, alike_same xs)

alike_then : (xs ys zs : Slots) → AllZip IsAlike xs ys → AllZip IsAlike ys zs → AllZip IsAlike xs zs
alike_then [] [] [] h g = tt
alike_then [] [] (z ∷ zs) h g = absurd g
alike_then [] (y ∷ ys) zs h g = absurd h
alike_then (x ∷ xs) [] zs h g = absurd h
alike_then (x ∷ xs) (y ∷ ys) [] h g = absurd g
alike_then (x ∷ xs) (y ∷ ys) (z ∷ zs) h g = (h.0 ∙ g.0, alike_then xs ys zs h.1 g.1)

reverse_cons : (x : slots.Slot) (xs : Slots) → reverse (x ∷ xs) ≡ reverse xs ++ x ∷ []
reverse_cons x xs = reverse-append (x ∷ []) xs

alike_reverse : (xs ys : Slots) → AllZip IsAlike xs ys → AllZip IsAlike (reverse xs) (reverse ys)
alike_reverse [] [] h = tt
alike_reverse [] (y ∷ ys) h = absurd h
alike_reverse (x ∷ xs) [] h = absurd h
alike_reverse (x ∷ xs) (y ∷ ys) h =
    subst (λ zs. AllZip IsAlike zs (reverse (y ∷ ys))) (sym (reverse_cons x xs))
    (subst (λ zs. AllZip IsAlike (reverse xs ++ x ∷ []) zs) (sym (reverse_cons y ys))
    (zip-append IsAlike (reverse xs) (reverse ys) (x ∷ []) (y ∷ []) (alike_reverse xs ys h.1) (h.0, tt)))

pub alike_other : (o : Outline) (a b : slots.Slot) → fits o a b ≡ true → shape_of b ≡ 2 → is_reference a ≡ is_reference b
unfolding fits
alike_other o a slot.Top h e = absurd (omega (arith, e))
alike_other o a slot.Long h e = absurd (omega (arith, e))
alike_other o slot.Int slot.Int h e = refl
alike_other o slot.Null slot.Null h e = refl
alike_other o slot.Null (slot.Ref t) h e = refl
alike_other o (slot.Ref s) (slot.Ref t) h e = refl
alike_other o (slot.Uninit i) (slot.Uninit j) h e = refl
alike_other o slot.UninitThis slot.UninitThis h e = refl
alike_other o a b h e = absurd (false≢true h)

-- of the topmost words of a whole stack the longs are level with those that are wanted
level_above : (o : Outline) (xs ys rest : Slots) → AllZip (Fitting o) xs ys → is_whole (xs ++ rest) ≡ true → is_whole ys ≡ true → AllZip IsAlike xs ys
level_above o [] [] rest h first second = tt
level_above o [] (y ∷ ys) rest h first second = absurd h
level_above o (x ∷ xs) [] rest h first second = absurd h
level_above o (x ∷ xs) (slot.Top ∷ []) rest h first second = absurd (false≢true second)
level_above o (x ∷ []) (slot.Top ∷ slot.Long ∷ ys) rest h first second = absurd h.1
level_above o (x ∷ z ∷ xs) (slot.Top ∷ slot.Long ∷ ys) rest h first second =
    let long : z ≡ slot.Long = long_below o z h.1.0 in
    let parts : (x ≡ slot.Top) × (is_whole (xs ++ rest) ≡ true) =
    whole-long x (xs ++ rest) (sym (ap (λ a. is_whole (x ∷ a ∷ (xs ++ rest))) long) ∙ first) in
    (ap is_reference parts.0, (ap is_reference long, level_above o xs ys rest h.1.1 parts.1 second))
level_above o (x ∷ xs) (slot.Top ∷ y ∷ ys) rest h first second = absurd (false≢true second)
level_above o (x ∷ xs) (slot.Long ∷ ys) rest h first second = absurd (false≢true second)
level_above o (x ∷ xs) (y ∷ ys) rest h first second =
    let shape : shape_of x ≡ 2 = other_below o x y h.0 refl in
    (alike_other o x y h.0 refl, level_above o xs ys rest h.1 (sym (whole-other x (xs ++ rest) shape) ∙ first) second)

-- ---- what a row takes

pub record TakesOff (o : Outline) (wanted stack rest : Slots) : Type 0 where
  pub words : Slots
  pub is : stack ≡ words ++ rest
  pub fitting : AllZip (Fitting o) words wanted

pub taken_off : (o : Outline) (wanted stack rest : Slots) → taken o wanted stack ≡ Some rest → TakesOff o wanted stack rest
taken_off o [] stack rest h = record { words = []; is = same_Some stack rest h; fitting = tt }
taken_off o (w ∷ wanted) [] rest h = absurd (none-some rest h)
taken_off o (w ∷ wanted) (s ∷ stack) rest h = by_fit (fits o s w) refl h (taken_off o wanted stack rest) where
  by_fit : (b : Bool) → fits o s w ≡ b → cond b (taken o wanted stack) None ≡ Some rest
      → (taken o wanted stack ≡ Some rest → TakesOff o wanted stack rest) → TakesOff o (w ∷ wanted) (s ∷ stack) rest
  by_fit true passes further later =
      let more = later further in
      record { words = s ∷ more.words; is = ap (λ xs. s ∷ xs) more.is; fitting = (passes, more.fitting) }
  by_fit false passes further later = absurd (none-some rest further)

-- the words of a receiver, where there is one
abbrev pub receiver_shape : Bool → Slots
receiver_shape true = slot.Null ∷ []
receiver_shape false = []

-- the words that a call takes off the stack: the arguments above the receiver, if there is one
pub record TakesCall (o : Outline) (method : ℕ) (instance : Bool) (stack : Slots) : Type 0 where
  pub words : Slots
  pub rest : Slots
  pub is : stack ≡ words ++ rest
  pub level : AllZip IsAlike words (argument_words o method ++ receiver_shape instance)

worked_takes : (o : Outline) (wanted given : Slots) (s after : TypeState) → worked o wanted given s ≡ Some after → is_whole s.stack ≡ true
    → is_whole wanted ≡ true → (rest : Slots) × (words : Slots) × (s.stack ≡ words ++ rest) × AllZip IsAlike words wanted
worked_takes o wanted given s after h first second = by_rest (taken o wanted s.stack) refl h where
  by_rest : (found : Option Slots) → taken o wanted s.stack ≡ found
      → option_map (λ (stack : Slots). record s { stack = given ++ stack }) found ≡ Some after
      → (rest : Slots) × (words : Slots) × (s.stack ≡ words ++ rest) × AllZip IsAlike words wanted
  by_rest None found further = absurd (none-some after further)
  by_rest (Some rest) found further =
      let off = taken_off o wanted s.stack rest found in
      (rest, off.words, off.is, level_above o off.words wanted rest off.fitting (sym (ap is_whole off.is) ∙ first) second)

with_receiver : (o : Outline) (method : ℕ) (t : TypeRef) → AllZip IsAlike (argument_words o method ++ slot.Ref t ∷ []) (argument_words o method ++ receiver_shape true)
with_receiver o method t =
    zip-append IsAlike (argument_words o method) (argument_words o method) (slot.Ref t ∷ []) (slot.Null ∷ []) (alike_same (argument_words o method)) (refl, tt)

worked_instance : (o : Outline) (method : ℕ) (t : TypeRef) (given : Slots) (s after : TypeState)
    → worked o (argument_words o method ++ slot.Ref t ∷ []) given s ≡ Some after → is_whole s.stack ≡ true → TakesCall o method true s.stack
worked_instance o method t given s after h whole =
    let off = worked_takes o (argument_words o method ++ slot.Ref t ∷ []) given s after h whole (called-whole o method t) in
    record {
      words = off.1;
      rest = off.0;
      is = off.2;
      level = alike_then off.1 (argument_words o method ++ slot.Ref t ∷ []) (argument_words o method ++ receiver_shape true) off.3 (with_receiver o method t);
    }

worked_static : (o : Outline) (method : ℕ) (given : Slots) (s after : TypeState) → worked o (argument_words o method) given s ≡ Some after
    → is_whole s.stack ≡ true → TakesCall o method false s.stack
worked_static o method given s after h whole =
    let off = worked_takes o (argument_words o method) given s after h whole (argument_words-whole o method) in
    record {
      words = off.1;
      rest = off.0;
      is = off.2;
      level = subst (λ ys. AllZip IsAlike off.1 ys) (sym (append-nil (argument_words o method))) off.3;
    }

pub untested : (b : Bool) (x : Option TypeState) (after : TypeState) → cond b None x ≡ Some after → x ≡ Some after
untested true x after h = absurd (none-some after h)
untested false x after h = h

pub tested : (b : Bool) (x : Option TypeState) (after : TypeState) → cond b x None ≡ Some after → x ≡ Some after
tested true x after h = h
tested false x after h = absurd (none-some after h)

-- a constructor's receiver isn't initialised
built_shape : (o : Outline) (method : ℕ) (news : ℕ → Option TypeRef) (named : TypeRef) (receiver : slots.Slot) (s after : TypeState)
    → constructed o method news named receiver s ≡ Some after → is_reference receiver ≡ true
built_shape o method news named (slot.Uninit item) s after h = refl
built_shape o method news named slot.UninitThis s after h = refl
built_shape o method news named receiver s after h = absurd (none-some after h)

constructor_takes : (o : Outline) (method : ℕ) (news : ℕ → Option TypeRef) (m : ℕ) (named : TypeRef) (s after : TypeState)
    → constructor_called o method news m named s ≡ Some after → is_whole s.stack ≡ true → TakesCall o m true s.stack
constructor_takes o method news m named s after h whole = by_rest (taken o (argument_words o m) s.stack) refl h where
  of_rest : Slots → Option TypeState
  of_rest [] = None
  of_rest (receiver ∷ stack) = constructed o method news named receiver (record s { stack = stack })

  below : (rest : Slots) → taken o (argument_words o m) s.stack ≡ Some rest → of_rest rest ≡ Some after → TakesCall o m true s.stack
  below [] found further = absurd (none-some after further)
  below (receiver ∷ rest) found further =
      let off = taken_off o (argument_words o m) s.stack (receiver ∷ rest) found in
      record {
        words = off.words ++ receiver ∷ [];
        rest = rest;
        is = off.is ∙ sym (append_assoc off.words (receiver ∷ []) rest);
        level = zip-append IsAlike off.words (argument_words o m) (receiver ∷ []) (slot.Null ∷ [])
            (level_above o off.words (argument_words o m) (receiver ∷ rest) off.fitting (sym (ap is_whole off.is) ∙ whole) (argument_words-whole o m))
            (built_shape o method news named receiver (record s { stack = rest }) after further, tt);
      }

  by_rest : (found : Option Slots) → taken o (argument_words o m) s.stack ≡ found → option_and_then of_rest found ≡ Some after → TakesCall o m true s.stack
  by_rest None found further = absurd (none-some after further)
  by_rest (Some rest) found further = below rest found further

-- ---- the rows of calls

module _ (o : Outline) (method item : ℕ) (news : ℕ → Option TypeRef) (m : MethodId) (t : TypeId) (s after : TypeState) (whole : is_whole s.stack ≡ true) where
  instance_takes : instance_call_row o (resolved.OfMethod m t) s ≡ Some after → TakesCall o m.0 true s.stack
  unfolding instance_call_row
  instance_takes h =
      option_and_then_some _ (slice_get o.types t.0) after h
      (λ named there row. worked_instance o m.0 named (result_words o m.0) s after (untested (is_initializer o m.0) _ after row) whole)

  static_takes : static_call_row o (resolved.OfMethod m t) s ≡ Some after → TakesCall o m.0 false s.stack
  unfolding static_call_row
  static_takes h =
      option_and_then_some _ (slice_get o.types t.0) after h
      (λ named there row. worked_static o m.0 (result_words o m.0) s after (untested (is_initializer o m.0) _ after row) whole)

  special_by : (constructor : Bool) (named : TypeRef)
      → cond constructor (constructor_called o method news m.0 named s) (cond (is_initializer o m.0) None
      (cond (names_own_or_above o (this_class o method) named)
      (worked o (argument_words o m.0 ++ slot.Ref (type_of_class (this_class o method)) ∷ []) (result_words o m.0) s) None)) ≡ Some after
      → TakesCall o m.0 true s.stack
  special_by true named row = constructor_takes o method news m.0 named s after row whole
  special_by false named row =
      worked_instance o m.0 (type_of_class (this_class o method)) (result_words o m.0) s after
      (tested (names_own_or_above o (this_class o method) named) _ after (untested (is_initializer o m.0) _ after row)) whole

  special_takes : special_call_row o method news (resolved.OfMethod m t) s ≡ Some after → TakesCall o m.0 true s.stack
  unfolding special_call_row
  special_takes h =
      option_and_then_some _ (slice_get o.types t.0) after h (λ named there row. special_by (is_constructor o m.0) named row)

  -- a call takes the arguments of the method that is named, and its receiver unless it is to be static
  pub call_takes : (i : Insn) (static : Bool) → static_method_wanted i ≡ Some static
      → row_after o method item news (resolved.OfMethod m t) i s ≡ Some after → TakesCall o m.0 (not static) s.stack
  unfolding row_after
  call_takes (insn.Virtual index) static wanted h =
      subst (λ b. TakesCall o m.0 (not b) s.stack) (same_Some false static wanted) (instance_takes h)
  call_takes (insn.Interface index) static wanted h =
      subst (λ b. TakesCall o m.0 (not b) s.stack) (same_Some false static wanted) (instance_takes h)
  call_takes (insn.Special index) static wanted h =
      subst (λ b. TakesCall o m.0 (not b) s.stack) (same_Some false static wanted) (special_takes h)
  call_takes (insn.Static index) static wanted h =
      subst (λ b. TakesCall o m.0 (not b) s.stack) (same_Some true static wanted) (static_takes h)
  call_takes i static wanted h = absurd (none-some static wanted)

-- ---- how many, and which are references

abbrev pub receiver_count : Bool → ℕ
receiver_count true = 1
receiver_count false = 0

shape_length : (b : Bool) → length (receiver_shape b) ≡ receiver_count b
shape_length true = refl
shape_length false = refl

pub call_length : (o : Outline) (method : ℕ) (instance : Bool) (stack : Slots) (c : TakesCall o method instance stack)
    → length c.words ≡ words_of_arguments o method + receiver_count instance
call_length o method instance stack c =
    length_all_zip IsAlike c.words (argument_words o method ++ receiver_shape instance) c.level
    ∙ length-append (argument_words o method) (receiver_shape instance) ∙ ap (λ n. n + length (receiver_shape instance)) (arguments_count o method)
    ∙ ap (λ n. words_of_arguments o method + n) (shape_length instance)

receiver_alike : (static constructor : Bool) (t : TypeRef)
    → AllZip IsAlike (receiver_shape (not static)) (reverse (cond static [] (cond constructor (slot.UninitThis ∷ []) (slot.Ref t ∷ []))))
receiver_alike true constructor t = tt
receiver_alike false true t = (refl, tt)
receiver_alike false false t = (refl, tt)

-- the arguments and the receiver are as the locals with which a method of the same parameters begins
entry_alike : (o : Outline) (method target : ℕ) (static : Bool) → parameters_of o target ≡ parameters_of o method
    → is_static (method_at o.classes target).method.flags ≡ static
    → AllZip IsAlike (argument_words o method ++ receiver_shape (not static)) (reverse (entry_slots o target))
entry_alike o method target static same flags =
    subst (λ ys. AllZip IsAlike (argument_words o method ++ receiver_shape (not static)) ys)
    (sym (reverse-append (receiver_slots o target) (flat_map local_slots (parameters_of o target))))
    (zip-append IsAlike (argument_words o method) (stack_slots (parameters_of o target)) (receiver_shape (not static)) (reverse (receiver_slots o target))
    (subst (λ kinds. AllZip IsAlike (argument_words o method) (stack_slots kinds)) (sym same) (alike_same (argument_words o method)))
    (subst (λ b. AllZip IsAlike (receiver_shape (not b)) (reverse (receiver_slots o target))) flags
    (receiver_alike (is_static (method_at o.classes target).method.flags) (is_constructor o target) (type_of_class (this_class o target)))))

reverse_twice : (xs : Slots) → reverse (reverse xs) ≡ xs
reverse_twice [] = refl
reverse_twice (x ∷ xs) = ap reverse (reverse_cons x xs) ∙ reverse-append (reverse xs) (x ∷ []) ∙ ap (λ ys. x ∷ ys) (reverse_twice xs)

pub slice_after : (xs ys : Slots) (k : ℕ) → slice_get (xs ++ ys) (length xs + k) ≡ slice_get ys k
slice_after [] ys k = let e : 0 + k ≡ k = omega arith in ap (slice_get ys) e
slice_after (x ∷ xs) ys k =
    let e : length (x ∷ xs) + k ≡ suc (length xs + k) = omega arith in ap (slice_get (x ∷ (xs ++ ys))) e ∙ slice_after xs ys k

-- a parameter of the method called is a reference where the word that it gets is one, by how many words lie below that
pub call_ends : (o : Outline) (method target : ℕ) (static : Bool) (stack : Slots) (c : TakesCall o method (not static) stack)
    → parameters_of o target ≡ parameters_of o method → is_static (method_at o.classes target).method.flags ≡ static → (k : ℕ)
    → IsEnd o target (end.Parameter k) ↔ IsReferenceAt (reverse stack) (length c.rest + k)
call_ends o method target static stack c same flags k = (forth, back) where
  level : AllZip IsAlike (reverse c.words) (entry_slots o target)
  level =
      subst (λ ys. AllZip IsAlike (reverse c.words) ys) (reverse_twice (entry_slots o target))
      (alike_reverse c.words (reverse (entry_slots o target))
      (alike_then c.words (argument_words o method ++ receiver_shape (not static)) (reverse (entry_slots o target)) c.level
      (entry_alike o method target static same flags)))

  size : length (reverse c.rest) ≡ length c.rest
  size = length-reverse c.rest

  found : slice_get (reverse stack) (length c.rest + k) ≡ slice_get (reverse c.words) k
  found =
      ap (λ xs. slice_get xs (length c.rest + k)) (ap reverse c.is ∙ reverse-append c.words c.rest)
      ∙ ap (λ n. slice_get (reverse c.rest ++ reverse c.words) (n + k)) (sym size) ∙ slice_after (reverse c.rest) (reverse c.words) k

  forth : IsEnd o target (end.Parameter k) → IsReferenceAt (reverse stack) (length c.rest + k)
  forth ended =
      subst (λ (w : Option slots.Slot). IsSomeAnd w (λ s. is_reference s ≡ true)) (sym found)
      (alike_references (reverse c.words) (entry_slots o target) k level ended)

  back : IsReferenceAt (reverse stack) (length c.rest + k) → IsEnd o target (end.Parameter k)
  back node =
      alike_references (entry_slots o target) (reverse c.words) k (alike_back (reverse c.words) (entry_slots o target) level)
      (subst (λ (w : Option slots.Slot). IsSomeAnd w (λ s. is_reference s ≡ true)) found node)
