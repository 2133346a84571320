-- The small steps that rows are made of, at a state where items have other numbers.
use Rattle.std.proofs.Common.{◌≡◌, refl, sym, ◌∙◌, ap, ℕ, zero, suc, ◌<◌, ◌≤◌, Bool, true, false, cond, List, [], ◌∷◌, ◌++◌, length, map, drop, set, Option, Some, None, option_and_then, option_map, arith}
use Rattle.std.specs.Prelude.{nat_lt, slice_get}
use Rattle.std.specs.List.{AllByRecursion}
use Rattle.std.proofs.lemmas.List.{drop-map, get_or-map, get_or_append_left, length-map, map-set, set-append_left}
use Rattle.std.proofs.lemmas.Option.{slice_get-map}
use Rattle.fm_law_relinked.specs.Rows.{AreApart, slot_with, state_with}
use Rattle.fm_base.specs.declared.kinds.TypeRef.{TypeRef}
use Rattle.fm_code.specs.declared.operations.Reg.{Reg}
use Rattle.fm_code.specs.declared.operations.Reg.TheVariants as reg
use Rattle.fm_types.proofs.EachCheckRow.{ArePlain, IsPlain}
use Rattle.fm_types.specs.Moves.{Moves, moved, words_at}
use Rattle.fm_types.specs.Named.{on_type}
use Rattle.fm_types.specs.NumberRows.{is_int, suits}
use Rattle.fm_types.specs.States.{cut_before, is_long, is_reference, is_uninit, is_uninit_this, is_whole, local_at, pushed, replaced, taken, TypeState, worked, worked_below}
use Rattle.fm_types.specs.Fits.{fits}
use Rattle.fm_types.specs.declared.slots.Slot.{Slot}
use Rattle.fm_types.specs.declared.slots.Slot.TheVariants as slot
use Rattle.fm_world.specs.Programs.{Outline}
use Rattle.fm_world.specs.declared.uses.Use.{Use}
use Rattle.fm_world.specs.declared.uses.Use.TheVariants as resolved

-- ---- options

-- under a test
pub tested : {A B : Type 0} (g : A → B) (b : Bool) (x : Option B) (y : Option A) → x ≡ option_map g y → cond b x None ≡ option_map g (cond b y None)
tested g true x y same = same
tested g false x y same = refl

-- what follows from an option
pub followed : {A B C : Type 0} (g : B → C) (x : Option A) (f : A → Option B) (h : A → Option C) → ((a : A) → h a ≡ option_map g (f a))
    → option_and_then h x ≡ option_map g (option_and_then f x)
followed g None f h same = refl
followed g (Some a) f h same = same a

module _ (numbers : ℕ → ℕ) where
  abbrev other : Slot → Slot
  other = slot_with numbers

  -- ---- tests of slots

  pub is_int_with : (s : Slot) → is_int (other s) ≡ is_int s
  is_int_with slot.Top = refl
  is_int_with slot.Int = refl
  is_int_with slot.Long = refl
  is_int_with slot.Null = refl
  is_int_with (slot.Ref t) = refl
  is_int_with (slot.Uninit item) = refl
  is_int_with slot.UninitThis = refl

  pub is_long_with : (s : Slot) → is_long (other s) ≡ is_long s
  is_long_with slot.Top = refl
  is_long_with slot.Int = refl
  is_long_with slot.Long = refl
  is_long_with slot.Null = refl
  is_long_with (slot.Ref t) = refl
  is_long_with (slot.Uninit item) = refl
  is_long_with slot.UninitThis = refl

  pub is_reference_with : (s : Slot) → is_reference (other s) ≡ is_reference s
  is_reference_with slot.Top = refl
  is_reference_with slot.Int = refl
  is_reference_with slot.Long = refl
  is_reference_with slot.Null = refl
  is_reference_with (slot.Ref t) = refl
  is_reference_with (slot.Uninit item) = refl
  is_reference_with slot.UninitThis = refl

  pub suits_with : (r : Reg) (s : Slot) → suits r (other s) ≡ suits r s
  suits_with reg.Int s = is_int_with s
  suits_with reg.Long s = is_long_with s
  suits_with reg.Ref s = is_reference_with s

  pub fits_with : (o : Outline) (s wanted : Slot) → IsPlain wanted → fits o (other s) wanted ≡ fits o s wanted
  unfolding fits
  fits_with o slot.Top wanted plain = refl
  fits_with o slot.Int wanted plain = refl
  fits_with o slot.Long wanted plain = refl
  fits_with o slot.Null wanted plain = refl
  fits_with o (slot.Ref t) wanted plain = refl
  fits_with o slot.UninitThis wanted plain = refl
  fits_with o (slot.Uninit item) slot.Top plain = refl
  fits_with o (slot.Uninit item) slot.Int plain = refl
  fits_with o (slot.Uninit item) slot.Long plain = refl
  fits_with o (slot.Uninit item) slot.Null plain = refl
  fits_with o (slot.Uninit item) (slot.Ref t) plain = refl
  fits_with o (slot.Uninit item) (slot.Uninit another) plain = absurd plain
  fits_with o (slot.Uninit item) slot.UninitThis plain = refl

  plain_same : (s : Slot) → IsPlain s → other s ≡ s
  plain_same slot.Top plain = refl
  plain_same slot.Int plain = refl
  plain_same slot.Long plain = refl
  plain_same slot.Null plain = refl
  plain_same (slot.Ref t) plain = refl
  plain_same (slot.Uninit item) plain = absurd plain
  plain_same slot.UninitThis plain = refl

  -- plain slots on top
  pub stacked : (given : List Slot) → ArePlain given → (stack : List Slot) → given ++ map other stack ≡ map other (given ++ stack)
  stacked [] plain stack = refl
  stacked (s ∷ given) plain stack = λ k. sym (plain_same s plain.0) k ∷ stacked given plain.1 stack k

  -- ---- what is taken

  pub taken_with : (o : Outline) (wanted stack : List Slot) → ArePlain wanted → taken o wanted (map other stack) ≡ option_map (map other) (taken o wanted stack)
  taken_with o [] stack plain = refl
  taken_with o (w ∷ more) [] plain = refl
  taken_with o (w ∷ more) (s ∷ stack) plain =
      ap (λ b. cond b (taken o more (map other stack)) None) (fits_with o s w plain.0)
      ∙ tested (map other) (fits o s w) (taken o more (map other stack)) (taken o more stack) (taken_with o more stack plain.1)

  -- ---- moves

  pub whole_with : (stack : List Slot) → is_whole (map other stack) ≡ is_whole stack
  whole_with [] = refl
  whole_with (slot.Top ∷ []) = refl
  whole_with (slot.Top ∷ slot.Top ∷ stack) = refl
  whole_with (slot.Top ∷ slot.Int ∷ stack) = refl
  whole_with (slot.Top ∷ slot.Long ∷ stack) = whole_with stack
  whole_with (slot.Top ∷ slot.Null ∷ stack) = refl
  whole_with (slot.Top ∷ slot.Ref t ∷ stack) = refl
  whole_with (slot.Top ∷ slot.Uninit item ∷ stack) = refl
  whole_with (slot.Top ∷ slot.UninitThis ∷ stack) = refl
  whole_with (slot.Int ∷ stack) = whole_with stack
  whole_with (slot.Long ∷ stack) = refl
  whole_with (slot.Null ∷ stack) = whole_with stack
  whole_with (slot.Ref t ∷ stack) = whole_with stack
  whole_with (slot.Uninit item ∷ stack) = whole_with stack
  whole_with (slot.UninitThis ∷ stack) = whole_with stack

  word_more : (word : Option Slot) (words : Option (List Slot))
      → option_and_then (λ w. option_map (λ ws. w ∷ ws) (option_map (map other) words)) (option_map other word)
      ≡ option_map (map other) (option_and_then (λ w. option_map (λ ws. w ∷ ws) words) word)
  word_more None words = refl
  word_more (Some w) None = refl
  word_more (Some w) (Some ws) = refl

  words_with : (stack : List Slot) (places : List ℕ) → words_at (map other stack) places ≡ option_map (map other) (words_at stack places)
  words_with stack [] = refl
  words_with stack (place ∷ places) =
      (λ k. option_and_then (λ w. option_map (λ ws. w ∷ ws) (words_with stack places k)) (slice_get-map other stack place k))
      ∙ word_more (slice_get stack place) (words_at stack places)

  words_moved : (words : Option (List Slot)) (rest : List Slot)
      → option_map (λ ws. ws ++ map other rest) (option_map (map other) words) ≡ option_map (map other) (option_map (λ ws. ws ++ rest) words)
  words_moved None rest = refl
  words_moved (Some ws) rest = ap Some (joined ws rest) where
    joined : (xs ys : List Slot) → map other xs ++ map other ys ≡ map other (xs ++ ys)
    joined [] ys = refl
    joined (x ∷ xs) ys = ap (λ l. other x ∷ l) (joined xs ys)

  pub moved_with : (m : Moves) (stack : List Slot) → moved m (map other stack) ≡ option_map (map other) (moved m stack)
  moved_with m stack =
      (λ k. cond (nat_lt (length-map stack other k) m.takes) None
      (option_map (λ words. words ++ drop-map other m.takes stack k) (words_with stack m.gives k)))
      ∙ by_test (nat_lt (length stack) m.takes) where
        by_test : (b : Bool) → cond b None (option_map (λ words. words ++ map other (drop m.takes stack)) (option_map (map other) (words_at stack m.gives)))
            ≡ option_map (map other) (cond b None (option_map (λ words. words ++ drop m.takes stack) (words_at stack m.gives)))
        by_test true = refl
        by_test false = words_moved (words_at stack m.gives) (drop m.takes stack)

  -- ---- objects that aren't initialised

  pub uninit_with : AreApart numbers → (item : ℕ) (s : Slot) → is_uninit (numbers item) (other s) ≡ is_uninit item s
  uninit_with apart item slot.Top = refl
  uninit_with apart item slot.Int = refl
  uninit_with apart item slot.Long = refl
  uninit_with apart item slot.Null = refl
  uninit_with apart item (slot.Ref t) = refl
  uninit_with apart item (slot.Uninit another) = apart item another
  uninit_with apart item slot.UninitThis = refl

  pub uninit_this_with : (s : Slot) → is_uninit_this (other s) ≡ is_uninit_this s
  uninit_this_with slot.Top = refl
  uninit_this_with slot.Int = refl
  uninit_this_with slot.Long = refl
  uninit_this_with slot.Null = refl
  uninit_this_with (slot.Ref t) = refl
  uninit_this_with (slot.Uninit item) = refl
  uninit_this_with slot.UninitThis = refl

  -- tests that slots pass alike, and one that is put in the place of those that pass
  module _ (test new_test : Slot → Bool) (put : Slot) (alike : (s : Slot) → new_test (other s) ≡ test s) (plain : other put ≡ put) where
    one_replaced : (s : Slot) → cond (new_test (other s)) put (other s) ≡ other (cond (test s) put s)
    one_replaced s = ap (λ b. cond b put (other s)) (alike s) ∙ by_test (test s) where
      by_test : (b : Bool) → cond b put (other s) ≡ other (cond b put s)
      by_test true = sym plain
      by_test false = refl

    pub replaced_stack : (slots : List Slot) → replaced new_test put (map other slots) ≡ map other (replaced test put slots)
    replaced_stack [] = refl
    replaced_stack (s ∷ slots) = λ k. one_replaced s k ∷ replaced_stack slots k

    none_replaced : (more : List Slot) → AllByRecursion (λ s. new_test s ≡ false) more → replaced new_test put more ≡ more
    none_replaced [] none = refl
    none_replaced (s ∷ more) none = λ k. cond (none.0 k) put s ∷ none_replaced more none.1 k

    pub replaced_with : (more : List Slot) → AllByRecursion (λ s. new_test s ≡ false) more → (slots : List Slot)
        → replaced new_test put (map other slots ++ more) ≡ map other (replaced test put slots) ++ more
    replaced_with more none [] = none_replaced more none
    replaced_with more none (s ∷ slots) = λ k. one_replaced s k ∷ replaced_with more none slots k

  -- ---- locals

  module _ (more : List Slot) where
    pub local_kept : (locals : List Slot) (k : ℕ) → k < length locals → slice_get (map other locals ++ more) k ≡ option_map other (slice_get locals k)
    local_kept [] k within = absurd (omega (arith, within))
    local_kept (s ∷ locals) zero within = refl
    local_kept (s ∷ locals) (suc k) within = local_kept locals k (omega (arith, within))

    pub local_here : (locals : List Slot) (k : ℕ) → k < length locals → local_at (map other locals ++ more) k ≡ other (local_at locals k)
    local_here locals k within =
        let long = length-map locals other in
        get_or_append_left (map other locals) more slot.Top k (omega (arith, within, long)) ∙ get_or-map other locals k slot.Top slot.Top within

    pub local_set : (locals : List Slot) (k : ℕ) (s : Slot) → k < length locals
        → set (map other locals ++ more) k (other s) ≡ map other (set locals k s) ++ more
    local_set locals k s within =
        let long = length-map locals other in
        set-append_left (map other locals) more k (other s) (omega (arith, within, long)) ∙ ap (λ l. l ++ more) (sym (map-set other locals k s))

    pub cut_with : (k : ℕ) (locals : List Slot) → k ≤ length locals → cut_before k (map other locals ++ more) ≡ map other (cut_before k locals) ++ more
    cut_with zero locals within = refl
    cut_with (suc k) locals within =
        let inside : k < length locals = omega (arith, within) in
        (λ j. cond (is_long (local_here locals k inside j)) (local_set locals k slot.Top inside j) (map other locals ++ more))
        ∙ ap (λ b. cond b (map other (set locals k slot.Top) ++ more) (map other locals ++ more)) (is_long_with (local_at locals k))
        ∙ by_test (is_long (local_at locals k)) where
          by_test : (b : Bool) → cond b (map other (set locals k slot.Top) ++ more) (map other locals ++ more) ≡ map other (cond b (set locals k slot.Top) locals) ++ more
          by_test true = refl
          by_test false = refl

    -- ---- states

    abbrev to : TypeState → TypeState
    to = state_with numbers more

    -- the state with such a stack
    pub with_stack : (s : TypeState) (stack new : List Slot) → new ≡ map other stack → record (to s) { stack = new } ≡ to (record s { stack = stack })
    with_stack s stack new same = λ k. record { locals = map other s.locals ++ more; stack = same k; built = s.built }

    pub pushed_with : (given : List Slot) → ArePlain given → (s : TypeState) → pushed given (to s) ≡ to (pushed given s)
    pushed_with given plain s = with_stack s (given ++ s.stack) (given ++ map other s.stack) (stacked given plain s.stack)

    pub worked_with : (o : Outline) (wanted given : List Slot) → ArePlain wanted → ArePlain given → (s : TypeState)
        → worked o wanted given (to s) ≡ option_map to (worked o wanted given s)
    worked_with o wanted given plain plain_given s =
        ap (option_map (λ stack. record (to s) { stack = given ++ stack })) (taken_with o wanted s.stack plain) ∙ by_rest (taken o wanted s.stack) where
          by_rest : (t : Option (List Slot)) → option_map (λ stack. record (to s) { stack = given ++ stack }) (option_map (map other) t)
              ≡ option_map to (option_map (λ stack. record s { stack = given ++ stack }) t)
          by_rest None = refl
          by_rest (Some rest) = ap Some (with_stack s (given ++ rest) (given ++ map other rest) (stacked given plain_given rest))

    -- ---- what follows from the slot below

    abbrev rest_of : (Slot → Option (List Slot)) → TypeState → List Slot → Option TypeState
    rest_of given s [] = None
    rest_of given s (below ∷ stack) = option_map (λ slots. record s { stack = slots ++ stack }) (given below)

    pub below_with : (o : Outline) (wanted : List Slot) (given : Slot → Option (List Slot)) → ArePlain wanted → ((s : Slot) → given (other s) ≡ given s)
        → ((s : Slot) (slots : List Slot) → given s ≡ Some slots → ArePlain slots) → (s : TypeState)
        → worked_below o wanted given (to s) ≡ option_map to (worked_below o wanted given s)
    below_with o wanted given plain alike plain_given s =
        ap (option_and_then (rest_of given (to s))) (taken_with o wanted s.stack plain) ∙ by_rest (taken o wanted s.stack) where
          by_given : (below : Slot) (stack : List Slot) (o : Option (List Slot)) → given below ≡ o
              → option_map (λ slots. record (to s) { stack = slots ++ map other stack }) o ≡ option_map to (option_map (λ slots. record s { stack = slots ++ stack }) o)
          by_given below stack None is = refl
          by_given below stack (Some slots) is = ap Some (with_stack s (slots ++ stack) (slots ++ map other stack) (stacked slots (plain_given below slots is) stack))

          by_rest : (t : Option (List Slot)) → option_and_then (rest_of given (to s)) (option_map (map other) t) ≡ option_map to (option_and_then (rest_of given s) t)
          by_rest None = refl
          by_rest (Some []) = refl
          by_rest (Some (below ∷ stack)) =
              ap (option_map (λ slots. record (to s) { stack = slots ++ map other stack })) (alike below) ∙ by_given below stack (given below) refl

-- ---- what follows from what is named

module _ (to : TypeState → TypeState) where
  pub type_with : (o : Outline) (u : Use) (f h : TypeRef → Option TypeState) → ((t : TypeRef) → h t ≡ option_map to (f t))
      → on_type o u h ≡ option_map to (on_type o u f)
  type_with o (resolved.OfType t) f h same = followed to (slice_get o.types t.0) f h same
  type_with o (resolved.OfField field t) f h same = refl
  type_with o (resolved.OfMethod m t) f h same = refl
  type_with o (resolved.OfInt value) f h same = refl
  type_with o (resolved.OfLong value) f h same = refl
  type_with o (resolved.OfText text) f h same = refl
  type_with o resolved.Unused f h same = refl
