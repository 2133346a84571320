-- What a row leaves relates to the state after it, by any relation of slots and values that the frame before it has: kinds, cells, or births. One lemma for
-- each way in which rows change the locals and the stack.
use Rattle.std.proofs.Common.{◌≡◌, ℕ, ℤ, zero, suc, ◌+◌, Bool, true, false, cond, List, [], ◌∷◌, ◌++◌, length, drop, map, nat_lt, Option, Some, None, option_and_then, refl, sym, ◌∙◌, ap, subst, slice_get, slice_set, arith}
use Rattle.std.specs.List.{AllZip}
use Rattle.std.specs.Option.{option_map}
use Rattle.std.proofs.lemmas.Option.{same_Some}
use Rattle.fm_base.proofs.OptionFacts.{cond-some_else, cond-some_then, option_and_then-some, option_map-some}
use Rattle.fm_code.specs.declared.instructions.Insn.{Insn}
use Rattle.fm_code.specs.declared.operations.Reg.{Reg}
use Rattle.fm_code.specs.declared.operations.Reg.TheVariants as reg
use Rattle.fm_types.specs.Fits.{fits}
use Rattle.fm_types.specs.Moves.{moved, Moves, moves_of, words_at}
use Rattle.fm_types.specs.NumberRows.{increment_row, is_int, load_row, loaded, move_row, store_row, stored_from, suits}
use Rattle.fm_types.specs.States.{cut_before, is_long, is_reference, is_uninit, is_whole, local_at, pushed, replaced, stored, taken, TypeState, worked, worked_below}
use Rattle.fm_types.specs.declared.slots.Slot.{Slot}
use Rattle.fm_types.specs.declared.slots.Slot.TheVariants as slot
use Rattle.fm_types.proofs.Zips.{zip-append, zip-drop, zip-set}
use Rattle.fm_world.specs.Programs.{Outline}
use Rattle.fm_frames.specs.Acts.{Sources, sum_of, value_of}
use Rattle.fm_frames.specs.Effects.{Effect, OfOperand, words}
use Rattle.fm_frames.specs.NumberRows.{increment_effect, load_effect, store_effect}
use Rattle.fm_frames.specs.States.{word_at}
use Rattle.fm_frames.specs.Steps.{stack_after, written}
use Rattle.fm_frames.specs.declared.values.Value.{Value}
use Rattle.fm_frames.specs.declared.values.Value.TheVariants as value

-- the locals and the words relate to the slots of a state, one for each
pub record AreAs (Local Word : Slot → Value → Type 0) (s : TypeState) (locals stack : List Value) : Type 0 where
  pub in_locals : AllZip Local s.locals locals
  pub in_stack : AllZip Word s.stack stack

-- ---- lists of slots and values

module _ (P : Slot → Value → Type 0) where
  pub related_at : (xs : List Slot) (words : List Value) (n : ℕ) (s : Slot) → AllZip P xs words → slice_get xs n ≡ Some s → P s (word_at words n)
  related_at [] words n s h at = absurd (cc)
  related_at (x ∷ xs) [] n s h at = absurd h
  related_at (x ∷ xs) (v ∷ words) zero s h at = subst (λ t. P t v) (same_Some x s at) h.0
  related_at (x ∷ xs) (v ∷ words) (suc n) s h at = related_at xs words n s h.1 at

  -- where only a value changes
  pub value_written : (k : ℕ) (v : Value) (xs : List Slot) (words : List Value) → P (local_at xs k) v → AllZip P xs words → AllZip P xs (slice_set words k v)
  value_written k v [] [] new h = tt
  value_written k v [] (w ∷ words) new h = absurd h
  value_written k v (x ∷ xs) [] new h = absurd h
  value_written zero v (x ∷ xs) (w ∷ words) new h = (new, h.1)
  value_written (suc k) v (x ∷ xs) (w ∷ words) new h = (h.0, value_written k v xs words new h.1)

  -- where slots that a test picks out become another one
  replaced_if : (test : Bool) (s to : Slot) (v : Value) → (test ≡ true → P to v) → P s v → P (cond test to s) v
  replaced_if true s to v becomes h = becomes refl
  replaced_if false s to v becomes h = h

  pub slots_replaced : (test : Slot → Bool) (to : Slot) → ((s : Slot) (v : Value) → test s ≡ true → P s v → P to v) → (xs : List Slot) (words : List Value)
      → AllZip P xs words → AllZip P (replaced test to xs) words
  slots_replaced test to becomes [] [] h = tt
  slots_replaced test to becomes [] (v ∷ words) h = absurd h
  slots_replaced test to becomes (x ∷ xs) [] h = absurd h
  slots_replaced test to becomes (x ∷ xs) (v ∷ words) h =
      (replaced_if (test x) x to v (λ is. becomes x v is h.0) h.0, slots_replaced test to becomes xs words h.1)

  -- the word on top, and the long below a second half
  first_related : (s : Slot) (stack : List Slot) (words : List Value) → AllZip P (s ∷ stack) words → P s (word_at words 0) × AllZip P stack (drop 1 words)
  first_related s stack [] h = absurd h
  first_related s stack (v ∷ words) h = h

  second_related : (half s : Slot) (stack : List Slot) (words : List Value) → AllZip P (half ∷ s ∷ stack) words
      → P s (word_at words 1) × AllZip P stack (drop 2 words)
  second_related half s stack [] h = absurd h
  second_related half s stack (v ∷ []) h = absurd h.1
  second_related half s stack (v ∷ w ∷ words) h = h.1

  -- where only a slot becomes Top
  module _ (top : (v : Value) → P slot.Top v) where
    slot_lost : (k : ℕ) (xs : List Slot) (words : List Value) → AllZip P xs words → AllZip P (slice_set xs k slot.Top) words
    slot_lost k [] [] h = tt
    slot_lost k [] (w ∷ words) h = absurd h
    slot_lost k (x ∷ xs) [] h = absurd h
    slot_lost zero (x ∷ xs) (w ∷ words) h = (top w, h.1)
    slot_lost (suc k) (x ∷ xs) (w ∷ words) h = (h.0, slot_lost k xs words h.1)

    lost_if : (b : Bool) (k : ℕ) (xs : List Slot) (words : List Value) → AllZip P xs words → AllZip P (cond b (slice_set xs k slot.Top) xs) words
    lost_if true k xs words h = slot_lost k xs words h
    lost_if false k xs words h = h

    cut_related : (k : ℕ) (xs : List Slot) (words : List Value) → AllZip P xs words → AllZip P (cut_before k xs) words
    cut_related zero xs words h = h
    cut_related (suc k) xs words h = lost_if (is_long (local_at xs k)) k xs words h

    -- a value is put into a local, or a long into two
    one_stored : (k : ℕ) (found : Slot) (xs after : List Slot) (locals : List Value) (v : Value) → stored k (found ∷ []) xs ≡ Some after → P found v
        → AllZip P xs locals → AllZip P after (slice_set locals k v)
    one_stored k found xs after locals v is new h =
        let parts = cond-some_else (nat_lt (length xs) (k + 1)) (Some (slice_set (cut_before k xs) k found)) after is in
        subst (λ ys. AllZip P ys (slice_set locals k v)) (same_Some _ after parts.1)
        (zip-set P k found v (cut_before k xs) locals new (cut_related k xs locals h))

    two_stored : (k : ℕ) (found : Slot) (xs after : List Slot) (locals : List Value) (v : Value) → stored k (found ∷ slot.Top ∷ []) xs ≡ Some after → P found v
        → AllZip P xs locals → AllZip P after (slice_set (slice_set locals k v) (k + 1) value.Top)
    two_stored k found xs after locals v is new h =
        let parts = cond-some_else (nat_lt (length xs) (k + 2)) (Some (slice_set (slice_set (cut_before k xs) k found) (suc k) slot.Top)) after is in
        let next : suc k ≡ k + 1 = omega arith in
        subst (λ ys. AllZip P ys (slice_set (slice_set locals k v) (k + 1) value.Top)) (same_Some _ after parts.1)
        (subst (λ n. AllZip P (slice_set (slice_set (cut_before k xs) k found) (suc k) slot.Top) (slice_set (slice_set locals k v) n value.Top)) next
        (zip-set P (suc k) slot.Top value.Top (slice_set (cut_before k xs) k found) (slice_set locals k v) (top value.Top)
        (zip-set P k found v (cut_before k xs) locals new (cut_related k xs locals h))))

-- ---- what is left below the words that are taken

pub taken_drop : (o : Outline) (wanted stack rest : List Slot) → taken o wanted stack ≡ Some rest → drop (length wanted) stack ≡ rest
taken_drop o [] stack rest is = same_Some stack rest is
taken_drop o (w ∷ more) [] rest is = absurd (cc)
taken_drop o (w ∷ more) (s ∷ stack) rest is = taken_drop o more stack rest (cond-some_then (fits o s w) (taken o more stack) rest is).1

-- one more word is dropped
pub dropped : {X : Type 0} (n : ℕ) (xs : List X) → drop 1 (drop n xs) ≡ drop (n + 1) xs
dropped zero xs = refl
dropped (suc n) [] = let next : suc n + 1 ≡ suc (n + 1) = omega arith in ap (λ k. drop k []) (sym next)
dropped (suc n) (x ∷ xs) = let next : suc n + 1 ≡ suc (n + 1) = omega arith in dropped n xs ∙ ap (λ k. drop k (x ∷ xs)) (sym next)

-- the first of what is left
pub first_of : (n : ℕ) (xs : List Slot) (x : Slot) (rest : List Slot) → drop n xs ≡ x ∷ rest → slice_get xs n ≡ Some x
first_of zero [] x rest is = absurd (cc)
first_of zero (y ∷ xs) x rest is = cc
first_of (suc n) [] x rest is = absurd (cc)
first_of (suc n) (y ∷ xs) x rest is = first_of n xs x rest is

-- ---- the slot below those that are wanted

-- the slots on top are taken, and this one is below them
pub record Below (o : Outline) (s : TypeState) (wanted : List Slot) (given : Slot → Option (List Slot)) (after : TypeState) : Type 0 where
  pub below : Slot
  pub slots : List Slot
  pub rest : List Slot
  pub taken_is : taken o wanted s.stack ≡ Some (below ∷ rest)
  pub at : slice_get s.stack (length wanted) ≡ Some below
  pub given_is : given below ≡ Some slots
  pub after_is : record s { stack = slots ++ rest } ≡ after

module _ (o : Outline) (s : TypeState) where
  -- the state where what a slot gives is put in its place
  abbrev below_state : (Slot → Option (List Slot)) → List Slot → Option TypeState
  below_state given [] = None
  below_state given (below ∷ stack) = option_map (λ slots. record s { stack = slots ++ stack }) (given below)

  below_by : (wanted : List Slot) (given : Slot → Option (List Slot)) (found : List Slot) (after : TypeState) → taken o wanted s.stack ≡ Some found
      → below_state given found ≡ Some after → Below o s wanted given after
  below_by wanted given [] after is row = absurd (cc)
  below_by wanted given (x ∷ rest) after is row =
      let parts = option_map-some (λ slots. record s { stack = slots ++ rest }) (given x) after row in
      record {
        below = x;
        slots = parts.0;
        rest = rest;
        taken_is = is;
        at = first_of (length wanted) s.stack x rest (taken_drop o wanted s.stack (x ∷ rest) is);
        given_is = parts.1;
        after_is = parts.2;
      }

  pub below_found : (wanted : List Slot) (given : Slot → Option (List Slot)) (after : TypeState) → worked_below o wanted given s ≡ Some after
      → Below o s wanted given after
  below_found wanted given after row =
      let found = option_and_then-some (below_state given) (taken o wanted s.stack) after row in below_by wanted given found.0 after found.1 found.2

-- what is left below it
pub below_rest : (o : Outline) (s : TypeState) (wanted : List Slot) (given : Slot → Option (List Slot)) (after : TypeState) (b : Below o s wanted given after)
    → drop (length wanted + 1) s.stack ≡ b.rest
below_rest o s wanted given after b =
    sym (dropped (length wanted) s.stack) ∙ ap (λ xs. drop 1 xs) (taken_drop o wanted s.stack (b.below ∷ b.rest) b.taken_is)

-- ---- moves

-- the row of an instruction that moves words
pub moved_row : (s after : TypeState) (i : Insn) (m : Moves) → moves_of i ≡ Some m → move_row i s ≡ Some after
    → option_and_then (λ stack. cond (is_whole stack) (Some (record s { stack = stack })) None) (moved m s.stack) ≡ Some after
unfolding move_row
moved_row s after i m is row =
    ap (λ found. option_and_then (λ (other : Moves). option_and_then (λ stack. cond (is_whole stack) (Some (record s { stack = stack })) None) (moved other s.stack)) found)
    (sym is) ∙ row

-- ---- states that rows give

module _ (Local Word : Slot → Value → Type 0) (s after : TypeState) (from : Sources) (h : AreAs Local Word s from.locals from.stack) where
  abbrev pub Leaves : Effect → Type 0
  Leaves e = AreAs Local Word after (written from e.writes from.locals) (stack_after from e from.stack)

  abbrev pub Gives : List Slot → Effect → Type 0
  Gives given e = AllZip Word given (map (value_of from) e.gives)

  -- the locals stay, and the stack is this one
  pub stack_leaves : (given : List Slot) (e : Effect) → record s { stack = given } ≡ after → e.writes ≡ [] → AllZip Word given (stack_after from e from.stack)
      → Leaves e
  stack_leaves given e is writes are =
      subst (λ (t : TypeState). AreAs Local Word t (written from e.writes from.locals) (stack_after from e from.stack)) is
      (subst (λ w. AreAs Local Word (record s { stack = given }) (written from w from.locals) (stack_after from e from.stack)) (sym writes)
      (record { in_locals = h.in_locals; in_stack = are }))

  -- on top of what is left below the slots that are taken
  pub above_leaves : (given rest : List Slot) (n : ℕ) (e : Effect) → record s { stack = given ++ rest } ≡ after → drop n s.stack ≡ rest → e.takes ≡ n
      → e.writes ≡ [] → Gives given e → Leaves e
  above_leaves given rest n e is left takes writes gives =
      stack_leaves (given ++ rest) e is writes
      (zip-append Word given (map (value_of from) e.gives) rest (drop e.takes from.stack) gives
      (subst (λ k. AllZip Word rest (drop k from.stack)) (sym takes)
      (subst (λ xs. AllZip Word xs (drop n from.stack)) left (zip-drop Word n s.stack from.stack h.in_stack))))

  pub pushed_leaves : (given : List Slot) (e : Effect) → Some (record s { stack = given ++ s.stack }) ≡ Some after → e.takes ≡ 0 → e.writes ≡ []
      → Gives given e → Leaves e
  pushed_leaves given e row takes writes gives = above_leaves given s.stack 0 e (same_Some _ after row) refl takes writes gives

  pub same_leaves : (e : Effect) → s ≡ after → e.takes ≡ 0 → e.gives ≡ [] → e.writes ≡ [] → Leaves e
  same_leaves e is takes gives writes =
      above_leaves [] s.stack 0 e is refl takes writes (subst (λ xs. AllZip Word [] (map (value_of from) xs)) (sym gives) tt)

  -- other slots in place of those on top
  pub worked_leaves : (o : Outline) (wanted given : List Slot) (e : Effect) → worked o wanted given s ≡ Some after → e.takes ≡ length wanted → e.writes ≡ []
      → Gives given e → Leaves e
  worked_leaves o wanted given e row takes writes gives =
      let parts = option_map-some (λ stack. record s { stack = given ++ stack }) (taken o wanted s.stack) after row in
      above_leaves given parts.0 (length wanted) e parts.2 (taken_drop o wanted s.stack parts.0 parts.1) takes writes gives

  -- the same in place of the slot below them too
  pub below_leaves : (o : Outline) (wanted : List Slot) (given : Slot → Option (List Slot)) (e : Effect) (b : Below o s wanted given after)
      → e.takes ≡ length wanted + 1 → e.writes ≡ [] → Gives b.slots e → Leaves e
  below_leaves o wanted given e b takes writes gives =
      above_leaves b.slots b.rest (length wanted + 1) e b.after_is (below_rest o s wanted given after b) takes writes gives

  -- words of the stack by their places
  words_given : (places : List ℕ) (slots : List Slot) → words_at s.stack places ≡ Some slots → AllZip Word slots (map (value_of from) (map OfOperand places))
  words_given [] slots is = subst (λ xs. AllZip Word xs []) (same_Some [] slots is) tt
  words_given (place ∷ places) slots is =
      let one = option_and_then-some (λ word. option_map (λ words. word ∷ words) (words_at s.stack places)) (slice_get s.stack place) slots is in
      let more = option_map-some (λ words. one.0 ∷ words) (words_at s.stack places) slots one.2 in
      subst (λ xs. AllZip Word xs (map (value_of from) (map OfOperand (place ∷ places)))) more.2
      (related_at Word s.stack from.stack place one.0 h.in_stack one.1, words_given places more.0 more.1)

  pub moved_leaves : (m : Moves)
      → option_and_then (λ stack. cond (is_whole stack) (Some (record s { stack = stack })) None) (moved m s.stack) ≡ Some after
      → Leaves (words m.takes (map OfOperand m.gives))
  moved_leaves m row =
      let whole = option_and_then-some (λ stack. cond (is_whole stack) (Some (record s { stack = stack })) None) (moved m s.stack) after row in
      let is = cond-some_then (is_whole whole.0) (Some (record s { stack = whole.0 })) after whole.2 in
      let deep = cond-some_else (nat_lt (length s.stack) m.takes) (option_map (λ words. words ++ drop m.takes s.stack) (words_at s.stack m.gives)) whole.0 whole.1 in
      let given = option_map-some (λ words. words ++ drop m.takes s.stack) (words_at s.stack m.gives) whole.0 deep.1 in
      above_leaves given.0 (drop m.takes s.stack) m.takes (words m.takes (map OfOperand m.gives))
      (ap (λ stack. record s { stack = stack }) given.2 ∙ same_Some _ after is.1) refl refl refl (words_given m.gives given.0 given.1)

  -- an int is written where an int was
  pub increment_leaves : (k : ℕ) (by : ℤ) → increment_row k s ≡ Some after
      → (is_int (local_at s.locals k) ≡ true → Local (local_at s.locals k) (sum_of (word_at from.locals k) by)) → Leaves (increment_effect k by)
  unfolding increment_row
  increment_leaves k by row new =
      let parts = cond-some_then (is_int (local_at s.locals k)) (Some s) after row in
      let v : Value = sum_of (word_at from.locals k) by in
      subst (λ (t : TypeState). AreAs Local Word t (slice_set from.locals k v) from.stack) (same_Some s after parts.1)
      (record { in_locals = value_written Local k v s.locals from.locals (new parts.0) h.in_locals; in_stack = h.in_stack })

  -- an object that `new` makes: no local leads to an earlier one of the same item
  pub new_leaves : ((v : Value) → Local slot.Top v) → (item : ℕ) (b : Bool) (v : Value)
      → cond b (Some (record s { locals = replaced (is_uninit item) slot.Top s.locals; stack = slot.Uninit item ∷ s.stack })) None ≡ Some after
      → Word (slot.Uninit item) v → AreAs Local Word after from.locals (v ∷ from.stack)
  new_leaves top item b v row made =
      let parts = cond-some_then b (Some (record s { locals = replaced (is_uninit item) slot.Top s.locals; stack = slot.Uninit item ∷ s.stack })) after row in
      subst (λ (t : TypeState). AreAs Local Word t from.locals (v ∷ from.stack)) (same_Some _ after parts.1)
      (record {
        in_locals = slots_replaced Local (is_uninit item) slot.Top (λ x w is h. top w) s.locals from.locals h.in_locals;
        in_stack = (made, h.in_stack);
      })

  -- ---- loads and stores

  -- anything may be where the checker has Top, a word is a local's value, and a local's value that suits the instruction is a word
  module _ (top : (v : Value) → Local slot.Top v) (half : Word slot.Top value.Top) (put : (x : Slot) (v : Value) → Word x v → Local x v) (got : (r : Reg) (x : Slot) (v : Value) → suits r x ≡ true → Local x v → Word x v) where
    loaded_leaves : (r : Reg) (k : ℕ) (found : Slot) → slice_get s.locals k ≡ Some found
        → cond (suits r found) (Some (pushed (loaded r found) s)) None ≡ Some after → Leaves (load_effect r k)
    unfolding load_effect
    loaded_leaves reg.Int k found at is =
        let parts = cond-some_then (suits reg.Int found) (Some (pushed (loaded reg.Int found) s)) after is in
        pushed_leaves (found ∷ []) (load_effect reg.Int k) parts.1 refl refl
        (got reg.Int found (word_at from.locals k) parts.0 (related_at Local s.locals from.locals k found h.in_locals at), tt)
    loaded_leaves reg.Long k found at is =
        let parts = cond-some_then (suits reg.Long found) (Some (pushed (loaded reg.Long found) s)) after is in
        pushed_leaves (slot.Top ∷ found ∷ []) (load_effect reg.Long k) parts.1 refl refl
        (half, (got reg.Long found (word_at from.locals k) parts.0 (related_at Local s.locals from.locals k found h.in_locals at), tt))
    loaded_leaves reg.Ref k found at is =
        let parts = cond-some_then (suits reg.Ref found) (Some (pushed (loaded reg.Ref found) s)) after is in
        pushed_leaves (found ∷ []) (load_effect reg.Ref k) parts.1 refl refl
        (got reg.Ref found (word_at from.locals k) parts.0 (related_at Local s.locals from.locals k found h.in_locals at), tt)

    pub load_leaves : (r : Reg) (k : ℕ) → load_row r k s ≡ Some after → Leaves (load_effect r k)
    unfolding load_row
    load_leaves r k row =
        let found = option_and_then-some (λ found. cond (suits r found) (Some (pushed (loaded r found) s)) None) (slice_get s.locals k) after row in
        loaded_leaves r k found.0 found.1 found.2

    -- the state with a value in a local, and this stack
    stored_state : (k : ℕ) (slots stack : List Slot) → stored_from k slots stack s ≡ Some after
        → (locals : List Slot) × (stored k slots s.locals ≡ Some locals) × (record s { locals = locals; stack = stack } ≡ after)
    stored_state k slots stack row = option_map-some (λ locals. record s { locals = locals; stack = stack }) (stored k slots s.locals) after row

    one_leaves : (k : ℕ) (found : Slot) (stack : List Slot) → s.stack ≡ found ∷ stack → stored_from k (found ∷ []) stack s ≡ Some after
        → Leaves (store_effect reg.Int k)
    unfolding store_effect
    one_leaves k found stack is row =
        let parts = stored_state k (found ∷ []) stack row in
        let v : Value = word_at from.stack 0 in
        let first = first_related Word found stack from.stack (subst (λ xs. AllZip Word xs from.stack) is h.in_stack) in
        subst (λ (t : TypeState). AreAs Local Word t (slice_set from.locals k v) (drop 1 from.stack)) parts.2
        (record { in_locals = one_stored Local top k found s.locals parts.0 from.locals v parts.1 (put found v first.0) h.in_locals; in_stack = first.1 })

    two_leaves : (k : ℕ) (above found : Slot) (stack : List Slot) → s.stack ≡ above ∷ found ∷ stack → stored_from k (found ∷ slot.Top ∷ []) stack s ≡ Some after
        → Leaves (store_effect reg.Long k)
    unfolding store_effect
    two_leaves k above found stack is row =
        let parts = stored_state k (found ∷ slot.Top ∷ []) stack row in
        let v : Value = word_at from.stack 1 in
        let second = second_related Word above found stack from.stack (subst (λ xs. AllZip Word xs from.stack) is h.in_stack) in
        subst (λ (t : TypeState). AreAs Local Word t (slice_set (slice_set from.locals k v) (k + 1) value.Top) (drop 2 from.stack)) parts.2
        (record { in_locals = two_stored Local top k found s.locals parts.0 from.locals v parts.1 (put found v second.0) h.in_locals; in_stack = second.1 })

    -- the row of a store over a stack of its own
    abbrev stored_by : Reg → ℕ → List Slot → Option TypeState
    stored_by r k [] = None
    stored_by reg.Int k (found ∷ stack) = cond (is_int found) (stored_from k (found ∷ []) stack s) None
    stored_by reg.Ref k (found ∷ stack) = cond (is_reference found) (stored_from k (found ∷ []) stack s) None
    stored_by reg.Long k (above ∷ []) = None
    stored_by reg.Long k (above ∷ found ∷ stack) = cond (is_long found) (stored_from k (found ∷ slot.Top ∷ []) stack s) None

    store_by : (r : Reg) (k : ℕ) (stack : List Slot) → s.stack ≡ stack → stored_by r k stack ≡ Some after → Leaves (store_effect r k)
    unfolding store_effect
    store_by reg.Int k [] is row = absurd (cc)
    store_by reg.Ref k [] is row = absurd (cc)
    store_by reg.Long k [] is row = absurd (cc)
    store_by reg.Int k (found ∷ stack) is row = one_leaves k found stack is (cond-some_then (is_int found) (stored_from k (found ∷ []) stack s) after row).1
    store_by reg.Ref k (found ∷ stack) is row = one_leaves k found stack is (cond-some_then (is_reference found) (stored_from k (found ∷ []) stack s) after row).1
    store_by reg.Long k (above ∷ []) is row = absurd (cc)
    store_by reg.Long k (above ∷ found ∷ stack) is row =
        two_leaves k above found stack is (cond-some_then (is_long found) (stored_from k (found ∷ slot.Top ∷ []) stack s) after row).1

    pub store_leaves : (o : Outline) (r : Reg) (k : ℕ) → store_row o r k s ≡ Some after → Leaves (store_effect r k)
    unfolding store_row
    store_leaves o reg.Int k row = store_by reg.Int k s.stack refl row
    store_leaves o reg.Long k row = store_by reg.Long k s.stack refl row
    store_leaves o reg.Ref k row = store_by reg.Ref k s.stack refl row
