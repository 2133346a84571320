-- What the checker knows behind a site: beside the result, only what it knew before, and of what isn't initialised no object that the site initialises.
use Rattle.std.proofs.Common.{◌≡◌, ◌≢◌, ℕ, zero, suc, ◌+◌, ◌-◌, ◌<◌, ◌==◌, ◌&&◌, not, Bool, true, false, cond, List, [], ◌∷◌, ◌++◌, length, drop, reverse, replicate, Option, Some, None, option_and_then, refl, sym, ◌∙◌, ap, subst, slice_get, eqb-true, arith, length-append}
use Rattle.std.specs.Prelude.{nat_le, nat_lt, option_map, option_to_list}
use Rattle.std.specs.List.{AllByRecursion, AllZip, list_any}
use Rattle.std.proofs.lemmas.Bool.{eqb-false, false≢true}
use Rattle.std.proofs.lemmas.List.{length-replicate}
use Rattle.std.proofs.lemmas.Option.{none-some, same_Some, slice_get-get_or, slice_get_within}
use Rattle.fm_base.proofs.OptionFacts.{option_and_then-some, option_map-some}
use Rattle.fm_base.proofs.TestFacts.{and_left, and_right}
use Rattle.fm_base.specs.declared.ids.MethodId.{MethodId}
use Rattle.fm_base.specs.declared.ids.TypeId.{TypeId}
use Rattle.fm_base.specs.declared.kinds.Kind.{Kind}
use Rattle.fm_base.specs.declared.kinds.Kind.TheVariants as kind
use Rattle.fm_base.specs.declared.kinds.TypeRef.{TypeRef}
use Rattle.fm_code.specs.AccessFlags.{is_static}
use Rattle.fm_code.specs.declared.instructions.Insn.{Insn}
use Rattle.fm_code.specs.declared.instructions.Insn.TheVariants as insn
use Rattle.fm_conn.specs.Facts.{Facts}
use Rattle.fm_conn.specs.Nodes.{depth_at, TypedMethod}
use Rattle.fm_conn.specs.Pairs.{call_of, call_with, use_at}
use Rattle.fm_conn.specs.Rows.{is_reference_kind, words_taken}
use Rattle.fm_conn.specs.Summaries.{same_number}
use Rattle.fm_types.proofs.Zips.{zip-refl}
use Rattle.fm_types.specs.ArrayRows.{multi_array_row, new_array_row, new_references_row}
use Rattle.fm_types.specs.CallRows.{constructed, constructor_called, initialised, instance_call_row, is_constructor, is_initializer, is_type, names_own_or_above, special_call_row, static_call_row}
use Rattle.fm_types.specs.Named.{argument_words, class_of_method, on_method, on_type, result_of, result_words, this_class}
use Rattle.fm_types.specs.Rows.{row_after}
use Rattle.fm_types.specs.States.{is_uninit, replaced, stack_slots, taken, TypeState, worked}
use Rattle.fm_types.specs.Typed.{state_at}
use Rattle.fm_types.specs.declared.slots.Slot.{Slot}
use Rattle.fm_types.specs.declared.slots.Slot.TheVariants as slot
use Rattle.fm_world.specs.Causes.{static_method_wanted}
use Rattle.fm_world.specs.Members.{method_at}
use Rattle.fm_world.specs.Numbers.{type_of_class}
use Rattle.fm_world.specs.Programs.{class_id, Outline, targets}
use Rattle.fm_world.specs.Uses.{array_of, base_of_elem}
use Rattle.fm_world.specs.declared.calls.Call.{Call}
use Rattle.fm_world.specs.declared.calls.CallKind.{CallKind}
use Rattle.fm_world.specs.declared.calls.CallKind.TheVariants as call
use Rattle.fm_world.specs.declared.uses.Use.{Use}
use Rattle.fm_world.specs.declared.uses.Use.TheVariants as resolved
use Rattle.fm_frames.specs.CallRows.{words_of_arguments}
use Rattle.fm_law_sound.specs.Going.{ConstructorsGiveNothing}
use Rattle.fm_law_sound.proofs.CallsLeft.{arguments_count}
use Rattle.fm_law_sound.proofs.FramesLeft.{dropped, taken_drop}
use Rattle.fm_place.proofs.BusyLemmas.{depth_of}
use Rattle.fm_place.specs.Sites.{constructs, has_reference_result, is_doubled, makes_array, may_give_old, names_constructor, new_item, receives_new}
use Rattle.fm_same.proofs.CallWords.{tested, untested}
use Rattle.fm_same.proofs.GoesOnKeep.{drop_found}
use Rattle.fm_same.proofs.ItemFacts.{slot_from_below}

-- ---- slots that stay

-- where there is the object of a `new` behind the site, there was before, and the item of the `new` is one of these
abbrev pub Stays : (ℕ → Type 0) → Slot → Slot → Type 0
Stays IsOne a b = (item : ℕ) → b ≡ slot.Uninit item → (a ≡ slot.Uninit item) × IsOne item

-- of a call and an array each item is one
abbrev pub Any : ℕ → Type 0
Any item = Unit {0}

-- of a constructor those that aren't its object's
abbrev pub Others : ℕ → ℕ → Type 0
Others item other = other ≢ item

-- the words that a site gives, on top of those that it leaves
pub record Leaves (s after : TypeState) (count : ℕ) (IsOne : ℕ → Type 0) : Type 0 where
  pub given : List Slot
  pub rest : List Slot
  pub stack_is : after.stack ≡ given ++ rest
  pub initialised : AllByRecursion (λ a. (item : ℕ) → a ≢ slot.Uninit item) given
  pub locals : AllZip (Stays IsOne) s.locals after.locals
  pub words : AllZip (Stays IsOne) (drop count s.stack) rest

-- one word is given
pub record LeavesOne (s after : TypeState) (count : ℕ) : Type 0 where
  pub leaves : Leaves s after count Any
  pub one : length leaves.given ≡ 1

-- an object is initialised that is on top of what is left
pub record LeavesBuilt (s after : TypeState) (count : ℕ) : Type 0 where
  pub item : ℕ
  pub leaves : Leaves s after count (Others item)
  pub none : leaves.given ≡ []
  pub top : slice_get s.stack count ≡ Some (slot.Uninit item)

same_stays : (xs : List Slot) → AllZip (Stays Any) xs xs
same_stays xs = zip-refl (Stays Any) (λ a item is. (is, tt)) xs

-- a reference in place of the words that are taken
worked_leaves : (o : Outline) (wanted : List Slot) (t : TypeRef) (s after : TypeState) → worked o wanted (slot.Ref t ∷ []) s ≡ Some after
    → LeavesOne s after (length wanted)
worked_leaves o wanted t s after row =
    let parts = option_map-some (λ stack. record s { stack = slot.Ref t ∷ stack }) (taken o wanted s.stack) after row in
    subst (λ g. LeavesOne s g (length wanted)) parts.2 (record {
      leaves = record {
        given = slot.Ref t ∷ [];
        rest = parts.0;
        stack_is = refl;
        initialised = ((λ item is. absurd (cc)), tt);
        locals = same_stays s.locals;
        words = subst (λ xs. AllZip (Stays Any) xs parts.0) (sym (taken_drop o wanted s.stack parts.0 parts.1)) (same_stays parts.0);
      };
      one = refl;
    })

counted : (s after : TypeState) (n m : ℕ) → n ≡ m → LeavesOne s after n → LeavesOne s after m
counted s after n m is h = subst (LeavesOne s after) is h

-- ---- arrays

typed_leaves : (o : Outline) (u : Use) (follows : TypeRef → Option TypeState) (s after : TypeState) (count : ℕ)
    → ((t : TypeRef) → follows t ≡ Some after → LeavesOne s after count) → on_type o u follows ≡ Some after → LeavesOne s after count
typed_leaves o (resolved.OfType t) follows s after count each row =
    let parts = option_and_then-some follows (slice_get o.types t.0) after row in each parts.0 parts.2
typed_leaves o u follows s after count each row = absurd (none-some after row)

pub array_leaves : (o : Outline) (method item : ℕ) (news : ℕ → Option TypeRef) (u : Use) (i : Insn) (s after : TypeState) → makes_array i ≡ true
    → row_after o method item news u i s ≡ Some after → LeavesOne s after (words_taken o u i)
unfolding row_after new_array_row new_references_row multi_array_row words_taken
array_leaves o method item news u (insn.NewArray e) s after is row =
    let parts = option_and_then-some (λ b. worked o (slot.Int ∷ []) (slot.Ref (record { dims = 1; base = b }) ∷ []) s) (base_of_elem e) after row in
    worked_leaves o (slot.Int ∷ []) (record { dims = 1; base = parts.0 }) s after parts.2
array_leaves o method item news u (insn.NewRefs index) s after is row =
    typed_leaves o u _ s after 1
    (λ t gives.
    let parts = option_and_then-some (λ (array : TypeRef). worked o (slot.Int ∷ []) (slot.Ref array ∷ []) s) (array_of t) after gives in
    worked_leaves o (slot.Int ∷ []) parts.0 s after parts.2) row
array_leaves o method item news u (insn.MultiArray index dimensions) s after is row =
    typed_leaves o u _ s after dimensions
    (λ t gives. counted s after (length (replicate dimensions slot.Int)) dimensions (length-replicate dimensions slot.Int)
    (worked_leaves o (replicate dimensions slot.Int) t s after
    (tested (nat_lt 0 dimensions && nat_le dimensions t.dims) (worked o (replicate dimensions slot.Int) (slot.Ref t ∷ []) s) after gives))) row
array_leaves o method item news u i s after is row = absurd (false≢true is)

-- ---- calls

-- the method and the type that a row finds
pub record Found (o : Outline) (u : Use) (follows : ℕ → TypeRef → Option TypeState) (after : TypeState) : Type 0 where
  pub m : MethodId
  pub t : TypeId
  pub use_is : u ≡ resolved.OfMethod m t
  pub named : TypeRef
  pub there : slice_get o.types t.0 ≡ Some named
  pub row : follows m.0 named ≡ Some after

found_by : (o : Outline) (u : Use) (follows : ℕ → TypeRef → Option TypeState) (after : TypeState) → on_method o u follows ≡ Some after
    → Found o u follows after
found_by o (resolved.OfMethod m t) follows after row =
    let parts = option_and_then-some (follows m.0) (slice_get o.types t.0) after row in
    record { m = m; t = t; use_is = refl; named = parts.0; there = parts.1; row = parts.2 }
found_by o u follows after row = absurd (none-some after row)

-- the call that it makes
abbrev made : TypedMethod → CallKind → MethodId → TypeRef → Call
made x k m named = record { kind = k; named = named; method = m; caller = class_id (class_of_method x.program.outline x.number) }

call_is : (x : TypedMethod) (k : CallKind) (u : Use) (m : MethodId) (t : TypeId) (named : TypeRef) → u ≡ resolved.OfMethod m t
    → slice_get x.program.outline.types t.0 ≡ Some named → call_with x k u ≡ Some (made x k m named)
call_is x k u m t named use_is there = ap (call_with x k) use_is ∙ ap (option_map (made x k m)) there

-- a call that receives a new object gives a reference
received_reference : (facts : Facts) (x : TypedMethod) (c : Call) → receives_new facts x (Some c) ≡ true
    → has_reference_result x.program.outline c.method.0 ≡ true
received_reference facts x c is =
    let some = nat_lt 0 (length (targets x.program c)) in
    let none_old = not (list_any (may_give_old x.program.outline facts) (targets x.program c)) in
    and_left (has_reference_result x.program.outline c.method.0) some (and_left (has_reference_result x.program.outline c.method.0 && some) none_old is)

-- a result that is a reference is one word
pub reference_slots : (r : Option Kind) → (elim r as (λ _. Bool) [ None ↦ false | Some k ↦ is_reference_kind k ]) ≡ true
    → (t : TypeRef) × (stack_slots (option_to_list r) ≡ slot.Ref t ∷ [])
reference_slots None is = absurd (false≢true is)
reference_slots (Some k) is = by_kind k is where
  by_kind : (k : Kind) → is_reference_kind k ≡ true → (t : TypeRef) × (stack_slots (k ∷ []) ≡ slot.Ref t ∷ [])
  by_kind (kind.Ref t) is = (t, refl)
  by_kind k is = absurd (false≢true is)

-- a call's row, where the result is a reference
result_leaves : (o : Outline) (m : ℕ) (wanted : List Slot) (s after : TypeState) → has_reference_result o m ≡ true
    → worked o wanted (result_words o m) s ≡ Some after → LeavesOne s after (length wanted)
result_leaves o m wanted s after has row =
    let result = reference_slots (result_of o m) has in worked_leaves o wanted result.0 s after (ap (λ g. worked o wanted g s) (sym result.1) ∙ row)

abbrev with_receiver : Outline → ℕ → TypeRef → List Slot
with_receiver o m t = argument_words o m ++ slot.Ref t ∷ []

receiver_length : (o : Outline) (m : ℕ) (t : TypeRef) → length (with_receiver o m t) ≡ 1 + words_of_arguments o m
receiver_length o m t =
    let all = length-append (argument_words o m) (slot.Ref t ∷ []) in
    let arguments = arguments_count o m in
    omega (arith, all, arguments)

module _ (facts : Facts) (x : TypedMethod) (item : ℕ) (news : ℕ → Option TypeRef) (s after : TypeState) (constructors : ConstructorsGiveNothing x.program.outline) where
  abbrev o : Outline
  o = x.program.outline

  -- what the instruction names is static where that is wanted
  abbrev IsFlagged : Insn → Type 0
  IsFlagged i =
      (m : MethodId) (t : TypeId) (static : Bool) → use_at x i ≡ resolved.OfMethod m t → static_method_wanted i ≡ Some static
      → is_static (method_at x.program.outline.classes m.0).method.flags ≡ static

  instance_words : (i : Insn) (m : MethodId) (t : TypeId) (named : TypeRef) → IsFlagged i → use_at x i ≡ resolved.OfMethod m t
      → static_method_wanted i ≡ Some false → words_taken o (resolved.OfMethod m t) i ≡ 1 + words_of_arguments o m.0
      → length (with_receiver o m.0 named) ≡ words_taken o (use_at x i) i
  instance_words i m t named flagged used wanted words = receiver_length o m.0 named ∙ sym words ∙ ap (λ u. words_taken o u i) (sym used)

  instance_leaves : (i : Insn) (k : CallKind) → IsFlagged i → static_method_wanted i ≡ Some false
      → ((m : MethodId) (t : TypeId) → is_static (method_at o.classes m.0).method.flags ≡ false
      → words_taken o (resolved.OfMethod m t) i ≡ 1 + words_of_arguments o m.0)
      → receives_new facts x (call_with x k (use_at x i)) ≡ true → instance_call_row o (use_at x i) s ≡ Some after
      → LeavesOne s after (words_taken o (use_at x i) i)
  unfolding instance_call_row
  instance_leaves i k flagged wanted words is row =
      let f = found_by o (use_at x i) (λ m named. cond (is_initializer o m) None (worked o (with_receiver o m named) (result_words o m) s)) after row in
      let has = received_reference facts x (made x k f.m f.named)
      (ap (receives_new facts x) (sym (call_is x k (use_at x i) f.m f.t f.named f.use_is f.there)) ∙ is) in
      counted s after (length (with_receiver o f.m.0 f.named)) (words_taken o (use_at x i) i)
      (instance_words i f.m f.t f.named flagged f.use_is wanted (words f.m f.t (flagged f.m f.t false f.use_is wanted)))
      (result_leaves o f.m.0 (with_receiver o f.m.0 f.named) s after has (untested (is_initializer o f.m.0) _ after f.row))

  static_leaves : (index : ℕ) → IsFlagged (insn.Static index) → receives_new facts x (call_with x call.Static (use_at x (insn.Static index))) ≡ true
      → static_call_row o (use_at x (insn.Static index)) s ≡ Some after
      → LeavesOne s after (words_taken o (use_at x (insn.Static index)) (insn.Static index))
  unfolding static_call_row words_taken
  static_leaves index flagged is row =
      let i : Insn = insn.Static index in
      let f = found_by o (use_at x i) (λ m named. cond (is_initializer o m) None (worked o (argument_words o m) (result_words o m) s)) after row in
      let has = received_reference facts x (made x call.Static f.m f.named)
      (ap (receives_new facts x) (sym (call_is x call.Static (use_at x i) f.m f.t f.named f.use_is f.there)) ∙ is) in
      let words : words_taken o (resolved.OfMethod f.m f.t) i ≡ 0 + words_of_arguments o f.m.0 =
      ap (λ b. cond b 0 1 + words_of_arguments o f.m.0) (flagged f.m f.t true f.use_is refl) in
      let none : 0 + words_of_arguments o f.m.0 ≡ words_of_arguments o f.m.0 = omega arith in
      counted s after (length (argument_words o f.m.0)) (words_taken o (use_at x i) i)
      (arguments_count o f.m.0 ∙ sym none ∙ sym words ∙ ap (λ u. words_taken o u i) (sym f.use_is))
      (result_leaves o f.m.0 (argument_words o f.m.0) s after has (untested (is_initializer o f.m.0) _ after f.row))

  abbrev own : TypeRef
  own = type_of_class (this_class o x.number)

  -- the row of a special call
  abbrev special_row : ℕ → TypeRef → Option TypeState
  special_row m named =
      cond (is_constructor o m) (constructor_called o x.number news m named s)
      (cond (is_initializer o m) None
      (cond (names_own_or_above o (this_class o x.number) named) (worked o (with_receiver o m own) (result_words o m) s) None))

  no_constructor : (m : ℕ) → has_reference_result o m ≡ true → (b : Bool) → is_constructor o m ≡ b → b ≡ false
  no_constructor m has false is = refl
  no_constructor m has true is =
      let none : result_words o m ≡ [] = ap (λ r. stack_slots (option_to_list r)) (constructors m is) in
      let some = (reference_slots (result_of o m) has).1 in
      absurd (cc (none, some))

  otherwise : (b : Bool) (one other : Option TypeState) → b ≡ false → cond b one other ≡ Some after → other ≡ Some after
  otherwise true one other is row = absurd (false≢true (sym is))
  otherwise false one other is row = row

  special_leaves : (index : ℕ) → IsFlagged (insn.Special index)
      → receives_new facts x (call_with x call.Special (use_at x (insn.Special index))) ≡ true
      → special_call_row o x.number news (use_at x (insn.Special index)) s ≡ Some after
      → LeavesOne s after (words_taken o (use_at x (insn.Special index)) (insn.Special index))
  unfolding special_call_row words_taken
  special_leaves index flagged is row =
      let i : Insn = insn.Special index in
      let f = found_by o (use_at x i) special_row after row in
      let has = received_reference facts x (made x call.Special f.m f.named)
      (ap (receives_new facts x) (sym (call_is x call.Special (use_at x i) f.m f.t f.named f.use_is f.there)) ∙ is) in
      let left = otherwise (is_constructor o f.m.0) _ _ (no_constructor f.m.0 has (is_constructor o f.m.0) refl) f.row in
      counted s after (length (with_receiver o f.m.0 own)) (words_taken o (use_at x i) i)
      (instance_words i f.m f.t own flagged f.use_is refl
      (ap (λ b. cond b 0 1 + words_of_arguments o f.m.0) (flagged f.m f.t false f.use_is refl)))
      (result_leaves o f.m.0 (with_receiver o f.m.0 own) s after has
      (tested (names_own_or_above o (this_class o x.number) f.named) _ after (untested (is_initializer o f.m.0) _ after left)))

  pub received_leaves : (i : Insn) → IsFlagged i → receives_new facts x (call_of x i) ≡ true
      → row_after o x.number item news (use_at x i) i s ≡ Some after → LeavesOne s after (words_taken o (use_at x i) i)
  unfolding row_after words_taken
  received_leaves (insn.Virtual index) flagged is row =
      instance_leaves (insn.Virtual index) call.Virtual flagged refl (λ m t flags. ap (λ b. cond b 0 1 + words_of_arguments o m.0) flags) is row
  received_leaves (insn.Interface index) flagged is row =
      instance_leaves (insn.Interface index) call.Interface flagged refl (λ m t flags. ap (λ b. cond b 0 1 + words_of_arguments o m.0) flags) is row
  received_leaves (insn.Special index) flagged is row = special_leaves index flagged is row
  received_leaves (insn.Static index) flagged is row = static_leaves index flagged is row
  received_leaves i flagged is row = absurd (false≢true is)

-- ---- calls of constructors

-- what isn't initialised behind the call was so before, and is of another `new`
built_stays : (item : ℕ) (named : TypeRef) (a : Slot) → Stays (Others item) a (cond (is_uninit item a) (slot.Ref named) a)
built_stays item named (slot.Uninit k) other is = by_test (item == k) refl is where
  by_test : (b : Bool) → (item == k) ≡ b → cond b (slot.Ref named) (slot.Uninit k) ≡ slot.Uninit other
      → (slot.Uninit k ≡ slot.Uninit other) × (other ≢ item)
  by_test true same is = absurd (cc)
  by_test false apart is = (is, λ same. eqb-false item k apart (let here : k ≡ other = cc in sym same ∙ sym here))
built_stays item named slot.Top other is = absurd (cc)
built_stays item named slot.Int other is = absurd (cc)
built_stays item named slot.Long other is = absurd (cc)
built_stays item named slot.Null other is = absurd (cc)
built_stays item named (slot.Ref t) other is = absurd (cc)
built_stays item named slot.UninitThis other is = absurd (cc)

all_built : (item : ℕ) (named : TypeRef) (xs : List Slot) → AllZip (Stays (Others item)) xs (replaced (is_uninit item) (slot.Ref named) xs)
all_built item named [] = tt
all_built item named (a ∷ xs) = (built_stays item named a, all_built item named xs)

-- the numbers are there, and the same
same_items : (a b : Slot) → same_number (new_item a) (new_item b) ≡ true → (item : ℕ) × (a ≡ slot.Uninit item) × (b ≡ slot.Uninit item)
same_items (slot.Uninit m) (slot.Uninit n) is = (m, refl, ap slot.Uninit (sym (eqb-true m n is)))
same_items (slot.Uninit m) b is = absurd (false≢true is)
same_items a b is = absurd (false≢true is)

abbrev word_in : Option TypeState → ℕ → Option ℕ
word_in found depth = option_and_then new_item (option_and_then (λ (t : TypeState). slice_get (reverse t.stack) depth) found)

module _ (x : TypedMethod) (j : ℕ) (s : TypeState) (at : state_at x.states j ≡ Some s) where
  -- the item of a word, counted from the top
  item_of_word : (n : ℕ) (a : Slot) → slice_get s.stack n ≡ Some a → word_in (state_at x.states j) (length s.stack - 1 - n) ≡ new_item a
  item_of_word n a is =
      ap (λ g. word_in g (length s.stack - 1 - n)) at
      ∙ ap (option_and_then new_item) (slot_from_below s.stack n (slice_get_within s.stack n a is) ∙ is)

  -- a word that is doubled has the word below it of the same `new`
  doubled_items : (n depth : ℕ) (a : Slot) → slice_get s.stack n ≡ Some a → depth ≡ length s.stack - 1 - n → is_doubled x j depth ≡ true
      → (item : ℕ) × (a ≡ slot.Uninit item) × (slice_get s.stack (n + 1) ≡ Some (slot.Uninit item))
  doubled_items n zero a is level doubled = absurd (false≢true doubled)
  doubled_items n (suc below) a is level doubled = by_word (slice_get s.stack (n + 1)) refl where
    inside : n + 1 < length s.stack
    inside = omega (arith, level)

    by_word : (w : Option Slot) → slice_get s.stack (n + 1) ≡ w
        → (item : ℕ) × (a ≡ slot.Uninit item) × (slice_get s.stack (n + 1) ≡ Some (slot.Uninit item))
    by_word None none = absurd (none-some _ (sym none ∙ slice_get-get_or s.stack (n + 1) slot.Top inside))
    by_word (Some b) there =
        let next : below ≡ length s.stack - 1 - (n + 1) = omega (arith, level) in
        let first : word_in (state_at x.states j) (suc below) ≡ new_item a =
        ap (word_in (state_at x.states j)) level ∙ item_of_word n a is in
        let second : word_in (state_at x.states j) below ≡ new_item b =
        ap (word_in (state_at x.states j)) next ∙ item_of_word (n + 1) b there in
        let same = same_items a b (sym (λ k. same_number (first k) (second k)) ∙ doubled) in
        (same.0, same.1, there ∙ ap Some same.2)

  -- ---- a constructor's call

  module _ (method : ℕ) (news : ℕ → Option TypeRef) where
    abbrev oo : Outline
    oo = x.program.outline

    -- what is left below the arguments
    abbrev of_rest : TypeRef → List Slot → Option TypeState
    of_rest named [] = None
    of_rest named (receiver ∷ stack) = constructed oo method news named receiver (record s { stack = stack })

    with_stack : (m : ℕ) (named : TypeRef) (after : TypeState) (rest : List Slot) → is_doubled x j (length s.stack - (1 + words_of_arguments oo m)) ≡ true
        → taken oo (argument_words oo m) s.stack ≡ Some rest → of_rest named rest ≡ Some after → LeavesBuilt s after (1 + words_of_arguments oo m)
    with_stack m named after [] doubled found row = absurd (none-some after row)
    with_stack m named after (receiver ∷ rest) doubled found row =
        let k : ℕ = words_of_arguments oo m in
        let left : drop k s.stack ≡ receiver ∷ rest =
        ap (λ n. drop n s.stack) (sym (arguments_count oo m)) ∙ taken_drop oo (argument_words oo m) s.stack (receiver ∷ rest) found in
        let here : slice_get s.stack (k + 0) ≡ Some receiver =
        drop_found k s.stack 0 receiver (ap (λ xs. slice_get xs 0) left) in
        let level : length s.stack - (1 + k) ≡ length s.stack - 1 - (k + 0) = omega arith in
        let d = doubled_items (k + 0) (length s.stack - (1 + k)) receiver here level doubled in
        let below : drop (1 + k) s.stack ≡ rest =
        (let more : 1 + k ≡ k + 1 = omega arith in ap (λ n. drop n s.stack) more) ∙ sym (dropped k s.stack) ∙ ap (drop 1) left in
        let tested_row = tested (is_type named (news d.0)) (Some (initialised (is_uninit d.0) named (record s { stack = rest }))) after
        (ap (λ r. constructed oo method news named r (record s { stack = rest })) (sym d.1) ∙ row) in
        let place : k + 0 + 1 ≡ 1 + k = omega arith in
        subst (λ g. LeavesBuilt s g (1 + k)) (same_Some _ after tested_row) (record {
          item = d.0;
          leaves = record {
            given = [];
            rest = replaced (is_uninit d.0) (slot.Ref named) rest;
            stack_is = refl;
            initialised = tt;
            locals = all_built d.0 named s.locals;
            words = subst (λ xs. AllZip (Stays (Others d.0)) xs (replaced (is_uninit d.0) (slot.Ref named) rest)) (sym below) (all_built d.0 named rest);
          };
          none = refl;
          top = ap (slice_get s.stack) (sym place) ∙ d.2;
        })

    called_leaves : (m : ℕ) (named : TypeRef) (after : TypeState) → is_doubled x j (length s.stack - (1 + words_of_arguments oo m)) ≡ true
        → constructor_called oo method news m named s ≡ Some after → LeavesBuilt s after (1 + words_of_arguments oo m)
    called_leaves m named after doubled row =
        let parts = option_and_then-some (of_rest named) (taken oo (argument_words oo m) s.stack) after row in
        with_stack m named after parts.0 doubled parts.1 parts.2

-- a constructor of a new object that the caller keeps
pub constructor_leaves : (x : TypedMethod) (j : ℕ) (news : ℕ → Option TypeRef) (s after : TypeState) (i : Insn)
    → ((m : MethodId) (t : TypeId) (static : Bool) → use_at x i ≡ resolved.OfMethod m t → static_method_wanted i ≡ Some static
    → is_static (method_at x.program.outline.classes m.0).method.flags ≡ static)
    → state_at x.states j ≡ Some s → constructs x j i ≡ true → row_after x.program.outline x.number j news (use_at x i) i s ≡ Some after
    → LeavesBuilt s after (words_taken x.program.outline (use_at x i) i)
unfolding row_after special_call_row words_taken
constructor_leaves x j news s after (insn.Special index) flagged at both row =
    let o : Outline = x.program.outline in
    let i : Insn = insn.Special index in
    let u : Use = use_at x i in
    let otherwise_row : ℕ → TypeRef → Option TypeState = λ m named. cond (is_initializer o m) None
    (cond (names_own_or_above o (this_class o x.number) named)
    (worked o (with_receiver o m (type_of_class (this_class o x.number))) (result_words o m) s) None) in
    let f = found_by o u (λ m named. cond (is_constructor o m) (constructor_called o x.number news m named s) (otherwise_row m named)) after row in
    let names : names_constructor o u ≡ true = and_left (names_constructor o u) (is_doubled x j (depth_at x j - words_taken o u i)) both in
    let doubled : is_doubled x j (depth_at x j - words_taken o u i) ≡ true =
    and_right (names_constructor o u) (is_doubled x j (depth_at x j - words_taken o u i)) both in
    let constructor : is_constructor o f.m.0 ≡ true = ap (names_constructor o) (sym f.use_is) ∙ names in
    let words : words_taken o u i ≡ 1 + words_of_arguments o f.m.0 =
    ap (λ v. words_taken o v i) f.use_is ∙ ap (λ b. cond b 0 1 + words_of_arguments o f.m.0) (flagged f.m f.t false f.use_is refl) in
    let deep : depth_at x j ≡ length s.stack = ap depth_of at in
    let under : is_doubled x j (length s.stack - (1 + words_of_arguments o f.m.0)) ≡ true =
    sym (λ k. is_doubled x j (deep k - words k)) ∙ doubled in
    subst (LeavesBuilt s after) (sym words)
    (called_leaves x j s at x.number news f.m.0 f.named after under
    (sym (ap (λ b. cond b (constructor_called o x.number news f.m.0 f.named s) (otherwise_row f.m.0 f.named)) constructor) ∙ f.row))
constructor_leaves x j news s after i flagged at both row = absurd (false≢true both)
