-- The object of a site is a node: a reference is on top of the stack at the next item.
use Rattle.std.proofs.Common.{◌≡◌, ℕ, zero, suc, ◌+◌, ◌-◌, ◌<◌, ◌≤◌, ◌&&◌, not, Bool, true, false, cond, List, [], ◌∷◌, ◌++◌, length, reverse, replicate, Option, Some, None, option_and_then, IsSomeAnd, refl, ap, sym, ◌∙◌, subst, ⊎_elim, slice_get, append_assoc, arith}
use Rattle.std.specs.Prelude.{is_some, nat_le, nat_lt, option_map, option_to_list}
use Rattle.std.specs.List.{list_any, AllZip}
use Rattle.std.proofs.lemmas.Bool.{cases_lt, false≢true}
use Rattle.std.proofs.lemmas.List.{length-append, length-reverse, reverse-append}
use Rattle.std.proofs.lemmas.List.Elements.{length_all_zip}
use Rattle.std.proofs.lemmas.Option.{none-some, option_and_then_some, same_Some}
use Rattle.fm_base.proofs.OptionFacts.{IsSomeAnd-from_some}
use Rattle.fm_base.proofs.TestFacts.{and_left, and_right}
use Rattle.fm_base.specs.declared.ids.MethodId.{MethodId}
use Rattle.fm_base.specs.declared.ids.TypeId.{TypeId}
use Rattle.fm_base.specs.declared.kinds.Base.{Base}
use Rattle.fm_base.specs.declared.kinds.Kind.{Kind}
use Rattle.fm_base.specs.declared.kinds.Kind.TheVariants as kind
use Rattle.fm_base.specs.declared.kinds.TypeRef.{TypeRef}
use Rattle.fm_code.proofs.EdgesLemmas.{insn_inside}
use Rattle.fm_code.specs.AccessFlags.{is_static}
use Rattle.fm_code.specs.Edges.{falls_through, insn_of, IsNormalEdge}
use Rattle.fm_code.specs.declared.code_array.Code.{Code}
use Rattle.fm_code.specs.declared.instructions.Insn.{Insn}
use Rattle.fm_code.specs.declared.instructions.Insn.TheVariants as insn
use Rattle.fm_conn.specs.Facts.{Facts}
use Rattle.fm_conn.specs.Nodes.{depth_at, IsNode, TypedMethod}
use Rattle.fm_conn.specs.Pairs.{call_of, call_with, use_at}
use Rattle.fm_conn.specs.Rows.{is_reference_kind, words_taken}
use Rattle.fm_conn.specs.Shapes.{method_with}
use Rattle.fm_conn.specs.Summaries.{same_number}
use Rattle.fm_types.proofs.RowOrder.{rows-keep_whole}
use Rattle.fm_types.proofs.StateOrder.{shape_of, Stands, under-parts}
use Rattle.fm_types.specs.ArrayRows.{multi_array_row, new_array_row, new_references_row}
use Rattle.fm_types.specs.CallRows.{constructed, constructor_called, initialised, instance_call_row, is_constructor, is_initializer, is_type, names_own_or_above, special_call_row, static_call_row}
use Rattle.fm_types.specs.Named.{argument_words, class_of_method, on_method, on_type, result_of, result_words, this_class}
use Rattle.fm_types.specs.Rows.{row_after}
use Rattle.fm_types.specs.States.{is_reference, is_uninit, is_whole, stack_slots, state_fits, taken, TypeState, worked}
use Rattle.fm_types.specs.Typed.{after_item, FitsAt, IsTypingOf, made_at, state_at, use_by}
use Rattle.fm_types.specs.declared.slots.Slot as slots
use Rattle.fm_types.specs.declared.slots.Slot.TheVariants as slot
use Rattle.fm_world.specs.Members.{method_at}
use Rattle.fm_world.specs.Numbers.{type_of_class}
use Rattle.fm_world.specs.Programs.{class_id, code_at, Outline, Program, targets}
use Rattle.fm_world.specs.Uses.{array_of, base_of_elem}
use Rattle.fm_world.specs.declared.calls.Call.{Call}
use Rattle.fm_world.specs.declared.calls.CallKind.{CallKind}
use Rattle.fm_world.specs.declared.calls.CallKind.TheVariants as call
use Rattle.fm_world.specs.declared.uses.Use.{Use}
use Rattle.fm_world.specs.declared.uses.Use.TheVariants as resolved
use Rattle.fm_frames.specs.CallRows.{words_of_arguments}
use Rattle.fm_law_sound.specs.Going.{ConstructorsGiveNothing}
use Rattle.fm_law_sound.specs.Resolved.{StepsAreResolved}
use Rattle.fm_law_sound.proofs.CallsLeft.{arguments_count}
use Rattle.fm_place.proofs.BusyLemmas.{depth_of, words_keep_busy}
use Rattle.fm_place.specs.Sites.{constructs, has_reference_result, is_doubled, Constructs, kind_of_site, makes_array, MakesArray, may_give_old, names_constructor, new_item, receives_new, ReceivesNew, site_kind, site_node}
use Rattle.fm_same.proofs.CallWords.{alike_other, slice_after, taken_off, tested, untested}
use Rattle.fm_same.proofs.EdgesKeep.{edge_to_next}
use Rattle.fm_same.specs.Laws.{SitesAreNodes, SitesMakeBusy}

-- ---- what is on top

abbrev heads : List slots.Slot → Bool
heads [] = false
heads (s ∷ stack) = is_reference s

heads-append : (given rest : List slots.Slot) → heads given ≡ true → heads (given ++ rest) ≡ true
heads-append [] rest is = absurd (false≢true is)
heads-append (s ∷ given) rest is = is

worked-heads : (o : Outline) (wanted given : List slots.Slot) (s after : TypeState) → heads given ≡ true → worked o wanted given s ≡ Some after
    → heads after.stack ≡ true
worked-heads o wanted given s after is = by_rest (taken o wanted s.stack) where
  by_rest : (found : Option (List slots.Slot)) → option_map (λ (stack : List slots.Slot). record s { stack = given ++ stack }) found ≡ Some after
      → heads after.stack ≡ true
  by_rest None there = absurd (none-some after there)
  by_rest (Some rest) there =
      ap (λ (t : TypeState). heads t.stack) (sym (same_Some (record s { stack = given ++ rest }) after there)) ∙ heads-append given rest is

on_type-heads : (o : Outline) (u : Use) (follows : TypeRef → Option TypeState) (after : TypeState)
    → ((t : TypeRef) → follows t ≡ Some after → heads after.stack ≡ true) → on_type o u follows ≡ Some after → heads after.stack ≡ true
on_type-heads o (resolved.OfType t) follows after each there = option_and_then_some follows (slice_get o.types t.0) after there (λ found is. each found)
on_type-heads o u follows after each there = absurd (none-some after there)

-- ---- arrays

array-heads : (o : Outline) (method item : ℕ) (news : ℕ → Option TypeRef) (u : Use) (i : Insn) (s after : TypeState) → makes_array i ≡ true
    → row_after o method item news u i s ≡ Some after → heads after.stack ≡ true
unfolding row_after new_array_row new_references_row multi_array_row
array-heads o method item news u (insn.NewArray e) s after is there =
    option_and_then_some (λ (b : Base). worked o (slot.Int ∷ []) (slot.Ref (record { dims = 1; base = b }) ∷ []) s) (base_of_elem e) after there
    (λ b found. worked-heads o (slot.Int ∷ []) (slot.Ref (record { dims = 1; base = b }) ∷ []) s after refl)
array-heads o method item news u (insn.NewRefs index) s after is there =
    on_type-heads o u (λ t. option_and_then (λ (array : TypeRef). worked o (slot.Int ∷ []) (slot.Ref array ∷ []) s) (array_of t)) after
    (λ t gives. option_and_then_some (λ (array : TypeRef). worked o (slot.Int ∷ []) (slot.Ref array ∷ []) s) (array_of t) after gives
    (λ array found. worked-heads o (slot.Int ∷ []) (slot.Ref array ∷ []) s after refl)) there
array-heads o method item news u (insn.MultiArray index dimensions) s after is there =
    on_type-heads o u
    (λ t. cond (nat_lt 0 dimensions && nat_le dimensions t.dims) (worked o (replicate dimensions slot.Int) (slot.Ref t ∷ []) s) None) after
    (λ t gives. worked-heads o (replicate dimensions slot.Int) (slot.Ref t ∷ []) s after refl
    (tested (nat_lt 0 dimensions && nat_le dimensions t.dims) (worked o (replicate dimensions slot.Int) (slot.Ref t ∷ []) s) after gives)) there
array-heads o method item news u i s after is there = absurd (false≢true is)

-- ---- calls that give a reference

abbrev pub refers : Option Kind → Bool
refers None = false
refers (Some k) = is_reference_kind k

kind-heads : (k : Kind) → is_reference_kind k ≡ true → heads (stack_slots (k ∷ [])) ≡ true
kind-heads (kind.Ref t) is = refl
kind-heads k is = absurd (false≢true is)

result-heads : (o : Outline) (m : ℕ) → has_reference_result o m ≡ true → heads (result_words o m) ≡ true
result-heads o m is = by_result (result_of o m) is where
  by_result : (r : Option Kind) → refers r ≡ true → heads (stack_slots (option_to_list r)) ≡ true
  by_result None is = absurd (false≢true is)
  by_result (Some k) is = kind-heads k is

result-some : (o : Outline) (m : ℕ) → result_of o m ≡ None → has_reference_result o m ≡ false
result-some o m none = ap refers none

-- a call's row, where it receives a new object
method-heads : (facts : Facts) (x : TypedMethod) (k : CallKind) (after : TypeState) (u : Use) (follows : ℕ → TypeRef → Option TypeState)
    → ((m : ℕ) (named : TypeRef) → has_reference_result x.program.outline m ≡ true → follows m named ≡ Some after → heads after.stack ≡ true)
    → receives_new facts x (call_with x k u) ≡ true → on_method x.program.outline u follows ≡ Some after → heads after.stack ≡ true
method-heads facts x k after (resolved.OfMethod m t) follows each is there = by_type (slice_get x.program.outline.types t.0) is there where
  made : TypeRef → Call
  made named = record { kind = k; named = named; method = m; caller = class_id (class_of_method x.program.outline x.number) }

  by_type : (found : Option TypeRef) → receives_new facts x (option_map made found) ≡ true → option_and_then (follows m.0) found ≡ Some after
      → heads after.stack ≡ true
  by_type None is there = absurd (false≢true is)
  by_type (Some named) is there =
      let some = nat_lt 0 (length (targets x.program (made named))) in
      each m.0 named
      (and_left (has_reference_result x.program.outline m.0) some
      (and_left (has_reference_result x.program.outline m.0 && some)
      (not (list_any (may_give_old x.program.outline facts) (targets x.program (made named)))) is)) there
method-heads facts x k after u follows each is there = absurd (none-some after there)

-- ---- calls of constructors

-- the word under which this many lie
pub word_above : (xs ys : List slots.Slot) (v : slots.Slot) → slice_get (reverse (xs ++ v ∷ ys)) (length ys) ≡ Some v
word_above xs ys v =
    let size : length ys ≡ length (reverse ys) + 0 = omega (arith, length-reverse ys) in
    ap (λ list. slice_get list (length ys)) (reverse-append xs (v ∷ ys) ∙ ap (λ list. list ++ reverse xs) (reverse-append (v ∷ []) ys)
    ∙ append_assoc (reverse ys) (v ∷ []) (reverse xs))
    ∙ ap (slice_get (reverse ys ++ v ∷ reverse xs)) size ∙ slice_after (reverse ys) (v ∷ reverse xs) 0

-- the object and the copy of it under it are of one `new`
built-heads : (o : Outline) (method : ℕ) (news : ℕ → Option TypeRef) (named : TypeRef) (receiver below : slots.Slot) (rest : List slots.Slot) (s after : TypeState)
    → same_number (new_item receiver) (new_item below) ≡ true → constructed o method news named receiver (record s { stack = below ∷ rest }) ≡ Some after
    → heads after.stack ≡ true
built-heads o method news named (slot.Uninit item) (slot.Uninit other) rest s after same there =
    let left = tested (is_type named (news item)) (Some (initialised (is_uninit item) named (record s { stack = slot.Uninit other ∷ rest }))) after there in
    ap (λ (t : TypeState). heads t.stack) (sym (same_Some (initialised (is_uninit item) named (record s { stack = slot.Uninit other ∷ rest })) after left))
    ∙ either (is_uninit item (slot.Uninit other)) where
      either : (b : Bool) → is_reference (cond b (slot.Ref named) (slot.Uninit other)) ≡ true
      either true = refl
      either false = refl
built-heads o method news named (slot.Uninit item) below rest s after same there = absurd (false≢true same)
built-heads o method news named receiver below rest s after same there = absurd (false≢true same)

-- the words of a stack with its top first, by how many lie below
abbrev pub doubled_in : List slots.Slot → ℕ → Bool
doubled_in stack zero = false
doubled_in stack (suc below) =
    same_number (option_and_then new_item (slice_get (reverse stack) (suc below))) (option_and_then new_item (slice_get (reverse stack) below))

constructor-heads : (o : Outline) (method : ℕ) (news : ℕ → Option TypeRef) (m : ℕ) (named : TypeRef) (s after : TypeState)
    → doubled_in s.stack (length s.stack - (1 + words_of_arguments o m)) ≡ true → constructor_called o method news m named s ≡ Some after
    → heads after.stack ≡ true
constructor-heads o method news m named s after doubled there = by_rest (taken o (argument_words o m) s.stack) refl there where
  of_rest : List slots.Slot → Option TypeState
  of_rest [] = None
  of_rest (receiver ∷ stack) = constructed o method news named receiver (record s { stack = stack })

  below : (rest : List slots.Slot) → taken o (argument_words o m) s.stack ≡ Some rest → of_rest rest ≡ Some after → heads after.stack ≡ true
  below [] found further = absurd (none-some after further)
  below (receiver ∷ []) found further =
      let off = taken_off o (argument_words o m) s.stack (receiver ∷ []) found in
      let words : length off.words ≡ words_of_arguments o m = length_all_zip _ off.words (argument_words o m) off.fitting ∙ arguments_count o m in
      let all : length s.stack ≡ length off.words + 1 = ap length off.is ∙ length-append off.words (receiver ∷ []) in
      let none : length s.stack - (1 + words_of_arguments o m) ≡ 0 = omega (arith, words, all) in
      absurd (false≢true (sym (ap (doubled_in s.stack) none) ∙ doubled))
  below (receiver ∷ under ∷ rest) found further =
      let off = taken_off o (argument_words o m) s.stack (receiver ∷ under ∷ rest) found in
      let words : length off.words ≡ words_of_arguments o m = length_all_zip _ off.words (argument_words o m) off.fitting ∙ arguments_count o m in
      let all : length s.stack ≡ length off.words + suc (suc (length rest)) = ap length off.is ∙ length-append off.words (receiver ∷ under ∷ rest) in
      let depth : length s.stack - (1 + words_of_arguments o m) ≡ suc (length rest) = omega (arith, words, all) in
      let first : slice_get (reverse s.stack) (suc (length rest)) ≡ Some receiver =
      ap (λ list. slice_get (reverse list) (suc (length rest))) off.is ∙ word_above off.words (under ∷ rest) receiver in
      let second : slice_get (reverse s.stack) (length rest) ≡ Some under =
      ap (λ list. slice_get (reverse list) (length rest)) (off.is ∙ sym (append_assoc off.words (receiver ∷ []) (under ∷ rest)))
      ∙ word_above (off.words ++ receiver ∷ []) rest under in
      built-heads o method news named receiver under rest s after
      (sym (λ k. same_number (option_and_then new_item (first k)) (option_and_then new_item (second k)))
      ∙ sym (ap (doubled_in s.stack) depth) ∙ doubled) further

  by_rest : (found : Option (List slots.Slot)) → taken o (argument_words o m) s.stack ≡ found → option_and_then of_rest found ≡ Some after
      → heads after.stack ≡ true
  by_rest None found further = absurd (none-some after further)
  by_rest (Some rest) found further = below rest found further

pub chosen : (b : Bool) (x y : Option TypeState) (after : TypeState) → b ≡ true → cond b x y ≡ Some after → x ≡ Some after
chosen true x y after is there = there
chosen false x y after is there = absurd (false≢true is)

pub doubled-stack : (x : TypedMethod) (j : ℕ) (s : TypeState) → state_at x.states j ≡ Some s → (depth : ℕ) → is_doubled x j depth ≡ doubled_in s.stack depth
doubled-stack x j s at zero = refl
doubled-stack x j s at (suc below) =
    λ k. same_number (option_and_then new_item (option_and_then (λ (t : TypeState). slice_get (reverse t.stack) (suc below)) (at k)))
    (option_and_then new_item (option_and_then (λ (t : TypeState). slice_get (reverse t.stack) below) (at k)))

special-heads : (x : TypedMethod) (j index : ℕ) (news : ℕ → Option TypeRef) (s after : TypeState) → state_at x.states j ≡ Some s
    → ((m : MethodId) (t : TypeId) → use_at x (insn.Special index) ≡ resolved.OfMethod m t
    → is_static (method_at x.program.outline.classes m.0).method.flags ≡ false)
    → constructs x j (insn.Special index) ≡ true → special_call_row x.program.outline x.number news (use_at x (insn.Special index)) s ≡ Some after
    → heads after.stack ≡ true
unfolding special_call_row words_taken
special-heads x j index news s after at no_static made there = by_use (use_at x (insn.Special index)) refl made there where
  o : Outline
  o = x.program.outline

  depth : depth_at x j ≡ length s.stack
  depth = ap depth_of at

  by_use : (u : Use) → use_at x (insn.Special index) ≡ u
      → (names_constructor o u && is_doubled x j (depth_at x j - words_taken o u (insn.Special index))) ≡ true
      → special_call_row o x.number news u s ≡ Some after → heads after.stack ≡ true
  by_use (resolved.OfMethod m t) used both row =
      let constructor : is_constructor o m.0 ≡ true =
      and_left (is_constructor o m.0) (is_doubled x j (depth_at x j - words_taken o (resolved.OfMethod m t) (insn.Special index))) both in
      let doubled = and_right (is_constructor o m.0) (is_doubled x j (depth_at x j - words_taken o (resolved.OfMethod m t) (insn.Special index))) both in
      let words : words_taken o (resolved.OfMethod m t) (insn.Special index) ≡ 1 + words_of_arguments o m.0 =
      ap (λ b. cond b 0 1 + words_of_arguments o m.0) (no_static m t used) in
      let under : doubled_in s.stack (length s.stack - (1 + words_of_arguments o m.0)) ≡ true =
      sym (λ k. doubled_in s.stack (depth k - words k))
      ∙ sym (doubled-stack x j s at (depth_at x j - words_taken o (resolved.OfMethod m t) (insn.Special index))) ∙ doubled in
      option_and_then_some _ (slice_get o.types t.0) after row
      (λ named found gives. constructor-heads o x.number news m.0 named s after under
      (chosen (is_constructor o m.0) (constructor_called o x.number news m.0 named s) _ after constructor gives))
  by_use (resolved.OfType t) used both row = absurd (false≢true both)
  by_use (resolved.OfField f t) used both row = absurd (false≢true both)
  by_use (resolved.OfInt value) used both row = absurd (false≢true both)
  by_use (resolved.OfLong value) used both row = absurd (false≢true both)
  by_use (resolved.OfText text) used both row = absurd (false≢true both)
  by_use resolved.Unused used both row = absurd (false≢true both)

-- ---- calls that receive a new object

module _ (facts : Facts) (x : TypedMethod) (item : ℕ) (news : ℕ → Option TypeRef) (s after : TypeState)
    (constructors : ConstructorsGiveNothing x.program.outline) where
  instance-heads : (k : CallKind) (u : Use) → receives_new facts x (call_with x k u) ≡ true → instance_call_row x.program.outline u s ≡ Some after
      → heads after.stack ≡ true
  unfolding instance_call_row
  instance-heads k u is there =
      method-heads facts x k after u
      (λ m named. cond (is_initializer x.program.outline m) None
      (worked x.program.outline (argument_words x.program.outline m ++ slot.Ref named ∷ []) (result_words x.program.outline m) s))
      (λ m named has gives. worked-heads x.program.outline (argument_words x.program.outline m ++ slot.Ref named ∷ []) (result_words x.program.outline m) s after
      (result-heads x.program.outline m has) (untested (is_initializer x.program.outline m) _ after gives)) is there

  static-heads : (u : Use) → receives_new facts x (call_with x call.Static u) ≡ true → static_call_row x.program.outline u s ≡ Some after
      → heads after.stack ≡ true
  unfolding static_call_row
  static-heads u is there =
      method-heads facts x call.Static after u
      (λ m named. cond (is_initializer x.program.outline m) None
      (worked x.program.outline (argument_words x.program.outline m) (result_words x.program.outline m) s))
      (λ m named has gives. worked-heads x.program.outline (argument_words x.program.outline m) (result_words x.program.outline m) s after
      (result-heads x.program.outline m has) (untested (is_initializer x.program.outline m) _ after gives)) is there

  other_special : (m : ℕ) (named : TypeRef) → has_reference_result x.program.outline m ≡ true → (b : Bool) → is_constructor x.program.outline m ≡ b
      → cond b (constructor_called x.program.outline x.number news m named s) (cond (is_initializer x.program.outline m) None
      (cond (names_own_or_above x.program.outline (this_class x.program.outline x.number) named)
      (worked x.program.outline (argument_words x.program.outline m ++ slot.Ref (type_of_class (this_class x.program.outline x.number)) ∷ [])
      (result_words x.program.outline m) s) None)) ≡ Some after
      → heads after.stack ≡ true
  other_special m named has true constructor gives =
      absurd (false≢true (sym (result-some x.program.outline m (constructors m constructor)) ∙ has))
  other_special m named has false constructor gives =
      worked-heads x.program.outline (argument_words x.program.outline m ++ slot.Ref (type_of_class (this_class x.program.outline x.number)) ∷ [])
      (result_words x.program.outline m) s after (result-heads x.program.outline m has)
      (tested (names_own_or_above x.program.outline (this_class x.program.outline x.number) named) _ after
      (untested (is_initializer x.program.outline m) _ after gives))

  factory-heads : (u : Use) → receives_new facts x (call_with x call.Special u) ≡ true → special_call_row x.program.outline x.number news u s ≡ Some after
      → heads after.stack ≡ true
  unfolding special_call_row
  factory-heads u is there =
      method-heads facts x call.Special after u
      (λ m named. cond (is_constructor x.program.outline m) (constructor_called x.program.outline x.number news m named s)
      (cond (is_initializer x.program.outline m) None
      (cond (names_own_or_above x.program.outline (this_class x.program.outline x.number) named)
      (worked x.program.outline (argument_words x.program.outline m ++ slot.Ref (type_of_class (this_class x.program.outline x.number)) ∷ [])
      (result_words x.program.outline m) s) None)))
      (λ m named has gives. other_special m named has (is_constructor x.program.outline m) refl gives) is there

  received-heads : (i : Insn) → receives_new facts x (call_of x i) ≡ true → row_after x.program.outline x.number item news (use_at x i) i s ≡ Some after
      → heads after.stack ≡ true
  unfolding row_after
  received-heads (insn.Virtual index) is there = instance-heads call.Virtual (use_at x (insn.Virtual index)) is there
  received-heads (insn.Interface index) is there = instance-heads call.Interface (use_at x (insn.Interface index)) is there
  received-heads (insn.Special index) is there = factory-heads (use_at x (insn.Special index)) is there
  received-heads (insn.Static index) is there = static-heads (use_at x (insn.Static index)) is there
  received-heads i is there = absurd (false≢true is)

-- ---- sites

-- control goes on to the next item
pub sites-fall : (facts : Facts) (x : TypedMethod) (j : ℕ) (i : Insn) → is_some (kind_of_site facts x j i) ≡ true → falls_through i ≡ true
sites-fall facts x j (insn.Goto target) is = absurd (false≢true is)
sites-fall facts x j (insn.Table low others targets) is = absurd (false≢true is)
sites-fall facts x j (insn.Lookup others keys targets) is = absurd (false≢true is)
sites-fall facts x j (insn.Return value) is = absurd (false≢true is)
sites-fall facts x j insn.Throw is = absurd (false≢true is)
sites-fall facts x j i is = refl

-- what is under a state with a reference on top
under-heads : (o : Outline) (xs ys : List slots.Slot) → AllZip (Stands o) xs ys → heads xs ≡ true → heads ys ≡ true
under-heads o [] ys level is = absurd (false≢true is)
under-heads o (x ∷ xs) [] level is = absurd level
under-heads o (x ∷ xs) (y ∷ ys) level is = sym (alike_other o x y level.0.fitting (sym level.0.shape ∙ reference-shape x is)) ∙ is where
  reference-shape : (s : slots.Slot) → is_reference s ≡ true → shape_of s ≡ 2
  reference-shape slot.Top is = absurd (false≢true is)
  reference-shape slot.Int is = absurd (false≢true is)
  reference-shape slot.Long is = absurd (false≢true is)
  reference-shape s is = refl

top_word : (stack : List slots.Slot) → heads stack ≡ true → IsSomeAnd (slice_get (reverse stack) (length stack - 1)) (λ s. is_reference s ≡ true)
top_word [] is = absurd (false≢true is)
top_word (s ∷ stack) is =
    let size : length (s ∷ stack) - 1 ≡ length stack = omega arith in
    IsSomeAnd-from_some (slice_get (reverse (s ∷ stack)) (length (s ∷ stack) - 1)) (λ v. is_reference v ≡ true) s
    (ap (slice_get (reverse (s ∷ stack))) size ∙ word_above [] stack s) is

module _ (p : Program) (facts : Facts) (method : ℕ) (code : Code) (states : List (Option TypeState)) (steps : StepsAreResolved p)
    (coded : code_at p method ≡ Some code) (typed : IsTypingOf p method code states) (j : ℕ) where
  abbrev x : TypedMethod
  x = method_with p method code states

  row-heads : (s after : TypeState) (i : Insn) → state_at states j ≡ Some s → insn_of code j ≡ Some i → is_some (kind_of_site facts x j i) ≡ true
      → row_after p.outline method j (made_at p method code) (use_by p method i) i s ≡ Some after → heads after.stack ≡ true
  unfolding row_after
  row-heads s after i at is kind row =
      by_tests (makes_array i) refl (constructs x j i) refl (receives_new facts x (call_of x i)) refl kind where
        special : (i : Insn) → insn_of code j ≡ Some i → constructs x j i ≡ true
            → row_after p.outline method j (made_at p method code) (use_by p method i) i s ≡ Some after → heads after.stack ≡ true
        special (insn.Special index) is made row =
            special-heads x j index (made_at p method code) s after at
            (λ m t used. steps.calls.calls method (insn.Special index) m t false
            (record { code = code; code_is = coded; item = j; insn_is = is; use_is = used }) refl) made row
        special i is made row = absurd (false≢true made)

        by_tests : (a : Bool) → makes_array i ≡ a → (b : Bool) → constructs x j i ≡ b → (c : Bool) → receives_new facts x (call_of x i) ≡ c
            → is_some (cond a (Some MakesArray) (cond b (Some Constructs) (cond c (Some ReceivesNew) None))) ≡ true → heads after.stack ≡ true
        by_tests true makes b made c receives kind = array-heads p.outline method j (made_at p method code) (use_by p method i) i s after makes row
        by_tests false makes true made c receives kind = special i is made row
        by_tests false makes false made true receives kind =
            received-heads facts x j (made_at p method code) s after steps.calls.constructors i receives row
        by_tests false makes false made false receives kind = absurd (false≢true kind)

  goes-on : (s : TypeState) (i : Insn) → state_at states j ≡ Some s → insn_of code j ≡ Some i → falls_through i ≡ true → IsNormalEdge code j (j + 1)
  goes-on s i at is falls =
      edge_to_next code j i is falls
      (⊎_elim (λ (inside : j + 1 < length code.items). inside)
      (λ (past : length code.items ≤ j + 1).
      let here = insn_inside code j i is in
      absurd (typed.stays_inside (record {
        item = j;
        reachable = (typed.reachable j).0 (ap is_some at);
        last = omega arith;
        falls = IsSomeAnd-from_some (insn_of code j) (λ (v : Insn). falls_through v ≡ true) i is falls;
      })))
      (cases_lt (j + 1) (length code.items)))

  next-node : (after : TypeState) → is_whole after.stack ≡ true → heads after.stack ≡ true → FitsAt p states (j + 1) after → IsNode x (site_node x j)
  next-node after whole top fits = by_next (state_at states (j + 1)) refl fits where
    by_next : (g : Option TypeState) → state_at states (j + 1) ≡ g → IsSomeAnd g (λ t. state_fits p.outline after t ≡ true) → IsNode x (site_node x j)
    by_next None at is = absurd is
    by_next (Some t) at is =
        let under = under-parts p.outline after t is whole (typed.items (j + 1) t at).whole in
        subst (λ (g : Option TypeState). IsSomeAnd (option_and_then (λ (v : TypeState). slice_get (reverse v.stack) (depth_of g - 1)) g)
        (λ v. is_reference v ≡ true)) (sym at) (top_word t.stack (under-heads p.outline after.stack t.stack under.stack.level top))

  reached-node : (s : TypeState) (i : Insn) → state_at states j ≡ Some s → insn_of code j ≡ Some i → is_some (kind_of_site facts x j i) ≡ true
      → IsNode x (site_node x j)
  reached-node s i at is kind = by_after (after_item p method code j s) refl (typed.items j s at).row where
    by_after : (f : Option TypeState) → after_item p method code j s ≡ f
        → IsSomeAnd f (λ after. (next : ℕ) → IsNormalEdge code j next → FitsAt p states next after) → IsNode x (site_node x j)
    by_after None found gives = absurd gives
    by_after (Some after) found gives =
        let row : row_after p.outline method j (made_at p method code) (use_by p method i) i s ≡ Some after =
        sym (ap (option_and_then (λ (v : Insn). row_after p.outline method j (made_at p method code) (use_by p method v) v s)) is) ∙ found in
        next-node after
        (rows-keep_whole p.outline steps.tree method j (made_at p method code) (use_by p method i) i s after (typed.items j s at).whole row)
        (row-heads s after i at is kind row) (gives (j + 1) (goes-on s i at is (sites-fall facts x j i kind)))

  site-node : is_some (site_kind facts x j) ≡ true → IsNode x (site_node x j)
  site-node site = by_state (state_at states j) refl site where
    by_insn : (s : TypeState) → state_at states j ≡ Some s → (f : Option Insn) → insn_of code j ≡ f
        → is_some (option_and_then (kind_of_site facts x j) f) ≡ true → IsNode x (site_node x j)
    by_insn s at None is kind = absurd (false≢true kind)
    by_insn s at (Some i) is kind = reached-node s i at is kind

    by_state : (g : Option TypeState) → state_at states j ≡ g
        → is_some (cond (is_some g) (option_and_then (kind_of_site facts x j) (insn_of code j)) None) ≡ true → IsNode x (site_node x j)
    by_state None at kind = absurd (false≢true kind)
    by_state (Some s) at kind = by_insn s at (insn_of code j) refl kind

pub sites_are_nodes : SitesAreNodes
sites_are_nodes p facts method code states steps coded typed j site = site-node p facts method code states steps coded typed j site

pub sites_make_busy : SitesMakeBusy
sites_make_busy p facts method code states steps coded typed j site =
    words_keep_busy facts (method_with p method code states) (j + 1) (depth_at (method_with p method code states) (j + 1) - 1)
    (site-node p facts method code states steps coded typed j site)
