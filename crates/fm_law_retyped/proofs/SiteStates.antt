-- After a site its object is on top, by a type; and where no local holds a copy of the object whose
-- constructor is called nothing but the stack has changed.
use Rattle.std.proofs.Common.{◌≡◌, refl, ap, sym, subst, ◌∙◌, ℕ, suc, ◌+◌, ◌-◌, ◌==◌, ◌&&◌, Bool, true, false, not, cond, List, [], ◌∷◌, ◌++◌, length, length-append, drop, reverse, replicate, Option, Some, None, is_some, option_and_then, option_map, slice_get, append_assoc, arith}
use Rattle.std.specs.Prelude.{nat_le, nat_lt, option_to_list}
use Rattle.std.specs.List.{list_any}
use Rattle.std.proofs.lemmas.Bool.{false≢true}
use Rattle.std.proofs.lemmas.List.{length-map}
use Rattle.std.proofs.lemmas.List.Elements.{length_all_zip}
use Rattle.std.proofs.lemmas.Option.{none-some, option_and_then_some, same_Some}
use Rattle.fm_base.proofs.OptionFacts.{cond-some_else, cond-some_then}
use Rattle.fm_base.proofs.TestFacts.{and_left, and_right}
use Rattle.fm_base.specs.declared.ids.MethodId.{MethodId}
use Rattle.fm_base.specs.declared.ids.TypeId.{TypeId}
use Rattle.fm_base.specs.declared.kinds.Base.{Base}
use Rattle.fm_base.specs.declared.kinds.Kind.{Kind}
use Rattle.fm_base.specs.declared.kinds.Kind.TheVariants as kind
use Rattle.fm_base.specs.declared.kinds.TypeRef.{TypeRef}
use Rattle.fm_code.specs.AccessFlags.{is_static}
use Rattle.fm_code.specs.declared.instructions.Insn.{Insn}
use Rattle.fm_code.specs.declared.instructions.Insn.TheVariants as insn
use Rattle.fm_conn.specs.Facts.{Facts}
use Rattle.fm_conn.specs.Nodes.{depth_at, TypedMethod}
use Rattle.fm_conn.specs.Pairs.{call_of, call_with, depth_below, use_at}
use Rattle.fm_conn.specs.Rows.{is_reference_kind, words_taken}
use Rattle.fm_conn.specs.Summaries.{same_number}
use Rattle.fm_frames.specs.CallRows.{words_of_arguments}
use Rattle.fm_place.proofs.BusyLemmas.{depth_of}
use Rattle.fm_place.specs.Sites.{constructs, Constructs, has_reference_result, is_doubled, kind_of_site, makes_array, MakesArray, may_give_old, names_constructor, new_item, new_item_at, receives_new, ReceivesNew, SiteKind}
use Rattle.fm_law_retyped.proofs.Trimmed.{trimmed}
use Rattle.fm_law_retyped.specs.Retyped.{AreNoCopies}
use Rattle.fm_same.proofs.CallWords.{taken_off}
use Rattle.fm_same.proofs.SiteNodes.{chosen, doubled-stack, doubled_in, refers, word_above}
use Rattle.fm_law_sound.specs.Going.{ConstructorsGiveNothing}
use Rattle.fm_law_sound.proofs.CallsLeft.{arguments_count}
use Rattle.fm_types.specs.ArrayRows.{multi_array_row, new_array_row, new_references_row}
use Rattle.fm_types.specs.CallRows.{constructed, constructor_called, initialised, instance_call_row, is_constructor, is_initializer, is_type, names_own_or_above, special_call_row, static_call_row}
use Rattle.fm_types.specs.Named.{argument_words, class_of_method, on_method, on_type, result_of, result_words, this_class}
use Rattle.fm_types.specs.Rows.{row_after}
use Rattle.fm_types.specs.States.{is_uninit, replaced, stack_slots, taken, TypeState, worked}
use Rattle.fm_types.specs.Typed.{state_at}
use Rattle.fm_types.specs.declared.slots.Slot.{Slot}
use Rattle.fm_types.specs.declared.slots.Slot.TheVariants as slot
use Rattle.fm_world.specs.Members.{method_at}
use Rattle.fm_world.specs.Numbers.{type_of_class}
use Rattle.fm_world.specs.Programs.{class_id, Outline, targets}
use Rattle.fm_world.specs.Uses.{array_of, base_of_elem}
use Rattle.fm_world.specs.declared.calls.Call.{Call}
use Rattle.fm_world.specs.declared.calls.CallKind.{CallKind}
use Rattle.fm_world.specs.declared.calls.CallKind.TheVariants as call
use Rattle.fm_world.specs.declared.uses.Use.{Use}
use Rattle.fm_world.specs.declared.uses.Use.TheVariants as resolved

-- a reference is on top, and nothing but the stack has changed
pub record GivesObject (s after : TypeState) : Type 0 where
  pub type : TypeRef
  pub rest : List Slot
  pub top : after.stack ≡ slot.Ref type ∷ rest
  pub locals : after.locals ≡ s.locals
  pub built : after.built ≡ s.built

-- a reference is on top; the locals are as many, the last one is no first half if it was none, and all are as they were if this holds
pub record LeavesObject (Same : Type 0) (s after : TypeState) : Type 0 where
  pub type : TypeRef
  pub rest : List Slot
  pub top : after.stack ≡ slot.Ref type ∷ rest
  pub count : length after.locals ≡ length s.locals
  pub short : trimmed s.locals ≡ s.locals → trimmed after.locals ≡ after.locals
  pub locals : Same → after.locals ≡ s.locals
  pub built : after.built ≡ s.built

leaves-given : (Same : Type 0) (s after : TypeState) → GivesObject s after → LeavesObject Same s after
leaves-given Same s after g = record {
  type = g.type;
  rest = g.rest;
  top = g.top;
  count = ap length g.locals;
  short = λ short. ap trimmed g.locals ∙ short ∙ sym g.locals;
  locals = λ same. g.locals;
  built = g.built;
}

pub leaves-if : (Same Other : Type 0) (s after : TypeState) → (Other → Same) → LeavesObject Same s after → LeavesObject Other s after
leaves-if Same Other s after same g =
    record { type = g.type; rest = g.rest; top = g.top; count = g.count; short = g.short; locals = λ other. g.locals (same other); built = g.built }

worked-gives : (o : Outline) (wanted : List Slot) (t : TypeRef) (s after : TypeState) → worked o wanted (slot.Ref t ∷ []) s ≡ Some after → GivesObject s after
worked-gives o wanted t s after = by_rest (taken o wanted s.stack) where
  by_rest : (found : Option (List Slot)) → option_map (λ (stack : List Slot). record s { stack = slot.Ref t ∷ stack }) found ≡ Some after → GivesObject s after
  by_rest None there = absurd (none-some after there)
  by_rest (Some rest) there =
      let same = same_Some (record s { stack = slot.Ref t ∷ rest }) after there in
      record {
        type = t;
        rest = rest;
        top = ap (λ (x : TypeState). x.stack) (sym same);
        locals = ap (λ (x : TypeState). x.locals) (sym same);
        built = ap (λ (x : TypeState). x.built) (sym same);
      }

on_type-gives : (o : Outline) (u : Use) (follows : TypeRef → Option TypeState) (s after : TypeState)
    → ((t : TypeRef) → follows t ≡ Some after → GivesObject s after) → on_type o u follows ≡ Some after → GivesObject s after
on_type-gives o (resolved.OfType t) follows s after each there = option_and_then_some follows (slice_get o.types t.0) after there (λ found is. each found)
on_type-gives o u follows s after each there = absurd (none-some after there)

-- ---- arrays

array-gives : (o : Outline) (method item : ℕ) (news : ℕ → Option TypeRef) (u : Use) (i : Insn) (s after : TypeState) → makes_array i ≡ true
    → row_after o method item news u i s ≡ Some after → GivesObject s after
unfolding row_after new_array_row new_references_row multi_array_row
array-gives o method item news u (insn.NewArray e) s after is there =
    option_and_then_some (λ (b : Base). worked o (slot.Int ∷ []) (slot.Ref (record { dims = 1; base = b }) ∷ []) s) (base_of_elem e) after there
    (λ b found. worked-gives o (slot.Int ∷ []) (record { dims = 1; base = b }) s after)
array-gives o method item news u (insn.NewRefs index) s after is there =
    on_type-gives o u (λ t. option_and_then (λ (array : TypeRef). worked o (slot.Int ∷ []) (slot.Ref array ∷ []) s) (array_of t)) s after
    (λ t gives. option_and_then_some (λ (array : TypeRef). worked o (slot.Int ∷ []) (slot.Ref array ∷ []) s) (array_of t) after gives
    (λ array found. worked-gives o (slot.Int ∷ []) array s after)) there
array-gives o method item news u (insn.MultiArray index dimensions) s after is there =
    on_type-gives o u
    (λ t. cond (nat_lt 0 dimensions && nat_le dimensions t.dims) (worked o (replicate dimensions slot.Int) (slot.Ref t ∷ []) s) None) s after
    (λ t gives. worked-gives o (replicate dimensions slot.Int) t s after
    (cond-some_then (nat_lt 0 dimensions && nat_le dimensions t.dims) (worked o (replicate dimensions slot.Int) (slot.Ref t ∷ []) s) after gives).1) there
array-gives o method item news u i s after is there = absurd (false≢true is)

-- ---- calls that give a reference

-- the word of such a result
result-word : (o : Outline) (m : ℕ) → has_reference_result o m ≡ true → (t : TypeRef) × (result_words o m ≡ slot.Ref t ∷ [])
result-word o m is = by_result (result_of o m) is where
  by_kind : (k : Kind) → is_reference_kind k ≡ true → (t : TypeRef) × (stack_slots (k ∷ []) ≡ slot.Ref t ∷ [])
  by_kind (kind.Ref t) is = (t, refl)
  by_kind k is = absurd (false≢true is)

  by_result : (r : Option Kind) → refers r ≡ true → (t : TypeRef) × (stack_slots (option_to_list r) ≡ slot.Ref t ∷ [])
  by_result None is = absurd (false≢true is)
  by_result (Some k) is = by_kind k is

result-gives : (o : Outline) (m : ℕ) (wanted : List Slot) (s after : TypeState) → has_reference_result o m ≡ true
    → worked o wanted (result_words o m) s ≡ Some after → GivesObject s after
result-gives o m wanted s after is there =
    let word = result-word o m is in
    worked-gives o wanted word.0 s after (sym (ap (λ given. worked o wanted given s) word.1) ∙ there)

-- a call's row, where it receives a new object
method-gives : (facts : Facts) (x : TypedMethod) (k : CallKind) (s after : TypeState) (u : Use) (follows : ℕ → TypeRef → Option TypeState)
    → ((m : ℕ) (named : TypeRef) → has_reference_result x.program.outline m ≡ true → follows m named ≡ Some after → GivesObject s after)
    → receives_new facts x (call_with x k u) ≡ true → on_method x.program.outline u follows ≡ Some after → GivesObject s after
method-gives facts x k s after (resolved.OfMethod m t) follows each is there = by_type (slice_get x.program.outline.types t.0) is there where
  made : TypeRef → Call
  made named = record { kind = k; named = named; method = m; caller = class_id (class_of_method x.program.outline x.number) }

  by_type : (found : Option TypeRef) → receives_new facts x (option_map made found) ≡ true → option_and_then (follows m.0) found ≡ Some after
      → GivesObject s after
  by_type None is there = absurd (false≢true is)
  by_type (Some named) is there =
      let some = nat_lt 0 (length (targets x.program (made named))) in
      each m.0 named
      (and_left (has_reference_result x.program.outline m.0) some
      (and_left (has_reference_result x.program.outline m.0 && some)
      (not (list_any (may_give_old x.program.outline facts) (targets x.program (made named)))) is)) there
method-gives facts x k s after u follows each is there = absurd (none-some after there)

-- ---- calls of constructors

one_kept : (item : ℕ) (t : TypeRef) (s : Slot) → same_number (Some item) (new_item s) ≡ false → cond (is_uninit item s) (slot.Ref t) s ≡ s
one_kept item t slot.Top is = refl
one_kept item t slot.Int is = refl
one_kept item t slot.Long is = refl
one_kept item t slot.Null is = refl
one_kept item t (slot.Ref r) is = refl
one_kept item t (slot.Uninit other) is = ap (λ b. cond b (slot.Ref t) (slot.Uninit other)) is
one_kept item t slot.UninitThis is = refl

-- no local becomes another one
none_replaced : (item : ℕ) (t : TypeRef) (locals : List Slot) → AreNoCopies (Some item) locals → replaced (is_uninit item) (slot.Ref t) locals ≡ locals
none_replaced item t [] none = refl
none_replaced item t (s ∷ locals) none = λ k. one_kept item t s none.0 k ∷ none_replaced item t locals none.1 k

-- the last local is no first half
still_short : (item : ℕ) (t : TypeRef) (locals : List Slot) → trimmed locals ≡ locals
    → trimmed (replaced (is_uninit item) (slot.Ref t) locals) ≡ replaced (is_uninit item) (slot.Ref t) locals
still_short item t [] short = refl
still_short item t (s ∷ []) short = by_slot s short where
  by_test : (b : Bool) (other : ℕ) → trimmed (cond b (slot.Ref t) (slot.Uninit other) ∷ []) ≡ cond b (slot.Ref t) (slot.Uninit other) ∷ []
  by_test true other = refl
  by_test false other = refl

  by_slot : (s : Slot) → trimmed (s ∷ []) ≡ s ∷ []
      → trimmed (cond (is_uninit item s) (slot.Ref t) s ∷ []) ≡ cond (is_uninit item s) (slot.Ref t) s ∷ []
  by_slot slot.Top short = refl
  by_slot slot.Int short = refl
  by_slot slot.Long short = short
  by_slot slot.Null short = refl
  by_slot (slot.Ref r) short = refl
  by_slot (slot.Uninit other) short = by_test (item == other) other
  by_slot slot.UninitThis short = refl
still_short item t (s ∷ u ∷ locals) short =
    ap (λ rest. cond (is_uninit item s) (slot.Ref t) s ∷ rest) (still_short item t (u ∷ locals) (ap (drop 1) short))

-- the object and the copy of it under it are of one `new`
built-gives : (o : Outline) (method : ℕ) (news : ℕ → Option TypeRef) (named : TypeRef) (receiver below : Slot) (rest : List Slot) (s after : TypeState)
    → same_number (new_item receiver) (new_item below) ≡ true
    → constructed o method news named receiver (record s { stack = below ∷ rest }) ≡ Some after
    → LeavesObject (AreNoCopies (new_item receiver) s.locals) s after
built-gives o method news named (slot.Uninit item) (slot.Uninit other) rest s after same there =
    let new = initialised (is_uninit item) named (record s { stack = slot.Uninit other ∷ rest }) in
    let left = cond-some_then (is_type named (news item)) (Some new) after there in
    let is : new ≡ after = same_Some new after left.1 in
    record {
      type = named;
      rest = replaced (is_uninit item) (slot.Ref named) rest;
      top = ap (λ (t : TypeState). t.stack) (sym is)
          ∙ ap (λ b. cond b (slot.Ref named) (slot.Uninit other) ∷ replaced (is_uninit item) (slot.Ref named) rest) same;
      count = ap (λ (t : TypeState). length t.locals) (sym is) ∙ length-map s.locals (λ z. cond (is_uninit item z) (slot.Ref named) z);
      short = λ short.
          ap (λ (t : TypeState). trimmed t.locals) (sym is) ∙ still_short item named s.locals short ∙ ap (λ (t : TypeState). t.locals) is;
      locals = λ none. ap (λ (t : TypeState). t.locals) (sym is) ∙ none_replaced item named s.locals none;
      built = ap (λ (t : TypeState). t.built) (sym is);
    }
built-gives o method news named (slot.Uninit item) below rest s after same there = absurd (false≢true same)
built-gives o method news named receiver below rest s after same there = absurd (false≢true same)

-- no local holds a copy of the object in the word at this depth
abbrev IsApart : ℕ → TypeState → Type 0
IsApart depth s = AreNoCopies (option_and_then new_item (slice_get (reverse s.stack) depth)) s.locals

constructor-gives : (o : Outline) (method : ℕ) (news : ℕ → Option TypeRef) (m : ℕ) (named : TypeRef) (s after : TypeState)
    → doubled_in s.stack (length s.stack - (1 + words_of_arguments o m)) ≡ true → constructor_called o method news m named s ≡ Some after
    → LeavesObject (IsApart (length s.stack - (1 + words_of_arguments o m)) s) s after
constructor-gives o method news m named s after doubled there = by_rest (taken o (argument_words o m) s.stack) refl there where
  of_rest : List Slot → Option TypeState
  of_rest [] = None
  of_rest (receiver ∷ stack) = constructed o method news named receiver (record s { stack = stack })

  below : (rest : List Slot) → taken o (argument_words o m) s.stack ≡ Some rest → of_rest rest ≡ Some after
      → LeavesObject (IsApart (length s.stack - (1 + words_of_arguments o m)) s) s after
  below [] found further = absurd (none-some after further)
  below (receiver ∷ []) found further =
      let off = taken_off o (argument_words o m) s.stack (receiver ∷ []) found in
      let words : length off.words ≡ words_of_arguments o m = length_all_zip _ off.words (argument_words o m) off.fitting ∙ arguments_count o m in
      let all : length s.stack ≡ length off.words + 1 = ap length off.is ∙ length-append off.words (receiver ∷ []) in
      let none_below : length s.stack - (1 + words_of_arguments o m) ≡ 0 = omega (arith, words, all) in
      absurd (false≢true (sym (ap (doubled_in s.stack) none_below) ∙ doubled))
  below (receiver ∷ under ∷ rest) found further =
      let off = taken_off o (argument_words o m) s.stack (receiver ∷ under ∷ rest) found in
      let words : length off.words ≡ words_of_arguments o m = length_all_zip _ off.words (argument_words o m) off.fitting ∙ arguments_count o m in
      let all : length s.stack ≡ length off.words + suc (suc (length rest)) = ap length off.is ∙ length-append off.words (receiver ∷ under ∷ rest) in
      let depth : length s.stack - (1 + words_of_arguments o m) ≡ suc (length rest) = omega (arith, words, all) in
      let first : slice_get (reverse s.stack) (suc (length rest)) ≡ Some receiver =
      ap (λ list. slice_get (reverse list) (suc (length rest))) off.is ∙ word_above off.words (under ∷ rest) receiver in
      let second : slice_get (reverse s.stack) (length rest) ≡ Some under =
      ap (λ list. slice_get (reverse list) (length rest)) (off.is ∙ sym (append_assoc off.words (receiver ∷ []) (under ∷ rest)))
      ∙ word_above (off.words ++ receiver ∷ []) rest under in
      leaves-if (AreNoCopies (new_item receiver) s.locals) (IsApart (length s.stack - (1 + words_of_arguments o m)) s) s after
      (subst (λ (new : Option ℕ). AreNoCopies new s.locals)
      (ap (λ k. option_and_then new_item (slice_get (reverse s.stack) k)) depth ∙ ap (option_and_then new_item) first))
      (built-gives o method news named receiver under rest s after
      (sym (λ k. same_number (option_and_then new_item (first k)) (option_and_then new_item (second k)))
      ∙ sym (ap (doubled_in s.stack) depth) ∙ doubled) further)

  by_rest : (found : Option (List Slot)) → taken o (argument_words o m) s.stack ≡ found → option_and_then of_rest found ≡ Some after
      → LeavesObject (IsApart (length s.stack - (1 + words_of_arguments o m)) s) s after
  by_rest None found further = absurd (none-some after further)
  by_rest (Some rest) found further = below rest found further

-- ---- sites

module _ (facts : Facts) (x : TypedMethod) (j : ℕ) (news : ℕ → Option TypeRef) (s after : TypeState) (constructors : ConstructorsGiveNothing x.program.outline) where
  abbrev o : Outline
  o = x.program.outline

  -- no local holds a copy of the receiver of a call
  abbrev pub IsApartAt : Insn → Type 0
  IsApartAt i = AreNoCopies (new_item_at x j (depth_below x j i)) s.locals

  special-gives : (index : ℕ) → state_at x.states j ≡ Some s
      → ((m : MethodId) (t : TypeId) → use_at x (insn.Special index) ≡ resolved.OfMethod m t
      → is_static (method_at x.program.outline.classes m.0).method.flags ≡ false)
      → constructs x j (insn.Special index) ≡ true → special_call_row x.program.outline x.number news (use_at x (insn.Special index)) s ≡ Some after
      → LeavesObject (IsApartAt (insn.Special index)) s after
  unfolding special_call_row words_taken
  special-gives index at no_static made there = by_use (use_at x (insn.Special index)) refl made there where
    depth : depth_at x j ≡ length s.stack
    depth = ap depth_of at

    by_use : (u : Use) → use_at x (insn.Special index) ≡ u
        → (names_constructor o u && is_doubled x j (depth_at x j - words_taken o u (insn.Special index))) ≡ true
        → special_call_row o x.number news u s ≡ Some after → LeavesObject (IsApartAt (insn.Special index)) s after
    by_use (resolved.OfMethod m t) used both row =
        let doubled_so = is_doubled x j (depth_at x j - words_taken o (resolved.OfMethod m t) (insn.Special index)) in
        let constructor : is_constructor o m.0 ≡ true = and_left (is_constructor o m.0) doubled_so both in
        let doubled = and_right (is_constructor o m.0) doubled_so both in
        let words : words_taken o (resolved.OfMethod m t) (insn.Special index) ≡ 1 + words_of_arguments o m.0 =
        ap (λ b. cond b 0 1 + words_of_arguments o m.0) (no_static m t used) in
        let under : doubled_in s.stack (length s.stack - (1 + words_of_arguments o m.0)) ≡ true =
        sym (λ k. doubled_in s.stack (depth k - words k))
        ∙ sym (doubled-stack x j s at (depth_at x j - words_taken o (resolved.OfMethod m t) (insn.Special index))) ∙ doubled in
        let depth_is : depth_below x j (insn.Special index) ≡ length s.stack - (1 + words_of_arguments o m.0) =
        ap (λ u. depth_at x j - words_taken o u (insn.Special index)) used ∙ (λ k. depth k - words k) in
        let item_is : new_item_at x j (depth_below x j (insn.Special index))
        ≡ option_and_then new_item (slice_get (reverse s.stack) (length s.stack - (1 + words_of_arguments o m.0))) =
        ap (new_item_at x j) depth_is
        ∙ ap (λ (found : Option TypeState).
        option_and_then new_item
        (option_and_then (λ (z : TypeState). slice_get (reverse z.stack) (length s.stack - (1 + words_of_arguments o m.0))) found)) at in
        option_and_then_some _ (slice_get o.types t.0) after row
        (λ named found gives.
        leaves-if (IsApart (length s.stack - (1 + words_of_arguments o m.0)) s) (IsApartAt (insn.Special index)) s after
        (subst (λ (new : Option ℕ). AreNoCopies new s.locals) item_is)
        (constructor-gives o x.number news m.0 named s after under
        (chosen (is_constructor o m.0) (constructor_called o x.number news m.0 named s) _ after constructor gives)))
    by_use (resolved.OfType t) used both row = absurd (false≢true both)
    by_use (resolved.OfField f t) used both row = absurd (false≢true both)
    by_use (resolved.OfInt value) used both row = absurd (false≢true both)
    by_use (resolved.OfLong value) used both row = absurd (false≢true both)
    by_use (resolved.OfText text) used both row = absurd (false≢true both)
    by_use resolved.Unused used both row = absurd (false≢true both)

  instance-gives : (k : CallKind) (u : Use) → receives_new facts x (call_with x k u) ≡ true → instance_call_row o u s ≡ Some after → GivesObject s after
  unfolding instance_call_row
  instance-gives k u is there =
      method-gives facts x k s after u
      (λ m named. cond (is_initializer o m) None (worked o (argument_words o m ++ slot.Ref named ∷ []) (result_words o m) s))
      (λ m named has gives. result-gives o m (argument_words o m ++ slot.Ref named ∷ []) s after has
      (cond-some_else (is_initializer o m) (worked o (argument_words o m ++ slot.Ref named ∷ []) (result_words o m) s) after gives).1) is there

  static-gives : (u : Use) → receives_new facts x (call_with x call.Static u) ≡ true → static_call_row o u s ≡ Some after → GivesObject s after
  unfolding static_call_row
  static-gives u is there =
      method-gives facts x call.Static s after u
      (λ m named. cond (is_initializer o m) None (worked o (argument_words o m) (result_words o m) s))
      (λ m named has gives. result-gives o m (argument_words o m) s after has
      (cond-some_else (is_initializer o m) (worked o (argument_words o m) (result_words o m) s) after gives).1) is there

  abbrev own_words : ℕ → List Slot
  own_words m = argument_words o m ++ slot.Ref (type_of_class (this_class o x.number)) ∷ []

  abbrev other_special : ℕ → TypeRef → Option TypeState
  other_special m named =
      cond (is_initializer o m) None (cond (names_own_or_above o (this_class o x.number) named) (worked o (own_words m) (result_words o m) s) None)

  other-gives : (m : ℕ) (named : TypeRef) → has_reference_result o m ≡ true → (b : Bool) → is_constructor o m ≡ b
      → cond b (constructor_called o x.number news m named s) (other_special m named) ≡ Some after → GivesObject s after
  other-gives m named has true constructor gives = absurd (false≢true (sym (ap refers (constructors m constructor)) ∙ has))
  other-gives m named has false constructor gives =
      let above = names_own_or_above o (this_class o x.number) named in
      let row = worked o (own_words m) (result_words o m) s in
      result-gives o m (own_words m) s after has (cond-some_then above row after (cond-some_else (is_initializer o m) (cond above row None) after gives).1).1

  factory-gives : (u : Use) → receives_new facts x (call_with x call.Special u) ≡ true → special_call_row o x.number news u s ≡ Some after
      → GivesObject s after
  unfolding special_call_row
  factory-gives u is there =
      method-gives facts x call.Special s after u
      (λ m named. cond (is_constructor o m) (constructor_called o x.number news m named s) (other_special m named))
      (λ m named has gives. other-gives m named has (is_constructor o m) refl gives) is there

  received-gives : (i : Insn) → receives_new facts x (call_of x i) ≡ true → row_after o x.number j news (use_at x i) i s ≡ Some after → GivesObject s after
  unfolding row_after
  received-gives (insn.Virtual index) is there = instance-gives call.Virtual (use_at x (insn.Virtual index)) is there
  received-gives (insn.Interface index) is there = instance-gives call.Interface (use_at x (insn.Interface index)) is there
  received-gives (insn.Special index) is there = factory-gives (use_at x (insn.Special index)) is there
  received-gives (insn.Static index) is there = static-gives (use_at x (insn.Static index)) is there
  received-gives i is there = absurd (false≢true is)

  -- invokespecial of this instruction names no static method
  abbrev pub NoStatic : Insn → Type 0
  NoStatic i =
      (index : ℕ) (m : MethodId) (t : TypeId) → i ≡ insn.Special index → use_at x (insn.Special index) ≡ resolved.OfMethod m t
      → is_static (method_at x.program.outline.classes m.0).method.flags ≡ false

  constructed-gives : (i : Insn) → state_at x.states j ≡ Some s → NoStatic i
      → constructs x j i ≡ true → row_after o x.number j news (use_at x i) i s ≡ Some after → LeavesObject (IsApartAt i) s after
  unfolding row_after
  constructed-gives (insn.Special index) at no_static is there = special-gives index at (λ m t used. no_static index m t refl used) is there
  constructed-gives i at no_static is there = absurd (false≢true is)

  abbrev kind_by : Bool → Bool → Bool → Option SiteKind
  kind_by array made received = cond array (Some MakesArray) (cond made (Some Constructs) (cond received (Some ReceivesNew) None))

  -- the same where the call is that of a constructor
  abbrev pub IsSameAt : Insn → Type 0
  IsSameAt i = kind_of_site facts x j i ≡ Some Constructs → IsApartAt i

  -- each kind of a site
  pub site-gives : (i : Insn) → is_some (kind_of_site facts x j i) ≡ true → state_at x.states j ≡ Some s
      → NoStatic i → row_after o x.number j news (use_at x i) i s ≡ Some after
      → LeavesObject (IsSameAt i) s after
  site-gives i is at no_static there = by_array (makes_array i) refl where
    by_call : (b : Bool) → receives_new facts x (call_of x i) ≡ b → is_some (kind_by false false b) ≡ true → LeavesObject (IsSameAt i) s after
    by_call true so some = leaves-given (IsSameAt i) s after (received-gives i so there)
    by_call false so some = absurd (false≢true some)

    by_new : makes_array i ≡ false → (b : Bool) → constructs x j i ≡ b → LeavesObject (IsSameAt i) s after
    by_new no_array true so =
        let kind_is : kind_of_site facts x j i ≡ Some Constructs = λ k. kind_by (no_array k) (so k) (receives_new facts x (call_of x i)) in
        leaves-if (IsApartAt i) (IsSameAt i) s after (λ same. same kind_is) (constructed-gives i at no_static so there)
    by_new no_array false so =
        by_call (receives_new facts x (call_of x i)) refl
        (sym (λ k. is_some (kind_by (no_array k) (so k) (receives_new facts x (call_of x i)))) ∙ is)

    by_array : (b : Bool) → makes_array i ≡ b → LeavesObject (IsSameAt i) s after
    by_array true so = leaves-given (IsSameAt i) s after (array-gives o x.number j news (use_at x i) i s after so there)
    by_array false so = by_new so (constructs x j i) refl
