-- The frame of a method that is called, or that starts a class, is at its first item, and the frame
-- below it is without the words of the call.
use Rattle.std.proofs.Common.{◌≡◌, ℕ, zero, suc, ◌+◌, ◌-◌, Bool, true, false, cond, List, [], ◌∷◌, ◌++◌, length, drop, take, replicate, reverse, Option, Some, None, option_and_then, refl, sym, ◌∙◌, ap, subst, inl, inr, arith}
use Rattle.std.specs.List.{AllByRecursion, flat_map}
use Rattle.std.proofs.lemmas.Bool.{false≢true}
use Rattle.std.proofs.lemmas.List.{append-nil, length-append, reverse-append, reverse-reverse}
use Rattle.std.proofs.lemmas.Option.{same_Some}
use Rattle.fm_base.proofs.OptionFacts.{cond-some_else, cond-some_then, option_and_then-some, option_map-some}
use Rattle.fm_base.specs.declared.kinds.TypeRef.{TypeRef}
use Rattle.fm_code.specs.AccessFlags.{is_static}
use Rattle.fm_code.specs.Edges.{insn_of}
use Rattle.fm_code.specs.declared.code_array.Code.{Code}
use Rattle.fm_code.specs.declared.instructions.Insn.{Insn}
use Rattle.fm_code.specs.declared.instructions.Insn.TheVariants as insn
use Rattle.fm_types.proofs.ObjectOrder.{argument_words-whole}
use Rattle.fm_types.proofs.StateOrder.{whole-append}
use Rattle.fm_types.proofs.Zips.{zip-append, zip-drop}
use Rattle.fm_types.specs.CallRows.{constructed, constructor_called, instance_call_row, is_constructor, is_initializer, names_own_or_above, special_call_row, static_call_row}
use Rattle.fm_types.specs.Named.{argument_words, parameters_of, result_words, this_class}
use Rattle.fm_types.specs.Rows.{row_after}
use Rattle.fm_types.specs.States.{is_reference, is_whole, local_slots, taken, TypeState, worked}
use Rattle.fm_types.specs.Typed.{entry_slots, entry_state, IsTypingOf, use_by}
use Rattle.fm_types.specs.declared.slots.Slot.{Slot}
use Rattle.fm_types.specs.declared.slots.Slot.TheVariants as slot
use Rattle.fm_world.specs.Descriptors.{parameter_kinds}
use Rattle.fm_world.specs.Members.{method_at}
use Rattle.fm_world.specs.Numbers.{type_of_class}
use Rattle.fm_world.specs.Programs.{code_at, Outline, Program}
use Rattle.fm_world.specs.declared.uses.Use.{Use}
use Rattle.fm_frames.specs.CallRows.{words_of_arguments}
use Rattle.fm_frames.specs.States.{Frame}
use Rattle.fm_frames.specs.Steps.{max_locals_of, new_frame, start_frames}
use Rattle.fm_frames.specs.declared.values.Value.{Value}
use Rattle.fm_frames.specs.declared.values.Value.TheVariants as value
use Rattle.fm_law_sound.specs.Going.{is_static_call, IsCalled, StandsAtRow, StartsClass}
use Rattle.fm_law_sound.specs.Sound.{AreTyped, FrameHasKinds, HasKind, HaveKinds, IsReference, LocalsHaveKinds, Stand, StandBelow, StandsWithout, Typings, words_of_call}
use Rattle.fm_law_sound.proofs.CallsLeft.{arguments_count, method_in, row_of_method}
use Rattle.fm_law_sound.proofs.FramesStand.{below_same, typing_of}
use Rattle.fm_law_sound.proofs.KindLemmas.{as_local, taken_rest, taken_words}

-- ---- lists

kinds-reverse : (xs : List Slot) (words : List Value) → HaveKinds xs words → HaveKinds (reverse xs) (reverse words)
kinds-reverse [] [] h = tt
kinds-reverse [] (v ∷ words) h = absurd h
kinds-reverse (x ∷ xs) [] h = absurd h
kinds-reverse (x ∷ xs) (v ∷ words) h =
    subst (λ ys. HaveKinds ys (reverse (v ∷ words))) (sym (reverse-append (x ∷ []) xs))
    (subst (λ ys. HaveKinds (reverse xs ++ x ∷ []) ys) (sym (reverse-append (v ∷ []) words))
    (zip-append HasKind (reverse xs) (reverse words) (x ∷ []) (v ∷ []) (kinds-reverse xs words h.1) (h.0, tt)))

kinds-length : (xs : List Slot) (words : List Value) → HaveKinds xs words → length xs ≡ length words
kinds-length [] [] h = refl
kinds-length [] (v ∷ words) h = absurd h
kinds-length (x ∷ xs) [] h = absurd h
kinds-length (x ∷ xs) (v ∷ words) h = ap suc (kinds-length xs words h.1)

-- one more word is taken
take_more : (n : ℕ) (words rest : List Value) (v : Value) → drop n words ≡ v ∷ rest → take n words ++ v ∷ [] ≡ take (suc n) words
take_more zero words rest v is = ap (λ ys. take 1 ys) (sym is)
take_more (suc n) [] rest v is = absurd (cc)
take_more (suc n) (w ∷ words) rest v is = ap (λ ys. w ∷ ys) (take_more n words rest v is)

no_values : (n : ℕ) → LocalsHaveKinds (replicate n slot.Top) (replicate n value.Top)
no_values zero = tt
no_values (suc n) = (tt, no_values n)

locals-append : (xs others : List Slot) (words more : List Value) → HaveKinds xs words → LocalsHaveKinds others more
    → LocalsHaveKinds (xs ++ others) (words ++ more)
locals-append [] others [] more h rest = rest
locals-append [] others (v ∷ words) more h rest = absurd h
locals-append (x ∷ xs) others [] more h rest = absurd h
locals-append (x ∷ xs) others (v ∷ words) more h rest = (as_local x v h.0, locals-append xs others words more h.1 rest)

-- ---- the first item of a method

abbrev pub max_locals_in : Option Code → ℕ
max_locals_in None = 0
max_locals_in (Some code) = code.max_locals

module _ (p : Program) (typings : Typings) (typed : AreTyped p typings) where
  pub new_stands : (method : ℕ) (code : Code) (arguments : List Value) → code_at p method ≡ Some code → HaveKinds (entry_slots p.outline method) arguments
      → StandsWithout p typings 0 (new_frame p method arguments)
  unfolding entry_state
  new_stands method code arguments is h =
      let typing : IsTypingOf p method code (typings method) = typing_of p typings typed method code is in
      let count : length (entry_slots p.outline method) ≡ length arguments = kinds-length (entry_slots p.outline method) arguments h in
      let max : max_locals_of p method ≡ code.max_locals = ap max_locals_in is in
      let rest : code.max_locals - length (entry_slots p.outline method) ≡ max_locals_of p method - length arguments =
      ap (λ n. code.max_locals - n) count ∙ ap (λ m. m - length arguments) (sym max) in
      record {
        code = code;
        code_is = is;
        known = entry_state p.outline method code;
        at = typing.first;
        locals = locals-append (entry_slots p.outline method) (replicate (code.max_locals - length (entry_slots p.outline method)) slot.Top) arguments
            (replicate (max_locals_of p method - length arguments) value.Top) h
            (subst (λ n. LocalsHaveKinds (replicate (code.max_locals - length (entry_slots p.outline method)) slot.Top) (replicate n value.Top)) rest
            (no_values (code.max_locals - length (entry_slots p.outline method))));
        stack = tt;
      }

  -- ---- the starts of classes

  start_stands : (method : ℕ) (g : Frame) (rest : List Frame) → StartsClass p method → Stand p typings (g ∷ rest)
      → Stand p typings (new_frame p method [] ∷ g ∷ rest)
  start_stands method g rest start below = (
    new_stands method start.code [] start.code_is (subst (λ slots. HaveKinds slots []) (sym start.no_arguments) tt),
    (inr (record { starts = start.starts; stands = below.0 }), below.1),
  )

  pub started_stand : (methods : List ℕ) → AllByRecursion (StartsClass p) methods → (f : Frame) (callers : List Frame) → Stand p typings (f ∷ callers)
      → Stand p typings (start_frames p methods ++ f ∷ callers)
  started_stand [] each f callers below = below
  started_stand (m ∷ []) each f callers below = start_stands m f callers each.0 below
  started_stand (m ∷ n ∷ methods) each f callers below =
      start_stands m (new_frame p n []) (start_frames p methods ++ f ∷ callers) each.0 (started_stand (n ∷ methods) each.1 f callers below)

-- ---- the words that a call takes

-- a receiver is one reference, where there is one
abbrev pub IsReceiver : Bool → List Slot → Type 0
IsReceiver true slots = slots ≡ []
IsReceiver false slots = (r : Slot) × (slots ≡ r ∷ []) × (is_reference r ≡ true)

-- the slots of the words of a call, with the receiver below the arguments
pub record Takes (o : Outline) (named words : ℕ) (no_receiver : Bool) (stack : List Value) : Type 0 where
  pub receiver : List Slot
  pub is_receiver : IsReceiver no_receiver receiver
  pub have : HaveKinds (argument_words o named ++ receiver) (take words stack)

pub reference_value : (r : Slot) (v : Value) → is_reference r ≡ true → HasKind r v → IsReference v
reference_value slot.Top v is h = absurd (false≢true is)
reference_value slot.Int v is h = absurd (false≢true is)
reference_value slot.Long v is h = absurd (false≢true is)
reference_value slot.Null v is h = h
reference_value (slot.Ref t) v is h = h
reference_value (slot.Uninit item) v is h = h
reference_value slot.UninitThis v is h = h

module _ (o : Outline) (s : TypeState) (stack : List Value) (in_stack : HaveKinds s.stack stack) (whole : is_whole s.stack ≡ true) (named : ℕ) where
  worked_takes : (receiver given : List Slot) (words : ℕ) (no_receiver : Bool) (after : TypeState) → is_whole receiver ≡ true
      → IsReceiver no_receiver receiver → length (argument_words o named ++ receiver) ≡ words
      → worked o (argument_words o named ++ receiver) given s ≡ Some after → Takes o named words no_receiver stack
  worked_takes receiver given words no_receiver after receiver_whole is count row =
      let parts = option_map-some (λ rest. record s { stack = given ++ rest }) (taken o (argument_words o named ++ receiver) s.stack) after row in
      record {
        receiver = receiver;
        is_receiver = is;
        have = subst (λ n. HaveKinds (argument_words o named ++ receiver) (take n stack)) count
            (taken_words o (argument_words o named ++ receiver) s.stack parts.0 stack
            (whole-append (argument_words o named) receiver (argument_words-whole o named) receiver_whole) whole parts.1 in_stack);
      }

  with_receiver : (r : Slot) → length (argument_words o named ++ r ∷ []) ≡ words_of_arguments o named + 1
  with_receiver r = length-append (argument_words o named) (r ∷ []) ∙ ap (λ n. n + 1) (arguments_count o named)

  no_receiver_count : length (argument_words o named ++ []) ≡ words_of_arguments o named
  no_receiver_count =
      let same : length (argument_words o named) + 0 ≡ length (argument_words o named) = omega arith in
      length-append (argument_words o named) [] ∙ same ∙ arguments_count o named

  instance_takes : (u : Use) (after : TypeState) → method_in u ≡ Some named → instance_call_row o u s ≡ Some after
      → Takes o named (words_of_arguments o named + 1) false stack
  unfolding instance_call_row
  instance_takes u after names row =
      let found = row_of_method o u _ named after names row in
      let parts = cond-some_else (is_initializer o named) (worked o (argument_words o named ++ slot.Ref found.0 ∷ []) (result_words o named) s) after found.1 in
      worked_takes (slot.Ref found.0 ∷ []) (result_words o named) (words_of_arguments o named + 1) false after refl (slot.Ref found.0, refl, refl)
      (with_receiver (slot.Ref found.0)) parts.1

  static_takes : (u : Use) (after : TypeState) → method_in u ≡ Some named → static_call_row o u s ≡ Some after
      → Takes o named (words_of_arguments o named) true stack
  unfolding static_call_row
  static_takes u after names row =
      let found = row_of_method o u _ named after names row in
      let parts = cond-some_else (is_initializer o named) (worked o (argument_words o named) (result_words o named) s) after found.1 in
      worked_takes [] (result_words o named) (words_of_arguments o named) true after refl refl no_receiver_count
      (subst (λ wanted. worked o wanted (result_words o named) s ≡ Some after) (sym (append-nil (argument_words o named))) parts.1)

  -- the receiver of a constructor isn't initialised, and so a reference
  constructed_reference : (method : ℕ) (news : ℕ → Option TypeRef) (t : TypeRef) (r : Slot) (before after : TypeState)
      → constructed o method news t r before ≡ Some after → is_reference r ≡ true
  constructed_reference method news t slot.Top before after row = absurd (cc)
  constructed_reference method news t slot.Int before after row = absurd (cc)
  constructed_reference method news t slot.Long before after row = absurd (cc)
  constructed_reference method news t slot.Null before after row = refl
  constructed_reference method news t (slot.Ref other) before after row = refl
  constructed_reference method news t (slot.Uninit item) before after row = refl
  constructed_reference method news t slot.UninitThis before after row = refl

  abbrev receiver_state : (method : ℕ) (news : ℕ → Option TypeRef) (t : TypeRef) → List Slot → Option TypeState
  receiver_state method news t [] = None
  receiver_state method news t (receiver ∷ rest) = constructed o method news t receiver (record s { stack = rest })

  first_value : (r : Slot) (rest : List Slot) (words : List Value) → HaveKinds (r ∷ rest) words
      → (v : Value) × (others : List Value) × (words ≡ v ∷ others) × HasKind r v
  first_value r rest [] h = absurd h
  first_value r rest (v ∷ words) h = (v, words, refl, h.0)

  receiver_takes : (method : ℕ) (news : ℕ → Option TypeRef) (t : TypeRef) (rest : List Slot) (after : TypeState)
      → taken o (argument_words o named) s.stack ≡ Some rest → receiver_state method news t rest ≡ Some after
      → Takes o named (words_of_arguments o named + 1) false stack
  receiver_takes method news t [] after is row = absurd (cc)
  receiver_takes method news t (r ∷ rest) after is row =
      let arguments : HaveKinds (argument_words o named) (take (length (argument_words o named)) stack) =
      taken_words o (argument_words o named) s.stack (r ∷ rest) stack (argument_words-whole o named) whole is in_stack in
      let first = first_value r rest (drop (length (argument_words o named)) stack)
      (taken_rest o (argument_words o named) s.stack (r ∷ rest) stack is in_stack) in
      let more : suc (length (argument_words o named)) ≡ words_of_arguments o named + 1 =
      let same = arguments_count o named in omega (arith, same) in
      record {
        receiver = r ∷ [];
        is_receiver = (r, refl, constructed_reference method news t r (record s { stack = rest }) after row);
        have = subst (λ n. HaveKinds (argument_words o named ++ r ∷ []) (take n stack)) more
            (subst (λ ys. HaveKinds (argument_words o named ++ r ∷ []) ys) (take_more (length (argument_words o named)) stack first.1 first.0 first.2)
            (zip-append HasKind (argument_words o named) (take (length (argument_words o named)) stack) (r ∷ []) (first.0 ∷ []) arguments (first.3, tt)));
      }

  special_cases : (method : ℕ) (news : ℕ → Option TypeRef) (t : TypeRef) (b : Bool) (after : TypeState)
      → cond b (constructor_called o method news named t s) (cond (is_initializer o named) None
      (cond (names_own_or_above o (this_class o method) t)
      (worked o (argument_words o named ++ slot.Ref (type_of_class (this_class o method)) ∷ []) (result_words o named) s) None)) ≡ Some after
      → Takes o named (words_of_arguments o named + 1) false stack
  special_cases method news t true after row =
      let found = option_and_then-some (receiver_state method news t) (taken o (argument_words o named) s.stack) after row in
      receiver_takes method news t found.0 after found.1 found.2
  special_cases method news t false after row =
      let own : Slot = slot.Ref (type_of_class (this_class o method)) in
      let first = cond-some_else (is_initializer o named) (cond (names_own_or_above o (this_class o method) t)
      (worked o (argument_words o named ++ own ∷ []) (result_words o named) s) None) after row in
      let second = cond-some_then (names_own_or_above o (this_class o method) t)
      (worked o (argument_words o named ++ own ∷ []) (result_words o named) s) after first.1 in
      worked_takes (own ∷ []) (result_words o named) (words_of_arguments o named + 1) false after refl (own, refl, refl) (with_receiver own) second.1

  special_takes : (method : ℕ) (news : ℕ → Option TypeRef) (u : Use) (after : TypeState) → method_in u ≡ Some named
      → special_call_row o method news u s ≡ Some after → Takes o named (words_of_arguments o named + 1) false stack
  unfolding special_call_row
  special_takes method news u after names row =
      let found = row_of_method o u _ named after names row in special_cases method news found.0 (is_constructor o named) after found.1

  pub call_takes : (i : Insn) (method item words : ℕ) (news : ℕ → Option TypeRef) (u : Use) (after : TypeState) → words_of_call o i named ≡ Some words
      → method_in u ≡ Some named → row_after o method item news u i s ≡ Some after → Takes o named words (is_static_call i) stack
  unfolding row_after
  call_takes (insn.Virtual index) method item words news u after is names row =
      subst (λ n. Takes o named n false stack) (same_Some (words_of_arguments o named + 1) words is) (instance_takes u after names row)
  call_takes (insn.Interface index) method item words news u after is names row =
      subst (λ n. Takes o named n false stack) (same_Some (words_of_arguments o named + 1) words is) (instance_takes u after names row)
  call_takes (insn.Special index) method item words news u after is names row =
      subst (λ n. Takes o named n false stack) (same_Some (words_of_arguments o named + 1) words is) (special_takes method news u after names row)
  call_takes (insn.Static index) method item words news u after is names row =
      subst (λ n. Takes o named n true stack) (same_Some (words_of_arguments o named) words is) (static_takes u after names row)
  call_takes i method item words news u after is names row = absurd (cc)

-- ---- the arguments of the method that is called

-- the slots that a receiver has in the method
received : (b c : Bool) (receiver rest : List Slot) (t : TypeRef) (words : List Value) → IsReceiver b receiver → HaveKinds (receiver ++ rest) words
    → HaveKinds (cond b [] (cond c (slot.UninitThis ∷ []) (slot.Ref t ∷ [])) ++ rest) words
received true c receiver rest t words is h = subst (λ r. HaveKinds (r ++ rest) words) is h
received false c receiver rest t words is h = by_slot c words (subst (λ r. HaveKinds (r ++ rest) words) is.1 h) where
  by_slot : (c : Bool) (words : List Value) → HaveKinds (is.0 ∷ rest) words → HaveKinds (cond c (slot.UninitThis ∷ []) (slot.Ref t ∷ []) ++ rest) words
  by_slot true [] h = absurd h
  by_slot false [] h = absurd h
  by_slot true (v ∷ words) h = (reference_value is.0 v is.2 h.0, h.1)
  by_slot false (v ∷ words) h = (reference_value is.0 v is.2 h.0, h.1)

entry_kinds : (o : Outline) (named target words : ℕ) (no_receiver : Bool) (stack : List Value)
    → (method_at o.classes target).method.descriptor ≡ (method_at o.classes named).method.descriptor
    → is_static (method_at o.classes target).method.flags ≡ no_receiver → Takes o named words no_receiver stack
    → HaveKinds (entry_slots o target) (reverse (take words stack))
entry_kinds o named target words no_receiver stack same_descriptor static takes =
    let slots : List Slot = flat_map local_slots (parameters_of o named) in
    let turned : reverse (argument_words o named ++ takes.receiver) ≡ reverse takes.receiver ++ slots =
    reverse-append (argument_words o named) takes.receiver ∙ ap (λ ys. reverse takes.receiver ++ ys) (reverse-reverse slots) in
    let level : reverse takes.receiver ≡ takes.receiver = one_reversed no_receiver takes.receiver takes.is_receiver in
    let has : HaveKinds (takes.receiver ++ slots) (reverse (take words stack)) =
    subst (λ xs. HaveKinds xs (reverse (take words stack))) (turned ∙ ap (λ ys. ys ++ slots) level)
    (kinds-reverse (argument_words o named ++ takes.receiver) (take words stack) takes.have) in
    let parameters : HaveKinds (takes.receiver ++ flat_map local_slots (parameters_of o target)) (reverse (take words stack)) =
    subst (λ d. HaveKinds (takes.receiver ++ flat_map local_slots (parameter_kinds o.classes d)) (reverse (take words stack))) (sym same_descriptor) has in
    received (is_static (method_at o.classes target).method.flags) (is_constructor o target) takes.receiver (flat_map local_slots (parameters_of o target))
    (type_of_class (this_class o target)) (reverse (take words stack))
    (subst (λ b. IsReceiver b takes.receiver) (sym static) takes.is_receiver) parameters where
      one_reversed : (b : Bool) (receiver : List Slot) → IsReceiver b receiver → reverse receiver ≡ receiver
      one_reversed true receiver is = ap reverse is ∙ sym is
      one_reversed false receiver is = ap reverse is.1 ∙ sym is.1

pub called_stand : (p : Program) (typings : Typings) → AreTyped p typings
    → (f : Frame) (callers : List Frame) (i : Insn) (after : TypeState) (h : StandsAtRow p typings f i after) → FrameHasKinds h.known f.locals f.stack
    → StandBelow p typings f callers → (target words : ℕ) → IsCalled p f i target words
    → Stand p typings (new_frame p target (reverse (take words f.stack)) ∷ record f { stack = drop words f.stack } ∷ callers)
called_stand p typings typed f callers i after h kinds below target words call =
    let typing : IsTypingOf p f.method h.code (typings f.method) = typing_of p typings typed f.method h.code h.code_is in
    let whole : is_whole h.known.stack ≡ true = (typing.items f.item h.known h.at).whole in
    let takes : Takes p.outline call.named words (is_static_call i) f.stack =
    call_takes p.outline h.known f.stack kinds.in_stack whole call.named i f.method f.item words _ (use_by p f.method i) after call.takes call.names h.row in
    let insn_is = ap (λ o. option_and_then (λ (c : Code). insn_of c f.item) o) h.code_is ∙ h.insn_is in (
      new_stands p typings typed target call.code (reverse (take words f.stack)) call.code_is
          (entry_kinds p.outline call.named target words (is_static_call i) f.stack call.same_descriptor call.no_receiver takes),
      (
        inl (record {
          called = i;
          at = insn_is;
          named = call.named;
          names = call.names;
          same_name = call.same_name;
          same_descriptor = call.same_descriptor;
          is_no_start = call.is_no_start;
          words = words;
          takes = call.takes;
          stands = record {
            code = h.code;
            code_is = h.code_is;
            known = h.known;
            at = h.at;
            locals = kinds.in_locals;
            stack = zip-drop HasKind words h.known.stack f.stack kinds.in_stack;
          };
        }),
        below_same p typings f (record f { stack = drop words f.stack }) callers refl below,
      ),
    )
