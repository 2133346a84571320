-- Each effect of the table owes to the classes what it should: all rows together, and what the start of a class makes of them.
use Rattle.std.proofs.Common.{◌≡◌, ℕ, ◌+◌, true, false, List, [], length, take, position, Option, Some, None, codes, refl, Contains, arith}
use Rattle.std.specs.Ordering.{int_eq}
use Rattle.fm_code.specs.Edges.{falls_through}
use Rattle.fm_code.specs.Live.{stores_over}
use Rattle.fm_code.specs.StackWords.{number_given}
use Rattle.fm_code.specs.declared.instructions.Insn.{Insn}
use Rattle.fm_code.specs.declared.instructions.Insn.TheVariants as insn
use Rattle.fm_conn.specs.Rows as pairs
use Rattle.fm_conn.specs.Facts.{AreFacts, Facts}
use Rattle.fm_types.proofs.EachCheckRow.{is_number, takes_wanted, wanted_by}
use Rattle.fm_types.specs.Named.{class_of_method}
use Rattle.fm_types.specs.Typed.{use_by}
use Rattle.fm_world.specs.Lookups.{select, special_target}
use Rattle.fm_conn.specs.Pairs.{call_of}
use Rattle.fm_world.specs.Programs.{class_of_type, Program, targets}
use Rattle.fm_world.specs.declared.calls.Call.{Call}
use Rattle.fm_same.specs.Standing.{method_of}
use Rattle.fm_world.specs.Chains.{is_sub}
use Rattle.fm_frames.proofs.EachNumber.{each_number}
use Rattle.fm_frames.specs.CallRows.{entered, entered_as, interface_effect, native_of, receiver_class, special_effect, static_effect, virtual_effect, words_of_arguments}
use Rattle.fm_frames.specs.Effects.{Calls, given_number, going, int_word, Jumps, JumpsIfSame, long_words, null_word}
use Rattle.fm_frames.specs.JumpRows.{int_jump_effect, key_target, lookup_effect, null_jump_effect, pair_jump_effect, table_effect, table_target}
use Rattle.fm_frames.specs.declared.natives.Native.{Native}
use Rattle.fm_frames.specs.NumberRows.{increment_effect}
use Rattle.fm_frames.specs.ObjectRows.{is_a_effect}
use Rattle.fm_frames.specs.Rows.{effect_of}
use Rattle.fm_frames.specs.Operands.{thrown, thrown_null}
use Rattle.fm_frames.specs.Sights.{Sight}
use Rattle.fm_frames.specs.States.{Frame}
use Rattle.fm_same.specs.Covering.{CoversTargets, MeetsTarget}
use Rattle.fm_law_sound.proofs.Cases.{by_any, by_held, by_if, by_object, by_on_method, by_on_type, by_reference}
use Rattle.fm_law_sound.proofs.JumpRows.{few_keys, key_within, table_within}
use Rattle.fm_same.proofs.ItemFacts.{AtInsn, goes_obey, used}
use Rattle.fm_same.proofs.NativeRows.{native_obeys}
use Rattle.fm_same.proofs.ArrayRows.{array_load_obeys, array_store_obeys, length_obeys, multi_array_obeys, new_array_obeys, new_references_obeys}
use Rattle.fm_same.proofs.EndRows.{cast_obeys, return_obeys, throw_obeys}
use Rattle.fm_same.proofs.MoveRows.{constant_obeys, load_obeys, move_obeys, store_obeys}
use Rattle.fm_same.proofs.ObjectRows.{get_field_obeys, get_static_obeys, new_obeys, put_field_obeys, put_static_obeys, started_obeys}
use Rattle.fm_same.proofs.PlainRows.{faulty_obeys, going_obeys, int_obeys, jump_obeys, long_obeys, null_obeys, Owes, plain_number, stuck_obeys, thrown_obeys, words_obey}

module _ (p : Program) (facts : Facts) (exact : AreFacts p facts) (f : Frame) (i : Insn) (h : AtInsn p facts f i) where
  -- a method with code is entered
  call_obeys : (words method : ℕ) → ((call : Call) → call_of (method_of p facts f h.code) i ≡ Some call → Contains (targets p call) method)
      → Owes p facts exact f i h (going words (Calls method))
  call_obeys words method among = record { home = 0; acts = tt; leads = tt; goes = λ next going_on edge. absurd going_on; ends = among }

  entered_obeys : (words target : ℕ) (byte : Option ℕ) (s : List Sight) (found : Option Native) → native_of p.outline target ≡ found
      → MeetsTarget p facts f h.code i target → Owes p facts exact f i h (entered_as p.outline words target byte s found)
  entered_obeys words target byte s None is meets = call_obeys words target meets.among
  entered_obeys words target byte s (Some row) is meets = native_obeys p facts exact f i h target row (meets.natives row is) byte s

  selected_obeys : (words : ℕ) (byte : Option ℕ) (s : List Sight) (found : Option ℕ)
      → ((target : ℕ) → found ≡ Some target → MeetsTarget p facts f h.code i target)
      → Owes p facts exact f i h (entered p.outline words found byte s)
  selected_obeys words byte s None meets = stuck_obeys p facts exact f i h
  selected_obeys words byte s (Some target) meets =
      entered_obeys words target byte s (native_of p.outline target) refl (meets target refl)

module _ (p : Program) (facts : Facts) (exact : AreFacts p facts) (f : Frame) where
  virtual_obeys : (index : ℕ) (h : AtInsn p facts f (insn.Virtual index)) (byte : Option ℕ) (s : List Sight)
      → CoversTargets p facts f h.code (insn.Virtual index) s
      → Owes p facts exact f (insn.Virtual index) h (virtual_effect p.outline (used p facts exact f (insn.Virtual index) h) byte s)
  unfolding virtual_effect
  virtual_obeys index h byte s covers =
      let i : Insn = insn.Virtual index in
      by_on_method (Owes p facts exact f i h) p.outline (used p facts exact f i h) _ (stuck_obeys p facts exact f i h)
      (λ m n t is there. by_object (Owes p facts exact f i h) p.outline t s (words_of_arguments p.outline m.0) _
      (null_obeys p facts exact f i h (λ k. refl)) (stuck_obeys p facts exact f i h) (faulty_obeys p facts exact f i h (words_of_arguments p.outline m.0))
      (λ it seen fits_it. selected_obeys p facts exact f i h (words_of_arguments p.outline m.0 + 1) byte s
      (select p.outline.classes (receiver_class p.outline it) m.0)
      (λ target selected. covers target
      (record { method = m; type = n; named = is; of = t; of_is = there; receiver = it; seen = seen; passes = fits_it; selected = selected }))))

  interface_obeys : (index : ℕ) (h : AtInsn p facts f (insn.Interface index)) (byte : Option ℕ) (s : List Sight)
      → CoversTargets p facts f h.code (insn.Interface index) s
      → Owes p facts exact f (insn.Interface index) h (interface_effect p.outline (used p facts exact f (insn.Interface index) h) byte s)
  unfolding interface_effect
  interface_obeys index h byte s covers =
      let i : Insn = insn.Interface index in
      by_on_method (Owes p facts exact f i h) p.outline (used p facts exact f i h) _ (stuck_obeys p facts exact f i h)
      (λ m n t is there. by_any (Owes p facts exact f i h) p.outline s (words_of_arguments p.outline m.0) _
      (null_obeys p facts exact f i h (λ k. refl)) (stuck_obeys p facts exact f i h) (faulty_obeys p facts exact f i h (words_of_arguments p.outline m.0))
      (λ it seen. by_if (Owes p facts exact f i h) (is_sub p.outline.classes it.type t) _ (thrown p.outline (codes "java/lang/IncompatibleClassChangeError"))
      (λ implements. selected_obeys p facts exact f i h (words_of_arguments p.outline m.0 + 1) byte s
      (select p.outline.classes (receiver_class p.outline it) m.0)
      (λ target selected. covers target
      (record { method = m; type = n; named = is; of = t; of_is = there; receiver = it; seen = seen; passes = implements; selected = selected })))
      (λ lacks. thrown_obeys p facts exact f i h (λ k. refl) (codes "java/lang/IncompatibleClassChangeError"))))

  special_obeys : (index : ℕ) (h : AtInsn p facts f (insn.Special index)) (byte : Option ℕ) (s : List Sight)
      → CoversTargets p facts f h.code (insn.Special index) s
      → Owes p facts exact f (insn.Special index) h (special_effect p.outline f.method (used p facts exact f (insn.Special index) h) byte s)
  unfolding special_effect
  special_obeys index h byte s covers =
      let i : Insn = insn.Special index in
      by_on_method (Owes p facts exact f i h) p.outline (used p facts exact f i h) _ (stuck_obeys p facts exact f i h)
      (λ m n t is there. by_reference (Owes p facts exact f i h) s (words_of_arguments p.outline m.0) _ (stuck_obeys p facts exact f i h)
      (λ is_null. by_if (Owes p facts exact f i h) is_null (thrown_null p.outline) _ (λ null. null_obeys p facts exact f i h (λ k. refl))
      (λ some. entered_obeys p facts exact f i h (words_of_arguments p.outline m.0 + 1)
      (special_target p.outline.classes (class_of_method p.outline f.method) (class_of_type t) m.0) byte s _ refl
      (covers (special_target p.outline.classes (class_of_method p.outline f.method) (class_of_type t) m.0)
      (record { method = m; type = n; named = is; of = t; of_is = there; is = refl })))))

  static_obeys : (index : ℕ) (h : AtInsn p facts f (insn.Static index)) (byte : Option ℕ) (s : List Sight)
      → CoversTargets p facts f h.code (insn.Static index) s
      → Owes p facts exact f (insn.Static index) h (static_effect p.outline (used p facts exact f (insn.Static index) h) byte s)
  unfolding static_effect
  static_obeys index h byte s covers =
      let i : Insn = insn.Static index in
      by_on_method (Owes p facts exact f i h) p.outline (used p facts exact f i h) _ (stuck_obeys p facts exact f i h)
      (λ m n t is there. started_obeys p facts exact f i h (class_of_method p.outline m.0) _
      (entered_obeys p facts exact f i h (words_of_arguments p.outline m.0) m.0 byte s _ refl
      (covers m.0 (record { method = m; type = n; named = is; is = refl }))))

  -- ---- numbers

  number_obeys : (i : Insn) (h : AtInsn p facts f i) (byte : Option ℕ) (s : List Sight) → is_number i ≡ true → falls_through i ≡ true
      → ((k : ℕ) → stores_over k i ≡ false) → Owes p facts exact f i h (effect_of p.outline f.method (use_by p f.method i) i byte s)
  unfolding pairs.words_taken
  number_obeys i h byte s is falls keeps =
      let taken : pairs.words_taken p.outline (used p facts exact f i h) i ≡ length (wanted_by i) = takes_wanted _ _ i is in
      each_number p.outline s f.method (use_by p f.method i) byte (Owes p facts exact f i h) i is (record {
        int = λ n at k each. int_obeys p facts exact f i h s n k each;
        long = λ n at k each. long_obeys p facts exact f i h s n k each;
        thrown = thrown_obeys p facts exact f i h keeps (codes "java/lang/ArithmeticException");
        gives = λ n. words_obey p facts exact f i h keeps falls (length (wanted_by i)) (given_number (number_given i) n) (plain_number (number_given i) n) (omega arith);
      })

  -- ---- the whole table

  pub effect_obeys : (i : Insn) (h : AtInsn p facts f i) (byte : Option ℕ) (s : List Sight) → CoversTargets p facts f h.code i s
      → Owes p facts exact f i h (effect_of p.outline f.method (use_by p f.method i) i byte s)
  unfolding effect_of int_jump_effect is_a_effect lookup_effect null_jump_effect pair_jump_effect table_effect pairs.joined_by pairs.words_taken
  effect_obeys insn.Nop h byte s covers = words_obey p facts exact f insn.Nop h (λ k. refl) refl 0 [] tt (omega arith)
  effect_obeys insn.Null h byte s covers = words_obey p facts exact f insn.Null h (λ k. refl) refl 0 null_word (refl, tt) (omega arith)
  effect_obeys (insn.Const n) h byte s covers = words_obey p facts exact f (insn.Const n) h (λ k. refl) refl 0 (int_word n) (tt, tt) (omega arith)
  effect_obeys (insn.LongConst n) h byte s covers = words_obey p facts exact f (insn.LongConst n) h (λ k. refl) refl 0 (long_words n) (tt, (tt, tt)) (omega arith)
  effect_obeys (insn.LoadPool index) h byte s covers = constant_obeys p facts exact f index h (use_by p f.method (insn.LoadPool index))
  effect_obeys (insn.Load r k) h byte s covers = load_obeys p facts exact f r k h
  effect_obeys (insn.Store r k) h byte s covers = store_obeys p facts exact f r k h
  effect_obeys (insn.Inc k by) h byte s covers =
      goes_obey p facts exact f (insn.Inc k by) h (increment_effect k by) 0 tt refl tt (λ next edge q s at node. absurd (cc)) (tt, tt) (λ local unwritten. refl)
      (omega arith)
  effect_obeys insn.Pop h byte s covers = move_obeys p facts exact f insn.Pop h _ refl (λ k. refl) refl refl refl
  effect_obeys insn.Pop2 h byte s covers = move_obeys p facts exact f insn.Pop2 h _ refl (λ k. refl) refl refl refl
  effect_obeys insn.Dup h byte s covers = move_obeys p facts exact f insn.Dup h _ refl (λ k. refl) refl refl refl
  effect_obeys insn.DupX1 h byte s covers = move_obeys p facts exact f insn.DupX1 h _ refl (λ k. refl) refl refl refl
  effect_obeys insn.DupX2 h byte s covers = move_obeys p facts exact f insn.DupX2 h _ refl (λ k. refl) refl refl refl
  effect_obeys insn.Dup2 h byte s covers = move_obeys p facts exact f insn.Dup2 h _ refl (λ k. refl) refl refl refl
  effect_obeys insn.Dup2X1 h byte s covers = move_obeys p facts exact f insn.Dup2X1 h _ refl (λ k. refl) refl refl refl
  effect_obeys insn.Dup2X2 h byte s covers = move_obeys p facts exact f insn.Dup2X2 h _ refl (λ k. refl) refl refl refl
  effect_obeys insn.Swap h byte s covers = move_obeys p facts exact f insn.Swap h _ refl (λ k. refl) refl refl refl
  effect_obeys (insn.IfInt test target) h byte s covers =
      let i : Insn = insn.IfInt test target in
      int_obeys p facts exact f i h s 0 _ (λ a. jump_obeys p facts exact f i h (λ k. refl) (omega arith) refl 1 (omega arith) _)
  effect_obeys (insn.IfPair test target) h byte s covers =
      let i : Insn = insn.IfPair test target in
      int_obeys p facts exact f i h s 0 _ (λ b. int_obeys p facts exact f i h s 1 _ (λ a. jump_obeys p facts exact f i h (λ k. refl) (omega arith) refl 2 (omega arith) _))
  effect_obeys (insn.IfSame same target) h byte s covers = going_obeys p facts exact f (insn.IfSame same target) h (λ k. refl) 2 (JumpsIfSame same) (omega arith, refl) tt (omega arith)
  effect_obeys (insn.IfNull null target) h byte s covers =
      let i : Insn = insn.IfNull null target in
      by_reference (Owes p facts exact f i h) s 0 _ (stuck_obeys p facts exact f i h) (λ b. jump_obeys p facts exact f i h (λ k. refl) (omega arith) refl 1 (omega arith) _)
  effect_obeys (insn.Goto target) h byte s covers = going_obeys p facts exact f (insn.Goto target) h (λ k. refl) 0 (Jumps 0) (omega arith) tt (omega arith)
  effect_obeys (insn.Table low others targets) h byte s covers =
      let i : Insn = insn.Table low others targets in
      int_obeys p facts exact f i h s 0 _ (λ key. going_obeys p facts exact f i h (λ k. refl) 1 (Jumps (table_target low (length targets) key)) (table_within low (length targets) key) tt (omega arith))
  effect_obeys (insn.Lookup others found targets) h byte s covers =
      let i : Insn = insn.Lookup others found targets in
      int_obeys p facts exact f i h s 0 _
      (λ key. going_obeys p facts exact f i h (λ k. refl) 1 (Jumps (key_target (position (int_eq key) (take (length targets) found))))
      (key_within (take (length targets) found) key (length targets) (few_keys found (length targets))) tt (omega arith))
  effect_obeys (insn.Return value) h byte s covers = return_obeys p facts exact f value h
  effect_obeys insn.Throw h byte s covers = throw_obeys p facts exact f h s
  effect_obeys (insn.New index) h byte s covers = new_obeys p facts exact f index h (use_by p f.method (insn.New index))
  effect_obeys (insn.GetStatic index) h byte s covers = get_static_obeys p facts exact f index h
  effect_obeys (insn.PutStatic index) h byte s covers = put_static_obeys p facts exact f index h
  effect_obeys (insn.GetField index) h byte s covers = get_field_obeys p facts exact f index h s
  effect_obeys (insn.PutField index) h byte s covers = put_field_obeys p facts exact f index h s
  effect_obeys (insn.Cast index) h byte s covers = cast_obeys p facts exact f index h (use_by p f.method (insn.Cast index)) s
  effect_obeys (insn.IsA index) h byte s covers =
      let i : Insn = insn.IsA index in
      by_on_type (Owes p facts exact f i h) p.outline (use_by p f.method i) _ (stuck_obeys p facts exact f i h)
      (λ n t is there. by_held (Owes p facts exact f i h) _ s 0 _ (words_obey p facts exact f i h (λ k. refl) refl 1 _ (tt, tt) (omega arith)) (stuck_obeys p facts exact f i h) (faulty_obeys p facts exact f i h 0)
      (λ it seen. words_obey p facts exact f i h (λ k. refl) refl 1 _ (tt, tt) (omega arith)))
  effect_obeys (insn.ArrayLoad e) h byte s covers = array_load_obeys p facts exact f e h s
  effect_obeys (insn.ArrayStore e) h byte s covers = array_store_obeys p facts exact f e h s
  effect_obeys insn.Length h byte s covers = length_obeys p facts exact f h s
  effect_obeys (insn.NewArray e) h byte s covers = new_array_obeys p facts exact f e h s
  effect_obeys (insn.NewRefs index) h byte s covers = new_references_obeys p facts exact f index h (use_by p f.method (insn.NewRefs index)) s
  effect_obeys (insn.MultiArray index dimensions) h byte s covers = multi_array_obeys p facts exact f index dimensions h s
  effect_obeys (insn.Virtual index) h byte s covers = virtual_obeys index h byte s covers
  effect_obeys (insn.Interface index) h byte s covers = interface_obeys index h byte s covers
  effect_obeys (insn.Special index) h byte s covers = special_obeys index h byte s covers
  effect_obeys (insn.Static index) h byte s covers = static_obeys index h byte s covers
  effect_obeys (insn.LeftOut opcode) h byte s covers = stuck_obeys p facts exact f (insn.LeftOut opcode) h
  effect_obeys i h byte s covers = number_obeys i h byte s refl refl (λ k. refl)
