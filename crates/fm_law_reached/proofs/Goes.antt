-- Where an instruction leads: a method that is called is in the set, and the class that is started before is the one that it uses.
use Rattle.std.proofs.Common.{◌≡◌, ℕ, ℤ, pos, ◌+◌, ◌||◌, not, Bool, true, false, List, [], codes, nat_lt, reverse, Option, Some, None, IfSome, option_and_then, option_map, refl, ◌∙◌, ap, int_lt, unsigned_abs}
use Rattle.std.specs.List.{list_any, range_with_len}
use Rattle.fm_base.specs.Kinds.{kind_words}
use Rattle.fm_base.specs.Rows.{has}
use Rattle.fm_base.specs.declared.kinds.Base.{Base}
use Rattle.fm_base.specs.declared.kinds.TypeRef.{TypeRef}
use Rattle.fm_code.specs.declared.instructions.Insn.{Insn}
use Rattle.fm_code.specs.declared.instructions.Insn.TheVariants as insn
use Rattle.fm_code.specs.declared.operations.Elem.{Elem}
use Rattle.fm_code.specs.declared.operations.Elem.TheVariants as elem
use Rattle.fm_code.specs.declared.operations.Reg.{Reg}
use Rattle.fm_code.specs.declared.operations.Reg.TheVariants as reg
use Rattle.fm_frames.proofs.Cases.{by_held, by_if, by_int, by_long, by_object, by_on_field, by_on_type, by_passing, by_reference}
use Rattle.fm_frames.proofs.EachCall.{entered_cases, interface_row, special_row, static_row, virtual_row}
use Rattle.fm_frames.proofs.EachNumber.{each_number}
use Rattle.fm_frames.proofs.Failures.{Failures}
use Rattle.fm_frames.proofs.UsualAsks.{each_native}
use Rattle.fm_frames.specs.ArrayRows as arrays
use Rattle.fm_frames.specs.ArrayRows.{on_element, put_element, put_reference}
use Rattle.fm_frames.specs.CallRows.{entered_as, native_of, words_of_arguments}
use Rattle.fm_frames.specs.Effects.{Calls, Effect, Enters as EntersMethods, going, int_word, loaded, Make, making, Next, OfPlace, words}
use Rattle.fm_frames.specs.JumpRows as jumps
use Rattle.fm_frames.specs.NativeRows.{native_effect}
use Rattle.fm_frames.specs.NumberRows as numbers
use Rattle.fm_frames.specs.ObjectRows as objects
use Rattle.fm_frames.specs.Operands.{thrown}
use Rattle.fm_frames.specs.Rows.{effect_of}
use Rattle.fm_frames.specs.Sights.{Looks, Sight}
use Rattle.fm_frames.specs.declared.natives.Native.{Native}
use Rattle.fm_rapid.specs.Reach.{owner_of, started_by}
use Rattle.fm_same.specs.Covering.{Enters}
use Rattle.fm_types.proofs.EachCheckRow.{is_number}
use Rattle.fm_types.specs.ArrayRows.{is_array_of}
use Rattle.fm_types.specs.Named.{throwable_type}
use Rattle.fm_types.specs.Typed.{type_of_use}
use Rattle.fm_world.specs.Chains.{is_sub}
use Rattle.fm_world.specs.Programs.{class_of_type, Outline}
use Rattle.fm_world.specs.Uses.{array_of, base_of_elem}
use Rattle.fm_world.specs.declared.uses.Use.{Use}
use Rattle.fm_world.specs.declared.uses.Use.TheVariants as resolved

-- a method that is called is in the set, and none is entered by itself
abbrev pub LeadsIn : List Bool → Next → Type 0
LeadsIn methods (Calls m) = has methods m ≡ true
LeadsIn methods (EntersMethods ms) = ⊥
LeadsIn methods next = Unit {0}

-- the effect leads so, and has no class started but the one that the instruction uses
pub record Goes (o : Outline) (methods : List Bool) (i : Insn) (u : Use) (e : Effect) : Type 0 where
  pub next : LeadsIn methods e.next
  pub starts : IfSome e.starts (λ class. started_by o i u ≡ Some class)

module _ (o : Outline) (s : List Sight) (method : ℕ) (byte : Option ℕ) (methods : List Bool) where
  -- the methods that the instruction can enter are in the set
  abbrev pub EntersIn : Insn → Use → Type 0
  EntersIn i u = (target : ℕ) → Enters o method u s i target → has methods target ≡ true

  module _ (i : Insn) (u : Use) where
    abbrev G : Effect → Type 0
    G e = Goes o methods i u e

    fails : Failures o G
    fails = record {
      raised = λ x. record { next = tt; starts = tt };
      none = record { next = tt; starts = tt };
      lost = λ n. record { next = tt; starts = tt };
    }

    native_goes : (row : Native) → G (native_effect o row byte s)
    native_goes row =
        each_native o s G fails (λ n it seen hides. record { next = tt; starts = tt }) row
        (record {
          nothing = λ n takes result. record { next = tt; starts = tt };
          number = λ n shown is takes result z. record { next = tt; starts = tt };
          same = λ n takes result. record { next = tt; starts = tt };
          text_given = λ n takes result units fit. record { next = tt; starts = tt };
          byte = λ n takes result z. record { next = tt; starts = tt };
          printed = λ n takes result bytes. record { next = tt; starts = tt };
          exits = λ n takes z. record { next = tt; starts = tt };
          outside = record { next = tt; starts = tt };
          begun = λ it seen hides takes result. record { next = tt; starts = tt };
          text_put = λ n operand it seen hides takes result units fit. record { next = tt; starts = tt };
          itself = λ is. record { next = tt; starts = tt };
          appended = λ shown is it seen builds units fit. record { next = tt; starts = tt };
          message_put = λ is it seen fits. record { next = tt; starts = tt };
          message_given = λ is it seen fits. record { next = tt; starts = tt };
          class_given = λ is it seen type inside. record { next = tt; starts = tt };
          unnumbered = λ is it seen none. record { next = tt; starts = tt };
          freed = λ is it seen. record { next = tt; starts = tt };
          unlinked = λ is. record { next = tt; starts = tt };
          linked = λ is it seen loose. record { next = tt; starts = tt };
          chain_freed = λ is. record { next = tt; starts = tt };
          copied = λ is it seen may. record { next = tt; starts = tt };
          uncopied = λ is. record { next = tt; starts = tt };
        })
        byte

    entered_goes : (count target : ℕ) → has methods target ≡ true → G (entered_as o count target byte s (native_of o target))
    entered_goes count target is = entered_cases o s byte G count target (record { next = is; starts = tt }) (λ row native. native_goes row)

    -- ---- constants, jumps and returns

    constant_goes : (used : Use) → G (numbers.constant_effect o used)
    unfolding numbers.constant_effect
    constant_goes (resolved.OfInt n) = record { next = tt; starts = tt }
    constant_goes (resolved.OfLong n) = record { next = tt; starts = tt }
    constant_goes (resolved.OfText text) = record { next = tt; starts = tt }
    constant_goes (resolved.OfType t) = record { next = tt; starts = tt }
    constant_goes (resolved.OfField f t) = fails.none
    constant_goes (resolved.OfMethod m t) = fails.none
    constant_goes resolved.Unused = fails.none

    jump_goes : (takes : ℕ) (taken : Bool) → G (going takes (jumps.jumps_if taken))
    jump_goes takes true = record { next = tt; starts = tt }
    jump_goes takes false = record { next = tt; starts = tt }

    return_goes : (value : Option Reg) → G (jumps.return_effect value)
    unfolding jumps.return_effect
    return_goes None = record { next = tt; starts = tt }
    return_goes (Some reg.Int) = record { next = tt; starts = tt }
    return_goes (Some reg.Long) = record { next = tt; starts = tt }
    return_goes (Some reg.Ref) = record { next = tt; starts = tt }

    throw_goes : G (jumps.throw_effect o s)
    unfolding jumps.throw_effect
    throw_goes =
        by_object G o (throwable_type o) s 0 _ (record { next = tt; starts = tt }) fails.none (fails.lost 0)
        (λ it seen fits. record { next = tt; starts = tt })

    number_goes : is_number i ≡ true → G (effect_of o method u i byte s)
    number_goes is =
        each_number o s method u byte G i is (record {
          int = λ n at k each. by_int G s n k fails.none each;
          long = λ n at k each. by_long G s n k fails.none each;
          thrown = record { next = tt; starts = tt };
          gives = λ n. record { next = tt; starts = tt };
        })

    -- ---- objects, fields and casts

    made_goes : (t : TypeRef) (class : Option ℕ) → ((c : ℕ) → class ≡ Some c → started_by o i u ≡ Some c) → G (objects.made_of o t class)
    made_goes t None starts = fails.none
    made_goes t (Some class) starts = record { next = tt; starts = starts class refl }

    get_static_goes : (index : ℕ) → i ≡ insn.GetStatic index → G (objects.get_static_effect o u)
    unfolding objects.get_static_effect
    get_static_goes index is =
        by_on_field G o u _ fails.none (λ f n t used at. record { next = tt; starts = ap (λ j. started_by o j u) is ∙ ap (owner_of o) used })

    put_static_goes : (index : ℕ) → i ≡ insn.PutStatic index → G (objects.put_static_effect o u)
    unfolding objects.put_static_effect
    put_static_goes index is =
        by_on_field G o u _ fails.none (λ f n t used at. record { next = tt; starts = ap (λ j. started_by o j u) is ∙ ap (owner_of o) used })

    new_goes : (index : ℕ) → i ≡ insn.New index → G (objects.new_effect o u)
    unfolding objects.new_effect
    new_goes index is =
        by_on_type G o u _ fails.none
        (λ n t used at. made_goes t (class_of_type t)
        (λ class of. ap (λ j. started_by o j u) is ∙ ap (λ v. option_and_then class_of_type (type_of_use o v)) used
        ∙ ap (option_and_then class_of_type) at ∙ of))

    get_field_goes : G (objects.get_field_effect o u s)
    unfolding objects.get_field_effect
    get_field_goes =
        by_on_field G o u _ fails.none
        (λ f n t used at. by_object G o t s 0 _ (record { next = tt; starts = tt }) fails.none (fails.lost 0)
        (λ it seen fits. record { next = tt; starts = tt }))

    put_field_goes : G (objects.put_field_effect o u s)
    unfolding objects.put_field_effect
    put_field_goes =
        by_on_field G o u _ fails.none
        (λ f n t used at. by_object G o t s (kind_words (objects.kind_of_field o f.0)) _ (record { next = tt; starts = tt }) fails.none
        (fails.lost (kind_words (objects.kind_of_field o f.0))) (λ it seen fits. record { next = tt; starts = tt }))

    cast_goes : G (objects.cast_effect o u s)
    unfolding objects.cast_effect
    cast_goes =
        by_on_type G o u _ fails.none
        (λ n t used at. by_held G _ s 0 _ (record { next = tt; starts = tt }) fails.none (fails.lost 0)
        (λ it seen. by_if G (is_sub o.classes it.type t) _ (thrown o (codes "java/lang/ClassCastException"))
        (λ passes. record { next = tt; starts = tt }) (λ fails_here. record { next = tt; starts = tt })))

    is_a_goes : G (objects.is_a_effect o u s)
    unfolding objects.is_a_effect
    is_a_goes =
        by_on_type G o u _ fails.none
        (λ n t used at. by_held G _ s 0 _ (record { next = tt; starts = tt }) fails.none (fails.lost 0)
        (λ it seen. record { next = tt; starts = tt }))

    -- ---- arrays

    by_element : (e : Elem) (index : ℕ) (follows : Looks → ℕ → Effect) → ((it : Looks) (place : ℕ) → G (follows it place)) → G (on_element o e s index follows)
    by_element e index follows some =
        by_passing G o (λ it. is_array_of e it.type) s (index + 1) _ (record { next = tt; starts = tt }) fails.none (fails.lost (index + 1))
        (λ it seen passes. by_int G s index _ fails.none
        (λ n. by_if G (int_lt n (pos 0) || not (int_lt n (pos it.len))) (thrown o (codes "java/lang/ArrayIndexOutOfBoundsException"))
        (follows it (unsigned_abs n)) (λ out. record { next = tt; starts = tt }) (λ inside. some it (unsigned_abs n))))

    load_goes : (e : Elem) → G (arrays.array_load_effect o e s)
    unfolding arrays.array_load_effect
    load_goes e =
        by_element e 0 (λ it place. words 2 (loaded (arrays.element_kind it.type) (OfPlace 1 place (arrays.element_kind it.type))))
        (λ it place. record { next = tt; starts = tt })

    put_goes : (n : ℕ) (it : Looks) (place : ℕ) → G (put_element n it place)
    put_goes n it place = record { next = tt; starts = tt }

    reference_goes : (it : Looks) (place : ℕ) → G (put_reference o s it place)
    reference_goes it place =
        by_held G (put_element 1 it place) s 0 _ (put_goes 1 it place) fails.none (fails.lost 0)
        (λ v held. by_if G (is_sub o.classes v.type (arrays.element_type it.type)) (put_element 1 it place) (thrown o (codes "java/lang/ArrayStoreException"))
        (λ fits. put_goes 1 it place) (λ fails_here. record { next = tt; starts = tt }))

    store_goes : (e : Elem) → G (arrays.array_store_effect o e s)
    unfolding arrays.array_store_effect
    store_goes elem.Ref = by_element elem.Ref 1 (λ it place. put_reference o s it place) reference_goes
    store_goes elem.Boolean = by_element elem.Boolean 1 (put_element 1) (put_goes 1)
    store_goes elem.Byte = by_element elem.Byte 1 (put_element 1) (put_goes 1)
    store_goes elem.Char = by_element elem.Char 1 (put_element 1) (put_goes 1)
    store_goes elem.Short = by_element elem.Short 1 (put_element 1) (put_goes 1)
    store_goes elem.Int = by_element elem.Int 1 (put_element 1) (put_goes 1)
    store_goes elem.Long = by_element elem.Long 2 (put_element 2) (put_goes 2)

    length_goes : G (arrays.length_effect o s)
    unfolding arrays.length_effect
    length_goes =
        by_passing G o (λ it. nat_lt 0 it.type.dims) s 0 (λ it. words 1 (int_word (pos it.len))) (record { next = tt; starts = tt }) fails.none (fails.lost 0)
        (λ it seen passes. record { next = tt; starts = tt })

    counted_goes : (array : Option TypeRef) → G (arrays.array_made o array s)
    counted_goes None = fails.none
    counted_goes (Some t) =
        by_int G s 0 _ fails.none
        (λ n. by_if G (int_lt n (pos 0)) (arrays.thrown_negative o) (making 1 (Make t (unsigned_abs n) []))
        (λ negative. record { next = tt; starts = tt }) (λ positive. record { next = tt; starts = tt }))

    new_array_goes : (e : Elem) → G (arrays.new_array_effect o e s)
    unfolding arrays.new_array_effect
    new_array_goes e = counted_goes (option_map (λ (b : Base). record { dims = 1; base = b }) (base_of_elem e))

    new_references_goes : G (arrays.new_references_effect o u s)
    unfolding arrays.new_references_effect
    new_references_goes = by_on_type G o u _ fails.none (λ n t used at. counted_goes (array_of t))

    nested_goes : (t : TypeRef) (dimensions : ℕ) (counts : Option (List ℤ)) → G (arrays.arrays_of o t dimensions counts)
    nested_goes t dimensions None = fails.none
    nested_goes t dimensions (Some counts) =
        by_if G (list_any (λ n. int_lt n (pos 0)) counts) (arrays.thrown_negative o) _
        (λ negative. record { next = tt; starts = tt }) (λ positive. record { next = tt; starts = tt })

    multi_array_goes : (dimensions : ℕ) → G (arrays.multi_array_effect o u dimensions s)
    unfolding arrays.multi_array_effect
    multi_array_goes dimensions =
        by_on_type G o u _ fails.none
        (λ n t used at. nested_goes t dimensions (arrays.ints_at s (reverse (range_with_len 0 dimensions))))

  -- ---- all instructions

  pub insn_goes : (i : Insn) (u : Use) → EntersIn i u → Goes o methods i u (effect_of o method u i byte s)
  unfolding effect_of numbers.load_effect numbers.store_effect numbers.move_effect jumps.int_jump_effect jumps.pair_jump_effect jumps.null_jump_effect jumps.table_effect jumps.lookup_effect
  insn_goes insn.Nop u enters = record { next = tt; starts = tt }
  insn_goes insn.Null u enters = record { next = tt; starts = tt }
  insn_goes (insn.Const n) u enters = record { next = tt; starts = tt }
  insn_goes (insn.LongConst n) u enters = record { next = tt; starts = tt }
  insn_goes (insn.LoadPool index) u enters = constant_goes (insn.LoadPool index) u u
  insn_goes (insn.Load reg.Int k) u enters = record { next = tt; starts = tt }
  insn_goes (insn.Load reg.Long k) u enters = record { next = tt; starts = tt }
  insn_goes (insn.Load reg.Ref k) u enters = record { next = tt; starts = tt }
  insn_goes (insn.Store reg.Int k) u enters = record { next = tt; starts = tt }
  insn_goes (insn.Store reg.Long k) u enters = record { next = tt; starts = tt }
  insn_goes (insn.Store reg.Ref k) u enters = record { next = tt; starts = tt }
  insn_goes (insn.Inc k by) u enters = record { next = tt; starts = tt }
  insn_goes insn.Pop u enters = record { next = tt; starts = tt }
  insn_goes insn.Pop2 u enters = record { next = tt; starts = tt }
  insn_goes insn.Dup u enters = record { next = tt; starts = tt }
  insn_goes insn.DupX1 u enters = record { next = tt; starts = tt }
  insn_goes insn.DupX2 u enters = record { next = tt; starts = tt }
  insn_goes insn.Dup2 u enters = record { next = tt; starts = tt }
  insn_goes insn.Dup2X1 u enters = record { next = tt; starts = tt }
  insn_goes insn.Dup2X2 u enters = record { next = tt; starts = tt }
  insn_goes insn.Swap u enters = record { next = tt; starts = tt }
  insn_goes (insn.IfInt test target) u enters =
      by_int (G (insn.IfInt test target) u) s 0 _ (fails (insn.IfInt test target) u).none (λ a. jump_goes (insn.IfInt test target) u 1 _)
  insn_goes (insn.IfPair test target) u enters =
      by_int (G (insn.IfPair test target) u) s 0 _ (fails (insn.IfPair test target) u).none
      (λ b. by_int (G (insn.IfPair test target) u) s 1 _ (fails (insn.IfPair test target) u).none (λ a. jump_goes (insn.IfPair test target) u 2 _))
  insn_goes (insn.IfSame same target) u enters = record { next = tt; starts = tt }
  insn_goes (insn.IfNull is_null target) u enters =
      by_reference (G (insn.IfNull is_null target) u) s 0 _ (fails (insn.IfNull is_null target) u).none (λ b. jump_goes (insn.IfNull is_null target) u 1 _)
  insn_goes (insn.Goto target) u enters = record { next = tt; starts = tt }
  insn_goes (insn.Table low others targets) u enters =
      by_int (G (insn.Table low others targets) u) s 0 _ (fails (insn.Table low others targets) u).none (λ key. record { next = tt; starts = tt })
  insn_goes (insn.Lookup others keys targets) u enters =
      by_int (G (insn.Lookup others keys targets) u) s 0 _ (fails (insn.Lookup others keys targets) u).none (λ key. record { next = tt; starts = tt })
  insn_goes (insn.Return value) u enters = return_goes (insn.Return value) u value
  insn_goes insn.Throw u enters = throw_goes insn.Throw u
  insn_goes (insn.New index) u enters = new_goes (insn.New index) u index refl
  insn_goes (insn.GetStatic index) u enters = get_static_goes (insn.GetStatic index) u index refl
  insn_goes (insn.PutStatic index) u enters = put_static_goes (insn.PutStatic index) u index refl
  insn_goes (insn.GetField index) u enters = get_field_goes (insn.GetField index) u
  insn_goes (insn.PutField index) u enters = put_field_goes (insn.PutField index) u
  insn_goes (insn.Cast index) u enters = cast_goes (insn.Cast index) u
  insn_goes (insn.IsA index) u enters = is_a_goes (insn.IsA index) u
  insn_goes (insn.ArrayLoad e) u enters = load_goes (insn.ArrayLoad e) u e
  insn_goes (insn.ArrayStore e) u enters = store_goes (insn.ArrayStore e) u e
  insn_goes insn.Length u enters = length_goes insn.Length u
  insn_goes (insn.NewArray e) u enters = new_array_goes (insn.NewArray e) u e
  insn_goes (insn.NewRefs index) u enters = new_references_goes (insn.NewRefs index) u
  insn_goes (insn.MultiArray index dimensions) u enters = multi_array_goes (insn.MultiArray index dimensions) u dimensions
  insn_goes (insn.Virtual index) u enters =
      virtual_row o s method u byte (G (insn.Virtual index) u) (fails (insn.Virtual index) u)
      (λ m n t it target used at seen fits found. entered_goes (insn.Virtual index) u (words_of_arguments o m.0 + 1) target
      (enters target (record { method = m; type = n; named = used; of = t; of_is = at; receiver = it; seen = seen; passes = fits; selected = found })))
  insn_goes (insn.Interface index) u enters =
      interface_row o s method u byte (G (insn.Interface index) u) (fails (insn.Interface index) u)
      (λ m n t it target used at seen fits found. entered_goes (insn.Interface index) u (words_of_arguments o m.0 + 1) target
      (enters target (record { method = m; type = n; named = used; of = t; of_is = at; receiver = it; seen = seen; passes = fits; selected = found })))
  insn_goes (insn.Special index) u enters =
      special_row o s method u byte (G (insn.Special index) u) (fails (insn.Special index) u)
      (λ m n t target used at special. entered_goes (insn.Special index) u (words_of_arguments o m.0 + 1) target
      (enters target (record { method = m; type = n; named = used; of = t; of_is = at; is = special })))
  insn_goes (insn.Static index) u enters =
      static_row o s method u byte (G (insn.Static index) u) (fails (insn.Static index) u)
      (λ m n t used at. record {
        next = (entered_goes (insn.Static index) u (words_of_arguments o m.0) m.0
            (enters m.0 (record { method = m; type = n; named = used; is = refl }))).next;
        starts = ap (owner_of o) used;
      })
  insn_goes (insn.LeftOut opcode) u enters = (fails (insn.LeftOut opcode) u).none
  insn_goes i u enters = number_goes i u refl
