-- What the instructions of quick code name that has other operands than indices.
use Rattle.std.proofs.Common.{◌≡◌, ℕ, ◌+◌, Option, Some, None, refl, sym, ap, ◌∙◌, subst}
use Rattle.fm_base.specs.declared.kinds.Kind.TheVariants as kind
use Rattle.fm_base.specs.declared.kinds.TypeRef.{TypeRef}
use Rattle.fm_code.specs.declared.instructions.Insn.{Insn}
use Rattle.fm_code.specs.declared.instructions.Insn.TheVariants as insn
use Rattle.fm_code.specs.declared.operations.Elem.{Elem}
use Rattle.fm_code.specs.declared.operations.Elem.TheVariants as elem
use Rattle.fm_code.specs.declared.operations.Op.{Op}
use Rattle.fm_code.specs.declared.operations.Op.TheVariants as op
use Rattle.fm_code.specs.declared.operations.Reg.{Reg}
use Rattle.fm_code.specs.declared.operations.Reg.TheVariants as reg
use Rattle.fm_code.specs.declared.operations.Test.{Test}
use Rattle.fm_code.specs.declared.operations.Test.TheVariants as test
use Rattle.fm_frames.specs.CallRows.{words_of_arguments}
use Rattle.fm_frames.specs.ObjectRows.{class_of_field, kind_of_field}
use Rattle.fm_run.proofs.OperandSteps.{by_getfield, by_getstatic, by_putfield, by_special, by_static, by_virtual, byte-is, short-is}
use Rattle.fm_run.specs.declared.quick.Quick.{Quick}
use Rattle.fm_run.specs.declared.quick.Quick.TheVariants as quick
use Rattle.fm_run.specs.inner.Operands.{as_byte, as_short, IsSpecialCall, IsStaticCall, IsVirtualCall, NamesCast, NamesField, NamesStatic, quick_checkcast, quick_getfield, quick_getstatic, quick_putfield, quick_special, quick_static, quick_virtual, target_of}
use Rattle.fm_run.specs.inner.Quicks.{quick_array_load, quick_array_store, quick_if_int, quick_if_pair, quick_int_op, quick_load, quick_of, quick_return, quick_store}
use Rattle.fm_types.specs.Typed.{use_in}
use Rattle.fm_world.specs.Members.{slot_of}
use Rattle.fm_world.specs.Programs.{Program}
use Rattle.fm_world.specs.declared.uses.Use.{Use}
use Rattle.fm_world.specs.declared.uses.Use.TheVariants as used

-- what the operands of a quick code say of an instruction that has it; nothing where they are an index, a local variable or an item
abbrev pub Stands : Program → (method : ℕ) → Quick → Insn → Type 0
Stands p method (quick.GetfieldInt place named) i = NamesField p method insn.GetField kind.Int place named i
Stands p method (quick.GetfieldRef place named) i = (t : TypeRef) → NamesField p method insn.GetField (kind.Ref t) place named i
Stands p method (quick.PutfieldInt place named) i = NamesField p method insn.PutField kind.Int place named i
Stands p method (quick.PutfieldRef place named) i = (t : TypeRef) → NamesField p method insn.PutField (kind.Ref t) place named i
Stands p method (quick.GetstaticInt place class) i = NamesStatic p method kind.Int place class i
Stands p method (quick.GetstaticRef place class) i = (t : TypeRef) → NamesStatic p method (kind.Ref t) place class i
Stands p method (quick.Checkcast t) i = NamesCast p method t i
Stands p method (quick.Invokestatic words m) i = IsStaticCall p method words m i
Stands p method (quick.Invokevirtual words named m) i = IsVirtualCall p method words named m i
Stands p method (quick.Invokespecial words target) i = IsSpecialCall p method words target i
Stands p method q i = Unit {0}

module _ (p : Program) (method : ℕ) where
  getfield-stands : (index : ℕ) (u : Use) → use_in p method index ≡ u → Stands p method (quick_getfield p.outline u index) (insn.GetField index)
  getfield-stands index (used.OfField f named) is =
      let o = p.outline in
      by_getfield (λ q. Stands p method q (insn.GetField index)) (kind_of_field o f.0) named index (as_short (slot_of o.classes f.0)) tt
      (λ place at int. record {
        index = index;
        field = f;
        insn_is = refl;
        use_is = is;
        at = record { place_is = short-is (slot_of o.classes f.0) place at; kind_is = int };
      })
      (λ place at t reference any. record {
        index = index;
        field = f;
        insn_is = refl;
        use_is = is;
        at = record { place_is = short-is (slot_of o.classes f.0) place at; kind_is = (t, reference) };
      })
  getfield-stands index u is = tt

  putfield-stands : (index : ℕ) (u : Use) → use_in p method index ≡ u → Stands p method (quick_putfield p.outline u index) (insn.PutField index)
  putfield-stands index (used.OfField f named) is =
      let o = p.outline in
      by_putfield (λ q. Stands p method q (insn.PutField index)) (kind_of_field o f.0) named index (as_short (slot_of o.classes f.0)) tt
      (λ place at int. record {
        index = index;
        field = f;
        insn_is = refl;
        use_is = is;
        at = record { place_is = short-is (slot_of o.classes f.0) place at; kind_is = int };
      })
      (λ place at t reference any. record {
        index = index;
        field = f;
        insn_is = refl;
        use_is = is;
        at = record { place_is = short-is (slot_of o.classes f.0) place at; kind_is = (t, reference) };
      })
  putfield-stands index u is = tt

  getstatic-stands : (index : ℕ) (u : Use) → use_in p method index ≡ u → Stands p method (quick_getstatic p.outline u index) (insn.GetStatic index)
  getstatic-stands index (used.OfField f named) is =
      let o = p.outline in
      by_getstatic (λ q. Stands p method q (insn.GetStatic index)) (kind_of_field o f.0) (class_of_field o f.0) index (as_short (slot_of o.classes f.0)) tt
      (λ place at int. record {
        index = index;
        field = f;
        named = named;
        insn_is = refl;
        use_is = is;
        at = record { at = record { place_is = short-is (slot_of o.classes f.0) place at; kind_is = int }; class_is = refl };
      })
      (λ place at t reference any. record {
        index = index;
        field = f;
        named = named;
        insn_is = refl;
        use_is = is;
        at = record { at = record { place_is = short-is (slot_of o.classes f.0) place at; kind_is = (t, reference) }; class_is = refl };
      })
  getstatic-stands index u is = tt

  checkcast-stands : (index : ℕ) (u : Use) → use_in p method index ≡ u → Stands p method (quick_checkcast u) (insn.Cast index)
  checkcast-stands index (used.OfType t) is = record { index = index; insn_is = refl; use_is = is }
  checkcast-stands index u is = tt

  static-stands : (index : ℕ) (u : Use) → use_in p method index ≡ u → Stands p method (quick_static p.outline u) (insn.Static index)
  static-stands index (used.OfMethod m named) is =
      by_static (λ q. Stands p method q (insn.Static index)) m (as_short (words_of_arguments p.outline m.0)) tt
      (λ words are. (named, record { index = index; insn_is = refl; use_is = is }, sym (short-is (words_of_arguments p.outline m.0) words are)))
  static-stands index u is = tt

  virtual-stands : (index : ℕ) (u : Use) → use_in p method index ≡ u → Stands p method (quick_virtual p.outline u) (insn.Virtual index)
  virtual-stands index (used.OfMethod m named) is =
      by_virtual (λ q. Stands p method q (insn.Virtual index)) m (as_short named.0) (as_byte (words_of_arguments p.outline m.0 + 1)) tt
      (λ n words type are. (
        named,
        record { index = index; insn_is = refl; use_is = is },
        short-is named.0 n type,
        sym (byte-is (words_of_arguments p.outline m.0 + 1) words are),
      ))
  virtual-stands index u is = tt

  special-stands : (index : ℕ) (u : Use) → use_in p method index ≡ u → Stands p method (quick_special p.outline method u) (insn.Special index)
  special-stands index (used.OfMethod m named) is =
      by_special (λ q. Stands p method q (insn.Special index)) (target_of p.outline method m named) (as_short (words_of_arguments p.outline m.0 + 1)) tt
      (λ words are. (
        m,
        named,
        record { index = index; insn_is = refl; use_is = is },
        sym (short-is (words_of_arguments p.outline m.0 + 1) words are),
        refl,
      ))
  special-stands index u is = tt

  load-stands : (i : Insn) (k : Reg) (place : ℕ) → Stands p method (quick_load k place) i
  load-stands i reg.Int place = tt
  load-stands i reg.Long place = tt
  load-stands i reg.Ref place = tt

  store-stands : (i : Insn) (k : Reg) (place : ℕ) → Stands p method (quick_store k place) i
  store-stands i reg.Int place = tt
  store-stands i reg.Long place = tt
  store-stands i reg.Ref place = tt

  int_op-stands : (i : Insn) (o : Op) → Stands p method (quick_int_op o) i
  int_op-stands i op.Add = tt
  int_op-stands i op.Sub = tt
  int_op-stands i op.Mul = tt
  int_op-stands i op.Div = tt
  int_op-stands i op.Rem = tt
  int_op-stands i op.And = tt
  int_op-stands i op.Or = tt
  int_op-stands i op.Xor = tt

  if_int-stands : (i : Insn) (t : Test) (target : ℕ) → Stands p method (quick_if_int t target) i
  if_int-stands i test.Eq target = tt
  if_int-stands i test.Ne target = tt
  if_int-stands i test.Lt target = tt
  if_int-stands i test.Ge target = tt
  if_int-stands i test.Gt target = tt
  if_int-stands i test.Le target = tt

  if_pair-stands : (i : Insn) (t : Test) (target : ℕ) → Stands p method (quick_if_pair t target) i
  if_pair-stands i test.Eq target = tt
  if_pair-stands i test.Ne target = tt
  if_pair-stands i test.Lt target = tt
  if_pair-stands i test.Ge target = tt
  if_pair-stands i test.Gt target = tt
  if_pair-stands i test.Le target = tt

  array_load-stands : (i : Insn) (e : Elem) → Stands p method (quick_array_load e) i
  array_load-stands i elem.Boolean = tt
  array_load-stands i elem.Byte = tt
  array_load-stands i elem.Char = tt
  array_load-stands i elem.Short = tt
  array_load-stands i elem.Int = tt
  array_load-stands i elem.Long = tt
  array_load-stands i elem.Ref = tt

  array_store-stands : (i : Insn) (e : Elem) → Stands p method (quick_array_store e) i
  array_store-stands i elem.Boolean = tt
  array_store-stands i elem.Byte = tt
  array_store-stands i elem.Char = tt
  array_store-stands i elem.Short = tt
  array_store-stands i elem.Int = tt
  array_store-stands i elem.Long = tt
  array_store-stands i elem.Ref = tt

  return-stands : (i : Insn) (value : Option Reg) → Stands p method (quick_return value) i
  return-stands i None = tt
  return-stands i (Some reg.Int) = tt
  return-stands i (Some reg.Long) = tt
  return-stands i (Some reg.Ref) = tt

  stands : (i : Insn) → Stands p method (quick_of p method i) i
  stands (insn.Load k place) = load-stands (insn.Load k place) k place
  stands (insn.Store k place) = store-stands (insn.Store k place) k place
  stands (insn.IntOp o) = int_op-stands (insn.IntOp o) o
  stands (insn.IfInt t target) = if_int-stands (insn.IfInt t target) t target
  stands (insn.IfPair t target) = if_pair-stands (insn.IfPair t target) t target
  stands (insn.ArrayLoad e) = array_load-stands (insn.ArrayLoad e) e
  stands (insn.ArrayStore e) = array_store-stands (insn.ArrayStore e) e
  stands (insn.GetField index) = getfield-stands index (use_in p method index) refl
  stands (insn.PutField index) = putfield-stands index (use_in p method index) refl
  stands (insn.GetStatic index) = getstatic-stands index (use_in p method index) refl
  stands (insn.Cast index) = checkcast-stands index (use_in p method index) refl
  stands (insn.Virtual index) = virtual-stands index (use_in p method index) refl
  stands (insn.Special index) = special-stands index (use_in p method index) refl
  stands (insn.Static index) = static-stands index (use_in p method index) refl
  stands (insn.Return value) = return-stands (insn.Return value) value
  stands i = tt

  -- an instruction of a quick code that is known
  pub quick-stands : (i : Insn) (q known : Quick) → quick_of p method i ≡ q → q ≡ known → Stands p method known i
  quick-stands i q known has is = subst (λ q. Stands p method q i) (has ∙ is) (stands i)
