-- Which instruction has a quick code, and where quick codes are.
use Rattle.std.proofs.Common.{◌≡◌, ℕ, ◌+◌, ◌<◌, List, [], ◌∷◌, length, Option, None, Some, option_and_then, option_map, refl, sym, ap, ◌∙◌, subst, slice_get, arith, zero-add}
use Rattle.std.proofs.lemmas.List.{length-map}
use Rattle.std.proofs.lemmas.List.FromFn.{get_or-map-range_with_len, length-map-range_with_len}
use Rattle.std.proofs.lemmas.Option.{get_or_from_slice_get, none-some, same_Some, slice_get-map, slice_get_within}
use Rattle.fm_base.proofs.OptionFacts.{option_and_then-some, option_map-some}
use Rattle.fm_code.specs.Edges.{insn_of}
use Rattle.fm_code.specs.declared.code_array.Code.{Code}
use Rattle.fm_code.specs.declared.code_array.Item.{Item}
use Rattle.fm_code.specs.declared.instructions.Insn.{Insn}
use Rattle.fm_code.specs.declared.instructions.Insn.TheVariants as insn
use Rattle.fm_code.specs.declared.operations.Elem.{Elem}
use Rattle.fm_code.specs.declared.operations.Elem.TheVariants as elem
use Rattle.fm_code.specs.declared.operations.Op.{Op}
use Rattle.fm_code.specs.declared.operations.Op.TheVariants as op
use Rattle.fm_code.specs.declared.operations.Reg.{Reg}
use Rattle.fm_code.specs.declared.operations.Reg.TheVariants as reg
use Rattle.fm_code.specs.declared.operations.Test.{Test}
use Rattle.fm_code.specs.declared.operations.Test.TheVariants as test
use Rattle.fm_frames.specs.CallRows.{words_of_arguments}
use Rattle.fm_frames.specs.ObjectRows.{class_of_field, kind_of_field}
use Rattle.fm_frames.specs.States.{Frame, State}
use Rattle.fm_frames.specs.inner.Frames.{place_of, topmost}
use Rattle.fm_run.proofs.OperandSteps.{by_getfield, by_getstatic, by_putfield, by_special, by_static, by_virtual}
use Rattle.fm_run.specs.declared.quick.Quick.{Quick}
use Rattle.fm_run.specs.declared.quick.Quick.TheVariants as quick
use Rattle.fm_run.specs.inner.Flats.{IsFlatNext, item_in, method_in}
use Rattle.fm_run.specs.inner.Nexts.{HasCode, StandsIn}
use Rattle.fm_run.specs.inner.Operands.{as_byte, as_short, quick_checkcast, quick_getfield, quick_getstatic, quick_putfield, quick_special, quick_static, quick_virtual, target_of}
use Rattle.fm_run.specs.inner.Quicks.{AreNextQuicks, codes_of, IsQuickNext, quick_array_load, quick_array_store, quick_if_int, quick_if_pair, quick_int_op, quick_load, quick_of, quick_return, quick_store, quicks_for, quicks_in}
use Rattle.fm_types.specs.Typed.{use_in}
use Rattle.fm_world.specs.Members.{methods_of, slot_of}
use Rattle.fm_world.specs.Programs.{code_at, Outline, Program}
use Rattle.fm_world.specs.declared.uses.Use.{Use}
use Rattle.fm_world.specs.declared.uses.Use.TheVariants as used

-- ---- the instruction of a quick code

-- the instruction that has this quick code; where several have it, the one given
abbrev pub insn_for : Quick → Insn → Insn
insn_for quick.Other i = i
insn_for (quick.Iconst n) i = insn.Const n
insn_for (quick.Iload place) i = insn.Load reg.Int place
insn_for (quick.Lload place) i = insn.Load reg.Long place
insn_for (quick.Aload place) i = insn.Load reg.Ref place
insn_for (quick.Istore place) i = insn.Store reg.Int place
insn_for (quick.Lstore place) i = insn.Store reg.Long place
insn_for (quick.Astore place) i = insn.Store reg.Ref place
insn_for (quick.Iinc place by) i = insn.Inc place by
insn_for quick.Dup i = insn.Dup
insn_for quick.Iadd i = insn.IntOp op.Add
insn_for quick.Isub i = insn.IntOp op.Sub
insn_for quick.Imul i = insn.IntOp op.Mul
insn_for quick.Idiv i = insn.IntOp op.Div
insn_for quick.Irem i = insn.IntOp op.Rem
insn_for quick.Iand i = insn.IntOp op.And
insn_for quick.Ior i = insn.IntOp op.Or
insn_for quick.Ixor i = insn.IntOp op.Xor
insn_for (quick.Ifeq target) i = insn.IfInt test.Eq target
insn_for (quick.Ifne target) i = insn.IfInt test.Ne target
insn_for (quick.Iflt target) i = insn.IfInt test.Lt target
insn_for (quick.Ifge target) i = insn.IfInt test.Ge target
insn_for (quick.Ifgt target) i = insn.IfInt test.Gt target
insn_for (quick.Ifle target) i = insn.IfInt test.Le target
insn_for (quick.IfIcmpeq target) i = insn.IfPair test.Eq target
insn_for (quick.IfIcmpne target) i = insn.IfPair test.Ne target
insn_for (quick.IfIcmplt target) i = insn.IfPair test.Lt target
insn_for (quick.IfIcmpge target) i = insn.IfPair test.Ge target
insn_for (quick.IfIcmpgt target) i = insn.IfPair test.Gt target
insn_for (quick.IfIcmple target) i = insn.IfPair test.Le target
insn_for (quick.Goto target) i = insn.Goto target
insn_for quick.Baload i = insn.ArrayLoad elem.Byte
insn_for quick.Caload i = insn.ArrayLoad elem.Char
insn_for quick.Saload i = insn.ArrayLoad elem.Short
insn_for quick.Iaload i = insn.ArrayLoad elem.Int
insn_for quick.Laload i = insn.ArrayLoad elem.Long
insn_for quick.Aaload i = insn.ArrayLoad elem.Ref
insn_for quick.Bastore i = insn.ArrayStore elem.Byte
insn_for quick.Castore i = insn.ArrayStore elem.Char
insn_for quick.Sastore i = insn.ArrayStore elem.Short
insn_for quick.Iastore i = insn.ArrayStore elem.Int
insn_for quick.Lastore i = insn.ArrayStore elem.Long
insn_for quick.Arraylength i = insn.Length
insn_for (quick.Getfield index) i = insn.GetField index
insn_for (quick.Putfield index) i = insn.PutField index
insn_for (quick.Getstatic index) i = insn.GetStatic index
insn_for (quick.GetfieldInt place named) i = i
insn_for (quick.GetfieldRef place named) i = i
insn_for (quick.PutfieldInt place named) i = i
insn_for (quick.PutfieldRef place named) i = i
insn_for (quick.GetstaticInt place class) i = i
insn_for (quick.GetstaticRef place class) i = i
insn_for (quick.Checkcast t) i = i
insn_for (quick.Invokevirtual words named m) i = i
insn_for (quick.Invokespecial words target) i = i
insn_for (quick.Invokestatic words m) i = i
insn_for (quick.Invokeinterface index) i = insn.Interface index
insn_for quick.Return i = insn.Return None
insn_for quick.Ireturn i = insn.Return (Some reg.Int)
insn_for quick.Lreturn i = insn.Return (Some reg.Long)
insn_for quick.Areturn i = insn.Return (Some reg.Ref)

load-back : (k : Reg) (place : ℕ) → insn_for (quick_load k place) (insn.Load k place) ≡ insn.Load k place
load-back reg.Int place = refl
load-back reg.Long place = refl
load-back reg.Ref place = refl

store-back : (k : Reg) (place : ℕ) → insn_for (quick_store k place) (insn.Store k place) ≡ insn.Store k place
store-back reg.Int place = refl
store-back reg.Long place = refl
store-back reg.Ref place = refl

int_op-back : (o : Op) → insn_for (quick_int_op o) (insn.IntOp o) ≡ insn.IntOp o
int_op-back op.Add = refl
int_op-back op.Sub = refl
int_op-back op.Mul = refl
int_op-back op.Div = refl
int_op-back op.Rem = refl
int_op-back op.And = refl
int_op-back op.Or = refl
int_op-back op.Xor = refl

if_int-back : (t : Test) (target : ℕ) → insn_for (quick_if_int t target) (insn.IfInt t target) ≡ insn.IfInt t target
if_int-back test.Eq target = refl
if_int-back test.Ne target = refl
if_int-back test.Lt target = refl
if_int-back test.Ge target = refl
if_int-back test.Gt target = refl
if_int-back test.Le target = refl

if_pair-back : (t : Test) (target : ℕ) → insn_for (quick_if_pair t target) (insn.IfPair t target) ≡ insn.IfPair t target
if_pair-back test.Eq target = refl
if_pair-back test.Ne target = refl
if_pair-back test.Lt target = refl
if_pair-back test.Ge target = refl
if_pair-back test.Gt target = refl
if_pair-back test.Le target = refl

array_load-back : (e : Elem) → insn_for (quick_array_load e) (insn.ArrayLoad e) ≡ insn.ArrayLoad e
array_load-back elem.Boolean = refl
array_load-back elem.Byte = refl
array_load-back elem.Char = refl
array_load-back elem.Short = refl
array_load-back elem.Int = refl
array_load-back elem.Long = refl
array_load-back elem.Ref = refl

array_store-back : (e : Elem) → insn_for (quick_array_store e) (insn.ArrayStore e) ≡ insn.ArrayStore e
array_store-back elem.Boolean = refl
array_store-back elem.Byte = refl
array_store-back elem.Char = refl
array_store-back elem.Short = refl
array_store-back elem.Int = refl
array_store-back elem.Long = refl
array_store-back elem.Ref = refl

return-back : (value : Option Reg) → insn_for (quick_return value) (insn.Return value) ≡ insn.Return value
return-back None = refl
return-back (Some reg.Int) = refl
return-back (Some reg.Long) = refl
return-back (Some reg.Ref) = refl

getfield-back : (o : Outline) (index : ℕ) (u : Use) → insn_for (quick_getfield o u index) (insn.GetField index) ≡ insn.GetField index
getfield-back o index (used.OfField f named) =
    by_getfield (λ q. insn_for q (insn.GetField index) ≡ insn.GetField index) (kind_of_field o f.0) named index (as_short (slot_of o.classes f.0)) refl
    (λ place at is. refl) (λ place at t is. refl)
getfield-back o index u = refl

putfield-back : (o : Outline) (index : ℕ) (u : Use) → insn_for (quick_putfield o u index) (insn.PutField index) ≡ insn.PutField index
putfield-back o index (used.OfField f named) =
    by_putfield (λ q. insn_for q (insn.PutField index) ≡ insn.PutField index) (kind_of_field o f.0) named index (as_short (slot_of o.classes f.0)) refl
    (λ place at is. refl) (λ place at t is. refl)
putfield-back o index u = refl

getstatic-back : (o : Outline) (index : ℕ) (u : Use) → insn_for (quick_getstatic o u index) (insn.GetStatic index) ≡ insn.GetStatic index
getstatic-back o index (used.OfField f named) =
    by_getstatic (λ q. insn_for q (insn.GetStatic index) ≡ insn.GetStatic index) (kind_of_field o f.0) (class_of_field o f.0) index
    (as_short (slot_of o.classes f.0)) refl (λ place at is. refl) (λ place at t is. refl)
getstatic-back o index u = refl

checkcast-back : (index : ℕ) (u : Use) → insn_for (quick_checkcast u) (insn.Cast index) ≡ insn.Cast index
checkcast-back index (used.OfType t) = refl
checkcast-back index u = refl

static-back : (o : Outline) (index : ℕ) (u : Use) → insn_for (quick_static o u) (insn.Static index) ≡ insn.Static index
static-back o index (used.OfMethod m named) =
    by_static (λ q. insn_for q (insn.Static index) ≡ insn.Static index) m (as_short (words_of_arguments o m.0)) refl (λ words are. refl)
static-back o index u = refl

virtual-back : (o : Outline) (index : ℕ) (u : Use) → insn_for (quick_virtual o u) (insn.Virtual index) ≡ insn.Virtual index
virtual-back o index (used.OfMethod m named) =
    by_virtual (λ q. insn_for q (insn.Virtual index) ≡ insn.Virtual index) m (as_short named.0) (as_byte (words_of_arguments o m.0 + 1)) refl
    (λ n words is are. refl)
virtual-back o index u = refl

special-back : (o : Outline) (caller index : ℕ) (u : Use) → insn_for (quick_special o caller u) (insn.Special index) ≡ insn.Special index
special-back o caller index (used.OfMethod m named) =
    by_special (λ q. insn_for q (insn.Special index) ≡ insn.Special index) (target_of o caller m named) (as_short (words_of_arguments o m.0 + 1)) refl
    (λ words are. refl)
special-back o caller index u = refl

-- each instruction is that of its quick code
insn-back : (p : Program) (method : ℕ) (i : Insn) → insn_for (quick_of p method i) i ≡ i
insn-back p method (insn.Const n) = refl
insn-back p method (insn.Load kind place) = load-back kind place
insn-back p method (insn.Store kind place) = store-back kind place
insn-back p method (insn.Inc place by) = refl
insn-back p method insn.Dup = refl
insn-back p method (insn.IntOp o) = int_op-back o
insn-back p method (insn.IfInt t target) = if_int-back t target
insn-back p method (insn.IfPair t target) = if_pair-back t target
insn-back p method (insn.Goto target) = refl
insn-back p method (insn.ArrayLoad e) = array_load-back e
insn-back p method (insn.ArrayStore e) = array_store-back e
insn-back p method insn.Length = refl
insn-back p method (insn.GetField index) = getfield-back p.outline index (use_in p method index)
insn-back p method (insn.PutField index) = putfield-back p.outline index (use_in p method index)
insn-back p method (insn.GetStatic index) = getstatic-back p.outline index (use_in p method index)
insn-back p method (insn.Cast index) = checkcast-back index (use_in p method index)
insn-back p method (insn.Virtual index) = virtual-back p.outline index (use_in p method index)
insn-back p method (insn.Special index) = special-back p.outline method index (use_in p method index)
insn-back p method (insn.Static index) = static-back p.outline index (use_in p method index)
insn-back p method (insn.Interface index) = refl
insn-back p method (insn.Return value) = return-back value
insn-back p method i = refl

pub insn-is : (p : Program) (method : ℕ) (i : Insn) (q : Quick) → quick_of p method i ≡ q → i ≡ insn_for q i
insn-is p method i q has = sym (insn-back p method i) ∙ ap (λ q. insn_for q i) has

-- ---- by item

-- that of an item is that of its instruction
pub quick-at : (p : Program) (method : ℕ) (items : List Item) (quicks : List Quick) (item : ℕ) (i : Insn) (q : Quick) → quicks ≡ quicks_for p method items
    → option_map (λ (x : Item). x.insn) (slice_get items item) ≡ Some i → slice_get quicks item ≡ Some q → quick_of p method i ≡ q
quick-at p method items quicks item i q are here there =
    let f : Item → Quick = λ x. quick_of p method x.insn in
    let found = option_map-some (λ (x : Item). x.insn) (slice_get items item) i here in
    let of : Some (quick_of p method found.0.insn) ≡ Some q =
    sym (ap (option_map f) found.1) ∙ sym (slice_get-map f items item) ∙ ap (λ qs. slice_get qs item) (sym are) ∙ there in
    sym (ap (quick_of p method) found.2) ∙ same_Some _ _ of

-- as many as items
pub quicks-long : (p : Program) (method : ℕ) (items : List Item) (quicks : List Quick) → quicks ≡ quicks_for p method items → length quicks ≡ length items
quicks-long p method items quicks are = ap length are ∙ length-map items (λ (x : Item). quick_of p method x.insn)

-- those of a method
quicks-of : (p : Program) (codes : List (List Quick)) (m : ℕ) (quicks : List Quick) → codes ≡ codes_of p → slice_get codes m ≡ Some quicks
    → quicks ≡ quicks_in p m (code_at p m)
quicks-of p codes m quicks are there =
    let n = length (methods_of p.outline.classes) in
    let g : ℕ → List Quick = λ m. quicks_in p m (code_at p m) in
    let at : slice_get (codes_of p) m ≡ Some quicks = subst (λ codes. slice_get codes m ≡ Some quicks) are there in
    let inside = slice_get_within (codes_of p) m quicks at in
    let long = length-map-range_with_len g 0 n in
    sym (get_or_from_slice_get (codes_of p) m quicks [] at)
    ∙ get_or-map-range_with_len g 0 n m m [] (omega (arith, inside, long)) (zero-add m)

-- ---- those of the method that the topmost frame is in

pub method-there : (frames : List Frame) (place : ℕ × ℕ) → Some place ≡ option_map place_of (topmost frames) → method_in frames ≡ Some place.0
method-there [] place is = absurd (none-some place (sym is))
method-there (f ∷ callers) place is = ap (λ (q : ℕ × ℕ). Some q.0) (sym (same_Some _ _ is))

pub next-quicks : (p : Program) (codes : List (List Quick)) (frames : List Frame) (place : ℕ × ℕ) (quicks : List Quick) → codes ≡ codes_of p
    → Some place ≡ option_map place_of (topmost frames) → slice_get codes place.0 ≡ Some quicks → AreNextQuicks p frames quicks
next-quicks p codes frames place quicks are there found =
    λ m is.
    let same : place.0 ≡ m = same_Some _ _ (sym (method-there frames place there) ∙ is) in
    quicks-of p codes place.0 quicks are found ∙ ap (λ n. quicks_in p n (code_at p n)) same

-- one for each item of its code
pub quicks-here : (p : Program) (frames : List Frame) (place : ℕ × ℕ) (quicks : List Quick) (code : Code) → AreNextQuicks p frames quicks
    → Some place ≡ option_map place_of (topmost frames) → code_at p place.0 ≡ Some code → quicks ≡ quicks_for p place.0 code.items
quicks-here p frames place quicks code are there is = are place.0 (method-there frames place there) ∙ ap (quicks_in p place.0) is

-- they stay the same as long as it is in that method
pub quicks-stay : (p : Program) (old new : List Frame) (method : ℕ) (quicks : List Quick) → AreNextQuicks p old quicks → method_in old ≡ Some method
    → method_in new ≡ Some method → AreNextQuicks p new quicks
quicks-stay p old new method quicks are before after = λ m is. are m (before ∙ sym after ∙ is)

-- ---- the instruction that is next

-- it is found in the code of its method, by the item that is next
insn-there : (p : Program) (x : State) (method : ℕ) (code : Code) (i : Insn) → code_at p method ≡ Some code → StandsIn p x method i
    → insn_of code (item_in x.frames) ≡ Some i
insn-there p x method code i code_is stands =
    let frame = stands.at.frame in
    let here : code_at p frame.method ≡ Some code = ap (code_at p) stands.method_is ∙ code_is in
    ap (insn_of code) (ap item_in stands.at.frames_is)
    ∙ sym (ap (λ found. option_and_then (λ (code : Code). insn_of code frame.item) found) here)
    ∙ stands.at.insn_is

pub next-coded : (p : Program) (budget : ℕ) (x : State) (method : ℕ) (q : Quick) → IsQuickNext p budget x method q → HasCode p method
next-coded p budget x method q next =
    let frame = next.2.at.at.frame in
    let found = option_and_then-some (λ (code : Code). insn_of code frame.item) (code_at p frame.method) next.0 next.2.at.at.insn_is in
    (found.0, sym (ap (code_at p) next.2.at.method_is) ∙ found.1)

pub next-inside : (p : Program) (budget : ℕ) (x : State) (method : ℕ) (code : Code) (q : Quick) → code_at p method ≡ Some code
    → IsQuickNext p budget x method q → item_in x.frames < length code.items
next-inside p budget x method code q code_is next =
    let there = insn-there p x method code next.0 code_is next.2.at in
    let found = option_map-some (λ (item : Item). item.insn) (slice_get code.items (item_in x.frames)) next.0 there in
    slice_get_within code.items (item_in x.frames) found.0 found.1

pub next-found : (p : Program) (budget : ℕ) (x : State) (method : ℕ) (code : Code) (q : Quick) (i : Insn) → code_at p method ≡ Some code
    → IsQuickNext p budget x method q → insn_of code (item_in x.frames) ≡ Some i → IsFlatNext p budget x method i
next-found p budget x method code q i code_is next found =
    subst (IsFlatNext p budget x method) (same_Some _ _ (sym (insn-there p x method code next.0 code_is next.2.at) ∙ found)) next.2
