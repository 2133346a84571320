-- What `==` tells of class files and their parts: they are one.
use Rattle.std.proofs.Common.{ℕ, ℤ, int_eq, ◌≡◌, ◌∙◌, true, false, Bool, ◌&&◌, ◌⊎◌, sym, refl, ap, inl, inr, List, [], ◌∷◌, Option, Some, None}
use Rattle.std.proofs.lemmas.Bool.{false≢true}
use Rattle.std.proofs.lemmas.Bool.Decides.{Decides-and, Decides-eqb, Decides-int_eq, Decides-like}
use Rattle.std.specs.Prelude.{Decides}
use Rattle.std.specs.Cmp.Lexicographic.{pointwise}
use Rattle.std.proofs.lemmas.Slice.Eq.{slice_eq-Decides}
use Rattle.std.specs.Prelude.{nat_eq}
use Rattle.std.specs.Option.{option_eq}
use mathlib.Core.Bool.{beq}
use denote.Struct.Field.{Field}
use denote.Struct.Values.{Values}
use denote.Enum.Bare.{Bare, same_true, sameb, true_same}
use denote.Enum.Declared.{Choice, Declared, intoss}
use denote.Enum.Compared.{by, Each}
use Rattle.fm_code.specs.contracts.instructions.Insn as the_insn
use Rattle.fm_code.specs.contracts.instructions.InsnPartialEq.TheImpl as same_insn
use Rattle.fm_code.specs.contracts.operations.Conv as the_conv
use Rattle.fm_code.specs.contracts.operations.Elem as the_elem
use Rattle.fm_code.specs.contracts.operations.Op as the_op
use Rattle.fm_code.specs.contracts.operations.Reg as the_reg
use Rattle.fm_code.specs.contracts.operations.Shift as the_shift
use Rattle.fm_code.specs.contracts.operations.Test as the_test
use Rattle.fm_code.specs.contracts.code_array.ItemPartialEq.TheImpl as same_item
use Rattle.fm_code.specs.declared.code_array.Item.{Item}
use Rattle.fm_code.specs.contracts.code_array.HandlerPartialEq.TheImpl as same_handler
use Rattle.fm_code.specs.declared.code_array.Handler.{Handler}
use Rattle.fm_code.specs.contracts.code_array.LinePartialEq.TheImpl as same_line
use Rattle.fm_code.specs.declared.code_array.Line.{Line}
use Rattle.fm_code.specs.contracts.code_array.VarPartialEq.TheImpl as same_var
use Rattle.fm_code.specs.declared.code_array.Var.{Var}
use Rattle.fm_code.specs.contracts.class_file.RawPartialEq.TheImpl as same_raw
use Rattle.fm_code.specs.declared.class_file.Raw.{Raw}
use Rattle.fm_code.specs.contracts.code_array.CodeAttr as the_code_attr
use Rattle.fm_code.specs.contracts.code_array.CodeAttrPartialEq.TheImpl as same_code_attr
use Rattle.fm_code.specs.declared.code_array.CodeAttr.{CodeAttr}
use Rattle.fm_code.specs.contracts.code_array.CodePartialEq.TheImpl as same_code
use Rattle.fm_code.specs.declared.code_array.Code.{Code}
use Rattle.fm_code.specs.contracts.class_file.MemberAttr as the_member_attr
use Rattle.fm_code.specs.contracts.class_file.MemberAttrPartialEq.TheImpl as same_member_attr
use Rattle.fm_code.specs.declared.class_file.MemberAttr.{MemberAttr}
use Rattle.fm_code.specs.contracts.class_file.MemberPartialEq.TheImpl as same_member
use Rattle.fm_code.specs.declared.class_file.Member.{Member}
use Rattle.fm_code.specs.contracts.constant_pool.Entry as the_entry
use Rattle.fm_code.specs.contracts.constant_pool.EntryPartialEq.TheImpl as same_entry
use Rattle.fm_code.specs.declared.constant_pool.Entry.{Entry}
use Rattle.fm_code.specs.contracts.constant_pool.PoolPartialEq.TheImpl as same_pool
use Rattle.fm_code.specs.declared.constant_pool.Pool.{Pool}
use Rattle.fm_code.specs.contracts.class_file.ClassDefPartialEq.TheImpl as same_class
use Rattle.fm_code.specs.declared.class_file.ClassDef.{ClassDef}
use Rattle.fm_code.specs.declared.instructions.Insn.{Insn}
use Rattle.fm_code.specs.declared.operations.Conv.{Conv}
use Rattle.fm_code.specs.declared.operations.Elem.{Elem}
use Rattle.fm_code.specs.declared.operations.Op.{Op}
use Rattle.fm_code.specs.declared.operations.Reg.{Reg}
use Rattle.fm_code.specs.declared.operations.Shift.{Shift}
use Rattle.fm_code.specs.declared.operations.Test.{Test}

-- a test decides whether two values are one
abbrev pub Compares : {X : Type 0} → (X → X → Bool) → Type 0
Compares {X} test = (a b : X) → Decides (test a b) (a ≡ b)

-- ---- fields

pub nothing : (x y : Unit {0}) → Decides true (x ≡ y)
nothing x y = (λ e. refl, λ e. refl)

pub one : {X : Type 0} {f : X → X → Bool} → Compares f → (x y : X × Unit {0}) → Decides (f x.0 y.0) (x ≡ y)
one {X} compares x y = (λ e. λ k. ((compares x.0 y.0).0 e k, tt), λ same. (compares x.0 y.0).1 (ap (λ (p : X × Unit {0}). p.0) same))

pub more : {X Y : Type 0} {f : X → X → Bool} {g : Y → Y → Bool} → Compares f → Compares g → (x y : X × Y) → Decides (f x.0 y.0 && g x.1 y.1) (x ≡ y)
more {X} {Y} {f} {g} first rest x y =
    let both = Decides-and (f x.0 y.0) (g x.1 y.1) (first x.0 y.0) (rest x.1 y.1) in (
      λ e. let parts = both.0 e in λ k. (parts.0 k, parts.1 k),
      λ same. both.1 (ap (λ (p : X × Y). p.0) same, ap (λ (p : X × Y). p.1) same),
    )

pub option_decides : {X : Type 0} {f : X → X → Bool} → Compares f → (o p : Option X) → Decides (option_eq f o p) (o ≡ p)
option_decides compares None None = (λ e. refl, λ e. refl)
option_decides compares None (Some b) = (λ e. absurd (false≢true e), λ e. absurd cc)
option_decides compares (Some a) None = (λ e. absurd (false≢true e), λ e. absurd cc)
option_decides compares (Some a) (Some b) = (λ e. ap (λ x. Some x) ((compares a b).0 e), λ e. (compares a b).1 cc)

truths : (a b : Bool) → Decides (beq a b) (a ≡ b)
truths true true = (λ e. refl, λ e. refl)
truths true false = (λ e. sym e, λ e. sym e)
truths false true = (λ e. e, λ e. e)
truths false false = (λ e. refl, λ e. refl)

-- ---- variants

-- each variant's fields are compared
abbrev pub CompareEach : (Fss : List (List Field)) → Each Bool Fss → Type 0
CompareEach [] each = Unit {0}
CompareEach (Fs ∷ Fss) each = ((x y : Values Fs) → Decides (each.0 x y) (x ≡ y)) × CompareEach Fss each.1

pub by_decides : (Fss : List (List Field)) (each : Each Bool Fss) → CompareEach Fss each → (c d : Choice Fss) → Decides (by false false Fss each c d) (c ≡ d)
by_decides [] each all c d = absurd c
by_decides (Fs ∷ Fss) each all (inl x) (inl y) = (λ e. ap inl ((all.0 x y).0 e), λ e. (all.0 x y).1 cc)
by_decides (Fs ∷ Fss) each all (inl x) (inr y) = (λ e. absurd (false≢true e), λ e. absurd cc)
by_decides (Fs ∷ Fss) each all (inr x) (inl y) = (λ e. absurd (false≢true e), λ e. absurd cc)
by_decides (Fs ∷ Fss) each all (inr x) (inr y) =
    Decides-like (by false false Fss each.1 x y) (λ same. ap inr same) (λ e. cc) (by_decides Fss each.1 all.1 x y)

-- an enum is compared as its variants are
pub from_choice : (D : Declared) (test : D.D → D.D → Bool) (values : D.D → Choice D.parts) → ((x : D.D) → D.to x ≡ intoss D.parts (values x))
    → ((x y : D.D) → Decides (test x y) (values x ≡ values y)) → (a b : D.D) → Decides (test a b) (a ≡ b)
from_choice D test values is compares a b =
    Decides-like (test a b) (λ same. D.to_one a b (is a ∙ ap (intoss D.parts) same ∙ sym (is b))) (λ same. ap values same) (compares a b)

-- variants without fields
pub bare_decides : (D : Declared) → Bare D.parts → (a b : D.D) → Decides (sameb D a b) (a ≡ b)
bare_decides D bare a b = (same_true D bare a b, true_same D a b)

-- ---- instructions

reg : (a b : Reg) → Decides (sameb the_reg.the_type a b) (a ≡ b)
reg = bare_decides the_reg.the_type tt

elem : (a b : Elem) → Decides (sameb the_elem.the_type a b) (a ≡ b)
elem = bare_decides the_elem.the_type tt

op : (a b : Op) → Decides (sameb the_op.the_type a b) (a ≡ b)
op = bare_decides the_op.the_type tt

shift : (a b : Shift) → Decides (sameb the_shift.the_type a b) (a ≡ b)
shift = bare_decides the_shift.the_type tt

conv : (a b : Conv) → Decides (sameb the_conv.the_type a b) (a ≡ b)
conv = bare_decides the_conv.the_type tt

test : (a b : Test) → Decides (sameb the_test.the_type a b) (a ≡ b)
test = bare_decides the_test.the_type tt

pub numbers : (xs ys : List ℕ) → Decides (pointwise nat_eq xs ys) (xs ≡ ys)
numbers xs ys = slice_eq-Decides Decides-eqb xs ys _ refl

keys : (xs ys : List ℤ) → Decides (pointwise int_eq xs ys) (xs ≡ ys)
keys xs ys = slice_eq-Decides Decides-int_eq xs ys _ refl

pub insn_decides : (a b : Insn) → Decides ((same_insn.ghosts).eq a b) (a ≡ b)
insn_decides = from_choice the_insn.the_type (same_insn.ghosts).eq _ (λ x. refl) (λ x y. by_decides the_insn.the_type.parts _
    (nothing, (nothing, (one Decides-int_eq, (one Decides-int_eq, (one Decides-eqb, (more reg (one Decides-eqb), (more reg (one Decides-eqb), (one elem, (one elem, (nothing, (nothing, (nothing, (nothing, (nothing, (nothing, (nothing, (nothing, (nothing, (one op, (one op, (nothing, (nothing, (one shift, (one shift, (more Decides-eqb (one Decides-int_eq), (one conv, (nothing, (more test (one Decides-eqb), (more test (one Decides-eqb), (more truths (one Decides-eqb), (more truths (one Decides-eqb), (one Decides-eqb, (more Decides-int_eq (more Decides-eqb (one numbers)), (more Decides-eqb (more keys (one numbers)), (one (option_decides reg), (one Decides-eqb, (one Decides-eqb, (one Decides-eqb, (one Decides-eqb, (one Decides-eqb, (one Decides-eqb, (one Decides-eqb, (one Decides-eqb, (one Decides-eqb, (one elem, (one Decides-eqb, (nothing, (nothing, (one Decides-eqb, (one Decides-eqb, (more Decides-eqb (one Decides-eqb), (one Decides-eqb, tt))))))))))))))))))))))))))))))))))))))))))))))))))))
    _ _)

-- ---- records

lists : {X : Type 0} {f : X → X → Bool} → Compares f → (xs ys : List X) → Decides (pointwise f xs ys) (xs ≡ ys)
lists compares xs ys = slice_eq-Decides compares xs ys _ refl

abbrev item_values : Item → ℕ × ((List ℕ) × (Insn × Unit {0}))
item_values r = (r.offset, (r.bytes, (r.insn, tt)))

pub item_decides : (a b : Item) → Decides ((same_item.ghosts).eq a b) (a ≡ b)
item_decides a b =
    Decides-like _ (λ same. λ k. record { offset = (same k).0; bytes = (same k).1.0; insn = (same k).1.1.0 }) (ap item_values)
    (more Decides-eqb (more numbers (one insn_decides)) (item_values a) (item_values b))

abbrev handler_values : Handler → ℕ × (ℕ × (ℕ × (ℕ × Unit {0})))
handler_values r = (r.start, (r.end, (r.handler, (r.catch_class, tt))))

pub handler_decides : (a b : Handler) → Decides ((same_handler.ghosts).eq a b) (a ≡ b)
handler_decides a b =
    Decides-like _ (λ same. λ k. record { start = (same k).0; end = (same k).1.0; handler = (same k).1.1.0; catch_class = (same k).1.1.1.0 }) (ap handler_values)
    (more Decides-eqb (more Decides-eqb (more Decides-eqb (one Decides-eqb))) (handler_values a) (handler_values b))

abbrev line_values : Line → ℕ × (ℕ × Unit {0})
line_values r = (r.item, (r.line, tt))

pub line_decides : (a b : Line) → Decides ((same_line.ghosts).eq a b) (a ≡ b)
line_decides a b =
    Decides-like _ (λ same. λ k. record { item = (same k).0; line = (same k).1.0 }) (ap line_values)
    (more Decides-eqb (one Decides-eqb) (line_values a) (line_values b))

abbrev var_values : Var → ℕ × (ℕ × (ℕ × (ℕ × (ℕ × Unit {0}))))
var_values r = (r.start, (r.end, (r.name, (r.kind, (r.index, tt)))))

pub var_decides : (a b : Var) → Decides ((same_var.ghosts).eq a b) (a ≡ b)
var_decides a b =
    Decides-like _ (λ same. λ k. record { start = (same k).0; end = (same k).1.0; name = (same k).1.1.0; kind = (same k).1.1.1.0; index = (same k).1.1.1.1.0 }) (ap var_values)
    (more Decides-eqb (more Decides-eqb (more Decides-eqb (more Decides-eqb (one Decides-eqb)))) (var_values a) (var_values b))

abbrev raw_values : Raw → ℕ × ((List ℕ) × Unit {0})
raw_values r = (r.name, (r.bytes, tt))

pub raw_decides : (a b : Raw) → Decides ((same_raw.ghosts).eq a b) (a ≡ b)
raw_decides a b =
    Decides-like _ (λ same. λ k. record { name = (same k).0; bytes = (same k).1.0 }) (ap raw_values)
    (more Decides-eqb (one numbers) (raw_values a) (raw_values b))

pub code_attr_decides : (a b : CodeAttr) → Decides ((same_code_attr.ghosts).eq a b) (a ≡ b)
code_attr_decides = from_choice the_code_attr.the_type (same_code_attr.ghosts).eq _ (λ x. refl) (λ x y. by_decides the_code_attr.the_type.parts _
    (more Decides-eqb (one (lists line_decides)), (more Decides-eqb (more truths (one (lists var_decides))), (one raw_decides, tt)))
    _ _)

abbrev code_values : Code → ℕ × (ℕ × ((List Item) × (ℕ × ((List Handler) × ((List CodeAttr) × Unit {0})))))
code_values r = (r.max_stack, (r.max_locals, (r.items, (r.length, (r.handlers, (r.attributes, tt))))))

pub code_decides : (a b : Code) → Decides ((same_code.ghosts).eq a b) (a ≡ b)
code_decides a b =
    Decides-like _ (λ same. λ k. record { max_stack = (same k).0; max_locals = (same k).1.0; items = (same k).1.1.0; length = (same k).1.1.1.0; handlers = (same k).1.1.1.1.0; attributes = (same k).1.1.1.1.1.0 }) (ap code_values)
    (more Decides-eqb (more Decides-eqb (more (lists item_decides) (more Decides-eqb (more (lists handler_decides) (one (lists code_attr_decides)))))) (code_values a) (code_values b))

pub member_attr_decides : (a b : MemberAttr) → Decides ((same_member_attr.ghosts).eq a b) (a ≡ b)
member_attr_decides = from_choice the_member_attr.the_type (same_member_attr.ghosts).eq _ (λ x. refl) (λ x y. by_decides the_member_attr.the_type.parts _
    (more Decides-eqb (one Decides-eqb), (more Decides-eqb (one code_decides), (one raw_decides, tt)))
    _ _)

abbrev member_values : Member → ℕ × (ℕ × (ℕ × ((List MemberAttr) × Unit {0})))
member_values r = (r.flags, (r.name, (r.descriptor, (r.attributes, tt))))

pub member_decides : (a b : Member) → Decides ((same_member.ghosts).eq a b) (a ≡ b)
member_decides a b =
    Decides-like _ (λ same. λ k. record { flags = (same k).0; name = (same k).1.0; descriptor = (same k).1.1.0; attributes = (same k).1.1.1.0 }) (ap member_values)
    (more Decides-eqb (more Decides-eqb (more Decides-eqb (one (lists member_attr_decides)))) (member_values a) (member_values b))

pub entry_decides : (a b : Entry) → Decides ((same_entry.ghosts).eq a b) (a ≡ b)
entry_decides = from_choice the_entry.the_type (same_entry.ghosts).eq _ (λ x. refl) (λ x y. by_decides the_entry.the_type.parts _
    (one numbers, (one Decides-int_eq, (one Decides-eqb, (one Decides-int_eq, (one Decides-eqb, (one Decides-eqb, (one Decides-eqb, (more Decides-eqb (one Decides-eqb), (more Decides-eqb (one Decides-eqb), (more Decides-eqb (one Decides-eqb), (more Decides-eqb (one Decides-eqb), (more Decides-eqb (one Decides-eqb), (one Decides-eqb, (more Decides-eqb (one Decides-eqb), (nothing, tt)))))))))))))))
    _ _)

abbrev pool_values : Pool → (List Entry) × Unit {0}
pool_values r = (r.entries, tt)

pub pool_decides : (a b : Pool) → Decides ((same_pool.ghosts).eq a b) (a ≡ b)
pool_decides a b =
    Decides-like _ (λ same. λ k. record { entries = (same k).0 }) (ap pool_values)
    (one (lists entry_decides) (pool_values a) (pool_values b))

abbrev class_values : ClassDef → ℕ × (ℕ × (Pool × (ℕ × (ℕ × (ℕ × ((List ℕ) × ((List Member) × ((List Member) × ((List Raw) × Unit {0})))))))))
class_values r = (r.minor, (r.major, (r.pool, (r.flags, (r.this_class, (r.super_class, (r.interfaces, (r.fields, (r.methods, (r.attributes, tt))))))))))

pub class_decides : (a b : ClassDef) → Decides ((same_class.ghosts).eq a b) (a ≡ b)
class_decides a b =
    Decides-like _ (λ same. λ k. record { minor = (same k).0; major = (same k).1.0; pool = (same k).1.1.0; flags = (same k).1.1.1.0; this_class = (same k).1.1.1.1.0; super_class = (same k).1.1.1.1.1.0; interfaces = (same k).1.1.1.1.1.1.0; fields = (same k).1.1.1.1.1.1.1.0; methods = (same k).1.1.1.1.1.1.1.1.0; attributes = (same k).1.1.1.1.1.1.1.1.1.0 }) (ap class_values)
    (more Decides-eqb (more Decides-eqb (more pool_decides (more Decides-eqb (more Decides-eqb (more Decides-eqb (more numbers (more (lists member_decides) (more (lists member_decides) (one (lists raw_decides)))))))))) (class_values a) (class_values b))

-- ---- lists of them

pub member_lists : (xs ys : List Member) → Decides (pointwise (same_member.ghosts).eq xs ys) (xs ≡ ys)
member_lists = lists member_decides

pub raw_lists : (xs ys : List Raw) → Decides (pointwise (same_raw.ghosts).eq xs ys) (xs ≡ ys)
raw_lists = lists raw_decides

-- ---- codes that there may be

-- what a test decides holds, or it doesn't
decided : (P : Type 0) (b : Bool) → Decides b P → P ⊎ (P → ⊥)
decided P true decides = inl (decides.0 refl)
decided P false decides = inr (λ p. false≢true (decides.1 p))

pub are_same_codes : (xs ys : List (Option Code)) → (xs ≡ ys) ⊎ (xs ≡ ys → ⊥)
are_same_codes xs ys = decided (xs ≡ ys) _ (lists (option_decides code_decides) xs ys)
