-- No abstract method is called by invokespecial: nothing is refused of the methods that its entries name (JVMS 6.5.invokespecial).
use Rattle.std.proofs.Common.{◌≡◌, refl, sym, ◌∙◌, ap, ℕ, zero, suc, ◌+◌, ◌||◌, Bool, false, List, [], ◌∷◌, length, slice_get, Contains, Option, Some, None, option_map, arith}
use Rattle.std.proofs.lemmas.Bool.{or_parts}
use Rattle.std.specs.List.{AllByRecursion, flat_map}
use Rattle.std.proofs.lemmas.Option.{none-some, same_Some}
use Rattle.fm_base.specs.declared.ids.MethodId.{MethodId}
use Rattle.fm_base.specs.declared.ids.TypeId.{TypeId}
use Rattle.fm_base.specs.declared.kinds.TypeRef.{TypeRef}
use Rattle.fm_code.specs.ConstantPool.{entry_at, MemberName}
use Rattle.fm_code.specs.Spells.{HasSpelling}
use Rattle.fm_code.specs.declared.class_file.ClassDef.{ClassDef}
use Rattle.fm_code.specs.declared.code_array.Code.{Code}
use Rattle.fm_code.specs.declared.code_array.Item.{Item}
use Rattle.fm_code.specs.declared.constant_pool.Entry.{Entry}
use Rattle.fm_code.specs.declared.constant_pool.Entry.TheVariants as entry
use Rattle.fm_code.specs.declared.instructions.Insn.TheVariants as insn
use Rattle.fm_link_names.proofs.SpelledNames.{named_class-is}
use Rattle.fm_link_refusals.proofs.CallsOfAbstracts.{calls_some}
use Rattle.fm_link_refusals.specs.inner.Abstracts.{call_refusals}
use Rattle.fm_law_linked.proofs.Calls.{call_there, IsCall}
use Rattle.fm_law_linked.proofs.CodedMethods.{item_there}
use Rattle.fm_law_linked.proofs.InterfaceCalls.{class_of_name, named_by, type_named}
use Rattle.fm_law_sound.specs.Resolved.{IsNamed}
use Rattle.fm_types.specs.Named.{class_of_method}
use Rattle.fm_world.proofs.Told.{special_target-unnamed}
use Rattle.fm_world.specs.BuiltIns.{built_in}
use Rattle.fm_world.specs.Causes.{abstract_call, calls_abstract, each_from, left_over, method_text, not_implemented, NotImplemented, Refusal, refused, refused_where}
use Rattle.fm_world.specs.Chains.{self_of}
use Rattle.fm_world.specs.Descriptors.{class_number}
use Rattle.fm_world.specs.Linking.{refused_methods, refused_not_implemented}
use Rattle.fm_world.specs.Lookups.{is_abstract_method, special_target}
use Rattle.fm_world.specs.Programs.{class_of_type, classes_of, Outline, outline_of, program_of}
use Rattle.fm_world.specs.Uses.{class_items, named_class, named_member}
use Rattle.fm_world.specs.declared.declarations.DeclaredClass.{DeclaredClass}
use Rattle.fm_world.specs.declared.uses.Use.TheVariants as resolved
use Rattle.fm_link_supers.proofs.ParentRefusals.{nil_left, nil_right, spelled_at, refused_not}

-- ---- what isn't refused of one file

none_each : (f : ClassDef → ℕ → List Refusal) (class : ℕ) (given : List ClassDef) (j : ℕ) (c : ClassDef) → each_from class f given ≡ []
    → slice_get given j ≡ Some c
    → f c (class + j) ≡ []
none_each f class [] j c none at = absurd (none-some c at)
none_each f class (d ∷ given) zero c none at =
    let here : class + 0 ≡ class = omega arith in
    ap (f c) here ∙ sym (ap (λ e. f e class) (same_Some d c at)) ∙ nil_left (f d class) (each_from (class + 1) f given) none
none_each f class (d ∷ given) (suc j) c none at =
    let here : class + suc j ≡ class + 1 + j = omega arith in
    ap (f c) here ∙ none_each f (class + 1) given j c (nil_right (f d class) (each_from (class + 1) f given) none) at

none_among : {X : Type 0} (f : X → List Refusal) (xs : List X) (x : X) → flat_map f xs ≡ [] → Contains xs x → f x ≡ []
none_among f [] x none (k, within, there) = absurd (omega (arith, within))
none_among f (y ∷ ys) x none (zero, within, there) = sym (ap f there) ∙ nil_left (f y) (flat_map f ys) none
none_among f (y ∷ ys) x none (suc k, within, there) = none_among f ys x (nil_right (f y) (flat_map f ys) none) (k, omega (arith, within), there)

-- no cause is known of abstract methods of the file at this place
pub file_implemented : (given : List ClassDef) (j : ℕ) (c : ClassDef) → refused_not_implemented given ≡ [] → slice_get given j ≡ Some c
    → not_implemented (classes_of given) c (length built_in + j) ≡ []
unfolding refused_not_implemented
file_implemented given j c none at = none_each (not_implemented (classes_of given)) (length built_in) given j c none at

-- ---- the class that is named

-- the class of a member that an entry names is what the entry names
pub member_class : (entries : List Entry) (index : ℕ) (m : MemberName) → named_member entries index ≡ Some m → named_class entries index ≡ Some m.class
member_class entries index m named = by_entry (entry_at entries index) refl named where
  by_entry : (e : Entry) → entry_at entries index ≡ e → named_member entries index ≡ Some m → named_class entries index ≡ Some m.class
  by_entry (entry.Class name) is found = absurd (none-some m (rw is at found))
  by_entry e is found = ap (named_by entries index) is ∙ ap (option_map (λ (n : MemberName). n.class)) found

-- the class of the type that a call names is the one that its entry names
pub number_named : (given : List ClassDef) → AllByRecursion HasSpelling given → (o : Outline) (code : Code) (caller index method type : ℕ) (wanted : Bool)
    (call : IsCall given o code caller index method type wanted) (named : TypeRef) → slice_get o.types type ≡ Some named → (class : ℕ)
    → class_of_type named ≡ Some class → class_number o.classes call.at.member.class ≡ Some class
number_named given spelled o code caller index method type wanted call named at class is =
    let entries = call.file.pool.entries in
    let of_type = type_named o entries index type named call.at.type_is at in
    let same : of_type.name ≡ call.at.member.class =
    same_Some of_type.name call.at.member.class (sym of_type.named ∙ member_class entries index call.at.member call.at.named) in
    let own = spelled_at given call.place call.file spelled call.file_is in
    sym (ap (class_number o.classes) same)
    ∙ class_of_name o.classes of_type.name named class (named_class-is call.file own index of_type.name of_type.named) of_type.type_is is

-- ---- the method that is called

call_right : (classes : List DeclaredClass) (c : ClassDef) (caller index : ℕ) (item : Item) (m : MemberName) (method : ℕ)
    → abstract_call classes c caller item ≡ []
    → item.insn ≡ insn.Special index
    → named_member c.pool.entries index ≡ Some m
    → (is_abstract_method classes method || is_abstract_method classes (special_target classes caller (class_number classes m.class) method))
    ≡ calls_abstract classes caller m
    → (is_abstract_method classes method ≡ false)
    × (is_abstract_method classes (special_target classes caller (class_number classes m.class) method) ≡ false)
call_right classes c caller index item m method none insn_is named calls =
    let here = sym (ap (refused_where (call_refusals classes c caller)) named)
    ∙ sym (ap (λ i. abstract_call classes c caller (record item { insn = i })) insn_is) ∙ none in
    or_parts (is_abstract_method classes method) (is_abstract_method classes (special_target classes caller (class_number classes m.class) method))
    (calls ∙ refused_not (calls_abstract classes caller m) (refused NotImplemented c (method_text m)) here)

-- no abstract method is called by invokespecial
pub special_there : (given : List ClassDef) (main : List ℕ) → AllByRecursion HasSpelling given → refused_methods given ≡ [] → refused_not_implemented given ≡ []
    → (method index : ℕ) (m : MethodId) (t : TypeId) (named : TypeRef)
    → IsNamed (program_of given main) method (insn.Special index) (resolved.OfMethod m t)
    → slice_get (outline_of given main).types t.0 ≡ Some named
    → is_abstract_method (outline_of given main).classes
    (special_target (outline_of given main).classes (class_of_method (outline_of given main) method) (class_of_type named) m.0) ≡ false
unfolding outline_of
special_there given main spelled none_missing none method index m t named x at = by_class (class_of_type named) refl where
  classes : List DeclaredClass
  classes = classes_of given

  caller : ℕ
  caller = class_of_method (outline_of given main) method

  call : IsCall given (outline_of given main) x.code caller index m.0 t.0 false
  call = call_there given main none_missing method x.item x.code (insn.Special index) index m t false x.code_is x.insn_is refl x.use_is refl

  right : (is_abstract_method classes m.0 ≡ false)
      × (is_abstract_method classes (special_target classes caller (class_number classes call.at.member.class) m.0) ≡ false)
  right =
      let found = item_there call.file call.member x.code x.item (insn.Special index) call.among call.code_is x.insn_is in
      let all = nil_right (left_over classes call.file (self_of classes (length built_in + call.place)))
      (flat_map (abstract_call classes call.file (length built_in + call.place)) (class_items call.file))
      (file_implemented given call.place call.file none call.file_is) in
      call_right classes call.file caller index found.item call.at.member m.0
      (ap (λ k. abstract_call classes call.file k found.item) call.class_is
      ∙ none_among (abstract_call classes call.file (length built_in + call.place)) (class_items call.file) found.item all found.among)
      found.insn_is call.at.named (sym (calls_some classes caller call.at.member m.0 call.at.found))

  number : (class : ℕ) → class_of_type named ≡ Some class → class_number classes call.at.member.class ≡ Some class
  number = number_named given spelled (outline_of given main) x.code caller index m.0 t.0 false call named at

  by_class : (o : Option ℕ) → class_of_type named ≡ o
      → is_abstract_method classes (special_target classes caller (class_of_type named) m.0) ≡ false
  by_class None e =
      ap (λ n. is_abstract_method classes (special_target classes caller n m.0)) e ∙ ap (is_abstract_method classes) (special_target-unnamed classes caller m.0) ∙ right.0
  by_class (Some class) e =
      ap (λ n. is_abstract_method classes (special_target classes caller n m.0)) (e ∙ sym (number class e)) ∙ right.1
