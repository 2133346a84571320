-- What the pool of a class that is spelled determines of its texts and of the names of its classes.
use Rattle.std.proofs.Common.{◌≡◌, ℕ, Bool, List, Option, Some, None, refl, ap, subst, ◌∙◌}
use Rattle.std.specs.List.{AllByRecursion}
use Rattle.std.specs.Option.{option_and_then, option_map}
use Rattle.fm_base.specs.Texts.{IsModifiedUtf8}
use Rattle.fm_base.proofs.ListFacts.{AllByRecursion-get_or, AllByRecursion-weaker}
use Rattle.fm_base.proofs.OptionFacts.{IsSomeAnd-at_some, IsSomeAnd-weaker}
use Rattle.fm_code.specs.AccessFlags.{is_interface}
use Rattle.fm_code.specs.ConstantPool.{entry_at, utf8_at, class_name_at, named_and_typed_at, MemberName, member_named, field_ref_at, method_ref_at, interface_method_ref_at, EntryIsValid}
use Rattle.fm_code.specs.Members.{MethodIsValid, receiver_words}
use Rattle.fm_code.specs.Names.{IsClassName, IsMethodDescriptor}
use Rattle.fm_code.specs.Profile.{class_named}
use Rattle.fm_code.specs.Spells.{Spells}
use Rattle.fm_code.specs.declared.class_file.ClassDef.{ClassDef}
use Rattle.fm_code.specs.declared.class_file.Member.{Member}
use Rattle.fm_code.specs.declared.constant_pool.Entry.{Entry}
use Rattle.fm_code.specs.declared.constant_pool.Entry.TheVariants as entry
use Rattle.fm_code.specs.declared.instructions.Insn.{Insn}
use Rattle.fm_code.specs.declared.instructions.Insn.TheVariants as insn
use Rattle.fm_read_limits.specs.inner.Declared.{PoolIsValid, IsMethodText, DeclaresMethod}

valid_at : (entries : List Entry) → PoolIsValid entries → (i : ℕ) → EntryIsValid entries (entry_at entries i)
valid_at entries pool i = AllByRecursion-get_or (EntryIsValid entries) entries entry.Second pool tt i

-- no text is there
no_text : {A : Type 0} (text : List ℕ) → None ≡ Some text → A
no_text text e = absurd cc

-- a text is modified UTF-8
text_of_entry : (entries : List Entry) (i : ℕ) (e : Entry) → entry_at entries i ≡ e → EntryIsValid entries e → (text : List ℕ) → utf8_at entries i ≡ Some text → IsModifiedUtf8 text
text_of_entry entries i (entry.Utf8 name) is valid text found = let same : Some name ≡ Some text = rw is at found in let name_is : name ≡ text = cc in subst IsModifiedUtf8 name_is valid
text_of_entry entries i e is valid text found = no_text text (rw is at found)

-- a class's name is a text, and names a class
pub record IsNameText (name : List ℕ) : Type 0 where
  pub modified : IsModifiedUtf8 name
  pub class : IsClassName name

name_of_entry : (entries : List Entry) → PoolIsValid entries → (i : ℕ) (e : Entry) → entry_at entries i ≡ e → EntryIsValid entries e → (name : List ℕ) → class_name_at entries i ≡ Some name → IsNameText name
name_of_entry entries pool i (entry.Class k) is valid name found =
    let text : utf8_at entries k ≡ Some name = rw is at found in
    record { modified = text_of_entry entries k (entry_at entries k) refl (valid_at entries pool k) name text; class = IsSomeAnd-at_some (utf8_at entries k) IsClassName name text valid }
name_of_entry entries pool i e is valid name found = no_text name (rw is at found)

pub class_text : (entries : List Entry) → PoolIsValid entries → (i : ℕ) (name : List ℕ) → class_name_at entries i ≡ Some name → IsNameText name
class_text entries pool i name found = name_of_entry entries pool i (entry_at entries i) refl (valid_at entries pool i) name found

-- ---- members

declared_method : (in_interface : Bool) (entries : List Entry) (m : Member) → MethodIsValid in_interface entries m → DeclaresMethod entries m
declared_method in_interface entries m valid =
    IsSomeAnd-weaker (utf8_at entries m.descriptor) (IsMethodDescriptor (receiver_words m.flags)) IsMethodText (λ d is. (is.0, (is.1.0, is.1.1.0))) valid.descriptor

pub methods_declared : (bytes : List ℕ) (c : ClassDef) → Spells bytes c → AllByRecursion (DeclaresMethod c.pool.entries) c.methods
methods_declared bytes c spells =
    AllByRecursion-weaker (MethodIsValid (is_interface c.flags) c.pool.entries) (DeclaresMethod c.pool.entries) (declared_method (is_interface c.flags) c.pool.entries) c.methods spells.methods

-- ---- what an instruction names

abbrev class_of : Option MemberName → Option (List ℕ)
class_of o = option_map (λ m. m.class) o

of_member : (entries : List Entry) → PoolIsValid entries → (class member : ℕ) (name : List ℕ) → class_of (member_named entries class member) ≡ Some name → IsClassName name
of_member entries pool class member name found = go (class_name_at entries class) refl (named_and_typed_at entries member) found where
  go : (o : Option (List ℕ)) → class_name_at entries class ≡ o → (p : Option (List ℕ × List ℕ))
      → class_of (option_and_then (λ c. option_and_then (λ pair. Some (record { class = c; name = pair.0; descriptor = pair.1 })) p) o) ≡ Some name → IsClassName name
  go None is p e = no_text name e
  go (Some text) is None e = no_text name e
  go (Some text) is (Some pair) e = let same : text ≡ name = cc in (class_text entries pool class name (is ∙ ap Some same)).class

field_class : (entries : List Entry) → PoolIsValid entries → (i : ℕ) (e : Entry) → entry_at entries i ≡ e → (name : List ℕ) → class_of (field_ref_at entries i) ≡ Some name → IsClassName name
field_class entries pool i (entry.Field class member) is name found = of_member entries pool class member name (rw is at found)
field_class entries pool i e is name found = no_text name (rw is at found)

method_class : (entries : List Entry) → PoolIsValid entries → (i : ℕ) (e : Entry) → entry_at entries i ≡ e → (name : List ℕ) → class_of (method_ref_at entries i) ≡ Some name → IsClassName name
method_class entries pool i (entry.Method class member) is name found = of_member entries pool class member name (rw is at found)
method_class entries pool i e is name found = no_text name (rw is at found)

interface_class : (entries : List Entry) → PoolIsValid entries → (i : ℕ) (e : Entry) → entry_at entries i ≡ e → (name : List ℕ) → class_of (interface_method_ref_at entries i) ≡ Some name → IsClassName name
interface_class entries pool i (entry.InterfaceMethod class member) is name found = of_member entries pool class member name (rw is at found)
interface_class entries pool i e is name found = no_text name (rw is at found)

-- the class that an instruction names has the name of a class
pub class_named_is : (entries : List Entry) → PoolIsValid entries → (i : Insn) (name : List ℕ) → class_named entries i ≡ Some name → IsClassName name
class_named_is entries pool (insn.LoadPool index) name found = (class_text entries pool index name found).class
class_named_is entries pool (insn.GetStatic index) name found = field_class entries pool index (entry_at entries index) refl name found
class_named_is entries pool (insn.PutStatic index) name found = field_class entries pool index (entry_at entries index) refl name found
class_named_is entries pool (insn.GetField index) name found = field_class entries pool index (entry_at entries index) refl name found
class_named_is entries pool (insn.PutField index) name found = field_class entries pool index (entry_at entries index) refl name found
class_named_is entries pool (insn.Virtual index) name found = method_class entries pool index (entry_at entries index) refl name found
class_named_is entries pool (insn.Special index) name found = method_class entries pool index (entry_at entries index) refl name found
class_named_is entries pool (insn.Static index) name found = method_class entries pool index (entry_at entries index) refl name found
class_named_is entries pool (insn.Interface index) name found = interface_class entries pool index (entry_at entries index) refl name found
class_named_is entries pool (insn.New index) name found = (class_text entries pool index name found).class
class_named_is entries pool (insn.NewRefs index) name found = (class_text entries pool index name found).class
class_named_is entries pool (insn.Cast index) name found = (class_text entries pool index name found).class
class_named_is entries pool (insn.IsA index) name found = (class_text entries pool index name found).class
class_named_is entries pool (insn.MultiArray index dimensions) name found = (class_text entries pool index name found).class
class_named_is entries pool i name found = no_text name found
