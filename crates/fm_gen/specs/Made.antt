-- The made class G(n), for n from 1 to 100: a large program of one class (JVMS 4.1). Its 101n + 1 methods are
-- f0, f1, .., of which there are 100n, and each returns a new object, its argument or null;
-- g0, g1, .., of which there are n, and each calls a hundred of those with a new object; and main, which calls these.
use Rattle.std.specs.Prelude.{ℕ, ◌+◌, ◌-◌, ◌*◌, ◌%◌, ◌==◌, List, [], ◌∷◌, ◌++◌, length, map, codes, Some, None, sum_by, if◌then◌else◌}
use Rattle.std.specs.Fmt.{decimal}
use Rattle.std.specs.List.{flat_map, range_with_len}
use Rattle.fm_code.specs.Numbers.{two}
use Rattle.fm_code.specs.declared.opcodes.TheConstants as opcodes
use Rattle.fm_code.specs.declared.operations.Reg.TheVariants as reg
use Rattle.fm_code.specs.declared.constant_pool.Entry.{Entry}
use Rattle.fm_code.specs.declared.constant_pool.Entry.TheVariants as entry
use Rattle.fm_code.specs.declared.class_file.ClassDef.{ClassDef}
use Rattle.fm_code.specs.declared.class_file.Member.{Member}
use Rattle.fm_code.specs.declared.class_file.MemberAttr.TheVariants as attribute
use Rattle.fm_code.specs.declared.code_array.Code.{Code}
use Rattle.fm_code.specs.declared.code_array.Item.{Item}
use Rattle.fm_code.specs.declared.instructions.Insn.{Insn}
use Rattle.fm_code.specs.declared.instructions.Insn.TheVariants as insn

-- ---- the constant pool (JVMS 4.4)

-- the entries 0 to 2: those of the class
abbrev pub own_entries : List Entry
own_entries = entry.Second ∷ entry.Utf8 (codes "G") ∷ entry.Class 1 ∷ []

-- 3 and 4: those of Object
abbrev pub object_entries : List Entry
object_entries = entry.Utf8 (codes "java/lang/Object") ∷ entry.Class 3 ∷ []

-- 5 to 8: those of its constructor
abbrev pub constructor_entries : List Entry
constructor_entries = entry.Utf8 (codes "<init>") ∷ entry.Utf8 (codes "()V") ∷ entry.NameAndType 5 6 ∷ entry.Method 4 7 ∷ []

-- 9 to 12: the texts of methods, but for names with a number
abbrev pub method_texts : List Entry
method_texts =
    entry.Utf8 (codes "(Ljava/lang/Object;)Ljava/lang/Object;") ∷ entry.Utf8 (codes "main") ∷ entry.Utf8 (codes "([Ljava/lang/String;)V")
    ∷ entry.Utf8 (codes "Code") ∷ []

-- all that are there for any n
unfoldable pub shared_entries : List Entry
shared_entries = own_entries ++ object_entries ++ constructor_entries ++ method_texts

-- after them each method but main has three: the first one is at this index, where the method is the k-th of the class, from 0 on
abbrev pub name_index : ℕ → ℕ
name_index k = 13 + 3 * k

-- they are the method's name, as f17, the name with the descriptor, and the method of G; `first` methods come before those of this letter
abbrev pub method_entries : List ℕ → ℕ → ℕ → ℕ → List Entry
method_entries letter descriptor first i =
    entry.Utf8 (letter ++ decimal i) ∷ entry.NameAndType (name_index (first + i)) descriptor ∷ entry.Method 2 (name_index (first + i) + 1) ∷ []

-- all entries
unfoldable pub made_entries : ℕ → List Entry
made_entries n =
    shared_entries ++ flat_map (method_entries (codes "f") 9 0) (range_with_len 0 (100 * n))
    ++ flat_map (method_entries (codes "g") 6 (100 * n)) (range_with_len 0 n)

-- ---- instructions (JVMS 6.5)

-- makes an object
abbrev pub new_object : List Insn
new_object = insn.New 4 ∷ insn.Dup ∷ insn.Special 8 ∷ []

-- calls the k-th method of the class
abbrev pub call : ℕ → Insn
call k = insn.Static (name_index k + 2)

-- makes an object and drops it, and gives null
abbrev pub dropped_object : List Insn
dropped_object = new_object ++ insn.Pop ∷ insn.Null ∷ []

-- gives the argument of fi where i mod 100 is 3, and else what f(i - 4) returns for it
abbrev pub argument : ℕ → List Insn
argument i = if i % 100 == 3 then insn.Load reg.Ref 0 ∷ [] else insn.Load reg.Ref 0 ∷ call (i - 4) ∷ []

-- gives the result of fi, by i mod 4
abbrev pub result_insns : ℕ → List Insn
result_insns i =
    if i % 4 == 0 then new_object else
    if i % 4 == 1 then insn.Load reg.Ref 0 ∷ [] else
    if i % 4 == 2 then dropped_object else argument i

-- of fi
unfoldable pub f_insns : ℕ → List Insn
f_insns i = result_insns i ++ insn.Return (Some reg.Ref) ∷ []

-- calls fi with a new object
abbrev pub tried : ℕ → List Insn
tried i = new_object ++ call i ∷ insn.Pop ∷ []

-- of gj: each of a hundred of these is called with a new object
unfoldable pub g_insns : ℕ → List Insn
g_insns j = flat_map (λ k. tried (100 * j + k)) (range_with_len 0 100) ++ insn.Return None ∷ []

-- of main: g0, g1, .. are called
unfoldable pub main_insns : ℕ → List Insn
main_insns n = map (λ j. call (100 * n + j)) (range_with_len 0 n) ++ insn.Return None ∷ []

-- ---- code (JVMS 4.7.3)

-- the bytes of an instruction that occurs above
abbrev pub bytes_of : Insn → List ℕ
bytes_of insn.Null = opcodes.ACONST_NULL ∷ []
bytes_of (insn.Load reg.Ref local) = opcodes.ALOAD_0 ∷ []
bytes_of insn.Pop = opcodes.POP ∷ []
bytes_of insn.Dup = opcodes.DUP ∷ []
bytes_of (insn.Return (Some reg.Ref)) = opcodes.ARETURN ∷ []
bytes_of (insn.Return None) = opcodes.RETURN ∷ []
bytes_of (insn.Special index) = opcodes.INVOKESPECIAL ∷ two index
bytes_of (insn.Static index) = opcodes.INVOKESTATIC ∷ two index
bytes_of (insn.New index) = opcodes.NEW ∷ two index
bytes_of i = []

-- and how many they are
abbrev pub size_of : Insn → ℕ
size_of i = length (bytes_of i)

-- an instruction at an offset
abbrev pub item_at : ℕ → Insn → Item
item_at offset i = record { offset = offset; bytes = bytes_of i; insn = i }

-- instructions one after the other, from an offset on
abbrev pub items_from : ℕ → List Insn → List Item
items_from offset [] = []
items_from offset (i ∷ insns) = item_at offset i ∷ items_from (offset + size_of i) insns

-- code of these instructions, without handlers
unfoldable pub code_with : ℕ → ℕ → List Insn → Code
code_with max_stack max_locals insns = record {
  max_stack = max_stack;
  max_locals = max_locals;
  items = items_from 0 insns;
  length = sum_by size_of insns;
  handlers = [];
  attributes = [];
}

-- ---- methods (JVMS 4.6)

-- a public static method
abbrev pub method_with : ℕ → ℕ → Code → Member
method_with name descriptor code = record { flags = 9; name = name; descriptor = descriptor; attributes = attribute.Coded 12 code ∷ [] }

-- fi
abbrev pub f_method : ℕ → Member
f_method i = method_with (name_index i) 9 (code_with 2 1 (f_insns i))

-- gj
abbrev pub g_method : ℕ → ℕ → Member
g_method n j = method_with (name_index (100 * n + j)) 6 (code_with 2 0 (g_insns j))

-- main
abbrev pub main_method : ℕ → Member
main_method n = method_with 10 11 (code_with 0 1 (main_insns n))

-- ---- the class (JVMS 4.1)

-- a public class of version 49.0
unfoldable pub made : ℕ → ClassDef
made n = record {
  minor = 0;
  major = 49;
  pool = record { entries = made_entries n };
  flags = 33;
  this_class = 2;
  super_class = 4;
  interfaces = [];
  fields = [];
  methods = map f_method (range_with_len 0 (100 * n)) ++ map (g_method n) (range_with_len 0 n) ++ main_method n ∷ [];
  attributes = [];
}
