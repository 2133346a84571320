-- The methods of FreeMe that inserted calls name, and classes with such calls.
use Rattle.std.specs.Prelude.{◌≡◌, ℕ, ◌+◌, ◌<◌, Bool, true, List, ◌++◌, length, Some}
use Rattle.fm_chain.specs.ChainEntries.{chain_method, link_method}
use Rattle.fm_chain.specs.Chaining.{chained_methods, plan_has_chain}
use Rattle.fm_chain.specs.declared.calls.Calls.{Calls}
use Rattle.fm_code.specs.ConstantPool.{MemberName, method_ref_at}
use Rattle.fm_code.specs.FreeEntries.{free_method}
use Rattle.fm_code.specs.declared.class_file.ClassDef.{ClassDef}
use Rattle.fm_code.specs.declared.constant_pool.Entry.{Entry}
use Rattle.fm_place.specs.Rewriting.{Plans, rewritten_major}

-- ---- calls

-- the methods that inserted calls name: one that frees an object, one that puts it before a chain, and one that frees a chain
pub data FreeMeMethod : Type 0 where
  CallsFree : FreeMeMethod
  CallsLink : FreeMeMethod
  CallsChain : FreeMeMethod

-- its name
abbrev pub member_name_of : FreeMeMethod → MemberName
member_name_of CallsFree = free_method
member_name_of CallsLink = link_method
member_name_of CallsChain = chain_method

-- its entry
abbrev pub entry_of : Calls → FreeMeMethod → ℕ
entry_of calls CallsFree = calls.free
entry_of calls CallsLink = calls.link
entry_of calls CallsChain = calls.free_chain

-- where no holder holds a chain only the first one is called
abbrev pub MayCall : (chains : Bool) → FreeMeMethod → Type 0
MayCall chains CallsFree = Unit {0}
MayCall chains CallsLink = chains ≡ true
MayCall chains CallsChain = chains ≡ true

-- the index is the entry of a method that may be called
abbrev pub IsCall : (chains : Bool) → Calls → (index : ℕ) → Type 0
IsCall chains calls index = (m : FreeMeMethod) × MayCall chains m × (index ≡ entry_of calls m)

-- ---- classes

-- the class with more entries, and with what is inserted into its methods, which calls by these
abbrev pub grown : List Entry → Calls → Plans → (first : ℕ) → ClassDef → ClassDef
grown more calls plans first c = record c {
  minor = 0;
  major = rewritten_major;
  pool = record { entries = c.pool.entries ++ more };
  methods = chained_methods plans calls first c.methods;
}

-- the entries name the methods that may be called, and a method of the class has chains only where the class may
pub record Grows (chains : Bool) (more : List Entry) (calls : Calls) (plans : Plans) (first : ℕ) (c : ClassDef) : Type 0 where
  pub named : (m : FreeMeMethod) → MayCall chains m → method_ref_at (c.pool.entries ++ more) (entry_of calls m) ≡ Some (member_name_of m)
  pub chained : (i : ℕ) → i < length c.methods → plan_has_chain (plans (first + i)) ≡ true → chains ≡ true
