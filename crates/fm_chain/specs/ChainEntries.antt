-- The entries of a constant pool by which instructions call FreeMe.link and FreeMe.freeChain, after those of FreeMe.free.
use Rattle.std.specs.Prelude.{◌≡◌, ℕ, ◌<◌, ◌≤◌, List, codes, length, ◌++◌}
use Rattle.fm_code.specs.ConstantPool.{MemberName}
use Rattle.fm_code.specs.FreeEntries.{free_class, free_descriptor, of_method, of_name_and_type, of_utf8, Sought, sought, sought_class, sought_descriptor, sought_free}
use Rattle.fm_code.specs.declared.constant_pool.Entry.{Entry}
use Rattle.fm_code.specs.declared.constant_pool.Entry.TheVariants as entry
use Rattle.fm_chain.specs.declared.calls.Calls.{Calls}
use Rattle.fm_pool.specs.declared.error.AddFail.{AddFail}
use Rattle.fm_pool.specs.declared.error.AddFail.TheVariants as fail

-- ---- the methods

-- the name of the method that puts an object before a chain
abbrev pub link_name : List ℕ
link_name = codes "link"

-- its descriptor
abbrev pub link_descriptor : List ℕ
link_descriptor = codes "(Ljava/lang/Object;Ljava/lang/Object;)Ljava/lang/Object;"

-- this method
abbrev pub link_method : MemberName
link_method = record { class = free_class; name = link_name; descriptor = link_descriptor }

-- the name of the method that frees a chain, whose descriptor is that of FreeMe.free
abbrev pub chain_name : List ℕ
chain_name = codes "freeChain"

-- this method
abbrev pub chain_method : MemberName
chain_method = record { class = free_class; name = chain_name; descriptor = free_descriptor }

-- ---- the seven entries in turn, each with what is missing of it and of those before, the six of FreeMe.free included

-- the name of link
unfoldable pub sought_link_name : List Entry → Sought
sought_link_name entries = sought entries (sought_free entries).missing (of_utf8 link_name) (entry.Utf8 link_name)

-- its descriptor
unfoldable pub sought_link_descriptor : List Entry → Sought
sought_link_descriptor entries = sought entries (sought_link_name entries).missing (of_utf8 link_descriptor) (entry.Utf8 link_descriptor)

-- the name with the descriptor
unfoldable pub sought_link_pair : List Entry → Sought
sought_link_pair entries =
    let descriptor = sought_link_descriptor entries in
    sought entries descriptor.missing (of_name_and_type link_name link_descriptor) (entry.NameAndType (sought_link_name entries).index descriptor.index)

-- the Methodref of FreeMe.link
unfoldable pub sought_link : List Entry → Sought
sought_link entries =
    let pair = sought_link_pair entries in sought entries pair.missing (of_method link_method) (entry.Method (sought_class entries).index pair.index)

-- the name of freeChain
unfoldable pub sought_chain_name : List Entry → Sought
sought_chain_name entries = sought entries (sought_link entries).missing (of_utf8 chain_name) (entry.Utf8 chain_name)

-- the name with the descriptor
unfoldable pub sought_chain_pair : List Entry → Sought
sought_chain_pair entries =
    let name = sought_chain_name entries in
    sought entries name.missing (of_name_and_type chain_name free_descriptor) (entry.NameAndType name.index (sought_descriptor entries).index)

-- the last one is the Methodref of FreeMe.freeChain
unfoldable pub sought_chain : List Entry → Sought
sought_chain entries =
    let pair = sought_chain_pair entries in sought entries pair.missing (of_method chain_method) (entry.Method (sought_class entries).index pair.index)

-- the pool with what was missing
abbrev pub with_chains : List Entry → List Entry
with_chains entries = entries ++ (sought_chain entries).missing

-- the indices of the three Methodrefs
abbrev pub calls_with : List Entry → Calls
calls_with entries = record { free = (sought_free entries).index; link = (sought_link entries).index; free_chain = (sought_chain entries).index }

-- why a pool isn't made of these entries: they are more than 65,535 indices, and this is their number (JVMS 4.1); or memory runs out
abbrev pub IsRefused : List Entry → AddFail → Type 0
IsRefused entries (fail.Full indices) = (65535 < length entries) × (indices ≡ length entries)
IsRefused entries fail.NoMemory = length entries ≤ 65535
