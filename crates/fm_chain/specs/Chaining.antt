-- Class files with what is inserted into their methods, chains too.
use Rattle.std.specs.Prelude.{ℕ, ◌+◌, Bool, false, List, [], ◌∷◌, ◌++◌, length, map, replicate, Option, Some, None, if◌then◌else◌}
use Rattle.std.specs.List.{list_any, range_with_len}
use Rattle.fm_code.specs.FreeEntries.{sought_free, with_free}
use Rattle.fm_code.specs.Members.{code_of}
use Rattle.fm_code.specs.declared.class_file.ClassDef.{ClassDef}
use Rattle.fm_code.specs.declared.class_file.Member.{Member}
use Rattle.fm_code.specs.declared.class_file.MemberAttr.{MemberAttr}
use Rattle.fm_code.specs.declared.class_file.MemberAttr.TheVariants as attribute
use Rattle.fm_code.specs.declared.code_array.Code.{Code}
use Rattle.fm_code.specs.declared.constant_pool.Entry.{Entry}
use Rattle.fm_place.specs.Insertions.{Insertions}
use Rattle.fm_place.specs.Rewriting.{changes, first_given, Plans, rewritten_major}
use Rattle.fm_chain.specs.ChainEntries.{calls_with, with_chains}
use Rattle.fm_chain.specs.Chained.{chained_code, chained_marks, has_chain}
use Rattle.fm_chain.specs.declared.calls.Calls.{Calls}

-- ---- pools

-- a method that has a plan has a holder of a chain
abbrev pub plan_has_chain : Option Insertions → Bool
plan_has_chain None = false
plan_has_chain (Some plan) = has_chain plan

-- so has one of the methods of a class, whose first one has this number
abbrev pub class_has_chain : Plans → (first : ℕ) → ClassDef → Bool
class_has_chain plans first c = list_any (λ method. plan_has_chain (plans method)) (range_with_len first (length c.methods))

-- a changed class has the entries of FreeMe.free, and those of the other two methods too where it has a holder of a chain
abbrev pub entries_for : (chains : Bool) → List Entry → List Entry
entries_for chains entries = if chains then with_chains entries else with_free entries

-- by which entries the methods are called; without chains only free is
abbrev pub calls_for : (chains : Bool) → List Entry → Calls
calls_for chains entries = if chains then calls_with entries else record { free = (sought_free entries).index; link = 0; free_chain = 0 }

-- ---- methods

-- an attribute of a changed method: its code is the one with what is inserted
abbrev pub chained_attribute : Calls → Insertions → MemberAttr → MemberAttr
chained_attribute calls plan (attribute.Coded name code) = attribute.Coded name (chained_code calls code plan)
chained_attribute calls plan a = a

-- a method with its plan, if it has one
abbrev pub chained_method : Calls → Option Insertions → Member → Member
chained_method calls None m = m
chained_method calls (Some plan) m = record m { attributes = map (chained_attribute calls plan) m.attributes }

-- the methods of a class, whose first one has this number
abbrev pub chained_methods : Plans → Calls → (first : ℕ) → List Member → List Member
chained_methods plans calls first [] = []
chained_methods plans calls first (m ∷ methods) = chained_method calls (plans first) m ∷ chained_methods plans calls (first + 1) methods

-- ---- classes

-- the entries by which a changed class calls the methods of FreeMe
abbrev pub class_calls : Plans → (first : ℕ) → ClassDef → Calls
class_calls plans first c = calls_for (class_has_chain plans first c) c.pool.entries

-- a class with a changed method
abbrev pub changed_class : Plans → (first : ℕ) → ClassDef → ClassDef
changed_class plans first c = record c {
  minor = 0;
  major = rewritten_major;
  pool = record { entries = entries_for (class_has_chain plans first c) c.pool.entries };
  methods = chained_methods plans (class_calls plans first c) first c.methods;
}

-- a class without one is as it was
abbrev pub chained_class : Plans → (first : ℕ) → ClassDef → ClassDef
chained_class plans first c = if changes plans first c then changed_class plans first c else c

-- methods are numbered in the order of their classes, after those of the built-in ones
abbrev pub chained_from : Plans → (first : ℕ) → List ClassDef → List ClassDef
chained_from plans first [] = []
chained_from plans first (c ∷ classes) = chained_class plans first c ∷ chained_from plans (first + length c.methods) classes

-- the classes with these plans for their methods
abbrev pub chained_classes : Plans → List ClassDef → List ClassDef
chained_classes plans given = chained_from plans first_given given

-- ---- marks

-- of each item of a method's new code, which old item it is; none of a method without code
abbrev pub marks_in : Calls → Option Code → Option Insertions → List (Option ℕ)
marks_in calls None plan = []
marks_in calls (Some code) None = map (λ j. Some j) (range_with_len 0 (length code.items))
marks_in calls (Some code) (Some plan) = chained_marks calls code plan

-- of a method of a class file
abbrev pub method_marks : Calls → Option Insertions → Member → List (Option ℕ)
method_marks calls plan m = marks_in calls (code_of m) plan

-- the marks of the methods of a class, whose first one has this number
abbrev pub marks_of_methods : Plans → Calls → (first : ℕ) → List Member → List (List (Option ℕ))
marks_of_methods plans calls first [] = []
marks_of_methods plans calls first (m ∷ methods) = method_marks calls (plans first) m ∷ marks_of_methods plans calls (first + 1) methods

-- the marks of the methods of these classes, the first of which has this number
abbrev pub marks_from : Plans → (first : ℕ) → List ClassDef → List (List (Option ℕ))
marks_from plans first [] = []
marks_from plans first (c ∷ classes) = marks_of_methods plans (class_calls plans first c) first c.methods ++ marks_from plans (first + length c.methods) classes

-- by the number of a method
abbrev pub chained_marks_with : Plans → List ClassDef → List (List (Option ℕ))
chained_marks_with plans given = replicate first_given [] ++ marks_from plans first_given given
