-- Class files with what is inserted into their methods.
use Rattle.std.specs.Prelude.{ℕ, ◌+◌, Bool, true, false, List, [], ◌∷◌, ◌++◌, length, map, replicate, Option, Some, None, is_some}
use Rattle.std.specs.List.{list_any, range_with_len, sum}
use Rattle.fm_code.specs.FreeEntries.{sought_free, with_free}
use Rattle.fm_code.specs.Members.{code_of}
use Rattle.fm_code.specs.declared.class_file.ClassDef.{ClassDef}
use Rattle.fm_code.specs.declared.class_file.Member.{Member}
use Rattle.fm_code.specs.declared.class_file.MemberAttr.{MemberAttr}
use Rattle.fm_code.specs.declared.class_file.MemberAttr.TheVariants as attribute
use Rattle.fm_code.specs.declared.code_array.Code.{Code}
use Rattle.fm_world.specs.BuiltIns.{built_in}
use Rattle.fm_world.specs.Members.{methods_of}
use Rattle.fm_place.specs.Insertions.{Insertions}
use Rattle.fm_place.specs.Woven.{woven_code, woven_marks}

-- by the number of a method in its program: what is inserted; nothing where the method stays as it is
abbrev pub Plans : Type 0
Plans = ℕ → Option Insertions

-- ---- methods

-- an attribute of a changed method: its code is the woven one
abbrev pub rewritten_attribute : (free : ℕ) → Insertions → MemberAttr → MemberAttr
rewritten_attribute free plan (attribute.Coded name code) = attribute.Coded name (woven_code free code plan)
rewritten_attribute free plan a = a

-- a method with its plan, if it has one
abbrev pub rewritten_method : (free : ℕ) → Option Insertions → Member → Member
rewritten_method free None m = m
rewritten_method free (Some plan) m = record m { attributes = map (rewritten_attribute free plan) m.attributes }

-- the methods of a class, whose first one has this number
abbrev pub rewritten_methods : Plans → (free first : ℕ) → List Member → List Member
rewritten_methods plans free first [] = []
rewritten_methods plans free first (m ∷ methods) = rewritten_method free (plans first) m ∷ rewritten_methods plans free (first + 1) methods

-- ---- classes

-- the version of a changed class
abbrev pub rewritten_major : ℕ
rewritten_major = 49

-- the index of FreeMe.free in the pool of a changed class
abbrev pub free_index : ClassDef → ℕ
free_index c = (sought_free c.pool.entries).index

-- a method of the class has a plan
abbrev pub changes : Plans → (first : ℕ) → ClassDef → Bool
changes plans first c = list_any (λ method. is_some (plans method)) (range_with_len first (length c.methods))

-- a class without a changed method is as it was
abbrev pub rewritten_class : Plans → (first : ℕ) → ClassDef → ClassDef
rewritten_class plans first c = by_change (changes plans first c) where
  by_change : Bool → ClassDef
  by_change false = c
  by_change true = record c {
    minor = 0;
    major = rewritten_major;
    pool = record { entries = with_free c.pool.entries };
    methods = rewritten_methods plans (free_index c) first c.methods;
  }

-- methods are numbered in the order of their classes, after those of the built-in ones
abbrev pub rewritten_from : Plans → (first : ℕ) → List ClassDef → List ClassDef
rewritten_from plans first [] = []
rewritten_from plans first (c ∷ classes) = rewritten_class plans first c ∷ rewritten_from plans (first + length c.methods) classes

-- how many methods the built-in classes have
abbrev pub first_given : ℕ
first_given = length (methods_of built_in)

-- the classes with these plans for their methods
abbrev pub rewritten : Plans → List ClassDef → List ClassDef
rewritten plans given = rewritten_from plans first_given given

-- ---- marks

-- of each item of new code, which old item it is; none where there is no code
abbrev pub marks_in : (free : ℕ) → Option Code → Option Insertions → List (Option ℕ)
marks_in free None plan = []
marks_in free (Some code) None = map (λ j. Some j) (range_with_len 0 (length code.items))
marks_in free (Some code) (Some plan) = woven_marks free code plan

-- the marks of a method
abbrev pub method_marks : (free : ℕ) → Option Insertions → Member → List (Option ℕ)
method_marks free plan m = marks_in free (code_of m) plan

-- the marks of the methods of a class, whose first one has this number
abbrev pub marks_of_methods : Plans → (free first : ℕ) → List Member → List (List (Option ℕ))
marks_of_methods plans free first [] = []
marks_of_methods plans free first (m ∷ methods) = method_marks free (plans first) m ∷ marks_of_methods plans free (first + 1) methods

-- the marks of the methods of these classes, the first of which has this number
abbrev pub marks_from : Plans → (first : ℕ) → List ClassDef → List (List (Option ℕ))
marks_from plans first [] = []
marks_from plans first (c ∷ classes) = marks_of_methods plans (free_index c) first c.methods ++ marks_from plans (first + length c.methods) classes

-- by the number of a method
abbrev pub marks_with : Plans → List ClassDef → List (List (Option ℕ))
marks_with plans given = replicate first_given [] ++ marks_from plans first_given given

-- ---- counts

-- the sites that have a holder
abbrev pub site_count : Option Insertions → ℕ
site_count None = 0
site_count (Some plan) = length plan.holders

-- the places at which a holder is freed: one for each holder and item
abbrev pub free_count : Option Insertions → ℕ
free_count None = 0
free_count (Some plan) = sum (map (λ (holders : List ℕ). length holders) plan.before)

-- the number of sites of a class, whose first method has this number
abbrev pub sites_in : Plans → (first : ℕ) → ClassDef → ℕ
sites_in plans first c = sum (map (λ method. site_count (plans method)) (range_with_len first (length c.methods)))

-- the number of frees of a class, whose first method has this number
abbrev pub frees_in : Plans → (first : ℕ) → ClassDef → ℕ
frees_in plans first c = sum (map (λ method. free_count (plans method)) (range_with_len first (length c.methods)))
