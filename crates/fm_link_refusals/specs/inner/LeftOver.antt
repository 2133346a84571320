-- How many abstract methods are left over in a class, by the class that declares them.
use Rattle.std.specs.Prelude.{◌≡◌, ℕ, zero, suc, ◌+◌, ◌-◌, ◌<◌, ◌&&◌, ◌||◌, not, Bool, true, false, List, [], ◌∷◌, ◌++◌, length, nat_eq, nat_lt, Option, Some, None, slice_index, slice_set, if◌then◌else◌}
use Rattle.std.specs.Global.{Vec}
use Rattle.std.specs.List.{count_by}
use Rattle.fm_base.specs.Rows.{has}
use Rattle.fm_code.specs.AccessFlags.{is_abstract, is_package_private, is_private}
use Rattle.fm_link_members.specs.declared.lookups.Methods.{Methods}
use Rattle.fm_link_supers.specs.inner.ListTables.{list_in}
use Rattle.fm_link_members.specs.inner.MemberRows.{section_of}
use Rattle.fm_link_members.specs.inner.MemberTables.{flags_of, nearest_in}
use Rattle.fm_world.specs.Chains.{chain_of, class_at, interfaces_of, is_among, parent_of}
use Rattle.fm_world.specs.Lookups.{is_abstract_method}
use Rattle.fm_world.specs.declared.declarations.DeclaredClass.{DeclaredClass}
use Rattle.fm_link_refusals.specs.declared.left_over.Counting.{Counting}
use Rattle.fm_link_refusals.specs.declared.left_over.LeftOver.{LeftOver}
use Rattle.fm_link_refusals.specs.inner.Linking.{IsLinking}

-- ---- what is selected

-- what is selected of a signature in a class, where there is one
abbrev pub selected_at : Methods → Option ℕ → ℕ → Option ℕ
selected_at m None signature = None
selected_at m (Some class) signature = nearest_in m.selectable class signature

-- no method is selected, or an abstract one
abbrev pub is_open : List DeclaredClass → Option ℕ → Bool
is_open classes None = true
is_open classes (Some found) = is_abstract_method classes found

-- the number is there
abbrev pub is_taken : Option ℕ → ℕ → Bool
is_taken None number = false
is_taken (Some found) number = nat_eq found number

-- a number is there, from the first one up to the second
abbrev pub is_between : ℕ → ℕ → Option ℕ → Bool
is_between start end None = false
is_between start end (Some found) = not (nat_lt found start) && nat_lt found end

-- ---- which methods are left over

-- what is selected for the method doesn't go by its signature alone: it is private or for its own package
abbrev pub is_limited : ℕ → Bool
is_limited flags = is_private flags || is_package_private flags

-- the method is abstract and not limited
abbrev pub can_be_met : List DeclaredClass → Methods → ℕ → Bool
can_be_met classes m k = is_abstract_method classes k && not (is_limited (flags_of m.members.rows.items k))

-- the method is abstract, and it is limited or its signature is open
abbrev pub is_owed : List DeclaredClass → Methods → (ℕ → Bool) → ℕ → Bool
is_owed classes m passes k =
    is_abstract_method classes k && (is_limited (flags_of m.members.rows.items k) || passes (slice_index m.signatures.of_members.items k))

-- the signature is open, by a class where one of its own methods from the first up to another is selected, and else by its superclass
abbrev pub is_part_open : List DeclaredClass → Methods → Option ℕ → ℕ → ℕ → ℕ → ℕ → Bool
is_part_open classes m parent class start end signature =
    if is_between start end (selected_at m (Some class) signature) then is_open classes (selected_at m (Some class) signature)
    else is_open classes (selected_at m parent signature)

-- the method is left over, when the class's own methods from the first up to another are counted
abbrev pub is_part_owed : List DeclaredClass → Methods → Option ℕ → ℕ → ℕ → ℕ → ℕ → Bool
is_part_owed classes m parent class start end k = is_owed classes m (is_part_open classes m parent class start end) k

-- the method has the signature, is abstract and not limited, and has a lower number
abbrev pub is_one : List DeclaredClass → Methods → ℕ → ℕ → ℕ → Bool
is_one classes m signature end k =
    (nat_eq (slice_index m.signatures.of_members.items k) signature && can_be_met classes m k) && nat_lt k end

-- the abstract methods of a signature below a number are as they are now, and all others as before
abbrev pub with_signature : List DeclaredClass → Methods → ℕ → Bool → ℕ → (ℕ → Bool) → ℕ → Bool
with_signature classes m signature adds end q k = if is_one classes m signature end k then adds else q k

-- ---- counts

-- how many of a given number of numbers from one on pass
abbrev pub counted : (ℕ → Bool) → ℕ → ℕ → ℕ
counted q zero start = 0
counted q (suc count) start = if q start then suc (counted q count (suc start)) else counted q count (suc start)

-- one more, or one less
abbrev pub changed : Bool → ℕ → ℕ
changed true count = count + 1
changed false count = count - 1

-- how many of a class's methods pass
abbrev pub counted_of : Methods → (ℕ → Bool) → ℕ → ℕ
counted_of m q class =
    counted q ((section_of m.members.first.items class).1 - (section_of m.members.first.items class).0) (section_of m.members.first.items class).0

-- a row for all classes has at each of them how many of its methods pass
abbrev pub HasCounts : Methods → ℕ → (ℕ → Bool) → List ℕ → Type 0
HasCounts m count q row = length row ≡ count → (class : ℕ) → class < count → counted_of m q class ≡ slice_index row class

-- the rows of all classes have what is left over in them
abbrev pub IsLeftOver : List DeclaredClass → Methods → LeftOver → Type 0
IsLeftOver classes m found =
    (class : ℕ) → class < length classes
    → HasCounts m (length classes) (is_owed classes m (λ signature. is_open classes (selected_at m (Some class) signature)))
    (list_in found.rows.items class)

-- the class has a row, with a count for each class
abbrev pub HasRow : List DeclaredClass → LeftOver → ℕ → Type 0
HasRow classes found class = length (list_in found.rows.items class) ≡ length classes

-- ---- which classes have rows

-- the class has objects: it isn't abstract, as interfaces are
abbrev pub has_objects : List DeclaredClass → ℕ → Bool
has_objects classes class = not (is_abstract (class_at classes class).flags)

-- each class that has objects has a row
abbrev pub HaveRows : List DeclaredClass → LeftOver → Type 0
HaveRows classes found = (class : ℕ) → class < length classes → has_objects classes class ≡ true → HasRow classes found class

-- the first numbers are marked, up to one that is marked already
abbrev pub marked_up : List Bool → List ℕ → List Bool
marked_up marks [] = marks
marked_up marks (k ∷ numbers) = if has marks k then marks else marked_up (slice_set marks k true) numbers

-- the marks have each of these classes that has objects, and with a class its superclass
pub record AreAskedOf (classes : List DeclaredClass) (among : List ℕ) (asked : List Bool) : Type 0 where
  pub one_each : length asked ≡ length classes
  pub each : (class : ℕ) → is_among class among ≡ true → has_objects classes class ≡ true → has asked class ≡ true
  pub above : (class parent : ℕ) → has asked class ≡ true → parent_of classes class ≡ Some parent → has asked parent ≡ true

-- how long the row of a superclass is, and without one how many classes there are
abbrev pub length_above : List (Vec ℕ) → (count : ℕ) → Option ℕ → ℕ
length_above rows count None = count
length_above rows count (Some parent) = length (list_in rows parent)

-- ---- by what methods are counted

-- the list of each signature has each class as often as the class has abstract methods of it below a number
abbrev pub AreOwners : List DeclaredClass → Methods → ℕ → List (Vec ℕ) → Type 0
AreOwners classes m end owners =
    (signature class : ℕ) → signature < length m.members.rows.items → class < length classes
    → count_by (nat_eq class) (list_in owners signature) ≡ counted_of m (is_one classes m signature end) class

-- the lists are those of all methods, and the classes that are asked for are marked
pub record IsCounting (classes : List DeclaredClass) (c : Counting) : Type 0 where
  pub linking : IsLinking classes c.linking
  pub owners : AreOwners classes c.linking.methods.now (length c.linking.methods.now.members.rows.items) c.owners.now
  pub asked : AreAskedOf classes c.linking.hierarchy.now.order.items c.asked.now

-- no method of a class, of its superclasses and of their superinterfaces is left over in it
abbrev pub NoneLeft : List DeclaredClass → Methods → ℕ → Type 0
NoneLeft classes m class =
    (above : ℕ) → is_among above (chain_of classes class ++ interfaces_of classes class) ≡ true
    → counted_of m (is_owed classes m (λ signature. is_open classes (selected_at m (Some class) signature))) above ≡ 0
