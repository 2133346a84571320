-- Classes that start: where their fields begin, whether they have started, and the frames of the methods that start them.
use Rattle.std.proofs.Common.{◌≡◌, ◌⊎◌, inl, inr, ℕ, zero, suc, ◌+◌, ◌-◌, ◌<◌, ◌≤◌, Bool, true, false, not, cond, List, [], ◌∷◌, ◌++◌, length, length-append, map, filter, take, drop, get_or, option_map, option_to_list, is_none, Option, Some, None, refl, ap, sym, ◌∙◌, arith, add-one, drop-cons, drop_of_length-le, if◌then◌else◌, reverse}
use Rattle.std.proofs.lemmas.Bool.{cases_lt}
use Rattle.std.proofs.lemmas.List.{get_or-append-add, get_or-map, get_or_append_left, get_or_default, get_or_past, length-map, map_more}
use Rattle.std.proofs.lemmas.List.Elements.{filter_map-append, filter_more}
use Rattle.std.proofs.lemmas.List.Sums.{sum_by-cons}
use Rattle.std.specs.List.{cons_option, slice_index_or}
use Rattle.fm_base.specs.declared.ids.ClassId.{ClassId}
use Rattle.fm_base.specs.declared.ids.MethodId.{MethodId}
use Rattle.fm_world.proofs.Marks.{only_found}
use Rattle.fm_world.specs.Chains.{chain_of, class_at}
use Rattle.fm_world.specs.Declarations.{no_field}
use Rattle.fm_world.specs.Members.{field_at, fields_from, fields_of, first_field, owned_fields, OwnedField, start_of}
use Rattle.fm_world.specs.Programs.{class_info, field_info, method_id, Outline, Program}
use Rattle.fm_world.specs.declared.declarations.DeclaredClass.{DeclaredClass}
use Rattle.fm_world.specs.declared.declarations.DeclaredField.{DeclaredField}
use Rattle.fm_world.specs.declared.records.ClassInfo.{ClassInfo}
use Rattle.fm_world.specs.declared.records.FieldInfo.{FieldInfo}
use Rattle.fm_frames.proofs.Programs.{class-start}
use Rattle.fm_frames.specs.Starts.{is_started, start_methods, to_start}
use Rattle.fm_frames.specs.States.{Frame, State}
use Rattle.fm_frames.specs.Steps.{start_frames}
use Rattle.fm_frames.specs.inner.Frames.{with_start}

-- ---- the first field of a class

abbrev pub no_owner : OwnedField
no_owner = record { class = 0; field = no_field }

abbrev class_in : ℕ → List DeclaredClass → ℕ → ℕ
class_in number classes field = (get_or (fields_from number classes) field no_owner).class

abbrev owned : ℕ → DeclaredField → OwnedField
owned number f = record { class = number; field = f }

class_here : (number : ℕ) (c : DeclaredClass) (classes : List DeclaredClass) (field : ℕ) → field < length c.fields
    → class_in number (c ∷ classes) field ≡ number
class_here number c classes field inside =
    let long = length-map c.fields (owned number) in
    ap (λ (f : OwnedField). f.class)
    (get_or_append_left (owned_fields number c) (fields_from (number + 1) classes) no_owner field (omega (arith, long, inside))
    ∙ get_or-map (owned number) c.fields field no_field no_owner inside)

class_later : (number : ℕ) (c : DeclaredClass) (classes : List DeclaredClass) (field : ℕ) → length c.fields ≤ field
    → class_in number (c ∷ classes) field ≡ class_in (number + 1) classes (field - length c.fields)
class_later number c classes field past =
    let long = length-map c.fields (owned number) in
    let place : field ≡ length (owned_fields number c) + (field - length c.fields) = omega (arith, long, past) in
    ap (class_in number (c ∷ classes)) place
    ∙ ap (λ (f : OwnedField). f.class)
    (get_or-append-add (owned_fields number c) (fields_from (number + 1) classes) (field - length c.fields) no_owner)

fields_left : (number : ℕ) (c : DeclaredClass) (classes : List DeclaredClass) (field : ℕ) → length c.fields ≤ field
    → field < length (fields_from number (c ∷ classes)) → field - length c.fields < length (fields_from (number + 1) classes)
fields_left number c classes field past inside =
    let long = length-map c.fields (owned number) in
    let all = length-append (owned_fields number c) (fields_from (number + 1) classes) in
    omega (arith, long, all, past, inside)

-- fields before the first one of a class are of classes before it
class_below : (number : ℕ) (classes : List DeclaredClass) (class field : ℕ) → field < length (fields_from number classes)
    → field < first_field classes class → class_in number classes field < number + class
class_below number [] class field inside before = absurd (omega (arith, inside))
class_below number (c ∷ classes) zero field inside before = absurd (omega (arith, before))
class_below number (c ∷ classes) (suc class) field inside before =
    by_place (class_below (number + 1) classes class (field - length c.fields)) (cases_lt field (length c.fields)) where
      by_place : (field - length c.fields < length (fields_from (number + 1) classes) → field - length c.fields < first_field classes class
          → class_in (number + 1) classes (field - length c.fields) < number + 1 + class)
          → (field < length c.fields) ⊎ (length c.fields ≤ field) → class_in number (c ∷ classes) field < number + suc class
      by_place later (inl here) = let is = class_here number c classes field here in omega (arith, is)
      by_place later (inr past) =
          let counted = sum_by-cons (λ (d : DeclaredClass). length d.fields) c (take class classes) in
          let rest = later (fields_left number c classes field past inside) (omega (arith, counted, before, past)) in
          let is = class_later number c classes field past in
          omega (arith, is, rest)

-- and those from it on aren't
class_from : (number : ℕ) (classes : List DeclaredClass) (class field : ℕ) → field < length (fields_from number classes)
    → first_field classes class ≤ field → number + class ≤ class_in number classes field
class_from number [] class field inside after = absurd (omega (arith, inside))
class_from number (c ∷ classes) zero field inside after =
    by_place (class_from (number + 1) classes zero (field - length c.fields)) (cases_lt field (length c.fields)) where
      by_place : (field - length c.fields < length (fields_from (number + 1) classes) → first_field classes zero ≤ field - length c.fields
          → number + 1 + zero ≤ class_in (number + 1) classes (field - length c.fields))
          → (field < length c.fields) ⊎ (length c.fields ≤ field) → number + 0 ≤ class_in number (c ∷ classes) field
      by_place later (inl here) = let is = class_here number c classes field here in omega (arith, is)
      by_place later (inr past) =
          let rest = later (fields_left number c classes field past inside) (omega arith) in
          let is = class_later number c classes field past in
          omega (arith, is, rest)
class_from number (c ∷ classes) (suc class) field inside after =
    by_place (class_from (number + 1) classes class (field - length c.fields))
    (sum_by-cons (λ (d : DeclaredClass). length d.fields) c (take class classes)) (cases_lt field (length c.fields)) where
      by_place : (field - length c.fields < length (fields_from (number + 1) classes) → first_field classes class ≤ field - length c.fields
          → number + 1 + class ≤ class_in (number + 1) classes (field - length c.fields))
          → first_field (c ∷ classes) (suc class) ≡ length c.fields + first_field classes class
          → (field < length c.fields) ⊎ (length c.fields ≤ field) → number + suc class ≤ class_in number (c ∷ classes) field
      by_place later counted (inl here) = absurd (omega (arith, counted, after, here))
      by_place later counted (inr past) =
          let rest = later (fields_left number c classes field past inside) (omega (arith, counted, after, past)) in
          let is = class_later number c classes field past in
          omega (arith, is, rest)

owner-is : (o : Outline) (field owner : ℕ) (info : FieldInfo) → info ≡ field_info o field → owner ≡ info.class.0 → owner ≡ (field_at o.classes field).class
unfolding field_info
owner-is o field owner info is owned = owned ∙ ap (λ (i : FieldInfo). i.class.0) is

-- the first field of a class lies above a field of an earlier class
pub first_above : (o : Outline) (class field owner : ℕ) (info : FieldInfo) → field < length (fields_of o.classes) → info ≡ field_info o field → owner ≡ info.class.0
    → owner < class → field + 1 ≤ first_field o.classes class
unfolding fields_of
first_above o class field owner info inside is owned earlier = by_place (cases_lt field (first_field o.classes class)) where
  by_place : (field < first_field o.classes class) ⊎ (first_field o.classes class ≤ field) → field + 1 ≤ first_field o.classes class
  by_place (inl below) = omega (arith, below)
  by_place (inr from) =
      let late = class_from 0 o.classes class field inside from in
      let who = owner-is o field owner info is owned in
      absurd (omega (arith, late, who, earlier))

-- and not above one of the class itself or of a later one
pub first_within : (o : Outline) (class field owner : ℕ) (info : FieldInfo) → field < length (fields_of o.classes) → info ≡ field_info o field → owner ≡ info.class.0
    → class ≤ owner → first_field o.classes class ≤ field
unfolding fields_of
first_within o class field owner info inside is owned later = by_place (cases_lt field (first_field o.classes class)) where
  by_place : (field < first_field o.classes class) ⊎ (first_field o.classes class ≤ field) → first_field o.classes class ≤ field
  by_place (inr from) = from
  by_place (inl below) =
      let early = class_below 0 o.classes class field inside below in
      let who = owner-is o field owner info is owned in
      absurd (omega (arith, early, who, later))

-- all fields come before the first one of a class past the end
first_few : (number : ℕ) (classes : List DeclaredClass) (class : ℕ) → first_field classes class ≤ length (fields_from number classes)
first_few number [] zero = omega arith
first_few number [] (suc class) = omega arith
first_few number (c ∷ classes) zero = omega arith
first_few number (c ∷ classes) (suc class) =
    let counted = sum_by-cons (λ (d : DeclaredClass). length d.fields) c (take class classes) in
    let long = length-map c.fields (owned number) in
    let all = length-append (owned_fields number c) (fields_from (number + 1) classes) in
    let rest = first_few (number + 1) classes class in
    omega (arith, counted, long, all, rest)

pub first_inside : (classes : List DeclaredClass) (class : ℕ) → first_field classes class ≤ length (fields_of classes)
unfolding fields_of
first_inside classes class = first_few 0 classes class

-- ---- whether a class has started

abbrev started_by : (of_file : Bool) → List Bool → ℕ → Bool
started_by of_file started class = if of_file then true else slice_index_or started class true

no_file : (o : Outline) (class : ℕ) (info : ClassInfo) → info ≡ class_info o class → is_none info.file ≡ is_none (class_at o.classes class).file
unfolding class_info
no_file o class info is = ap (λ (i : ClassInfo). is_none i.file) is

-- where it has no bit, or its bit is set, both ways lead to the same
set-started : (of_file : Bool) (started : List Bool) (class : ℕ) → slice_index_or started class true ≡ true → true ≡ started_by of_file started class
set-started true started class is = refl
set-started false started class is = sym is

clear-started : (of_file : Bool) (started : List Bool) (class : ℕ) → slice_index_or started class true ≡ false → of_file ≡ started_by of_file started class
clear-started true started class is = refl
clear-started false started class is = sym is

pub started-past : (o : Outline) (row started : List Bool) (class : ℕ) → row ≡ started → length row ≤ class → true ≡ is_started o started class
started-past o row started class same past =
    set-started (is_none (class_at o.classes class).file) started class
    (ap (λ r. slice_index_or r class true) (sym same) ∙ get_or_past row class true past)

-- its bit, where it has one
bit-is : (row started : List Bool) (class : ℕ) (got : Bool) → row ≡ started → class < length row → got ≡ slice_index_or row class false
    → slice_index_or started class true ≡ got
bit-is row started class got same inside told =
    ap (λ r. slice_index_or r class true) (sym same) ∙ sym (told ∙ get_or_default row class false true inside)

pub started-set : (o : Outline) (row started : List Bool) (class : ℕ) → row ≡ started → class < length row → true ≡ slice_index_or row class false
    → true ≡ is_started o started class
started-set o row started class same inside told =
    set-started (is_none (class_at o.classes class).file) started class (bit-is row started class true same inside told)

pub started-clear : (o : Outline) (row started : List Bool) (class : ℕ) (info : ClassInfo) → info ≡ class_info o class → row ≡ started → class < length row
    → false ≡ slice_index_or row class false → is_none info.file ≡ is_started o started class
started-clear o row started class info is same inside told =
    no_file o class info is
    ∙ clear-started (is_none (class_at o.classes class).file) started class (bit-is row started class false same inside told)

-- ---- the classes that a use of one starts

pub to_start-built_in : (o : Outline) (started : List Bool) (class : ℕ) (info : ClassInfo) → info ≡ class_info o class → is_none info.file ≡ true
    → [] ≡ to_start o started class
to_start-built_in o started class info is none =
    sym (ap (λ b. cond b [] (filter (λ above. not (is_started o started above)) (reverse (chain_of o.classes class)))) (sym (no_file o class info is) ∙ none))

pub to_start-of_file : (o : Outline) (started : List Bool) (class : ℕ) (info : ClassInfo) → info ≡ class_info o class → is_none info.file ≡ false
    → filter (λ above. not (is_started o started above)) (reverse (chain_of o.classes class)) ≡ to_start o started class
to_start-of_file o started class info is none =
    sym (ap (λ b. cond b [] (filter (λ above. not (is_started o started above)) (reverse (chain_of o.classes class)))) (sym (no_file o class info is) ∙ none))

-- ---- the method that starts a class

numbers-back : (found : Option ℕ) → option_map (λ (m : MethodId). m.0) (option_map method_id found) ≡ found
numbers-back None = refl
numbers-back (Some n) = refl

pub start-found : (o : Outline) (class : ℕ) (info : ClassInfo) → info ≡ class_info o class
    → option_map (λ (m : MethodId). m.0) info.start ≡ start_of o.classes class
start-found o class info is =
    ap (option_map (λ (m : MethodId). m.0)) (ap (λ (i : ClassInfo). i.start) is ∙ class-start o class) ∙ numbers-back (start_of o.classes class)

-- ---- those of several classes

abbrev numbers : List ClassId → List ℕ
numbers classes = map (λ (c : ClassId). c.0) classes

-- of one class more
pub methods-more : (o : Outline) (classes : List ClassId) (i : ℕ) (c : ClassId) → i < length classes → c ≡ get_or classes i c
    → start_methods o (numbers (take (i + 1) classes)) ≡ start_methods o (numbers (take i classes)) ++ option_to_list (start_of o.classes c.0)
methods-more o classes i c inside here =
    ap (start_methods o) (map_more (λ (c : ClassId). c.0) classes i c inside ∙ ap (λ (d : ClassId). numbers (take i classes) ++ d.0 ∷ []) (sym here))
    ∙ filter_map-append (start_of o.classes) (numbers (take i classes)) (c.0 ∷ [])
    ∙ ap (λ ms. start_methods o (numbers (take i classes)) ++ ms) (only_found (start_of o.classes c.0))

pub count-more : (o : Outline) (classes : List ClassId) (i : ℕ) (c : ClassId) (count more : ℕ) → i < length classes → c ≡ get_or classes i c
    → (count ≡ length (start_methods o (numbers (take i classes)))) × (count ≤ i) → more ≡ length (option_to_list (start_of o.classes c.0)) → more ≤ 1
    → (count + more ≡ length (start_methods o (numbers (take (i + 1) classes)))) × (count + more ≤ i + 1)
count-more o classes i c count more inside here before one few =
    let all = ap length (methods-more o classes i c inside here) in
    let joined = length-append (start_methods o (numbers (take i classes))) (option_to_list (start_of o.classes c.0)) in
    let so = before.0 in
    let within = before.1 in
    (omega (arith, all, joined, so, one), omega (arith, within, few))

-- ---- the classes that haven't started

unless : (started : Bool) (class : ℕ) → cond started [] (class ∷ []) ≡ cond (not started) (class ∷ []) []
unless true class = refl
unless false class = refl

pub unstarted-more : (o : Outline) (started : List Bool) (classes : List ℕ) (i class : ℕ) (has : Bool) (old new : List ℕ) → i < length classes
    → class ≡ get_or classes i class → has ≡ is_started o started class → old ≡ filter (λ c. not (is_started o started c)) (take i classes)
    → new ≡ old ++ cond has [] (class ∷ []) → new ≡ filter (λ c. not (is_started o started c)) (take (i + 1) classes)
unstarted-more o started classes i class has old new inside here told before pushed =
    let test : ℕ → Bool = λ c. not (is_started o started c) in
    pushed ∙ (λ j. before j ++ cond (told j) [] (class ∷ [])) ∙ ap (λ cs. filter test (take i classes) ++ cs) (unless (is_started o started class) class)
    ∙ ap (λ c. filter test (take i classes) ++ cond (test c) (c ∷ []) []) here
    ∙ sym (filter_more test classes i class inside)

-- ---- the frames of the methods

started_frames : (p : Program) (found : Option ℕ) (methods : List ℕ) (frames : List Frame)
    → with_start p found (start_frames p methods ++ frames) ≡ start_frames p (cons_option found methods) ++ frames
started_frames p None methods frames = refl
started_frames p (Some method) methods frames = refl

pub frames-none : (p : Program) (classes : List ClassId) (x : State)
    → x ≡ record x { frames = start_frames p (start_methods p.outline (numbers (drop (length classes - 0) classes))) ++ x.frames }
frames-none p classes x =
    ap (λ cs. record x { frames = start_frames p (start_methods p.outline (numbers cs)) ++ x.frames })
    (sym (drop_of_length-le classes {i = length classes - 0} (omega arith)))

pub frames-more : (p : Program) (classes : List ClassId) (k i : ℕ) (c d : ClassId) (first old new : State) → i + k + 1 ≡ length classes → c ≡ get_or classes i d
    → old ≡ record first { frames = start_frames p (start_methods p.outline (numbers (drop (length classes - k) classes))) ++ first.frames }
    → new ≡ record old { frames = with_start p (start_of p.outline.classes c.0) old.frames }
    → new ≡ record first { frames = start_frames p (start_methods p.outline (numbers (drop (length classes - (k + 1)) classes))) ++ first.frames }
frames-more p classes k i c d first old new many here before entered =
    let last : length classes - k ≡ i + 1 = omega arith in
    let next : length classes - (k + 1) ≡ i = omega arith in
    let found = start_of p.outline.classes c.0 in
    let left = start_methods p.outline (numbers (drop (i + 1) classes)) in
    let at : drop (length classes - (k + 1)) classes ≡ c ∷ drop (i + 1) classes =
    ap (λ n. drop n classes) next ∙ drop-cons classes i d (omega arith) ∙ ap (λ n. get_or classes i d ∷ drop n classes) (sym (add-one i))
    ∙ ap (λ e. e ∷ drop (i + 1) classes) (sym here) in
    entered ∙ ap (λ (y : State). record y { frames = with_start p found y.frames }) (before ∙ ap (λ n. record first { frames = start_frames p (start_methods p.outline (numbers (drop n classes))) ++ first.frames }) last)
    ∙ ap (λ fs. record first { frames = fs }) (started_frames p found left first.frames)
    ∙ sym (ap (λ cs. record first { frames = start_frames p (start_methods p.outline (numbers cs)) ++ first.frames }) at)

pub frames-all : (p : Program) (classes : List ClassId) (k : ℕ) (first new : State) → length classes ≤ k
    → new ≡ record first { frames = start_frames p (start_methods p.outline (numbers (drop (length classes - k) classes))) ++ first.frames }
    → new ≡ record first { frames = start_frames p (start_methods p.outline (numbers classes)) ++ first.frames }
frames-all p classes k first new done is =
    let none : length classes - k ≡ 0 = omega arith in
    is ∙ ap (λ n. record first { frames = start_frames p (start_methods p.outline (numbers (drop n classes))) ++ first.frames }) none

-- there is a frame on top still
pub frames-some : (p : Program) (methods : List ℕ) (first old : State) → old ≡ record first { frames = start_frames p methods ++ first.frames }
    → 0 < length first.frames → 0 < length old.frames
frames-some p methods first old is some =
    let all = ap (λ (y : State). length y.frames) is ∙ length-append (start_frames p methods) first.frames in
    omega (arith, all, some)
