-- A method that has code is one of a given class, and has its new code among the methods of the written class.
use Rattle.std.proofs.Common.{◌≡◌, refl, sym, ◌∙◌, ap, ℕ, zero, suc, ◌+◌, ◌-◌, ◌<◌, ◌≤◌, ◌⊎◌, inl, inr, List, [], ◌∷◌, ◌++◌, length, map, replicate, get_or, Option, Some, None, Contains, slice_get, arith}
use Rattle.std.specs.List.{flat_map, slice_index_or}
use Rattle.std.proofs.lemmas.Bool.{cases_lt}
use Rattle.std.proofs.lemmas.List.{get_or-append-add, get_or-replicate, get_or_append_left, length-map, length-replicate}
use Rattle.std.proofs.lemmas.Option.{none-some}
use Rattle.fm_law_relinked.proofs.Codes.{class_code, class_count}
use Rattle.fm_law_relinked.specs.Codes.{code_with}
use Rattle.fm_chain.specs.Chaining.{chained_class, chained_classes, chained_from, chained_marks_with, class_calls, marks_from, marks_in, marks_of_methods}
use Rattle.fm_chain.specs.declared.calls.Calls.{Calls}
use Rattle.fm_code.proofs.EdgesLemmas.{Contains-first, Contains-later}
use Rattle.fm_code.specs.Members.{code_of}
use Rattle.fm_code.specs.declared.class_file.ClassDef.{ClassDef}
use Rattle.fm_code.specs.declared.class_file.Member.{Member}
use Rattle.fm_code.specs.declared.code_array.Code.{Code}
use Rattle.fm_place.specs.Rewriting.{first_given, Plans}
use Rattle.fm_law_linked.proofs.Rows.{all_methods}
use Rattle.fm_types.specs.Named.{class_of_method}
use Rattle.fm_world.proofs.OwnedMethods.{no_owned}
use Rattle.fm_world.specs.BuiltIns.{built_in}
use Rattle.fm_world.specs.Declarations.{declared_from, declared_method}
use Rattle.fm_world.specs.Members.{methods_from, methods_of, OwnedMethod}
use Rattle.fm_world.specs.Programs.{code_at, codes_of, outline_of, program_of}
use Rattle.fm_world.specs.declared.declarations.DeclaredMethod.{DeclaredMethod}

abbrev all_codes : List ClassDef → List (Option Code)
all_codes files = flat_map (λ (c : ClassDef). map code_of c.methods) files

-- one of these members has this code
pub record HasMember (members : List Member) (code : Option Code) : Type 0 where
  pub member : Member
  pub among : Contains members member
  pub code_is : code_of member ≡ code

member_there : (members : List Member) (i : ℕ) → i < length members → HasMember members (get_or (map code_of members) i None)
member_there [] i within = absurd (omega (arith, within))
member_there (m ∷ members) zero within = record { member = m; among = Contains-first m members m refl; code_is = refl }
member_there (m ∷ members) (suc i) within =
    let rest = member_there members i (omega (arith, within)) in
    record { member = rest.member; among = Contains-later m members rest.member rest.among; code_is = rest.code_is }

methods_marks : (plans : Plans) (calls : Calls) (first : ℕ) (methods : List Member) (i : ℕ)
    → get_or (marks_of_methods plans calls first methods) i [] ≡ marks_in calls (get_or (map code_of methods) i None) (plans (first + i))
methods_marks plans calls first [] i = refl
methods_marks plans calls first (m ∷ methods) zero =
    let same : first ≡ first + 0 = omega arith in ap (λ n. marks_in calls (code_of m) (plans n)) same
methods_marks plans calls first (m ∷ methods) (suc i) =
    let same : first + 1 + i ≡ first + suc i = omega arith in
    methods_marks plans calls (first + 1) methods i ∙ ap (λ n. marks_in calls (get_or (map code_of methods) i None) (plans n)) same

marks_count : (plans : Plans) (calls : Calls) (first : ℕ) (methods : List Member) → length (marks_of_methods plans calls first methods) ≡ length methods
marks_count plans calls first [] = refl
marks_count plans calls first (m ∷ methods) = ap suc (marks_count plans calls (first + 1) methods)

-- the method of a number among those of some files, whose codes begin with this number
record IsFound (plans : Plans) (first class file : ℕ) (files : List ClassDef) (i : ℕ) (code : Code) : Type 0 where
  place : ℕ
  own : ClassDef
  at : slice_get files place ≡ Some own
  start : ℕ
  offset : ℕ
  inside : offset < length own.methods
  number : start + offset ≡ first + i
  new_at : slice_get (chained_from plans first files) place ≡ Some (chained_class plans start own)
  class_is : (get_or (methods_from class (declared_from file files)) i no_owned).class ≡ class + place
  new_is : get_or (all_codes (chained_from plans first files)) i None ≡ code_with (class_calls plans start own) (plans (first + i)) (Some code)
  marks_are : get_or (marks_from plans first files) i [] ≡ marks_in (class_calls plans start own) (Some code) (plans (first + i))
  old : HasMember own.methods (Some code)
  new : HasMember (chained_class plans start own).methods (get_or (all_codes (chained_from plans first files)) i None)

own_class : (class : ℕ) (methods : List DeclaredMethod) (i : ℕ) → i < length methods
    → (get_or (map (λ (m : DeclaredMethod). record { class = class; method = m }) methods) i no_owned).class ≡ class
own_class class [] i within = absurd (omega (arith, within))
own_class class (m ∷ methods) zero within = refl
own_class class (m ∷ methods) (suc i) within = own_class class methods i (omega (arith, within))

found : (plans : Plans) (first class file : ℕ) (files : List ClassDef) (i : ℕ) (code : Code) → get_or (all_codes files) i None ≡ Some code
    → IsFound plans first class file files i code
found plans first class file [] i code is = absurd (none-some code is)
found plans first class file (c ∷ files) i code is =
    by_place (cases_lt i (length c.methods)) (found plans (first + length c.methods) (class + 1) (file + 1) files (i - length c.methods) code) where
      own_codes : List (Option Code)
      own_codes = map code_of c.methods

      new_codes : List (Option Code)
      new_codes = map code_of (chained_class plans first c).methods

      others : List ClassDef
      others = chained_from plans (first + length c.methods) files

      declared : List DeclaredMethod
      declared = map (declared_method c.pool.entries) c.methods

      owned : List OwnedMethod
      owned = map (λ (m : DeclaredMethod). record { class = class; method = m }) declared

      rest : List OwnedMethod
      rest = methods_from (class + 1) (declared_from (file + 1) files)

      own_marks : List (List (Option ℕ))
      own_marks = marks_of_methods plans (class_calls plans first c) first c.methods

      other_marks : List (List (Option ℕ))
      other_marks = marks_from plans (first + length c.methods) files

      own_marks_count : length own_marks ≡ length c.methods
      own_marks_count = marks_count plans (class_calls plans first c) first c.methods

      old_count : length own_codes ≡ length c.methods
      old_count = length-map c.methods code_of

      new_count : length new_codes ≡ length c.methods
      new_count = class_count plans first c

      declared_count : length declared ≡ length c.methods
      declared_count = length-map c.methods (declared_method c.pool.entries)

      owned_count : length owned ≡ length c.methods
      owned_count = length-map declared (λ (m : DeclaredMethod). record { class = class; method = m }) ∙ declared_count

      by_place : (i < length c.methods) ⊎ (length c.methods ≤ i)
          → (get_or (all_codes files) (i - length c.methods) None ≡ Some code
          → IsFound plans (first + length c.methods) (class + 1) (file + 1) files (i - length c.methods) code)
          → IsFound plans first class file (c ∷ files) i code
      by_place (inl within) later =
          let old_is : get_or own_codes i None ≡ Some code =
          sym (get_or_append_left own_codes (all_codes files) None i (omega (arith, within, old_count))) ∙ is in
          let new_here : get_or (new_codes ++ all_codes others) i None ≡ get_or new_codes i None =
          get_or_append_left new_codes (all_codes others) None i (omega (arith, within, new_count)) in
          let methods_count : length (chained_class plans first c).methods ≡ length new_codes =
          sym (length-map (chained_class plans first c).methods code_of) in
          let same_class : class ≡ class + 0 = omega arith in
          let old = member_there c.methods i within in
          let new = member_there (chained_class plans first c).methods i (omega (arith, within, new_count, methods_count)) in
          record {
            place = 0;
            own = c;
            at = refl;
            start = first;
            offset = i;
            inside = within;
            number = refl;
            new_at = refl;
            class_is =
                ap (λ (m : OwnedMethod). m.class) (get_or_append_left owned rest no_owned i (omega (arith, within, owned_count)))
                ∙ own_class class declared i (omega (arith, within, declared_count)) ∙ same_class;
            new_is = new_here ∙ class_code plans first c i within ∙ ap (code_with (class_calls plans first c) (plans (first + i))) old_is;
            marks_are =
                get_or_append_left own_marks other_marks [] i (omega (arith, within, own_marks_count))
                ∙ methods_marks plans (class_calls plans first c) first c.methods i ∙ ap (λ o. marks_in (class_calls plans first c) o (plans (first + i))) old_is;
            old = record { member = old.member; among = old.among; code_is = old.code_is ∙ old_is };
            new = record { member = new.member; among = new.among; code_is = new.code_is ∙ sym new_here };
          }
      by_place (inr past) later =
          let k = i - length c.methods in
          let old_place : i ≡ length own_codes + k = omega (arith, past, old_count) in
          let new_place : i ≡ length new_codes + k = omega (arith, past, new_count) in
          let owned_place : i ≡ length owned + k = omega (arith, past, owned_count) in
          let marks_place : i ≡ length own_marks + k = omega (arith, past, own_marks_count) in
          let number : first + length c.methods + k ≡ first + i = omega (arith, past) in
          let there : get_or (all_codes files) k None ≡ Some code =
          sym (ap (λ n. get_or (own_codes ++ all_codes files) n None) old_place ∙ get_or-append-add own_codes (all_codes files) k None) ∙ is in
          let new_there : get_or (new_codes ++ all_codes others) i None ≡ get_or (all_codes others) k None =
          ap (λ n. get_or (new_codes ++ all_codes others) n None) new_place ∙ get_or-append-add new_codes (all_codes others) k None in
          let x = later there in
          let next_class : class + 1 + x.place ≡ class + suc x.place = omega arith in
          record {
            place = suc x.place;
            own = x.own;
            at = x.at;
            start = x.start;
            offset = x.offset;
            inside = x.inside;
            number = x.number ∙ number;
            new_at = x.new_at;
            class_is =
                ap (λ (m : OwnedMethod). m.class)
                (ap (λ n. get_or (owned ++ rest) n no_owned) owned_place ∙ get_or-append-add owned rest k no_owned)
                ∙ x.class_is ∙ next_class;
            new_is = new_there ∙ x.new_is ∙ ap (λ n. code_with (class_calls plans x.start x.own) (plans n) (Some code)) number;
            marks_are =
                ap (λ n. get_or (own_marks ++ other_marks) n []) marks_place ∙ get_or-append-add own_marks other_marks k [] ∙ x.marks_are
                ∙ ap (λ n. marks_in (class_calls plans x.start x.own) (Some code) (plans n)) number;
            old = x.old;
            new = record { member = x.new.member; among = x.new.among; code_is = x.new.code_is ∙ sym new_there };
          }

-- ---- by the numbers of a program

-- the class of a method, in both programs, and what its code becomes
pub record IsWritten (given : List ClassDef) (main : List ℕ) (plans : Plans) (method : ℕ) (code : Code) : Type 0 where
  pub place : ℕ
  pub own : ClassDef
  pub at : slice_get given place ≡ Some own
  pub start : ℕ
  -- it is this many methods behind the first one of its class
  pub offset : ℕ
  pub inside : offset < length own.methods
  pub number : start + offset ≡ method
  pub new_at : slice_get (chained_classes plans given) place ≡ Some (chained_class plans start own)
  pub class_is : class_of_method (outline_of given main) method ≡ length built_in + place
  pub new_is : code_at (program_of (chained_classes plans given) main) method ≡ code_with (class_calls plans start own) (plans method) (Some code)
  pub marks_are : slice_index_or (chained_marks_with plans given) method [] ≡ marks_in (class_calls plans start own) (Some code) (plans method)
  pub old : HasMember own.methods (Some code)
  pub new : HasMember (chained_class plans start own).methods (code_at (program_of (chained_classes plans given) main) method)

pub written_method : (given : List ClassDef) (main : List ℕ) (plans : Plans) (method : ℕ) (code : Code)
    → code_at (program_of given main) method ≡ Some code → IsWritten given main plans method code
unfolding program_of codes_of outline_of
written_method given main plans method code is = by_place (cases_lt method first_given) where
  front : List (Option Code)
  front = replicate (length (methods_of built_in)) None

  -- built-in methods have no marks
  no_marks : List (List (Option ℕ))
  no_marks = replicate first_given []

  count : length front ≡ first_given
  count = length-replicate (length (methods_of built_in)) None

  by_place : (method < first_given) ⊎ (first_given ≤ method) → IsWritten given main plans method code
  by_place (inl within) =
      absurd (none-some code (sym (get_or_append_left front (all_codes given) None method (omega (arith, within, count))
      ∙ get_or-replicate (length (methods_of built_in)) method None None within) ∙ is))
  by_place (inr past) =
      let k = method - first_given in
      let place : method ≡ length front + k = omega (arith, past, count) in
      let number : first_given + k ≡ method = omega (arith, past) in
      let none_count : length no_marks ≡ first_given = length-replicate first_given [] in
      let marks_place : method ≡ length no_marks + k = omega (arith, past, none_count) in
      let at_front : (others : List (Option Code)) → get_or (front ++ others) method None ≡ get_or others k None =
      λ others. ap (λ n. get_or (front ++ others) n None) place ∙ get_or-append-add front others k None in
      let x = found plans first_given (length built_in) 0 given k code (sym (at_front (all_codes given)) ∙ is) in
      let rest = methods_from (length built_in) (declared_from 0 given) in
      record {
        place = x.place;
        own = x.own;
        at = x.at;
        start = x.start;
        offset = x.offset;
        inside = x.inside;
        number = x.number ∙ number;
        new_at = x.new_at;
        class_is =
            ap (λ (m : OwnedMethod). m.class)
            (ap (λ list. get_or list method no_owned) (all_methods given) ∙ ap (λ n. get_or (methods_of built_in ++ rest) n no_owned) (sym number)
            ∙ get_or-append-add (methods_of built_in) rest k no_owned)
            ∙ x.class_is;
        new_is = at_front (all_codes (chained_classes plans given)) ∙ x.new_is ∙ ap (λ n. code_with (class_calls plans x.start x.own) (plans n) (Some code)) number;
        marks_are =
            ap (λ n. get_or (no_marks ++ marks_from plans first_given given) n []) marks_place
            ∙ get_or-append-add no_marks (marks_from plans first_given given) k [] ∙ x.marks_are
            ∙ ap (λ n. marks_in (class_calls plans x.start x.own) (Some code) (plans n)) number;
        old = x.old;
        new = record { member = x.new.member; among = x.new.among; code_is = x.new.code_is ∙ sym (at_front (all_codes (chained_classes plans given))) };
      }
