-- The main class and its main method, found by the tables, are those of the definitions.
use Rattle.std.proofs.Common.{◌≡◌, refl, sym, ◌∙◌, ap, subst, ℕ, zero, suc, ◌+◌, ◌-◌, ◌<◌, ◌≤◌, ◌&&◌, ◌||◌, not, Bool, true, false, cond, List, [], ◌∷◌, length, map, nat_eq, get_or, slice_get, Option, Some, None, option_and_then, option_map, is_some, arith}
use Rattle.std.specs.List.{position_from}
use Rattle.std.specs.Str.{bytes_eq}
use Rattle.std.proofs.lemmas.Bool.{eq-eqb, eqb-true, or_right}
use Rattle.std.proofs.lemmas.List.{get_or-map, length-map}
use Rattle.std.proofs.lemmas.Option.{none-some, same_Some, slice_get-get_or}
use Rattle.std.proofs.lemmas.List.Quantifiers.{position-Some}
use Rattle.fm_base.proofs.TestFacts.{same-nat_eq}
use Rattle.fm_code.specs.AccessFlags.{is_static}
use Rattle.fm_code.specs.declared.class_file.ClassDef.{ClassDef}
use Rattle.fm_link_names.specs.declared.given.GivenFile.{GivenFile}
use Rattle.fm_link_names.specs.inner.Numbering.{texts_in}
use Rattle.fm_link_members.proofs.FirstOnes.{first_from-is, first_is_one, position-is}
use Rattle.fm_link_members.proofs.NearestLemmas.{first_found-cons, widened}
use Rattle.fm_link_supers.proofs.NamedParentLemmas.{is_given, number_given}
use Rattle.fm_link_supers.proofs.ParentTables.{row_within}
use Rattle.fm_link_members.proofs.SectionLemmas.{is_named as is_member_named, own_method-position}
use Rattle.fm_link_members.proofs.SectionRows.{AreSections-methods}
use Rattle.fm_link_members.specs.declared.members.MemberRow.{MemberRow}
use Rattle.fm_link_members.specs.declared.members.Members.{Members}
use Rattle.fm_link_members.specs.inner.MemberRows.{method_alike, no_row, row_alike, section_of, AreMethodRows, AreSections, Owned}
use Rattle.fm_link_members.specs.inner.MemberTables.{first_from}
use Rattle.fm_link_members.specs.inner.NearestSteps.{or_else}
use Rattle.fm_link_refusals.proofs.CountLoops.{chain_inside}
use Rattle.fm_link_refusals.specs.declared.linking.Linking.{Linking}
use Rattle.fm_link_refusals.specs.inner.GivenClasses.{given_in}
use Rattle.fm_link_refusals.specs.inner.Linking.{IsLinking}
use Rattle.fm_link.specs.inner.MainClass.{is_main_at, is_main_in, is_main_row, main_between, main_descriptor, main_found, main_method_in, main_name, own_main_in}
use Rattle.fm_link_supers.specs.inner.NamedParents.{is_named, number_among}
use Rattle.fm_world.specs.BuiltIns.{built_in}
use Rattle.fm_world.specs.Causes.{is_there_and, no_main, NoMain, Refusal, refused_if}
use Rattle.fm_world.specs.Chains.{chain_of, first_found, given_number, is_among}
use Rattle.fm_world.specs.Declarations.{declared_from, no_class}
use Rattle.fm_world.specs.Linking.{refused_main}
use Rattle.fm_world.specs.Members.{methods_of, own_method}
use Rattle.fm_world.specs.Programs.{classes_of, main_of}
use Rattle.fm_world.specs.declared.declarations.DeclaredClass.{DeclaredClass}

-- ---- the first number that passes

pub first_here : (p : ℕ → Bool) (k end : ℕ) → k < end → p k ≡ true → first_from p (end - k) k ≡ Some k
first_here p k end within e =
    let one : end - k ≡ suc (end - (k + 1)) = omega arith in
    ap (λ n. first_from p n k) one ∙ ap (λ b. cond b (Some k) (first_from p (end - (k + 1)) (suc k))) e

pub first_next : (p : ℕ → Bool) (k end : ℕ) → k < end → p k ≡ false → first_from p (end - k) k ≡ first_from p (end - (k + 1)) (k + 1)
first_next p k end within e =
    let one : end - k ≡ suc (end - (k + 1)) = omega arith in
    let next : suc k ≡ k + 1 = omega arith in
    ap (λ n. first_from p n k) one ∙ ap (λ b. cond b (Some k) (first_from p (end - (k + 1)) (suc k))) e
    ∙ ap (first_from p (end - (k + 1))) next

pub first_none : (p : ℕ → Bool) (k end : ℕ) → end ≤ k → first_from p (end - k) k ≡ None
first_none p k end past = let none : end - k ≡ zero = omega arith in ap (λ n. first_from p n k) none

-- ---- the methods of one class

main_section : (texts : List (List ℕ)) (classes : List DeclaredClass) (m : Members) → AreMethodRows texts classes m → (class start end : ℕ)
    → class < length classes → section_of m.first.items class ≡ (start, end)
    → main_between texts m.rows.items (start, end) ≡ own_method classes is_static main_name main_descriptor class
main_section texts classes m are class start end within section =
    first_is_one q (λ k. named (get_or owned k (row_alike texts no_row))) 0 (length rows) (main_between texts rows (start, end))
    (position_from named 0 owned) (λ k from below. same k below)
    (widened p q start end (length rows) (main_between texts rows (start, end)) inside p_is_q only
    (first_from-is p (end - start) start end (omega (arith, rising))))
    (position-is named owned 0 (row_alike texts no_row) (λ k. named (get_or owned k (row_alike texts no_row))) (length rows)
    (omega (arith, count)) (λ k below. ap (λ j. named (get_or owned j (row_alike texts no_row))) (omega arith)))
    ∙ sym (own_method-position classes is_static main_name main_descriptor class) where
      sections : AreSections classes m
      sections = AreSections-methods texts classes m are

      rows : List MemberRow
      rows = m.rows.items

      owned : List Owned
      owned = map method_alike (methods_of classes)

      named : Owned → Bool
      named = is_member_named is_static main_name main_descriptor class

      p : ℕ → Bool
      p = is_main_at texts rows

      q : ℕ → Bool
      q k = nat_eq (get_or rows k no_row).class class && is_main_row texts (get_or rows k no_row)

      count : length rows ≡ length owned
      count = sym (length-map rows (row_alike texts)) ∙ ap length are.rows.same

      inside : end ≤ length rows
      inside = let P : ℕ × ℕ → Type 0 = λ s. s.1 ≤ length rows in subst P section (sections.within class within)

      rising : start ≤ end
      rising = let P : ℕ × ℕ → Type 0 = λ s. s.0 ≤ s.1 in subst P section (sections.rising class within)

      of_class : (k : ℕ) → start ≤ k → k < end → nat_eq (get_or rows k no_row).class class ≡ true
      of_class k low high =
          eq-eqb (get_or rows k no_row).class class
          (let P : ℕ × ℕ → Type 0 = λ s. s.0 ≤ k → k < s.1 → (get_or rows k no_row).class ≡ class in subst P section (sections.inside class k within) low high)

      p_is_q : (k : ℕ) → start ≤ k → k < end → p k ≡ q k
      p_is_q k low high =
          ap (is_main_in texts) (slice_get-get_or rows k no_row (omega (arith, high, inside)))
          ∙ sym (ap (λ b. b && is_main_row texts (get_or rows k no_row)) (of_class k low high))

      class_test : (a b : Bool) → (a && b) ≡ true → a ≡ true
      class_test true b e = refl
      class_test false b e = e

      only : (k : ℕ) → k < length rows → q k ≡ true → (start ≤ k) × (k < end)
      only k below e =
          let found = sections.outside class k below
          (eqb-true (get_or rows k no_row).class class (class_test (nat_eq (get_or rows k no_row).class class) (is_main_row texts (get_or rows k no_row)) e)) in
          let P : ℕ × ℕ → Type 0 = λ s. (s.0 ≤ k) × (k < s.1) in subst P section (found.1, found.2)

      same : (k : ℕ) → k < length rows → q k ≡ named (get_or owned k (row_alike texts no_row))
      same k below =
          ap named (sym (get_or-map (row_alike texts) rows k no_row (row_alike texts no_row) below) ∙ ap (λ xs. get_or xs k (row_alike texts no_row)) are.rows.same)

own_main_is : (classes : List DeclaredClass) (l : Linking) → IsLinking classes l → (class : ℕ) → class < length classes
    → own_main_in l class ≡ own_method classes is_static main_name main_descriptor class
own_main_is classes l is class within =
    let section = section_of l.methods.now.members.first.items class in
    main_section (texts_in l.texts.now) classes l.methods.now.members is.methods.rows class section.0 section.1 within refl

-- ---- along the chain

found_agree : (f g : ℕ → Option ℕ) (xs : List ℕ) → ((x : ℕ) → is_among x xs ≡ true → f x ≡ g x) → first_found f xs ≡ first_found g xs
found_agree f g [] same = refl
found_agree f g (x ∷ xs) same =
    first_found-cons f x xs ∙ ap (λ o. or_else o (first_found f xs)) (same x (ap (λ b. b || is_among x xs) (same-nat_eq x)))
    ∙ ap (or_else (g x)) (found_agree f g xs (λ y among. same y (or_right (nat_eq y x) (is_among y xs) among)))
    ∙ sym (first_found-cons g x xs)

pub main_method_is : (classes : List DeclaredClass) (l : Linking) → IsLinking classes l → (class : ℕ) → class < length classes
    → main_method_in l class ≡ main_of classes class
main_method_is classes l is class within =
    ap (first_found (own_main_in l)) (row_within (chain_of classes) (length classes) [] _ is.hierarchy.chains class within)
    ∙ found_agree (own_main_in l) (own_method classes is_static main_name main_descriptor) (chain_of classes class)
    (λ x among. own_main_is classes l is x (chain_inside classes class within x among))

-- ---- the main class

files_named : (name : List ℕ) (i n : ℕ) (files : List GivenFile)
    → position_from (λ (c : DeclaredClass). bytes_eq c.name name) i (declared_from n (given_in files)) ≡ position_from (is_named name) i files
files_named name i n [] = refl
files_named name i n (file ∷ files) = ap (λ o. cond (is_named name file) (Some i) o) (files_named name (i + 1) (n + 1) files)

pub number_is : (name : List ℕ) (files : List GivenFile) → number_among name files ≡ given_number (classes_of (given_in files)) name
number_is name files = sym (number_given (given_in files) name ∙ files_named name (length built_in) 0 files)

number_within : (classes : List DeclaredClass) (name : List ℕ) (k : ℕ) → given_number classes name ≡ Some k → k < length classes
number_within classes name k e = (position-Some (is_given name) classes k no_class e).0

-- ---- both

abbrev pub pair_with : ℕ → ℕ → ℕ × ℕ
pair_with class method = (class, method)

pub both_found : (classes : List DeclaredClass) (l : Linking) → IsLinking classes l → (name : List ℕ) (class : ℕ) (method : Option ℕ)
    → given_number classes name ≡ Some class → method ≡ main_method_in l class
    → option_map (pair_with class) method ≡ main_found classes name
both_found classes l is name class method e found =
    ap (option_map (pair_with class)) (found ∙ main_method_is classes l is class (number_within classes name class e))
    ∙ sym (ap (option_and_then (λ k. option_map (pair_with k) (main_of classes k))) e)

pub no_class_found : (classes : List DeclaredClass) (name : List ℕ) → given_number classes name ≡ None → None ≡ main_found classes name
no_class_found classes name e = sym (ap (option_and_then (λ k. option_map (pair_with k) (main_of classes k))) e)

-- ---- what is refused

pub record IsMain (given : List ClassDef) (name : List ℕ) (class method : ℕ) : Type 0 where
  pub none : refused_main given name ≡ []
  pub class_is : given_number (classes_of given) name ≡ Some class
  pub method_is : main_of (classes_of given) class ≡ Some method

abbrev no_main_refusal : List ℕ → Refusal
no_main_refusal name = record { cause = NoMain; name = name; user = name }

accepted : (classes : List DeclaredClass) (name : List ℕ) (class method : ℕ) → given_number classes name ≡ Some class
    → main_of classes class ≡ Some method → no_main classes name ≡ []
accepted classes name class method e f =
    ap (λ o. refused_if (not (is_there_and (λ k. is_some (main_of classes k)) o)) (no_main_refusal name)) e
    ∙ ap (λ o. refused_if (not (is_some o)) (no_main_refusal name)) f

refused_class : (classes : List DeclaredClass) (name : List ℕ) → given_number classes name ≡ None → no_main classes name ≡ no_main_refusal name ∷ []
refused_class classes name e = ap (λ o. refused_if (not (is_there_and (λ k. is_some (main_of classes k)) o)) (no_main_refusal name)) e

refused_method : (classes : List DeclaredClass) (name : List ℕ) (class : ℕ) → given_number classes name ≡ Some class → main_of classes class ≡ None
    → no_main classes name ≡ no_main_refusal name ∷ []
refused_method classes name class e f =
    ap (λ o. refused_if (not (is_there_and (λ k. is_some (main_of classes k)) o)) (no_main_refusal name)) e
    ∙ ap (λ o. refused_if (not (is_some o)) (no_main_refusal name)) f

pub main_there : (given : List ClassDef) (name : List ℕ) (class method : ℕ) → main_found (classes_of given) name ≡ Some (class, method)
    → IsMain given name class method
unfolding refused_main
main_there given name class method e = by_class (given_number classes name) refl e where
  classes : List DeclaredClass
  classes = classes_of given

  by_method : (k : ℕ) → given_number classes name ≡ Some k → (o : Option ℕ) → main_of classes k ≡ o
      → option_map (pair_with k) o ≡ Some (class, method) → IsMain given name class method
  by_method k is None f h = absurd (none-some (pair_with class method) h)
  by_method k is (Some m) f h =
      let same : pair_with k m ≡ pair_with class method = same_Some (pair_with k m) (pair_with class method) h in
      let there : main_of classes class ≡ Some method = ap (main_of classes) (sym (ap (λ (p : ℕ × ℕ). p.0) same)) ∙ f ∙ ap (λ (p : ℕ × ℕ). Some p.1) same in
      let number : given_number classes name ≡ Some class = is ∙ ap (λ (p : ℕ × ℕ). Some p.0) same in
      record { none = accepted classes name class method number there; class_is = number; method_is = there }

  by_class : (o : Option ℕ) → given_number classes name ≡ o → option_and_then (λ k. option_map (pair_with k) (main_of classes k)) o ≡ Some (class, method)
      → IsMain given name class method
  by_class None is h = absurd (none-some (pair_with class method) h)
  by_class (Some k) is h = by_method k is (main_of classes k) refl h

pub main_missing : (given : List ClassDef) (name : List ℕ) → main_found (classes_of given) name ≡ None
    → slice_get (refused_main given name) 0 ≡ Some (no_main_refusal name)
unfolding refused_main
main_missing given name e = ap (λ rs. slice_get rs 0) (by_class (given_number classes name) refl e) where
  classes : List DeclaredClass
  classes = classes_of given

  by_method : (k : ℕ) → given_number classes name ≡ Some k → (o : Option ℕ) → main_of classes k ≡ o → option_map (pair_with k) o ≡ None
      → no_main classes name ≡ no_main_refusal name ∷ []
  by_method k is None f h = refused_method classes name k is f
  by_method k is (Some m) f h = absurd (none-some (pair_with k m) (sym h))

  by_class : (o : Option ℕ) → given_number classes name ≡ o → option_and_then (λ k. option_map (pair_with k) (main_of classes k)) o ≡ None
      → no_main classes name ≡ no_main_refusal name ∷ []
  by_class None is h = refused_class classes name is
  by_class (Some k) is h = by_method k is (main_of classes k) refl h
