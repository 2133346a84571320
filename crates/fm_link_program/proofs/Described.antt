-- The descriptor of each member is a text that has a mark.
use Rattle.std.proofs.Common.{◌≡◌, refl, sym, ◌∙◌, ap, subst, ℕ, ◌<◌, ◌||◌, Bool, true, false, List, [], length, map, replicate, get_or, nat_eq, arith}
use Rattle.std.specs.List.{list_any, AllByRecursion}
use Rattle.std.proofs.lemmas.Bool.{or_right}
use Rattle.std.proofs.lemmas.List.{get_or-map, length-map, length-replicate}
use Rattle.std.proofs.lemmas.Option.{slice_get-get_or}
use Rattle.fm_base.proofs.ListFacts.{AllByRecursion-get_or}
use Rattle.fm_code.specs.Spells.{HasSpelling}
use Rattle.fm_code.specs.declared.class_file.ClassDef.{ClassDef}
use Rattle.fm_link_names.proofs.MarkLemmas.{get_or-marked, length-marked}
use Rattle.fm_link_names.proofs.SpelledNames.{few_fields, few_methods, FewField, FewMethod}
use Rattle.fm_base.specs.Rows.{marked}
use Rattle.fm_link_members.specs.declared.members.MemberRow.{MemberRow}
use Rattle.fm_link_members.specs.inner.MemberRows.{field_alike, method_alike, no_row, row_alike, AreRows, Owned}
use Rattle.fm_link_records.proofs.KindLaws.{IsDescribed}
use Rattle.fm_link_program.specs.inner.MemberLists.{descriptors_in}
use Rattle.fm_world.proofs.Displays.{is_among_at}
use Rattle.fm_world.specs.Declarations.{no_field, no_method}
use Rattle.fm_world.specs.Members.{OwnedField, OwnedMethod, field_at, fields_of, method_at, methods_of}
use Rattle.fm_world.specs.Programs.{classes_of}

-- ---- marks

-- a mark that is set stays so
kept_mark : (marks : List Bool) (more : List ℕ) (k : ℕ) → k < length marks → get_or marks k false ≡ true
    → get_or (marked marks more) k false ≡ true
kept_mark marks more k within is =
    get_or-marked marks more k within ∙ or_right (list_any (nat_eq k) more) (get_or marks k false) is

-- each of the numbers has a mark
own_mark : (marks : List Bool) (numbers : List ℕ) (k : ℕ) → k < length numbers → get_or numbers k 0 < length marks
    → get_or (marked marks numbers) (get_or numbers k 0) false ≡ true
own_mark marks numbers k within inside =
    get_or-marked marks numbers (get_or numbers k 0) inside
    ∙ ap (λ b. b || get_or marks (get_or numbers k 0) false) (is_among_at numbers k (get_or numbers k 0) within refl)

-- so has each number of two lists, of the first
pub first_marks : (texts : ℕ) (fields methods : List ℕ) (k : ℕ) → k < length fields → get_or fields k 0 < texts
    → get_or (marked (marked (replicate texts false) fields) methods) (get_or fields k 0) false ≡ true
first_marks texts fields methods k within inside =
    let long = length-replicate texts false in
    let longer = length-marked (replicate texts false) fields in
    let here : get_or fields k 0 < length (replicate texts false) = omega (arith, inside, long) in
    let there : get_or fields k 0 < length (marked (replicate texts false) fields) = omega (arith, inside, long, longer) in
    kept_mark (marked (replicate texts false) fields) methods (get_or fields k 0) there (own_mark (replicate texts false) fields k within here)

-- and of the second
pub second_marks : (texts : ℕ) (fields methods : List ℕ) (k : ℕ) → k < length methods → get_or methods k 0 < texts
    → get_or (marked (marked (replicate texts false) fields) methods) (get_or methods k 0) false ≡ true
second_marks texts fields methods k within inside =
    let long = length-replicate texts false in
    let longer = length-marked (replicate texts false) fields in
    let there : get_or methods k 0 < length (marked (replicate texts false) fields) = omega (arith, inside, long, longer) in
    own_mark (marked (replicate texts false) fields) methods k within there

-- ---- rows

-- as many rows as members
pub length-rows : (texts : List (List ℕ)) (owned : List Owned) (rows : List MemberRow) → AreRows texts owned rows → length rows ≡ length owned
length-rows texts owned rows are = sym (length-map rows (row_alike texts)) ∙ ap length are.same

-- the text of a descriptor
descriptor_at : (texts : List (List ℕ)) (owned : List Owned) (rows : List MemberRow) (k : ℕ) (d : Owned) → AreRows texts owned rows
    → k < length rows → get_or texts (get_or (descriptors_in rows) k 0) [] ≡ (get_or owned k d).descriptor
descriptor_at texts owned rows k d are within =
    ap (λ n. get_or texts n []) (get_or-map (λ (r : MemberRow). r.descriptor) rows k no_row 0 within)
    ∙ ap (λ (o : Owned). o.descriptor) (sym (get_or-map (row_alike texts) rows k no_row d within) ∙ ap (λ os. get_or os k d) are.same)

-- whose number is in range
descriptor_within : (texts : List (List ℕ)) (owned : List Owned) (rows : List MemberRow) (k : ℕ) → AreRows texts owned rows
    → k < length rows → get_or (descriptors_in rows) k 0 < length texts
descriptor_within texts owned rows k are within =
    subst (λ n. n < length texts) (sym (get_or-map (λ (r : MemberRow). r.descriptor) rows k no_row 0 within))
    (are.descriptors k (get_or rows k no_row) (slice_get-get_or rows k no_row within))

-- ---- all members

-- each field, and each method, has a descriptor that is kept
pub fields_described : (texts : List (List ℕ)) (given : List ClassDef) (rows : List MemberRow) (methods : List ℕ) → AllByRecursion HasSpelling given
    → AreRows texts (map field_alike (fields_of (classes_of given))) rows
    → (k : ℕ) → k < length (fields_of (classes_of given))
    → IsDescribed texts (marked (marked (replicate (length texts) false) (descriptors_in rows)) methods) (get_or (descriptors_in rows) k 0)
    (field_at (classes_of given) k).field.descriptor
fields_described texts given rows methods spelled are k within =
    let classes = classes_of given in
    let owned = map field_alike (fields_of classes) in
    let none : OwnedField = record { class = 0; field = no_field } in
    let long = length-rows texts owned rows are in
    let more = length-map (fields_of classes) field_alike in
    let inside : k < length rows = omega (arith, within, long, more) in
    let all = length-map rows (λ (r : MemberRow). r.descriptor) in
    let listed : k < length (descriptors_in rows) = omega (arith, inside, all) in
    let here = descriptor_within texts owned rows k are inside in
    record {
      within = here;
      text = descriptor_at texts owned rows k (field_alike none) are inside
          ∙ ap (λ (o : Owned). o.descriptor) (get_or-map field_alike (fields_of classes) k none (field_alike none) within);
      marked = first_marks (length texts) (descriptors_in rows) methods k listed here;
      few = AllByRecursion-get_or FewField (fields_of classes) none (few_fields given spelled) tt k;
    }

pub methods_described : (texts : List (List ℕ)) (given : List ClassDef) (rows : List MemberRow) (fields : List ℕ) → AllByRecursion HasSpelling given
    → AreRows texts (map method_alike (methods_of (classes_of given))) rows
    → (k : ℕ) → k < length (methods_of (classes_of given))
    → IsDescribed texts (marked (marked (replicate (length texts) false) fields) (descriptors_in rows)) (get_or (descriptors_in rows) k 0)
    (method_at (classes_of given) k).method.descriptor
methods_described texts given rows fields spelled are k within =
    let classes = classes_of given in
    let owned = map method_alike (methods_of classes) in
    let none : OwnedMethod = record { class = 0; method = no_method } in
    let long = length-rows texts owned rows are in
    let more = length-map (methods_of classes) method_alike in
    let inside : k < length rows = omega (arith, within, long, more) in
    let all = length-map rows (λ (r : MemberRow). r.descriptor) in
    let listed : k < length (descriptors_in rows) = omega (arith, inside, all) in
    let here = descriptor_within texts owned rows k are inside in
    record {
      within = here;
      text = descriptor_at texts owned rows k (method_alike none) are inside
          ∙ ap (λ (o : Owned). o.descriptor) (get_or-map method_alike (methods_of classes) k none (method_alike none) within);
      marked = second_marks (length texts) fields (descriptors_in rows) k listed here;
      few = AllByRecursion-get_or FewMethod (methods_of classes) none (few_methods given spelled) tt k;
    }
