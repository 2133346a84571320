-- Tables that are made one after the other are those that a program has.
use Rattle.std.proofs.Common.{◌≡◌, refl, sym, ◌∙◌, ap, ℕ, zero, suc, ◌+◌, ◌<◌, List, ◌∷◌, length, map, reverse, get_or, Option, Some, None, zero-add, arith}
use Rattle.std.specs.List.{range_with_len}
use Rattle.std.proofs.lemmas.List.{ext_get_or}
use Rattle.std.proofs.lemmas.List.FromFn.{get_or-map-range_with_len, length-map-range_with_len}
use Rattle.fm_code.specs.declared.code_array.Code.{Code}
use Rattle.fm_world.specs.Chains.{chain_of}
use Rattle.fm_world.specs.Declarations.{no_field, no_method}
use Rattle.fm_world.specs.Members.{field_at, fields_of, methods_of, method_at, slot_of}
use Rattle.fm_world.specs.Programs.{Outline, Program, body_of, class_info, field_info, method_info}
use Rattle.fm_world.specs.declared.declarations.DeclaredClass.{DeclaredClass}
use Rattle.fm_world.specs.declared.declarations.DeclaredMethod.{DeclaredMethod}
use Rattle.fm_world.specs.declared.records.MethodInfo.{MethodInfo}
use Rattle.fm_world.specs.declared.uses.Use.{Use}
use Rattle.fm_world.specs.declared.uses.Use.TheVariants as resolved
use Rattle.fm_world.specs.inner.Tables.{code_in, numbers_below}
use Rattle.fm_link_names.specs.declared.descriptors.Kinds.{Kinds}
use Rattle.fm_link_supers.proofs.ParentTables.{map_twice}
use Rattle.fm_link_records.specs.inner.Assembled.{AreCodes, AreFieldKinds, AreFirsts, AreMethodKinds}
use Rattle.fm_link_records.specs.inner.Classes.{bare_outline}
use Rattle.fm_link_records.specs.inner.Fields.{field_numbered, fields_told}
use Rattle.fm_link_records.specs.inner.Methods.{method_numbered, methods_told}
use Rattle.fm_link_records.proofs.ClassSteps.{table_default}
use Rattle.fm_link_records.proofs.RowSteps.{map_from-numbers}

-- two functions that agree below a number
pub map-below : {A : Type 0} (f g : ℕ → A) (a n : ℕ) → ((k : ℕ) → k < a + n → f k ≡ g k) → map f (range_with_len a n) ≡ map g (range_with_len a n)
map-below f g a zero same = refl
map-below f g a (suc n) same =
    ap (λ x. x ∷ map f (range_with_len (a + 1) n)) (same a (omega arith))
    ∙ ap (λ xs. g a ∷ xs) (map-below f g (a + 1) n (λ k h. same k (omega (arith, h))))

pub map-numbers_below : {A : Type 0} (f g : ℕ → A) (n : ℕ) → ((k : ℕ) → k < n → f k ≡ g k) → map f (numbers_below n) ≡ map g (numbers_below n)
map-numbers_below f g n same = map-below f g 0 n (λ k h. same k (omega (arith, h)))

-- ---- classes

pub class_info-outline : (o : Outline) (class : ℕ) → class_info (bare_outline o.classes) class ≡ class_info o class
unfolding class_info
class_info-outline o class = refl

-- ---- methods

-- the methods by their numbers
pub methods_by_number : (classes : List DeclaredClass) (kinds : List (Option Kinds)) (codes : List (Option Code))
    → methods_told kinds codes 0 (methods_of classes)
    ≡ map (λ k. method_numbered kinds codes k (method_at classes k)) (numbers_below (length (methods_of classes)))
methods_by_number classes kinds codes = map_from-numbers (method_numbered kinds codes) (methods_of classes) (record { class = 0; method = no_method })

-- the code in what is recorded about a method
code_in-body : (m : DeclaredMethod) (code : Option Code) → ((row : ℕ) → m.row ≡ Some row → code ≡ None) → code_in (body_of m code) ≡ code
code_in-body m code none = by m.row code none where
  by : (row : Option ℕ) (code : Option Code) → ((r : ℕ) → row ≡ Some r → code ≡ None) → code_in (body_of (record m { row = row }) code) ≡ code
  by None None h = refl
  by None (Some c) h = refl
  by (Some row) code h = sym (h row refl)

-- the codes of the methods are those that their records were made from
pub codes-told : (classes : List DeclaredClass) (kinds : List (Option Kinds)) (codes : List (Option Code)) → AreCodes classes codes
    → map (λ (m : MethodInfo). code_in m.body) (methods_told kinds codes 0 (methods_of classes)) ≡ codes
codes-told classes kinds codes are =
    let count = length (methods_of classes) in
    ap (map (λ (m : MethodInfo). code_in m.body)) (methods_by_number classes kinds codes)
    ∙ map_twice (λ (m : MethodInfo). code_in m.body) (λ k. method_numbered kinds codes k (method_at classes k)) (numbers_below count)
    ∙ map-numbers_below (λ k. code_in (body_of (method_at classes k).method (get_or codes k None))) (λ k. get_or codes k None) count
    (λ k h. code_in-body (method_at classes k).method (get_or codes k None) (λ row is. are.built_in k row h is))
    ∙ by_number codes count are.count where
      by_number : (xs : List (Option Code)) (n : ℕ) → length xs ≡ n → map (λ k. get_or xs k None) (numbers_below n) ≡ xs
      by_number xs n long =
          let f : ℕ → Option Code = λ k. get_or xs k None in
          ext_get_or None (map f (numbers_below n)) xs (length-map-range_with_len f 0 n ∙ sym long)
          (λ i h. get_or-map-range_with_len f 0 n i i None (omega (arith, h, length-map-range_with_len f 0 n)) (zero-add i))

-- what is recorded about a method is what a program of these classes and codes records about it
method_is : (p : Program) (kinds : List (Option Kinds)) (codes : List (Option Code)) (k : ℕ) → AreMethodKinds p.outline.classes kinds
    → p.codes ≡ codes → k < length (methods_of p.outline.classes)
    → method_numbered kinds codes k (method_at p.outline.classes k) ≡ method_info p k
unfolding method_info
method_is p kinds codes k are is within =
    let info = method_numbered kinds codes k (method_at p.outline.classes k) in
    ap (λ ps. record info { params = ps }) (are.params k within)
    ∙ ap (λ r. record (method_info p k) { result = r; body = body_of (method_at p.outline.classes k).method (get_or codes k None) }) (are.results k
    within)
    ∙ ap (λ cs. record (method_info p k) { body = body_of (method_at p.outline.classes k).method (get_or cs k None) }) (sym is)

pub methods-program : (p : Program) (kinds : List (Option Kinds)) (codes : List (Option Code)) → AreMethodKinds p.outline.classes kinds → p.codes
    ≡ codes
    → methods_told kinds codes 0 (methods_of p.outline.classes) ≡ map (method_info p) (numbers_below (length (methods_of p.outline.classes)))
methods-program p kinds codes are is =
    methods_by_number p.outline.classes kinds codes
    ∙ map-numbers_below (λ k. method_numbered kinds codes k (method_at p.outline.classes k)) (method_info p) (length (methods_of p.outline.classes))
    (λ k h. method_is p kinds codes k are is h)

-- ---- fields

-- the fields by their numbers
pub fields_by_number : (classes : List DeclaredClass) (kinds : List (Option Kinds)) (slots : List ℕ) (firsts : List Use)
    → fields_told kinds slots firsts 0 (fields_of classes)
    ≡ map (λ k. field_numbered kinds slots firsts k (field_at classes k)) (numbers_below (length (fields_of classes)))
fields_by_number classes kinds slots firsts = map_from-numbers (field_numbered kinds slots firsts) (fields_of classes) (record {
  class = 0;
  field =
      no_field;
})

field_is : (o : Outline) (kinds : List (Option Kinds)) (slots : List ℕ) (firsts : List Use) (k : ℕ) → AreFieldKinds o.classes kinds
    → slots ≡ map (slot_of o.classes) (numbers_below (length (fields_of o.classes))) → AreFirsts o firsts → k < length (fields_of o.classes)
    → field_numbered kinds slots firsts k (field_at o.classes k) ≡ field_info o k
unfolding field_info
field_is o kinds slots firsts k are is held within =
    let info = field_numbered kinds slots firsts k (field_at o.classes k) in
    ap (λ x. record info { kind = x }) (are k within)
    ∙ ap (λ x. record (field_info o k) { slot = x; first = get_or firsts k resolved.Unused })
    (table_default (slot_of o.classes) (length (fields_of o.classes)) k slots 0 is within)
    ∙ ap (λ x. record (field_info o k) { first = x }) (held k within)

pub fields-outline : (o : Outline) (kinds : List (Option Kinds)) (slots : List ℕ) (firsts : List Use) → AreFieldKinds o.classes kinds
    → slots ≡ map (slot_of o.classes) (numbers_below (length (fields_of o.classes))) → AreFirsts o firsts
    → fields_told kinds slots firsts 0 (fields_of o.classes) ≡ map (field_info o) (numbers_below (length (fields_of o.classes)))
fields-outline o kinds slots firsts are is held =
    fields_by_number o.classes kinds slots firsts
    ∙ map-numbers_below (λ k. field_numbered kinds slots firsts k (field_at o.classes k)) (field_info o) (length (fields_of o.classes))
    (λ k h. field_is o kinds slots firsts k are is held h)

-- ---- displays

pub displays-all : (classes : List DeclaredClass) (displays chains : List (List ℕ)) → chains ≡ map (chain_of classes) (numbers_below (length classes))
    → displays ≡ map reverse chains → displays ≡ map (λ class. reverse (chain_of classes class)) (numbers_below (length classes))
displays-all classes displays chains are is = is ∙ ap (map reverse) are ∙ map_twice reverse (chain_of classes) (numbers_below (length classes))
