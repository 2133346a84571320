-- Descriptors of methods, read from left to right.
use Rattle.std.proofs.Common.{◌≡◌, ◌↔◌, true, false, ℕ, zero, suc, ◌+◌, ◌<◌, ◌^◌, List, [], ◌∷◌, ◌++◌, Option, Some, None, refl, sym, ap, ◌∙◌, arith, append_assoc, replicate}
use Rattle.std.specs.Prelude.{IfSome}
use Rattle.std.specs.Option.{is_none}
use Rattle.std.specs.List.{sum_by, flat_map, AllByRecursion}
use Rattle.std.proofs.lemmas.Bool.{both_ways}
use Rattle.std.proofs.lemmas.List.Sums.{sum_by-cons}
use Rattle.std.proofs.lemmas.List.Concat.{flat_map-cons}
use Rattle.std.specs.Str.{bytes_eq}
use Rattle.std.proofs.lemmas.Slice.Eq.{bytes_eq-Decides}
use Rattle.fm_code.specs.Names.{is_primitive_letter, BaseType, primitive, object, IsBaseType, base_descriptor, FieldType, IsFieldType, field_descriptor, words_of, result_descriptor, IsFieldDescriptor}
use Rattle.fm_pool_texts.specs.Facts.{counted_words, AreMethodFacts}
use Rattle.fm_pool_texts.specs.inner.NameParts.{first_words, StartsWithField, AreResultFacts}
use Rattle.fm_pool_texts.specs.declared.descriptors.MethodFacts.{MethodFacts}
use Rattle.fm_base.proofs.ListFacts.{same_head, same_tail}
use Rattle.fm_pool_texts.proofs.DescriptorsLemmas.{words_of-first}

-- the rest of a method's descriptor, before it arguments of a given number of words
pub record IsMethodRest (facts : MethodFacts) (words : ℕ) (rest : List ℕ) : Type 0 where
  pub parameters : List FieldType
  pub result : Option FieldType
  pub are_types : AllByRecursion IsFieldType parameters
  pub is_type : IfSome result IsFieldType
  pub spelled : rest ≡ flat_map field_descriptor parameters ++ 41 ∷ result_descriptor result
  pub argument_words : facts.argument_words ≡ counted_words (words + sum_by words_of parameters)
  pub returns_nothing : facts.returns_nothing ≡ is_none result

-- after the ( no argument was read yet
pub method_start : (facts : MethodFacts) (bytes : List ℕ) → AreMethodFacts (40 ∷ bytes) facts ↔ IsMethodRest facts 0 bytes
method_start facts bytes = (
  λ w. record {
    parameters = w.type.parameters;
    result = w.type.result;
    are_types = w.is_type.parameters;
    is_type = w.is_type.result;
    spelled = same_tail _ _ _ _ w.spelled;
    argument_words = w.argument_words ∙ ap counted_words (none_yet (sum_by words_of w.type.parameters));
    returns_nothing = w.returns_nothing;
  },
  λ w. record {
    type = record { parameters = w.parameters; result = w.result };
    is_type = record { parameters = w.are_types; result = w.is_type };
    spelled = ap (λ (ys : List ℕ). 40 ∷ ys) w.spelled;
    argument_words = w.argument_words ∙ ap counted_words (sym (none_yet (sum_by words_of w.parameters)));
    returns_nothing = w.returns_nothing;
  },
) where
  none_yet : (n : ℕ) → n ≡ 0 + n
  none_yet n = omega arith

pub method_begins : (facts : MethodFacts) (d : List ℕ) → AreMethodFacts d facts → (rest : List ℕ) × (d ≡ 40 ∷ rest)
method_begins facts d w = (_, w.spelled)

-- no argument begins with )
closes : (t : FieldType) (rest more : List ℕ) → IsFieldType t → field_descriptor t ++ rest ≡ 41 ∷ more → ⊥
closes t rest more ok e = by t.dimensions t.base ok.base e where
  by : (dimensions : ℕ) (base : BaseType) → IsBaseType base → (replicate dimensions 91 ++ base_descriptor base) ++ rest ≡ 41 ∷ more → ⊥
  by (suc n) base ok e = omega (arith, same_head _ _ _ _ e)
  by zero (primitive letter) ok e = both_ways (is_primitive_letter letter) (ap is_primitive_letter (same_head _ _ _ _ e)) ok
  by zero (object name) ok e = omega (arith, same_head _ _ _ _ e)

-- the first argument, and those after it
argument_apart : (t : FieldType) (ts : List FieldType) (more : List ℕ) → flat_map field_descriptor (t ∷ ts) ++ more ≡ field_descriptor t ++ (flat_map field_descriptor ts ++ more)
argument_apart t ts more = ap (λ (ys : List ℕ). ys ++ more) (flat_map-cons field_descriptor t ts) ∙ append_assoc (field_descriptor t) (flat_map field_descriptor ts) more

-- one more argument counts on
more_words : (words first others all : ℕ) → all ≡ first + others → counted_words (words + all) ≡ counted_words (counted_words (words + first) + others)
more_words words first others all is = omega (arith, is)

pub method_next : (facts : MethodFacts) (words : ℕ) (rest after : List ℕ) (found : Option (List ℕ)) → ((r : List ℕ) → StartsWithField rest r ↔ (found ≡ Some r)) → found ≡ Some after
    → IsMethodRest facts words rest ↔ IsMethodRest facts (counted_words (words + first_words rest)) after
method_next facts words rest after found decides is = (λ w. there w.parameters w.result w.are_types w.is_type w.spelled w.argument_words w.returns_nothing, back) where
  same : (r : List ℕ) → found ≡ Some r → r ≡ after
  same r e = let both : some r ≡ some after = sym e ∙ is in cc where
    some : List ℕ → Option (List ℕ)
    some x = Some x

  first : StartsWithField rest after
  first = (decides after).1 is

  there : (ps : List FieldType) (result : Option FieldType) → AllByRecursion IsFieldType ps → IfSome result IsFieldType → rest ≡ flat_map field_descriptor ps ++ 41 ∷ result_descriptor result
      → facts.argument_words ≡ counted_words (words + sum_by words_of ps) → facts.returns_nothing ≡ is_none result → IsMethodRest facts (counted_words (words + first_words rest)) after
  there [] result oks ok e count nothing = absurd (closes first.type after (result_descriptor result) first.is_type (sym first.bytes_are ∙ e))
  there (t ∷ ts) result oks ok e count nothing =
      let remaining = flat_map field_descriptor ts ++ 41 ∷ result_descriptor result in
      let apart : rest ≡ field_descriptor t ++ remaining = e ∙ argument_apart t ts (41 ∷ result_descriptor result) in
      let is_behind : remaining ≡ after = same remaining ((decides remaining).0 (record { type = t; is_type = oks.0; bytes_are = apart })) in
      let word : words_of t ≡ first_words rest = words_of-first t remaining ∙ ap first_words (sym apart) in
      let all : sum_by words_of (t ∷ ts) ≡ first_words rest + sum_by words_of ts = omega (arith, word, sum_by-cons words_of t ts) in
      record {
        parameters = ts;
        result = result;
        are_types = oks.1;
        is_type = ok;
        spelled = sym is_behind;
        argument_words = count ∙ more_words words (first_words rest) (sum_by words_of ts) (sum_by words_of (t ∷ ts)) all;
        returns_nothing = nothing;
      }

  back : IsMethodRest facts (counted_words (words + first_words rest)) after → IsMethodRest facts words rest
  back w =
      let word : words_of first.type ≡ first_words rest = words_of-first first.type after ∙ ap first_words (sym first.bytes_are) in
      let all : sum_by words_of (first.type ∷ w.parameters) ≡ first_words rest + sum_by words_of w.parameters = omega (arith, word, sum_by-cons words_of first.type w.parameters) in
      record {
        parameters = first.type ∷ w.parameters;
        result = w.result;
        are_types = (first.is_type, w.are_types);
        is_type = w.is_type;
        spelled = first.bytes_are ∙ ap (λ (ys : List ℕ). field_descriptor first.type ++ ys) w.spelled ∙ sym (argument_apart first.type w.parameters (41 ∷ result_descriptor w.result));
        argument_words = w.argument_words ∙ sym (more_words words (first_words rest) (sum_by words_of w.parameters) (sum_by words_of (first.type ∷ w.parameters)) all);
        returns_nothing = w.returns_nothing;
      }

-- where no argument comes, ) and the result do
pub method_ends : (facts : MethodFacts) (words : ℕ) (rest : List ℕ) → words < 2 ^ 32 → ((r : List ℕ) → StartsWithField rest r → ⊥) → IsMethodRest facts words rest → (text : List ℕ) × (AreResultFacts words text facts × (rest ≡ 41 ∷ text))
method_ends facts words rest fits none w = ends w.parameters w.result w.are_types w.is_type w.spelled w.argument_words w.returns_nothing where
  ends : (ps : List FieldType) (result : Option FieldType) → AllByRecursion IsFieldType ps → IfSome result IsFieldType → rest ≡ flat_map field_descriptor ps ++ 41 ∷ result_descriptor result
      → facts.argument_words ≡ counted_words (words + sum_by words_of ps) → facts.returns_nothing ≡ is_none result → (text : List ℕ) × (AreResultFacts words text facts × (rest ≡ 41 ∷ text))
  ends [] result oks ok e count nothing = (result_descriptor result, (record { result = result; is_type = ok; spelled = refl; argument_words = omega (arith, count, fits); returns_nothing = nothing }, e))
  ends (t ∷ ts) result oks ok e count nothing =
      absurd (none (flat_map field_descriptor ts ++ 41 ∷ result_descriptor result) (record { type = t; is_type = oks.0; bytes_are = e ∙ argument_apart t ts (41 ∷ result_descriptor result) }))

pub method_done : (facts : MethodFacts) (words : ℕ) (text : List ℕ) → words < 2 ^ 32 → AreResultFacts words text facts → IsMethodRest facts words (41 ∷ text)
method_done facts words text fits w =
    record { parameters = []; result = w.result; are_types = tt; is_type = w.is_type; spelled = ap (λ (ys : List ℕ). 41 ∷ ys) w.spelled; argument_words = omega (arith, w.argument_words, fits); returns_nothing = w.returns_nothing }

-- ---- what is returned

-- V is no field's descriptor
not_v : (t : FieldType) → IsFieldType t → 86 ∷ [] ≡ field_descriptor t → ⊥
not_v t ok e = by t.dimensions t.base ok.base e where
  by : (dimensions : ℕ) (base : BaseType) → IsBaseType base → 86 ∷ [] ≡ replicate dimensions 91 ++ base_descriptor base → ⊥
  by (suc n) base ok e = omega (arith, same_head _ _ _ _ e)
  by zero (primitive letter) ok e = both_ways (is_primitive_letter letter) (ap is_primitive_letter (sym (same_head _ _ _ _ e))) ok
  by zero (object name) ok e = omega (arith, same_head _ _ _ _ e)

abbrev pub known : MethodFacts → Option MethodFacts
known facts = Some facts

pub same_facts : (f g : MethodFacts) → known f ≡ known g → f ≡ g
same_facts f g e = cc

-- V means that nothing is returned
pub result_nothing : (facts : MethodFacts) (words : ℕ) (text : List ℕ) → bytes_eq text (86 ∷ []) ≡ true → (known (record { argument_words = words; returns_nothing = true }) ≡ known facts) ↔ AreResultFacts words text facts
result_nothing facts words text v =
    let is_v : text ≡ 86 ∷ [] = (bytes_eq-Decides text (86 ∷ [])).0 v in (
      λ e. let same = same_facts _ _ e in
          record { result = None; is_type = tt; spelled = is_v; argument_words = ap (λ (f : MethodFacts). f.argument_words) (sym same); returns_nothing = ap (λ (f : MethodFacts). f.returns_nothing) (sym same) },
      λ w. by w.result w.is_type w.spelled w.argument_words w.returns_nothing,
    ) where
      by : (result : Option FieldType) → IfSome result IsFieldType → text ≡ result_descriptor result → facts.argument_words ≡ words → facts.returns_nothing ≡ is_none result → known (record { argument_words = words; returns_nothing = true }) ≡ known facts
      by None ok e count nothing = ap known (λ i. record { argument_words = sym count i; returns_nothing = sym nothing i })
      by (Some t) ok e count nothing = absurd (not_v t ok (sym ((bytes_eq-Decides text (86 ∷ [])).0 v) ∙ e))

-- what isn't V and is returned is a field's
pub result_field : (facts : MethodFacts) (words : ℕ) (text : List ℕ) → bytes_eq text (86 ∷ []) ≡ false → IsFieldDescriptor text → (known (record { argument_words = words; returns_nothing = false }) ≡ known facts) ↔ AreResultFacts words text facts
result_field facts words text no_v field = (
  λ e. let same = same_facts _ _ e in
      record { result = Some field.0; is_type = field.1.0; spelled = field.1.1; argument_words = ap (λ (f : MethodFacts). f.argument_words) (sym same); returns_nothing = ap (λ (f : MethodFacts). f.returns_nothing) (sym same) },
  λ w. by w.result w.is_type w.spelled w.argument_words w.returns_nothing,
) where
  by : (result : Option FieldType) → IfSome result IsFieldType → text ≡ result_descriptor result → facts.argument_words ≡ words → facts.returns_nothing ≡ is_none result → known (record { argument_words = words; returns_nothing = false }) ≡ known facts
  by None ok e count nothing = absurd (both_ways (bytes_eq text (86 ∷ [])) no_v ((bytes_eq-Decides text (86 ∷ [])).1 e))
  by (Some t) ok e count nothing = ap known (λ i. record { argument_words = sym count i; returns_nothing = sym nothing i })

pub result_none : (facts : MethodFacts) (words : ℕ) (text : List ℕ) → bytes_eq text (86 ∷ []) ≡ false → (IsFieldDescriptor text → ⊥) → AreResultFacts words text facts → ⊥
result_none facts words text no_v no_field w = by w.result w.is_type w.spelled where
  by : (result : Option FieldType) → IfSome result IsFieldType → text ≡ result_descriptor result → ⊥
  by None ok e = both_ways (bytes_eq text (86 ∷ [])) no_v ((bytes_eq-Decides text (86 ∷ [])).1 e)
  by (Some t) ok e = no_field (t, (ok, e))
