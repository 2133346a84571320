-- The codes of written classes are the old ones, with what is inserted where a method has a plan.
use Rattle.std.proofs.Common.{◌≡◌, refl, sym, ◌∙◌, ap, ℕ, zero, suc, ◌+◌, ◌-◌, ◌<◌, ◌≤◌, ◌⊎◌, inl, inr, Bool, true, false, cond, ◌||◌, List, [], ◌∷◌, ◌++◌, length, map, replicate, get_or, Option, Some, None, is_some, option_map, arith}
use Rattle.std.specs.List.{flat_map, list_any, range_with_len}
use Rattle.std.proofs.lemmas.Bool.{cases_lt, false≢true}
use Rattle.std.proofs.lemmas.List.{get_or-append-add, get_or-replicate, get_or_append_left, length-map, length-replicate}
use Rattle.fm_law_relinked.specs.Codes.{code_with, CodesAreChained, IsChainedCode}
use Rattle.fm_chain.specs.Chained.{chained_code}
use Rattle.fm_chain.specs.Chaining.{calls_for, chained_attribute, chained_class, chained_classes, chained_from, chained_method, chained_methods, changed_class, class_calls}
use Rattle.fm_chain.specs.declared.calls.Calls.{Calls}
use Rattle.fm_code.specs.Members.{code_of}
use Rattle.fm_code.specs.declared.class_file.ClassDef.{ClassDef}
use Rattle.fm_code.specs.declared.class_file.Member.{Member}
use Rattle.fm_code.specs.declared.class_file.MemberAttr.{MemberAttr}
use Rattle.fm_code.specs.declared.class_file.MemberAttr.TheVariants as attribute
use Rattle.fm_code.specs.declared.code_array.Code.{Code}
use Rattle.fm_place.specs.Insertions.{Insertions}
use Rattle.fm_place.specs.Rewriting.{changes, first_given, Plans}
use Rattle.fm_world.specs.BuiltIns.{built_in}
use Rattle.fm_world.specs.Members.{methods_of}
use Rattle.fm_world.specs.Programs.{codes_of, program_of}

-- ---- methods

attributes_code : (calls : Calls) (plan : Insertions) (m : Member) (attributes : List MemberAttr)
    → code_of (record m { attributes = map (chained_attribute calls plan) attributes })
    ≡ option_map (λ code. chained_code calls code plan) (code_of (record m { attributes = attributes }))
attributes_code calls plan m [] = refl
attributes_code calls plan m (attribute.Constant name value ∷ attributes) = attributes_code calls plan m attributes
attributes_code calls plan m (attribute.Coded name code ∷ attributes) = refl
attributes_code calls plan m (attribute.Other raw ∷ attributes) = attributes_code calls plan m attributes

pub method_code : (calls : Calls) (plan : Option Insertions) (m : Member) → code_of (chained_method calls plan m) ≡ code_with calls plan (code_of m)
method_code calls None m = refl
method_code calls (Some plan) m = attributes_code calls plan m m.attributes

-- no code stays none
pub no_code : (calls : Calls) (plan : Option Insertions) → code_with calls plan None ≡ None
no_code calls None = refl
no_code calls (Some plan) = refl

abbrev pub codes : List Member → List (Option Code)
codes methods = map code_of methods

module _ (plans : Plans) where
  pub methods_code : (calls : Calls) (first : ℕ) (methods : List Member) (i : ℕ)
      → get_or (codes (chained_methods plans calls first methods)) i None ≡ code_with calls (plans (first + i)) (get_or (codes methods) i None)
  methods_code calls first [] i = sym (no_code calls (plans (first + i)))
  methods_code calls first (m ∷ methods) zero =
      let same : first ≡ first + 0 = omega arith in
      method_code calls (plans first) m ∙ ap (λ k. code_with calls (plans k) (code_of m)) same
  methods_code calls first (m ∷ methods) (suc i) =
      let same : first + 1 + i ≡ first + suc i = omega arith in
      methods_code calls (first + 1) methods i ∙ ap (λ k. code_with calls (plans k) (get_or (codes methods) i None)) same

  count_kept : (calls : Calls) (first : ℕ) (methods : List Member) → length (chained_methods plans calls first methods) ≡ length methods
  count_kept calls first [] = refl
  count_kept calls first (m ∷ methods) = ap suc (count_kept calls (first + 1) methods)

  -- ---- a class

  no_plan : (o : Option Insertions) → is_some o ≡ false → o ≡ None
  no_plan None none = refl
  no_plan (Some plan) none = absurd (false≢true (sym none))

  both_fail : (a b : Bool) → (a || b) ≡ false → (a ≡ false) × (b ≡ false)
  both_fail true b e = absurd (false≢true (sym e))
  both_fail false b e = (refl, e)

  -- no method of a class that isn't changed has a plan
  none_planned : (first n i : ℕ) → list_any (λ method. is_some (plans method)) (range_with_len first n) ≡ false → i < n → plans (first + i) ≡ None
  none_planned first zero i none within = absurd (omega (arith, within))
  none_planned first (suc n) zero none within =
      let same : first + 0 ≡ first = omega arith in
      ap plans same ∙ no_plan (plans first) (both_fail (is_some (plans first)) _ none).0
  none_planned first (suc n) (suc i) none within =
      let same : first + suc i ≡ first + 1 + i = omega arith in
      ap plans same ∙ none_planned (first + 1) n i (both_fail (is_some (plans first)) _ none).1 (omega (arith, within))

  abbrev chosen : (first : ℕ) → ClassDef → Bool → ClassDef
  chosen first c b = cond b (changed_class plans first c) c

  pub class_code : (first : ℕ) (c : ClassDef) (i : ℕ) → i < length c.methods
      → get_or (codes (chained_class plans first c).methods) i None ≡ code_with (class_calls plans first c) (plans (first + i)) (get_or (codes c.methods) i None)
  class_code first c i within = by_change (changes plans first c) refl where
    by_change : (b : Bool) → changes plans first c ≡ b
        → get_or (codes (chosen first c b).methods) i None ≡ code_with (class_calls plans first c) (plans (first + i)) (get_or (codes c.methods) i None)
    by_change true is = methods_code (class_calls plans first c) first c.methods i
    by_change false is = sym (ap (λ o. code_with (class_calls plans first c) o (get_or (codes c.methods) i None)) (none_planned first (length c.methods) i is within))

  pub class_count : (first : ℕ) (c : ClassDef) → length (codes (chained_class plans first c).methods) ≡ length c.methods
  class_count first c = by_change (changes plans first c) where
    by_change : (b : Bool) → length (codes (chosen first c b).methods) ≡ length c.methods
    by_change true = length-map (chained_methods plans (class_calls plans first c) first c.methods) code_of ∙ count_kept (class_calls plans first c) first c.methods
    by_change false = length-map c.methods code_of

  -- ---- all classes

  abbrev all_codes : List ClassDef → List (Option Code)
  all_codes given = flat_map (λ (c : ClassDef). map code_of c.methods) given

  classes_code : (first : ℕ) (given : List ClassDef) (i : ℕ)
      → IsChainedCode (plans (first + i)) (get_or (all_codes given) i None) (get_or (all_codes (chained_from plans first given)) i None)
  classes_code first [] i = record { calls = calls_for false []; new_is = sym (no_code (calls_for false []) (plans (first + i))) }
  classes_code first (c ∷ given) i = by_place (cases_lt i (length c.methods)) (classes_code (first + length c.methods) given (i - length c.methods)) where
    own : List (Option Code)
    own = codes c.methods

    new : List (Option Code)
    new = codes (chained_class plans first c).methods

    others : List ClassDef
    others = chained_from plans (first + length c.methods) given

    by_place : (i < length c.methods) ⊎ (length c.methods ≤ i)
        → IsChainedCode (plans (first + length c.methods + (i - length c.methods))) (get_or (all_codes given) (i - length c.methods) None)
        (get_or (all_codes others) (i - length c.methods) None)
        → IsChainedCode (plans (first + i)) (get_or (own ++ all_codes given) i None) (get_or (new ++ all_codes others) i None)
    by_place (inl within) later =
        let old_count : length own ≡ length c.methods = length-map c.methods code_of in
        let new_count : length new ≡ length c.methods = class_count first c in
        record {
          calls = class_calls plans first c;
          new_is =
              get_or_append_left new (all_codes others) None i (omega (arith, within, new_count))
              ∙ class_code first c i within
              ∙ ap (code_with (class_calls plans first c) (plans (first + i))) (sym (get_or_append_left own (all_codes given) None i (omega (arith, within, old_count))));
        }
    by_place (inr past) later =
        let k = i - length c.methods in
        let old_count : length own ≡ length c.methods = length-map c.methods code_of in
        let new_count : length new ≡ length c.methods = class_count first c in
        let old_place : i ≡ length own + k = omega (arith, past, old_count) in
        let new_place : i ≡ length new + k = omega (arith, past, new_count) in
        let number : first + length c.methods + k ≡ first + i = omega (arith, past) in
        let calls = later.calls in
        record {
          calls = calls;
          new_is =
              ap (λ n. get_or (new ++ all_codes others) n None) new_place ∙ get_or-append-add new (all_codes others) k None ∙ later.new_is
              ∙ ap (λ n. code_with calls (plans n) (get_or (all_codes given) k None)) number
              ∙ ap (code_with calls (plans (first + i)))
              (sym (ap (λ n. get_or (own ++ all_codes given) n None) old_place ∙ get_or-append-add own (all_codes given) k None));
        }

-- ---- by the numbers of a program

pub codes_chained : CodesAreChained
unfolding program_of codes_of
codes_chained given main plans method = by_place (cases_lt method first_given) (classes_code plans first_given given (method - first_given)) where
  front : List (Option Code)
  front = replicate (length (methods_of built_in)) None

  count : length front ≡ first_given
  count = length-replicate (length (methods_of built_in)) None

  none_in_front : (rest : List (Option Code)) → method < first_given → get_or (front ++ rest) method None ≡ None
  none_in_front rest within =
      get_or_append_left front rest None method (omega (arith, within, count)) ∙ get_or-replicate (length (methods_of built_in)) method None None within

  by_place : (method < first_given) ⊎ (first_given ≤ method)
      → IsChainedCode (plans (first_given + (method - first_given))) (get_or (all_codes plans given) (method - first_given) None)
      (get_or (all_codes plans (chained_classes plans given)) (method - first_given) None)
      → IsChainedCode (plans method) (get_or (front ++ all_codes plans given) method None) (get_or (front ++ all_codes plans (chained_classes plans given)) method None)
  by_place (inl within) later = record {
    calls = calls_for false [];
    new_is =
        none_in_front (all_codes plans (chained_classes plans given)) within
        ∙ sym (ap (code_with (calls_for false []) (plans method)) (none_in_front (all_codes plans given) within) ∙ no_code (calls_for false []) (plans method));
  }
  by_place (inr past) later =
      let k = method - first_given in
      let place : method ≡ length front + k = omega (arith, past, count) in
      let number : first_given + k ≡ method = omega (arith, past) in
      let calls = later.calls in
      record {
        calls = calls;
        new_is =
            ap (λ n. get_or (front ++ all_codes plans (chained_classes plans given)) n None) place
            ∙ get_or-append-add front (all_codes plans (chained_classes plans given)) k None ∙ later.new_is
            ∙ ap (λ n. code_with calls (plans n) (get_or (all_codes plans given) k None)) number
            ∙ ap (code_with calls (plans method))
            (sym (ap (λ n. get_or (front ++ all_codes plans given) n None) place ∙ get_or-append-add front (all_codes plans given) k None));
      }
