-- Classes that are written with chains, and what is reported of them, don't depend on the numbers of the classes of holders; so exact facts over least typings serve alike.
use Rattle.std.proofs.Common.{◌≡◌, refl, sym, ◌∙◌, ap, ℕ, ◌+◌, ◌++◌, List, [], ◌∷◌, length, map, replicate, Option, Some, None, if◌then◌else◌}
use Rattle.std.specs.Option.{option_map}
use Rattle.std.proofs.lemmas.List.{length-map}
use Rattle.fm_chain.specs.Chained.{chained_code}
use Rattle.fm_chain.specs.Chaining.{chained_attribute, chained_class, chained_classes, chained_from, chained_marks_with, chained_method, chained_methods, changed_class, class_calls, class_has_chain, entries_for, marks_from, marks_in, marks_of_methods}
use Rattle.fm_chain.specs.Loops.{is_looped}
use Rattle.fm_chain.specs.SafeChains.{full_chains, looped_plan}
use Rattle.fm_chain.specs.declared.calls.Calls.{Calls}
use Rattle.fm_code.specs.Members.{code_of}
use Rattle.fm_code.specs.declared.class_file.ClassDef.{ClassDef}
use Rattle.fm_code.specs.declared.class_file.Member.{Member}
use Rattle.fm_code.specs.declared.class_file.MemberAttr.{MemberAttr}
use Rattle.fm_code.specs.declared.class_file.MemberAttr.TheVariants as attribute
use Rattle.fm_code.specs.declared.code_array.Code.{Code}
use Rattle.fm_layout.specs.Laid.{laid_of, marks_of}
use Rattle.fm_layout.specs.Tables.{moved_tables}
use Rattle.fm_layout.specs.declared.new_items.NewItem.{NewItem}
use Rattle.fm_law_beside_freeme.proofs.LeastFacts.{plans_same}
use Rattle.fm_law_beside_freeme.proofs.PlainChains.{anchors_plain, calls_plain, cause_plain, chained_plain, class_plain_chain, has_plain}
use Rattle.fm_law_beside_freeme.proofs.PlainPlans.{changes_plain, counts_plain, plain, plains, unnumbered}
use Rattle.fm_law_chains.specs.Exact.{LeastFactsServeChains, ServeChainsAlike}
use Rattle.fm_place.specs.Insertions.{Holder, Insertions}
use Rattle.fm_place.specs.Rewriting.{first_given, Plans, rewritten_major}
use Rattle.fm_place.specs.Safe.{full_plans}
use Rattle.fm_rewrite.specs.Causes.{first_cause}
use Rattle.fm_rewrite.specs.Rewritten.{counts_of}
use Rattle.fm_world.specs.Programs.{code_at}

-- ---- one code

-- the code of these items
abbrev coded_by : Code → List NewItem → (anchors : List ℕ) → (holders words : ℕ) → Code
coded_by code items anchors holders words =
    let laid = laid_of code.items items in
    let tables = moved_tables code laid anchors in
    record {
      max_stack = code.max_stack + words;
      max_locals = code.max_locals + holders;
      items = laid.items;
      length = laid.length;
      handlers = tables.handlers;
      attributes = tables.attributes;
    }

code_plain : (calls : Calls) (code : Code) (plan : Insertions) → chained_code calls code (plain plan) ≡ chained_code calls code plan
code_plain calls code plan =
    λ k. coded_by code (chained_plain calls code plan k) (anchors_plain plan code.items k) (length-map plan.holders unnumbered k)
    (if has_plain plan k then 2 else 1)

-- ---- methods and classes

attribute_plain : (calls : Calls) (plan : Insertions) (a : MemberAttr) → chained_attribute calls (plain plan) a ≡ chained_attribute calls plan a
attribute_plain calls plan (attribute.Coded name code) = ap (attribute.Coded name) (code_plain calls code plan)
attribute_plain calls plan a = refl

method_plain : (calls : Calls) (plan : Option Insertions) (m : Member) → chained_method calls (option_map plain plan) m ≡ chained_method calls plan m
method_plain calls None m = refl
method_plain calls (Some plan) m = λ k. record m { attributes = map (λ a. attribute_plain calls plan a k) m.attributes }

marks_in_plain : (calls : Calls) (code : Option Code) (plan : Option Insertions) → marks_in calls code (option_map plain plan) ≡ marks_in calls code plan
marks_in_plain calls None plan = refl
marks_in_plain calls (Some code) None = refl
marks_in_plain calls (Some code) (Some plan) = ap (marks_of code.items) (chained_plain calls code plan)

module _ (plans : Plans) where
  methods_plain : (calls : Calls) (first : ℕ) (methods : List Member) → chained_methods (plains plans) calls first methods ≡ chained_methods plans calls first methods
  methods_plain calls first [] = refl
  methods_plain calls first (m ∷ methods) = (λ k. method_plain calls (plans first) m k ∷ methods_plain calls (first + 1) methods k)

  changed_plain : (first : ℕ) (c : ClassDef) → changed_class (plains plans) first c ≡ changed_class plans first c
  changed_plain first c =
      (λ k. record c {
        minor = 0;
        major = rewritten_major;
        pool = record { entries = entries_for (class_plain_chain plans first c k) c.pool.entries };
        methods = chained_methods (plains plans) (calls_plain plans first c k) first c.methods;
      })
      ∙ (λ k. record c {
        minor = 0;
        major = rewritten_major;
        pool = record { entries = entries_for (class_has_chain plans first c) c.pool.entries };
        methods = methods_plain (class_calls plans first c) first c.methods k;
      })

  class_plain : (first : ℕ) (c : ClassDef) → chained_class (plains plans) first c ≡ chained_class plans first c
  class_plain first c = λ k. if changes_plain plans first c k then changed_plain first c k else c

  classes_plain : (first : ℕ) (given : List ClassDef) → chained_from (plains plans) first given ≡ chained_from plans first given
  classes_plain first [] = refl
  classes_plain first (c ∷ given) = (λ k. class_plain first c k ∷ classes_plain (first + length c.methods) given k)

  marks_of_plain : (calls : Calls) (first : ℕ) (methods : List Member) → marks_of_methods (plains plans) calls first methods ≡ marks_of_methods plans calls first methods
  marks_of_plain calls first [] = refl
  marks_of_plain calls first (m ∷ methods) = (λ k. marks_in_plain calls (code_of m) (plans first) k ∷ marks_of_plain calls (first + 1) methods k)

  marks_plain : (first : ℕ) (given : List ClassDef) → marks_from (plains plans) first given ≡ marks_from plans first given
  marks_plain first [] = refl
  marks_plain first (c ∷ given) =
      (λ k. marks_of_methods (plains plans) (calls_plain plans first c k) first c.methods ++ marks_plain (first + length c.methods) given k)
      ∙ ap (λ (own : List (List (Option ℕ))). own ++ marks_from plans (first + length c.methods) given) (marks_of_plain (class_calls plans first c) first c.methods)

  marks_with_plain : (given : List ClassDef) → chained_marks_with (plains plans) given ≡ chained_marks_with plans given
  marks_with_plain given = ap (λ (marks : List (List (Option ℕ))). replicate first_given [] ++ marks) (marks_plain first_given given)

-- ---- flags of loops

loops_plain : (code : Code) (holders : List Holder)
    → map unnumbered (map (λ (h : Holder). record h { looped = is_looped code h.site }) holders)
    ≡ map (λ (h : Holder). record h { looped = is_looped code h.site }) (map unnumbered holders)
loops_plain code [] = refl
loops_plain code (h ∷ holders) = ap (λ (rest : List Holder). record h { class = 0; looped = is_looped code h.site } ∷ rest) (loops_plain code holders)

looped_plan_plain : (code : Option Code) (plan : Option Insertions) → option_map plain (looped_plan code plan) ≡ looped_plan code (option_map plain plan)
looped_plan_plain None None = refl
looped_plan_plain None (Some plan) = refl
looped_plan_plain (Some code) None = refl
looped_plan_plain (Some code) (Some plan) = ap (λ (holders : List Holder). Some (record { holders = holders; before = plan.before })) (loops_plain code plan.holders)

-- ---- two sets of facts

module _ (given : List ClassDef) (plans others : Plans) (same : (method : ℕ) → plains plans method ≡ plains others method) where
  all : plains plans ≡ plains others
  all = λ k method. same method k

  pub chained_serve_alike : ServeChainsAlike given plans others
  chained_serve_alike = record {
    written = sym (classes_plain plans first_given given) ∙ ap (λ (p : Plans). chained_classes p given) all ∙ classes_plain others first_given given;
    marks = sym (marks_with_plain plans given) ∙ ap (λ (p : Plans). chained_marks_with p given) all ∙ marks_with_plain others given;
    counts = sym (counts_plain plans first_given given) ∙ ap (λ (p : Plans). counts_of p given) all ∙ counts_plain others first_given given;
    cause = sym (cause_plain plans given) ∙ ap (λ (p : Plans). first_cause p given) all ∙ cause_plain others given;
  }

pub chains_serve_alike : LeastFactsServeChains
chains_serve_alike given p facts others first second =
    chained_serve_alike given (full_chains p facts) (full_chains p others)
    (λ method.
    looped_plan_plain (code_at p method) (full_plans p facts method)
    ∙ ap (looped_plan (code_at p method)) (plans_same p facts others first second method)
    ∙ sym (looped_plan_plain (code_at p method) (full_plans p others method)))
