-- The classes that are written, with chains or without: each has a spelling, and they are printed under names of their own.
use Rattle.std.proofs.Common.{◌≡◌, ℕ, suc, ◌+◌, ◌<◌, ◌≤◌, ◌&&◌, ◌⊎◌, inl, inr, Bool, true, false, cond, List, [], ◌∷◌, ◌++◌, length, map, get_or, Option, Some, None, refl, sym, ap, subst, ◌∙◌, arith, option_and_then, if◌then◌else◌}
use Rattle.std.specs.Prelude.{nat_lt, unwrap_or}
use Rattle.std.specs.List.{AllByRecursion, flat_map}
use Rattle.std.specs.Option.{option_map, option_or}
use Rattle.std.proofs.lemmas.Bool.{cases_lt, ltb-false}
use Rattle.std.proofs.lemmas.List.{get_or-append-add, get_or_append_left, get_or_past, length-map}
use Rattle.fm_summ_shapes.proofs.ShapesLemmas.{code_facts}
use Rattle.fm_summ_shapes.specs.Analysed.{AreAnalysable, IsAccepted}
use Rattle.fm_base.proofs.ListFacts.{AllByRecursion-weaker}
use Rattle.fm_base.proofs.OptionFacts.{Some-from_some_and}
use Rattle.fm_chain.proofs.ChainEntriesAdded.{calls_are_named}
use Rattle.fm_chain.proofs.LaidChains.{chained_is_laid_out}
use Rattle.fm_chain.specs.ChainEntries.{sought_chain}
use Rattle.fm_chain.specs.Chained.{added_words, chained, has_chain}
use Rattle.fm_chain.specs.Chaining.{calls_for, chained_class, chained_from, changed_class, class_calls, class_has_chain, entries_for}
use Rattle.fm_chain.specs.SafeChains.{looped_plan, with_loops}
use Rattle.fm_chain.specs.declared.calls.Calls.{Calls}
use Rattle.fm_code.specs.AccessFlags.{is_interface}
use Rattle.fm_code.specs.ConstantPool.{class_name_at, entry_at, MemberName, method_ref_at}
use Rattle.fm_code.specs.FreeEntries.{free_method, sought_free, with_free}
use Rattle.fm_code.specs.Members.{code_of, MethodIsValid}
use Rattle.fm_code.specs.Profile.{NameIsSupported, Profile}
use Rattle.fm_code.specs.Spells.{HasSpelling}
use Rattle.fm_code.specs.declared.class_file.ClassDef.{ClassDef}
use Rattle.fm_code.specs.declared.class_file.Member.{Member}
use Rattle.fm_code.specs.declared.class_file.MemberAttr.{MemberAttr}
use Rattle.fm_code.specs.declared.class_file.MemberAttr.TheVariants as attribute
use Rattle.fm_code.specs.declared.code_array.Code.{Code}
use Rattle.fm_code.specs.declared.code_array.TheConstants.{MAX_CODE_BYTES}
use Rattle.fm_code.specs.declared.constant_pool.Entry.{Entry}
use Rattle.fm_code.specs.declared.constant_pool.Entry.TheVariants as entry
use Rattle.fm_conn.specs.Facts.{Facts}
use Rattle.fm_conn.specs.Links.{typed_method}
use Rattle.fm_conn.specs.Nodes.{TypedMethod}
use Rattle.fm_flow.proofs.CodeFacts.{items_counted}
use Rattle.fm_layout.specs.Laid.{laid_length, refused_length}
use Rattle.fm_place.specs.Insertions.{all_insertions, full_insertions, Insertions}
use Rattle.fm_place.specs.Rewriting.{changes, first_given, Plans}
use Rattle.fm_place.specs.Sites.{held_sites}
use Rattle.fm_place.specs.declared.limits.TheConstants.{MAX_HOLDING_STACK_WORDS}
use Rattle.fm_pool.proofs.FreeEntriesAdded.{free_named}
use Rattle.fm_pool.proofs.GrownPool.{class_kept}
use Rattle.fm_rewrite.proofs.FullPlanLemmas.{all_suits}
use Rattle.fm_rewrite.proofs.JudgedLemmas.{judged_analysable, judged_old, judged_spelled}
use Rattle.fm_rewrite.proofs.MeantLemmas.{codes_own}
use Rattle.fm_rewrite.proofs.ProgramMeantLemmas.{code_given}
use Rattle.fm_rewrite.specs.Alike.{IsOwnCode}
use Rattle.fm_rewrite.specs.Plans.{CallsFit, HasOldItems, inserted_for}
use Rattle.fm_rewrite.specs.Causes.{full_from, full_pool, long_among, long_code, long_from, long_method, method_too_long, plans_for, pool_full}
use Rattle.fm_rewrite.specs.Rewritten.{AreJudged, counts_from}
use Rattle.fm_rewrite.specs.inner.ByPlans.{method_count}
use Rattle.fm_rewrite.specs.declared.rewriting.Rewritten.{Rewritten}
use Rattle.fm_cli.specs.Printed.{printed}
use Rattle.fm_world.specs.BuiltIns.{built_in}
use Rattle.fm_world.specs.Causes.{own_name}
use Rattle.fm_world.specs.Programs.{code_at, Program}
use Rattle.fm_law_spelled.proofs.CodeSpelled.{at_most_two}
use Rattle.fm_law_spelled.proofs.ApartLemmas.{names_apart, printed_name}
use Rattle.fm_law_spelled.proofs.ClassSpelled.{changed_spelled}
use Rattle.fm_law_spelled.proofs.SupportedLemmas.{changed_accepted}
use Rattle.freeme.proofs.ChainedFew.{few_items}
use Rattle.freeme.proofs.RewritingLemmas.{full_written}
use Rattle.freeme.specs.Rewriting.{AreRewrittenBy, own_facts}
use Rattle.fm_law_spelled.specs.Names.{AreNew}
use Rattle.fm_law_spelled.specs.Changed.{AttributeCan, CanWeave, IsShort, MethodCan, MethodsCan}

-- ---- what hinders nothing

or_first : {X : Type 0} (a b : Option X) → option_or a b ≡ None → (a ≡ None) × (b ≡ None)
or_first None b e = (refl, e)
or_first (Some x) b e = absurd cc

map_none : {X Y : Type 0} (f : X → Y) (o : Option X) → option_map f o ≡ None → o ≡ None
map_none f None e = refl
map_none f (Some x) e = absurd cc

-- a test that refuses nothing fails
not_refused : (b : Bool) (n : ℕ) → (cond b (Some n) None) ≡ None → b ≡ false
not_refused false n e = refl
not_refused true n e = absurd cc

-- ---- one method

-- all that can be inserted into a method, where a site is held
pub record IsAll (facts : Facts) (x : TypedMethod) (plan : Insertions) : Type 0 where
  pub all : plan ≡ all_insertions facts x
  pub held : 0 < length (held_sites facts x)

pub is_all : (facts : Facts) (x : TypedMethod) (plan : Insertions) → full_insertions facts x ≡ Some plan → IsAll facts x plan
is_all facts x plan full = by (held_sites facts x) refl full where
  of_sites : List ℕ → Option Insertions
  of_sites [] = None
  of_sites (site ∷ sites) = Some (all_insertions facts x)

  by : (sites : List ℕ) → held_sites facts x ≡ sites → of_sites sites ≡ Some plan → IsAll facts x plan
  by [] e is = absurd cc
  by (site ∷ sites) e is = record { all = cc; held = let size = ap length e in omega (arith, size) }

-- no site is held where the stack is high
low_stack : (facts : Facts) (x : TypedMethod) → 0 < length (held_sites facts x) → x.code.max_stack ≤ MAX_HOLDING_STACK_WORDS
low_stack facts x held = by (nat_lt MAX_HOLDING_STACK_WORDS x.code.max_stack) refl where
  by : (b : Bool) → nat_lt MAX_HOLDING_STACK_WORDS x.code.max_stack ≡ b → x.code.max_stack ≤ MAX_HOLDING_STACK_WORDS
  by true high =
      let none : length (held_sites facts x) ≡ 0 = rw high refl in absurd (omega (arith, none, held))
  by false low = omega (arith, ltb-false MAX_HOLDING_STACK_WORDS x.code.max_stack low)

-- ---- the entries by which FreeMe's methods are called

-- an index by which a method is named is one of the pool
named_within : (entries : List Entry) (index : ℕ) (m : MemberName) → method_ref_at entries index ≡ Some m → index < length entries
named_within entries index m named = by (cases_lt index (length entries)) where
  by : (index < length entries) ⊎ (length entries ≤ index) → index < length entries
  by (inl inside) = inside
  by (inr past) =
      let second : entry_at entries index ≡ entry.Second = get_or_past entries index entry.Second past in
      let none : None ≡ Some m = rw second at named in
      absurd cc

-- so the three indices fit an instruction
calls_fit : (chains : Bool) (entries : List Entry) → length (entries_for chains entries) ≤ 65535 → CallsFit (calls_for chains entries)
calls_fit false entries few =
    let named = free_named entries (with_free entries) (sought_free entries).missing (sought_free entries).index refl refl in
    let free = named_within (with_free entries) (sought_free entries).index free_method named in
    record { free = omega (arith, free, few); link = omega arith; free_chain = omega arith }
calls_fit true entries few =
    let named = calls_are_named entries in
    let free = named_within (entries_for true entries) _ _ named.free in
    let link = named_within (entries_for true entries) _ _ named.link in
    let chain = named_within (entries_for true entries) _ _ named.free_chain in
    record { free = omega (arith, free, few); link = omega (arith, link, few); free_chain = omega (arith, chain, few) }

-- ---- a class that changes

-- there is room in its pool, and in its methods for what is planned for them
record CanChange (plans : Plans) (first : ℕ) (c : ClassDef) : Type 0 where
  pub room : length (entries_for (class_has_chain plans first c) c.pool.entries) ≤ 65535
  pub methods : MethodsCan plans (class_calls plans first c) first c.methods

-- of each of these classes that changes
abbrev CanChangeAll : Plans → (first : ℕ) → List ClassDef → Type 0
CanChangeAll plans first [] = Unit {0}
CanChangeAll plans first (c ∷ classes) = (changes plans first c ≡ true → CanChange plans first c) × CanChangeAll plans (first + length c.methods) classes

-- ---- what is planned

-- all that can be inserted into a method with this code, where a site is held
record IsAllFor (chains : Bool) (facts : Facts) (x : TypedMethod) (plan : Insertions) : Type 0 where
  pub all : plan ≡ inserted_for chains x.code (all_insertions facts x)
  pub held : 0 < length (held_sites facts x)

looped_all : (facts : Facts) (x : TypedMethod) (o : Option Insertions) (plan : Insertions) → full_insertions facts x ≡ o → looped_plan (Some x.code) o ≡ Some plan
    → IsAllFor true facts x plan
looped_all facts x None plan full is = absurd cc
looped_all facts x (Some own) plan full is =
    let all = is_all facts x own full in
    let same : plan ≡ with_loops x.code own = ap (λ (o : Option Insertions). unwrap_or o plan) (sym is) in
    record { all = same ∙ ap (with_loops x.code) all.all; held = all.held }

-- the plan of a method that has code
plan_of_code : (chains : Bool) (p : Program) (facts : Facts) (method : ℕ) (code : Code) (plan : Insertions) → code_at p method ≡ Some code
    → plans_for chains p facts method ≡ Some plan → IsAllFor chains facts (typed_method p facts.typing method code) plan
plan_of_code false p facts method code plan is planned =
    let x = typed_method p facts.typing method code in
    let full : full_insertions facts x ≡ Some plan = sym (ap (λ o. option_and_then (full_insertions facts) (option_map (typed_method p facts.typing method) o)) is) ∙ planned in
    let own = is_all facts x plan full in
    record { all = own.all; held = own.held }
plan_of_code true p facts method code plan is planned =
    let x = typed_method p facts.typing method code in
    let found : looped_plan (Some code) (full_insertions facts x) ≡ Some plan =
    sym (ap (λ (o : Option Code). looped_plan o (option_and_then (full_insertions facts) (option_map (typed_method p facts.typing method) o))) is) ∙ planned in
    looped_all facts x (full_insertions facts x) plan refl found

-- one without code has none
no_plan : (chains : Bool) (p : Program) (facts : Facts) (method : ℕ) → code_at p method ≡ None → plans_for chains p facts method ≡ None
no_plan false p facts method none = ap (λ o. option_and_then (full_insertions facts) (option_map (typed_method p facts.typing method) o)) none
no_plan true p facts method none =
    ap (λ (o : Option Code). looped_plan o (option_and_then (full_insertions facts) (option_map (typed_method p facts.typing method) o))) none
    ∙ bare (option_and_then (full_insertions facts) None) where
      bare : (o : Option Insertions) → looped_plan None o ≡ None
      bare None = refl
      bare (Some plan) = refl

module _ (chains : Bool) (p : Program) (facts : Facts) (may : AreAnalysable p) (old : HasOldItems p) where
  abbrev own_plans : Plans
  own_plans = plans_for chains p facts

  -- what is planned for a method that has this code may be woven, as long as it isn't too long
  code_can : (calls : Calls) (method : ℕ) (code : Code) (plan : Insertions) → CallsFit calls → code_at p method ≡ Some code → own_plans method ≡ Some plan
      → long_code calls plan code ≡ None → CanWeave calls code plan
  code_can calls method code plan fits is planned short =
      let x = typed_method p facts.typing method code in
      let own = plan_of_code chains p facts method code plan is planned in
      let known = code_facts p method code may is in
      let rules = known.0.spelled in
      let all = inserted_for chains code (all_insertions facts x) in
      let suits = all_suits facts x chains calls fits known.1.locals in
      let few = few_items facts x chains calls (items_counted code rules).1 in
      let test = not_refused (nat_lt MAX_CODE_BYTES (laid_length code.items (chained calls code plan))) (refused_length code.items (chained calls code plan)) short in
      subst (λ (ins : Insertions). laid_length code.items (chained calls code ins) ≤ MAX_CODE_BYTES → CanWeave calls code ins) (sym own.all)
      (λ limit. record {
        old_items = old method code is;
        stack =
            let low = low_stack facts x own.held in
            let words : added_words all ≤ 2 = at_most_two (has_chain all) in
            omega (arith, low, words);
        suits = suits;
        new_items = chained_is_laid_out calls code all (old method code is) suits few;
        short = limit;
      })
      (omega (arith, ltb-false MAX_CODE_BYTES (laid_length code.items (chained calls code plan)) test))

  -- each attribute that is code is the method's
  own_attributes : (calls : Calls) (plan : Insertions) (code : Code) (attributes : List MemberAttr) → AllByRecursion (IsOwnCode code) attributes
      → CanWeave calls code plan → AllByRecursion (AttributeCan calls plan) attributes
  own_attributes calls plan code [] own can = tt
  own_attributes calls plan code (attribute.Coded name other ∷ attributes) own can =
      (subst (λ (c : Code). CanWeave calls c plan) (sym own.0) can, own_attributes calls plan code attributes own.1 can)
  own_attributes calls plan code (attribute.Constant name value ∷ attributes) own can = (tt, own_attributes calls plan code attributes own.1 can)
  own_attributes calls plan code (attribute.Other raw ∷ attributes) own can = (tt, own_attributes calls plan code attributes own.1 can)

  method_can : (in_interface : Bool) (entries : List Entry) (calls : Calls) (method : ℕ) (m : Member) → MethodIsValid in_interface entries m → CallsFit calls
      → code_at p method ≡ code_of m → long_method calls (own_plans method) m ≡ None → MethodCan calls (own_plans method) m
  method_can in_interface entries calls method m valid fits is short = by (own_plans method) refl short where
    by : (o : Option Insertions) → own_plans method ≡ o → long_method calls o m ≡ None → MethodCan calls o m
    by None planned long = tt
    by (Some plan) planned long = with_code (code_of m) refl long where
      with_code : (o : Option Code) → code_of m ≡ o → option_and_then (long_code calls plan) o ≡ None → AllByRecursion (AttributeCan calls plan) m.attributes
      with_code None none ok =
          let nothing : None ≡ Some plan = sym (no_plan chains p facts method (is ∙ none)) ∙ planned in
          absurd cc
      with_code (Some code) own ok =
          own_attributes calls plan code m.attributes (codes_own in_interface entries m code valid own) (code_can calls method code plan fits (is ∙ own) planned ok)

  -- those of a class
  methods_can : (in_interface : Bool) (entries : List Entry) (calls : Calls) (first : ℕ) (methods : List Member)
      → AllByRecursion (MethodIsValid in_interface entries) methods → CallsFit calls
      → ((i : ℕ) → i < length methods → code_at p (first + i) ≡ get_or (map code_of methods) i None) → long_among own_plans calls first methods ≡ None
      → MethodsCan own_plans calls first methods
  methods_can in_interface entries calls first [] valid fits codes short = tt
  methods_can in_interface entries calls first (m ∷ methods) valid fits codes short =
      let parts = or_first (option_map (λ (bytes : ℕ). (first, bytes)) (long_method calls (own_plans first) m)) (long_among own_plans calls (first + 1) methods) short in
      let own = map_none (λ (bytes : ℕ). (first, bytes)) (long_method calls (own_plans first) m) parts.0 in
      let here : first ≡ first + 0 = omega arith in (
        method_can in_interface entries calls first m valid.0 fits (ap (code_at p) here ∙ codes 0 (omega arith)) own,
        methods_can in_interface entries calls (first + 1) methods valid.1 fits
            (λ i inside. let place : first + 1 + i ≡ first + suc i = omega arith in ap (code_at p) place ∙ codes (suc i) (omega (arith, inside))) parts.1,
      )

  -- a class that changes has room in its pool, and in its methods for what is planned for them
  class_can : (first : ℕ) (c : ClassDef) → HasSpelling c → ((i : ℕ) → i < length c.methods → code_at p (first + i) ≡ get_or (map code_of c.methods) i None)
      → full_pool own_plans first c ≡ None → long_among own_plans (class_calls own_plans first c) first c.methods ≡ None → changes own_plans first c ≡ true
      → CanChange own_plans first c
  class_can first c spelled codes room short changed_so =
      let chains = class_has_chain own_plans first c in
      let size = length (entries_for chains c.pool.entries) in
      let test : (changes own_plans first c && nat_lt 65535 size) ≡ false = not_refused (changes own_plans first c && nat_lt 65535 size) size room in
      let over : nat_lt 65535 size ≡ false = sym (ap (λ b. b && nat_lt 65535 size) changed_so) ∙ test in
      let few : size ≤ 65535 = omega (arith, ltb-false 65535 size over) in
      record {
        room = few;
        methods = methods_can (is_interface c.flags) c.pool.entries (class_calls own_plans first c) first c.methods spelled.1.methods
            (calls_fit chains c.pool.entries few) codes short;
      }

  classes_can : (class first : ℕ) (classes : List ClassDef) → AllByRecursion HasSpelling classes
      → ((i : ℕ) → i < method_count classes → code_at p (first + i) ≡ get_or (flat_map (λ (c : ClassDef). map code_of c.methods) classes) i None)
      → full_from own_plans class first classes ≡ None → long_from own_plans first classes ≡ None → CanChangeAll own_plans first classes
  classes_can class first [] spelled codes room short = tt
  classes_can class first (c ∷ classes) spelled codes room short =
      let n = length c.methods in
      let later = flat_map (λ (d : ClassDef). map code_of d.methods) classes in
      let count : length (map code_of c.methods) ≡ n = length-map c.methods code_of in
      let rooms = or_first (option_map (λ (indices : ℕ). (class, indices)) (full_pool own_plans first c)) (full_from own_plans (class + 1) (first + n) classes) room in
      let shorts = or_first (long_among own_plans (class_calls own_plans first c) first c.methods) (long_from own_plans (first + n) classes) short in (
        class_can first c spelled.0
            (λ i inside. codes i (omega (arith, inside)) ∙ get_or_append_left (map code_of c.methods) later None i (omega (arith, inside, count)))
            (map_none (λ (indices : ℕ). (class, indices)) (full_pool own_plans first c) rooms.0) shorts.0,
        classes_can (class + 1) (first + n) classes spelled.1
            (λ i inside.
            let place : first + n + i ≡ first + (n + i) = omega arith in
            ap (code_at p) place ∙ codes (n + i) (omega (arith, inside))
            ∙ ap (λ k. get_or (map code_of c.methods ++ later) (k + i) None) (sym count) ∙ get_or-append-add (map code_of c.methods) later i None)
            rooms.1 shorts.1,
      )

-- ---- a class as it is written

class_spelled : (plans : Plans) (first : ℕ) (c : ClassDef) → HasSpelling c → IsShort c → (changes plans first c ≡ true → CanChange plans first c)
    → HasSpelling (chained_class plans first c)
class_spelled plans first c spelled small can = by (changes plans first c) refl where
  by : (b : Bool) → changes plans first c ≡ b → HasSpelling (if b then changed_class plans first c else c)
  by false same = spelled
  by true changed_so = let may = can changed_so in changed_spelled plans first c spelled small may.room may.methods

class_accepted : (plans : Plans) (first : ℕ) (c : ClassDef) → HasSpelling c → Profile c → (changes plans first c ≡ true → CanChange plans first c)
    → Profile (chained_class plans first c)
class_accepted plans first c spelled profile can = by (changes plans first c) refl where
  by : (b : Bool) → changes plans first c ≡ b → Profile (if b then changed_class plans first c else c)
  by false same = profile
  by true changed_so = let may = can changed_so in changed_accepted plans first c spelled profile may.methods

spelled_from : (plans : Plans) (first : ℕ) (classes : List ClassDef) → AllByRecursion HasSpelling classes → AllByRecursion IsShort classes → CanChangeAll plans first classes
    → AllByRecursion HasSpelling (chained_from plans first classes)
spelled_from plans first [] spelled small can = tt
spelled_from plans first (c ∷ classes) spelled small can =
    (class_spelled plans first c spelled.0 small.0 can.0, spelled_from plans (first + length c.methods) classes spelled.1 small.1 can.1)

accepted_from : (plans : Plans) (first : ℕ) (classes : List ClassDef) → AllByRecursion HasSpelling classes → AllByRecursion Profile classes → CanChangeAll plans first classes
    → AllByRecursion Profile (chained_from plans first classes)
accepted_from plans first [] spelled profiles can = tt
accepted_from plans first (c ∷ classes) spelled profiles can =
    (class_accepted plans first c spelled.0 profiles.0 can.0, accepted_from plans (first + length c.methods) classes spelled.1 profiles.1 can.1)

-- ---- all classes

module _ {chains : Bool} (given : List ClassDef) (p : Program) (made : Rewritten) (judged : AreJudged given p) (are : AreRewrittenBy chains p given made) where
  abbrev made_plans : Plans
  made_plans = plans_for chains p (own_facts are)

  all_can : CanChangeAll made_plans first_given given
  all_can =
      let parts = or_first (option_map pool_full (full_from made_plans (length built_in) first_given given)) (option_map method_too_long (long_from made_plans first_given given)) are.no_cause in
      classes_can chains p (own_facts are) (judged_analysable given p judged) (judged_old given p judged) (length built_in) first_given given (judged_spelled given p judged)
      (λ i inside. code_given given judged.main p judged.program_is i) (map_none pool_full (full_from made_plans (length built_in) first_given given) parts.0)
      (map_none method_too_long (long_from made_plans first_given given) parts.1)

  -- they have spellings, as those that were read are no longer than a file may be
  pub written_spelled : AllByRecursion IsShort given → AllByRecursion HasSpelling made.classes.items
  written_spelled small =
      subst (AllByRecursion HasSpelling) (sym (full_written chains p given made.classes.items are.marks are.full))
      (spelled_from made_plans first_given given (judged_spelled given p judged) small all_can)

  -- and they are accepted again
  pub written_accepted : AllByRecursion Profile given → AllByRecursion Profile made.classes.items
  written_accepted profiles =
      subst (AllByRecursion Profile) (sym (full_written chains p given made.classes.items are.marks are.full))
      (accepted_from made_plans first_given given (judged_spelled given p judged) profiles all_can)

-- ---- names

-- a class that is written has its own name
name_kept : (plans : Plans) (first : ℕ) (c : ClassDef) → HasSpelling c → own_name (chained_class plans first c) ≡ own_name c
name_kept plans first c (bytes, spells) = by (changes plans first c) where
  stays : (chains : Bool) → class_name_at (entries_for chains c.pool.entries) c.this_class ≡ class_name_at c.pool.entries c.this_class
  stays false =
      let found = Some-from_some_and (class_name_at c.pool.entries c.this_class) _ spells.this_class in
      class_kept c.pool.entries (sought_free c.pool.entries).missing c.this_class found.0 found.1 ∙ sym found.1
  stays true =
      let found = Some-from_some_and (class_name_at c.pool.entries c.this_class) _ spells.this_class in
      class_kept c.pool.entries (sought_chain c.pool.entries).missing c.this_class found.0 found.1 ∙ sym found.1

  by : (b : Bool) → own_name (if b then changed_class plans first c else c) ≡ own_name c
  by false = refl
  by true = ap (λ o. unwrap_or o []) (stays (class_has_chain plans first c))

names_kept : (plans : Plans) (first : ℕ) (classes : List ClassDef) → AllByRecursion HasSpelling classes
    → map printed_name (chained_from plans first classes) ≡ map printed_name classes
names_kept plans first [] spelled = refl
names_kept plans first (c ∷ classes) spelled =
    λ k. printed (name_kept plans first c spelled.0 k) ∷ names_kept plans (first + length c.methods) classes spelled.1 k

-- so do all
pub names_same : {chains : Bool} (given : List ClassDef) {p : Program} (made : Rewritten) → AllByRecursion HasSpelling given → AreRewrittenBy chains p given made
    → map printed_name made.classes.items ≡ map printed_name given
names_same {chains} given {p} made spelled are =
    ap (map printed_name) (full_written chains p given made.classes.items are.marks are.full)
    ∙ names_kept (plans_for chains p (own_facts are)) first_given given spelled

pub written_apart : {chains : Bool} (given : List ClassDef) (p : Program) (made : Rewritten) → AreJudged given p → AreRewrittenBy chains p given made
    → AreNew (map printed_name made.classes.items)
written_apart given p made judged are =
    let spelled = judged_spelled given p judged in
    let supported = AllByRecursion-weaker IsAccepted NameIsSupported (λ c is. is.supported.name) given judged.accepted in
    subst AreNew (sym (names_same given made spelled are)) (names_apart given judged.main spelled supported judged.linked)

-- ---- counts

counts_counted : (plans : Plans) (first : ℕ) (classes : List ClassDef) → length (counts_from plans first classes) ≡ length (chained_from plans first classes)
counts_counted plans first [] = refl
counts_counted plans first (c ∷ classes) = ap suc (counts_counted plans (first + length c.methods) classes)

-- there is one count for each class that is written
pub one_count_each : {chains : Bool} (given : List ClassDef) {p : Program} (made : Rewritten) → AreRewrittenBy chains p given made
    → length made.counts.items ≡ length made.classes.items
one_count_each {chains} given {p} made are =
    ap length are.counts_are ∙ counts_counted (plans_for chains p (own_facts are)) first_given given
    ∙ ap length (sym (full_written chains p given made.classes.items are.marks are.full))
