-- The tests of sites that the code makes are those of the definitions.
use Rattle.std.proofs.Common.{◌≡◌, ℕ, zero, suc, ◌+◌, ◌-◌, ◌<◌, ◌≤◌, ◌++◌, ◌&&◌, ◌||◌, cond, Bool, true, false, List, [], ◌∷◌, length, map, replicate, get_or, Some, None, IsSome, IsSomeAnd, refl, ap, sym, ◌∙◌, subst, ⊎_elim, arith, Contains, eqb-true, append-nil, length-append}
use Rattle.std.specs.Prelude.{filter, is_some, nat_eq, option_and_then, slice_get}
use Rattle.std.specs.List.{list_any, range_with_len}
use Rattle.std.proofs.lemmas.Bool.{and_from, false≢true, or_cases, or_left, or_right}
use Rattle.std.proofs.lemmas.List.FromFn.{length-range_with_len}
use Rattle.std.proofs.lemmas.List.{length-replicate}
use Rattle.std.proofs.lemmas.Option.{none-some}
use Rattle.fm_base.proofs.ContainsFacts.{any-found}
use Rattle.fm_base.proofs.TestFacts.{and_left, and_right, same_test}
use Rattle.fm_base.specs.declared.ids.MethodId.{MethodId}
use Rattle.fm_code.proofs.EdgesLemmas.{Contains-filter, Contains-from_filter}
use Rattle.fm_code.specs.Edges.{insn_of}
use Rattle.fm_code.specs.declared.instructions.Insn.{Insn}
use Rattle.fm_conn.proofs.ListLemmas.{Contains-range}
use Rattle.fm_conn.proofs.ListedEndLemmas.{links-is}
use Rattle.fm_conn.proofs.ShapeLemmas.{top_at}
use Rattle.fm_conn.specs.Facts.{Facts}
use Rattle.fm_conn.specs.Nodes.{Local, TypedMethod}
use Rattle.fm_conn.specs.Pairs.{call_of}
use Rattle.fm_conn.specs.Summaries.{AreSummariesOf, end_number, ends_at, is_linked, is_same_end}
use Rattle.fm_conn.specs.declared.class_numbers.Classes.{Classes}
use Rattle.fm_conn.specs.declared.ends.End2.{End2}
use Rattle.fm_conn.specs.declared.ends.End2.TheVariants as end
use Rattle.fm_conn.specs.declared.summaries.Summaries.{Summaries}
use Rattle.fm_types.specs.States.{is_reference, TypeState}
use Rattle.fm_types.specs.Typed.{entry_slots, entry_state, IsTypingOf, state_at}
use Rattle.fm_types.specs.declared.slots.Slot as slots
use Rattle.fm_types.specs.declared.slots.Slot.TheVariants as slot
use Rattle.fm_world.specs.Programs.{Outline}
use Rattle.fm_place.proofs.PlaceLemmas.{any-from}
use Rattle.fm_place.specs.FactsBy.{facts_by}
use Rattle.fm_place.specs.Sites.{captured_before, constructs, Constructs, is_captured, is_captured_site, kind_of_site, makes_array, MakesArray, may_give_old, receives_new, ReceivesNew, reference_parameters, site_after, site_at, site_class, site_kind}
use Rattle.fm_place.specs.declared.found_sites.Site.{Site}
use Rattle.fm_place.specs.inner.SiteTests.{has_parameter_in, is_old_end, is_old_entry, is_parameter_in, lists_old}

-- ---- parameters

given_reference : (given : List slots.Slot) (k : ℕ) → IsSomeAnd (slice_get given k) (λ s. is_reference s ≡ true)
    → is_reference (get_or given k slot.Top) ≡ true
given_reference [] k is = absurd is
given_reference (s ∷ given) zero is = is
given_reference (s ∷ given) (suc k) is = given_reference given k is

reference_given : (given : List slots.Slot) (k : ℕ) → is_reference (get_or given k slot.Top) ≡ true → k < length given
reference_given [] k is = absurd (false≢true is)
reference_given (s ∷ given) zero is = omega arith
reference_given (s ∷ given) (suc k) is = let rest = reference_given given k is in omega arith

with_tops : (given : List slots.Slot) (count k : ℕ) → get_or (given ++ replicate count slot.Top) k slot.Top ≡ get_or given k slot.Top
with_tops [] count k = top_at count k
with_tops (s ∷ given) count zero = refl
with_tops (s ∷ given) count (suc k) = with_tops given count k

-- a local that holds a reference at first is one of a parameter
listed_parameter : (o : Outline) (method k : ℕ) → is_reference (get_or (entry_slots o method) k slot.Top) ≡ true
    → Contains (reference_parameters o method) k
listed_parameter o method k is =
    let inside = reference_given (entry_slots o method) k is in
    Contains-filter (λ n. is_reference (get_or (entry_slots o method) n slot.Top)) (range_with_len 0 (length (entry_slots o method))) k
    (Contains-range 0 (length (entry_slots o method)) k (omega arith) (omega arith)) is

pub parameter_listed : (o : Outline) (method k : ℕ) → Contains (reference_parameters o method) k
    → is_reference (get_or (entry_slots o method) k slot.Top) ≡ true
parameter_listed o method k found =
    (Contains-from_filter (λ n. is_reference (get_or (entry_slots o method) n slot.Top)) (range_with_len 0 (length (entry_slots o method))) k found).1

-- the first state gives them
pub parameters_same : (facts : Facts) (x : TypedMethod) (class : ℕ) → IsTypingOf x.program x.number x.code x.states
    → has_parameter_in facts x class (state_at x.states 0)
    ≡ list_any (λ k. nat_eq (facts.class x.number (Local k)) class) (reference_parameters x.program.outline x.number)
unfolding entry_state
parameters_same facts x class typed =
    ap (has_parameter_in facts x class) typed.first
    ∙ same_test (list_any test (range_with_len 0 x.code.max_locals)) (list_any in_class (reference_parameters o x.number)) forth back where
      o : Outline
      o = x.program.outline

      given : List slots.Slot
      given = entry_slots o x.number

      rest : ℕ
      rest = x.code.max_locals - length given

      test : ℕ → Bool
      test = is_parameter_in facts x class (given ++ replicate rest slot.Top)

      in_class : ℕ → Bool
      in_class k = nat_eq (facts.class x.number (Local k)) class

      few : length given ≤ x.code.max_locals
      few = let count = (typed.items 0 (entry_state o x.number x.code) typed.first).locals in omega (arith, count, length-append given (replicate rest slot.Top), length-replicate rest slot.Top)

      of_local : (k : ℕ) × Contains (range_with_len 0 x.code.max_locals) k × (test k ≡ true) → list_any in_class (reference_parameters o x.number) ≡ true
      of_local (k, found, passes) =
          any-from in_class (reference_parameters o x.number) k
          (listed_parameter o x.number k
          (ap is_reference (sym (with_tops given rest k))
          ∙ and_left (is_reference (get_or (given ++ replicate rest slot.Top) k slot.Top)) (in_class k) passes))
          (and_right (is_reference (get_or (given ++ replicate rest slot.Top) k slot.Top)) (in_class k) passes)

      forth : list_any test (range_with_len 0 x.code.max_locals) ≡ true → list_any in_class (reference_parameters o x.number) ≡ true
      forth holds = of_local (any-found test (range_with_len 0 x.code.max_locals) holds)

      of_parameter : (k : ℕ) × Contains (reference_parameters o x.number) k × (in_class k ≡ true) → list_any test (range_with_len 0 x.code.max_locals) ≡ true
      of_parameter (k, found, passes) =
          let is = parameter_listed o x.number k found in
          let inside = reference_given given k is in
          any-from test (range_with_len 0 x.code.max_locals) k (Contains-range 0 x.code.max_locals k (omega arith) (omega (arith, inside, few)))
          (and_from (is_reference (get_or (given ++ replicate rest slot.Top) k slot.Top)) (in_class k)
          (ap is_reference (with_tops given rest k) ∙ is) passes)

      back : list_any in_class (reference_parameters o x.number) ≡ true → list_any test (range_with_len 0 x.code.max_locals) ≡ true
      back holds = of_parameter (any-found in_class (reference_parameters o x.number) holds)

-- ---- what is old

same_end : (a b : End2) → is_same_end a b ≡ true → a ≡ b
same_end (end.Parameter k) (end.Parameter l) same = ap end.Parameter (eqb-true k l same)
same_end end.Return end.Return same = refl
same_end end.Global end.Global same = refl
same_end (end.Parameter k) end.Return same = absurd (false≢true same)
same_end (end.Parameter k) end.Global same = absurd (false≢true same)
same_end end.Return (end.Parameter l) same = absurd (false≢true same)
same_end end.Return end.Global same = absurd (false≢true same)
same_end end.Global (end.Parameter l) same = absurd (false≢true same)
same_end end.Global end.Return same = absurd (false≢true same)

-- an end that has a number is listed
listed_any : (test : End2 → Bool) (entries : List (End2 × ℕ)) (e : End2) (n : ℕ) → end_number entries e ≡ Some n → test e ≡ true
    → list_any (λ (entry : End2 × ℕ). test entry.0) entries ≡ true
listed_any test [] e n some passes = absurd (none-some n some)
listed_any test (x ∷ entries) e n some passes =
    (elim (is_same_end x.0 e) as (λ b. is_same_end x.0 e ≡ b → cond b (Some x.1) (end_number entries e) ≡ Some n
    → (test x.0 || list_any (λ (entry : End2 × ℕ). test entry.0) entries) ≡ true) [
      | true ↦ (λ is there. or_left (test x.0) _ (ap test (same_end x.0 e is) ∙ passes))
      | false ↦ (λ is later. or_right (test x.0) _ (listed_any test entries e n later passes))
    ]) refl some

pub old_same : (o : Outline) (s : Summaries) (classes : Classes) (method : ℕ) → AreSummariesOf o s
    → lists_old s method ≡ may_give_old o (facts_by classes s) method
old_same o s classes method ends = same_test (lists_old s method) (may_give_old o (facts_by classes s) method) forth back where
  global : Bool
  global = is_linked s method end.Return end.Global

  by_parameter : ℕ → Bool
  by_parameter k = is_linked s method end.Return (end.Parameter k)

  parameters : Bool
  parameters = list_any by_parameter (reference_parameters o method)

  of_end : (e : End2) → is_old_end s method e ≡ true → (global || parameters) ≡ true
  of_end end.Return old = absurd (false≢true old)
  of_end end.Global old = or_left global parameters old
  of_end (end.Parameter k) old =
      let number = links-is (ends_at s method) end.Return (end.Parameter k) old in
      let is_end = ends.ends method (end.Parameter k) (subst IsSome (sym number.2) refl) in
      or_right global parameters
      (any-from by_parameter (reference_parameters o method) k (listed_parameter o method k (given_reference (entry_slots o method) k is_end)) old)

  of_entry : (entry : End2 × ℕ) × Contains (ends_at s method) entry × (is_old_entry s method entry ≡ true) → (global || parameters) ≡ true
  of_entry (entry, found, old) = of_end entry.0 old

  forth : lists_old s method ≡ true → (global || parameters) ≡ true
  forth holds = of_entry (any-found (is_old_entry s method) (ends_at s method) holds)

  of_parameter : (k : ℕ) × Contains (reference_parameters o method) k × (by_parameter k ≡ true) → lists_old s method ≡ true
  of_parameter (k, found, old) =
      let number = links-is (ends_at s method) end.Return (end.Parameter k) old in
      listed_any (is_old_end s method) (ends_at s method) (end.Parameter k) number.0 number.2 old

  of_global : global ≡ true → lists_old s method ≡ true
  of_global old =
      let number = links-is (ends_at s method) end.Return end.Global old in
      listed_any (is_old_end s method) (ends_at s method) end.Global number.0 number.2 old

  back : (global || parameters) ≡ true → lists_old s method ≡ true
  back holds =
      ⊎_elim of_global (λ some. of_parameter (any-found by_parameter (reference_parameters o method) some)) (or_cases global parameters holds)

-- one of several methods
pub any_old_same : (o : Outline) (s : Summaries) (classes : Classes) (methods : List MethodId) → AreSummariesOf o s
    → list_any (λ (m : MethodId). lists_old s m.0) methods
    ≡ list_any (may_give_old o (facts_by classes s)) (map (λ (m : MethodId). m.0) methods)
any_old_same o s classes [] ends = refl
any_old_same o s classes (m ∷ methods) ends = (λ k. old_same o s classes m.0 ends k || any_old_same o s classes methods ends k)

-- ---- kinds of sites

kinds : (a b c : Bool) → ((a || b) || c) ≡ is_some (cond a (Some MakesArray) (cond b (Some Constructs) (cond c (Some ReceivesNew) None)))
kinds true b c = refl
kinds false true c = refl
kinds false false true = refl
kinds false false false = refl

-- an item that is reached is a site where one of the three tests holds
pub site_found : (facts : Facts) (x : TypedMethod) (j : ℕ) (i : Insn) (s : TypeState) → state_at x.states j ≡ Some s → insn_of x.code j ≡ Some i
    → (a b c : Bool) → a ≡ makes_array i → b ≡ constructs x j i → c ≡ receives_new facts x (call_of x i)
    → ((a || b) || c) ≡ is_some (site_kind facts x j)
site_found facts x j i s reached is a b c first second third =
    (λ k. (first k || second k) || third k)
    ∙ kinds (makes_array i) (constructs x j i) (receives_new facts x (call_of x i))
    ∙ sym (λ k. is_some (cond (is_some (reached k)) (option_and_then (kind_of_site facts x j) (is k)) None))

pub no_site : (facts : Facts) (x : TypedMethod) (j : ℕ) → state_at x.states j ≡ None → false ≡ is_some (site_kind facts x j)
no_site facts x j none = sym (λ k. is_some (cond (is_some (none k)) (option_and_then (kind_of_site facts x j) (insn_of x.code j)) None))

-- ---- captured sites

filter_more : (b : Bool) (a c : ℕ) (longer list : List ℕ) → length longer ≡ length list + c
    → length (cond b (a ∷ longer) longer) ≡ length (cond b (a ∷ list) list) + c
filter_more true a c longer list more = omega (arith, more)
filter_more false a c longer list more = more

single : (b : Bool) (k : ℕ) → length (cond b (k ∷ []) []) ≡ cond b 1 0
single true k = refl
single false k = refl

counted : (test : ℕ → Bool) (a n : ℕ)
    → length (filter test (range_with_len a (suc n))) ≡ length (filter test (range_with_len a n)) + cond (test (a + n)) 1 0
counted test a zero =
    let same : a ≡ a + 0 = omega arith in
    let one : ℕ → ℕ = λ k. cond (test k) 1 0 in
    let whole : length (filter test (a ∷ [])) ≡ one a = single (test a) a in
    let moved : one a ≡ one (a + 0) = ap one same in
    omega (arith, whole, moved)
counted test a (suc n) =
    let same : a + 1 + n ≡ a + suc n = omega arith in
    filter_more (test a) a (cond (test (a + suc n)) 1 0) (filter test (range_with_len (a + 1) (suc n))) (filter test (range_with_len (a + 1) n))
    (counted test (a + 1) n ∙ ap (λ k. length (filter test (range_with_len (a + 1) n)) + cond (test k) 1 0) same)

within : (test : ℕ → Bool) (xs : List ℕ) → length (filter test xs) ≤ length xs
within test [] = omega arith
within test (x ∷ xs) = let rest = within test xs in elim (test x) as (λ b. length (cond b (x ∷ filter test xs) (filter test xs)) ≤ suc (length xs)) [
  | true ↦ omega arith
  | false ↦ omega arith
]

-- one more item
pub captured_more : (facts : Facts) (x : TypedMethod) (j : ℕ)
    → captured_before facts x (j + 1) ≡ captured_before facts x j + cond (is_captured_site facts x j) 1 0
captured_more facts x j =
    let next : j + 1 ≡ suc j = omega arith in
    let same : 0 + j ≡ j = omega arith in
    let more : ℕ → ℕ = λ k. captured_before facts x j + cond (is_captured_site facts x k) 1 0 in
    ap (λ n. length (filter (is_captured_site facts x) (range_with_len 0 n))) next ∙ counted (is_captured_site facts x) 0 j ∙ ap more same

pub captured_few : (facts : Facts) (x : TypedMethod) (j : ℕ) → captured_before facts x j ≤ j
captured_few facts x j =
    let few = within (is_captured_site facts x) (range_with_len 0 j) in
    omega (arith, length-range_with_len 0 j)

pub not_listed : (facts : Facts) (x : TypedMethod) (j : ℕ) (list : List Site) → is_some (site_kind facts x j) ≡ false → list ≡ list ++ site_at facts x j
not_listed facts x j list none =
    sym (append-nil list) ∙ sym (λ k. list ++ cond (none k) (site_after facts x (captured_before facts x j) j ∷ []) [])

pub not_counted : (facts : Facts) (x : TypedMethod) (j : ℕ) → is_some (site_kind facts x j) ≡ false
    → captured_before facts x j ≡ captured_before facts x (j + 1)
not_counted facts x j none =
    let more = captured_more facts x j in
    let zero_more : cond {A = ℕ} (is_captured_site facts x j) 1 0 ≡ 0 =
    λ k. cond {A = ℕ} (none k && is_captured facts x (site_class facts x j)) 1 0 in
    omega (arith, more, zero_more)

pub site_listed : (facts : Facts) (x : TypedMethod) (j captured : ℕ) (site : Site) (list after : List Site) → is_some (site_kind facts x j) ≡ true
    → captured ≡ captured_before facts x j → site ≡ site_after facts x captured j → after ≡ list ++ site ∷ [] → after ≡ list ++ site_at facts x j
site_listed facts x j captured site list after some before is more =
    more ∙ ap (λ s. list ++ s ∷ []) (is ∙ ap (λ n. site_after facts x n j) before)
    ∙ sym (λ k. list ++ cond (some k) (site_after facts x (captured_before facts x j) j ∷ []) [])

pub site_counted : (facts : Facts) (x : TypedMethod) (j captured : ℕ) (site : Site) → is_some (site_kind facts x j) ≡ true
    → captured ≡ captured_before facts x j → site ≡ site_after facts x captured j
    → captured + cond site.captured 1 0 ≡ captured_before facts x (j + 1)
site_counted facts x j captured site some before is =
    let more = captured_more facts x j in
    let same : cond {A = ℕ} (is_captured_site facts x j) 1 0 ≡ cond {A = ℕ} (is_captured facts x (site_class facts x j)) 1 0 =
    λ k. cond {A = ℕ} (some k && is_captured facts x (site_class facts x j)) 1 0 in
    let told : cond {A = ℕ} site.captured 1 0 ≡ cond {A = ℕ} (is_captured facts x (site_class facts x j)) 1 0 =
    ap (λ (s : Site). cond {A = ℕ} s.captured 1 0) is in
    omega (arith, more, same, told, before)
