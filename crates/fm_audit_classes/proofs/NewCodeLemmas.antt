-- Which new codes methods have in classes that are given ones with insertions.
use Rattle.std.proofs.Common.{◌≡◌, refl, sym, ◌∙◌, ap, subst, ℕ, zero, suc, ◌+◌, ◌-◌, ◌<◌, ◌≤◌, ◌++◌, ⊎_elim, Bool, true, false, cond, List, [], ◌∷◌, length, map, get_or, Option, Some, None, Contains, arith}
use Rattle.std.specs.Prelude.{is_some, slice_get}
use Rattle.std.specs.List.{AllByRecursion, flat_map, list_any, range_with_len}
use Rattle.std.proofs.lemmas.Bool.{cases_lt, le-ltb, or_left, or_right}
use Rattle.std.proofs.lemmas.List.{get_or-append-add, get_or_append_left, get_or_past, length-map}
use Rattle.std.proofs.lemmas.List.FromFn.{get_or-map-range_with_len, length-map-range_with_len}
use Rattle.std.proofs.lemmas.Option.{none-some, same_Some, slice_get-get_or, slice_get_within}
use Rattle.fm_base.proofs.ContainsFacts.{Contains-cons_cases, Contains-none}
use Rattle.fm_chain.proofs.WithoutChains.{calls_same, class_same, codes_are_woven}
use Rattle.fm_chain.specs.Chaining.{class_calls, plan_has_chain}
use Rattle.fm_chain.specs.declared.calls.Calls.{Calls}
use Rattle.fm_code.proofs.EdgesLemmas.{MeetsCodeRules-method}
use Rattle.fm_code.specs.FreeEntries.{with_free}
use Rattle.fm_code.specs.Members.{code_of}
use Rattle.fm_code.specs.Spells.{HasSpelling}
use Rattle.fm_code.specs.declared.class_file.ClassDef.{ClassDef}
use Rattle.fm_code.specs.declared.class_file.Member.{Member}
use Rattle.fm_code.specs.declared.code_array.Code.{Code}
use Rattle.fm_code.specs.declared.code_array.Item.{Item}
use Rattle.fm_conn.proofs.ListLemmas.{Contains-range}
use Rattle.fm_flow.proofs.CodeFacts.{items_counted}
use Rattle.fm_law_relinked.proofs.Codes.{class_code}
use Rattle.fm_law_relinked.specs.Codes.{code_with}
use Rattle.fm_place.specs.Insertions.{Insertions}
use Rattle.fm_place.specs.Rewriting.{changes, free_index, Plans, rewritten_class, rewritten_from}
use Rattle.fm_place.specs.Woven.{woven_code}
use Rattle.fm_place_weave.proofs.ClassLawLemmas.{by_change, rewritten-is}
use Rattle.fm_audit_classes.specs.Parts.{code_items}
use Rattle.fm_audit_classes.specs.inner.Codes.{code_in, codes_in, free_for, method_items, written_codes}

-- ---- one method

-- its new items are those of its code with what is inserted, if anything is
abbrev pub IsNewFor : Option Insertions → Option Code → ℕ × List Item → Type 0
IsNewFor None old new = (code : Code) → old ≡ Some code → new.1 ≡ code.items
IsNewFor (Some ins) old new = (code : Code) → old ≡ Some code → new.1 ≡ (woven_code new.0 code ins).items

abbrev pub no_code : ℕ × List Item
no_code = (0, [])

-- ---- lists

pub place_items : (methods : List Member) (i : ℕ) → method_items (slice_get methods i) ≡ code_items (get_or (map code_of methods) i None)
place_items [] i = refl
place_items (m ∷ methods) zero = refl
place_items (m ∷ methods) (suc i) = place_items methods i

any_there : (test : ℕ → Bool) (xs : List ℕ) (x : ℕ) → Contains xs x → test x ≡ true → list_any test xs ≡ true
any_there test [] x found holds = absurd (Contains-none x found)
any_there test (y ∷ xs) x found holds = ⊎_elim
    (λ (same : x ≡ y). or_left (test y) (list_any test xs) (ap test (sym same) ∙ holds))
    (λ (later : Contains xs x). or_right (test y) (list_any test xs) (any_there test xs x later holds))
    (Contains-cons_cases y xs x found)

-- there is no code
never_new : (o : Option Insertions) (old : Option Code) (new : ℕ × List Item) → old ≡ None → IsNewFor o old new
never_new None old new none = λ code is. absurd (none-some code (sym none ∙ is))
never_new (Some ins) old new none = λ code is. absurd (none-some code (sym none ∙ is))

module _ (plans : Plans) (plain : (method : ℕ) → plan_has_chain (plans method) ≡ false) where
  -- the same of methods, of which the first has this number
  abbrev pub AreNewFor : (first : ℕ) → List (Option Code) → List (ℕ × List Item) → Type 0
  AreNewFor first olds news = (i : ℕ) → IsNewFor (plans (first + i)) (get_or olds i None) (get_or news i no_code)

  joined : (first : ℕ) (olds more : List (Option Code)) (news others : List (ℕ × List Item)) → length olds ≡ length news → AreNewFor first olds news
      → AreNewFor (first + length olds) more others → AreNewFor first (olds ++ more) (news ++ others)
  joined first olds more news others count front back i = ⊎_elim
      (λ (here : i < length olds).
      subst (λ (q : Option Code × (ℕ × List Item)). IsNewFor (plans (first + i)) q.0 q.1)
      (λ k. (sym (get_or_append_left olds more None i here) k, sym (get_or_append_left news others no_code i (omega (arith, here, count))) k))
      (front i))
      (λ (past : length olds ≤ i).
      let number : first + length olds + (i - length olds) ≡ first + i = omega (arith, past) in
      let old_place : length olds + (i - length olds) ≡ i = omega (arith, past) in
      let new_place : length news + (i - length olds) ≡ i = omega (arith, past, count) in
      let old_is : get_or more (i - length olds) None ≡ get_or (olds ++ more) i None =
      sym (get_or-append-add olds more (i - length olds) None) ∙ ap (λ n. get_or (olds ++ more) n None) old_place in
      let new_is : get_or others (i - length olds) no_code ≡ get_or (news ++ others) i no_code =
      sym (get_or-append-add news others (i - length olds) no_code) ∙ ap (λ n. get_or (news ++ others) n no_code) new_place in
      subst (λ (q : ℕ × (Option Code × (ℕ × List Item))). IsNewFor (plans q.0) q.1.0 q.1.1) (λ k. (number k, (old_is k, new_is k)))
      (back (i - length olds)))
      (cases_lt i (length olds))

  -- ---- one class

  module _ (first : ℕ) (c : ClassDef) (spelled : HasSpelling (rewritten_class plans first c)) where
    -- where something is inserted, its pool isn't full
    free_fits : (i : ℕ) (ins : Insertions) → i < length c.methods → plans (first + i) ≡ Some ins → free_for c ≡ free_index c
    free_fits i ins inside planned =
        let changed : changes plans first c ≡ true =
        any_there (λ method. is_some (plans method)) (range_with_len first (length c.methods)) (first + i)
        (Contains-range first (length c.methods) (first + i) (omega arith) (omega (arith, inside))) (ap is_some planned) in
        let made : HasSpelling (by_change plans first c true) =
        subst HasSpelling (rewritten-is plans first c ∙ ap (by_change plans first c) changed) spelled in
        let few : length (with_free c.pool.entries) < 65536 = made.1.pool.fits.count in
        ap (λ b. cond b 0 (free_index c)) (le-ltb 65535 (length (with_free c.pool.entries)) (omega (arith, few)))

    abbrev new_methods : List Member
    new_methods = (rewritten_class plans first c).methods

    items : (i : ℕ) → i < length c.methods → (o : Option Insertions) → plans (first + i) ≡ o → (code : Code) → get_or (map code_of c.methods) i None ≡ Some code
        → method_items (slice_get new_methods i) ≡ code_items (code_with (class_calls plans first c) o (Some code))
    items i within o planned code is =
        place_items new_methods i
        ∙ ap code_items (ap (λ (d : ClassDef). get_or (map code_of d.methods) i None) (sym (class_same plans plain first c)) ∙ class_code plans first c i within)
        ∙ (λ k. code_items (code_with (class_calls plans first c) (planned k) (is k)))

    -- without chains
    woven_items : (i : ℕ) (ins : Insertions) → plans (first + i) ≡ Some ins → (code : Code)
        → code_items (code_with (class_calls plans first c) (Some ins) (Some code)) ≡ (woven_code (free_index c) code ins).items
    woven_items i ins planned code =
        ap (λ (made : Code). made.items) (codes_are_woven (class_calls plans first c) code ins (sym (ap plan_has_chain planned) ∙ plain (first + i))).code_is
        ∙ ap (λ (calls : Calls). (woven_code calls.free code ins).items) (calls_same plans plain first c)

    by_plan : (i : ℕ) → i < length c.methods → (o : Option Insertions) → plans (first + i) ≡ o
        → IsNewFor o (get_or (map code_of c.methods) i None) (code_in (free_for c) new_methods i)
    by_plan i within None planned = λ code is. items i within None planned code is
    by_plan i within (Some ins) planned = λ code is.
        items i within (Some ins) planned code is ∙ woven_items i ins planned code
        ∙ ap (λ n. (woven_code n code ins).items) (sym (free_fits i ins within planned))

    class_new : AreNewFor first (map code_of c.methods) (codes_in (free_for c) (length c.methods) new_methods)
    class_new i = ⊎_elim
        (λ (within : i < length c.methods).
        let place : get_or (codes_in (free_for c) (length c.methods) new_methods) i no_code ≡ code_in (free_for c) new_methods i =
        get_or-map-range_with_len (code_in (free_for c) new_methods) 0 (length c.methods) i i no_code within (omega arith) in
        subst (IsNewFor (plans (first + i)) (get_or (map code_of c.methods) i None)) (sym place) (by_plan i within (plans (first + i)) refl))
        (λ (past : length c.methods ≤ i).
        let count = length-map c.methods code_of in
        never_new (plans (first + i)) (get_or (map code_of c.methods) i None) (get_or (codes_in (free_for c) (length c.methods) new_methods) i no_code)
        (get_or_past (map code_of c.methods) i None (omega (arith, past, count))))
        (cases_lt i (length c.methods))

  -- ---- all classes

  pub all_new : (first : ℕ) (given : List ClassDef) → AllByRecursion HasSpelling (rewritten_from plans first given)
      → AreNewFor first (flat_map (λ (c : ClassDef). map code_of c.methods) given) (written_codes given (rewritten_from plans first given))
  all_new first [] spelled = λ i. never_new (plans (first + i)) None no_code refl
  all_new first (c ∷ given) spelled =
      let count : length (map code_of c.methods) ≡ length c.methods = length-map c.methods code_of in
      let wide : length (codes_in (free_for c) (length c.methods) (rewritten_class plans first c).methods) ≡ length c.methods =
      length-map-range_with_len (code_in (free_for c) (rewritten_class plans first c).methods) 0 (length c.methods) in
      joined first (map code_of c.methods) (flat_map (λ (c : ClassDef). map code_of c.methods) given)
      (codes_in (free_for c) (length c.methods) (rewritten_class plans first c).methods)
      (written_codes given (rewritten_from plans (first + length c.methods) given)) (count ∙ sym wide) (class_new first c spelled.0)
      (subst (λ n. AreNewFor (first + n) (flat_map (λ (c : ClassDef). map code_of c.methods) given) (written_codes given (rewritten_from plans (first + length c.methods) given))) (sym count)
      (all_new (first + length c.methods) given spelled.1))

-- ---- how many items there are

items_few : (c : ClassDef) → HasSpelling c → (i : ℕ) → length (method_items (slice_get c.methods i)) ≤ 65535
items_few c spelled i = by_method (slice_get c.methods i) refl where
  by_code : (m : Member) → Contains c.methods m → (o : Option Code) → code_of m ≡ o → length (code_items o) ≤ 65535
  by_code m among None none = omega arith
  by_code m among (Some code) is = (items_counted code (MeetsCodeRules-method c m code spelled among is)).1

  by_method : (o : Option Member) → slice_get c.methods i ≡ o → length (method_items o) ≤ 65535
  by_method None none = omega arith
  by_method (Some m) there =
      let within = slice_get_within c.methods i m there in
      by_code m (i, within, same_Some _ m (sym (slice_get-get_or c.methods i m within) ∙ there)) (code_of m) refl

abbrev AreFew : List (ℕ × List Item) → Type 0
AreFew news = (i : ℕ) → length (get_or news i no_code).1 ≤ 65535

few_joined : (news others : List (ℕ × List Item)) → AreFew news → AreFew others → AreFew (news ++ others)
few_joined [] others front back i = back i
few_joined (n ∷ news) others front back zero = front 0
few_joined (n ∷ news) others front back (suc i) = few_joined news others (λ k. front (suc k)) back i

few_mapped : (f : ℕ → ℕ × List Item) (a n : ℕ) → ((i : ℕ) → length (f i).1 ≤ 65535) → AreFew (map f (range_with_len a n))
few_mapped f a zero few i = omega arith
few_mapped f a (suc n) few zero = few a
few_mapped f a (suc n) few (suc i) = few_mapped f (a + 1) n few i

pub all_few : (given written : List ClassDef) → AllByRecursion HasSpelling written → AreFew (written_codes given written)
all_few [] written spelled i = omega arith
all_few (c ∷ given) [] spelled i = omega arith
all_few (c ∷ given) (w ∷ written) spelled i =
    few_joined (codes_in (free_for c) (length c.methods) w.methods) (written_codes given written)
    (few_mapped (code_in (free_for c) w.methods) 0 (length c.methods) (items_few w spelled.0)) (all_few given written spelled.1) i
