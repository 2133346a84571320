-- Numbers of lists of targets: lists that are added leave them, and each call gets the one of its targets.
use Rattle.std.proofs.Common.{◌≡◌, ℕ, ◌+◌, ◌<◌, ◌≤◌, ⊎_elim, Bool, true, append-nil, List, [], ◌∷◌, ◌++◌, length, map, drop, take, get_or, option_map, Some, None, Contains, refl, ap, sym, ◌∙◌, subst, arith, length-append}
use Rattle.std.proofs.lemmas.Bool.{cases_lt, false≢true}
use Rattle.std.proofs.lemmas.List.{get_or_past, get_or-map, length-map, map-append, take_all, take_more}
use Rattle.std.proofs.lemmas.Option.{get_or_from_slice_get, slice_get-map}
use Rattle.std.proofs.lemmas.Grind.{flat_map-append}
use Rattle.std.proofs.lemmas.List.Elements.{Contains-append_cases}
use Rattle.std.specs.Global.{Vec}
use Rattle.fm_base.specs.declared.ids.ClassId.{ClassId}
use Rattle.fm_base.specs.declared.ids.MethodId.{MethodId}
use Rattle.fm_base.specs.declared.kinds.TypeRef.{TypeRef}
use Rattle.std.specs.List.{flat_map, slice_get}
use Rattle.fm_base.proofs.ContainsFacts.{Contains-flat_map, Contains-none}
use Rattle.fm_base.proofs.ListFacts.{slice_get-append_left, slice_get_push}
use Rattle.fm_code.proofs.EdgesLemmas.{Contains-from_map}
use Rattle.fm_flow.proofs.SourcesLemmas.{Contains-from_flat_map}
use Rattle.fm_world.specs.Programs.{targets, Program}
use Rattle.fm_world.specs.declared.calls.Call.{Call}
use Rattle.fm_world.specs.declared.calls.CallKind.{CallKind}
use Rattle.fm_world.specs.declared.calls.CallKind.TheVariants as call
use Rattle.fm_conn.specs.declared.shapes.CallShape.{CallShape}
use Rattle.fm_conn.specs.declared.shapes.Shape.{Shape}
use Rattle.fm_flow.specs.inner.LiveWalks.{list_of}
use Rattle.fm_summ.specs.inner.Callers.{call_targets, called_by, kinds_alike, lists_of, shape_targets, AreNumbersOf, AreNumbersOfAll, HasAlike, HasCallers, HasListed, Keeps, LeadAlike}

-- ---- lists that are added

pub kept_then : (a b c : List (List ℕ)) → Keeps a b → Keeps b c → Keeps a c
kept_then a b c first second = record { each = λ n xs is. second.each n xs (first.each n xs is) }

-- the lists of vectors of which there is one more
lists_more : (before after : List (Vec ℕ)) (new : Vec ℕ) → after ≡ before ++ new ∷ [] → lists_of before ++ new.items ∷ [] ≡ lists_of after
lists_more before after new more = sym (ap lists_of more ∙ map-append (λ (x : Vec ℕ). x.items) before (new ∷ []))

pub kept_more : (before after : List (Vec ℕ)) (new : Vec ℕ) → after ≡ before ++ new ∷ [] → Keeps (lists_of before) (lists_of after)
kept_more before after new more = record {
  each = λ n xs is.
      subst (λ list. slice_get list n ≡ Some xs) (lists_more before after new more)
      (slice_get-append_left (lists_of before) (new.items ∷ []) n xs is);
}

pub known_more : (p : Program) (lists lists_after : List (Vec ℕ)) (calls calls_after : List Call) (new : Vec ℕ) (called : Call) →
    lists_of lists ≡ map (targets p) calls → lists_after ≡ lists ++ new ∷ [] → calls_after ≡ calls ++ called ∷ [] → new.items ≡ targets p called →
    lists_of lists_after ≡ map (targets p) calls_after
known_more p lists lists_after calls calls_after new called known more calls_more is =
    sym (lists_more lists lists_after new more) ∙ (λ k. known k ++ is k ∷ []) ∙ sym (ap (map (targets p)) calls_more ∙ map-append (targets p) calls (called ∷ []))

pub last_is : (p : Program) (lists lists_after : List (Vec ℕ)) (new : Vec ℕ) (called : Call) (n : ℕ) → lists_after ≡ lists ++ new ∷ [] →
    new.items ≡ targets p called → n ≡ length lists → slice_get (lists_of lists_after) n ≡ Some (targets p called)
last_is p lists lists_after new called n more is at =
    ap (λ list. slice_get list n) (sym (lists_more lists lists_after new more))
    ∙ ap (λ m. slice_get (lists_of lists ++ new.items ∷ []) m) (at ∙ sym (length-map lists (λ (x : Vec ℕ). x.items)))
    ∙ slice_get_push (lists_of lists) new.items ∙ ap Some is

-- the list of a call that is alike
pub alike_is : (p : Program) (lists : List (Vec ℕ)) (calls : List Call) (n : ℕ) (called : Call) → lists_of lists ≡ map (targets p) calls →
    HasAlike calls n called → slice_get (lists_of lists) n ≡ Some (targets p called)
alike_is p lists calls n called known alike =
    ap (λ list. slice_get list n) known ∙ slice_get-map (targets p) calls n ∙ ap (λ o. option_map (targets p) o) alike.there ∙ ap Some (alike.alike p)

-- ---- the numbers of calls

numbers_kept : (before after : List (List ℕ)) → Keeps before after → (numbers : List ℕ) (found : List (List ℕ)) → AreNumbersOf before numbers found →
    AreNumbersOf after numbers found
numbers_kept before after kept [] found are = are
numbers_kept before after kept (n ∷ numbers) [] are = absurd (let both : slice_get before n ∷ map (slice_get before) numbers ≡ [] = are in cc)
numbers_kept before after kept (n ∷ numbers) (xs ∷ found) are =
    let first : slice_get before n ≡ Some xs = ap (λ list. get_or list 0 None) are in
    let rest : AreNumbersOf before numbers found = ap (drop 1) are in
    λ k. kept.each n xs first k ∷ numbers_kept before after kept numbers found rest k

pub one_call_more : (p : Program) (calls : List CallShape) (i : ℕ) (c : CallShape) (before after : List (List ℕ)) (found found_after : List ℕ) (n : ℕ) →
    i < length calls → c ≡ get_or calls i c → AreNumbersOf before found (call_targets p (take i calls)) → Keeps before after →
    slice_get after n ≡ Some (targets p c.call) → found_after ≡ found ++ n ∷ [] → AreNumbersOf after found_after (call_targets p (take (i + 1) calls))
one_call_more p calls i c before after found found_after n inside is are kept at more =
    ap (map (slice_get after)) more ∙ map-append (slice_get after) found (n ∷ [])
    ∙ (λ k. numbers_kept before after kept found (call_targets p (take i calls)) are k ++ at k ∷ [])
    ∙ sym (ap (map Some) (ap (call_targets p) (take_more calls i c inside ∙ ap (λ v. take i calls ++ v ∷ []) (sym is))
    ∙ map-append (λ (c : CallShape). targets p c.call) (take i calls) (c ∷ []))
    ∙ map-append Some (call_targets p (take i calls)) (targets p c.call ∷ []))

pub past_all : (p : Program) (calls : List CallShape) (i : ℕ) (lists : List (List ℕ)) (found : List ℕ) → length calls ≤ i →
    AreNumbersOf lists found (call_targets p (take i calls)) → AreNumbersOf lists found (call_targets p calls)
past_all p calls i lists found past are =
    subst (λ list. AreNumbersOf lists found (call_targets p list)) (take_all i calls past) are

-- ---- and of those of all methods

all_numbers_kept : (before after : List (List ℕ)) → Keeps before after → (numbers : List (List ℕ)) (found : List (List (List ℕ))) →
    AreNumbersOfAll before numbers found → AreNumbersOfAll after numbers found
all_numbers_kept before after kept [] found are = are
all_numbers_kept before after kept (n ∷ numbers) [] are = absurd (let both : map (slice_get before) n ∷ map (map (slice_get before)) numbers ≡ [] = are in cc)
all_numbers_kept before after kept (n ∷ numbers) (xs ∷ found) are =
    let first : AreNumbersOf before n xs = ap (λ list. get_or list 0 []) are in
    let rest : AreNumbersOfAll before numbers found = ap (drop 1) are in
    λ k. numbers_kept before after kept n xs first k ∷ all_numbers_kept before after kept numbers found rest k

pub one_method_more : (p : Program) (shapes : List Shape) (i : ℕ) (s : Shape) (before after : List (List ℕ)) (found found_after : List (Vec ℕ)) (new : Vec ℕ) →
    i < length shapes → s ≡ get_or shapes i s → AreNumbersOfAll before (lists_of found) (shape_targets p (take i shapes)) → Keeps before after →
    AreNumbersOf after new.items (call_targets p s.calls) → found_after ≡ found ++ new ∷ [] →
    AreNumbersOfAll after (lists_of found_after) (shape_targets p (take (i + 1) shapes))
one_method_more p shapes i s before after found found_after new inside is are kept at more =
    let g : Shape → List (List ℕ) = λ s. call_targets p s.calls in
    ap (map (map (slice_get after))) (sym (lists_more found found_after new more)) ∙ map-append (map (slice_get after)) (lists_of found) (new.items ∷ [])
    ∙ (λ k. all_numbers_kept before after kept (lists_of found) (shape_targets p (take i shapes)) are k ++ at k ∷ [])
    ∙ sym (ap (map (map Some)) (ap (map g) (take_more shapes i s inside ∙ ap (λ v. take i shapes ++ v ∷ []) (sym is)) ∙ map-append g (take i shapes) (s ∷ []))
    ∙ map-append (map Some) (map g (take i shapes)) (g s ∷ []))

pub past_all_methods : (p : Program) (shapes : List Shape) (i : ℕ) (lists numbers : List (List ℕ)) → length shapes ≤ i →
    AreNumbersOfAll lists numbers (shape_targets p (take i shapes)) → AreNumbersOfAll lists numbers (shape_targets p shapes)
past_all_methods p shapes i lists numbers past are =
    subst (λ list. AreNumbersOfAll lists numbers (shape_targets p list)) (take_all i shapes past) are

-- ---- the lists of numbers

lists_are : (lists : List (List ℕ)) (numbers : List ℕ) (found : List (List ℕ)) → AreNumbersOf lists numbers found → called_by lists numbers ≡ found
lists_are lists [] [] are = refl
lists_are lists [] (xs ∷ found) are = absurd (let both : [] ≡ Some xs ∷ map Some found = are in cc)
lists_are lists (n ∷ numbers) [] are = absurd (let both : slice_get lists n ∷ map (slice_get lists) numbers ≡ [] = are in cc)
lists_are lists (n ∷ numbers) (xs ∷ found) are =
    let first : slice_get lists n ≡ Some xs = ap (λ list. get_or list 0 None) are in
    let rest : AreNumbersOf lists numbers found = ap (drop 1) are in
    λ k. get_or_from_slice_get lists n xs [] first k ∷ lists_are lists numbers found rest k

pub all_lists_are : (lists numbers : List (List ℕ)) (found : List (List (List ℕ))) → AreNumbersOfAll lists numbers found → map (called_by lists) numbers ≡ found
all_lists_are lists [] [] are = refl
all_lists_are lists [] (xs ∷ found) are = absurd (let both : [] ≡ map Some xs ∷ map (map Some) found = are in cc)
all_lists_are lists (n ∷ numbers) [] are = absurd (let both : map (slice_get lists) n ∷ map (map (slice_get lists)) numbers ≡ [] = are in cc)
all_lists_are lists (n ∷ numbers) (xs ∷ found) are =
    let first : AreNumbersOf lists n xs = ap (λ list. get_or list 0 []) are in
    let rest : AreNumbersOfAll lists numbers found = ap (drop 1) are in
    λ k. lists_are lists n xs first k ∷ all_lists_are lists numbers found rest k

-- ---- callers by lists

-- a list that has a number is there
list_inside : (lists : List (List ℕ)) (place n : ℕ) → Contains (list_of lists place) n → place < length lists
list_inside lists place n found =
    ⊎_elim (λ inside. inside)
    (λ (past : length lists ≤ place). absurd (Contains-none n (subst (λ list. Contains list n) (get_or_past lists place [] past) found)))
    (cases_lt place (length lists))

-- what leads to a method by a list calls it, and who calls it leads there by a list
pub callers_by_lists : (lists numbers callers leading : List (List ℕ)) → HasListed (length lists) numbers callers → HasListed (length numbers) lists leading →
    HasCallers (map (called_by lists) numbers) (map (flat_map (list_of callers)) leading)
callers_by_lists lists numbers callers leading listed led =
    let size : length (map (called_by lists) numbers) ≡ length numbers = length-map numbers (called_by lists) in
    let other : length (map (flat_map (list_of callers)) leading) ≡ length leading = length-map leading (flat_map (list_of callers)) in
    let at : (target : ℕ) → target < length leading → list_of (map (flat_map (list_of callers)) leading) target ≡ flat_map (list_of callers) (list_of leading target) =
    λ target inside. get_or-map (flat_map (list_of callers)) leading target [] [] inside in
    record {
      one_each = other ∙ led.one_each ∙ sym size;
      inside = λ target caller found.
          let there : target < length leading = (let within = list_inside (map (flat_map (list_of callers)) leading) target caller found in omega (arith, within, other)) in
          let piece = Contains-from_flat_map (list_of callers) (list_of leading target) caller (subst (λ list. Contains list caller) (at target there) found) in
          let below = listed.inside piece.0 caller piece.2 in
          omega (arith, below, size);
      each = λ target caller called inside within among found.
          let place = Contains-from_map (list_of lists) (list_of numbers caller) called
          (subst (λ list. Contains list called) (get_or-map (called_by lists) numbers caller [] [] (omega (arith, within, size))) among) in
          let has : Contains (list_of lists place.0) target = subst (λ list. Contains list target) (sym place.2) found in
          let there = list_inside lists place.0 target has in
          let leads = led.each target place.0 (omega (arith, inside, size)) there has in
          let calls = listed.each place.0 caller there (omega (arith, within, size)) place.1 in
          subst (λ list. Contains list caller) (sym (at target (omega (arith, inside, size, led.one_each))))
          (Contains-flat_map (list_of callers) (list_of leading target) place.0 caller leads calls);
    }

-- ---- calls that are alike

alike_kinds : (p : Program) (k l : CallKind) (named : TypeRef) (method : MethodId) (one other : ClassId) (same : Bool) → (same ≡ true → one ≡ other) →
    kinds_alike k l same ≡ true →
    targets p (record { kind = k; named = named; method = method; caller = one }) ≡ targets p (record { kind = l; named = named; method = method; caller = other })
unfolding targets
alike_kinds p call.Static call.Static named method one other same callers is = refl
alike_kinds p call.Virtual call.Virtual named method one other same callers is = refl
alike_kinds p call.Interface call.Interface named method one other same callers is = refl
alike_kinds p call.Special call.Special named method one other same callers is =
    ap (λ c. targets p (record { kind = call.Special; named = named; method = method; caller = c })) (callers is)
alike_kinds p k l named method one other same callers is = absurd (false≢true is)

pub alike_calls : (one other : Call) (same : Bool) → one.method.0 ≡ other.method.0 → one.named ≡ other.named → (same ≡ true → one.caller.0 ≡ other.caller.0) →
    kinds_alike one.kind other.kind same ≡ true → LeadAlike one other
alike_calls one other same method named callers kinds = λ p.
    ap (λ n. targets p (record { kind = one.kind; named = one.named; method = record { 0 = n }; caller = one.caller })) method
    ∙ ap (λ t. targets p (record { kind = one.kind; named = t; method = other.method; caller = one.caller })) named
    ∙ alike_kinds p one.kind other.kind other.named other.method one.caller other.caller same (λ is. ap (λ n. record { 0 = n }) (callers is)) kinds

-- ---- what is in lists, one after the other

list_taken : (lists : List (List ℕ)) (numbers : List ℕ) (i : ℕ) → i < length numbers →
    flat_map (list_of lists) (take (i + 1) numbers) ≡ flat_map (list_of lists) (take i numbers) ++ list_of lists (get_or numbers i 0)
list_taken lists numbers i inside =
    ap (flat_map (list_of lists)) (take_more numbers i 0 inside) ∙ flat_map-append (list_of lists) (take i numbers) (get_or numbers i 0 ∷ [])
    ∙ ap (λ list. flat_map (list_of lists) (take i numbers) ++ list) (append-nil (list_of lists (get_or numbers i 0)))

pub list_taken_more : (lists : List (List ℕ)) (numbers : List ℕ) (i : ℕ) → i < length numbers → (P : ℕ → Type 0) →
    ((m : ℕ) → Contains (flat_map (list_of lists) (take i numbers)) m → P m) → ((m : ℕ) → Contains (list_of lists (get_or numbers i 0)) m → P m) →
    (m : ℕ) → Contains (flat_map (list_of lists) (take (i + 1) numbers)) m → P m
list_taken_more lists numbers i inside P was now m found =
    ⊎_elim (λ before. was m before) (λ here. now m here)
    (Contains-append_cases (flat_map (list_of lists) (take i numbers)) (list_of lists (get_or numbers i 0)) m
    (subst (λ list. Contains list m) (list_taken lists numbers i inside) found))

pub list_taken_length : (lists : List (List ℕ)) (numbers : List ℕ) (i : ℕ) → i < length numbers →
    length (flat_map (list_of lists) (take (i + 1) numbers)) ≡ length (flat_map (list_of lists) (take i numbers)) + length (list_of lists (get_or numbers i 0))
list_taken_length lists numbers i inside =
    ap length (list_taken lists numbers i inside) ∙ length-append (flat_map (list_of lists) (take i numbers)) (list_of lists (get_or numbers i 0))

pub lists_taken : (lists : List (List ℕ)) (numbers : List ℕ) (i : ℕ) → length numbers ≤ i → flat_map (list_of lists) (take i numbers) ≡ flat_map (list_of lists) numbers
lists_taken lists numbers i past = ap (flat_map (list_of lists)) (take_all i numbers past)

-- where there is no list it is empty
pub no_list : (lists : List (Vec ℕ)) (n : ℕ) → length lists ≤ n → [] ≡ list_of (lists_of lists) n
no_list lists n past = sym (get_or_past (lists_of lists) n [] (let size = length-map lists (λ (x : Vec ℕ). x.items) in omega (arith, past, size)))
