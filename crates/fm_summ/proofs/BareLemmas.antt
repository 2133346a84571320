-- The ends of methods that have no code, and what built-in methods link.
use Rattle.std.proofs.Common.{◌≡◌, ℕ, zero, suc, ◌<◌, ◌⊎◌, ◌↔◌, ◌&&◌, ◌||◌, not, Bool, true, false, cond, eqb, List, [], ◌∷◌, ◌++◌, length, drop, map, get_or, Option, Some, None, IsSomeAnd, Contains, refl, ap, sym, ◌∙◌, subst, inl, inr, ⊎_elim, arith, eqb-true, ne_eqb}
use Rattle.std.proofs.lemmas.Bool.{false≢true, or_cases}
use Rattle.std.proofs.lemmas.List.Elements.{Contains-append_left, Contains-append_right, Contains-append_cases}
use Rattle.std.specs.List.{flat_map, list_all, list_any, range_with_len, slice_get}
use Rattle.fm_base.proofs.ContainsFacts.{any-found, Contains-cons_cases, Contains-flat_map, Contains-none}
use Rattle.fm_base.proofs.TestFacts.{and_left, and_right}
use Rattle.fm_base.specs.declared.kinds.Kind.{Kind}
use Rattle.fm_code.proofs.EdgesLemmas.{Contains-from_map, Contains-map}
use Rattle.fm_code.specs.AccessFlags.{is_static}
use Rattle.fm_code.specs.declared.code_array.Code.{Code}
use Rattle.fm_types.specs.CallRows.{is_constructor}
use Rattle.fm_types.specs.Named.{parameters_of, result_of, this_class}
use Rattle.fm_types.specs.States.{is_reference, local_slots}
use Rattle.fm_types.specs.Typed.{entry_slots}
use Rattle.fm_types.specs.declared.slots.Slot.{Slot}
use Rattle.fm_types.specs.declared.slots.Slot.TheVariants as slot
use Rattle.fm_world.specs.BuiltIns.{built_in}
use Rattle.fm_world.specs.Members.{method_at, methods_of}
use Rattle.fm_world.specs.declared.declarations.DeclaredMethod.{DeclaredMethod}
use Rattle.fm_world.specs.declared.records.MethodInfo.{MethodInfo}
use Rattle.fm_world.specs.Numbers.{type_of_class}
use Rattle.fm_world.specs.Programs.{body_of, code_at, method_info, Outline, Program}
use Rattle.fm_conn.specs.Links.{native_links, IsNativeLink}
use Rattle.fm_conn.specs.Pairs.{IsEnd}
use Rattle.fm_conn.specs.Rows.{is_reference_kind}
use Rattle.fm_conn.specs.Summaries.{end_number, is_same_end}
use Rattle.fm_conn.specs.declared.ends.End2.{End2}
use Rattle.fm_conn.specs.declared.ends.End2.TheVariants as end
use Rattle.fm_conn.proofs.ListedEndLemmas.{links-from, links-is}
use Rattle.fm_summ.proofs.EntryLemmas.{end_number-listed, number_is, same_end-is}
use Rattle.fm_flow.proofs.SourcesLemmas.{Contains-from_flat_map}
use Rattle.fm_conn.proofs.ListLemmas.{Contains-first, Contains-one, Contains-range}
use Rattle.fm_summ.specs.inner.BuiltIns.{bare_ends, bare_entries, entry_number, entry_words, get_class_row, is_linked_by, is_one_of, linking_rows, own_number, parameter_end, parameter_ends, result_end, row_in}
use Rattle.fm_summ.specs.inner.State.{IsBare}

-- ---- tests of lists

pub all_pass : {X : Type 0} (test : X → Bool) (xs : List X) → list_all test xs ≡ true → (x : X) → Contains xs x → test x ≡ true
all_pass test [] all x found = absurd (Contains-none x found)
all_pass test (y ∷ xs) all x found =
    ⊎_elim (λ (same : x ≡ y). ap test same ∙ and_left (test y) (list_all test xs) all)
    (λ later. all_pass test xs (and_right (test y) (list_all test xs) all) x later)
    (Contains-cons_cases y xs x found)

-- ---- rows

-- whether the list of links has the two ends for the row, in one order or the other
is_pair : End2 → End2 → End2 × End2 → Bool
is_pair a b pair = (is_same_end pair.0 a && is_same_end pair.1 b) || (is_same_end pair.0 b && is_same_end pair.1 a)

finds : End2 → End2 → ℕ → Bool
finds a b row = list_any (λ (entry : ℕ × List (End2 × End2)). eqb entry.0 row && list_any (is_pair a b) entry.1) native_links

found_link : (a b : End2) (row : ℕ) → finds a b row ≡ true → IsNativeLink row a b
unfolding finds is_pair
found_link a b row finds_it =
    let entry = any-found (λ (entry : ℕ × List (End2 × End2)). eqb entry.0 row && list_any (is_pair a b) entry.1) native_links finds_it in
    let row_is : entry.0.0 ≡ row = eqb-true entry.0.0 row (and_left (eqb entry.0.0 row) (list_any (is_pair a b) entry.0.1) entry.2) in
    let pair = any-found (is_pair a b) entry.0.1 (and_right (eqb entry.0.0 row) (list_any (is_pair a b) entry.0.1) entry.2) in
    let first = pair.0.0 in
    let second = pair.0.1 in
    record {
      links = entry.0.1;
      row_has = subst (λ n. Contains native_links (n, entry.0.1)) row_is entry.1;
      among =
          ⊎_elim
          (λ both.
          let one : first ≡ a = same_end-is first a (and_left (is_same_end first a) (is_same_end second b) both) in
          let other : second ≡ b = same_end-is second b (and_right (is_same_end first a) (is_same_end second b) both) in
          inl (subst (λ e. Contains entry.0.1 (a, e)) other (subst (λ e. Contains entry.0.1 (e, second)) one pair.1)))
          (λ both.
          let one : first ≡ b = same_end-is first b (and_left (is_same_end first b) (is_same_end second a) both) in
          let other : second ≡ a = same_end-is second a (and_right (is_same_end first b) (is_same_end second a) both) in
          inr (subst (λ e. Contains entry.0.1 (b, e)) other (subst (λ e. Contains entry.0.1 (e, second)) one pair.1)))
          (or_cases (is_same_end first a && is_same_end second b) (is_same_end first b && is_same_end second a) pair.2);
    }

-- the rows that the code lists link the ends that the definition links, and no others
listed_rows : list_all
    (λ (entry : ℕ × List (End2 × End2)). list_all (λ (pair : End2 × End2). is_linked_by (Some entry.0) pair.0 && is_linked_by (Some entry.0) pair.1) entry.1) native_links ≡ true
unfolding native_links methods_of built_in
listed_rows = refl

tells_rows : End2 → End2 → ℕ → Bool
tells_rows a b row = not (is_one_of (linking_rows a) row) || finds a b row

rows_of_result : list_all (tells_rows (end.Parameter 0) end.Return) (linking_rows end.Return) ≡ true
unfolding tells_rows finds is_pair native_links methods_of built_in
rows_of_result = refl

rows_of_second : list_all (tells_rows end.Return (end.Parameter 1)) (linking_rows (end.Parameter 1)) ≡ true
unfolding tells_rows finds is_pair native_links methods_of built_in
rows_of_second = refl

rows_of_parameters : list_all (tells_rows (end.Parameter 0) (end.Parameter 1)) (linking_rows (end.Parameter 1)) ≡ true
unfolding tells_rows finds is_pair native_links methods_of built_in
rows_of_parameters = refl

rows_of_global : list_all (tells_rows end.Return end.Global) (linking_rows end.Global) ≡ true
unfolding tells_rows finds is_pair native_links methods_of built_in
rows_of_global = refl

row_listed : (rows : List ℕ) (row : ℕ) → is_one_of rows row ≡ true → Contains rows row
row_listed rows row one =
    let found = any-found (λ n. eqb n row) rows one in subst (λ n. Contains rows n) (eqb-true found.0 row found.2) found.1

tells : (a b : End2) (row : ℕ) → list_all (tells_rows a b) (linking_rows b) ≡ true → is_one_of (linking_rows a) row ≡ true →
    is_one_of (linking_rows b) row ≡ true → IsNativeLink row a b
unfolding tells_rows
tells a b row all first second =
    let told : (not (is_one_of (linking_rows a) row) || finds a b row) ≡ true = all_pass (tells_rows a b) (linking_rows b) all row (row_listed (linking_rows b) row second) in
    found_link a b row (⊎_elim (λ none. absurd (false≢true (ap not (sym first) ∙ none))) (λ found. found) (or_cases (not (is_one_of (linking_rows a) row)) (finds a b row) told))

native_back : (row : ℕ) (a b : End2) → IsNativeLink row a b → IsNativeLink row b a
native_back row a b link = record { links = link.links; row_has = link.row_has; among = ⊎_elim (λ one. inr one) (λ other. inl other) link.among }

-- no row links a parameter past the first two
no_rows : (k row : ℕ) → is_one_of (linking_rows (end.Parameter (suc (suc k)))) row ≡ true → ⊥
no_rows k row is =
    let first : eqb (suc (suc k)) 0 ≡ false = ne_eqb (suc (suc k)) 0 (λ same. omega arith) in
    let second : eqb (suc (suc k)) 1 ≡ false = ne_eqb (suc (suc k)) 1 (λ same. omega arith) in
    let of_receiver = linking_rows (end.Parameter 0) in
    let of_second = linking_rows (end.Parameter 1) in
    let rows : linking_rows (end.Parameter (suc (suc k))) ≡ [] =
    ap (λ b. cond b of_receiver (cond (eqb (suc (suc k)) 1) of_second [])) first ∙ ap (λ b. cond b of_second []) second in
    false≢true (sym (ap (λ list. is_one_of list row) rows) ∙ is)

-- only getClass links what all methods hold, and it links no parameter
only_get_class : (row : ℕ) → is_one_of (linking_rows end.Global) row ≡ true → row ≡ get_class_row
only_get_class row is =
    ⊎_elim (λ same. sym (eqb-true get_class_row row same)) (λ none. absurd (false≢true none)) (or_cases (eqb get_class_row row) false is)

no_get_class : (k : ℕ) → is_one_of (linking_rows (end.Parameter k)) get_class_row ≡ true → ⊥
no_get_class zero is = false≢true is
no_get_class (suc zero) is = false≢true is
no_get_class (suc (suc k)) is = no_rows k get_class_row is

no_parameter : (row : ℕ) → is_one_of (linking_rows end.Global) row ≡ true → (k : ℕ) → is_one_of (linking_rows (end.Parameter k)) row ≡ true → ⊥
no_parameter row here k there = no_get_class k (subst (λ n. is_one_of (linking_rows (end.Parameter k)) n ≡ true) (only_get_class row here) there)

-- two ends that a row links, by the code
both_linked : (row : ℕ) (a b : End2) → is_one_of (linking_rows a) row ≡ true → is_one_of (linking_rows b) row ≡ true → (a ≡ b) ⊎ IsNativeLink row a b
both_linked row end.Return end.Return first second = inl refl
both_linked row end.Return (end.Parameter zero) first second = inr (native_back row (end.Parameter 0) end.Return (tells (end.Parameter 0) end.Return row rows_of_result second first))
both_linked row end.Return (end.Parameter (suc zero)) first second = inr (tells end.Return (end.Parameter 1) row rows_of_second first second)
both_linked row end.Return (end.Parameter (suc (suc k))) first second = absurd (no_rows k row second)
both_linked row end.Return end.Global first second = inr (tells end.Return end.Global row rows_of_global first second)
both_linked row (end.Parameter zero) end.Return first second = inr (tells (end.Parameter 0) end.Return row rows_of_result first second)
both_linked row (end.Parameter zero) (end.Parameter zero) first second = inl refl
both_linked row (end.Parameter zero) (end.Parameter (suc zero)) first second = inr (tells (end.Parameter 0) (end.Parameter 1) row rows_of_parameters first second)
both_linked row (end.Parameter zero) (end.Parameter (suc (suc k))) first second = absurd (no_rows k row second)
both_linked row (end.Parameter zero) end.Global first second = absurd (no_parameter row second 0 first)
both_linked row (end.Parameter (suc zero)) end.Return first second =
    inr (native_back row end.Return (end.Parameter 1) (tells end.Return (end.Parameter 1) row rows_of_second second first))
both_linked row (end.Parameter (suc zero)) (end.Parameter zero) first second =
    inr (native_back row (end.Parameter 0) (end.Parameter 1) (tells (end.Parameter 0) (end.Parameter 1) row rows_of_parameters second first))
both_linked row (end.Parameter (suc zero)) (end.Parameter (suc zero)) first second = inl refl
both_linked row (end.Parameter (suc zero)) (end.Parameter (suc (suc k))) first second = absurd (no_rows k row second)
both_linked row (end.Parameter (suc zero)) end.Global first second = absurd (no_parameter row second 1 first)
both_linked row (end.Parameter (suc (suc k))) b first second = absurd (no_rows k row first)
both_linked row end.Global end.Return first second = inr (native_back row end.Return end.Global (tells end.Return end.Global row rows_of_global second first))
both_linked row end.Global end.Global first second = inl refl
both_linked row end.Global (end.Parameter k) first second = absurd (no_parameter row first k second)

-- a native link is one by the code
linked_both : (row : ℕ) (a b : End2) → IsNativeLink row a b → (is_linked_by (Some row) a ≡ true) × (is_linked_by (Some row) b ≡ true)
linked_both row a b link =
    let test : End2 × End2 → Bool = λ pair. is_linked_by (Some row) pair.0 && is_linked_by (Some row) pair.1 in
    let all : list_all test link.links ≡ true =
    all_pass (λ (entry : ℕ × List (End2 × End2)). list_all (λ (pair : End2 × End2). is_linked_by (Some entry.0) pair.0 && is_linked_by (Some entry.0) pair.1) entry.1) native_links
    listed_rows (row, link.links) link.row_has in
    ⊎_elim
    (λ one. let both = all_pass test link.links all (a, b) one in
    (and_left (is_linked_by (Some row) a) (is_linked_by (Some row) b) both, and_right (is_linked_by (Some row) a) (is_linked_by (Some row) b) both))
    (λ other. let both = all_pass test link.links all (b, a) other in
    (and_right (is_linked_by (Some row) b) (is_linked_by (Some row) a) both, and_left (is_linked_by (Some row) b) (is_linked_by (Some row) a) both))
    link.among

-- ---- numbers of ends

own_above : (e : End2) → 0 < own_number e
own_above (end.Parameter k) = omega arith
own_above end.Return = omega arith
own_above end.Global = omega arith

own_one : (a b : End2) → own_number a ≡ own_number b → a ≡ b
own_one (end.Parameter k) (end.Parameter l) same = ap end.Parameter (omega arith)
own_one (end.Parameter k) end.Return same = absurd (omega arith)
own_one (end.Parameter k) end.Global same = absurd (omega arith)
own_one end.Return (end.Parameter l) same = absurd (omega arith)
own_one end.Return end.Return same = refl
own_one end.Return end.Global same = absurd (omega arith)
own_one end.Global (end.Parameter l) same = absurd (omega arith)
own_one end.Global end.Return same = absurd (omega arith)
own_one end.Global end.Global same = refl

linked_by_row : (row : Option ℕ) (a b : End2) → is_linked_by row a ≡ true → is_linked_by row b ≡ true → (a ≡ b) ⊎ IsSomeAnd row (λ r. IsNativeLink r a b)
linked_by_row None a b first second = absurd (false≢true first)
linked_by_row (Some row) a b first second = both_linked row a b first second

-- ends that have one number are one, or are linked by the row
same_entry : (row : Option ℕ) (a b : End2) → entry_number row a ≡ entry_number row b → (a ≡ b) ⊎ IsSomeAnd row (λ r. IsNativeLink r a b)
same_entry row a b same =
    (elim (is_linked_by row a) as (λ u. is_linked_by row a ≡ u → cond u 0 (own_number a) ≡ entry_number row b → (a ≡ b) ⊎ IsSomeAnd row (λ r. IsNativeLink r a b)) [
      | true ↦ (λ first.
          (elim (is_linked_by row b) as (λ v. is_linked_by row b ≡ v → 0 ≡ cond v 0 (own_number b) → (a ≡ b) ⊎ IsSomeAnd row (λ r. IsNativeLink r a b)) [
            | true ↦ (λ second same. linked_by_row row a b first second)
            | false ↦ (λ second same. absurd (let above = own_above b in omega arith))
          ]) refl)
      | false ↦ (λ first.
          (elim (is_linked_by row b) as (λ v. is_linked_by row b ≡ v → own_number a ≡ cond v 0 (own_number b) → (a ≡ b) ⊎ IsSomeAnd row (λ r. IsNativeLink r a b)) [
            | true ↦ (λ second same. absurd (let above = own_above a in omega arith))
            | false ↦ (λ second same. inl (own_one a b same))
          ]) refl)
    ]) refl same

linked_entry : (row : Option ℕ) (a b : End2) → IsSomeAnd row (λ r. IsNativeLink r a b) → entry_number row a ≡ entry_number row b
linked_entry None a b linked = absurd linked
linked_entry (Some row) a b linked =
    let both = linked_both row a b linked in
    ap (λ u. cond u 0 (own_number a)) both.0 ∙ sym (ap (λ u. cond u 0 (own_number b)) both.1)

-- ---- which are ends

abbrev object_slots : Outline → ℕ → List Slot
object_slots o method = slot.Ref (type_of_class (this_class o method)) ∷ []

-- the receiver of a method that isn't static
abbrev receiver : Outline → ℕ → List Slot
receiver o method = cond (is_constructor o method) (slot.UninitThis ∷ []) (object_slots o method)

-- as far as references go, the words are those of the method's start
same_references : (p : Program) (method : ℕ) → map is_reference (entry_words (method_info p method)) ≡ map is_reference (entry_slots p.outline method)
unfolding method_info
same_references p method =
    let rest = flat_map local_slots (parameters_of p.outline method) in
    elim (is_static (method_at p.outline.classes method).method.flags) as
    (λ static. map is_reference ((cond static [] (slot.UninitThis ∷ [])) ++ rest) ≡ map is_reference ((cond static [] (receiver p.outline method)) ++ rest)) [
      | true ↦ refl
      | false ↦ elim (is_constructor p.outline method) as
          (λ constructs. map is_reference (slot.UninitThis ∷ [] ++ rest) ≡ map is_reference ((cond constructs (slot.UninitThis ∷ []) (object_slots p.outline method)) ++ rest)) [
            | true ↦ refl
            | false ↦ refl
          ]
    ]

-- a word that is a reference, in both lists
reference_at : (words slots : List Slot) → map is_reference words ≡ map is_reference slots → (k : ℕ) →
    (is_reference (get_or words k slot.Top) ≡ true) ↔ IsSomeAnd (slice_get slots k) (λ s. is_reference s ≡ true)
reference_at [] [] same k = (λ is. absurd (false≢true is), λ none. absurd none)
reference_at [] (s ∷ slots) same k = absurd cc
reference_at (w ∷ words) [] same k = absurd cc
reference_at (w ∷ words) (s ∷ slots) same zero =
    let first : is_reference w ≡ is_reference s = ap (λ list. get_or list 0 false) same in (λ is. sym first ∙ is, λ is. first ∙ is)
reference_at (w ∷ words) (s ∷ slots) same (suc k) = reference_at words slots (ap (drop 1) same) k

result_is : (o : Option Kind) (e : End2) → Contains (result_end o) e → (e ≡ end.Return) × IsSomeAnd o (λ k. is_reference_kind k ≡ true)
result_is None e found = absurd (Contains-none e found)
result_is (Some k) e found =
    (elim (is_reference_kind k) as (λ b. is_reference_kind k ≡ b → Contains (cond b (end.Return ∷ []) []) e → (e ≡ end.Return) × (is_reference_kind k ≡ true)) [
      | true ↦ (λ is found. (Contains-one end.Return e found, is))
      | false ↦ (λ is found. absurd (Contains-none e found))
    ]) refl found

result_from : (o : Option Kind) → IsSomeAnd o (λ k. is_reference_kind k ≡ true) → Contains (result_end o) end.Return
result_from None none = absurd none
result_from (Some k) is = subst (λ b. Contains (cond b (end.Return ∷ []) []) end.Return) (sym is) (Contains-first end.Return [])

parameter_is : (words : List Slot) (k : ℕ) (e : End2) → Contains (parameter_end words k) e → (e ≡ end.Parameter k) × (is_reference (get_or words k slot.Top) ≡ true)
parameter_is words k e found =
    (elim (is_reference (get_or words k slot.Top)) as
    (λ b. is_reference (get_or words k slot.Top) ≡ b → Contains (cond b (end.Parameter k ∷ []) []) e → (e ≡ end.Parameter k) × (is_reference (get_or words k slot.Top) ≡ true)) [
      | true ↦ (λ is found. (Contains-one (end.Parameter k) e found, is))
      | false ↦ (λ is found. absurd (Contains-none e found))
    ]) refl found

-- a word that is a reference is there
reference_inside : (words : List Slot) (k : ℕ) → is_reference (get_or words k slot.Top) ≡ true → k < length words
reference_inside [] k is = absurd (false≢true is)
reference_inside (w ∷ words) zero is = omega arith
reference_inside (w ∷ words) (suc k) is = let rest = reference_inside words k is in omega arith

parameter_from : (words : List Slot) (k : ℕ) → is_reference (get_or words k slot.Top) ≡ true → Contains (parameter_ends words) (end.Parameter k)
parameter_from words k is =
    Contains-flat_map (parameter_end words) (range_with_len 0 (length words)) k (end.Parameter k)
    (Contains-range 0 (length words) k (omega arith) (let inside = reference_inside words k is in omega arith))
    (subst (λ b. Contains (cond b (end.Parameter k ∷ []) []) (end.Parameter k)) (sym is) (Contains-first (end.Parameter k) []))

-- the ends that are listed are those of the method
listed_is_end : (p : Program) (method : ℕ) (e : End2) → Contains (bare_ends (method_info p method)) e → IsEnd p.outline method e
unfolding method_info
listed_is_end p method e found =
    let m = method_info p method in
    let words = entry_words m in
    ⊎_elim
    (λ front.
    ⊎_elim
    (λ parameter.
    let at = Contains-from_flat_map (parameter_end words) (range_with_len 0 (length words)) e parameter in
    let is = parameter_is words at.0 e at.2 in
    subst (IsEnd p.outline method) (sym is.0) ((reference_at words (entry_slots p.outline method) (same_references p method) at.0).0 is.1))
    (λ result. let is = result_is (result_of p.outline method) e result in subst (IsEnd p.outline method) (sym is.0) is.1)
    (Contains-append_cases (parameter_ends words) (result_end m.result) e front))
    (λ global. subst (IsEnd p.outline method) (sym (Contains-one end.Global e global)) tt)
    (Contains-append_cases (parameter_ends words ++ result_end m.result) (end.Global ∷ []) e found)

end_is_listed : (p : Program) (method : ℕ) (e : End2) → IsEnd p.outline method e → Contains (bare_ends (method_info p method)) e
unfolding method_info
end_is_listed p method (end.Parameter k) is =
    let m = method_info p method in
    let words = entry_words m in
    Contains-append_left (parameter_ends words ++ result_end m.result) (end.Global ∷ []) (end.Parameter k)
    (Contains-append_left (parameter_ends words) (result_end m.result) (end.Parameter k)
    (parameter_from words k ((reference_at words (entry_slots p.outline method) (same_references p method) k).1 is)))
end_is_listed p method end.Return is =
    let m = method_info p method in
    let words = entry_words m in
    Contains-append_left (parameter_ends words ++ result_end m.result) (end.Global ∷ []) end.Return
    (Contains-append_right (parameter_ends words) (result_end m.result) end.Return (result_from (result_of p.outline method) is))
end_is_listed p method end.Global is =
    let m = method_info p method in
    let words = entry_words m in
    Contains-append_right (parameter_ends words ++ result_end m.result) (end.Global ∷ []) end.Global (Contains-first end.Global [])

-- ---- the shape of a method that has no code

by_row : (m : DeclaredMethod) (row : ℕ) (code : Option Code) → m.row ≡ Some row → row_in (body_of m code) ≡ Some row
by_row m row code is = ap (λ r. row_in (body_of (record m { row = r }) code)) is

by_none : (m : DeclaredMethod) (code : Option Code) → m.row ≡ None → code ≡ None → row_in (body_of m code) ≡ None
by_none m code is none = (λ k. row_in (body_of (record m { row = is k }) (none k)))

row_of_bare : (p : Program) (method : ℕ) → code_at p method ≡ None → row_in (method_info p method).body ≡ (method_at p.outline.classes method).method.row
unfolding method_info
row_of_bare p method none =
    let m = (method_at p.outline.classes method).method in
    (elim m.row as (λ row. m.row ≡ row → row_in (body_of m (code_at p method)) ≡ row) [
      | Some row ↦ (λ is. by_row m row (code_at p method) is)
      | None ↦ (λ is. by_none m (code_at p method) is none)
    ]) refl

entry_is : (m : MethodInfo) (e : End2) (n : ℕ) → Contains (bare_entries m) (e, n) ↔ (Contains (bare_ends m) e × (n ≡ entry_number (row_in m.body) e))
entry_is m e n = (
  λ found.
      let was = Contains-from_map (λ e. (e, entry_number (row_in m.body) e)) (bare_ends m) (e, n) found in
      let same : was.0 ≡ e = ap (λ (v : End2 × ℕ). v.0) was.2 in
      (subst (λ v. Contains (bare_ends m) v) same was.1, sym (ap (λ (v : End2 × ℕ). v.1) was.2) ∙ ap (entry_number (row_in m.body)) same),
  λ is.
      subst (λ k. Contains (bare_entries m) (e, k)) (sym is.1) (Contains-map (λ e. (e, entry_number (row_in m.body) e)) (bare_ends m) e is.0),
)

pub bare_is : (p : Program) (method : ℕ) → code_at p method ≡ None → IsBare p method (record { ends = bare_entries (method_info p method); calls = [] })
bare_is p method none =
    let m = method_info p method in
    let row = row_in m.body in
    let P : End2 → ℕ → Type 0 = λ e n. Contains (bare_ends m) e × (n ≡ entry_number row e) in
    let number : (e : End2) → IsEnd p.outline method e → end_number (bare_entries m) e ≡ Some (entry_number row e) = λ e is.
    number_is (bare_entries m) P (entry_is m) e (entry_number row e) (λ k p. p.1) (end_is_listed p method e is, refl) in
    record {
      calls = refl;
      ends = λ e n found. listed_is_end p method e ((entry_is m e n).0 found).0;
      linked = λ a b first second either.
          let same : entry_number row b ≡ entry_number row a =
          ⊎_elim (λ (is : a ≡ b). ap (entry_number row) (sym is))
          (λ native.
          sym (linked_entry row a b (subst (λ r. IsSomeAnd r (λ n. IsNativeLink n a b)) (sym (row_of_bare p method none)) native)))
          either in
          links-from (bare_entries m) a b (entry_number row a) (number a first) (number b second ∙ ap Some same);
      no_more = λ a b linked.
          let found = links-is (bare_entries m) a b linked in
          let first = ((entry_is m a found.0).0 (end_number-listed (bare_entries m) a found.0 found.1)).1 in
          let second = ((entry_is m b found.0).0 (end_number-listed (bare_entries m) b found.0 found.2)).1 in
          ⊎_elim (λ same. inl same)
          (λ native. inr (subst (λ r. IsSomeAnd r (λ n. IsNativeLink n a b)) (row_of_bare p method none) native))
          (same_entry row a b (sym first ∙ second));
    }
