-- A method whose result may not be old: the row of a built-in one gives what it made, and the result of a coded one has a region of its own.
use Rattle.std.proofs.Common.{◌≡◌, ◌⊎◌, ℕ, zero, suc, ◌+◌, ◌<◌, ◌==◌, ◌&&◌, ◌||◌, not, Bool, true, false, List, [], ◌∷◌, length, Some, Contains, refl, sym, ◌∙◌, ap, subst, inl, inr, slice_get, slice_index_or, arith, eqb-true, ⊎_elim}
use Rattle.std.specs.List.{list_any, range_with_len}
use Rattle.std.proofs.lemmas.Bool.{and_parts, cases_Bool, false≢true, or_cases, or_left, or_right}
use Rattle.std.proofs.lemmas.Option.{get_or_from_slice_get, same_Some, slice_get_within}
use Rattle.fm_base.proofs.ContainsFacts.{any-found}
use Rattle.fm_base.proofs.OptionFacts.{IsSomeAnd-from_some, Some-from_some_and}
use Rattle.fm_code.proofs.EdgesLemmas.{Contains-filter}
use Rattle.fm_code.specs.declared.code_array.Code.{Code}
use Rattle.fm_conn.proofs.ListLemmas.{Contains-range}
use Rattle.fm_conn.specs.Facts.{AreFacts, Facts}
use Rattle.fm_conn.specs.Links.{IsNativeLink, Linked, LinkedIn, native_links}
use Rattle.fm_conn.specs.Nodes.{Return}
use Rattle.fm_conn.specs.Pairs.{IsEnd}
use Rattle.fm_conn.specs.declared.ends.End2.{End2}
use Rattle.fm_conn.specs.declared.ends.End2.TheVariants as end
use Rattle.fm_types.specs.States.{is_reference}
use Rattle.fm_types.specs.Typed.{entry_slots}
use Rattle.fm_types.specs.declared.slots.Slot.TheVariants as slot
use Rattle.fm_world.specs.BuiltIns.{built_in}
use Rattle.fm_world.specs.Chains.{chain_of}
use Rattle.fm_world.specs.Members.{method_at, methods_of}
use Rattle.fm_world.specs.Programs.{code_at, Outline, Program}
use Rattle.fm_frames.specs.Natives.{native_of_row, natives}
use Rattle.fm_frames.specs.declared.natives.Native.{Native}
use Rattle.fm_frames.specs.declared.natives.Native.TheVariants.{Append, FreeMeLink, GetMessage, ObjectGetClass, StringToString}
use Rattle.fm_frames.specs.States.{Frame}
use Rattle.fm_place.proofs.PlaceLemmas.{any-from}
use Rattle.fm_place.specs.Sites.{may_give_old, reference_parameters}
use Rattle.fm_same.proofs.LinkedClasses.{linked_if_same_class}
use Rattle.fm_same.proofs.RegionLemmas.{Sort, sort_of, WithGlobal, WithNeither, WithParameter}
use Rattle.fm_same.specs.Covering.{NativeEnds}
use Rattle.fm_same.specs.Regions.{Own, region}
use Rattle.fm_law_holders.proofs.SiteEffects.{gives_operand}

-- ---- the rows that give an operand, or what lives for ever, are listed among the links, by computation over all of them

abbrev is_return : End2 → Bool
is_return end.Return = true
is_return e = false

abbrev is_receiver : End2 → Bool
is_receiver (end.Parameter k) = k == 0
is_receiver e = false

abbrev is_global : End2 → Bool
is_global end.Global = true
is_global e = false

-- the receiver, or what all methods hold
abbrev is_old : End2 → Bool
is_old e = is_receiver e || is_global e

abbrev gives_old : End2 × End2 → Bool
gives_old link = is_return link.0 && is_old link.1

abbrev is_listed : ℕ → ℕ × List (End2 × End2) → Bool
is_listed row entry = (entry.0 == row) && list_any gives_old entry.1

abbrev all_listed : ℕ → List Native → Bool
all_listed k [] = true
all_listed k (row ∷ rows) = (not (gives_operand row) || list_any (is_listed k) native_links) && all_listed (suc k) rows

table_listed : all_listed 0 natives ≡ true
unfolding native_links built_in methods_of chain_of
table_listed = refl

listed_at : (k : ℕ) (rows : List Native) (n : ℕ) (row : Native) → all_listed k rows ≡ true → slice_get rows n ≡ Some row → gives_operand row ≡ true
    → list_any (is_listed (k + n)) native_links ≡ true
listed_at k [] n row all at is = absurd (cc)
listed_at k (first ∷ rows) zero row all at is =
    let parts = and_parts (not (gives_operand first) || list_any (is_listed k) native_links) (all_listed (suc k) rows) all in
    let here : k + 0 ≡ k = omega arith in
    ap (λ i. list_any (is_listed i) native_links) here
    ∙ sym (ap (λ operand. not operand || list_any (is_listed k) native_links) (ap gives_operand (same_Some first row at) ∙ is)) ∙ parts.0
listed_at k (first ∷ rows) (suc n) row all at is =
    let parts = and_parts (not (gives_operand first) || list_any (is_listed k) native_links) (all_listed (suc k) rows) all in
    let there : k + suc n ≡ suc k + n = omega arith in
    ap (λ i. list_any (is_listed i) native_links) there ∙ listed_at (suc k) rows n row parts.1 at is

return_is : (e : End2) → is_return e ≡ true → e ≡ end.Return
return_is end.Return is = refl
return_is e is = absurd (false≢true is)

receiver_is : (e : End2) → is_receiver e ≡ true → e ≡ end.Parameter 0
receiver_is (end.Parameter k) is = ap end.Parameter (eqb-true k 0 is)
receiver_is e is = absurd (false≢true is)

global_is : (e : End2) → is_global e ≡ true → e ≡ end.Global
global_is end.Global is = refl
global_is e is = absurd (false≢true is)

old_is : (e : End2) → is_old e ≡ true → (e ≡ end.Parameter 0) ⊎ (e ≡ end.Global)
old_is e is = ⊎_elim (λ receiver. inl (receiver_is e receiver)) (λ global. inr (global_is e global)) (or_cases (is_receiver e) (is_global e) is)

-- such a row links its result with its receiver, or with what all methods hold
old_link : (number : ℕ) (row : Native) → native_of_row number ≡ Some row → gives_operand row ≡ true
    → IsNativeLink number end.Return (end.Parameter 0) ⊎ IsNativeLink number end.Return end.Global
old_link number row at is =
    let first : 0 + number ≡ number = omega arith in
    let listed : list_any (is_listed number) native_links ≡ true =
    ap (λ i. list_any (is_listed i) native_links) (sym first) ∙ listed_at 0 natives number row table_listed at is in
    let entry = any-found (is_listed number) native_links listed in
    let parts = and_parts (entry.0.0 == number) (list_any gives_old entry.0.1) entry.2 in
    let link = any-found gives_old entry.0.1 parts.1 in
    let ends = and_parts (is_return link.0.0) (is_old link.0.1) link.2 in
    let first_end : link.0.0 ≡ end.Return = return_is link.0.0 ends.0 in
    let linked : (other : End2) → link.0.1 ≡ other → IsNativeLink number end.Return other = λ other second_end. record {
      links = entry.0.1;
      row_has = subst (λ n. Contains native_links (n, entry.0.1)) (eqb-true entry.0.0 number parts.0) entry.1;
      among = inl (subst (λ e. Contains entry.0.1 (e, other)) first_end (subst (λ e. Contains entry.0.1 (link.0.0, e)) second_end link.1));
    } in
    ⊎_elim (λ receiver. inl (linked (end.Parameter 0) receiver)) (λ global. inr (linked end.Global global)) (old_is link.0.1 ends.1)

ends_of : (o : Outline) (method : ℕ) (row : Native) → gives_operand row ≡ true → NativeEnds o method row
    → IsEnd o method end.Return × IsEnd o method (end.Parameter 0)
ends_of o method StringToString is ends = ends
ends_of o method (Append shown) is ends = ends
ends_of o method GetMessage is ends = ends
ends_of o method ObjectGetClass is ends = ends
ends_of o method FreeMeLink is ends = absurd ends
ends_of o method row is ends = absurd (false≢true is)

-- ---- a result that is linked may be old

module _ (p : Program) (facts : Facts) (exact : AreFacts p facts) (target : ℕ) where
  abbrev old : Bool
  old = may_give_old p.outline facts target

  parameter_there : (k : ℕ) → IsEnd p.outline target (end.Parameter k) → Contains (reference_parameters p.outline target) k
  parameter_there k ended =
      let slots = entry_slots p.outline target in
      let found = Some-from_some_and (slice_get slots k) (λ s. is_reference s ≡ true) ended in
      let inside : k < length slots = slice_get_within slots k found.0 found.1 in
      Contains-filter (λ i. is_reference (slice_index_or slots i slot.Top)) (range_with_len 0 (length slots)) k
      (Contains-range 0 (length slots) k (omega arith) (omega (arith, inside)))
      (ap is_reference (get_or_from_slice_get slots k found.0 slot.Top found.1) ∙ found.2)

  parameter_old : (k : ℕ) → IsEnd p.outline target end.Return → IsEnd p.outline target (end.Parameter k)
      → Linked p facts.typing target end.Return (end.Parameter k) → old ≡ true
  parameter_old k result parameter linked =
      or_right (facts.linked target end.Return end.Global) _
      (any-from (λ i. facts.linked target end.Return (end.Parameter i)) (reference_parameters p.outline target) k (parameter_there k parameter)
      ((exact.linked target end.Return (end.Parameter k) result parameter).1 linked))

  global_old : IsEnd p.outline target end.Return → Linked p facts.typing target end.Return end.Global → old ≡ true
  global_old result linked =
      or_left (facts.linked target end.Return end.Global) _ ((exact.linked target end.Return end.Global result tt).1 linked)

  module _ (not_old : old ≡ true → ⊥) where
    -- the row of a built-in method gives no operand, and nothing that lives for ever
    pub row_gives_new : (row : Native) (number : ℕ) → (method_at p.outline.classes target).method.row ≡ Some number → native_of_row number ≡ Some row
        → NativeEnds p.outline target row → gives_operand row ≡ false
    unfolding LinkedIn
    row_gives_new row number number_is row_is ends = ⊎_elim
        (λ operand.
        let both = ends_of p.outline target row operand ends in
        absurd (not_old (⊎_elim
        (λ link. parameter_old 0 both.0 both.1 (
          0,
          inr (IsSomeAnd-from_some (method_at p.outline.classes target).method.row (λ n. IsNativeLink n end.Return (end.Parameter 0)) number number_is link),
        ))
        (λ link. global_old both.0 (
          0,
          inr (IsSomeAnd-from_some (method_at p.outline.classes target).method.row (λ n. IsNativeLink n end.Return end.Global) number number_is link),
        ))
        (old_link number row row_is operand))))
        (λ new. new)
        (cases_Bool (gives_operand row))

    -- the class of the result of a method that has code has a region of its own
    pub result_is_own : (code : Code) → code_at p target ≡ Some code → IsEnd p.outline target end.Return → (callers : List Frame)
        → region p.outline facts target callers (facts.class target Return) ≡ Own (length callers) (facts.class target Return)
    result_is_own code code_is result callers = by_sort (sort_of p.outline facts target callers (facts.class target Return)) where
      by_sort : Sort p.outline facts target callers (facts.class target Return)
          → region p.outline facts target callers (facts.class target Return) ≡ Own (length callers) (facts.class target Return)
      by_sort (WithGlobal same is) =
          absurd (not_old (global_old result (linked_if_same_class p facts exact target code end.Return end.Global code_is (sym same))))
      by_sort (WithParameter k ended same is) =
          absurd (not_old (parameter_old k result ended (linked_if_same_class p facts exact target code end.Return (end.Parameter k) code_is (sym same))))
      by_sort (WithNeither apart none is) = is
