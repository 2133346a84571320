-- How runs are laid: entries that are put at the first and the last of their runs level by level are at a run of each item that they hold.
use Rattle.std.proofs.Common.{◌≡◌, ◌≢◌, refl, sym, ◌∙◌, ap, inl, inr, ◌⊎◌, ⊎_elim, ℕ, zero, suc, ◌+◌, ◌-◌, ◌*◌, ◌/◌, ◌%◌, ◌<◌, ◌≤◌, List, [], ◌∷◌, ◌++◌, length, map, take, get_or, set, All, None, Contains, subst, arith, length-append}
use Rattle.std.specs.Prelude.{Err, IfOk, Ok, OnOk, Result}
use Rattle.std.proofs.Math.Nat.{div-add-mod, mod-lt}
use Rattle.std.proofs.lemmas.Bool.{cases_eq, cases_lt}
use Rattle.std.proofs.lemmas.List.{get_or-map, get_or_past, length-map, map-append, take_more}
use Rattle.std.proofs.lemmas.List.Elements.{All-contains, Contains-push, Contains-push_cases, Contains-append_left}
use Rattle.std.proofs.Math.ListN.{get_or-append}
use Rattle.std.proofs.Math.Seq.{get_or-append_seam}
use Rattle.fm_base.proofs.ContainsFacts.{Contains-none}
use Rattle.fm_check_handlers.specs.declared.runs.Level.{Level}
use Rattle.fm_check_handlers.specs.declared.runs.Run.{Run}
use Rattle.fm_check_handlers.specs.declared.runs.Span.{Span}
use Rattle.fm_check_handlers.specs.inner.Runs.{AreFresh, AreMore, entries_at, entries_in, entries_of, halved, Holds, IsLaid, IsLaidSoFar, IsMade, IsMet, IsNoted, IsOneMore, IsPut, IsShort, IsSpanned, Puts, shape, span_of, Spans, spans_of, wider}
use Rattle.fm_code.proofs.EdgesLemmas.{Contains-from_map, Contains-map}
use Rattle.fm_code.specs.declared.code_array.Handler.{Handler}
use Rattle.fm_flow.proofs.HandlerLemmas.{blank}

-- what a call leaves where it returns Ok
pub on_ok : {T E : Type 0} (A B : Type 0) (r : Result T E) → (A → B) → OnOk r A → OnOk r B
on_ok A B (Ok x) f h = f h
on_ok A B (Err e) f h = tt

-- the same of what it returns
pub if_ok : {T E : Type 0} (A B : T → Type 0) (r : Result T E) → ((x : T) → A x → B x) → IfOk r A → IfOk r B
if_ok A B (Ok x) f h = f x h
if_ok A B (Err e) f h = tt

-- ---- runs with more entries

-- an element of a list of which one was set
pub Contains-set_cases : {X : Type 0} (xs : List X) (k : ℕ) (y x : X) → Contains (set xs k y) x → (y ≡ x) ⊎ Contains xs x
Contains-set_cases [] k y x found = inr found
Contains-set_cases (z ∷ xs) zero y x (zero, inside, there) = inl there
Contains-set_cases (z ∷ xs) zero y x (suc n, inside, there) = inr (suc n, inside, there)
Contains-set_cases (z ∷ xs) (suc k) y x (zero, inside, there) = inr (0, omega arith, there)
Contains-set_cases (z ∷ xs) (suc k) y x (suc n, inside, there) =
    ⊎_elim (λ (same : y ≡ x). inl same)
    (λ (other : Contains xs x). let within = other.1 in inr (suc other.0, omega (arith, within), other.2))
    (Contains-set_cases xs k y x (n, omega arith, there))

pub more-none : (P : ℕ → Handler → Type 0) (runs : List Run) → AreMore P runs runs
more-none P runs = record { still = λ place h found. found; only = λ place h found. inl found; fresh = λ fresh. fresh }

pub more-then : (P Q R : ℕ → Handler → Type 0) (a b c : List Run) → ((place : ℕ) (h : Handler) → P place h → R place h)
    → ((place : ℕ) (h : Handler) → Q place h → R place h) → AreMore P a b → AreMore Q b c → AreMore R a c
more-then P Q R a b c first second early late = record {
  still = λ place h found. late.still place h (early.still place h found);
  only = λ place h found.
      ⊎_elim (λ (before : Contains (entries_in b place) h).
      ⊎_elim (λ (was : Contains (entries_in a place) h). inl was) (λ (p : P place h). inr (first place h p)) (early.only place h before))
      (λ (q : Q place h). inr (second place h q)) (late.only place h found);
  fresh = λ fresh. late.fresh (early.fresh fresh);
}

-- a run without entries is put behind the others
pushed_entries : (runs : List Run) (run : Run) (place : ℕ) → run.entries.items ≡ [] → entries_in (runs ++ run ∷ []) place ≡ entries_in runs place
pushed_entries [] run zero none = none
pushed_entries [] run (suc place) none = refl
pushed_entries (r ∷ runs) run zero none = refl
pushed_entries (r ∷ runs) run (suc place) none = pushed_entries runs run place none

pub more-pushed : (runs : List Run) (run : Run) → run.entries.items ≡ [] → run.given ≡ None → AreMore (λ place h. ⊥) runs (runs ++ run ∷ [])
more-pushed runs run none fresh = record {
  still = λ place h found. subst (λ (es : List Handler). Contains es h) (sym (pushed_entries runs run place none)) found;
  only = λ place h found. inl (subst (λ (es : List Handler). Contains es h) (pushed_entries runs run place none) found);
  fresh = λ were r found.
      ⊎_elim (λ (old : Contains runs r). were r old) (λ (same : run ≡ r). ap (λ (x : Run). x.given) (sym same) ∙ fresh) (Contains-push_cases runs run r found);
}

-- one entry is put behind those of a run
set_entries : (runs : List Run) (place other : ℕ) (run : Run) → place < length runs
    → ((other ≡ place) × (entries_in (set runs place run) other ≡ run.entries.items)) ⊎ ((other ≢ place) × (entries_in (set runs place run) other ≡ entries_in runs other))
set_entries [] place other run inside = absurd (omega arith)
set_entries (r ∷ runs) zero zero run inside = inl (refl, refl)
set_entries (r ∷ runs) zero (suc other) run inside = inr (λ e. omega (arith, e), refl)
set_entries (r ∷ runs) (suc place) zero run inside = inr (λ e. omega (arith, e), refl)
set_entries (r ∷ runs) (suc place) (suc other) run inside =
    ⊎_elim
    (λ (same : (other ≡ place) × (entries_in (set runs place run) other ≡ run.entries.items)). inl (ap suc same.0, same.1))
    (λ (apart : (other ≢ place) × (entries_in (set runs place run) other ≡ entries_in runs other)).
    let before = apart.0 in inr (λ e. before (omega (arith, e)), apart.1))
    (set_entries runs place other run (omega arith))

-- the entries of the run that was there
pub got_entries : (runs : List Run) (place : ℕ) (d : Run) → place < length runs → (get_or runs place d).entries.items ≡ entries_in runs place
got_entries [] place d inside = absurd (omega arith)
got_entries (r ∷ runs) zero d inside = refl
got_entries (r ∷ runs) (suc place) d inside = got_entries runs place d (omega arith)

pub one_more : (runs : List Run) (place : ℕ) (entry : Handler) (run : Run) → place < length runs
    → run.entries.items ≡ entries_in runs place ++ entry ∷ [] → (AreFresh runs → run.given ≡ None)
    → IsOneMore place entry runs (set runs place run)
one_more runs place entry run inside is fresh = record {
  more = record {
    still = λ other h found.
        ⊎_elim
        (λ (here : (other ≡ place) × (entries_in (set runs place run) other ≡ run.entries.items)).
        let was : Contains (entries_in runs place) h = subst (λ (n : ℕ). Contains (entries_in runs n) h) here.0 found in
        subst (λ (es : List Handler). Contains es h) (sym (here.1 ∙ is)) (Contains-append_left (entries_in runs place) (entry ∷ []) h was))
        (λ (apart : (other ≢ place) × (entries_in (set runs place run) other ≡ entries_in runs other)).
        subst (λ (es : List Handler). Contains es h) (sym apart.1) found)
        (set_entries runs place other run inside);
    only = λ other h found.
        ⊎_elim
        (λ (here : (other ≡ place) × (entries_in (set runs place run) other ≡ run.entries.items)).
        ⊎_elim (λ (was : Contains (entries_in runs place) h). inl (subst (λ (n : ℕ). Contains (entries_in runs n) h) (sym here.0) was))
        (λ (same : entry ≡ h). inr (here.0, same))
        (Contains-push_cases (entries_in runs place) entry h (subst (λ (es : List Handler). Contains es h) (here.1 ∙ is) found)))
        (λ (apart : (other ≢ place) × (entries_in (set runs place run) other ≡ entries_in runs other)).
        inl (subst (λ (es : List Handler). Contains es h) apart.1 found))
        (set_entries runs place other run inside);
    fresh = λ were r found.
        ⊎_elim (λ (same : run ≡ r). ap (λ (x : Run). x.given) (sym same) ∙ fresh were) (λ (old : Contains runs r). were r old)
        (Contains-set_cases runs place run r found);
  };
  there =
      ⊎_elim
      (λ (here : (place ≡ place) × (entries_in (set runs place run) place ≡ run.entries.items)).
      subst (λ (es : List Handler). Contains es entry) (sym (here.1 ∙ is)) (Contains-push (entries_in runs place) entry))
      (λ (apart : (place ≢ place) × (entries_in (set runs place run) place ≡ entries_in runs place)). absurd (apart.0 refl))
      (set_entries runs place place run inside);
}

-- a run was made, and then one entry put there
pub IsOneMore-made : (place : ℕ) (entry : Handler) (a b c : List Run) → IsMade place a b → IsOneMore place entry b c → IsOneMore place entry a c
IsOneMore-made place entry a b c made one = record {
  more = more-then (λ other h. ⊥) (λ other h. (other ≡ place) × (entry ≡ h)) (λ other h. (other ≡ place) × (entry ≡ h)) a b c
      (λ other h never. absurd never) (λ other h same. same) made.more one.more;
  there = one.there;
}

-- the run that is read
pub read_run : (runs : List Run) (place : ℕ) (read d : Run) → place < length runs → read ≡ get_or runs place d → read.entries.items ≡ entries_in runs place
read_run runs place read d inside is = ap (λ (x : Run). x.entries.items) is ∙ got_entries runs place d inside

pub read_fresh : (runs : List Run) (place : ℕ) (read d : Run) → place < length runs → read ≡ get_or runs place d → AreFresh runs → read.given ≡ None
read_fresh runs place read d inside is fresh =
    fresh read (place, inside, got runs place d inside ∙ sym is) where
      got : (runs : List Run) (place : ℕ) (d : Run) → place < length runs → get_or runs place read ≡ get_or runs place d
      got [] place d inside = absurd (omega arith)
      got (r ∷ runs) zero d inside = refl
      got (r ∷ runs) (suc place) d inside = got runs place d (omega arith)

-- ---- spans

pub Puts-none : (span : Span) (runs : List Run) → span.end ≤ span.first → Puts span runs runs
Puts-none span runs none = record {
  more = more-none (λ place h. (span.entry ≡ h) × Spans place span) runs;
  put = record { first = λ some. absurd (omega arith); last = λ some. absurd (omega arith) };
}

pub Puts-both : (span : Span) (a b c : List Run) → span.first < span.end → IsOneMore span.first span.entry a b
    → IsOneMore (span.end - 1) span.entry b c → Puts span a c
Puts-both span a b c some first last = record {
  more = more-then (λ other h. (other ≡ span.first) × (span.entry ≡ h)) (λ other h. (other ≡ span.end - 1) × (span.entry ≡ h))
      (λ other h. (span.entry ≡ h) × Spans other span) a b c
      (λ other h at. (at.1, record { after_first = let same = at.0 in omega (arith, same); before_end = let same = at.0 in omega (arith, same, some) }))
      (λ other h at. (at.1, record { after_first = let same = at.0 in omega (arith, same, some); before_end = let same = at.0 in omega (arith, same, some) }))
      first.more last.more;
  put = record { first = λ some. last.more.still span.first span.entry first.there; last = λ some. last.there };
}

pub IsNoted-none : IsNoted [] []
IsNoted-none = record {
  put = λ span found. absurd (Contains-none span found);
  only = λ place h found. absurd (Contains-none h found);
  fresh = λ run found. absurd (Contains-none run found);
}

put_later : (P : ℕ → Handler → Type 0) (span : Span) (a b : List Run) → AreMore P a b → IsPut span a → IsPut span b
put_later P span a b more put = record {
  first = λ some. more.still span.first span.entry (put.first some);
  last = λ some. more.still (span.end - 1) span.entry (put.last some);
}

pub IsNoted-more : (spans : List Span) (k : ℕ) (d : Span) (a b : List Run) → k < length spans → IsNoted (take k spans) a → Puts (get_or spans k d) a b
    → IsNoted (take (k + 1) spans) b
IsNoted-more spans k d a b inside noted puts = subst (λ (xs : List Span). IsNoted xs b) (sym (take_more spans k d inside)) (record {
  put = λ span found.
      ⊎_elim (λ (old : Contains (take k spans) span). put_later (λ place h. (this.entry ≡ h) × Spans place this) span a b puts.more (noted.put span old))
      (λ (same : this ≡ span). subst (λ (x : Span). IsPut x b) same puts.put)
      (Contains-push_cases (take k spans) this span found);
  only = λ place h found.
      ⊎_elim
      (λ (old : Contains (entries_in a place) h).
      let was = noted.only place h old in (was.0, Contains-append_left (take k spans) (this ∷ []) was.0 was.1, was.2, was.3))
      (λ (new : (this.entry ≡ h) × Spans place this). (this, Contains-push (take k spans) this, new.0, new.1))
      (puts.more.only place h found);
  fresh = puts.more.fresh noted.fresh;
}) where
  this : Span
  this = get_or spans k d

-- ---- levels

-- the entries of one more level
shape_more : (levels : List Level) (level : Level) → shape (levels ++ level ∷ []) ≡ shape levels ++ entries_of level.runs.items ∷ []
shape_more levels level = map-append (λ (l : Level). entries_of l.runs.items) levels (level ∷ [])

-- an entry of a list of runs is inside
pub inside_level : (entries : List (List (List Handler))) (level item : ℕ) (h : Handler) → Contains (entries_at entries level item) h → level < length entries
inside_level entries level item h found =
    ⊎_elim (λ (inside : level < length entries). inside)
    (λ (past : length entries ≤ level).
    let none : entries_at entries level item ≡ [] =
    ap (λ (es : List (List Handler)). get_or es (halved level item) []) (get_or_past entries level [] past) ∙ get_or_past {X = List Handler} [] (halved level item) [] (omega arith) in
    absurd (Contains-none h (subst (λ (es : List Handler). Contains es h) none found)))
    (cases_lt level (length entries))

at_still : (entries : List (List (List Handler))) (more : List (List Handler)) (level item : ℕ) (h : Handler) → Contains (entries_at entries level item) h
    → Contains (entries_at (entries ++ more ∷ []) level item) h
at_still entries more level item h found =
    subst (λ (es : List (List Handler)). Contains (get_or es (halved level item) []) h)
    (sym (get_or-append entries (more ∷ []) [] level (inside_level entries level item h found))) found

at_last : (entries : List (List (List Handler))) (more : List (List Handler)) (item : ℕ) (h : Handler) → Contains (get_or more (halved (length entries) item) []) h
    → Contains (entries_at (entries ++ more ∷ []) (length entries) item) h
at_last entries more item h found =
    subst (λ (es : List (List Handler)). Contains (get_or es (halved (length entries) item) []) h) (sym (get_or-append_seam entries more [] [])) found

at_cases : (entries : List (List (List Handler))) (more : List (List Handler)) (level item : ℕ) (h : Handler)
    → Contains (entries_at (entries ++ more ∷ []) level item) h
    → Contains (entries_at entries level item) h ⊎ Contains (get_or more (halved (length entries) item) []) h
at_cases entries more level item h found =
    let inside = inside_level (entries ++ more ∷ []) level item h found in
    ⊎_elim
    (λ (early : level < length entries).
    inl (subst (λ (es : List (List Handler)). Contains (get_or es (halved level item) []) h) (get_or-append entries (more ∷ []) [] level early) found))
    (λ (late : length entries ≤ level).
    let size = length-append entries (more ∷ []) in
    let last : level ≡ length entries = omega (arith, inside, late, size) in
    inr (subst (λ (es : List (List Handler)). Contains (get_or es (halved (length entries) item) []) h) (get_or-append_seam entries more [] [])
    (subst (λ (n : ℕ). Contains (entries_at (entries ++ more ∷ []) n item) h) last found)))
    (cases_lt level (length entries))

-- halves
half : (n : ℕ) → (2 * (n / 2) ≤ n) × (n < 2 * (n / 2) + 2)
half n =
    let split : 2 * (n / 2) + n % 2 ≡ n = div-add-mod n 2 in
    let small : n % 2 < 2 = mod-lt n (omega arith) in
    (omega (arith, split, small), omega (arith, split, small))

-- a run that a wider span holds is two runs that the span holds
wider_spans : (place : ℕ) (span : Span) → Spans (place / 2) (wider span) → Spans place span
wider_spans place span spans =
    let after = spans.after_first in
    let before = spans.before_end in
    let first : 2 * (span.first / 2) + span.first % 2 ≡ span.first = div-add-mod span.first 2 in
    let first_small : span.first % 2 < 2 = mod-lt span.first (omega arith) in
    let end = half span.end in
    let low = (half place).0 in
    let high = (half place).1 in
    let end_low = end.0 in
    record { after_first = omega (arith, after, first, first_small, low); before_end = omega (arith, before, end_low, high) }

-- a run of a span that is neither the first nor the last is in one of the wider span
spans_wider : (place : ℕ) (span : Span) → Spans place span → place ≢ span.first → place ≢ span.end - 1 → Spans (place / 2) (wider span)
spans_wider place span spans not_first not_last =
    let after = spans.after_first in
    let before = spans.before_end in
    let first : 2 * (span.first / 2) + span.first % 2 ≡ span.first = div-add-mod span.first 2 in
    let first_small : span.first % 2 < 2 = mod-lt span.first (omega arith) in
    let end_low = (half span.end).0 in
    let end_high = (half span.end).1 in
    let low = (half place).0 in
    let high = (half place).1 in
    let later : span.first < place = omega (arith, after, not_first) in
    let earlier : place + 1 < span.end = omega (arith, before, not_last) in
    record {
      after_first = omega (arith, later, first, first_small, low, high);
      before_end = omega (arith, earlier, end_low, end_high, low, high);
    }

-- and so of the entries
spanned_wider : (spans : List Span) (place : ℕ) (h : Handler) → IsSpanned (map wider spans) (place / 2) h → IsSpanned spans place h
spanned_wider spans place h (span, found, entry, holds) =
    let was = Contains-from_map wider spans span found in
    (was.0, was.1, ap (λ (x : Span). x.entry) was.2 ∙ entry, wider_spans place was.0 (subst (λ (x : Span). Spans (place / 2) x) (sym was.2) holds))

spanned_cases : (spans : List Span) (runs : List Run) (place : ℕ) (h : Handler) → IsNoted spans runs → IsSpanned spans place h
    → Contains (entries_in runs place) h ⊎ IsSpanned (map wider spans) (place / 2) h
spanned_cases spans runs place h noted (span, found, entry, holds) =
    ⊎_elim
    (λ (first : place ≡ span.first).
    inl (subst (λ (n : ℕ). Contains (entries_in runs n) h) (sym first) (subst (λ (x : Handler). Contains (entries_in runs span.first) x) entry (put.first some))))
    (λ (not_first : place ≢ span.first).
    ⊎_elim
    (λ (last : place ≡ span.end - 1).
    inl (subst (λ (n : ℕ). Contains (entries_in runs n) h) (sym last) (subst (λ (x : Handler). Contains (entries_in runs (span.end - 1)) x) entry (put.last some))))
    (λ (not_last : place ≢ span.end - 1).
    inr (wider span, Contains-map wider spans span found, entry, spans_wider place span holds not_first not_last))
    (cases_eq place (span.end - 1)))
    (cases_eq place span.first) where
      put : IsPut span runs
      put = noted.put span found

      some : span.first < span.end
      some = let after = holds.after_first in let before = holds.before_end in omega (arith, after, before)

-- ---- the levels so far

-- at first each entry's range is left
pub laid-none : (handlers : List Handler) → IsLaidSoFar handlers (spans_of handlers) []
laid-none handlers = record {
  covers = λ item h holds.
      inr (span_of h, Contains-map span_of handlers h holds.listed, refl, record { after_first = holds.after_start; before_end = holds.before_end });
  holds = λ level item h found. absurd (Contains-none h (subst (λ (es : List Handler). Contains es h) (none level item) found));
  left = λ item h spanned. of_span item h spanned;
  fresh = λ level found. absurd (Contains-none level found);
} where
  none : (level item : ℕ) → entries_at [] level item ≡ []
  none level item =
      ap (λ (es : List (List Handler)). get_or es (halved level item) []) (get_or_past {X = List (List Handler)} [] level [] (omega arith))
      ∙ get_or_past {X = List Handler} [] (halved level item) [] (omega arith)

  of_span : (item : ℕ) (h : Handler) → IsSpanned (spans_of handlers) item h → Holds handlers item h
  of_span item h (span, found, entry, holds) =
      let was = Contains-from_map span_of handlers span found in
      let same : was.0 ≡ h = ap (λ (x : Span). x.entry) was.2 ∙ entry in
      let at : Spans item (span_of was.0) = subst (λ (x : Span). Spans item x) (sym was.2) holds in
      subst (λ (x : Handler). Holds handlers item x) same (record { listed = was.1; after_start = at.after_first; before_end = at.before_end })

-- one more level
pub laid-more : (handlers : List Handler) (spans : List Span) (levels : List Level) (level : Level) → IsLaidSoFar handlers spans levels
    → IsNoted spans level.runs.items → IsLaidSoFar handlers (map wider spans) (levels ++ level ∷ [])
laid-more handlers spans levels level laid noted = record {
  covers = λ item h holds.
      ⊎_elim (λ (met : IsMet (shape levels) item h). inl (met.0, in_all met.0 item h (at_still (shape levels) runs met.0 item h met.1)))
      (λ (spanned : IsSpanned spans (halved (length levels) item) h).
      ⊎_elim
      (λ (here : Contains (entries_in level.runs.items (halved (length levels) item)) h).
      inl (
        length (shape levels),
        in_all (length (shape levels)) item h (at_last (shape levels) runs item h
            (subst (λ (n : ℕ). Contains (get_or runs (halved n item) []) h) (sym sizes) here)),
      ))
      (λ (wide : IsSpanned (map wider spans) (halved (length levels) item / 2) h).
      inr (subst (λ (n : ℕ). IsSpanned (map wider spans) (halved n item) h) longer wide))
      (spanned_cases spans level.runs.items (halved (length levels) item) h noted spanned))
      (laid.covers item h holds);
  holds = λ k item h found.
      ⊎_elim (λ (old : Contains (entries_at (shape levels) k item) h). laid.holds k item h old)
      (λ (new : Contains (get_or runs (halved (length (shape levels)) item) []) h).
      laid.left item h (noted.only (halved (length levels) item) h
      (subst (λ (n : ℕ). Contains (get_or runs (halved n item) []) h) sizes new)))
      (at_cases (shape levels) runs k item h (subst (λ (es : List (List (List Handler))). Contains (entries_at es k item) h) (shape_more levels level) found));
  left = λ item h spanned.
      laid.left item h
      (spanned_wider spans (halved (length levels) item) h (subst (λ (n : ℕ). IsSpanned (map wider spans) (halved n item) h) (sym longer) spanned));
  fresh = λ l found.
      ⊎_elim (λ (old : Contains levels l). laid.fresh l old) (λ (same : level ≡ l). subst (λ (x : Level). AreFresh x.runs.items) same noted.fresh)
      (Contains-push_cases levels level l found);
} where
  runs : List (List Handler)
  runs = entries_of level.runs.items

  sizes : length (shape levels) ≡ length levels
  sizes = length-map levels (λ (l : Level). entries_of l.runs.items)

  in_all : (k item : ℕ) (h : Handler) → Contains (entries_at (shape levels ++ runs ∷ []) k item) h → Contains (entries_at (shape (levels ++ level ∷ [])) k item) h
  in_all k item h found = subst (λ (es : List (List (List Handler))). Contains (entries_at es k item) h) (sym (shape_more levels level)) found

  length-more : (xs : List Level) (x : Level) → suc (length xs) ≡ length (xs ++ x ∷ [])
  length-more [] x = refl
  length-more (y ∷ xs) x = ap suc (length-more xs x)

  longer : suc (length levels) ≡ length (levels ++ level ∷ [])
  longer = length-more levels level

-- no span is left
pub laid-all : (handlers : List Handler) (spans : List Span) (levels : List Level) → IsLaidSoFar handlers spans levels → All (IsShort 0) spans
    → IsLaid handlers levels
laid-all handlers spans levels laid short = record {
  covered = record {
    covers = λ item h holds.
        ⊎_elim (λ (met : IsMet (shape levels) item h). met) (λ (spanned : IsSpanned spans (halved (length levels) item) h). absurd (none_left item h spanned))
        (laid.covers item h holds);
    holds = laid.holds;
  };
  fresh = laid.fresh;
} where
  none_left : (item : ℕ) (h : Handler) → IsSpanned spans (halved (length levels) item) h → ⊥
  none_left item h (span, found, entry, holds) =
      let none = All-contains (IsShort 0) spans span short found in
      let after = holds.after_first in
      let before = holds.before_end in
      omega (arith, none, after, before)

-- a span of no runs
abbrev pub no_span : Span
no_span = record { entry = blank; first = 0; end = 0 }

-- spans get shorter
wider_short : (most : ℕ) (span : Span) → IsShort most span → IsShort (most / 2) (wider span)
wider_short most span short =
    let first : 2 * (span.first / 2) + span.first % 2 ≡ span.first = div-add-mod span.first 2 in
    let first_small : span.first % 2 < 2 = mod-lt span.first (omega arith) in
    let end_low = (half span.end).0 in
    let high = (half most).1 in
    omega (arith, short, first, first_small, end_low, high)

pub all_shorter : (most : ℕ) (spans : List Span) → All (IsShort most) spans → All (IsShort (most / 2)) (map wider spans)
all_shorter most spans short = λ n d below.
    let size = length-map spans wider in
    let inside : n < length spans = omega (arith, below, size) in
    subst (λ (x : Span). IsShort (most / 2) x) (sym (get_or-map wider spans n no_span d inside)) (wider_short most (get_or spans n no_span) (short n no_span inside))

-- what is short for a number is so for a greater one
pub all_short_later : (few most : ℕ) (spans : List Span) → few ≤ most → All (IsShort few) spans → All (IsShort most) spans
all_short_later few most spans more short = λ n d below. let bound = short n d below in omega (arith, bound, more)
