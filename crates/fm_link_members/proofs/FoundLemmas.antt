-- What is found in tables of members is what the definitions look up.
use Rattle.std.proofs.Common.{◌≡◌, refl, sym, ◌∙◌, ap, subst, ℕ, zero, suc, ◌+◌, ◌<◌, ◌≤◌, ◌&&◌, not, Bool, true, false, cond, List, [], ◌∷◌, ◌++◌, length, map, filter, get_or, set, nat_eq, Option, Some, None, option_and_then, slice_get, arith, ◌⊎◌, inl, inr, length-set}
use Rattle.std.specs.Global.{Vec}
use Rattle.std.specs.List.{flat_map}
use Rattle.std.proofs.lemmas.Bool.{eq-eqb, eqb-true, cases_lt, false≢true}
use Rattle.std.proofs.lemmas.List.{get_or_past}
use Rattle.std.proofs.lemmas.List.FromFn.{length-map-range_with_len}
use Rattle.std.proofs.lemmas.Option.{slice_get-get_or, slice_get_past}
use Rattle.fm_world.specs.Chains.{distinct, first_found, is_among, parent_of, superinterfaces_of}
use Rattle.fm_world.specs.declared.declarations.DeclaredClass.{DeclaredClass}
use Rattle.fm_world.specs.inner.Layers.{value_at, HasRoom}
use Rattle.fm_world.specs.inner.Tables.{IsLinear, chain_from, numbers_below}
use Rattle.fm_link_supers.proofs.Downwards.{among_head, among_later}
use Rattle.fm_link_supers.proofs.InterfaceLemmas.{superinterfaces_past}
use Rattle.fm_link_supers.proofs.ParentTables.{list_in-row}
use Rattle.fm_link_supers.proofs.SuperclassLemmas.{not_above}
use Rattle.fm_link_members.proofs.FirstOnes.{IsFirst, first_from-is}
use Rattle.fm_link_members.proofs.NearestLemmas.{first_found-cons}
use Rattle.fm_link_members.specs.declared.members.MemberRow.{MemberRow}
use Rattle.fm_link_members.specs.declared.members.Members.{Members}
use Rattle.fm_link_members.specs.declared.members.Nearest.{Nearest}
use Rattle.fm_link_supers.specs.inner.ListTables.{list_in, lists}
use Rattle.fm_link_members.specs.inner.MemberRows.{no_row, AreSections}
use Rattle.fm_link_members.specs.inner.MemberTables.{is_own, nearest_in, own_by, own_in, AreNearest}
use Rattle.fm_link_members.specs.inner.NearestSteps.{or_else}

-- ---- the first that is found

or_else-assoc : (a b c : Option ℕ) → or_else (or_else a b) c ≡ or_else a (or_else b c)
or_else-assoc None b c = refl
or_else-assoc (Some n) b c = refl

pub or_else-None : (a : Option ℕ) → or_else a None ≡ a
or_else-None None = refl
or_else-None (Some n) = refl

pub first_found-append : (f : ℕ → Option ℕ) (xs ys : List ℕ) → first_found f (xs ++ ys) ≡ or_else (first_found f xs) (first_found f ys)
first_found-append f [] ys = refl
first_found-append f (x ∷ xs) ys =
    first_found-cons f x (xs ++ ys) ∙ ap (or_else (f x)) (first_found-append f xs ys)
    ∙ sym (or_else-assoc (f x) (first_found f xs) (first_found f ys))
    ∙ ap (λ o. or_else o (first_found f ys)) (sym (first_found-cons f x xs))

pub first_found-none : (f : ℕ → Option ℕ) (xs : List ℕ) → ((x : ℕ) → is_among x xs ≡ true → f x ≡ None) → first_found f xs ≡ None
first_found-none f [] none = refl
first_found-none f (x ∷ xs) none =
    first_found-cons f x xs ∙ ap (λ o. or_else o (first_found f xs)) (none x (among_head x xs))
    ∙ first_found-none f xs (λ y h. none y (among_later y x xs h))

-- where something is found
pub record FoundAt (f : ℕ → Option ℕ) (xs : List ℕ) (k : ℕ) : Type 0 where
  pub place : ℕ
  pub among : is_among place xs ≡ true
  pub is : f place ≡ Some k

pub found_at : (f : ℕ → Option ℕ) (xs : List ℕ) (k : ℕ) → first_found f xs ≡ Some k → FoundAt f xs k
found_at f [] k e = absurd (impossible e) where
  impossible : None ≡ Some k → ⊥
  impossible h = cc
found_at f (x ∷ xs) k e = by_option (f x) refl (sym (first_found-cons f x xs) ∙ e) (λ h. found_at f xs k h) where
  by_option : (o : Option ℕ) → f x ≡ o → or_else (f x) (first_found f xs) ≡ Some k → (first_found f xs ≡ Some k → FoundAt f xs k)
      → FoundAt f (x ∷ xs) k
  by_option None is h later =
      let rest = later (sym (ap (λ o. or_else o (first_found f xs)) is) ∙ h) in
      record { place = rest.place; among = among_later rest.place x xs rest.among; is = rest.is }
  by_option (Some j) is h later =
      record { place = x; among = among_head x xs; is = is ∙ sym (ap (λ o. or_else o (first_found f xs)) is) ∙ h }

-- ---- a class's own members

-- the number that is found is that of a row of the class
pub record IsRowOf (rows : List MemberRow) (signatures : List ℕ) (signature class k : ℕ) : Type 0 where
  pub within : k < length rows
  pub class_is : (get_or rows k no_row).class ≡ class
  pub signed : get_or signatures k 0 ≡ signature

test_first : (a b c : Bool) → (a && b && c) ≡ true → a ≡ true
test_first true b c h = refl
test_first false b c h = h

test_second : (a b c : Bool) → (a && b && c) ≡ true → b ≡ true
test_second true true c h = refl
test_second true false c h = h
test_second false b c h = absurd (false≢true h)

pub row_of_own : (rows : List MemberRow) (signatures : List ℕ) (passes : ℕ → Bool) (signature class k : ℕ)
    → own_by rows signatures passes signature class ≡ Some k → IsRowOf rows signatures signature class k
row_of_own rows signatures passes signature class k e = from_first (let P : Option ℕ → Type 0 = IsFirst p 0 (length rows) in
    subst P e (first_from-is p (length rows) 0 (length rows) (omega arith))) where
      p : ℕ → Bool
      p = is_own rows signatures passes signature class

      from_first : IsFirst p 0 (length rows) (Some k) → IsRowOf rows signatures signature class k
      from_first is = record {
        within = is.1;
        class_is = eqb-true (get_or rows k no_row).class class (test_first (nat_eq (get_or rows k no_row).class class)
            (nat_eq (get_or signatures k 0) signature) (passes (get_or rows k no_row).flags) is.2);
        signed = eqb-true (get_or signatures k 0) signature (test_second (nat_eq (get_or rows k no_row).class class)
            (nat_eq (get_or signatures k 0) signature) (passes (get_or rows k no_row).flags) is.2);
      }

own_in-none : (n : Nearest) (rows : List MemberRow) (signature class : ℕ) → nearest_in n class signature ≡ None → own_in n rows signature class ≡ None
own_in-none n rows signature class e = rw e refl

own_in-some : (n : Nearest) (rows : List MemberRow) (signature class member : ℕ) (row : MemberRow) (b : Bool)
    → nearest_in n class signature ≡ Some member → slice_get rows member ≡ Some row → nat_eq row.class class ≡ b
    → own_in n rows signature class ≡ cond b (Some member) None
own_in-some n rows signature class member row b e is test = rw (e, is, test) refl

pub own_in-is : (classes : List DeclaredClass) (m : Members) (signatures : List ℕ) (passes : ℕ → Bool) (n : Nearest) → IsLinear classes → AreSections classes m
    → AreNearest classes m.rows.items signatures passes n → (signature class : ℕ) → HasRoom n.layers signature
    → own_in n m.rows.items signature class ≡ own_by m.rows.items signatures passes signature class
own_in-is classes m signatures passes n linear sections are signature class room = by_class (cases_lt class (length classes)) where
  find : ℕ → Option ℕ
  find = own_by m.rows.items signatures passes signature

  rest : List ℕ
  rest = chain_from classes (parent_of classes class)

  no_own : length classes ≤ class → (o : Option ℕ) → find class ≡ o → None ≡ o
  no_own past None e = refl
  no_own past (Some k) e =
      let row = row_of_own m.rows.items signatures passes signature class k e in
      absurd (omega (arith, past, (sections.outside class k row.within row.class_is).0))

  split : class < length classes → nearest_in n class signature ≡ or_else (find class) (first_found find rest)
  split within = are.nearest class signature within room ∙ ap (first_found find) (linear class within) ∙ first_found-cons find class rest

  inherited : class < length classes → (o : Option ℕ) → first_found find rest ≡ o → nearest_in n class signature ≡ o
      → own_in n m.rows.items signature class ≡ None
  inherited within None e h = own_in-none n m.rows.items signature class h
  inherited within (Some k) e h =
      let found = found_at find rest k e in
      let row = row_of_own m.rows.items signatures passes signature found.place k found.is in
      own_in-some n m.rows.items signature class k (get_or m.rows.items k no_row) false h (slice_get-get_or m.rows.items k no_row row.within)
      (ap (λ c. nat_eq c class) row.class_is ∙ not_above classes linear class found.place within found.among)

  by_own : class < length classes → (o : Option ℕ) → find class ≡ o → own_in n m.rows.items signature class ≡ o
  by_own within None e = inherited within (first_found find rest) refl (split within ∙ ap (λ o. or_else o (first_found find rest)) e)
  by_own within (Some k) e =
      let row = row_of_own m.rows.items signatures passes signature class k e in
      own_in-some n m.rows.items signature class k (get_or m.rows.items k no_row) true
      (split within ∙ ap (λ o. or_else o (first_found find rest)) e) (slice_get-get_or m.rows.items k no_row row.within)
      (eq-eqb (get_or m.rows.items k no_row).class class row.class_is)

  by_class : (class < length classes) ⊎ (length classes ≤ class) → own_in n m.rows.items signature class ≡ find class
  by_class (inl within) = by_own within (find class) refl
  by_class (inr past) =
      own_in-none n m.rows.items signature class (ap (option_and_then (λ table. value_at n.layers table signature))
      (slice_get_past n.tops.items class (omega (arith, past, are.one_each))))
      ∙ no_own past (find class) refl

-- ---- lists of classes

pub interfaces_listed : (classes : List DeclaredClass) (table : List (Vec ℕ))
    → lists table ≡ map (superinterfaces_of classes) (numbers_below (length classes)) → (class : ℕ)
    → list_in table class ≡ superinterfaces_of classes class
interfaces_listed classes table e class = by_class (cases_lt class (length classes)) where
  as_long : length (lists table) ≡ length classes
  as_long = ap length e ∙ length-map-range_with_len (superinterfaces_of classes) 0 (length classes)

  by_class : (class < length classes) ⊎ (length classes ≤ class) → list_in table class ≡ superinterfaces_of classes class
  by_class (inl within) = list_in-row (superinterfaces_of classes) (length classes) class table e within
  by_class (inr past) = get_or_past (lists table) class [] (omega (arith, past, as_long)) ∙ sym (superinterfaces_past classes class past)

-- where no interface has one, a search that goes to interfaces too finds the same
pub first_found-without : (f : ℕ → Option ℕ) (interfaces : ℕ → List ℕ) (xs : List ℕ)
    → ((x i : ℕ) → is_among i (interfaces x) ≡ true → f i ≡ None)
    → first_found f (flat_map (λ x. x ∷ interfaces x) xs) ≡ first_found f xs
first_found-without f interfaces [] none = refl
first_found-without f interfaces (x ∷ xs) none =
    first_found-append f (x ∷ interfaces x) (flat_map (λ y. y ∷ interfaces y) xs)
    ∙ ap (λ o. or_else o (first_found f (flat_map (λ y. y ∷ interfaces y) xs)))
    (first_found-cons f x (interfaces x) ∙ ap (or_else (f x)) (first_found-none f (interfaces x) (none x)) ∙ or_else-None (f x))
    ∙ ap (or_else (f x)) (first_found-without f interfaces xs none)
    ∙ sym (first_found-cons f x xs)

-- ---- each number once

-- a number of which nothing is found may be left out
left_out : (f : ℕ → Option ℕ) (y z : ℕ) (rest zs : List ℕ) → f y ≡ None → first_found f rest ≡ first_found f zs → (b : Bool) → nat_eq y z ≡ b
    → first_found f (cond (not b) (z ∷ rest) rest) ≡ first_found f (z ∷ zs)
left_out f y z rest zs none same true e =
    same ∙ sym (first_found-cons f z zs ∙ ap (λ o. or_else o (first_found f zs)) (ap f (sym (eqb-true y z e)) ∙ none))
left_out f y z rest zs none same false e = first_found-cons f z rest ∙ ap (or_else (f z)) same ∙ sym (first_found-cons f z zs)

without : (f : ℕ → Option ℕ) (y : ℕ) → f y ≡ None → (zs : List ℕ) → first_found f (filter (λ z. not (nat_eq y z)) zs) ≡ first_found f zs
without f y none [] = refl
without f y none (z ∷ zs) = left_out f y z (filter (λ w. not (nat_eq y w)) zs) zs none (without f y none zs) (nat_eq y z) refl

found_head : (f : ℕ → Option ℕ) (y : ℕ) (ds ys : List ℕ) → first_found f ds ≡ first_found f ys → (o : Option ℕ) → f y ≡ o
    → or_else (f y) (first_found f (filter (λ z. not (nat_eq y z)) ds)) ≡ or_else (f y) (first_found f ys)
found_head f y ds ys same None e = ap (or_else (f y)) (without f y e ds ∙ same)
found_head f y ds ys same (Some k) e =
    ap (λ o. or_else o (first_found f (filter (λ z. not (nat_eq y z)) ds))) e ∙ sym (ap (λ o. or_else o (first_found f ys)) e)

pub first_found-distinct : (f : ℕ → Option ℕ) (xs : List ℕ) → first_found f (distinct nat_eq xs) ≡ first_found f xs
first_found-distinct f [] = refl
first_found-distinct f (y ∷ ys) =
    first_found-cons f y (filter (λ z. not (nat_eq y z)) (distinct nat_eq ys))
    ∙ found_head f y (distinct nat_eq ys) ys (first_found-distinct f ys) (f y) refl ∙ sym (first_found-cons f y ys)

-- ---- marks

set_kept : (xs : List Bool) (i j : ℕ) → slice_get xs j ≡ Some true → slice_get (set xs i true) j ≡ Some true
set_kept [] i j h = h
set_kept (x ∷ xs) zero zero h = refl
set_kept (x ∷ xs) zero (suc j) h = h
set_kept (x ∷ xs) (suc i) zero h = h
set_kept (x ∷ xs) (suc i) (suc j) h = set_kept xs i j h

set_there : (xs : List Bool) (i : ℕ) → i < length xs → slice_get (set xs i true) i ≡ Some true
set_there [] i h = absurd (omega (arith, h))
set_there (x ∷ xs) zero h = refl
set_there (x ∷ xs) (suc i) h = set_there xs i (omega (arith, h))

pub marks_step : (place : ℕ → ℕ) (test : ℕ → Bool) (old new : List Bool) (i : ℕ) → place i < length old
    → new ≡ cond (test i) (set old (place i) true) old → ((k : ℕ) → k < i → test k ≡ true → slice_get old (place k) ≡ Some true)
    → (k : ℕ) → k < i + 1 → test k ≡ true → slice_get new (place k) ≡ Some true
marks_step place test old new i within is so_far k below passes = by_place (cases_lt k i) where
  kept : (b : Bool) → slice_get old (place k) ≡ Some true → slice_get (cond b (set old (place i) true) old) (place k) ≡ Some true
  kept true h = set_kept old (place i) (place k) h
  kept false h = h

  by_place : (k < i) ⊎ (i ≤ k) → slice_get new (place k) ≡ Some true
  by_place (inl h) = ap (λ xs. slice_get xs (place k)) is ∙ kept (test i) (so_far k h passes)
  by_place (inr h) =
      let same : k ≡ i = omega (arith, h, below) in
      ap (λ xs. slice_get xs (place k)) (is ∙ ap (λ b. cond b (set old (place i) true) old) (ap test (sym same) ∙ passes))
      ∙ ap (λ j. slice_get (set old (place i) true) (place j)) same ∙ set_there old (place i) within

pub length-marks : (test : Bool) (marks : List Bool) (place : ℕ) → length (cond test (set marks place true) marks) ≡ length marks
length-marks true marks place = length-set marks place true
length-marks false marks place = refl
