-- Maps from names: what a map keyed by texts says of the finite map from their bytes, and what setting one name
-- changes.
use Rattle.std.proofs.Common.{◌≡◌, ◌≢◌, ◌≤◌, ℕ, Bool, true, false, List, [], ◌∷◌, Option, Some, None, IsSome, is_none, unwrap_or, cond, String, string_bytes, sym, refl, ap, ◌∙◌, ⊎_elim}
use Rattle.std.specs.Ordering.{nat_cmp, is_eq, eq_by_cmp}
use Rattle.std.specs.Cmp.{eq_by_cmp_equiv}
use Rattle.std.specs.Cmp.Lexicographic.{slice_cmp, nat_list_cmp_total}
use Rattle.std.specs.BTreeMap.{BTreeMap, UpdatesBy, get_by_text, is_at}
use Rattle.std.specs.FinMap.{get, insert, remove, find, from_entries, get-from_entries, get-insert, get-remove, same_map, nat_cmp-IsAntisymmetric, slice_cmp-IsAntisymmetric}
use Rattle.std.specs.Map.{lookup}
use Rattle.std.specs.Str.{bytes_eq}
use Rattle.std.specs.String.{string_cmp}
use Rattle.std.proofs.lemmas.Slice.Eq.{bytes_eq-Decides}
use Rattle.std.proofs.lemmas.Map.Text.{is_eq-slice_cmp, btree_map_updates_text}
use Rattle.fm_base.proofs.TestFacts.{same_or_other, bytes_eq-other}
use Rattle.fm_files.specs.Files.{Bytes, RisesAt}
use Rattle.fm_files.specs.Names.{ByName}
use Rattle.fm_files.specs.inner.Names.{by_bytes}

-- looking a name up among the bytes is looking its text up
find-by_bytes : {Y V : Type 0} (es : List (String Y × V)) (q : List ℕ) → find (slice_cmp nat_cmp) q (by_bytes es) ≡ lookup (is_at (λ k. slice_cmp nat_cmp q (string_bytes k))) es
find-by_bytes [] q = refl
find-by_bytes (e ∷ es) q = ap (cond (is_eq (slice_cmp nat_cmp q (string_bytes e.0))) (Some e.1)) (find-by_bytes es q)

-- the finite map has at a name what the map keyed by texts has there
pub get-by_bytes : {Y V : Type 0} (m : BTreeMap (String Y) V) (q : List ℕ) → get (from_entries {R = slice_cmp nat_cmp} (by_bytes m.entries)) q ≡ get_by_text m q
get-by_bytes m q = get-from_entries nat_list_cmp_total (by_bytes m.entries) q ∙ find-by_bytes m.entries q

same_test : (k q : List ℕ) → bytes_eq k q ≡ eq_by_cmp (slice_cmp nat_cmp) q k
same_test k q = sym (is_eq-slice_cmp k q) ∙ (eq_by_cmp_equiv nat_list_cmp_total).symm k q

-- a map keyed by texts with one value changed is the finite map with that value inserted
pub insert-by_bytes : {Y V : Type 0} (k : List ℕ) (m n : BTreeMap (String Y) V) (v : V) → UpdatesBy string_cmp (λ x. slice_cmp nat_cmp k (string_bytes x)) m n (Some v) → from_entries {R = slice_cmp nat_cmp} (by_bytes n.entries) ≡ insert (from_entries (by_bytes m.entries)) k v
insert-by_bytes k m n v u = same_map nat_list_cmp_total (slice_cmp-IsAntisymmetric nat_cmp-IsAntisymmetric) _ _ (λ q.
    get-by_bytes n q
    ∙ btree_map_updates_text k m n (Some v) u q
    ∙ ap (λ b. cond b (Some v) (get_by_text m q)) (same_test k q)
    ∙ sym (get-insert nat_list_cmp_total (from_entries (by_bytes m.entries)) k v q
    ∙ ap (cond (eq_by_cmp (slice_cmp nat_cmp) q k) (Some v)) (get-by_bytes m q)))

-- a map keyed by texts with one entry taken out is the finite map with that name removed
pub remove-by_bytes : {Y V : Type 0} (k : List ℕ) (m n : BTreeMap (String Y) V) → UpdatesBy string_cmp (λ x. slice_cmp nat_cmp k (string_bytes x)) m n None → from_entries {R = slice_cmp nat_cmp} (by_bytes n.entries) ≡ remove (from_entries (by_bytes m.entries)) k
remove-by_bytes k m n u = same_map nat_list_cmp_total (slice_cmp-IsAntisymmetric nat_cmp-IsAntisymmetric) _ _ (λ q.
    get-by_bytes n q
    ∙ btree_map_updates_text k m n None u q
    ∙ ap (λ b. cond b None (get_by_text m q)) (same_test k q)
    ∙ sym (get-remove nat_list_cmp_total (from_entries (by_bytes m.entries)) k q
    ∙ ap (cond (eq_by_cmp (slice_cmp nat_cmp) q k) None) (get-by_bytes m q)))

-- what was inserted at a name
pub get-insert_same : {V : Type 0} (m : ByName V) (k : List ℕ) (v : V) → get (insert m k v) k ≡ Some v
get-insert_same m k v =
    get-insert nat_list_cmp_total m k v k
    ∙ ap (λ b. cond b (Some v) (get m k)) (sym (same_test k k) ∙ (bytes_eq-Decides k k).1 refl)

-- at every other name nothing changed
pub get-insert_other : {V : Type 0} (m : ByName V) (k : List ℕ) (v : V) (q : List ℕ) → q ≢ k → get (insert m k v) q ≡ get m q
get-insert_other m k v q other =
    get-insert nat_list_cmp_total m k v q
    ∙ ap (λ b. cond b (Some v) (get m q)) (sym (same_test k q) ∙ bytes_eq-other k q (λ same. other (sym same)))

-- a name at which a value was inserted is there
pub IsSome-insert : {V : Type 0} (m : ByName V) (k : List ℕ) (v : V) → IsSome (get (insert m k v) k)
IsSome-insert m k v = rw get-insert_same refl

-- what was removed isn't there
pub get-remove_same : {V : Type 0} (m : ByName V) (k : List ℕ) → get (remove m k) k ≡ None
get-remove_same m k =
    get-remove nat_list_cmp_total m k k
    ∙ ap (λ b. cond b None (get m k)) (sym (same_test k k) ∙ (bytes_eq-Decides k k).1 refl)

-- at every other name nothing changed
pub get-remove_other : {V : Type 0} (m : ByName V) (k q : List ℕ) → q ≢ k → get (remove m k) q ≡ get m q
get-remove_other m k q other =
    get-remove nat_list_cmp_total m k q
    ∙ ap (λ b. cond b None (get m q)) (sym (same_test k q) ∙ bytes_eq-other k q (λ same. other (sym same)))

-- two maps are one where they have the same at a name and at every other name
same_by_name : {V : Type 0} (m n : ByName V) (k : List ℕ) → get m k ≡ get n k → ((q : List ℕ) → q ≢ k → get m q ≡ get n q) → m ≡ n
same_by_name m n k here others = same_map nat_list_cmp_total (slice_cmp-IsAntisymmetric nat_cmp-IsAntisymmetric) m n (λ q.
    ⊎_elim (λ (is : q ≡ k). ap (get m) is ∙ here ∙ ap (get n) (sym is)) (others q) (same_or_other q k))

-- of two values inserted at one name the last one stays
pub insert-again : {V : Type 0} (m : ByName V) (k : List ℕ) (v w : V) → insert (insert m k v) k w ≡ insert m k w
insert-again m k v w = same_by_name _ _ k
    (get-insert_same _ k w ∙ sym (get-insert_same m k w))
    (λ q other. get-insert_other _ k w q other ∙ get-insert_other m k v q other ∙ sym (get-insert_other m k w q other))

-- a value that was kept at a name and released again leaves the map as it was
pub kept_and_released : {V : Type 0} (m : ByName V) (k : List ℕ) (d : V) (is_new : Bool) → is_new ≡ is_none (get m k) → cond is_new (remove (insert m k (unwrap_or (get m k) d)) k) (insert m k (unwrap_or (get m k) d)) ≡ m
kept_and_released {V} m k d true new = same_by_name _ _ k
    (get-remove_same _ k ∙ sym (none (get m k) new))
    (λ q other. get-remove_other _ k q other ∙ get-insert_other m k _ q other)
  where
    none : (o : Option V) → true ≡ is_none o → o ≡ None
    none None e = refl
    none (Some v) e = absurd (cc)
kept_and_released {V} m k d false old = same_by_name _ _ k
    (get-insert_same m k _ ∙ some (get m k) old)
    (λ q other. get-insert_other m k _ q other)
  where
    some : (o : Option V) → false ≡ is_none o → Some (unwrap_or o d) ≡ o
    some None e = absurd (cc)
    some (Some v) e = refl

-- ---- a map of which one name was set

-- what a map has at a name, and else a default
abbrev pub value_of : {V : Type 0} → V → ByName V → Bytes → V
value_of default map name = unwrap_or (get map name) default

module _ {V : Type 0} (default : V) where
  -- new has this value at the name, and at every other name what old has
  pub record IsSetAt (old new : ByName V) (this : Bytes) (value : V) : Type 0 where
    pub here : value_of default new this ≡ value
    pub others : (name : Bytes) → name ≢ this → value_of default new name ≡ value_of default old name

  pub IsSetAt-insert : (old : ByName V) (this : Bytes) (value : V) → IsSetAt old (insert old this value) this value
  IsSetAt-insert old this value = record {
    here = ap (λ v. unwrap_or v default) (get-insert_same old this value);
    others = λ name other. ap (λ v. unwrap_or v default) (get-insert_other old this value name other);
  }

  pub IsSetAt-none : (old : ByName V) (this : Bytes) → IsSetAt old old this (value_of default old this)
  IsSetAt-none old this = record { here = refl; others = λ name other. refl }

  module _ (f : V → ℕ) (old new : ByName V) (this : Bytes) (value : V) (set : IsSetAt old new this value) where
    -- a number that is as before at the name is as before everywhere
    pub kept : f value ≡ f (value_of default old this) → (name : Bytes) → f (value_of default new name) ≡ f (value_of default old name)
    kept same name =
        ⊎_elim (λ (is : name ≡ this). ap (λ n. f (value_of default new n)) is ∙ ap f set.here ∙ same ∙ ap (λ n. f (value_of default old n)) (sym is))
        (λ (other : name ≢ this). ap f (set.others name other))
        (same_or_other name this)

    -- a number that grew at the name rose there alone
    pub rises : f (value_of default old this) ≤ f value → RisesAt this (λ name. f (value_of default old name)) (λ name. f (value_of default new name))
    rises grows = record {
      never_falls = rw set.here grows;
      others = λ name other. ap f (set.others name other);
    }
