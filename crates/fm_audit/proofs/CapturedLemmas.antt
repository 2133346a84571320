-- The class that is found for an item is that of a captured site.
use Rattle.std.proofs.Common.{◌≡◌, ℕ, zero, suc, ◌+◌, ◌++◌, Bool, cond, true, false, List, [], ◌∷◌, length, Some, None, refl, sym, subst, eqb-true}
use Rattle.std.specs.Prelude.{is_some, nat_eq}
use Rattle.std.specs.List.{flat_map, range_with_len}
use Rattle.std.proofs.lemmas.Bool.{and_from}
use Rattle.std.proofs.lemmas.Option.{none-some, same_Some}
use Rattle.fm_conn.specs.Facts.{Facts}
use Rattle.fm_conn.specs.Nodes.{TypedMethod}
use Rattle.fm_place.specs.Sites.{captured_before, is_captured, is_captured_site, site_after, site_at, site_class, site_kind, sites_of}
use Rattle.fm_place.specs.declared.found_sites.Site.{Site}
use Rattle.fm_audit.specs.inner.Holders.{captured_class, class_at}

-- the item is a captured site of objects of this class
pub record IsCaptured (facts : Facts) (x : TypedMethod) (j class : ℕ) : Type 0 where
  pub captured : is_captured_site facts x j ≡ true
  pub class_is : class ≡ site_class facts x j

captured_one : (facts : Facts) (x : TypedMethod) (a class : ℕ) (b : Bool) → is_captured facts x (site_class facts x a) ≡ b
    → is_some (site_kind facts x a) ≡ true → cond b (Some (site_class facts x a)) None ≡ Some class → IsCaptured facts x a class
captured_one facts x a class false is some found = absurd (none-some class found)
captured_one facts x a class true is some found = record {
  captured = and_from (is_some (site_kind facts x a)) (is_captured facts x (site_class facts x a)) some is;
  class_is = sym (same_Some _ _ found);
}

-- the item is that of a site, or another one
this_site : (facts : Facts) (x : TypedMethod) (a j class : ℕ) (rest : List Site) (b : Bool) → nat_eq a j ≡ b → is_some (site_kind facts x a) ≡ true
    → (class_at rest j ≡ Some class → IsCaptured facts x j class)
    → cond b (captured_class (site_after facts x (captured_before facts x a) a)) (class_at rest j) ≡ Some class → IsCaptured facts x j class
this_site facts x a j class rest false other some later found = later found
this_site facts x a j class rest true same some later found =
    subst (λ i. IsCaptured facts x i class) (eqb-true a j same)
    (captured_one facts x a class (is_captured facts x (site_class facts x a)) refl some found)

one_site : (facts : Facts) (x : TypedMethod) (a j class : ℕ) (rest : List Site) (b : Bool) → is_some (site_kind facts x a) ≡ b
    → (class_at rest j ≡ Some class → IsCaptured facts x j class)
    → class_at (cond b (site_after facts x (captured_before facts x a) a ∷ []) [] ++ rest) j ≡ Some class → IsCaptured facts x j class
one_site facts x a j class rest false none later found = later found
one_site facts x a j class rest true some later found = this_site facts x a j class rest (nat_eq a j) refl some later found

captured_from : (facts : Facts) (x : TypedMethod) (a n j class : ℕ) → class_at (flat_map (site_at facts x) (range_with_len a n)) j ≡ Some class
    → IsCaptured facts x j class
captured_from facts x a zero j class found = absurd (none-some class found)
captured_from facts x a (suc n) j class found =
    one_site facts x a j class (flat_map (site_at facts x) (range_with_len (a + 1) n)) (is_some (site_kind facts x a)) refl
    (λ later. captured_from facts x (a + 1) n j class later) found

pub captured_at : (facts : Facts) (x : TypedMethod) (j class : ℕ) → class_at (sites_of facts x) j ≡ Some class → IsCaptured facts x j class
unfolding sites_of
captured_at facts x j class found = captured_from facts x 0 (length x.code.items) j class found
