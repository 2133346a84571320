-- What is safe by exact facts over least typings is safe by any others, with the numbers that these have for classes.
use Rattle.std.proofs.Common.{arith, ◌≡◌, refl, sym, ◌∙◌, ap, subst, ℕ, zero, suc, ◌+◌, ◌<◌, false, List, [], ◌∷◌, length, map, Option, Some, None, is_some, Contains}
use Rattle.std.specs.Prelude.{nat_eq, slice_get}
use Rattle.std.specs.List.{AllByRecursion, IsDistinct}
use Rattle.std.specs.Option.{option_map}
use Rattle.std.proofs.lemmas.List.{length-map}
use Rattle.std.proofs.lemmas.Option.{none-some, same_Some}
use Rattle.fm_code.specs.declared.class_file.ClassDef.{ClassDef}
use Rattle.fm_code.specs.declared.code_array.Code.{Code}
use Rattle.fm_conn.specs.Facts.{Facts}
use Rattle.fm_conn.specs.Links.{typed_method}
use Rattle.fm_conn.specs.Nodes.{Node, TypedMethod}
use Rattle.fm_place.specs.Insertions.{before_at, Holder, Insertions}
use Rattle.fm_place.specs.Places.{is_busy, IsBusyPath, MayHold}
use Rattle.fm_place.specs.Rewriting.{Plans}
use Rattle.fm_place.specs.Safe.{AreSafe, HoldsNoChain, IsSafeAt, IsSafeHolder, IsSafeMethod, MayFree, method_in_facts}
use Rattle.fm_place.specs.Sites.{site_class, site_node}
use Rattle.fm_law_beside_freeme.proofs.Exact.{plain_serve_alike}
use Rattle.fm_law_beside_freeme.proofs.LeastFacts.{busy_same, captured_site_same, node_same}
use Rattle.fm_law_beside_freeme.proofs.PlainPlans.{plain, plains, unnumbered}
use Rattle.fm_audit_classes.specs.Audited.{AreSafePlans}
use Rattle.fm_law_beside_freeme.specs.Exact.{AreLeastFacts, AreSafeAgain, LeastFactsFindAlikeSafe}
use Rattle.fm_world.specs.Programs.{code_at, Program}

-- ---- holders with the numbers of the facts

abbrev numbered : Facts → TypedMethod → Holder → Holder
numbered facts x h = record h { class = site_class facts x h.site }

-- insertions with these
abbrev numbered_in : Facts → TypedMethod → Insertions → Insertions
numbered_in facts x plan = record { holders = map (numbered facts x) plan.holders; before = plan.before }

module _ (facts : Facts) (x : TypedMethod) where
  same_sites : (holders : List Holder) → map (λ (h : Holder). h.site) (map (numbered facts x) holders) ≡ map (λ (h : Holder). h.site) holders
  same_sites [] = refl
  same_sites (h ∷ holders) = ap (λ (sites : List ℕ). h.site ∷ sites) (same_sites holders)

  same_plain : (holders : List Holder) → map unnumbered (map (numbered facts x) holders) ≡ map unnumbered holders
  same_plain [] = refl
  same_plain (h ∷ holders) = ap (λ (hs : List Holder). unnumbered h ∷ hs) (same_plain holders)

  unchained : (holders : List Holder) → AllByRecursion (λ (h : Holder). h.looped ≡ false) holders
      → AllByRecursion (λ (h : Holder). h.looped ≡ false) (map (numbered facts x) holders)
  unchained [] none = tt
  unchained (h ∷ holders) none = (none.0, unchained holders none.1)

  there : (holders : List Holder) (number : ℕ) (h : Holder) → slice_get holders number ≡ Some h
      → slice_get (map (numbered facts x) holders) number ≡ Some (numbered facts x h)
  there [] number h is = absurd (none-some h is)
  there (holder ∷ holders) zero h is = ap (λ (o : Holder). Some (numbered facts x o)) (same_Some holder h is)
  there (holder ∷ holders) (suc number) h is = there holders number h is

  class_there : (holders : List Holder) → AllByRecursion (IsSafeHolder facts x) holders → (number : ℕ) (h : Holder) → slice_get holders number ≡ Some h
      → h.class ≡ site_class facts x h.site
  class_there [] all number h is = absurd (none-some h is)
  class_there (holder ∷ holders) all zero h is =
      subst (λ (o : Holder). o.class ≡ site_class facts x o.site) (same_Some holder h is) all.0.class
  class_there (holder ∷ holders) all (suc number) h is = class_there holders all.1 number h is

-- a holder with such a number is one of the others with it
record IsNumbered (facts : Facts) (x : TypedMethod) (holders : List Holder) (number : ℕ) (made : Holder) : Type 0 where
  old : Holder
  is : slice_get holders number ≡ Some old
  made_is : numbered facts x old ≡ made

numbered_there : (facts : Facts) (x : TypedMethod) (holders : List Holder) (number : ℕ) (made : Holder)
    → slice_get (map (numbered facts x) holders) number ≡ Some made → IsNumbered facts x holders number made
numbered_there facts x [] number made is = absurd (none-some made is)
numbered_there facts x (h ∷ holders) zero made is = record { old = h; is = refl; made_is = same_Some (numbered facts x h) made is }
numbered_there facts x (h ∷ holders) (suc number) made is =
    let found = numbered_there facts x holders number made is in record { old = found.old; is = found.is; made_is = found.made_is }

-- ---- a method

module _ (p : Program) (f g : Facts) (first : AreLeastFacts p f) (second : AreLeastFacts p g) (m : ℕ) (code : Code) (coded : code_at p m ≡ Some code) where
  -- the method, typed as these facts have it
  abbrev typed : Facts → TypedMethod
  typed facts = typed_method p facts.typing m code

  busy_at : (site j : ℕ) → is_busy f (typed f) (site_class f (typed f) site) j ≡ is_busy g (typed g) (site_class g (typed g) site) j
  busy_at site j =
      busy_same p f g first second m code coded (site_node (typed f) site) j
      ∙ ap (λ (n : Node). is_busy g (typed g) (g.class m n) j) (node_same p f g first second m code coded site)

  path_again : (site j : ℕ) (path : List ℕ) (last : ℕ) → IsBusyPath g (typed g) (site_class g (typed g) site) j path last → IsBusyPath f (typed f) (site_class f (typed f) site) j path last
  path_again site j [] last is = is
  path_again site j (next ∷ rest) last is = (busy_at site j ∙ is.0, (is.1.0, path_again site next rest last is.1.1))

  holders_again : (holders : List Holder) → AllByRecursion (IsSafeHolder f (typed f)) holders → AllByRecursion (IsSafeHolder g (typed g)) (map (numbered g (typed g)) holders)
  holders_again [] all = tt
  holders_again (h ∷ holders) all = (
    record { captured = sym (captured_site_same p f g first second m code coded h.site) ∙ all.0.captured; class = refl },
    holders_again holders all.1,
  )

  module _ (plan : Insertions) (safe : AreSafe f (typed f) plan) where
    class_of : (number : ℕ) (h : Holder) → slice_get plan.holders number ≡ Some h → h.class ≡ site_class f (typed f) h.site
    class_of = class_there f (typed f) plan.holders safe.holders

    -- the class of a holder is busy there by both or by none
    busy_of : (number : ℕ) (h : Holder) → slice_get plan.holders number ≡ Some h → (j : ℕ) → is_busy f (typed f) h.class j ≡ is_busy g (typed g) (site_class g (typed g) h.site) j
    busy_of number h is j = ap (λ (class : ℕ). is_busy f (typed f) class j) (class_of number h is) ∙ busy_at h.site j

    may_again : (j number : ℕ) → MayFree f (typed f) plan j number → MayFree g (typed g) (numbered_in g (typed g) plan) j number
    may_again j number may = record {
      holder = numbered g (typed g) may.holder;
      is = there g (typed g) plan.holders number may.holder may.is;
      quiet = sym (busy_of number may.holder may.is j) ∙ may.quiet;
    }

    must_again : (j : ℕ) → j < length code.items → (number : ℕ) (h : Holder) → slice_get (map (numbered g (typed g)) plan.holders) number ≡ Some h
        → is_busy g (typed g) h.class j ≡ false → MayHold g (typed g) h.site h.class j → Contains (before_at plan j) number
    must_again j inside number h is quiet holds =
        let found = numbered_there g (typed g) plan.holders number h is in
        let old = found.old in
        let own_quiet : is_busy f (typed f) old.class j ≡ false =
        busy_of number old found.is j ∙ ap (λ (o : Holder). is_busy g (typed g) o.class j) found.made_is ∙ quiet in
        let held : MayHold g (typed g) old.site (site_class g (typed g) old.site) j = subst (λ (o : Holder). MayHold g (typed g) o.site o.class j) (sym found.made_is) holds in
        let own_holds : MayHold f (typed f) old.site old.class j =
        subst (λ (class : ℕ). MayHold f (typed f) old.site class j) (sym (class_of number old found.is))
        (held.0, path_again old.site (old.site + 1) held.0 j held.1) in
        (safe.items j inside).must number old found.is own_quiet own_holds

    at_again : (j : ℕ) → j < length code.items → IsSafeAt g (typed g) (numbered_in g (typed g) plan) j
    at_again j inside = record {
      once = (safe.items j inside).once;
      may = λ number found. may_again j number ((safe.items j inside).may number found);
      must = must_again j inside;
    }

    method_again : AreSafe g (typed g) (numbered_in g (typed g) plan)
    method_again =
        let count = length-map plan.holders (numbered g (typed g)) in
        record {
          some = let some = safe.some in omega (arith, count, some);
          room = let room = safe.room in omega (arith, count, room);
          holders = holders_again plan.holders safe.holders;
          own_sites = subst (IsDistinct nat_eq) (sym (same_sites g (typed g) plan.holders)) safe.own_sites;
          one_each = safe.one_each;
          items = at_again;
        }

-- ---- a program

module _ (given : List ClassDef) (p : Program) (f g : Facts) (first : AreLeastFacts p f) (second : AreLeastFacts p g) (plans : Plans) (safe : AreSafePlans p f plans) where
  -- by the code of the method
  abbrev with_code : ℕ → Insertions → Option Code → Insertions
  with_code method plan None = plan
  with_code method plan (Some code) = numbered_in g (typed_method p g.typing method code) plan

  abbrev again_in : ℕ → Option Insertions → Option Insertions
  again_in method o = option_map (λ (plan : Insertions). with_code method plan (code_at p method)) o

  abbrev again : Plans
  again method = again_in method (plans method)

  safe_method : (method : ℕ) (plan : Insertions) → IsSafeMethod p f method plan → (o : Option Code) → code_at p method ≡ o
      → IsSafeMethod p g method (with_code method plan o)
  safe_method method plan own None none =
      absurd (none-some own.x (sym (ap (option_map (typed_method p f.typing method)) none) ∙ own.is))
  safe_method method plan own (Some code) coded =
      let same : own.x ≡ typed_method p f.typing method code =
      same_Some own.x (typed_method p f.typing method code) (sym own.is ∙ ap (option_map (typed_method p f.typing method)) coded) in
      record {
        x = typed_method p g.typing method code;
        is = ap (option_map (typed_method p g.typing method)) coded;
        safe = method_again p f g first second method code coded plan (subst (λ (x : TypedMethod). AreSafe f x plan) same own.safe);
        plain = unchained g (typed_method p g.typing method code) plan.holders own.plain;
      }

  all_safe : AreSafePlans p g again
  all_safe method made is = by_plan (plans method) refl is where
    by_plan : (o : Option Insertions) → plans method ≡ o → again_in method o ≡ Some made → IsSafeMethod p g method made
    by_plan None planned none = absurd (none-some made none)
    by_plan (Some plan) planned some =
        subst (IsSafeMethod p g method) (same_Some (with_code method plan (code_at p method)) made some)
        (safe_method method plan (safe method plan planned) (code_at p method) refl)

  plain_with : (method : ℕ) (plan : Insertions) (o : Option Code) → plain plan ≡ plain (with_code method plan o)
  plain_with method plan None = refl
  plain_with method plan (Some code) =
      λ k. record { holders = sym (same_plain g (typed_method p g.typing method code) plan.holders) k; before = plan.before }

  plain_in : (method : ℕ) (o : Option Insertions) → option_map plain o ≡ option_map plain (again_in method o)
  plain_in method None = refl
  plain_in method (Some plan) = ap Some (plain_with method plan (code_at p method))

  some_in : (method : ℕ) (o : Option Insertions) → is_some (again_in method o) ≡ is_some o
  some_in method None = refl
  some_in method (Some plan) = refl

  all_again : AreSafeAgain given p g plans
  all_again = record {
    again = again;
    safe = all_safe;
    alike = plain_serve_alike given plans again (λ method. plain_in method (plans method));
    methods = λ method. some_in method (plans method);
  }

pub safe_again : LeastFactsFindAlikeSafe
safe_again given p facts others first second plans safe = all_again given p facts others first second plans safe
