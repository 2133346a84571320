-- A step keeps what the holders of a frame hold: old objects keep their colours, and stay initialised.
use Rattle.std.proofs.Common.{◌≡◌, ◌<◌, ℕ, true, false, List, [], ◌∷◌, length, Some, sym, ◌∙◌, ap, subst, arith, get_or, slice_get, ⊎_elim}
use Rattle.std.specs.Prelude.{is_some}
use Rattle.std.proofs.lemmas.Option.{slice_get-get_or}
use Rattle.fm_base.proofs.ListFacts.{AllByRecursion-at}
use Rattle.fm_base.proofs.TestFacts.{and_right}
use Rattle.fm_chain.specs.Chained.{looped_at}
use Rattle.fm_code.specs.declared.code_array.Code.{Code}
use Rattle.fm_conn.specs.Facts.{Facts}
use Rattle.fm_conn.specs.Links.{typed_method}
use Rattle.fm_conn.specs.Nodes.{Return, TypedMethod}
use Rattle.fm_frames.specs.States.{Frame}
use Rattle.fm_law_held_objects.proofs.ContentsKept.{has_before, has_born, holds_later}
use Rattle.fm_law_held_objects.specs.Held.{HolderHas}
use Rattle.fm_law_held_objects.specs.Initialised.{StepsKeepInitialised}
use Rattle.fm_law_held_objects.specs.Laws.{StepsKeepHeld}
use Rattle.fm_law_holders.specs.Holding.{holder_value}
use Rattle.fm_place.specs.Insertions.{Holder}
use Rattle.fm_place.specs.Safe.{IsSafeHolder}
use Rattle.fm_place.specs.Sites.{is_captured, site_class, site_kind}
use Rattle.fm_same.proofs.CapturedClasses.{captured_holds}
use Rattle.fm_same.proofs.Retiring.{method_there}
use Rattle.fm_same.specs.Advances.{IsResult}
use Rattle.fm_same.specs.DeadRegions.{IsMethodAt}
use Rattle.fm_same.specs.Regions.{Own, Region}
use Rattle.fm_world.specs.Programs.{Program}

-- ---- colours

-- a holder's class is captured
pub captured_class : (facts : Facts) (x : TypedMethod) (holder : Holder) → IsSafeHolder facts x holder → is_captured facts x holder.class ≡ true
captured_class facts x holder h =
    subst (λ class. is_captured facts x class ≡ true) (sym h.class)
    (and_right (is_some (site_kind facts x holder.site)) (is_captured facts x (site_class facts x holder.site)) h.captured)

-- so its region is not that of a result
not_result : (p : Program) (facts : Facts) (method depth class : ℕ) (code : Code) (r : Region) → is_captured facts (typed_method p facts.typing method code) class ≡ true
    → (frames : List Frame) → IsMethodAt method depth frames → r ≡ Own depth class → IsResult facts frames r → ⊥
not_result p facts method depth class code r captured [] there own result = absurd result
not_result p facts method depth class code r captured (f ∷ callers) there own result =
    let region : Own (length callers) (facts.class f.method Return) ≡ Own depth class = sym result ∙ own in
    let depths : length callers ≡ depth = cc in
    let classes : facts.class f.method Return ≡ class = cc in
    let method_is : f.method ≡ method = method_there method depth f callers there depths in
    (captured_holds facts (typed_method p facts.typing method code) class captured).not_result
    (ap (λ m. facts.class m Return) (sym method_is) ∙ classes)

-- ---- what is held

pub steps_keep_held : StepsKeepInitialised → StepsKeepHeld
steps_keep_held stay_initialised p facts linked steps makes cells free choose x made whole few are colour over store later orderly later_orderly births keeps depth method there code plan safe locals had =
    record {
      holds = λ h holder at.
          holds_later store later later_orderly keeps (looped_at plan h) colour over.other depth holder.class (holder_value code locals h)
          (λ birth has own. ⊎_elim
          (λ same. same)
          (λ result. absurd (not_result p facts method depth holder.class code (colour birth) (captured h holder at) x.frames there own result))
          (over.advances birth (let old = has_born (looped_at plan h) store (holder_value code locals h) birth orderly has in omega (arith, old, births))))
          (had.holds h holder at);
      apart = λ h second birth within inside one two. had.apart h second birth within inside (before h birth within one) (before second birth inside two);
      initialised = λ h birth within has.
          let mine : HolderHas store code plan locals h birth = before h birth within has in
          let old = has_born (looped_at plan h) store (holder_value code locals h) birth orderly mine in
          stay_initialised p facts.typing linked steps makes cells free choose x made whole few are birth (omega (arith, old, births))
          (had.initialised h birth within mine);
    } where
      captured : (h : ℕ) (holder : Holder) → slice_get plan.holders h ≡ Some holder
          → is_captured facts (typed_method p facts.typing method code) holder.class ≡ true
      captured h holder at =
          captured_class facts (typed_method p facts.typing method code) holder
          (AllByRecursion-at (IsSafeHolder facts (typed_method p facts.typing method code)) plan.holders h holder safe at)

      any_holder : Holder
      any_holder = record { site = 0; class = 0; looped = false }

      before : (h birth : ℕ) → h < length plan.holders → HolderHas later code plan locals h birth → HolderHas store code plan locals h birth
      before h birth within has =
          has_before store later later_orderly keeps (looped_at plan h) colour depth (get_or plan.holders h any_holder).class (holder_value code locals h) birth
          (had.holds h (get_or plan.holders h any_holder) (slice_get-get_or plan.holders h any_holder within)) has
