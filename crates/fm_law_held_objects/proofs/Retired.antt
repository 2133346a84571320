-- The classes of holders that were freed are retired, one after the other.
use Rattle.std.proofs.Common.{◌≡◌, ◌⊎◌, ℕ, zero, suc, false, List, [], ◌∷◌, length, Some, refl, sym, ◌∙◌, ap, subst, inl, inr, arith, get_or, slice_get, Contains, ⊎_elim}
use Rattle.std.proofs.lemmas.Bool.{false≢true}
use Rattle.std.proofs.lemmas.Option.{same_Some, slice_get-get_or}
use Rattle.fm_chain.specs.Chained.{looped_at}
use Rattle.fm_code.proofs.EdgesLemmas.{Contains-first, Contains-later}
use Rattle.fm_code.specs.declared.code_array.Code.{Code}
use Rattle.fm_conn.specs.Facts.{Facts}
use Rattle.fm_conn.specs.Links.{typed_method}
use Rattle.fm_frames.specs.States.{Frame, State}
use Rattle.fm_law_held_objects.proofs.ContentsKept.{held_by, nothing_has, own_has}
use Rattle.fm_law_held_objects.specs.Contents.{Has}
use Rattle.fm_law_held_objects.specs.Freeing.{AreRetired, IsOfHolder}
use Rattle.fm_law_held_objects.specs.Held.{HolderHas}
use Rattle.fm_law_held_objects.specs.Laws.{FreedClassesRetire, RetiringKeepsHeld}
use Rattle.fm_law_holders.specs.Holding.{holder_value}
use Rattle.fm_place.specs.Insertions.{Holder, Insertions}
use Rattle.fm_place.specs.Places.{is_busy}
use Rattle.fm_place.specs.Safe as safe
use Rattle.fm_same.proofs.Retiring.{retire}
use Rattle.fm_same.proofs.ReturnsKeep.{mapped, moved, moved_cases, moved_own}
use Rattle.fm_same.specs.Colours.{Colour, Coloured}
use Rattle.fm_same.specs.DeadRegions.{IsOver}
use Rattle.fm_same.specs.Regions.{Own, Retired}
use Rattle.fm_same.specs.Standing.{Stand}
use Rattle.fm_world.specs.Programs.{code_at, Program}

module _ (p : Program) (facts : Facts) (x : State) (stand : Stand p facts x.frames) (f : Frame) (callers : List Frame) (frames_are : x.frames ≡ f ∷ callers) (code : Code) (code_is : code_at p f.method ≡ Some code) (plan : Insertions) where
  abbrev depth : ℕ
  depth = length callers

  -- holders among these may be freed
  abbrev May : List ℕ → Type 0
  May hs = (h : ℕ) → Contains hs h → safe.MayFree facts (typed_method p facts.typing f.method code) plan f.item h

  over : (class : ℕ) → is_busy facts (typed_method p facts.typing f.method code) class f.item ≡ false → IsOver p facts f.method depth class x.frames
  over class quiet =
      subst (IsOver p facts f.method depth class) (sym frames_are)
      (inr (
        refl,
        refl,
        λ second is.
            subst (λ c. is_busy facts (typed_method p facts.typing f.method c) class f.item ≡ false) (same_Some code second (sym code_is ∙ is)) quiet,
      ))

  -- one class, and then the others
  module _ (h : ℕ) (hs : List ℕ) (colour : Colour) (m : safe.MayFree facts (typed_method p facts.typing f.method code) plan f.item h) (later : AreRetired p facts x (mapped (moved depth m.holder.class Retired) colour) depth plan hs) where
    abbrev once : Colour
    once = mapped (moved depth m.holder.class Retired) colour

    -- what was moved is retired, and stays so
    of_moved : (birth : ℕ) → colour birth ≡ Own depth m.holder.class → later.other birth ≡ Retired
    of_moved birth own =
        let is_retired : once birth ≡ Retired = ap (moved depth m.holder.class Retired) own ∙ moved_own depth m.holder.class Retired in
        ⊎_elim
        (λ (same : later.other birth ≡ once birth). same ∙ is_retired)
        (λ (mine : IsOfHolder once depth plan hs birth).
        let both : Retired ≡ Own depth mine.holder.class = sym is_retired ∙ mine.own in absurd (cc))
        (later.or_same birth)

    places : (number : ℕ) → Contains (h ∷ hs) number → (h ≡ number) ⊎ Contains hs number
    places number (zero, within, is) = inl is
    places number (suc k, within, is) = inr (k, omega (arith, within), is)

    own_first : (birth : ℕ) (mine : IsOfHolder colour depth plan (h ∷ hs) birth) → h ≡ mine.number → colour birth ≡ Own depth m.holder.class
    own_first birth mine first =
        mine.own
        ∙ ap (λ (holder : Holder). Own depth holder.class)
        (same_Some mine.holder m.holder (sym mine.is ∙ ap (slice_get plan.holders) (sym first) ∙ m.is))

    of_rest : (birth : ℕ) → once birth ≡ colour birth → (mine : IsOfHolder colour depth plan (h ∷ hs) birth) → Contains hs mine.number
        → IsOfHolder once depth plan hs birth
    of_rest birth stays mine rest = record { number = mine.number; among = rest; holder = mine.holder; is = mine.is; own = stays ∙ mine.own }

    of_later : (birth : ℕ) → once birth ≡ colour birth → IsOfHolder once depth plan hs birth → IsOfHolder colour depth plan (h ∷ hs) birth
    of_later birth stays mine = record {
      number = mine.number;
      among = Contains-later h hs mine.number mine.among;
      holder = mine.holder;
      is = mine.is;
      own = sym stays ∙ mine.own;
    }

    one_more : AreRetired p facts x colour depth plan (h ∷ hs)
    one_more = record {
      other = later.other;
      coloured = later.coloured;
      retired = λ birth mine. ⊎_elim
          (λ (stays : once birth ≡ colour birth). ⊎_elim
          (λ (first : h ≡ mine.number). of_moved birth (own_first birth mine first))
          (λ (rest : Contains hs mine.number). later.retired birth (of_rest birth stays mine rest))
          (places mine.number mine.among))
          (λ (own : colour birth ≡ Own depth m.holder.class). of_moved birth own)
          (moved_cases depth m.holder.class Retired (colour birth));
      or_same = λ birth. ⊎_elim
          (λ (stays : once birth ≡ colour birth). ⊎_elim
          (λ (same : later.other birth ≡ once birth). inl (same ∙ stays))
          (λ (mine : IsOfHolder once depth plan hs birth). inr (of_later birth stays mine))
          (later.or_same birth))
          (λ (own : colour birth ≡ Own depth m.holder.class).
          inr (record { number = h; among = Contains-first h hs h refl; holder = m.holder; is = m.is; own = own }))
          (moved_cases depth m.holder.class Retired (colour birth));
    }

  retire_all : (hs : List ℕ) (colour : Colour) → Coloured p facts x colour → May hs → AreRetired p facts x colour depth plan hs
  retire_all [] colour coloured may = record {
    other = colour;
    coloured = coloured;
    retired = λ birth mine. let within = mine.among.1 in absurd (omega (arith, within));
    or_same = λ birth. inl refl;
  }
  retire_all (h ∷ hs) colour coloured may =
      let m : safe.MayFree facts (typed_method p facts.typing f.method code) plan f.item h = may h (Contains-first h hs h refl) in
      one_more h hs colour m
      (retire_all hs (mapped (moved depth m.holder.class Retired) colour)
      (retire p facts x colour f.method depth m.holder.class coloured stand (over m.holder.class m.quiet)) (λ k among. may k (Contains-later h hs k among)))

pub freed_classes_retire : FreedClassesRetire
freed_classes_retire p facts x colour coloured stand f callers frames_are code code_is plan hs may =
    retire_all p facts x stand f callers frames_are code code_is plan hs colour coloured may

pub retiring_keeps_held : RetiringKeepsHeld
retiring_keeps_held p facts x colour depth plan hs r method item code may other second inserted locals store orderly there are =
    held_by facts.typing x colour r.other other store second inserted locals
    (λ h birth within mine. ⊎_elim
    (λ (same : r.other birth ≡ colour birth). same)
    (λ (theirs : IsOfHolder colour depth plan hs birth).
    absurd (apart h birth mine (get_or inserted.holders h theirs.holder) (slice_get-get_or inserted.holders h theirs.holder within) theirs))
    (r.or_same birth)) are where
      apart : (h birth : ℕ) → HolderHas store second inserted locals h birth → (holder : Holder) → slice_get inserted.holders h ≡ Some holder
          → IsOfHolder colour depth plan hs birth → ⊥
      apart h birth mine holder at theirs =
          let region : Own other holder.class ≡ Own depth theirs.holder.class =
          sym (own_has (looped_at inserted h) store colour other holder.class (holder_value second locals h) birth orderly (are.holds h holder at) mine)
          ∙ theirs.own in
          let depths : other ≡ depth = cc in
          let classes : theirs.holder.class ≡ holder.class = cc in
          let m : safe.MayFree facts (typed_method p facts.typing method code) plan item theirs.number = may theirs.number theirs.among in
          let found : m.holder.class ≡ holder.class = ap (λ (k : Holder). k.class) (same_Some m.holder theirs.holder (sym m.is ∙ theirs.is)) ∙ classes in
          ⊎_elim
          (λ null_is. nothing_has (looped_at inserted h) store birth orderly (subst (λ v. Has (looped_at inserted h) store v birth) null_is mine))
          (λ busy. false≢true (sym m.quiet ∙ ap (λ class. is_busy facts (typed_method p facts.typing method code) class item) found ∙ busy))
          (there depths h holder at)
