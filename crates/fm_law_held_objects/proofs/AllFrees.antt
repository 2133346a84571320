-- A frame frees several holders, one after the other.
use Rattle.std.proofs.Common.{◌≡◌, ◌≢◌, ◌⊎◌, ◌+◌, ◌<◌, ℕ, List, [], ◌∷◌, ◌++◌, length, refl, ◌∙◌, ap, subst, inl, inr, arith, slice_set, ⊎_elim}
use Rattle.std.proofs.lemmas.Bool.{cases_eq}
use Rattle.std.proofs.lemmas.List.{length-set}
use Rattle.std.proofs.lemmas.Option.{slice_get_within}
use Rattle.fm_chain.specs.Chained.{looped_at}
use Rattle.fm_code.proofs.EdgesLemmas.{Contains-first, Contains-later}
use Rattle.fm_code.specs.declared.code_array.Code.{Code}
use Rattle.fm_frames.specs.States.{Areas, null, State}
use Rattle.fm_frames.specs.declared.values.Value.{Value}
use Rattle.fm_law_held_objects.proofs.ContentsKept.{nothing_has}
use Rattle.fm_law_held_objects.proofs.HolderSet.{has_here, has_there}
use Rattle.fm_law_held_objects.proofs.OneFree.{not_lost, one_forth, one_free}
use Rattle.fm_law_held_objects.specs.Forth.{FreesEmptyChains, ChainsAreFreed}
use Rattle.fm_law_held_objects.specs.Freeing.{HoldersAreFreed, IsHadBy, IsOfHolder}
use Rattle.fm_law_held_objects.specs.Held.{AreHeld, HolderHas}
use Rattle.fm_law_held_objects.specs.Laws.{AreThere, frees_of, FreesKeepHeld, NothingIsLost}
use Rattle.fm_law_holders.specs.Holding.{HasOther, holder_value}
use Rattle.fm_law_sound.specs.Sound.{Typings}
use Rattle.fm_law_two_memories.specs.Pairing.{AreasPaired, Gone}
use Rattle.fm_law_unwoven.proofs.TodoLocals.{freed_one}
use Rattle.fm_law_unwoven.specs.Doing.{all_areas_after, all_locals_after, areas_after, locals_after, Misses}
use Rattle.fm_law_unwoven.specs.Laid.{to_free, Todo}
use Rattle.fm_place.specs.Insertions.{Insertions}
use Rattle.fm_place.specs.Woven.{local_of}
use Rattle.fm_same.specs.Colours.{Colour}
use Rattle.fm_world.specs.Programs.{Outline}

module _ (o : Outline) (typings : Typings) (x : State) (colour : Colour) (depth : ℕ) (code : Code) (plan : Insertions) (stack : List Value) where
  -- a birth of the later ones
  widened : (h : ℕ) (hs : List ℕ) (birth : ℕ) → IsOfHolder colour depth plan hs birth → IsOfHolder colour depth plan (h ∷ hs) birth
  widened h hs birth mine = record {
    number = mine.number;
    among = Contains-later h hs mine.number mine.among;
    holder = mine.holder;
    is = mine.is;
    own = mine.own;
  }

  abbrev Wide : List Value → Type 0
  Wide locals = length locals ≡ code.max_locals + length plan.holders

  abbrev Leads : (hs : List ℕ) → Gone → (y later : Areas) → (locals values : List Value) → Type 0
  Leads hs gone y later locals values = HoldersAreFreed o typings x colour depth code plan hs gone y later locals values

  -- what the holder leaves
  abbrev then_locals : ℕ → List Value → List Value
  then_locals h locals = locals_after code stack (to_free (looped_at plan h) h) locals

  abbrev then_areas : ℕ → List Value → Areas → Areas
  then_areas h locals y = areas_after code stack locals (to_free (looped_at plan h) h) y

  nulled : (h : ℕ) (locals : List Value) → Wide locals → Wide (locals_after code stack (to_free (looped_at plan h) h) locals)
  nulled h locals width = ap length (freed_one code stack (looped_at plan h) h locals) ∙ length-set locals (local_of code h) null ∙ width

  -- one free, and then the others
  module _ (h : ℕ) (hs : List ℕ) (gone : Gone) (y middle later : Areas) (locals values : List Value)
      (a : Leads (h ∷ hs) gone y middle locals (locals_after code stack (to_free (looped_at plan h) h) locals))
      (b : Leads hs a.more middle later (locals_after code stack (to_free (looped_at plan h) h) locals) values)
      (there : (k : ℕ) (birth : ℕ) → HolderHas y.store code plan (slice_set locals (local_of code h) null) k birth → HolderHas y.store code plan locals k birth) where
    -- what a later one has then it had before the first free
    had_before : (birth : ℕ) → IsHadBy middle.store code plan (locals_after code stack (to_free (looped_at plan h) h) locals) hs birth
        → IsHadBy y.store code plan locals (h ∷ hs) birth
    had_before birth mine = record {
      number = mine.number;
      among = Contains-later h hs mine.number mine.among;
      has = there mine.number birth
          (subst (λ ls. HolderHas y.store code plan ls mine.number birth) (freed_one code stack (looped_at plan h) h locals)
          (a.back (looped_at plan mine.number) (holder_value code (then_locals h locals) mine.number) birth mine.has));
    }

    both_freed : Leads (h ∷ hs) gone y later locals values
    both_freed = record {
      more = b.more;
      paired = b.paired;
      frames = λ fs gs are. b.frames fs gs (a.frames fs gs are);
      was = λ birth is. ⊎_elim (λ before. a.was birth before) (λ mine. inr (widened h hs birth mine)) (b.was birth is);
      had = λ birth is. ⊎_elim (λ before. a.had birth before) (λ mine. inr (had_before birth mine)) (b.had birth is);
      stays = λ birth is. b.stays birth (a.stays birth is);
      words = let first = a.words in let second = b.words in omega (arith, first, second);
      held = b.held;
      others = λ other second inserted held apart are. b.others other second inserted held apart (a.others other second inserted held apart are);
      back = λ looped v birth has. a.back looped v birth (b.back looped v birth has);
    }

  -- what a holder has once another one is null it had before
  had_there : (gone : Gone) (y : Areas) → AreasPaired gone o x.areas y → (locals : List Value) → Wide locals → (h : ℕ) → h < length plan.holders → (k birth : ℕ)
      → HolderHas y.store code plan (slice_set locals (local_of code h) null) k birth → HolderHas y.store code plan locals k birth
  had_there gone y paired locals width h inside k birth has = ⊎_elim
      (λ (same : k ≡ h).
      absurd (nothing_has (looped_at plan h) y.store birth paired.store.other_orderly
      (has_here y.store code plan locals width h inside null k birth same has)))
      (λ (away : k ≢ h). has_there y.store code plan locals width h inside null k birth away has) (cases_eq k h)

  all_freed : (hs : List ℕ) (gone : Gone) (y : Areas) → AreasPaired gone o x.areas y → AreThere plan hs → (locals : List Value) → Wide locals
      → AreHeld typings x colour depth y.store code plan locals
      → Leads hs gone y (all_areas_after code stack (frees_of plan hs) locals y) locals (all_locals_after code stack (frees_of plan hs) locals)
  all_freed [] gone y paired there locals width had = record {
    more = gone;
    paired = paired;
    frames = λ fs gs are. are;
    was = λ birth is. inl is;
    had = λ birth is. inl is;
    stays = λ birth is. is;
    words = refl;
    held = had;
    others = λ other second inserted values apart are. are;
    back = λ looped v birth has. has;
  }
  all_freed (h ∷ hs) gone y paired there locals width had =
      let found = there h (Contains-first h hs h refl) in
      let first = one_free gone o typings x colour depth y paired code plan stack locals had width h found.0 found.1 hs in
      let later = all_freed hs first.more (then_areas h locals y) first.paired (λ k among. there k (Contains-later h hs k among)) (then_locals h locals)
      (nulled h locals width) first.held in
      both_freed h hs gone y (then_areas h locals y) (all_areas_after code stack (frees_of plan (h ∷ hs)) locals y) locals
      (all_locals_after code stack (frees_of plan (h ∷ hs)) locals) first later
      (had_there gone y paired locals width h (slice_get_within plan.holders h found.0 found.1))

  -- what chains had they have, or it is gone
  all_forth : (hs : List ℕ) (gone : Gone) (y : Areas) → AreasPaired gone o x.areas y → AreThere plan hs → (locals : List Value) → Wide locals
      → AreHeld typings x colour depth y.store code plan locals
      → ChainsAreFreed typings x colour depth code plan y (all_areas_after code stack (frees_of plan hs) locals y) locals
      (all_locals_after code stack (frees_of plan hs) locals)
  all_forth [] gone y paired there locals width had = record {
    stays = λ h birth within loops has. inl has;
    others = λ other second inserted values apart are h birth within has. has;
    absent = λ birth none cell. none cell;
  }
  all_forth (h ∷ hs) gone y paired there locals width had =
      let found = there h (Contains-first h hs h refl) in
      let first = one_free gone o typings x colour depth y paired code plan stack locals had width h found.0 found.1 hs in
      let forth = one_forth gone o typings x colour depth y paired code plan stack locals had width h found.0 found.1 hs in
      let later = all_forth hs first.more (then_areas h locals y) first.paired (λ k among. there k (Contains-later h hs k among)) (then_locals h locals)
      (nulled h locals width) first.held in
      record {
        stays = λ k birth within loops has. ⊎_elim
            (λ (here : HolderHas (then_areas h locals y).store code plan (then_locals h locals) k birth). later.stays k birth within loops here)
            (λ (none : (cell : ℕ) → HasOther (then_areas h locals y).store birth cell). inr (later.absent birth none))
            (forth.stays k birth within loops has);
        others = λ other second inserted values apart are k birth within has.
            later.others other second inserted values apart (first.others other second inserted values apart are) k birth within
            (forth.others other second inserted values apart are k birth within has);
        absent = λ birth none. later.absent birth (forth.absent birth none);
      }

  none_lost : (hs : List ℕ) (gone : Gone) (y : Areas) → AreasPaired gone o x.areas y → AreThere plan hs → (locals : List Value) → Wide locals
      → AreHeld typings x colour depth y.store code plan locals
      → (before : List Todo) (todo : Todo) (behind : List Todo) → frees_of plan hs ≡ before ++ todo ∷ behind
      → Misses code (all_areas_after code stack before locals y) stack (all_locals_after code stack before locals) todo → ⊥
  none_lost [] gone y paired there locals width had [] todo behind is misses = absurd (cc)
  none_lost [] gone y paired there locals width had (t ∷ before) todo behind is misses = absurd (cc)
  none_lost (h ∷ hs) gone y paired there locals width had [] todo behind is misses =
      let same : todo ≡ to_free (looped_at plan h) h = cc in
      let found = there h (Contains-first h hs h refl) in
      not_lost gone o typings x colour depth y paired code plan stack locals had width h found.0 found.1 hs
      (subst (Misses code y stack locals) same misses)
  none_lost (h ∷ hs) gone y paired there locals width had (t ∷ before) todo behind is misses =
      let same : t ≡ to_free (looped_at plan h) h = cc in
      let others : frees_of plan hs ≡ before ++ todo ∷ behind = cc in
      let found = there h (Contains-first h hs h refl) in
      let first = one_free gone o typings x colour depth y paired code plan stack locals had width h found.0 found.1 hs in
      none_lost hs first.more (then_areas h locals y) first.paired (λ k among. there k (Contains-later h hs k among)) (then_locals h locals)
      (nulled h locals width) first.held before todo behind others
      (subst (λ u. Misses code (all_areas_after code stack (u ∷ before) locals y) stack (all_locals_after code stack (u ∷ before) locals) todo) same misses)

pub frees_keep_held : FreesKeepHeld
frees_keep_held gone o typings x colour depth y paired code plan g hs there width had =
    all_freed o typings x colour depth code plan g.stack hs gone y paired there g.locals width had

pub frees_empty_chains : FreesEmptyChains
frees_empty_chains gone o typings x colour depth y paired code plan g hs there width had =
    all_forth o typings x colour depth code plan g.stack hs gone y paired there g.locals width had

pub nothing_is_lost : NothingIsLost
nothing_is_lost gone o typings x colour depth y paired code plan g hs there width had l =
    none_lost o typings x colour depth code plan g.stack hs gone y paired there g.locals width had l.before l.todo l.behind l.is l.misses
