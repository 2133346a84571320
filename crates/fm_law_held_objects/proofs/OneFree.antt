-- A frame frees one holder, or all of its chain: what it has is held, and all others hold what they held.
use Rattle.std.proofs.Common.{◌≡◌, ◌≢◌, ◌⊎◌, ◌<◌, ◌+◌, ℕ, zero, suc, Bool, true, false, cond, List, [], ◌∷◌, length, Some, None, Contains, refl, sym, ◌∙◌, ap, subst, inl, inr, arith, slice_get, slice_set, ⊎_elim}
use Rattle.std.specs.Prelude.{nat_eq}
use Rattle.std.specs.List.{AllZip, IsDistinct}
use Rattle.std.proofs.lemmas.Bool.{cases_eq, false≢true}
use Rattle.std.proofs.lemmas.Option.{none-some, slice_get_within}
use Rattle.fm_base.proofs.ContainsFacts.{Contains-cons_cases, Contains-none}
use Rattle.fm_cells.specs.Changes.{freed_by}
use Rattle.fm_cells.specs.Objects.{Object, object_words}
use Rattle.fm_cells.specs.Soundness.{IsOrderly}
use Rattle.fm_cells.specs.Stores.{object_at}
use Rattle.fm_chain.specs.Chained.{looped_at}
use Rattle.fm_code.proofs.EdgesLemmas.{Contains-first}
use Rattle.fm_code.specs.declared.code_array.Code.{Code}
use Rattle.fm_frames.specs.Acts.{all_freed, cell_of, freed, freed_object}
use Rattle.fm_frames.specs.States.{Areas, null, State}
use Rattle.fm_frames.specs.declared.values.Value.{Value}
use Rattle.fm_law_chained.proofs.FreedChains.{links_freed}
use Rattle.fm_law_chained.proofs.Links.{links_stay}
use Rattle.fm_law_chained.proofs.Walked.{chains_are_walked}
use Rattle.fm_law_chained.specs.Chain.{IsLink}
use Rattle.fm_law_chained.specs.Laws.{AreLinksFreed}
use Rattle.fm_law_held_objects.proofs.ContentsBut.{absent_still, has_still, held_but, linked_at, others_held_but, others_still, StaysBut}
use Rattle.fm_law_held_objects.proofs.ContentsKept.{chain_same, nothing_has, null_holds, own_has}
use Rattle.fm_law_held_objects.proofs.HolderSet.{gets_there, has_here, has_there, set_held}
use Rattle.fm_law_held_objects.specs.Contents.{Has, HoldsOneOrAll, HoldsAll}
use Rattle.fm_law_held_objects.specs.Forth.{ChainsAreFreed}
use Rattle.fm_law_held_objects.specs.Freeing.{HoldersAreFreed, IsHadBy, IsOfHolder}
use Rattle.fm_law_held_objects.specs.Held.{AreHeld, HolderHas}
use Rattle.fm_law_holders.specs.Holding.{HasOther, holder_value, Holding, HoldsFixed, HoldsNull, HoldsOwn}
use Rattle.fm_law_sound.specs.Sound.{Typings}
use Rattle.fm_law_two_memories.specs.Pairing.{AreasPaired, Gone}
use Rattle.fm_law_unwoven.proofs.TodoLocals.{freed_one}
use Rattle.fm_law_unwoven.specs.Doing.{areas_after, freed_along, freed_from, locals_after, Misses}
use Rattle.fm_law_unwoven.specs.Laid.{to_free}
use Rattle.fm_place.specs.Insertions.{Holder, Insertions}
use Rattle.fm_place.specs.Woven.{local_of}
use Rattle.fm_same.specs.Colours.{Colour}
use Rattle.fm_same.specs.Regions.{Own}
use Rattle.fm_world.specs.Programs.{Outline}

-- the objects that are freed of a value: those to which it leads, each once, in these cells
record IsFound (code : Code) (stack locals : List Value) (y : Areas) (h : ℕ) (v : Value) (looped : Bool) : Type 0 where
  cells : List ℕ
  births : List ℕ
  links : AllZip (IsLink y.store) cells births
  once : IsDistinct nat_eq births
  mine : (birth : ℕ) → Contains births birth → Has looped y.store v birth
  all : looped ≡ true → (birth : ℕ) → Has looped y.store v birth → Contains births birth
  areas : areas_after code stack locals (to_free looped h) y ≡ all_freed y cells

module _ (gone : Gone) (o : Outline) (typings : Typings) (x : State) (colour : Colour) (depth : ℕ) (y : Areas) (paired : AreasPaired gone o x.areas y) (code : Code) (plan : Insertions) (stack locals : List Value) (had : AreHeld typings x colour depth y.store code plan locals) (width : length locals ≡ code.max_locals + length plan.holders) (h : ℕ) (holder : Holder) (at : slice_get plan.holders h ≡ Some holder) (rest : List ℕ) where
  abbrev v : Value
  v = holder_value code locals h

  abbrev orderly : IsOrderly y.store
  orderly = paired.store.other_orderly

  -- what the areas lead to, where the holder is null then
  abbrev Leads : Areas → List Value → Type 0
  Leads later values = HoldersAreFreed o typings x colour depth code plan (h ∷ rest) gone y later locals values

  abbrev Forth : Areas → List Value → Type 0
  Forth later values = ChainsAreFreed typings x colour depth code plan y later locals values

  inside : h < length plan.holders
  inside = slice_get_within plan.holders h holder at

  -- ---- the holder is null

  nulled : AreHeld typings x colour depth y.store code plan (slice_set locals (local_of code h) null)
  nulled =
      set_held y.store code plan locals width h inside null typings x colour depth had
      (λ found there. null_holds (looped_at plan h) y.store colour depth found.class null refl)
      (λ birth has. absurd (nothing_has (looped_at plan h) y.store birth orderly has))
      (λ k birth within away has theirs. nothing_has (looped_at plan h) y.store birth orderly has)

  -- ---- its objects are freed

  module _ (cells births : List ℕ) (links : AllZip (IsLink y.store) cells births) (once : IsDistinct nat_eq births)
      (mine : (birth : ℕ) → Contains births birth → HolderHas y.store code plan locals h birth) where
    freed_are : AreLinksFreed gone o x.areas y cells births
    freed_are = links_freed o x.areas cells births gone y paired links once

    but : StaysBut births y.store (all_freed y cells).store
    but = record {
      orderly = orderly;
      later_orderly = freed_are.areas.store.other_orderly;
      stays = freed_are.kept;
      was = λ cell object held. record { old = object; held = freed_are.before cell object held; born = refl; fixed = refl };
      loose = linked_at y.store cells births links;
    }

    own_region : (birth : ℕ) → Contains births birth → colour birth ≡ Own depth holder.class
    own_region birth among = own_has (looped_at plan h) y.store colour depth holder.class v birth orderly (had.holds h holder at) (mine birth among)

    own : (birth : ℕ) → Contains births birth → (class : ℕ) × (colour birth ≡ Own depth class)
    own birth among = (holder.class, own_region birth among)

    -- no holder has them then
    none : (k birth : ℕ) → k < length plan.holders → Contains births birth → HolderHas y.store code plan (slice_set locals (local_of code h) null) k birth → ⊥
    none k birth within among has = ⊎_elim
        (λ (same : k ≡ h).
        nothing_has (looped_at plan h) y.store birth orderly (has_here y.store code plan locals width h inside null k birth same has))
        (λ (away : k ≢ h).
        away (had.apart k h birth within inside (has_there y.store code plan locals width h inside null k birth away has) (mine birth among)))
        (cases_eq k h)

    of_holder : (birth : ℕ) → Contains births birth → IsOfHolder colour depth plan (h ∷ rest) birth
    of_holder birth among =
        record { number = h; among = Contains-first h rest h refl; holder = holder; is = at; own = own_region birth among }

    had_by : (birth : ℕ) → Contains births birth → IsHadBy y.store code plan locals (h ∷ rest) birth
    had_by birth among = record { number = h; among = Contains-first h rest h refl; has = mine birth among }

    had_back : (looped : Bool) (w : Value) (birth : ℕ) → Has looped (all_freed y cells).store w birth → Has looped y.store w birth
    had_back false w birth has =
        record { object = has.object; held = freed_are.before (cell_of w) has.object has.held; not_fixed = has.not_fixed; birth_is = has.birth_is }
    had_back true w birth has = record {
      births = has.births;
      chain = links_stay (all_freed y cells).store y.store (cell_of w) has.births
          (λ cell object held among. record { now = object; held = freed_are.before cell object held; born = refl; fixed = refl; chain = refl }) has.chain;
      among = has.among;
    }

    leads : Leads (all_freed y cells) (slice_set locals (local_of code h) null)
    leads = record {
      more = freed_are.more;
      paired = freed_are.areas;
      frames = freed_are.frames;
      was = λ birth is. ⊎_elim (λ before. inl before) (λ among. inr (of_holder birth among)) (freed_are.was birth is);
      had = λ birth is. ⊎_elim (λ before. inl before) (λ among. inr (had_by birth among)) (freed_are.was birth is);
      stays = freed_are.stays;
      words = freed_are.words;
      held = held_but births y.store (all_freed y cells).store but typings x colour depth code plan (slice_set locals (local_of code h) null) none nulled;
      others = λ other second inserted values apart are.
          others_held_but births y.store (all_freed y cells).store but typings x colour depth own other second inserted values apart are;
      back = had_back;
    }

    -- ---- and what becomes of what chains had

    lacks : (birth : ℕ) → Contains births birth → (cell : ℕ) → HasOther (all_freed y cells).store birth cell
    lacks birth among cell object held same =
        false≢true (sym (freed_are.areas.store.absent cell object held) ∙ ap freed_are.more.births same ∙ freed_are.gone_now birth among)

    forth : (looped_at plan h ≡ true → (birth : ℕ) → HolderHas y.store code plan locals h birth → Contains births birth)
        → Forth (all_freed y cells) (slice_set locals (local_of code h) null)
    forth all = record {
      stays = λ k birth within loops has. ⊎_elim
          (λ (same : k ≡ h).
          inr (lacks birth
          (all (ap (looped_at plan) (sym same) ∙ loops) birth (subst (λ n. HolderHas y.store code plan locals n birth) same has))))
          (λ (away : k ≢ h).
          inl (has_still births y.store (all_freed y cells).store but (looped_at plan k)
          (holder_value code (slice_set locals (local_of code h) null) k) birth (λ b among theirs. none k b within among theirs)
          (gets_there y.store code plan locals width h inside null k birth away has)))
          (cases_eq k h);
      others = λ other second inserted values apart are k birth within has.
          others_still births y.store (all_freed y cells).store but typings x colour depth own other second inserted values apart are k birth within has;
      absent = λ birth none_of cell. absent_still births y.store (all_freed y cells).store but birth none_of cell;
    }

  -- ---- whatever the holder has

  from_is : (c : ℕ) (object : Object) → object_at y.store c ≡ Some object → freed_from y c ≡ freed y c
  from_is zero object held = absurd (none-some object (sym orderly.null_not_held ∙ held))
  from_is (suc c) object held = refl

  plain_found : (class : ℕ) → Holding y.store colour depth class v → IsFound code stack locals y h v false
  unfolding IsDistinct
  plain_found class (HoldsNull null_is) = record {
    cells = [];
    births = [];
    links = tt;
    once = tt;
    mine = λ birth among. absurd (Contains-none birth among);
    all = λ is. absurd (false≢true is);
    areas = ap (λ w. freed_from y (cell_of w)) null_is;
  }
  plain_found class (HoldsFixed object held fixed) = record {
    cells = [];
    births = [];
    links = tt;
    once = tt;
    mine = λ birth among. absurd (Contains-none birth among);
    all = λ is. absurd (false≢true is);
    areas = from_is (cell_of v) object held ∙ ap (freed_object y (cell_of v)) held
        ∙ ap (λ b. cond b y (record y { store = freed_by y.store (cell_of v); frees = y.frees + 1; freed_words = y.freed_words + object_words object })) fixed;
  }
  plain_found class (HoldsOwn object held loose own) = record {
    cells = cell_of v ∷ [];
    births = object.birth ∷ [];
    links = (record { object = object; held = held; loose = loose; born = refl }, tt);
    once = (tt, tt);
    mine = λ birth among. ⊎_elim
        (λ (same : birth ≡ object.birth). record { object = object; held = held; not_fixed = loose; birth_is = sym same })
        (λ (later : Contains [] birth). absurd (Contains-none birth later))
        (Contains-cons_cases object.birth [] birth among);
    all = λ is. absurd (false≢true is);
    areas = from_is (cell_of v) object held;
  }

  chain_found : (class : ℕ) → HoldsAll y.store colour depth class v → IsFound code stack locals y h v true
  chain_found class holds =
      let walked = chains_are_walked y.store (cell_of v) holds.births orderly holds.chain holds.once in
      record {
        cells = walked.cells;
        births = holds.births;
        links = walked.links;
        once = holds.once;
        mine = λ birth among. record { births = holds.births; chain = holds.chain; among = among };
        all = λ is birth has.
            subst (λ births. Contains births birth) (chain_same y.store (cell_of v) has.births holds.births orderly has.chain holds.chain) has.among;
        areas = ap (freed_along y) walked.found;
      }

  found_by : (looped : Bool) → HoldsOneOrAll looped y.store colour depth holder.class v → IsFound code stack locals y h v looped
  found_by false holds = plain_found holder.class holds
  found_by true holds = chain_found holder.class holds

  pub one_free : Leads (areas_after code stack locals (to_free (looped_at plan h) h) y) (locals_after code stack (to_free (looped_at plan h) h) locals)
  one_free =
      let f = found_by (looped_at plan h) (had.holds h holder at) in
      subst (Leads (areas_after code stack locals (to_free (looped_at plan h) h) y)) (sym (freed_one code stack (looped_at plan h) h locals))
      (subst (λ later. Leads later (slice_set locals (local_of code h) null)) (sym f.areas) (leads f.cells f.births f.links f.once f.mine))

  pub one_forth : Forth (areas_after code stack locals (to_free (looped_at plan h) h) y) (locals_after code stack (to_free (looped_at plan h) h) locals)
  one_forth =
      let f = found_by (looped_at plan h) (had.holds h holder at) in
      subst (Forth (areas_after code stack locals (to_free (looped_at plan h) h) y)) (sym (freed_one code stack (looped_at plan h) h locals))
      (subst (λ later. Forth later (slice_set locals (local_of code h) null)) (sym f.areas) (forth f.cells f.births f.links f.once f.mine f.all))

  -- ---- nothing is lost

  lost_by : (cell : ℕ) → Holding y.store colour depth holder.class v → cell_of v ≡ suc cell → object_at y.store (suc cell) ≡ None → ⊥
  lost_by cell (HoldsNull null_is) is lost = let zero_is : suc cell ≡ 0 = sym is ∙ ap cell_of null_is in absurd (omega (arith, zero_is))
  lost_by cell (HoldsFixed object held fixed) is lost = none-some object (sym lost ∙ ap (object_at y.store) (sym is) ∙ held)
  lost_by cell (HoldsOwn object held loose own) is lost = none-some object (sym lost ∙ ap (object_at y.store) (sym is) ∙ held)

  missed_by : (looped : Bool) → HoldsOneOrAll looped y.store colour depth holder.class v → Misses code y stack locals (to_free looped h) → ⊥
  missed_by false holds misses = lost_by misses.0 holds misses.1 misses.2
  missed_by true holds misses =
      let walked = chains_are_walked y.store (cell_of v) holds.births orderly holds.chain holds.once in
      none-some walked.cells (sym misses ∙ walked.found)

  -- what it has is held
  pub not_lost : Misses code y stack locals (to_free (looped_at plan h) h) → ⊥
  not_lost misses = missed_by (looped_at plan h) (had.holds h holder at) misses
