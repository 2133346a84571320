-- A new result may be kept: its holder holds an object of its own, which no other holder of the frame holds.
use Rattle.std.proofs.Common.{◌≡◌, ℕ, suc, ◌+◌, ◌-◌, ◌<◌, Bool, true, false, ◌∷◌, length, Some, refl, sym, ◌∙◌, ap, subst, inl, inr, arith, ◌≢◌, ◌⊎◌, List, get_or, slice_get, slice_set, ⊎_elim}
use Rattle.std.specs.Prelude.{is_some}
use Rattle.std.proofs.lemmas.Bool.{cases_eq, false≢true}
use Rattle.std.proofs.lemmas.List.{get_or-set_other, get_or-set_same}
use Rattle.std.proofs.lemmas.Option.{none-some, same_Some, slice_get-get_or, slice_get_within}
use Rattle.fm_base.proofs.TestFacts.{and_left, and_right}
use Rattle.fm_cells.specs.Objects.{Object}
use Rattle.fm_cells.specs.Soundness.{IsOrderly}
use Rattle.fm_cells.specs.Stores.{object_at, Store}
use Rattle.fm_conn.specs.Facts.{Facts}
use Rattle.fm_conn.specs.Links.{typed_method}
use Rattle.fm_conn.specs.Nodes.{depth_at, IsNode, Slot, TypedMethod}
use Rattle.fm_place.specs.Insertions.{Holder, Insertions}
use Rattle.fm_place.specs.Woven.{local_of}
use Rattle.fm_place.specs.Sites.{is_captured, site_class, site_kind, site_node}
use Rattle.fm_types.specs.States.{TypeState}
use Rattle.fm_types.specs.Typed.{state_at}
use Rattle.fm_types.specs.declared.slots.Slot.TheVariants as slot
use Rattle.fm_frames.specs.Acts.{cell_of}
use Rattle.fm_frames.specs.States.{Frame, State}
use Rattle.fm_frames.specs.declared.values.Value.{Value}
use Rattle.fm_frames.specs.declared.values.Value.TheVariants as value
use Rattle.fm_law_no_fault.specs.Whole.{lowest}
use Rattle.fm_law_sound.specs.Sound.{IsReference}
use Rattle.fm_same.proofs.CapturedClasses.{captured_is_own}
use Rattle.fm_same.proofs.SiteNodes.{sites_are_nodes}
use Rattle.fm_same.specs.Colours.{AreFramesColoured, Colour, HasColour, IsFixed, IsNull, node_of_word, OfNull, OfObject, region_of}
use Rattle.fm_same.specs.Regions.{Own}
use Rattle.fm_same.specs.Standing.{Stand}
use Rattle.fm_code.specs.declared.code_array.Code.{Code}
use Rattle.fm_law_holders.proofs.ApartPlaces.{zip_found}
use Rattle.fm_law_holders.specs.Holding.{holder_value, HoldersHold, Holding, HoldsFixed, HoldsNull, HoldsOwn, IsUnshared, HoldsFreeable}
use Rattle.fm_law_holders.specs.Laws.{KeepingKeepsHolders, KeptResultsAreOwn, NewResultsAreUnheld}
use Rattle.fm_law_holders.specs.NewResults.{IsBorn, IsBuilt, IsCallees, IsHeldByAll, IsNew, KeepsObjects, frame_behind, HasNewResult, IsApart}
use Rattle.fm_law_holders.specs.Uninitialised.{AreMadeIn, IsMadeAt, Made, ValueIsMade}

-- ---- the result is of the region of its site's class

own_holding : (store : Store) (colour : Colour) (depth class : ℕ) (v : Value) → IsReference v → HasColour store colour (Own depth class) v
    → Holding store colour depth class v
own_holding store colour depth class (value.Ref cell) leads (OfNull none) = HoldsNull (ap (λ c. value.Ref (record { 0 = c })) none)
own_holding store colour depth class (value.Ref cell) leads (OfObject object held (inl fixed)) = HoldsFixed object held fixed
own_holding store colour depth class (value.Ref cell) leads (OfObject object held (inr own)) = by_fixed object.fixed refl where
  by_fixed : (b : Bool) → object.fixed ≡ b → Holding store colour depth class (value.Ref cell)
  by_fixed true fixed = HoldsFixed object held fixed
  by_fixed false loose = HoldsOwn object held loose own
own_holding store colour depth class value.Top leads has = absurd leads
own_holding store colour depth class (value.Int n) leads has = absurd leads
own_holding store colour depth class (value.Long n) leads has = absurd leads

pub kept_results_are_own : KeptResultsAreOwn
kept_results_are_own p facts exact steps x next colour other known f callers h coloured stand code code_is site =
    let xm : TypedMethod = typed_method p facts.typing f.method code in
    let class : ℕ = site_class facts xm f.item in
    let g : Frame = record f { item = f.item + 1; stack = h.result ∷ h.below } in
    let stands : Stand p facts (g ∷ callers) = subst (Stand p facts) h.frames_are stand in
    let frames : AreFramesColoured p.outline facts next.areas.store other (g ∷ callers) =
    subst (AreFramesColoured p.outline facts next.areas.store other) h.frames_are coloured.frames in
    let is_site : is_some (site_kind facts xm f.item) ≡ true = and_left (is_some (site_kind facts xm f.item)) (is_captured facts xm class) site in
    let captured : is_captured facts xm class ≡ true = and_right (is_some (site_kind facts xm f.item)) (is_captured facts xm class) site in
    let size : length (h.result ∷ h.below) - 1 - 0 ≡ depth_at xm (f.item + 1) - 1 = let deep = stands.0.depth in omega (arith, deep) in
    let top : node_of_word g 0 ≡ site_node xm f.item = ap (λ depth. Slot (f.item + 1) depth) size in
    let node : IsNode xm (site_node xm f.item) =
    sites_are_nodes p facts f.method code (facts.typing f.method) steps code_is (exact.methods f.method code code_is).typing f.item is_site in
    let leads : IsReference h.result = stands.0.at.is_reference 0 h.result refl (subst (IsNode xm) (sym top) node) in
    let has : HasColour next.areas.store other (region_of p.outline facts g callers (node_of_word g 0)) h.result = frames.0.words 0 h.result refl in
    own_holding next.areas.store other (length callers) class h.result leads
    (subst (λ r. HasColour next.areas.store other r h.result)
    (ap (λ node. region_of p.outline facts g callers node) top ∙ captured_is_own facts xm callers class captured) has)

-- ---- no holder has it yet

module _ (facts : Facts) (x : State) (colour : Colour) (made : Made) (known : TypeState) (f : Frame) (depth : ℕ) (later : Store) (orderly : IsOrderly later) (are : AreMadeIn x.areas.store made known f) (kept : KeepsObjects x.areas.store later) (store : Store) (own_orderly : IsOrderly store) (births : store.births ≡ x.areas.store.births) (class : ℕ) (v : Value) (holding : Holding store colour depth class v) (unshared : (birth : ℕ) → HoldsFreeable store v birth → IsUnshared facts x.areas.store known f birth) where
  -- what a holder holds was born before
  born_before : (birth : ℕ) → HoldsFreeable store v birth → birth < x.areas.store.births
  born_before birth h =
      let old = own_orderly.born (cell_of v) h.object h.held in
      let same = h.birth_is in
      omega (arith, old, same, births)

  -- and is of a region of the frame
  own_region : (birth : ℕ) → HoldsFreeable store v birth → colour birth ≡ Own depth class
  own_region birth h = by_holding holding where
    by_holding : Holding store colour depth class v → colour birth ≡ Own depth class
    by_holding (HoldsNull null_is) =
        absurd (none-some h.object (sym own_orderly.null_not_held ∙ ap (λ w. object_at store (cell_of w)) (sym null_is) ∙ h.held))
    by_holding (HoldsFixed object held fixed) =
        absurd (false≢true (sym h.not_fixed ∙ ap (λ (o : Object). o.fixed) (same_Some h.object object (sym h.held ∙ held)) ∙ fixed))
    by_holding (HoldsOwn object held loose own) =
        ap colour (sym h.birth_is ∙ ap (λ (o : Object). o.birth) (same_Some h.object object (sym h.held ∙ held))) ∙ own

  pub unheld : (cell : ℕ) → IsNew x colour known f depth later cell → (object : Object) → object_at later cell ≡ Some object → object.fixed ≡ false
      → HoldsFreeable store v object.birth → ⊥
  unheld cell (IsHeldByAll (IsNull none)) object held loose h =
      none-some object (sym orderly.null_not_held ∙ ap (λ c. object_at later c) (sym none) ∙ held)
  unheld cell (IsHeldByAll (IsFixed other there fixed)) object held loose h =
      false≢true (sym loose ∙ ap (λ (o : Object). o.fixed) (same_Some object other (sym held ∙ there)) ∙ fixed)
  unheld cell (IsBorn other there since) object held loose h =
      let same = ap (λ (o : Object). o.birth) (same_Some object other (sym held ∙ there)) in
      let before = born_before object.birth h in
      absurd (omega (arith, same, before, since))
  unheld cell (IsCallees other there higher own) object held loose h =
      let same : object.birth ≡ other.birth = ap (λ (o : Object). o.birth) (same_Some object other (sym held ∙ there)) in
      let region : Own (suc depth) higher ≡ Own depth class = sym own ∙ ap colour (sym same) ∙ own_region object.birth h in
      let depths : suc depth ≡ depth = cc in
      absurd (omega (arith, depths))
  unheld cell (IsBuilt unbuilt) object held loose h =
      let apart : IsUnshared facts x.areas.store known f object.birth = unshared object.birth h in
      let made_there = zip_found (ValueIsMade x.areas.store made) (lowest (length f.stack) known.stack) f.stack unbuilt.place (slot.Uninit unbuilt.item) are.in_stack unbuilt.slot_is in
      let is : IsMadeAt x.areas.store made unbuilt.item (cell_of made_there.0) = made_there.2 in
      let at_cell : cell_of made_there.0 ≡ cell = ap cell_of (same_Some made_there.0 unbuilt.value (sym made_there.1 ∙ unbuilt.value_is)) ∙ unbuilt.leads in
      let stays = kept (cell_of made_there.0) is.object is.held in
      let found : stays.0 ≡ object = same_Some stays.0 object (sym stays.1 ∙ ap (λ c. object_at later c) at_cell ∙ held) in
      apart.in_stack unbuilt.place unbuilt.item made_there.0 unbuilt.slot_is made_there.1 is.object is.held
      (sym stays.2 ∙ ap (λ (o : Object). o.birth) found)

pub new_results_are_unheld : NewResultsAreUnheld
new_results_are_unheld facts x next colour made known f callers h orderly are store own_orderly births class v holding unshared birth result held =
    unheld facts x colour made known f (length callers) next.areas.store orderly are h.kept store own_orderly births class v holding unshared (cell_of h.result) h.new
    result.object result.held result.not_fixed (subst (HoldsFreeable store v) (sym result.birth_is) held)

-- ---- a holder gets it

cases_kept : (plan : Insertions) (kept h : ℕ) (holder found : Holder) → slice_get plan.holders kept ≡ Some holder → h ≡ kept
    → slice_get plan.holders h ≡ Some found → found ≡ holder
cases_kept plan kept h holder found at same there = same_Some found holder (sym there ∙ ap (slice_get plan.holders) same ∙ at)

module _ (facts : Facts) (x next : State) (colour other : Colour) (made : Made) (known after : TypeState) (f : Frame) (callers : List Frame)
    (r : HasNewResult facts x next colour known f callers) (orderly : IsOrderly next.areas.store) (are : AreMadeIn x.areas.store made known f)
    (after_is : state_at (facts.typing f.method) (f.item + 1) ≡ Some after) (before later : Store) (before_orderly : IsOrderly before)
    (later_orderly : IsOrderly later) (births : before.births ≡ x.areas.store.births) (stays : KeepsObjects before later) (code : Code) (plan : Insertions)
    (locals : List Value) (had : HoldersHold facts colour x.areas.store known f (length callers) before code plan locals)
    (have : HoldersHold facts other next.areas.store after (frame_behind f (r.result ∷ r.below)) (length callers) later code plan locals)
    (width : length locals ≡ code.max_locals + length plan.holders) (kept : ℕ) (holder : Holder) (at : slice_get plan.holders kept ≡ Some holder) (w : Value)
    (holding : Holding later other (length callers) holder.class w) (leads : (birth : ℕ) → HoldsFreeable later w birth → HoldsFreeable next.areas.store r.result birth) where
  abbrev changed : List Value
  changed = slice_set locals (local_of code kept) w

  inside : kept < length plan.holders
  inside = slice_get_within plan.holders kept holder at

  -- the holder's value, and those of the others
  value_here : (h : ℕ) → h ≡ kept → holder_value code changed h ≡ w
  value_here h same =
      let within = inside in
      ap (holder_value code changed) same ∙ get_or-set_same locals (local_of code kept) w value.Top (omega (arith, within, width))

  value_there : (h : ℕ) → h ≢ kept → holder_value code changed h ≡ holder_value code locals h
  value_there h apart =
      get_or-set_other locals (local_of code kept) (local_of code h) w value.Top (λ same. apart (omega (arith, same)))

  -- what a holder has then it had before the step
  had_before : (h birth : ℕ) → h < length plan.holders → HoldsFreeable later (holder_value code locals h) birth → HoldsFreeable before (holder_value code locals h) birth
  had_before h birth within may = by_holder (slice_get-get_or plan.holders h holder within) where
    v : Value
    v = holder_value code locals h

    by_value : (class : ℕ) → Holding before colour (length callers) class v → HoldsFreeable before v birth
    by_value class (HoldsNull none) =
        absurd (none-some may.object (sym later_orderly.null_not_held ∙ ap (λ u. object_at later (cell_of u)) (sym none) ∙ may.held))
    by_value class (HoldsFixed object held fixed) =
        let now = stays (cell_of v) object held in
        absurd (false≢true (sym may.not_fixed ∙ ap (λ (o : Object). o.fixed) (same_Some may.object now.0 (sym may.held ∙ now.1)) ∙ now.3 ∙ fixed))
    by_value class (HoldsOwn object held loose own) =
        let now = stays (cell_of v) object held in
        record {
          object = object;
          held = held;
          not_fixed = loose;
          birth_is = sym now.2 ∙ ap (λ (o : Object). o.birth) (same_Some now.0 may.object (sym now.1 ∙ may.held)) ∙ may.birth_is;
        }

    by_holder : slice_get plan.holders h ≡ Some (get_or plan.holders h holder) → HoldsFreeable before v birth
    by_holder found = by_value (get_or plan.holders h holder).class (had.holds h (get_or plan.holders h holder) found)

  -- no other holder has what this one gets
  other_has : (h birth : ℕ) → h < length plan.holders → HoldsFreeable later w birth → HoldsFreeable later (holder_value code locals h) birth → ⊥
  other_has h birth within mine his =
      let found = slice_get-get_or plan.holders h holder within in
      new_results_are_unheld facts x next colour made known f callers r orderly are before before_orderly births (get_or plan.holders h holder).class
      (holder_value code locals h) (had.holds h (get_or plan.holders h holder) found) (λ other_birth may. had.unshared h other_birth within may) birth
      (leads birth mine) (had_before h birth within his)

  here_or_there : (h : ℕ) → (h ≡ kept) ⊎ (h ≢ kept)
  here_or_there h = cases_eq h kept

  own_may : (h birth : ℕ) → h ≡ kept → HoldsFreeable later (holder_value code changed h) birth → HoldsFreeable later w birth
  own_may h birth same may = subst (λ v. HoldsFreeable later v birth) (value_here h same) may

  old_may : (h birth : ℕ) → h ≢ kept → HoldsFreeable later (holder_value code changed h) birth → HoldsFreeable later (holder_value code locals h) birth
  old_may h birth apart may = subst (λ v. HoldsFreeable later v birth) (value_there h apart) may

  -- what the frame still has to initialise is another object
  unshared_result : (birth : ℕ) → HoldsFreeable later w birth
      → IsUnshared facts next.areas.store after (frame_behind f (r.result ∷ r.below)) birth
  unshared_result birth may = record {
    in_locals = λ k item v there found live object held same.
        apart.in_locals k item v there found live (same_cell v object held same);
    in_stack = λ n item v there found object held same. apart.in_stack n item v there found (same_cell v object held same);
  } where
    apart : IsApart facts after (frame_behind f (r.result ∷ r.below)) (cell_of r.result)
    apart = r.apart after after_is

    result : HoldsFreeable next.areas.store r.result birth
    result = leads birth may

    same_cell : (v : Value) (object : Object) → object_at next.areas.store (cell_of v) ≡ Some object → object.birth ≡ birth → cell_of v ≡ cell_of r.result
    same_cell v object held same =
        orderly.births_apart (cell_of v) (cell_of r.result) object result.object held result.held (same ∙ sym result.birth_is)

  pub keeps : HoldersHold facts other next.areas.store after (frame_behind f (r.result ∷ r.below)) (length callers) later code plan changed
  keeps = record {
    holds = λ h found there. ⊎_elim
        (λ same. subst (Holding later other (length callers) found.class) (sym (value_here h same))
        (subst (λ (k : Holder). Holding later other (length callers) k.class w) (sym (cases_kept plan kept h holder found at same there)) holding))
        (λ apart. subst (Holding later other (length callers) found.class) (sym (value_there h apart)) (have.holds h found there))
        (here_or_there h);
    apart = λ h second birth within inside_too one two. ⊎_elim
        (λ same. ⊎_elim
        (λ again. same ∙ sym again)
        (λ away. absurd (other_has second birth inside_too (own_may h birth same one) (old_may second birth away two)))
        (here_or_there second))
        (λ away. ⊎_elim
        (λ again. absurd (other_has h birth within (own_may second birth again two) (old_may h birth away one)))
        (λ beyond. have.apart h second birth within inside_too (old_may h birth away one) (old_may second birth beyond two))
        (here_or_there second))
        (here_or_there h);
    unshared = λ h birth within may. ⊎_elim
        (λ same. unshared_result birth (own_may h birth same may))
        (λ away. have.unshared h birth within (old_may h birth away may))
        (here_or_there h);
  }

pub keeping_keeps_holders : KeepingKeepsHolders
keeping_keeps_holders facts x next colour other made known after f callers h orderly are after_is before later before_orderly later_orderly births stays code plan locals had have width kept holder at w holding leads =
    keeps facts x next colour other made known after f callers h orderly are after_is before later before_orderly later_orderly births stays code plan locals had
    have width kept holder at w holding leads
