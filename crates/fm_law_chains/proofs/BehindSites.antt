-- Right behind a site that has a holder the holder gets what the site gave: no jump leads there, nor where control enters the next item.
use Rattle.std.proofs.Common.{◌≡◌, ◌⊎◌, ⊎_elim, ℕ, ◌+◌, ◌<◌, ◌≤◌, Bool, true, false, List, [], ◌∷◌, ◌++◌, length, map, Option, Some, None, option_map, Contains, sym, ap, subst, ◌∙◌, arith}
use Rattle.std.proofs.lemmas.Bool.{cases_lt}
use Rattle.std.proofs.lemmas.Option.{none-some, same_Some, slice_get_cases}
use Rattle.fm_base.proofs.ContainsFacts.{Contains-none}
use Rattle.fm_chain.specs.Chained.{looped_at}
use Rattle.fm_chain.specs.declared.calls.Calls.{Calls}
use Rattle.fm_code.specs.Edges.{insn_of}
use Rattle.fm_code.specs.SpellsCode.{targets_of}
use Rattle.fm_code.specs.declared.code_array.Code.{Code}
use Rattle.fm_code.specs.declared.code_array.Item.{Item}
use Rattle.fm_code.specs.declared.instructions.Insn.{Insn}
use Rattle.fm_code.specs.declared.instructions.Insn.TheVariants as insn
use Rattle.fm_code.specs.declared.operations.Reg.TheVariants as reg
use Rattle.fm_law_unwoven.specs.Laid.{all_insns_to, frees_at, IsKept, IsLaid, IsSplit, IsWhole, keeps_at, LieInserted, mark_at, to_free, to_keep, Todo}
use Rattle.fm_law_woven_flow.proofs.LaidItems.{targets-conditional}
use Rattle.fm_place.specs.Insertions.{after_at, before_at, Insertions}

module _ (calls : Calls) (old : Code) (plan : Insertions) (new : Code) (marks : List (Option ℕ)) where
  -- ---- what lies where

  rise : (n next : ℕ) (insns : List Insn) → LieInserted new marks n insns next → n ≤ next
  rise n next [] lies = omega (arith, lies)
  rise n next (i ∷ insns) lies = let more = rise (n + 1) next insns lies.2 in omega (arith, more)

  -- what a holder keeps is doubled first
  dup_of : (looped : Bool) (k n next : ℕ) (more : List Todo) → LieInserted new marks n (all_insns_to calls old (to_keep looped true k ∷ more)) next
      → insn_of new n ≡ Some insn.Dup
  dup_of true k n next more lies = lies.0
  dup_of false k n next more lies = lies.0

  dup_first : (hs : List ℕ) (h n next : ℕ) (more : List Todo) → Contains hs h
      → LieInserted new marks n (all_insns_to calls old (map (λ k. to_keep (looped_at plan k) true k) hs ++ more)) next → insn_of new n ≡ Some insn.Dup
  dup_first [] h n next more among lies = absurd (Contains-none h among)
  dup_first (k ∷ hs) h n next more among lies = dup_of (looped_at plan k) k n next (map (λ k. to_keep (looped_at plan k) true k) hs ++ more) lies

  -- a free begins otherwise
  no_dup_of : (looped : Bool) (k n next : ℕ) (more : List Todo) → LieInserted new marks n (all_insns_to calls old (to_free looped k ∷ more)) next
      → insn_of new n ≡ Some insn.Dup → ⊥
  no_dup_of true k n next more lies dup =
      let both = same_Some (insn.Load reg.Ref (old.max_locals + k)) insn.Dup (sym lies.0 ∙ dup) in absurd (cc)
  no_dup_of false k n next more lies dup =
      let both = same_Some (insn.Load reg.Ref (old.max_locals + k)) insn.Dup (sym lies.0 ∙ dup) in absurd (cc)

  no_dup : (hs : List ℕ) (n next j : ℕ) → mark_at marks next ≡ Some j → mark_at marks n ≡ None
      → LieInserted new marks n (all_insns_to calls old (map (λ k. to_free (looped_at plan k) k) hs)) next → insn_of new n ≡ Some insn.Dup → ⊥
  no_dup [] n next j marked inserted lies dup = none-some j (sym inserted ∙ ap (mark_at marks) lies ∙ marked)
  no_dup (k ∷ hs) n next j marked inserted lies dup = no_dup_of (looped_at plan k) k n next (map (λ k. to_free (looped_at plan k) k) hs) lies dup

  -- ---- behind one site

  module _ (laid : IsLaid calls old plan new marks) (site h : ℕ) (among : Contains (after_at plan site) h)
      (no_branch : (i : Insn) → insn_of old site ≡ Some i → 0 < length (targets_of i) → after_at plan site ≡ []) (item before : ℕ)
      (next : item ≡ before + 1) (kept : mark_at marks before ≡ Some site) (inserted : mark_at marks item ≡ None) where
    inside : site < length old.items
    inside = (laid.once before site kept).0

    number_is : before ≡ laid.numbers site
    number_is = (laid.once before site kept).1

    -- each item has an instruction
    insn_at : (j : ℕ) → j < length old.items → (i : Insn) × (insn_of old j ≡ Some i)
    insn_at j within =
        ⊎_elim (λ some. (some.0.insn, ap (option_map (λ (item : Item). item.insn)) some.2)) (λ none. let past = none.0 in absurd (omega (arith, past, within)))
        (slice_get_cases old.items j).1

    -- what follows the site is this item
    behind_by : (i : Insn) → insn_of old site ≡ Some i → IsKept old new marks laid.entries site i (laid.numbers site) (laid.behind site)
        → laid.behind site ≡ item
    behind_by i found (IsWhole insn_is behind) = let number = number_is in omega (arith, next, number, behind)
    behind_by i found (IsSplit condition target other is insn_is skips jump mark behind) =
        let one : length (targets_of i) ≡ 1 = ap (λ k. length (targets_of k)) is ∙ ap length (targets-conditional condition target) in
        absurd (Contains-none h (subst (λ hs. Contains hs h) (no_branch i found (omega (arith, one))) among))

    behind_is : laid.behind site ≡ item
    behind_is = let i = insn_at site inside in behind_by i.0 i.1 (laid.kept site i.0 i.1)

    -- there the object is doubled
    left_there : site + 1 < length old.items
        → LieInserted new marks item (all_insns_to calls old (map (λ k. to_keep (looped_at plan k) true k) (after_at plan site) ++ frees_at plan (site + 1)))
        (laid.numbers (site + 1))
    left_there more =
        subst (λ n. LieInserted new marks n (all_insns_to calls old (keeps_at plan true site ++ frees_at plan (site + 1))) (laid.numbers (site + 1))) behind_is
        (laid.left true site more)

    dup_there : site + 1 < length old.items → insn_of new item ≡ Some insn.Dup
    dup_there more = dup_first (after_at plan site) h item (laid.numbers (site + 1)) (frees_at plan (site + 1)) among (left_there more)

    -- what goes on there behind an item goes on behind the site
    same_by : (j : ℕ) → j < length old.items → item ≡ laid.behind j → (i : Insn)
        → IsKept old new marks laid.entries j i (laid.numbers j) (laid.behind j) → j ≡ site
    same_by j within there i (IsWhole insn_is behind) =
        let number = number_is in
        let same : laid.numbers j ≡ laid.numbers site = omega (arith, there, behind, next, number) in
        same_Some j site (sym (laid.marked j within) ∙ ap (mark_at marks) same ∙ laid.marked site inside)
    same_by j within there i (IsSplit condition target other is insn_is skips jump mark behind) =
        let number = number_is in
        let same : laid.numbers site ≡ laid.numbers j + 1 = omega (arith, there, behind, next, number) in
        absurd (none-some site (sym mark ∙ ap (mark_at marks) (sym same) ∙ laid.marked site inside))

    pub same_site : (j : ℕ) → j < length old.items → item ≡ laid.behind j → j ≡ site
    same_site j within there = let i = insn_at j within in same_by j within there i.0 (laid.kept j i.0 i.1)

    -- control enters no item there
    pub not_entered : (t : ℕ) → t < length old.items → item ≡ laid.entries t → ⊥
    not_entered t within there =
        ⊎_elim (λ (early : t < site + 1). low (omega (arith, early))) (λ (late : site + 1 ≤ t). high late) (cases_lt t (site + 1)) where
          low : t ≤ site → ⊥
          low early = let before_site = (laid.covered t site (omega (arith, within)) inside).1 early in let number = number_is in
              omega (arith, before_site, there, next, number)

          high : site + 1 ≤ t → ⊥
          high late =
              let more : site + 1 < length old.items = omega (arith, late, within) in
              let order = rise item (laid.numbers (site + 1)) (all_insns_to calls old (keeps_at plan true site ++ frees_at plan (site + 1))) (left_there more) in
              let few = (laid.covered t (site + 1) (omega (arith, within)) more).0 (omega (arith, order, there)) in
              let same : t ≡ site + 1 = omega (arith, late, few) in
              no_dup (before_at plan (site + 1)) item (laid.numbers (site + 1)) (site + 1) (laid.marked (site + 1) more) inserted
              (subst (λ n. LieInserted new marks n (all_insns_to calls old (frees_at plan (site + 1))) (laid.numbers (site + 1)))
              (sym (there ∙ ap laid.entries same)) (laid.entered (site + 1) more))
              (dup_there more)

    -- and no jump is there
    pub no_jump : site + 1 < length old.items → (target : ℕ) → insn_of new item ≡ Some (insn.Goto target) → ⊥
    no_jump more target jump = let both = same_Some insn.Dup (insn.Goto target) (sym (dup_there more) ∙ jump) in absurd (cc)
