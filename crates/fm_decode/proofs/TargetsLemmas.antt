-- Targets that are determined by offsets are determined by the numbers of items, and the other way round.
use Rattle.std.proofs.Common.{◌≡◌, ℕ, zero, suc, ◌+◌, ◌<◌, ◌≤◌, ◌⊎◌, Bool, true, false, ltb, eqb, List, [], ◌∷◌, ◌++◌, map, length, get_or, drop, drop-cons, add-one, Option, Some, None, option_and_then, refl, sym, ap, subst, ◌∙◌, arith, inl, inr, if◌then◌else◌}
use Rattle.std.specs.Prelude.{replicate}
use Rattle.std.specs.List.{flat_map, AllByRecursion, AllZip}
use Rattle.std.specs.Option.{option_map}
use Rattle.std.proofs.Math.ListN.{set}
use Rattle.std.proofs.lemmas.Bool.{cases_Bool, cases_lt, eqb-true, eq-eqb, ne_eqb, lt-ltb, ltb-true}
use Rattle.std.proofs.lemmas.List.{append-nil, get_or-set_same, get_or-set_other, length-set}
use Rattle.std.proofs.lemmas.Option.{none-some, same_Some}
use Rattle.fm_base.proofs.ListFacts.{AllByRecursion-weaker}
use Rattle.fm_code.specs.ClassBytes.{item_bytes, offset_in}
use Rattle.fm_code.specs.InstructionTable.{insn_at}
use Rattle.fm_code.specs.SpellsCode.{targets_of, with_targets, AreOffsets, ItemIsSpelled, SpellsCode}
use Rattle.fm_code.specs.declared.instructions.Insn.{Insn}
use Rattle.fm_code.specs.declared.instructions.Insn.TheVariants as insn
use Rattle.fm_code.specs.declared.code_array.Item.{Item}
use Rattle.fm_code.proofs.CodeItems.{AreLaid, HasBytes, offset_rises}
use Rattle.fm_code.proofs.InsnPrefixes.{insn_at_not_empty, and_then_some, map_some}
use Rattle.fm_decode.specs.declared.targets.TheConstants.{NO_ITEM}
use Rattle.fm_decode.specs.inner.Drafts.{IsRead, AreDrafts}
use Rattle.fm_decode.specs.inner.Targets.{item_offset, AreRising, AllWithin, number_in, AreStarts, numbers_of, numbered_insn, numbered_item, numbered_items}
use Rattle.fm_decode.proofs.SwitchesLoops.{behind, behind-more}

-- ---- the numbers by offset

-- no number is above its offset
pub rising_le : (offsets : List ℕ) (n : ℕ) → AreRising offsets → n < length offsets → n ≤ get_or offsets n 0
rising_le offsets zero rising within = omega arith
rising_le offsets (suc n) rising within =
    let before = rising_le offsets n rising (omega arith) in
    let above : get_or offsets n 0 < get_or offsets (suc n) 0 = rising n (suc n) (omega arith) within in
    omega arith

-- the first items, up to a given number, are there
pub record AreStartsUpTo (offsets : List ℕ) (end : ℕ) (numbers : List ℕ) (k : ℕ) : Type 0 where
  pub size : length numbers ≡ end
  pub each : (n : ℕ) → n < k → get_or numbers (get_or offsets n 0) 0 ≡ n
  pub only : (t : ℕ) → t < end → (get_or numbers t 0 ≡ NO_ITEM) ⊎ ((get_or numbers t 0 < k) × (get_or offsets (get_or numbers t 0) 0 ≡ t))

get_or-replicate : (n x t : ℕ) → t < n → get_or (replicate n x) t 0 ≡ x
get_or-replicate zero x t within = absurd (omega arith)
get_or-replicate (suc n) x zero within = refl
get_or-replicate (suc n) x (suc t) within = get_or-replicate n x t (omega arith)

length-replicated : (n x : ℕ) → length (replicate n x) ≡ n
length-replicated zero x = refl
length-replicated (suc n) x = ap suc (length-replicated n x)

pub starts_none : (offsets : List ℕ) (end : ℕ) (numbers : List ℕ) → numbers ≡ replicate end NO_ITEM → AreStartsUpTo offsets end numbers 0
starts_none offsets end numbers are = record {
  size = ap length are ∙ length-replicated end NO_ITEM;
  each = λ n before. absurd (omega arith);
  only = λ t within. inl (ap (λ (xs : List ℕ). get_or xs t 0) are ∙ get_or-replicate end NO_ITEM t within);
}

pub starts_more : (offsets : List ℕ) (end : ℕ) (numbers : List ℕ) (k : ℕ) → AreRising offsets → AllWithin end offsets → k < length offsets → AreStartsUpTo offsets end numbers k
    → AreStartsUpTo offsets end (set numbers (get_or offsets k 0) k) (k + 1)
starts_more offsets end numbers k rising within inside so_far = record { size = length-set numbers start k ∙ so_far.size; each = each; only = only } where
  start : ℕ
  start = get_or offsets k 0

  start_within : start < length numbers
  start_within = let size = so_far.size in let here = within k inside in omega arith

  each : (n : ℕ) → n < k + 1 → get_or (set numbers start k) (get_or offsets n 0) 0 ≡ n
  each n before =
      elim (cases_lt n k) [
        | inl lt ↦
            let below : get_or offsets n 0 < start = rising n k lt inside in
            get_or-set_other numbers start (get_or offsets n 0) k 0 (λ e. omega (arith, e)) ∙ so_far.each n lt
        | inr ge ↦
            let same : n ≡ k = omega arith in
            ap (λ (m : ℕ). get_or (set numbers start k) (get_or offsets m 0) 0) same ∙ get_or-set_same numbers start k 0 start_within ∙ sym same
      ]

  only : (t : ℕ) → t < end → (get_or (set numbers start k) t 0 ≡ NO_ITEM) ⊎ ((get_or (set numbers start k) t 0 < k + 1) × (get_or offsets (get_or (set numbers start k) t 0) 0 ≡ t))
  only t inside_end =
      elim (cases_Bool (eqb t start)) [
        | inl same ↦
            let at : t ≡ start = eqb-true t start same in
            let here : get_or (set numbers start k) t 0 ≡ k = ap (λ (m : ℕ). get_or (set numbers start k) m 0) at ∙ get_or-set_same numbers start k 0 start_within in
            inr (omega (arith, here), ap (λ (m : ℕ). get_or offsets m 0) here ∙ sym at)
        | inr other ↦
            let here : get_or (set numbers start k) t 0 ≡ get_or numbers t 0 = get_or-set_other numbers start t k 0 (λ e. absurd (let yes_it : eqb t start ≡ true = eq-eqb t start e in cc)) in
            elim (so_far.only t inside_end) [
              | inl none ↦ inl (here ∙ none)
              | inr found ↦ inr (omega (arith, here, found.0), ap (λ (m : ℕ). get_or offsets m 0) here ∙ found.1)
            ]
      ]

pub starts_all : (offsets : List ℕ) (end : ℕ) (numbers : List ℕ) (k : ℕ) → AreRising offsets → AllWithin end offsets → end ≤ 65535 → k ≡ length offsets
    → AreStartsUpTo offsets end numbers k → AreStarts offsets numbers
starts_all offsets end numbers k rising within short done starts = record { each = each; only = only } where
  each : (n : ℕ) → n < length offsets → number_in numbers (get_or offsets n 0) ≡ Some n
  each n inside =
      let target = get_or offsets n 0 in
      let size = starts.size in
      let here = within n inside in
      let below : ltb target (length numbers) ≡ true = lt-ltb target (length numbers) (omega arith) in
      let number : get_or numbers target 0 ≡ n = starts.each n (omega arith) in
      let small = rising_le offsets n rising inside in
      let known : eqb (get_or numbers target 0) NO_ITEM ≡ false = ne_eqb (get_or numbers target 0) NO_ITEM (λ e. omega (arith, e, number)) in
      rw (below, known) (ap Some number)

  only : (target n : ℕ) → number_in numbers target ≡ Some n → (n < length offsets) × (get_or offsets n 0 ≡ target)
  only target n found =
      elim (cases_Bool (ltb target (length numbers))) [
        | inr past ↦ absurd (none-some n (rw past at found))
        | inl below ↦ known (in_end below) (eqb (get_or numbers target 0) NO_ITEM) refl (rw below at found)
      ] where
        in_end : ltb target (length numbers) ≡ true → target < end
        in_end below = let size = starts.size in let lt = ltb-true target (length numbers) below in omega arith

        known : target < end → (b : Bool) → eqb (get_or numbers target 0) NO_ITEM ≡ b → (if b then None else Some (get_or numbers target 0)) ≡ Some n
            → (n < length offsets) × (get_or offsets n 0 ≡ target)
        known inside true is e = absurd (none-some n e)
        known inside false is e =
            let number : get_or numbers target 0 ≡ n = same_Some (get_or numbers target 0) n e in
            elim (starts.only target inside) [
              | inl none ↦ absurd (let whole : eqb (get_or numbers target 0) NO_ITEM ≡ true = eq-eqb (get_or numbers target 0) NO_ITEM none in cc)
              | inr there ↦ (omega (arith, there.0, number), ap (λ (m : ℕ). get_or offsets m 0) (sym number) ∙ there.1)
            ]

-- ---- instructions

abbrev pub offset_at : List ℕ → ℕ → ℕ
offset_at offsets n = get_or offsets n 0

abbrev AreWithin : List ℕ → List ℕ → Type 0
AreWithin offsets targets = AllByRecursion (λ target. target < length offsets) targets

-- the targets of an instruction, named by their offsets, are those of the draft
pub record NamesTargets (offsets : List ℕ) (draft i : Insn) : Type 0 where
  pub insn_is : with_targets (offset_at offsets) i ≡ draft
  pub within : AreWithin offsets (targets_of i)

one_target : (offsets numbers : List ℕ) (target : ℕ) (f : ℕ → Insn) (i : Insn) → AreStarts offsets numbers
    → ((n : ℕ) → n < length offsets → get_or offsets n 0 ≡ target → NamesTargets offsets (f target) (f n))
    → option_map f (number_in numbers target) ≡ Some i → NamesTargets offsets (f target) i
one_target offsets numbers target f i starts named e =
    let (n, (is, same)) = map_some f (number_in numbers target) i e in
    let found = starts.only target n is in
    subst (NamesTargets offsets (f target)) same (named n found.0 found.1)

numbers_takes : (offsets numbers targets found : List ℕ) → AreStarts offsets numbers → numbers_of numbers targets ≡ Some found
    → (map (offset_at offsets) found ≡ targets) × AreWithin offsets found
unfolding numbers_of
numbers_takes offsets numbers [] found starts e =
    let none : [] ≡ found = same_Some [] found e in
    subst (λ (xs : List ℕ). (map (offset_at offsets) xs ≡ []) × AreWithin offsets xs) none (refl, tt)
numbers_takes offsets numbers (target ∷ targets) found starts e =
    let (n, (is, rest)) = and_then_some _ (number_in numbers target) found e in
    let (others, (others_are, whole)) = and_then_some _ (numbers_of numbers targets) found rest in
    let here = starts.only target n is in
    let later = numbers_takes offsets numbers targets others starts others_are in
    let same : n ∷ others ≡ found = same_Some (n ∷ others) found whole in
    subst (λ (xs : List ℕ). (map (offset_at offsets) xs ≡ target ∷ targets) × AreWithin offsets xs) same ((λ k. here.1 k ∷ later.0 k), (here.0, later.1))

numbers_back : (offsets numbers found : List ℕ) → AreStarts offsets numbers → AreWithin offsets found → numbers_of numbers (map (offset_at offsets) found) ≡ Some found
unfolding numbers_of
numbers_back offsets numbers [] starts within = refl
numbers_back offsets numbers (n ∷ found) starts within = rw (starts.each n within.0, numbers_back offsets numbers found starts within.1) refl

-- a target and a list of targets
switch_takes : (offsets numbers : List ℕ) (others : ℕ) (targets : List ℕ) (f : ℕ → List ℕ → Insn) (i : Insn) → AreStarts offsets numbers
    → ((other : ℕ) (found : List ℕ) → other < length offsets → get_or offsets other 0 ≡ others → map (offset_at offsets) found ≡ targets → AreWithin offsets found
    → NamesTargets offsets (f others targets) (f other found))
    → option_and_then (λ other. option_and_then (λ found. Some (f other found)) (numbers_of numbers targets)) (number_in numbers others) ≡ Some i
    → NamesTargets offsets (f others targets) i
switch_takes offsets numbers others targets f i starts named e =
    let (other, (is, rest)) = and_then_some _ (number_in numbers others) i e in
    let (found, (found_are, whole)) = and_then_some _ (numbers_of numbers targets) i rest in
    let here = starts.only others other is in
    let lists = numbers_takes offsets numbers targets found starts found_are in
    let same : f other found ≡ i = same_Some (f other found) i whole in
    subst (NamesTargets offsets (f others targets)) same (named other found here.0 here.1 lists.0 lists.1)

pub insn_takes : (offsets numbers : List ℕ) (draft i : Insn) → AreStarts offsets numbers → numbered_insn numbers draft ≡ Some i → NamesTargets offsets draft i
unfolding numbered_insn
insn_takes offsets numbers (insn.IfInt test target) i starts e =
    one_target offsets numbers target (insn.IfInt test) i starts (λ n lt at. record { insn_is = ap (insn.IfInt test) at; within = (lt, tt) }) e
insn_takes offsets numbers (insn.IfPair test target) i starts e =
    one_target offsets numbers target (insn.IfPair test) i starts (λ n lt at. record { insn_is = ap (insn.IfPair test) at; within = (lt, tt) }) e
insn_takes offsets numbers (insn.IfSame same target) i starts e =
    one_target offsets numbers target (insn.IfSame same) i starts (λ n lt at. record { insn_is = ap (insn.IfSame same) at; within = (lt, tt) }) e
insn_takes offsets numbers (insn.IfNull null target) i starts e =
    one_target offsets numbers target (insn.IfNull null) i starts (λ n lt at. record { insn_is = ap (insn.IfNull null) at; within = (lt, tt) }) e
insn_takes offsets numbers (insn.Goto target) i starts e =
    one_target offsets numbers target insn.Goto i starts (λ n lt at. record { insn_is = ap insn.Goto at; within = (lt, tt) }) e
insn_takes offsets numbers (insn.Table low others targets) i starts e =
    switch_takes offsets numbers others targets (insn.Table low) i starts
    (λ other found lt at all all_within. record { insn_is = λ k. insn.Table low (at k) (all k); within = (lt, all_within) }) e
insn_takes offsets numbers (insn.Lookup others keys targets) i starts e =
    switch_takes offsets numbers others targets (λ o ts. insn.Lookup o keys ts) i starts
    (λ other found lt at all all_within. record { insn_is = λ k. insn.Lookup (at k) keys (all k); within = (lt, all_within) }) e
insn_takes offsets numbers draft i starts e =
    let same : draft ≡ i = same_Some draft i e in subst (NamesTargets offsets draft) same (record { insn_is = refl; within = tt })

insn_back : (offsets numbers : List ℕ) (i : Insn) → AreStarts offsets numbers → AreWithin offsets (targets_of i) → numbered_insn numbers (with_targets (offset_at offsets) i) ≡ Some i
unfolding numbered_insn
insn_back offsets numbers (insn.IfInt test target) starts within = ap (option_map (insn.IfInt test)) (starts.each target within.0)
insn_back offsets numbers (insn.IfPair test target) starts within = ap (option_map (insn.IfPair test)) (starts.each target within.0)
insn_back offsets numbers (insn.IfSame same target) starts within = ap (option_map (insn.IfSame same)) (starts.each target within.0)
insn_back offsets numbers (insn.IfNull null target) starts within = ap (option_map (insn.IfNull null)) (starts.each target within.0)
insn_back offsets numbers (insn.Goto target) starts within = ap (option_map insn.Goto) (starts.each target within.0)
insn_back offsets numbers (insn.Table low others targets) starts within = rw (starts.each others within.0, numbers_back offsets numbers targets starts within.1) refl
insn_back offsets numbers (insn.Lookup others keys targets) starts within = rw (starts.each others within.0, numbers_back offsets numbers targets starts within.1) refl
insn_back offsets numbers i starts within = refl

pub insn_again : (offsets numbers : List ℕ) (draft i : Insn) → AreStarts offsets numbers → NamesTargets offsets draft i → numbered_insn numbers draft ≡ Some i
insn_again offsets numbers draft i starts named = ap (numbered_insn numbers) (sym named.insn_is) ∙ insn_back offsets numbers i starts named.within

-- ---- items

pub record IsNumbered (offsets : List ℕ) (draft item : Item) : Type 0 where
  pub offset_is : item.offset ≡ draft.offset
  pub bytes_are : item.bytes ≡ draft.bytes
  pub names : NamesTargets offsets draft.insn item.insn

abbrev with_insn : Item → Insn → Item
with_insn draft i = record { offset = draft.offset; bytes = draft.bytes; insn = i }

item_takes : (offsets numbers : List ℕ) (draft item : Item) → AreStarts offsets numbers → numbered_item numbers draft ≡ Some item → IsNumbered offsets draft item
unfolding numbered_item
item_takes offsets numbers draft item starts e =
    let (i, (is, same)) = map_some (with_insn draft) (numbered_insn numbers draft.insn) item e in
    let numbered : IsNumbered offsets draft (with_insn draft i) = record { offset_is = refl; bytes_are = refl; names = insn_takes offsets numbers draft.insn i starts is } in
    subst (IsNumbered offsets draft) same numbered

item_again : (offsets numbers : List ℕ) (draft item : Item) → AreStarts offsets numbers → IsNumbered offsets draft item → numbered_item numbers draft ≡ Some item
unfolding numbered_item
item_again offsets numbers draft item starts is =
    let put : ℕ → List ℕ → Item = λ offset bytes. record { offset = offset; bytes = bytes; insn = item.insn } in
    ap (option_map (with_insn draft)) (insn_again offsets numbers draft.insn item.insn starts is.names)
    ∙ (λ k. Some (put (sym is.offset_is k) (sym is.bytes_are k)))

abbrev AreNumbered : List ℕ → List Item → List Item → Type 0
AreNumbered offsets drafts items = AllZip (IsNumbered offsets) drafts items

items_take : (offsets numbers : List ℕ) (drafts items : List Item) → AreStarts offsets numbers → numbered_items numbers drafts ≡ Some items → AreNumbered offsets drafts items
unfolding numbered_items
items_take offsets numbers [] [] starts e = tt
items_take offsets numbers [] (item ∷ items) starts e = absurd cc
items_take offsets numbers (draft ∷ drafts) items starts e =
    let (item, (item_is, rest)) = and_then_some _ (numbered_item numbers draft) items e in
    let (others, (others_are, whole)) = and_then_some _ (numbered_items numbers drafts) items rest in
    let same : item ∷ others ≡ items = same_Some (item ∷ others) items whole in
    subst (AreNumbered offsets (draft ∷ drafts)) same (item_takes offsets numbers draft item starts item_is, items_take offsets numbers drafts others starts others_are)

items_again : (offsets numbers : List ℕ) (drafts items : List Item) → AreStarts offsets numbers → AreNumbered offsets drafts items → numbered_items numbers drafts ≡ Some items
unfolding numbered_items
items_again offsets numbers [] [] starts are = refl
items_again offsets numbers [] (item ∷ items) starts are = absurd are
items_again offsets numbers (draft ∷ drafts) [] starts are = absurd are
items_again offsets numbers (draft ∷ drafts) (item ∷ items) starts are =
    rw (item_again offsets numbers draft item starts are.0, items_again offsets numbers drafts items starts are.1) refl

-- ---- the loops

pub numbers_more : (numbers : List ℕ) (all : Option (List ℕ)) (front : List ℕ) (target : ℕ) (targets : List ℕ) (n : ℕ) → all ≡ behind front (numbers_of numbers (target ∷ targets))
    → number_in numbers target ≡ Some n → all ≡ behind (front ++ n ∷ []) (numbers_of numbers targets)
unfolding numbers_of
numbers_more numbers all front target targets n so_far found = (rw found at so_far) ∙ go (numbers_of numbers targets) where
  go : (others : Option (List ℕ)) → behind front (option_and_then (λ found. Some (n ∷ found)) others) ≡ behind (front ++ n ∷ []) others
  go None = refl
  go (Some xs) = behind-more front n (Some xs)

pub numbers_none : (numbers : List ℕ) (all : Option (List ℕ)) (front : List ℕ) (target : ℕ) (targets : List ℕ) → all ≡ behind front (numbers_of numbers (target ∷ targets))
    → number_in numbers target ≡ None → all ≡ None
unfolding numbers_of
numbers_none numbers all front target targets so_far none = rw none at so_far

pub next_target : (targets : List ℕ) (k : ℕ) → k < length targets → drop k targets ≡ get_or targets k 0 ∷ drop (k + 1) targets
next_target targets k within = drop-cons targets k 0 within ∙ rw add-one refl

pub numbers_end : (numbers : List ℕ) (all : Option (List ℕ)) (front : List ℕ) → all ≡ behind front (numbers_of numbers []) → all ≡ Some front
unfolding numbers_of
numbers_end numbers all front so_far = so_far ∙ ap Some (append-nil front)

pub items_more : (numbers : List ℕ) (all : Option (List Item)) (front : List Item) (draft : Item) (drafts : List Item) (item : Item)
    → all ≡ behind front (numbered_items numbers (draft ∷ drafts)) → numbered_item numbers draft ≡ Some item → all ≡ behind (front ++ item ∷ []) (numbered_items numbers drafts)
unfolding numbered_items
items_more numbers all front draft drafts item so_far found = (rw found at so_far) ∙ go (numbered_items numbers drafts) where
  go : (others : Option (List Item)) → behind front (option_and_then (λ items. Some (item ∷ items)) others) ≡ behind (front ++ item ∷ []) others
  go None = refl
  go (Some xs) = behind-more front item (Some xs)

pub items_none : (numbers : List ℕ) (all : Option (List Item)) (front : List Item) (draft : Item) (drafts : List Item) → all ≡ behind front (numbered_items numbers (draft ∷ drafts))
    → numbered_item numbers draft ≡ None → all ≡ None
unfolding numbered_items
items_none numbers all front draft drafts so_far none = rw none at so_far

pub items_end : (numbers : List ℕ) (all : Option (List Item)) (front : List Item) → all ≡ behind front (numbered_items numbers []) → all ≡ Some front
unfolding numbered_items
items_end numbers all front so_far = so_far ∙ ap Some (append-nil front)

-- ---- the offsets

abbrev pub offsets_of : List Item → List ℕ
offsets_of items = map item_offset items

offset_of-get : (items : List Item) (end k : ℕ) → k < length items → offset_in items end k ≡ get_or (offsets_of items) k 0
offset_of-get [] end k within = absurd (omega arith)
offset_of-get (item ∷ items) end zero within = refl
offset_of-get (item ∷ items) end (suc k) within = offset_of-get items end k (omega arith)

offset_of-end : (items : List Item) (end : ℕ) → offset_in items end (length items) ≡ end
offset_of-end [] end = refl
offset_of-end (item ∷ items) end = offset_of-end items end

offset_of-all : (items : List Item) (k : ℕ) → offset_in items zero k ≡ get_or (offsets_of items) k 0
offset_of-all [] k = refl
offset_of-all (item ∷ items) zero = refl
offset_of-all (item ∷ items) (suc k) = offset_of-all items k

pub length-offsets : (items : List Item) → length (offsets_of items) ≡ length items
length-offsets [] = refl
length-offsets (item ∷ items) = ap suc (length-offsets items)

drafts_laid_out : (bytes : List ℕ) (drafts : List Item) → AreDrafts bytes drafts → AreLaid 0 drafts (length bytes)
drafts_laid_out bytes drafts are = record {
  offsets = are.offsets;
  not_empty = AllByRecursion-weaker IsRead HasBytes (λ item read. insn_at_not_empty item.offset item.bytes item.insn read) drafts are.insns;
  total = let size = ap length are.bytes_are in omega arith;
}

pub drafts_rise : (bytes : List ℕ) (drafts : List Item) → AreDrafts bytes drafts → AreRising (offsets_of drafts)
drafts_rise bytes drafts are = λ i j before within.
    let end = length bytes in
    let size = length-offsets drafts in
    let rises = offset_rises 0 end drafts i j (drafts_laid_out bytes drafts are) before (omega arith) in
    let at_i = offset_of-get drafts end i (omega arith) in
    let at_j = offset_of-get drafts end j (omega arith) in
    omega arith

pub drafts_within : (bytes : List ℕ) (drafts : List Item) → AreDrafts bytes drafts → AllWithin (length bytes) (offsets_of drafts)
drafts_within bytes drafts are = λ n within.
    let end = length bytes in
    let size = length-offsets drafts in
    let rises = offset_rises 0 end drafts n (length drafts) (drafts_laid_out bytes drafts are) (omega arith) (omega arith) in
    let at_n = offset_of-get drafts end n (omega arith) in
    let at_end = offset_of-end drafts end in
    omega arith

-- ---- drafts and items

same_bytes : (offsets : List ℕ) (drafts items : List Item) → AreNumbered offsets drafts items → flat_map item_bytes drafts ≡ flat_map item_bytes items
same_bytes offsets [] [] are = refl
same_bytes offsets [] (item ∷ items) are = absurd are
same_bytes offsets (draft ∷ drafts) [] are = absurd are
same_bytes offsets (draft ∷ drafts) (item ∷ items) are = λ k. sym are.0.bytes_are k ++ same_bytes offsets drafts items are.1 k

same_offsets : (offsets : List ℕ) (drafts items : List Item) → AreNumbered offsets drafts items → offsets_of drafts ≡ offsets_of items
same_offsets offsets [] [] are = refl
same_offsets offsets [] (item ∷ items) are = absurd are
same_offsets offsets (draft ∷ drafts) [] are = absurd are
same_offsets offsets (draft ∷ drafts) (item ∷ items) are = λ k. sym are.0.offset_is k ∷ same_offsets offsets drafts items are.1 k

laid_again : (offsets : List ℕ) (start : ℕ) (drafts items : List Item) → AreNumbered offsets drafts items → AreOffsets start drafts → AreOffsets start items
laid_again offsets start [] [] are laid = tt
laid_again offsets start [] (item ∷ items) are laid = absurd are
laid_again offsets start (draft ∷ drafts) [] are laid = absurd are
laid_again offsets start (draft ∷ drafts) (item ∷ items) are laid = (
  are.0.offset_is ∙ laid.0,
  subst (λ (b : List ℕ). AreOffsets (start + length b) items) (sym are.0.bytes_are) (laid_again offsets (start + length draft.bytes) drafts items are.1 laid.1),
)

spelled_again : (offsets : List ℕ) (whole drafts items : List Item) → offset_at offsets ≡ offset_in whole zero → length offsets ≡ length whole → AreNumbered offsets drafts items
    → AllByRecursion IsRead drafts → AllByRecursion (ItemIsSpelled whole) items
spelled_again offsets whole [] [] same count are reads = tt
spelled_again offsets whole [] (item ∷ items) same count are reads = absurd are
spelled_again offsets whole (draft ∷ drafts) [] same count are reads = absurd are
spelled_again offsets whole (draft ∷ drafts) (item ∷ items) same count are reads =
    let one = are.0 in
    let spelled : ItemIsSpelled whole item = record {
      instruction = (λ k. insn_at (one.offset_is k) (one.bytes_are k)) ∙ reads.0 ∙ ap Some (sym one.names.insn_is) ∙ ap (λ (f : ℕ → ℕ). Some (with_targets f item.insn)) same;
      targets = subst (λ (n : ℕ). AllByRecursion (λ target. target < n) (targets_of item.insn)) count one.names.within;
    } in
    (spelled, spelled_again offsets whole drafts items same count are.1 reads.1)

-- drafts with numbers for offsets are the items
pub drafts_take : (bytes : List ℕ) (drafts items : List Item) (numbers : List ℕ) → AreStarts (offsets_of drafts) numbers → AreDrafts bytes drafts
    → numbered_items numbers drafts ≡ Some items → SpellsCode bytes items
drafts_take bytes drafts items numbers starts are e =
    let offsets = offsets_of drafts in
    let zipped = items_take offsets numbers drafts items starts e in
    let same : offset_at offsets ≡ offset_in items zero = λ k n. (ap (λ (os : List ℕ). get_or os n 0) (same_offsets offsets drafts items zipped) ∙ sym (offset_of-all items n)) k in
    record {
      bytes_are = are.bytes_are ∙ same_bytes offsets drafts items zipped;
      offsets = laid_again offsets 0 drafts items zipped are.offsets;
      spelled = spelled_again offsets items drafts items same (ap length (same_offsets offsets drafts items zipped) ∙ length-offsets items) zipped are.insns;
    }

-- ---- from items back to drafts

abbrev pub draft_of : List Item → Item → Item
draft_of whole item = record { offset = item.offset; bytes = item.bytes; insn = with_targets (offset_in whole zero) item.insn }

abbrev pub drafts_of : List Item → List Item → List Item
drafts_of whole items = map (draft_of whole) items

drafts_bytes : (whole items : List Item) → flat_map item_bytes items ≡ flat_map item_bytes (drafts_of whole items)
drafts_bytes whole [] = refl
drafts_bytes whole (item ∷ items) = ap (λ (b : List ℕ). item.bytes ++ b) (drafts_bytes whole items)

drafts_offsets : (whole items : List Item) → offsets_of (drafts_of whole items) ≡ offsets_of items
drafts_offsets whole [] = refl
drafts_offsets whole (item ∷ items) = ap (λ (os : List ℕ). item.offset ∷ os) (drafts_offsets whole items)

drafts_laid : (whole : List Item) (start : ℕ) (items : List Item) → AreOffsets start items → AreOffsets start (drafts_of whole items)
drafts_laid whole start [] laid = tt
drafts_laid whole start (item ∷ items) laid = (laid.0, drafts_laid whole (start + length item.bytes) items laid.1)

drafts_read : (whole items : List Item) → AllByRecursion (ItemIsSpelled whole) items → AllByRecursion IsRead (drafts_of whole items)
drafts_read whole [] spelled = tt
drafts_read whole (item ∷ items) spelled = (spelled.0.instruction, drafts_read whole items spelled.1)

-- the items with offsets for numbers are drafts
pub items_drafts : (bytes : List ℕ) (items : List Item) → SpellsCode bytes items → AreDrafts bytes (drafts_of items items)
items_drafts bytes items spells = record {
  bytes_are = spells.bytes_are ∙ drafts_bytes items items;
  offsets = drafts_laid items 0 items spells.offsets;
  insns = drafts_read items items spells.spelled;
}

drafts_numbered : (offsets : List ℕ) (whole items : List Item) → offset_at offsets ≡ offset_in whole zero → length offsets ≡ length whole → AllByRecursion (ItemIsSpelled whole) items
    → AreNumbered offsets (drafts_of whole items) items
drafts_numbered offsets whole [] same count spelled = tt
drafts_numbered offsets whole (item ∷ items) same count spelled =
    let one : IsNumbered offsets (draft_of whole item) item = record {
      offset_is = refl;
      bytes_are = refl;
      names = record {
        insn_is = ap (λ (f : ℕ → ℕ). with_targets f item.insn) same;
        within = subst (λ (n : ℕ). AllByRecursion (λ target. target < n) (targets_of item.insn)) (sym count) spelled.0.targets;
      };
    } in
    (one, drafts_numbered offsets whole items same count spelled.1)

-- and these drafts, with the numbers again, are the items
pub items_again_of : (bytes : List ℕ) (items : List Item) (numbers : List ℕ) → SpellsCode bytes items → AreStarts (offsets_of (drafts_of items items)) numbers
    → numbered_items numbers (drafts_of items items) ≡ Some items
items_again_of bytes items numbers spells starts =
    let drafts = drafts_of items items in
    let offsets = offsets_of drafts in
    let same : offset_at offsets ≡ offset_in items zero = λ k n. (ap (λ (os : List ℕ). get_or os n 0) (drafts_offsets items items) ∙ sym (offset_of-all items n)) k in
    items_again offsets numbers drafts items starts (drafts_numbered offsets items items same (ap length (drafts_offsets items items) ∙ length-offsets items) spells.spelled)
