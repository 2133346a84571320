-- What is inserted into a method fits its new code: its locals are there, and it calls only methods of FreeMe.
use Rattle.std.proofs.Common.{◌≡◌, ℕ, ◌+◌, ◌<◌, Bool, true, false, List, [], ◌∷◌, length, Option, Some, None, refl, arith}
use Rattle.std.specs.List.{AllByRecursion, flat_map, range_with_len}
use Rattle.fm_base.proofs.ListFacts.{AllByRecursion-append}
use Rattle.fm_chain.specs.Chained.{anchors_of, chained, chained_item, chained_items, has_chain, looped_at, released, taken}
use Rattle.fm_chain.specs.Laws.{CallsSuit}
use Rattle.fm_chain.specs.declared.calls.Calls.{Calls}
use Rattle.fm_code.specs.ConstantPool.{method_ref_at}
use Rattle.fm_code.specs.declared.code_array.Code.{Code}
use Rattle.fm_code.specs.declared.code_array.Item.{Item}
use Rattle.fm_code.specs.declared.constant_pool.Entry.{Entry}
use Rattle.fm_code.specs.declared.instructions.Insn.{Insn}
use Rattle.fm_code.specs.declared.instructions.Insn.TheVariants as insn
use Rattle.fm_code.specs.declared.operations.Reg.TheVariants as reg
use Rattle.fm_conn.proofs.ListLemmas.{Contains-from_range}
use Rattle.fm_layout.specs.declared.new_items.NewItem.{NewItem}
use Rattle.fm_place.proofs.WovenLemmas.{after-inside, all-flat}
use Rattle.fm_place.specs.Insertions.{after_at, before_at, Insertions}
use Rattle.fm_place.specs.Woven.{kept, local_of, null_stored}
use Rattle.fm_law_spelled.proofs.Growing.{chain_in}
use Rattle.fm_law_spelled.specs.Calling.{FreeMeMethod, CallsChain, CallsFree, CallsLink, entry_of, IsCall, MayCall, member_name_of}

-- the entries of the methods that may be called name them
abbrev pub NamesCalls : (chains : Bool) → Calls → List Entry → Type 0
NamesCalls chains calls entries = (m : FreeMeMethod) → MayCall chains m → method_ref_at entries (entry_of calls m) ≡ Some (member_name_of m)

-- an instruction that is inserted into code with `locals` locals
abbrev pub InsertedFits : (chains : Bool) → Calls → (locals : ℕ) → Insn → Type 0
InsertedFits chains calls locals insn.Null = Unit {0}
InsertedFits chains calls locals insn.Dup = Unit {0}
InsertedFits chains calls locals (insn.Load reg.Ref local) = local < locals
InsertedFits chains calls locals (insn.Store reg.Ref local) = local < locals
InsertedFits chains calls locals (insn.Static index) = IsCall chains calls index
InsertedFits chains calls locals i = ⊥

-- an instruction that keeps an old item, or that is inserted
abbrev pub FitsAs : (chains : Bool) → Calls → (locals : ℕ) → Insn → Option ℕ → Type 0
FitsAs chains calls locals i None = InsertedFits chains calls locals i
FitsAs chains calls locals i (Some k) = Unit {0}

abbrev pub NewFits : (chains : Bool) → Calls → (locals : ℕ) → NewItem → Type 0
NewFits chains calls locals new = FitsAs chains calls locals new.insn new.kept

-- ---- what is inserted for each holder of a list, and for each item

module _ (chains : Bool) (calls : Calls) (code : Code) (plan : Insertions) (suits : CallsSuit calls code plan)
    (may : has_chain plan ≡ true → chains ≡ true) where
  abbrev Fits : NewItem → Type 0
  Fits new = NewFits chains calls (code.max_locals + length plan.holders) new

  may_at : (h : ℕ) → looped_at plan h ≡ true → chains ≡ true
  may_at h looped = may (chain_in plan.holders h looped)

  local_fits : (h : ℕ) → h < length plan.holders → local_of code h < code.max_locals + length plan.holders
  local_fits h inside = omega arith

  null_fits : (h : ℕ) → h < length plan.holders → AllByRecursion Fits (null_stored (local_of code h))
  null_fits h inside = (tt, (local_fits h inside, tt))

  taken_fits : (looped : Bool) (h : ℕ) → h < length plan.holders → (looped ≡ true → chains ≡ true)
      → AllByRecursion Fits (taken calls looped (local_of code h))
  taken_fits true h inside own = (tt, (local_fits h inside, ((CallsLink, own refl, refl), (local_fits h inside, tt))))
  taken_fits false h inside own = (tt, (local_fits h inside, tt))

  released_fits : (looped : Bool) (h : ℕ) → h < length plan.holders → (looped ≡ true → chains ≡ true)
      → AllByRecursion Fits (released calls looped (local_of code h))
  released_fits true h inside own = (local_fits h inside, ((CallsChain, own refl, refl), (tt, (local_fits h inside, tt))))
  released_fits false h inside own = (local_fits h inside, ((CallsFree, tt, refl), (tt, (local_fits h inside, tt))))

  items_fit : (anchors : List ℕ) (j : ℕ) (items : List Item) → AllByRecursion Fits (chained_items calls code plan anchors j items)
  items_fit anchors j [] = tt
  items_fit anchors j (item ∷ items) =
      AllByRecursion-append Fits (chained_item calls code plan anchors j item.insn) (chained_items calls code plan anchors (j + 1) items)
      (AllByRecursion-append Fits (flat_map (λ h. released calls (looped_at plan h) (local_of code h)) (before_at plan j))
      (kept anchors j item.insn ∷ flat_map (λ h. taken calls (looped_at plan h) (local_of code h)) (after_at plan j))
      (all-flat Fits (λ h. released calls (looped_at plan h) (local_of code h)) (before_at plan j)
      (λ h found. released_fits (looped_at plan h) h (suits.before j h found) (may_at h))) (
        tt,
        all-flat Fits (λ h. taken calls (looped_at plan h) (local_of code h)) (after_at plan j)
            (λ h found. taken_fits (looped_at plan h) h (after-inside plan j h found) (may_at h)),
      ))
      (items_fit anchors (j + 1) items)

  -- all new items fit
  pub chained_fit : AllByRecursion Fits (chained calls code plan)
  chained_fit =
      AllByRecursion-append Fits (flat_map (λ h. null_stored (local_of code h)) (range_with_len 0 (length plan.holders)))
      (chained_items calls code plan (anchors_of plan code.items) 0 code.items)
      (all-flat Fits (λ h. null_stored (local_of code h)) (range_with_len 0 (length plan.holders))
      (λ h found. null_fits h (let in_range = Contains-from_range 0 (length plan.holders) h found in omega (arith, in_range))))
      (items_fit (anchors_of plan code.items) 0 code.items)
