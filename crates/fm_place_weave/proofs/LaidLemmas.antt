-- What is laid out by a plan's new items and anchors.
use Rattle.std.proofs.Common.{◌≡◌, ℕ, ◌+◌, ◌≤◌, List, sym, subst, ◌∙◌}
use Rattle.fm_chain.specs.Planned.{added_words}
use Rattle.fm_chain.specs.declared.calls.Calls.{Calls}
use Rattle.fm_chain.specs.declared.plans.ChainPlan.{ChainPlan}
use Rattle.fm_code.specs.declared.code_array.Code.{Code}
use Rattle.fm_code.specs.declared.code_array.Item.{Item}
use Rattle.fm_code.specs.declared.code_array.TheConstants.{MAX_CODE_BYTES}
use Rattle.fm_layout.specs.Conditions.{AreNewItems, AreOldItems}
use Rattle.fm_layout.specs.Laid.{IsCause, laid_length, laid_of}
use Rattle.fm_layout.specs.Tables.{AreAnchors, moved_tables}
use Rattle.fm_layout.specs.declared.error.LayFail.{LayFail}
use Rattle.fm_layout.specs.declared.laying.Laid.{Laid}
use Rattle.fm_layout.specs.declared.new_items.NewItem.{NewItem}
use Rattle.fm_layout.specs.declared.tables.Tables.{Tables}
use Rattle.fm_place_weave.specs.ByPlan.{anchors_by, code_by, items_by}
use Rattle.fm_place_weave.specs.Conditions.{MayBeWoven}

pub old_from : (calls : Calls) (code : Code) (plan : ChainPlan) (old : List Item) → MayBeWoven calls code plan → old ≡ code.items → AreOldItems old
old_from calls code plan old may is = subst (λ xs. AreOldItems xs) (sym is) may.old_items

pub new_from : (calls : Calls) (code : Code) (plan : ChainPlan) (old : List Item) (items : List NewItem) → MayBeWoven calls code plan → old ≡ code.items
    → items ≡ items_by calls code plan → AreNewItems old items
new_from calls code plan old items may is are =
    subst (λ xs. AreNewItems xs items) (sym is) (subst (λ xs. AreNewItems code.items xs) (sym are) may.new_items)

laid-is : (calls : Calls) (code : Code) (plan : ChainPlan) (old : List Item) (items : List NewItem) (laid : Laid) → old ≡ code.items → items ≡ items_by calls code plan
    → laid ≡ laid_of old items → laid ≡ laid_of code.items (items_by calls code plan)
laid-is calls code plan old items laid is are made = made ∙ (λ k. laid_of (is k) (are k))

pub anchors_from_laid : (calls : Calls) (code : Code) (plan : ChainPlan) (old : List Item) (items : List NewItem) (anchors : List ℕ) (laid : Laid)
    → MayBeWoven calls code plan → old ≡ code.items → items ≡ items_by calls code plan → anchors ≡ anchors_by code plan → laid ≡ laid_of old items
    → AreAnchors code laid anchors
anchors_from_laid calls code plan old items anchors laid may is are by made =
    subst (λ xs. AreAnchors code laid xs) (sym by)
    (subst (λ l. AreAnchors code l (anchors_by code plan)) (sym (laid-is calls code plan old items laid is are made)) may.anchors)

pub cause_from : (calls : Calls) (code : Code) (plan : ChainPlan) (old : List Item) (items : List NewItem) (e : LayFail) → old ≡ code.items
    → items ≡ items_by calls code plan → IsCause old items e → IsCause code.items (items_by calls code plan) e
cause_from calls code plan old items e is are cause =
    subst (λ xs. IsCause code.items xs e) are (subst (λ xs. IsCause xs items e) is cause)

pub fits_from : (calls : Calls) (code : Code) (plan : ChainPlan) (old : List Item) (items : List NewItem) → old ≡ code.items → items ≡ items_by calls code plan
    → laid_length old items ≤ MAX_CODE_BYTES → laid_length code.items (items_by calls code plan) ≤ MAX_CODE_BYTES
fits_from calls code plan old items is are short =
    subst (λ xs. laid_length code.items xs ≤ MAX_CODE_BYTES) are (subst (λ xs. laid_length xs items ≤ MAX_CODE_BYTES) is short)

-- the code of these laid items and these tables
abbrev code_from : Code → (words holders : ℕ) → Laid → Tables → Code
code_from code words holders laid tables = record {
  max_stack = code.max_stack + words;
  max_locals = code.max_locals + holders;
  items = laid.items;
  length = laid.length;
  handlers = tables.handlers;
  attributes = tables.attributes;
}

pub code_made : (calls : Calls) (code : Code) (plan : ChainPlan) (old : List Item) (items : List NewItem) (anchors : List ℕ) (laid : Laid) (tables : Tables) (words : ℕ)
    → words ≡ added_words plan → old ≡ code.items → items ≡ items_by calls code plan → anchors ≡ anchors_by code plan → laid ≡ laid_of old items
    → tables ≡ moved_tables code laid anchors → code_from code words plan.plan.holders laid tables ≡ code_by calls code plan
code_made calls code plan old items anchors laid tables words added is are by made moved =
    let whole = laid-is calls code plan old items laid is are made in
    λ k. code_from code (added k) plan.plan.holders (whole k) ((moved ∙ (λ i. moved_tables code (whole i) (by i))) k)
