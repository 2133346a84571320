-- A code with what is inserted meets the rules of a Code attribute, and its numbers and lengths fit their bytes.
use Rattle.std.proofs.Common.{◌≡◌, ℕ, zero, suc, ◌+◌, ◌<◌, ◌≤◌, Bool, true, false, List, [], ◌∷◌, ◌++◌, length, map, Option, refl, ap, ◌∙◌, arith, length-append}
use Rattle.std.specs.Prelude.{if◌then◌else◌}
use Rattle.std.specs.List.{AllByRecursion, filter_map, flat_map, range_with_len}
use Rattle.std.proofs.lemmas.List.{length-map}
use Rattle.fm_base.proofs.ListFacts.{AllByRecursion-both, AllByRecursion-weaker}
use Rattle.fm_base.specs.declared.limits.TheConstants.{MAX_FILE_BYTES}
use Rattle.fm_chain.proofs.LaidChains.{chained_anchors_are_anchors}
use Rattle.fm_chain.specs.Chained.{anchors_of, chained, chained_code, has_chain}
use Rattle.fm_chain.specs.declared.calls.Calls.{Calls}
use Rattle.fm_code.proofs.CodeItems.{HasBytes}
use Rattle.fm_code.proofs.InsnPrefixes.{insn_at_not_empty}
use Rattle.fm_code.specs.ClassBytes.{code_bytes, item_bytes, offset_in}
use Rattle.fm_code.specs.CodeRules.{CodeAttrIsValid, CodeIsValid, HandlerIsValid}
use Rattle.fm_code.specs.Fits.{CodeAttrFits, CodeFits, FitsTwo, VarFits}
use Rattle.fm_code.specs.Operands.{OperandIsValid}
use Rattle.fm_code.specs.SpellsCode.{ItemIsSpelled, LocalFits, LocalsFit, SpellsCode, with_targets}
use Rattle.fm_code.specs.declared.code_array.Code.{Code}
use Rattle.fm_code.specs.declared.code_array.CodeAttr.{CodeAttr}
use Rattle.fm_code.specs.declared.code_array.CodeAttr.TheVariants as code_attribute
use Rattle.fm_code.specs.declared.code_array.Handler.{Handler}
use Rattle.fm_code.specs.declared.code_array.Item.{Item}
use Rattle.fm_code.specs.declared.code_array.Line.{Line}
use Rattle.fm_code.specs.declared.code_array.Var.{Var}
use Rattle.fm_code.specs.declared.constant_pool.Entry.{Entry}
use Rattle.fm_code.specs.declared.instructions.Insn.{Insn}
use Rattle.fm_code.specs.declared.instructions.Insn.TheVariants as insn
use Rattle.fm_code.specs.declared.operations.Reg.{Reg}
use Rattle.fm_code.specs.declared.operations.Reg.TheVariants as reg
use Rattle.fm_layout.proofs.LawLemmas.{laid_is_code}
use Rattle.fm_layout.proofs.MarksLemmas.{marks_in_order, marks_one_each}
use Rattle.fm_layout.proofs.TablesLemmas.{tables_valid}
use Rattle.fm_layout.specs.Laid.{firsts_from, IsCode, laid_length, laid_of, marks_of}
use Rattle.fm_layout.specs.Rooms.{rooms_of, starts_from, widened_rooms}
use Rattle.fm_layout.specs.Tables.{AreValid, moved_attribute, moved_handler, moved_line, moved_tables, moved_var}
use Rattle.fm_layout.specs.declared.laying.Laid.{Laid}
use Rattle.fm_layout.specs.declared.new_items.NewItem.{NewItem}
use Rattle.fm_place.specs.Insertions.{Insertions}
use Rattle.fm_law_spelled.proofs.InsertedFits.{chained_fit, NamesCalls}
use Rattle.fm_law_spelled.proofs.KeptNames.{code_attribute_kept, handler_kept, operand_kept}
use Rattle.fm_law_spelled.proofs.LaidFits.{ItemFits, laid_fits}
use Rattle.fm_law_spelled.proofs.WrittenSizes.{woven_size}
use Rattle.fm_law_spelled.specs.Changed.{CanWeave}

-- ---- locals

-- a local that is there is there among more
more_locals : (few more : ℕ) → few ≤ more → (kind : Reg) (local : ℕ) → LocalFits few kind local → LocalFits more kind local
more_locals few more le reg.Int local fits = omega (arith, le, fits)
more_locals few more le reg.Long local fits = omega (arith, le, fits)
more_locals few more le reg.Ref local fits = omega (arith, le, fits)

locals_still : (few more : ℕ) → few ≤ more → (i : Insn) → LocalsFit few i → LocalsFit more i
locals_still few more le (insn.Load kind local) fits = more_locals few more le kind local fits
locals_still few more le (insn.Store kind local) fits = more_locals few more le kind local fits
locals_still few more le (insn.Inc local by) fits = omega (arith, le, fits)
locals_still few more le i fits = tt

-- ---- tables

handlers_fit : (firsts anchors : List ℕ) (handlers : List Handler) → AllByRecursion (λ (h : Handler). FitsTwo h.catch_class) handlers
    → AllByRecursion (λ (h : Handler). FitsTwo h.catch_class) (map (moved_handler firsts anchors) handlers)
handlers_fit firsts anchors [] fit = tt
handlers_fit firsts anchors (h ∷ handlers) fit = (fit.0, handlers_fit firsts anchors handlers fit.1)

lines_fit : (firsts anchors : List ℕ) (lines : List Line) → AllByRecursion (λ (l : Line). FitsTwo l.line) lines
    → AllByRecursion (λ (l : Line). FitsTwo l.line) (map (moved_line firsts anchors) lines)
lines_fit firsts anchors [] fit = tt
lines_fit firsts anchors (l ∷ lines) fit = (fit.0, lines_fit firsts anchors lines fit.1)

vars_fit : (firsts anchors : List ℕ) (vars : List Var) → AllByRecursion VarFits vars → AllByRecursion VarFits (map (moved_var firsts anchors) vars)
vars_fit firsts anchors [] fit = tt
vars_fit firsts anchors (v ∷ vars) fit = (record { name = fit.0.name; kind = fit.0.kind; index = fit.0.index }, vars_fit firsts anchors vars fit.1)

attributes_fit : (firsts anchors : List ℕ) (attributes : List CodeAttr) → AllByRecursion CodeAttrFits attributes
    → AllByRecursion CodeAttrFits (filter_map (moved_attribute firsts anchors) attributes)
attributes_fit firsts anchors [] fit = tt
attributes_fit firsts anchors (code_attribute.Lines name lines ∷ attributes) fit = (
  (fit.0.0, record { count = let same = length-map lines (moved_line firsts anchors) in let was = fit.0.1.count in omega (arith, same, was); each = lines_fit firsts anchors lines fit.0.1.each }),
  attributes_fit firsts anchors attributes fit.1,
)
attributes_fit firsts anchors (code_attribute.Vars name types vars ∷ attributes) fit = (
  (fit.0.0, record { count = let same = length-map vars (moved_var firsts anchors) in let was = fit.0.1.count in omega (arith, same, was); each = vars_fit firsts anchors vars fit.0.1.each }),
  attributes_fit firsts anchors attributes fit.1,
)
attributes_fit firsts anchors (code_attribute.Other raw ∷ attributes) fit = attributes_fit firsts anchors attributes fit.1

attributes_few : (firsts anchors : List ℕ) (attributes : List CodeAttr) → length (filter_map (moved_attribute firsts anchors) attributes) ≤ length attributes
attributes_few firsts anchors [] = omega arith
attributes_few firsts anchors (code_attribute.Lines name lines ∷ attributes) = let rest = attributes_few firsts anchors attributes in omega (arith, rest)
attributes_few firsts anchors (code_attribute.Vars name types vars ∷ attributes) = let rest = attributes_few firsts anchors attributes in omega (arith, rest)
attributes_few firsts anchors (code_attribute.Other raw ∷ attributes) = let rest = attributes_few firsts anchors attributes in omega (arith, rest)

-- ---- items

-- nothing is filtered out of nothing
some_kept : (marks : List (Option ℕ)) (k n : ℕ) → filter_map (λ mark. mark) marks ≡ range_with_len k (suc n) → 0 < length marks
some_kept [] k n e = cc
some_kept (m ∷ marks) k n e = omega arith

not_empty : (items : List Item) → 0 < length items → AllByRecursion HasBytes items → 0 < length (flat_map item_bytes items)
not_empty [] some filled = absurd (omega arith)
not_empty (item ∷ items) some filled = let both = length-append item.bytes (flat_map item_bytes items) in omega (arith, both, filled.0)

filled_items : (items : List Item) → SpellsCode (flat_map item_bytes items) items → AllByRecursion HasBytes items
filled_items items spells =
    AllByRecursion-weaker (ItemIsSpelled items) HasBytes
    (λ item spelled. insn_at_not_empty item.offset item.bytes (with_targets (offset_in items zero) item.insn) spelled.instruction) items spells.spelled

-- what is inserted takes two words of stack at most
pub at_most_two : (b : Bool) → (if b then 2 else 1) ≤ 2
at_most_two true = omega arith
at_most_two false = omega arith

module _ (chains : Bool) (entries more : List Entry) (calls : Calls) (named : NamesCalls chains calls (entries ++ more)) (code : Code) (plan : Insertions)
    (may : has_chain plan ≡ true → chains ≡ true) (can : CanWeave calls code plan) (valid : CodeIsValid entries code) where
  abbrev new_items : List NewItem
  new_items = chained calls code plan

  abbrev laid : Laid
  laid = laid_of code.items new_items

  abbrev anchors : List ℕ
  anchors = anchors_of plan code.items

  is_code : IsCode laid
  is_code = laid_is_code code.items new_items can.old_items can.new_items can.short

  -- the new code has as many bytes as were counted
  laid_size : laid.length ≡ laid_length code.items new_items
  unfolding laid_of laid_length
  laid_size = refl

  -- the old items fit the new code
  old_fit : AllByRecursion (ItemFits (code.max_locals + length plan.holders) (entries ++ more)) code.items
  old_fit =
      AllByRecursion-weaker (λ (item : Item). LocalsFit code.max_locals item.insn × OperandIsValid entries item)
      (ItemFits (code.max_locals + length plan.holders) (entries ++ more))
      (λ item own. (locals_still code.max_locals (code.max_locals + length plan.holders) (omega arith) item.insn own.0, operand_kept entries more item own.1)) code.items
      (AllByRecursion-both (λ (item : Item). LocalsFit code.max_locals item.insn) (OperandIsValid entries) code.items valid.locals valid.operands)

  -- and so do the laid ones
  all_fit : AllByRecursion (ItemFits (code.max_locals + length plan.holders) (entries ++ more)) laid.items
  unfolding laid_of
  all_fit =
      let rooms = widened_rooms (rooms_of code.items new_items) in
      laid_fits chains calls (code.max_locals + length plan.holders) (entries ++ more) named code.items old_fit (starts_from 0 rooms) (firsts_from 0 rooms) 0 0
      new_items rooms can.new_items.each (chained_fit chains calls code plan can.suits may)

  -- the old code has an item, and so has the new one
  some_old : 0 < length code.items
  some_old = by code.items refl where
    by : (items : List Item) → code.items ≡ items → 0 < length items
    by [] none =
        let empty = valid.not_empty in
        let size = valid.measured in
        let nothing : length (flat_map item_bytes code.items) ≡ 0 = ap (λ xs. length (flat_map item_bytes xs)) none in
        absurd (omega (arith, empty, size, nothing))
    by (item ∷ items) some = omega arith

  some_laid : 0 < length laid.items
  some_laid = by (length code.items) refl where
    by : (n : ℕ) → length code.items ≡ n → 0 < length laid.items
    by zero none = absurd (omega (arith, some_old, none))
    by (suc n) some =
        let order = marks_in_order code.items new_items ∙ can.new_items.in_order ∙ ap (range_with_len 0) some in
        let marks = some_kept (marks_of code.items new_items) 0 n order in
        let each = marks_one_each code.items new_items in
        omega (arith, marks, each)

  old_tables : AreValid (entries ++ more) (length code.items) (record { handlers = code.handlers; attributes = code.attributes })
  old_tables = record {
    handlers = AllByRecursion-weaker (HandlerIsValid entries (length code.items)) (HandlerIsValid (entries ++ more) (length code.items)) (handler_kept entries more (length code.items)) code.handlers valid.handlers;
    attributes = AllByRecursion-weaker (CodeAttrIsValid entries (length code.items)) (CodeAttrIsValid (entries ++ more) (length code.items)) (code_attribute_kept entries more (length code.items)) code.attributes valid.attributes;
  }

  new_tables : AreValid (entries ++ more) (length laid.items) (moved_tables code laid anchors)
  new_tables = tables_valid (entries ++ more) code new_items anchors (chained_anchors_are_anchors calls code plan) old_tables

  -- the new code is valid
  pub code_valid : CodeIsValid (entries ++ more) (chained_code calls code plan)
  code_valid = record {
    not_empty =
        let some = not_empty laid.items some_laid (filled_items laid.items is_code.spelled) in
        let size = is_code.measured in
        omega (arith, some, size);
    not_long = let size = laid_size in let short = can.short in omega (arith, size, short);
    measured = is_code.measured;
    spelled = is_code.spelled;
    locals = AllByRecursion-weaker (ItemFits (code.max_locals + length plan.holders) (entries ++ more)) (λ (item : Item). LocalsFit (code.max_locals + length plan.holders) item.insn) (λ item own. own.0) laid.items all_fit;
    operands = AllByRecursion-weaker (ItemFits (code.max_locals + length plan.holders) (entries ++ more)) (OperandIsValid (entries ++ more)) (λ item own. own.1) laid.items all_fit;
    handlers = new_tables.handlers;
    attributes = new_tables.attributes;
  }

  -- and fits its bytes
  pub code_fits : CodeFits code → length (code_bytes code) ≤ MAX_FILE_BYTES → CodeFits (chained_code calls code plan)
  code_fits fits short = record {
    max_stack =
        let low = can.stack in omega (arith, low);
    max_locals = let room = can.suits.room in omega (arith, room);
    code_length = let size = laid_size in let limit = can.short in omega (arith, size, limit);
    items = is_code.bytes;
    handlers = record {
      count = let same = length-map code.handlers (moved_handler laid.firsts anchors) in let was = fits.handlers.count in omega (arith, same, was);
      each = handlers_fit laid.firsts anchors code.handlers fits.handlers.each;
    };
    attributes = record {
      count = let few = attributes_few laid.firsts anchors code.attributes in let was = fits.attributes.count in omega (arith, few, was);
      each = attributes_fit laid.firsts anchors code.attributes fits.attributes.each;
    };
    size =
        let grown = woven_size code (chained_code calls code plan) laid.firsts anchors refl refl in
        let measured = is_code.measured in
        let size = laid_size in
        let limit = can.short in
        omega (arith, grown, measured, size, limit, short);
  }
