-- The indices of instructions and of entries of exception tables refer to the same in the written
-- classes, and what is inserted calls methods of FreeMe.
use Rattle.std.proofs.Common.{◌≡◌, refl, sym, ◌∙◌, ap, ℕ, zero, suc, ◌+◌, ◌<◌, ◌≤◌, ◌⊎◌, inl, inr, true, cond, List, [], ◌∷◌, ◌++◌, length, map, get_or, Option, Some, None, Contains, arith}
use Rattle.std.specs.List.{AllByRecursion, cons_option, filter_map, flat_map}
use Rattle.std.proofs.lemmas.Bool.{cases_lt, false≢true}
use Rattle.std.proofs.lemmas.List.{get_or_past}
use Rattle.fm_link_supers.proofs.Downwards.{among_head, among_later, among_left, among_right}
use Rattle.fm_link_supers.proofs.ParentRefusals.{spelled_at}
use Rattle.fm_chain.specs.Chaining.{chained_class, chained_classes, class_calls, class_has_chain}
use Rattle.fm_law_relinked.proofs.ClassStays.{call_or_not}
use Rattle.fm_law_relinked.proofs.FreeUse.{all_entries, call_named, call_of, call_resolved, called_use, ClassTypesAreNumbered, has_free, HasFree}
use Rattle.fm_law_spelled.proofs.Growing.{either_class, grown_class, more}
use Rattle.fm_law_relinked.proofs.Outlines.{outline_same}
use Rattle.fm_law_relinked.proofs.PoolStays.{entry_same, member_same, method_entry, method_named}
use Rattle.fm_law_relinked.proofs.UsedWithin.{unused_past}
use Rattle.fm_law_relinked.proofs.Uses.{row_within, use_at, uses_by}
use Rattle.fm_law_spelled.specs.Calling.{FreeMeMethod, entry_of, IsCall, MayCall, member_name_of}
use Rattle.fm_code.specs.ConstantPool.{method_ref_at}
use Rattle.fm_code.specs.Edges.{insn_of}
use Rattle.fm_code.specs.Members.{code_of}
use Rattle.fm_code.specs.Spells.{HasSpelling}
use Rattle.fm_code.specs.declared.class_file.ClassDef.{ClassDef}
use Rattle.fm_code.specs.declared.class_file.Member.{Member}
use Rattle.fm_code.specs.declared.code_array.Code.{Code}
use Rattle.fm_code.specs.declared.code_array.Handler.{Handler}
use Rattle.fm_code.specs.declared.code_array.Item.{Item}
use Rattle.fm_code.specs.declared.constant_pool.Entry.{Entry}
use Rattle.fm_code.specs.declared.constant_pool.Entry.TheVariants as entry
use Rattle.fm_code.specs.declared.instructions.Insn.{Insn}
use Rattle.fm_code.specs.declared.instructions.Insn.TheVariants as insn
use Rattle.fm_place.specs.Rewriting.{Plans}
use Rattle.fm_law_linked.proofs.CodedMethods.{item_there}
use Rattle.fm_law_retyped.proofs.WrittenMethods.{HasMember, IsWritten}
use Rattle.fm_types.specs.Named.{class_of_method}
use Rattle.fm_types.specs.Typed.{use_by, use_in}
use Rattle.fm_world.specs.BuiltIns.{built_in}
use Rattle.fm_world.specs.Chains.{is_among}
use Rattle.fm_world.specs.Programs.{class_uses, Outline, outline_of, program_of, resolved_at, use_of}
use Rattle.fm_code.specs.Operands.{pool_index}
use Rattle.fm_world.specs.Uses.{caught_by, class_items, is_used, used_indices, values_of}
use Rattle.fm_world.specs.declared.uses.Use.TheVariants as resolved

-- ---- indices that are used

abbrev operands : List Item → List ℕ
operands items = filter_map (λ (item : Item). pool_index item.insn) items

operand_among : (items : List Item) (item : Item) (index : ℕ) → Contains items item → pool_index item.insn ≡ Some index → is_among index (operands items) ≡ true
operand_among [] item index (k, inside, there) is = absurd (omega (arith, inside))
operand_among (x ∷ items) item index (zero, inside, there) is =
    ap (λ o. is_among index (cons_option o (operands items))) (ap (λ (y : Item). pool_index y.insn) there ∙ is) ∙ among_head index (operands items)
operand_among (x ∷ items) item index (suc k, inside, there) is =
    by_option (pool_index x.insn) (operand_among items item index (k, omega (arith, inside), there) is) where
      by_option : (o : Option ℕ) → is_among index (operands items) ≡ true → is_among index (cons_option o (operands items)) ≡ true
      by_option None later = later
      by_option (Some n) later = among_later index n (operands items) later

pub used_by_item : (c : ClassDef) (code : Code) → HasMember c.methods (Some code) → (n : ℕ) (i : Insn) (index : ℕ) → insn_of code n ≡ Some i → pool_index i ≡ Some index
    → is_used c index ≡ true
unfolding used_indices
used_by_item c code m n i index at named =
    let x = item_there c m.member code n i m.among m.code_is at in
    let among = operand_among (class_items c) x.item index x.among (ap pool_index x.insn_is ∙ named) in
    let values = flat_map values_of c.fields in
    let first = operands (class_items c) in
    let caught = flat_map caught_by c.methods in
    let all = c.interfaces ++ values ++ first ++ caught in
    among_later index c.this_class (c.super_class ∷ all)
    (among_later index c.super_class all
    (among_left index (c.interfaces ++ values ++ first) caught (among_right index (c.interfaces ++ values) first among)))

class_among : (handlers : List Handler) (h : Handler) → Contains handlers h → is_among h.catch_class (map (λ (x : Handler). x.catch_class) handlers) ≡ true
class_among [] h (k, inside, there) = absurd (omega (arith, inside))
class_among (x ∷ handlers) h (zero, inside, there) =
    ap (λ (y : Handler). is_among h.catch_class (y.catch_class ∷ map (λ (z : Handler). z.catch_class) handlers)) there
    ∙ among_head h.catch_class (map (λ (x : Handler). x.catch_class) handlers)
class_among (x ∷ handlers) h (suc k, inside, there) =
    among_later h.catch_class x.catch_class (map (λ (x : Handler). x.catch_class) handlers) (class_among handlers h (k, omega (arith, inside), there))

abbrev caught_in : Option Code → List ℕ
caught_in None = []
caught_in (Some code) = map (λ (h : Handler). h.catch_class) code.handlers

caught_among : (members : List Member) (m : Member) (code : Code) (h : Handler) → Contains members m → code_of m ≡ Some code → Contains code.handlers h
    → is_among h.catch_class (flat_map caught_by members) ≡ true
caught_among [] m code h (k, inside, there) is listed = absurd (omega (arith, inside))
caught_among (x ∷ members) m code h (zero, inside, there) is listed =
    let classes : caught_by x ≡ caught_in (Some code) = ap caught_by there ∙ ap caught_in is in
    among_left h.catch_class (caught_by x) (flat_map caught_by members) (ap (is_among h.catch_class) classes ∙ class_among code.handlers h listed)
caught_among (x ∷ members) m code h (suc k, inside, there) is listed =
    among_right h.catch_class (caught_by x) (flat_map caught_by members) (caught_among members m code h (k, omega (arith, inside), there) is listed)

pub used_by_handler : (c : ClassDef) (code : Code) → HasMember c.methods (Some code) → (h : Handler) → Contains code.handlers h
    → is_used c h.catch_class ≡ true
unfolding used_indices
used_by_handler c code m h listed =
    let among = caught_among c.methods m.member code h m.among m.code_is listed in
    let values = flat_map values_of c.fields in
    let first = operands (class_items c) in
    let caught = flat_map caught_by c.methods in
    let all = c.interfaces ++ values ++ first ++ caught in
    among_later h.catch_class c.this_class (c.super_class ∷ all)
    (among_later h.catch_class c.super_class all (among_right h.catch_class (c.interfaces ++ values ++ first) caught among))

-- ---- the indices of methods of FreeMe

second_is_none : (class member : ℕ) → entry.Second ≡ entry.Method class member → ⊥
second_is_none class member is = cc

-- an entry that names such a method is there, and is resolved to it
call_within : (m : FreeMeMethod) (entries : List Entry) (index : ℕ) → method_ref_at entries index ≡ Some (member_name_of m) → index < length entries
call_within m entries index named = by_place (cases_lt index (length entries)) where
  by_place : (index < length entries) ⊎ (length entries ≤ index) → index < length entries
  by_place (inl within) = within
  by_place (inr past) =
      let e = method_entry entries index (member_name_of m) named in
      absurd (second_is_none e.0 e.1 (sym (get_or_past entries index entry.Second past) ∙ e.2))

call_at : (o : Outline) → HasFree o → (m : FreeMeMethod) (entries : List Entry) (index : ℕ) → method_ref_at entries index ≡ Some (member_name_of m)
    → resolved_at o entries index ≡ called_use m
call_at o has m entries index named =
    let e = method_entry entries index (member_name_of m) named in
    call_resolved o has m entries index e.0 e.1 e.2 (method_named entries index (member_name_of m) named)

module _ (o : Outline) (has : HasFree o) (plans : Plans) (first : ℕ) (c : ClassDef) (spelled : HasSpelling c) (m : FreeMeMethod)
    (may : MayCall (class_has_chain plans first c) m) where
  row_used : (d : ClassDef) (index : ℕ) → index < length d.pool.entries → is_used d index ≡ true → resolved_at o d.pool.entries index ≡ called_use m
      → get_or (class_uses o d) index resolved.Unused ≡ called_use m
  row_used d index within used is =
      row_within o d index within ∙ ap (λ b. cond b (resolved_at o d.pool.entries index) resolved.Unused) used ∙ is

  -- where the class itself uses it
  own_call : is_used c (call_of plans first c m) ≡ true → get_or (class_uses o c) (call_of plans first c m) resolved.Unused ≡ called_use m
  own_call used = by_place (cases_lt (call_of plans first c m) (length c.pool.entries)) where
    by_place : (call_of plans first c m < length c.pool.entries) ⊎ (length c.pool.entries ≤ call_of plans first c m) → get_or (class_uses o c) (call_of plans first c m) resolved.Unused ≡ called_use m
    by_place (inl within) =
        let valid = spelled.1.pool.entries in
        let e = method_entry (all_entries plans first c) (call_of plans first c m) (member_name_of m) (call_named plans first c m may) in
        let is = sym (entry_same c.pool.entries (more plans first c) valid (call_of plans first c m) within) ∙ e.2 in
        let member = sym (member_same c.pool.entries (more plans first c) valid (call_of plans first c m) within) ∙ method_named (all_entries plans first c) (call_of plans first c m) (member_name_of m) (call_named plans first c m may) in
        row_used c (call_of plans first c m) within used (call_resolved o has m c.pool.entries (call_of plans first c m) e.0 e.1 is member)
    by_place (inr past) = absurd (false≢true (sym (unused_past c spelled (call_of plans first c m) past) ∙ used))

  grown_call : is_used (grown_class plans first c) (call_of plans first c m) ≡ true → get_or (class_uses o (grown_class plans first c)) (call_of plans first c m) resolved.Unused ≡ called_use m
  grown_call used = row_used (grown_class plans first c) (call_of plans first c m) (call_within m (all_entries plans first c) (call_of plans first c m) (call_named plans first c m may)) used (call_at o has m (all_entries plans first c) (call_of plans first c m) (call_named plans first c m may))

  written_call : is_used (chained_class plans first c) (call_of plans first c m) ≡ true
      → get_or (class_uses o (chained_class plans first c)) (call_of plans first c m) resolved.Unused ≡ called_use m
  written_call =
      either_class plans first c (λ (d : ClassDef). is_used d (call_of plans first c m) ≡ true → get_or (class_uses o d) (call_of plans first c m) resolved.Unused ≡ called_use m) own_call grown_call

pub program_outline : (files : List ClassDef) (main : List ℕ) → (program_of files main).outline ≡ outline_of files main
unfolding program_of
program_outline files main = refl

pub outlines_same : (given : List ClassDef) (main : List ℕ) (plans : Plans) → AllByRecursion HasSpelling given
    → (program_of (chained_classes plans given) main).outline ≡ (program_of given main).outline
outlines_same given main plans spelled =
    program_outline (chained_classes plans given) main ∙ outline_same plans given main spelled ∙ sym (program_outline given main)

-- ---- a method

module _ (numbered : ClassTypesAreNumbered) (given : List ClassDef) (main : List ℕ) (plans : Plans) (spelled : AllByRecursion HasSpelling given)
    (method : ℕ) (code : Code) (x : IsWritten given main plans method code) where
  own_spelled : HasSpelling x.own
  own_spelled = spelled_at given x.place x.own spelled x.at

  -- a method's index is one of its class
  old_use : (index : ℕ) → use_in (program_of given main) method index ≡ use_of (program_of given main) (length built_in + x.place) index
  old_use index =
      ap (λ n. use_of (program_of given main) n index) (ap (λ o. class_of_method o method) (program_outline given main) ∙ x.class_is)

  new_use : (index : ℕ) → use_in (program_of (chained_classes plans given) main) method index
      ≡ use_of (program_of (chained_classes plans given) main) (length built_in + x.place) index
  new_use index =
      ap (λ n. use_of (program_of (chained_classes plans given) main) n index)
      (ap (λ o. class_of_method o method) (outlines_same given main plans spelled ∙ program_outline given main) ∙ x.class_is)

  -- which methods it may call
  abbrev May : FreeMeMethod → Type 0
  May m = MayCall (class_has_chain plans x.start x.own) m

  abbrev index_of : FreeMeMethod → ℕ
  index_of m = call_of plans x.start x.own m

  -- that of such a method, where the written class uses it
  pub called : (m : FreeMeMethod) → MayCall (class_has_chain plans x.start x.own) m
      → is_used (chained_class plans x.start x.own) (entry_of (class_calls plans x.start x.own) m) ≡ true
      → use_in (program_of (chained_classes plans given) main) method (entry_of (class_calls plans x.start x.own) m) ≡ called_use m
  called m may used =
      new_use (index_of m)
      ∙ use_at (chained_classes plans given) main x.place (chained_class plans x.start x.own) x.new_at (index_of m)
      ∙ ap (λ o. get_or (class_uses o (chained_class plans x.start x.own)) (index_of m) resolved.Unused) (outline_same plans given main spelled)
      ∙ written_call (outline_of given main) (has_free numbered given main) plans x.start x.own own_spelled m may used

  kept_call : (m : FreeMeMethod) → May m → is_used x.own (index_of m) ≡ true → use_in (program_of given main) method (index_of m) ≡ called_use m
  kept_call m may used =
      old_use (index_of m) ∙ use_at given main x.place x.own x.at (index_of m)
      ∙ own_call (outline_of given main) (has_free numbered given main) plans x.start x.own own_spelled m may used

  -- an index that both classes use
  pub both_use : (index : ℕ) → is_used x.own index ≡ true → is_used (chained_class plans x.start x.own) index ≡ true
      → use_in (program_of (chained_classes plans given) main) method index ≡ use_in (program_of given main) method index
  both_use index used still = by_index (call_or_not (class_has_chain plans x.start x.own) (class_calls plans x.start x.own) index) where
    by_index : IsCall (class_has_chain plans x.start x.own) (class_calls plans x.start x.own) index
        ⊎ (IsCall (class_has_chain plans x.start x.own) (class_calls plans x.start x.own) index → ⊥)
        → use_in (program_of (chained_classes plans given) main) method index ≡ use_in (program_of given main) method index
    by_index (inl (m, may, is)) =
        ap (use_in (program_of (chained_classes plans given) main) method) is
        ∙ called m may (ap (is_used (chained_class plans x.start x.own)) (sym is) ∙ still)
        ∙ sym (ap (use_in (program_of given main) method) is ∙ kept_call m may (ap (is_used x.own) (sym is) ∙ used))
    by_index (inr other) =
        new_use index ∙ uses_by plans given main spelled x.place x.start x.own x.at x.new_at index other ∙ sym (old_use index)

  -- an instruction of both
  pub insn_use : (i kept : Insn) (j n : ℕ) (new : Code) → pool_index kept ≡ pool_index i → insn_of code j ≡ Some i
      → HasMember (chained_class plans x.start x.own).methods (Some new) → insn_of new n ≡ Some kept
      → use_by (program_of (chained_classes plans given) main) method i ≡ use_by (program_of given main) method i
  insn_use i kept j n new same at member new_at =
      by_insn i (λ index is.
      both_use index (used_by_item x.own code x.old j i index at is)
      (used_by_item (chained_class plans x.start x.own) new member n kept index new_at (same ∙ is))) where
        by_insn : (i : Insn)
            → ((index : ℕ) → pool_index i ≡ Some index
            → use_in (program_of (chained_classes plans given) main) method index ≡ use_in (program_of given main) method index)
            → use_by (program_of (chained_classes plans given) main) method i ≡ use_by (program_of given main) method i
        by_insn (insn.LoadPool index) each = each index refl
        by_insn (insn.GetStatic index) each = each index refl
        by_insn (insn.PutStatic index) each = each index refl
        by_insn (insn.GetField index) each = each index refl
        by_insn (insn.PutField index) each = each index refl
        by_insn (insn.Virtual index) each = each index refl
        by_insn (insn.Special index) each = each index refl
        by_insn (insn.Static index) each = each index refl
        by_insn (insn.Interface index) each = each index refl
        by_insn (insn.New index) each = each index refl
        by_insn (insn.NewRefs index) each = each index refl
        by_insn (insn.Cast index) each = each index refl
        by_insn (insn.IsA index) each = each index refl
        by_insn (insn.MultiArray index dimensions) each = each index refl
        by_insn i each = refl

  pub handler_use : (h other : Handler) (new : Code) → other.catch_class ≡ h.catch_class → Contains code.handlers h
      → HasMember (chained_class plans x.start x.own).methods (Some new) → Contains new.handlers other
      → use_in (program_of (chained_classes plans given) main) method h.catch_class ≡ use_in (program_of given main) method h.catch_class
  handler_use h other new same listed member moved =
      both_use h.catch_class (used_by_handler x.own code x.old h listed)
      (ap (is_used (chained_class plans x.start x.own)) (sym same)
      ∙ used_by_handler (chained_class plans x.start x.own) new member other moved)
