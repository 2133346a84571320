-- The program of classes with safe insertions is that of the given ones with what these insert.
use Rattle.std.proofs.Common.{◌≡◌, ℕ, zero, suc, ◌+◌, ◌<◌, ◌⊎◌, inl, inr, Bool, true, false, List, [], ◌∷◌, ◌++◌, length, map, Option, Some, None, Contains, option_and_then, refl, sym, ap, subst, ◌∙◌, arith}
use Rattle.std.specs.Prelude.{slice_get}
use Rattle.std.specs.List.{AllByRecursion, range_with_len, slice_index_or}
use Rattle.std.proofs.lemmas.Bool.{false≢true}
use Rattle.std.proofs.lemmas.Option.{none-some, same_Some}
use Rattle.fm_chain.proofs.LoopedPlans.{ArePlannedSafely, looped_safely, planned_safely}
use Rattle.fm_chain.proofs.WithoutChains.{none_in}
use Rattle.fm_chain.specs.Chained.{chained_code, chained_marks, has_chain}
use Rattle.fm_chain.specs.Chaining.{calls_for, chained_class, chained_classes, chained_marks_with, class_calls, class_has_chain, marks_in, plan_has_chain}
use Rattle.fm_chain.specs.SafeChains.{looped_plans, SafeChainsOf}
use Rattle.fm_chain.specs.declared.calls.Calls.{Calls}
use Rattle.fm_code.proofs.EdgesLemmas.{Contains-map, insn_inside, MeetsCodeRules-method}
use Rattle.fm_code.specs.ConstantPool.{AreSlots, entry_at}
use Rattle.fm_code.specs.Edges.{insn_of, MeetsCodeRules}
use Rattle.fm_code.specs.FreeEntries.{free_method}
use Rattle.fm_code.specs.SpellsCode.{with_targets}
use Rattle.fm_code.specs.Spells.{HasSpelling}
use Rattle.fm_code.specs.declared.class_file.ClassDef.{ClassDef}
use Rattle.fm_code.specs.declared.code_array.Code.{Code}
use Rattle.fm_code.specs.declared.constant_pool.Entry.{Entry}
use Rattle.fm_code.specs.declared.constant_pool.Entry.TheVariants as entry
use Rattle.fm_code.specs.declared.instructions.Insn.{Insn}
use Rattle.fm_code.specs.declared.instructions.Insn.TheVariants as insn
use Rattle.fm_conn.specs.Facts.{Facts}
use Rattle.fm_conn.specs.Links.{typed_method}
use Rattle.fm_exec_calls.proofs.BuiltInStarts.{nothing-starts}
use Rattle.fm_frames.specs.CallRows.{native_of}
use Rattle.fm_frames.specs.Natives.{native_of_row}
use Rattle.fm_frames.specs.declared.natives.Native.{Native}
use Rattle.fm_frames.specs.declared.natives.Native.TheVariants.{FreeMeFree, FreeMeFreeChain, FreeMeLink}
use Rattle.fm_law_chained.specs.Called.{CallsNative}
use Rattle.fm_law_linked.specs.Laws.{ProgramsAreResolved}
use Rattle.fm_law_relinked.proofs.Codes.{codes_chained, no_code}
use Rattle.fm_law_relinked.proofs.FreeMethod.{chain_method_number, free_class_number, free_method_number, free_type, link_method_number, number_of}
use Rattle.fm_law_relinked.proofs.FreeUse.{called_use, ClassTypesAreNumbered, has_free, type_found}
use Rattle.fm_law_spelled.proofs.Growing.{grows, more}
use Rattle.fm_law_relinked.proofs.Links.{marks_chained, written_chained}
use Rattle.fm_law_relinked.proofs.PoolStays.{entry_same, method_entry}
use Rattle.fm_law_spelled.specs.Calling.{FreeMeMethod, CallsChain, CallsFree, CallsLink, entry_of, MayCall}
use Rattle.fm_law_relinked.specs.Codes.{code_with}
use Rattle.fm_law_retyped.proofs.KeptRows.{same_row}
use Rattle.fm_law_retyped.proofs.SafeMethods.{safe_can}
use Rattle.fm_law_retyped.proofs.WrittenMethods.{HasMember, IsWritten, written_method}
use Rattle.fm_law_retyped.proofs.WrittenUses.{called, handler_use, insn_use, outlines_same, program_outline, used_by_item}
use Rattle.fm_law_same_runs.specs.Beside.{Marks}
use Rattle.fm_law_unwoven.proofs.InsertedCalls.{inserted_call}
use Rattle.fm_law_unwoven.proofs.LaidTodos.{laid}
use Rattle.fm_law_unwoven.specs.Laid.{IsKept, IsLaid, IsSplit, IsWhole, mark_at, moved_to}
use Rattle.fm_law_unwoven.proofs.LaidSame.{same_laid}
use Rattle.fm_law_unwoven.specs.WovenFrom.{AreCalls, ChainedProgramsAreWoven, HasInserted, inserted_by, IsWovenFrom, NamesTheSame, nothing_inserted, own_marks, SafeProgramsAreWoven}
use Rattle.fm_law_woven_flow.specs.Roles.{CanStand, IsOpposite, IsRetargeted}
use Rattle.fm_layout.specs.Spelling.{conditional, opposite}
use Rattle.fm_link_supers.proofs.ParentRefusals.{some_entries, spelled_at}
use Rattle.fm_place.proofs.SameTypings.{used_same}
use Rattle.fm_place.specs.Insertions.{Insertions}
use Rattle.fm_place.specs.Rewriting.{Plans}
use Rattle.fm_place.specs.Safe.{AreSafe, narrowed_to, SafeOf}
use Rattle.fm_same.specs.Resolved.{IsResolved}
use Rattle.fm_types.specs.Typed.{use_by, use_in}
use Rattle.fm_world.specs.BuiltIns.{built_in, free_me_row}
use Rattle.fm_world.specs.Members.{method_at, methods_of}
use Rattle.fm_world.specs.Programs.{classes_of, code_at, Outline, outline_of, Program, program_of}

-- ---- FreeMe's methods

-- which method of the machine each one is
abbrev native_for : FreeMeMethod → Native
native_for CallsFree = FreeMeFree
native_for CallsLink = FreeMeLink
native_for CallsChain = FreeMeFreeChain

-- their rows are those of their class
abbrev row_for : FreeMeMethod → ℕ
row_for CallsFree = free_me_row
row_for CallsLink = free_me_row + 1
row_for CallsChain = free_me_row + 2

free_row_is : (given : List ClassDef) → (method_at (classes_of given) free_method_number).method.row ≡ Some free_me_row
unfolding classes_of built_in methods_of
free_row_is given = refl

link_row_is : (given : List ClassDef) → (method_at (classes_of given) link_method_number).method.row ≡ Some (free_me_row + 1)
unfolding classes_of built_in methods_of
link_row_is given = refl

chain_row_is : (given : List ClassDef) → (method_at (classes_of given) chain_method_number).method.row ≡ Some (free_me_row + 2)
unfolding classes_of built_in methods_of
chain_row_is given = refl

row_is : (given : List ClassDef) (m : FreeMeMethod) → (method_at (classes_of given) (number_of m)).method.row ≡ Some (row_for m)
row_is given CallsFree = free_row_is given
row_is given CallsLink = link_row_is given
row_is given CallsChain = chain_row_is given

native_row : (m : FreeMeMethod) → native_of_row (row_for m) ≡ Some (native_for m)
native_row CallsFree = refl
native_row CallsLink = refl
native_row CallsChain = refl

classes_are : (given : List ClassDef) (main : List ℕ) → (program_of given main).outline.classes ≡ classes_of given
unfolding outline_of program_of
classes_are given main = refl

own_row : (given : List ClassDef) (main : List ℕ) (m : FreeMeMethod) → (method_at (program_of given main).outline.classes (number_of m)).method.row ≡ Some (row_for m)
own_row given main m = ap (λ classes. (method_at classes (number_of m)).method.row) (classes_are given main) ∙ row_is given m

native_is : (given : List ClassDef) (main : List ℕ) (m : FreeMeMethod) → native_of (program_of given main).outline (number_of m) ≡ Some (native_for m)
native_is given main m = ap (λ row. option_and_then native_of_row row) (own_row given main m) ∙ native_row m

calls_native : ClassTypesAreNumbered → (given : List ClassDef) (main : List ℕ) → IsResolved (program_of given main) → (m : FreeMeMethod)
    → CallsNative (program_of given main).outline (native_for m) (called_use m)
calls_native numbered given main resolved m = record {
  method = record { 0 = number_of m };
  number = record { 0 = free_class_number };
  type = free_type;
  use_is = refl;
  type_is =
      ap (λ (o : Outline). slice_get o.types free_class_number) (program_outline given main)
      ∙ type_found (outline_of given main).types (has_free numbered given main).number;
  row_is = native_is given main m;
  started = λ started. nothing-starts (program_of given main) started (number_of m) (row_for m) resolved.runnable resolved.rows (own_row given main m);
}

-- nothing is called by index 0
first_slot : (entries : List Entry) → AreSlots true entries → entry_at entries 0 ≡ entry.Second
first_slot [] slots = absurd slots
first_slot (entry.Second ∷ entries) slots = refl
first_slot (e ∷ entries) slots = absurd slots

-- ---- one method

-- the marks where nothing is inserted
all_kept : (n k j : ℕ) → j < n → mark_at (map (λ i. Some i) (range_with_len k n)) j ≡ Some (k + j)
all_kept zero k j inside = absurd (omega (arith, inside))
all_kept (suc n) k zero inside = let same : k ≡ k + 0 = omega arith in ap Some same
all_kept (suc n) k (suc j) inside = let same : k + 1 + j ≡ k + suc j = omega arith in all_kept n (k + 1) j (omega (arith, inside)) ∙ ap Some same

kept_once : (n k at j : ℕ) → mark_at (map (λ i. Some i) (range_with_len k n)) at ≡ Some j → (at < n) × (j ≡ k + at)
kept_once zero k at j is = absurd (none-some j is)
kept_once (suc n) k zero j is = let same : k ≡ k + 0 = omega arith in (omega arith, sym (same_Some k j is) ∙ same)
kept_once (suc n) k (suc at) j is =
    let later = kept_once n (k + 1) at j is in
    let less = later.0 in
    let place = later.1 in
    (omega (arith, less), omega (arith, place))

module _ (numbered : ClassTypesAreNumbered) (given : List ClassDef) (main : List ℕ) (plans : Plans) (spelled : AllByRecursion HasSpelling given)
    (resolved : IsResolved (program_of given main)) (analysed : Program) (facts : Facts) (method : ℕ) (code : Code)
    (code_is : code_at (program_of given main) method ≡ Some code) where
  abbrev p : Program
  p = program_of given main

  abbrev q : Program
  q = program_of (chained_classes plans given) main

  x : IsWritten given main plans method code
  x = written_method given main plans method code code_is

  -- the entries of FreeMe's methods
  abbrev calls : Calls
  calls = class_calls plans x.start x.own

  own_spelled : HasSpelling x.own
  own_spelled = spelled_at given x.place x.own spelled x.at

  free_some : calls.free ≡ 0 → ⊥
  free_some none =
      let entries = x.own.pool.entries in
      let others = more plans x.start x.own in
      let within = some_entries entries own_spelled.1.pool.slots in
      let e = method_entry (entries ++ others) calls.free free_method ((grows plans x.start x.own).named CallsFree tt) in
      let second : entry_at (entries ++ others) calls.free ≡ entry.Second =
      ap (entry_at (entries ++ others)) none ∙ entry_same entries others own_spelled.1.pool.entries 0 within ∙ first_slot entries own_spelled.1.pool.slots in
      no_method e.0 e.1 (sym second ∙ e.2) where
        no_method : (class member : ℕ) → entry.Second ≡ entry.Method class member → ⊥
        no_method class member is = cc

  member_of : (new : Code) → code_at q method ≡ Some new → HasMember (chained_class plans x.start x.own).methods (Some new)
  member_of new new_is = record { member = x.new.member; among = x.new.among; code_is = x.new.code_is ∙ new_is }

  pub rules : MeetsCodeRules code
  rules = MeetsCodeRules-method x.own x.old.member code (spelled_at given x.place x.own spelled x.at) x.old.among x.old.code_is

  -- ---- as it was

  module _ (none : plans method ≡ None) where
    same_code : code_at q method ≡ Some code
    same_code = x.new_is ∙ ap (λ o. code_with calls o (Some code)) none

    same_names : NamesTheSame p q method code
    same_names = record {
      insns = λ j i there. insn_use numbered given main plans spelled method code x i i j j code refl there (member_of code same_code) there;
      handlers = λ h listed. handler_use numbered given main plans spelled method code x h h code refl listed (member_of code same_code) listed;
    }

    marks_none : slice_index_or (chained_marks_with plans given) method [] ≡ map (λ j. Some j) (range_with_len 0 (length code.items))
    marks_none = x.marks_are ∙ ap (marks_in calls (Some code)) none

    all_marked : (j : ℕ) → j < length code.items → mark_at (own_marks (chained_marks_with plans given) method) j ≡ Some j
    all_marked j inside =
        let place : 0 + j ≡ j = omega arith in
        ap (λ marks. mark_at marks j) marks_none ∙ all_kept (length code.items) 0 j inside ∙ ap Some place

    marked_once : (n j : ℕ) → mark_at (own_marks (chained_marks_with plans given) method) n ≡ Some j → (j < length code.items) × (n ≡ j)
    marked_once n j is =
        let found = kept_once (length code.items) 0 n j (sym (ap (λ marks. mark_at marks n) marks_none) ∙ is) in
        let place = found.1 in
        let less = found.0 in
        (omega (arith, less, place), omega (arith, place))

    none_called : (row : Native) (call : ℕ) → AreCalls q (chained_marks_with plans given) method code row call
    none_called row call n there none =
        let inside = insn_inside code n (insn.Static call) there in
        absurd (none-some n (sym none ∙ all_marked n inside))

    unchanged : HasInserted q (chained_marks_with plans given) method code nothing_inserted
    unchanged = record {
      calls = calls;
      new = code;
      new_is = same_code;
      laid = same_laid calls code (own_marks (chained_marks_with plans given) method) all_marked marked_once;
      frees = none_called FreeMeFree calls.free;
      links = none_called FreeMeLink calls.link;
      chains = none_called FreeMeFreeChain calls.free_chain;
    }

  -- ---- with a plan

  module _ (plan : Insertions) (planned : plans method ≡ Some plan) (safe : AreSafe facts (typed_method analysed facts.typing method code) plan) where
    -- where the class may not call the other methods, no holder holds a chain
    none_has : class_has_chain plans x.start x.own ≡ false → has_chain plan ≡ false
    none_has none_may = by_flag (has_chain plan) refl where
      by_flag : (b : Bool) → has_chain plan ≡ b → has_chain plan ≡ false
      by_flag false is = is
      by_flag true is =
          absurd (false≢true (sym none_may ∙ (grows plans x.start x.own).chained x.offset x.inside (ap plan_has_chain (ap plans x.number ∙ planned) ∙ is)))

    abbrev new : Code
    new = chained_code calls code plan

    new_is : code_at q method ≡ Some new
    new_is = x.new_is ∙ ap (λ o. code_with calls o (Some code)) planned

    can : CanStand code plan
    can = safe_can facts (typed_method analysed facts.typing method code) plan safe

    own : IsLaid calls code plan new (chained_marks calls code plan)
    own = laid calls code plan rules can

    marks_are : slice_index_or (chained_marks_with plans given) method [] ≡ chained_marks calls code plan
    marks_are = x.marks_are ∙ ap (marks_in calls (Some code)) planned

    -- an instruction is in the new code, but for its targets
    kept_use : (j : ℕ) (i : Insn) → insn_of code j ≡ Some i → (kept : Insn) → IsRetargeted i kept ⊎ IsOpposite i kept → insn_of new (own.numbers j) ≡ Some kept
        → use_by q method i ≡ use_by p method i
    kept_use j i there kept same at =
        insn_use numbered given main plans spelled method code x i kept j (own.numbers j) new (same_row i kept same).operand there (member_of new new_is) at

    named_insn : (j : ℕ) (i : Insn) → insn_of code j ≡ Some i → IsKept code new (chained_marks calls code plan) own.entries j i (own.numbers j) (own.behind j)
        → use_by q method i ≡ use_by p method i
    named_insn j i there (IsWhole at behind) = kept_use j i there (with_targets own.entries i) (inl (record { targets = own.entries; is = refl })) at
    named_insn j i there (IsSplit condition target other is at follows jump mark behind) =
        kept_use j i there (conditional (opposite condition) other)
        (inr (record { condition = condition; target = target; other = other; branch = is; test = refl })) at

    names : NamesTheSame p q method code
    names = record {
      insns = λ j i there. named_insn j i there (own.kept j i there);
      handlers = λ h listed.
          handler_use numbered given main plans spelled method code x h (moved_to own.entries h) new refl listed (member_of new new_is)
          (subst (λ l. Contains l (moved_to own.entries h)) (sym own.handlers) (Contains-map (moved_to own.entries) code.handlers h listed));
    }

    -- an inserted call is one of its method
    call_of : (m : FreeMeMethod) → MayCall (class_has_chain plans x.start x.own) m → (n : ℕ) → insn_of new n ≡ Some (insn.Static (entry_of calls m))
        → CallsNative q.outline (native_for m) (use_in q method (entry_of calls m))
    call_of m may n there =
        let used = used_by_item (chained_class plans x.start x.own) new (member_of new new_is) n (insn.Static (entry_of calls m)) (entry_of calls m) there refl in
        let use_is = called numbered given main plans spelled method code x m may used in
        subst (λ u. CallsNative q.outline (native_for m) u) (sym use_is)
        (subst (λ o. CallsNative o (native_for m) (called_use m)) (sym (outlines_same given main plans spelled)) (calls_native numbered given main resolved m))

    -- without chains nothing is called by another entry than that of FreeMe.free, and not by 0
    none_other : class_has_chain plans x.start x.own ≡ false → (row : Native) (call : ℕ) → call ≡ 0
        → AreCalls q (chained_marks_with plans given) method new row call
    none_other none_may row call zero_is n there none =
        let same = inserted_call calls code plan (λ h. none_in plan.holders h (none_has none_may)) rules can n call there
        (ap (λ marks. mark_at marks n) (sym marks_are) ∙ none) in
        absurd (free_some (sym same ∙ zero_is))

    links : AreCalls q (chained_marks_with plans given) method new FreeMeLink calls.link
    links = by_chains (class_has_chain plans x.start x.own) refl where
      by_chains : (b : Bool) → class_has_chain plans x.start x.own ≡ b → AreCalls q (chained_marks_with plans given) method new FreeMeLink calls.link
      by_chains true may = λ n there none. call_of CallsLink may n there
      by_chains false none_may = none_other none_may FreeMeLink calls.link (ap (λ b. (calls_for b x.own.pool.entries).link) none_may)

    chains : AreCalls q (chained_marks_with plans given) method new FreeMeFreeChain calls.free_chain
    chains = by_chains (class_has_chain plans x.start x.own) refl where
      by_chains : (b : Bool) → class_has_chain plans x.start x.own ≡ b
          → AreCalls q (chained_marks_with plans given) method new FreeMeFreeChain calls.free_chain
      by_chains true may = λ n there none. call_of CallsChain may n there
      by_chains false none_may = none_other none_may FreeMeFreeChain calls.free_chain (ap (λ b. (calls_for b x.own.pool.entries).free_chain) none_may)

    woven : HasInserted q (chained_marks_with plans given) method code plan
    woven = record {
      calls = calls;
      new = new;
      new_is = new_is;
      laid = subst (IsLaid calls code plan new) (sym marks_are) own;
      frees = λ n there none. call_of CallsFree tt n there;
      links = links;
      chains = chains;
    }

  -- ---- by the plan

  pub method_named : (plan : Option Insertions) → plans method ≡ plan
      → ((own : Insertions) → plan ≡ Some own → AreSafe facts (typed_method analysed facts.typing method code) own) → NamesTheSame p q method code
  method_named None is safe = same_names is
  method_named (Some plan) is safe = names plan is (safe plan refl)

  pub method_woven : (plan : Option Insertions) → plans method ≡ plan
      → ((own : Insertions) → plan ≡ Some own → AreSafe facts (typed_method analysed facts.typing method code) own)
      → HasInserted q (chained_marks_with plans given) method code (inserted_by plan)
  method_woven None is safe = unchanged is
  method_woven (Some plan) is safe = woven plan is (safe plan refl)

-- ---- all methods

-- the plans may have holders of chains
module _ (numbered : ClassTypesAreNumbered) (given : List ClassDef) (main : List ℕ) (spelled : AllByRecursion HasSpelling given)
    (resolved : IsResolved (program_of given main)) (made : Option (List Bool)) (facts : Facts) (plans : Plans)
    (safe : ArePlannedSafely (narrowed_to (program_of given main) made) facts plans) where
  abbrev whole : Program
  whole = program_of given main

  abbrev first : Program
  first = narrowed_to whole made

  abbrev second : Program
  second = program_of (chained_classes plans given) main

  no_code_written : (method : ℕ) → code_at first method ≡ None → code_at second method ≡ None
  no_code_written method none =
      let woven = codes_chained given main plans method in
      woven.new_is ∙ ap (code_with woven.calls (plans method)) none ∙ no_code woven.calls (plans method)

  -- the narrowed program names the same
  narrowed_names : (method : ℕ) (code : Code) → NamesTheSame whole second method code → NamesTheSame first second method code
  narrowed_names method code names = record {
    insns = λ j i there. names.insns j i there ∙ sym (used_same whole first refl refl method i);
    handlers = names.handlers;
  }

  all_woven : IsWovenFrom first second facts plans (chained_marks_with plans given)
  all_woven = record {
    outline = outlines_same given main plans spelled;
    bare = no_code_written;
    rules = λ method code is. rules numbered given main plans spelled resolved first facts method code is;
    named = λ method code is.
        narrowed_names method code
        (method_named numbered given main plans spelled resolved first facts method code is (plans method) refl (λ plan so. safe method code plan is so));
    methods = λ method code is.
        method_woven numbered given main plans spelled resolved first facts method code is (plans method) refl (λ plan so. safe method code plan is so);
    safe = safe;
  }

  pub written_woven : (written : List ClassDef) (marks : Marks) → written ≡ chained_classes plans given → marks ≡ chained_marks_with plans given
      → IsWovenFrom first (program_of written main) facts plans marks
  written_woven written marks written_is marks_are =
      subst (λ files. IsWovenFrom first (program_of files main) facts plans marks) (sym written_is)
      (subst (λ m. IsWovenFrom first second facts plans m) (sym marks_are) all_woven)

pub programs_woven : ClassTypesAreNumbered → ProgramsAreResolved → SafeProgramsAreWoven
programs_woven numbered resolve given main taken p is written marks =
    subst (λ r. (safe : SafeOf r given written marks) → IsWovenFrom r (program_of written main) safe.facts safe.plans marks) (sym is)
    (λ safe.
    let first = narrowed_to (program_of given main) p.made in
    written_woven numbered given main taken.spelled (resolve given main taken.spelled taken.linked taken.few) p.made safe.facts safe.plans
    (planned_safely first safe.facts safe.plans safe.methods) written marks
    (written_chained first given written marks safe) (marks_chained first given written marks safe))

-- so are those where holders of sites in loops hold chains
pub chains_woven : ClassTypesAreNumbered → ProgramsAreResolved → ChainedProgramsAreWoven
chains_woven numbered resolve given main taken p is written marks =
    subst (λ r. (safe : SafeChainsOf r given written marks) → IsWovenFrom r (program_of written main) safe.facts (looped_plans r safe.plans) marks) (sym is)
    (λ safe.
    let first = narrowed_to (program_of given main) p.made in
    written_woven numbered given main taken.spelled (resolve given main taken.spelled taken.linked taken.few) p.made safe.facts
    (looped_plans first safe.plans) (looped_safely first safe.facts safe.plans (planned_safely first safe.facts safe.plans safe.methods)) written marks
    safe.written_is safe.marks_are)
