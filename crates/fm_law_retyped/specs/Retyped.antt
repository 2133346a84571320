-- Which written classes are typed: those of typed classes, unless in one of the methods given a local holds a copy of a held object while its
-- constructor is called, and a handler's range ends right behind that call.
use Rattle.std.specs.Prelude.{◌≡◌, ◌≤◌, ◌+◌, ℕ, false, List, [], Option, Some, option_and_then, Contains}
use Rattle.std.specs.List.{AllByRecursion}
use Rattle.fm_chain.specs.SafeChains.{SafeChainsOf}
use Rattle.fm_code.specs.Edges.{insn_of}
use Rattle.fm_code.specs.Spells.{HasSpelling}
use Rattle.fm_code.specs.declared.class_file.ClassDef.{ClassDef}
use Rattle.fm_code.specs.declared.code_array.Code.{Code}
use Rattle.fm_code.specs.declared.code_array.Handler.{Handler}
use Rattle.fm_code.specs.declared.instructions.Insn.{Insn}
use Rattle.fm_conn.specs.Facts.{Facts}
use Rattle.fm_conn.specs.Nodes.{TypedMethod}
use Rattle.fm_conn.specs.Pairs.{depth_below}
use Rattle.fm_conn.specs.Summaries.{same_number}
use Rattle.fm_place.specs.Insertions.{Holder, Insertions}
use Rattle.fm_place.specs.Rewriting.{Plans}
use Rattle.fm_place.specs.Safe.{IsProgramOf, method_in_facts, SafeOf}
use Rattle.fm_place.specs.Sites.{Constructs, new_item, new_item_at, site_kind}
use Rattle.fm_types.specs.States.{TypeState}
use Rattle.fm_types.specs.Typed.{state_at, Typed}
use Rattle.fm_types.specs.declared.slots.Slot.{Slot}
use Rattle.fm_world.specs.Linking.{refusals}
use Rattle.fm_world.specs.Programs.{code_at, Program, program_of}

-- none of these is the object of this `new`, whose constructor hasn't returned (JVMS 4.10.2.4)
abbrev pub AreNoCopies : Option ℕ → List Slot → Type 0
AreNoCopies new slots = AllByRecursion (λ s. same_number new (new_item s) ≡ false) slots

-- the item of the `new` whose object is the receiver of the call that the item makes
abbrev pub receiver_new : TypedMethod → ℕ → Option ℕ
receiver_new x j = option_and_then (λ (i : Insn). new_item_at x j (depth_below x j i)) (insn_of x.code j)

-- the range of an entry of the exception table holds the item, and ends right behind it
abbrev pub EndsBehind : ℕ → Handler → Type 0
EndsBehind j handler = (handler.start ≤ j) × (handler.end ≡ j + 1)

-- where the constructor of a held object is called, and a handler's range ends right behind the call, no local holds a copy of the object
abbrev pub AreReadyAtHeld : Facts → TypedMethod → Insertions → Type 0
AreReadyAtHeld facts x plan =
    (h : Holder) (s : TypeState) (handler : Handler) → Contains plan.holders h → site_kind facts x h.site ≡ Some Constructs
    → state_at x.states h.site ≡ Some s → Contains x.code.handlers handler → EndsBehind h.site handler → AreNoCopies (receiver_new x h.site) s.locals

-- the same of all methods into which something is inserted
abbrev pub NoneUnready : Program → Facts → Plans → Type 0
NoneUnready p facts plans =
    (method : ℕ) (plan : Insertions) (x : TypedMethod) → plans method ≡ Some plan → method_in_facts p facts method ≡ Some x → AreReadyAtHeld facts x plan

-- then each method of the classes with insertions that are safe in the program, narrowed or not, that has code is typed
abbrev pub SafeClassesAreTyped : Type 0
SafeClassesAreTyped =
    (given : List ClassDef) (main : List ℕ) (p : Program) → IsProgramOf given main p → (written : List ClassDef) (marks : List (List (Option ℕ)))
    → AllByRecursion HasSpelling given → refusals given main ≡ [] → (safe : SafeOf p given written marks) → NoneUnready p safe.facts safe.plans
    → (method : ℕ) (code : Code) → code_at (program_of written main) method ≡ Some code → Typed (program_of written main) method

-- so it is of classes where holders of sites in loops hold chains
abbrev pub ChainedClassesAreTyped : Type 0
ChainedClassesAreTyped =
    (given : List ClassDef) (main : List ℕ) (p : Program) → IsProgramOf given main p → (written : List ClassDef) (marks : List (List (Option ℕ)))
    → AllByRecursion HasSpelling given → refusals given main ≡ [] → (safe : SafeChainsOf p given written marks) → NoneUnready p safe.facts safe.plans
    → (method : ℕ) (new : Code) → code_at (program_of written main) method ≡ Some new → Typed (program_of written main) method
