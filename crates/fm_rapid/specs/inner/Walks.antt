-- The state of the walk over methods, and what a step of it leaves.
use Rattle.std.specs.Prelude.{◌≡◌, ◌<◌, ◌+◌, ◌⊎◌, ◌&&◌, ℕ, Bool, true, not, List, [], ◌∷◌, ◌++◌, length, slice_set, Some, Contains, IfSome}
use Rattle.fm_base.specs.Rows.{has}
use Rattle.fm_code.specs.AccessFlags.{is_abstract, is_interface}
use Rattle.fm_code.specs.Edges.{insn_of, IsReachable}
use Rattle.fm_code.specs.declared.code_array.Code.{Code}
use Rattle.fm_code.specs.declared.instructions.Insn.{Insn}
use Rattle.fm_conn.specs.Nodes.{TypedMethod}
use Rattle.fm_conn.specs.Pairs.{call_of, use_at}
use Rattle.fm_conn.specs.Shapes.{method_with}
use Rattle.fm_flow.specs.inner.LiveWalks.{list_of}
use Rattle.fm_flow.specs.Marking.{unset}
use Rattle.fm_base.specs.declared.kinds.TypeRef.{TypeRef}
use Rattle.fm_rapid.specs.Reach.{AreIn, IsClosed, IsFollowed, IsWithin, made_by, narrowed, started_by, starts_of}
use Rattle.fm_rapid.specs.declared.walk.Walk.{Walk}
use Rattle.fm_summ.specs.inner.Callers.{lists_of}
use Rattle.fm_world.specs.BuiltIns.{built_in}
use Rattle.fm_world.specs.Chains.{class_at, is_subclass}
use Rattle.fm_world.specs.Lookups.{select, special_target}
use Rattle.fm_world.specs.Members.{methods_of}
use Rattle.fm_world.specs.Programs.{class_of_type, code_at, Program, targets}
use Rattle.fm_world.specs.declared.calls.Call.{Call}
use Rattle.fm_world.specs.declared.calls.CallKind.{CallKind}
use Rattle.fm_world.specs.declared.calls.CallKind.TheVariants as call
use Rattle.fm_world.specs.declared.declarations.DeclaredClass.{DeclaredClass}
use Rattle.fm_world.specs.inner.Marks.{selected_of_arrays}

-- ---- lists

-- the lists with one more in that of a number
abbrev pub with_one : List (List ℕ) → ℕ → ℕ → List (List ℕ)
with_one lists k x = slice_set lists k (list_of lists k ++ x ∷ [])

-- ---- the state

-- the methods that are in, and of these those whose items weren't gone over; the classes that are made, and those that were started; for each class the
-- methods whose virtual calls name it, and the classes that are made and whose objects it takes
pub record Sets : Type 0 where
  pub methods : List Bool
  pub made : List Bool
  pub started : List Bool
  pub waiting : List ℕ
  pub called : List (List ℕ)
  pub below : List (List ℕ)

-- those of a walk
abbrev pub sets_of : Walk → Sets
sets_of w = record { methods = w.methods; made = w.made; started = w.started; waiting = w.waiting.items; called = lists_of w.called.items; below = lists_of w.below.items }

-- ---- receivers

-- objects are made of the class
abbrev pub is_concrete : List DeclaredClass → ℕ → Bool
is_concrete classes class = not (is_abstract (class_at classes class).flags) && not (is_interface (class_at classes class).flags)

-- an object of the class can be the receiver of a call that names the other one
pub record IsReceiver (classes : List DeclaredClass) (named class : ℕ) : Type 0 where
  pub concrete : is_concrete classes class ≡ true
  pub below : is_subclass classes class named ≡ true

-- ---- what is in all closed sets

-- the method is
abbrev pub IsNeeded : Program → ℕ → Type 0
IsNeeded p m = (methods made : List Bool) → IsClosed p methods made → has methods m ≡ true

-- the class is
abbrev pub IsMadeNeeded : Program → ℕ → Type 0
IsMadeNeeded p class = (methods made : List Bool) → IsClosed p methods made → has made class ≡ true

-- what a virtual call of the method that names the class selects for a class of the set is
abbrev pub IsCallNeeded : Program → ℕ → ℕ → Type 0
IsCallNeeded p named m =
    (methods made : List Bool) → IsClosed p methods made → (class target : ℕ) → class < length p.outline.classes → has made class ≡ true
    → IsReceiver p.outline.classes named class → select p.outline.classes class m ≡ Some target → target < length (methods_of p.outline.classes)
    → has methods target ≡ true

-- the method is there, and in all closed sets
pub record IsEntry (p : Program) (m : ℕ) : Type 0 where
  pub inside : m < length (methods_of p.outline.classes)
  pub needed : IsNeeded p m

-- all these methods are
abbrev pub AreNeeded : Program → List ℕ → Type 0
AreNeeded p listed = (m : ℕ) → Contains listed m → IsEntry p m

-- what a virtual call of the method that names the type selects, for classes and for arrays
pub record IsVirtualNeeded (p : Program) (named : TypeRef) (m : ℕ) : Type 0 where
  pub classes : (class : ℕ) → class_of_type named ≡ Some class → IsCallNeeded p class m
  pub arrays : AreNeeded p (selected_of_arrays p named m)

-- each target of a call is
abbrev pub IsCallFollowed : Program → Call → Type 0
IsCallFollowed p c = (methods made : List Bool) → IsClosed p methods made → AreIn methods (targets (narrowed p made) c)

-- ---- states

-- a method whose calls name the class
pub record IsCalled (p : Program) (named m : ℕ) : Type 0 where
  pub inside : m < length (methods_of p.outline.classes)
  pub needed : IsCallNeeded p named m

-- a class that is made and that the other one takes
pub record IsBelow (p : Program) (made : List Bool) (named class : ℕ) : Type 0 where
  pub inside : class < length p.outline.classes
  pub is_made : has made class ≡ true
  pub receives : IsReceiver p.outline.classes named class

-- each table has its length
pub record HasLengths (p : Program) (w : Sets) : Type 0 where
  pub methods : length w.methods ≡ length (methods_of p.outline.classes)
  pub made : length w.made ≡ length p.outline.classes
  pub started : length w.started ≡ length p.outline.classes
  pub called : length w.called ≡ length p.outline.classes
  pub below : length w.below ≡ length p.outline.classes

-- what is in is in all closed sets; and of what is listed beside one another, what is selected is in
pub record IsWalk (p : Program) (w : Sets) : Type 0 where
  pub lengths : HasLengths p w
  pub methods : (m : ℕ) → has w.methods m ≡ true → IsNeeded p m
  pub made : (class : ℕ) → has w.made class ≡ true → IsMadeNeeded p class
  pub started : (class : ℕ) → has w.started class ≡ true → AreIn w.methods (starts_of p.outline class)
  pub called : (named m : ℕ) → Contains (list_of w.called named) m → IsCalled p named m
  pub below : (named class : ℕ) → Contains (list_of w.below named) class → IsBelow p w.made named class
  pub selected : (named m class target : ℕ) → Contains (list_of w.called named) m → Contains (list_of w.below named) class
      → select p.outline.classes class m ≡ Some target → has w.methods target ≡ true
  pub waiting : (m : ℕ) → Contains w.waiting m → has w.methods m ≡ true

-- each class that takes its objects lists the class
abbrev pub IsReceived : Program → Sets → ℕ → Type 0
IsReceived p w class =
    (named : ℕ) → named < length p.outline.classes → IsReceiver p.outline.classes named class → Contains (list_of w.below named) class

-- the classes are there, and take objects of the class
pub record IsAbove (classes : List DeclaredClass) (class named : ℕ) : Type 0 where
  pub inside : named < length classes
  pub receives : IsReceiver classes named class

-- all of them are
abbrev pub AreAbove : List DeclaredClass → ℕ → List ℕ → Type 0
AreAbove classes class listed = (named : ℕ) → Contains listed named → IsAbove classes class named

-- the list of each of these numbers has the class
abbrev pub IsListedAt : List (List ℕ) → List ℕ → ℕ → Type 0
IsListedAt lists listed class = (named : ℕ) → Contains listed named → Contains (list_of lists named) class

-- ---- steps

-- each list has all that it had
abbrev pub AreMore : List (List ℕ) → List (List ℕ) → Type 0
AreMore old new = (k x : ℕ) → Contains (list_of old k) x → Contains (list_of new k) x

-- nothing is lost; a new method waits, and a new class is received
pub record Went (p : Program) (old new : Sets) : Type 0 where
  pub methods : IsWithin old.methods new.methods
  pub made : IsWithin old.made new.made
  pub called : AreMore old.called new.called
  pub below : AreMore old.below new.below
  pub waiting : (m : ℕ) → Contains old.waiting m → Contains new.waiting m
  pub entered : (m : ℕ) → has new.methods m ≡ true → (has old.methods m ≡ true) ⊎ Contains new.waiting m
  pub received : (class : ℕ) → has new.made class ≡ true → (has old.made class ≡ true) ⊎ IsReceived p new class
  pub work : unset new.methods + length new.waiting ≡ unset old.methods + length old.waiting

-- it went on, and the state is one of a walk
pub record Goes (p : Program) (old new : Sets) : Type 0 where
  pub walk : IsWalk p new
  pub went : Went p old new

-- ---- what an instruction leads to

-- a virtual call is listed at the class that it names, and what arrays select is in
pub record IsListed (p : Program) (w : Sets) (named : TypeRef) (m : ℕ) : Type 0 where
  pub classes : (class : ℕ) → class_of_type named ≡ Some class → Contains (list_of w.called class) m
  pub arrays : AreIn w.methods (selected_of_arrays p named m)

-- what a call of this kind leads to is in, or listed
abbrev pub LeadsInto : Program → Sets → Call → CallKind → Type 0
LeadsInto p w c call.Static = has w.methods c.method.0 ≡ true
LeadsInto p w c call.Special = has w.methods (special_target p.outline.classes c.caller.0 (class_of_type c.named) c.method.0) ≡ true
LeadsInto p w c call.Virtual = IsListed p w c.named c.method.0
LeadsInto p w c call.Interface = IsListed p w c.named c.method.0

-- what an instruction leads to is in, or listed
pub record IsGone (w : Sets) (x : TypedMethod) (i : Insn) : Type 0 where
  pub makes : IfSome (made_by x.program.outline i (use_at x i)) (λ class. has w.made class ≡ true)
  pub starts : IfSome (started_by x.program.outline i (use_at x i)) (λ class. AreIn w.methods (starts_of x.program.outline class))
  pub calls : IfSome (call_of x i) (λ c. LeadsInto x.program w c c.kind)

-- what an item leads to, if it is reachable
abbrev pub IsGoneAt : Sets → TypedMethod → ℕ → Type 0
IsGoneAt w x j = (i : Insn) → IsReachable x.code j → insn_of x.code j ≡ Some i → IsGone w x i

-- what the items below a number lead to
abbrev pub AreGoneBelow : Sets → TypedMethod → ℕ → Type 0
AreGoneBelow w x count = (j : ℕ) → j < count → IsGoneAt w x j

-- what the items of a method lead to
abbrev pub IsDone : Program → Sets → ℕ → Type 0
IsDone p w method = (code : Code) → code_at p method ≡ Some code → AreGoneBelow w (method_with p method code []) (length code.items)

-- an instruction of a method is followed in all closed sets
abbrev pub IsFollowNeeded : TypedMethod → Insn → Type 0
IsFollowNeeded x i = (methods made : List Bool) → IsClosed x.program methods made → IsFollowed methods made x i

-- all reachable ones are
abbrev pub AreFollowNeeded : TypedMethod → Type 0
AreFollowNeeded x = (j : ℕ) (i : Insn) → IsReachable x.code j → insn_of x.code j ≡ Some i → IsFollowNeeded x i

-- ---- the whole walk

-- nothing is in
pub record IsNew (p : Program) (w : Sets) : Type 0 where
  pub lengths : HasLengths p w
  pub methods : (m : ℕ) → has w.methods m ≡ true → ⊥
  pub made : (class : ℕ) → has w.made class ≡ true → ⊥
  pub started : (class : ℕ) → has w.started class ≡ true → ⊥
  pub called : (k x : ℕ) → Contains (list_of w.called k) x → ⊥
  pub below : (k x : ℕ) → Contains (list_of w.below k) x → ⊥
  pub waiting : (m : ℕ) → Contains w.waiting m → ⊥

-- main, what starts its class, and all built-in classes are in; each method that is in waits or is done; each class that is made is received
pub record IsUnderWay (p : Program) (w : Sets) : Type 0 where
  pub walk : IsWalk p w
  pub main : has w.methods p.outline.main ≡ true
  pub opening : AreIn w.methods (starts_of p.outline p.outline.main_class)
  pub built_in : (class : ℕ) → class < length built_in → has w.made class ≡ true
  pub done : (m : ℕ) → has w.methods m ≡ true → Contains w.waiting m ⊎ IsDone p w m
  pub received : (class : ℕ) → has w.made class ≡ true → IsReceived p w class

-- none waits
pub record IsAtEnd (p : Program) (w : Sets) : Type 0 where
  pub under_way : IsUnderWay p w
  pub none_waits : w.waiting ≡ []
