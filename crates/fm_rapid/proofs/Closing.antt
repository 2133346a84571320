-- The walk goes on, and at its end its sets are the least closed ones.
use Rattle.std.proofs.Common.{◌≡◌, ℕ, ◌+◌, ◌<◌, ◌≤◌, true, List, [], ◌∷◌, ◌++◌, length, Option, Some, None, IfSome, Contains, refl, sym, subst, inl, inr, ⊎_elim, arith}
use Rattle.std.proofs.lemmas.Bool.{cases_lt}
use Rattle.std.proofs.lemmas.List.Elements.{Contains-append_left, Contains-push, Contains-push_cases}
use Rattle.fm_base.proofs.ContainsFacts.{Contains-none}
use Rattle.fm_base.specs.Rows.{has}
use Rattle.fm_code.proofs.EdgesLemmas.{insn_inside}
use Rattle.fm_code.specs.declared.code_array.Code.{Code}
use Rattle.fm_code.specs.declared.instructions.Insn.{Insn}
use Rattle.fm_conn.proofs.MemberLemmas.{call_in}
use Rattle.fm_conn.specs.Nodes.{TypedMethod}
use Rattle.fm_conn.specs.Pairs.{call_of, use_at}
use Rattle.fm_conn.specs.Shapes.{method_with}
use Rattle.fm_rapid.proofs.Receivers.{leads_followed, named_inside}
use Rattle.fm_rapid.proofs.WalkSteps.{IsReceived-kept}
use Rattle.fm_rapid.specs.inner.Followed.{CanBeFollowed}
use Rattle.fm_rapid.specs.Reach.{made_by, narrowed, started_by, starts_of, AreIn, IsFollowed, IsWithin, Reach}
use Rattle.fm_rapid.specs.inner.Walks.{AreFollowNeeded, AreMore, AreGoneBelow, Goes, IsAtEnd, IsDone, IsGone, IsGoneAt, IsListed, IsNeeded, IsReceived, IsUnderWay, IsWalk, LeadsInto, Sets, Went}
use Rattle.fm_world.specs.Programs.{code_at, targets, Program}
use Rattle.fm_world.specs.declared.calls.Call.{Call}
use Rattle.fm_world.specs.declared.calls.CallKind.{CallKind}
use Rattle.fm_world.specs.declared.calls.CallKind.TheVariants as call

-- ---- what instructions lead to stays in

-- what is in, made and listed stays so
pub record Kept (x y : Sets) : Type 0 where
  pub methods : IsWithin x.methods y.methods
  pub made : IsWithin x.made y.made
  pub called : AreMore x.called y.called

pub kept_of : (p : Program) (x y : Sets) → Went p x y → Kept x y
kept_of p x y went = record { methods = went.methods; made = went.made; called = went.called }

listed-kept : (p : Program) (x y : Sets) → Kept x y → (c : Call) → IsListed p x c.named c.method.0 → IsListed p y c.named c.method.0
listed-kept p x y went c listed = record {
  classes = λ class is. went.called class c.method.0 (listed.classes class is);
  arrays = λ m found. went.methods m (listed.arrays m found);
}

leads-kept : (p : Program) (x y : Sets) → Kept x y → (c : Call) (k : CallKind) → LeadsInto p x c k → LeadsInto p y c k
leads-kept p x y went c call.Static leads = went.methods _ leads
leads-kept p x y went c call.Special leads = went.methods _ leads
leads-kept p x y went c call.Virtual leads = listed-kept p x y went c leads
leads-kept p x y went c call.Interface leads = listed-kept p x y went c leads

pub call-kept : (p : Program) (x y : Sets) → Kept x y → (o : Option Call) → IfSome o (λ c. LeadsInto p x c c.kind) → IfSome o (λ c. LeadsInto p y c c.kind)
call-kept p x y went None leads = tt
call-kept p x y went (Some c) leads = leads-kept p x y went c c.kind leads

pub made-kept : (p : Program) (x y : Sets) → Kept x y → (o : Option ℕ) → IfSome o (λ class. has x.made class ≡ true) → IfSome o (λ class. has y.made class ≡ true)
made-kept p x y went None is = tt
made-kept p x y went (Some class) is = went.made class is

pub starts-kept : (p : Program) (x y : Sets) → Kept x y → (o : Option ℕ) → IfSome o (λ class. AreIn x.methods (starts_of p.outline class))
    → IfSome o (λ class. AreIn y.methods (starts_of p.outline class))
starts-kept p x y went None are = tt
starts-kept p x y went (Some class) are = λ m found. went.methods m (are m found)

pub gone-kept : (m : TypedMethod) (x y : Sets) → Kept x y → (i : Insn) → IsGone x m i → IsGone y m i
gone-kept m x y went i gone = record {
  makes = made-kept m.program x y went (made_by m.program.outline i (use_at m i)) gone.makes;
  starts = starts-kept m.program x y went (started_by m.program.outline i (use_at m i)) gone.starts;
  calls = call-kept m.program x y went (call_of m i) gone.calls;
}

pub gone_below-kept : (m : TypedMethod) (x y : Sets) → Kept x y → (count : ℕ) → AreGoneBelow x m count → AreGoneBelow y m count
gone_below-kept m x y went count gone = λ j inside i reachable is. gone-kept m x y went i (gone j inside i reachable is)

-- an item more
pub gone_below-more : (m : TypedMethod) (x y : Sets) → Kept x y → (count : ℕ) → AreGoneBelow x m count → IsGoneAt y m count
    → AreGoneBelow y m (count + 1)
gone_below-more m x y went count gone now = λ j inside.
    ⊎_elim (λ (before : j < count). gone_below-kept m x y went count gone j before)
    (λ (last : count ≤ j). let same : j ≡ count = omega (arith, inside, last) in subst (IsGoneAt y m) (sym same) now) (cases_lt j count)

pub done-kept : (p : Program) (x y : Sets) → Kept x y → (m : ℕ) → IsDone p x m → IsDone p y m
done-kept p x y went m done = λ code is. gone_below-kept (method_with p m code []) x y went (length code.items) (done code is)

-- ---- a method more

-- a method that waited is done
pub went_on : (p : Program) (w : Sets) (rest : List ℕ) (m : ℕ) (y : Sets) → IsUnderWay p w → w.waiting ≡ rest ++ m ∷ []
    → Goes p (record w { waiting = rest }) y → IsDone p y m → IsUnderWay p y
went_on p w rest m y under_way waiting goes done = record {
  walk = goes.walk;
  main = went.methods p.outline.main under_way.main;
  opening = λ k found. went.methods k (under_way.opening k found);
  built_in = λ class inside. went.made class (under_way.built_in class inside);
  done = λ k is.
      ⊎_elim
      (λ (was : has w.methods k ≡ true).
      ⊎_elim
      (λ (waited : Contains w.waiting k).
      ⊎_elim (λ still. inl (went.waiting k still)) (λ (same : m ≡ k). inr (subst (IsDone p y) same done))
      (Contains-push_cases rest m k (subst (λ (xs : List ℕ). Contains xs k) waiting waited)))
      (λ earlier. inr (done-kept p w y kept k earlier)) (under_way.done k was))
      (λ waits. inl waits) (went.entered k is);
  received = λ class is.
      ⊎_elim (λ was. IsReceived-kept p (record w { waiting = rest }) y went class (under_way.received class was)) (λ got. got) (went.received class is);
} where
  went : Went p (record w { waiting = rest }) y
  went = goes.went

  kept : Kept w y
  kept = record { methods = went.methods; made = went.made; called = went.called }

-- the walk is one without the last that waits
pub popped : (p : Program) (w : Sets) (rest : List ℕ) (m : ℕ) → IsWalk p w → w.waiting ≡ rest ++ m ∷ [] → IsWalk p (record w { waiting = rest })
popped p w rest m walk waiting = record {
  lengths = record {
    methods = walk.lengths.methods;
    made = walk.lengths.made;
    started = walk.lengths.started;
    called = walk.lengths.called;
    below = walk.lengths.below;
  };
  methods = walk.methods;
  made = walk.made;
  started = walk.started;
  called = walk.called;
  below = walk.below;
  selected = walk.selected;
  waiting = λ k waits. walk.waiting k (subst (λ (xs : List ℕ). Contains xs k) (sym waiting) (Contains-append_left rest (m ∷ []) k waits));
}

-- the last one that waits is in
pub last_in : (p : Program) (w : Sets) (rest : List ℕ) (m : ℕ) → IsWalk p w → w.waiting ≡ rest ++ m ∷ [] → has w.methods m ≡ true
last_in p w rest m walk waiting = walk.waiting m (subst (λ (xs : List ℕ). Contains xs m) (sym waiting) (Contains-push rest m))

-- each instruction of a method that is in all closed sets is followed in each
pub follow_needed : (p : Program) (m : ℕ) (code : Code) → IsNeeded p m → code_at p m ≡ Some code → AreFollowNeeded (method_with p m code [])
follow_needed p m code needed is = λ j i reachable insn_is. λ methods made closed.
    closed.items m code j i (needed methods made closed) is reachable insn_is

-- ---- the end

followed_by : (p : Program) (w : Sets) → CanBeFollowed p → IsWalk p w → ((class : ℕ) → has w.made class ≡ true → IsReceived p w class)
    → (m : ℕ) (code : Code) (i : Insn) → code_at p m ≡ Some code → IsGone w (method_with p m code []) i → IsFollowed w.methods w.made (method_with p m code []) i
followed_by p w can walk received m code i code_is gone = record {
  makes = gone.makes;
  starts = gone.starts;
  calls = by_call (call_of x i) refl gone.calls;
} where
  x : TypedMethod
  x = method_with p m code []

  by_call : (o : Option Call) → call_of x i ≡ o → IfSome o (λ c. LeadsInto p w c c.kind)
      → IfSome o (λ c. AreIn w.methods (targets (narrowed p w.made) c))
  by_call None is leads = tt
  by_call (Some c) is leads =
      let there = call_in x i c can.uses (can.codes m code code_is).inside is in
      leads_followed p w c c.kind refl walk received (λ above named. named_inside p c.named above there.named named) leads

pub at_end : (p : Program) (w : Sets) → CanBeFollowed p → IsAtEnd p w → Reach p w.methods w.made
at_end p w can end = record {
  each_method = walk.lengths.methods;
  each_class = walk.lengths.made;
  closed = record {
    main = under_way.main;
    opening = under_way.opening;
    built_in = under_way.built_in;
    items = λ m code j i is code_is reachable insn_is.
        followed_by p w can walk under_way.received m code i code_is
        (⊎_elim (λ waits. absurd (Contains-none m (subst (λ (xs : List ℕ). Contains xs m) end.none_waits waits)))
        (λ done. done code code_is j (insn_inside code j i insn_is) i reachable insn_is) (under_way.done m is));
  };
  least = λ others classes closed. (λ m is. walk.methods m is others classes closed, λ class is. walk.made class is others classes closed);
} where
  under_way : IsUnderWay p w
  under_way = end.under_way

  walk : IsWalk p w
  walk = end.under_way.walk
