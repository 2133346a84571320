-- What steps of the walk leave.
use Rattle.std.proofs.Common.{◌≡◌, ℕ, ◌+◌, ◌<◌, get_or, take, reverse, Bool, true, false, List, [], ◌∷◌, length, set, Contains, refl, sym, ◌∙◌, ap, subst, inl, inr, ⊎_elim, length-set, arith}
use Rattle.std.specs.List.{filter_map}
use Rattle.std.proofs.lemmas.Bool.{false≢true, or_cases, or_left, or_right}
use Rattle.fm_base.specs.Rows.{has}
use Rattle.fm_base.proofs.ContainsFacts.{Contains-none}
use Rattle.fm_conn.proofs.ListLemmas.{Contains-one}
use Rattle.fm_flow.proofs.RisingLemmas.{Contains-take_more}
use Rattle.fm_base.proofs.RowFacts.{has-set_kept, has-set_only}
use Rattle.fm_flow.specs.Marking.{Marks}
use Rattle.fm_rapid.proofs.Elements.{among-from_Contains, Contains-from_among, with_one-from, with_one-kept}
use Rattle.fm_rapid.proofs.SelectedLemmas.{among_chain, chain_inside}
use Rattle.fm_types.proofs.ClassTree.{interface-within}
use Rattle.fm_world.proofs.Displays.{is_among-reverse}
use Rattle.fm_world.proofs.ElementLemmas.{Contains-filter_map, Contains-from_filter_map}
use Rattle.fm_rapid.specs.Reach.{AreIn, starts_of}
use Rattle.fm_flow.specs.inner.LiveWalks.{list_of}
use Rattle.fm_rapid.specs.inner.Walks.{is_concrete, with_one, AreAbove, AreNeeded, Goes, IsBelow, IsCalled, IsEntry, IsListedAt, IsMadeNeeded, IsNeeded, IsReceived, IsWalk, Sets, Went}
use Rattle.fm_law_sound.proofs.FoundMethods.{select_inside}
use Rattle.fm_world.specs.Chains.{chain_of, interfaces_of, is_among}
use Rattle.fm_world.specs.Lookups.{select}
use Rattle.fm_world.specs.Members.{methods_of}
use Rattle.fm_world.specs.Programs.{Program}
use Rattle.fm_world.specs.declared.declarations.DeclaredClass.{DeclaredClass}
use Rattle.fm_world.specs.inner.Tables.{AreInterfaces}

-- ---- steps compose

pub Went-none : (p : Program) (w : Sets) → Went p w w
Went-none p w = record {
  methods = λ k is. is;
  made = λ k is. is;
  called = λ k x found. found;
  below = λ k x found. found;
  waiting = λ m waits. waits;
  entered = λ m is. inl is;
  received = λ class is. inl is;
  work = refl;
}

pub Went-then : (p : Program) (x y z : Sets) → Went p x y → Went p y z → Went p x z
Went-then p x y z first second = record {
  methods = λ k is. second.methods k (first.methods k is);
  made = λ k is. second.made k (first.made k is);
  called = λ k n found. second.called k n (first.called k n found);
  below = λ k n found. second.below k n (first.below k n found);
  waiting = λ m waits. second.waiting m (first.waiting m waits);
  entered = λ m is.
      ⊎_elim (λ (was : has y.methods m ≡ true). ⊎_elim (λ old. inl old) (λ waits. inr (second.waiting m waits)) (first.entered m was)) (λ waits. inr waits)
      (second.entered m is);
  received = λ class is.
      ⊎_elim
      (λ (was : has y.made class ≡ true).
      ⊎_elim (λ old. inl old) (λ got. inr (λ named inside receives. second.below named class (got named inside receives))) (first.received class was))
      (λ got. inr got) (second.received class is);
  work = second.work ∙ first.work;
}

pub Goes-none : (p : Program) (w : Sets) → IsWalk p w → Goes p w w
Goes-none p w walk = record { walk = walk; went = Went-none p w }

pub Goes-then : (p : Program) (x y z : Sets) → Goes p x y → Goes p y z → Goes p x z
Goes-then p x y z first second = record { walk = second.walk; went = Went-then p x y z first.went second.went }

-- what is in stays in
pub AreIn-kept : (p : Program) (x y : Sets) → Went p x y → (listed : List ℕ) → AreIn x.methods listed → AreIn y.methods listed
AreIn-kept p x y went listed are = λ m found. went.methods m (are m found)

-- what is received stays so
pub IsReceived-kept : (p : Program) (x y : Sets) → Went p x y → (class : ℕ) → IsReceived p x class → IsReceived p y class
IsReceived-kept p x y went class got = λ named inside receives. went.below named class (got named inside receives)

-- ---- methods are let in

pub entered_all : (p : Program) (w : Sets) (listed : List ℕ) (methods : List Bool) (waiting : List ℕ) → IsWalk p w → AreNeeded p listed
    → Marks listed w.methods methods w.waiting waiting → Goes p w (record w { methods = methods; waiting = waiting })
entered_all p w listed methods waiting walk needed marks = record {
  walk = record {
    lengths = record {
      methods = marks.same_length ∙ walk.lengths.methods;
      made = walk.lengths.made;
      started = walk.lengths.started;
      called = walk.lengths.called;
      below = walk.lengths.below;
    };
    methods = λ m is. ⊎_elim (λ was. walk.methods m was) (λ now. (needed m now.0).needed) (marks.only_listed m is);
    made = walk.made;
    started = λ class is m found. marks.kept m (walk.started class is m found);
    called = walk.called;
    below = walk.below;
    selected = λ named m class target listed below is. marks.kept target (walk.selected named m class target listed below is);
    waiting = λ m waits. ⊎_elim (λ before. marks.kept m (walk.waiting m before)) (λ now. marks.listed m now.0) (marks.waiting_listed m waits);
  };
  went = record {
    methods = marks.kept;
    made = λ k is. is;
    called = λ k x found. found;
    below = λ k x found. found;
    waiting = marks.still_waiting;
    entered = λ m is. ⊎_elim (λ was. inl was) (λ now. inr now.1) (marks.only_listed m is);
    received = λ class is. inl is;
    work = marks.work;
  };
}

-- the marked ones are within the row
pub marks_inside : (p : Program) (w : Sets) (listed : List ℕ) → IsWalk p w → AreNeeded p listed → (m : ℕ) → Contains listed m → m < length w.methods
marks_inside p w listed walk needed m found =
    let inside = (needed m found).inside in
    let size = walk.lengths.methods in omega (arith, inside, size)

-- ---- a class is started

pub started_one : (p : Program) (w : Sets) (class : ℕ) → IsWalk p w → AreIn w.methods (starts_of p.outline class)
    → Goes p w (record w { started = set w.started class true })
started_one p w class walk are = record {
  walk = record {
    lengths = record {
      methods = walk.lengths.methods;
      made = walk.lengths.made;
      started = length-set w.started class true ∙ walk.lengths.started;
      called = walk.lengths.called;
      below = walk.lengths.below;
    };
    methods = walk.methods;
    made = walk.made;
    started = λ other is.
        ⊎_elim (λ (same : other ≡ class). subst (λ (n : ℕ). AreIn w.methods (starts_of p.outline n)) (sym same) are) (λ was. walk.started other was)
        (has-set_only w.started class other is);
    called = walk.called;
    below = walk.below;
    selected = walk.selected;
    waiting = walk.waiting;
  };
  went = record {
    methods = λ k is. is;
    made = λ k is. is;
    called = λ k x found. found;
    below = λ k x found. found;
    waiting = λ m waits. waits;
    entered = λ m is. inl is;
    received = λ other is. inl is;
    work = refl;
  };
}

-- the whole step
pub started_step : (p : Program) (w : Sets) (class : ℕ) (listed : List ℕ) (methods : List Bool) (waiting : List ℕ) (started : List Bool) → IsWalk p w
    → AreNeeded p (starts_of p.outline class) → listed ≡ starts_of p.outline class → Marks listed w.methods methods w.waiting waiting
    → started ≡ set w.started class true → Goes p w (record w { methods = methods; waiting = waiting; started = started })
started_step p w class listed methods waiting started walk needed listed_is marks is =
    let same = subst (λ (xs : List ℕ). Marks xs w.methods methods w.waiting waiting) listed_is marks in
    let first = entered_all p w (starts_of p.outline class) methods waiting walk needed same in
    let between : Sets = record w { methods = methods; waiting = waiting } in
    subst (λ (row : List Bool). Goes p w (record w { methods = methods; waiting = waiting; started = row })) (sym is)
    (Goes-then p w between (record w { methods = methods; waiting = waiting; started = set w.started class true }) first
    (started_one p between class first.walk same.listed))

-- what may be marked lies in the row
pub marks_in : (p : Program) (w : Sets) (listed marked : List ℕ) → IsWalk p w → AreNeeded p listed → marked ≡ listed
    → (m : ℕ) → Contains marked m → m < length w.methods
marks_in p w listed marked walk needed is = λ m found. marks_inside p w listed walk needed m (subst (λ (xs : List ℕ). Contains xs m) is found)

-- one method that is in all closed sets
pub one_needed : (p : Program) (m : ℕ) → m < length (methods_of p.outline.classes) → IsNeeded p m → AreNeeded p (m ∷ [])
one_needed p m inside needed = λ k found. subst (IsEntry p) (sym (Contains-one m k found)) (record { inside = inside; needed = needed })

-- ---- a class is made

pub made_one : (p : Program) (w : Sets) (class : ℕ) → IsWalk p w → IsMadeNeeded p class → IsWalk p (record w { made = set w.made class true })
made_one p w class walk needed = record {
  lengths = record {
    methods = walk.lengths.methods;
    made = length-set w.made class true ∙ walk.lengths.made;
    started = walk.lengths.started;
    called = walk.lengths.called;
    below = walk.lengths.below;
  };
  methods = walk.methods;
  made = λ other is.
      ⊎_elim (λ (same : other ≡ class). subst (IsMadeNeeded p) (sym same) needed) (λ was. walk.made other was) (has-set_only w.made class other is);
  started = walk.started;
  called = walk.called;
  below = λ named other found.
      let was = walk.below named other found in
      record { inside = was.inside; is_made = has-set_kept w.made class other was.is_made; receives = was.receives };
  selected = walk.selected;
  waiting = walk.waiting;
}

-- once it is received
pub made_goes : (p : Program) (w x : Sets) (class : ℕ) (made : List Bool) → made ≡ set w.made class true → Goes p (record w { made = made }) x
    → IsReceived p x class → Goes p w x
made_goes p w x class made is first received = record {
  walk = goes.walk;
  went = record {
    methods = goes.went.methods;
    made = λ k was. goes.went.made k (has-set_kept w.made class k was);
    called = goes.went.called;
    below = goes.went.below;
    waiting = goes.went.waiting;
    entered = goes.went.entered;
    received = λ other now.
        ⊎_elim
        (λ (set_now : has (set w.made class true) other ≡ true).
        ⊎_elim (λ (same : other ≡ class). inr (subst (IsReceived p x) (sym same) received)) (λ was. inl was) (has-set_only w.made class other set_now))
        (λ got. inr got) (goes.went.received other now);
    work = goes.went.work;
  };
} where
  goes : Goes p (record w { made = set w.made class true }) x
  goes = subst (λ (row : List Bool). Goes p (record w { made = row }) x) is first

-- a class of which no objects are made is received nowhere
pub nothing_received : (p : Program) (w : Sets) (class : ℕ) → is_concrete p.outline.classes class ≡ false → IsReceived p w class
nothing_received p w class abstract = λ named inside receives. absurd (false≢true (sym abstract ∙ receives.concrete))

-- ---- a class is received

-- what calls that name the class select for it is in all closed sets
pub selected_needed : (p : Program) (w : Sets) (named class : ℕ) → IsWalk p w → IsBelow p w.made named class
    → AreNeeded p (filter_map (select p.outline.classes class) (list_of w.called named))
selected_needed p w named class walk below = λ target found.
    let from = Contains-from_filter_map (select p.outline.classes class) (list_of w.called named) target found in
    let called = walk.called named from.0 from.1 in
    let inside = select_inside p.outline.classes class from.0 target called.inside from.2 in
    record {
      inside = inside;
      needed = λ methods made closed.
          called.needed methods made closed class target below.inside (walk.made class below.is_made methods made closed) below.receives from.2 inside;
    }

pub received_one : (p : Program) (w : Sets) (named class : ℕ) → IsWalk p w → named < length p.outline.classes → IsBelow p w.made named class
    → AreIn w.methods (filter_map (select p.outline.classes class) (list_of w.called named))
    → Goes p w (record w { below = with_one w.below named class })
received_one p w named class walk inside below are = record {
  walk = record {
    lengths = record {
      methods = walk.lengths.methods;
      made = walk.lengths.made;
      started = walk.lengths.started;
      called = walk.lengths.called;
      below = length-set w.below named _ ∙ walk.lengths.below;
    };
    methods = walk.methods;
    made = walk.made;
    started = walk.started;
    called = walk.called;
    below = λ other one found.
        ⊎_elim (λ was. walk.below other one was)
        (λ now. subst (λ (n : ℕ). IsBelow p w.made n one) (sym now.0) (subst (IsBelow p w.made named) (sym now.1) below))
        (with_one-from w.below named class there other one found);
    selected = λ other m one target listed found is.
        ⊎_elim (λ was. walk.selected other m one target listed was is)
        (λ now.
        are target (Contains-filter_map (select p.outline.classes class) (list_of w.called named) m target
        (subst (λ (n : ℕ). Contains (list_of w.called n) m) now.0 listed) (ap (λ n. select p.outline.classes n m) (sym now.1) ∙ is)))
        (with_one-from w.below named class there other one found);
    waiting = walk.waiting;
  };
  went = record {
    methods = λ k is. is;
    made = λ k is. is;
    called = λ k x found. found;
    below = λ k x found. with_one-kept w.below named class there k x found;
    waiting = λ m waits. waits;
    entered = λ m is. inl is;
    received = λ other is. inl is;
    work = refl;
  };
} where
  there : named < length w.below
  there = omega (arith, inside, walk.lengths.below)

-- the whole step
pub received_step : (p : Program) (w : Sets) (named class : ℕ) (listed : List ℕ) (methods : List Bool) (waiting : List ℕ) (below : List (List ℕ))
    → IsWalk p w → named < length p.outline.classes → IsBelow p w.made named class
    → listed ≡ filter_map (select p.outline.classes class) (list_of w.called named) → Marks listed w.methods methods w.waiting waiting
    → below ≡ with_one w.below named class → Goes p w (record w { methods = methods; waiting = waiting; below = below })
received_step p w named class listed methods waiting below walk inside is_below listed_is marks is =
    let selected = filter_map (select p.outline.classes class) (list_of w.called named) in
    let same = subst (λ (xs : List ℕ). Marks xs w.methods methods w.waiting waiting) listed_is marks in
    let first = entered_all p w selected methods waiting walk (selected_needed p w named class walk is_below) same in
    let between : Sets = record w { methods = methods; waiting = waiting } in
    subst (λ (lists : List (List ℕ)). Goes p w (record w { methods = methods; waiting = waiting; below = lists })) (sym is)
    (Goes-then p w between (record w { methods = methods; waiting = waiting; below = with_one w.below named class }) first
    (received_one p between named class first.walk inside is_below same.listed))

-- its superclasses take objects of a class
pub chain_above : (classes : List DeclaredClass) (class : ℕ) (listed : List ℕ) → class < length classes → is_concrete classes class ≡ true
    → listed ≡ reverse (chain_of classes class) → AreAbove classes class listed
chain_above classes class listed inside concrete is = λ named found.
    let there = subst (λ (xs : List ℕ). Contains xs named) is found in
    record {
      inside = chain_inside classes class named inside there;
      receives = record {
        concrete = concrete;
        below = or_left (is_among named (chain_of classes class)) (is_among named (interfaces_of classes class)) (among_chain classes class named there);
      };
    }

-- and so do its superinterfaces
pub interfaces_above : (classes : List DeclaredClass) (class : ℕ) (listed : List ℕ) → is_concrete classes class ≡ true
    → listed ≡ interfaces_of classes class → AreInterfaces classes listed → AreAbove classes class listed
interfaces_above classes class listed concrete is only = λ named found.
    let there = among-from_Contains named listed found in
    record {
      inside = interface-within classes named (only named there);
      receives = record {
        concrete = concrete;
        below = or_right (is_among named (chain_of classes class)) (is_among named (interfaces_of classes class)) (sym (ap (is_among named) is) ∙ there);
      };
    }

-- a class that is listed at all of them is received
pub received_all : (p : Program) (x y : Sets) (class : ℕ) (superclasses superinterfaces : List ℕ) → Went p x y
    → superclasses ≡ reverse (chain_of p.outline.classes class) → IsListedAt x.below superclasses class
    → superinterfaces ≡ interfaces_of p.outline.classes class → IsListedAt y.below superinterfaces class → IsReceived p y class
received_all p x y class superclasses superinterfaces went chain first interfaces second = λ named inside receives.
    let classes = p.outline.classes in
    ⊎_elim
    (λ (up : is_among named (chain_of classes class) ≡ true).
    went.below named class
    (first named
    (Contains-from_among named superclasses (ap (is_among named) chain ∙ is_among-reverse named (chain_of classes class) ∙ up))))
    (λ (up : is_among named (interfaces_of classes class) ≡ true).
    second named (Contains-from_among named superinterfaces (ap (is_among named) interfaces ∙ up)))
    (or_cases (is_among named (chain_of classes class)) (is_among named (interfaces_of classes class)) receives.below)

pub listed_none : (lists : List (List ℕ)) (class : ℕ) → IsListedAt lists [] class
listed_none lists class = λ named found. absurd (Contains-none named found)

-- at one more
pub listed_more : (p : Program) (x y : Sets) → Went p x y → (supers : List ℕ) (i class : ℕ) → i < length supers → IsListedAt x.below (take i supers) class
    → Contains (list_of y.below (get_or supers i 0)) class → IsListedAt y.below (take (i + 1) supers) class
listed_more p x y went supers i class inside so_far now = λ named found.
    ⊎_elim (λ earlier. went.below named class (so_far named earlier))
    (λ (same : get_or supers i 0 ≡ named). subst (λ (n : ℕ). Contains (list_of y.below n) class) same now)
    ((Contains-take_more supers i named inside).0 found)

-- ---- a call is listed

pub selected_for_needed : (p : Program) (w : Sets) (named m : ℕ) → IsWalk p w → IsCalled p named m
    → AreNeeded p (filter_map (λ class. select p.outline.classes class m) (list_of w.below named))
selected_for_needed p w named m walk called = λ target found.
    let from = Contains-from_filter_map (λ class. select p.outline.classes class m) (list_of w.below named) target found in
    let below = walk.below named from.0 from.1 in
    let inside = select_inside p.outline.classes from.0 m target called.inside from.2 in
    record {
      inside = inside;
      needed = λ methods made closed.
          called.needed methods made closed from.0 target below.inside (walk.made from.0 below.is_made methods made closed) below.receives from.2 inside;
    }

pub called_one : (p : Program) (w : Sets) (named m : ℕ) → IsWalk p w → named < length p.outline.classes → IsCalled p named m
    → AreIn w.methods (filter_map (λ class. select p.outline.classes class m) (list_of w.below named))
    → Goes p w (record w { called = with_one w.called named m })
called_one p w named m walk inside called are = record {
  walk = record {
    lengths = record {
      methods = walk.lengths.methods;
      made = walk.lengths.made;
      started = walk.lengths.started;
      called = length-set w.called named _ ∙ walk.lengths.called;
      below = walk.lengths.below;
    };
    methods = walk.methods;
    made = walk.made;
    started = walk.started;
    called = λ other one found.
        ⊎_elim (λ was. walk.called other one was)
        (λ now. subst (λ (n : ℕ). IsCalled p n one) (sym now.0) (subst (IsCalled p named) (sym now.1) called))
        (with_one-from w.called named m there other one found);
    below = walk.below;
    selected = λ other one class target found below is.
        ⊎_elim (λ was. walk.selected other one class target was below is)
        (λ now.
        are target (Contains-filter_map (λ k. select p.outline.classes k m) (list_of w.below named) class target
        (subst (λ (n : ℕ). Contains (list_of w.below n) class) now.0 below) (ap (select p.outline.classes class) (sym now.1) ∙ is)))
        (with_one-from w.called named m there other one found);
    waiting = walk.waiting;
  };
  went = record {
    methods = λ k is. is;
    made = λ k is. is;
    called = λ k x found. with_one-kept w.called named m there k x found;
    below = λ k x found. found;
    waiting = λ n waits. waits;
    entered = λ n is. inl is;
    received = λ other is. inl is;
    work = refl;
  };
} where
  there : named < length w.called
  there = omega (arith, inside, walk.lengths.called)

-- the whole step
pub called_step : (p : Program) (w : Sets) (named m : ℕ) (listed : List ℕ) (methods : List Bool) (waiting : List ℕ) (called : List (List ℕ))
    → IsWalk p w → named < length p.outline.classes → IsCalled p named m
    → listed ≡ filter_map (λ class. select p.outline.classes class m) (list_of w.below named) → Marks listed w.methods methods w.waiting waiting
    → called ≡ with_one w.called named m → Goes p w (record w { methods = methods; waiting = waiting; called = called })
called_step p w named m listed methods waiting called walk inside is_called listed_is marks is =
    let selected = filter_map (λ class. select p.outline.classes class m) (list_of w.below named) in
    let same = subst (λ (xs : List ℕ). Marks xs w.methods methods w.waiting waiting) listed_is marks in
    let first = entered_all p w selected methods waiting walk (selected_for_needed p w named m walk is_called) same in
    let between : Sets = record w { methods = methods; waiting = waiting } in
    subst (λ (lists : List (List ℕ)). Goes p w (record w { methods = methods; waiting = waiting; called = lists })) (sym is)
    (Goes-then p w between (record w { methods = methods; waiting = waiting; called = with_one w.called named m }) first
    (called_one p between named m first.walk inside is_called same.listed))
