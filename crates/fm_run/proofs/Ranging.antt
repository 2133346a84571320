-- A run that goes on step by step.
use Rattle.std.proofs.Common.{◌≡◌, ◌⊎◌, inl, inr, ℕ, zero, suc, ◌+◌, ◌-◌, ◌^◌, ◌<◌, ◌≤◌, List, [], ◌∷◌, ◌++◌, Option, Some, None, refl, sym, ◌∙◌, ap, subst, arith, Bool, true, if◌then◌else◌, add-one, below_more, Result, Ok, Err, IsErrAnd, OnOk, min, false, IsTrue, ◌↔◌}
use Rattle.std.proofs.lemmas.List.{append-nil}
use Rattle.std.proofs.lemmas.Option.{none-some}
use Rattle.fm_frames.proofs.StepCounts.{costs_some}
use Rattle.std.proofs.lemmas.List.Folds.{concat-append}
use Rattle.std.specs.List.{concat}
use Rattle.fm_files.proofs.SinkLemmas.{with_piece-is, with_pieces-append, with_pieces-nil}
use Rattle.fm_files.specs.Sink.{FailsPiece, Output, with_pieces}
use Rattle.fm_frames.specs.Acts.{Choose}
use Rattle.fm_frames.specs.Runs.{after, Goes}
use Rattle.fm_frames.specs.States.{Moved, silent, State}
use Rattle.fm_frames.specs.Steps.{cost, step}
use Rattle.fm_frames.specs.declared.ends.Ended.{Ended}
use Rattle.fm_base.specs.declared.error.NoMemory.{NoMemory}
use Rattle.fm_native.specs.Doing.{PutsOnce, quiet}
use Rattle.fm_law_can_step.specs.Ready.{IsGoing}
use Rattle.fm_run.specs.Running.{BreaksRun, CanGo, FailsRun, GoFirst, piece_of, pieces_of, printed_at, RunsTo, state_after}
use Rattle.fm_run.specs.Stepping.{DoesStep, FailsStep}
use Rattle.fm_run.specs.inner.Going.{BreaksLater, DidCheap, DidQuietly, FailsLater, FailsNext, Keeps, Leads, LeadsQuietly, left_of, Ran}
use Rattle.fm_run.specs.inner.Nexts.{Stepped}
use Rattle.fm_world.specs.Programs.{Program}

-- ---- states and pieces

state-zero : (p : Program) (choose : Choose) (x : State) → state_after p choose zero x ≡ x
unfolding after
state-zero p choose x = refl

state-more : (p : Program) (choose : Choose) (count : ℕ) (x : State) → state_after p choose (suc count) x ≡ (step p choose (state_after p choose count x)).state
unfolding after
state-more p choose count x = refl

printed-zero : (p : Program) (choose : Choose) (x : State) → (after p choose zero (silent x)).printed ≡ []
unfolding after
printed-zero p choose x = refl

printed-more : (p : Program) (choose : Choose) (count : ℕ) (x : State)
    → (after p choose (suc count) (silent x)).printed ≡ (after p choose count (silent x)).printed ++ printed_at p choose count x
unfolding after
printed-more p choose count x = refl

-- a piece has the bytes that are printed
piece-bytes : (printed : List ℕ) → concat (piece_of printed) ≡ printed
piece-bytes [] = refl
piece-bytes (byte ∷ bytes) = append-nil (byte ∷ bytes)

-- the pieces together are what was printed
pub pieces-printed : (p : Program) (choose : Choose) (x : State) (count : ℕ) → concat (pieces_of p choose x count) ≡ (after p choose count (silent x)).printed
pieces-printed p choose x zero = sym (printed-zero p choose x)
pieces-printed p choose x (suc count) =
    let printed = printed_at p choose count x in
    let before = pieces-printed p choose x count in
    concat-append (pieces_of p choose x count) (piece_of printed) ∙ (λ i. before i ++ piece-bytes printed i) ∙ sym (printed-more p choose count x)

-- what is put once is one piece, or none
put-piece : (printed : List ℕ) (old new : Output) → PutsOnce printed old new → new ≡ with_pieces (piece_of printed) old
put-piece [] old new (inl gets) = absurd (let some = gets.0 in omega arith)
put-piece [] old new (inr both) = both.1 ∙ sym (with_pieces-nil old)
put-piece (byte ∷ bytes) old new (inl gets) = gets.1 ∙ with_piece-is (byte ∷ bytes) old
put-piece (byte ∷ bytes) old new (inr both) = absurd (let none = both.0 in cc)

-- one more piece in the output
put-more : (pieces more : List (List ℕ)) (first old new : Output) → old ≡ with_pieces pieces first → new ≡ with_pieces more old
    → new ≡ with_pieces (pieces ++ more) first
put-more pieces more first old new put last = last ∙ ap (with_pieces more) put ∙ with_pieces-append pieces more first

-- ---- what holds of a run that has come so far

ran-here : (p : Program) (choose : Choose) (budget : ℕ) (x : State) (out : Output) → Keeps p budget x → Ran p choose budget x x out out
ran-here p choose budget x out keeps = record {
  count = zero;
  goes = λ k h. absurd (omega (arith, h));
  state = sym (state-zero p choose x);
  put = sym (with_pieces-nil out);
  keeps = keeps;
}

pub ran-none : (p : Program) (choose : Choose) (budget : ℕ) (x : State) (out : Output) → CanGo p budget x → Ran p choose budget x x out out
ran-none p choose budget x out can =
    ran-here p choose budget x out (record { sound = can.sound; cells = can.cells; births = λ goes. omega (arith, can.births) })

pub keeps-going : (p : Program) (budget : ℕ) (x : State) → budget < 2 ^ 64 → Keeps p budget x → Goes p budget x → IsGoing p x
keeps-going p budget x few keeps goes = record {
  sound = keeps.sound;
  cells = keeps.cells;
  goes = goes.not_ended;
  births = let few_births = keeps.births goes.not_ended in let within = goes.within in omega arith;
  steps = let within = goes.within in omega arith;
}

pub keeps-more : (p : Program) (budget : ℕ) (x y : State) → Keeps p budget x → Goes p budget x → Stepped p x y → Keeps p budget y
keeps-more p budget x y keeps goes stepped = record {
  sound = stepped.sound;
  cells = stepped.cells;
  births =
      λ h.
      let few = keeps.births goes.not_ended in
      let within = goes.within in
      let counted = stepped.counted h in
      let grown = stepped.births h in
      omega arith;
}

pub cost-some : (p : Program) (x : State) → 0 < cost p x
cost-some p x = let some = costs_some p x in omega arith

-- fewer steps are left
pub left-less : (p : Program) (budget : ℕ) (x y : State) → Goes p budget x → Stepped p x y → 0 < cost p x → left_of budget y < left_of budget x
left-less p budget x y goes stepped some = by_end y.ended refl where
  before : left_of budget x ≡ suc (budget - x.steps)
  before = ap (λ ended. left_of budget (record x { ended = ended })) goes.not_ended

  by_end : (e : Option Ended) → y.ended ≡ e → left_of budget (record y { ended = e }) < left_of budget x
  by_end (Some e) is = omega (arith, before)
  by_end None is = let counted = stepped.counted is in let within = goes.within in omega (arith, before)

goes-more : (p : Program) (choose : Choose) (budget count : ℕ) (first x : State) → x ≡ state_after p choose count first → Goes p budget x
    → GoFirst p choose budget first count → GoFirst p choose budget first (count + 1)
goes-more p choose budget count first x is goes before = below_more (λ k. Goes p budget (state_after p choose k first)) count before (subst (Goes p budget) is goes)

module _ (p : Program) (choose : Choose) (budget : ℕ) (first x : State) (old mid : Output) (ran : Ran p choose budget first x old mid) (goes : Goes p budget x) where
  -- what the step prints
  abbrev next : List ℕ
  next = (step p choose x).printed

  printed-is : next ≡ printed_at p choose ran.count first
  printed-is = ap (λ z. (step p choose z).printed) ran.state

  module _ (y : State) (new : Output) (does : DoesStep p choose x y mid new) (stepped : Stepped p x y) where
    state-is : y ≡ state_after p choose (suc ran.count) first
    state-is =
        sym (ap (λ (m : Moved). m.state) does.is) ∙ ap (λ z. (step p choose z).state) ran.state ∙ sym (state-more p choose ran.count first)

    told : does.printed ≡ printed_at p choose ran.count first
    told = sym (ap (λ (m : Moved). m.printed) does.is) ∙ printed-is

    pub ran-more : Ran p choose budget first y old new
    ran-more = record {
      count = suc ran.count;
      goes = subst (GoFirst p choose budget first) (add-one ran.count) (goes-more p choose budget ran.count first x ran.state goes ran.goes);
      state = state-is;
      put =
          put-more (pieces_of p choose first ran.count) (piece_of (printed_at p choose ran.count first)) old mid new ran.put
          (put-piece (printed_at p choose ran.count first) mid new (subst (λ bytes. PutsOnce bytes mid new) told does.put));
      keeps = keeps-more p budget x y ran.keeps goes stepped;
    }

  pub ran-fails : (new : Output) → FailsStep p choose x mid new → FailsRun p choose budget first old new
  ran-fails new fails = record {
    count = ran.count;
    goes = goes-more p choose budget ran.count first x ran.state goes ran.goes;
    fails =
        subst (λ bytes. FailsPiece bytes (with_pieces (pieces_of p choose first ran.count) old) new) printed-is (subst (λ out. FailsPiece next out new) ran.put fails);
  }

pub ran-breaks : (p : Program) (choose : Choose) (budget : ℕ) (first x : State) (old mid new : Output) → Ran p choose budget first x old mid → new ≡ mid
    → BreaksRun p choose budget first old new
ran-breaks p choose budget first x old mid new ran same =
    record { count = ran.count; goes = ran.goes; put = same ∙ ran.put }

pub ran-ends : (p : Program) (choose : Choose) (budget : ℕ) (first x : State) (old new : Output) → Ran p choose budget first x old new → ¬ Goes p budget x
    → RunsTo p choose budget first x old new
ran-ends p choose budget first x old new ran stops = record {
  printed = (after p choose ran.count (silent first)).printed;
  run = record {
    count = ran.count;
    goes = ran.goes;
    stops = subst (λ y. ¬ Goes p budget y) ran.state stops;
    is = ap (λ y. record { state = y; printed = (after p choose ran.count (silent first)).printed }) ran.state;
  };
  joined = pieces-printed p choose first ran.count;
  put = ran.put;
}

-- ---- steps that a run goes on by

pub leads-none : (p : Program) (choose : Choose) (budget : ℕ) (x : State) (out : Output) → Leads p choose budget x x out out
leads-none p choose budget x out = record { ran = λ first from ran. ran; left = inl refl }

-- no more are left
pub leads-left : (p : Program) (choose : Choose) (budget : ℕ) (x y : State) (old new : Output) → Leads p choose budget x y old new → left_of budget y ≤ left_of budget x
leads-left p choose budget x y old new leads = by_left leads.left where
  by_left : (y ≡ x) ⊎ (left_of budget y < left_of budget x) → left_of budget y ≤ left_of budget x
  by_left (inl same) = let is : left_of budget y ≡ left_of budget x = ap (left_of budget) same in omega (arith, is)
  by_left (inr less) = omega (arith, less)

-- the state can go on
pub leads-keeps : (p : Program) (choose : Choose) (budget : ℕ) (x y : State) (old new : Output) → Leads p choose budget x y old new → Keeps p budget x → Keeps p budget y
leads-keeps p choose budget x y old new leads keeps = (leads.ran x old (ran-here p choose budget x old keeps)).keeps

-- where steps were counted, fewer are left
pub leads-less : (p : Program) (choose : Choose) (budget : ℕ) (x y : State) (old new : Output) → Leads p choose budget x y old new → x.steps < y.steps
    → left_of budget y < left_of budget x
leads-less p choose budget x y old new leads rises = by_left leads.left where
  by_left : (y ≡ x) ⊎ (left_of budget y < left_of budget x) → left_of budget y < left_of budget x
  by_left (inl same) = let is : y.steps ≡ x.steps = ap (λ (z : State). z.steps) same in absurd (omega (arith, is, rises))
  by_left (inr less) = less

pub leads-more : (p : Program) (choose : Choose) (budget : ℕ) (x y z : State) (old mid new : Output) → Leads p choose budget x y old mid
    → DidCheap p choose budget y z mid new → Leads p choose budget x z old new
leads-more p choose budget x y z old mid new leads did = record {
  ran = λ first from ran. ran-more p choose budget first y from mid (leads.ran first from ran) did.goes z new did.does did.stepped;
  left =
      inr (let less = left-less p budget y z did.goes did.stepped (cost-some p y) in
      let before = leads-left p choose budget x y old mid leads in
      omega (arith, less, before));
}

pub leads-then : (p : Program) (choose : Choose) (budget : ℕ) (x y z : State) (old mid new : Output) → Leads p choose budget x y old mid
    → Leads p choose budget y z mid new → Leads p choose budget x z old new
leads-then p choose budget x y z old mid new first second =
    record { ran = λ start from ran. second.ran start from (first.ran start from ran); left = by_left first.left second.left } where
      by_left : (y ≡ x) ⊎ (left_of budget y < left_of budget x) → (z ≡ y) ⊎ (left_of budget z < left_of budget y) → (z ≡ x) ⊎ (left_of budget z < left_of budget x)
      by_left (inl same) (inl more) = inl (more ∙ same)
      by_left (inl same) (inr less) = inr (subst (λ w. left_of budget z < left_of budget w) same less)
      by_left (inr less) (inl more) = inr (subst (λ w. left_of budget w < left_of budget x) (sym more) less)
      by_left (inr less) (inr more) = inr (omega (arith, less, more))

-- a step that was done, or none
pub went : (p : Program) (choose : Choose) (budget : ℕ) (first x y : State) (old mid new : Output) (did : Bool) → (did ≡ true → DidCheap p choose budget x y mid new)
    → (did ≡ false → (y ≡ x) × (new ≡ mid)) → Leads p choose budget first x old mid → Keeps p budget x → Leads p choose budget first y old new × Keeps p budget y
went p choose budget first x y old mid new true done same leads keeps =
    let did = done refl in
    (leads-more p choose budget first x y old mid new leads did, keeps-more p budget x y keeps did.goes did.stepped)
went p choose budget first x y old mid new false done same leads keeps =
    let is = same refl in (
      subst (λ out. Leads p choose budget first y old out) (sym is.1) (subst (λ z. Leads p choose budget first z old mid) (sym is.0) leads),
      subst (Keeps p budget) (sym is.0) keeps,
    )

pub went-less : (p : Program) (choose : Choose) (budget : ℕ) (x y : State) (mid new : Output) (did : Bool) → (did ≡ true → DidCheap p choose budget x y mid new)
    → (did ≡ false → (y ≡ x) × (new ≡ mid)) → left_of budget y + (if did then 1 else 0) < left_of budget x + 1
went-less p choose budget x y mid new true done same =
    let did = done refl in
    let less = left-less p budget x y did.goes did.stepped (cost-some p x) in
    omega (arith, less)
went-less p choose budget x y mid new false done same =
    let is : left_of budget y ≡ left_of budget x = ap (left_of budget) (same refl).0 in omega (arith, is)

-- nothing went to it, as far as is known
abbrev no_output : Output
no_output = record { faults = 0; got = None }

-- a step that was done and printed nothing, or none
pub went-quietly : (p : Program) (choose : Choose) (budget : ℕ) (first x y : State) (did : Bool) → (did ≡ true → DidQuietly p choose budget x y) → (did ≡ false → y ≡ x)
    → LeadsQuietly p choose budget first x → Keeps p budget x → LeadsQuietly p choose budget first y × Keeps p budget y
went-quietly p choose budget first x y did done same leads keeps =
    let goes : (out : Output) → Leads p choose budget first y out out × Keeps p budget y =
    λ out. went p choose budget first x y out out out did (λ h. done h out) (λ h. (same h, refl)) (leads out) keeps in
    (λ out. (goes out).0, (goes no_output).1)

pub went-quietly-less : (p : Program) (choose : Choose) (budget : ℕ) (x y : State) (did : Bool) → (did ≡ true → DidQuietly p choose budget x y) → (did ≡ false → y ≡ x)
    → left_of budget y + (if did then 1 else 0) < left_of budget x + 1
went-quietly-less p choose budget x y did done same =
    went-less p choose budget x y no_output no_output did (λ h. done h no_output) (λ h. (same h, refl))

-- the same of steps in one method
pub goes-less : (p : Program) (choose : Choose) (budget : ℕ) (x y : State) (mid new : Output) (any : Bool) → Leads p choose budget x y mid new
    → (any ≡ true → left_of budget y < left_of budget x) → left_of budget y + (if any then 1 else 0) < left_of budget x + 1
goes-less p choose budget x y mid new true leads less = let fewer = less refl in omega (arith, fewer)
goes-less p choose budget x y mid new false leads less = let fewer = leads-left p choose budget x y mid new leads in omega (arith, fewer)

-- steps that print nothing, one after the other
pub quietly-then : (p : Program) (choose : Choose) (budget : ℕ) (x y z : State) → LeadsQuietly p choose budget x y → LeadsQuietly p choose budget y z
    → LeadsQuietly p choose budget x z
quietly-then p choose budget x y z first second out = leads-then p choose budget x y z out out out (first out) (second out)

pub quietly-keeps : (p : Program) (choose : Choose) (budget : ℕ) (x y : State) → LeadsQuietly p choose budget x y → Keeps p budget x → Keeps p budget y
quietly-keeps p choose budget x y leads keeps = leads-keeps p choose budget x y no_output no_output (leads no_output) keeps

pub quietly-left : (p : Program) (choose : Choose) (budget : ℕ) (x y : State) → LeadsQuietly p choose budget x y → left_of budget y ≤ left_of budget x
quietly-left p choose budget x y leads = leads-left p choose budget x y no_output no_output (leads no_output)

pub quietly-less : (p : Program) (choose : Choose) (budget : ℕ) (x y : State) → LeadsQuietly p choose budget x y → x.steps < y.steps
    → left_of budget y < left_of budget x
quietly-less p choose budget x y leads rises = leads-less p choose budget x y no_output no_output (leads no_output) rises

pub quietly-goes-less : (p : Program) (choose : Choose) (budget : ℕ) (x y : State) (any : Bool) → LeadsQuietly p choose budget x y
    → (any ≡ true → left_of budget y < left_of budget x) → left_of budget y + (if any then 1 else 0) < left_of budget x + 1
quietly-goes-less p choose budget x y any leads less = goes-less p choose budget x y no_output no_output any (leads no_output) less

-- the next step fails
pub fails-later : (p : Program) (choose : Choose) (budget : ℕ) (x y : State) (old mid new : Output) → Leads p choose budget x y old mid
    → FailsNext p choose budget y mid new → FailsLater p choose budget x old new
fails-later p choose budget x y old mid new leads fails first from ran =
    ran-fails p choose budget first y from mid (leads.ran first from ran) fails.goes new fails.fails

-- the next steps fail
pub fails-then : (p : Program) (choose : Choose) (budget : ℕ) (x y : State) (old mid new : Output) → Leads p choose budget x y old mid
    → FailsLater p choose budget y mid new → FailsLater p choose budget x old new
fails-then p choose budget x y old mid new leads fails first from ran = fails first from (leads.ran first from ran)

pub breaks-later : (p : Program) (choose : Choose) (budget : ℕ) (x y : State) (old mid new : Output) → Leads p choose budget x y old mid → new ≡ mid
    → BreaksLater p choose budget x old new
breaks-later p choose budget x y old mid new leads same first from ran = ran-breaks p choose budget first y from mid new (leads.ran first from ran) same

pub breaks-then : (p : Program) (choose : Choose) (budget : ℕ) (x y : State) (old mid new : Output) → Leads p choose budget x y old mid
    → BreaksLater p choose budget y mid new → BreaksLater p choose budget x old new
breaks-then p choose budget x y old mid new leads breaks first from ran = breaks first from (leads.ran first from ran)

-- ---- whether the run goes on

pub ended-stops : (p : Program) (budget : ℕ) (x : State) (e : Ended) → x.ended ≡ Some e → IsTrue false ↔ Goes p budget x
ended-stops p budget x e is = (λ h. absurd (cc), λ goes. absurd (none-some e (sym goes.not_ended ∙ is)))

pub goes-within : (p : Program) (budget price left : ℕ) (x : State) → budget < 2 ^ 32 → x.ended ≡ None → 0 < cost p x → price ≡ min (cost p x) (2 ^ 64 - 1)
    → left ≡ budget - x.steps → price ≤ left → Goes p budget x
goes-within p budget price left x few going some price_is left_is within = record { not_ended = going; within = omega arith }

pub within-goes : (p : Program) (budget price left : ℕ) (x : State) → budget < 2 ^ 32 → price ≡ min (cost p x) (2 ^ 64 - 1) → left ≡ budget - x.steps
    → Goes p budget x → price ≤ left
within-goes p budget price left x few price_is left_is goes = let within = goes.within in omega arith

-- the error that a `?` hands on is the one that it met
pub same_error : {T E : Type 0} (r : Result T E) (met wanted : E) → IsErrAnd r (λ e. e ≡ met) → r ≡ Err wanted → met ≡ wanted
same_error (Ok x) met wanted handed is = absurd handed
same_error (Err e) met wanted handed is = let same : e ≡ wanted = cc in sym handed ∙ same

-- what holds of a call that prints nothing, once it has ended well
pub quiet-ok : {T : Type 0} (P : Type 0) (done : Result T NoMemory) (u : T) → Ok u ≡ quiet done → OnOk done P → P
quiet-ok P (Ok v) u is h = h
quiet-ok P (Err e) u is h = absurd (cc)
