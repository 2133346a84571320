-- An effect that makes one object: what follows for each result of the memory.
use Rattle.std.proofs.Common.{◌≡◌, ◌⊎◌, inl, inr, length, ℕ, ◌+◌, ◌<◌, ◌≤◌, Bool, true, false, cond, nat_lt, ◌&&◌, if◌then◌else◌, List, [], ◌∷◌, max, min, Some, refl, ap, sym, ◌∙◌, subst, arith}
use Rattle.std.proofs.lemmas.Bool.{eq-eqb, lt-ltb, le-ltb, cases_lt}
use Rattle.fm_cells.proofs.Changes.{object_at-made_by}
use Rattle.fm_base.specs.declared.kinds.TypeRef.{TypeRef}
use Rattle.fm_cells.specs.Changes.{Choice, Take, RefuseStore, made_by}
use Rattle.fm_cells.specs.Objects.{new_object, Request, request_words}
use Rattle.fm_cells.specs.Sizes.{cell_words}
use Rattle.fm_cells.specs.Stores.{IsOverBudget, object_at, Store, live_words, words_needed}
use Rattle.fm_world.specs.Programs.{Program}
use Rattle.fm_frames.specs.Acts.{Choose, Did, made_then, performed, requested}
use Rattle.fm_frames.specs.Effects.{Action, Effect, Make}
use Rattle.fm_frames.specs.States.{Moved, silent, State}
use Rattle.fm_frames.specs.Steps.{attempted, done_by, halted, is_deep, is_over, locals_of, most_words, objects_made, stack_of, words_made}
use Rattle.fm_frames.specs.declared.ends.Ended.TheVariants as end
use Rattle.fm_frames.specs.inner.Doings.{MakesOne}
use Rattle.fm_cells.specs.declared.answers.Cell.{Cell}

-- the words of one object, as they are reported
abbrev told_words : ℕ → ℕ
told_words words = min (words + 0) most_words

-- where the words that live with the object are within the budget
fits-budget : (live budget words : ℕ) → live + words ≤ budget → (nat_lt 0 (told_words words) && nat_lt budget (live + told_words words)) ≡ false
fits-budget live budget words within = none (nat_lt 0 (told_words words)) (le-ltb budget (live + told_words words) (omega arith)) where
  none : (b : Bool) {over : Bool} → over ≡ false → (b && over) ≡ false
  none true e = e
  none false e = refl

passes-budget : (live budget words : ℕ) → 0 < words → words ≤ most_words → budget < live + words
    → (nat_lt 0 (told_words words) && nat_lt budget (live + told_words words)) ≡ true
passes-budget live budget words some few over =
    ap (λ b. b && nat_lt budget (live + told_words words)) (lt-ltb 0 (told_words words) (omega arith)) ∙ lt-ltb budget (live + told_words words) (omega arith)

-- the effect with what is known of it: it isn't too deep, and makes one object
abbrev attempted_by : Program → Choose → State → Effect → Bool → List Action → Moved
attempted_by p choose x e deep actions =
    if deep then halted x (end.TooDeep (length x.frames)) else
    if is_over p.outline x.areas actions then halted x (end.Exhausted (live_words x.areas.store) (words_made p.outline x.areas actions)) else
    done_by p (max 1 (objects_made actions)) e x (performed p.outline choose (locals_of x) (stack_of x) actions x.areas [])

-- the same where it is known whether the object is within the budget, and what the memory chose
abbrev after_choice : Program → State → Effect → Request → (over : Bool) → Choice → Moved
after_choice p x e r over choice =
    if over then halted x (end.Exhausted (live_words x.areas.store) (told_words (request_words r)))
    else done_by p 1 e x (made_then x.areas r [] choice (λ y cell. Did y (cell ∷ [])))

abbrev over_budget : Store → Request → Bool
over_budget store r = nat_lt 0 (told_words (request_words r)) && nat_lt store.budget (live_words store + told_words (request_words r))

attempted-one : (p : Program) (choose : Choose) (x : State) (e : Effect) (t : TypeRef) (len : ℕ) (r : Request)
    → requested p.outline t len false ≡ r → e.actions ≡ Make t len [] ∷ [] → is_deep x e.next ≡ false
    → attempted p choose x e ≡ after_choice p x e r (over_budget x.areas.store r) (choose x.areas.store r)
unfolding performed
attempted-one p choose x e t len r request actions deep =
    ap (λ d. attempted_by p choose x e d e.actions) deep
    ∙ ap (attempted_by p choose x e false) actions
    ∙ ap (λ r. after_choice p x e r (over_budget x.areas.store r) (choose x.areas.store r)) request

pub one-over : (p : Program) (choose : Choose) (old x : State) (e : Effect) (t : TypeRef) (len : ℕ) (r : Request) (store : Store) (live words : ℕ)
    → old ≡ x → store ≡ old.areas.store → requested p.outline t len false ≡ r → e.actions ≡ Make t len [] ∷ [] → is_deep x e.next ≡ false
    → IsOverBudget old.areas.store r → live ≡ live_words store → words ≡ request_words r → words ≤ most_words
    → silent (record old { areas = record old.areas { store = store }; ended = Some (end.Exhausted live words) }) ≡ attempted p choose x e
one-over p choose old x e t len r store live words is same request actions deep over l w few =
    let P : State → Type 0 = λ x. is_deep x e.next ≡ false
    → silent (record old { areas = record old.areas { store = store }; ended = Some (end.Exhausted live words) }) ≡ attempted p choose x e in
    subst P is
    (λ deep.
    let now : live ≡ live_words old.areas.store = l ∙ ap live_words same in
    let many : words ≡ told_words (request_words r) = omega (arith, w, few) in
    (λ i. silent (record old { areas = record old.areas { store = same i }; ended = Some (end.Exhausted (now i) (many i)) }))
    ∙ sym (attempted-one p choose old e t len r request actions deep
    ∙ ap (λ b. after_choice p old e r b (choose old.areas.store r))
    (passes-budget (live_words old.areas.store) old.areas.store.budget (request_words r) (omega arith) (omega (arith, w, few)) over)))
    deep

pub one-full : (p : Program) (choose : Choose) (old x : State) (e : Effect) (t : TypeRef) (len : ℕ) (r : Request) (store : Store) (made words : ℕ)
    → old ≡ x → store ≡ old.areas.store → requested p.outline t len false ≡ r → e.actions ≡ Make t len [] ∷ [] → is_deep x e.next ≡ false
    → words_needed old.areas.store r ≤ old.areas.store.budget → choose old.areas.store r ≡ RefuseStore
    → made ≡ store.made_words → words ≡ cell_words (request_words r)
    → silent (record old { areas = record old.areas { store = store }; ended = Some (end.StoreFull made words) }) ≡ attempted p choose x e
one-full p choose old x e t len r store made words is same request actions deep within refused m w =
    let P : State → Type 0 = λ x. is_deep x e.next ≡ false
    → silent (record old { areas = record old.areas { store = store }; ended = Some (end.StoreFull made words) }) ≡ attempted p choose x e in
    subst P is
    (λ deep.
    let now : made ≡ old.areas.store.made_words = m ∙ ap (λ (s : Store). s.made_words) same in
    (λ i. silent (record old { areas = record old.areas { store = same i }; ended = Some (end.StoreFull (now i) (w i)) }))
    ∙ sym (attempted-one p choose old e t len r request actions deep
    ∙ ap (λ b. after_choice p old e r b (choose old.areas.store r))
    (fits-budget (live_words old.areas.store) old.areas.store.budget (request_words r) within)
    ∙ ap (after_choice p old e r false) refused))
    deep

pub one-made : (p : Program) (choose : Choose) (old x : State) (e : Effect) (t : TypeRef) (len : ℕ) (r : Request) (store : Store) (cell : Cell) (grows : Bool)
    → old ≡ x → requested p.outline t len false ≡ r → e.actions ≡ Make t len [] ∷ [] → is_deep x e.next ≡ false
    → words_needed old.areas.store r ≤ old.areas.store.budget → choose old.areas.store r ≡ Take cell.0 grows
    → store ≡ made_by old.areas.store r (choose old.areas.store r)
    → MakesOne p choose x (record old { areas = record old.areas { store = store } }) e (Some cell)
one-made p choose old x e t len r store cell grows is request actions deep within taken made =
    let P : State → Type 0 = λ x. is_deep x e.next ≡ false
    → MakesOne p choose x (record old { areas = record old.areas { store = store } }) e (Some cell) in
    subst P is
    (λ deep. (
      attempted-one p choose old e t len r request actions deep
          ∙ ap (λ b. after_choice p old e r b (choose old.areas.store r))
          (fits-budget (live_words old.areas.store) old.areas.store.budget (request_words r) within)
          ∙ ap (after_choice p old e r false) taken
          ∙ ap (λ s. done_by p 1 e old (Did (record old.areas { store = s }) (cell.0 ∷ []))) (sym (made ∙ ap (made_by old.areas.store r) taken)),
      refl,
    ))
    deep

-- what isn't over the budget is within it
pub not-over : (store : Store) (r : Request) → ¬ IsOverBudget store r → words_needed store r ≤ store.budget
not-over store r not = by_case (cases_lt store.budget (words_needed store r)) where
  by_case : (store.budget < words_needed store r) ⊎ (words_needed store r ≤ store.budget) → words_needed store r ≤ store.budget
  by_case (inl over) = absurd (not over)
  by_case (inr within) = within

-- the object that was made lies in its cell
pub made-object : (store new : Store) (r : Request) (choice : Choice) (cell : ℕ) (grows : Bool) → choice ≡ Take cell grows → new ≡ made_by store r choice
    → object_at new cell ≡ Some (new_object store.births r)
made-object store new r choice cell grows taken made =
    ap (λ (s : Store). object_at s cell) (made ∙ ap (made_by store r) taken) ∙ object_at-made_by store r cell grows cell
    ∙ ap (λ (b : Bool). cond b (Some (new_object store.births r)) (object_at store cell)) (eq-eqb cell cell refl)
