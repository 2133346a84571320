-- One action of the opening: what follows for each result of the memory.
use Rattle.std.proofs.Common.{◌≡◌, ℕ, ◌+◌, ◌<◌, ◌≤◌, ◌^◌, Bool, true, false, ◌||◌, if◌then◌else◌, List, [], ◌∷◌, ◌++◌, length, min, Option, Some, None, refl, ap, sym, ◌∙◌, subst, arith}
use Rattle.std.specs.List.{slice_index_or}
use Rattle.std.specs.Prelude.{IfOk, IfSome, OnOk, Result, Ok, Err, unwrap_or}
use Rattle.fm_base.specs.declared.kinds.Kind.{Kind}
use Rattle.fm_base.specs.declared.kinds.Kind.TheVariants as kind
use Rattle.fm_base.specs.declared.kinds.TypeRef.{TypeRef}
use Rattle.fm_cells.specs.Changes.{made_by, on_object, put_by, Take, with_element, with_object}
use Rattle.fm_cells.specs.Objects.{new_object, Object, Request, request_of, request_words}
use Rattle.fm_cells.specs.Stores.{live_words, object_at, Store}
use Rattle.fm_cells.specs.declared.answers.Cell.{Cell}
use Rattle.fm_frames.proofs.Contents.{content_in}
use Rattle.fm_frames.proofs.Makings.{made-object}
use Rattle.fm_frames.proofs.TextSteps.{wide-after}
use Rattle.fm_frames.proofs.Underways.{over, over_by, within}
use Rattle.fm_frames.specs.Acts.{cell_of, Choose, class_started, put_value, Did, is_there, literal_made, literal_text, literal_type, made_then, performed, Performed, requested, set_static, with_content}
use Rattle.fm_frames.specs.Effects.{Action, Make, MakeFixed, MakeLiteral, OfLiteral, Plain, SetStatic, Start}
use Rattle.fm_frames.specs.Elements.{int_bits, kept, pack_of}
use Rattle.fm_frames.specs.Runs.{after_action, opened_by}
use Rattle.fm_frames.specs.States.{Areas, ref, State}
use Rattle.fm_frames.specs.Steps.{makes, most_words, stopped, words_made}
use Rattle.fm_frames.specs.declared.ends.Ended.{Ended}
use Rattle.fm_frames.specs.declared.ends.Ended.TheVariants as end
use Rattle.fm_frames.specs.declared.values.Value.{Value}
use Rattle.fm_frames.specs.inner.Doings.{Makes}
use Rattle.fm_frames.specs.inner.Opening.{Asks, EndsAt, Follows, GrowsOnce, Opens, OpensAsked}
use Rattle.fm_frames.specs.inner.Places.{IsWide}
use Rattle.fm_world.specs.Chains.{is_among}
use Rattle.fm_world.specs.Numbers.{type_number}
use Rattle.fm_world.specs.Programs.{Outline, Program}

-- the opening at an action, where it is known whether its object would pass the budget
abbrev opened_tests : Program → Choose → State → Action → List Action → List ℕ → Follows → Bool → State
opened_tests p choose x action more made follows passes =
    if passes then stopped x (end.Exhausted (live_words x.areas.store) (words_made p.outline x.areas (action ∷ [])))
    else after_action x (performed p.outline choose [] [] (action ∷ []) x.areas made) (λ y cells. opened_by p choose more y cells follows)

-- ---- an object

pub asked-over : (p : Program) (choose : Choose) (x y : State) (action : Action) (r : Request) (content : List ℕ) (after : Areas → ℕ → Areas)
    (grown : List ℕ → ℕ → List ℕ) (words : ℕ) → Asks p.outline x.areas action r content after grown → words ≡ request_words r → words ≤ most_words → 0 < words
    → x.areas.store.budget < live_words x.areas.store + words → y ≡ stopped x (end.Exhausted (live_words x.areas.store) words)
    → EndsAt p choose x action y
asked-over p choose x y action r content after grown words asks is few some passes ended more made follows =
    let needs : words_made p.outline x.areas (action ∷ []) ≡ words = asks.needs (omega (arith, is, few)) ∙ sym is in
    ap (opened_tests p choose x action more made follows)
    ((λ i. over_by x (asks.making i) (needs i)) ∙ over (live_words x.areas.store) x.areas.store.budget words some passes)
    ∙ ap (λ n. stopped x (end.Exhausted (live_words x.areas.store) n)) needs ∙ sym ended

-- where there is room
asked_room : (p : Program) (choose : Choose) (x : State) (action : Action) (r : Request) (content : List ℕ) (after : Areas → ℕ → Areas)
    (grown : List ℕ → ℕ → List ℕ) (words : ℕ) → Asks p.outline x.areas action r content after grown → words ≡ request_words r → words ≤ most_words
    → (0 < words → live_words x.areas.store + words ≤ x.areas.store.budget) → (more : List Action) (made : List ℕ) (follows : Follows)
    → opened_by p choose (action ∷ more) x made follows
    ≡ after_action x (made_then x.areas r content (choose x.areas.store r) (λ y cell. Did (after y cell) (grown made cell)))
    (λ y cells. opened_by p choose more y cells follows)
asked_room p choose x action r content after grown words asks is few room more made follows =
    let needs : words_made p.outline x.areas (action ∷ []) ≡ words = asks.needs (omega (arith, is, few)) ∙ sym is in
    ap (opened_tests p choose x action more made follows)
    ((λ i. over_by x (asks.making i) (needs i)) ∙ within (live_words x.areas.store) x.areas.store.budget words room)
    ∙ ap (λ result. after_action x result (λ y cells. opened_by p choose more y cells follows)) (asks.does choose made)

asked_full : (p : Program) (choose : Choose) (x y : State) (action : Action) (r : Request) (content : List ℕ) (after : Areas → ℕ → Areas)
    (grown : List ℕ → ℕ → List ℕ) (words : ℕ) → Asks p.outline x.areas action r content after grown → words ≡ request_words r → words ≤ most_words
    → (0 < words → live_words x.areas.store + words ≤ x.areas.store.budget) → Makes choose x y r content None → EndsAt p choose x action y
asked_full p choose x y action r content after grown words asks is few room (refused, ended) more made follows =
    asked_room p choose x action r content after grown words asks is few room more made follows
    ∙ ap (λ choice. after_action x (made_then x.areas r content choice (λ y cell. Did (after y cell) (grown made cell)))
    (λ y cells. opened_by p choose more y cells follows)) refused
    ∙ sym ended

asked_made : (p : Program) (choose : Choose) (x y : State) (action : Action) (r : Request) (content : List ℕ) (after : Areas → ℕ → Areas)
    (grown : List ℕ → ℕ → List ℕ) (words : ℕ) (cell : Cell) → Asks p.outline x.areas action r content after grown → words ≡ request_words r → words ≤ most_words
    → (0 < words → live_words x.areas.store + words ≤ x.areas.store.budget) → Makes choose x y r content (Some cell)
    → Opens p choose x action (record y { areas = after y.areas cell.0 }) (λ made. grown made cell.0)
asked_made p choose x y action r content after grown words cell asks is few room (grows, taken, free, there) more made follows =
    asked_room p choose x action r content after grown words asks is few room more made follows
    ∙ ap (λ choice. after_action x (made_then x.areas r content choice (λ y cell. Did (after y cell) (grown made cell)))
    (λ y cells. opened_by p choose more y cells follows)) taken
    ∙ ap (λ (y : State). opened_by p choose more (record y { areas = after y.areas cell.0 }) (grown made cell.0) follows) (sym there)

pub opens-asked : (p : Program) (choose : Choose) (x z y : State) (r : Request) (content : List ℕ) (words : ℕ) → words ≡ request_words r → words ≤ most_words
    → (0 < words → live_words x.areas.store + words ≤ x.areas.store.budget) → z ≡ x → (made : Option Cell) → Makes choose z y r content made
    → OpensAsked p choose x y r content made
opens-asked p choose x z y r content words is few room same None made = λ action after grown asks.
    asked_full p choose x y action r content after grown words asks is few room (subst (λ z. Makes choose z y r content None) same made)
opens-asked p choose x z y r content words is few room same (Some cell) made = λ action after grown asks.
    asked_made p choose x y action r content after grown words cell asks is few room (subst (λ z. Makes choose z y r content (Some cell)) same made)

-- ---- what actions ask for

abbrev pub added : List ℕ → ℕ → List ℕ
added made cell = made ++ cell ∷ []

abbrev pub as_made : Areas → ℕ → Areas
as_made y cell = y

one_word : (n : ℕ) → n ≤ most_words → min (n + 0) most_words ≡ n
one_word n few = omega (arith, few)

pub asks-fixed : (o : Outline) (x : Areas) (t : TypeRef) (r : Request) → requested o t 0 true ≡ r → Asks o x (MakeFixed t) r [] as_made added
unfolding performed
asks-fixed o x t r is =
    subst (λ r. Asks o x (MakeFixed t) r [] as_made added) is
    (record { making = refl; needs = one_word (request_words (requested o t 0 true)); does = λ choose made. refl })

pub asks-object : (o : Outline) (x : Areas) (t : TypeRef) (len : ℕ) (content : List ℕ) (r : Request) → requested o t len false ≡ r
    → Asks o x (Make t len content) r content as_made added
unfolding performed
asks-object o x t len content r is =
    subst (λ r. Asks o x (Make t len content) r content as_made added) is
    (record { making = refl; needs = one_word (request_words (requested o t len false)); does = λ choose made. refl })

literal_words : Outline → ℕ → Bool → ℕ
literal_words o text there =
    (if there || is_among text [] then 0 else request_words (requested o (literal_type o text) (length (literal_text o text)) true)) + 0

literal_after : Outline → Choose → Areas → ℕ → List ℕ → Bool → Performed
literal_after o choose x text made there =
    if there then Did x made
    else made_then x (requested o (literal_type o text) (length (literal_text o text)) true) (literal_text o text)
    (choose x.store (requested o (literal_type o text) (length (literal_text o text)) true)) (λ y cell. Did (literal_made y text cell) made)

pub asks-literal : (o : Outline) (x : Areas) (text : ℕ) (t : TypeRef) (units : List ℕ) → is_there x text ≡ false → literal_type o text ≡ t → literal_text o text ≡ units
    → Asks o x (MakeLiteral text) (requested o t (length units) true) units (λ y cell. literal_made y text cell) (λ made cell. made)
unfolding performed literal_words literal_after
asks-literal o x text t units none of_type is =
    subst (λ t. Asks o x (MakeLiteral text) (requested o t (length units) true) units (λ y cell. literal_made y text cell) (λ made cell. made)) of_type
    (subst (λ units. Asks o x (MakeLiteral text) (requested o (literal_type o text) (length units) true) units (λ y cell. literal_made y text cell) (λ made cell. made))
    is
    (record {
      making = refl;
      needs = λ few.
          ap (λ there. min (literal_words o text there) most_words) none
          ∙ one_word (request_words (requested o (literal_type o text) (length (literal_text o text)) true)) few;
      does = λ choose made. ap (literal_after o choose x text made) none;
    }))

-- ---- actions that ask for none

pub opens-plain : (p : Program) (choose : Choose) (x y : State) (action : Action) (areas : Areas) → makes (action ∷ []) ≡ false
    → ((made : List ℕ) → performed p.outline choose [] [] (action ∷ []) x.areas made ≡ Did areas made) → y ≡ record x { areas = areas }
    → Opens p choose x action y (λ made. made)
opens-plain p choose x y action areas none does is more made follows =
    ap (opened_tests p choose x action more made follows) (ap (λ b. over_by x b (words_made p.outline x.areas (action ∷ []))) none)
    ∙ ap (λ result. after_action x result (λ y cells. opened_by p choose more y cells follows)) (does made)
    ∙ ap (λ y. opened_by p choose more y made follows) (sym is)

pub opens-start : (p : Program) (choose : Choose) (x y : State) (class : ℕ) → y ≡ record x { areas = class_started x.areas class }
    → Opens p choose x (Start class) y (λ made. made)
unfolding performed
opens-start p choose x y class is = opens-plain p choose x y (Start class) (class_started x.areas class) refl (λ made. refl) is

pub opens-number : (p : Program) (choose : Choose) (x y : State) (slot : ℕ) (kind : Kind) (v : Value)
    → y ≡ record x { areas = set_static x.areas slot kind v } → Opens p choose x (SetStatic slot kind (Plain v)) y (λ made. made)
unfolding performed
opens-number p choose x y slot kind v is = opens-plain p choose x y (SetStatic slot kind (Plain v)) (set_static x.areas slot kind v) refl (λ made. refl) is

pub opens-literal : (p : Program) (choose : Choose) (x y : State) (slot : ℕ) (kind : Kind) (text cell : ℕ)
    → cell ≡ slice_index_or x.areas.literals text 0
    → y ≡ record x { areas = set_static x.areas slot kind (ref cell) } → Opens p choose x (SetStatic slot kind (OfLiteral text)) y (λ made. made)
unfolding performed
opens-literal p choose x y slot kind text cell at is =
    opens-plain p choose x y (SetStatic slot kind (OfLiteral text)) (set_static x.areas slot kind (ref cell)) refl
    (λ made. ap (λ c. Did (set_static x.areas slot kind (ref c)) made) (sym at)) is

pub opens-there : (p : Program) (choose : Choose) (x : State) (text : ℕ) → is_there x.areas text ≡ true → Opens p choose x (MakeLiteral text) x (λ made. made)
unfolding performed literal_words literal_after
opens-there p choose x text there more made follows =
    let no_words : min (0 + 0) most_words ≡ 0 = omega arith in
    let none : words_made p.outline x.areas (MakeLiteral text ∷ []) ≡ 0 = ap (λ there. min (literal_words p.outline text there) most_words) there ∙ no_words in
    ap (opened_tests p choose x (MakeLiteral text) more made follows)
    (ap (over_by x true) none ∙ within (live_words x.areas.store) x.areas.store.budget 0 (λ some. absurd (omega (arith, some))))
    ∙ ap (λ result. after_action x result (λ y cells. opened_by p choose more y cells follows)) (ap (literal_after p.outline choose x.areas text made) there)

-- ---- births, and the budget

content_kept : (store : Store) (cell : ℕ) (content : List ℕ)
    → ((with_content store cell content).births ≡ store.births) × ((with_content store cell content).budget ≡ store.budget)
content_kept store cell [] = (refl, refl)
content_kept store cell (u ∷ units) = by_object (object_at store cell) refl where
  by_object : (object : Option Object) → object_at store cell ≡ object
      → ((with_content store cell (u ∷ units)).births ≡ store.births) × ((with_content store cell (u ∷ units)).budget ≡ store.budget)
  by_object None at = (ap (λ o. (content_in store cell (u ∷ units) o).births) at, ap (λ o. (content_in store cell (u ∷ units) o).budget) at)
  by_object (Some object) at =
      (ap (λ o. (content_in store cell (u ∷ units) o).births) at, ap (λ o. (content_in store cell (u ∷ units) o).budget) at)

pub grows-made : (choose : Choose) (x z y : State) (r : Request) (content : List ℕ) → z ≡ x → (made : Option Cell) → Makes choose z y r content made
    → GrowsOnce x y
grows-made choose x z y r content same None (refused, is) =
    let all : y.areas.store ≡ x.areas.store = ap (λ (y : State). y.areas.store) is ∙ ap (λ (z : State). z.areas.store) same in
    let births = ap (λ (s : Store). s.births) all in
    record { births = omega (arith, births); budget = ap (λ (s : Store). s.budget) all }
grows-made choose x z y r content same (Some cell) (grows, taken, free, is) =
    let kept = content_kept (made_by z.areas.store r (Take cell.0 grows)) cell.0 content in
    let births = ap (λ (y : State). y.areas.store.births) is ∙ kept.0 in
    let before = ap (λ (z : State). z.areas.store.births) same in
    record {
      births = omega (arith, births, before);
      budget = ap (λ (y : State). y.areas.store.budget) is ∙ kept.1 ∙ ap (λ (z : State). z.areas.store.budget) same;
    }

pub grows-same : (x y : State) → y.areas.store ≡ x.areas.store → GrowsOnce x y
grows-same x y same =
    let births = ap (λ (s : Store). s.births) same in
    record { births = omega (arith, births); budget = ap (λ (s : Store). s.budget) same }

-- ---- results that are handed on

pub told-on : {T E : Type 0} (r : Result T E) (P : T → Type 0) (Q : Type 0) → ((t : T) → P t → Q) → IfOk r P → OnOk r Q
told-on (Ok t) P Q f h = f t h
told-on (Err e) P Q f h = tt

-- a reference goes to a field that has as many bits
pub literal-fits : (k : Kind) (cell : ℕ) → 32 ≤ int_bits k → cell < 2 ^ 32 → cell < 2 ^ int_bits k
literal-fits kind.Boolean cell wide small = absurd (omega (arith, wide))
literal-fits kind.Byte cell wide small = absurd (omega (arith, wide))
literal-fits kind.Char cell wide small = absurd (omega (arith, wide))
literal-fits kind.Short cell wide small = absurd (omega (arith, wide))
literal-fits kind.Int cell wide small = small
literal-fits kind.Long cell wide small = omega (arith, small)
literal-fits (kind.Ref t) cell wide small = small

-- a run that has ended made nothing
pub grows-ended : (x y : State) (e : Ended) → y ≡ stopped x e → GrowsOnce x y
grows-ended x y e is = grows-same x y (ap (λ (y : State). y.areas.store) is)

pub grows-after : (x y z : State) → GrowsOnce x y → z.areas.store ≡ y.areas.store → GrowsOnce x z
grows-after x y z grows same =
    let births = ap (λ (s : Store). s.births) same in
    let few = grows.births in
    record { births = omega (arith, births, few); budget = ap (λ (s : Store). s.budget) same ∙ grows.budget }

-- ---- the object, and those that were there

pub object-made : (choose : Choose) (x z y : State) (r : Request) → z ≡ x → (made : Option Cell) → Makes choose z y r [] made
    → IfSome made (λ (cell : Cell). object_at y.areas.store cell.0 ≡ Some (new_object x.areas.store.births r))
object-made choose x z y r same None makes_none = tt
object-made choose x z y r same (Some cell) (grows, taken, free, is) =
    made-object z.areas.store y.areas.store r (Take cell.0 grows) cell.0 grows refl (ap (λ (y : State). y.areas.store) is)
    ∙ ap (λ (z : State). Some (new_object z.areas.store.births r)) same

pub wide-made : (choose : Choose) (x z y : State) (r : Request) (content : List ℕ) → z ≡ x → (made : Option Cell) → Makes choose z y r content made
    → (cell : ℕ) → IsWide x.areas.store cell → IsWide y.areas.store cell
wide-made choose x z y r content same None (refused, is) cell wide =
    subst (λ (y : State). IsWide y.areas.store cell) (sym is) (subst (λ (z : State). IsWide z.areas.store cell) (sym same) wide)
wide-made choose x z y r content same (Some text) made cell wide =
    wide-after choose z y r content text cell (subst (λ (z : State). IsWide z.areas.store cell) (sym same) wide) made

pub wide-ended : (x y : State) (e : Ended) → y ≡ stopped x e → (cell : ℕ) → IsWide x.areas.store cell → IsWide y.areas.store cell
wide-ended x y e is cell wide = subst (λ (y : State). IsWide y.areas.store cell) (sym is) wide

pub request-is : (o : Outline) (t : TypeRef) (id len pack : ℕ) (fixed : Bool) → id ≡ unwrap_or (type_number o.types t) 0 → pack ≡ pack_of o t
    → requested o t len fixed ≡ request_of id len pack fixed
request-is o t id len pack fixed number is = λ i. request_of (sym number i) len (sym is i) fixed

-- a value that is put makes nothing
pub put_kept : (store : Store) (cell place element : ℕ)
    → ((put_by store cell place element).births ≡ store.births) × ((put_by store cell place element).budget ≡ store.budget)
put_kept store cell place element = by_object (object_at store cell) refl where
  put_in : Option Object → Store
  put_in o = on_object o (λ object. with_object store cell (with_element object place element)) store

  by_object : (object : Option Object) → object_at store cell ≡ object
      → ((put_by store cell place element).births ≡ store.births) × ((put_by store cell place element).budget ≡ store.budget)
  by_object None at = (ap (λ o. (put_in o).births) at, ap (λ o. (put_in o).budget) at)
  by_object (Some object) at = (ap (λ o. (put_in o).births) at, ap (λ o. (put_in o).budget) at)

pub grows-after-put : (x y z : State) (object : Value) (place : ℕ) (k : Kind) (v : Value) → GrowsOnce x y
    → z ≡ record y { areas = put_value y.areas object place k v } → GrowsOnce x z
grows-after-put x y z object place k v grows is =
    let put = put_kept y.areas.store (cell_of object) place (kept k v) in
    let births = ap (λ (z : State). z.areas.store.births) is ∙ put.0 in
    let few = grows.births in
    record { births = omega (arith, births, few); budget = ap (λ (z : State). z.areas.store.budget) is ∙ put.1 ∙ grows.budget }
