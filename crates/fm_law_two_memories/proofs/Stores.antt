-- Stores that are paired stay so: where they are opened, where an object is made in both, and where the same is put into both.
use Rattle.std.proofs.Common.{◌≡◌, ℕ, zero, suc, ◌+◌, ◌*◌, ◌^◌, ◌<◌, ◌≤◌, inl, inr, Bool, true, false, cond, List, [], ◌∷◌, length, Option, Some, None, refl, sym, ◌∙◌, ap, subst, arith, slice_set, slice_index_or, length-set}
use Rattle.std.proofs.lemmas.Bool.{cases_eq, eq-eqb, false≢true, ne_eqb}
use Rattle.std.proofs.lemmas.Option.{same_Some}
use Rattle.fm_base.specs.declared.kinds.Kind.{Kind}
use Rattle.fm_base.specs.declared.kinds.Kind.TheVariants as kind
use Rattle.fm_cells.proofs.Changes.{live_words-made_by, live_words-with_object, object_at-made_by, object_at-with_object, object_words-with_element}
use Rattle.fm_cells.proofs.SizeLaws.{cell_words-lt-double}
use Rattle.fm_cells.proofs.Soundness.{IsOrderly-made_by, IsOrderly-with_object}
use Rattle.fm_cells.specs.Choices.{MayReuse}
use Rattle.fm_cells.specs.Changes.{made_by, Take, with_element, with_object}
use Rattle.fm_cells.specs.Objects.{new_object, Object, object_words, Request, request_words}
use Rattle.fm_cells.specs.Sizes.{cell_words}
use Rattle.fm_cells.specs.Soundness.{IsOrderly}
use Rattle.fm_cells.specs.Stores.{live_words, object_at, Store}
use Rattle.fm_world.specs.Programs.{Outline}
use Rattle.fm_frames.specs.Elements.{is_text_type}
use Rattle.fm_frames.specs.Sights.{type_numbered}
use Rattle.fm_frames.specs.declared.values.Value.{Value}
use Rattle.fm_frames.specs.declared.values.Value.TheVariants as value
use Rattle.fm_law_sound.proofs.ActsKeep.{new_held, zeros_at}
use Rattle.fm_law_sound.specs.Placing.{kind_in}
use Rattle.fm_law_two_memories.specs.Pairing.{AreAlike, ArePaired, Gone, HasTwin, none_gone, SameCell, SameElement, SameFound, SameValue}
use Rattle.fm_law_two_memories.proofs.Twins.{back}
use Rattle.fm_law_two_memories.specs.Laws.{KeepsBirths}

-- ---- what goes over to later stores

module _ (gone : Gone) (one other next following : Store) (stays : KeepsBirths one next) (other_stays : KeepsBirths other following) where
  pub found_later : (a b : ℕ) → SameFound one other a b → SameFound next following a b
  found_later a b (inl null) = inl null
  found_later a b (inr twins) =
      let now = stays a twins.object twins.held in
      let then_ = other_stays b twins.second twins.twin_held in
      inr (record { object = now.0; held = now.1; second = then_.0; twin_held = then_.1; born = then_.2 ∙ twins.born ∙ sym now.2 })

  pub cell_later : (a b : ℕ) → SameCell gone one other a b → SameCell gone next following a b
  cell_later a b (inl found) = inl (found_later a b found)
  cell_later a b (inr lost) =
      let now = stays a lost.object lost.held in
      inr (record { object = now.0; held = now.1; gone_is = ap gone.births now.2 ∙ lost.gone_is; some = lost.some })

  pub value_later : (v w : Value) → SameValue gone one other v w → SameValue gone next following v w
  value_later value.Top w h = h
  value_later (value.Int n) w h = h
  value_later (value.Long n) w h = h
  value_later (value.Ref cell) w h = (h.0, h.1, cell_later cell.0 h.0 h.2)

  pub element_later : (k : Option Kind) (a b : ℕ) → SameElement gone one other k a b → SameElement gone next following k a b
  element_later (Some (kind.Ref t)) a b h = cell_later a b h
  element_later k a b h = h

  pub alike_later : (o : Outline) (object twin : Object) → AreAlike gone o one other object twin → AreAlike gone o next following object twin
  alike_later o object twin h = record {
    class = h.class;
    birth = h.birth;
    pack = h.pack;
    fixed = h.fixed;
    len = h.len;
    units = h.units;
    elements = λ place. element_later (kind_in o object place) _ _ (h.elements place);
  }

-- ---- opened stores

pub opened_paired : (o : Outline) (one other : Store) → live_words one ≡ 0 → live_words other ≡ 0 → one.births ≡ 0 → other.births ≡ 0
    → IsOrderly one → IsOrderly other → other.made_words ≡ 0 → ((cell : ℕ) → object_at one cell ≡ None) → ArePaired none_gone o one other
opened_paired o one other words other_words births other_births orderly other_orderly made none = record {
  births = other_births ∙ sym births;
  orderly = orderly;
  other_orderly = other_orderly;
  objects = λ cell object held there. let no : None ≡ Some object = sym (none cell) ∙ held in absurd (cc);
  absent = λ cell object held. refl;
  past = λ birth is. absurd (false≢true is);
  loose = λ cell object held is. absurd (false≢true is);
  words = omega (arith, words, other_words);
  made_words = λ few. omega (arith, made);
}

-- ---- what is put

-- the elements at one place of two lists in which elements are set at one place
set_both : (R : ℕ → ℕ → Type 0) (xs ys : List ℕ) (i x y k : ℕ) → length ys ≡ length xs → (i ≡ k → R x y)
    → R (slice_index_or xs k 0) (slice_index_or ys k 0) → R (slice_index_or (slice_set xs i x) k 0) (slice_index_or (slice_set ys i y) k 0)
set_both R [] [] i x y k same new old = old
set_both R [] (b ∷ ys) i x y k same new old = absurd (omega (arith, same))
set_both R (a ∷ xs) [] i x y k same new old = absurd (omega (arith, same))
set_both R (a ∷ xs) (b ∷ ys) zero x y zero same new old = new refl
set_both R (a ∷ xs) (b ∷ ys) zero x y (suc k) same new old = old
set_both R (a ∷ xs) (b ∷ ys) (suc i) x y zero same new old = old
set_both R (a ∷ xs) (b ∷ ys) (suc i) x y (suc k) same new old = set_both R xs ys i x y k (omega (arith, same)) (λ is. new (ap suc is)) old

-- an object in place of another one of its birth
pub with_stays : (store : Store) (cell : ℕ) (old object : Object) → object_at store cell ≡ Some old → object.birth ≡ old.birth
    → KeepsBirths store (with_object store cell object)
with_stays store cell old object held born q found at =
    elim (cases_eq q cell) as (λ _. (now : Object) × (object_at (with_object store cell object) q ≡ Some now) × (now.birth ≡ found.birth)) [
      | inl here ↦ (
        object,
        object_at-with_object store cell object q ∙ ap (λ b. cond b (Some object) (object_at store q)) (eq-eqb q cell here),
        born ∙ ap (λ (x : Object). x.birth) (same_Some old found (sym held ∙ sym (ap (object_at store) here) ∙ at)),
      )
      | inr there ↦
          (found, object_at-with_object store cell object q ∙ ap (λ b. cond b (Some object) (object_at store q)) (ne_eqb q cell there) ∙ at, refl)
    ]

module _ (gone : Gone) (o : Outline) (one other : Store) (paired : ArePaired gone o one other) (cell twin : ℕ) (object second : Object) (held : object_at one cell ≡ Some object) (twin_held : object_at other twin ≡ Some second) (born : second.birth ≡ object.birth) where
  -- an object and its twin are changed, and are alike again
  module _ (now second_now : Object) (alike : AreAlike gone o one other now second_now) (same_birth : now.birth ≡ object.birth) (same_words : object_words now ≡ object_words object) (second_words : object_words second_now ≡ object_words second) where
    abbrev next : Store
    next = with_object one cell now

    abbrev following : Store
    following = with_object other twin second_now

    second_birth : second_now.birth ≡ second.birth
    second_birth = alike.birth ∙ same_birth ∙ sym born

    next_stays : KeepsBirths one next
    next_stays = with_stays one cell object now held same_birth

    following_stays : KeepsBirths other following
    following_stays = with_stays other twin second second_now twin_held second_birth

    -- the object and its twin aren't gone
    there : gone.births object.birth ≡ false
    there = ap gone.births (sym born) ∙ paired.absent twin second twin_held

    -- the object that was changed and those that weren't
    twin_of : (q : ℕ) (found : Object) → object_at next q ≡ Some found → gone.births found.birth ≡ false → HasTwin gone o next following found
    twin_of q found at stays_there =
        elim (cases_eq q cell) as (λ _. HasTwin gone o next following found) [
          | inl here ↦
              let is : now ≡ found =
              same_Some now found (ap (λ b. cond b (Some now) (object_at one q)) (sym (eq-eqb q cell here)) ∙ sym (object_at-with_object one cell now q) ∙ at) in
              record {
                cell = twin;
                twin = second_now;
                held = object_at-with_object other twin second_now twin ∙ ap (λ b. cond b (Some second_now) (object_at other twin)) (eq-eqb twin twin refl);
                alike = subst (λ x. AreAlike gone o next following x second_now) is
                    (alike_later gone one other next following next_stays following_stays o now second_now alike);
              }
          | inr elsewhere ↦
              let was : object_at one q ≡ Some found =
              ap (λ b. cond b (Some now) (object_at one q)) (sym (ne_eqb q cell elsewhere)) ∙ sym (object_at-with_object one cell now q) ∙ at in
              let old : HasTwin gone o one other found = paired.objects q found was stays_there in
              let apart : old.cell ≡ twin → q ≡ cell =
              back one other q cell old.cell twin paired.orderly paired.other_orderly
              (inr (record { object = found; held = was; second = old.twin; twin_held = old.held; born = old.alike.birth }))
              (inr (record { object = object; held = held; second = second; twin_held = twin_held; born = born })) in
              record {
                cell = old.cell;
                twin = old.twin;
                held = object_at-with_object other twin second_now old.cell
                    ∙ ap (λ b. cond b (Some second_now) (object_at other old.cell)) (ne_eqb old.cell twin (λ is. elsewhere (apart is))) ∙ old.held;
                alike = alike_later gone one other next following next_stays following_stays o found old.twin old.alike;
              }
        ]

    -- what is held in the second store still isn't gone, and what is gone in the first is what it was
    changed_absent : (q : ℕ) (found : Object) → object_at following q ≡ Some found → gone.births found.birth ≡ false
    changed_absent q found at =
        elim (cases_eq q twin) as (λ _. gone.births found.birth ≡ false) [
          | inl here ↦
              let is : second_now ≡ found =
              same_Some second_now found (ap (λ b. cond b (Some second_now) (object_at other q)) (sym (eq-eqb q twin here)) ∙ sym (object_at-with_object other twin second_now q) ∙ at) in
              ap (λ (x : Object). gone.births x.birth) (sym is) ∙ ap gone.births (alike.birth ∙ same_birth) ∙ there
          | inr elsewhere ↦
              paired.absent q found (ap (λ b. cond b (Some second_now) (object_at other q)) (sym (ne_eqb q twin elsewhere)) ∙ sym (object_at-with_object other twin second_now q) ∙ at)
        ]

    changed_loose : (q : ℕ) (found : Object) → object_at next q ≡ Some found → gone.births found.birth ≡ true → found.fixed ≡ false
    changed_loose q found at gone_is =
        elim (cases_eq q cell) as (λ _. found.fixed ≡ false) [
          | inl here ↦
              let is : now ≡ found =
              same_Some now found (ap (λ b. cond b (Some now) (object_at one q)) (sym (eq-eqb q cell here)) ∙ sym (object_at-with_object one cell now q) ∙ at) in
              absurd (false≢true (sym (ap (λ (x : Object). gone.births x.birth) (sym is) ∙ ap gone.births same_birth ∙ there) ∙ gone_is))
          | inr elsewhere ↦
              paired.loose q found (ap (λ b. cond b (Some now) (object_at one q)) (sym (ne_eqb q cell elsewhere)) ∙ sym (object_at-with_object one cell now q) ∙ at) gone_is
        ]

    pub changed_paired : ArePaired gone o next following
    changed_paired =
        let words : live_words next ≡ live_words one = live_words-with_object one cell object now held same_words in
        let others : live_words following ≡ live_words other = live_words-with_object other twin second second_now twin_held second_words in
        record {
          births = paired.births;
          orderly = IsOrderly-with_object one cell object now paired.orderly held same_birth;
          other_orderly = IsOrderly-with_object other twin second second_now paired.other_orderly twin_held second_birth;
          objects = twin_of;
          absent = changed_absent;
          past = paired.past;
          loose = changed_loose;
          words = ap (λ n. n + gone.words) others ∙ paired.words ∙ sym words;
          made_words = λ within.
              subst (λ n. other.made_words ≤ 2 * n) (sym words) (paired.made_words (subst (λ n. n ≤ 2 ^ 36) words within));
        }

-- an element is put into an object and into its twin
module _ (gone : Gone) (o : Outline) (one other : Store) (paired : ArePaired gone o one other) (cell twin : ℕ) (object second : Object) (held : object_at one cell ≡ Some object) (twin_held : object_at other twin ≡ Some second) (alike : AreAlike gone o one other object second) (place element set_element : ℕ) (no_text : is_text_type o (type_numbered o object.class) ≡ false) (same : SameElement gone one other (kind_in o object place) element set_element) where
  put_alike : AreAlike gone o one other (with_element object place element) (with_element second place set_element)
  put_alike = record {
    class = alike.class;
    birth = alike.birth;
    pack = alike.pack;
    fixed = alike.fixed;
    len = length-set second.elements place set_element ∙ alike.len ∙ sym (length-set object.elements place element);
    units = λ is. absurd (false≢true (sym no_text ∙ is));
    elements = λ k. set_both (SameElement gone one other (kind_in o object k)) object.elements second.elements place element set_element k alike.len
        (λ is. subst (λ n. SameElement gone one other (kind_in o object n) element set_element) is same) (alike.elements k);
  }

  pub put_paired : ArePaired gone o (with_object one cell (with_element object place element)) (with_object other twin (with_element second place set_element))
  put_paired =
      changed_paired gone o one other paired cell twin object second held twin_held alike.birth (with_element object place element)
      (with_element second place set_element) put_alike refl (object_words-with_element object place element)
      (object_words-with_element second place set_element)

-- ---- what is made

pub same_zero : (gone : Gone) (one other : Store) (k : Option Kind) → SameElement gone one other k 0 0
same_zero gone one other (Some (kind.Ref t)) = inl (inl (refl, refl))
same_zero gone one other k = refl

-- a new object leaves those that are held
pub made_stays : (store : Store) (request : Request) (cell : ℕ) (grows : Bool) → object_at store cell ≡ None
    → KeepsBirths store (made_by store request (Take cell grows))
made_stays store request cell grows free q found at =
    elim (cases_eq q cell) as (λ _. (now : Object) × (object_at (made_by store request (Take cell grows)) q ≡ Some now) × (now.birth ≡ found.birth)) [
      | inl here ↦ let no : None ≡ Some found = sym free ∙ sym (ap (object_at store) here) ∙ at in absurd (cc)
      | inr there ↦ (
        found,
        object_at-made_by store request cell grows q
            ∙ ap (λ b. cond b (Some (new_object store.births request)) (object_at store q)) (ne_eqb q cell there) ∙ at,
        refl,
      )
    ]

-- the words of the cells that were made
made_within : (made live words : ℕ) (grows : Bool) → made ≤ 2 * live → 0 < words → words ≤ 2 ^ 36
    → cond grows (made + cell_words words) made ≤ 2 * (live + words)
made_within made live words true few some within = let double : cell_words words < 2 * words = cell_words-lt-double words some within in omega (arith, few, double)
made_within made live words false few some within = omega (arith, few)

module _ (gone : Gone) (o : Outline) (one other : Store) (paired : ArePaired gone o one other) (request : Request) (cell twin : ℕ) (grows other_grows : Bool) (may : MayReuse one request (Take cell grows)) (other_may : MayReuse other request (Take twin other_grows)) where
  abbrev new : Object
  new = new_object one.births request

  abbrev second_new : Object
  second_new = new_object other.births request

  abbrev made_next : Store
  made_next = made_by one request (Take cell grows)

  abbrev made_following : Store
  made_following = made_by other request (Take twin other_grows)

  pub new_alike : (k : Outline) (first second : Store) → AreAlike gone k first second new second_new
  new_alike k first second = record {
    class = refl;
    birth = paired.births;
    pack = refl;
    fixed = refl;
    len = refl;
    units = λ is. refl;
    elements = λ place.
        subst (λ n. SameElement gone first second (kind_in k new place) n n) (sym (zeros_at request.len place)) (same_zero gone first second (kind_in k new place));
  }

  new_there : object_at made_next cell ≡ Some new
  new_there = new_held one request cell grows

  second_there : object_at made_following twin ≡ Some second_new
  second_there = new_held other request twin other_grows

  -- what is made isn't gone
  fresh : gone.births one.births ≡ false
  fresh = by_test (gone.births one.births) refl where
    by_test : (b : Bool) → gone.births one.births ≡ b → gone.births one.births ≡ false
    by_test true is = let early = paired.past one.births is in absurd (omega (arith, early))
    by_test false is = is

  made_twin : (q : ℕ) (found : Object) → object_at made_next q ≡ Some found → gone.births found.birth ≡ false → HasTwin gone o made_next made_following found
  made_twin q found at stays_there =
      elim (cases_eq q cell) as (λ _. HasTwin gone o made_next made_following found) [
        | inl here ↦
            let is : new ≡ found = same_Some new found (sym new_there ∙ sym (ap (object_at made_next) here) ∙ at) in
            record { cell = twin; twin = second_new; held = second_there; alike = subst (λ x. AreAlike gone o made_next made_following x second_new) is (new_alike o made_next made_following) }
        | inr there ↦
            let was : object_at one q ≡ Some found =
            ap (λ b. cond b (Some new) (object_at one q)) (sym (ne_eqb q cell there)) ∙ sym (object_at-made_by one request cell grows q) ∙ at in
            let old : HasTwin gone o one other found = paired.objects q found was stays_there in
            let none : twin ≡ old.cell → ⊥ = λ is. (let no : None ≡ Some old.twin = sym other_may.1 ∙ ap (object_at other) is ∙ old.held in absurd (cc)) in
            record {
              cell = old.cell;
              twin = old.twin;
              held = object_at-made_by other request twin other_grows old.cell
                  ∙ ap (λ b. cond b (Some second_new) (object_at other old.cell)) (ne_eqb old.cell twin (λ is. none (sym is))) ∙ old.held;
              alike = alike_later gone one other made_next made_following (made_stays one request cell grows may.1)
                  (made_stays other request twin other_grows other_may.1) o found old.twin old.alike;
            }
      ]

  made_absent : (q : ℕ) (found : Object) → object_at made_following q ≡ Some found → gone.births found.birth ≡ false
  made_absent q found at =
      elim (cases_eq q twin) as (λ _. gone.births found.birth ≡ false) [
        | inl here ↦
            let is : second_new ≡ found = same_Some second_new found (sym second_there ∙ sym (ap (object_at made_following) here) ∙ at) in
            ap (λ (x : Object). gone.births x.birth) (sym is) ∙ ap gone.births paired.births ∙ fresh
        | inr elsewhere ↦
            paired.absent q found (ap (λ b. cond b (Some second_new) (object_at other q)) (sym (ne_eqb q twin elsewhere))
            ∙ sym (object_at-made_by other request twin other_grows q) ∙ at)
      ]

  made_loose : (q : ℕ) (found : Object) → object_at made_next q ≡ Some found → gone.births found.birth ≡ true → found.fixed ≡ false
  made_loose q found at gone_is =
      elim (cases_eq q cell) as (λ _. found.fixed ≡ false) [
        | inl here ↦
            let is : new ≡ found = same_Some new found (sym new_there ∙ sym (ap (object_at made_next) here) ∙ at) in
            absurd (false≢true (sym (ap (λ (x : Object). gone.births x.birth) (sym is) ∙ fresh) ∙ gone_is))
        | inr elsewhere ↦
            paired.loose q found (ap (λ b. cond b (Some new) (object_at one q)) (sym (ne_eqb q cell elsewhere))
            ∙ sym (object_at-made_by one request cell grows q) ∙ at) gone_is
      ]

  pub made_paired : ArePaired gone o made_next made_following
  made_paired =
      let words : live_words made_next ≡ live_words one + request_words request = live_words-made_by one request cell grows may.1 in
      let others : live_words made_following ≡ live_words other + request_words request = live_words-made_by other request twin other_grows other_may.1 in
      record {
        births = ap (λ n. n + 1) paired.births;
        orderly = IsOrderly-made_by one request cell grows paired.orderly may;
        other_orderly = IsOrderly-made_by other request twin other_grows paired.other_orderly other_may;
        objects = made_twin;
        absent = made_absent;
        past = λ birth is. let early = paired.past birth is in omega (arith, early);
        loose = made_loose;
        words = let lives = paired.words in omega (arith, words, others, lives);
        made_words = λ within.
            let few : live_words one + request_words request ≤ 2 ^ 36 = subst (λ n. n ≤ 2 ^ 36) words within in
            subst (λ n. made_following.made_words ≤ 2 * n) (sym words)
            (made_within other.made_words (live_words one) (request_words request) other_grows (paired.made_words (omega (arith, few))) (omega arith) (omega (arith, few)));
      }

  -- the new objects correspond to each other
  pub new_twins : SameFound made_next made_following cell twin
  new_twins = inr (record { object = new; held = new_there; second = second_new; twin_held = second_there; born = paired.births })
