-- The walk along the edges from the item after a site: what a holder may hold at an item, and that nothing is missed.
use Rattle.std.proofs.Common.{◌≡◌, ◌⊎◌, ◌↔◌, ℕ, ◌+◌, ◌<◌, ◌≤◌, Bool, true, false, List, [], ◌∷◌, ◌++◌, length, replicate, set, Contains, Some, refl, inl, inr, ⊎_elim, ap, sym, ◌∙◌, subst, arith, length-set}
use Rattle.std.specs.Prelude.{slice_get}
use Rattle.std.proofs.lemmas.Bool.{cases_lt, false≢true}
use Rattle.std.proofs.lemmas.List.{get_or_append_left, get_or_push, length-replicate, length_push}
use Rattle.std.proofs.lemmas.List.Elements.{Contains-append_left, Contains-push, Contains-push_cases}
use Rattle.std.proofs.lemmas.Option.{same_Some}
use Rattle.fm_base.proofs.TestFacts.{same_test}
use Rattle.fm_base.specs.Rows.{has}
use Rattle.fm_code.specs.Edges.{IsEdge}
use Rattle.fm_conn.specs.Facts.{Facts}
use Rattle.fm_conn.specs.Nodes.{TypedMethod}
use Rattle.fm_flow.proofs.ReachLemmas.{edge_from_item}
use Rattle.fm_base.proofs.RowFacts.{has-replicate, has_inside, has-set_kept, has-set_same}
use Rattle.fm_flow.specs.Flow.{IsMarkedBy}
use Rattle.fm_flow.specs.inner.LiveWalks.{row_of}
use Rattle.fm_flow.specs.Marking.{Marks}
use Rattle.fm_place.proofs.PathLemmas.{may_hold-from, may_hold-tells}
use Rattle.fm_place.specs.Places.{is_busy, IsBusyPath, MayHold}
use Rattle.fm_place.specs.declared.busy_rows.Seen.{Seen}
use Rattle.fm_place.specs.inner.PlanRows.{AreHolding, count_of, facts_seen, Following, Follows, is_busy_at, IsAfter, IsRowOf, may_hold_at, typed_seen}

-- ---- paths

-- a path goes on along an edge from an item where the class is busy
pub path-more : (facts : Facts) (x : TypedMethod) (class : ℕ) (path : List ℕ) (a j next : ℕ) → IsBusyPath facts x class a path j
    → is_busy facts x class j ≡ true → IsEdge x.code j next → IsBusyPath facts x class a (path ++ next ∷ []) next
path-more facts x class [] a j next same busy edge =
    (subst (λ n. is_busy facts x class n ≡ true) (sym same) busy, (subst (λ n. IsEdge x.code n next) (sym same) edge, refl))
path-more facts x class (b ∷ path) a j next (busy_here, (first, rest)) busy edge =
    (busy_here, (first, path-more facts x class path b j next rest busy edge))

-- ---- the walk

-- the walk, and what it need not go over again
pub record FollowingOnce (s : Seen) (pair : ℕ × ℕ) (busy old row freed : List Bool) (waiting : List ℕ) (done : List Bool) : Type 0 where
  pub following : Following s pair busy old row freed waiting
  pub covered : IsMarkedBy s.flow.now done row

module _ (s : Seen) (pair : ℕ × ℕ) (busy : List Bool) (busy_is : IsRowOf (count_of s) (λ j. is_busy_at s j pair.1) busy) (old : List Bool) where
  -- the item after the site is set, and waits
  pub following_first : (row : List Bool) (firsts waiting : List ℕ) → length old ≡ count_of s → IsAfter pair.0 (count_of s) firsts
      → Marks firsts (replicate (count_of s) false) row [] waiting → Following s pair busy old row old waiting
  following_first row firsts waiting wide after marks = record {
    bits = marks.same_length ∙ length-replicate (count_of s) false;
    freed_bits = wide;
    first = λ inside. marks.listed (pair.0 + 1) ((after (pair.0 + 1)).1 (refl, inside));
    sound = λ j is. ([], sym ((after j).0 (new j is).0).0);
    waiting_marked = λ j waits.
        ⊎_elim (λ (none : Contains [] j). absurd (let inside = none.1 in omega arith)) (λ now. marks.listed j now.0) (marks.waiting_listed j waits);
    closed = λ j is. inl (new j is).1;
    frees = λ j is quiet. inl (new j is).1;
    kept = λ j is. is;
  } where
    new : (j : ℕ) → has row j ≡ true → Contains firsts j × Contains waiting j
    new j is =
        ⊎_elim (λ (was : has (replicate (count_of s) false) j ≡ true). absurd (false≢true (sym (has-replicate (count_of s) j) ∙ was))) (λ now. now)
        (marks.only_listed j is)

  module _ (row freed : List Bool) (rest : List ℕ) (j : ℕ) (so_far : Following s pair busy old row freed (rest ++ j ∷ [])) where
    marked : has row j ≡ true
    marked = so_far.waiting_marked j (Contains-push rest j)

    -- an item that waits is one
    pub following_inside : j < count_of s
    following_inside = let inside = has_inside row j marked in omega (arith, inside, so_far.bits)

    -- the class is busy there: the ends of its edges are in the row
    pub following_on : (edges : List ℕ) (new : List Bool) (waiting : List ℕ) → ((next : ℕ) → Contains edges next ↔ IsEdge s.method.code.now j next)
        → has busy j ≡ true → Marks edges row new rest waiting → Following s pair busy old new freed waiting
    following_on edges new waiting listed busy_now marks = record {
      bits = marks.same_length ∙ so_far.bits;
      freed_bits = so_far.freed_bits;
      first = λ inside. marks.kept (pair.0 + 1) (so_far.first inside);
      sound = λ x is. ⊎_elim (λ was. so_far.sound x was) (λ now. reached x now.0) (marks.only_listed x is);
      waiting_marked = λ x waits.
          ⊎_elim (λ before. marks.kept x (so_far.waiting_marked x (Contains-append_left rest (j ∷ []) x before))) (λ now. marks.listed x now.0)
          (marks.waiting_listed x waits);
      closed = λ x is. ⊎_elim (λ was. closed x was) (λ now. inl now.1) (marks.only_listed x is);
      frees = λ x is quiet. ⊎_elim (λ was. frees x was quiet) (λ now. inl now.1) (marks.only_listed x is);
      kept = so_far.kept;
    } where
      reached : (x : ℕ) → Contains edges x → MayHold (facts_seen s) (typed_seen s) pair.0 pair.1 x
      reached x end =
          let may = so_far.sound j marked in
          let is_busy_now : is_busy (facts_seen s) (typed_seen s) pair.1 j ≡ true = sym (busy_is.each j following_inside) ∙ busy_now in
          (may.0 ++ x ∷ [], path-more (facts_seen s) (typed_seen s) pair.1 may.0 (pair.0 + 1) j x may.1 is_busy_now ((listed x).0 end))

      closed : (x : ℕ) → has row x ≡ true → Contains waiting x ⊎ ((next : ℕ) → has busy x ≡ true → IsEdge s.method.code.now x next → has new next ≡ true)
      closed x was =
          ⊎_elim
          (λ (waited : Contains (rest ++ j ∷ []) x).
          ⊎_elim (λ still. inl (marks.still_waiting x still))
          (λ (same : j ≡ x). inr (λ next b edge. marks.listed next ((listed next).1 (subst (λ n. IsEdge s.method.code.now n next) (sym same) edge))))
          (Contains-push_cases rest j x waited))
          (λ on. inr (λ next b edge. marks.kept next (on next b edge)))
          (so_far.closed x was)

      frees : (x : ℕ) → has row x ≡ true → has busy x ≡ false → Contains waiting x ⊎ (has freed x ≡ true)
      frees x was quiet =
          ⊎_elim
          (λ (waited : Contains (rest ++ j ∷ []) x).
          ⊎_elim (λ still. inl (marks.still_waiting x still))
          (λ (same : j ≡ x). absurd (false≢true (sym quiet ∙ subst (λ n. has busy n ≡ true) same busy_now)))
          (Contains-push_cases rest j x waited))
          (λ there. inr there)
          (so_far.frees x was quiet)

    -- it isn't: the holder is freed there
    pub following_off : has busy j ≡ false → Following s pair busy old row (set freed j true) rest
    following_off quiet = record {
      bits = so_far.bits;
      freed_bits = length-set freed j true ∙ so_far.freed_bits;
      first = so_far.first;
      sound = so_far.sound;
      waiting_marked = λ x waits. so_far.waiting_marked x (Contains-append_left rest (j ∷ []) x waits);
      closed = λ x is.
          ⊎_elim
          (λ (waited : Contains (rest ++ j ∷ []) x).
          ⊎_elim (λ still. inl still)
          (λ (same : j ≡ x). inr (λ next busy_now edge. absurd (false≢true (sym (subst (λ n. has busy n ≡ false) same quiet) ∙ busy_now))))
          (Contains-push_cases rest j x waited))
          (λ on. inr on)
          (so_far.closed x is);
      frees = λ x is quiet_there.
          ⊎_elim
          (λ (waited : Contains (rest ++ j ∷ []) x).
          ⊎_elim (λ still. inl still)
          (λ (same : j ≡ x).
          inr (subst (λ n. has (set freed j true) n ≡ true) same (has-set_same freed j (omega (arith, following_inside, so_far.freed_bits)))))
          (Contains-push_cases rest j x waited))
          (λ there. inr (has-set_kept freed j x there))
          (so_far.frees x is quiet_there);
      kept = λ x is. has-set_kept freed j x (so_far.kept x is);
    }

  -- ---- at the end

  module _ (row freed : List Bool) (all : Following s pair busy old row freed []) where
    none_waits : {X : Type 0} (j : ℕ) → Contains [] j ⊎ X → X
    none_waits j either = ⊎_elim (λ (none : Contains [] j). absurd (let inside = none.1 in omega arith)) (λ there. there) either

    row_along : (path : List ℕ) (a j : ℕ) → has row a ≡ true → IsBusyPath (facts_seen s) (typed_seen s) pair.1 a path j → has row j ≡ true
    row_along [] a j is same = subst (λ n. has row n ≡ true) same is
    row_along (next ∷ path) a j is (busy_now, (edge, rest)) =
        let from = edge_from_item s.method.code.now a next edge in
        row_along path next j (none_waits a (all.closed a is) next (busy_is.each a from ∙ busy_now) edge) rest

    first_inside : (path : List ℕ) (j : ℕ) → j < count_of s → IsBusyPath (facts_seen s) (typed_seen s) pair.1 (pair.0 + 1) path j → pair.0 + 1 < count_of s
    first_inside [] j inside same = omega (arith, inside, same)
    first_inside (next ∷ path) j inside (busy_now, (edge, rest)) = edge_from_item s.method.code.now (pair.0 + 1) next edge

    -- where no item waits, the bits are those of the definition
    pub follows_all : Follows s pair old freed row
    follows_all = record {
      row_is = record { wide = all.bits; each = λ j inside. same_test (has row j) (may_hold_at s j pair) (forth j) (back j inside) };
      freed_bits = all.freed_bits;
      frees = λ j is quiet.
          let inside : j < count_of s = let within = has_inside row j is in omega (arith, within, all.bits) in
          none_waits j (all.frees j is (busy_is.each j inside ∙ quiet));
      kept = all.kept;
    } where
      forth : (j : ℕ) → has row j ≡ true → may_hold_at s j pair ≡ true
      forth j is = may_hold-from (facts_seen s) (typed_seen s) pair.1 pair.0 j (all.sound j is)

      back : (j : ℕ) → j < count_of s → may_hold_at s j pair ≡ true → has row j ≡ true
      back j inside is =
          let may : MayHold (facts_seen s) (typed_seen s) pair.0 pair.1 j = may_hold-tells (facts_seen s) (typed_seen s) pair.1 pair.0 j is in
          row_along may.0 (pair.0 + 1) j (all.first (first_inside may.0 j inside may.1)) may.1

-- ---- all holders

pub holding_none : (s : Seen) (held : List (ℕ × ℕ)) → AreHolding s held 0 (replicate (count_of s) false) []
holding_none s held = record {
  one_each = refl;
  freed_bits = length-replicate (count_of s) false;
  each = λ h pair below there. absurd (omega arith);
}

-- a holder more
pub holding_more : (s : Seen) (held : List (ℕ × ℕ)) (i : ℕ) (pair : ℕ × ℕ) (old freed row : List Bool) (rows : List (List Bool)) → AreHolding s held i old rows
    → slice_get held i ≡ Some pair → Follows s pair old freed row → AreHolding s held (i + 1) freed (rows ++ row ∷ [])
holding_more s held i pair old freed row rows so_far is follows = record {
  one_each = let longer = length_push rows row in omega (arith, longer, so_far.one_each);
  freed_bits = follows.freed_bits;
  each = λ h other below there.
      ⊎_elim (λ (earlier : h < i). before h other earlier there)
      (λ (past : i ≤ h). let same : i ≡ h = omega (arith, past, below) in here h other same there)
      (cases_lt h i);
} where
  before : (h : ℕ) (other : ℕ × ℕ) → h < i → slice_get held h ≡ Some other → Follows s other freed freed (row_of (rows ++ row ∷ []) h)
  before h other earlier there =
      let was = so_far.each h other earlier there in
      subst (λ (r : List Bool). Follows s other freed freed r) (sym (get_or_append_left rows (row ∷ []) [] h (omega (arith, earlier, so_far.one_each))))
      (record { row_is = was.row_is; freed_bits = follows.freed_bits; frees = λ j set_now quiet. follows.kept j (was.frees j set_now quiet); kept = λ j set_now. set_now })

  here : (h : ℕ) (other : ℕ × ℕ) → i ≡ h → slice_get held h ≡ Some other → Follows s other freed freed (row_of (rows ++ row ∷ []) h)
  here h other same there =
      let one : pair ≡ other = same_Some _ _ (sym is ∙ ap (slice_get held) same ∙ there) in
      subst (λ (r : List Bool). Follows s other freed freed r) (sym (get_or_push rows row [] h (so_far.one_each ∙ same)))
      (subst (λ p. Follows s p freed freed row) one
      (record { row_is = follows.row_is; freed_bits = follows.freed_bits; frees = follows.frees; kept = λ j set_now. set_now }))
