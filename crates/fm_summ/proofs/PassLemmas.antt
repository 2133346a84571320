-- The pairs that calls make: what each joins, and that all linked ends become one.
use Rattle.std.proofs.Common.{◌≡◌, ℕ, ◌⊎◌, ◌+◌, ◌<◌, true, List, [], ◌∷◌, ◌++◌, length, drop, get_or, append_assoc, Contains, refl, ap, sym, ◌∙◌, subst, ⊎_elim, arith}
use Rattle.std.proofs.lemmas.List.Elements.{Contains-append_left, Contains-append_right, Contains-append_cases}
use Rattle.std.proofs.lemmas.List.{drop_more}
use Rattle.fm_base.proofs.ContainsFacts.{Contains-cons_cases, Contains-flat_map, Contains-none}
use Rattle.fm_code.proofs.EdgesLemmas.{Contains-later}
use Rattle.fm_world.specs.Programs.{targets, Program}
use Rattle.fm_conn.specs.Summaries.{links}
use Rattle.fm_conn.specs.declared.ends.End2.{End2}
use Rattle.fm_conn.specs.declared.shapes.CallShape.{CallShape}
use Rattle.fm_conn.specs.declared.shapes.Shape.{Shape}
use Rattle.fm_conn.proofs.ListedEndLemmas.{linked_ends, linked_first, LinkedEnds}
use Rattle.fm_flow.proofs.SourcesLemmas.{Contains-from_flat_map}
use Rattle.fm_conn.proofs.ListLemmas.{Contains-first}
use Rattle.fm_flow.specs.inner.LiveWalks.{list_of}
use Rattle.fm_summ.specs.inner.Callers.{call_targets, called_by}
use Rattle.fm_conn.specs.inner.ListedEnds.{link_pairs}
use Rattle.fm_summ.specs.inner.Passed.{call_pairs, ends_at, method_pairs, target_pairs}

-- numbers of linked ends become one
ends_become_one : (f : ℕ → ℕ) (entries ends : List (End2 × ℕ)) → ((m n : ℕ) → Contains (link_pairs ends entries) (m, n) → f m ≡ f n) →
    (e g : End2) (m n : ℕ) → Contains ends (e, m) → Contains ends (g, n) → links entries e g ≡ true → f m ≡ f n
ends_become_one f entries ends same e g m n first second linked =
    let all = linked_first entries ends e g m n first second linked in
    let to_first : (x : ℕ) → (x ≡ all.first) ⊎ Contains (link_pairs ends entries) (x, all.first) → f x ≡ f all.first =
    λ x. ⊎_elim (λ is. ap f is) (λ pair. same x all.first pair) in
    to_first m all.one ∙ sym (to_first n all.other)

-- ---- of all calls of a method

pub record PairOf (p : Program) (shapes : List Shape) (calls : List CallShape) (m n : ℕ) : Type 0 where
  pub call : CallShape
  pub among : Contains calls call
  pub target : ℕ
  pub called : Contains (targets p call.call) target
  pub ends : LinkedEnds (ends_at shapes target) call.ends m n

pub pair_of : (p : Program) (shapes : List Shape) (calls : List CallShape) (m n : ℕ) → Contains (method_pairs shapes (call_targets p calls) calls) (m, n) →
    PairOf p shapes calls m n
pair_of p shapes [] m n found = absurd (Contains-none (m, n) found)
pair_of p shapes (c ∷ calls) m n found =
    ⊎_elim
    (λ here.
    let piece = Contains-from_flat_map (target_pairs shapes c.ends) (targets p c.call) (m, n) here in
    record {
      call = c;
      among = Contains-first c calls;
      target = piece.0;
      called = piece.1;
      ends = linked_ends (ends_at shapes piece.0) c.ends m n piece.2;
    })
    (λ later.
    let was = pair_of p shapes calls m n later in
    record { call = was.call; among = Contains-later c calls was.call was.among; target = was.target; called = was.called; ends = was.ends })
    (Contains-append_cases (call_pairs shapes (targets p c.call) c) (method_pairs shapes (call_targets p calls) calls) (m, n) found)

pair_among : (p : Program) (shapes : List Shape) (calls : List CallShape) (c : CallShape) (target m n : ℕ) → Contains calls c →
    Contains (targets p c.call) target → Contains (target_pairs shapes c.ends target) (m, n) → Contains (method_pairs shapes (call_targets p calls) calls) (m, n)
pair_among p shapes [] c target m n among called found = absurd (Contains-none c among)
pair_among p shapes (d ∷ calls) c target m n among called found =
    ⊎_elim
    (λ (same : c ≡ d).
    Contains-append_left (call_pairs shapes (targets p d.call) d) (method_pairs shapes (call_targets p calls) calls) (m, n)
    (subst (λ (v : CallShape). Contains (call_pairs shapes (targets p v.call) v) (m, n)) same
    (Contains-flat_map (target_pairs shapes c.ends) (targets p c.call) target (m, n) called found)))
    (λ later.
    Contains-append_right (call_pairs shapes (targets p d.call) d) (method_pairs shapes (call_targets p calls) calls) (m, n)
    (pair_among p shapes calls c target m n later called found))
    (Contains-cons_cases d calls c among)

-- where the pairs become one, so do all numbers of linked ends
pub become_one : (f : ℕ → ℕ) (p : Program) (shapes : List Shape) (calls : List CallShape) →
    ((m n : ℕ) → Contains (method_pairs shapes (call_targets p calls) calls) (m, n) → f m ≡ f n) →
    (c : CallShape) (target : ℕ) → Contains calls c → Contains (targets p c.call) target →
    (e g : End2) (m n : ℕ) → Contains c.ends (e, m) → Contains c.ends (g, n) → links (ends_at shapes target) e g ≡ true → f m ≡ f n
become_one f p shapes calls same c target among called =
    ends_become_one f (ends_at shapes target) c.ends (λ m n found. same m n (pair_among p shapes calls c target m n among called found))

-- ---- a call more of the code's loop

-- after the last call there is none
pub pairs_end : (shapes : List Shape) (targets : List (List ℕ)) (calls : List CallShape) → calls ≡ [] → method_pairs shapes targets calls ≡ []
pairs_end shapes [] calls none = refl
pairs_end shapes (called ∷ targets) calls none = ap (method_pairs shapes (called ∷ targets)) none

pub pairs_more : (shapes : List Shape) (lists : List (List ℕ)) (numbers : List ℕ) (calls : List CallShape) (i n : ℕ) (c : CallShape)
    (before after all : List (ℕ × ℕ)) → i < length calls → length numbers ≡ length calls → get_or numbers i n ≡ n → get_or calls i c ≡ c →
    before ++ method_pairs shapes (called_by lists (drop i numbers)) (drop i calls) ≡ all → after ≡ before ++ call_pairs shapes (list_of lists n) c →
    after ++ method_pairs shapes (called_by lists (drop (i + 1) numbers)) (drop (i + 1) calls) ≡ all
pairs_more shapes lists numbers calls i n c before after all inside same n_is c_is so_far more =
    let rest = method_pairs shapes (called_by lists (drop (i + 1) numbers)) (drop (i + 1) calls) in
    let number : drop i numbers ≡ n ∷ drop (i + 1) numbers = drop_more numbers i n (omega arith) ∙ ap (λ v. v ∷ drop (i + 1) numbers) n_is in
    let call : drop i calls ≡ c ∷ drop (i + 1) calls = drop_more calls i c inside ∙ ap (λ v. v ∷ drop (i + 1) calls) c_is in
    ap (λ list. list ++ rest) more ∙ append_assoc before (call_pairs shapes (list_of lists n) c) rest
    ∙ sym (λ k. before ++ method_pairs shapes (called_by lists (number k)) (call k)) ∙ so_far
