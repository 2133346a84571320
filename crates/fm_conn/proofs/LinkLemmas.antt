-- Links in rounds: a later round links at least as much, and ends that are joined by what is linked in some round are linked in some round.
use Rattle.std.proofs.Common.{◌≡◌, ℕ, zero, suc, ◌+◌, ◌⊎◌, List, [], ◌∷◌, Some, inl, inr, refl, subst, zero-add}
use Rattle.std.proofs.Math.Nat.{add_comm, suc-add}
use Rattle.fm_base.proofs.OptionFacts.{IsSomeAnd-from_some, IsSomeAnd-weaker}
use Rattle.fm_code.specs.declared.code_array.Code.{Code}
use Rattle.fm_world.specs.Programs.{code_at, Program}
use Rattle.fm_conn.specs.Laws.{links_of, ClassesAreByLinks, EndsOfOneClassAreLinked, PairsHaveOneClass}
use Rattle.fm_conn.specs.Links.{node_of, typed_method, Linked, LinkedIn, Typings}
use Rattle.fm_conn.specs.Nodes.{Node, TypedMethod}
use Rattle.fm_conn.specs.Pairs.{ArePaired, CalledAt, CaughtAt, IsEnd, IsPath, Joined, JoinedAt, Linking, PairAt, StaysAt}
use Rattle.fm_conn.specs.Summaries.{linked_by}
use Rattle.fm_conn.specs.declared.ends.End2.{End2}

-- ---- more links pair at least as much

-- all ends that the one links, the other one links
pub record AtLeast (x : TypedMethod) (linked more : Linking) : Type 0 where
  pub each : (method : ℕ) (a b : End2) → IsEnd x.program.outline method a → IsEnd x.program.outline method b → linked method a b → more method a b

paired_by_more : (x : TypedMethod) (linked more : Linking) → AtLeast x linked more → (j : ℕ) (a b : Node) (pair : PairAt linked x j a b) →
    StaysAt x j pair.insn a b ⊎ JoinedAt x j pair.insn a b ⊎ CalledAt linked x j pair.insn a b ⊎ CaughtAt x j a b →
    StaysAt x j pair.insn a b ⊎ JoinedAt x j pair.insn a b ⊎ CalledAt more x j pair.insn a b ⊎ CaughtAt x j a b
paired_by_more x linked more up j a b pair (inl stays) = inl stays
paired_by_more x linked more up j a b pair (inr (inl joined)) = inr (inl joined)
paired_by_more x linked more up j a b pair (inr (inr (inl c))) =
    inr (inr (inl (record {
      called = c.called;
      is = c.is;
      target = c.target;
      among = c.among;
      one = c.one;
      other = c.other;
      first_end = c.first_end;
      second_end = c.second_end;
      links = up.each c.target c.one c.other c.first_end c.second_end c.links;
      first = c.first;
      second = c.second;
    })))
paired_by_more x linked more up j a b pair (inr (inr (inr caught))) = inr (inr (inr caught))

pub pair_by_more : (x : TypedMethod) (linked more : Linking) → AtLeast x linked more → (j : ℕ) (a b : Node) → PairAt linked x j a b → PairAt more x j a b
pair_by_more x linked more up j a b pair = record {
  insn = pair.insn;
  is = pair.is;
  reachable = pair.reachable;
  first = pair.first;
  second = pair.second;
  paired = paired_by_more x linked more up j a b pair pair.paired;
}

are_paired_by_more : (x : TypedMethod) (linked more : Linking) → AtLeast x linked more → (a b : Node) → ArePaired linked x a b → ArePaired more x a b
are_paired_by_more x linked more up a b (j, inl pair) = (j, inl (pair_by_more x linked more up j a b pair))
are_paired_by_more x linked more up a b (j, inr pair) = (j, inr (pair_by_more x linked more up j b a pair))

path_by_more : (x : TypedMethod) (linked more : Linking) → AtLeast x linked more → (a : Node) (path : List Node) (b : Node) → IsPath linked x a path b →
    IsPath more x a path b
path_by_more x linked more up a [] b same = same
path_by_more x linked more up a (next ∷ rest) b (paired, path) = (are_paired_by_more x linked more up a next paired, path_by_more x linked more up next rest b path)

pub joined_by_more : (x : TypedMethod) (linked more : Linking) → AtLeast x linked more → (a b : Node) → Joined linked x a b → Joined more x a b
joined_by_more x linked more up a b (path, is) = (path, path_by_more x linked more up a path b is)

-- ---- rounds

-- what is linked in a round is linked in the next one
next_round : (p : Program) (typings : Typings) (round method : ℕ) (a b : End2) → LinkedIn p typings round method a b → LinkedIn p typings (suc round) method a b
unfolding LinkedIn
next_round p typings zero method a b native = inl native
next_round p typings (suc round) method a b (inl native) = inl native
next_round p typings (suc round) method a b (inr joined) =
    inr (IsSomeAnd-weaker (code_at p method) (λ code. Joined (LinkedIn p typings round) (typed_method p typings method code) (node_of a) (node_of b))
    (λ code. Joined (LinkedIn p typings (suc round)) (typed_method p typings method code) (node_of a) (node_of b))
    (λ code path. joined_by_more (typed_method p typings method code) (LinkedIn p typings round) (LinkedIn p typings (suc round))
    (record { each = λ m e f first second linked. next_round p typings round m e f linked }) (node_of a) (node_of b) path)
    joined)

pub later_round : (p : Program) (typings : Typings) (round more method : ℕ) (a b : End2) → LinkedIn p typings round method a b →
    LinkedIn p typings (more + round) method a b
later_round p typings round zero method a b linked = rw (zero-add round) linked
later_round p typings round (suc more) method a b linked =
    let next = next_round p typings (more + round) method a b (later_round p typings round more method a b linked) in
    rw (suc-add more round) next

-- a pair, or a path, by what is linked in some round is one by what is linked in one round
record InRound (p : Program) (typings : Typings) (x : TypedMethod) (a : Node) (path : List Node) (b : Node) : Type 0 where
  round : ℕ
  is : IsPath (LinkedIn p typings round) x a path b

record PairInRound (p : Program) (typings : Typings) (x : TypedMethod) (j : ℕ) (a b : Node) : Type 0 where
  round : ℕ
  pair : PairAt (LinkedIn p typings round) x j a b

up_to : (p : Program) (typings : Typings) (x : TypedMethod) (round more : ℕ) → AtLeast x (LinkedIn p typings round) (LinkedIn p typings (more + round))
up_to p typings x round more = record { each = λ m e f first second linked. later_round p typings round more m e f linked }

pair_in_round : (p : Program) (typings : Typings) (x : TypedMethod) (j : ℕ) (a b : Node) (pair : PairAt (Linked p typings) x j a b) →
    StaysAt x j pair.insn a b ⊎ JoinedAt x j pair.insn a b ⊎ CalledAt (Linked p typings) x j pair.insn a b ⊎ CaughtAt x j a b → PairInRound p typings x j a b
pair_in_round p typings x j a b pair (inl stays) = record {
  round = 0;
  pair = record { insn = pair.insn; is = pair.is; reachable = pair.reachable; first = pair.first; second = pair.second; paired = inl stays };
}
pair_in_round p typings x j a b pair (inr (inl joined)) = record {
  round = 0;
  pair = record { insn = pair.insn; is = pair.is; reachable = pair.reachable; first = pair.first; second = pair.second; paired = inr (inl joined) };
}
pair_in_round p typings x j a b pair (inr (inr (inl c))) = record {
  round = c.links.0;
  pair = record {
    insn = pair.insn;
    is = pair.is;
    reachable = pair.reachable;
    first = pair.first;
    second = pair.second;
    paired = inr (inr (inl (record {
      called = c.called;
      is = c.is;
      target = c.target;
      among = c.among;
      one = c.one;
      other = c.other;
      first_end = c.first_end;
      second_end = c.second_end;
      links = c.links.1;
      first = c.first;
      second = c.second;
    })));
  };
}
pair_in_round p typings x j a b pair (inr (inr (inr caught))) = record {
  round = 0;
  pair = record { insn = pair.insn; is = pair.is; reachable = pair.reachable; first = pair.first; second = pair.second; paired = inr (inr (inr caught)) };
}

record PairedInRound (p : Program) (typings : Typings) (x : TypedMethod) (a b : Node) : Type 0 where
  round : ℕ
  paired : ArePaired (LinkedIn p typings round) x a b

paired_in_round : (p : Program) (typings : Typings) (x : TypedMethod) (a b : Node) → ArePaired (Linked p typings) x a b → PairedInRound p typings x a b
paired_in_round p typings x a b (j, inl pair) =
    let found = pair_in_round p typings x j a b pair pair.paired in record { round = found.round; paired = (j, inl found.pair) }
paired_in_round p typings x a b (j, inr pair) =
    let found = pair_in_round p typings x j b a pair pair.paired in record { round = found.round; paired = (j, inr found.pair) }

-- the greater round of the first pair and of the rest serves both
in_round : (p : Program) (typings : Typings) (x : TypedMethod) (a : Node) (path : List Node) (b : Node) → IsPath (Linked p typings) x a path b →
    InRound p typings x a path b
in_round p typings x a [] b same = record { round = 0; is = same }
in_round p typings x a (next ∷ rest) b (paired, path) =
    let here = paired_in_round p typings x a next paired in
    let later = in_round p typings x next rest b path in
    let first = are_paired_by_more x (LinkedIn p typings here.round) (LinkedIn p typings (later.round + here.round))
    (up_to p typings x here.round later.round) a next here.paired in
    let rest_is = path_by_more x (LinkedIn p typings later.round) (LinkedIn p typings (here.round + later.round))
    (up_to p typings x later.round here.round) next rest b later.is in
    let P : ℕ → Type 0 = λ r. IsPath (LinkedIn p typings r) x next rest b in
    record { round = later.round + here.round; is = (first, subst P (add_comm here.round later.round) rest_is) }

-- two ends that the method's pairs join, calls by what is linked in some round, are linked in some round
pub ends_linked : (p : Program) (typings : Typings) (method : ℕ) (code : Code) (a b : End2) → code_at p method ≡ Some code →
    Joined (Linked p typings) (typed_method p typings method code) (node_of a) (node_of b) → Linked p typings method a b
unfolding LinkedIn
ends_linked p typings method code a b is (path, joined) =
    let found = in_round p typings (typed_method p typings method code) (node_of a) path (node_of b) joined in (
      suc found.round,
      inr (IsSomeAnd-from_some (code_at p method)
          (λ c. Joined (LinkedIn p typings found.round) (typed_method p typings method c) (node_of a) (node_of b)) code is (path, found.is)),
    )

-- ---- facts

pub pairs_have_one_class : PairsHaveOneClass
pairs_have_one_class p facts are method code is j a b pair =
    let x = typed_method p facts.typing method code in
    let up : AtLeast x (links_of facts) (Linked p facts.typing) =
    record { each = λ m e f first second linked. (are.linked m e f first second).0 linked } in
    ((are.methods method code is).class a b).1 (b ∷ [], ((j, inl (pair_by_more x (links_of facts) (Linked p facts.typing) up j a b pair)), refl))

pub ends_of_one_class_are_linked : EndsOfOneClassAreLinked
ends_of_one_class_are_linked p facts are method code is a b first second same =
    (are.linked method a b first second).1
    (ends_linked p facts.typing method code a b is (((are.methods method code is).class (node_of a) (node_of b)).0 same))

-- ---- classes by summaries

-- two that link the same ends join the same nodes
pub classes_are_by_links : ClassesAreByLinks
classes_are_by_links p typings s tell method code c are a b =
    let x = typed_method p typings method code in
    let by_links : AtLeast x (Linked p typings) (linked_by s) = record { each = tell.all } in
    let by_summaries : AtLeast x (linked_by s) (Linked p typings) = record { each = λ m e f first second linked. tell.no_more m e f linked } in
    let same = are.same a b in (
      λ one. joined_by_more x (linked_by s) (Linked p typings) by_summaries a b (same.0 one),
      λ joined. same.1 (joined_by_more x (Linked p typings) (linked_by s) by_links a b joined),
    )
