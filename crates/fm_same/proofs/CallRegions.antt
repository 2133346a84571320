-- Along a call the classes of what is handed over have the regions of the words that were handed, and along a return those of the result.
use Rattle.std.proofs.Common.{◌≡◌, ℕ, zero, suc, ◌+◌, ◌⊎◌, List, [], ◌∷◌, length, Option, Some, None, IsSomeAnd, refl, sym, ◌∙◌, ap, inl, inr, slice_get, slice_index_or, arith}
use Rattle.fm_code.specs.Edges.{IsNormalEdge}
use Rattle.fm_code.specs.declared.code_array.Code.{Code}
use Rattle.fm_conn.specs.Facts.{AreFacts, Facts}
use Rattle.fm_conn.specs.Links.{Linked, node_of}
use Rattle.fm_conn.specs.Nodes.{Node, Local, Slot, Return, Global, IsNode}
use Rattle.fm_conn.specs.Pairs.{depth_below, IsEnd, PairAt, StandsFor}
use Rattle.fm_conn.specs.declared.ends.End2.{End2}
use Rattle.fm_conn.specs.declared.ends.End2.TheVariants as end
use Rattle.fm_world.specs.Programs.{code_at, Program}
use Rattle.fm_frames.specs.States.{Frame}
use Rattle.fm_same.specs.Regions.{argument, Own, region}
use Rattle.fm_same.specs.Standing.{Called, method_of}
use Rattle.fm_same.proofs.LinkedClasses.{linked_if_same_class, same_class_if_paired}
use Rattle.fm_same.proofs.RegionLemmas.{parameter_there, region_global, Sort, sort_of, WithGlobal, WithNeither, WithParameter}

pub state_found : {X : Type 0} (states : List (Option X)) (j : ℕ) (s : X) → slice_index_or states j None ≡ Some s
    → IsSomeAnd (slice_get states j) (λ found. IsSomeAnd found (λ _. Unit {0}))
state_found [] j s h = absurd (cc)
state_found (None ∷ states) zero s h = absurd (cc)
state_found (Some t ∷ states) zero s h = tt
state_found (found ∷ states) (suc j) s h = state_found states j s h

module _ (p : Program) (facts : Facts) (exact : AreFacts p facts) (f g : Frame) (code : Code) (code_is : code_at p f.method ≡ Some code) (h : Called p facts f g) where
  -- two ends of the method that is called, with their nodes at the call
  call_pair : (one other : End2) (a b : Node) → IsEnd p.outline f.method one → IsEnd p.outline f.method other
      → Linked p facts.typing f.method one other
      → StandsFor (method_of p facts g h.at.code) g.item h.at.insn one a → StandsFor (method_of p facts g h.at.code) g.item h.at.insn other b
      → IsNode (method_of p facts g h.at.code) a → IsNode (method_of p facts g h.at.code) b
      → PairAt (Linked p facts.typing) (method_of p facts g h.at.code) g.item a b
  call_pair one other a b first_end second_end links first second first_node second_node = record {
    insn = h.at.insn;
    is = h.at.insn_is;
    reachable = state_found (facts.typing g.method) g.item h.at.state h.at.state_is;
    first = first_node;
    second = second_node;
    paired = inr (inr (inl (record {
      called = h.call;
      is = h.call_is;
      target = f.method;
      among = h.among;
      one = one;
      other = other;
      first_end = first_end;
      second_end = second_end;
      links = links;
      first = first;
      second = second;
    })));
  }

  -- where they are in one class, so are their nodes
  call_class : (one other : End2) (a b : Node) → IsEnd p.outline f.method one → IsEnd p.outline f.method other
      → StandsFor (method_of p facts g h.at.code) g.item h.at.insn one a → StandsFor (method_of p facts g h.at.code) g.item h.at.insn other b
      → IsNode (method_of p facts g h.at.code) a → IsNode (method_of p facts g h.at.code) b
      → facts.class f.method (node_of one) ≡ facts.class f.method (node_of other)
      → facts.class g.method a ≡ facts.class g.method b
  call_class one other a b first_end second_end first second first_node second_node same =
      same_class_if_paired p facts exact g.method h.at.code h.at.code_is g.item a b
      (call_pair one other a b first_end second_end (linked_if_same_class p facts exact f.method code one other code_is same)
      first second first_node second_node)

  stands_for_parameter : (k : ℕ) → StandsFor (method_of p facts g h.at.code) g.item h.at.insn (end.Parameter k) (argument g k)
  stands_for_parameter k = ap (λ depth. Slot g.item (depth + k)) h.depth

  call_sort : (callers : List Frame) (k : ℕ) → IsEnd p.outline f.method (end.Parameter k)
      → Sort p.outline facts f.method (g ∷ callers) (facts.class f.method (Local k))
      → region p.outline facts f.method (g ∷ callers) (facts.class f.method (Local k))
      ≡ region p.outline facts g.method callers (facts.class g.method (argument g k))
  call_sort callers k ended (WithGlobal same is) =
      is
      ∙ sym (region_global p.outline facts g.method callers (facts.class g.method (argument g k))
      (call_class end.Global (end.Parameter k) Global (argument g k) tt ended refl (stands_for_parameter k) tt ((h.arguments k).0 ended) same))
  call_sort callers k ended (WithParameter other other_end same is) =
      is
      ∙ ap (λ class. region p.outline facts g.method callers class)
      (call_class (end.Parameter other) (end.Parameter k) (argument g other) (argument g k) other_end ended
      (stands_for_parameter other) (stands_for_parameter k) ((h.arguments other).0 other_end) ((h.arguments k).0 ended) same)
  call_sort callers k ended (WithNeither not_global none is) = absurd (parameter_there p.outline facts f.method k ended none)

  -- a parameter has the region of the word that was handed over
  pub region_call : (callers : List Frame) (k : ℕ) → IsEnd p.outline f.method (end.Parameter k)
      → region p.outline facts f.method (g ∷ callers) (facts.class f.method (Local k))
      ≡ region p.outline facts g.method callers (facts.class g.method (argument g k))
  region_call callers k ended =
      call_sort callers k ended (sort_of p.outline facts f.method (g ∷ callers) (facts.class f.method (Local k)))

  stands_for_result : (next : ℕ) → IsNormalEdge h.at.code g.item next
      → StandsFor (method_of p facts g h.at.code) g.item h.at.insn end.Return (Slot next (length g.stack))
  stands_for_result next edge =
      let same : length g.stack ≡ depth_below (method_of p facts g h.at.code) g.item h.at.insn + 0 = let depth = h.depth in omega (arith, depth) in
      (next, (edge, ap (λ depth. Slot next depth) same))

  return_sort : (callers : List Frame) (next : ℕ) → IsEnd p.outline f.method end.Return → IsNormalEdge h.at.code g.item next
      → IsNode (method_of p facts g h.at.code) (Slot next (length g.stack))
      → Sort p.outline facts f.method (g ∷ callers) (facts.class f.method Return)
      → (region p.outline facts f.method (g ∷ callers) (facts.class f.method Return)
      ≡ region p.outline facts g.method callers (facts.class g.method (Slot next (length g.stack))))
      ⊎ (region p.outline facts f.method (g ∷ callers) (facts.class f.method Return) ≡ Own (length (g ∷ callers)) (facts.class f.method Return))
  return_sort callers next ended edge node (WithGlobal same is) =
      inl (is
      ∙ sym (region_global p.outline facts g.method callers (facts.class g.method (Slot next (length g.stack)))
      (call_class end.Global end.Return Global (Slot next (length g.stack)) tt ended refl (stands_for_result next edge) tt node same)))
  return_sort callers next ended edge node (WithParameter k k_end same is) =
      inl (is
      ∙ ap (λ class. region p.outline facts g.method callers class)
      (call_class (end.Parameter k) end.Return (argument g k) (Slot next (length g.stack)) k_end ended
      (stands_for_parameter k) (stands_for_result next edge) ((h.arguments k).0 k_end) node same))
  return_sort callers next ended edge node (WithNeither not_global none is) = inr is

  -- the class of the result has the region of the word that is given, or one of its own
  pub region_return : (callers : List Frame) (next : ℕ) → IsEnd p.outline f.method end.Return → IsNormalEdge h.at.code g.item next
      → IsNode (method_of p facts g h.at.code) (Slot next (length g.stack))
      → (region p.outline facts f.method (g ∷ callers) (facts.class f.method Return)
      ≡ region p.outline facts g.method callers (facts.class g.method (Slot next (length g.stack))))
      ⊎ (region p.outline facts f.method (g ∷ callers) (facts.class f.method Return) ≡ Own (length (g ∷ callers)) (facts.class f.method Return))
  region_return callers next ended edge node =
      return_sort callers next ended edge node (sort_of p.outline facts f.method (g ∷ callers) (facts.class f.method Return))
