-- What is thrown is everywhere, and so is the word of the handler that catches it: frames that an exception leaves take their holders with them, and the
-- frame that catches it goes on with the locals that were live before.
use Rattle.std.proofs.Common.{◌≡◌, ℕ, zero, suc, true, false, List, [], ◌∷◌, Option, Some, None, refl, sym, ◌∙◌, subst, inr, slice_get, ⊎_elim}
use Rattle.std.proofs.lemmas.Bool.{false≢true}
use Rattle.std.proofs.lemmas.Option.{same_Some}
use Rattle.fm_base.specs.declared.kinds.TypeRef.{TypeRef}
use Rattle.fm_cells.specs.Stores.{Store}
use Rattle.fm_code.proofs.EdgesLemmas.{insn_inside}
use Rattle.fm_code.specs.Edges.{IsHandlerEdge}
use Rattle.fm_code.specs.Live.{stores_over}
use Rattle.fm_conn.specs.Facts.{AreFacts, Facts}
use Rattle.fm_conn.specs.Links.{Linked}
use Rattle.fm_conn.specs.Nodes.{Global, IsNode, Slot}
use Rattle.fm_conn.specs.Pairs.{PairAt}
use Rattle.fm_world.specs.Programs.{Program}
use Rattle.fm_frames.specs.States.{Frame}
use Rattle.fm_frames.specs.Steps.{caught, Caught, caught_in, handler_of, InFrames, is_start}
use Rattle.fm_frames.specs.declared.ends.Ended.TheVariants as end
use Rattle.fm_frames.specs.declared.values.Value.{Value}
use Rattle.fm_types.specs.Named.{class_of_method}
use Rattle.fm_same.specs.Colours.{AreFramesColoured, Colour, HasColour, IsFrameColoured, node_of_word}
use Rattle.fm_same.specs.Regions.{Everywhere, region}
use Rattle.fm_same.specs.Standing.{Called, Goes, method_of, Stand, StandBelow, StandsAt, Waits}
use Rattle.fm_same.proofs.CallRegions.{state_found}
use Rattle.fm_same.proofs.EdgesKeep.{call_keeps, handler_edge, item_with_state, live_before}
use Rattle.fm_same.proofs.GoesOnKeep.{same_node}
use Rattle.fm_same.proofs.LinkedClasses.{same_class_if_paired}
use Rattle.fm_same.proofs.RegionLemmas.{region_global}
use Rattle.fm_same.proofs.SourcesKeep.{has_if_reference}
use Rattle.fm_law_sound.proofs.FramesStand.{not_left}

-- ---- the frame that catches

module _ (p : Program) (facts : Facts) (exact : AreFacts p facts) (f : Frame) (callers : List Frame) (at : StandsAt p facts f) (keeps : (k : ℕ) → stores_over k at.insn ≡ false) (store : Store) (colour : Colour) (coloured : IsFrameColoured p.outline facts store colour f callers) (t : TypeRef) (v : Value) (has : HasColour store colour Everywhere v) (h : ℕ) (found : handler_of p f t ≡ Some h) where
  abbrev pub catching : Frame
  catching = record f { item = h; stack = v ∷ [] }

  edge : Goes p facts catching → IsHandlerEdge at.code f.item h
  edge stands =
      handler_edge p f t at.code h at.code_is found
      (item_with_state p facts exact f.method at.code at.code_is h stands.at.state stands.at.state_is)
      (insn_inside at.code f.item at.insn at.insn_is)

  -- the handler's word is paired with Global
  handler_pair : Goes p facts catching → IsNode (method_of p facts f at.code) (Slot h 0)
      → PairAt (Linked p facts.typing) (method_of p facts f at.code) f.item (Slot h 0) Global
  handler_pair stands node = record {
    insn = at.insn;
    is = at.insn_is;
    reachable = state_found (facts.typing f.method) f.item at.state at.state_is;
    first = node;
    second = tt;
    paired = inr (inr (inr (record { handler = h; edge = edge stands; before = refl; after = refl })));
  }

  word_caught : Goes p facts catching → (n : ℕ) (w : Value) → slice_get (v ∷ []) n ≡ Some w
      → HasColour store colour (region p.outline facts f.method callers (facts.class f.method (node_of_word catching n))) w
  word_caught stands zero w is =
      let same : stands.at.code ≡ at.code = same_Some stands.at.code at.code (sym stands.at.code_is ∙ at.code_is) in
      has_if_reference store colour (region p.outline facts f.method callers (facts.class f.method (Slot h 0))) w
      (λ leads.
      let node : IsNode (method_of p facts f at.code) (Slot h 0) =
      same_node p facts f at.code stands.at.code (Slot h 0) same (stands.at.is_node 0 w is leads) in
      let global : facts.class f.method Global ≡ facts.class f.method (Slot h 0) =
      sym (same_class_if_paired p facts exact f.method at.code at.code_is f.item (Slot h 0) Global (handler_pair stands node)) in
      subst (λ r. HasColour store colour r w) (sym (region_global p.outline facts f.method callers (facts.class f.method (Slot h 0)) global))
      (subst (λ x. HasColour store colour Everywhere x) (same_Some v w is) has))
  word_caught stands (suc n) w is = absurd (cc)

  pub catching_coloured : Goes p facts catching → IsFrameColoured p.outline facts store colour catching callers
  catching_coloured stands = record {
    locals = λ k w is live.
        coloured.locals k w is
        (live_before p facts exact f.method at.code at.code_is f.item h k at.insn at.insn_is (inr (edge stands)) (keeps k) live);
    words = word_caught stands;
  }

-- ---- unwinding

module _ (p : Program) (facts : Facts) (exact : AreFacts p facts) (store : Store) (colour : Colour) (t : TypeRef) (v : Value) (has : HasColour store colour Everywhere v) where
  -- the frames after a look at one of them, where this is the result for those below
  caught_one : (f : Frame) (callers : List Frame) (at : StandsAt p facts f) → ((k : ℕ) → stores_over k at.insn ≡ false)
      → AreFramesColoured p.outline facts store colour (f ∷ callers) → (found : Option ℕ) → handler_of p f t ≡ found
      → (below : Caught) (after : List Frame)
      → (is_start p.outline f.method ≡ false → below ≡ InFrames after → AreFramesColoured p.outline facts store colour after)
      → (Stand p facts after) → caught_in p v f callers found below ≡ InFrames after → AreFramesColoured p.outline facts store colour after
  caught_one f callers at keeps h (Some handler) found below after rest stand is =
      let same : record f { item = handler; stack = v ∷ [] } ∷ callers ≡ after = cc in
      subst (λ frames. AreFramesColoured p.outline facts store colour frames) same (
        catching_coloured p facts exact f callers at keeps store colour h.0 t v has handler found
            (subst (λ frames. Stand p facts frames) (sym same) stand).0,
        h.1,
      )
  caught_one f callers at keeps h None found below after rest stand is =
      not_left (is_start p.outline f.method) (end.InitFailed (record { 0 = class_of_method p.outline f.method })) below after rest is

  -- the frames after an exception that reached this one
  pub thrown_coloured : (f : Frame) (callers : List Frame) (at : StandsAt p facts f) → ((k : ℕ) → stores_over k at.insn ≡ false)
      → AreFramesColoured p.outline facts store colour (f ∷ callers) → StandBelow p facts f callers → (after : List Frame) → Stand p facts after
      → caught p t v (f ∷ callers) ≡ InFrames after → AreFramesColoured p.outline facts store colour after
  unfolding caught
  thrown_coloured f [] at keeps h below after stand is =
      caught_one f [] at keeps h (handler_of p f t) refl (caught p t v []) after (λ no_start left. absurd (cc)) stand is
  thrown_coloured f (g ∷ callers) at keeps h below after stand is =
      caught_one f (g ∷ callers) at keeps h (handler_of p f t) refl (caught p t v (g ∷ callers)) after
      (λ no_start rest. ⊎_elim
      (λ (called : (is_start p.outline f.method ≡ false) × Called p facts f g).
      thrown_coloured g callers called.1.at
      (call_keeps (method_of p facts g called.1.at.code) called.1.at.insn called.1.call called.1.call_is) h.1 below.1 after stand rest)
      (λ (waits : (is_start p.outline f.method ≡ true) × Waits p facts g). absurd (false≢true (sym no_start ∙ waits.0)))
      below.0)
      stand is
