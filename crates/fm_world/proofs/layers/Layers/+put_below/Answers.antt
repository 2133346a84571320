use Rattle.std.proofs.Common.{◌≡◌, ◌<◌, [], sym, ◌∙◌, ap, subst, suc, ◌-◌, ◌/◌, ◌%◌, ◌^◌, length, arith, rules, is_ok}
use Rattle.std.proofs.lemmas.List.{get_or_default}
use Rattle.fm_world.proofs.LayerLemmas.{AreNodes-either, Made, Puts-made, within-grows, lower_key}
use Rattle.fm_world.specs.inner.Nodes.{IsNode, Puts}
use Rattle.fm_world.proofs.layers.Layers.+put_below.Goals as goal

pub put_below-requires : goal.put_below-requires
put_below-requires t c =
    let level = c.args.level - 1 in
    let nodes = c.args.self.now.nodes.items in
    let more : c.args.level ≡ suc level = omega (arith, c.if-level-eq0.false) in
    let is = subst (λ l. IsNode nodes l c.args.node) more c.requires.node in
    let room = subst (λ l. c.args.key < 8 ^ l) more c.requires.room in (
      omega (arith, c.decreases, c.if-level-eq0.false),
      (subst (λ n. IsNode nodes level n) (sym c.child-child.ensures) (is.1 (c.args.key % 8)), lower_key level c.args.key room),
    )

pub index-requires : goal.index-requires
index-requires t c =
    let level = c.args.level - 1 in
    let more : c.args.level ≡ suc level = omega (arith, c.if-level-eq0.false) in
    let is = subst (λ l. IsNode c.args.self.now.nodes.items l c.args.node) more c.requires.node in
    subst (λ n. c.args.node < n) (sym c.put_below.new.self.nodes.ok.0)
    (within-grows c.args.self.now.nodes.items c.put_below.new.self.nodes.items c.args.node c.in_ok-below.ensures.grows is.0)

pub invariant_of-self : goal.invariant_of-self
invariant_of-self t c =
    let level = c.args.level - 1 in
    let between = c.put_below.new.self.nodes.items in
    let more : c.args.level ≡ suc level = omega (arith, c.if-level-eq0.false) in
    let is = subst (λ l. IsNode c.args.self.now.nodes.items l c.args.node) more c.requires.node in
    let within = within-grows c.args.self.now.nodes.items between c.args.node c.in_ok-below.ensures.grows is.0 in
    record {
      are_nodes =
          AreNodes-either (is_ok c.push.result) between c.push.new.self.items c.args.node
          (c.args.key % 8) c.in_ok-below.below c.index.result.now c.put_below.new.self.are_nodes
          within (c.index.ensures ∙ get_or_default between c.args.node c.index.result.now [] within) c.push.ensures.items;
    }

pub returns-clause-puts : goal.returns-clause-puts
returns-clause-puts t c =
    let level = c.args.level - 1 in
    let before = c.args.self.now.nodes.items in
    let between = c.put_below.new.self.nodes.items in
    let after = c.push.new.self.items in
    let key = c.args.key in
    let row = c.index.result.now in
    let below = c.in_ok-below.below in
    let more : c.args.level ≡ suc level = omega (arith, c.if-level-eq0.false) in
    let is = subst (λ l. IsNode before l c.args.node) more c.requires.node in
    let puts = subst (λ n. Puts before between level n (key / 8) c.args.entry below) c.child-child.ensures c.in_ok-below.ensures.puts in
    let within = within-grows before between c.args.node c.in_ok-below.ensures.grows is.0 in
    let made : Made before between after level c.args.node key below row = record {
      is = is;
      grows = c.in_ok-below.ensures.grows;
      row_is = c.index.ensures ∙ get_or_default between c.args.node row [] within;
      branches = ap length (c.index.ensures ∙ get_or_default between c.args.node row [] within)
          ∙ c.put_below.new.self.are_nodes.branches c.args.node within;
      after_is = c.in_ok-push.ensures.items;
    } in
    let whole = Puts-made before between after level c.args.node key c.args.entry below row made puts in
    let fresh : c.in-Ok.fresh ≡ length between = search (rules, c.in-Ok.ensures, c.in-Ok.is, c.put_below.new.self.nodes.ok) in
    subst (λ l. Puts before after l c.args.node key c.args.entry c.in-Ok.fresh) (sym more)
    (subst (λ n. Puts before after (suc level) c.args.node key c.args.entry n) (sym fresh) whole)
