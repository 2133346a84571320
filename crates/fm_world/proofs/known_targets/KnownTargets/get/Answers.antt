use Rattle.std.proofs.Common.{◌≡◌, ◌<◌, sym, ◌∙◌, ap, length, arith}
use Rattle.fm_world.proofs.TypeTests.{tested_same}
use Rattle.fm_world.proofs.known_targets.KnownTargets.get.Goals as goal

pub returns-then-eq : goal.returns-then-eq
returns-then-eq c =
    let lists = c.args.self.now.lists in
    let place = c.in_ok-place.field-0.now in
    let list = c.index-list.result.now in
    let inside : place < length lists.items = let ok = lists.ok.0 in omega (arith, c.if-place-len.false, c.len.ensures) in
    let number : list.method.0 ≡ c.args.method.0 = omega (arith, c.if-list-method.false) in
    record {
      list = list;
      among = (place, inside, sym c.index-list.ensures);
      named_is = tested_same list.named c.args.named (sym c.eq.ensures ∙ c.if-eq.true);
      method_is = ap (λ n. record { 0 = n }) number;
      targets = c.as_slice.ensures.value;
    }
