use Rattle.std.proofs.Common.{◌≡◌, ◌+◌, ℕ, List, false, drop, subst}
use Rattle.std.specs.BTreeSet.{contains}
use Rattle.fm_base.proofs.TestFacts.{false_from_not}
use Rattle.fm_code.specs.declared.class_file.Member.{Member}
use Rattle.fm_pool_texts.proofs.KeysInTurn.{HasSeen, HasSeen-more, Adds, Adds-from_insert, key_is, turn}
use Rattle.fm_pool_texts.specs.inner.Entries.{key_of, pair_order}
use Rattle.fm_pool_texts.proofs.text_numbers.TextNumbers.are_distinct.Goals as goal

pub loop-member-preserved : goal.loop-member-preserved
loop-member-preserved c =
    let numbers = c.args.self.now in
    let members = c.args.members.now in
    let i = c.loop-member.member-index in
    let seen = contains pair_order c.loop-member.seen in
    let more = contains pair_order c.insert.new.self in
    let m = c.member-item.result in
    let key : ℕ × ℕ = (c.number_at.result, c.number_at-in-loop-member.result) in
    let same_key : key ≡ key_of numbers m =
    key_is numbers m c.number_at.result c.number_at-in-loop-member.result c.number_at.ensures c.number_at-in-loop-member.ensures in
    let fresh : seen key ≡ false = false_from_not c.in_ok-insert.field-0 (seen key) c.in_ok-insert.ensures.added c.if-not-branch.false in
    let adds : Adds key seen more = Adds-from_insert key c.loop-member.seen c.insert.new.self c.in_ok-insert.ensures.updates in
    let front = subst (λ (rest : List Member). HasSeen numbers members rest seen) (turn members i m c.loop-member-test.true c.member-item.is) c.loop-member.invariant in
    HasSeen-more numbers members m (drop (i + 1) members) seen more
    (subst (λ (k : ℕ × ℕ). seen k ≡ false) same_key fresh) (subst (λ (k : ℕ × ℕ). Adds k seen more) same_key adds) front
