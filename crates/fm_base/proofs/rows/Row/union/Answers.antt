use Rattle.std.proofs.Common.{sym, ◌∙◌, ◌≡◌, ◌↔◌, ap, length, take, drop, ◌++◌, ℕ, List, Bool, subst, IsTrue, MatchBool, arith}
use Rattle.std.specs.Bool.{OnFalse}
use Rattle.std.specs.Int.{div_ceil}
use Rattle.fm_base.specs.Rows.{IsUnion, AddsBit}
use Rattle.fm_base.specs.inner.Rows.{IsRow, bits_of, GainsBit}
use Rattle.fm_base.proofs.RowsLemmas.{length-bits_of, written_whole, JoinsWords, IsRow-joined, IsUnion-joined}
use Rattle.fm_base.proofs.RowsUnion.{AddsBit_iff, unchanged_row}
use Rattle.fm_base.proofs.rows.Row.union.Goals as goal

pub unite-requires : goal.unite-requires
unite-requires c =
    let same : c.self.inside.bits ≡ c.other.inside.bits =
    sym (length-bits_of c.self.inside.words.items c.self.inside.bits) ∙ ap length c.self.view_is ∙ c.requires ∙ sym (ap length c.other.view_is)
    ∙ length-bits_of c.other.inside.words.items c.other.inside.bits in
    ap length c.as_mut_slice.ensures.value ∙ c.self.invariant.words_needed ∙ ap (λ bits. div_ceil bits 64) same ∙ sym c.other.invariant.words_needed
    ∙ sym (ap length c.as_slice.ensures.value)

-- what the call leaves, in the words of the lists
record Left (old other new : List ℕ) (bits : ℕ) (row more : List Bool) (grown : Bool) : Type 0 where
  invariant : IsRow new bits
  union : IsUnion row more (bits_of new bits)
  added : IsTrue grown ↔ AddsBit row (bits_of new bits)
  unchanged : OnFalse grown (bits_of new bits ≡ row)

left : (old other new : List ℕ) (bits others : ℕ) (row more : List Bool) (grown : Bool) → bits_of old bits ≡ row → bits_of other others ≡ more →
    IsRow old bits → IsRow other others → length row ≡ length more → length new ≡ length old → JoinsWords old other new → MatchBool grown (GainsBit old new) (new ≡ old) →
    Left old other new bits row more grown
left old other new bits others row more grown is_row is_more first second same_bits same joins changed =
    let same_number : others ≡ bits =
    sym (length-bits_of other others) ∙ ap length is_more ∙ sym same_bits ∙ sym (ap length is_row) ∙ length-bits_of old bits in
    let Is : ℕ → Type 0 = λ n. IsRow other n in
    let second_row : IsRow other bits = subst Is same_number second in
    let invariant = IsRow-joined old other new bits first second_row same joins in
    let Union : List Bool → Type 0 = λ r. IsUnion r more (bits_of new bits) in
    let UnionWith : List Bool → Type 0 = λ r. IsUnion (bits_of old bits) r (bits_of new bits) in
    let Added : List Bool → Type 0 = λ r. IsTrue grown ↔ AddsBit r (bits_of new bits) in
    let Unchanged : List Bool → Type 0 = λ r. OnFalse grown (bits_of new bits ≡ r) in
    record {
      invariant = invariant;
      union = subst Union is_row (subst UnionWith (ap (bits_of other) (sym same_number) ∙ is_more) (IsUnion-joined old other new bits first second_row same joins));
      added = subst Added is_row (AddsBit_iff old new bits grown first invariant changed);
      unchanged = subst Unchanged is_row (unchanged_row old new bits grown changed);
    }

after : (c : goal.After-self-1) →
    Left c.self.inside.words.items c.other.inside.words.items (take c.self.inside.words.len (c.unite.new.words ++ drop (length c.unite.new.words) c.self.inside.words.items))
    c.self.inside.bits c.args.self.now c.args.other.now c.unite.result
after c =
    let old = c.self.inside.words.items in
    let kept : length c.unite.new.words ≡ length old = c.unite.auto.words ∙ ap length c.as_mut_slice.ensures.value in
    let written : take c.self.inside.words.len (c.unite.new.words ++ drop (length c.unite.new.words) old) ≡ c.unite.new.words =
    written_whole c.unite.new.words old c.self.inside.words.len (omega arith) (omega arith) in
    let mine = c.as_mut_slice.ensures.value in
    let theirs = c.as_slice.ensures.value in
    let Joins : List ℕ → Type 0 = λ words. JoinsWords words c.as_slice.result.now c.unite.new.words in
    let JoinsWith : List ℕ → Type 0 = λ words. JoinsWords old words c.unite.new.words in
    let Changes : List ℕ → Type 0 = λ words. MatchBool c.unite.result (GainsBit words c.unite.new.words) (c.unite.new.words ≡ words) in
    rw written
    (left old c.other.inside.words.items c.unite.new.words c.self.inside.bits c.other.inside.bits c.args.self.now c.args.other.now c.unite.result
    c.self.view_is c.other.view_is c.self.invariant c.other.invariant c.requires kept
    (subst JoinsWith theirs (subst Joins mine c.unite.ensures.joined)) (subst Changes mine c.unite.ensures.changed))

pub invariant_of-self : goal.invariant_of-self
invariant_of-self c = (after c).invariant

pub returns-clause-union : goal.returns-clause-union
returns-clause-union c = (after c).union

pub returns-clause-added : goal.returns-clause-added
returns-clause-added c = (after c).added

pub returns-clause-unchanged : goal.returns-clause-unchanged
returns-clause-unchanged c = (after c).unchanged
