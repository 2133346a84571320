-- Tables of nearest members, one member after the other.
use Rattle.std.proofs.Common.{◌≡◌, refl, sym, ◌∙◌, ap, subst, ℕ, suc, ◌+◌, ◌-◌, ◌^◌, ◌<◌, ◌≤◌, ◌&&◌, Bool, true, false, cond, List, length, get_or, nat_eq, Option, Some, None, arith}
use Rattle.std.proofs.lemmas.Bool.{eq-eqb, eqb-true, false≢true}
use Rattle.fm_base.proofs.TestFacts.{and_false}
use Rattle.fm_world.proofs.LayerLemmas.{entry_of-grows, Grows-none, Grows-then, IsNode-grows}
use Rattle.fm_world.specs.declared.layers.Layers.{Layers}
use Rattle.fm_world.specs.inner.Layers.{value_at, value_of_entry, HasRoom, IsTable, KeepsTables, PutsValue}
use Rattle.fm_world.specs.inner.Nodes.{entry_of, IsNode}
use Rattle.fm_link_members.specs.declared.members.MemberRow.{MemberRow}
use Rattle.fm_link_members.specs.inner.MemberRows.{no_row}
use Rattle.fm_link_members.specs.inner.MemberTables.{first_from}
use Rattle.fm_link_members.specs.inner.NearestSteps.{is_signed, or_else, PutsMember, PutsSection}

-- ---- tables that are kept

pub kept_all : (x : Layers) → KeepsTables x x
kept_all x = record { nodes = Grows-none x.nodes.items; levels = refl }

pub kept_then : (a b c : Layers) → KeepsTables a b → KeepsTables b c → KeepsTables a c
kept_then a b c g h = record { nodes = Grows-then a.nodes.items b.nodes.items c.nodes.items g.nodes h.nodes; levels = h.levels ∙ g.levels }

pub table_kept : (old new : Layers) (table : ℕ) → KeepsTables old new → IsTable old table → IsTable new table
table_kept old new table keeps is = let P : ℕ → Type 0 = λ l. IsNode new.nodes.items l table in
    subst P (sym keeps.levels) (IsNode-grows old.nodes.items new.nodes.items old.levels table keeps.nodes is)

pub value_kept : (old new : Layers) (table key : ℕ) → KeepsTables old new → IsTable old table → value_at new table key ≡ value_at old table key
value_kept old new table key keeps is =
    ap (λ l. value_of_entry (entry_of new.nodes.items l table key)) keeps.levels
    ∙ ap value_of_entry (entry_of-grows old.nodes.items new.nodes.items old.levels table key keeps.nodes is)

pub room_kept : (old new : Layers) (key : ℕ) → KeepsTables old new → HasRoom old key → HasRoom new key
room_kept old new key keeps room = let P : ℕ → Type 0 = λ l. key < 8 ^ l in subst P (sym keeps.levels) room

pub room_before : (old new : Layers) (key : ℕ) → KeepsTables old new → HasRoom new key → HasRoom old key
room_before old new key keeps room = let P : ℕ → Type 0 = λ l. key < 8 ^ l in subst P keeps.levels room

-- ---- one member

-- a member whose flags don't pass
pub PutsMember-none : (x : Layers) (rows : List MemberRow) (signatures : List ℕ) (passes : ℕ → Bool) (table member : ℕ) → IsTable x table
    → (member < length rows → passes (get_or rows member no_row).flags ≡ false) → PutsMember x x rows signatures passes table member table
PutsMember-none x rows signatures passes table member is fails = record {
  is_table = is;
  puts = λ signature room within.
      sym (ap (λ b. or_else (cond (nat_eq (get_or signatures member 0) signature && b) (Some member) None) (value_at x table signature))
      (fails within)
      ∙ ap (λ b. or_else (cond b (Some member) None) (value_at x table signature)) (and_false (nat_eq (get_or signatures member 0) signature)));
}

pub PutsMember-one : (old new : Layers) (rows : List MemberRow) (signatures : List ℕ) (passes : ℕ → Bool) (table member fresh : ℕ)
    → PutsValue old new table (get_or signatures member 0) member fresh → passes (get_or rows member no_row).flags ≡ true
    → PutsMember old new rows signatures passes table member fresh
PutsMember-one old new rows signatures passes table member fresh put passed = record { is_table = put.is_table; puts = at } where
  by_test : (signature : ℕ) → HasRoom old signature → (b : Bool) → nat_eq (get_or signatures member 0) signature ≡ b
      → value_at new fresh signature ≡ or_else (cond b (Some member) None) (value_at old table signature)
  by_test signature room true e = ap (value_at new fresh) (sym (eqb-true (get_or signatures member 0) signature e)) ∙ put.has
  by_test signature room false e =
      put.others signature room (λ same. false≢true (sym e ∙ eq-eqb (get_or signatures member 0) signature (sym same)))

  and_passed : (a b : Bool) → b ≡ true → (a && b) ≡ a
  and_passed true b h = h
  and_passed false b h = refl

  at : (signature : ℕ) → HasRoom old signature → member < length rows
      → value_at new fresh signature
      ≡ or_else (cond (is_signed rows signatures passes signature member) (Some member) None) (value_at old table signature)
  at signature room within =
      by_test signature room (nat_eq (get_or signatures member 0) signature) refl
      ∙ ap (λ b. or_else (cond b (Some member) None) (value_at old table signature))
      (sym (and_passed (nat_eq (get_or signatures member 0) signature) (passes (get_or rows member no_row).flags) passed))

-- ---- a section

pub PutsSection-none : (x : Layers) (rows : List MemberRow) (signatures : List ℕ) (passes : ℕ → Bool) (end table : ℕ) → IsTable x table
    → PutsSection x x rows signatures passes (end, end) table table
PutsSection-none x rows signatures passes end table is = record {
  is_table = is;
  puts = λ signature room rising within.
      let none : 0 ≡ end - end = omega arith in
      ap (λ n. or_else (first_from (is_signed rows signatures passes signature) n end) (value_at x table signature)) none;
}

first_more : (p : ℕ → Bool) (k end : ℕ) (other : Option ℕ) → k < end
    → or_else (cond (p k) (Some k) None) (or_else (first_from p (end - (k + 1)) (k + 1)) other) ≡ or_else (first_from p (end - k) k) other
first_more p k end other below = by_test (p k) ∙ ap (λ n. or_else (first_from p n k) other) more where
  more : suc (end - (k + 1)) ≡ end - k
  more = omega (arith, below)

  by_test : (b : Bool) → or_else (cond b (Some k) None) (or_else (first_from p (end - (k + 1)) (k + 1)) other)
      ≡ or_else (cond b (Some k) (first_from p (end - (k + 1)) (suc k))) other
  by_test true = refl
  by_test false = ap (λ n. or_else (first_from p (end - (k + 1)) n) other) (omega arith)

pub PutsSection-more : (old middle new : Layers) (rows : List MemberRow) (signatures : List ℕ) (passes : ℕ → Bool)
    (start k end table first fresh : ℕ) → start ≡ k + 1 → start ≤ end → KeepsTables old middle
    → PutsSection old middle rows signatures passes (start, end) table first → PutsMember middle new rows signatures passes first k fresh
    → PutsSection old new rows signatures passes (k, end) table fresh
PutsSection-more old middle new rows signatures passes start k end table first fresh next below keeps section member = record {
  is_table = member.is_table;
  puts = λ signature room rising within.
      member.puts signature (room_kept old middle signature keeps room) (omega (arith, next, below, within))
      ∙ ap (or_else (cond (is_signed rows signatures passes signature k) (Some k) None)) (section.puts signature room below within
      ∙ ap (λ n. or_else (first_from (is_signed rows signatures passes signature) (end - n) n) (value_at old table signature)) next)
      ∙ first_more (is_signed rows signatures passes signature) k end (value_at old table signature) (omega (arith, next, below));
}

pub PutsSection-end : (old new : Layers) (rows : List MemberRow) (signatures : List ℕ) (passes : ℕ → Bool) (start left end table fresh : ℕ)
    → left ≤ start → (start ≤ end → start ≤ left) → PutsSection old new rows signatures passes (left, end) table fresh
    → PutsSection old new rows signatures passes (start, end) table fresh
PutsSection-end old new rows signatures passes start left end table fresh low high section = record {
  is_table = section.is_table;
  puts = λ signature room rising within.
      let same : left ≡ start = omega (arith, low, high rising) in
      section.puts signature room (omega (arith, low, rising)) within
      ∙ ap (λ n. or_else (first_from (is_signed rows signatures passes signature) (end - n) n) (value_at old table signature)) same;
}
