-- The rows that give no reference owe nothing; and what a row throws, or where it faults, is alike for all.
use Rattle.std.proofs.Common.{◌≡◌, ℕ, ℤ, zero, suc, ◌<◌, ◌≤◌, Bool, true, false, List, [], ◌∷◌, length, Some, codes, refl, sym, subst, inl, slice_get}
use Rattle.std.specs.List.{AllByRecursion}
use Rattle.fm_base.specs.declared.kinds.Kind.{Kind}
use Rattle.fm_base.specs.declared.kinds.Kind.TheVariants as kind
use Rattle.fm_code.specs.Edges.{falls_through}
use Rattle.fm_code.specs.Live.{stores_over}
use Rattle.fm_code.specs.SpellsCode.{targets_of}
use Rattle.fm_code.specs.declared.instructions.Insn.{Insn}
use Rattle.fm_conn.specs.Facts.{AreFacts, Facts}
use Rattle.fm_conn.specs.Nodes.{Global, Local}
use Rattle.fm_conn.specs.Rows as pairs
use Rattle.fm_world.specs.Programs.{Program}
use Rattle.fm_frames.specs.Effects.{Effect, given_number, Next, Falls, Jumps, Faults, going, Source, Plain, OfOperand, OfLocal, LocalPlus, OfPlace, OfStatic, OfMade, OfLiteral, SameOperands, stuck, words, faulty}
use Rattle.fm_frames.specs.JumpRows.{jumps_if}
use Rattle.fm_frames.specs.Operands.{on_int, on_long, thrown, thrown_null}
use Rattle.fm_frames.specs.Sights.{Sight}
use Rattle.fm_frames.specs.States.{Frame}
use Rattle.fm_same.specs.Evenness.{ActsEvenly, ComesFrom, EndsEvenly, IsPlainKind, LeadsRight, Obeys, Point, WritesFrom}
use Rattle.fm_law_sound.specs.Placing.{IsPlain}
use Rattle.fm_law_sound.proofs.Cases.{by_int, by_long}
use Rattle.fm_same.proofs.ItemFacts.{AtInsn, goes_obey, point, used}

-- a value that leads to nothing that has a region
abbrev pub IsPlainSource : Source → Type 0
IsPlainSource (Plain v) = IsPlain v
IsPlainSource (OfOperand n) = ⊥
IsPlainSource (OfLocal k) = ⊥
IsPlainSource (LocalPlus k by) = Unit {0}
IsPlainSource (OfPlace n place k) = IsPlainKind k
IsPlainSource (OfStatic slot) = ⊥
IsPlainSource (OfMade n) = ⊥
IsPlainSource (OfLiteral text) = Unit {0}
IsPlainSource SameOperands = Unit {0}

plain_place : (x : Point) (home class n place : ℕ) (k : Kind) → IsPlainKind k → ComesFrom x home class (OfPlace n place k)
plain_place x home class n place (kind.Ref t) h = absurd h
plain_place x home class n place k h = tt

-- the words of a number are plain
pub plain_number : (is_long : Bool) (n : ℤ) → AllByRecursion IsPlainSource (given_number is_long n)
plain_number true n = (tt, (tt, tt))
plain_number false n = (tt, tt)

pub plain_from : (x : Point) (home class : ℕ) (s : Source) → IsPlainSource s → ComesFrom x home class s
plain_from x home class (Plain v) h = h
plain_from x home class (OfOperand n) h = absurd h
plain_from x home class (OfLocal k) h = absurd h
plain_from x home class (LocalPlus k by) h = tt
plain_from x home class (OfPlace n place k) h = plain_place x home class n place k h
plain_from x home class (OfStatic slot) h = absurd h
plain_from x home class (OfMade n) h = absurd h
plain_from x home class (OfLiteral text) h = tt
plain_from x home class SameOperands h = tt

pub plain_at : (gives : List Source) (q : ℕ) (s : Source) → AllByRecursion IsPlainSource gives → slice_get gives q ≡ Some s → IsPlainSource s
plain_at [] q s h at = absurd (cc)
plain_at (g ∷ gives) zero s h at = let same : g ≡ s = cc in subst IsPlainSource same h.0
plain_at (g ∷ gives) (suc q) s h at = plain_at gives q s h.1 at

module _ (p : Program) (facts : Facts) (exact : AreFacts p facts) (f : Frame) (i : Insn) (h : AtInsn p facts f i) where
  abbrev pub Owes : Effect → Type 0
  Owes e = Obeys p.outline (point p facts exact f i h) i e

  pub fault_obeys : (takes : ℕ) (s : Source) → Owes (going takes (Faults s))
  fault_obeys takes s = record { home = 0; acts = tt; leads = tt; goes = λ next going_on edge. absurd going_on; ends = tt }

  pub stuck_obeys : Owes stuck
  stuck_obeys = fault_obeys 0 _

  pub faulty_obeys : (n : ℕ) → Owes (faulty n)
  faulty_obeys n = fault_obeys 0 (OfOperand n)

  -- an exception is made and thrown
  pub thrown_obeys : ((k : ℕ) → stores_over k i ≡ false) → (name : List ℕ) → Owes (thrown p.outline name)
  thrown_obeys keeps name = record {
    home = facts.class f.method Global;
    acts = (inl refl, tt);
    leads = tt;
    goes = λ next going_on edge. absurd going_on;
    ends = (tt, refl, keeps);
  }

  pub null_obeys : ((k : ℕ) → stores_over k i ≡ false) → Owes (thrown_null p.outline)
  null_obeys keeps = thrown_obeys keeps (codes "java/lang/NullPointerException")

  -- no reference is given and nothing is done
  pub plain_obeys : ((k : ℕ) → stores_over k i ≡ false) → (e : Effect) → e.actions ≡ [] → e.writes ≡ [] → AllByRecursion IsPlainSource e.gives
      → LeadsRight i e.next → EndsEvenly p.outline (point p facts exact f i h) 0 i e.next
      → pairs.words_taken p.outline (used p facts exact f i h) i ≤ e.takes → Owes e
  plain_obeys keeps e no_acts no_writes plain leads ends taken =
      goes_obey p facts exact f i h e 0 (subst (λ acts. AllByRecursion (ActsEvenly p.outline (point p facts exact f i h) 0) acts) (sym no_acts) tt) leads ends
      (λ next edge q s at node. plain_from (point p facts exact f i h) 0 _ s (plain_at e.gives q s plain at))
      (subst (λ writes. AllByRecursion
      (λ (w : ℕ × Source). WritesFrom (point p facts exact f i h) (facts.class f.method (Local w.0)) w.1) writes) (sym no_writes) tt) (λ k unwritten. keeps k) taken

  pub words_obey : ((k : ℕ) → stores_over k i ≡ false) → falls_through i ≡ true → (takes : ℕ) (gives : List Source) → AllByRecursion IsPlainSource gives
      → pairs.words_taken p.outline (used p facts exact f i h) i ≤ takes → Owes (words takes gives)
  words_obey keeps falls takes gives plain taken = plain_obeys keeps (words takes gives) refl refl plain falls tt taken

  -- ---- operands

  pub int_obeys : (s : List Sight) (n : ℕ) (k : ℤ → Effect) → ((a : ℤ) → Owes (k a)) → Owes (on_int s n k)
  int_obeys s n k some = by_int Owes s n k stuck_obeys some

  pub long_obeys : (s : List Sight) (n : ℕ) (k : ℤ → Effect) → ((a : ℤ) → Owes (k a)) → Owes (on_long s n k)
  long_obeys s n k some = by_long Owes s n k stuck_obeys some

  -- ---- jumps

  pub going_obeys : ((k : ℕ) → stores_over k i ≡ false) → (takes : ℕ) (nx : Next) → LeadsRight i nx → EndsEvenly p.outline (point p facts exact f i h) 0 i nx
      → pairs.words_taken p.outline (used p facts exact f i h) i ≤ takes → Owes (going takes nx)
  going_obeys keeps takes nx leads ends taken = plain_obeys keeps (going takes nx) refl refl tt leads ends taken

  -- to the one target of the instruction, or on
  pub jump_obeys : ((k : ℕ) → stores_over k i ≡ false) → 0 < length (targets_of i) → falls_through i ≡ true → (takes : ℕ)
      → pairs.words_taken p.outline (used p facts exact f i h) i ≤ takes → (b : Bool) → Owes (going takes (jumps_if b))
  jump_obeys keeps some falls takes taken true = going_obeys keeps takes (Jumps 0) some tt taken
  jump_obeys keeps some falls takes taken false = going_obeys keeps takes Falls falls tt taken
