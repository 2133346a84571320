-- What the pairs of a plan list is what is inserted.
use Rattle.std.proofs.Common.{◌≡◌, ℕ, zero, suc, ◌+◌, ◌*◌, ◌<◌, ◌≤◌, ◌==◌, Bool, true, false, cond, List, [], ◌∷◌, ◌++◌, length, map, take, drop, refl, sym, ap, subst, ◌∙◌, ⊎_elim, arith, if◌then◌else◌, Contains}
use Rattle.std.specs.List.{flat_map, range_with_len, sum}
use Rattle.std.specs.Prelude.{slice_get}
use Rattle.std.proofs.lemmas.List.{length-map}
use Rattle.std.proofs.lemmas.Bool.{eq-eqb}
use Rattle.std.proofs.lemmas.Bool.Decides.{eqb_tells}
use Rattle.fm_base.proofs.ListFacts.{AllByRecursion-append}
use Rattle.fm_base.specs.declared.limits.TheConstants.{MAX_LOCAL_WORDS}
use Rattle.fm_base.specs.Rows.{has}
use Rattle.fm_chain.proofs.LaidChains.{chained_anchors_are_anchors, chained_is_laid_out}
use Rattle.fm_chain.proofs.Replaced.{sum_cons}
use Rattle.fm_chain.proofs.PlanLaws.{plans_have_the_chains}
use Rattle.fm_chain.specs.Chained.{anchors_from, anchors_of, chained, chained_code, chained_items, count_at, holds_chain, looped_at, released, taken, taken_items}
use Rattle.fm_chain.specs.Planned.{added_words, has_chain}
use Rattle.fm_chain.specs.declared.calls.Calls.{Calls}
use Rattle.fm_chain.specs.declared.plans.ChainPlan.{ChainPlan}
use Rattle.fm_code.proofs.EdgesLemmas.{Contains-first, Contains-later}
use Rattle.fm_code.specs.declared.code_array.Code.{Code}
use Rattle.fm_code.specs.declared.code_array.Item.{Item}
use Rattle.fm_layout.specs.Conditions.{AreNewItems}
use Rattle.fm_layout.specs.Laid.{laid_of}
use Rattle.fm_layout.specs.Tables.{AreAnchors}
use Rattle.fm_place.proofs.WovenLemmas.{after-inside}
use Rattle.fm_place.specs.Insertions.{after_at, before_at, Holder, Insertions}
use Rattle.fm_place.specs.PlansBy.{paired}
use Rattle.fm_place.specs.Woven.{kept, local_of, null_stored_items}
use Rattle.fm_place_weave.specs.ByPlan.{anchors_after, anchors_by, code_by, laid_out_code, count_by, count_here, here, items_by, later, leading, nulls_by, released_by, step_by, taken_by, taken_count, woven_after}
use Rattle.fm_place_weave.specs.Conditions.{AreFlagged, AreLocals, IsFlagged, IsLocal}
use Rattle.fm_place_weave.specs.Laws.{IsWholePlan, PlansAreInsertions, PlansMayBeWoven}

-- ---- lists of pairs

-- what is listed for this many items, from one on
abbrev pub listed : (ℕ → List ℕ) → ℕ → ℕ → List (ℕ × ℕ)
listed f j n = flat_map (paired f) (range_with_len j n)

same_number : (j : ℕ) → (j == j) ≡ true
same_number j = eq-eqb j j refl

apart_numbers : (k j : ℕ) → j < k → (k == j) ≡ false
apart_numbers k j greater = ⊎_elim (λ same. absurd (omega (arith, same.1))) (λ differs. differs.0) (eqb_tells k j)

-- those of the item come first
leading-own : (j : ℕ) (hs : List ℕ) (rest : List (ℕ × ℕ)) → leading j rest ≡ 0 → leading j (map (λ h. (j, h)) hs ++ rest) ≡ length hs
leading-own j [] rest none = none
leading-own j (h ∷ hs) rest none =
    ap (λ b. if b then leading j (map (λ h. (j, h)) hs ++ rest) + 1 else 0) (same_number j)
    ∙ ap (λ n. n + 1) (leading-own j hs rest none) ∙ (omega arith)

-- those of a greater item don't count
leading-other : (j k : ℕ) (hs : List ℕ) (rest : List (ℕ × ℕ)) → j < k → leading j rest ≡ 0 → leading j (map (λ h. (k, h)) hs ++ rest) ≡ 0
leading-other j k [] rest greater none = none
leading-other j k (h ∷ hs) rest greater none =
    ap (λ b. if b then leading j (map (λ h. (k, h)) hs ++ rest) + 1 else 0) (apart_numbers k j greater)

leading-later : (f : ℕ → List ℕ) (j k n : ℕ) → j < k → leading j (listed f k n) ≡ 0
leading-later f j k zero greater = refl
leading-later f j k (suc n) greater = leading-other j k (f k) (listed f (k + 1) n) greater (leading-later f j (k + 1) n (omega arith))

leading-listed : (f : ℕ → List ℕ) (j n : ℕ) → leading j (listed f j (suc n)) ≡ length (f j)
leading-listed f j n = leading-own j (f j) (listed f (j + 1) n) (leading-later f j (j + 1) n (omega arith))

take-front : (j : ℕ) (hs : List ℕ) (rest : List (ℕ × ℕ)) → take (length hs) (map (λ h. (j, h)) hs ++ rest) ≡ map (λ h. (j, h)) hs
take-front j [] rest = refl
take-front j (h ∷ hs) rest = ap (λ ps. (j, h) ∷ ps) (take-front j hs rest)

drop-front : (j : ℕ) (hs : List ℕ) (rest : List (ℕ × ℕ)) → drop (length hs) (map (λ h. (j, h)) hs ++ rest) ≡ rest
drop-front j [] rest = refl
drop-front j (h ∷ hs) rest = drop-front j hs rest

pub here-listed : (f : ℕ → List ℕ) (j n : ℕ) → here j (listed f j (suc n)) ≡ paired f j
here-listed f j n = ap (λ m. take m (listed f j (suc n))) (leading-listed f j n) ∙ take-front j (f j) (listed f (j + 1) n)

pub later-listed : (f : ℕ → List ℕ) (j n : ℕ) → later j (listed f j (suc n)) ≡ listed f (j + 1) n
later-listed f j n = ap (λ m. drop m (listed f j (suc n))) (leading-listed f j n) ∙ drop-front j (f j) (listed f (j + 1) n)

-- ---- anchors

-- the flags are those of the holders
abbrev pub AreFlagsOf : Insertions → List Bool → Type 0
AreFlagsOf ins looped = (h : ℕ) → has looped h ≡ looped_at ins h

flag_there : (holders : List Holder) (h : ℕ) → has (map (λ (g : Holder). g.looped) holders) h ≡ holds_chain (slice_get holders h)
flag_there [] zero = refl
flag_there [] (suc h) = refl
flag_there (g ∷ holders) zero = refl
flag_there (g ∷ holders) (suc h) = flag_there holders h

flags-are : (ins : Insertions) (looped : List Bool) → looped ≡ map (λ (g : Holder). g.looped) ins.holders → AreFlagsOf ins looped
flags-are ins looped is h = ap (λ (row : List Bool). has row h) is ∙ flag_there ins.holders h

count-same : (ins : Insertions) (looped : List Bool) → AreFlagsOf ins looped → (j : ℕ) (hs : List ℕ)
    → taken_count looped (map (λ h. (j, h)) hs) ≡ sum (map (λ h. taken_items (looped_at ins h)) hs)
count-same ins looped flags j [] = refl
count-same ins looped flags j (h ∷ hs) =
    sum_cons (λ (p : ℕ × ℕ). taken_items (has looped p.1)) (j, h) (map (λ h. (j, h)) hs)
    ∙ (λ k. taken_items (flags h k) + count-same ins looped flags j hs k)
    ∙ sym (sum_cons (λ h. taken_items (looped_at ins h)) h hs)

here-count : (ins : Insertions) (looped : List Bool) → AreFlagsOf ins looped → (j n : ℕ)
    → count_here looped j (listed (before_at ins) j (suc n)) (listed (after_at ins) j (suc n)) ≡ count_at ins j
here-count ins looped flags j n =
    (λ k. count_by (leading-listed (before_at ins) j n k) (taken_count looped (here-listed (after_at ins) j n k)))
    ∙ ap (λ taken. count_by (length (before_at ins j)) taken) (count-same ins looped flags j (after_at ins j))

anchors-same : (ins : Insertions) (looped : List Bool) → AreFlagsOf ins looped → (number j : ℕ) (items : List Item)
    → anchors_after looped number j (listed (before_at ins) j (length items)) (listed (after_at ins) j (length items)) items ≡ anchors_from ins number j items
anchors-same ins looped flags number j [] = refl
anchors-same ins looped flags number j (item ∷ items) =
    (λ k. number ∷ anchors_after looped (number + here-count ins looped flags j (length items) k) (j + 1)
    (later-listed (before_at ins) j (length items) k) (later-listed (after_at ins) j (length items) k) items)
    ∙ ap (λ l. number ∷ l) (anchors-same ins looped flags (number + count_at ins j) (j + 1) items)

-- ---- new items

released-same : (calls : Calls) (code : Code) (ins : Insertions) (looped : List Bool) → AreFlagsOf ins looped → (j : ℕ) (hs : List ℕ)
    → released_by calls looped code.max_locals (map (λ h. (j, h)) hs) ≡ flat_map (λ h. released calls (looped_at ins h) (local_of code h)) hs
released-same calls code ins looped flags j [] = refl
released-same calls code ins looped flags j (h ∷ hs) =
    λ k. released calls (flags h k) (local_of code h) ++ released-same calls code ins looped flags j hs k

taken-same : (calls : Calls) (code : Code) (ins : Insertions) (looped : List Bool) → AreFlagsOf ins looped → (j : ℕ) (hs : List ℕ)
    → taken_by calls looped code.max_locals (map (λ h. (j, h)) hs) ≡ flat_map (λ h. taken calls (looped_at ins h) (local_of code h)) hs
taken-same calls code ins looped flags j [] = refl
taken-same calls code ins looped flags j (h ∷ hs) =
    λ k. taken calls (flags h k) (local_of code h) ++ taken-same calls code ins looped flags j hs k

items-same : (calls : Calls) (code : Code) (ins : Insertions) (looped : List Bool) → AreFlagsOf ins looped → (anchors : List ℕ) (j : ℕ) (items : List Item)
    → woven_after calls looped code.max_locals anchors j (listed (before_at ins) j (length items)) (listed (after_at ins) j (length items)) items
    ≡ chained_items calls code ins anchors j items
items-same calls code ins looped flags anchors j [] = refl
items-same calls code ins looped flags anchors j (item ∷ items) =
    (λ k. step_by calls looped code.max_locals anchors j
    (here-listed (before_at ins) j (length items) k) (here-listed (after_at ins) j (length items) k) item.insn
    ++ woven_after calls looped code.max_locals anchors (j + 1)
    (later-listed (before_at ins) j (length items) k) (later-listed (after_at ins) j (length items) k) items)
    ∙ (λ k. (released-same calls code ins looped flags j (before_at ins j) k ++ kept anchors j item.insn ∷ taken-same calls code ins looped flags j (after_at ins j) k)
    ++ items-same calls code ins looped flags anchors (j + 1) items k)

-- ---- a method

pub before-is : (code : Code) (ins : Insertions) (p : ChainPlan) → IsWholePlan code ins p → p.plan.before.items ≡ listed (before_at ins) 0 (length code.items)
before-is code ins p is = is.plan_is.plan_is.before ∙ ap (λ n. listed (before_at ins) 0 n) is.whole

pub after-is : (code : Code) (ins : Insertions) (p : ChainPlan) → IsWholePlan code ins p → p.plan.after.items ≡ listed (after_at ins) 0 (length code.items)
after-is code ins p is = is.plan_is.plan_is.after ∙ ap (λ n. listed (after_at ins) 0 n) is.whole

pub anchors-is : (code : Code) (ins : Insertions) (p : ChainPlan) → IsWholePlan code ins p → anchors_by code p ≡ anchors_of ins code.items
anchors-is code ins p is =
    (λ k. anchors_after p.looped (null_stored_items * is.plan_is.plan_is.holders k) 0 (before-is code ins p is k) (after-is code ins p is k) code.items)
    ∙ anchors-same ins p.looped (flags-are ins p.looped is.plan_is.flags) (null_stored_items * length ins.holders) 0 code.items

pub items-is : (calls : Calls) (code : Code) (ins : Insertions) (p : ChainPlan) → IsWholePlan code ins p → items_by calls code p ≡ chained calls code ins
items-is calls code ins p is =
    (λ k. nulls_by code.max_locals (is.plan_is.plan_is.holders k)
    ++ woven_after calls p.looped code.max_locals (anchors-is code ins p is k) 0 (before-is code ins p is k) (after-is code ins p is k) code.items)
    ∙ ap (λ l. nulls_by code.max_locals (length ins.holders) ++ l)
    (items-same calls code ins p.looped (flags-are ins p.looped is.plan_is.flags) (anchors_of ins code.items) 0 code.items)

pub code-is : (calls : Calls) (code : Code) (ins : Insertions) (p : ChainPlan) → IsWholePlan code ins p → code_by calls code p ≡ chained_code calls code ins
code-is calls code ins p is =
    λ k. laid_out_code code (cond (plans_have_the_chains ins p is.plan_is k) 2 1) (is.plan_is.plan_is.holders k) (items-is calls code ins p is k) (anchors-is code ins p is k)

-- ---- when it may be woven

all-paired : (first H j : ℕ) (hs : List ℕ) → first + H ≤ MAX_LOCAL_WORDS → ((h : ℕ) → Contains hs h → h < H) → AreLocals first (map (λ h. (j, h)) hs)
all-paired first H j [] room each = tt
all-paired first H j (h ∷ hs) room each =
    (let inside = each h (Contains-first h hs h refl) in omega (arith, room, inside), all-paired first H j hs room (λ k found. each k (Contains-later h hs k found)))

all-listed : (first H : ℕ) (f : ℕ → List ℕ) (j n : ℕ) → first + H ≤ MAX_LOCAL_WORDS → ((i h : ℕ) → Contains (f i) h → h < H) → AreLocals first (listed f j n)
all-listed first H f j zero room each = tt
all-listed first H f j (suc n) room each =
    AllByRecursion-append (IsLocal first) (paired f j) (listed f (j + 1) n) (all-paired first H j (f j) room (each j)) (all-listed first H f (j + 1) n room each)

all-flagged : (looped : List Bool) (H j : ℕ) (hs : List ℕ) → H ≤ length looped → ((h : ℕ) → Contains hs h → h < H) → AreFlagged looped (map (λ h. (j, h)) hs)
all-flagged looped H j [] room each = tt
all-flagged looped H j (h ∷ hs) room each =
    (let inside = each h (Contains-first h hs h refl) in omega (arith, room, inside), all-flagged looped H j hs room (λ k found. each k (Contains-later h hs k found)))

flags-listed : (looped : List Bool) (H : ℕ) (f : ℕ → List ℕ) (j n : ℕ) → H ≤ length looped → ((i h : ℕ) → Contains (f i) h → h < H)
    → AreFlagged looped (listed f j n)
flags-listed looped H f j zero room each = tt
flags-listed looped H f j (suc n) room each =
    AllByRecursion-append (IsFlagged looped) (paired f j) (listed f (j + 1) n) (all-flagged looped H j (f j) room (each j)) (flags-listed looped H f (j + 1) n room each)

-- what is inserted takes two words of stack at most
pub words_few : (p : ChainPlan) → added_words p ≤ 2
words_few p = by_chain (has_chain p) where
  by_chain : (b : Bool) → cond b 2 1 ≤ 2
  by_chain true = omega arith
  by_chain false = omega arith

pub may-be-woven : PlansMayBeWoven
may-be-woven calls code ins p is old rules stack suits few =
    let size : length p.looped ≡ length ins.holders =
    ap (λ (row : List Bool). length row) is.plan_is.flags ∙ length-map ins.holders (λ (h : Holder). h.looped) in
    let room : length ins.holders ≤ length p.looped = omega (arith, size) in
    record {
      old_items = old;
      rules = rules;
      room = record {
        holders = let same = is.plan_is.plan_is.holders in let locals = suits.room in omega (arith, same, locals);
        flags = let same = is.plan_is.plan_is.holders in omega (arith, same, size);
        before = subst (λ ps. AreLocals code.max_locals ps) (sym (before-is code ins p is))
            (all-listed code.max_locals (length ins.holders) (before_at ins) 0 (length code.items) suits.room suits.before);
        after = subst (λ ps. AreLocals code.max_locals ps) (sym (after-is code ins p is))
            (all-listed code.max_locals (length ins.holders) (after_at ins) 0 (length code.items) suits.room (after-inside ins));
        freed = subst (λ ps. AreFlagged p.looped ps) (sym (before-is code ins p is))
            (flags-listed p.looped (length ins.holders) (before_at ins) 0 (length code.items) room suits.before);
        taken = subst (λ ps. AreFlagged p.looped ps) (sym (after-is code ins p is))
            (flags-listed p.looped (length ins.holders) (after_at ins) 0 (length code.items) room (after-inside ins));
      };
      stack = stack;
      new_items = subst (λ items. AreNewItems code.items items) (sym (items-is calls code ins p is)) (chained_is_laid_out calls code ins old suits few);
      anchors =
          subst (λ items. AreAnchors code (laid_of code.items items) (anchors_by code p)) (sym (items-is calls code ins p is))
          (subst (λ anchors. AreAnchors code (laid_of code.items (chained calls code ins)) anchors) (sym (anchors-is code ins p is))
          (chained_anchors_are_anchors calls code ins));
    }

pub woven-alike : PlansAreInsertions
woven-alike calls code ins p is = record {
  anchors = anchors-is code ins p is;
  items = items-is calls code ins p is;
  code_is = code-is calls code ins p is;
}
