use Rattle.std.proofs.Common.{◌≡◌, sym, ◌∙◌, ap, ℕ, ◌-◌, ◌<◌, ◌≤◌, ◌&&◌, Bool, false, List, length, get_or, nat_eq, Some, slice_get}
use Rattle.std.proofs.lemmas.Bool.{le-ltb, lt-ltb, ltb-true}
use Rattle.std.proofs.lemmas.Option.{slice_get-get_or, slice_get_past}
use Rattle.fm_link_supers.proofs.SuperclassLemmas.{superclass-is}
use Rattle.fm_link_supers.specs.inner.Hierarchy.{is_this, stands_above}
use Rattle.fm_link_supers.proofs.hierarchy.Hierarchy.is_superclass.Goals as goal

-- what holds of the chains that were read holds of those of the tables
of_tables : (low up lower upper : List ℕ) (other : ℕ) (b : Bool) → low ≡ lower → up ≡ upper → b ≡ stands_above low (length up) other
    → b ≡ stands_above lower (length upper) other
of_tables low up lower upper other b low_is up_is told =
    told ∙ ap (λ xs. stands_above xs (length up) other) low_is ∙ ap (λ xs. stands_above lower (length xs) other) up_is

-- the first chain is no longer
as_short : (low up : List ℕ) (other : ℕ) → length low ≤ length up → false ≡ stands_above low (length up) other
as_short low up other short =
    sym (ap (λ b. b && is_this other (slice_get low (length low - length up))) (le-ltb (length up) (length low) short))

-- what is there
is_there : (low up : List ℕ) (other x : ℕ) → length up < length low → length low - length up < length low
    → x ≡ get_or low (length low - length up) x → nat_eq x other ≡ stands_above low (length up) other
is_there low up other x long within there =
    sym (ap (λ b. b && is_this other (slice_get low (length low - length up))) (lt-ltb (length up) (length low) long)
    ∙ ap (is_this other) (slice_get-get_or low (length low - length up) x within ∙ ap Some (sym there)))

-- nothing is there
is_past : (low up : List ℕ) (other : ℕ) → length up < length low → length low ≤ length low - length up
    → false ≡ stands_above low (length up) other
is_past low up other long past =
    sym (ap (λ b. b && is_this other (slice_get low (length low - length up))) (lt-ltb (length up) (length low) long)
    ∙ ap (is_this other) (slice_get_past low (length low - length up) past))

pub returns-then-lower-upper-clause-is : goal.returns-then-lower-upper-clause-is
returns-then-lower-upper-clause-is c = λ classes is within.
    of_tables c.chain-lower.result.now c.chain-upper.result.now _ _ c.args.other false c.chain-lower.ensures c.chain-upper.ensures
    (as_short c.chain-lower.result.now c.chain-upper.result.now c.args.other c.if-lower-upper.true)
    ∙ superclass-is classes c.args.self.now is c.args.class c.args.other within

pub returns-in-Some-clause-tables : goal.returns-in-Some-clause-tables
returns-in-Some-clause-tables c =
    let low = c.chain-lower.result.now in
    let up = c.chain-upper.result.now in
    of_tables low up _ _ c.args.other (nat_eq c.in-Some.above.now c.args.other) c.chain-lower.ensures c.chain-upper.ensures
    (is_there low up c.args.other c.in-Some.above.now c.if-lower-upper.false
    (ltb-true (length low - length up) (length low) (sym c.in-Some.ensures.lookup.0)) c.in-Some.ensures.lookup.1)

pub returns-in-Some-clause-is : goal.returns-in-Some-clause-is
returns-in-Some-clause-is c = λ classes is within.
    returns-in-Some-clause-tables c ∙ superclass-is classes c.args.self.now is c.args.class c.args.other within

pub returns-in-None-clause-tables : goal.returns-in-None-clause-tables
returns-in-None-clause-tables c =
    let low = c.chain-lower.result.now in
    let up = c.chain-upper.result.now in
    of_tables low up _ _ c.args.other false c.chain-lower.ensures c.chain-upper.ensures
    (is_past low up c.args.other c.if-lower-upper.false c.in-None.ensures.lookup.3)

pub returns-in-None-clause-is : goal.returns-in-None-clause-is
returns-in-None-clause-is c = λ classes is within.
    returns-in-None-clause-tables c ∙ superclass-is classes c.args.self.now is c.args.class c.args.other within
