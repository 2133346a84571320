use Rattle.std.proofs.Common.{◌≡◌, ◌<◌, ◌≤◌, ℕ, false, get_or, length}
use Rattle.fm_link_supers.specs.inner.InterfaceRounds.{is_set}
use Rattle.fm_link_supers.proofs.interfaces.first_that_goes_on.Given as goal

abbrev pub invariant-loop-place : goal.invariant-loop-place
invariant-loop-place l =
    (i : ℕ) → l.start ≤ i → i < l.place → i < length l.interfaces → is_set l.goes_on (get_or l.interfaces i 0) ≡ false
