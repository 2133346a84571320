use Rattle.std.proofs.Common.{◌≡◌, List, ℕ, arith, subst, sym, ap, ◌∙◌}
use Rattle.fm_decode.specs.inner.Targets.{AreRising}
use Rattle.fm_read.specs.inner.Places.{find_place}
use Rattle.fm_read.proofs.PlaceLaws.{place_found, place_missed}
use Rattle.fm_read.proofs.places.Places.find_place.Goals as goal

pub overflow_cast-result : goal.overflow_cast-result
overflow_cast-result c =
    let rising = subst AreRising (sym c.as_slice.ensures.value) c.self.invariant in
    let found = place_found c.as_slice.result.now c.args.offset c.in-Ok.place rising c.in-Ok.ensures.position in
    omega (arith, found.0)

pub returns-in-Ok : goal.returns-in-Ok
returns-in-Ok c =
    let rising = subst AreRising (sym c.as_slice.ensures.value) c.self.invariant in
    let found = place_found c.as_slice.result.now c.args.offset c.in-Ok.place rising c.in-Ok.ensures.position in
    let same : c.args.self.now ≡ c.as_slice.result.now = cc in
    ap (λ (offsets : List ℕ). find_place offsets c.args.offset) same ∙ found.1

pub returns-in-Err : goal.returns-in-Err
returns-in-Err c =
    let rising = subst AreRising (sym c.as_slice.ensures.value) c.self.invariant in
    let missed = place_missed c.as_slice.result.now c.args.offset c.in-Err.field-0 rising c.in-Err.ensures.position in
    let same : c.args.self.now ≡ c.as_slice.result.now = cc in
    ap (λ (offsets : List ℕ). find_place offsets c.args.offset) same ∙ missed
