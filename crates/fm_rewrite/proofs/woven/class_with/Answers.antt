use Rattle.std.proofs.Common.{◌≡◌, ◌∙◌, sym, ap, Some, arith, rules}
use Rattle.std.specs.Option.{option_map}
use Rattle.fm_rewrite.proofs.WovenLemmas.{later_by, long_from_place, place_within}
use Rattle.fm_rewrite.specs.inner.ByPlans.{pool_by}
use Rattle.fm_place_weave.specs.ClassByPlan.{first_long}
use Rattle.fm_rewrite.proofs.woven.class_with.Goals as goal

pub overflow_cast-result : goal.overflow_cast-result
overflow_cast-result c =
    let long : first_long c.in-Some.pool.calls 0 c.args.planned.now c.args.class.now.methods ≡ Some (c.in-Err-TooLong.place, c.in-Err-TooLong.length) =
    search rules in
    let within = place_within c.in-Some.pool.calls 0 c.args.planned.now c.args.class.now.methods (c.in-Err-TooLong.place, c.in-Err-TooLong.length) long in
    omega (arith, within, c.requires.numbers)

pub overflow_add-result : goal.overflow_add-result
overflow_add-result c =
    let long : first_long c.in-Some.pool.calls 0 c.args.planned.now c.args.class.now.methods ≡ Some (c.in-Err-TooLong.place, c.in-Err-TooLong.length) =
    search rules in
    let within = place_within c.in-Some.pool.calls 0 c.args.planned.now c.args.class.now.methods (c.in-Err-TooLong.place, c.in-Err-TooLong.length) long in
    omega (arith, within, c.requires.numbers)

pub returns-in-Ok-clause-fits : goal.returns-in-Ok-clause-fits
returns-in-Ok-clause-fits c =
    let pool : Some c.in-Some.pool ≡ pool_by c.args.planned.now c.args.class.now = sym c.in-Some.is ∙ c.requires.pool in
    long_from_place c.args.class.now c.args.planned.now c.in-Some.pool pool c.args.first
    ∙ ap (option_map (later_by c.args.first)) c.in-Ok.ensures.fits

pub returns-in-Err-TooLong-clause-refused : goal.returns-in-Err-TooLong-clause-refused
returns-in-Err-TooLong-clause-refused c =
    let long : first_long c.in-Some.pool.calls 0 c.args.planned.now c.args.class.now.methods ≡ Some (c.in-Err-TooLong.place, c.in-Err-TooLong.length) =
    search rules in
    let pool : Some c.in-Some.pool ≡ pool_by c.args.planned.now c.args.class.now = sym c.in-Some.is ∙ c.requires.pool in
    long_from_place c.args.class.now c.args.planned.now c.in-Some.pool pool c.args.first ∙ ap (option_map (later_by c.args.first)) long
