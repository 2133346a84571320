-- A program that may be analysed can be followed.
use Rattle.std.proofs.Common.{◌≡◌, Some, ap}
use Rattle.std.proofs.lemmas.Option.{same_Some}
use Rattle.fm_check.specs.Checking.{coded}
use Rattle.fm_code.specs.declared.code_array.Code.{Code}
use Rattle.fm_rapid.specs.Opening.{HasOpening}
use Rattle.fm_rapid.specs.inner.Followed.{CanBeFollowed}
use Rattle.fm_summ_shapes.proofs.ShapesLemmas.{code_facts, never_falls}
use Rattle.fm_summ_shapes.specs.Analysed.{AreAnalysable}
use Rattle.fm_world.specs.Programs.{method_info, Program}
use Rattle.fm_world.specs.declared.records.Body.{Body}
use Rattle.fm_world.specs.declared.records.Body.TheVariants as body

-- a body that has this code is it
body_is : (b : Body) (code : Code) → coded b ≡ Some code → b ≡ body.Coded code
body_is (body.Coded own) code is = ap body.Coded (same_Some own code is)
body_is b code is = absurd (cc)

pub can_be_followed : (p : Program) → AreAnalysable p → HasOpening p.outline → CanBeFollowed p
can_be_followed p may opening = record {
  opening = opening;
  uses = may.uses;
  codes = λ method code is.
      let facts = code_facts p method code may is in
      record {
        inside = facts.0.inside;
        body_is = body_is (method_info p method).body code facts.0.body;
        spelled = facts.0.spelled;
        supported = may.supported method code is;
        stays = never_falls p method code may is;
      };
}
