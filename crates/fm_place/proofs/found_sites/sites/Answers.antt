use Rattle.std.proofs.Common.{◌≡◌, ◌∙◌, IfOk, ap, sym, subst}
use Rattle.fm_base.proofs.OptionFacts.{same_value, IsSomeAnd-at_some}
use Rattle.fm_code.specs.declared.code_array.Code.{Code}
use Rattle.fm_conn.proofs.CodedLemmas.{coded_at}
use Rattle.fm_conn.specs.Shapes.{method_with}
use Rattle.fm_types.specs.Typed.{IsTypingOf}
use Rattle.fm_types.specs.Typings.{states_of}
use Rattle.fm_world.specs.Programs.{code_at}
use Rattle.fm_world.specs.declared.records.MethodInfo.{MethodInfo}
use Rattle.fm_place.specs.FactsBy.{facts_by}
use Rattle.fm_place.specs.Sites.{sites_of}
use Rattle.fm_place.proofs.found_sites.sites.Goals as goal

pub sites_of-requires : goal.sites_of-requires
sites_of-requires c =
    let found = coded_at c.args.program.now c.args.method.0 c.in-Coded.code (ap (λ (m : MethodInfo). m.body) (sym c.method.ensures) ∙ c.in-Coded.is) in
    record {
      number = c.requires.method;
      uses = c.requires.uses;
      typed = IsSomeAnd-at_some (code_at c.args.program.now c.args.method.0)
          (λ code. IsTypingOf c.args.program.now c.args.method.0 code (states_of c.args.typing.now)) c.in-Coded.code found c.requires.typing;
      summaries = c.requires.summaries;
      classes = c.requires.classes c.in-Coded.code found;
    }

pub returns : goal.returns
returns c =
    λ code at.
    let found = coded_at c.args.program.now c.args.method.0 c.in-Coded.code (ap (λ (m : MethodInfo). m.body) (sym c.method.ensures) ∙ c.in-Coded.is) in
    let same = same_value (code_at c.args.program.now c.args.method.0) c.in-Coded.code code found at in
    let P : Code → Type 0 = λ v. IfOk c.sites_of.result
    (λ found. found.items ≡ sites_of (facts_by c.args.classes.now c.args.summaries.now)
    (method_with c.args.program.now c.args.method.0 v (states_of c.args.typing.now))) in
    subst P same c.sites_of.ensures
