use Rattle.std.proofs.Common.{sym, ◌∙◌, ap, ℕ, List, Some}
use Rattle.fm_link.proofs.MainMethods.{main_missing, main_there}
use Rattle.fm_link_refusals.specs.inner.GivenClasses.{given_in}
use Rattle.fm_world.specs.Causes.{NoMain, Refusal}
use Rattle.fm_link.proofs.main_class.main_of.Goals as goal

pub returns-in-Some : goal.returns-in-Some
returns-in-Some c = record {
  refuses = λ is. (main_there (given_in c.args.files.now) c.args.main.now c.in-Some.found.0 c.in-Some.found.1 (sym (c.in_ok-found.ensures is) ∙ c.in-Some.is)).none;
  main = λ is.
      let found = main_there (given_in c.args.files.now) c.args.main.now c.in-Some.found.0 c.in-Some.found.1 (sym (c.in_ok-found.ensures is) ∙ c.in-Some.is) in
      record { class_is = found.class_is; method_is = found.method_is };
}

pub returns-in_ok-bad_of-in-None-clause-refuses : goal.returns-in_ok-bad_of-in-None-clause-refuses
returns-in_ok-bad_of-in-None-clause-refuses c is =
    let main = c.args.main.now in
    let bad = c.in_ok-bad_of-in-None.field-0 in
    main_missing (given_in c.args.files.now) main (sym (c.in_ok-found.ensures is) ∙ c.in-None.is)
    ∙ sym (ap (λ (n : List ℕ). Some (let r : Refusal = record { cause = NoMain; name = n; user = bad.user } in r)) c.in_ok-bad_of-in-None.ensures.0
    ∙ ap (λ (n : List ℕ). Some (let r : Refusal = record { cause = NoMain; name = main; user = n } in r)) c.in_ok-bad_of-in-None.ensures.1)
