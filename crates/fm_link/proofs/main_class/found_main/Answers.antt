use Rattle.std.proofs.Common.{sym, ◌∙◌, ap, option_map}
use Rattle.fm_link.proofs.MainMethods.{both_found, no_class_found, number_is, pair_with}
use Rattle.fm_link_refusals.specs.inner.GivenClasses.{given_in}
use Rattle.fm_world.specs.Programs.{classes_of}
use Rattle.fm_link.proofs.main_class.found_main.Goals as goal

pub returns-in-Some-main_method : goal.returns-in-Some-main_method
returns-in-Some-main_method c is =
    let main = c.args.main.now in
    let files = c.args.files.now in
    sym (ap (option_map (pair_with c.in-Some.class)) c.in-Some-main_method.is)
    ∙ both_found (classes_of (given_in files)) c.args.linking is main c.in-Some.class c.main_method.result
    (sym (number_is main files) ∙ sym c.in_ok-class.ensures ∙ c.in-Some.is) c.main_method.ensures

pub returns-in-None-main_method : goal.returns-in-None-main_method
returns-in-None-main_method c is =
    let main = c.args.main.now in
    let files = c.args.files.now in
    sym (ap (option_map (pair_with c.in-Some.class)) c.in-None-main_method.is)
    ∙ both_found (classes_of (given_in files)) c.args.linking is main c.in-Some.class c.main_method.result
    (sym (number_is main files) ∙ sym c.in_ok-class.ensures ∙ c.in-Some.is) c.main_method.ensures

pub returns-in-None : goal.returns-in-None
returns-in-None c is =
    let main = c.args.main.now in
    let files = c.args.files.now in
    no_class_found (classes_of (given_in files)) main (sym (number_is main files) ∙ sym c.in_ok-class.ensures ∙ c.in-None.is)
