use Rattle.std.proofs.Common.{◌≡◌, ◌∙◌, sym, ap, subst, List, ℕ, IfOk, Contains}
use Rattle.std.specs.List.{filter_map}
use Rattle.fm_rapid.proofs.SelectedLemmas.{chain_inside, starts_given, starts_none}
use Rattle.fm_world.specs.Members.{start_of}
use Rattle.fm_rapid.proofs.selected.starts_of.Goals as goal

pub starts_along-requires : goal.starts_along-requires
starts_along-requires c = λ k found.
    chain_inside c.args.program.now.outline.classes c.args.class.0 k c.requires (subst (λ (xs : List ℕ). Contains xs k) c.display.ensures.value found)

pub returns-in-None : goal.returns-in-None
returns-in-None c = c.new.ensures.items ∙ sym (starts_none c.args.program.now.outline c.args.class.0 c.class.result.now c.class.ensures c.in-None.is)

pub returns-in-Some : goal.returns-in-Some
returns-in-Some c =
    let classes = c.args.program.now.outline.classes in
    let P : List ℕ → Type 0 = λ list. IfOk c.starts_along.result (λ found. found.items ≡ list) in
    subst P
    (ap (filter_map (start_of classes)) c.display.ensures.value
    ∙ sym (starts_given c.args.program.now.outline c.args.class.0 c.class.result.now _ c.class.ensures c.in-Some.is)) c.starts_along.ensures
