use Rattle.std.proofs.Common.{sym, subst, rules}
use Rattle.std.specs.List.{AllByRecursion}
use Rattle.std.proofs.lemmas.Bool.{false≢true}
use Rattle.fm_code.specs.Profile.{IsFirstUnsupported}
use Rattle.fm_code.specs.declared.profile.Place.TheVariants as place
use Rattle.fm_code.specs.declared.profile.Unsupported.{Unsupported}
use Rattle.fm_code.proofs.ProfileLaws.{unsupported}
use Rattle.fm_read_limits.specs.inner.Declared.{DeclaresMethod}
use Rattle.fm_read_limits.proofs.SpelledLemmas.{methods_declared}
use Rattle.fm_read_limits.proofs.support.supported.Goals as goal

pub first_method-requires-clause-declared : goal.first_method-requires-clause-declared
first_method-requires-clause-declared c =
    let class = c.args.class.now in
    subst (AllByRecursion (DeclaresMethod class.pool.entries)) (sym c.as_slice-methods.ensures) (methods_declared c.requires.0 class c.requires.1)

pub returns-in-Some-first_method-clause-ok : goal.returns-in-Some-first_method-clause-ok
returns-in-Some-first_method-clause-ok c =
    let w = c.in-Some-first_method in
    let there : Unsupported = record { place = place.OfMethod w.number; offset = w.offset } in
    let first : IsFirstUnsupported c.args.class.now there = search rules in
    (λ refused. absurd (false≢true refused), λ supported. absurd (unsupported c.args.class.now there first supported))

pub returns-in-Some-first_entry-clause-ok : goal.returns-in-Some-first_entry-clause-ok
returns-in-Some-first_entry-clause-ok c =
    let w = c.in-Some-first_entry in
    let there : Unsupported = record { place = place.OfPool; offset = w.offset } in
    let first : IsFirstUnsupported c.args.class.now there = search rules in
    (λ refused. absurd (false≢true refused), λ supported. absurd (unsupported c.args.class.now there first supported))
