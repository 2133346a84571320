use Rattle.std.proofs.Common.{◌∙◌, sym, ap, subst, ◌/◌, ◌++◌, ◌∷◌, [], List, All, map}
use Rattle.fm_check_handlers.proofs.RunLemmas.{all_short_later, all_shorter, laid-all, laid-more, laid-none}
use Rattle.fm_check_handlers.specs.declared.runs.Level.{Level}
use Rattle.fm_check_handlers.specs.declared.runs.Span.{Span}
use Rattle.fm_check_handlers.specs.inner.Runs.{IsLaidSoFar, IsNoted, IsShort, wider}
use Rattle.fm_check_handlers.proofs.runs.levels_of.Goals as goal

pub loop-most-init : goal.loop-most-init
loop-most-init c = (
  subst (λ (levels : List Level). IsLaidSoFar c.args.handlers.now c.in_ok-spans.spans.items levels) (sym c.new-levels.ensures.items)
      (subst (λ (spans : List Span). IsLaidSoFar c.args.handlers.now spans []) (sym c.in_ok-spans.ensures) (laid-none c.args.handlers.now)),
  subst (λ (spans : List Span). All (IsShort c.longest-most.result) spans) c.as_slice.ensures.value c.longest-most.ensures,
)

pub loop-most-preserved : goal.loop-most-preserved
loop-most-preserved c =
    let spans = c.loop-most.spans.items in
    let level = c.in_ok-level_of.field-0 in
    let noted = subst (λ (xs : List Span). IsNoted xs level.runs.items) c.as_slice-in-loop-most.ensures.value c.in_ok-level_of.ensures in
    let wide = c.in_ok-spans-2.ensures ∙ ap (λ (xs : List Span). map wider xs) c.as_slice-in-loop-most-2.ensures.value in (
      subst (λ (levels : List Level). IsLaidSoFar c.args.handlers.now c.in_ok-spans-2.spans.items levels) (sym c.in_ok-push.ensures.items)
          (subst (λ (xs : List Span). IsLaidSoFar c.args.handlers.now xs (c.loop-most.levels.items ++ level ∷ [])) (sym wide)
          (laid-more c.args.handlers.now spans c.loop-most.levels.items level c.loop-most.invariant.0 noted)),
      subst (λ (xs : List Span). All (IsShort (c.loop-most.most / 2)) xs) (sym wide)
          (all_shorter c.loop-most.most spans c.loop-most.invariant.1),
    )

pub returns : goal.returns
returns c =
    laid-all c.args.handlers.now c.loop-most.spans.items c.loop-most.levels.items c.loop-most.invariant.0
    (all_short_later c.loop-most.most 0 c.loop-most.spans.items c.loop-most-test.false c.loop-most.invariant.1)
