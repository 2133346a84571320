use Rattle.std.proofs.Common.{◌≡◌, ℕ, codes, subst, sym}
use Rattle.clap.specs.Words.{first_of, found_of, rows_of}
use Rattle.fm_base.specs.declared.limits.TheConstants.{MAX_FRAMES, DEFAULT_FRAMES}
use Rattle.fm_cli_requests.specs.FmrunRequest.{IsBudget}
use Rattle.fm_cli_requests.proofs.fmrun_request.budgets_in.Goals as goal

pub returns-in_default : goal.returns-in_default
returns-in_default c = λ b h. c.in_default.ensures b.steps h.steps

pub returns-in_default-budget_in : goal.returns-in_default-budget_in
returns-in_default-budget_in c = λ b h. c.in_default-budget_in.ensures b.words h.words

pub returns-in_default-budget_in-2 : goal.returns-in_default-budget_in-2
returns-in_default-budget_in-2 c = λ b h.
    let text = first_of (codes "frames") (rows_of (found_of c.args.matches.now)) in
    let most : c.from-most.result ≡ MAX_FRAMES = c.from-most.ensures in
    let default : c.from-default.result ≡ DEFAULT_FRAMES = c.from-default.ensures in
    c.in_default-budget_in-2.ensures b.frames
    (subst (λ (d : ℕ). IsBudget text 1 c.from-most.result d b.frames) (sym default) (subst (λ (m : ℕ). IsBudget text 1 m DEFAULT_FRAMES b.frames) (sym most) h.frames))
