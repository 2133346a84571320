use Rattle.std.proofs.Common.{◌≡◌, ℕ, List, None, sym, ◌∙◌}
use Rattle.fm_base.proofs.UnitFronts.{found}
use Rattle.fm_pool_texts.proofs.DescriptorsLemmas.{class_decided, class_endless, class_nameless}
use Rattle.fm_pool_texts.proofs.descriptors.after_class.Goals as goal

not_found : (rest : List ℕ) → None ≡ found rest → ⊥
not_found rest e = cc

pub returns-in_err-rest : goal.returns-in_err-rest
returns-in_err-rest c = λ rest. (
  λ w. absurd (class_endless c.args.bytes.now c.split_at.result.1.now rest c.count_until_semicolon.result c.count_until_semicolon.ensures.count c.split_at.ensures.back c.in_err-rest.ensures.cases w),
  λ e. absurd (let none = rw c.from_residual.ensures at e in not_found rest none),
)

pub returns-then-is_binary_name : goal.returns-then-is_binary_name
returns-then-is_binary_name c =
    class_decided c.args.bytes.now c.split_at.result.0.now c.split_at.result.1.now c.in_ok-rest.rest.now c.count_until_semicolon.result c.in_ok-rest.field-0-0.now c.count_until_semicolon.ensures.count
    c.split_at.ensures.front c.split_at.ensures.back c.in_ok-rest.ensures.cases.0 (sym c.is_binary_name.ensures ∙ c.if-is_binary_name.true)

pub returns-else-is_binary_name : goal.returns-else-is_binary_name
returns-else-is_binary_name c = λ rest. (
  λ w. absurd (class_nameless c.args.bytes.now c.split_at.result.0.now rest c.count_until_semicolon.result c.count_until_semicolon.ensures.count c.split_at.ensures.front (sym c.is_binary_name.ensures ∙ c.if-is_binary_name.false) w),
  λ e. absurd cc,
)
