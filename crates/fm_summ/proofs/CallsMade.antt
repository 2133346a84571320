-- The calls of all methods, as they are made of numbers of lists and of what these lists have.
use Rattle.std.proofs.Common.{◌≡◌, ℕ, List, [], length, map, ap, sym, ◌∙◌, subst}
use Rattle.std.specs.Global.{Vec}
use Rattle.fm_world.specs.Programs.{targets, Program}
use Rattle.fm_world.specs.declared.calls.Call.{Call}
use Rattle.fm_conn.specs.declared.shapes.Shape.{Shape}
use Rattle.fm_summ.proofs.EndLemmas.{callers_count}
use Rattle.fm_summ.proofs.ListLemmas.{all_lists_are, callers_by_lists}
use Rattle.fm_summ.specs.declared.calls.Calls.{Calls}
use Rattle.fm_summ.specs.inner.Callers.{lists_of, shape_targets, AreNumbersOfAll, HasListed}
use Rattle.fm_summ.specs.inner.Lists.{AreCallsOf}

-- no list is known
pub none_known : (p : Program) (lists : List (Vec ℕ)) (calls : List Call) → lists ≡ [] → calls ≡ [] → lists_of lists ≡ map (targets p) calls
none_known p lists calls no_list no_call = ap lists_of no_list ∙ sym (ap (map (targets p)) no_call)

pub calls_made : (p : Program) (shapes : List Shape) (calls : Calls) (count other : ℕ) (numbers lists : List (Vec ℕ)) →
    AreNumbersOfAll (lists_of calls.known.lists.items) (lists_of calls.of_methods.items) (shape_targets p shapes) → count ≡ length calls.known.lists.items →
    numbers ≡ calls.of_methods.items → HasListed count (lists_of numbers) (lists_of calls.callers.items) → other ≡ length calls.of_methods.items →
    lists ≡ calls.known.lists.items → HasListed other (lists_of lists) (lists_of calls.leading.items) → AreCallsOf p shapes calls
calls_made p shapes calls count other numbers lists are count_is numbers_are listed other_is lists_are led =
    let inner = lists_of calls.known.lists.items in
    let outer = lists_of calls.of_methods.items in
    let callers : HasListed (length inner) outer (lists_of calls.callers.items) =
    subst (λ (list : List (Vec ℕ)). HasListed (length inner) (lists_of list) (lists_of calls.callers.items)) numbers_are
    (subst (λ n. HasListed n (lists_of numbers) (lists_of calls.callers.items)) (count_is ∙ sym (callers_count calls.known.lists.items)) listed) in
    let leading : HasListed (length outer) inner (lists_of calls.leading.items) =
    subst (λ (list : List (Vec ℕ)). HasListed (length outer) (lists_of list) (lists_of calls.leading.items)) lists_are
    (subst (λ n. HasListed n (lists_of lists) (lists_of calls.leading.items)) (other_is ∙ sym (callers_count calls.of_methods.items)) led) in
    record {
      targets_are = all_lists_are inner outer (shape_targets p shapes) are;
      callers = callers_by_lists inner outer (lists_of calls.callers.items) (lists_of calls.leading.items) callers leading;
    }
