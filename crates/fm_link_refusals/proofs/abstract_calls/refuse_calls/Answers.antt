use Rattle.std.proofs.Common.{◌∙◌}
use Rattle.fm_link_refusals.proofs.abstract_calls.refuse_calls.Goals as goal

pub returns : goal.returns
returns c = λ classes linked within.
    c.refuse_calls_in.ensures classes c.args.class linked (c.as_slice.ensures.value ∙ c.in_ok-called.ensures classes linked within)
