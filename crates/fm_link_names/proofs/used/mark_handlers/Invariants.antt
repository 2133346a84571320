use Rattle.std.proofs.Common.{◌≡◌, drop, map}
use Rattle.fm_base.specs.Rows.{marked}
use Rattle.fm_link_names.proofs.used.mark_handlers.Given as goal

abbrev pub invariant-loop-handler : goal.invariant-loop-handler
invariant-loop-handler l =
    marked l.used.items (map (λ h. h.catch_class) (drop l.handler-index l.handlers)) ≡ marked l.initial.used.items
    (map (λ h. h.catch_class) l.handlers)
