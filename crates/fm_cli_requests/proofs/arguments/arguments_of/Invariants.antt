use Rattle.std.proofs.Common.{◌≡◌, ◌^◌, ◌<◌, map}
use Rattle.std.specs.List.{AllByRecursion, flat_map}
use Rattle.fm_cli_requests.specs.Arguments.{argument_of}
use Rattle.fm_cli_requests.proofs.arguments.arguments_of.Given as goal

abbrev pub invariant-loop-piece : goal.invariant-loop-piece
invariant-loop-piece l =
    (l.arguments.items ≡ flat_map argument_of (map (λ piece. piece.now) l.yielded)) × AllByRecursion (λ argument. AllByRecursion (λ unit. unit < 2 ^ 16) argument) l.arguments.items
