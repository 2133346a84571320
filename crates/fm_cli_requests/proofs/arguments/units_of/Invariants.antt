use Rattle.std.proofs.Common.{◌≡◌, ◌^◌, ◌<◌}
use Rattle.std.specs.Char.Escape.{encode_utf16}
use Rattle.std.specs.List.{AllByRecursion, flat_map}
use Rattle.fm_cli_requests.proofs.arguments.units_of.Given as goal

abbrev pub invariant-loop-character : goal.invariant-loop-character
invariant-loop-character l = (l.units.items ≡ flat_map encode_utf16 l.yielded) × AllByRecursion (λ unit. unit < 2 ^ 16) l.units.items
