use Rattle.std.proofs.Common.{◌++◌, map, take, codes, decimal}
use Rattle.std.specs.List.{flat_map}
use Rattle.std.specs.Fmt.{HasWritten, IsPlainFormatter}
use Rattle.lines.specs.Lines.{spaced}
use Rattle.lines.proofs.walks.CornersDisplay.fmt.Given as goal

-- The corners after the first so far are written.
abbrev pub invariant-loop-row : goal.invariant-loop-row
invariant-loop-row g l =
    IsPlainFormatter l.initial.f
    → HasWritten g.W.Write.write_str_gives l.initial.f (flat_map (λ y. codes " |" ++ spaced decimal y) (map (take l.self.goods) (take l.row-index l.rest))) l.f
