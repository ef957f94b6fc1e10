use Rattle.std.proofs.Common.{◌≡◌, take}
use Rattle.join_nest.specs.Seen.{seen}
use Rattle.mpx_delta.proofs.entry_runs.copied.Given as goal

-- copies of the entries so far
abbrev pub invariant-loop-entry : goal.invariant-loop-entry
invariant-loop-entry g l =
    let view = g.J.Exact.view in
    seen view l.made.items ≡ seen view (take l.entry-index l.entries)
