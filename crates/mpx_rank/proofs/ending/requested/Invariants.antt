use Rattle.std.proofs.Common.{◌≡◌, ◌++◌, map, drop}
use Rattle.mpx_meaning.specs.Ends.{asked_by, asked_view}
use Rattle.mpx_rank.specs.Shown.{requests_of}
use Rattle.mpx_rank.proofs.ending.requested.Given as goal

-- what is there, and then the calls of the words that are left, is the whole
abbrev pub invariant-loop-word : goal.invariant-loop-word
invariant-loop-word g l = map asked_view l.calls.items ++ asked_by (requests_of g.C.Carrier.place l.requests) (drop l.word-index l.words) ≡ asked_by (requests_of g.C.Carrier.place l.fn.requests) l.words
