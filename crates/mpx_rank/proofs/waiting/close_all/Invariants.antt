use Rattle.std.proofs.Common.{◌≡◌, ◌++◌, ℕ, List, map, drop, true}
use Rattle.mpx_meaning.specs.Standing.{closed_all}
use Rattle.mpx_num.specs.Own.{operation_of}
use Rattle.mpx_rank.specs.Moves.{are_done, wait_lines}
use Rattle.mpx_rank.specs.Shown.{requests_of}
use Rattle.mpx_rank.proofs.waiting.close_all.Given as goal

abbrev pub invariant-loop-word : goal.invariant-loop-word
invariant-loop-word g l =
    let terms = g.C.Carrier.terms (map (λ b. let o = goal.OwnOp-dyn g (b.vtable, b.value) in operation_of (o.word_bytes b.value) (o.fits_type b.value) (o.combination b.value)) l.ops.list.items) in
    let told = terms.tells l.fn.carrier l.me in
    let first = requests_of g.C.Carrier.place l.fn.requests in
    let now = requests_of g.C.Carrier.place l.requests in
    let left = drop l.word-index l.words in
    record {
      hears : terms.hears l.fn.carrier l.carrier;
      lines : l.lines.items ++ wait_lines told now left ≡ l.fn.lines.items ++ wait_lines told first l.words;
      requests : (word : List ℕ) → closed_all left now word ≡ closed_all l.words first word;
      done : are_done told now left ≡ true;
    }
