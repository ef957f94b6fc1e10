use Rattle.std.proofs.Common.{◌<◌, ◌≤◌, map}
use Rattle.std.specs.Prelude.{IsTrue}
use Rattle.mpx_num.specs.Own.{operation_of}
use Rattle.mpx_eval.specs.Rounds.{Round, all_left}
use Rattle.mpx_eval.specs.Carrying.{shown}
use Rattle.mpx_eval.specs.Tables.{table_of}
use Rattle.mpx_eval.proofs.rounds.round.Given as goal

abbrev pub invariant-loop-p : goal.invariant-loop-p
invariant-loop-p g l = record {
  goes : Round (map (λ b. let o = goal.OwnOp-dyn g (b.vtable, b.value) in operation_of (o.word_bytes b.value) (o.fits_type b.value) (o.combination b.value)) l.ops.list.items) (map shown l.fn.ranks) (table_of l.fn.table) (map shown l.ranks) (table_of l.table) l.changed l.p;
  less : IsTrue l.changed → all_left (map shown l.ranks) < all_left (map shown l.fn.ranks);
  no_more : all_left (map shown l.ranks) ≤ all_left (map shown l.fn.ranks);
}
