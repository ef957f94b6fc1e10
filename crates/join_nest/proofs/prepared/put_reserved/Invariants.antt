use Rattle.std.proofs.Common.{◌≡◌, ◌+◌, ◌≤◌, true}
use Rattle.std.specs.Vec.{vec_len, vec_capacity}
use Rattle.std.specs.FinMap.{is_sorted}
use Rattle.join_nest.specs.Entries.{put_all}
use Rattle.join_nest.proofs.prepared.put_reserved.Given as goal

abbrev pub invariant-loop-key : goal.invariant-loop-key
invariant-loop-key g l = record {
  sorted : is_sorted g.K.Ord.cmp l.entries.items ≡ true;
  room : vec_len l.entries + vec_len l.changes ≤ vec_capacity l.entries;
  left : put_all g.K.Ord.cmp l.changes.items l.entries.items ≡ put_all g.K.Ord.cmp l.initial.changes.items l.initial.entries.items;
}

abbrev pub decreases-loop-key : goal.decreases-loop-key
decreases-loop-key g l = vec_len l.changes
