use Rattle.std.proofs.Common.{◌≡◌, map, Some}
use Rattle.mpx_post.specs.Rows.{all_of}
use Rattle.mpx_script.specs.Fields.{rank_named}
use Rattle.mpx_script.proofs.fields.ranks_named.Given as goal

abbrev pub invariant-loop-part : goal.invariant-loop-part
invariant-loop-part l = all_of rank_named (map (λ part. part.now) l.yielded) ≡ Some l.ranks.items
