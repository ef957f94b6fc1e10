use Rattle.std.proofs.Common.{◌≡◌, map, Some}
use Rattle.mpx_num.specs.Text.{number_of}
use Rattle.mpx_post.specs.Rows.{all_of}
use Rattle.mpx_script.proofs.fields.list_named.Given as goal

abbrev pub invariant-loop-part : goal.invariant-loop-part
invariant-loop-part l = all_of number_of (map (λ part. part.now) l.yielded) ≡ Some l.numbers.items
