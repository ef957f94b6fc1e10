-- The topology of a row has as many ranks as the row has posts.
use Rattle.std.proofs.Common.{◌≡◌, ◌∙◌, length}
use Rattle.std.proofs.lemmas.List.{length-map}
use Rattle.mpx_birth.specs.Births.{upto}
use Rattle.mpx_post.specs.Rows.{RowView}
use Rattle.mpx_graph.specs.Graphs.{adjacent, all_edges, general, near_among, near_given}
use Rattle.mpx_value.proofs.Rising.{length-upto}

pub general-ranks : (row : RowView) → length (general row).ranks ≡ length row
unfolding general
general-ranks row = length-map (upto (length row)) (near_among (all_edges row)) ∙ length-upto (length row)

pub adjacent-ranks : (row : RowView) → length (adjacent row).ranks ≡ length row
unfolding adjacent
adjacent-ranks row = length-map row near_given
