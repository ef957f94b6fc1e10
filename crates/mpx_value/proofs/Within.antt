-- The members of children are members of the birth.
use Rattle.std.proofs.Common.{◌≡◌, ℕ, ◌<◌, Bool, true, false, List, [], length, cond, Option, Some, None, refl, arith}
use Rattle.std.specs.Prelude.{filter}
use Rattle.std.specs.List.{All}
use Rattle.std.proofs.lemmas.List.Elements.{All-cons, All-filter, All-map, All-nil, All-weaker}
use Rattle.mpx_group.specs.Group.{has}
use Rattle.mpx_name.specs.Name.{Name}
use Rattle.mpx_num.specs.declared.own.Operation.{Operation}
use Rattle.mpx_match.specs.declared.faults.Verdict.{Verdict}
use Rattle.mpx_match.specs.declared.faults.Verdict.TheVariants as V
use Rattle.mpx_match.specs.Verdicts.{verdict}
use Rattle.mpx_match.proofs.FirstFault.{verdict-fine}
use Rattle.mpx_post.proofs.Agreement.{fine_with}
use Rattle.mpx_kind.specs.declared.kinds.Kind.{Kind}
use Rattle.mpx_kind.specs.declared.kinds.Kind.TheVariants as K
use Rattle.mpx_kind.specs.declared.kinds.NewCommunicator.{NewCommunicator}
use Rattle.mpx_kind.specs.declared.kinds.NewCommunicator.TheVariants as N
use Rattle.mpx_birth.specs.Births.{BirthView, upto}
use Rattle.mpx_birth.specs.Topologies.{TopologyView}
use Rattle.mpx_graph.specs.Graphs.{adjacent, general}
use Rattle.mpx_post.specs.Posts.{group_of}
use Rattle.mpx_post.specs.Rows.{RowView}
use Rattle.mpx_post.specs.Agreement.{IsFine, first_of, post_at}
use Rattle.mpx_value.specs.Children.{ChildView, children, children_by, children_in, colours_of, group_child, has_room, leads, only_child, split_child, unless_fault}
use Rattle.mpx_value.proofs.Rising.{below-upto}
use Rattle.mpx_value.proofs.Ranks.{group_ranks, has-members, has-processes, split_ranks}

module _ (birth : BirthView) (row : RowView) (long : length row ≡ length birth.members) where
  abbrev Within : ChildView → Type 0
  Within x = All (λ p. has birth.members p ≡ true) x.birth.members

  below : (ranks : List ℕ) → All (λ r. r < length row) ranks → All (λ r. r < length birth.members) ranks
  below ranks all = All-weaker (λ r. r < length row) (λ r. r < length birth.members) (λ r l. omega arith) ranks all

  -- one child of all members, whatever its topology
  all_members : (topology : Option TopologyView) → All Within (only_child (record { members = birth.members; topology = topology }))
  all_members topology = All-cons Within (record { colour = 0; birth = record { members = birth.members; topology = topology } }) [] (has-members birth.members) (All-nil Within)

  by_kind : (new : NewCommunicator) → IsFine row → All Within (children_by new birth row)
  by_kind N.Dup is = all_members birth.topology
  by_kind N.Split is =
      All-map Within (split_child birth row) (colours_of row) (λ k d l. has-processes birth.members _ (below _ (split_ranks row _)))
  by_kind N.Create is =
      All-map Within (group_child birth row) (filter (leads row) (upto (length row)))
      (All-filter (leads row) (λ rank. Within (group_child birth row rank)) (upto (length row))
      (All-weaker (λ r. r < length row) (λ rank. Within (group_child birth row rank))
      (λ rank l. has-processes birth.members (group_of (post_at row rank)) (below _ (group_ranks row rank is l))) (upto (length row)) (below-upto (length row))))
  by_kind N.CreateGroup is = all_members None
  by_kind N.DistGraph is = all_members (Some (general row))
  by_kind N.DistGraphAdjacent is = all_members (Some (adjacent row))

  in_kind : (kind : Kind) → IsFine row → All Within (children_in kind birth row)
  in_kind (K.NewCommunicator new) is = by_kind new is
  in_kind kind is = All-nil Within

  by_verdict : (v : Verdict) → (v ≡ V.Fine → IsFine row) → All Within (unless_fault v (children_in (first_of row).kind birth row))
  by_verdict V.Fine fine = in_kind (first_of row).kind (fine refl)
  by_verdict (V.Fault fault) fine = All-nil Within

  by_room : (b : Bool) (made : List ChildView) → All Within made → All Within (cond b made [])
  by_room true made all = all
  by_room false made all = All-nil Within

pub children_within : (ops : List Operation) (birth : BirthView) (row : RowView) (name : Name) (call : ℕ) → length row ≡ length birth.members → All (λ (x : ChildView). All (λ p. has birth.members p ≡ true) x.birth.members) (children ops birth row name call)
unfolding children
children_within ops birth row name call long =
    by_room birth row long (has_room name) _ (by_verdict birth row long (verdict ops birth.topology row) (λ e. fine_with birth.topology row (verdict-fine ops birth.topology row e)))
