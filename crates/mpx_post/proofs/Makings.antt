-- What a draft says of a new communicator, within its limits.
use Rattle.std.proofs.Common.{◌≡◌, ℕ, ◌^◌, ◌<◌, ◌≤◌, nat_lt, pos, Bool, true, false, not, List, ℤ, Option, Some, None, refl, arith}
use Rattle.std.specs.Prelude.{int_le}
use Rattle.std.specs.List.{list_all}
use Rattle.std.specs.Option.{option_map, option_map_or}
use Rattle.std.proofs.lemmas.Bool.{and_parts, and_from}
use Rattle.std.proofs.lemmas.Bool.Decides.{nat_tests}
use Rattle.mpx_group.specs.Group.{has_twice}
use Rattle.mpx_kind.specs.declared.kinds.Call.{Call}
use Rattle.mpx_kind.specs.declared.kinds.Call.TheVariants as C
use Rattle.mpx_kind.specs.declared.kinds.Makes.{Makes}
use Rattle.mpx_kind.specs.declared.kinds.Makes.TheVariants as M
use Rattle.mpx_kind.specs.declared.kinds.Mode.TheVariants.{Blocking, Nonblocking}
use Rattle.mpx_post.specs.Drafts.{are_edges, are_ranks, edge_count, is_colour, is_rank, making_of, natural, naturals}
use Rattle.mpx_kind.specs.Kinds.{kind_of, may_be, mode_of}
use Rattle.mpx_post.specs.Graphs.{GraphView, most_edges}
use Rattle.mpx_post.specs.Posts.{IsColour, IsMaking}
use Rattle.mpx_post.specs.Ranks.{AreRanks}
use Rattle.mpx_post.proofs.Graphs.{AreEdges-from, AreNeighbours-from, all_made, all_more, is_rank-below, is_rank-more}

-- ranks of so many are ranks of more
pub are_ranks-more : (size : ℕ) (ranks : List ℤ) → size ≤ 64 → are_ranks size ranks ≡ true → are_ranks 64 ranks ≡ true
are_ranks-more size ranks l h =
    let parts = and_parts (list_all (is_rank size) ranks) (not (has_twice (naturals ranks))) h in
    and_from _ _ (all_more (is_rank size) (is_rank 64) (λ z h. is_rank-more size z l h) ranks parts.0) parts.1

none_twice : (b : Bool) → not b ≡ true → b ≡ false
none_twice true h = cc
none_twice false h = refl

pub AreRanks-from : (ranks : List ℤ) → are_ranks 64 ranks ≡ true → AreRanks (naturals ranks)
AreRanks-from ranks h =
    let parts = and_parts (list_all (is_rank 64) ranks) (not (has_twice (naturals ranks))) h in
    record { below = all_made (is_rank 64) natural (λ r. r < 64) is_rank-below ranks parts.0; distinct = none_twice _ parts.1 }

-- MODES

-- a call has a mode that calls of its kind may be of
pub has_mode : (call : Call) → may_be (mode_of call) (kind_of call) ≡ true
has_mode (C.Exchange exchange Blocking) = refl
has_mode (C.Exchange exchange Nonblocking) = refl
has_mode (C.Reduction reduction Blocking) = refl
has_mode (C.Reduction reduction Nonblocking) = refl
has_mode (C.NewCommunicator new) = refl
has_mode (C.Neighbourhood exchange Blocking) = refl
has_mode (C.Neighbourhood exchange Nonblocking) = refl
has_mode C.Free = refl

-- MAKINGS

colour_below : (colour : Option ℤ) → option_map_or is_colour colour true ≡ true → IsColour (option_map natural colour)
colour_below None h = tt
colour_below (Some z) h =
    let small = and_parts (int_le (pos 0) z) (nat_lt (natural z) (2 ^ 31)) h in
    let below : natural z < 2 ^ 31 = grind (arith, nat_tests, small.1) in
    below

module _ (colour : Option ℤ) (key : ℤ) (group : List ℤ) (graph : GraphView) where
  pub IsMaking-from : (makes : Makes) → (makes ≡ M.Colour → option_map_or is_colour colour true ≡ true) → (makes ≡ M.Group → are_ranks 64 group ≡ true) → are_edges makes 64 graph ≡ true → edge_count makes graph ≤ most_edges → IsMaking makes (making_of makes colour key group graph)
  IsMaking-from M.Nothing c g e few = record { sort = refl; within = tt }
  IsMaking-from M.Colour c g e few = record { sort = refl; within = colour_below colour (c refl) }
  IsMaking-from M.Group c g e few = record { sort = refl; within = AreRanks-from group (g refl) }
  IsMaking-from M.Edges c g e few = record { sort = refl; within = AreEdges-from graph e few }
  IsMaking-from M.Neighbours c g e few = record { sort = refl; within = AreNeighbours-from graph e few }
