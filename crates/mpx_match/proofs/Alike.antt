-- Posts that are alike differ in nothing that the verdict asks for but their amounts.
use Rattle.std.proofs.Common.{◌≡◌, ◌<◌, ℕ, true, false, not, ◌&&◌, [], length, Option, refl, ap, ◌∙◌, arith}
use Rattle.std.specs.Bool.{beq}
use Rattle.std.proofs.lemmas.Bool.{and_parts}
use Rattle.mpx_birth.specs.Topologies.{TopologyView}
use Rattle.mpx_post.specs.declared.making.Making.{Making}
use Rattle.mpx_post.specs.declared.making.Making.TheVariants.{Nothing, Split, Group, Edges, Neighbours}
use Rattle.mpx_post.specs.Posts.{Given, destinations_in, sources_in, weighted_in}
use Rattle.mpx_post.specs.Equality.{same_kind, same_mode, same_root, same_operations, same_types}
use Rattle.mpx_post.specs.Rows.{RowView}
use Rattle.mpx_post.specs.Agreement.{first_of, post_at}
use Rattle.mpx_match.specs.declared.faults.FaultKind.{FaultKind}
use Rattle.mpx_match.specs.declared.faults.FaultKind.TheVariants as F
use Rattle.mpx_match.specs.declared.verdicts.RowQuestion.TheVariants.{Agree}
use Rattle.mpx_match.specs.Alike.{AreAlike, IsSettled, is_alike, says_nothing}
use Rattle.mpx_match.specs.Questions.{differs_in, groups_differ, is_faulty}
use Rattle.mpx_match.proofs.Ends.{no_edges_differ}
use Rattle.mpx_match.proofs.Least.{least_rank-absent}

nothing_said : (making : Making) → says_nothing making ≡ true → making ≡ Nothing
nothing_said Nothing e = refl
nothing_said (Split colour key) e = absurd cc
nothing_said (Group ranks) e = absurd cc
nothing_said (Edges edges) e = absurd cc
nothing_said (Neighbours near) e = absurd cc

-- what the test says
record Alike (first given : Given) : Type 0 where
  pub kind : same_kind given.kind first.kind ≡ true
  pub mode : same_mode given.mode first.mode ≡ true
  pub root : same_root given.root first.root ≡ true
  pub op : same_operations given.op first.op ≡ true
  pub types : same_types given.items first.items ≡ true
  pub making : given.making ≡ Nothing

alike_in : (first given : Given) → is_alike first given ≡ true → Alike first given
alike_in first given e =
    let kind = and_parts (same_kind given.kind first.kind) (same_mode given.mode first.mode && (same_root given.root first.root && (same_operations given.op first.op && (same_types given.items first.items && says_nothing given.making)))) e in
    let mode = and_parts (same_mode given.mode first.mode) (same_root given.root first.root && (same_operations given.op first.op && (same_types given.items first.items && says_nothing given.making))) kind.1 in
    let root = and_parts (same_root given.root first.root) (same_operations given.op first.op && (same_types given.items first.items && says_nothing given.making)) mode.1 in
    let op = and_parts (same_operations given.op first.op) (same_types given.items first.items && says_nothing given.making) root.1 in
    let types = and_parts (same_types given.items first.items) (says_nothing given.making) op.1 in
    record { kind = kind.0; mode = mode.0; root = root.0; op = op.0; types = types.0; making = nothing_said given.making types.1 }

module _ (row : RowView) (alike : AreAlike row) where
  each : (k : ℕ) → k < length row → Alike (first_of row) (post_at row k)
  each k l = alike_in (first_of row) (post_at row k) (alike k l)

  -- so does the first, where there is one
  first_making : (k : ℕ) → k < length row → (first_of row).making ≡ Nothing
  first_making k l = (each 0 (omega (arith, l))).making

  no_neighbours : (k : ℕ) → k < length row → (sources_in (post_at row k).making ≡ []) × (destinations_in (post_at row k).making ≡ [])
  no_neighbours k l = (ap sources_in (each k l).making, ap destinations_in (each k l).making)

  -- in all that is asked but the amounts
  agrees : (what : FaultKind) → (what ≡ F.Amount → ⊥) → (topology : Option TopologyView) (k : ℕ) → k < length row → differs_in what topology row k (post_at row k) ≡ false
  agrees F.Kind other topology k l = ap not (each k l).kind
  agrees F.Mode other topology k l = ap not (each k l).mode
  agrees F.Root other topology k l = ap not (each k l).root
  agrees F.Op other topology k l = ap not (each k l).op
  agrees F.ItemType other topology k l = ap not (each k l).types
  agrees F.Amount other topology k l = absurd (other refl)
  agrees F.Weights other topology k l =
      ap (λ (m : Making). not (beq (weighted_in m) (weighted_in (first_of row).making))) (each k l).making
      ∙ ap (λ (m : Making). not (beq (weighted_in Nothing) (weighted_in m))) (first_making k l)
  agrees F.Edges other topology k l = no_edges_differ row no_neighbours k l
  agrees F.Groups other topology k l = ap (λ (m : Making). groups_differ row (record (post_at row k) { making = m })) (each k l).making

  pub alike_settled : (what : FaultKind) → (what ≡ F.Amount → ⊥) → IsSettled (Agree what) row
  alike_settled what other ops topology = least_rank-absent (is_faulty ops topology (Agree what) row) row (length row) (λ k l. agrees what other topology k l) (omega arith)
