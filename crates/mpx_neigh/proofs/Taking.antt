-- One block more is taken.
use Rattle.std.proofs.Common.{◌≡◌, ℕ, ◌+◌, ◌*◌, ◌<◌, ◌≤◌, List, Some, true, length, take, drop, get_or, set, replicate, sum, refl, sym, ap, subst, ◌∙◌, inl, inr, arith}
use Rattle.std.proofs.lemmas.Bool.{cases_eq}
use Rattle.std.proofs.lemmas.List.{get_or-replicate, get_or-set_other, get_or-set_same, length-replicate, length-set, take-replicate}
use Rattle.std.proofs.lemmas.List.Folds.{sum_by-replicate}
use Rattle.std.proofs.lemmas.List.Sums.{sum_by_more}
use Rattle.mpx_birth.specs.declared.edges.Neighbour.{Neighbour}
use Rattle.mpx_birth.specs.Topologies.{IsTopology, AgreesAtBothEnds, TopologyView, destinations_at, sources_at}
use Rattle.mpx_kind.specs.declared.kinds.Neighbourhood.{Neighbourhood}
use Rattle.mpx_birth.specs.Ends.{place_of, sent_at}
use Rattle.mpx_birth.proofs.Meeting.{sent_meets, source_is_rank}
use Rattle.mpx_birth.proofs.Passes.{sources_mutual, meet_one, none_met}
use Rattle.mpx_post.specs.declared.block.Block.{Block}
use Rattle.mpx_post.specs.Posts.{numbers_of, type_of}
use Rattle.mpx_post.specs.Rows.{RowView}
use Rattle.mpx_post.specs.Agreement.{counts_sent, IsFineWith, count_at, first_of, post_at}
use Rattle.mpx_post.specs.Blocks.{IsBlock, repeated}
use Rattle.mpx_post.proofs.Blocks.{block_at-part, block_within, count_alone, repeated-replicate}
use Rattle.mpx_kind.specs.declared.kinds.Kind.TheVariants as K
use Rattle.mpx_neigh.specs.Cursors.{AreTaken, CursorsView, IsMet, sends_blocks}
use Rattle.mpx_neigh.specs.Neighbourhoods.{source_at}
use Rattle.mpx_neigh.proofs.Senders.{fills, sends_each}

-- the block at this place of blocks of so many items each
abbrev pub placed : List ℕ → ℕ → Block
placed counts place = record { first = sum (take place counts); count = count_at counts place }

-- what is so once the block for the rank from the source at this place is taken: it stands at this place of what the sender sends
pub record IsStep (topology : TopologyView) (row : RowView) (rank place : ℕ) (cursors : CursorsView) (sender sent : ℕ) : Type 0 where
  pub within : sent < length (counts_sent (Some topology) row sender)
  pub degree : length (counts_sent (Some topology) row sender) ≡ length (destinations_at topology sender)
  pub block : (block : Block) → block ≡ placed (counts_sent (Some topology) row sender) sent → IsMet topology row rank place block
  pub taken : (block : Block) → block ≡ placed (counts_sent (Some topology) row sender) sent
      → AreTaken topology row rank (place + 1) (record { next = set cursors.next sender (sent + 1); before = set cursors.before sender (block.first + block.count) })

-- the items before each sender's next place, one block later
before_more : (topology : TopologyView) (row : RowView) (cursors : CursorsView) (sender sent total : ℕ)
    → ((s : ℕ) → s < 64 → get_or cursors.before s 0 ≡ sum (take (get_or cursors.next s 0) (counts_sent (Some topology) row s))) → length cursors.before ≡ 64 → length cursors.next ≡ 64 → sender < 64
    → total ≡ sum (take (sent + 1) (counts_sent (Some topology) row sender)) → (s : ℕ) → s < 64
    → get_or (set cursors.before sender total) s 0 ≡ sum (take (get_or (set cursors.next sender (sent + 1)) s 0) (counts_sent (Some topology) row s))
before_more topology row cursors sender sent total before long all small e s l = elim (cases_eq s sender) [
  | inl is ↦
      let here : get_or (set cursors.before sender total) s 0 ≡ total = ap (λ (n : ℕ). get_or (set cursors.before sender total) n 0) is ∙ get_or-set_same cursors.before sender total 0 (omega (arith, long, small)) in
      let next : get_or (set cursors.next sender (sent + 1)) s 0 ≡ sent + 1 = ap (λ (n : ℕ). get_or (set cursors.next sender (sent + 1)) n 0) is ∙ get_or-set_same cursors.next sender (sent + 1) 0 (omega (arith, all, small)) in
      here ∙ e ∙ sym (λ i. sum (take (next i) (counts_sent (Some topology) row (is i))))
  | inr other ↦
      get_or-set_other cursors.before sender s total 0 other
      ∙ before s l
      ∙ ap (λ (n : ℕ). sum (take n (counts_sent (Some topology) row s))) (sym (get_or-set_other cursors.next sender s (sent + 1) 0 other))
]

module _ (topology : TopologyView) (row : RowView) (exchange : Neighbourhood) (fine : IsFineWith (Some topology) row) (size : length row ≡ length topology.ranks) (kind : (first_of row).kind ≡ K.Neighbourhood exchange) (blocks : sends_blocks exchange ≡ true)
    (rank place : ℕ) (promise : AgreesAtBothEnds topology.ranks) (few : length row ≤ 64) (there : place < length (sources_at topology rank)) (cursors : CursorsView) (taken : AreTaken topology row rank place cursors) where
  abbrev sender : ℕ
  sender = source_at topology rank place

  step_met : (sent : ℕ) → sent ≡ get_or cursors.next sender 0 + place_of rank 0 (drop (get_or cursors.next sender 0) (destinations_at topology sender)) → IsStep topology row rank place cursors sender sent
  step_met sent e =
      let l : sender < length row = (let w = source_is_rank topology.ranks promise rank place there in omega (arith, w, size)) in
      let small : sender < 64 = omega (arith, l, few) in
      let met = meet_one taken.met sent (sources_at topology rank) (destinations_at topology sender) refl there refl e in
      let counts : List ℕ = counts_sent (Some topology) row sender in
      let degree = sends_each topology row sender fine l exchange kind blocks in
      let meets = sent_meets topology promise rank place there in
      let at : sent ≡ sent_at topology rank place = met.there in
      let within : sent < length counts = (let w = meets.sent_within in omega (arith, w, at, degree)) in
      let filled = fills topology row sender fine l exchange kind blocks in
      record {
        within = within;
        degree = degree;
        block = λ block b. subst (λ (n : ℕ). IsBlock (type_of (post_at row sender)) counts n (length (numbers_of (post_at row sender))) block) at (rw b (record {
          at = λ nums. sym (block_at-part (type_of (post_at row sender)) counts nums sent within);
          within = block_within (type_of (post_at row sender)) counts (numbers_of (post_at row sender)) sent within filled;
        }));
        taken = λ block b. record {
          met = met.more;
          long = length-set cursors.before sender (block.first + block.count) ∙ taken.long;
          before = before_more topology row cursors sender sent (block.first + block.count) taken.before taken.long taken.met.long small
              (ap (λ (b : Block). b.first + b.count) b ∙ sym (sum_by_more (λ n. n) counts sent 0 within));
        };
      }

  pub step : (read sent : ℕ) (theirs : List Neighbour) → read ≡ source_at topology rank place → theirs ≡ destinations_at topology read
      → sent ≡ get_or cursors.next read 0 + place_of rank 0 (drop (get_or cursors.next read 0) theirs) → IsStep topology row rank place cursors read sent
  step read sent theirs is t e =
      subst (λ (n : ℕ). IsStep topology row rank place cursors n sent) (sym is)
      (step_met sent (e ∙ (λ i. get_or cursors.next (is i) 0 + place_of rank 0 (drop (get_or cursors.next (is i) 0) ((t ∙ ap (destinations_at topology) is) i)))))

-- none is taken at the start
pub none_taken : (topology : TopologyView) (row : RowView) (rank : ℕ) → IsTopology topology → AreTaken topology row rank 0 (record { next = replicate 64 0; before = replicate 64 0 })
none_taken topology row rank kept = record {
  met = none_met (sources_mutual topology kept.agree kept.few rank);
  long = length-replicate {A = ℕ} 64 0;
  before = λ s l. get_or-replicate 64 s 0 0 l ∙ ap (λ (n : ℕ). sum (take n (counts_sent (Some topology) row s))) (sym (get_or-replicate 64 s 0 0 l));
}

-- ONE COUNT FOR ALL BLOCKS

-- the block begins behind as many of one size as there are before it
pub equal_placed : (n : ℕ) (counts : List ℕ) (place : ℕ) → length counts ≡ 1 → place < n → record { first = place * count_at counts 0; count = count_at counts 0 } ≡ placed (repeated n counts) place
equal_placed n counts place one l =
    let count = count_at counts 0 in
    let all : repeated n counts ≡ replicate n count = ap (repeated n) (count_alone counts one) ∙ repeated-replicate n count in
    let first : sum (take place (replicate n count)) ≡ place * count = ap sum (take-replicate place n count (omega (arith, l))) ∙ sum_by-replicate (λ n. n) place count in
    (λ i. record { first = sym first i; count = sym (get_or-replicate n place count 0 l) i }) ∙ ap (λ (list : List ℕ). placed list place) (sym all)
