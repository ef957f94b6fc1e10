-- Passes: places that meet, in one pass over a rank's own neighbours.
use Rattle.std.proofs.Common.{◌≡◌, ℕ, ◌+◌, ◌<◌, ◌≤◌, List, length, take, drop, get_or, set, replicate, subst, refl, sym, ap, ◌∙◌, inl, inr, arith}
use Rattle.std.proofs.lemmas.Bool.{cases_eq, cases_lt}
use Rattle.std.proofs.lemmas.List.{get_or_past, get_or-replicate, get_or-set_same, get_or-set_other, length-replicate, length-set}
use Rattle.mpx_birth.specs.declared.edges.Neighbour.{Neighbour}
use Rattle.mpx_birth.specs.Edges.{often}
use Rattle.mpx_birth.specs.Topologies.{AgreesAtBothEnds, TopologyView, destinations_at, sources_at}
use Rattle.mpx_birth.specs.Ends.{place_of, rank_at, turn}
use Rattle.mpx_birth.proofs.Meeting.{destination_is_rank, source_is_rank}
use Rattle.mpx_birth.proofs.Turns.{Stands, often-kept, often-more, place-after, stands, stands_once, turn_below}

-- this rank stands among each other's neighbours as often as that one among its own, which are below 64
pub record Mutual (me : ℕ) (own : List Neighbour) (theirs : ℕ → List Neighbour) : Type 0 where
  pub both : (r : ℕ) → often r own ≡ often me (theirs r)
  pub small : (k : ℕ) → k < length own → rank_at own k < 64

pub sources_mutual : (topology : TopologyView) → AgreesAtBothEnds topology.ranks → length topology.ranks ≤ 64 → (rank : ℕ) → Mutual rank (sources_at topology rank) (destinations_at topology)
sources_mutual topology promise few rank = record {
  both = λ r. sym (promise.both r rank);
  small = λ k l. (let below = source_is_rank topology.ranks promise rank k l in omega (arith, below, few));
}

pub destinations_mutual : (topology : TopologyView) → AgreesAtBothEnds topology.ranks → length topology.ranks ≤ 64 → (rank : ℕ) → Mutual rank (destinations_at topology rank) (sources_at topology)
destinations_mutual topology promise few rank = record {
  both = λ r. promise.both rank r;
  small = λ k l. (let below = destination_is_rank topology.ranks promise rank k l in omega (arith, below, few));
}

-- how far the neighbours of each rank are met, where the first so many of its own are
pub record AreMet (me : ℕ) (own : List Neighbour) (theirs : ℕ → List Neighbour) (next : List ℕ) (done : ℕ) : Type 0 where
  pub agree : Mutual me own theirs
  pub long : length next ≡ 64
  pub within : (r : ℕ) → get_or next r 0 ≤ length (theirs r)
  pub met : (r : ℕ) → r < 64 → often me (take (get_or next r 0) (theirs r)) ≡ often r (take done own)

-- the neighbour after those is met at this place of the other's
pub record IsMet (me : ℕ) (own : List Neighbour) (theirs : ℕ → List Neighbour) (next : List ℕ) (done rank place : ℕ) (others : List Neighbour) : Type 0 where
  pub there : place ≡ place_of me (turn own done) (theirs (rank_at own done))
  pub within : place < length others
  pub more : AreMet me own theirs (set next rank (place + 1)) (done + 1)

-- none is met at the start
pub none_met : {me : ℕ} {own : List Neighbour} {theirs : ℕ → List Neighbour} → Mutual me own theirs → AreMet me own theirs (replicate 64 0) 0
none_met {me} {own} {theirs} agree =
    let start : (r : ℕ) → get_or (replicate 64 0) r 0 ≡ 0 = λ r. elim (cases_lt r 64) [
      | inl l ↦ get_or-replicate 64 r 0 0 l
      | inr l ↦ get_or_past (replicate 64 0) r 0 (let e = length-replicate {A = ℕ} 64 0 in omega (arith, e, l))
    ] in
    record {
      agree = agree;
      long = length-replicate {A = ℕ} 64 0;
      within = λ r. (let e = start r in omega (arith, e));
      met = λ r l. ap (λ (n : ℕ). often me (take n (theirs r))) (start r);
    }

module _ {me : ℕ} {own : List Neighbour} {theirs : ℕ → List Neighbour} {next : List ℕ} {done : ℕ} (met : AreMet me own theirs next done) where
  -- the place at which the next one is met
  next-stands : done < length own → Stands me (turn own done) (theirs (rank_at own done)) (get_or next (rank_at own done) 0 + place_of me 0 (drop (get_or next (rank_at own done) 0) (theirs (rank_at own done))))
  next-stands l =
      let rank = rank_at own done in
      let p = get_or next rank 0 in
      let t = turn_below own done l in
      let found = stands me (turn own done) (theirs rank) (let e = met.agree.both rank in omega (arith, t, e)) in
      let e : place_of me (turn own done) (theirs rank) ≡ p + place_of me 0 (drop p (theirs rank)) = ap (λ (time : ℕ). place_of me time (theirs rank)) (sym (met.met rank (met.agree.small done l))) ∙ place-after me p (theirs rank) (met.within rank) in
      subst (Stands me (turn own done) (theirs rank)) e found

  met-more : (place : ℕ) → done < length own → Stands me (turn own done) (theirs (rank_at own done)) place → AreMet me own theirs (set next (rank_at own done) (place + 1)) (done + 1)
  met-more place l stands =
      let rank = rank_at own done in
      let long = met.long in
      let small = met.agree.small done l in
      let here : (k : ℕ) → k ≡ rank → get_or (set next rank (place + 1)) k 0 ≡ place + 1 = λ k is. ap (λ (n : ℕ). get_or (set next rank (place + 1)) n 0) is ∙ get_or-set_same next rank (place + 1) 0 (omega (arith, long, small)) in
      record {
        agree = met.agree;
        long = length-set next rank (place + 1) ∙ long;
        within = λ k. elim (cases_eq k rank) [
          | inl is ↦ (let e = here k is in let w = stands.within in let f : length (theirs k) ≡ length (theirs rank) = ap (λ (n : ℕ). length (theirs n)) is in omega (arith, e, w, f))
          | inr other ↦ (let e = get_or-set_other next rank k (place + 1) 0 other in let w = met.within k in omega (arith, e, w))
        ];
        met = λ k m. elim (cases_eq k rank) [
          | inl is ↦
              let f : often me (take (place + 1) (theirs rank)) ≡ often me (take place (theirs rank)) + 1 = often-more me place (theirs rank) stands.within stands.there in
              let g : often rank (take (done + 1) own) ≡ turn own done + 1 = often-more rank done own l refl in
              let h : often me (take (place + 1) (theirs rank)) ≡ often rank (take (done + 1) own) = f ∙ ap (λ (n : ℕ). n + 1) stands.before ∙ sym g in
              ap (λ (n : ℕ). often me (take n (theirs k))) (here k is) ∙ ap (λ (n : ℕ). often me (take (place + 1) (theirs n))) is ∙ h ∙ ap (λ (n : ℕ). often n (take (done + 1) own)) (sym is)
          | inr other ↦
              ap (λ (n : ℕ). often me (take n (theirs k))) (get_or-set_other next rank k (place + 1) 0 other)
              ∙ met.met k m
              ∙ sym (often-kept k done own l (λ e. other (sym e)))
        ];
      }

  -- the next one's rank, as read
  pub next_small : (lent : List Neighbour) → lent ≡ own → done < length lent → rank_at lent done < 64
  next_small lent is l = subst (λ (ns : List Neighbour). rank_at ns done < 64) (sym is) (met.agree.small done (subst (λ (ns : List Neighbour). done < length ns) is l))

  -- one more is met, at the first place from there on
  pub meet_one : (place : ℕ) (lent others : List Neighbour) → lent ≡ own → done < length lent → others ≡ theirs (rank_at lent done)
      → place ≡ get_or next (rank_at lent done) 0 + place_of me 0 (drop (get_or next (rank_at lent done) 0) others) → IsMet me own theirs next done (rank_at lent done) place others
  meet_one place lent others is l them e =
      let rank = rank_at own done in
      let below : done < length own = subst (λ (ns : List Neighbour). done < length ns) is l in
      let read : rank_at lent done ≡ rank = ap (λ (ns : List Neighbour). rank_at ns done) is in
      let same : others ≡ theirs rank = them ∙ ap theirs read in
      let at : place ≡ get_or next rank 0 + place_of me 0 (drop (get_or next rank 0) (theirs rank)) = e ∙ (λ i. get_or next (read i) 0 + place_of me 0 (drop (get_or next (read i) 0) (same i))) in
      let stands : Stands me (turn own done) (theirs rank) place = subst (Stands me (turn own done) (theirs rank)) (sym at) (next-stands below) in
      record {
        there = stands_once me (turn own done) (theirs rank) place stands;
        within = subst (λ (ns : List Neighbour). place < length ns) (sym same) stands.within;
        more = subst (λ (n : ℕ). AreMet me own theirs (set next n (place + 1)) (done + 1)) (sym read) (met-more place below stands);
      }
