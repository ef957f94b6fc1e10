-- Places that meet.
use Rattle.std.proofs.Common.{◌≡◌, ℕ, ◌<◌, List, length, take, sym, refl, ap, ◌∙◌, inl, inr, arith}
use Rattle.std.proofs.lemmas.Bool.{cases_lt}
use Rattle.std.proofs.lemmas.List.{get_or_past}
use Rattle.mpx_birth.specs.Edges.{often}
use Rattle.mpx_birth.specs.Topologies.{AgreesAtBothEnds, Near, TopologyView, destinations_at, destinations_near, nobody, sources_at, sources_near}
use Rattle.mpx_birth.specs.Ends.{Meet, place_of, rank_at, sent_at, taken_at, turn}
use Rattle.mpx_birth.proofs.Turns.{Stands, stands, stands_once, turn_below}

-- where both ends tell each edge equally often
module _ (topology : TopologyView) (promise : AgreesAtBothEnds topology.ranks) where
  pub sent_meets : (j l : ℕ) → l < length (sources_at topology j) → Meet topology (rank_at (sources_at topology j) l) (sent_at topology j l) j l
  sent_meets j l w =
      let sources = sources_at topology j in
      let i = rank_at sources l in
      let s : Stands j (turn sources l) (destinations_at topology i) (sent_at topology j l) = stands j (turn sources l) (destinations_at topology i) (let t = turn_below sources l w in let p = promise.both i j in omega (arith, t, p)) in
      record {
        sent_within = s.within;
        sent_to = s.there;
        taken_within = w;
        taken_from = refl;
        turn = ap (λ (r : ℕ). often r (take (sent_at topology j l) (destinations_at topology i))) s.there ∙ s.before;
      }

  pub taken_meets : (i k : ℕ) → k < length (destinations_at topology i) → Meet topology i k (rank_at (destinations_at topology i) k) (taken_at topology i k)
  taken_meets i k w =
      let destinations = destinations_at topology i in
      let j = rank_at destinations k in
      let s : Stands i (turn destinations k) (sources_at topology j) (taken_at topology i k) = stands i (turn destinations k) (sources_at topology j) (let t = turn_below destinations k w in let p = promise.both i j in omega (arith, t, p)) in
      record {
        sent_within = w;
        sent_to = refl;
        taken_within = s.within;
        taken_from = s.there;
        turn = sym (ap (λ (r : ℕ). often r (take (taken_at topology i k) (sources_at topology j))) s.there ∙ s.before);
      }

-- places that meet meet no others
pub sent_of : (topology : TopologyView) (i k j l : ℕ) → Meet topology i k j l → k ≡ sent_at topology j l
sent_of topology i k j l m =
    stands_once j (turn (sources_at topology j) l) (destinations_at topology i) k (record {
      within = m.sent_within;
      there = m.sent_to;
      before = ap (λ (r : ℕ). often r (take k (destinations_at topology i))) (sym m.sent_to) ∙ m.turn;
    })
    ∙ ap (λ (r : ℕ). place_of j (turn (sources_at topology j) l) (destinations_at topology r)) (sym m.taken_from)

pub taken_of : (topology : TopologyView) (i k j l : ℕ) → Meet topology i k j l → l ≡ taken_at topology i k
taken_of topology i k j l m =
    stands_once i (turn (destinations_at topology i) k) (sources_at topology j) l (record {
      within = m.taken_within;
      there = m.taken_from;
      before = ap (λ (r : ℕ). often r (take l (sources_at topology j))) (sym m.taken_from) ∙ sym m.turn;
    })
    ∙ ap (λ (r : ℕ). place_of i (turn (destinations_at topology i) k) (sources_at topology r)) (sym m.sent_to)

pub taken_once : (topology : TopologyView) (i j k l m : ℕ) → Meet topology i k j l → Meet topology i k j m → l ≡ m
taken_once topology i j k l m meets again = taken_of topology i k j l meets ∙ sym (taken_of topology i k j m again)

pub sent_once : (topology : TopologyView) (i j k l m : ℕ) → Meet topology i k j m → Meet topology i l j m → k ≡ l
sent_once topology i j k l m meets again = sent_of topology i k j m meets ∙ sym (sent_of topology i l j m again)

-- whoever stands there is one of the ranks
pub source_is_rank : (ranks : List Near) → AgreesAtBothEnds ranks → (j l : ℕ) → l < length (sources_near ranks j) → rank_at (sources_near ranks j) l < length ranks
source_is_rank ranks promise j l w =
    let i = rank_at (sources_near ranks j) l in
    let t = turn_below (sources_near ranks j) l w in
    let p = promise.both i j in
    elim (cases_lt i (length ranks)) [
      | inl m ↦ m
      | inr far ↦ absurd (let e : often j (destinations_near ranks i) ≡ 0 = ap (λ (near : Near). often j near.destinations) (get_or_past ranks i nobody far) in omega (arith, t, p, e))
    ]

pub destination_is_rank : (ranks : List Near) → AgreesAtBothEnds ranks → (i k : ℕ) → k < length (destinations_near ranks i) → rank_at (destinations_near ranks i) k < length ranks
destination_is_rank ranks promise i k w =
    let j = rank_at (destinations_near ranks i) k in
    let t = turn_below (destinations_near ranks i) k w in
    let p = promise.both i j in
    elim (cases_lt j (length ranks)) [
      | inl m ↦ m
      | inr far ↦ absurd (let e : often i (sources_near ranks j) ≡ 0 = ap (λ (near : Near). often i near.sources) (get_or_past ranks j nobody far) in omega (arith, t, p, e))
    ]
