-- The one call of whole blocks is fine where a part is, and all ranks give blocks of one count.
use Rattle.std.proofs.Common.{◌≡◌, ◌==◌, ℕ, ◌*◌, ◌/◌, ◌<◌, true, false, ◌∷◌, [], List, ℤ, Option, Some, None, length, map, cond, is_some, unwrap_or, inl, inr, refl, ap, ap₂, sym, subst, ◌∙◌, eq-eqb, mul_assoc, arith}
use Rattle.std.specs.List.{sum}
use Rattle.std.specs.Option.{option_map_or}
use Rattle.std.specs.Prelude.{slice_get}
use Rattle.std.proofs.lemmas.Bool.{and_from, cases_lt}
use Rattle.std.proofs.lemmas.Bool.Decides.{nat_tests}
use Rattle.std.proofs.lemmas.List.{get_or_past, length-map}
use Rattle.std.proofs.lemmas.List.Folds.{sum_by-replicate}
use Rattle.mpx_num.specs.Types.{item_len}
use Rattle.mpx_num.proofs.Parts.{item_len-positive}
use Rattle.mpx_kind.specs.declared.kinds.Kind.{Kind}
use Rattle.mpx_kind.specs.declared.kinds.Kind.TheVariants as K
use Rattle.mpx_kind.specs.declared.kinds.Exchange.{Exchange}
use Rattle.mpx_kind.specs.declared.kinds.Exchange.TheVariants.{Barrier, Bcast, Gather, Gatherv, Scatter, Scatterv, Allgather, Allgatherv, Alltoall, Alltoallv}
use Rattle.mpx_kind.specs.Kinds.{fields_of, number_in}
use Rattle.mpx_birth.specs.Topologies.{TopologyView}
use Rattle.mpx_birth.specs.Edges.{weights_of}
use Rattle.mpx_post.specs.Posts.{Given, count_of, destinations_of, group_of, nothing_given, numbers_of, root_of, sources_of, type_of, weighted_of}
use Rattle.mpx_post.specs.Rows.{RowView}
use Rattle.mpx_post.specs.Blocks.{blocks_sent, repeated}
use Rattle.mpx_post.specs.Agreement.{Agrees, AmountsAgree, IsFine, count_at, fill, first_of, is_fit, is_root, post_at, received, seat_of, type_given}
use Rattle.mpx_post.proofs.Agreement.{Fits, fits_parts, same_type}
use Rattle.mpx_post.proofs.Blocks.{rcounts_as, repeated-replicate}
use Rattle.mpx_parts.specs.Exchanges.{HasEqualBlocks, blocks_given}
use Rattle.mpx_parts.specs.OneCall.{IsOfCount, of_whole}
use Rattle.mpx_parts.proofs.Exchanged.{kind_at, root_below, so_many}

-- ONE POST

one_count : (count : ℕ) (counts : List ℕ) → length counts ≡ 1 → map (λ (n : ℕ). count) counts ≡ count ∷ []
one_count count [] one = absurd (omega (arith, one))
one_count count (c ∷ []) one = refl
one_count count (c ∷ d ∷ counts) one = absurd (omega (arith, one))

-- blocks of one count are filled
filled_by : (blocks count : ℕ) (counts : List ℕ) (given : Given) → counts ≡ count ∷ [] → length (numbers_of given) ≡ blocks * (count * item_len (type_of given)) → fill (Some (repeated blocks counts)) given ≡ true
filled_by blocks count counts given alone long =
    let total : sum (repeated blocks counts) ≡ blocks * count = ap (λ c. sum (repeated blocks c)) alone ∙ ap sum (repeated-replicate blocks count) ∙ sum_by-replicate (λ n. n) blocks count in
    eq-eqb _ _ (ap (λ n. n * item_len (type_of given)) total ∙ mul_assoc blocks count (item_len (type_of given)) ∙ sym long)

turned : (a b : ℕ) → (a == b) ≡ (b == a)
turned a b = grind (arith, nat_tests)

same_root : (root : Option ℕ) (rank : ℕ) → is_some root ≡ true → option_map_or (λ r. r == rank) root false ≡ (rank == unwrap_or root 0)
same_root None rank some = cc
same_root (Some r) rank some = turned r rank

-- a post that fits, of other items
fits_whole : (topology : Option TopologyView) (size rank count : ℕ) (given : Given) (nums : List ℤ) → Fits topology size rank given
    → fill (blocks_sent (fields_of given.kind).sent (seat_of topology size rank given) given.scounts (map (λ (n : ℕ). count) given.rcounts)) (of_whole given count nums) ≡ true
    → is_fit topology size rank (of_whole given count nums) ≡ true
fits_whole topology size rank count given nums fits filled =
    let counts = length-map given.rcounts (λ (n : ℕ). count) ∙ fits.rcounts in
    and_from _ _ fits.root (and_from _ _ fits.type (and_from _ _ (and_from _ _ (eq-eqb _ _ fits.scounts) (and_from _ _ (eq-eqb _ _ counts) filled)) (and_from _ _ fits.group (and_from _ _ fits.edges fits.edged))))

-- THE ROW

module _ (exchange : Exchange) (count : ℕ) (row part : RowView) (equal : HasEqualBlocks exchange) (of_count : IsOfCount exchange count row part) where
  within : (rank : ℕ) → rank < length row → rank < length part
  within rank below = omega (arith, below, of_count.ranks)

  -- what is read of a post of the one call
  as_part : {A : Type 0} (read : Given → A) (rank : ℕ) → rank < length row → read (post_at row rank) ≡ read (of_whole (post_at part rank) count (numbers_of (post_at row rank)))
  as_part read rank below = ap read (of_count.posts rank below)

  some : (rank : ℕ) → rank < length row → 0 < length row
  some rank below = omega (arith, below)

  kind_as : (rank : ℕ) → rank < length row → (post_at part rank).kind ≡ K.Exchange exchange
  kind_as rank below = kind_at part (K.Exchange exchange) rank of_count.fine of_count.kind (within rank below)

  type_as : (rank : ℕ) → rank < length row → type_of (post_at part rank) ≡ type_of (first_of part)
  type_as rank below = same_type part rank of_count.fine (within rank below)

  fit_as : (rank : ℕ) → rank < length row → is_fit of_count.fine.topology (length part) rank (post_at part rank) ≡ true
  fit_as rank below = (of_count.fine.with.each rank (within rank below)).fit

  root_as : (rank : ℕ) → rank < length row → (fields_of (K.Exchange exchange)).root ≡ true → is_root rank (post_at part rank) ≡ (rank == root_of (first_of part))
  root_as rank below rooted =
      ap (λ (o : Option ℕ). option_map_or (λ r. r == rank) o false) (of_count.fine.with.each rank (within rank below)).root ∙ same_root (first_of part).root rank (of_count.root ∙ rooted)

  whole : ℕ → Given
  whole rank = of_whole (post_at part rank) count (numbers_of (post_at row rank))

  -- so many blocks of the count
  long_as : (rank blocks : ℕ) → rank < length row → blocks_given exchange (length row) (rank == root_of (first_of part)) ≡ blocks → length (numbers_of (post_at row rank)) ≡ blocks * (count * item_len (type_of (post_at part rank)))
  long_as rank blocks below is = of_count.long rank below ∙ ap₂ (λ n t. n * (count * item_len t)) is (sym (type_as rank below))

  received_as : (rank : ℕ) → rank < length row → length (post_at part rank).rcounts ≡ 1 → received (post_at row rank) ≡ count
  received_as rank below one = as_part received rank below ∙ ap (λ counts. count_at counts 0) (one_count count (post_at part rank).rcounts one)

  count_as : (rank : ℕ) → rank < length row → blocks_given exchange (length row) (rank == root_of (first_of part)) ≡ 1 → count_of (post_at row rank) ≡ count
  count_as rank below one =
      let long : length (numbers_of (post_at row rank)) ≡ count * item_len (type_of (post_at part rank)) = long_as rank 1 below one ∙ omega arith in
      ap (λ t. length (numbers_of (post_at row rank)) / item_len t) (as_part type_of rank below)
      ∙ so_many count (item_len (type_of (post_at part rank))) (length (numbers_of (post_at row rank))) long (item_len-positive (type_of (post_at part rank)))

  root_within : 0 < length row → root_of (first_of row) < length row
  root_within any =
      let root = root_below part of_count.fine (within 0 any) in
      omega (arith, as_part root_of 0 any, root, of_count.ranks)

-- the one list of counts that a rank gives to the one call
one_of : (kind : Kind) (exchange : Exchange) (count : ℕ) (row part : RowView) (equal : HasEqualBlocks exchange) (of_count : IsOfCount exchange count row part) → K.Exchange exchange ≡ kind → (rank : ℕ) → rank < length row
    → length (post_at part rank).rcounts ≡ number_in (fields_of kind).rcounts (seat_of of_count.fine.topology (length part) rank (post_at part rank))
one_of kind exchange count row part equal of_count is rank below =
    rcounts_as of_count.fine.topology kind (length part) rank (post_at part rank) (kind_as exchange count row part equal of_count rank below ∙ is) (fit_as exchange count row part equal of_count rank below)

filled_of : (exchange : Exchange) (count : ℕ) (row part : RowView) (equal : HasEqualBlocks exchange) (of_count : IsOfCount exchange count row part) (rank : ℕ) → rank < length row
    → fill (blocks_sent (fields_of (K.Exchange exchange)).sent (seat_of of_count.fine.topology (length part) rank (post_at part rank)) (post_at part rank).scounts (map (λ (n : ℕ). count) (post_at part rank).rcounts)) (of_whole (post_at part rank) count (numbers_of (post_at row rank))) ≡ true
filled_of Barrier count row part equal of_count rank below = absurd equal
filled_of Gatherv count row part equal of_count rank below = absurd equal
filled_of Scatterv count row part equal of_count rank below = absurd equal
filled_of Allgatherv count row part equal of_count rank below = absurd equal
filled_of Alltoallv count row part equal of_count rank below = absurd equal
filled_of Gather count row part equal of_count rank below = refl
filled_of Allgather count row part equal of_count rank below = refl
filled_of Bcast count row part equal of_count rank below =
    let blocks = cond (is_root rank (post_at part rank)) 1 0 in
    filled_by blocks count _ (of_whole (post_at part rank) count (numbers_of (post_at row rank)))
    (one_count count (post_at part rank).rcounts (one_of (K.Exchange Bcast) Bcast count row part equal of_count refl rank below))
    (long_as Bcast count row part equal of_count rank blocks below (ap (λ b. cond b 1 0) (sym (root_as Bcast count row part equal of_count rank below refl))))
filled_of Scatter count row part equal of_count rank below =
    let blocks = cond (is_root rank (post_at part rank)) (length part) 0 in
    filled_by blocks count _ (of_whole (post_at part rank) count (numbers_of (post_at row rank)))
    (one_count count (post_at part rank).rcounts (one_of (K.Exchange Scatter) Scatter count row part equal of_count refl rank below))
    (long_as Scatter count row part equal of_count rank blocks below (ap₂ (λ b n. cond b n 0) (sym (root_as Scatter count row part equal of_count rank below refl)) of_count.ranks))
filled_of Alltoall count row part equal of_count rank below =
    filled_by (length part) count _ (of_whole (post_at part rank) count (numbers_of (post_at row rank)))
    (one_count count (post_at part rank).rcounts (one_of (K.Exchange Alltoall) Alltoall count row part equal of_count refl rank below))
    (long_as Alltoall count row part equal of_count rank (length part) below of_count.ranks)

amounts_of : (exchange : Exchange) (count : ℕ) (row part : RowView) (equal : HasEqualBlocks exchange) (of_count : IsOfCount exchange count row part) (rank : ℕ) → rank < length row → AmountsAgree of_count.fine.topology (K.Exchange exchange) row rank (post_at row rank)
amounts_of Barrier count row part equal of_count rank below = absurd equal
amounts_of Gatherv count row part equal of_count rank below = absurd equal
amounts_of Scatterv count row part equal of_count rank below = absurd equal
amounts_of Allgatherv count row part equal of_count rank below = absurd equal
amounts_of Alltoallv count row part equal of_count rank below = absurd equal
amounts_of Gather count row part equal of_count rank below =
    count_as Gather count row part equal of_count rank below refl
    ∙ sym (count_as Gather count row part equal of_count (root_of (first_of row)) (root_within Gather count row part equal of_count (omega (arith, below))) refl)
amounts_of Allgather count row part equal of_count rank below =
    count_as Allgather count row part equal of_count rank below refl ∙ sym (count_as Allgather count row part equal of_count 0 (omega (arith, below)) refl)
amounts_of Bcast count row part equal of_count rank below =
    let its = λ (n : ℕ) (l : n < length row). received_as Bcast count row part equal of_count n l (one_of (K.Exchange Bcast) Bcast count row part equal of_count refl n l) in
    its rank below ∙ sym (its 0 (omega (arith, below)))
amounts_of Scatter count row part equal of_count rank below =
    let its = λ (n : ℕ) (l : n < length row). received_as Scatter count row part equal of_count n l (one_of (K.Exchange Scatter) Scatter count row part equal of_count refl n l) in
    its rank below ∙ sym (its (root_of (first_of row)) (root_within Scatter count row part equal of_count (omega (arith, below))))
amounts_of Alltoall count row part equal of_count rank below =
    let its = λ (n : ℕ) (l : n < length row). received_as Alltoall count row part equal of_count n l (one_of (K.Exchange Alltoall) Alltoall count row part equal of_count refl n l) in
    its rank below ∙ sym (its 0 (omega (arith, below)))

module _ (exchange : Exchange) (count : ℕ) (row part : RowView) (equal : HasEqualBlocks exchange) (of_count : IsOfCount exchange count row part) (rank : ℕ) (below : rank < length row) where
  read : {A : Type 0} (f : Given → A) (n : ℕ) → n < length row → f (post_at row n) ≡ f (of_whole (post_at part n) count (numbers_of (post_at row n)))
  read f n l = as_part exchange count row part equal of_count f n l

  first : 0 < length row
  first = omega (arith, below)

  there : rank < length part
  there = within exchange count row part equal of_count rank below

  agreed : Agrees of_count.fine.topology part rank
  agreed = of_count.fine.with.each rank there

  fits : is_fit of_count.fine.topology (length row) rank (post_at row rank) ≡ true
  fits =
      let topology = of_count.fine.topology in
      let given = post_at part rank in
      let kind = kind_as exchange count row part equal of_count rank below in
      let filled = subst (λ (k : Kind). fill (blocks_sent (fields_of k).sent (seat_of topology (length part) rank given) given.scounts (map (λ (n : ℕ). count) given.rcounts)) (of_whole given count (numbers_of (post_at row rank))) ≡ true) (sym kind) (filled_of exchange count row part equal of_count rank below) in
      ap₂ (λ size g. is_fit topology size rank g) of_count.ranks (of_count.posts rank below)
      ∙ fits_whole topology (length part) rank count given (numbers_of (post_at row rank)) (fits_parts topology (length part) rank given agreed.fit) filled

  same_group : (member : ℕ) → group_of (post_at row member) ≡ group_of (post_at part member)
  same_group member = elim (cases_lt member (length row)) as (λ _. group_of (post_at row member) ≡ group_of (post_at part member)) [
    | inl less ↦ read group_of member less
    | inr more ↦ ap group_of (get_or_past row member nothing_given more ∙ sym (get_or_past part member nothing_given (omega (arith, more, of_count.ranks))))
  ]

  agrees : Agrees of_count.fine.topology row rank
  agrees = record {
    fit = fits;
    kind = read (λ g. g.kind) rank below ∙ agreed.kind ∙ sym (read (λ g. g.kind) 0 first);
    mode = read (λ g. g.mode) rank below ∙ agreed.mode ∙ sym (read (λ g. g.mode) 0 first);
    root = read (λ g. g.root) rank below ∙ agreed.root ∙ sym (read (λ g. g.root) 0 first);
    op = read (λ g. g.op) rank below ∙ agreed.op ∙ sym (read (λ g. g.op) 0 first);
    ty = read type_given rank below ∙ ap Some (type_as exchange count row part equal of_count rank below) ∙ sym (read type_given 0 first);
    amounts = subst (λ (k : Kind). AmountsAgree of_count.fine.topology k row rank (post_at row rank)) (sym (read (λ g. g.kind) 0 first ∙ of_count.kind)) (amounts_of exchange count row part equal of_count rank below);
    weights = read weighted_of rank below ∙ agreed.weights ∙ sym (read weighted_of 0 first);
    edges = λ other l. read (λ g. weights_of other (destinations_of g)) rank below ∙ agreed.edges other (within exchange count row part equal of_count other l) ∙ sym (read (λ g. weights_of rank (sources_of g)) other l);
    groups = λ place member is. same_group member ∙ agreed.groups place member (sym (ap (λ group. slice_get group place) (same_group rank)) ∙ is) ∙ sym (same_group rank);
  }

pub is_fine : (exchange : Exchange) (count : ℕ) (row part : RowView) → HasEqualBlocks exchange → IsOfCount exchange count row part → IsFine row
is_fine exchange count row part equal of_count = record { topology = of_count.fine.topology; with = record { each = λ rank below. agrees exchange count row part equal of_count rank below } }
