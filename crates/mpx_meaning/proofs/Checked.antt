-- A post that a check lets through fits its communicator.
use Rattle.std.proofs.Common.{◌≡◌, ◌∷◌, [], ◌++◌, ℕ, zero, suc, ◌*◌, ◌==◌, Bool, true, false, not, ◌&&◌, ◌||◌, cond, List, ℤ, pos, negsuc, length, map, Option, Some, None, Result, Ok, Err, refl, sym, ap, ◌∙◌, inl, inr, arith, eqb-true}
use Rattle.std.specs.Prelude.{nat_le, nat_lt, int_le}
use Rattle.std.specs.List.{list_all, sum}
use Rattle.std.specs.Option.{option_map_or}
use Rattle.std.specs.Ordering.{int_eq}
use Rattle.std.proofs.lemmas.Bool.{and_from, and_parts, cases_Bool, or_parts}
use Rattle.std.proofs.lemmas.Bool.Decides.{same_from_decides, Decides-eqb, Decides-int_eq, Decides-like}
use Rattle.std.proofs.lemmas.List.{length-map, map-append}
use Rattle.mpx_num.specs.declared.types.Ty.{Ty}
use Rattle.mpx_num.specs.declared.types.Ty.TheVariants.{I8, TwoInt}
use Rattle.mpx_num.specs.declared.operations.Op.{Op}
use Rattle.mpx_num.specs.declared.operations.Op.TheVariants.{Maxloc}
use Rattle.mpx_num.specs.declared.own.Operation.{Operation}
use Rattle.mpx_num.specs.ItemList.{ItemList, is_whole}
use Rattle.mpx_num.specs.Operations.{fits, is_for}
use Rattle.mpx_num.specs.Types.{is_paired, item_len}
use Rattle.mpx_kind.specs.declared.kinds.Kind.{Kind}
use Rattle.mpx_kind.specs.declared.kinds.Makes.{Makes}
use Rattle.mpx_kind.specs.declared.kinds.Makes.TheVariants as M
use Rattle.mpx_kind.specs.declared.kinds.Seat.{Seat}
use Rattle.mpx_kind.specs.declared.kinds.Sent.{Sent}
use Rattle.mpx_kind.specs.declared.kinds.Sent.TheVariants.{Any, Scounts, Rcounts}
use Rattle.mpx_kind.specs.Kinds.{fields_of, kind_of, number_in, is_gathered, makes_communicators}
use Rattle.mpx_birth.specs.Births.{BirthView, rank_in}
use Rattle.mpx_birth.specs.Topologies.{TopologyView}
use Rattle.mpx_birth.specs.declared.edges.Edge.{Edge}
use Rattle.mpx_birth.specs.declared.edges.Neighbour.{Neighbour}
use Rattle.mpx_group.specs.Group.{has_twice}
use Rattle.mpx_post.specs.declared.draft.At.{At}
use Rattle.mpx_post.specs.declared.draft.Draft.{Draft}
use Rattle.mpx_post.specs.declared.draft.PostError.{PostError}
use Rattle.mpx_post.specs.declared.draft.PostError.TheVariants.{CallsUsedUp, DepthUsedUp, BadGroup, BadEdge, TooManyEdges, BadTag}
use Rattle.mpx_post.specs.declared.drafted_edges.DraftedEdge.{DraftedEdge}
use Rattle.mpx_post.specs.declared.drafted_edges.DraftedNeighbour.{DraftedNeighbour}
use Rattle.mpx_post.specs.Drafts.{are_edges, are_ranks, checked, checked_as, checked_at, checked_in, drafted_numbers, drafted_seat, edge_count, edge_of, first_that_holds, given_by, graph_of, has_bad_group, has_colour_and_key, has_its_counts, is_count, is_drafted_root, is_edge, is_misfilled, is_misplaced, is_neighbour, is_of, is_rank, is_weight, making_of, misfill, most_calls, most_steps, natural, naturals, neighbour_of, ranks_in, received_counts, refusals, sent_counts, stray_refusals, unless, where_had}
use Rattle.mpx_post.specs.Graphs.{most_edges}
use Rattle.mpx_post.specs.Posts.{Given, destinations_in, edges_in, group_in, sources_in, suits, fits_root, fits_type}
use Rattle.mpx_post.specs.Seats.{lacks_topology, seat_at}
use Rattle.mpx_post.specs.Blocks.{blocks_sent, repeated}
use Rattle.mpx_post.specs.Agreement.{blocks_of, fill, fits_counts, fits_edges, fits_group, is_fit, is_root, seat_of}
use Rattle.mpx_post.proofs.Checks.{closed_first, never}
use Rattle.mpx_post.proofs.Limits.{from_not, is_for-fits, right, right_more, type_given}
use Rattle.mpx_match.specs.Questions.{fits_there}

-- WHAT NO REFUSAL SAYS

passed_first : (b : Bool) (e : PostError) (rest : Option PostError) → cond b (Some e) rest ≡ None → (b ≡ false) × (rest ≡ None)
passed_first true e rest h = cc
passed_first false e rest h = (refl, h)

none_told : (o : Option PostError) (x given : Given) → unless o x ≡ Ok given → (o ≡ None) × (x ≡ given)
none_told None x given h = (refl, cc)
none_told (Some e) x given h = cc

-- ITEMS AND COUNTS

root_fits : (had : Bool) (size : ℕ) (z : ℤ) → (had && not (is_rank size z)) ≡ false → option_map_or (λ root. nat_lt root size) (where_had had (natural z)) true ≡ true
root_fits true size z h = (and_parts (int_le (pos 0) z) (nat_lt (natural z) size) (from_not (is_rank size z) h)).1
root_fits false size z h = refl

root_same : (had : Bool) (size rank : ℕ) (z : ℤ) → (had && not (is_rank size z)) ≡ false → option_map_or (λ root. root == rank) (where_had had (natural z)) false ≡ (had && int_eq z (pos rank))
root_same true size rank (pos n) h = same_from_decides _ _ (Decides-like _ (ap pos) (λ e. cc) (Decides-eqb n rank)) (Decides-int_eq (pos n) (pos rank))
root_same true size rank (negsuc n) h = cc
root_same false size rank z h = refl

abbrev TypeStands : (with_op with_items : Bool) → Op → Ty → (Op → Ty → Bool) → List ℤ → Type 0
TypeStands with_op with_items op ty stands nums = option_map_or (λ o. stands o (option_map_or (λ (items : ItemList). items.ty) (where_had with_items (record { ty = ty; nums = nums })) I8)) (where_had with_op op) true ≡ true

-- a kind with an operation has items, since pairs may stand beside it
has_items_by : (with_op with_items : Bool) → (cond with_op (fits Maxloc TwoInt) true ≡ true → TypeStands with_op with_items Maxloc TwoInt fits []) → with_op ≡ true → with_items ≡ true
has_items_by true true f e = refl
has_items_by true false f e = let never = f refl in cc
has_items_by false with_items f e = cc

has_items : (kind : Kind) → (fields_of kind).op ≡ true → (fields_of kind).items ≡ true
has_items kind = has_items_by (fields_of kind).op (fields_of kind).items (type_given kind Maxloc TwoInt [])

suits_by : (ops : List Operation) (with_op with_items : Bool) (op : Op) (ty : Ty) (nums : List ℤ) → (with_op ≡ true → with_items ≡ true) → (with_op && not (is_for ops op ty)) ≡ false → TypeStands with_op with_items op ty (is_for ops) nums
suits_by ops true true op ty nums both h = from_not (is_for ops op ty) h
suits_by ops true false op ty nums both h = let never = both refl in cc
suits_by ops false with_items op ty nums both h = refl

repeated-naturals : (n : ℕ) (zs : List ℤ) → repeated n (naturals zs) ≡ naturals (repeated n zs)
repeated-naturals zero zs = refl
repeated-naturals (suc n) zs = ap (λ (ns : List ℕ). naturals zs ++ ns) (repeated-naturals n zs) ∙ sym (map-append natural zs (repeated n zs))

all_appended : (p : ℤ → Bool) (xs ys : List ℤ) → list_all p xs ≡ true → list_all p ys ≡ true → list_all p (xs ++ ys) ≡ true
all_appended p [] ys h k = k
all_appended p (x ∷ xs) ys h k = let parts = and_parts (p x) (list_all p xs) h in and_from _ _ parts.0 (all_appended p xs ys parts.1 k)

all_repeated : (p : ℤ → Bool) (n : ℕ) (xs : List ℤ) → list_all p xs ≡ true → list_all p (repeated n xs) ≡ true
all_repeated p zero xs h = refl
all_repeated p (suc n) xs h = all_appended p xs (repeated n xs) h (all_repeated p n xs h)

none_of : (paired : Bool) (s : ℕ) → (s * cond paired 2 1 == 0) ≡ true → (s * 1 == 0) ≡ true
none_of paired zero h = refl
none_of true (suc s) h = absurd (omega (arith, eqb-true _ _ h))
none_of false (suc s) h = absurd (omega (arith, eqb-true _ _ h))

filled_by : (had : Bool) (ty : Ty) (nums : List ℤ) (s : ℕ) → (s * item_len ty == length (cond had nums [])) ≡ true
    → (s * item_len (option_map_or (λ (items : ItemList). items.ty) (where_had had (record { ty = ty; nums = nums })) I8) == length (option_map_or (λ (items : ItemList). items.nums) (where_had had (record { ty = ty; nums = nums })) [])) ≡ true
filled_by true ty nums s h = h
filled_by false ty nums s h = none_of (is_paired ty) s h

not_misfilled : (counts : List ℤ) (ty : Ty) (nums : List ℤ) → list_all is_count counts ≡ true → misfill (Some counts) ty nums ≡ false → (sum (naturals counts) * item_len ty == length nums) ≡ true
not_misfilled counts ty nums all h = by_test (list_all is_count counts) (sum (naturals counts) * item_len ty == length nums) all h where
  by_test : (b c : Bool) → b ≡ true → (b && not c) ≡ false → c ≡ true
  by_test true c is h = from_not c h
  by_test false c is h = cc

fills : (draft : Draft) (sent : Sent) (seat : Seat) (scounts rcounts : List ℤ) → list_all is_count scounts ≡ true → list_all is_count rcounts ≡ true → misfill (blocks_sent sent seat scounts rcounts) draft.ty (drafted_numbers draft) ≡ false
    → fill (blocks_sent sent seat (naturals scounts) (naturals rcounts)) (given_by draft) ≡ true
fills draft Any seat scounts rcounts s r h = refl
fills draft (Scounts number) seat scounts rcounts s r h =
    let n : ℕ = number_in number seat in
    ap (λ o. fill (Some o) (given_by draft)) (repeated-naturals n scounts)
    ∙ filled_by (fields_of (kind_of draft.call)).items draft.ty draft.items (sum (naturals (repeated n scounts))) (not_misfilled (repeated n scounts) draft.ty (drafted_numbers draft) (all_repeated is_count n scounts s) h)
fills draft (Rcounts number) seat scounts rcounts s r h =
    let n : ℕ = number_in number seat in
    ap (λ o. fill (Some o) (given_by draft)) (repeated-naturals n rcounts)
    ∙ filled_by (fields_of (kind_of draft.call)).items draft.ty draft.items (sum (naturals (repeated n rcounts))) (not_misfilled (repeated n rcounts) draft.ty (drafted_numbers draft) (all_repeated is_count n rcounts r) h)

-- WHAT IS SAID OF A NEW COMMUNICATOR

ranks_below : (size : ℕ) (zs : List ℤ) → list_all (is_rank size) zs ≡ true → list_all (λ r. nat_lt r size) (naturals zs) ≡ true
ranks_below size [] h = refl
ranks_below size (z ∷ zs) h =
    let parts = and_parts (is_rank size z) (list_all (is_rank size) zs) h in
    and_from _ _ (and_parts (int_le (pos 0) z) (nat_lt (natural z) size) parts.0).1 (ranks_below size zs parts.1)

group_fits : (size : ℕ) (makes : Makes) (draft : Draft) → are_ranks size (ranks_in makes draft) ≡ true
    → (not (has_twice (group_in (making_of makes draft.colour draft.key draft.group (graph_of draft)))) && list_all (λ r. nat_lt r size) (group_in (making_of makes draft.colour draft.key draft.group (graph_of draft)))) ≡ true
group_fits size M.Nothing draft h = refl
group_fits size M.Colour draft h = refl
group_fits size M.Group draft h = let parts = and_parts (list_all (is_rank size) draft.group) (not (has_twice (naturals draft.group))) h in and_from _ _ parts.1 (ranks_below size draft.group parts.0)
group_fits size M.Edges draft h = refl
group_fits size M.Neighbours draft h = refl

edges_below : (size : ℕ) (weighted : Bool) (edges : List DraftedEdge) → list_all (is_edge size weighted) edges ≡ true
    → list_all (λ (e : Edge). nat_lt e.source size && nat_lt e.destination size) (map (edge_of weighted) edges) ≡ true
edges_below size weighted [] h = refl
edges_below size weighted (e ∷ edges) h =
    let parts = and_parts (is_edge size weighted e) (list_all (is_edge size weighted) edges) h in
    let source = and_parts (is_rank size e.source) (is_rank size e.destination && is_weight weighted e.weight) parts.0 in
    let destination = and_parts (is_rank size e.destination) (is_weight weighted e.weight) source.1 in
    and_from _ _
    (and_from _ _ (and_parts (int_le (pos 0) e.source) (nat_lt (natural e.source) size) source.0).1 (and_parts (int_le (pos 0) e.destination) (nat_lt (natural e.destination) size) destination.0).1)
    (edges_below size weighted edges parts.1)

neighbours_below : (size : ℕ) (weighted : Bool) (ns : List DraftedNeighbour) → list_all (is_neighbour size weighted) ns ≡ true → list_all (λ (n : Neighbour). nat_lt n.rank size) (map (neighbour_of weighted) ns) ≡ true
neighbours_below size weighted [] h = refl
neighbours_below size weighted (n ∷ ns) h =
    let parts = and_parts (is_neighbour size weighted n) (list_all (is_neighbour size weighted) ns) h in
    let rank = and_parts (is_rank size n.rank) (is_weight weighted n.weight) parts.0 in
    and_from _ _ (and_parts (int_le (pos 0) n.rank) (nat_lt (natural n.rank) size) rank.0).1 (neighbours_below size weighted ns parts.1)

edges_fit : (size : ℕ) (makes : Makes) (draft : Draft) → are_edges makes size (graph_of draft) ≡ true
    → (list_all (λ (e : Edge). nat_lt e.source size && nat_lt e.destination size) (edges_in (making_of makes draft.colour draft.key draft.group (graph_of draft)))
    && (list_all (λ (n : Neighbour). nat_lt n.rank size) (sources_in (making_of makes draft.colour draft.key draft.group (graph_of draft)))
    && list_all (λ (n : Neighbour). nat_lt n.rank size) (destinations_in (making_of makes draft.colour draft.key draft.group (graph_of draft))))) ≡ true
edges_fit size M.Nothing draft h = refl
edges_fit size M.Colour draft h = refl
edges_fit size M.Group draft h = refl
edges_fit size M.Edges draft h = and_from _ _ (edges_below size (graph_of draft).weighted (graph_of draft).edges h) refl
edges_fit size M.Neighbours draft h =
    let parts = and_parts (list_all (is_neighbour size (graph_of draft).weighted) (graph_of draft).sources) (list_all (is_neighbour size (graph_of draft).weighted) (graph_of draft).destinations) h in
    and_from _ _ (neighbours_below size (graph_of draft).weighted (graph_of draft).sources parts.0) (neighbours_below size (graph_of draft).weighted (graph_of draft).destinations parts.1)

-- TOGETHER

module _ (ops : List Operation) (birth : BirthView) (rank : ℕ) (at : At) (draft : Draft) where
  abbrev kind : Kind
  kind = kind_of draft.call

  abbrev size : ℕ
  size = length birth.members

  abbrev seat : Seat
  seat = drafted_seat birth rank draft

  abbrev for_type : Bool
  for_type = is_for ops draft.op draft.ty

  fits_by : lacks_topology birth.topology kind ≡ false → first_that_holds (refusals for_type seat at draft) ≡ None → fits_there ops birth.topology size rank (given_by draft) ≡ true
  fits_by has none =
      let root = passed_first _ _ _ none in
      let op = passed_first _ _ _ root.1 in
      let counts = passed_first _ _ _ op.1 in
      let items = passed_first _ _ _ counts.1 in
      let ranges = passed_first _ _ _ items.1 in
      let many = passed_first _ _ _ ranges.1 in
      let calls = passed_first (at.call == most_calls) CallsUsedUp _ many.1 in
      let depth = passed_first (makes_communicators kind && nat_le most_steps at.depth) DepthUsedUp _ calls.1 in
      let group = passed_first (has_bad_group size at draft) BadGroup _ depth.1 in
      let behind : Option PostError = first_that_holds ((nat_lt most_edges (edge_count (fields_of kind).makes (graph_of draft)), TooManyEdges) ∷ (not (has_colour_and_key (fields_of kind).makes draft), BadTag) ∷ []) in
      let edges = passed_first (not (are_edges (fields_of kind).makes size (graph_of draft))) BadEdge behind group.1 in
      let rootless : ((fields_of kind).root && not (is_rank size draft.root)) ≡ false = root.0 in
      let opless : ((fields_of kind).op && not for_type) ≡ false = op.0 in
      let so_many = and_parts _ _ (from_not (has_its_counts seat draft) counts.0) in
      let small = and_parts (list_all is_count (sent_counts draft)) (list_all is_count (received_counts draft)) (from_not _ (or_parts _ _ many.0).1) in
      let filled : is_misfilled seat draft ≡ false = (or_parts (not (is_whole draft.ty (drafted_numbers draft))) (is_misfilled seat draft) items.0).1 in
      let grouped : are_ranks size (ranks_in (fields_of kind).makes draft) ≡ true = from_not _ (or_parts (is_misplaced at.gathering (is_gathered kind)) _ group.0).1 in
      let joined : are_edges (fields_of kind).makes size (graph_of draft) ≡ true = from_not _ edges.0 in
      let same : seat_of birth.topology size rank (given_by draft) ≡ seat = ap (seat_at birth.topology size rank) (root_same (fields_of kind).root size rank draft.root rootless) in
      let type : fits_type (given_by draft) ≡ true = type_given kind draft.op draft.ty draft.items (right_more (fields_of kind).op for_type (fits draft.op draft.ty) (is_for-fits ops draft.op draft.ty) (right (fields_of kind).op for_type opless)) in
      let amounts : fits_counts seat (given_by draft) ≡ true =
      and_from _ _ (ap (λ n. n == number_in (fields_of kind).scounts seat) (length-map (sent_counts draft) natural) ∙ so_many.0)
      (and_from _ _ (ap (λ n. n == number_in (fields_of kind).rcounts seat) (length-map (received_counts draft) natural) ∙ so_many.1)
      (fills draft (fields_of kind).sent seat (sent_counts draft) (received_counts draft) small.0 small.1 filled)) in
      and_from _ _
      (and_from _ _ (root_fits (fields_of kind).root size draft.root rootless)
      (and_from _ _ type
      (and_from _ _ (ap (λ s. fits_counts s (given_by draft)) same ∙ amounts)
      (and_from _ _ (group_fits size (fields_of kind).makes draft grouped)
      (and_from _ _ (edges_fit size (fields_of kind).makes draft joined)
      (ap not has))))))
      (suits_by ops (fields_of kind).op (fields_of kind).items draft.op draft.ty draft.items (has_items kind) opless)

  fits_as : (given : Given) → checked_as ops rank birth at draft ≡ Ok given → fits_there ops birth.topology size rank given ≡ true
  fits_as given h = elim (cases_Bool (lacks_topology birth.topology kind)) [
    | inl lacks ↦ absurd (never (not (list_all (is_of draft.ty) (drafted_numbers draft))) _ (given_by draft) given (rw lacks at h))
    | inr has ↦
        let passed : checked_in for_type seat at draft ≡ Ok given = rw has at h in
        let told = none_told (first_that_holds (refusals for_type seat at draft)) (given_by draft) given passed in
        ap (λ g. fits_there ops birth.topology size rank g) (sym told.1) ∙ fits_by has told.0
  ]

pub checked_fits : (ops : List Operation) (birth : BirthView) (me rank : ℕ) (at : At) (draft : Draft) (given : Given) → rank_in me birth.members ≡ Some rank → checked ops birth me at draft ≡ Ok given → fits_there ops birth.topology (length birth.members) rank given ≡ true
unfolding checked
checked_fits ops birth me rank at draft given member h =
    let found : checked_at ops (Some rank) birth at draft ≡ Ok given = ap (λ o. checked_at ops o birth at draft) (sym member) ∙ h in
    fits_as ops birth rank at draft given (closed_first at.closed (checked_as ops rank birth at draft) given found).1
