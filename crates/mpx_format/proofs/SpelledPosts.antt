-- Posts within the limits of their type have a spelling in version 2.
use Rattle.std.proofs.Common.{◌≡◌, ℕ, ℤ, ◌+◌, ◌-◌, ◌*◌, ◌/◌, ◌^◌, ◌<◌, ◌≤◌, Bool, true, false, ltb, ◌&&◌, List, [], ◌∷◌, length, Option, Some, None, refl, ap, subst, ◌∙◌, arith}
use Rattle.std.specs.Prelude.{is_some, slice_index_or}
use Rattle.std.specs.List.{All}
use Rattle.std.specs.Option.{option_map, option_map_or}
use Rattle.std.proofs.lemmas.Bool.{lt-ltb, le-leb, ltb-true, eqb-true, eq-eqb, and_from, or_right}
use Rattle.mpx_group.proofs.Members.{length_distinct}
use Rattle.mpx_num.specs.ItemList.{ItemList, AreItems}
use Rattle.mpx_num.specs.Types.{IsInRange, item_len}
use Rattle.mpx_num.specs.Operations.{fits}
use Rattle.mpx_num.specs.Codes.{code_of_type}
use Rattle.mpx_num.specs.declared.types.Ty.{Ty}
use Rattle.mpx_num.specs.declared.types.Ty.TheVariants.{I8, I16, I32, I64, U8, U16, U32, U64, TwoInt}
use Rattle.mpx_num.specs.declared.operations.Op.{Op}
use Rattle.mpx_num.specs.declared.operations.Op.TheVariants.{Max, Min, Sum, Prod, Land, Lor, Lxor, Band, Bor, Bxor, Maxloc, Minloc, Own}
use Rattle.mpx_kind.specs.declared.kinds.Kind.{Kind}
use Rattle.mpx_kind.specs.declared.kinds.Mode.{Mode}
use Rattle.mpx_kind.specs.declared.kinds.Mode.TheVariants.{Blocking, Nonblocking}
use Rattle.mpx_kind.specs.declared.kinds.Makes.{Makes}
use Rattle.mpx_kind.specs.Kinds.{fields_of, is_had, may_be}
use Rattle.mpx_birth.specs.declared.edges.Edge.{Edge}
use Rattle.mpx_birth.specs.declared.edges.Neighbour.{Neighbour}
use Rattle.mpx_birth.specs.Topologies.{fits_weight}
use Rattle.mpx_post.specs.declared.making.Making.{Making}
use Rattle.mpx_post.specs.declared.making.Making.TheVariants.{Nothing, Split, Group, Edges, Neighbours}
use Rattle.mpx_post.specs.Graphs.{EdgesView, NeighboursView, most_edges, IsWeight, IsEdge, IsNeighbour, AreEdges, AreNeighbours}
use Rattle.mpx_post.specs.Ranks.{AreRanks}
use Rattle.mpx_post.specs.Posts.{Given, most_items, most_counts, AreCounts, few_items, IsColour, makes_of, IsWithin, IsMaking, key_in, key_of, type_of, NoneUnless, are_items_of, IsPost}
use Rattle.mpx_format.specs.declared.versions.Version.TheVariants.{Two}
use Rattle.mpx_format.specs.Format.{many_fit}
use Rattle.mpx_format.specs.Fields.{process}
use Rattle.mpx_format.specs.Codes.{kind, mode, operation, item_type, flag, when}
use Rattle.mpx_format.specs.Births.{neighbour}
use Rattle.mpx_format.specs.Posts.{type_for, no_list, count, counts, counts_if, integer, item_count, items, items_for, choice, split, ranks, group, edge, edge_count, edges, few_neighbours, own, making_for, nums_of, post}
use Rattle.mpx_format.proofs.CodeLaws.{each_kind}
use Rattle.mpx_format.proofs.Integers.{integer_fits}
use Rattle.mpx_format.proofs.Spelled.{each_fit, process_fits, distinct_fit, colour_fits, weight_fits}

pub kind_fits : (k : Kind) → (kind Two).fits k ≡ true
unfolding kind
kind_fits = each_kind (kind Two).fits refl refl

pub mode_fits : (k : Kind) (m : Mode) → may_be m k ≡ true → (mode k).fits m ≡ true
unfolding mode
mode_fits k Blocking h = and_from _ _ refl h
mode_fits k Nonblocking h = and_from _ _ refl h

operation_fits : (o : Op) (ty : Ty) → fits o ty ≡ true → (operation Two).fits o ≡ true
unfolding operation
operation_fits Max ty h = refl
operation_fits Min ty h = refl
operation_fits Sum ty h = refl
operation_fits Prod ty h = refl
operation_fits Land ty h = refl
operation_fits Lor ty h = refl
operation_fits Lxor ty h = refl
operation_fits Band ty h = refl
operation_fits Bor ty h = refl
operation_fits Bxor ty h = refl
operation_fits Maxloc ty h = refl
operation_fits Minloc ty h = refl
operation_fits (Own place) ty h =
    let below : place < 16 = ltb-true place 16 h in
    and_from _ _ (lt-ltb (place + 16) 256 (omega (arith, below)))
    (or_right (ltb 0 (place + 16) && ltb (place + 16) 13) _ (and_from _ _ (lt-ltb 15 (place + 16) (omega arith)) (lt-ltb (place + 16) 32 (omega (arith, below)))))

type_fits : (t : Ty) → item_type.fits t ≡ true
unfolding item_type
type_fits I8 = refl
type_fits I16 = refl
type_fits I32 = refl
type_fits I64 = refl
type_fits U8 = refl
type_fits U16 = refl
type_fits U32 = refl
type_fits U64 = refl
type_fits TwoInt = refl

-- a type is spelled by its code, whatever operation stands beside it
pub type_spelled : (op : Option Op) (ty : Ty) → (type_for op).spelling ty ≡ code_of_type ty ∷ []
unfolding item_type
type_spelled None ty = refl
type_spelled (Some op) ty = refl

pub root_fits : (had : Bool) (root : Option ℕ) → is_some root ≡ had → option_map_or (λ r. ltb r 64) root true ≡ true → (when had process).fits root ≡ true
root_fits true None e below = absurd cc
root_fits true (Some r) e below = process_fits r (ltb-true r 64 below)
root_fits false None e below = refl
root_fits false (Some r) e below = absurd cc

pub had_operation_fits : (had : Bool) (o : Option Op) (ty : Ty) → is_some o ≡ had → option_map_or (λ op. fits op ty) o true ≡ true → (when had (operation Two)).fits o ≡ true
had_operation_fits true None ty e h = absurd cc
had_operation_fits true (Some op) ty e h = operation_fits op ty h
had_operation_fits false None ty e h = refl
had_operation_fits false (Some op) ty e h = absurd cc

pub had_type_fits : (had : Bool) (o : Option Op) (i : Option ItemList) → is_some i ≡ had → option_map_or (λ op. fits op (option_map_or (λ (i : ItemList). i.ty) i I8)) o true ≡ true → (when had (type_for o)).fits (option_map (λ (i : ItemList). i.ty) i) ≡ true
had_type_fits true o None e h = absurd cc
had_type_fits true None (Some i) e h = type_fits i.ty
had_type_fits true (Some op) (Some i) e h = and_from _ _ (type_fits i.ty) h
had_type_fits false o None e h = refl
had_type_fits false o (Some i) e h = absurd cc

counts_fit : (cs : List ℕ) → AreCounts cs → counts.fits cs ≡ true
unfolding counts count
counts_fit cs h =
    let few : length cs ≤ most_counts = h.few in
    and_from _ _ (lt-ltb (length cs) (256 ^ 2) (omega (arith, few)))
    (each_fit count [] cs (λ k d lt. let small : slice_index_or cs k d ≤ 4096 = h.small k d lt in and_from _ _ (lt-ltb (slice_index_or cs k d) (256 ^ 2) (omega (arith, small))) (le-leb (slice_index_or cs k d) 4096 small)))

had_counts_fit : (had : Bool) (cs : List ℕ) → AreCounts cs → NoneUnless had cs → (counts_if had).fits cs ≡ true
had_counts_fit true cs h none = counts_fit cs h
had_counts_fit false cs h none = ap (no_list {A = ℕ}).fits none

-- ITEMS

-- so many whole items are few, where their numbers are
few_whole : (ty : Ty) (n len : ℕ) → n * item_len ty ≡ len → len ≤ most_items * item_len ty → n ≤ 4096
few_whole I8 n len e le = omega (arith, e, le)
few_whole I16 n len e le = omega (arith, e, le)
few_whole I32 n len e le = omega (arith, e, le)
few_whole I64 n len e le = omega (arith, e, le)
few_whole U8 n len e le = omega (arith, e, le)
few_whole U16 n len e le = omega (arith, e, le)
few_whole U32 n len e le = omega (arith, e, le)
few_whole U64 n len e le = omega (arith, e, le)
few_whole TwoInt n len e le = omega (arith, e, le)

items_fit : (ty : Ty) (nums : List ℤ) → AreItems ty nums → length nums ≤ most_items * item_len ty → (items ty).fits nums ≡ true
unfolding items item_count
items_fit ty nums h few =
    let whole : length nums / item_len ty * item_len ty ≡ length nums = eqb-true _ _ h.whole in
    let small : length nums / item_len ty ≤ 4096 = few_whole ty _ _ whole few in
    and_from _ _ (and_from _ _ (lt-ltb (length nums / item_len ty) (256 ^ 2) (omega (arith, small))) (le-leb (length nums / item_len ty) 4096 small))
    (ap (λ n. many_fit (λ before. integer ty) n [] nums) whole ∙ each_fit (integer ty) [] nums (λ k d lt. integer_fits ty (slice_index_or nums k d) (h.in_range k d lt)))

given_items_fit : (i : Option ItemList) → are_items_of i → few_items i → (items_for (option_map (λ (i : ItemList). i.ty) i)).fits (nums_of i) ≡ true
given_items_fit None h few = refl
given_items_fit (Some i) h few = items_fit i.ty i.nums h few

-- WHAT IS SAID OF A NEW COMMUNICATOR

is_weight_of : (weighted : Bool) (w : ℕ) → IsWeight weighted w → fits_weight weighted w ≡ true
is_weight_of true w h = lt-ltb w (2 ^ 31) h
is_weight_of false w h = eq-eqb w 0 h

choice_fits : (c : Option ℕ) → IsColour c → choice.fits c ≡ true
unfolding choice
choice_fits None h = refl
choice_fits (Some c) h = colour_fits c h

ranks_fit : (rs : List ℕ) → AreRanks rs → ranks.fits rs ≡ true
unfolding ranks
ranks_fit rs h = and_from _ _ (lt-ltb (length rs) 256 (omega (arith, length_distinct 64 rs h.distinct h.below))) (distinct_fit [] rs h.distinct h.below)

edge_fits : (weighted : Bool) (e : Edge) → IsEdge weighted e → (edge weighted).fits e ≡ true
unfolding edge
edge_fits weighted e h = and_from _ _ (process_fits e.source h.source) (and_from _ _ (process_fits e.destination h.destination) (weight_fits weighted e.weight (is_weight_of weighted e.weight h.weight)))

given_neighbour_fits : (weighted : Bool) (n : Neighbour) → IsNeighbour weighted n → (neighbour weighted).fits n ≡ true
unfolding neighbour
given_neighbour_fits weighted n h = and_from _ _ (process_fits n.rank h.rank) (weight_fits weighted n.weight (is_weight_of weighted n.weight h.weight))

flag_fits : (b : Bool) → flag.fits b ≡ true
unfolding flag
flag_fits false = refl
flag_fits true = refl

edge_count_fits : (most n : ℕ) → most ≤ 512 → n ≤ most → (edge_count most).fits n ≡ true
unfolding edge_count
edge_count_fits most n small le = and_from _ _ (lt-ltb n (256 ^ 2) (omega (arith, small, le))) (le-leb n most le)

edges_fit : (e : EdgesView) → AreEdges e → edges.fits e ≡ true
unfolding edges
edges_fit e h = and_from _ _ (flag_fits e.weighted) (and_from _ _ (edge_count_fits most_edges (length e.edges) (omega arith) h.few) (each_fit (edge e.weighted) [] e.edges (λ k d lt. edge_fits e.weighted (slice_index_or e.edges k d) (h.each k d lt))))

few_fit : (weighted : Bool) (most : ℕ) (ns : List Neighbour) → most ≤ 512 → length ns ≤ most → All (IsNeighbour weighted) ns → (few_neighbours weighted most).fits ns ≡ true
unfolding few_neighbours
few_fit weighted most ns small le each = and_from _ _ (edge_count_fits most (length ns) small le) (each_fit (neighbour weighted) [] ns (λ k d lt. given_neighbour_fits weighted (slice_index_or ns k d) (each k d lt)))

own_fits : (n : NeighboursView) → AreNeighbours n → own.fits n ≡ true
unfolding own
own_fits n h =
    let few : length n.sources + length n.destinations ≤ 512 = h.few in
    and_from _ _ (flag_fits n.weighted) (and_from _ _ (few_fit n.weighted most_edges n.sources (omega arith) (omega arith) h.sources) (few_fit n.weighted (most_edges - length n.sources) n.destinations (omega arith) (omega arith) h.destinations))

sort_fits : (m : Making) → IsWithin m → IsInRange I32 (key_in m) → (making_for (makes_of m)).fits m ≡ true
unfolding split group
sort_fits Nothing h key = refl
sort_fits (Split colour k) h key = and_from _ _ (choice_fits colour h) (integer_fits I32 k key)
sort_fits (Group rs) h key = ranks_fit rs h
sort_fits (Edges e) h key = edges_fit e h
sort_fits (Neighbours n) h key = own_fits n h

making_fits : (makes : Makes) (m : Making) → IsMaking makes m → IsInRange I32 (key_in m) → (making_for makes).fits m ≡ true
making_fits makes m h key = subst (λ s. (making_for s).fits m ≡ true) h.sort (sort_fits m h.within key)

-- WHOLE POSTS

-- what posts keep is all that a spelling asks for
pub post_fits : (g : Given) → IsPost g → AreCounts g.scounts → AreCounts g.rcounts → are_items_of g.items → IsInRange I32 (key_of g) → (post Two).fits g ≡ true
unfolding post
post_fits g h scounts rcounts whole key =
    let fields = fields_of g.kind in
    and_from _ _ (kind_fits g.kind) (and_from _ _ (mode_fits g.kind g.mode h.mode)
    (and_from _ _ (root_fits fields.root g.root h.root h.root_below) (and_from _ _ (had_operation_fits fields.op g.op (type_of g) h.op h.type)
    (and_from _ _ (had_type_fits fields.items g.op g.items h.items h.type)
    (and_from _ _ (had_counts_fit (is_had fields.scounts) g.scounts scounts h.scounts) (and_from _ _ (had_counts_fit (is_had fields.rcounts) g.rcounts rcounts h.rcounts)
    (and_from _ _ (given_items_fit g.items whole h.few) (making_fits fields.makes g.making h.making key))))))))
