-- How long the spellings of names, births and posts are.
use Rattle.std.proofs.Common.{◌≡◌, ◌≤◌, ◌+◌, ◌-◌, ◌*◌, ◌/◌, ℕ, zero, suc, Bool, true, false, List, [], ◌∷◌, ◌++◌, length, reverse, map, Option, Some, None, refl, sym, ap, ◌∙◌, subst, arith}
use Rattle.std.specs.Prelude.{All, ℤ, nat_le}
use Rattle.std.specs.Int.{w16}
use Rattle.std.specs.Option.{option_map}
use Rattle.std.specs.List.{sum}
use Rattle.std.proofs.lemmas.Bool.Decides.{nat_tests}
use Rattle.std.proofs.lemmas.List.Sums.{sum-map, sum_by-cons}
use Rattle.join_core.specs.laws.Cases.{first_true, second_true}
use Rattle.mpx_num.specs.declared.types.Ty.{Ty}
use Rattle.mpx_num.specs.declared.types.Ty.TheVariants.{I8, I16, I32, I64, U8, U16, U32, U64, TwoInt}
use Rattle.mpx_num.specs.declared.operations.Op.{Op}
use Rattle.mpx_num.specs.ItemList.{ItemList}
use Rattle.mpx_num.specs.Types.{item_len}
use Rattle.mpx_kind.specs.declared.kinds.Kind.{Kind}
use Rattle.mpx_kind.specs.declared.kinds.Makes.{Makes}
use Rattle.mpx_kind.specs.declared.kinds.Makes.TheVariants as M
use Rattle.mpx_kind.specs.Kinds.{fields_of, is_had}
use Rattle.mpx_name.specs.declared.steps.Step.{Step}
use Rattle.mpx_name.specs.declared.steps.Step.TheVariants.{Child, Gathering}
use Rattle.mpx_name.specs.Name.{Name, IsStep, IsName}
use Rattle.mpx_birth.specs.declared.edges.Neighbour.{Neighbour}
use Rattle.mpx_birth.specs.Births.{BirthView}
use Rattle.mpx_birth.specs.Topologies.{Near, TopologyView, is_topology, sources_in_all, destinations_in_all, most_neighbours}
use Rattle.mpx_post.specs.declared.making.Making.{Making}
use Rattle.mpx_post.specs.declared.making.Making.TheVariants.{Nothing, Split, Group, Edges, Neighbours}
use Rattle.mpx_post.specs.Posts.{Given, few_items, group_in, edges_in, sources_in, destinations_in}
use Rattle.mpx_post.specs.Graphs.{most_edges}
use Rattle.mpx_format.specs.declared.versions.Version.TheVariants.{Two}
use Rattle.mpx_format.specs.Format.{Format, byte, number, spelled_by, many_spelled, counted}
use Rattle.mpx_format.specs.Fields.{process, member, member_count, members, call, colour, tag, child, gathering, step, step_count, steps, name}
use Rattle.mpx_format.specs.Codes.{kind, mode, operation, item_type, flag, when}
use Rattle.mpx_format.specs.Births.{weight, neighbour, neighbours, near, nears, topology, birth, ranks_where}
use Rattle.mpx_format.specs.Posts.{type_for, count, counts, counts_if, integer, item_count, items, items_for, choice, split, ranks, group, edge, edge_count, edges, few_neighbours, own, making_for, nums_of, post}
use Rattle.mpx_delta.specs.Limits.{IsShortBirth, IsShortPost}
use Rattle.mpx_delta.proofs.Sizes.{Short, joined_len, byte_short, short16, short32, each_len, many_len, counted_len}

-- NAMES

pub process_short : Short process 1
unfolding process
process_short = byte_short

member_short : (before : List ℕ) → Short (member before) 1
unfolding member
member_short before = process_short

pub members_len : (ps : List ℕ) → length (members.spelling ps) ≤ 1 + length ps
unfolding members member_count
members_len ps = omega (arith, counted_len member_count member 1 1 byte_short member_short ps)

pub call_short : Short call 4
unfolding call
call_short = short32

colour_short : Short colour 4
unfolding colour
colour_short = short32

tag_short : Short tag 2
unfolding tag
tag_short = short16

step_len : (s : Step) → IsStep s → length (step.spelling s) ≤ 68
unfolding step child gathering
step_len (Child k c) h = omega (arith, joined_len (call.spelling k) (colour.spelling c) 4 4 (call_short k) (colour_short c))
step_len (Gathering t ps) h = omega (arith, h.2.few, joined_len (tag.spelling t) (members.spelling ps) 2 (1 + length ps) (tag_short t) (members_len ps))

steps_each : (n : List Step) → All IsStep n → All (λ s. length (step.spelling s) ≤ 68) n
steps_each n all k d lt = step_len _ (all k d lt)

-- a name's steps, the oldest first, are within their limits
pub name_len : (n : Name) → IsName (reverse n) → length (name.spelling n) ≤ 545
unfolding name steps step_count
name_len n h = omega (arith, h.depth, each_len step 68 [] (reverse n) (steps_each (reverse n) h.steps))

-- BIRTHS

weight_short : (weighted : Bool) → Short (weight weighted) 4
unfolding weight
weight_short true w = short32 w
weight_short false zero = omega arith
weight_short false (suc w) = omega arith

neighbour_short : (weighted : Bool) → Short (neighbour weighted) 5
unfolding neighbour
neighbour_short weighted n = joined_len (process.spelling n.rank) ((weight weighted).spelling n.weight) 1 4 (process_short n.rank) (weight_short weighted n.weight)

neighbours_len : (weighted : Bool) (ns : List Neighbour) → length ((neighbours weighted).spelling ns) ≤ 2 + length ns * 5
unfolding neighbours
neighbours_len weighted ns = counted_len (number w16) (λ before. neighbour weighted) 2 5 short16 (λ before. neighbour_short weighted) ns

near_len : (weighted : Bool) (n : Near) → length ((near weighted).spelling n) ≤ (2 + length n.sources * 5) + (2 + length n.destinations * 5)
unfolding near
near_len weighted n = joined_len ((neighbours weighted).spelling n.sources) ((neighbours weighted).spelling n.destinations) (2 + length n.sources * 5) (2 + length n.destinations * 5) (neighbours_len weighted n.sources) (neighbours_len weighted n.destinations)

nears_len : (weighted : Bool) (before ns : List Near) → length (many_spelled (λ b. near weighted) before ns) ≤ (4 * length ns + 5 * sources_in_all ns) + 5 * destinations_in_all ns
nears_len weighted before [] = omega arith
nears_len weighted before (n ∷ ns) =
    let rest = nears_len weighted (before ++ n ∷ []) ns in
    let both = joined_len ((near weighted).spelling n) (many_spelled (λ b. near weighted) (before ++ n ∷ []) ns) ((2 + length n.sources * 5) + (2 + length n.destinations * 5)) ((4 * length ns + 5 * sources_in_all ns) + 5 * destinations_in_all ns) (near_len weighted n) rest in
    let sources : sources_in_all (n ∷ ns) ≡ length n.sources + sources_in_all ns = more (λ (x : Near). length x.sources) n ns in
    let destinations : destinations_in_all (n ∷ ns) ≡ length n.destinations + destinations_in_all ns = more (λ (x : Near). length x.destinations) n ns in
    omega (arith, both, sources, destinations)
  where
    more : (f : Near → ℕ) (n : Near) (ns : List Near) → sum (map f (n ∷ ns)) ≡ f n + sum (map f ns)
    more f n ns = sum-map f (n ∷ ns) ∙ sum_by-cons f n ns ∙ ap (λ s. f n + s) (sym (sum-map f ns))

record IsShortTopology (t : TopologyView) : Type 0 where
  ranks : length t.ranks ≤ 64
  sources : sources_in_all t.ranks ≤ 32768
  destinations : destinations_in_all t.ranks ≤ 32768

small : (n m : ℕ) → nat_le n m ≡ true → n ≤ m
small n m h = grind (arith, nat_tests)

short_topology : (t : TopologyView) → is_topology t ≡ true → IsShortTopology t
unfolding is_topology
short_topology t h =
    let rest = second_true (nat_le (length t.ranks) 64) _ h in
    let sums = second_true _ _ rest in
    record {
      ranks = small (length t.ranks) 64 (first_true (nat_le (length t.ranks) 64) _ h);
      sources = small (sources_in_all t.ranks) 32768 (first_true (nat_le (sources_in_all t.ranks) most_neighbours) _ sums);
      destinations = small (destinations_in_all t.ranks) 32768 (first_true (nat_le (destinations_in_all t.ranks) most_neighbours) _ (second_true (nat_le (sources_in_all t.ranks) most_neighbours) _ sums));
    }

ranks_len : (weighted has : Bool) (t : TopologyView) → IsShortTopology t → length (spelled_by (nears weighted (length t.ranks)) (ranks_where weighted has t.ranks)) ≤ 327936
ranks_len false false t s = omega (arith, s.ranks, s.sources, s.destinations, nears_len false [] t.ranks)
ranks_len false true t s = omega arith
ranks_len true false t s = omega arith
ranks_len true true t s = omega (arith, s.ranks, s.sources, s.destinations, nears_len true [] t.ranks)

told_len : (size : ℕ) (weighted : Bool) (t : TopologyView) → t.weighted ≡ weighted → is_topology t ≡ true → length ((topology (length t.ranks)).spelling (Some t)) ≤ 327937
unfolding topology
told_len size false t is h = rw is (omega (arith, rw is at (ranks_len false t.weighted t (short_topology t h))))
told_len size true t is h = rw is (omega (arith, rw is at (ranks_len true t.weighted t (short_topology t h))))

no_topology_len : (size : ℕ) → length ((topology size).spelling None) ≤ 1
unfolding topology
no_topology_len size = omega arith

topology_part : (size : ℕ) (o : Option TopologyView) → ((t : TopologyView) → o ≡ Some t → (is_topology t ≡ true) × (length t.ranks ≡ size)) → length ((topology size).spelling o) ≤ 327937
topology_part size None h = omega (arith, no_topology_len size)
topology_part size (Some t) h = subst (λ n. length ((topology n).spelling (Some t)) ≤ 327937) (h t refl).1 (told_len size t.weighted t refl (h t refl).0)

pub birth_len : (b : BirthView) → IsShortBirth b → length (birth.spelling b) ≤ 328002
unfolding birth
birth_len b h = omega (arith, h.members, joined_len (members.spelling b.members) ((topology (length b.members)).spelling b.topology) (1 + length b.members) 327937 (members_len b.members) (topology_part (length b.members) b.topology h.topology))

-- POSTS

when_short : {A : Type 0} (b : Bool) (f : Format A) (n : ℕ) → Short f n → Short (when b f) n
when_short true f n s None = omega arith
when_short true f n s (Some a) = s a
when_short false f n s None = omega arith
when_short false f n s (Some a) = omega arith

kind_short : Short (kind Two) 1
unfolding kind
kind_short k = omega arith

mode_short : (k : Kind) → Short (mode k) 1
unfolding mode
mode_short k m = omega arith

operation_short : Short (operation Two) 1
unfolding operation
operation_short o = omega arith

type_short : Short item_type 1
unfolding item_type
type_short t = omega arith

type_for_short : (o : Option Op) → Short (type_for o) 1
type_for_short None = type_short
type_for_short (Some op) = type_short

flag_short : Short flag 1
unfolding flag
flag_short b = omega arith

count_short : Short count 2
unfolding count
count_short = short16

counts_len : (had : Bool) (cs : List ℕ) → length ((counts_if had).spelling cs) ≤ 2 + length cs * 2
unfolding counts
counts_len true cs = counted_len (number w16) (λ before. count) 2 2 short16 (λ before. count_short) cs
counts_len false [] = omega arith
counts_len false (c ∷ cs) = omega arith

integer_short : (ty : Ty) → Short (integer ty) 8
unfolding integer
integer_short I8 z = omega arith
integer_short I16 z = omega arith
integer_short I32 z = omega arith
integer_short I64 z = omega arith
integer_short U8 z = omega arith
integer_short U16 z = omega arith
integer_short U32 z = omega arith
integer_short U64 z = omega arith
integer_short TwoInt z = omega arith

item_count_short : Short item_count 2
unfolding item_count
item_count_short = short16

two_at_most : (ty : Ty) → item_len ty ≤ 2
two_at_most I8 = omega arith
two_at_most I16 = omega arith
two_at_most I32 = omega arith
two_at_most I64 = omega arith
two_at_most U8 = omega arith
two_at_most U16 = omega arith
two_at_most U32 = omega arith
two_at_most U64 = omega arith
two_at_most TwoInt = omega arith

numbers_len : (ty : Ty) (nums : List ℤ) → length ((items ty).spelling nums) ≤ 2 + length nums * 8
unfolding items
numbers_len ty nums = joined_len (item_count.spelling (length nums / item_len ty)) (many_spelled (λ before. integer ty) [] nums) 2 (length nums * 8) (item_count_short (length nums / item_len ty)) (many_len (λ before. integer ty) 8 (λ before. integer_short ty) [] nums)

items_len : (o : Option ItemList) → few_items o → length ((items_for (option_map (λ (i : ItemList). i.ty) o)).spelling (nums_of o)) ≤ 65538
items_len None few = omega arith
items_len (Some i) few = let most : length i.nums ≤ 8192 = few_numbers (length i.nums) (item_len i.ty) (two_at_most i.ty) few in omega (arith, most, numbers_len i.ty i.nums) where
  few_numbers : (n len : ℕ) → len ≤ 2 → n ≤ 4096 * len → n ≤ 8192
  few_numbers n len two h = omega (arith, two, h)

choice_short : Short choice 5
unfolding choice colour
choice_short None = omega arith
choice_short (Some c) = omega (arith, short32 c)

key_short : Short (integer I32) 4
unfolding integer
key_short k = omega arith

split_short : Short split 9
unfolding split
split_short Nothing = omega arith
split_short (Split c k) = joined_len (choice.spelling c) ((integer I32).spelling k) 5 4 (choice_short c) (key_short k)
split_short (Group rs) = omega arith
split_short (Edges es) = omega arith
split_short (Neighbours ns) = omega arith

ranks_list_len : (rs : List ℕ) → length (ranks.spelling rs) ≤ 1 + length rs * 1
unfolding ranks
ranks_list_len rs = counted_len byte member 1 1 byte_short member_short rs

edge_short : (weighted : Bool) → Short (edge weighted) 6
unfolding edge
edge_short weighted e = joined_len (process.spelling e.source) (process.spelling e.destination ++ (weight weighted).spelling e.weight) 1 5 (process_short e.source) (joined_len (process.spelling e.destination) ((weight weighted).spelling e.weight) 1 4 (process_short e.destination) (weight_short weighted e.weight))

edge_count_short : (most : ℕ) → Short (edge_count most) 2
unfolding edge_count
edge_count_short most = short16

few_neighbours_len : (weighted : Bool) (most : ℕ) (ns : List Neighbour) → length ((few_neighbours weighted most).spelling ns) ≤ 2 + length ns * 5
unfolding few_neighbours
few_neighbours_len weighted most ns = counted_len (edge_count most) (λ before. neighbour weighted) 2 5 (edge_count_short most) (λ before. neighbour_short weighted) ns

-- what is said of a new communicator
record IsShortMaking (m : Making) : Type 0 where
  group : length (group_in m) ≤ 64
  edges : length (edges_in m) ≤ 512
  near : length (sources_in m) + length (destinations_in m) ≤ 512

group_len : (m : Making) → IsShortMaking m → length (group.spelling m) ≤ 65
unfolding group
group_len Nothing h = omega arith
group_len (Split c k) h = omega arith
group_len (Group rs) h = omega (arith, h.group, ranks_list_len rs)
group_len (Edges es) h = omega arith
group_len (Neighbours ns) h = omega arith

edges_len : (m : Making) → IsShortMaking m → length ((making_for M.Edges).spelling m) ≤ 3075
unfolding edges
edges_len Nothing h = omega arith
edges_len (Split c k) h = omega arith
edges_len (Group rs) h = omega arith
edges_len (Edges es) h =
    let list = counted_len (edge_count most_edges) (λ before. edge es.weighted) 2 6 (edge_count_short most_edges) (λ before. edge_short es.weighted) es.edges in
    omega (arith, h.edges, list, joined_len (flag.spelling es.weighted) ((counted (edge_count most_edges) (λ before. edge es.weighted)).spelling es.edges) 1 (2 + length es.edges * 6) (flag_short es.weighted) list)
edges_len (Neighbours ns) h = omega arith

own_len : (m : Making) → IsShortMaking m → length ((making_for M.Neighbours).spelling m) ≤ 3075
unfolding own
own_len Nothing h = omega arith
own_len (Split c k) h = omega arith
own_len (Group rs) h = omega arith
own_len (Edges es) h = omega arith
own_len (Neighbours n) h =
    let most = most_edges in
    let sources = few_neighbours_len n.weighted most n.sources in
    let destinations = few_neighbours_len n.weighted (most - length n.sources) n.destinations in
    let lists = joined_len ((few_neighbours n.weighted most).spelling n.sources) ((few_neighbours n.weighted (most - length n.sources)).spelling n.destinations) (2 + length n.sources * 5) (2 + length n.destinations * 5) sources destinations in
    omega (arith, h.near, joined_len (flag.spelling n.weighted) ((few_neighbours n.weighted most).spelling n.sources ++ (few_neighbours n.weighted (most - length n.sources)).spelling n.destinations) 1 ((2 + length n.sources * 5) + (2 + length n.destinations * 5)) (flag_short n.weighted) lists)

nothing_len : (m : Making) → length ((making_for M.Nothing).spelling m) ≤ 0
nothing_len Nothing = omega arith
nothing_len (Split c k) = omega arith
nothing_len (Group rs) = omega arith
nothing_len (Edges es) = omega arith
nothing_len (Neighbours ns) = omega arith

making_len : (makes : Makes) (m : Making) → IsShortMaking m → length ((making_for makes).spelling m) ≤ 3075
making_len M.Nothing m h = omega (arith, nothing_len m)
making_len M.Colour m h = omega (arith, split_short m)
making_len M.Group m h = omega (arith, group_len m h)
making_len M.Edges m h = edges_len m h
making_len M.Neighbours m h = own_len m h

pub post_len : (g : Given) → IsShortPost g → length ((post Two).spelling g) ≤ 330766
unfolding post
post_len g h =
    let f = fields_of g.kind in
    let ty = option_map (λ (i : ItemList). i.ty) g.items in
    let making = making_len f.makes g.making (record { group = h.group; edges = h.edges; near = h.near }) in
    let from_items = joined_len ((items_for ty).spelling (nums_of g.items)) ((making_for f.makes).spelling g.making) 65538 3075 (items_len g.items h.items) making in
    let from_rcounts = joined_len ((counts_if (is_had f.rcounts)).spelling g.rcounts) ((items_for ty).spelling (nums_of g.items) ++ (making_for f.makes).spelling g.making) (2 + length g.rcounts * 2) (65538 + 3075) (counts_len (is_had f.rcounts) g.rcounts) from_items in
    let from_scounts = joined_len ((counts_if (is_had f.scounts)).spelling g.scounts) _ (2 + length g.scounts * 2) _ (counts_len (is_had f.scounts) g.scounts) from_rcounts in
    let from_type = joined_len ((when f.items (type_for g.op)).spelling ty) _ 1 _ (when_short f.items (type_for g.op) 1 (type_for_short g.op) ty) from_scounts in
    let from_op = joined_len ((when f.op (operation Two)).spelling g.op) _ 1 _ (when_short f.op (operation Two) 1 operation_short g.op) from_type in
    let from_root = joined_len ((when f.root process).spelling g.root) _ 1 _ (when_short f.root process 1 process_short g.root) from_op in
    let from_mode = joined_len ((mode g.kind).spelling g.mode) _ 1 _ (mode_short g.kind g.mode) from_root in
    omega (arith, h.scounts, h.rcounts, joined_len ((kind Two).spelling g.kind) _ 1 _ (kind_short g.kind) from_mode)
