-- The laws of the format of posts.
use Rattle.std.proofs.Common.{◌≡◌, ℕ, zero, suc, ℤ, ◌-◌, ◌*◌, ◌/◌, Bool, true, false, ◌&&◌, ltb, List, [], ◌∷◌, length, Option, Some, None, refl, sym, ap, ◌∙◌, arith}
use Rattle.std.specs.Int.{w16}
use Rattle.std.specs.Option.{option_map}
use Rattle.std.proofs.lemmas.Bool.{ltb-true, and_parts}
use Rattle.mpx_num.specs.ItemList.{ItemList}
use Rattle.mpx_num.specs.Types.{item_len}
use Rattle.mpx_num.specs.declared.types.Ty.{Ty}
use Rattle.mpx_num.specs.declared.types.Ty.TheVariants.{I8, I16, I32, I64, U8, U16, U32, U64, TwoInt}
use Rattle.mpx_num.specs.declared.operations.Op.{Op}
use Rattle.mpx_kind.specs.declared.kinds.Makes.{Makes}
use Rattle.mpx_kind.specs.declared.kinds.Makes.TheVariants as M
use Rattle.mpx_kind.specs.Kinds.{fields_of, is_had}
use Rattle.mpx_birth.specs.declared.edges.Edge.{Edge}
use Rattle.mpx_post.specs.declared.making.Making.{Making}
use Rattle.mpx_post.specs.declared.making.Making.TheVariants.{Nothing, Split, Group, Edges, Neighbours}
use Rattle.mpx_post.specs.Graphs.{EdgesView, NeighboursView, most_edges}
use Rattle.mpx_post.specs.Posts.{Given}
use Rattle.mpx_format.specs.declared.versions.Version.{Version}
use Rattle.mpx_format.specs.Format.{Format, many_fit, out_of_limits}
use Rattle.mpx_format.specs.Fields.{process, colour}
use Rattle.mpx_format.specs.Codes.{kind, mode, operation, when}
use Rattle.mpx_format.specs.Posts.{type_for, of_nil, no_list, count, counts, counts_if, integer, item_count, items, items_for, code_of_option, option_form, choice, split_of, of_split, split, of_group, ranks, group, edge_of, edge, edge_count, edges_of, edges, few_neighbours, own_of, own, of_nothing, of_edges, of_own, making_for, PostFields, given_from, nums_of, fields_from, post}
use Rattle.mpx_format.proofs.FormatLaws.{Exactly, byte_laws, number_laws, wide16, nothing_laws, both_laws, only_laws, through_laws, many_laws, many_fit-length, counted_laws, tagged_laws, some_is}
use Rattle.mpx_format.proofs.FieldLaws.{process_laws, member_laws, colour_laws}
use Rattle.mpx_format.proofs.CodeLaws.{kind_laws, mode_laws, operation_laws, item_type_laws, flag_laws, missing_laws, there_laws, when_laws}
use Rattle.mpx_format.proofs.BirthLaws.{weight_laws, neighbour_laws}
use Rattle.mpx_format.proofs.Integers.{integer_laws}

-- TYPES AND COUNTS

pub type_for_laws : (o : Option Op) → Exactly (type_for o)
type_for_laws None = item_type_laws
type_for_laws (Some op) = only_laws out_of_limits _ item_type_laws

nil_forth : {A : Type 0} (xs : List A) (u : Unit {0}) → of_nil xs ≡ Some u → [] ≡ xs
nil_forth [] u e = refl
nil_forth (x ∷ xs) u e = absurd cc

pub no_list_laws : {A : Type 0} → Exactly (no_list {A = A})
no_list_laws = through_laws (λ u. []) of_nil nothing_laws (λ u fits. refl) nil_forth

pub count_laws : Exactly count
unfolding count
count_laws = only_laws out_of_limits _ (number_laws w16 wide16)

pub counts_laws : Exactly counts
unfolding counts
counts_laws = counted_laws (number_laws w16 wide16) (λ before. count_laws)

counts_if_laws : (had : Bool) → Exactly (counts_if had)
counts_if_laws true = counts_laws
counts_if_laws false = no_list_laws

-- ITEMS

item_len-cases : (ty : Ty) (n l : ℕ) → l ≡ n * item_len ty → l / item_len ty ≡ n
item_len-cases I8 n l e = omega (arith, e)
item_len-cases I16 n l e = omega (arith, e)
item_len-cases I32 n l e = omega (arith, e)
item_len-cases I64 n l e = omega (arith, e)
item_len-cases U8 n l e = omega (arith, e)
item_len-cases U16 n l e = omega (arith, e)
item_len-cases U32 n l e = omega (arith, e)
item_len-cases U64 n l e = omega (arith, e)
item_len-cases TwoInt n l e = omega (arith, e)

pub item_count_laws : Exactly item_count
unfolding item_count
item_count_laws = only_laws out_of_limits _ (number_laws w16 wide16)

pub items_laws : (ty : Ty) → Exactly (items ty)
unfolding items
items_laws ty = through_laws (λ (x : ℕ × List ℤ). x.1) (λ nums. Some (length nums / item_len ty, nums)) (both_laws item_count_laws (λ n fits. many_laws (λ before. integer_laws ty) (n * item_len ty)))
    (λ a fits. ap (λ (n : ℕ). Some (n, a.1)) (item_len-cases ty a.0 (length a.1) (many_fit-length (λ before. integer ty) (a.0 * item_len ty) [] a.1 (and_parts (item_count.fits a.0) (many_fit (λ before. integer ty) (a.0 * item_len ty) [] a.1) fits).1)))
    (λ b a e. sym (ap (λ (x : ℕ × List ℤ). x.1) (some_is (length b / item_len ty, b) a e)))

pub items_for_laws : (t : Option Ty) → Exactly (items_for t)
items_for_laws None = no_list_laws
items_for_laws (Some ty) = items_laws ty

-- WHAT IS SAID OF A NEW COMMUNICATOR

option_laws : {A : Type 0} {f : Format A} → Exactly f → (t : ℕ) → Exactly (option_form f t)
option_laws p zero = missing_laws
option_laws p (suc n) = there_laws p

option_tags : {A : Type 0} (f : Format A) (t : ℕ) (v : Option A) → ltb t 2 ≡ true → (option_form f t).fits v ≡ true → code_of_option v ≡ t
option_tags f zero None lt fits = refl
option_tags f zero (Some a) lt fits = absurd cc
option_tags f (suc n) None lt fits = absurd cc
option_tags f (suc n) (Some a) lt fits = omega (arith, ltb-true _ _ lt)

pub choice_laws : Exactly choice
unfolding choice
choice_laws = tagged_laws _ code_of_option (λ t lt. option_laws colour_laws t) (option_tags colour)

split_forth : (m : Making) (a : Option ℕ × ℤ) → of_split m ≡ Some a → split_of a ≡ m
split_forth Nothing a e = absurd cc
split_forth (Split colour key) a e = ap split_of (sym (some_is (colour, key) a e))
split_forth (Group ranks) a e = absurd cc
split_forth (Edges edges) a e = absurd cc
split_forth (Neighbours near) a e = absurd cc

pub split_laws : Exactly split
unfolding split
split_laws = through_laws split_of of_split (both_laws choice_laws (λ c fits. integer_laws I32)) (λ a fits. refl) split_forth

group_forth : (m : Making) (a : List ℕ) → of_group m ≡ Some a → Group a ≡ m
group_forth Nothing a e = absurd cc
group_forth (Split colour key) a e = absurd cc
group_forth (Group ranks) a e = ap Group (sym (some_is ranks a e))
group_forth (Edges edges) a e = absurd cc
group_forth (Neighbours near) a e = absurd cc

pub ranks_laws : Exactly ranks
unfolding ranks
ranks_laws = counted_laws byte_laws member_laws

pub group_laws : Exactly group
unfolding group
group_laws = through_laws Group of_group ranks_laws (λ a fits. refl) group_forth

pub edge_laws : (weighted : Bool) → Exactly (edge weighted)
unfolding edge
edge_laws weighted =
    through_laws edge_of (λ (e : Edge). Some (e.source, (e.destination, e.weight))) (both_laws process_laws (λ s fits. both_laws process_laws (λ d fits2. weight_laws weighted))) (λ a fits. refl)
    (λ e a is. ap edge_of (sym (some_is (e.source, (e.destination, e.weight)) a is)))

pub edge_count_laws : (most : ℕ) → Exactly (edge_count most)
unfolding edge_count
edge_count_laws most = only_laws out_of_limits _ (number_laws w16 wide16)

pub edges_laws : Exactly edges
unfolding edges
edges_laws =
    through_laws edges_of (λ (e : EdgesView). Some (e.weighted, e.edges)) (both_laws flag_laws (λ w fits. counted_laws (edge_count_laws most_edges) (λ before. edge_laws w))) (λ a fits. refl)
    (λ e a is. ap edges_of (sym (some_is (e.weighted, e.edges) a is)))

pub few_neighbours_laws : (weighted : Bool) (most : ℕ) → Exactly (few_neighbours weighted most)
unfolding few_neighbours
few_neighbours_laws weighted most = counted_laws (edge_count_laws most) (λ before. neighbour_laws weighted)

pub own_laws : Exactly own
unfolding own
own_laws =
    through_laws own_of (λ (n : NeighboursView). Some (n.weighted, (n.sources, n.destinations)))
    (both_laws flag_laws (λ w fits. both_laws (few_neighbours_laws w most_edges) (λ s fits2. few_neighbours_laws w (most_edges - length s)))) (λ a fits. refl)
    (λ n a is. ap own_of (sym (some_is (n.weighted, (n.sources, n.destinations)) a is)))

nothing_forth : (m : Making) (u : Unit {0}) → of_nothing m ≡ Some u → Nothing ≡ m
nothing_forth Nothing u e = refl
nothing_forth (Split colour key) u e = absurd cc
nothing_forth (Group ranks) u e = absurd cc
nothing_forth (Edges edges) u e = absurd cc
nothing_forth (Neighbours near) u e = absurd cc

edges_forth : (m : Making) (a : EdgesView) → of_edges m ≡ Some a → Edges a ≡ m
edges_forth Nothing a e = absurd cc
edges_forth (Split colour key) a e = absurd cc
edges_forth (Group ranks) a e = absurd cc
edges_forth (Edges edges) a e = ap Edges (sym (some_is edges a e))
edges_forth (Neighbours near) a e = absurd cc

own_forth : (m : Making) (a : NeighboursView) → of_own m ≡ Some a → Neighbours a ≡ m
own_forth Nothing a e = absurd cc
own_forth (Split colour key) a e = absurd cc
own_forth (Group ranks) a e = absurd cc
own_forth (Edges edges) a e = absurd cc
own_forth (Neighbours near) a e = ap Neighbours (sym (some_is near a e))

pub making_for_laws : (makes : Makes) → Exactly (making_for makes)
making_for_laws M.Nothing = through_laws (λ u. Nothing) of_nothing nothing_laws (λ u fits. refl) nothing_forth
making_for_laws M.Colour = split_laws
making_for_laws M.Group = group_laws
making_for_laws M.Edges = through_laws Edges of_edges edges_laws (λ a fits. refl) edges_forth
making_for_laws M.Neighbours = through_laws Neighbours of_own own_laws (λ a fits. refl) own_forth

-- POSTS

items_back : (t : Option Ty) (nums : List ℤ) → (items_for t).fits nums ≡ true → nums_of (option_map (λ ty. record { ty = ty; nums = nums }) t) ≡ nums
items_back None [] fits = refl
items_back None (x ∷ xs) fits = absurd cc
items_back (Some ty) nums fits = refl

type_same : (t : Option Ty) (nums : List ℤ) → option_map (λ (i : ItemList). i.ty) (option_map (λ ty. record { ty = ty; nums = nums }) t) ≡ t
type_same None nums = refl
type_same (Some ty) nums = refl

items_same : (i : Option ItemList) → option_map (λ ty. record { ty = ty; nums = nums_of i }) (option_map (λ (i : ItemList). i.ty) i) ≡ i
items_same None = refl
items_same (Some i) = refl

eighth : (a b c d e f g h i : Bool) → (a && (b && (c && (d && (e && (f && (g && (h && i)))))))) ≡ true → h ≡ true
eighth a b c d e f g h i t =
    (and_parts h i (and_parts g (h && i) (and_parts f (g && (h && i)) (and_parts e (f && (g && (h && i))) (and_parts d (e && (f && (g && (h && i)))) (and_parts c (d && (e && (f && (g && (h && i))))) (and_parts b (c && (d && (e && (f && (g && (h && i)))))) (and_parts a (b && (c && (d && (e && (f && (g && (h && i))))))) t).1).1).1).1).1).1).1).0

post_back : (x : PostFields) → (items_for x.1.1.1.1.0).fits x.1.1.1.1.1.1.1.0 ≡ true → fields_from (given_from x) ≡ x
post_back x fits = λ i. (x.0, (x.1.0, (x.1.1.0, (x.1.1.1.0, (type_same x.1.1.1.1.0 x.1.1.1.1.1.1.1.0 i, (x.1.1.1.1.1.0, (x.1.1.1.1.1.1.0, (items_back x.1.1.1.1.0 x.1.1.1.1.1.1.1.0 fits i, x.1.1.1.1.1.1.1.1))))))))

post_forth : (g : Given) → given_from (fields_from g) ≡ g
post_forth g = λ i. record { kind = g.kind; mode = g.mode; root = g.root; op = g.op; scounts = g.scounts; rcounts = g.rcounts; items = items_same g.items i; making = g.making }

pub post_laws : (version : Version) → Exactly (post version)
unfolding post
post_laws version = through_laws given_from (λ (g : Given). Some (fields_from g))
    (both_laws (kind_laws version) (λ k a. both_laws (mode_laws k) (λ m b. both_laws (when_laws (fields_of k).root process_laws) (λ r c. both_laws (when_laws (fields_of k).op (operation_laws version))
    (λ o d. both_laws (when_laws (fields_of k).items (type_for_laws o)) (λ t e. both_laws (counts_if_laws (is_had (fields_of k).scounts)) (λ s f. both_laws (counts_if_laws (is_had (fields_of k).rcounts))
    (λ c g. both_laws (items_for_laws t) (λ i h. making_for_laws (fields_of k).makes)))))))))
    (λ x fits. ap Some (post_back x (eighth ((kind version).fits x.0) ((mode x.0).fits x.1.0) ((when (fields_of x.0).root process).fits x.1.1.0) ((when (fields_of x.0).op (operation version)).fits x.1.1.1.0) ((when (fields_of x.0).items (type_for x.1.1.1.0)).fits x.1.1.1.1.0) ((counts_if (is_had (fields_of x.0).scounts)).fits x.1.1.1.1.1.0) ((counts_if (is_had (fields_of x.0).rcounts)).fits x.1.1.1.1.1.1.0) ((items_for x.1.1.1.1.0).fits x.1.1.1.1.1.1.1.0) ((making_for (fields_of x.0).makes).fits x.1.1.1.1.1.1.1.1) fits)))
    (λ g x e. ap given_from (sym (some_is (fields_from g) x e)) ∙ post_forth g)
