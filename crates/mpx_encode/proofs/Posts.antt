-- How the fields of posts are spelled, and in how many bytes.
use Rattle.std.proofs.Common.{◌≡◌, ℕ, ℤ, ◌+◌, ◌-◌, ◌*◌, ◌<◌, Bool, true, false, cond, ◌&&◌, List, [], ◌∷◌, ◌++◌, length, Option, Some, None, is_some, refl, sym, ap, ◌∙◌, arith, length-append, append_assoc}
use Rattle.std.specs.Prelude.{nat_lt}
use Rattle.std.specs.Int.{w16, w32, to_be_bytes}
use Rattle.std.specs.List.{flat_map}
use Rattle.std.specs.Option.{option_map}
use Rattle.std.proofs.lemmas.Bool.{ltb-true}
use Rattle.join_core.specs.laws.Cases.{first_true, second_true}
use Rattle.mpx_num.specs.ItemList.{ItemList}
use Rattle.mpx_num.specs.declared.types.Ty.TheVariants.{I32}
use Rattle.mpx_kind.specs.Kinds.{fields_of, is_had}
use Rattle.mpx_birth.specs.declared.edges.Edge.{Edge}
use Rattle.mpx_birth.specs.declared.edges.Neighbour.{Neighbour}
use Rattle.mpx_kind.specs.declared.kinds.Makes.{Makes}
use Rattle.mpx_kind.specs.declared.kinds.Makes.TheVariants as M
use Rattle.mpx_post.specs.declared.making.Making.{Making}
use Rattle.mpx_post.specs.declared.making.Making.TheVariants.{Split, Group}
use Rattle.mpx_post.specs.Graphs.{EdgesView, NeighboursView, most_edges}
use Rattle.mpx_post.specs.Posts.{Given, makes_of}
use Rattle.mpx_format.specs.declared.versions.Version.TheVariants.{Two}
use Rattle.mpx_format.specs.Format.{Format, many_fit}
use Rattle.mpx_format.specs.Fields.{process, member, colour}
use Rattle.mpx_format.specs.Codes.{code_of_mode, kind, mode, operation, flag, when}
use Rattle.mpx_kind.specs.Codes.{code_of_kind}
use Rattle.mpx_format.specs.Births.{weight, neighbour, neighbours}
use Rattle.mpx_format.specs.Posts.{type_for, count, counts, counts_if, integer, items_for, choice, split, ranks, group, edge, edge_count, edges, few_neighbours, own, making_for, nums_of, post}
use Rattle.mpx_encode.proofs.Rising.{many_alike}
use Rattle.mpx_encode.proofs.Births.{length_each, length-weight, neighbours_spelled}

-- FIELDS THAT MAY BE MISSING

pub when_none : {A : Type 0} (had : Bool) (f : Format A) → (when had f).spelling None ≡ []
when_none true f = refl
when_none false f = refl

pub when_some : {A : Type 0} (had : Bool) (f : Format A) (x : A) → is_some {T = A} (Some x) ≡ had → (when had f).spelling (Some x) ≡ f.spelling x
when_some true f x e = refl
when_some false f x e = absurd cc

-- COUNTS

pub counts_spelled : (cs : List ℕ) → (counts_if true).spelling cs ≡ to_be_bytes w16 (length cs) ++ flat_map count.spelling cs
unfolding counts
counts_spelled cs = ap (λ l. to_be_bytes w16 (length cs) ++ l) (many_alike (λ before. count) count.spelling (λ before c. refl) [] cs)

pub no_counts : (cs : List ℕ) → (counts_if false).spelling cs ≡ []
no_counts [] = refl
no_counts (c ∷ cs) = refl

two_bytes : (c : ℕ) → length (count.spelling c) ≡ 2
unfolding count
two_bytes c = refl

pub length-counts : (cs : List ℕ) → length ((counts_if true).spelling cs) ≡ 2 + 2 * length cs
length-counts cs = ap length (counts_spelled cs) ∙ length-append (to_be_bytes w16 (length cs)) (flat_map count.spelling cs) ∙ omega (arith, length_each count.spelling 2 two_bytes cs)

-- MAKINGS

pub split_spelled : (c : Option ℕ) (k : ℤ) → split.spelling (Split c k) ≡ choice.spelling c ++ (integer I32).spelling k
unfolding split
split_spelled c k = refl

pub length-split_none : (k : ℤ) → length (split.spelling (Split None k)) ≡ 5
unfolding split choice integer
length-split_none k = refl

pub length-split_some : (c : ℕ) (k : ℤ) → length (split.spelling (Split (Some c) k)) ≡ 9
unfolding split choice colour integer
length-split_some c k = refl

pub choice_none : choice.spelling None ≡ 0 ∷ []
unfolding choice
choice_none = refl

pub choice_some : (c : ℕ) → choice.spelling (Some c) ≡ (1 ∷ []) ++ to_be_bytes w32 c
unfolding choice colour
choice_some c = refl

alike : (before : List ℕ) (p : ℕ) → (member before).spelling p ≡ p ∷ []
unfolding member process
alike before p = refl

each_itself : (rs : List ℕ) → flat_map (λ r. r ∷ []) rs ≡ rs
each_itself [] = refl
each_itself (r ∷ rs) = ap (λ l. r ∷ l) (each_itself rs)

pub ranks_spelled : (rs : List ℕ) → ranks.spelling rs ≡ (length rs ∷ []) ++ rs
unfolding ranks
ranks_spelled rs = ap (λ l. length rs ∷ l) (many_alike member (λ r. r ∷ []) alike [] rs ∙ each_itself rs)

pub ranks_below : (rs : List ℕ) → ranks.fits rs ≡ true → length rs < 256
unfolding ranks
ranks_below rs h = ltb-true (length rs) 256 (first_true (nat_lt (length rs) 256) (many_fit member (length rs) [] rs) h)

pub length-ranks : (rs : List ℕ) → length (ranks.spelling rs) ≡ 1 + length rs
length-ranks rs = ap length (ranks_spelled rs) ∙ omega arith

pub edge_spelled : (weighted : Bool) (e : Edge) → (edge weighted).spelling e ≡ ((e.source ∷ []) ++ e.destination ∷ []) ++ (weight weighted).spelling e.weight
unfolding edge process
edge_spelled weighted e = refl

length-edge : (weighted : Bool) (e : Edge) → length ((edge weighted).spelling e) ≡ 2 + cond weighted 4 0
length-edge weighted e = ap length (edge_spelled weighted e) ∙ omega (arith, length-weight weighted e.weight)

pub edges_spelled : (es : EdgesView) → edges.spelling es ≡ (flag.spelling es.weighted ++ to_be_bytes w16 (length es.edges)) ++ flat_map (edge es.weighted).spelling es.edges
unfolding edges edge_count flag
edges_spelled es = ap (λ l. (flag.spelling es.weighted ++ to_be_bytes w16 (length es.edges)) ++ l) (many_alike (λ before. edge es.weighted) (edge es.weighted).spelling (λ before e. refl) [] es.edges)

pub length-flag : (b : Bool) → length (flag.spelling b) ≡ 1
unfolding flag
length-flag b = refl

pub length-edges : (es : EdgesView) → length (edges.spelling es) ≡ 3 + length es.edges * (2 + cond es.weighted 4 0)
length-edges es =
    ap length (edges_spelled es) ∙ length-append (flag.spelling es.weighted ++ to_be_bytes w16 (length es.edges)) (flat_map (edge es.weighted).spelling es.edges)
    ∙ omega (arith, length-append (flag.spelling es.weighted) (to_be_bytes w16 (length es.edges)), length-flag es.weighted, length_each (edge es.weighted).spelling (2 + cond es.weighted 4 0) (length-edge es.weighted) es.edges)

few_spelled : (weighted : Bool) (most : ℕ) (ns : List Neighbour) → (few_neighbours weighted most).spelling ns ≡ (neighbours weighted).spelling ns
unfolding few_neighbours edge_count
few_spelled weighted most ns =
    ap (λ l. to_be_bytes w16 (length ns) ++ l) (many_alike (λ before. neighbour weighted) (neighbour weighted).spelling (λ before n. refl) [] ns) ∙ sym (neighbours_spelled weighted ns)

pub own_spelled : (n : NeighboursView) → own.spelling n ≡ (flag.spelling n.weighted ++ (neighbours n.weighted).spelling n.sources) ++ (neighbours n.weighted).spelling n.destinations
unfolding own flag
own_spelled n =
    ap (λ l. flag.spelling n.weighted ++ (l ++ (few_neighbours n.weighted (most_edges - length n.sources)).spelling n.destinations)) (few_spelled n.weighted most_edges n.sources)
    ∙ ap (λ l. (flag.spelling n.weighted ++ (neighbours n.weighted).spelling n.sources) ++ l) (few_spelled n.weighted (most_edges - length n.sources) n.destinations)

pub length-own : (n : NeighboursView) → length (own.spelling n) ≡ 1 + length ((neighbours n.weighted).spelling n.sources) + length ((neighbours n.weighted).spelling n.destinations)
length-own n =
    ap length (own_spelled n) ∙ length-append (flag.spelling n.weighted ++ (neighbours n.weighted).spelling n.sources) ((neighbours n.weighted).spelling n.destinations)
    ∙ omega (arith, length-append (flag.spelling n.weighted) ((neighbours n.weighted).spelling n.sources), length-flag n.weighted)

-- WHOLE POSTS

regrouped : (a b c d e f g h i : List ℕ) → (((((((a ++ b) ++ c) ++ d) ++ e) ++ f) ++ g) ++ h) ++ i ≡ a ++ (b ++ (c ++ (d ++ (e ++ (f ++ (g ++ (h ++ i)))))))
regrouped a b c d e f g h i = simp append_assoc

module _ (g : Given) where
  abbrev pub type_part : List ℕ
  type_part = (when (fields_of g.kind).items (type_for g.op)).spelling (option_map (λ (i : ItemList). i.ty) g.items)

  abbrev pub items_part : List ℕ
  items_part = (items_for (option_map (λ (i : ItemList). i.ty) g.items)).spelling (nums_of g.items)

  abbrev pub root_part : List ℕ
  root_part = (when (fields_of g.kind).root process).spelling g.root

  abbrev pub operation_part : List ℕ
  operation_part = (when (fields_of g.kind).op (operation Two)).spelling g.op

  abbrev pub sent_part : List ℕ
  sent_part = (counts_if (is_had (fields_of g.kind).scounts)).spelling g.scounts

  abbrev pub received_part : List ℕ
  received_part = (counts_if (is_had (fields_of g.kind).rcounts)).spelling g.rcounts

  abbrev pub making_part : List ℕ
  making_part = (making_for (fields_of g.kind).makes).spelling g.making

  pub post_spelled : (post Two).spelling g ≡ (code_of_kind g.kind ∷ []) ++ ((code_of_mode g.mode ∷ []) ++ (root_part ++ (operation_part ++ (type_part ++ (sent_part ++ (received_part ++ (items_part ++ making_part)))))))
  unfolding post kind mode
  post_spelled = refl

  -- the same from the left
  pub post_in_turn : (post Two).spelling g ≡ ((((((((code_of_kind g.kind ∷ []) ++ code_of_mode g.mode ∷ []) ++ root_part) ++ operation_part) ++ type_part) ++ sent_part) ++ received_part) ++ items_part) ++ making_part
  post_in_turn = post_spelled ∙ sym (regrouped (code_of_kind g.kind ∷ []) (code_of_mode g.mode ∷ []) root_part operation_part type_part sent_part received_part items_part making_part)

  pub length-post : length ((post Two).spelling g) ≡ 2 + (length root_part + length operation_part) + (length type_part + length items_part) + (length sent_part + length received_part) + length making_part
  length-post =
      ap length post_spelled ∙ omega (
        arith,
        length-append root_part (operation_part ++ (type_part ++ (sent_part ++ (received_part ++ (items_part ++ making_part))))),
        length-append operation_part (type_part ++ (sent_part ++ (received_part ++ (items_part ++ making_part)))),
        length-append type_part (sent_part ++ (received_part ++ (items_part ++ making_part))),
        length-append sent_part (received_part ++ (items_part ++ making_part)),
        length-append received_part (items_part ++ making_part),
        length-append items_part making_part,
      )

pub post_making : (g : Given) → (post Two).fits g ≡ true → (making_for (fields_of g.kind).makes).fits g.making ≡ true
unfolding post
post_making g h =
    let fields = fields_of g.kind in
    let t = option_map (λ (i : ItemList). i.ty) g.items in
    let a = (kind Two).fits g.kind in
    let b = (mode g.kind).fits g.mode in
    let r = (when fields.root process).fits g.root in
    let o = (when fields.op (operation Two)).fits g.op in
    let y = (when fields.items (type_for g.op)).fits t in
    let s = (counts_if (is_had fields.scounts)).fits g.scounts in
    let c = (counts_if (is_had fields.rcounts)).fits g.rcounts in
    let i = (items_for t).fits (nums_of g.items) in
    let m = (making_for fields.makes).fits g.making in
    second_true i m (second_true c (i && m) (second_true s (c && (i && m)) (second_true y (s && (c && (i && m))) (second_true o (y && (s && (c && (i && m)))) (second_true r (o && (y && (s && (c && (i && m))))) (second_true b (r && (o && (y && (s && (c && (i && m)))))) (second_true a (b && (r && (o && (y && (s && (c && (i && m))))))) h)))))))

group_sort : (makes : Makes) (m : Making) (rs : List ℕ) → m ≡ Group rs → makes_of m ≡ makes → M.Group ≡ makes
group_sort makes m rs is sort = sym (ap makes_of is) ∙ sort

-- the ranks of a group
pub group_spelled : (makes : Makes) (m : Making) (rs : List ℕ) → m ≡ Group rs → makes_of m ≡ makes → (making_for makes).spelling m ≡ ranks.spelling rs
unfolding group
group_spelled makes m rs is sort = ap (making_for makes).spelling is ∙ ap (λ s. (making_for s).spelling (Group rs)) (sym (group_sort makes m rs is sort))

pub group_fits : (makes : Makes) (m : Making) (rs : List ℕ) → m ≡ Group rs → makes_of m ≡ makes → (making_for makes).fits m ≡ true → ranks.fits rs ≡ true
unfolding group
group_fits makes m rs is sort h = ap (λ s. (making_for s).fits (Group rs)) (group_sort makes m rs is sort) ∙ ap (making_for makes).fits (sym is) ∙ h
