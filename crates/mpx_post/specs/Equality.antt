-- When two posts give the same.
use Rattle.std.specs.Prelude.{◌≡◌, ℕ, ℤ, ◌==◌, ◌&&◌, nat_eq, Bool, true, false, cond, List, Option, Some, None, refl}
use Rattle.std.proofs.Common.{ap, sym, ◌∙◌}
use Rattle.std.specs.Bool.{Decides, beq}
use Rattle.std.specs.Cmp.{booleans_Decides}
use Rattle.std.specs.Ordering.{int_eq}
use Rattle.std.proofs.lemmas.Bool.Decides.{Decides-and, Decides-eqb, Decides-int_eq, Decides-like}
use Rattle.std.proofs.lemmas.Slice.Eq.{slice_eq-Decides}
use lib.Pointwise.{pointwise}
use Rattle.std.specs.Option.{option_map}
use Rattle.join_core.specs.Joins.{IsEquality}
use Rattle.mpx_num.specs.declared.types.Ty.{Ty}
use Rattle.mpx_num.specs.declared.operations.Op.{Op}
use Rattle.mpx_num.specs.ItemList.{ItemList}
use Rattle.mpx_num.specs.Codes.{code_of_operation, operation_at, code_of_type, type_at}
use Rattle.mpx_num.proofs.Codes.{operation_forth, type_forth}
use Rattle.mpx_kind.specs.Codes.{code_of_kind, kind_at}
use Rattle.mpx_kind.proofs.Codes.{kind_forth}
use Rattle.mpx_kind.specs.declared.kinds.Kind.{Kind}
use Rattle.mpx_kind.specs.declared.kinds.Mode.{Mode}
use Rattle.mpx_kind.specs.declared.kinds.Mode.TheVariants.{Blocking, Nonblocking}
use Rattle.mpx_post.specs.declared.making.Making.{Making}
use Rattle.mpx_post.specs.declared.making.Making.TheVariants as M
use Rattle.mpx_kind.specs.declared.kinds.Makes.{Makes}
use Rattle.mpx_birth.specs.declared.edges.Edge.{Edge}
use Rattle.mpx_birth.specs.declared.edges.Neighbour.{Neighbour}
use Rattle.mpx_birth.specs.Topologies.{neighbours_decided, same_neighbours}
use Rattle.mpx_post.specs.Posts.{Given, colour_in, destinations_in, edges_in, group_in, key_in, makes_of, sources_in, weighted_in}

abbrev pub same_kind : Kind → Kind → Bool
same_kind a b = code_of_kind a == code_of_kind b

abbrev pub same_mode : Mode → Mode → Bool
same_mode Blocking Blocking = true
same_mode Nonblocking Nonblocking = true
same_mode a b = false

abbrev pub same_type : Ty → Ty → Bool
same_type a b = code_of_type a == code_of_type b

abbrev pub same_operation : Op → Op → Bool
same_operation a b = code_of_operation a == code_of_operation b

-- both have none, or both the same
abbrev pub same_option : {A : Type 0} → (A → A → Bool) → Option A → Option A → Bool
same_option same None None = true
same_option same (Some a) (Some b) = same a b
same_option same a b = false

abbrev pub same_root : Option ℕ → Option ℕ → Bool
same_root a b = same_option nat_eq a b

abbrev pub same_operations : Option Op → Option Op → Bool
same_operations a b = same_option same_operation a b

-- items of one type, or none on both sides
abbrev pub same_types : Option ItemList → Option ItemList → Bool
same_types a b = same_option (λ (x y : ItemList). same_type x.ty y.ty) a b

-- one type and the same numbers
abbrev pub same_items : ItemList → ItemList → Bool
same_items a b = same_type a.ty b.ty && pointwise int_eq a.nums b.nums

abbrev place_of_makes : Makes → ℕ
place_of_makes Makes.Nothing = 0
place_of_makes Makes.Colour = 1
place_of_makes Makes.Group = 2
place_of_makes Makes.Edges = 3
place_of_makes Makes.Neighbours = 4

abbrev pub same_makes : Makes → Makes → Bool
same_makes a b = place_of_makes a == place_of_makes b

abbrev pub same_edge : Edge → Edge → Bool
same_edge a b = (a.source == b.source) && ((a.destination == b.destination) && (a.weight == b.weight))

-- the same is said of a new communicator
abbrev pub same_making : Making → Making → Bool
same_making a b = same_makes (makes_of a) (makes_of b)
    && (same_option nat_eq (colour_in a) (colour_in b)
    && (int_eq (key_in a) (key_in b)
    && (pointwise nat_eq (group_in a) (group_in b)
    && (beq (weighted_in a) (weighted_in b)
    && (pointwise same_edge (edges_in a) (edges_in b)
    && (same_neighbours (sources_in a) (sources_in b)
    && same_neighbours (destinations_in a) (destinations_in b)))))))

-- the same kind with the same fields
abbrev pub same_given : Given → Given → Bool
same_given a b = same_kind a.kind b.kind
    && (same_mode a.mode b.mode
    && (same_root a.root b.root
    && (same_operations a.op b.op
    && (pointwise nat_eq a.scounts b.scounts
    && (pointwise nat_eq a.rcounts b.rcounts
    && (same_option same_items a.items b.items
    && same_making a.making b.making))))))

-- Each of these tests decides whether the two are equal

decided_by_place : {A : Type 0} (place : A → ℕ) (at_place : ℕ → A) → ((a : A) → at_place (place a) ≡ a) → (a b : A) → Decides (place a == place b) (a ≡ b)
decided_by_place place at_place back a b =
    let places = Decides-eqb (place a) (place b) in
    (λ t. sym (back a) ∙ ap at_place (places.0 t) ∙ back b, λ e. places.1 (ap place e))

pub kinds_decided : (a b : Kind) → Decides (same_kind a b) (a ≡ b)
kinds_decided = decided_by_place code_of_kind kind_at kind_forth

pub modes_decided : (a b : Mode) → Decides (same_mode a b) (a ≡ b)
modes_decided Blocking Blocking = (λ t. refl, λ e. refl)
modes_decided Blocking Nonblocking = (λ t. cc, λ e. cc)
modes_decided Nonblocking Blocking = (λ t. cc, λ e. cc)
modes_decided Nonblocking Nonblocking = (λ t. refl, λ e. refl)

pub operations_decided : (a b : Op) → Decides (same_operation a b) (a ≡ b)
operations_decided = decided_by_place code_of_operation operation_at operation_forth

pub numbers_decided : (a b : List ℕ) → Decides (pointwise nat_eq a b) (a ≡ b)
numbers_decided a b = slice_eq-Decides Decides-eqb a b (pointwise nat_eq a b) refl

pub items_decided : (a b : ItemList) → Decides (same_items a b) (a ≡ b)
items_decided a b =
    let types = decided_by_place code_of_type type_at type_forth a.ty b.ty in
    let numbers = slice_eq-Decides Decides-int_eq a.nums b.nums (pointwise int_eq a.nums b.nums) refl in
    Decides-like _
    (λ e. λ i. record { ty = e.0 i; nums = e.1 i })
    (λ e. (ap (λ (items : ItemList). items.ty) e, ap (λ (items : ItemList). items.nums) e))
    (Decides-and _ _ types numbers)

pub options_decided : {A : Type 0} (same : A → A → Bool) → ((a b : A) → Decides (same a b) (a ≡ b)) → (a b : Option A) → Decides (same_option same a b) (a ≡ b)
options_decided same decided None None = (λ t. refl, λ e. refl)
options_decided same decided None (Some b) = (λ t. cc, λ e. cc)
options_decided same decided (Some a) None = (λ t. cc, λ e. cc)
options_decided same decided (Some a) (Some b) = Decides-like _ (ap Some) (λ e. cc) (decided a b)

pub types_decided : (a b : Option ItemList) → Decides (same_types a b) (option_map (λ (items : ItemList). items.ty) a ≡ option_map (λ (items : ItemList). items.ty) b)
types_decided None None = (λ t. refl, λ e. refl)
types_decided None (Some b) = (λ t. cc, λ e. cc)
types_decided (Some a) None = (λ t. cc, λ e. cc)
types_decided (Some a) (Some b) = Decides-like _ (ap Some) (λ e. cc) (decided_by_place code_of_type type_at type_forth a.ty b.ty)

makes_at : ℕ → Makes
makes_at n = cond (n == 0) Makes.Nothing (cond (n == 1) Makes.Colour (cond (n == 2) Makes.Group (cond (n == 3) Makes.Edges Makes.Neighbours)))

makes_at-place : (makes : Makes) → makes_at (place_of_makes makes) ≡ makes
unfolding makes_at
makes_at-place Makes.Nothing = refl
makes_at-place Makes.Colour = refl
makes_at-place Makes.Group = refl
makes_at-place Makes.Edges = refl
makes_at-place Makes.Neighbours = refl

pub makes_decided : (a b : Makes) → Decides (same_makes a b) (a ≡ b)
makes_decided = decided_by_place place_of_makes makes_at makes_at-place

edge_decided : (a b : Edge) → Decides (same_edge a b) (a ≡ b)
edge_decided a b =
    Decides-like _
    (λ e. λ i. record { source = e.0 i; destination = e.1.0 i; weight = e.1.1 i })
    (λ e. (ap (λ (x : Edge). x.source) e, (ap (λ (x : Edge). x.destination) e, ap (λ (x : Edge). x.weight) e)))
    (Decides-and _ _ (Decides-eqb a.source b.source) (Decides-and _ _ (Decides-eqb a.destination b.destination) (Decides-eqb a.weight b.weight)))

-- what is said, by its sort and its fields
making_from : Makes → Option ℕ → ℤ → List ℕ → Bool → List Edge → List Neighbour → List Neighbour → Making
making_from Makes.Nothing colour key group weighted edges sources destinations = M.Nothing
making_from Makes.Colour colour key group weighted edges sources destinations = M.Split colour key
making_from Makes.Group colour key group weighted edges sources destinations = M.Group group
making_from Makes.Edges colour key group weighted edges sources destinations = M.Edges (record { weighted = weighted; edges = edges })
making_from Makes.Neighbours colour key group weighted edges sources destinations = M.Neighbours (record { weighted = weighted; sources = sources; destinations = destinations })

making_again : (a : Making) → making_from (makes_of a) (colour_in a) (key_in a) (group_in a) (weighted_in a) (edges_in a) (sources_in a) (destinations_in a) ≡ a
unfolding making_from
making_again M.Nothing = refl
making_again (M.Split colour key) = refl
making_again (M.Group ranks) = refl
making_again (M.Edges edges) = refl
making_again (M.Neighbours near) = refl

pub makings_decided : (a b : Making) → Decides (same_making a b) (a ≡ b)
makings_decided a b =
    Decides-like _
    (λ e. sym (making_again a) ∙ (λ i. making_from (e.0 i) (e.1.0 i) (e.1.1.0 i) (e.1.1.1.0 i) (e.1.1.1.1.0 i) (e.1.1.1.1.1.0 i) (e.1.1.1.1.1.1.0 i) (e.1.1.1.1.1.1.1 i)) ∙ making_again b)
    (λ e. (ap makes_of e, (ap colour_in e, (ap key_in e, (ap group_in e, (ap weighted_in e, (ap edges_in e, (ap sources_in e, ap destinations_in e))))))))
    (Decides-and _ _ (makes_decided (makes_of a) (makes_of b))
    (Decides-and _ _ (options_decided nat_eq Decides-eqb (colour_in a) (colour_in b))
    (Decides-and _ _ (Decides-int_eq (key_in a) (key_in b))
    (Decides-and _ _ (numbers_decided (group_in a) (group_in b))
    (Decides-and _ _ (booleans_Decides (weighted_in a) (weighted_in b))
    (Decides-and _ _ (slice_eq-Decides edge_decided (edges_in a) (edges_in b) (pointwise same_edge (edges_in a) (edges_in b)) refl)
    (Decides-and _ _ (neighbours_decided (sources_in a) (sources_in b))
    (neighbours_decided (destinations_in a) (destinations_in b)))))))))

pub given_decided : (a b : Given) → Decides (same_given a b) (a ≡ b)
given_decided a b =
    Decides-like _
    (λ e. λ i. record { kind = e.0 i; mode = e.1.0 i; root = e.1.1.0 i; op = e.1.1.1.0 i; scounts = e.1.1.1.1.0 i; rcounts = e.1.1.1.1.1.0 i; items = e.1.1.1.1.1.1.0 i; making = e.1.1.1.1.1.1.1 i })
    (λ e. (ap (λ (g : Given). g.kind) e, (ap (λ (g : Given). g.mode) e, (ap (λ (g : Given). g.root) e, (ap (λ (g : Given). g.op) e, (ap (λ (g : Given). g.scounts) e, (ap (λ (g : Given). g.rcounts) e, (ap (λ (g : Given). g.items) e, ap (λ (g : Given). g.making) e))))))))
    (Decides-and _ _ (kinds_decided a.kind b.kind)
    (Decides-and _ _ (modes_decided a.mode b.mode)
    (Decides-and _ _ (options_decided nat_eq Decides-eqb a.root b.root)
    (Decides-and _ _ (options_decided same_operation operations_decided a.op b.op)
    (Decides-and _ _ (numbers_decided a.scounts b.scounts)
    (Decides-and _ _ (numbers_decided a.rcounts b.rcounts)
    (Decides-and _ _ (options_decided same_items items_decided a.items b.items)
    (makings_decided a.making b.making))))))))

pub given_equality : IsEquality same_given
given_equality = record {
  reflexive = λ a. (given_decided a a).1 refl;
  sound = λ a b. (given_decided a b).0;
}
