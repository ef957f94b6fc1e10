-- What was prepared of a part, put over a board, makes the join of both.
use Rattle.std.proofs.Common.{◌≡◌, ℕ, Option, Some, None, refl, sym, ap, ◌∙◌}
use Rattle.std.specs.Cmp.{IsTotalOrder, nat_cmp_total}
use Rattle.std.specs.declared.cmp.Ordering.{Ordering}
use Rattle.std.specs.FinMap.{FinMap, get, nat_cmp-IsAntisymmetric, same_map}
use Rattle.join_core.specs.Joins.{Joining, JoinLaws}
use Rattle.join_nest.specs.Keyed.{keyed_joining}
use Rattle.join_nest.specs.laws.Keyed.{get_join}
use Rattle.join_nest.specs.Optional.{option_join}
use Rattle.join_nest.specs.Prepared.{joined_there, put_over}
use Rattle.mpx_name.specs.Order.{name_exact, name_total}
use Rattle.mpx_board.specs.declared.board.Board.{Board}
use Rattle.mpx_board.specs.declared.prepared.Prepared.{Prepared}
use Rattle.mpx_board.specs.Boards.{Look}
use Rattle.mpx_board.specs.Looks.{parts_of}
use Rattle.mpx_board.specs.Parts.{PartsView}
use Rattle.mpx_board.specs.Prepared.{IsReady}
use Rattle.mpx_board.specs.Views.{view_of_all_acks, view_of_entries}
use Rattle.mpx_name.specs.Name.{Name}

module _ {V : Type 0} {j : Joining V} (p : JoinLaws j) where
  over_there : (old other : Option V) → option_join j old other ≡ put_over (joined_there j other old) old
  over_there None None = refl
  over_there None (Some v) = refl
  over_there (Some u) None = refl
  over_there (Some u) (Some v) = ap Some (p.commutative u v)

  -- what the other map doesn't have isn't made
  pub none_there : (made other old : Option V) → made ≡ joined_there j other old → other ≡ None → made ≡ None
  none_there made other old is none = is ∙ ap (λ o. joined_there j o old) none

  module _ {K : Type 0} {R : K → K → Ordering} (o : IsTotalOrder R) where
    -- the join has what is made, and elsewhere what the map has, which stayed the same
    pub join_is_over : (old other made now : FinMap R V) → now ≡ old → ((q : K) → get made q ≡ joined_there j (get other q) (get old q)) → (q : K) → get ((keyed_joining j).join old other) q ≡ put_over (get made q) (get now q)
    join_is_over old other made now same is q =
        get_join o j old other q
        ∙ over_there (get old q) (get other q)
        ∙ (λ i. put_over (sym (is q) i) (get (sym same i) q))

-- so what stands once a ready part is put in are the parts that it was made for
pub ready_parts : (prepared : Prepared) (board : Board) (new : Look) (after : PartsView) → (ready : IsReady prepared board new)
    → ((name : Name) → get after.0 name ≡ put_over (get (view_of_entries prepared.contexts) name) (get (parts_of board).0 name))
    → ((process : ℕ) → get after.1 process ≡ put_over (get (view_of_all_acks prepared.acks) process) (get (parts_of board).1 process)) → after ≡ ready.parts
ready_parts prepared board new after ready contexts acks =
    let first : after.0 ≡ ready.parts.0 = same_map name_total name_exact after.0 ready.parts.0 (λ name. contexts name ∙ sym (ready.contexts name)) in
    let second : after.1 ≡ ready.parts.1 = same_map nat_cmp_total nat_cmp-IsAntisymmetric after.1 ready.parts.1 (λ process. acks process ∙ sym (ready.acks process)) in
    λ i. (first i, second i)
