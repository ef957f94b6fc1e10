-- What a process keeps by its acts: what its board says, and each result that it doesn't let go.
use Rattle.std.proofs.Common.{◌≡◌, ◌⊎◌, ℕ, All, List, [], ◌∷◌, Some, refl, sym, subst, inl, inr}
use Rattle.std.proofs.lemmas.List.Elements.{All-head, All-tail}
use Rattle.mpx_name.specs.Name.{Name}
use Rattle.mpx_num.specs.declared.own.Operation.{Operation}
use Rattle.mpx_board.specs.Boards.{IsBoardBelow, own_acks}
use Rattle.mpx_board.specs.Changes.{pruned_on}
use Rattle.mpx_board.specs.Looks.{look}
use Rattle.mpx_board.proofs.Facts.{below_through}
use Rattle.mpx_node.specs.declared.finished.Finished.{Finished}
use Rattle.mpx_node.specs.Nodes.{checked_on, gathers_on, next_result, result_on}
use Rattle.mpx_world.specs.Worlds.{ProcessView}
use Rattle.mpx_world.proofs.Drafted.{kept_checked}
use Rattle.mpx_world.proofs.Kept.{Kept, kept_drops, kept_itself, kept_learns, kept_opens, kept_stores}
use Rattle.mpx_bus.specs.declared.act.Act.{Act}
use Rattle.mpx_bus.specs.declared.act.Act.TheVariants as A
use Rattle.mpx_bus.specs.Acts.{LetsNothingGo, act_on, after, part_of, said_on}

-- all is kept, or results are let go
kept_or_lets : (ops : List Operation) (a : Act) (v : ProcessView) → Kept v (act_on ops a v) ⊎ ((x : Name × ℕ) × (a ≡ A.Forgot x.0 x.1))
kept_or_lets ops (A.Posted name draft) v = inl (kept_checked name (checked_on ops v.node name draft) v)
kept_or_lets ops (A.Harvested name) v = inl (kept_stores ops name (next_result ops v.node name) v)
kept_or_lets ops (A.Gathered parent tag ranks) v = inl (kept_opens parent (gathers_on v.node parent tag ranks) v)
kept_or_lets ops (A.Pruned name n) v = inl (kept_drops name n (pruned_on v.node.board name n) v)
kept_or_lets ops (A.Forgot name below) v = inr ((name, below), refl)
kept_or_lets ops (A.Took bytes) v = inl (kept_learns (part_of bytes) v)
kept_or_lets ops (A.StoppedTaking bytes left) v = inl (kept_learns (look left) v)
kept_or_lets ops (A.Acknowledged board) v = inl (kept_learns (own_acks v.node.me (said_on board v)) v)
kept_or_lets ops (A.Pushed bytes) v = inl (kept_itself v)
kept_or_lets ops (A.Popped bytes) v = inl (kept_itself v)

board_act : (ops : List Operation) (a : Act) (v : ProcessView) → IsBoardBelow v.node.board (act_on ops a v).node.board
board_act ops a v = elim (kept_or_lets ops a v) [
  | inl kept ↦ kept.board_kept
  | inr lets ↦ subst (λ (x : Act). IsBoardBelow v.node.board (act_on ops x v).node.board) (sym lets.1) (kept_itself v).board_kept
]

pub board_after : (ops : List Operation) (acts : List Act) (v : ProcessView) → IsBoardBelow v.node.board (after ops acts v).node.board
board_after ops [] v = (kept_itself v).board_kept
board_after ops (a ∷ acts) v = below_through v.node.board (act_on ops a v).node.board (after ops acts (act_on ops a v)).node.board (board_act ops a v) (board_after ops acts (act_on ops a v))

-- RESULTS

kept_act : (ops : List Operation) (a : Act) (v : ProcessView) → LetsNothingGo a → Kept v (act_on ops a v)
kept_act ops a v keeps = elim (kept_or_lets ops a v) [
  | inl kept ↦ kept
  | inr lets ↦ absurd (subst LetsNothingGo lets.1 keeps)
]

-- where none of the acts lets results go, each result is still there
pub results_after : (ops : List Operation) (acts : List Act) (v : ProcessView) → All LetsNothingGo acts → (name : Name) (call : ℕ) (f : Finished) → result_on v.node name call ≡ Some f → result_on (after ops acts v).node name call ≡ Some f
results_after ops [] v keep name call f e = e
results_after ops (a ∷ acts) v keep name call f e = results_after ops acts (act_on ops a v) (All-tail LetsNothingGo a acts keep) name call f ((kept_act ops a v (All-head LetsNothingGo a acts keep)).results_kept name call f e)
