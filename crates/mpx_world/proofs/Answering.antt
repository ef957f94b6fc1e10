-- One part of each other member is enough for a node.
use Rattle.std.proofs.Common.{◌≡◌, ℕ, zero, suc, ◌+◌, ◌≤◌, ◌<◌, List, [], ◌++◌, Some, refl, sym, ap, ◌∙◌, subst, append-nil, append_assoc}
use Rattle.std.specs.Prelude.{slice_get, is_some, IsTrue, Result, Ok, Err, IfOk}
use Rattle.join_core.specs.declared.memory.OutOfMemory.{OutOfMemory}
use Rattle.mpx_name.specs.Name.{Name}
use Rattle.mpx_num.specs.declared.own.Operation.{Operation}
use Rattle.mpx_board.specs.Boards.{Look, IsBoardBelow}
use Rattle.mpx_board.proofs.Facts.{below_through, join_is_least}
use Rattle.mpx_node.specs.declared.finished.Finished.{Finished}
use Rattle.mpx_node.specs.declared.node.Harvest.{Harvest}
use Rattle.mpx_node.specs.declared.node.Harvest.TheVariants as H
use Rattle.mpx_node.specs.Harvests.{Harvests as AnswersHarvest, HarvestsOpened}
use Rattle.mpx_node.specs.Nodes.{NodeView, add_result, front_on, learn, next_result, posted_on}
use Rattle.mpx_world.specs.Worlds.{ProcessView, WorldView, Harvests, happens, harvests, made_next, start, stores}
use Rattle.mpx_world.specs.Networks.{NetworkGoesOn, IsNetwork, Network, network_of, world_in}
use Rattle.mpx_world.specs.Enough.{AnswerDone, AnswerDoneUpTo, AreDone, HasAllOf, IsEnough, StandOn, TellAll, WasNode, was_in}
use Rattle.mpx_world.proofs.Later.{later_goes_on, later_happens}
use Rattle.mpx_world.proofs.Steps.{at_here}
use Rattle.mpx_world.proofs.Opened.{some_there}
use Rattle.mpx_world.proofs.Going.{later_on, well}
use Rattle.mpx_world.proofs.Progress.{before_by, enough_by, told_below}

-- WHAT HARVESTS ANSWER

done_cases : (ops : List Operation) (name : Name) (finished : Finished) (result : Result Harvest OutOfMemory) (old new : NodeView) (P : NodeView → Type 0) → HarvestsOpened ops name (Some finished) result old new → (new ≡ add_result name finished (made_next ops name old) old → P new) → IfOk result (λ answer. (answer ≡ H.Done (front_on old name)) × P new)
done_cases ops name finished (Ok (H.Done call)) old new P h f = (ap H.Done h.0, f h.1)
done_cases ops name finished (Ok H.NotYet) old new P h f = absurd h
done_cases ops name finished (Ok H.NotOpened) old new P h f = absurd h
done_cases ops name finished (Err e) old new P h f = tt

pub answer_done : (count : ℕ) (w : WorldView) (p : ℕ) (name : Name) (node : NodeView) → node ≡ (w.each p).node → IsTrue (is_some (node.opened name)) → AreDone w p name count → AnswerDone w.operations node name count
answer_done zero w p name node is opened d = tt
answer_done (suc n) w p name node is opened d = λ new result h.
    let v = w.each p in
    let after = happens w (Harvests p name) in
    let ops = w.operations in
    let next = some_there (next_result ops v.node name) d.0 in
    let here : next_result ops node name ≡ Some next.0 = ap (λ x. next_result ops x name) is ∙ next.1 in
    let done : HarvestsOpened ops name (Some next.0) result node new = subst (λ o. HarvestsOpened ops name o result node new) here (subst (λ b. AnswersHarvest ops b name (next_result ops node name) result node new) opened h) in
    done_cases ops name next.0 result node new (λ x. AnswerDone ops x name n) done (λ e.
    let now : new ≡ (after.each p).node =
    e ∙ ap (λ x. add_result name next.0 (made_next ops name x) x) is ∙ ap (λ o. (stores ops name o v).node) (sym next.1) ∙ sym (ap (λ (x : ProcessView). x.node) (at_here w p (harvests ops name))) in
    let still : IsTrue (is_some ((after.each p).node.opened name)) = ((later_happens w (Harvests p name)).kept p).opened_kept name (subst (λ (x : NodeView). IsTrue (is_some (x.opened name))) is opened) in
    answer_done n after p name new now (subst (λ (x : NodeView). IsTrue (is_some (x.opened name))) (sym now) still) d.1)

pub enough_in : (n : Network) → IsNetwork n → (p : ℕ) (node : NodeView) → slice_get n.nodes p ≡ Some node → (name : Name) (k : ℕ) → IsEnough (was_in n) node name k → AnswerDoneUpTo n.operations node name k
enough_in n s p node at name k h count l =
    let is = s.each p node at in
    subst (λ ops. AnswerDone ops node name count) (sym (later_goes_on n.happenings (start n.operations n.ranks n.size)).operations)
    (answer_done count (world_in n) p name node is h.opened
    (enough_by n.operations n.ranks n.size n.happenings s.may p name k (subst (λ x. IsEnough (was_in n) x name k) is h) count (subst (λ x. front_on x name + count ≤ k + 1) is l)))

-- WHAT A NODE WAS, AND WHAT ITS BOARD HAS

pub is_now : (n : Network) → IsNetwork n → (q : ℕ) (node : NodeView) → slice_get n.nodes q ≡ Some node → WasNode n q node
is_now n s q node at = record { moment = world_in n; was = record { early = n.happenings; late = []; all = append-nil n.happenings; is = refl }; is = s.each q node at }

pub was_since : (n : Network) (nodes : List NodeView) (parts : List Look) (on : NetworkGoesOn n nodes parts) (q : ℕ) (node : NodeView) → WasNode n q node → WasNode (network_of on) q node
was_since n nodes parts on q node h = record {
  moment = h.moment;
  was = record { early = h.was.early; late = h.was.late ++ on.later; all = sym (append_assoc h.was.early h.was.late on.later) ∙ ap (λ hs. hs ++ on.later) h.was.all; is = h.was.is };
  is = h.is;
}

pub learned_stands : (old new : NodeView) (part : Look) → new ≡ learn part old → IsBoardBelow part new.board
learned_stands old new part is = subst (λ (x : NodeView). IsBoardBelow part x.board) (sym is) (join_is_least old.board part).right

pub stands_later : (n : Network) (nodes : List NodeView) (parts : List Look) → IsNetwork n → NetworkGoesOn n nodes parts → (p : ℕ) (old new : NodeView) → slice_get n.nodes p ≡ Some old → slice_get nodes p ≡ Some new → (part : Look) → IsBoardBelow part old.board → IsBoardBelow part new.board
stands_later n nodes parts s on p old new at now part below =
    let grown = ((later_on n nodes parts on).kept p).board_kept in
    below_through part old.board new.board below
    (subst (λ (x : NodeView). IsBoardBelow x.board new.board) (sym (s.each p old at)) (subst (λ (x : NodeView). IsBoardBelow ((world_in n).each p).node.board x.board) (sym (on.network.each p new now)) grown))

pub heard_of : (n : Network) → IsNetwork n → (p q : ℕ) (node sender : NodeView) → slice_get n.nodes p ≡ Some node → WasNode n q sender → (parts : List Look) → TellAll p sender.board parts → StandOn parts node.board → (name : Name) (k : ℕ) → k < posted_on sender name → HasAllOf (was_in n) node.board q name k
heard_of n s p q node sender at was parts tell stand name k posted =
    let is = s.each p node at in
    let b = before_by n.operations n.ranks n.size n.happenings s.may was.moment was.was in
    record {
      moment = was.moment;
      was = was.was;
      posted = subst (λ x. k < posted_on x name) was.is posted;
      below = subst (λ (x : NodeView). IsBoardBelow (was.moment.each q).node.board x.board) (sym is)
          (told_below was.moment (world_in n) p q parts b.0 (well n s) b.1 (subst (λ (x : NodeView). TellAll p x.board parts) was.is tell) (subst (λ (x : NodeView). StandOn parts x.board) is stand));
    }
