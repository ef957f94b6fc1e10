-- What a port that stands in a world that can be reached answers a ticket.
use Rattle.std.proofs.Common.{◌≡◌, ◌<◌, ◌≤◌, ℕ, true, false, Option, None, Some, sym, ap, ◌∙◌, subst, true≢false}
use Rattle.std.proofs.lemmas.Option.{same_Some}
use Rattle.mpx_post.specs.Posts.{Given}
use Rattle.mpx_post.specs.Equality.{same_given, given_equality}
use Rattle.mpx_board.specs.Boards.{Look, told}
use Rattle.mpx_node.specs.declared.finished.Finished.{Finished}
use Rattle.mpx_node.specs.Nodes.{NodeView, front_on, result_on}
use Rattle.mpx_bus.specs.Ports.{PortView, node_in}
use Rattle.mpx_bus.specs.Rule.{Stood}
use Rattle.mpx_ticket.specs.declared.ticket.Ticket.{Ticket}
use Rattle.mpx_ticket.specs.declared.ticket.TicketTested.TheVariants as T
use Rattle.mpx_ticket.specs.Tickets.{HoldsAnswer, IsAnswer, own_post}
use Rattle.mpx_ticket.proofs.Standing.{own_beside, own_on_board}

-- two posts that differ
not_same : (x y : Given) (o : Option Given) → o ≡ Some x → same_given x y ≡ false → o ≡ Some y → ⊥
not_same x y o is differ e =
    let same : x ≡ y = same_Some x y (sym is ∙ e) in
    let t : same_given x y ≡ true = subst (λ (z : Given). same_given x z ≡ true) same (given_equality.reflexive x) in
    true≢false (sym t ∙ differ)

none_no : (x : Given) (o : Option Given) → o ≡ None → o ≡ Some x → ⊥
none_no x o is e = let f : None ≡ Some x = sym is ∙ e in absurd (cc f)

module _ (port : PortView) (ticket : Ticket) (n : NodeView) (stood : Stood port.setup port.me port.journal) (here : n ≡ node_in port) where
  held_in : (o : Option Finished) → result_on n ticket.name ticket.call ≡ o → result_on (node_in port) ticket.name ticket.call ≡ o
  held_in o e = ap (λ (x : NodeView). result_on x ticket.name ticket.call) (sym here) ∙ e

  front_in : front_on n ticket.name ≤ ticket.call → front_on (node_in port) ticket.name ≤ ticket.call
  front_in later = subst (λ (x : NodeView). front_on x ticket.name ≤ ticket.call) here later

  pub answer_other : (f : Finished) → result_on n ticket.name ticket.call ≡ Some f → same_given f.mine ticket.post ≡ false → IsAnswer port ticket T.Strange
  answer_other f held differ e = not_same f.mine ticket.post (own_post port ticket) (own_beside port.setup port.me port.journal stood ticket.name ticket.call f (held_in (Some f) held)) differ e

  pub answer_done : (f copy : Finished) → result_on n ticket.name ticket.call ≡ Some f → same_given f.mine ticket.post ≡ true → copy ≡ f → IsAnswer port ticket (T.Done copy)
  answer_done f copy held same is = (held_in (Some f) held ∙ ap Some (sym is), ap (λ (x : Finished). x.mine) is ∙ given_equality.sound f.mine ticket.post same)

  -- a result of which no copy was had
  pub answer_held : (f : Finished) → result_on n ticket.name ticket.call ≡ Some f → same_given f.mine ticket.post ≡ true → HoldsAnswer port ticket
  answer_held f held same = record { finished = f; held = held_in (Some f) held; mine = given_equality.sound f.mine ticket.post same }

  pub answer_let_go : result_on n ticket.name ticket.call ≡ None → ticket.call < front_on n ticket.name → IsAnswer port ticket T.LetGo
  answer_let_go none l = (subst (λ (x : NodeView). ticket.call < front_on x ticket.name) here l, held_in None none)

  module _ (b : Look) (who : ℕ) (later : front_on n ticket.name ≤ ticket.call) (board : b ≡ n.board) (who_is : who ≡ port.me) where
    own_is : (o : Option Given) → o ≡ told ((b.contexts ticket.name).posts ticket.call who) → own_post port ticket ≡ o
    own_is o e =
        own_on_board port.setup port.me port.journal stood ticket.name ticket.call (front_in later)
        ∙ ap (λ (x : Look × ℕ). told ((x.0.contexts ticket.name).posts ticket.call x.1)) (λ i. (sym (board ∙ ap (λ (x : NodeView). x.board) here) i, sym who_is i))
        ∙ sym e

    pub answer_unknown : None ≡ told ((b.contexts ticket.name).posts ticket.call who) → IsAnswer port ticket T.Strange
    answer_unknown e f = none_no ticket.post (own_post port ticket) (own_is None e) f

    pub answer_kept : (x : Given) → Some x ≡ told ((b.contexts ticket.name).posts ticket.call who) → same_given x ticket.post ≡ false → IsAnswer port ticket T.Strange
    answer_kept x e differ f = not_same x ticket.post (own_post port ticket) (own_is (Some x) e) differ f

    pub answer_not_yet : (x : Given) → Some x ≡ told ((b.contexts ticket.name).posts ticket.call who) → same_given x ticket.post ≡ true → IsAnswer port ticket T.NotYet
    answer_not_yet x e same = (own_is (Some x) e ∙ ap Some (given_equality.sound x ticket.post same), front_in later)
