-- What a ticket is, and what a port answers it.
use Rattle.std.specs.Prelude.{◌≡◌, ◌≢◌, ◌<◌, ◌≤◌, List, Option, None, Some, Ok, slice_get}
use Rattle.mpx_name.specs.Name.{Name}
use Rattle.mpx_num.specs.declared.own.Operation.{Operation}
use Rattle.mpx_post.specs.Posts.{Given}
use Rattle.mpx_post.specs.declared.draft.Draft.{Draft}
use Rattle.mpx_value.specs.Histories.{Made, posts_on}
use Rattle.mpx_node.specs.declared.finished.Finished.{Finished}
use Rattle.mpx_node.specs.Nodes.{NodeView, checked_on, front_on, posted_on, result_on}
use Rattle.mpx_bus.specs.Ports.{PortView, node_in, process_in}
use Rattle.mpx_ticket.specs.declared.ticket.Ticket.{Ticket}
use Rattle.mpx_ticket.specs.declared.ticket.TicketTested.{TicketTested}
use Rattle.mpx_ticket.specs.declared.ticket.TicketTested.TheVariants as T

-- the posts that a port has made, in their order
abbrev pub made_in : PortView → List Made
made_in port = (process_in port).made

-- the ticket of the next post on the context, the draft's, by a node
abbrev pub IsNextTicket : List Operation → NodeView → Name → Draft → Ticket → Type 0
IsNextTicket ops node name draft ticket = (ticket.name ≡ name) × ((ticket.call ≡ posted_on node name) × (checked_on ops node name draft ≡ Ok ticket.post))

-- the post that the port made as the ticket's call, where it did
abbrev pub own_post : PortView → Ticket → Option Given
own_post port ticket = slice_get (posts_on ticket.name (made_in port)) ticket.call

-- the stored result of the ticket's call, beside the ticket's post; or the ticket's post is made, and the call isn't harvested yet; or
-- the call was harvested, and its result is let go; or the port has made another post there, or none
abbrev pub IsAnswer : PortView → Ticket → TicketTested → Type 0
IsAnswer port ticket (T.Done finished) = (result_on (node_in port) ticket.name ticket.call ≡ Some finished) × (finished.mine ≡ ticket.post)
IsAnswer port ticket T.NotYet = (own_post port ticket ≡ Some ticket.post) × (front_on (node_in port) ticket.name ≤ ticket.call)
IsAnswer port ticket T.LetGo = (ticket.call < front_on (node_in port) ticket.name) × (result_on (node_in port) ticket.name ticket.call ≡ None)
IsAnswer port ticket T.Strange = own_post port ticket ≢ Some ticket.post

-- the stored result of the ticket's call, beside the ticket's post
pub record HoldsAnswer (port : PortView) (ticket : Ticket) : Type 0 where
  pub finished : Finished
  pub held : result_on (node_in port) ticket.name ticket.call ≡ Some finished
  pub mine : finished.mine ≡ ticket.post
