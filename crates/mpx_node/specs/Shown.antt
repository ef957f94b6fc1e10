-- What a node shows.
use Rattle.mpx_board.specs.Looks.{look}
use Rattle.mpx_node.specs.Opened.{opened_by}
use Rattle.mpx_node.specs.declared.node.Node.{Node}
use Rattle.mpx_node.specs.Nodes.{NodeView}

-- the process that a node is
abbrev pub node_of : Node → NodeView
node_of n = record { me = n.me; processes = n.processes; board = look n.board; opened = opened_by n.opened }
