use Rattle.std.proofs.Common.{refl, ap, subst, ◌∙◌}
use Rattle.mpx_board.specs.Boards.{IsBetween, join}
use Rattle.mpx_board.specs.Looks.{look}
use Rattle.mpx_node.specs.Keeping.{named, told}
use Rattle.mpx_node.specs.Nodes.{NodeView}
use Rattle.mpx_node.specs.Shown.{node_of}
use Rattle.mpx_node.proofs.Frames.{mapped_err, mapped_ok, spelled_shows}
use Rattle.mpx_node.proofs.node.Node.take_rope.Goals as goal

pub returns-clause-ok : goal.returns-clause-ok
returns-clause-ok c =
    let s = spelled_shows c.args.frame.now c.requires.spelled in
    mapped_ok c.take_rope.result (λ taken. ap (λ b. let n : NodeView = record (node_of c.args.self.now) { board = b } in n) (taken s.parts s.spelled ∙ ap (join (node_of c.args.self.now).board) s.shows)) c.take_rope.ensures.ok

pub returns-clause-err : goal.returns-clause-err
returns-clause-err c =
    let s = spelled_shows c.args.frame.now c.requires.spelled in
    mapped_err c.take_rope.result (λ stopped. (refl, subst (λ part. IsBetween (node_of c.args.self.now).board part (look c.take_rope.new.board)) s.shows (stopped s.parts s.spelled))) c.take_rope.ensures.err

pub returns-clause-some : goal.returns-clause-some
returns-clause-some c =
    let s = spelled_shows c.args.frame.now c.requires.spelled in
    mapped_err c.take_rope.result (λ some none. some s.parts s.spelled (s.shows ∙ none)) c.take_rope.ensures.some

pub take_rope-requires-clause-kept : goal.take_rope-requires-clause-kept
take_rope-requires-clause-kept c = told _ _ c.args.self.now.kept_right

pub invariant_of-self : goal.invariant_of-self
invariant_of-self c =
    let node = c.args.self.now in
    record { some = node.some; few = node.few; kept_right = named _ _ c.take_rope.ensures.kept }
