-- The board says what it has while its frames are made, and then takes that back.
use Rattle.std.proofs.Common.{ap, sym, ◌∙◌, subst}
use Rattle.mpx_board.specs.Contexts.{look_of}
use Rattle.mpx_board.specs.Looks.{look, parts_of}
use Rattle.mpx_board.specs.Raised.{StoringLeads}
use Rattle.mpx_board.specs.Views.{view_of_acks}
use Rattle.mpx_digest.specs.Digest.{numbers_acked}
use Rattle.mpx_delta.proofs.Framing.{frames_lack, leads_between, led_back}
use Rattle.mpx_delta.proofs.Keeping.{still_kept}
use Rattle.mpx_delta.proofs.Saying.{whole_said}
use Rattle.mpx_delta.proofs.framed.new_frames.Goals as goal

pub returns-in_err-before-clause-kept : goal.returns-in_err-before-clause-kept
returns-in_err-before-clause-kept c = still_kept c.args.kept.now.of.items c.args.board.now c.say.new.self c.in_err-before.ensures.err c.requires.kept

pub exchange-said-requires : goal.exchange-said-requires
exchange-said-requires c = (parts_of c.args.board.now, subst (λ v. StoringLeads c.in_ok-before.before v (parts_of c.args.board.now)) (sym c.kept_frames-made.ensures.board) c.in_ok-before.ensures.back)

pub returns-in-Ok-clause-board : goal.returns-in-Ok-clause-board
returns-in-Ok-clause-board c = ap look_of (led_back c.in_ok-before.before (parts_of c.args.board.now) _ _ _ c.in_ok-before.ensures.back c.kept_frames-made.ensures.board c.exchange-said.ensures.new)

pub returns-clause-board : goal.returns-clause-board
returns-clause-board c = ap look_of (led_back c.in_ok-before.before (parts_of c.args.board.now) _ _ _ c.in_ok-before.ensures.back c.kept_frames-made.ensures.board c.exchange-said.ensures.new)

pub returns-in-Ok-clause-made : goal.returns-in-Ok-clause-made
returns-in-Ok-clause-made c =
    let old = parts_of c.args.board.now in
    let mid = parts_of c.say.new.self in
    let back = led_back c.in_ok-before.before old mid _ _ c.in_ok-before.ensures.back c.kept_frames-made.ensures.board c.exchange-said.ensures.new in
    let beyond = c.in_ok-digest.ensures.digest in
    let all = c.in_ok-before.ensures.ok ∙ whole_said c.args.me (numbers_acked (view_of_acks c.in_ok-digest.digest)) beyond.whole (look c.args.board.now) beyond.same in
    frames_lack c.args.me c.args.processes c.args.limit beyond.whole old mid c.in_ok-before.before c.exchange-said.result _ beyond.digest all c.in_ok-before.ensures.back
    (leads_between c.exchange-said.result old mid _ _ back c.kept_frames-made.ensures.board c.exchange-said.ensures.back) c.in-Ok.ensures.frames
