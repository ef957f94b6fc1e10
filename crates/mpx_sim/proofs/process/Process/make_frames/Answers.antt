use Rattle.std.proofs.Common.{map, ap, sym, subst, ◌∙◌}
use Rattle.std.proofs.lemmas.Result.{IfOk-weaker}
use Rattle.mpx_board.specs.Boards.{join_all}
use Rattle.mpx_format.specs.Decoding.{decoded, shown}
use Rattle.mpx_sim.specs.Shown.{process_of, sender_of}
use Rattle.mpx_sim.specs.Turns.{FrameView, IsListOf, a_list, one_a_turn}
use Rattle.mpx_sim.proofs.Sending.{parts_in_turns, parts_of_frames}
use Rattle.mpx_sim.proofs.Spelled.{spelled_parts, spelled_whole}
use Rattle.mpx_sim.proofs.process.Process.make_frames.Goals as goal

pub frames_with-requires-clause-frames : goal.frames_with-requires-clause-frames
frames_with-requires-clause-frames c =
    let made = c.in_ok-list.ensures.frames in
    spelled_whole c.in_ok-list.list.items made.parts made.spelled

pub returns-clause-list : goal.returns-clause-list
returns-clause-list c =
    let made = c.in_ok-list.ensures.frames in
    let v = process_of c.make_list.new.self in
    let parts = spelled_parts c.in_ok-list.list.items made.parts made.spelled in
    IfOk-weaker c.frames_with.result _ _
    (λ sent same shifts size due to.
    let sender = sender_of c.args.self.now.sender in
    subst (IsListOf shifts size c.args.turn v.rank.me sender v.node) (sym (same ∙ (λ i. one_a_turn (c.me.ensures i) (to i) c.args.turn (parts i))))
    (a_list made.parts due made.facts made.join made.fit made.few))
    c.frames_with.ensures

pub returns-clause-join : goal.returns-clause-join
returns-clause-join c =
    let made = c.in_ok-list.ensures.frames in
    let lists = c.in_ok-list.list.items in
    let parts = map (λ bytes. shown (decoded bytes)) lists in
    IfOk-weaker c.frames_with.result _ _
    (λ sent same.
    ap join_all (sym (parts_of_frames sent.items) ∙ ap (map (λ (f : FrameView). f.part)) same ∙ parts_in_turns c.me.result c.args.to c.args.turn parts ∙ spelled_parts lists made.parts made.spelled) ∙ made.join)
    c.frames_with.ensures
