use Rattle.std.proofs.Common.{rules, arith, ◌≡◌, ◌+◌, ◌++◌, ◌∷◌, [], map, length, ap, sym, subst, ◌∙◌}
use Rattle.std.proofs.lemmas.List.{length-map, map-id, map_push}
use Rattle.std.proofs.lemmas.List.Elements.{All-get_or}
use Rattle.std.proofs.lemmas.Iterator.Adapters.{YieldsList-from_vec}
use Rattle.std.proofs.lemmas.Iterator.Consumers.{YieldsList-end, YieldsList-turn}
use Rattle.mpx_format.specs.Decoding.{decoded, shown}
use Rattle.mpx_sim.specs.Frames.{IsFrame}
use Rattle.mpx_sim.specs.Shown.{frame_of}
use Rattle.mpx_sim.specs.Turns.{FrameView, one_a_turn}
use Rattle.mpx_sim.proofs.Sending.{length_in_turns, one_turn_more}
use Rattle.mpx_sim.proofs.frames.frames_with.Goals as goal

pub invariant_of-frame : goal.invariant_of-frame
invariant_of-frame c =
    let turn = YieldsList-turn (YieldsList-from_vec c.args.lists.items (search rules) (search rules)) c.loop-bytes.yielded c.loop-bytes.bytes-iterator c.loop-bytes.yielded_by c.next.result c.next.new.self c.in-Some.bytes c.in-Some.is c.next.ensures.steps in
    record { spelled = subst IsFrame (sym turn.1) (All-get_or IsFrame c.args.lists.items _ c.in-Some.bytes turn.0 c.requires.frames) }

pub loop-bytes-preserved : goal.loop-bytes-preserved
loop-bytes-preserved c =
    let parts = map (λ bytes. shown (decoded bytes)) c.loop-bytes.yielded in
    let part = shown (decoded c.in-Some.bytes) in
    let made = c.loop-bytes.made.items in
    let from = c.args.from in
    let to = c.args.to in
    let turn = c.args.turn in
    let as_many : length made ≡ length parts = sym (length-map made frame_of) ∙ ap length c.loop-bytes.invariant ∙ length_in_turns from to turn parts in
    let many : c.len.result ≡ length parts = omega (arith, as_many) in
    ap (map frame_of) c.in_ok-push.ensures.items
    ∙ map_push frame_of made _
    ∙ (λ i. c.loop-bytes.invariant i ++ (let f : FrameView = record { from = from; to = to; turn = turn + many i; part = part } in f ∷ []))
    ∙ sym (one_turn_more from to turn parts part)
    ∙ ap (one_a_turn from to turn) (sym (map_push (λ bytes. shown (decoded bytes)) c.loop-bytes.yielded c.in-Some.bytes))

pub returns : goal.returns
returns c =
    let end = YieldsList-end (YieldsList-from_vec c.args.lists.items (search rules) (search rules)) c.loop-bytes.yielded c.loop-bytes.bytes-iterator c.loop-bytes.yielded_by c.next.result c.next.new.self c.in-None.is c.next.ensures.steps in
    c.loop-bytes.invariant ∙ ap (λ lists. one_a_turn c.args.from c.args.to c.args.turn (map (λ bytes. shown (decoded bytes)) lists)) (sym (map-id c.loop-bytes.yielded) ∙ end.0)
