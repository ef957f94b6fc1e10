use Rattle.std.proofs.Common.{◌∙◌, sym}
use Rattle.mpx_post.proofs.Checks.{behind_shape, few_received, few_sent, making_passed, op_passed, refused_by_shape, root_passed}
use Rattle.mpx_post.proofs.draft.Draft.check_in.Goals as goal

pub returns-in-Some : goal.returns-in-Some
returns-in-Some c = refused_by_shape c.args.seat.now c.args.at.now c.args.self c.args.for_type c.in-Some.refusal (sym c.shape_refusal.ensures ∙ c.in-Some.is)

pub posted-requires : goal.posted-requires
posted-requires c =
    let seat = c.args.seat.now in
    let at = c.args.at.now in
    let draft = c.args.self in
    let shape = sym c.shape_refusal.ensures ∙ c.in_default.is in
    record {
      root = root_passed seat at draft c.args.for_type c.requires.size shape;
      op = op_passed seat at draft c.args.for_type c.requires.op shape;
      sent = few_sent seat at draft c.args.for_type c.requires.size c.requires.sources c.requires.destinations shape;
      received = few_received seat at draft c.args.for_type c.requires.size c.requires.sources c.requires.destinations shape;
      making = λ none. making_passed seat at draft c.requires.size (sym c.place_refusal-refusal.ensures ∙ none);
    }

pub returns : goal.returns
returns c =
    let shape = sym c.shape_refusal.ensures ∙ c.in_default.is in
    rw (behind_shape c.args.seat.now c.args.at.now c.args.self c.args.for_type shape, ← c.place_refusal-refusal.ensures) c.posted.ensures
