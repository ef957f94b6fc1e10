-- What is raised is what the digest of the board says, and the parts are those of the lean board.
use Rattle.std.proofs.Common.{refl, ap, ◌∙◌, subst}
use Rattle.std.specs.Prelude.{All}
use Rattle.std.proofs.lemmas.List.Elements.{All-weaker}
use Rattle.mpx_board.specs.Boards.{Has, Look, join, own_acks}
use Rattle.mpx_board.specs.Looks.{look}
use Rattle.mpx_board.specs.Views.{view_of_acks}
use Rattle.mpx_digest.specs.Digest.{numbers_acked}
use Rattle.mpx_delta.specs.Facts.{OnlyFactsOf}
use Rattle.mpx_delta.specs.Digests.{common_on, without}
use Rattle.mpx_delta.proofs.Leaning.{without_only}
use Rattle.mpx_delta.proofs.Saying.{acknowledged}
use Rattle.mpx_delta.proofs.lacking.new_list.Goals as goal

pub returns-in-Ok : goal.returns-in-Ok
returns-in-Ok c =
    let numbers = numbers_acked (view_of_acks c.in_ok-digest.digest) in
    let board : Look = look c.args.board.now in
    let after : Look = join board (own_acks c.args.me numbers) in
    let lean : Look = record board { acks = (look c.in_ok-acks.acks).acks } in
    let is = c.in_ok-acks.ensures in
    record {
      after = after;
      raises = c.in-Ok.ensures;
      own = acknowledged c.args.me numbers board after c.in_ok-digest.ensures.digest refl;
      facts = subst (λ l. All (λ part. OnlyFactsOf (look part) l) c.in_ok-parts.parts.items) is
          (All-weaker (λ part. OnlyFactsOf (look part) (look c.in_ok-lean.lean)) (λ part. OnlyFactsOf (look part) lean) (λ part only f has. without_only (common_on c.args.processes (look c.in_ok-acks.acks)) lean f (subst (λ l. Has l f) c.in_ok-lean.ensures (only f has))) c.in_ok-parts.parts.items c.in_ok-parts.ensures.facts);
      fit = c.in_ok-parts.ensures.fit;
      few = c.in_ok-parts.ensures.few;
      join = c.in_ok-parts.ensures.join ∙ c.in_ok-lean.ensures ∙ ap (λ l. without (common_on c.args.processes l) l) is;
    }
