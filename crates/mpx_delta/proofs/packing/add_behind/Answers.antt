-- The seam, and the others behind it.
use Rattle.std.proofs.Common.{◌≡◌, ◌<◌, ◌++◌, ◌∷◌, List, length, set, ap, subst}
use Rattle.std.proofs.lemmas.List.{append-nil}
use Rattle.mpx_board.specs.declared.board.Board.{Board}
use Rattle.mpx_delta.specs.Pieces.{SayTogether}
use Rattle.mpx_delta.proofs.Adding.{some_at}
use Rattle.mpx_delta.proofs.Joining.{says_itself, says_seam}
use Rattle.mpx_delta.proofs.packing.add_behind.Goals as goal
use Rattle.mpx_delta.proofs.packing.add_behind.Goals.{in-Some+in_ok-seam+in-None+in_ok-push-in-None, in-Some+in_ok-seam+in-Some-2, in_default}

pub returns : goal.returns
returns c =
    let step : SayTogether c.args.limit (c.args.made.now.items ++ c.args.rest.items) (c.match-pop.made.items ++ c.match-pop.rest.items) = elim c.match-pop.branch [
      | in-Some+in_ok-seam+in-None+in_ok-push-in-None w ↦
          let made : c.match-pop.made.items ≡ c.args.made.now.items = cc (w.made-is, w.in_ok-push-in-None.ensures.items, w.in-Some.ensures.items) in
          let rest : c.match-pop.rest.items ≡ c.args.rest.items = cc (w.rest-is) in
          rw (made, rest) (says_itself c.args.limit (c.args.made.now.items ++ c.args.rest.items))
      | in-Some+in_ok-seam+in-Some-2 w ↦
          let made : c.match-pop.made.items ≡ c.pop.new.self.items = ap (λ v. v.items) w.made-is in
          let rest : c.match-pop.rest.items ≡ set c.args.rest.items 0 w.in-Some-2.both = ap (λ v. v.items) w.rest-is in
          let says = some_at w.in_ok-seam.field-0 w.in-Some-2.both (λ b. (0 < length w.deref.result.now) × SayTogether c.args.limit (w.in-Some.last ∷ w.deref.result.now) (set w.deref.result.now 0 b)) w.in_ok-seam.ensures w.in-Some-2.is in
          rw (made, rest) (says_seam c.args.limit c.args.made.now.items c.pop.new.self.items w.in-Some.last c.args.rest.items (set c.args.rest.items 0 w.in-Some-2.both) w.in-Some.ensures.items
          (subst (λ (bs : List Board). SayTogether c.args.limit (w.in-Some.last ∷ bs) (set bs 0 w.in-Some-2.both)) w.deref.ensures.value says.1))
      | in_default w ↦
          let made : c.match-pop.made.items ≡ c.args.made.now.items = cc (w.made-is, append-nil c.pop.new.self.items, w.in_default.ensures.items) in
          let rest : c.match-pop.rest.items ≡ c.args.rest.items = cc (w.rest-is) in
          rw (made, rest) (says_itself c.args.limit (c.args.made.now.items ++ c.args.rest.items))
    ] in
    rw c.in_ok-append.ensures.items step
