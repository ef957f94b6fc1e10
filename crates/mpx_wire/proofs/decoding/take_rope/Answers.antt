use Rattle.std.proofs.Common.{◌≡◌, ◌∙◌, List, ℕ, OnErr, OnOk, subst, sym}
use Rattle.mpx_board.specs.Boards.{IsBetween, join}
use Rattle.mpx_board.specs.Contexts.{look_of}
use Rattle.mpx_board.specs.Looks.{look}
use Rattle.mpx_board.specs.Parts.{PartsView}
use Rattle.mpx_format.specs.Decoding.{IsSpelled}
use Rattle.mpx_decode.proofs.Taken.{if_err}
use Rattle.mpx_wire.proofs.Taking.{between_again, if_done, many_tell}
use Rattle.mpx_wire.proofs.decoding.take_rope.Goals as goal

pub take_from-requires-clause-spelled : goal.take_from-requires-clause-spelled
take_from-requires-clause-spelled c = subst (λ (bytes : List ℕ). (v : PartsView) × IsSpelled bytes v) (sym c.in-Some.ensures.some) c.requires.spelled

pub returns-in-Some-clause-ok : goal.returns-in-Some-clause-ok
returns-in-Some-clause-ok c =
    subst (λ (bytes : List ℕ). OnOk c.take_from.result ((v : PartsView) → IsSpelled bytes v → look c.take_from.new.board ≡ join (look c.args.board.now) (look_of v))) c.in-Some.ensures.some c.take_from.ensures.ok

pub returns-in-Some-clause-err : goal.returns-in-Some-clause-err
returns-in-Some-clause-err c =
    subst (λ (bytes : List ℕ). OnErr c.take_from.result ((v : PartsView) → IsSpelled bytes v → IsBetween (look c.args.board.now) (look_of v) (look c.take_from.new.board))) c.in-Some.ensures.some c.take_from.ensures.err

-- what was joined in part is joined with the rest
pub returns-in-Err-clause-ok : goal.returns-in-Err-clause-ok
returns-in-Err-clause-ok c = if_done c.take_joined.result (λ joined v spelled. joined v spelled ∙ c.in-Err.ensures.again v spelled) c.take_joined.ensures.ok

pub returns-in-Err-clause-err : goal.returns-in-Err-clause-err
returns-in-Err-clause-err c =
    if_err c.take_joined.result (λ left v spelled. between_again (look c.args.board.now) (look_of v) (look c.take_where_it_lies.new.board) (look c.take_joined.new.board) (c.in-Err.ensures.again v spelled) (c.in-Err.ensures.err v spelled) (left v spelled)) c.take_joined.ensures.err

pub returns-in-Err-clause-some : goal.returns-in-Err-clause-some
returns-in-Err-clause-some c = if_err c.take_joined.result (λ left v spelled. many_tell c.args.rope.now c.in-None.ensures.none v spelled) c.take_joined.ensures.err
