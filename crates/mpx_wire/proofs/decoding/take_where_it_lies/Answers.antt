use Rattle.std.proofs.Common.{◌++◌, List, ℕ, subst}
use Rattle.join_nest.proofs.Fronts.{on_err}
use Rattle.mpx_board.specs.Looks.{parts_of}
use Rattle.mpx_board.specs.Parts.{PartsView}
use Rattle.mpx_format.specs.Decoding.{IsSpelled}
use Rattle.mpx_wire.proofs.Taking.{joins_again, left_alone, parts_stand, spelled_between, spelled_joined, spelled_left}
use Rattle.mpx_wire.proofs.decoding.take_where_it_lies.Goals as goal

pub take_apart-requires-clause-spelled : goal.take_apart-requires-clause-spelled
take_apart-requires-clause-spelled c =
    let near = c.apart-beyond.result.0.now in
    let more = c.apart-beyond.result.1 in
    let e = c.in-Ok.ensures more in
    parts_stand (near ++ more) (subst (λ (bytes : List ℕ). (v : PartsView) × IsSpelled bytes v) c.apart-beyond.ensures c.requires.spelled) c.in-Ok.version (c.in-Ok.rest.now ++ more) e

pub returns-in_default-clause-err : goal.returns-in_default-clause-err
returns-in_default-clause-err c = λ v spelled. left_alone (parts_of c.args.board.now) v

pub returns-in_err-_after-clause-err : goal.returns-in_err-_after-clause-err
returns-in_err-_after-clause-err c =
    let near = c.apart-beyond.result.0.now in
    let more = c.apart-beyond.result.1 in
    let e = c.in-Ok.ensures more in
    on_err c.from_residual.result (λ v s. spelled_left (near ++ more) c.in-Ok.version (c.in-Ok.rest.now ++ more) e (parts_of c.args.board.now) (parts_of c.take_apart.new.board) c.in_err-_after.ensures.err v (subst (λ (bytes : List ℕ). IsSpelled bytes v) c.apart-beyond.ensures s))

pub returns-in_err-_after-clause-again : goal.returns-in_err-_after-clause-again
returns-in_err-_after-clause-again c =
    let near = c.apart-beyond.result.0.now in
    let more = c.apart-beyond.result.1 in
    let e = c.in-Ok.ensures more in
    on_err c.from_residual.result (λ v s. joins_again (parts_of c.args.board.now) v (parts_of c.take_apart.new.board)
    (spelled_between (near ++ more) c.in-Ok.version (c.in-Ok.rest.now ++ more) e (parts_of c.args.board.now) (parts_of c.take_apart.new.board) c.in_err-_after.ensures.err v (subst (λ (bytes : List ℕ). IsSpelled bytes v) c.apart-beyond.ensures s)))

pub returns-clause-ok : goal.returns-clause-ok
returns-clause-ok c =
    let near = c.apart-beyond.result.0.now in
    let more = c.apart-beyond.result.1 in
    let e = c.in-Ok.ensures more in
    λ v s. spelled_joined (near ++ more) c.in-Ok.version (c.in-Ok.rest.now ++ more) e (parts_of c.args.board.now) (parts_of c.take_apart.new.board) (c.in_ok-_after._after.now ++ c.take_apart.new.beyond) c.in_ok-_after.ensures.ok v (subst (λ (bytes : List ℕ). IsSpelled bytes v) c.apart-beyond.ensures s)
