use Rattle.std.proofs.Common.{◌≡◌, ◌∙◌, List, ℕ, OnErr, OnOk, subst, sym}
use Rattle.mpx_board.specs.Boards.{IsBetween, join}
use Rattle.mpx_board.specs.Contexts.{look_of}
use Rattle.mpx_board.specs.Looks.{look, parts_of}
use Rattle.mpx_board.specs.Parts.{PartsView}
use Rattle.mpx_format.specs.Decoding.{IsSpelled}
use Rattle.mpx_wire.proofs.Taking.{left_alone}
use Rattle.mpx_wire.proofs.decoding.take_joined.Goals as goal

pub take_from-requires-clause-spelled : goal.take_from-requires-clause-spelled
take_from-requires-clause-spelled c = subst (λ (bytes : List ℕ). (v : PartsView) × IsSpelled bytes v) (sym (c.deref.ensures.value ∙ c.in-Ok.ensures)) c.requires.spelled

pub returns-in-Err-clause-err : goal.returns-in-Err-clause-err
returns-in-Err-clause-err c = λ v spelled. left_alone (parts_of c.args.board.now) v

pub returns-in-Ok-clause-ok : goal.returns-in-Ok-clause-ok
returns-in-Ok-clause-ok c =
    subst (λ (bytes : List ℕ). OnOk c.take_from.result ((v : PartsView) → IsSpelled bytes v → look c.take_from.new.board ≡ join (look c.args.board.now) (look_of v))) (c.deref.ensures.value ∙ c.in-Ok.ensures) c.take_from.ensures.ok

pub returns-in-Ok-clause-err : goal.returns-in-Ok-clause-err
returns-in-Ok-clause-err c =
    subst (λ (bytes : List ℕ). OnErr c.take_from.result ((v : PartsView) → IsSpelled bytes v → IsBetween (look c.args.board.now) (look_of v) (look c.take_from.new.board))) (c.deref.ensures.value ∙ c.in-Ok.ensures) c.take_from.ensures.err
