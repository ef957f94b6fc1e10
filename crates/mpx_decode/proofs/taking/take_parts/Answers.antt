use Rattle.std.proofs.Common.{◌++◌, ap, subst, sym, ◌∙◌}
use Rattle.std.proofs.lemmas.List.{append-nil}
use Rattle.mpx_board.specs.Looks.{parts_of}
use Rattle.mpx_board.specs.Parts.{parts_between}
use Rattle.mpx_board.specs.Tidy.{is_tidy}
use Rattle.mpx_format.specs.Contexts.{parts}
use Rattle.mpx_decode.specs.Raising.{StandsTidy, StopsBetween}
use Rattle.mpx_decode.proofs.NearBytes.{read_near}
use Rattle.mpx_decode.proofs.Taken.{if_err, if_ok}
use Rattle.mpx_decode.proofs.taking.take_parts.Goals as goal

pub take_apart-requires-clause-spelled : goal.take_apart-requires-clause-spelled
take_apart-requires-clause-spelled c =
    let all = ap (λ l. c.args.bytes.now ++ l) c.nothing.ensures ∙ append-nil c.args.bytes.now in
    subst (StandsTidy (parts c.args.version) is_tidy) (sym all) c.requires.spelled

pub returns-clause-ok : goal.returns-clause-ok
returns-clause-ok c =
    if_ok c.take_apart.result _ _ (λ x g. record {
      value = g.value;
      read = read_near (parts c.args.version) c.args.bytes.now c.nothing.result c.nothing.ensures c.take_apart.new.beyond c.take_apart.ensures.less g.value x.now g.read;
      joined = g.joined;
    }) c.take_apart.ensures.ok

pub returns-clause-err : goal.returns-clause-err
returns-clause-err c =
    let all = ap (λ l. c.args.bytes.now ++ l) c.nothing.ensures ∙ append-nil c.args.bytes.now in
    if_err c.take_apart.result (subst (λ b. StopsBetween (parts c.args.version) parts_between b (parts_of c.args.board.now) (parts_of c.take_apart.new.board)) all) c.take_apart.ensures.err
