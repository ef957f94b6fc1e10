use Rattle.std.specs.Cmp.{nat_cmp_total}
use Rattle.std.specs.FinMap.{get}
use Rattle.mpx_name.specs.Order.{name_total}
use Rattle.mpx_board.specs.Looks.{parts_of}
use Rattle.mpx_board.specs.Parts.{PartsView, acks_laws, lifted_laws, parts_joining}
use Rattle.mpx_board.specs.Views.{view_of_all_acks, view_of_entries}
use Rattle.mpx_board.proofs.Looking.{look-join}
use Rattle.mpx_board.proofs.Preparing.{join_is_over, none_there}
use Rattle.mpx_board.proofs.Tidiness.{tidy_join}
use Rattle.mpx_board.proofs.board.Board.prepare.Goals as goal

pub returns-clause-ready : goal.returns-clause-ready
returns-clause-ready c =
    let a : PartsView = parts_of c.args.self.now in
    let b : PartsView = parts_of c.args.part.now in
    record {
      parts = parts_joining.join a b;
      contexts = join_is_over lifted_laws name_total a.0 b.0 (view_of_entries c.in_ok-contexts.contexts) (view_of_entries c.prepare_contexts.new.contexts) c.in_ok-contexts.ensures.same c.in_ok-contexts.ensures.made;
      acks = join_is_over acks_laws nat_cmp_total a.1 b.1 (view_of_all_acks c.in_ok-acks.acks) (view_of_all_acks c.prepare_acks.new.acks) c.in_ok-acks.ensures.same c.in_ok-acks.ensures.made;
      room_of_contexts = c.in_ok-contexts.ensures.room;
      room_of_acks = c.in_ok-acks.ensures.room;
      tidy = tidy_join a b c.args.self.now.tidy c.args.part.now.tidy;
      shows = look-join a b;
    }

pub returns-clause-named : goal.returns-clause-named
returns-clause-named c =
    let a : PartsView = parts_of c.args.self.now in
    let b : PartsView = parts_of c.args.part.now in
    record {
      contexts = λ name. none_there lifted_laws (get (view_of_entries c.in_ok-contexts.contexts) name) (get b.0 name) (get a.0 name) (c.in_ok-contexts.ensures.made name);
      acks = λ process. none_there acks_laws (get (view_of_all_acks c.in_ok-acks.acks) process) (get b.1 process) (get a.1 process) (c.in_ok-acks.ensures.made process);
    }
