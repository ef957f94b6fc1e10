-- The two halves.
use Rattle.std.proofs.Common.{◌++◌, ◌/◌, ◌∙◌}
use Rattle.std.proofs.lemmas.List.{take-append-drop}
use Rattle.mpx_delta.proofs.Joining.{says_halves, says_itself}
use Rattle.mpx_delta.proofs.packing.+pack.Goals as goal

pub returns-then-len-le1 : goal.returns-then-len-le1
returns-then-len-le1 t c = says_itself c.args.limit c.args.boards.items

pub returns : goal.returns
returns t c =
    says_halves c.args.limit c.args.boards.items c.split_off.new.self.items c.in_ok-others.others.items c.in_ok-made.made.items c.in_ok-rest.rest.items c.add_behind.new.made.items
    ((λ i. c.in_ok-others.ensures.items i ++ c.in_ok-others.ensures.tail i) ∙ take-append-drop (c.len-half.result / 2) c.args.boards.items) c.in_ok-made.ensures c.in_ok-rest.ensures c.in_ok-add_behind.ensures
