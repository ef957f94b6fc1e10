use Rattle.std.proofs.Common.{◌<◌, ◌≤◌, ◌+◌, List, map, set, get_or, subst, arith}
use Rattle.std.specs.Prelude.{◌||◌, IsTrue}
use Rattle.mpx_num.specs.declared.own.Operation.{Operation}
use Rattle.mpx_num.specs.Own.{operation_of}
use Rattle.mpx_eval.specs.Places.{TableRank}
use Rattle.mpx_eval.specs.Rounds.{Round, all_left}
use Rattle.mpx_eval.specs.Carrying.{shown}
use Rattle.mpx_eval.specs.Tables.{table_of}
use Rattle.mpx_eval.proofs.Carried.{goes_is, goes_left}
use Rattle.mpx_eval.proofs.Going.{left_le, left_lt, less_more, round_more}
use Rattle.mpx_post.proofs.Lists.{element, written}
use Rattle.mpx_eval.proofs.rounds.round.Goals as goal

pub loop-p-preserved : goal.loop-p-preserved
loop-p-preserved g c =
    let ops : List Operation = map (λ b. let o = goal.OwnOp-dyn g (b.vtable, b.value) in operation_of (o.word_bytes b.value) (o.fits_type b.value) (o.combination b.value)) c.args.ops.now.list.items in
    let xs = c.loop-p.ranks in
    let p = c.loop-p.p in
    let old = shown (get_or xs p c.index-ranks-p.result) in
    let new = shown c.go_on.new.self in
    let goes = c.in_ok-moved.ensures.goes in
    let left = goes_left ops old c.loop-p.table new c.go_on.new.carrier c.in_ok-moved.moved goes in
    let at = element shown xs p c.index-ranks-p.result (omega arith) in
    let all = map shown (set xs p c.go_on.new.self) in
    let no_more : all_left all ≤ all_left (map shown xs) = subst (λ (rs : List TableRank). all_left rs ≤ all_left (map shown xs)) (written shown xs p c.go_on.new.self) (left_le (map shown xs) p old new at left.0) in
    let less : IsTrue c.in_ok-moved.moved → all_left all < all_left (map shown xs) = λ e. subst (λ (rs : List TableRank). all_left rs < all_left (map shown xs)) (written shown xs p c.go_on.new.self) (left_lt (map shown xs) p old new at (left.1 e)) in
    record {
      goes = subst (λ (rs : List TableRank). Round ops (map shown c.args.ranks.now) (table_of c.args.table.now) rs (table_of c.go_on.new.carrier) (c.loop-p.changed || c.in_ok-moved.moved) (p + 1)) (written shown xs p c.go_on.new.self)
          (round_more ops (map shown c.args.ranks.now) (table_of c.args.table.now) (map shown xs) (table_of c.loop-p.table) c.loop-p.changed c.in_ok-moved.moved p old new (table_of c.go_on.new.carrier) at c.loop-p.invariant.goes (goes_is ops old c.loop-p.table new c.go_on.new.carrier c.in_ok-moved.moved goes));
      less = less_more c.loop-p.changed c.in_ok-moved.moved (all_left (map shown c.args.ranks.now)) (all_left (map shown xs)) (all_left all) c.loop-p.invariant.no_more c.loop-p.invariant.less no_more less;
      no_more = omega (arith, c.loop-p.invariant.no_more, no_more);
    }

pub returns-clause-goes : goal.returns-clause-goes
returns-clause-goes g c = λ script ranks s reached are.
    let x = c.loop-p.invariant.goes script ranks s reached are in
    (x.0, λ e p l. x.1 e p (omega (arith, l)))

pub go_on-requires : goal.go_on-requires
go_on-requires g c = λ s d moved ran posting rest waits todo. tt
