use Rattle.std.proofs.Common.{◌≡◌, ◌<◌, ◌∙◌, ℕ, Some, true, ap, arith, inl, inr, sym}
use Rattle.std.specs.Prelude.{slice_get}
use Rattle.std.proofs.lemmas.Bool.{cases_eq}
use Rattle.std.proofs.lemmas.Option.{same_Some, slice_get_within}
use Rattle.mpx_board.specs.Contexts.{look_of}
use Rattle.mpx_board.specs.Looks.{look, parts_of}
use Rattle.mpx_board.specs.Parts.{parts_equality, same_parts}
use Rattle.mpx_board.proofs.Order.{same_look}
use Rattle.mpx_bus.specs.Ports.{node_in}
use Rattle.mpx_system.proofs.Results.{some_at}
use Rattle.mpx_threads.specs.declared.worker.Worked.{Worked}
use Rattle.mpx_threads.proofs.Jobs.{read_at}
use Rattle.mpx_threads.proofs.rest.have_one_board.Goals as goal

pub loop-p-preserved : goal.loop-p-preserved
loop-p-preserved c q first other l at there =
    let xs = c.args.worked.now in
    let mine : slice_get xs 0 ≡ Some c.index-worked-0.result = read_at xs 0 c.index-worked-0.result (omega arith) c.index-worked-0.is in
    let theirs : slice_get xs c.loop-p.p ≡ Some c.index-worked-p.result = read_at xs c.loop-p.p c.index-worked-p.result (omega arith) c.index-worked-p.is in
    elim (cases_eq q c.loop-p.p) [
      | inl same ↦
          let boards : look c.board_of-in-loop-p.result.now ≡ look c.board_of.result.now = ap look_of (sym (parts_equality.sound (parts_of c.board_of.result.now) (parts_of c.board_of-in-loop-p.result.now) (sym c.same.ensures ∙ c.if-not-same.false))) in
          ap (λ (w : Worked). (node_in w.port).board) (same_Some other c.index-worked-p.result (sym there ∙ ap (slice_get xs) same ∙ theirs))
          ∙ sym c.board_of-in-loop-p.ensures ∙ boards ∙ c.board_of.ensures
          ∙ ap (λ (w : Worked). (node_in w.port).board) (same_Some c.index-worked-0.result first (sym mine ∙ at))
      | inr before ↦ c.loop-p.invariant q first other (omega (arith, l, before)) at there
    ]

pub returns-then-not-same-clause-no : goal.returns-then-not-same-clause-no
returns-then-not-same-clause-no c t common =
    let xs = c.args.worked.now in
    let mine : slice_get xs 0 ≡ Some c.index-worked-0.result = read_at xs 0 c.index-worked-0.result (omega arith) c.index-worked-0.is in
    let theirs : slice_get xs c.loop-p.p ≡ Some c.index-worked-p.result = read_at xs c.loop-p.p c.index-worked-p.result (omega arith) c.index-worked-p.is in
    let first = c.board_of.result.now in
    let other = c.board_of-in-loop-p.result.now in
    let looks : look other ≡ look first = c.board_of-in-loop-p.ensures ∙ common 0 c.loop-p.p c.index-worked-0.result c.index-worked-p.result (omega (arith, c.loop-p-test.true)) c.loop-p-test.true mine theirs ∙ sym c.board_of.ensures in
    let parts : parts_of other ≡ parts_of first = same_look (parts_of other) (parts_of first) other.tidy first.tidy looks in
    let same : same_parts (parts_of first) (parts_of other) ≡ true = ap (same_parts (parts_of first)) parts ∙ parts_equality.reflexive (parts_of first) in
    cc (same, c.same.ensures, c.if-not-same.true)

pub returns-clause-yes : goal.returns-clause-yes
returns-clause-yes c t p q w v l m at there =
    let xs = c.args.worked.now in
    let first = some_at xs 0 (omega (arith, slice_get_within xs p w at)) in
    let same = λ (k : ℕ) (x : Worked) (less : k < c.args.ranks) (e : slice_get xs k ≡ Some x). c.loop-p.invariant k first.0 x (omega (arith, less, c.loop-p-test.false)) first.1 e in
    same q v m there ∙ sym (same p w l at)
