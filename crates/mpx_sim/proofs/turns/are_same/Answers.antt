use Rattle.std.proofs.Common.{◌≡◌, ℕ, Some, inl, inr, map, ap, ◌∙◌, sym, arith}
use Rattle.std.specs.Prelude.{slice_get}
use Rattle.std.proofs.lemmas.Bool.{cases_eq}
use Rattle.std.proofs.lemmas.List.{length-map}
use Rattle.std.proofs.lemmas.Option.{same_Some, slice_get_within}
use Rattle.mpx_board.specs.Contexts.{look_of}
use Rattle.mpx_board.specs.Looks.{look, parts_of}
use Rattle.mpx_board.specs.Parts.{parts_equality}
use Rattle.mpx_post.proofs.Lists.{element}
use Rattle.mpx_system.proofs.Results.{mapped_at, some_at}
use Rattle.mpx_node.specs.Nodes.{NodeView}
use Rattle.mpx_sim.specs.Running.{ProcessView}
use Rattle.mpx_sim.specs.Shown.{process_of}
use Rattle.mpx_sim.proofs.turns.are_same.Goals as goal

pub loop-p-init : goal.loop-p-init
loop-p-init c q first other l at there =
    let zero : q ≡ 0 = omega (arith, l) in
    ap (λ (v : ProcessView). v.node.board) (same_Some other first (sym there ∙ ap (slice_get (map process_of c.args.processes.now)) zero ∙ at))

pub loop-p-preserved : goal.loop-p-preserved
loop-p-preserved c q first other l at there =
    let xs = c.args.processes.now in
    let mine : slice_get (map process_of xs) 0 ≡ Some (process_of c.index-processes-0.result) = element process_of xs 0 c.index-processes-0.result (omega arith) ∙ ap (λ x. Some (process_of x)) (sym c.index-processes-0.is) in
    let theirs : slice_get (map process_of xs) c.loop-p.p ≡ Some (process_of c.index-processes-p.result) = element process_of xs c.loop-p.p c.index-processes-p.result (omega arith) ∙ ap (λ x. Some (process_of x)) (sym c.index-processes-p.is) in
    elim (cases_eq q c.loop-p.p) [
      | inl same ↦
          let boards : look c.board-in-loop-p.result.now ≡ look c.board.result.now = ap look_of (sym (parts_equality.sound (parts_of c.board.result.now) (parts_of c.board-in-loop-p.result.now) (sym c.same.ensures ∙ c.if-not-same.false))) in
          ap (λ (v : ProcessView). v.node.board) (same_Some other (process_of c.index-processes-p.result) (sym there ∙ ap (slice_get (map process_of xs)) same ∙ theirs))
          ∙ sym c.board-in-loop-p.ensures ∙ boards ∙ c.board.ensures
          ∙ ap (λ (v : ProcessView). v.node.board) (same_Some (process_of c.index-processes-0.result) first (sym mine ∙ at))
      | inr before ↦ c.loop-p.invariant q first other (omega (arith, l, before)) at there
    ]

pub returns : goal.returns
returns c t p q a b at there =
    let xs = map process_of c.args.processes.now in
    let v = mapped_at (λ (x : ProcessView). x.node) xs p a at in
    let u = mapped_at (λ (x : ProcessView). x.node) xs q b there in
    let first = some_at xs 0 (omega (arith, slice_get_within xs p v.0 v.1)) in
    let same = λ (k : ℕ) (x : ProcessView) (e : slice_get xs k ≡ Some x). c.loop-p.invariant k first.0 x (omega (arith, slice_get_within xs k x e, length-map c.args.processes.now process_of, c.loop-p-test.false)) first.1 e in
    ap (λ (n : NodeView). n.board) (sym v.2) ∙ same p v.0 v.1 ∙ sym (same q u.0 u.1) ∙ ap (λ (n : NodeView). n.board) u.2
