use Rattle.std.proofs.Common.{◌≡◌, ◌<◌, length, sym, ap, ◌∙◌, subst, arith}
use Rattle.std.specs.FinMap.{entries}
use Rattle.std.specs.List.{list_all}
use Rattle.join_core.specs.laws.Cases.{second_true}
use Rattle.join_nest.specs.Seen.{seen}
use Rattle.join_nest.proofs.Steps.{length_seen}
use Rattle.mpx_board.specs.Looks.{parts_of}
use Rattle.mpx_board.specs.Tidy.{are_tidy_acks, are_tidy_entries, is_tidy_acks}
use Rattle.mpx_board.specs.Views.{view_of_acks}
use Rattle.mpx_format.specs.Kept.{AreKept}
use Rattle.mpx_encode.proofs.Keeping.{kept_anew, kept_of}
use Rattle.mpx_encode.proofs.Loops.{holds_at, seen_at}
use Rattle.mpx_encode.proofs.write_kept.keep.Goals.{then-len-ge-FEWEST_KEPT+in_ok-keep_acks, else-len-ge-FEWEST_KEPT}
use Rattle.mpx_encode.proofs.write_kept.keep.Goals as goal

pub keep_acks-requires-clause-tidy : goal.keep_acks-requires-clause-tidy
keep_acks-requires-clause-tidy c =
    let v = parts_of c.args.board.now in
    let es = c.entries-entry-items.result.now in
    let i = c.loop-entry.entry-index in
    let e = c.entry-item.result in
    let are : seen view_of_acks es ≡ entries v.1 = c.entries-entry-items.ensures.entries ∙ ap (λ p. entries p.1) c.pair.ensures.value in
    let lt : i < length (seen view_of_acks es) = omega (arith, length_seen view_of_acks es, c.loop-entry-test.true) in
    holds_at (λ x. is_tidy_acks x.1) (seen view_of_acks es) i (e.0, view_of_acks e.1) lt (seen_at view_of_acks es i e c.loop-entry-test.true c.entry-item.is)
    (ap (list_all (λ x. is_tidy_acks x.1)) are ∙ second_true (are_tidy_entries v.0) (are_tidy_acks v.1) c.pair.ensures.tidy)

pub keep_acks-requires-clause-kept : goal.keep_acks-requires-clause-kept
keep_acks-requires-clause-kept c =
    let v = parts_of c.args.board.now in
    let es = c.entries-entry-items.result.now in
    let i = c.loop-entry.entry-index in
    let e = c.entry-item.result in
    let are : seen view_of_acks es ≡ entries v.1 = c.entries-entry-items.ensures.entries ∙ ap (λ p. entries p.1) c.pair.ensures.value in
    kept_of view_of_acks v.1 es i e are c.loop-entry-test.true c.entry-item.is c.loop-entry.kept.of.items c.loop-entry.invariant

pub returns-in_err-keep_acks : goal.returns-in_err-keep_acks
returns-in_err-keep_acks c =
    let v = parts_of c.args.board.now in
    let es = c.entries-entry-items.result.now in
    let i = c.loop-entry.entry-index in
    let e = c.entry-item.result in
    let are : seen view_of_acks es ≡ entries v.1 = c.entries-entry-items.ensures.entries ∙ ap (λ p. entries p.1) c.pair.ensures.value in
    kept_anew view_of_acks v.1 es i e are c.loop-entry-test.true c.entry-item.is c.loop-entry.kept.of.items c.keep_acks.new.kept.of.items c.keep_acks.ensures.kept c.keep_acks.ensures.others c.loop-entry.invariant

pub loop-entry-preserved : goal.loop-entry-preserved
loop-entry-preserved c =
    let v = parts_of c.args.board.now in
    let es = c.entries-entry-items.result.now in
    let i = c.loop-entry.entry-index in
    let e = c.entry-item.result in
    let are : seen view_of_acks es ≡ entries v.1 = c.entries-entry-items.ensures.entries ∙ ap (λ p. entries p.1) c.pair.ensures.value in
    elim c.if-len-ge-FEWEST_KEPT.branch [
      | then-len-ge-FEWEST_KEPT+in_ok-keep_acks w ↦
          let made = kept_anew view_of_acks v.1 es i e are c.loop-entry-test.true c.entry-item.is c.loop-entry.kept.of.items w.keep_acks.new.kept.of.items w.keep_acks.ensures.kept w.keep_acks.ensures.others c.loop-entry.invariant in
          subst (λ k. AreKept k.of.items v.1) (sym w.kept-is) made
      | else-len-ge-FEWEST_KEPT w ↦ subst (λ k. AreKept k.of.items v.1) (sym w.kept-is) c.loop-entry.invariant
    ]
