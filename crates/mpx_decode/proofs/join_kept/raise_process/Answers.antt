use Rattle.std.proofs.Common.{◌≡◌, ◌==◌, ◌<◌, ℕ, false, length, ap, sym, subst, arith, ◌++◌}
use Rattle.std.specs.Ordering.{nat_cmp}
use Rattle.std.specs.Cmp.{nat_cmp_total}
use Rattle.std.specs.FinMap.{entries, nat_cmp-IsAntisymmetric}
use Rattle.join_nest.proofs.Fronts.{on_err}
use Rattle.join_nest.proofs.JoinsIn.{same_place}
use Rattle.join_nest.specs.Seen.{keyed_view}
use Rattle.mpx_board.specs.Parts.{acks_between_laws, acks_joining, acks_laws}
use Rattle.mpx_board.specs.Views.{view_of_acks}
use Rattle.mpx_format.specs.Fields.{acks, process}
use Rattle.mpx_format.specs.Kept.{ArePieces, pieces_of}
use Rattle.mpx_format.proofs.Pieces.{nothing_kept}
use Rattle.mpx_decode.proofs.KeptRows.{kept_now, kept_there}
use Rattle.mpx_decode.proofs.OneRow.{raises_at, sorted_at, stops_at, value_stands}
use Rattle.mpx_decode.proofs.join_kept.raise_process.Goals as goal

pub raise_one-requires-clause-spelled : goal.raise_one-requires-clause-spelled
raise_one-requires-clause-spelled c = value_stands process acks (c.args.bytes.now ++ c.args.beyond.now) c.index.result.now.0 (c.in-Some.after.now ++ c.args.beyond.now) (c.in-Some.ensures c.args.beyond.now) c.requires.spelled

pub raise_one-requires-clause-kept : goal.raise_one-requires-clause-kept
raise_one-requires-clause-kept c =
    let es = c.args.entries.now.items in
    let lt : c.args.next < length es = omega arith in
    let e = c.index_mut.result.now in
    let key = ap (λ x. x.0) (same_place es c.args.next e c.index-in-Some.result.now lt c.index_mut.ensures.value c.index-in-Some.ensures) in
    subst (λ p. ArePieces (pieces_of c.args.kept.now.of.items p) (entries (view_of_acks e.1))) key (kept_there view_of_acks es c.requires.rising c.args.next e lt c.index_mut.ensures.value c.args.kept.now.of.items c.requires.kept)

pub returns-in_err-rest-clause-err : goal.returns-in_err-rest-clause-err
returns-in_err-rest-clause-err c =
    let lt : c.args.next < length c.args.entries.now.items = omega arith in
    let there = same_place c.args.entries.now.items c.args.next c.index_mut.result.now c.index.result.now lt c.index_mut.ensures.value c.index.ensures in
    on_err c.from_residual.result (stops_at nat_cmp_total nat_cmp-IsAntisymmetric view_of_acks process acks (c.args.bytes.now ++ c.args.beyond.now) c.index.result.now.0 (c.in-Some.after.now ++ c.args.beyond.now) (c.in-Some.ensures c.args.beyond.now) c.args.entries.now.items c.requires.rising
    c.args.next c.index_mut.result.now c.raise_one.new.said lt c.index_mut.ensures.value (ap (λ e. e.0) there) acks_laws acks_between_laws c.in_err-rest.ensures.err)

pub returns-in_err-rest-clause-rising : goal.returns-in_err-rest-clause-rising
returns-in_err-rest-clause-rising c =
    sorted_at nat_cmp_total nat_cmp-IsAntisymmetric view_of_acks c.args.entries.now.items c.requires.rising c.args.next c.index_mut.result.now c.raise_one.new.said (omega arith) c.index_mut.ensures.value

pub returns-in_err-rest-clause-kept : goal.returns-in_err-rest-clause-kept
returns-in_err-rest-clause-kept c =
    let es = c.args.entries.now.items in
    let lt : c.args.next < length es = omega arith in
    let e = c.index_mut.result.now in
    let key = ap (λ x. x.0) (same_place es c.args.next e c.index-in-Some.result.now lt c.index_mut.ensures.value c.index-in-Some.ensures) in
    let says = c.raise_one.new.said in
    let k = c.args.kept.now.of.items in
    let l = c.raise_one.new.kept.of.items in
    kept_now view_of_acks es c.requires.rising c.args.next e lt c.index_mut.ensures.value says k l c.requires.kept
    (subst (λ p. ArePieces (pieces_of l p) (entries (view_of_acks says))) (sym key) c.raise_one.ensures.kept)
    (subst (λ x. (p : ℕ) → (p == x) ≡ false → pieces_of l p ≡ pieces_of k p) (sym key) c.raise_one.ensures.others)

pub returns-in-Some-clause-ok : goal.returns-in-Some-clause-ok
returns-in-Some-clause-ok c =
    let lt : c.args.next < length c.args.entries.now.items = omega arith in
    let there = same_place c.args.entries.now.items c.args.next c.index_mut.result.now c.index.result.now lt c.index_mut.ensures.value c.index.ensures in
    raises_at nat_cmp_total nat_cmp-IsAntisymmetric view_of_acks process acks (c.args.bytes.now ++ c.args.beyond.now) c.index.result.now.0 (c.in-Some.after.now ++ c.args.beyond.now) (c.in-Some.ensures c.args.beyond.now) c.args.entries.now.items c.requires.rising
    c.args.next c.index_mut.result.now c.raise_one.new.said lt c.index_mut.ensures.value (ap (λ e. e.0) there) acks_joining (c.in_ok-rest.rest.now ++ c.raise_one.new.beyond) c.in_ok-rest.ensures.ok

pub returns-in-Some-clause-rising : goal.returns-in-Some-clause-rising
returns-in-Some-clause-rising c =
    sorted_at nat_cmp_total nat_cmp-IsAntisymmetric view_of_acks c.args.entries.now.items c.requires.rising c.args.next c.index_mut.result.now c.raise_one.new.said (omega arith) c.index_mut.ensures.value

pub returns-in-Some-clause-kept : goal.returns-in-Some-clause-kept
returns-in-Some-clause-kept c =
    let es = c.args.entries.now.items in
    let lt : c.args.next < length es = omega arith in
    let e = c.index_mut.result.now in
    let key = ap (λ x. x.0) (same_place es c.args.next e c.index-in-Some.result.now lt c.index_mut.ensures.value c.index-in-Some.ensures) in
    let says = c.raise_one.new.said in
    let k = c.args.kept.now.of.items in
    let l = c.raise_one.new.kept.of.items in
    kept_now view_of_acks es c.requires.rising c.args.next e lt c.index_mut.ensures.value says k l c.requires.kept
    (subst (λ p. ArePieces (pieces_of l p) (entries (view_of_acks says))) (sym key) c.raise_one.ensures.kept)
    (subst (λ x. (p : ℕ) → (p == x) ≡ false → pieces_of l p ≡ pieces_of k p) (sym key) c.raise_one.ensures.others)

pub returns-clause-kept : goal.returns-clause-kept
returns-clause-kept c = nothing_kept c.forget_all.new.self.of.items (keyed_view nat_cmp view_of_acks c.raise_placed.new.entries.items) c.forget_all.ensures
