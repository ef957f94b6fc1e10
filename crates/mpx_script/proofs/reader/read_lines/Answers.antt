use Rattle.std.proofs.Common.{◌≡◌, [], None, length, arith, rules, sym, refl, subst, ◌∙◌, List, map}
use Rattle.std.proofs.lemmas.List.{length-take, nil_from_length}
use Rattle.std.proofs.lemmas.Bool.{eqb-true}
use Rattle.mpx_num.specs.declared.own.Operation.{Operation}
use Rattle.mpx_num.specs.Own.{operation_of}
use Rattle.mpx_script.proofs.Progress.{Progress, progress_none, progress_more, progress_fault, progress_done, progress_some}
use Rattle.mpx_script.proofs.reader.read_lines.Goals as goal

pub loop-rest-init : goal.loop-rest-init
loop-rest-init g c =
    let ops : List Operation = map (λ b. let o = goal.OwnOp-dyn g (b.vtable, b.value) in operation_of (o.word_bytes b.value) (o.fits_type b.value) (o.combination b.value)) c.args.ops.now.list.items in
    record {
      progress = subst (λ rest. Progress ops c.args.text.now rest 0 (record { script = None; statements = 0 })) (sym c.seen_part-rest.ensures) (progress_none ops c.args.text.now (record { script = None; statements = 0 }) c.requires refl refl);
      few = omega arith;
      bound = rw (c.seen_part-rest.ensures, length-take) (omega arith);
    }

pub returns-in-Err : goal.returns-in-Err
returns-in-Err g c =
    let ops : List Operation = map (λ b. let o = goal.OwnOp-dyn g (b.vtable, b.value) in operation_of (o.word_bytes b.value) (o.fits_type b.value) (o.combination b.value)) c.args.ops.now.list.items in
    rw c.at_line.ensures (progress_fault ops c.args.text.now c.loop-rest.rest.now c.first_line.result.0.now c.first_line.result.1.now c.loop-rest.number c.loop-rest.partial c.passes_limit-cut.result c.in-Err.e c.requires c.loop-rest.invariant.progress c.first_line.ensures.lines c.passes_limit-cut.ensures c.in-Err.ensures.refused)

pub loop-rest-preserved : goal.loop-rest-preserved
loop-rest-preserved g c =
    let ops : List Operation = map (λ b. let o = goal.OwnOp-dyn g (b.vtable, b.value) in operation_of (o.word_bytes b.value) (o.fits_type b.value) (o.combination b.value)) c.args.ops.now.list.items in
    record {
      progress = progress_more ops c.args.text.now c.loop-rest.rest.now c.first_line.result.0.now c.first_line.result.1.now c.loop-rest.number c.loop-rest.partial c.in-Ok.partial c.passes_limit-cut.result c.requires c.loop-rest.invariant.progress c.first_line.ensures.lines c.passes_limit-cut.ensures c.in-Ok.ensures.accepted c.in-Ok.ensures.settled;
      few = search rules;
      bound = omega (arith, c.first_line.ensures.shorter, c.loop-rest.invariant.bound);
    }

pub unreachable-requires : goal.unreachable-requires
unreachable-requires g c =
    let ops : List Operation = map (λ b. let o = goal.OwnOp-dyn g (b.vtable, b.value) in operation_of (o.word_bytes b.value) (o.fits_type b.value) (o.combination b.value)) c.args.ops.now.list.items in
    let nothing : c.loop-rest.rest.now ≡ [] = nil_from_length c.loop-rest.rest.now (eqb-true (length c.loop-rest.rest.now) 0 (sym c.is_empty.ensures ∙ c.loop-rest-test.false)) in
    progress_some ops c.args.text.now c.loop-rest.number c.loop-rest.partial c.requires (subst (λ rest. Progress ops c.args.text.now rest c.loop-rest.number c.loop-rest.partial) nothing c.loop-rest.invariant.progress) c.in-None.is

pub returns : goal.returns
returns g c =
    let ops : List Operation = map (λ b. let o = goal.OwnOp-dyn g (b.vtable, b.value) in operation_of (o.word_bytes b.value) (o.fits_type b.value) (o.combination b.value)) c.args.ops.now.list.items in
    let nothing : c.loop-rest.rest.now ≡ [] = nil_from_length c.loop-rest.rest.now (eqb-true (length c.loop-rest.rest.now) 0 (sym c.is_empty.ensures ∙ c.loop-rest-test.false)) in
    progress_done ops c.args.text.now c.loop-rest.number c.loop-rest.partial c.in-Some.script (subst (λ rest. Progress ops c.args.text.now rest c.loop-rest.number c.loop-rest.partial) nothing c.loop-rest.invariant.progress) c.in-Some.is
