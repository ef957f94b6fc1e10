use Rattle.std.proofs.Common.{◌≡◌, ◌∙◌, ap, sym, None, Some, OnOk, IfErr, subst, rules, List, map}
use Rattle.mpx_num.specs.declared.own.Operation.{Operation}
use Rattle.mpx_num.specs.Own.{operation_of}
use Rattle.std.specs.Prelude.{IfOk}
use Rattle.std.proofs.lemmas.Result.{IfOk-weaker}
use Rattle.mpx_script.specs.Meanings.{statement_in}
use Rattle.mpx_script.specs.laws.Parts.{parted_statement}
use Rattle.mpx_script.specs.Sentences.{IsLineRefusal, form_refusal, statement_refusal}
use Rattle.mpx_script.proofs.Refusals.{refusal_of_form, said_of_form}
use Rattle.mpx_script.proofs.script_line.statement_in.Goals as goal
use Rattle.mpx_script.proofs.script_line.statement_in.Goals.{After-statement_as}

refused_as : (g : _) (c : After-statement_as g) (ops : List Operation) → statement_refusal ops c.args.directive.now ≡ form_refusal ops c.in-Some.form c.args.directive.now.behind
refused_as g c ops = refusal_of_form ops c.args.directive.now c.in-Some.form (search rules) (search rules)

pub returns-clause-accepted : goal.returns-clause-accepted
returns-clause-accepted g c =
    let ops : List Operation = map (λ b. let o = goal.OwnOp-dyn g (b.vtable, b.value) in operation_of (o.word_bytes b.value) (o.fits_type b.value) (o.combination b.value)) c.args.ops.now.list.items in
    let accepted : OnOk c.statement_as.result (form_refusal ops c.in-Some.form c.args.directive.now.behind ≡ None) = search rules in
    subst (λ found. OnOk c.statement_as.result (found ≡ None)) (sym (refused_as g (goal.at.returns-clause-accepted g c).After-statement_as ops)) accepted

pub returns-clause-refused : goal.returns-clause-refused
returns-clause-refused g c =
    let ops : List Operation = map (λ b. let o = goal.OwnOp-dyn g (b.vtable, b.value) in operation_of (o.word_bytes b.value) (o.fits_type b.value) (o.combination b.value)) c.args.ops.now.list.items in
    let refused : IfErr c.statement_as.result (IsLineRefusal (form_refusal ops c.in-Some.form c.args.directive.now.behind)) = search rules in
    subst (λ found. IfErr c.statement_as.result (IsLineRefusal found)) (sym (refused_as g (goal.at.returns-clause-refused g c).After-statement_as ops)) refused

pub returns-clause-statement : goal.returns-clause-statement
returns-clause-statement g c =
    let ops : List Operation = map (λ b. let o = goal.OwnOp-dyn g (b.vtable, b.value) in operation_of (o.word_bytes b.value) (o.fits_type b.value) (o.combination b.value)) c.args.ops.now.list.items in
    let said : IfOk c.statement_as.result (λ statement. statement ≡ parted_statement ops c.in-Some.form c.args.directive.now.behind) = search rules in
    IfOk-weaker c.statement_as.result _ (λ statement. statement_in ops c.args.directive.now ≡ Some statement) (λ statement is. said_of_form ops c.args.directive.now c.in-Some.form (search rules) ∙ ap (λ s. Some s) (sym is)) said
