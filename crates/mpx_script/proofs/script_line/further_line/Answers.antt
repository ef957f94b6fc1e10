use Rattle.std.proofs.Common.{◌≡◌, ◌≤◌, ◌<◌, ◌+◌, ◌-◌, ◌&&◌, ℕ, false, IfErr, subst, nat_le, nat_lt, map, None, Some, sym, ap, ◌∙◌, arith, rules, List}
use Rattle.std.proofs.lemmas.Bool.Decides.{nat_tests}
use Rattle.std.proofs.lemmas.Result.{IfOk-weaker, on_ok_weaker}
use Rattle.std.specs.List.{range_with_len}
use Rattle.mpx_num.specs.declared.own.Operation.{Operation}
use Rattle.mpx_num.specs.Own.{operation_of}
use Rattle.mpx_script.specs.Syntax.{DirectiveSyntax, directive_in, label_in, ranks_meant, statements_in}
use Rattle.mpx_script.specs.Refusals.{is_past}
use Rattle.mpx_script.specs.Meanings.{is_meant, names_rank, statement_in}
use Rattle.mpx_script.specs.Naming.{names_bound, ranks_labelled}
use Rattle.mpx_script.specs.Reading.{refusal, plain_context, statements_limit}
use Rattle.mpx_script.specs.Words.{words}
use Rattle.mpx_script.specs.Sentences.{IsAssignment, IsLineRefusal, names_refusal, statement_refusal}
use Rattle.mpx_script.specs.declared.script_line.Assignment.{Assignment}
use Rattle.mpx_script.proofs.Refusals.{count_of_statement, names_asked, refusal_of_label, refusal_of_names, refusal_of_statement}
use Rattle.mpx_script.proofs.script_line.further_line.Goals as goal
use Rattle.mpx_script.proofs.script_line.further_line.Goals.{After-assigned, After-ranks_labelled}

few_statements : (g : _) (c : After-ranks_labelled g) → nat_lt statements_limit (c.args.statements + statements_in c.args.script.now.ranks (directive_in (words c.args.line.now))) ≡ false
few_statements g c =
    let count : c.statements.result ≡ statements_in c.args.script.now.ranks (directive_in (words c.args.line.now)) =
    c.statements.ensures ∙ ap (λ n. statements_in n c.directive_in-directive.result) c.ranks-ranks.ensures.ranks ∙ ap (statements_in c.args.script.now.ranks) c.directive_in-directive.ensures in
    rw (← count) (grind (arith, nat_tests))

pub returns-in-Err-clause-refused : goal.returns-in-Err-clause-refused
returns-in-Err-clause-refused g c = refusal_of_label _ c.args.line.now c.args.script.now.ranks c.args.statements (map names_bound c.args.script.now.statements) c.requires.ascii c.requires.counts (few_statements g (goal.at.returns-in-Err-clause-refused g c).After-ranks_labelled) c.in-Err.e (search rules)

pub returns-in-Err-statement_in-clause-refused : goal.returns-in-Err-statement_in-clause-refused
returns-in-Err-statement_in-clause-refused g c =
    let ops : List Operation = map (λ b. let o = goal.OwnOp-dyn g (b.vtable, b.value) in operation_of (o.word_bytes b.value) (o.fits_type b.value) (o.combination b.value)) c.args.ops.now.list.items in
    let refused : IsLineRefusal (statement_refusal ops (directive_in (words c.args.line.now))) c.in-Err-statement_in.e = search rules in
    refusal_of_statement ops c.args.line.now c.args.script.now.ranks c.args.statements (map names_bound c.args.script.now.statements) c.requires.ascii c.requires.counts (few_statements g (goal.at.returns-in-Err-statement_in-clause-refused g c).After-ranks_labelled) (search rules) c.in-Err-statement_in.e refused

-- the line is refused for its names, where its statement isn't
names_found : (g : _) (c : After-assigned g) (ops : List Operation) → statement_refusal ops (directive_in (words c.args.line.now)) ≡ None → statement_in ops (directive_in (words c.args.line.now)) ≡ Some c.in-Ok-statement_in.statement → nat_lt statements_limit (c.args.statements + statements_in c.args.script.now.ranks (directive_in (words c.args.line.now))) ≡ false → refusal ops (plain_context c.args.line.now (Some c.args.script.now.ranks) c.args.statements (map names_bound c.args.script.now.statements)) ≡ names_refusal (map names_bound c.args.script.now.statements) (range_with_len c.in-Ok.named.0 (c.in-Ok.named.1 - c.in-Ok.named.0)) c.in-Ok-statement_in.statement
names_found g c ops fine said few =
    let p : DirectiveSyntax = directive_in (words c.args.line.now) in
    let n : ℕ = c.args.script.now.ranks in
    let there : is_past n (label_in p) ≡ false = search rules in
    let labelled : ranks_labelled n (label_in p) ≡ range_with_len c.in-Ok.named.0 (c.in-Ok.named.1 - c.in-Ok.named.0) = search rules in
    refusal_of_names ops c.args.line.now n c.args.statements (map names_bound c.args.script.now.statements) c.requires.ascii c.requires.counts few there fine
    ∙ names_asked ops p c.in-Ok-statement_in.statement n (map names_bound c.args.script.now.statements) (range_with_len c.in-Ok.named.0 (c.in-Ok.named.1 - c.in-Ok.named.0)) said labelled

pub returns-clause-refused : goal.returns-clause-refused
returns-clause-refused g c =
    let ops : List Operation = map (λ b. let o = goal.OwnOp-dyn g (b.vtable, b.value) in operation_of (o.word_bytes b.value) (o.fits_type b.value) (o.combination b.value)) c.args.ops.now.list.items in
    let fine : statement_refusal ops (directive_in (words c.args.line.now)) ≡ None = search rules in
    let said : statement_in ops (directive_in (words c.args.line.now)) ≡ Some c.in-Ok-statement_in.statement = search rules in
    subst (λ found. IfErr c.assigned.result (IsLineRefusal found)) (sym (names_found g (goal.at.returns-clause-refused g c).After-assigned ops fine said (few_statements g (goal.at.returns-clause-refused g c).After-ranks_labelled))) c.assigned.ensures.refused

pub returns-clause-accepted : goal.returns-clause-accepted
returns-clause-accepted g c =
    let ops : List Operation = map (λ b. let o = goal.OwnOp-dyn g (b.vtable, b.value) in operation_of (o.word_bytes b.value) (o.fits_type b.value) (o.combination b.value)) c.args.ops.now.list.items in
    let fine : statement_refusal ops (directive_in (words c.args.line.now)) ≡ None = search rules in
    let said : statement_in ops (directive_in (words c.args.line.now)) ≡ Some c.in-Ok-statement_in.statement = search rules in
    on_ok_weaker c.assigned.result (λ none. names_found g (goal.at.returns-clause-accepted g c).After-assigned ops fine said (few_statements g (goal.at.returns-clause-accepted g c).After-ranks_labelled) ∙ none) c.assigned.ensures.accepted

pub returns-clause-assignment : goal.returns-clause-assignment
unfolding names_rank
returns-clause-assignment g c =
    let ops : List Operation = map (λ b. let o = goal.OwnOp-dyn g (b.vtable, b.value) in operation_of (o.word_bytes b.value) (o.fits_type b.value) (o.combination b.value)) c.args.ops.now.list.items in
    let n : ℕ = c.args.script.now.ranks in
    let p : DirectiveSyntax = directive_in (words c.args.line.now) in
    let said : statement_in ops p ≡ Some c.in-Ok-statement_in.statement = search rules in
    let some : c.in-Ok.named.0 < c.in-Ok.named.1 = search rules in
    let within : c.in-Ok.named.1 ≤ n = search rules in
    let meant : (rank : ℕ) → rank < n → is_meant rank (label_in p) ≡ (nat_le c.in-Ok.named.0 rank && nat_lt rank c.in-Ok.named.1) = λ rank h. search rules in
    let count : ranks_meant n (label_in p) ≡ c.in-Ok.named.1 - c.in-Ok.named.0 = search rules in
    IfOk-weaker c.assigned.result _ (IsAssignment ops n p) (λ assignment is. subst (IsAssignment ops n p) (sym is) (record { some = some; within = within; named = meant; count = count_of_statement ops n p c.in-Ok-statement_in.statement said ∙ count; statement = said })) c.assigned.ensures.assignment

pub returns-clause-few : goal.returns-clause-few
returns-clause-few g c = IfOk-weaker c.assigned.result _ _ (λ assignment is. subst (λ (a : Assignment). c.args.statements + (a.to - a.from) ≤ statements_limit) (sym is) (search (rules, count_of_statement))) c.assigned.ensures.assignment
